use Rattle.std.proofs.Common.{◌≡◌, Some, map, take}
use Rattle.sh_turns.specs.Program.{all_there}
use Rattle.sh_pieces.specs.Runs.{argument_under}
use Rattle.sh_pieces_demo.proofs.values_of.Given as goal

abbrev pub invariant-loop-name : goal.invariant-loop-name
invariant-loop-name l = all_there (map (argument_under l.names l.values) (take l.name-index l.wanted)) ≡ Some l.found.items
