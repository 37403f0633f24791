use Rattle.std.proofs.Common.{◌≡◌, ◌+◌, map, take}
use Rattle.sh_pieces_demo.proofs.shifted_all.Given as goal

abbrev pub invariant-loop-name : goal.invariant-loop-name
invariant-loop-name l = l.all.items ≡ map (λ name. name + l.offset) (take l.name-index l.names)
