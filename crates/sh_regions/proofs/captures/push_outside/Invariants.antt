use Rattle.std.proofs.Common.{◌≡◌, ◌++◌, take}
use Rattle.sh_ir.specs.Regions.{outside}
use Rattle.sh_regions.proofs.captures.push_outside.Given as goal

abbrev pub invariant-loop-name : goal.invariant-loop-name
invariant-loop-name l = l.uses.items ≡ l.fn.uses.items ++ outside l.fn.own.keys (take l.name-index l.names)
