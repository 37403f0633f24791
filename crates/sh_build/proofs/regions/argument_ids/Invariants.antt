use Rattle.std.proofs.Common.{◌≡◌, map, take}
use Rattle.sh_build.proofs.regions.argument_ids.Given as goal

abbrev pub invariant-loop-arg : goal.invariant-loop-arg
invariant-loop-arg l = l.ids.items ≡ map (λ arg. arg.id) (take l.arg-index l.arg-items)
