use Rattle.std.proofs.Common.{◌≡◌, map, take}
use Rattle.sh_build.specs.Meaning.{cell_width}
use Rattle.sh_build.proofs.regions.argument_widths.Given as goal

abbrev pub invariant-loop-arg : goal.invariant-loop-arg
invariant-loop-arg l = l.widths.items ≡ map (λ arg. cell_width arg.value_type) (take l.arg-index l.arg-items)
