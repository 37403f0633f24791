use Rattle.std.proofs.Common.{◌≡◌, drop, nat_eq}
use Rattle.std.specs.Cmp.Lexicographic.{pointwise}
use Rattle.sh_base.specs.Cells.{bits_of}
use Rattle.sh_ir.specs.Agreement.{cell_bits}
use Rattle.sh_ir.specs.Typing.{operand_types}
use Rattle.sh_verify.proofs.regions.has_widths.Given as goal

-- the arguments to come decide
abbrev pub invariant-loop-at : goal.invariant-loop-at
invariant-loop-at l =
    pointwise (λ w t. nat_eq (bits_of w) (cell_bits t)) (drop l.at l.widths) (drop l.at (operand_types l.x))
    ≡ pointwise (λ w t. nat_eq (bits_of w) (cell_bits t)) l.widths (operand_types l.x)
