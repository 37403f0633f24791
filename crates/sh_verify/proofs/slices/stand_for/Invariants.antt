use Rattle.std.proofs.Common.{◌≡◌, drop}
use Rattle.std.specs.Cmp.Lexicographic.{pointwise}
use Rattle.sh_ir.specs.Agreement.{dims_agree}
use Rattle.sh_ir.specs.Results.{dims_at, product_dim}
use Rattle.sh_verify.proofs.slices.stand_for.Given as goal

-- the dimensions to come decide
abbrev pub invariant-loop-at : goal.invariant-loop-at
invariant-loop-at l =
    pointwise (λ e group. dims_agree e (product_dim (dims_at l.many group))) (drop l.at l.few) (drop l.at l.groups)
    ≡ pointwise (λ e group. dims_agree e (product_dim (dims_at l.many group))) l.few l.groups
