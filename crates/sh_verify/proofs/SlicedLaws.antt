-- The extents of a slice, dimension by dimension.
use Rattle.std.proofs.Common.{zero, suc, ◌≡◌, ◌≢◌, ◌∙◌, ℕ, ◌≤◌, min, List, [], ◌∷◌, length, drop, Bool, true, false, ℤ, ap, refl, arith}
use Rattle.std.specs.Prelude.{◌&&◌}
use Rattle.sh_ir.specs.declared.types.Dim.{Dim}
use Rattle.sh_ir.specs.Agreement.{dims_agree, shapes_agree}
use Rattle.sh_ir.specs.Attributes.{sliced_dim, sliced_dims}

never : (b : Bool) → (b && false) ≡ false
never true = refl
never false = refl

-- as many extents as sizes and dimensions, or none agree
pub sliced_short : (zs : List ℤ) (ds ps : List Dim) → min (length zs) (length ds) ≢ length ps
    → shapes_agree (sliced_dims zs ds) ps ≡ false
sliced_short [] ds [] ne = absurd (ne (omega arith))
sliced_short [] ds (p ∷ ps) ne = refl
sliced_short (z ∷ zs) [] [] ne = absurd (ne (omega arith))
sliced_short (z ∷ zs) [] (p ∷ ps) ne = refl
sliced_short (z ∷ zs) (d ∷ ds) [] ne = refl
sliced_short (z ∷ zs) (d ∷ ds) (p ∷ ps) ne =
    ap (λ b. dims_agree (sliced_dim z d) p && b) (sliced_short zs ds ps (λ e. ne (omega arith)))
    ∙ never (dims_agree (sliced_dim z d) p)

none_sliced : (zs : List ℤ) → sliced_dims zs [] ≡ []
none_sliced [] = refl
none_sliced (z ∷ zs) = refl

-- behind the last dimension there is nothing that differs
pub sliced_done : (n : ℕ) (zs : List ℤ) (ds ps : List Dim) → min (length zs) (length ds) ≡ length ps
    → length ps ≤ n → shapes_agree (sliced_dims (drop n zs) (drop n ds)) (drop n ps) ≡ true
sliced_done zero zs ds (p ∷ ps) e all = absurd (omega arith)
sliced_done zero [] ds [] e all = refl
sliced_done zero (z ∷ zs) [] [] e all = refl
sliced_done zero (z ∷ zs) (d ∷ ds) [] e all = absurd (omega arith)
sliced_done (suc n) [] ds [] e all = refl
sliced_done (suc n) [] ds (p ∷ ps) e all = absurd (omega arith)
sliced_done (suc n) (z ∷ zs) [] [] e all = ap (λ ds. shapes_agree ds []) (none_sliced (drop n zs))
sliced_done (suc n) (z ∷ zs) [] (p ∷ ps) e all = absurd (omega arith)
sliced_done (suc n) (z ∷ zs) (d ∷ ds) [] e all = absurd (omega arith)
sliced_done (suc n) (z ∷ zs) (d ∷ ds) (p ∷ ps) e all = sliced_done n zs ds ps (omega arith) (omega arith)
