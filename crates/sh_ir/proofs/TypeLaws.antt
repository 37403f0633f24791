-- Each type is the same as itself, and agrees with itself.
use Rattle.std.proofs.Common.{◌≡◌, ℕ, Bool, true, ◌&&◌, List, [], ◌∷◌, refl, ap₂, arith}
use Rattle.std.proofs.lemmas.Bool.Decides.{nat_tests}
use Rattle.std.specs.Cmp.Lexicographic.{pointwise}
use Rattle.std.specs.Prelude.{nat_eq}
use Rattle.sh_base.specs.Cells.{bits_of}
use Rattle.sh_base.specs.declared.numbers.Width.{Width}
use Rattle.sh_ir.specs.Agreement.{dims_agree, same_dim}
use Rattle.sh_ir.specs.declared.types.Dim.{Dim}
use Rattle.sh_ir.specs.declared.types.Dim.TheVariants.{Known, Differs}

pub same_bits : (w : Width) → nat_eq (bits_of w) (bits_of w) ≡ true
same_bits w = grind (arith, nat_tests)

pub same_dim-itself : (d : Dim) → same_dim d d ≡ true
same_dim-itself (Known n) = grind (arith, nat_tests)
same_dim-itself Differs = refl

pub agrees_itself : (d : Dim) → dims_agree d d ≡ true
agrees_itself (Known n) = grind (arith, nat_tests)
agrees_itself Differs = refl

-- what holds of each and itself holds of a list and itself
pub pairs_with_itself : {X : Type 0} (R : X → X → Bool) → ((x : X) → R x x ≡ true) → (xs : List X) → pointwise R xs xs ≡ true
pairs_with_itself R each [] = refl
pairs_with_itself R each (x ∷ xs) = ap₂ (λ (a b : Bool). a && b) (each x) (pairs_with_itself R each xs)
