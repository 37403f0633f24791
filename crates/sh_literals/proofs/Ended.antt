-- Where the extents of a type end.
use Rattle.std.proofs.Common.{◌≡◌, ◌≤◌, ℕ, zero, suc, List, [], ◌∷◌, drop, length, nat_eq, refl, ◌∙◌, arith}
use Rattle.std.proofs.lemmas.Grind.{common_steps}
use Rattle.sh_literals.specs.LiteralCells.{are_extents}

-- there are as many lengths, or one more
pub no_more : (n : ℕ) (extents : List ℕ) → n ≤ length extents
    → nat_eq n (length extents) ≡ are_extents [] (drop n extents)
no_more zero [] h = refl
no_more zero (m ∷ extents) h = grind (arith, common_steps)
no_more (suc n) [] h = absurd (omega arith)
no_more (suc n) (m ∷ extents) h =
    let e : nat_eq (suc n) (suc (length extents)) ≡ nat_eq n (length extents) = grind (arith, common_steps) in
    e ∙ no_more n extents (omega arith)
