-- The least of refusals, one after the other.
use mathlib.Core.Path.{◌∙◌, ap, sym, refl}
use Rattle.std.proofs.Common.{◌≡◌, ℕ, suc, ◌+◌, ◌<◌, List, [], ◌∷◌, ◌++◌, length, drop, arith}
use Rattle.std.proofs.Math.Seq.{drop-cons}
use Rattle.std.specs.Prelude.{Option, get_or, flat_map}
use Rattle.sh_base.specs.declared.places.Refusal.{Refusal}
use Rattle.sh_verify.specs.Least.{Order, by_place, earlier, least_of}

-- first of the first list, then of the second
pub least_of_both : (order : Order) (least : Option Refusal) (rs ss : List Refusal)
    → least_of order least (rs ++ ss) ≡ least_of order (least_of order least rs) ss
least_of_both order least [] ss = refl
least_of_both order least (r ∷ rs) ss = least_of_both order (earlier order least r) rs ss

pub default_drop : {X : Type 0} (xs : List X) (i : ℕ) (d : X) → i < length xs → drop i xs ≡ get_or xs i d ∷ drop (i + 1) xs
default_drop xs i d within =
    let next : suc i ≡ i + 1 = omega arith in
    drop-cons xs i d within ∙ ap (λ n. get_or xs i d ∷ drop n xs) next

pub next_drop : {X : Type 0} (xs : List X) (i : ℕ) (x : X) → i < length xs → x ≡ get_or xs i x → drop i xs ≡ x ∷ drop (i + 1) xs
next_drop xs i x within read = default_drop xs i x within ∙ ap (λ y. y ∷ drop (i + 1) xs) (sym read)

-- a loop over a list keeps: what is found so far with the refusals to come
pub found_more : {X : Type 0} (faults : X → List Refusal) (xs : List X) (i : ℕ) (x : X) (found next whole : Option Refusal)
    → i < length xs → x ≡ get_or xs i x
    → least_of by_place found (flat_map faults (drop i xs)) ≡ whole
    → next ≡ least_of by_place found (faults x)
    → least_of by_place next (flat_map faults (drop (i + 1) xs)) ≡ whole
found_more faults xs i x found next whole within read so_far is =
    ap (λ n. least_of by_place n (flat_map faults (drop (i + 1) xs))) is
    ∙ (sym (least_of_both by_place found (faults x) (flat_map faults (drop (i + 1) xs)))
    ∙ (ap (λ l. least_of by_place found (flat_map faults l)) (sym (next_drop xs i x within read)) ∙ so_far))
