-- What is found is the least of all.
use mathlib.Core.Path.{◌∙◌, ap, sym, refl}
use Rattle.std.proofs.Common.{◌≡◌, ◌≢◌, ◌⊎◌, List, [], ◌∷◌, inl, inr}
use mathlib.Core.Bool.{true≢false}
use Rattle.std.specs.Prelude.{Some, None, Bool, true, false}
use Rattle.std.proofs.lemmas.Option.{none-some, same_Some}
use Rattle.std.specs.Cmp.{IsTotalOrder}
use Rattle.std.specs.Ordering.{ordering_reverse}
use Rattle.std.specs.declared.cmp.Ordering.{Ordering}
use Rattle.std.specs.declared.cmp.Ordering.TheVariants.{Less, Equal, Greater}
use Rattle.sh_base.specs.declared.places.Refusal.{Refusal}
use Rattle.sh_admission.specs.Least.{IsLeast, Order, StandsIn, earlier_of, least_of}

-- of a refusal and further ones, this is one, and none comes before it
record IsFirst (R : Order) (a : Refusal) (rs : List Refusal) (r : Refusal) : Type 0 where
  there : (a ≡ r) ⊎ StandsIn rs r
  here : R a r ≢ Less
  first : (s : Refusal) → StandsIn rs s → R s r ≢ Less

distinct : (o : Ordering) → o ≡ Less → o ≡ Greater → ⊥
distinct o p q = is_less (ap less_is (sym p ∙ q))
  where
    less_is : Ordering → Bool
    less_is Less = true
    less_is Equal = false
    less_is Greater = false

    is_less : true ≡ false → ⊥
    is_less e = true≢false e

not_itself : (R : Order) → IsTotalOrder R → (a : Refusal) → R a a ≢ Less
not_itself R t a less = distinct (R a a) less (t.antisymm a a ∙ ap ordering_reverse less)

-- x comes before a, so that nothing that doesn't come after x comes after a
passes : (R : Order) → IsTotalOrder R → (a x r : Refusal) → R x a ≡ Less → R x r ≢ Less → R a r ≢ Less
passes R t a x r before kept less = kept (t.trans x a r before less)

level : (R : Order) → IsTotalOrder R → (a x r : Refusal) → R x a ≡ Equal → R a r ≢ Less → R x r ≢ Less
level R t a x r same kept less = kept (sym (t.congr x a r same) ∙ less)

after : (R : Order) → IsTotalOrder R → (a x r : Refusal) → R x a ≡ Greater → R a r ≢ Less → R x r ≢ Less
after R t a x r behind kept less =
    kept (t.trans a x r (t.antisymm a x ∙ ap ordering_reverse behind) less)

skip : (a x r : Refusal) (xs : List Refusal) → (a ≡ r) ⊎ StandsIn xs r → (a ≡ r) ⊎ StandsIn (x ∷ xs) r
skip a x r xs (inl same) = inl same
skip a x r xs (inr further) = inr (inr further)

first_of : (R : Order) (x r : Refusal) (xs : List Refusal) → R x r ≢ Less
    → ((s : Refusal) → StandsIn xs s → R s r ≢ Less) → (s : Refusal) → StandsIn (x ∷ xs) s → R s r ≢ Less
first_of R x r xs kept further s (inl same) = λ less. kept (ap (λ y. R y r) same ∙ less)
first_of R x r xs kept further s (inr there) = further s there

kept_first : (R : Order) (a x : Refusal) (xs : List Refusal) (r : Refusal) → R x r ≢ Less → IsFirst R a xs r → IsFirst R a (x ∷ xs) r
kept_first R a x xs r kept f = record {
  there = skip a x r xs f.there;
  here = f.here;
  first = first_of R x r xs kept f.first;
}

one_further : (R : Order) → IsTotalOrder R → (a x : Refusal) (xs : List Refusal) (r : Refusal) (o : Ordering) → R x a ≡ o
    → IsFirst R (earlier_of o x a) xs r → IsFirst R a (x ∷ xs) r
one_further R t a x xs r Less e f = record {
  there = inr f.there;
  here = passes R t a x r e f.here;
  first = first_of R x r xs f.here f.first;
}
one_further R t a x xs r Equal e f = kept_first R a x xs r (level R t a x r e f.here) f
one_further R t a x xs r Greater e f = kept_first R a x xs r (after R t a x r e f.here) f

from_first : (R : Order) → IsTotalOrder R → (a : Refusal) (rs : List Refusal) (r : Refusal)
    → least_of R (Some a) rs ≡ Some r → IsFirst R a rs r
from_first R t a [] r e =
    let same : a ≡ r = same_Some a r e in
    record {
      there = inl same;
      here = λ less. not_itself R t a (ap (λ y. R a y) same ∙ less);
      first = λ s there. absurd there;
    }
from_first R t a (x ∷ xs) r e =
    one_further R t a x xs r (R x a) refl (from_first R t (earlier_of (R x a) x a) xs r e)

pub least_found : (R : Order) → IsTotalOrder R → (rs : List Refusal) (r : Refusal) → least_of R None rs ≡ Some r → IsLeast R rs r
least_found R t [] r e = absurd (none-some r e)
least_found R t (x ∷ xs) r e =
    let f = from_first R t x xs r e in
    record { there = f.there; first = first_of R x r xs f.here f.first }

some_found : (R : Order) (a : Refusal) (rs : List Refusal) → least_of R (Some a) rs ≡ None → ⊥
some_found R a [] e = none-some a (sym e)
some_found R a (x ∷ xs) e = some_found R (earlier_of (R x a) x a) xs e

pub none_found : (R : Order) (rs : List Refusal) → least_of R None rs ≡ None → rs ≡ []
none_found R [] e = refl
none_found R (x ∷ xs) e = absurd (some_found R x xs e)
