-- Lists of faults, item by item: one item more, two lists in one, and what stands in them.
use mathlib.Core.Path.{◌∙◌, ap, sym, refl}
use Rattle.std.proofs.Common.{◌≡◌, ◌⊎◌, inl, inr, ℕ, zero, suc, ◌<◌, List, [], ◌∷◌, ◌++◌, length, arith, subst}
use Rattle.std.proofs.lemmas.List.{append-nil, append_assoc}
use Rattle.std.specs.Prelude.{Contains, slice_index_or}
use Rattle.sh_base.specs.declared.places.Refusal.{Refusal}
use Rattle.sh_admission.specs.Least.{StandsIn}
use Rattle.sh_admission.specs.Found.{AreAll}

pub stands_split : (a b : List Refusal) (r : Refusal) → StandsIn (a ++ b) r → StandsIn a r ⊎ StandsIn b r
stands_split [] b r there = inr there
stands_split (x ∷ a) b r (inl same) = inl (inl same)
stands_split (x ∷ a) b r (inr further) = by (stands_split a b r further)
  where
    by : StandsIn a r ⊎ StandsIn b r → StandsIn (x ∷ a) r ⊎ StandsIn b r
    by (inl first) = inl (inr first)
    by (inr second) = inr second

pub stands_left : (a b : List Refusal) (r : Refusal) → StandsIn a r → StandsIn (a ++ b) r
stands_left [] b r there = absurd there
stands_left (x ∷ a) b r (inl same) = inl same
stands_left (x ∷ a) b r (inr further) = inr (stands_left a b r further)

pub stands_right : (a b : List Refusal) (r : Refusal) → StandsIn b r → StandsIn (a ++ b) r
stands_right [] b r there = there
stands_right (x ∷ a) b r there = inr (stands_right a b r there)

-- an item of the list has the refusal among its own
pub record IsOf {X : Type 0} (Of : X → List Refusal → Type 0) (xs : List X) (r : Refusal) : Type 0 where
  pub item : X
  pub there : Contains xs item
  pub own : List Refusal
  pub of : Of item own
  pub stands : StandsIn own r

-- an item's own faults are among all
pub record AreAmong {X : Type 0} (Of : X → List Refusal → Type 0) (item : X) (faults : List Refusal) : Type 0 where
  pub own : List Refusal
  pub of : Of item own
  pub among : (r : Refusal) → StandsIn own r → StandsIn faults r

module _ {X : Type 0} (Of : X → List Refusal → Type 0) where
  pub one_more : (xs : List X) (faults : List Refusal) (x : X) (own : List Refusal)
      → AreAll Of xs faults → Of x own → AreAll Of (xs ++ x ∷ []) (faults ++ own)
  one_more [] faults x own none of =
      (own, [], of, ap (λ l. l ++ own) none ∙ sym (append-nil own), refl)
  one_more (y ∷ xs) faults x own (first, rest, its, is, further) of =
      (first, rest ++ own, its, ap (λ l. l ++ own) is ∙ append_assoc first rest own, one_more xs rest x own further of)

  pub all_both : (xs ys : List X) (faults more : List Refusal)
      → AreAll Of xs faults → AreAll Of ys more → AreAll Of (xs ++ ys) (faults ++ more)
  all_both [] ys faults more none others = subst (AreAll Of ys) (sym (ap (λ l. l ++ more) none)) others
  all_both (x ∷ xs) ys faults more (first, rest, its, is, further) others =
      (first, rest ++ more, its, ap (λ l. l ++ more) is ∙ append_assoc first rest more, all_both xs ys rest more further others)

  further_item : (x : X) (xs : List X) (r : Refusal) → IsOf Of xs r → IsOf Of (x ∷ xs) r
  further_item x xs r f = record {
    item = f.item;
    there = (suc f.there.0, omega (arith, f.there.1), f.there.2);
    own = f.own;
    of = f.of;
    stands = f.stands;
  }

  pub item_of : (xs : List X) (faults : List Refusal) (r : Refusal) → AreAll Of xs faults → StandsIn faults r → IsOf Of xs r
  item_of [] faults r none there = absurd (subst (λ fs. StandsIn fs r) none there)
  item_of (x ∷ xs) faults r (first, rest, its, is, further) there =
      by (stands_split first rest r (subst (λ fs. StandsIn fs r) is there)) (item_of xs rest r further)
    where
      by : StandsIn first r ⊎ StandsIn rest r → (StandsIn rest r → IsOf Of xs r) → IsOf Of (x ∷ xs) r
      by (inl here) later = record {
        item = x;
        there = (0, omega arith, refl);
        own = first;
        of = its;
        stands = here;
      }
      by (inr behind) later = further_item x xs r (later behind)

  pub own_of : (xs : List X) (faults : List Refusal) (x : X) (k : ℕ) → AreAll Of xs faults
      → k < length xs → slice_index_or xs k x ≡ x → AreAmong Of x faults
  own_of [] faults x k none within at = absurd (omega (arith, within))
  own_of (y ∷ xs) faults x zero (first, rest, its, is, further) within at = record {
    own = first;
    of = subst (λ z. Of z first) at its;
    among = λ r there. subst (λ fs. StandsIn fs r) (sym is) (stands_left first rest r there);
  }
  own_of (y ∷ xs) faults x (suc k) (first, rest, its, is, further) within at =
      let behind = own_of xs rest x k further (omega (arith, within)) at in
      record {
        own = behind.own;
        of = behind.of;
        among = λ r there. subst (λ fs. StandsIn fs r) (sym is) (stands_right first rest r (behind.among r there));
      }
