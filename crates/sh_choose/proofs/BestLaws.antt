-- The best of the options so far.
use Rattle.std.proofs.Common.{◌≡◌, List, [], ◌∷◌, ◌++◌, length, map, refl, ap, ap₂, sym, ◌∙◌, subst, append_assoc, arith}
use Rattle.std.proofs.lemmas.List.{append-nil, map-append}
use Rattle.std.proofs.lemmas.Grind.{flat_map-append}
use Rattle.std.specs.List.{AllByRecursion, flat_map}
use Rattle.std.specs.Prelude.{Option, Some, None}
use Rattle.sh_grid.specs.Grid.{GridValue}
use Rattle.sh_iface.specs.LoopNest.{LoopNest}
use Rattle.sh_iface.specs.Splits.{OptionValue}
use Rattle.sh_iface.specs.Valid.{IsValid}
use Rattle.sh_iface.specs.declared.options.Split.{Split}
use Rattle.sh_choose.specs.declared.chosen.Chosen.{Chosen}
use Rattle.sh_choose.specs.declared.chosen.Known.{Known}
use Rattle.sh_choose.specs.declared.chosen.Weight.{Weight}
use Rattle.sh_choose.specs.Bounds.{IsNoMore, IsPast}
use Rattle.sh_choose.specs.Least.{IsBest, weight_in}
use Rattle.sh_choose.specs.Proposals.{choices}
use Rattle.sh_choose.specs.Weights.{IsAtMost, IsLess, weight_of}

-- ---- weights

pub at_most_trans : (a b c : Weight) → IsAtMost a b → IsAtMost b c → IsAtMost a c
at_most_trans a b c h k = record {
  user = omega (arith, h.user, k.user);
  other = λ e.
      let e1 : a.user_differ ≡ b.user_differ = omega (arith, h.user, k.user, e) in
      let e2 : b.user_differ ≡ c.user_differ = omega (arith, h.user, k.user, e) in
      omega (arith, h.other e1, k.other e2);
  points = λ e f.
      let e1 : a.user_differ ≡ b.user_differ = omega (arith, h.user, k.user, e) in
      let e2 : b.user_differ ≡ c.user_differ = omega (arith, h.user, k.user, e) in
      let f1 : a.other_differ ≡ b.other_differ = omega (arith, h.other e1, k.other e2, f) in
      let f2 : b.other_differ ≡ c.other_differ = omega (arith, h.other e1, k.other e2, f) in
      omega (arith, h.points e1 f1, k.points e2 f2);
}

pub less_at_most : (a b : Weight) → IsLess a b → IsAtMost a b
less_at_most a b h = record { user = h.user; other = h.other; points = λ e f. omega (arith, h.points e f) }

-- ---- lists

pub all_append : {X : Type 0} (P : X → Type 0) (xs ys : List X) → AllByRecursion P xs → AllByRecursion P ys → AllByRecursion P (xs ++ ys)
all_append P [] ys h k = k
all_append P (x ∷ xs) ys h k = (h.0, all_append P xs ys h.1 k)

pub all_weaker : {X : Type 0} (P Q : X → Type 0) (xs : List X) → ((x : X) → P x → Q x) → AllByRecursion P xs → AllByRecursion Q xs
all_weaker P Q [] f h = tt
all_weaker P Q (x ∷ xs) f h = (f x h.0, all_weaker P Q xs f h.1)

pub all_mapped : {X Y : Type 0} (P : Y → Type 0) (f : X → Y) (xs : List X) → ((x : X) → P (f x)) → AllByRecursion P (map f xs)
all_mapped P f [] h = tt
all_mapped P f (x ∷ xs) h = (h x, all_mapped P f xs h)

-- ---- the best of more options

module _ (nest : LoopNest) (g : GridValue) (known : List Known) where
  abbrev Past : Option Chosen → OptionValue → Type 0
  Past best o = IsValid nest g o → IsPast best (weight_of nest g known o)

  -- options none of which is as little as the best change nothing
  pub before_best : (xs after : List OptionValue) (best : Option Chosen) → AllByRecursion (Past best) xs → IsBest nest g known after best → IsBest nest g known (xs ++ after) best
  before_best xs after None h b = all_append (λ o. ¬ IsValid nest g o) xs after h b
  before_best xs after (Some c) h b =
      let least = b.0 in (
        record {
          before = xs ++ least.before;
          after = least.after;
          there = ap (λ ys. xs ++ ys) least.there ∙ sym (append_assoc xs least.before (c.option ∷ least.after));
          valid = least.valid;
          first = all_append (λ y. IsValid nest g y → IsLess (weight_of nest g known c.option) (weight_of nest g known y)) xs least.before
              (all_weaker (Past (Some c)) (λ y. IsValid nest g y → IsLess (weight_of nest g known c.option) (weight_of nest g known y)) xs
              (λ y p v. subst (λ w. IsLess w (weight_of nest g known y)) b.1 (p v)) h) least.first;
          least = least.least;
        },
        b.1,
      )

  -- an option that isn't valid
  pub best_without : (o : OptionValue) (after : List OptionValue) (best : Option Chosen) → ¬ IsValid nest g o → IsBest nest g known after best → IsBest nest g known (o ∷ after) best
  best_without o after best h b = before_best (o ∷ []) after best ((λ v. absurd (h v)), tt) b

  -- one that is greater
  pub best_beside : (o : OptionValue) (w : Weight) (after : List OptionValue) (best : Option Chosen) → w ≡ weight_of nest g known o → IsPast best w → IsBest nest g known after best → IsBest nest g known (o ∷ after) best
  best_beside o w after best e h b = before_best (o ∷ []) after best ((λ v. subst (IsPast best) e h), tt) b

  no_more : (o : OptionValue) (after : List OptionValue) (best : Option Chosen) → IsNoMore (weight_of nest g known o) best → IsBest nest g known after best → AllByRecursion (λ y. IsValid nest g y → IsAtMost (weight_of nest g known o) (weight_of nest g known y)) after
  no_more o after None h b =
      all_weaker (λ y. ¬ IsValid nest g y) (λ y. IsValid nest g y → IsAtMost (weight_of nest g known o) (weight_of nest g known y)) after (λ y n v. absurd (n v)) b
  no_more o after (Some c) h b =
      let least = b.0 in
      let here = subst (IsAtMost (weight_of nest g known o)) b.1 h in
      let AtMost = λ (y : OptionValue). IsValid nest g y → IsAtMost (weight_of nest g known o) (weight_of nest g known y) in
      subst (AllByRecursion AtMost) (sym least.there)
      (all_append AtMost least.before (c.option ∷ least.after)
      (all_weaker (λ y. IsValid nest g y → IsLess (weight_of nest g known c.option) (weight_of nest g known y)) AtMost least.before
      (λ y p v. at_most_trans (weight_of nest g known o) (weight_of nest g known c.option) (weight_of nest g known y) here (less_at_most (weight_of nest g known c.option) (weight_of nest g known y) (p v))) least.first) (
        (λ v. here),
        all_weaker (λ y. IsValid nest g y → IsAtMost (weight_of nest g known c.option) (weight_of nest g known y)) AtMost least.after
            (λ y p v. at_most_trans (weight_of nest g known o) (weight_of nest g known c.option) (weight_of nest g known y) here (p v)) least.least,
      ))

  first_of_all : (c : Chosen) (w : Weight) (after : List OptionValue) (best : Option Chosen) → IsValid nest g c.option → w ≡ weight_of nest g known c.option → weight_in c ≡ w → IsNoMore w best → IsBest nest g known after best → IsBest nest g known (c.option ∷ after) (Some c)
  first_of_all c w after best v e f h b = (
    record {
      before = [];
      after = after;
      there = refl;
      valid = v;
      first = tt;
      least = no_more c.option after best (subst (λ x. IsNoMore x best) e h) b;
    },
    f ∙ e,
  )

  -- a valid one that is no greater
  pub best_first : (o : OptionValue) (c : Chosen) (w : Weight) (after : List OptionValue) (best : Option Chosen) → c.option ≡ o → IsValid nest g o → w ≡ weight_of nest g known o → weight_in c ≡ w → IsNoMore w best → IsBest nest g known after best → IsBest nest g known (o ∷ after) (Some c)
  best_first o c w after best same v e f h b =
      subst (λ x. IsBest nest g known (x ∷ after) (Some c)) same
      (first_of_all c w after best (subst (IsValid nest g) (sym same) v) (e ∙ sym (ap (weight_of nest g known) same)) f h b)

  -- ---- all options that begin so

  -- none of which is as little as the best
  pub hopeless_from : (o : OptionValue) (later : List OptionValue) (after : List OptionValue) (best : Option Chosen) → ((rest : OptionValue) → IsValid nest g (o ++ rest) → IsPast best (weight_of nest g known (o ++ rest))) → IsBest nest g known after best → IsBest nest g known (map (λ rest. o ++ rest) (choices later) ++ after) best
  hopeless_from o later after best h b =
      before_best (map (λ rest. o ++ rest) (choices later)) after best (all_mapped (Past best) (λ rest. o ++ rest) (choices later) h) b

-- the one option that begins with all loops
pub whole_from : (o : OptionValue) (later : List OptionValue) (after : List OptionValue) → later ≡ [] → map (λ rest. o ++ rest) (choices later) ++ after ≡ o ∷ after
whole_from o later after e =
    ap (λ ls. map (λ rest. o ++ rest) (choices ls) ++ after) e ∙ ap (λ p. p ∷ after) (append-nil o)

longer_from : (o : OptionValue) (x : Option Split) (rests : List OptionValue) → map (λ rest. o ++ rest) (map (λ rest. x ∷ rest) rests) ≡ map (λ rest. (o ++ x ∷ []) ++ rest) rests
longer_from o x [] = refl
longer_from o x (rest ∷ rests) = ap₂ ◌∷◌ (sym (append_assoc o (x ∷ []) rest)) (longer_from o x rests)

-- the choices from the last proposal stand last
pub last_from : (o front longer : OptionValue) (x : Option Split) (others : List OptionValue) (rest : OptionValue) (after : List OptionValue) → rest ≡ front ++ x ∷ [] → longer ≡ o ++ x ∷ []
    → map (λ r. o ++ r) (choices (rest ∷ others)) ++ after ≡ map (λ r. o ++ r) (choices (front ∷ others)) ++ (map (λ r. longer ++ r) (choices others) ++ after)
last_from o front longer x others rest after e f =
    let by = λ (y : Option Split). map (λ r. y ∷ r) (choices others) in
    let after_o = λ (r : OptionValue). o ++ r in
    let split : flat_map by rest ≡ flat_map by front ++ by x =
    ap (flat_map by) e ∙ flat_map-append by front (x ∷ []) ∙ ap (λ ys. flat_map by front ++ ys) (append-nil (by x)) in
    let mapped : map after_o (flat_map by rest) ≡ map after_o (flat_map by front) ++ map (λ r. longer ++ r) (choices others) =
    ap (map after_o) split ∙ map-append after_o (flat_map by front) (by x)
    ∙ ap (λ ys. map after_o (flat_map by front) ++ ys) (longer_from o x (choices others) ∙ ap (λ l. map (λ r. l ++ r) (choices others)) (sym f)) in
    ap (λ ys. ys ++ after) mapped ∙ append_assoc (map after_o (flat_map by front)) (map (λ r. longer ++ r) (choices others)) after

-- the same choices of the same lists
pub same_from : (nest : LoopNest) (g : GridValue) (known : List Known) (o : OptionValue) (later others : List OptionValue) (after : List OptionValue) (best : Option Chosen) → later ≡ others → IsBest nest g known (map (λ r. o ++ r) (choices others) ++ after) best → IsBest nest g known (map (λ r. o ++ r) (choices later) ++ after) best
same_from nest g known o later others after best e h =
    subst (λ ls. IsBest nest g known (map (λ r. o ++ r) (choices ls) ++ after) best) (sym e) h

-- no proposal is left
pub none_from : (nest : LoopNest) (g : GridValue) (known : List Known) (o rest : OptionValue) (others : List OptionValue) (after : List OptionValue) (best : Option Chosen) → length rest ≡ 0 → IsBest nest g known after best → IsBest nest g known (map (λ r. o ++ r) (choices (rest ∷ others)) ++ after) best
none_from nest g known o [] others after best e h = h
none_from nest g known o (x ∷ rest) others after best e h = absurd (omega arith)
