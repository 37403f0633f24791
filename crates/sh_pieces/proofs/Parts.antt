-- Where the cuts of values stand, and the names of a local part among those of its function.
use Rattle.std.proofs.Common.{ap₂, ◌≡◌, ℕ, zero, suc, ◌+◌, ◌-◌, ◌<◌, ◌≤◌, true, List, [], ◌∷◌, map, length, get_or, Option, Some, None, refl, sym, ap, ◌∙◌, subst, inl, inr, arith}
use Rattle.std.specs.Prelude.{◌==◌, cond, is_some, slice_get, option_map, option_and_then, unwrap_or}
use Rattle.std.specs.List.{range_with_len}
use Rattle.std.proofs.lemmas.Bool.{cases_Bool, cases_lt}
use Rattle.std.proofs.lemmas.List.{get_or_default}
use Rattle.std.proofs.lemmas.List.FromFn.{fill_by_all, length-range_with_len, get_or-range_with_len}
use Rattle.std.proofs.lemmas.Option.{same_Some, slice_get_within, slice_get_past, slice_get-get_or, unwrap_or-slice_get}
use Rattle.sh_turns.specs.Program.{all_there}
use Rattle.sh_pieces.specs.Instructions.{Semantics, State, is_name, last_place, gives}
use Rattle.sh_pieces.specs.Runs.{argument_under, at_start, RunsTo, HasRows, DefinesFrom, AreNumbered}
use Rattle.sh_pieces.specs.Renaming.{StayApart, AreRenamed}
use Rattle.sh_pieces.specs.Promises.{Splitting, Wholes, Placed, Placing, splits_of, names_of, with_entry, placed_arguments, part_name, cuts, AllFit, HasCuts, IsPlaced, Holds}
use Rattle.sh_pieces.proofs.Names.{name_itself, first_there, each_there, value_at_place, value_in_range}

-- ---- the names of a local part

part_operand : (targets : List ℕ) (base v : ℕ) → v < length targets → part_name targets base v ≡ get_or targets v 0
part_operand targets base v lt = unwrap_or-slice_get targets v (base + (v - length targets)) ∙ get_or_default targets v (base + (v - length targets)) 0 lt

pub part_value : (targets : List ℕ) (base v : ℕ) → length targets ≤ v → part_name targets base v ≡ base + (v - length targets)
part_value targets base v ge = ap (λ o. unwrap_or o (base + (v - length targets))) (slice_get_past targets v ge)

-- the operands' names become the targets
pub part_operands : (targets : List ℕ) (base : ℕ) → map (part_name targets base) (range_with_len 0 (length targets)) ≡ targets
part_operands targets base = sym (fill_by_all (part_name targets base) targets (length targets) 0 refl (λ k lt. sym (part_operand targets base k lt)))

module _ (targets : List ℕ) (base : ℕ) (below : (k name : ℕ) → slice_get targets k ≡ Some name → name < base) where
  -- the name of a value is no other's
  part_apart : (v other : ℕ) → length targets ≤ v → part_name targets base other ≡ part_name targets base v → other ≡ v
  part_apart v other ge same =
      let value = part_value targets base v ge in
      elim (cases_lt other (length targets)) [
        | inl lt ↦
            let operand = part_operand targets base other lt in
            let old = below other (get_or targets other 0) (slice_get-get_or targets other 0 lt) in
            absurd (omega (arith, value, operand, old, same))
        | inr ge' ↦ let value' = part_value targets base other ge' in omega (arith, value, value', same, ge, ge')
      ]

  module _ {V I : Type 0} (sem : Semantics V I) where
    pub numbered_apart : (is : List I) (n : ℕ) → length targets ≤ n → AreNumbered sem n is → StayApart (part_name targets base) (map sem.defines is)
    numbered_apart [] n le are = tt
    numbered_apart (i ∷ is) n le are = (
      λ name other e same. let at : n ≡ name = same_Some n name (sym are.0 ∙ e) in part_apart name other (omega (arith, at, le)) same,
      numbered_apart is (suc n) (omega (arith, le)) are.1,
    )

-- what is renamed so defines names from the base on
module _ (targets : List ℕ) (base : ℕ) {V I : Type 0} (sem : Semantics V I) where
  pub renamed_from : (is js : List I) (n : ℕ) → length targets ≤ n → AreNumbered sem n is → AreRenamed sem (part_name targets base) is js → DefinesFrom sem base js
  renamed_from [] [] n le are renamed = tt
  renamed_from [] (j ∷ js) n le are renamed = absurd renamed
  renamed_from (i ∷ is) [] n le are renamed = absurd renamed
  renamed_from (i ∷ is) (j ∷ js) n le are renamed =
      let named : sem.defines j ≡ Some (part_name targets base n) = renamed.0.defines ∙ ap (option_map (part_name targets base)) are.0 in (
        λ name e.
            let same : part_name targets base n ≡ name = same_Some (part_name targets base n) name (sym named ∙ e) in
            let value = part_value targets base n le in
            omega (arith, same, value),
        renamed_from is js (suc n) (omega (arith, le)) are.1 renamed.1,
      )

-- ---- cuts

module _ {V T S : Type 0} (splitting : Splitting V T S) where
  cut_at : (ss : List S) (ts : List T) (k : ℕ) (s : S) (t : T) (c : ℕ) → slice_get ss k ≡ Some s → slice_get ts k ≡ Some t → slice_get (cuts splitting ss ts c) k ≡ Some (splitting.cut s t c)
  cut_at [] ts k s t c e f = cc
  cut_at (s' ∷ ss) [] k s t c e f = cc
  cut_at (s' ∷ ss) (u ∷ ts) zero s t c e f = ap₂ (λ a b. Some (splitting.cut a b c)) (same_Some s' s e) (same_Some u t f)
  cut_at (s' ∷ ss) (u ∷ ts) (suc k) s t c e f = cut_at ss ts k s t c e f

  fit_at : (ss : List S) (ts : List T) (k : ℕ) (s : S) (t : T) → AllFit splitting ss ts → slice_get ss k ≡ Some s → slice_get ts k ≡ Some t → splitting.Fits s t
  fit_at [] ts k s t all e f = cc
  fit_at (s' ∷ ss) [] k s t all e f = cc
  fit_at (s' ∷ ss) (u ∷ ts) zero s t all e f = subst (λ z. splitting.Fits z t) (same_Some s' s e) (subst (λ z. splitting.Fits s' z) (same_Some u t f) all.0)
  fit_at (s' ∷ ss) (u ∷ ts) (suc k) s t all e f = fit_at ss ts k s t all.1 e f

  pub length-fits : (ss : List S) (ts : List T) → AllFit splitting ss ts → length ts ≡ length ss
  length-fits [] [] h = refl
  length-fits [] (t ∷ ts) h = absurd h
  length-fits (s ∷ ss) [] h = absurd h
  length-fits (s ∷ ss) (t ∷ ts) h = ap suc (length-fits ss ts h.1)

  pub length-cuts : (ss : List S) (ts : List T) (c : ℕ) → length ts ≡ length ss → length (cuts splitting ss ts c) ≡ length ss
  length-cuts [] ts c e = refl
  length-cuts (s ∷ ss) [] c e = absurd (omega (arith, e))
  length-cuts (s ∷ ss) (t ∷ ts) c e = ap suc (length-cuts ss ts c (omega (arith, e)))

-- ---- where values are

module _ {V I T S : Type 0} (sem : Semantics V I) (splitting : Splitting V T S) where
  -- the cuts of one operand of a local part
  pub operand_cuts : (ss : List S) (ts : List T) (st : State V) → HasRows sem (range_with_len 0 (length ss)) (cuts splitting ss ts) st → (k : ℕ) (s : S) (t : T) → slice_get ss k ≡ Some s → slice_get ts k ≡ Some t
      → HasCuts sem splitting k s t st
  operand_cuts ss ts st has k s t split whole c device =
      let lt : k < length ss = slice_get_within ss k s split in
      let counted : k < length (range_with_len 0 (length ss)) = omega (arith, lt, length-range_with_len 0 (length ss)) in
      let named : get_or (range_with_len 0 (length ss)) k 0 ≡ k = get_or-range_with_len 0 (length ss) k 0 lt ∙ omega arith in
      let at : slice_get (range_with_len 0 (length ss)) k ≡ Some k = slice_get-get_or (range_with_len 0 (length ss)) k 0 counted ∙ ap (λ n. Some n) named in
      let each = each_there (st c) (range_with_len 0 (length ss)) (cuts splitting ss ts c) k k (has c device) at in
      each.1 ∙ sym each.2 ∙ cut_at splitting ss ts k s t c split whole

  -- one instruction that gives each device its cut
  pub one_gives : (i : I) (st : State V) (name : ℕ) (s : S) (t : T) → sem.defines i ≡ Some name → ((c : ℕ) → c < sem.devices → gives sem i st c ≡ Some (splitting.cut s t c))
      → RunsTo sem (i ∷ []) st (HasCuts sem splitting name s t)
  one_gives i st name s t defines given =
      let named : is_name (sem.defines i) name ≡ true = ap (λ o. is_name o name) defines ∙ name_itself name in
      ((λ c device. ap is_some (given c device), tt), λ c device. ap (λ b. cond b (gives sem i st c) (st c name)) named ∙ given c device)

  -- values that are placed, as a list of operands or of results
  pub record ArePlaced (next : ℕ) (ps : List (Placed S)) (ts : List T) (s : State V) : Type 0 where
    pub below : (k name : ℕ) → slice_get (names_of ps) k ≡ Some name → name < next
    pub fits : AllFit splitting (splits_of ps) ts
    pub rows : HasRows sem (names_of ps) (cuts splitting (splits_of ps) ts) s

  placed_more : (next : ℕ) (p : Placed S) (ps : List (Placed S)) (t : T) (ts : List T) (s : State V) → IsPlaced sem splitting next p t s → ArePlaced next ps ts s → ArePlaced next (p ∷ ps) (t ∷ ts) s
  placed_more next p ps t ts s is are = record { below = below; fits = (is.fits, are.fits); rows = λ c device. rw (is.cuts c device, are.rows c device) refl }
    where
      below : (k name : ℕ) → slice_get (names_of (p ∷ ps)) k ≡ Some name → name < next
      below zero name e = let same : p.name ≡ name = same_Some p.name name e in omega (arith, same, is.below)
      below (suc k) name e = are.below k name e

  pub are_placed : (placing : Placing S) (next : ℕ) (wholes : Wholes T) (s : State V) → Holds sem splitting placing next wholes s → (xs : List ℕ) (ps : List (Placed S)) (ts : List T)
      → all_there (map placing xs) ≡ Some ps → all_there (map wholes xs) ≡ Some ts → ArePlaced next ps ts s
  are_placed placing next wholes s holds [] ps ts e f =
      subst (λ ps. ArePlaced next ps ts s) (same_Some [] ps e) (subst (λ ts. ArePlaced next [] ts s) (same_Some [] ts f) (record { below = λ k name h. cc; fits = tt; rows = λ c device. refl }))
  are_placed placing next wholes s holds (x ∷ xs) ps ts e f =
      let p = first_there (placing x) (map placing xs) ps e in
      let t = first_there (wholes x) (map wholes xs) ts f in
      subst (λ ps. ArePlaced next ps ts s) (sym p.whole)
      (subst (λ ts. ArePlaced next (p.first ∷ p.rest) ts s) (sym t.whole)
      (placed_more next p.first p.rest t.first t.rest s (holds x p.first t.first p.here t.here) (are_placed placing next wholes s holds xs p.rest t.rest p.others t.others)))

  -- one value more, where those that were there stay
  pub holds_more : (placing : Placing S) (next next' : ℕ) (wholes wholes' : Wholes T) (s s' : State V) (x : ℕ) (p : Placed S) (t : T) → next ≤ next'
      → ((y : ℕ) → wholes' y ≡ with_entry x t wholes y) → Holds sem splitting placing next wholes s
      → ((c name : ℕ) → c < sem.devices → name < next → s' c name ≡ s c name) → IsPlaced sem splitting next' p t s'
      → Holds sem splitting (with_entry x p placing) next' wholes' s'
  holds_more placing next next' wholes wholes' s s' x p t rises defines holds keeps is = λ y q u at whole.
      elim (cases_Bool (x == y)) [
        | inl b ↦
            let place : Some p ≡ Some q = rw b at at in
            let given : Some t ≡ Some u = rw b at (sym (defines y) ∙ whole) in
            subst (λ z. IsPlaced sem splitting next' z u s') (same_Some p q place) (subst (λ z. IsPlaced sem splitting next' p z s') (same_Some t u given) is)
        | inr b ↦
            let place : placing y ≡ Some q = rw b at at in
            let given : wholes y ≡ Some u = rw b at (sym (defines y) ∙ whole) in
            let old = holds y q u place given in
            record { below = omega (arith, old.below, rises); fits = old.fits; cuts = λ c device. keeps c q.name device old.below ∙ old.cuts c device }
      ]

  -- ---- the arguments

  -- at the start every device has the cuts of the arguments
  pub holds_at_start : (parameters : List ℕ) (ss : List S) (ts : List T) → AllFit splitting ss ts
      → Holds sem splitting (placed_arguments parameters ss) (length ss) (argument_under parameters ts) (at_start (range_with_len 0 (length ss)) (cuts splitting ss ts))
  holds_at_start parameters ss ts all = λ x p t e f. at (last_place (map (λ name. Some name) parameters) x) x refl p t e f
    where
      split : (k : ℕ) (o : Option S) → slice_get ss k ≡ o → (p : Placed S) (t : T) → option_map {U = Placed S} (λ s. record { split = s; name = k }) o ≡ Some p → slice_get ts k ≡ Some t
          → IsPlaced sem splitting (length ss) p t (at_start (range_with_len 0 (length ss)) (cuts splitting ss ts))
      split k None here p t e whole = cc
      split k (Some s) here p t e whole =
          let lt = slice_get_within ss k s here in
          subst (λ p. IsPlaced sem splitting (length ss) p t (at_start (range_with_len 0 (length ss)) (cuts splitting ss ts)))
          (same_Some (record { split = s; name = k }) p e)
          (record { below = lt; fits = fit_at splitting ss ts k s t all here whole; cuts = λ c device. value_in_range (length ss) (cuts splitting ss ts c) k lt ∙ cut_at splitting ss ts k s t c here whole })

      at : (o : Option ℕ) (x : ℕ) → last_place (map (λ name. Some name) parameters) x ≡ o → (p : Placed S) (t : T)
          → option_and_then {U = Placed S} (λ k. option_map (λ s. record { split = s; name = k }) (slice_get ss k)) o ≡ Some p → argument_under parameters ts x ≡ Some t
          → IsPlaced sem splitting (length ss) p t (at_start (range_with_len 0 (length ss)) (cuts splitting ss ts))
      at None x place p t e f = cc
      at (Some k) x place p t e f = split k (slice_get ss k) refl p t e (sym (value_at_place (map (λ name. Some name) parameters) ts x k place) ∙ f)
