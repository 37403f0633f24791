-- The names that regions define, as mentions are added.
use Rattle.std.proofs.Common.{◌≡◌, ℕ, List, [], ◌∷◌, ◌++◌, Bool, true, false, not, ◌&&◌, ◌||◌, nat_eq, fold, refl, sym, ◌∙◌, ap, true≢false, if◌then◌else◌}
use Rattle.std.specs.Prelude.{Option, Some, None}
use Rattle.std.specs.List.{list_any}
use Rattle.std.proofs.lemmas.Bool.{eqb-true, eq-eqb}
use Rattle.std.proofs.lemmas.List.Sums.{fold-append}
use Rattle.sh_names.specs.Names.{Mention, Scope, own, defines_for, is_own, region_of_use, same_text}
use Rattle.sh_names.specs.Tables.{AddsStep, AreDefiners, added, has_other, mention, steps_at, steps_of, with_step}
use Rattle.sh_names.specs.declared.definers.Definers.{Definers}
use Rattle.sh_names.specs.declared.definers.Steps.{Steps}
use Rattle.sh_names.specs.declared.definers.Steps.TheVariants.{One, Several}
use Rattle.sh_names.proofs.Keeping.{text_either}

number_either : (a b : ℕ) → nat_eq a b ≡ nat_eq b a
number_either a b = by (nat_eq a b) (nat_eq b a) refl refl
  where
    by : (x y : Bool) → nat_eq a b ≡ x → nat_eq b a ≡ y → x ≡ y
    by true true e f = refl
    by false false e f = refl
    by true false e f = absurd (true≢false (sym (eq-eqb b a (sym (eqb-true a b e))) ∙ f))
    by false true e f = absurd (true≢false (sym (eq-eqb a b (sym (eqb-true b a f))) ∙ e))

-- one more step, and another one than this is among them
one_step : (steps : Option Steps) (s step : ℕ) → has_other (added steps s) step ≡ (not (nat_eq s step) || has_other steps step)
one_step None s step = or_none (not (nat_eq s step))
  where
    or_none : (b : Bool) → b ≡ (b || false)
    or_none true = refl
    or_none false = refl
one_step (Some Several) s step = or_true (not (nat_eq s step))
  where
    or_true : (b : Bool) → true ≡ (b || true)
    or_true true = refl
    or_true false = refl
one_step (Some (One first)) s step = by (nat_eq first s) (nat_eq s step) (nat_eq first step) refl refl refl
  where
    by : (x y z : Bool) → nat_eq first s ≡ x → nat_eq s step ≡ y → nat_eq first step ≡ z
        → has_other (if x then Some (One first) else Some Several) step ≡ (not y || not z)
    by true true true e f g = rw g refl
    by true false z e f g = rw (eqb-true first s e, f) refl
    by true true false e f g = absurd (true≢false (sym f ∙ ap (λ n. nat_eq n step) (sym (eqb-true first s e)) ∙ g))
    by false true true e f g =
        absurd (true≢false (sym (eq-eqb first s (eqb-true first step g ∙ sym (eqb-true s step f))) ∙ e))
    by false true false e f g = refl
    by false false z e f g = refl

reordered : (a b c d : Bool) → (a && b && c && d) ≡ (a && (b && d) && c)
reordered true true c true = and_true c
  where
    and_true : (c : Bool) → (c && true) ≡ c
    and_true true = refl
    and_true false = refl
reordered true true true false = refl
reordered true true false false = refl
reordered true false c d = refl
reordered false b c d = refl

chosen : (b : Bool) (steps : Option Steps) (s step : ℕ)
    → has_other (if b then added steps s else steps) step ≡ ((b && not (nat_eq s step)) || has_other steps step)
chosen true steps s step = one_step steps s step
chosen false steps s step = refl

-- one mention more
one_mention : (at m : Mention) (steps : Option Steps)
    → has_other (with_step at.scope.op at.text steps m) at.scope.step
    ≡ (defines_for at m || has_other steps at.scope.step)
one_mention at m steps =
    chosen (is_own m.role && (nat_eq at.scope.op m.scope.op && same_text at.text m.text)) steps m.scope.step at.scope.step
    ∙ ap (λ b. b || has_other steps at.scope.step)
    (ap (λ x. is_own m.role && (x && same_text at.text m.text) && not (nat_eq m.scope.step at.scope.step))
    (number_either at.scope.op m.scope.op)
    ∙ ap (λ x. is_own m.role && (nat_eq m.scope.op at.scope.op && x) && not (nat_eq m.scope.step at.scope.step))
    (text_either at.text m.text)
    ∙ sym (reordered (is_own m.role) (nat_eq m.scope.op at.scope.op) (not (nat_eq m.scope.step at.scope.step)) (same_text m.text at.text)))

or_assoc : (a b c : Bool) → (b || (a || c)) ≡ ((a || b) || c)
or_assoc true true c = refl
or_assoc true false c = refl
or_assoc false true c = refl
or_assoc false false c = refl

over : (at : Mention) (ms : List Mention) (steps : Option Steps)
    → has_other (fold (with_step at.scope.op at.text) steps ms) at.scope.step
    ≡ (list_any (defines_for at) ms || has_other steps at.scope.step)
over at [] steps = refl
over at (m ∷ ms) steps =
    over at ms (with_step at.scope.op at.text steps m)
    ∙ ap (λ b. list_any (defines_for at) ms || b) (one_mention at m steps)
    ∙ or_assoc (defines_for at m) (list_any (defines_for at) ms) (has_other steps at.scope.step)

or_false : (b : Bool) → (b || false) ≡ b
or_false true = refl
or_false false = refl

-- another step of the region defines the name
pub other_defines : (at : Mention) (ms : List Mention)
    → has_other (steps_of at.scope.op at.text ms) at.scope.step ≡ list_any (defines_for at) ms
other_defines at ms = over at ms None ∙ or_false (list_any (defines_for at) ms)

pub steps_more : (op : ℕ) (text : List ℕ) (ms : List Mention) (m : Mention)
    → steps_of op text (ms ++ m ∷ []) ≡ with_step op text (steps_of op text ms) m
steps_more op text ms m = fold-append (with_step op text) None ms (m ∷ [])

-- what a region doesn't define changes nothing
pub definers_same : (d : Definers) (ms : List Mention) (m : Mention) → is_own m.role ≡ false → AreDefiners d ms
    → AreDefiners d (ms ++ m ∷ [])
definers_same d ms m other known = λ op text.
    known op text
    ∙ ap (λ b. if b && (nat_eq op m.scope.op && same_text text m.text) then added (steps_of op text ms) m.scope.step else steps_of op text ms)
    (sym other)
    ∙ sym (steps_more op text ms m)

pub definers_more : (d e : Definers) (ms : List Mention) (text : List ℕ) (scope : Scope) → AddsStep d e scope.op text scope.step
    → AreDefiners d ms → AreDefiners e (ms ++ mention own text scope ∷ [])
definers_more d e ms text scope adds known = λ op name.
    adds op name
    ∙ ap (λ s. if nat_eq op scope.op && same_text name text then added s scope.step else s) (known op name)
    ∙ sym (steps_more op name ms (mention own text scope))

used_by : (before : List Mention) (m : Mention) (a b : Bool) → m.scope.in_region ≡ a → list_any (defines_for m) before ≡ b
    → region_of_use before m ≡ (if a && b then Some m.scope.op else None)
used_by before m a b e f = rw (e, f) refl

pub used_inside : (d : Definers) (m : Mention) (found : Bool) → m.scope.in_region ≡ true
    → found ≡ has_other (steps_at d m.scope.op m.text) m.scope.step
    → (before : List Mention) → AreDefiners d before
    → (if found then Some m.scope.op else None) ≡ region_of_use before m
used_inside d m found inside is before known =
    let all : list_any (defines_for m) before ≡ found =
    sym (other_defines m before) ∙ ap (λ s. has_other s m.scope.step) (sym (known m.scope.op m.text)) ∙ sym is in
    sym (used_by before m true found inside all)

pub used_outside : (m : Mention) → m.scope.in_region ≡ false → (before : List Mention) → None ≡ region_of_use before m
used_outside m outside before = sym (used_by before m false (list_any (defines_for m) before) outside refl)

pub not_outside : (b : Bool) → not b ≡ false → b ≡ true
not_outside true e = refl
not_outside false e = cc
