-- The names of block arguments, by their places.
use Rattle.std.proofs.Common.{◌≡◌, ◌∙◌, ◌<◌, ◌≤◌, ◌+◌, ◌-◌, inl, inr, ◌||◌, ℕ, suc, Bool, true, false, not, nat_eq, List, [], ◌∷◌, ◌++◌, map, length, Some, refl, ap, sym, subst, arith, append_assoc, length-append, if◌then◌else◌, lt-ltb, true≢false}
use Rattle.std.specs.Prelude.{fold}
use Rattle.std.specs.List.{position_or_len}
use Rattle.std.proofs.Math.Bool.{or-false}
use Rattle.std.proofs.lemmas.Bool.{cases_Bool, eq-eqb, eqb-true, or_cases, or_left, or_parts, or_right}
use Rattle.std.proofs.lemmas.Grind.{fold-append}
use Rattle.std.proofs.lemmas.List.{append-nil}
use Rattle.std.proofs.lemmas.List.Folds.{list_any-append}
use Rattle.sh_base.specs.declared.numbers.Width.{Width}
use Rattle.sh_ir.specs.Numbers.{are_distinct}
use Rattle.sh_ir.specs.Regions.{is_among, own_names}
use Rattle.sh_ir.specs.declared.bodies.Body.{Body}
use Rattle.sh_print.specs.Tokens.{scope_of_body}
use Rattle.sh_print.specs.Values.{Scope, each_once, name_in, name_inside, name_text, own_name_at}
use Rattle.sh_print.specs.declared.names.Name.TheVariants.{BlockArgument, BodyValue}
use Rattle.sh_print_laws.proofs.LoopForms.{region_text, texts_from}
use Rattle.sh_print_laws.proofs.Tests.{and_parts}
use Rattle.sh_print_laws.proofs.Positions.{is_placed, once_more, place_of}

once_length : (names ids : List ℕ) → length (fold once_more names ids) ≤ length names + length ids
once_length names [] = omega arith
once_length names (x ∷ xs) = elim (cases_Bool (is_among names x)) [
  | inl e ↦ rw e (let h = once_length names xs in omega arith)
  | inr e ↦ rw e (let h = once_length (names ++ x ∷ []) xs in let l = length-append names (x ∷ []) in omega arith)
]

pub each_once_length : (ids : List ℕ) → length (each_once ids) ≤ length ids
each_once_length ids = let h = once_length [] ids in omega arith

-- none is among those before it
abbrev AreNew : List ℕ → List ℕ → Type 0
AreNew names [] = Unit {0}
AreNew names (x ∷ xs) = (is_among names x ≡ false) × AreNew (names ++ x ∷ []) xs

-- distinct names of which none is among these are new
distinct_new : (names ids : List ℕ) → are_distinct ids ≡ true → ((a : ℕ) → is_among names a ≡ true → is_among ids a ≡ false) → AreNew names ids
distinct_new names [] h apart = tt
distinct_new names (x ∷ xs) h apart =
    let both = and_parts (not (is_among xs x)) (are_distinct xs) h in (
      elim (cases_Bool (is_among names x)) [
        | inr e ↦ e
        | inl e ↦ absurd (true≢false (sym (or_left (nat_eq x x) (is_among xs x) (eq-eqb x x refl)) ∙ apart x e))
      ],
      distinct_new (names ++ x ∷ []) xs both.1 (λ a h. elim (or_cases (is_among names a) (nat_eq a x || false) (sym (list_any-append (nat_eq a) names (x ∷ [])) ∙ h)) [
        | inl e ↦ (or_parts (nat_eq a x) (is_among xs a) (apart a e)).1
        | inr e ↦ subst (λ b. is_among xs b ≡ false) (sym (eqb-true a x (sym (or-false (nat_eq a x)) ∙ e))) (none (is_among xs x) both.0)
      ]),
    )
  where
    none : (b : Bool) → not b ≡ true → b ≡ false
    none false h = refl
    none true h = absurd (let e : false ≡ true = h in cc)

new_kept : (names ids : List ℕ) → AreNew names ids → fold once_more names ids ≡ names ++ ids
new_kept names [] h = sym (append-nil names)
new_kept names (x ∷ xs) h = rw h.0 (new_kept (names ++ x ∷ []) xs h.1 ∙ append_assoc names (x ∷ []) xs)

-- Those names come first.
record Begins (names all : List ℕ) : Type 0 where
  pub more : List ℕ
  pub is : all ≡ names ++ more

fold_begins : (names ids : List ℕ) → Begins names (fold once_more names ids)
fold_begins names [] = record { more = []; is = sym (append-nil names) }
fold_begins names (x ∷ xs) = elim (cases_Bool (is_among names x)) [
  | inl e ↦ rw e (fold_begins names xs)
  | inr e ↦ let h = fold_begins (names ++ x ∷ []) xs in rw e (record { more = x ∷ h.more; is = h.is ∙ append_assoc names (x ∷ []) h.more })
]

place_behind : (names more : List ℕ) (x : ℕ) → is_among names x ≡ false → position_or_len (nat_eq x) (names ++ x ∷ more) ≡ length names
place_behind [] more x h = rw (eq-eqb x x refl) refl
place_behind (n ∷ names) more x h = elim (cases_Bool (nat_eq x n)) [
  | inl e ↦ absurd (true≢false (sym (or_left (nat_eq x n) (is_among names x) e) ∙ h))
  | inr e ↦ let rest = place_behind names more x (ap (λ b. b || is_among names x) (sym e) ∙ h) in rw e (omega arith)
]

among_there : (names more : List ℕ) (x : ℕ) → is_among (names ++ x ∷ more) x ≡ true
among_there [] more x = or_left (nat_eq x x) (is_among more x) (eq-eqb x x refl)
among_there (n ∷ names) more x = or_right (nat_eq x n) (is_among (names ++ x ∷ more) x) (among_there names more x)

module _ (own outer : Scope) where
  texts_by_place : (names ids more : List ℕ) (ws : List Width) → own.ids ≡ names ++ (ids ++ more) → AreNew names ids → length ids ≡ length ws → length names + length ids ≤ own.arguments
      → map (λ id. name_text (name_inside own outer id)) ids ≡ texts_from (length names) ws
  texts_by_place names [] more [] all new same few = refl
  texts_by_place names [] more (w ∷ ws) all new same few = absurd (let e : 0 ≡ suc (length ws) = same in omega arith)
  texts_by_place names (x ∷ xs) more [] all new same few = absurd (let e : suc (length xs) ≡ 0 = same in omega arith)
  texts_by_place names (x ∷ xs) more (w ∷ ws) all new same few =
      let placed : place_of own x ≡ length names = ap (position_or_len (nat_eq x)) all ∙ place_behind names (xs ++ more) x new.0 in
      let there : is_among own.ids x ≡ true = ap (λ ys. is_among ys x) all ∙ among_there names (xs ++ more) x in
      let less : length names < own.arguments = omega arith in
      let text : name_text (name_inside own outer x) ≡ name_text (BlockArgument (length names)) =
      ap (λ o. name_text (own_name_at own o (name_in outer x))) (is_placed own x there ∙ ap Some placed)
      ∙ ap (λ b. name_text (if b then BlockArgument (length names) else BodyValue (length names - own.arguments))) (lt-ltb (length names) own.arguments less) in
      let longer : length (names ++ x ∷ []) ≡ suc (length names) = length-append names (x ∷ []) ∙ omega arith in
      let rest = texts_by_place (names ++ x ∷ []) xs more ws (all ∙ sym (append_assoc names (x ∷ []) (xs ++ more))) new.1 (let e : length xs ≡ length ws = omega arith in e) (omega arith) in
      ap (λ t. t ∷ map (λ id. name_text (name_inside own outer id)) xs) text
      ∙ ap (λ ts. name_text (BlockArgument (length names)) ∷ ts) (rest ∙ ap (λ k. texts_from k ws) longer)

-- the block arguments of a region are printed by their places
pub argument_texts : (scope : Scope) (body : Body) → are_distinct body.args ≡ true → length body.args ≡ length body.widths → map (region_text scope body) body.args ≡ texts_from 0 body.widths
argument_texts scope body distinct typed =
    let ds : List ℕ = map (λ x. x.defines) body.ops in
    let new : AreNew [] body.args = distinct_new [] body.args distinct (λ a h. absurd (let e : false ≡ true = h in cc)) in
    let all : each_once (own_names body) ≡ fold once_more body.args ds = fold-append once_more [] body.args ds ∙ ap (λ names. fold once_more names ds) (new_kept [] body.args new) in
    let begins = fold_begins body.args ds in
    texts_by_place (scope_of_body body) scope [] body.args begins.more body.widths (all ∙ begins.is) new typed (omega arith)
