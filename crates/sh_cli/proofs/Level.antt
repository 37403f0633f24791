-- Refusals by place: of two neither comes before the other only where they are one.
--
-- So it is with numbers, with the variants of an enum without fields, and hence with places and with rules;
-- and where the first parts are level, the order of the second parts decides.
use mathlib.Core.Path.{◌∙◌, ap, sym, refl, subst}
use mathlib.Core.Logic.{inl, inr}
use denote.Struct.Field.{Field}
use denote.Enum.Bare.{Bare}
use denote.Enum.Compared.{by}
use denote.Enum.Declared.{Choice, values_one}
use Rattle.std.proofs.Common.{◌≡◌, ◌≢◌, ℕ, ◌<◌, List, [], ◌∷◌, ap₂, arith}
use Rattle.std.proofs.lemmas.Cmp.{ranked}
use Rattle.std.specs.declared.cmp.Ordering.{Ordering}
use Rattle.std.specs.declared.cmp.Ordering.TheVariants.{Less, Equal, Greater}
use Rattle.std.specs.Cmp.Derive.{points}
use Rattle.std.specs.Ordering.{MatchOrdering, nat_cmp, ordering_then}
use Rattle.sh_base.specs.declared.places.Refusal.{Refusal}
use Rattle.sh_base.specs.declared.places.Place.{Place}
use Rattle.sh_base.specs.declared.rules.Rule.{Rule}
use Rattle.sh_base.specs.contracts.places.RefusalOrd.TheImpl as refusal_order
use Rattle.sh_base.specs.contracts.places.PlaceOrd.TheImpl as place_order
use Rattle.sh_base.specs.contracts.rules.RuleOrd.TheImpl as rule_order
use Rattle.sh_base.specs.contracts.rules.Rule as rule_type

-- what is level by the first order is compared by the second
first_part : (p q : Ordering) → ordering_then p q ≢ Less → p ≢ Less
first_part Less q back = back
first_part Equal q back = λ e. back (cc)
first_part Greater q back = λ e. back e

one_number : (m n : ℕ) → nat_cmp n m ≢ Less → nat_cmp m n ≢ Less → m ≡ n
one_number m n back forth = by_cases (nat_cmp m n) (nat_cmp n m) (ranked m n _ refl) (ranked n m _ refl) forth back
  where
    by_cases : (o p : Ordering) → MatchOrdering o (m < n) (m ≡ n) (n < m) → MatchOrdering p (n < m) (n ≡ m) (m < n)
        → o ≢ Less → p ≢ Less → m ≡ n
    by_cases Less p x y back forth = absurd (back refl)
    by_cases Equal p x y back forth = x
    by_cases Greater Less x y back forth = absurd (forth refl)
    by_cases Greater Equal x y back forth = sym y
    by_cases Greater Greater x y back forth = omega (arith, x, y)

level_number : (n : ℕ) → nat_cmp n n ≡ Equal
level_number n = by_cases (nat_cmp n n) (ranked n n _ refl)
  where
    by_cases : (o : Ordering) → MatchOrdering o (n < n) (n ≡ n) (n < n) → o ≡ Equal
    by_cases Less x = absurd (omega (arith, x))
    by_cases Equal x = refl
    by_cases Greater x = absurd (omega (arith, x))

one_choice : (Fss : List (List Field)) → Bare Fss → (c d : Choice Fss) → by Less Greater Fss (points Equal Fss) d c ≢ Less
    → by Less Greater Fss (points Equal Fss) c d ≢ Less → c ≡ d
one_choice [] bare c d back forth = absurd c
one_choice ([] ∷ Fss) bare (inl x) (inl y) back forth = refl
one_choice ([] ∷ Fss) bare (inl x) (inr d) back forth = absurd (forth refl)
one_choice ([] ∷ Fss) bare (inr c) (inl y) back forth = absurd (back refl)
one_choice ([] ∷ Fss) bare (inr c) (inr d) back forth = ap inr (one_choice Fss bare c d back forth)
one_choice ((F ∷ Fs) ∷ Fss) bare c d back forth = absurd bare

one_rule : (a b : Rule) → rule_order.ghosts.cmp b a ≢ Less → rule_order.ghosts.cmp a b ≢ Less → a ≡ b
one_rule a b back forth =
    values_one rule_type.enum a b
    (one_choice rule_type.enum.parts tt (rule_type.enum.as_values a) (rule_type.enum.as_values b) back forth)

-- where the first is level, the second decides
second_part : (p q : Ordering) → p ≡ Equal → ordering_then p q ≢ Less → q ≢ Less
second_part p q level back = λ e. back (ap (λ o. ordering_then o q) level ∙ e)

one_place : (a b : Place) → place_order.ghosts.cmp b a ≢ Less → place_order.ghosts.cmp a b ≢ Less → a ≡ b
one_place a b back forth =
    let line : a.line ≡ b.line =
    one_number a.line b.line (first_part (nat_cmp b.line a.line) (nat_cmp b.column a.column) back)
    (first_part (nat_cmp a.line b.line) (nat_cmp a.column b.column) forth) in
    let there : nat_cmp b.line a.line ≡ Equal = ap (nat_cmp b.line) line ∙ level_number b.line in
    let here : nat_cmp a.line b.line ≡ Equal = ap (nat_cmp a.line) (sym line) ∙ level_number a.line in
    let column : a.column ≡ b.column =
    one_number a.column b.column (second_part (nat_cmp b.line a.line) (nat_cmp b.column a.column) there back)
    (second_part (nat_cmp a.line b.line) (nat_cmp a.column b.column) here forth) in
    ap₂ (λ (l c : ℕ). record { line = l; column = c }) line column

level_place : (a : Place) → place_order.ghosts.cmp a a ≡ Equal
level_place a = ap₂ ordering_then (level_number a.line) (level_number a.column)

pub one_least : (r s : Refusal) → refusal_order.ghosts.cmp s r ≢ Less → refusal_order.ghosts.cmp r s ≢ Less → r ≡ s
one_least r s back forth =
    let place : r.place ≡ s.place =
    one_place r.place s.place (first_part (place_order.ghosts.cmp s.place r.place) (rule_order.ghosts.cmp s.rule r.rule) back)
    (first_part (place_order.ghosts.cmp r.place s.place) (rule_order.ghosts.cmp r.rule s.rule) forth) in
    let there : place_order.ghosts.cmp s.place r.place ≡ Equal = ap (place_order.ghosts.cmp s.place) place ∙ level_place s.place in
    let here : place_order.ghosts.cmp r.place s.place ≡ Equal = ap (place_order.ghosts.cmp r.place) (sym place) ∙ level_place r.place in
    let rule : r.rule ≡ s.rule =
    one_rule r.rule s.rule (second_part (place_order.ghosts.cmp s.place r.place) (rule_order.ghosts.cmp s.rule r.rule) there back)
    (second_part (place_order.ghosts.cmp r.place s.place) (rule_order.ghosts.cmp r.rule s.rule) here forth) in
    ap₂ (λ (p : Place) (x : Rule). record { place = p; rule = x }) place rule
