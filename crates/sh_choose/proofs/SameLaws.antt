-- When two shardings on one grid are the same.
use Rattle.std.proofs.Common.{◌≡◌, Bool, true, List, [], ◌∷◌, refl, ap, ap₂, sym, ◌∙◌, inl, inr, arith}
use Rattle.std.specs.Prelude.{nat_eq, not, ◌&&◌, ◌↔◌, IsTrue, ℕ}
use Rattle.std.specs.Cmp.Lexicographic.{pointwise, same_text}
use Rattle.std.proofs.lemmas.Bool.{cases_Bool}
use Rattle.std.proofs.lemmas.Bool.Decides.{nat_tests}
use Rattle.sh_sharding.proofs.Cases.{and_left, and_right, not_both}
use Rattle.sh_sharding.specs.declared.shardings.Mark.{Mark}
use Rattle.sh_sharding.specs.declared.shardings.Mark.TheVariants.{Balanced, Offsets}
use Rattle.sh_sharding.specs.Normal.{Division, IsSame, normal_form}
use Rattle.sh_sharding.specs.Sharding.{ShardingValue}
use Rattle.sh_grid.specs.Grid.{GridValue}
use Rattle.sh_iface.specs.LoopNest.{LoopNest, value_at}
use Rattle.sh_iface.specs.Splits.{OptionValue, implied_of}
use Rattle.sh_choose.specs.declared.chosen.Known.{Known}
use Rattle.sh_choose.specs.Weights.{are_equal_divisions, are_equal_marks, differs, is_same}

same_number : (a b : ℕ) → nat_eq a b ≡ true → a ≡ b
same_number a b h = grind (arith, nat_tests)

number_again : (a : ℕ) → nat_eq a a ≡ true
number_again a = grind (arith, nat_tests)

numbers_again : (xs : List ℕ) → pointwise nat_eq xs xs ≡ true
numbers_again [] = refl
numbers_again (x ∷ xs) = ap₂ ◌&&◌ (number_again x) (numbers_again xs)

marks_equal : (a b : Mark) → are_equal_marks a b ≡ true → a ≡ b
marks_equal Balanced Balanced h = refl
marks_equal Balanced (Offsets ys) h = absurd (cc)
marks_equal (Offsets xs) Balanced h = absurd (cc)
marks_equal (Offsets xs) (Offsets ys) h = ap Offsets (same_text xs ys (sym h))

marks_again : (a : Mark) → are_equal_marks a a ≡ true
marks_again Balanced = refl
marks_again (Offsets xs) = numbers_again xs

divisions_equal : (a b : Division) → are_equal_divisions a b ≡ true → a ≡ b
divisions_equal a b h =
    let axes = same_text a.axes b.axes (sym (and_left (pointwise nat_eq a.axes b.axes) (are_equal_marks a.mark b.mark && (nat_eq a.low b.low && nat_eq a.high b.high)) h)) in
    let rest = and_right (pointwise nat_eq a.axes b.axes) (are_equal_marks a.mark b.mark && (nat_eq a.low b.low && nat_eq a.high b.high)) h in
    let mark = marks_equal a.mark b.mark (and_left (are_equal_marks a.mark b.mark) (nat_eq a.low b.low && nat_eq a.high b.high) rest) in
    let halos = and_right (are_equal_marks a.mark b.mark) (nat_eq a.low b.low && nat_eq a.high b.high) rest in
    let low : a.low ≡ b.low = same_number a.low b.low (and_left (nat_eq a.low b.low) (nat_eq a.high b.high) halos) in
    let high : a.high ≡ b.high = same_number a.high b.high (and_right (nat_eq a.low b.low) (nat_eq a.high b.high) halos) in
    λ j. record { axes = axes j; mark = mark j; low = low j; high = high j }

divisions_again : (a : Division) → are_equal_divisions a a ≡ true
divisions_again a = ap₂ ◌&&◌ (numbers_again a.axes) (ap₂ ◌&&◌ (marks_again a.mark) (ap₂ ◌&&◌ (number_again a.low) (number_again a.high)))

lists_equal : (xs ys : List Division) → pointwise are_equal_divisions xs ys ≡ true → xs ≡ ys
lists_equal [] [] h = refl
lists_equal [] (y ∷ ys) h = absurd (cc)
lists_equal (x ∷ xs) [] h = absurd (cc)
lists_equal (x ∷ xs) (y ∷ ys) h =
    ap₂ ◌∷◌ (divisions_equal x y (and_left (are_equal_divisions x y) (pointwise are_equal_divisions xs ys) h))
    (lists_equal xs ys (and_right (are_equal_divisions x y) (pointwise are_equal_divisions xs ys) h))

lists_again : (xs : List Division) → pointwise are_equal_divisions xs xs ≡ true
lists_again [] = refl
lists_again (x ∷ xs) = ap₂ ◌&&◌ (divisions_again x) (lists_again xs)

pub same_shown : (a b : ShardingValue) → a.grid ≡ b.grid → IsTrue (is_same a b) ↔ IsSame a b
unfolding is_same
same_shown a b grid = (
  λ t. record { grid = grid; form = lists_equal (normal_form a.dimensions) (normal_form b.dimensions) t },
  λ s. ap (λ ds. pointwise are_equal_divisions (normal_form a.dimensions) ds) (sym s.form) ∙ lists_again (normal_form a.dimensions),
)

again : (a b : ShardingValue) (shown : Bool) → a.grid ≡ b.grid → (IsTrue shown → IsSame a b) × (IsSame a b → IsTrue shown) → not shown ≡ not (is_same a b)
again a b shown grid h =
    let law = same_shown a b grid in
    elim (cases_Bool shown) [
      | inl t ↦ ap not (t ∙ sym (law.1 (h.0 t)))
      | inr f ↦ elim (cases_Bool (is_same a b)) [
        | inl t ↦ absurd (not_both shown (h.1 (law.0 t)) f)
        | inr none ↦ ap not (f ∙ sym none)
      ]
    ]

-- a known sharding beside the one that an option implies
pub differs_shown : (nest : LoopNest) (g : GridValue) (o : OptionValue) (k : Known) (implied : ShardingValue) (shown : Bool) → k.sharding.grid ≡ g → implied ≡ implied_of g nest o (value_at nest k.v) → (IsTrue shown → IsSame k.sharding implied) × (IsSame k.sharding implied → IsTrue shown) → not shown ≡ differs nest g o k
unfolding differs implied_of
differs_shown nest g o k implied shown grid e h =
    again k.sharding implied shown (grid ∙ sym (ap (λ s. s.grid) e)) h ∙ ap (λ s. not (is_same k.sharding s)) e
