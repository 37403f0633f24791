-- Which dimensions are even.
use Rattle.std.proofs.Common.{◌≡◌, ◌≢◌, ℕ, zero, suc, ◌*◌, ◌+◌, ◌/◌, ◌%◌, ◌<◌, List, [], ◌∷◌, ◌++◌, get_or, map, Bool, true, false, refl, ap, ap₂, sym, ◌∙◌, arith, not}
use Rattle.std.specs.Prelude.{◌==◌, ◌&&◌, IsTrue}
use Rattle.std.proofs.lemmas.Bool.Decides.{nat_tests}
use Rattle.std.proofs.lemmas.List.{map_push}
use Rattle.std.proofs.Math.Arith.{mod-mul}
use Rattle.sh_base.specs.Shape.{cell_count}
use Rattle.sh_base.proofs.ShapeLaws.{cell_count-append}
use Rattle.sh_grid.specs.Grid.{group_size_of, on_axes}
use Rattle.sh_sharding.specs.declared.shardings.Mark.{Mark}
use Rattle.sh_sharding.specs.declared.shardings.Mark.TheVariants.{Balanced, Offsets}
use Rattle.sh_sharding.specs.declared.shardings.Dimension.{Dimension}
use Rattle.sh_sharding.specs.declared.views.DimensionView.{DimensionView}
use Rattle.sh_sharding.specs.Sharding.{parts_of, is_split, is_split_by, is_balanced, is_balanced_mark, is_even}
use Rattle.sh_sharding.specs.Views.{axes_in, described}
use Rattle.sh_sharding.proofs.Cases.{and_left, and_right}

pub even_split : (g : List ℕ) (d : Dimension) (p : ℕ) (balanced r : Bool) → is_split d ≡ true → p ≡ parts_of g d → balanced ≡ is_balanced_mark d.mark → r ≡ (balanced && (d.extent % p == 0)) → r ≡ is_even g d
unfolding is_even
even_split g d p balanced r split parts is e =
    e ∙ ap₂ (λ (b : Bool) n. b && (d.extent % n == 0)) is parts ∙ sym (ap (λ (b : Bool). b && (is_balanced d && (d.extent % parts_of g d == 0))) split)

pub even_whole : (g : List ℕ) (d : Dimension) → is_split d ≡ false → is_even g d ≡ false
unfolding is_even
even_whole g d whole = ap (λ (b : Bool). b && (is_balanced d && (d.extent % parts_of g d == 0))) whole

split_by : (axes : List ℕ) → axes ≢ [] → is_split_by axes ≡ true
split_by [] h = absurd (h refl)
split_by (a ∷ axes) h = refl

balanced_is : (m : Mark) (b : Bool) → (IsTrue b → m ≡ Balanced) → (m ≡ Balanced → IsTrue b) → b ≡ is_balanced_mark m
balanced_is Balanced b h k = k refl
balanced_is (Offsets os) true h k = absurd (cc (h refl))
balanced_is (Offsets os) false h k = refl

pub even_view_split : (g : List ℕ) (v : DimensionView) (p : ℕ) (balanced r : Bool) → axes_in v.axes ≢ [] → p ≡ group_size_of g (axes_in v.axes)
    → (IsTrue balanced → (described g v).mark ≡ Balanced) × ((described g v).mark ≡ Balanced → IsTrue balanced) → r ≡ (balanced && (v.extent % p == 0)) → r ≡ is_even g (described g v)
unfolding described parts_of
even_view_split g v p balanced r some parts is e = even_split g (described g v) p balanced r (split_by (axes_in v.axes) some) parts (balanced_is (described g v).mark balanced is.0 is.1) e

pub even_view_whole : (g : List ℕ) (v : DimensionView) (empty : Bool) → axes_in v.axes ≡ [] → empty ≡ true → not empty ≡ is_even g (described g v)
unfolding described
even_view_whole g v empty none e = ap not e ∙ sym (even_whole g (described g v) (ap is_split_by none))

-- ---- what evenness says

pub record IsEvenDimension (g : List ℕ) (d : Dimension) : Type 0 where
  pub split : is_split d ≡ true
  pub balanced : d.mark ≡ Balanced
  pub divisible : d.extent % parts_of g d ≡ 0

mark_is : (m : Mark) → is_balanced_mark m ≡ true → m ≡ Balanced
mark_is Balanced h = refl
mark_is (Offsets os) h = absurd (cc)

pub even_dimension : (g : List ℕ) (d : Dimension) → is_even g d ≡ true → IsEvenDimension g d
unfolding is_even
even_dimension g d h =
    let both = and_right (is_split d) (is_balanced d && (d.extent % parts_of g d == 0)) h in
    let rest : (d.extent % parts_of g d == 0) ≡ true = and_right (is_balanced d) (d.extent % parts_of g d == 0) both in
    record {
      split = and_left (is_split d) (is_balanced d && (d.extent % parts_of g d == 0)) h;
      balanced = mark_is d.mark (and_left (is_balanced d) (d.extent % parts_of g d == 0) both);
      divisible = grind (arith, nat_tests);
    }

pub is_even_dimension : (g : List ℕ) (d : Dimension) → IsEvenDimension g d → is_even g d ≡ true
unfolding is_even
is_even_dimension g d h =
    let zero = h.divisible in
    let test : (d.extent % parts_of g d == 0) ≡ true = grind (arith, nat_tests) in
    ap₂ (λ (a b : Bool). a && b) h.split (ap₂ (λ (a b : Bool). a && b) (ap is_balanced_mark h.balanced) test)

-- ---- one axis more

pub group_size_of-push : (g axes : List ℕ) (a : ℕ) → group_size_of g (axes ++ a ∷ []) ≡ group_size_of g axes * get_or g a 0
unfolding group_size_of on_axes
group_size_of-push g axes a = ap cell_count (map_push (λ b. get_or g b 0) axes a) ∙ cell_count-append (map (λ b. get_or g b 0) axes) (get_or g a 0)

factor_some : (q e : ℕ) → 0 < q * e → 0 < e
factor_some q zero h = let none : q * 0 ≡ 0 = omega arith in absurd (omega arith)
factor_some q (suc e) h = omega arith

-- what the product divides, a factor divides
pub divides_front : (n q e : ℕ) → 0 < q → 0 < q * e → n % (q * e) ≡ 0 → n % q ≡ 0
divides_front n q e some all h =
    let turned : q * e ≡ e * q = omega arith in
    let digits : n % (e * q) ≡ (n / q % e) * q + n % q = mod-mul n (factor_some q e all) some in
    let zero : n % (e * q) ≡ 0 = sym (ap (λ m. n % m) turned) ∙ h in
    omega arith
