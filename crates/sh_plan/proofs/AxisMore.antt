-- One axis more divides each part of a dimension into parts of one size.
use Rattle.std.proofs.Common.{◌≡◌, ◌∙◌, ℕ, ◌+◌, ◌-◌, ◌*◌, ◌/◌, ◌%◌, ◌<◌, ◌≤◌, true, List, [], ◌∷◌, ◌++◌, length, take, get_or, ap, sym, subst, arith}
use Rattle.std.specs.Int.{div_ceil}
use Rattle.std.proofs.Math.Nat.{mul-div_cancel, mul-le-mul_right}
use Rattle.std.proofs.lemmas.List.{take_more}
use Rattle.std.proofs.lemmas.Grind.{fold-append}
use Rattle.sh_base.specs.Shape.{cell_count, unflat_of}
use Rattle.sh_base.proofs.IndexLaws.{IsIndexOf-entry}
use Rattle.sh_base.proofs.ShapeLaws.{unflat_of-within}
use Rattle.sh_grid.specs.Grid.{AreAxesOf, IsGrid, group_size_of, place_in}
use Rattle.sh_grid.proofs.GroupLaws.{axes_join, place_in-below}
use Rattle.sh_grid.proofs.GroupSteps.{AreAxesOf-take, group_size_of-some}
use Rattle.sh_sharding.specs.declared.shardings.Dimension.{Dimension}
use Rattle.sh_sharding.specs.declared.shardings.Mark.TheVariants.{Balanced}
use Rattle.sh_sharding.specs.Sharding.{is_even, offset_at, offset_of, part_of, part_size, parts_of, size_in, size_of_part, start_in}
use Rattle.sh_sharding.proofs.EvenLaws.{divides_front, group_size_of-push}
use Rattle.sh_plan.specs.Moves.{last_axis, with_axis, without_last}
use Rattle.sh_plan.proofs.Inside.{IsInside}
use Rattle.sh_plan.proofs.MoveSteps.{last_apart}
use Rattle.sh_plan.proofs.States.{even_is, some_split}
use Rattle.sh_plan.proofs.Towards.{even_front, front}

-- ---- parts of one size

-- the number of parts divides the extent
pub record IsRegular (g : List ℕ) (d : Dimension) : Type 0 where
  pub axes : AreAxesOf (length g) d.axes
  pub balanced : d.mark ≡ Balanced
  pub divided : d.extent % parts_of g d ≡ 0

-- each part is as long as the next
pub record IsEvenPart (g : List ℕ) (d : Dimension) (device : ℕ) : Type 0 where
  pub begins : start_in g device d ≡ part_of g d device * (d.extent / parts_of g d)
  pub size : size_in g device d ≡ d.extent / parts_of g d

record IsQuotient (extent parts : ℕ) : Type 0 where
  pub up : div_ceil extent parts ≡ extent / parts
  pub whole : extent / parts * parts ≡ extent

quotient : (extent parts : ℕ) → 0 < parts → extent % parts ≡ 0 → IsQuotient extent parts
quotient extent parts some none = record {
  up = rw none (omega arith);
  whole = omega (arith, none);
}

even_offset : (extent parts i : ℕ) → 0 < parts → extent % parts ≡ 0 → i ≤ parts → offset_of extent parts Balanced i ≡ i * (extent / parts)
unfolding offset_of
even_offset extent parts i some none within =
    let q : IsQuotient extent parts = quotient extent parts some none in
    let most : i * (extent / parts) ≤ parts * (extent / parts) = mul-le-mul_right (extent / parts) within in
    let whole = q.whole in
    rw q.up (omega (arith, most, whole))

pub even_part : (g : List ℕ) (d : Dimension) (device : ℕ) → IsGrid g → IsRegular g d → device < cell_count g → IsEvenPart g d device
unfolding start_in size_in part_of parts_of offset_at part_size size_of_part
even_part g d device grid r here =
    let some = group_size_of-some g d.axes grid.positive r.axes in
    let below = place_in-below g d.axes device here r.axes in
    let from = even_offset d.extent (group_size_of g d.axes) (place_in g d.axes device) some r.divided (omega (arith, below)) in
    let to = even_offset d.extent (group_size_of g d.axes) (place_in g d.axes device + 1) some r.divided (omega (arith, below)) in
    let size : offset_of d.extent (group_size_of g d.axes) Balanced (place_in g d.axes device + 1) - offset_of d.extent (group_size_of g d.axes) Balanced (place_in g d.axes device)
    ≡ d.extent / group_size_of g d.axes = omega (arith, from, to) in
    record { begins = rw r.balanced from; size = rw r.balanced size }

-- ---- one axis more

-- each part is divided into so many of one size
pub record IsCutBy (g : List ℕ) (k : ℕ) (d e : Dimension) : Type 0 where
  pub some : 0 < k
  pub inside : IsInside g d e
  pub sizes : (device : ℕ) → device < cell_count g → size_in g device d ≡ k * size_in g device e

place_in-push : (g axes : List ℕ) (a device : ℕ) →
    place_in g (axes ++ a ∷ []) device ≡ place_in g axes device * get_or g a 0 + get_or (unflat_of g device) a 0
unfolding place_in
place_in-push g axes a device = fold-append (λ place b. place * get_or g b 0 + get_or (unflat_of g device) b 0) 0 axes (a ∷ [])

-- a part, and one of those that it is divided into
record IsNested (k from long start size : ℕ) : Type 0 where
  pub begins : from ≤ start
  pub ends : start + size ≤ from + long
  pub sizes : long ≡ k * size

nested : (i k c q : ℕ) → c < k → IsNested k (i * (q * k)) (q * k) ((i * k + c) * q) q
nested i k c q below =
    let most : (c + 1) * q ≤ k * q = mul-le-mul_right q (omega (arith, below)) in
    record { begins = omega arith; ends = omega (arith, most); sizes = omega arith }

-- the parts before and after, each of one size
pub record IsAxisMore (g : List ℕ) (d : Dimension) (a device : ℕ) : Type 0 where
  pub few : IsEvenPart g d device
  pub many : IsEvenPart g (with_axis d a) device
  pub size : d.extent / parts_of g d ≡ d.extent / parts_of g (with_axis d a) * get_or g a 0

pub axis_parts : (g : List ℕ) (d : Dimension) (a device : ℕ) → IsGrid g → AreAxesOf (length g) (with_axis d a).axes → is_even g (with_axis d a) ≡ true →
    device < cell_count g → IsAxisMore g d a device
unfolding part_of parts_of
axis_parts g d a device grid axes even here =
    let e = even_is g (with_axis d a) even in
    let parts = (axes_join (length g) d.axes (a ∷ [])).0 axes in
    let push : group_size_of g (d.axes ++ a ∷ []) ≡ group_size_of g d.axes * get_or g a 0 = group_size_of-push g d.axes a in
    let all : 0 < group_size_of g d.axes * get_or g a 0 = subst (λ n. 0 < n) push (group_size_of-some g (d.axes ++ a ∷ []) grid.positive axes) in
    let some = group_size_of-some g d.axes grid.positive parts.0 in
    let divided : d.extent % (group_size_of g d.axes * get_or g a 0) ≡ 0 = subst (λ n. d.extent % n ≡ 0) push e.divided in
    let whole = (quotient d.extent (group_size_of g d.axes * get_or g a 0) all divided).whole in
    let product : d.extent ≡ d.extent / (group_size_of g d.axes * get_or g a 0) * get_or g a 0 * group_size_of g d.axes = omega (arith, whole) in
    let size : d.extent / group_size_of g d.axes ≡ d.extent / (group_size_of g d.axes * get_or g a 0) * get_or g a 0 =
    ap (λ n. n / group_size_of g d.axes) product ∙ mul-div_cancel (d.extent / (group_size_of g d.axes * get_or g a 0) * get_or g a 0) some in
    record {
      few = even_part g d device grid (record {
        axes = parts.0;
        balanced = e.balanced;
        divided = divides_front d.extent (group_size_of g d.axes) (get_or g a 0) some all divided;
      }) here;
      many = even_part g (with_axis d a) device grid (record { axes = axes; balanced = e.balanced; divided = e.divided }) here;
      size = rw push size;
    }

axis_more : (g : List ℕ) (d : Dimension) (a device : ℕ) → IsGrid g → AreAxesOf (length g) (with_axis d a).axes → is_even g (with_axis d a) ≡ true →
    device < cell_count g → IsNested (get_or g a 0) (start_in g device d) (size_in g device d) (start_in g device (with_axis d a)) (size_in g device (with_axis d a))
unfolding part_of parts_of
axis_more g d a device grid axes even here =
    let p = axis_parts g d a device grid axes even here in
    let k = get_or g a 0 in
    let parts = (axes_join (length g) d.axes (a ∷ [])).0 axes in
    let below = IsIndexOf-entry g (unflat_of g device) a (unflat_of-within g device here) parts.2.0 in
    let place = place_in-push g d.axes a device in
    rw (p.few.begins, p.few.size, p.many.begins, p.many.size, place, p.size)
    (nested (place_in g d.axes device) (get_or g a 0) (get_or (unflat_of g device) a 0) (d.extent / group_size_of g (d.axes ++ a ∷ [])) below)

-- where an axis more leaves a dimension even
pub cut_by : (g : List ℕ) (d : Dimension) (a : ℕ) → IsGrid g → AreAxesOf (length g) (with_axis d a).axes → is_even g (with_axis d a) ≡ true →
    IsCutBy g (get_or g a 0) d (with_axis d a)
cut_by g d a grid axes even = record {
  some = grid.positive a 0 ((axes_join (length g) d.axes (a ∷ [])).0 axes).2.0;
  inside = record {
    begins = λ device here. (axis_more g d a device grid axes even here).begins;
    ends = λ device here. (axis_more g d a device grid axes even here).ends;
  };
  sizes = λ device here. (axis_more g d a device grid axes even here).sizes;
}

-- the last axis of an even dimension
pub cut_by_last : (g : List ℕ) (d : Dimension) → IsGrid g → AreAxesOf (length g) d.axes → is_even g d ≡ true →
    IsCutBy g (get_or g (last_axis d) 0) (without_last d) d
cut_by_last g d grid axes even =
    let apart = last_apart d.axes (some_split d.axes (even_is g d even).split) in
    let same : d ≡ with_axis (without_last d) (last_axis d) = ap (λ (xs : List ℕ). record d { axes = xs }) apart in
    subst (λ (x : Dimension). IsCutBy g (get_or g (last_axis d) 0) (without_last d) x) (sym same)
    (cut_by g (without_last d) (last_axis d) grid (subst (λ xs. AreAxesOf (length g) xs) apart axes) (subst (λ (x : Dimension). is_even g x ≡ true) same even))

-- where a dimension is split by one more of its axes
pub inside_front : (g : List ℕ) (t : Dimension) (k : ℕ) → IsGrid g → AreAxesOf (length g) t.axes → is_even g t ≡ true → k < length t.axes →
    IsInside g (front t k) (front t (k + 1))
inside_front g t k grid own even below =
    let grown : take (k + 1) t.axes ≡ take k t.axes ++ get_or t.axes k 0 ∷ [] = take_more t.axes k 0 below in
    let same : front t (k + 1) ≡ with_axis (front t k) (get_or t.axes k 0) = ap (λ (xs : List ℕ). record t { axes = xs }) grown in
    let even_then : is_even g (front t (k + 1)) ≡ true = even_front g t (k + 1) grid own even (omega arith) (omega (arith, below)) in
    subst (λ (x : Dimension). IsInside g (front t k) x) (sym same)
    (cut_by g (front t k) (get_or t.axes k 0) grid (subst (λ xs. AreAxesOf (length g) xs) grown (AreAxesOf-take (length g) t.axes (k + 1) own))
    (subst (λ (x : Dimension). is_even g x ≡ true) same even_then)).inside
