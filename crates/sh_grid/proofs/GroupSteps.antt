-- One listed axis more: the steps of the loops over a list of axes.
use Rattle.std.proofs.Common.{◌≡◌, ℕ, zero, suc, ◌+◌, ◌-◌, ◌*◌, ◌/◌, ◌%◌, ◌<◌, ◌≤◌, List, [], ◌∷◌, ◌++◌, length, take, drop, get_or, set, map, refl, ap, sym, ◌∙◌, arith, subst, add-one}
use Rattle.std.specs.List.{fold, All}
use Rattle.std.proofs.lemmas.List.{length-set, take_more, drop_more, map_more, take_all, drop_all}
use Rattle.std.proofs.lemmas.Nat.{mod_below, div_below, mul-le}
use Rattle.std.proofs.Math.Nat.{mul-le-mul_left, mul-div_cancel_left}
use Rattle.sh_base.specs.Shape.{cell_count, IsIndexOf, flat_of, unflat_of}
use Rattle.sh_base.proofs.ShapeLaws.{cell_count-append, cell_count-take_more, flat_of-below, unflat_of-within, unflat_of-flat_of, flat_of-unflat_of}
use Rattle.sh_base.proofs.IndexLaws.{cell_count-some, cell_count-drop_some, cell_count-drop_le, cell_count-front_le, IsIndexOf-set_entry, cell_count-split, cell_count-set, rest_some, flat_of-moved}
use Rattle.sh_grid.specs.Grid.{IsGrid, IsNoneOf, AreAxesOf, on_axes, place_in, group_size_of, with_entries, member_of}
use Rattle.sh_base.specs.Limits.{max_devices}
use Rattle.sh_grid.proofs.GroupLaws.{on_axes-set_other, place_in-below}

-- ---- lists of axes

pub AreAxesOf-at : (rank : ℕ) (axes : List ℕ) (i : ℕ) → AreAxesOf rank axes → i < length axes → get_or axes i 0 < rank
AreAxesOf-at rank [] i m l = absurd (omega arith)
AreAxesOf-at rank (a ∷ axes) zero m l = m.0
AreAxesOf-at rank (a ∷ axes) (suc i) m l = AreAxesOf-at rank axes i m.2 (omega arith)

IsNoneOf-take : (a : ℕ) (axes : List ℕ) (i : ℕ) → IsNoneOf a axes → IsNoneOf a (take i axes)
IsNoneOf-take a axes zero m = tt
IsNoneOf-take a [] (suc i) m = tt
IsNoneOf-take a (b ∷ axes) (suc i) m = (m.0, IsNoneOf-take a axes i m.1)

pub AreAxesOf-take : (rank : ℕ) (axes : List ℕ) (i : ℕ) → AreAxesOf rank axes → AreAxesOf rank (take i axes)
AreAxesOf-take rank axes zero m = tt
AreAxesOf-take rank [] (suc i) m = tt
AreAxesOf-take rank (a ∷ axes) (suc i) m = (m.0, IsNoneOf-take a axes i m.1, AreAxesOf-take rank axes i m.2)

-- ---- sizes

-- a group is no larger than the grid
pub group_size_of-le : (s axes : List ℕ) → 0 < cell_count s → AreAxesOf (length s) axes → group_size_of s axes ≤ cell_count s
unfolding group_size_of on_axes
group_size_of-le s [] h m = omega arith
group_size_of-le s (a ∷ axes) h m =
    let one : List ℕ = set s a 1 in
    let same_rank : length one ≡ length s = length-set s a 1 in
    let apart : cell_count s ≡ get_or s a 0 * cell_count one = rw (cell_count-split s a m.0, cell_count-set s a 1 m.0) (omega arith) in
    let some : 0 < cell_count one = rest_some (get_or s a 0) (cell_count one) (subst (λ n. 0 < n) apart h) in
    let rec : cell_count (on_axes axes one) ≤ cell_count one = group_size_of-le one axes some (subst (λ n. AreAxesOf n axes) (sym same_rank) m.2) in
    let same : on_axes axes one ≡ on_axes axes s = on_axes-set_other axes s a 1 m.1 in
    let rec' : cell_count (on_axes axes s) ≤ cell_count one = subst (λ xs. cell_count xs ≤ cell_count one) same rec in
    rw apart (mul-le-mul_left (get_or s a 0) rec')

on_axes-some : (s axes : List ℕ) → All (λ n. 0 < n) s → AreAxesOf (length s) axes → 0 < cell_count (on_axes axes s)
unfolding on_axes
on_axes-some s [] h m = omega arith
on_axes-some s (a ∷ axes) h m =
    let first : 0 < get_or s a 0 = h a 0 m.0 in
    let rec = on_axes-some s axes h m.2 in
    let least : 1 * 1 ≤ get_or s a 0 * cell_count (on_axes axes s) = mul-le 1 1 (get_or s a 0) (cell_count (on_axes axes s)) (omega arith) (omega arith) in
    omega arith

pub group_size_of-some : (s axes : List ℕ) → All (λ n. 0 < n) s → AreAxesOf (length s) axes → 0 < group_size_of s axes
unfolding group_size_of
group_size_of-some s axes h m = on_axes-some s axes h m

group_size_of-more : (s axes : List ℕ) (i : ℕ) → i < length axes → group_size_of s (take (i + 1) axes) ≡ group_size_of s (take i axes) * get_or s (get_or axes i 0) 0
unfolding group_size_of on_axes
group_size_of-more s axes i l =
    ap cell_count (map_more (λ a. get_or s a 0) axes i 0 l) ∙ cell_count-append (map (λ a. get_or s a 0) (take i axes)) (get_or s (get_or axes i 0) 0)

-- one axis more in the size of a group
pub record IsSizeStep (s axes : List ℕ) (i size : ℕ) : Type 0 where
  pub value : size * get_or s (get_or axes i 0) 0 ≡ group_size_of s (take (i + 1) axes)
  pub few : size * get_or s (get_or axes i 0) 0 ≤ max_devices
  pub axis : get_or axes i 0 < length s

pub size_step : (s axes : List ℕ) (i size : ℕ) → IsGrid s → AreAxesOf (length s) axes → i < length axes → size ≡ group_size_of s (take i axes) → IsSizeStep s axes i size
size_step s axes i size g m l e =
    let value : size * get_or s (get_or axes i 0) 0 ≡ group_size_of s (take (i + 1) axes) = rw e (sym (group_size_of-more s axes i l)) in
    let le = group_size_of-le s (take (i + 1) axes) (cell_count-some s g.positive) (AreAxesOf-take (length s) axes (i + 1) m) in
    let small = g.small in
    record { value = value; few = omega arith; axis = AreAxesOf-at (length s) axes i m l }

-- ---- places

fold-push : (f : ℕ → ℕ → ℕ) (start : ℕ) (xs : List ℕ) (x : ℕ) → fold f start (xs ++ x ∷ []) ≡ f (fold f start xs) x
fold-push f start [] x = refl
fold-push f start (y ∷ xs) x = fold-push f (f start y) xs x

place_in-more : (s axes : List ℕ) (d i : ℕ) → i < length axes
    → place_in s (take (i + 1) axes) d ≡ place_in s (take i axes) d * get_or s (get_or axes i 0) 0 + get_or (unflat_of s d) (get_or axes i 0) 0
unfolding place_in
place_in-more s axes d i l =
    let f : ℕ → ℕ → ℕ = λ place a. place * get_or s a 0 + get_or (unflat_of s d) a 0 in
    ap (fold f 0) (take_more axes i 0 l) ∙ fold-push f 0 (take i axes) (get_or axes i 0)

-- one axis more in the place of a device
pub record IsPlaceStep (s axes : List ℕ) (device i place : ℕ) : Type 0 where
  pub value : place * get_or s (get_or axes i 0) 0 + get_or (unflat_of s device) (get_or axes i 0) 0 ≡ place_in s (take (i + 1) axes) device
  pub few : place * get_or s (get_or axes i 0) 0 + get_or (unflat_of s device) (get_or axes i 0) 0 < max_devices
  pub axis : get_or axes i 0 < length s

pub place_step : (s axes : List ℕ) (device i place : ℕ) → IsGrid s → AreAxesOf (length s) axes → device < cell_count s → i < length axes
    → place ≡ place_in s (take i axes) device → IsPlaceStep s axes device i place
place_step s axes device i place g m h l e =
    let value : place * get_or s (get_or axes i 0) 0 + get_or (unflat_of s device) (get_or axes i 0) 0 ≡ place_in s (take (i + 1) axes) device = rw e (sym (place_in-more s axes device i l)) in
    let front = AreAxesOf-take (length s) axes (i + 1) m in
    let below = place_in-below s (take (i + 1) axes) device h front in
    let le = group_size_of-le s (take (i + 1) axes) (cell_count-some s g.positive) front in
    let small = g.small in
    record { value = value; few = omega arith; axis = AreAxesOf-at (length s) axes i m l }

-- ---- members

-- what is known of the devices that the walk along the list of axes meets
pub record IsMemberSoFar (s axes : List ℕ) (device place i size rest found : ℕ) : Type 0 where
  pub counted : size ≡ group_size_of s (drop i axes)
  pub below : rest < size
  pub device_below : found < cell_count s
  pub value : member_of s (drop i axes) found rest ≡ member_of s axes device place

-- one axis of the walk: n is its extent
pub record IsMemberStep (s axes : List ℕ) (device place i size rest found n : ℕ) : Type 0 where
  pub extent : 0 < n
  pub some : 0 < size / n
  pub entry : rest / (size / n) < n
  pub next : (moved : ℕ) → moved < cell_count s → unflat_of s moved ≡ set (unflat_of s found) (get_or axes i 0) (rest / (size / n))
      → IsMemberSoFar s axes device place (i + 1) (size / n) (rest % (size / n)) moved

member_of-cons : (s axes : List ℕ) (a found rest moved : ℕ)
    → unflat_of s moved ≡ set (unflat_of s found) a (rest / group_size_of s axes)
    → member_of s (a ∷ axes) found rest ≡ member_of s axes moved (rest % group_size_of s axes)
unfolding member_of group_size_of on_axes
member_of-cons s axes a found rest moved e =
    ap (λ i. flat_of s (with_entries axes (unflat_of (on_axes axes s) (rest % cell_count (on_axes axes s))) i)) (sym e)

group_size_of-cons : (s axes : List ℕ) (a : ℕ) → group_size_of s (a ∷ axes) ≡ get_or s a 0 * group_size_of s axes
unfolding group_size_of on_axes
group_size_of-cons s axes a = refl

pub member_step : (s axes : List ℕ) (device place i size rest found : ℕ) → IsGrid s → AreAxesOf (length s) axes → i < length axes
    → IsMemberSoFar s axes device place i size rest found → IsMemberStep s axes device place i size rest found (get_or s (get_or axes i 0) 0)
member_step s axes device place i size rest found g m l so_far =
    let a = get_or axes i 0 in
    let n = get_or s a 0 in
    let others = drop (i + 1) axes in
    let inner = group_size_of s others in
    let here : drop i axes ≡ a ∷ others = drop_more axes i 0 l in
    let axis = AreAxesOf-at (length s) axes i m l in
    let extent : 0 < n = g.positive a 0 axis in
    let product : size ≡ n * inner = so_far.counted ∙ ap (group_size_of s) here ∙ group_size_of-cons s others a in
    let quotient : size / n ≡ inner = ap (λ z. z / n) product ∙ mul-div_cancel_left inner extent in
    let lt : rest < n * inner = subst (λ z. rest < z) product so_far.below in
    let some : 0 < inner = rest_some n inner (omega arith) in
    let entry : rest / inner < n = div_below rest inner n some lt in
    record {
      extent = extent;
      some = rw quotient some;
      entry = rw quotient entry;
      next = λ moved lt_count index.
          record {
            counted = quotient;
            below = rw quotient (mod_below rest inner some);
            device_below = lt_count;
            value =
                sym (ap (λ xs. member_of s xs found rest) here
                ∙ member_of-cons s others a found rest moved (rw (← quotient) index)
                ∙ ap (λ z. member_of s others moved (rest % z)) (sym quotient))
                ∙ so_far.value;
          };
    }

pub member_start : (s axes : List ℕ) (device place size : ℕ) → device < cell_count s → place < group_size_of s axes → size ≡ group_size_of s axes
    → IsMemberSoFar s axes device place 0 size place device
member_start s axes device place size h l e = record { counted = e; below = rw e l; device_below = h; value = refl }

pub member_end : (s axes : List ℕ) (device place i size rest found : ℕ) → length axes ≤ i → IsMemberSoFar s axes device place i size rest found → found ≡ member_of s axes device place
unfolding member_of
member_end s axes device place i size rest found le so_far =
    let none : drop i axes ≡ [] = drop_all i axes le in
    sym (flat_of-unflat_of s found so_far.device_below) ∙ sym (ap (λ xs. member_of s xs found rest) none) ∙ so_far.value

-- ---- strides

-- one extent more in a stride
pub record IsStrideStep (s : List ℕ) (a i stride : ℕ) : Type 0 where
  pub value : stride * get_or (drop (a + 1) s) i 0 ≡ cell_count (take (i + 1) (drop (a + 1) s))
  pub few : stride * get_or (drop (a + 1) s) i 0 ≤ max_devices

pub stride_step : (s : List ℕ) (a i stride : ℕ) → IsGrid s → i < length (drop (a + 1) s) → stride ≡ cell_count (take i (drop (a + 1) s)) → IsStrideStep s a i stride
stride_step s a i stride g l e =
    let after = drop (a + 1) s in
    let whole_some = cell_count-some s g.positive in
    let some = cell_count-drop_some s (a + 1) whole_some in
    let value : stride * get_or after i 0 ≡ cell_count (take (i + 1) after) = rw e (sym (cell_count-take_more after i l)) in
    let le = cell_count-front_le after (i + 1) some in
    let le' = cell_count-drop_le s (a + 1) whole_some in
    let small = g.small in
    record { value = value; few = omega arith }

pub record IsStride (s : List ℕ) (a stride : ℕ) : Type 0 where
  pub value : stride ≡ cell_count (drop (a + 1) s)
  pub some : 0 < stride
  pub few : stride ≤ max_devices

pub stride_end : (s : List ℕ) (a i stride : ℕ) → IsGrid s → length (drop (a + 1) s) ≤ i → stride ≡ cell_count (take i (drop (a + 1) s)) → IsStride s a stride
stride_end s a i stride g le e =
    let whole : stride ≡ cell_count (drop (a + 1) s) = e ∙ ap cell_count (take_all i (drop (a + 1) s) le) in
    let whole_some = cell_count-some s g.positive in
    let some = cell_count-drop_some s (a + 1) whole_some in
    let less = cell_count-drop_le s (a + 1) whole_some in
    let small = g.small in
    record { value = whole; some = rw whole some; few = omega arith }

-- ---- a device with another coordinate

pub record IsMoved (s : List ℕ) (a device q stride own : ℕ) : Type 0 where
  pub enough : own * stride ≤ device + q * stride
  pub index : unflat_of s (device + q * stride - own * stride) ≡ set (unflat_of s device) a q
  pub below : device + q * stride - own * stride < cell_count s

pub moved_is : (s : List ℕ) (a device q stride own : ℕ) → device < cell_count s → a < length s → q < get_or s a 0
    → stride ≡ cell_count (drop (a + 1) s) → own ≡ get_or (unflat_of s device) a 0 → IsMoved s a device q stride own
moved_is s a device q stride own h l lt e f =
    let i = unflat_of s device in
    let within = unflat_of-within s device h in
    let j = set i a q in
    let j_within : IsIndexOf s j = IsIndexOf-set_entry s i a q within lt in
    let stride_is : stride ≡ cell_count (drop (suc a) s) = e ∙ rw add-one refl in
    let moved : flat_of s j + own * stride ≡ device + q * stride =
    rw (f, stride_is) (flat_of-moved s i a q within l lt ∙ ap (λ z. z + q * cell_count (drop (suc a) s)) (flat_of-unflat_of s device h)) in
    let same : device + q * stride - own * stride ≡ flat_of s j = omega arith in
    record { enough = omega arith; index = ap (unflat_of s) same ∙ unflat_of-flat_of s j j_within; below = rw same (flat_of-below s j j_within) }

pub record IsSize (s axes : List ℕ) (size : ℕ) : Type 0 where
  pub some : 0 < size
  pub few : size ≤ max_devices

pub size_end : (s axes : List ℕ) (i size : ℕ) → IsGrid s → AreAxesOf (length s) axes → length axes ≤ i → size ≡ group_size_of s (take i axes) → IsSize s axes size
size_end s axes i size g m le e =
    let whole : size ≡ group_size_of s axes = e ∙ ap (group_size_of s) (take_all i axes le) in
    let some = group_size_of-some s axes g.positive m in
    let less = group_size_of-le s axes (cell_count-some s g.positive) m in
    let small = g.small in
    record { some = omega arith; few = omega arith }

-- a coordinate is below the number of devices
pub entry_below : (s : List ℕ) (a q : ℕ) → IsGrid s → a < length s → q < get_or s a 0 → q < max_devices
entry_below s a q g l lt =
    let one = cell_count-front_le (drop a s) 1 (cell_count-drop_some s a (cell_count-some s g.positive)) in
    let less = cell_count-drop_le s a (cell_count-some s g.positive) in
    let first : take 1 (drop a s) ≡ get_or s a 0 ∷ [] = rw (drop_more s a 0 l) refl in
    let product : cell_count (take 1 (drop a s)) ≡ get_or s a 0 * 1 = ap cell_count first in
    let small = g.small in
    omega arith
