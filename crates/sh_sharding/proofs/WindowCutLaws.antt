-- A cut is the windows along all dimensions, one after the other.
use Rattle.std.proofs.Common.{◌≡◌, ℕ, suc, ◌+◌, ◌-◌, ◌<◌, inl, inr, List, [], ◌∷◌, ◌++◌, length, get_or, set, map, take, drop, Bool, true, false, refl, ap, ap₂, sym, ◌∙◌, subst}
use Rattle.std.specs.Prelude.{nat_le, nat_lt, ◌&&◌, if◌then◌else◌}
use Rattle.std.proofs.lemmas.List.{append_assoc, length-append}
use Rattle.std.proofs.Math.Seq.{take-append_seam, drop-append_seam, set-append_seam, get_or-append_seam}
use Rattle.sh_base.specs.declared.numbers.Cell.{Cell}
use Rattle.sh_base.specs.declared.numbers.Cell.TheVariants.{Undef}
use Rattle.sh_base.specs.Shape.{cell_count, IsIndexOf}
use Rattle.sh_tensor.specs.Tensor.{TensorValue, at, build}
use Rattle.sh_tensor.proofs.TensorLaws.{length-cells_of, at-build, build-ext, tensor_ext}
use Rattle.sh_sharding.specs.declared.shardings.Dimension.{Dimension}
use Rattle.sh_sharding.specs.Sharding.{ShardingValue, start_in, local_extent}
use Rattle.sh_sharding.specs.Cut.{whole_index, is_inside, cut_of}
use Rattle.sh_sharding.specs.Windows.{window_cell, window_of, windows_of, CutsByWindows}
use Rattle.sh_sharding.proofs.CutLaws.{whole_index-inside}
use Rattle.sh_sharding.proofs.OwnerLaws.{IsIndexOf-append}
use Rattle.std.proofs.lemmas.Bool.{cases_Bool}

-- ---- an index of joined shapes

pub record IsJoined (p r i : List ℕ) : Type 0 where
  pub front : List ℕ
  pub back : List ℕ
  pub front_within : IsIndexOf p front
  pub back_within : IsIndexOf r back
  pub joined : front ++ back ≡ i
  pub long : length front ≡ length p

joined_at : (p r i : List ℕ) → IsIndexOf (p ++ r) i → IsJoined p r i
joined_at [] r i h = record { front = []; back = i; front_within = tt; back_within = h; joined = refl; long = refl }
joined_at (n ∷ p) r [] h = absurd h
joined_at (n ∷ p) r (x ∷ i) h =
    let rest = joined_at p r i h.1 in
    record { front = x ∷ rest.front; back = rest.back; front_within = (h.0, rest.front_within); back_within = rest.back_within; joined = ap (λ z. x ∷ z) rest.joined; long = ap suc rest.long }

-- ---- the cells of all windows from an axis on

cell_after : List ℕ → ℕ → List Dimension → ℕ → TensorValue → List ℕ → Cell
cell_after g c ds axis t i = if is_inside g c ds (drop axis i) then at t (take axis i ++ whole_index g c ds (drop axis i)) else Undef

cell_after-joined : (g : List ℕ) (c : ℕ) (ds : List Dimension) (axis : ℕ) (t : TensorValue) (front back : List ℕ) → length front ≡ axis
    → cell_after g c ds axis t (front ++ back) ≡ (if is_inside g c ds back then at t (front ++ whole_index g c ds back) else Undef)
unfolding cell_after
cell_after-joined g c ds axis t front back long =
    ap (λ a. if is_inside g c ds (drop a (front ++ back)) then at t (take a (front ++ back) ++ whole_index g c ds (drop a (front ++ back))) else Undef) (sym long)
    ∙ ap₂ (λ x y. if is_inside g c ds y then at t (x ++ whole_index g c ds y) else Undef) (take-append_seam front back) (drop-append_seam front back)

and_false : (a b : Bool) → b ≡ false → (a && b) ≡ false
and_false true b e = e
and_false false b e = refl

and_true : (a b : Bool) → b ≡ true → a ≡ (a && b)
and_true true b e = sym e
and_true false b e = refl

-- ---- one window

shape-window_of : (g : List ℕ) (c : ℕ) (d : Dimension) (t : TensorValue) (axis : ℕ) → (window_of g c d t axis).shape ≡ set t.shape axis (local_extent g c d)
unfolding window_of
shape-window_of g c d t axis = refl

width-window_of : (g : List ℕ) (c : ℕ) (d : Dimension) (t : TensorValue) (axis : ℕ) → (window_of g c d t axis).width ≡ t.width
unfolding window_of
width-window_of g c d t axis = refl

window_shape : (g : List ℕ) (c : ℕ) (d : Dimension) (t : TensorValue) (axis : ℕ) (p r : List ℕ) → length p ≡ axis → t.shape ≡ p ++ d.extent ∷ r → (window_of g c d t axis).shape ≡ p ++ local_extent g c d ∷ r
window_shape g c d t axis p r long shape =
    shape-window_of g c d t axis
    ∙ ap₂ (λ s a. set s a (local_extent g c d)) shape (sym long)
    ∙ set-append_seam p d.extent r (local_extent g c d)

at-window_of : (g : List ℕ) (c : ℕ) (d : Dimension) (t : TensorValue) (axis : ℕ) (p r front w : List ℕ) (x : ℕ) → length p ≡ axis → length front ≡ axis → t.shape ≡ p ++ d.extent ∷ r
    → IsIndexOf p front → x < local_extent g c d → IsIndexOf r w
    → at (window_of g c d t axis) (front ++ x ∷ w)
    ≡ (if nat_le d.low (start_in g c d + x) && nat_lt (start_in g c d + x - d.low) d.extent then at t (front ++ (start_in g c d + x - d.low) ∷ w) else Undef)
unfolding window_of window_cell
at-window_of g c d t axis p r front w x long long_front shape hf hx hw =
    let shapes : set t.shape axis (local_extent g c d) ≡ p ++ local_extent g c d ∷ r = sym (shape-window_of g c d t axis) ∙ window_shape g c d t axis p r long shape in
    let index : IsIndexOf (set t.shape axis (local_extent g c d)) (front ++ x ∷ w) = subst (λ s. IsIndexOf s (front ++ x ∷ w)) (sym shapes) (IsIndexOf-append p (local_extent g c d ∷ r) front (x ∷ w) hf (hx, hw)) in
    let entry : get_or (front ++ x ∷ w) axis 0 ≡ x = ap (λ a. get_or (front ++ x ∷ w) a 0) (sym long_front) ∙ get_or-append_seam front x w 0 in
    let moved : (y : ℕ) → set (front ++ x ∷ w) axis y ≡ front ++ y ∷ w = λ y. ap (λ a. set (front ++ x ∷ w) a y) (sym long_front) ∙ set-append_seam front x w y in
    at-build (set t.shape axis (local_extent g c d)) t.width (window_cell g c d t axis) (front ++ x ∷ w) index
    ∙ ap (λ e. if nat_le d.low (start_in g c d + e) && nat_lt (start_in g c d + e - d.low) d.extent then at t (set (front ++ x ∷ w) axis (start_in g c d + e - d.low)) else Undef) entry
    ∙ ap (λ i. if nat_le d.low (start_in g c d + x) && nat_lt (start_in g c d + x - d.low) d.extent then at t i else Undef) (moved (start_in g c d + x - d.low))

step_cell : (g : List ℕ) (c : ℕ) (d : Dimension) (ds : List Dimension) (t : TensorValue) (axis : ℕ) (p front j : List ℕ) (x : ℕ) → length p ≡ axis → length front ≡ axis → t.shape ≡ p ++ d.extent ∷ map (λ d. d.extent) ds
    → IsIndexOf p front → x < local_extent g c d → IsIndexOf (map (local_extent g c) ds) j
    → (if is_inside g c ds j then at (window_of g c d t axis) (front ++ x ∷ whole_index g c ds j) else Undef)
    ≡ (if is_inside g c (d ∷ ds) (x ∷ j) then at t (front ++ whole_index g c (d ∷ ds) (x ∷ j)) else Undef)
step_cell g c d ds t axis p front j x long long_front shape hf hx hj = elim (cases_Bool (is_inside g c ds j)) [
  | inl inside ↦
      let w = whole_index g c ds j in
      let test = nat_le d.low (start_in g c d + x) && nat_lt (start_in g c d + x - d.low) d.extent in
      ap (λ (b : Bool). if b then at (window_of g c d t axis) (front ++ x ∷ w) else Undef) inside
      ∙ at-window_of g c d t axis p (map (λ d. d.extent) ds) front w x long long_front shape hf hx (whole_index-inside g c ds j hj inside)
      ∙ ap (λ (b : Bool). if b then at t (front ++ (start_in g c d + x - d.low) ∷ w) else Undef) (and_true test (is_inside g c ds j) inside)
  | inr outside ↦
      let test = nat_le d.low (start_in g c d + x) && nat_lt (start_in g c d + x - d.low) d.extent in
      ap (λ (b : Bool). if b then at (window_of g c d t axis) (front ++ x ∷ whole_index g c ds j) else Undef) outside
      ∙ sym (ap (λ (b : Bool). if b then at t (front ++ (start_in g c d + x - d.low) ∷ whole_index g c ds j) else Undef) (and_false test (is_inside g c ds j) outside))
]

counted-window_of : (g : List ℕ) (c : ℕ) (d : Dimension) (t : TensorValue) (axis : ℕ) → length (window_of g c d t axis).cells ≡ cell_count (window_of g c d t axis).shape
unfolding window_of
counted-window_of g c d t axis = length-cells_of (set t.shape axis (local_extent g c d)) (window_cell g c d t axis)

-- ---- all windows

-- no dimension is left
no_windows : (g : List ℕ) (c axis : ℕ) (p : List ℕ) (t : TensorValue) → length p ≡ axis → length t.cells ≡ cell_count t.shape → t.shape ≡ p ++ [] → t ≡ build (p ++ []) t.width (cell_after g c [] axis t)
unfolding cell_after
no_windows g c axis p t long counted shape =
    tensor_ext t (build (p ++ []) t.width (cell_after g c [] axis t)) counted (length-cells_of (p ++ []) (cell_after g c [] axis t)) shape refl
    (λ i h.
    let parts = joined_at p [] i h in
    let same : i ≡ parts.front ++ [] = sym parts.joined ∙ ap (λ z. parts.front ++ z) (none_left parts.back parts.back_within) in
    let cell : cell_after g c [] axis t (parts.front ++ []) ≡ at t (parts.front ++ []) = cell_after-joined g c [] axis t parts.front [] (parts.long ∙ long) in
    sym (at-build (p ++ []) t.width (cell_after g c [] axis t) i h ∙ ap (cell_after g c [] axis t) same ∙ cell ∙ ap (at t) (sym same)))
  where
    none_left : (j : List ℕ) → IsIndexOf [] j → j ≡ []
    none_left [] h = refl
    none_left (x ∷ j) h = absurd h

-- the cells agree on an index that begins with these entries
next_joined : (g : List ℕ) (c : ℕ) (d : Dimension) (ds : List Dimension) (t : TensorValue) (axis : ℕ) (p front back : List ℕ) → length p ≡ axis → length front ≡ axis → t.shape ≡ p ++ d.extent ∷ map (λ d. d.extent) ds
    → IsIndexOf p front → IsIndexOf (local_extent g c d ∷ map (local_extent g c) ds) back
    → cell_after g c ds (axis + 1) (window_of g c d t axis) (front ++ back) ≡ cell_after g c (d ∷ ds) axis t (front ++ back)
next_joined g c d ds t axis p front [] long long_front shape hf hb = absurd hb
next_joined g c d ds t axis p front (x ∷ j) long long_front shape hf hb =
    let u = window_of g c d t axis in
    let w = whole_index g c ds j in
    let apart : front ++ x ∷ j ≡ (front ++ x ∷ []) ++ j = sym (append_assoc front (x ∷ []) j) in
    let longer : length (front ++ x ∷ []) ≡ axis + 1 = length-append front (x ∷ []) ∙ ap (λ n. n + 1) long_front in
    ap (cell_after g c ds (axis + 1) u) apart
    ∙ cell_after-joined g c ds (axis + 1) u (front ++ x ∷ []) j longer
    ∙ ap (λ k. if is_inside g c ds j then at u k else Undef) (append_assoc front (x ∷ []) w)
    ∙ step_cell g c d ds t axis p front j x long long_front shape hf hb.0 hb.1
    ∙ sym (cell_after-joined g c (d ∷ ds) axis t front (x ∷ j) long_front)

next_cell : (g : List ℕ) (c : ℕ) (d : Dimension) (ds : List Dimension) (t : TensorValue) (axis : ℕ) (p i : List ℕ) → length p ≡ axis → t.shape ≡ p ++ d.extent ∷ map (λ d. d.extent) ds
    → IsJoined p (local_extent g c d ∷ map (local_extent g c) ds) i → cell_after g c ds (axis + 1) (window_of g c d t axis) i ≡ cell_after g c (d ∷ ds) axis t i
next_cell g c d ds t axis p i long shape h =
    subst (λ z. cell_after g c ds (axis + 1) (window_of g c d t axis) z ≡ cell_after g c (d ∷ ds) axis t z) h.joined
    (next_joined g c d ds t axis p h.front h.back long (h.long ∙ long) shape h.front_within h.back_within)

windows_are : (g : List ℕ) (c : ℕ) (ds : List Dimension) (axis : ℕ) (p : List ℕ) (t : TensorValue) → length p ≡ axis → length t.cells ≡ cell_count t.shape → t.shape ≡ p ++ map (λ d. d.extent) ds
    → windows_of g c ds axis t ≡ build (p ++ map (local_extent g c) ds) t.width (cell_after g c ds axis t)
windows_are g c [] axis p t long counted shape = no_windows g c axis p t long counted shape
windows_are g c (d ∷ ds) axis p t long counted shape =
    let u = window_of g c d t axis in
    let l = local_extent g c d in
    let r = map (λ d. d.extent) ds in
    let rest = map (local_extent g c) ds in
    let longer : length (p ++ l ∷ []) ≡ axis + 1 = length-append p (l ∷ []) ∙ ap (λ n. n + 1) long in
    let shape' : u.shape ≡ (p ++ l ∷ []) ++ r = window_shape g c d t axis p r long shape ∙ sym (append_assoc p (l ∷ []) r) in
    windows_are g c ds (axis + 1) (p ++ l ∷ []) u longer (counted-window_of g c d t axis) shape'
    ∙ ap₂ (λ s w. build s w (cell_after g c ds (axis + 1) u)) (append_assoc p (l ∷ []) rest) (width-window_of g c d t axis)
    ∙ build-ext (p ++ l ∷ rest) t.width (cell_after g c ds (axis + 1) u) (cell_after g c (d ∷ ds) axis t)
    (λ i h. next_cell g c d ds t axis p i long shape (joined_at p (l ∷ rest) i h))

pub cuts_by_windows : (s : ShardingValue) → CutsByWindows s
unfolding cut_of cell_after
cuts_by_windows s = record {
  windows = λ t device ok shape. sym (windows_are s.grid.extents device s.dimensions 0 [] t refl ok.counted shape);
}
