-- Each index of the whole has exactly one owner in each group, and what the cuts hold for it.
use Rattle.std.proofs.Common.{◌≡◌, ℕ, zero, suc, ◌+◌, ◌-◌, ◌<◌, ◌≤◌, inl, inr, List, [], ◌∷◌, ◌++◌, length, map, sum, Bool, true, refl, ap, ap₂, sym, ◌∙◌, arith, subst}
use Rattle.std.specs.List.{AllByRecursion, range_with_len}
use Rattle.std.specs.Prelude.{nat_le, nat_lt, ◌&&◌, if◌then◌else◌}
use Rattle.std.proofs.lemmas.Bool.Decides.{nat_tests}
use Rattle.std.proofs.lemmas.List.FromFn.{sum_by-map-range_with_len_more}
use Rattle.sh_base.specs.declared.numbers.Cell.TheVariants.{Undef}
use Rattle.sh_base.specs.Shape.{cell_count, IsIndexOf, flat_of, unflat_of}
use Rattle.sh_base.proofs.ShapeLaws.{unflat_of-within, unflat_of-flat_of, flat_of-unflat_of, flat_of-below}
use Rattle.sh_base.proofs.IndexLaws.{cell_count-some}
use Rattle.sh_grid.specs.Grid.{AreAxesOf, on_axes, place_in, group_size_of, member_of}
use Rattle.sh_grid.proofs.GroupLaws.{on_axes-append, IsIndexOf-on_axes, place_in-flat_of, member_of-below, place_in-member_of}
use Rattle.sh_tensor.specs.Tensor.{TensorValue, at}
use Rattle.sh_tensor.proofs.TensorLaws.{tensor_ext}
use Rattle.sh_sharding.specs.declared.shardings.Dimension.{Dimension}
use Rattle.sh_sharding.specs.Sharding.{ShardingValue, offset_of, parts_of, part_of, offset_at, part_size, start_in, size_in, local_extent, whole_of, axes_of, IsDivided, IsDimension, IsSharding}
use Rattle.sh_sharding.specs.Cut.{whole_index, is_inside, cut_of, OwnsIn, Owns, local_index, held_cell, HasOneOwner, CutsDetermine, HoldsOwned, SizesSum}
use Rattle.sh_sharding.proofs.PartLaws.{IsPlaced, part-ends, part_of-below, axes_of-each, offset_of-rises}
use Rattle.sh_sharding.proofs.CutLaws.{at-cut_of}
use Rattle.sh_sharding.proofs.Cases.{lt_or_le}

-- ---- the part of an index

-- the part in which an index lies
pub record IsPartWith (g : List ℕ) (d : Dimension) (x : ℕ) : Type 0 where
  pub part : ℕ
  pub below : part < parts_of g d
  pub from : offset_at g d part ≤ x
  pub to : x < offset_at g d (part + 1)

part_among : (g : List ℕ) (d : Dimension) (x k : ℕ) → IsDivided d.extent (parts_of g d) d.mark → k ≤ parts_of g d → x < offset_at g d k → IsPartWith g d x
unfolding offset_at
part_among g d x zero h le lt = let begins = h.begins in absurd (omega arith)
part_among g d x (suc k) h le lt = elim (lt_or_le x (offset_of d.extent (parts_of g d) d.mark k)) [
  | inl less ↦ part_among g d x k h (omega arith) less
  | inr more ↦ record { part = k; below = omega arith; from = more; to = subst (λ z. x < offset_of d.extent (parts_of g d) d.mark z) (suc_is k) lt }
]
  where
    suc_is : (k : ℕ) → suc k ≡ k + 1
    suc_is k = omega arith

pub part_with : (g : List ℕ) (d : Dimension) (x : ℕ) → IsDivided d.extent (parts_of g d) d.mark → x < d.extent → IsPartWith g d x
unfolding offset_at
part_with g d x h lt = let ends = h.ends in part_among g d x (parts_of g d) h (omega arith) (omega arith)

-- there is only one
pub part_only : (g : List ℕ) (d : Dimension) (x p q : ℕ) → IsDivided d.extent (parts_of g d) d.mark → p < parts_of g d → q < parts_of g d
    → offset_at g d p ≤ x → x < offset_at g d (p + 1) → offset_at g d q ≤ x → x < offset_at g d (q + 1) → p ≡ q
unfolding offset_at
part_only g d x p q h lp lq pf pt qf qt = elim (lt_or_le p q) [
  | inl less ↦ let rise = offset_of-rises d.extent (parts_of g d) d.mark (p + 1) q h (omega arith) (omega arith) in absurd (omega arith)
  | inr more ↦ elim (lt_or_le q p) [
    | inl less ↦ let rise = offset_of-rises d.extent (parts_of g d) d.mark (q + 1) p h (omega arith) (omega arith) in absurd (omega arith)
    | inr same ↦ omega arith
  ]
]

-- ---- coordinates on the axes of all dimensions

pub IsIndexOf-append : (s r i j : List ℕ) → IsIndexOf s i → IsIndexOf r j → IsIndexOf (s ++ r) (i ++ j)
IsIndexOf-append [] r [] j h k = k
IsIndexOf-append [] r (x ∷ i) j h k = absurd h
IsIndexOf-append (n ∷ s) r [] j h k = absurd h
IsIndexOf-append (n ∷ s) r (x ∷ i) j h k = (h.0, IsIndexOf-append s r i j h.1 k)

-- two lists that are joined at the same place
pub same_front : (s a b x y : List ℕ) → IsIndexOf s a → IsIndexOf s b → a ++ x ≡ b ++ y → (a ≡ b) × (x ≡ y)
same_front [] [] [] x y h k e = (refl, e)
same_front [] [] (z ∷ b) x y h k e = absurd k
same_front [] (z ∷ a) b x y h k e = absurd h
same_front (n ∷ s) [] b x y h k e = absurd h
same_front (n ∷ s) (z ∷ a) [] x y h k e = absurd k
same_front (n ∷ s) (z ∷ a) (w ∷ b) x y h k e =
    let heads : z ≡ w = cc in
    let tails : a ++ x ≡ b ++ y = cc in
    let rec = same_front s a b x y h.1 k.1 tails in
    (ap₂ ◌∷◌ heads rec.0, rec.1)

pub part_of-entries : (g : List ℕ) (d : Dimension) (e q : ℕ) → q < parts_of g d → on_axes d.axes (unflat_of g e) ≡ unflat_of (on_axes d.axes g) q → part_of g d e ≡ q
unfolding part_of parts_of group_size_of
part_of-entries g d e q l h = place_in-flat_of g d.axes e ∙ ap (flat_of (on_axes d.axes g)) h ∙ flat_of-unflat_of (on_axes d.axes g) q l

entries-part_of : (g : List ℕ) (d : Dimension) (e : ℕ) → e < cell_count g → AreAxesOf (length g) d.axes → on_axes d.axes (unflat_of g e) ≡ unflat_of (on_axes d.axes g) (part_of g d e)
unfolding part_of
entries-part_of g d e h m =
    sym (ap (unflat_of (on_axes d.axes g)) (place_in-flat_of g d.axes e)
    ∙ unflat_of-flat_of (on_axes d.axes g) (on_axes d.axes (unflat_of g e)) (IsIndexOf-on_axes g (unflat_of g e) d.axes (unflat_of-within g e h) m))

-- the coordinates, on all axes, of the devices that own an index
pub record IsOwning (g : List ℕ) (ds : List Dimension) (i : List ℕ) : Type 0 where
  pub entries : List ℕ
  pub within : IsIndexOf (on_axes (axes_of ds) g) entries
  pub owns : (e : ℕ) → e < cell_count g → on_axes (axes_of ds) (unflat_of g e) ≡ entries → OwnsIn g e ds i

owns_part : (g : List ℕ) (d : Dimension) (e x q : ℕ) → IsDivided d.extent (parts_of g d) d.mark → q < parts_of g d → part_of g d e ≡ q → offset_at g d q ≤ x → x < offset_at g d (q + 1)
    → (start_in g e d ≤ x) × (x < start_in g e d + size_in g e d)
unfolding start_in size_in
owns_part g d e x q h l same from to =
    let ends = part-ends g d q h l in
    let sum : offset_at g d q + part_size g d q ≡ offset_at g d (q + 1) = ends.0 in
    let start : offset_at g d (part_of g d e) ≡ offset_at g d q = ap (offset_at g d) same in
    let size : part_size g d (part_of g d e) ≡ part_size g d q = ap (part_size g d) same in
    (omega arith, omega arith)

owning : (g : List ℕ) (ds : List Dimension) (i : List ℕ) → AllByRecursion (λ d. AreAxesOf (length g) d.axes) ds → AllByRecursion (IsDimension g) ds → IsIndexOf (map (λ d. d.extent) ds) i → IsOwning g ds i
unfolding on_axes parts_of group_size_of
owning g [] [] m ok h = record { entries = []; within = tt; owns = λ e l k. tt }
owning g [] (x ∷ i) m ok h = absurd h
owning g (d ∷ ds) [] m ok h = absurd h
owning g (d ∷ ds) (x ∷ i) m ok h =
    let part = part_with g d x ok.0.divided h.0 in
    let rest = owning g ds i m.1 ok.1 h.1 in
    let own = unflat_of (on_axes d.axes g) part.part in
    let own_within : IsIndexOf (on_axes d.axes g) own = unflat_of-within (on_axes d.axes g) part.part part.below in
    let apart = on_axes-append d.axes (axes_of ds) g in
    record {
      entries = own ++ rest.entries;
      within = subst (λ s. IsIndexOf s (own ++ rest.entries)) (sym apart) (IsIndexOf-append (on_axes d.axes g) (on_axes (axes_of ds) g) own rest.entries own_within rest.within);
      owns = λ e l k.
          let fronts = same_front (on_axes d.axes g) (on_axes d.axes (unflat_of g e)) own (on_axes (axes_of ds) (unflat_of g e)) rest.entries
          (IsIndexOf-on_axes g (unflat_of g e) d.axes (unflat_of-within g e l) m.0) own_within (sym (on_axes-append d.axes (axes_of ds) (unflat_of g e)) ∙ k) in
          let first = owns_part g d e x part.part ok.0.divided part.below (part_of-entries g d e part.part part.below fronts.0) part.from part.to in
          (first.0, first.1, rest.owns e l fronts.1);
    }

on_axes_nil : (x y : List ℕ) → on_axes [] x ≡ on_axes [] y
unfolding on_axes
on_axes_nil x y = refl

-- devices whose parts hold one index have one part
same_part : (g : List ℕ) (d : Dimension) (x e f : ℕ) → AreAxesOf (length g) d.axes → IsDivided d.extent (parts_of g d) d.mark → e < cell_count g → f < cell_count g
    → start_in g e d ≤ x → x < start_in g e d + size_in g e d → start_in g f d ≤ x → x < start_in g f d + size_in g f d → part_of g d e ≡ part_of g d f
unfolding start_in size_in
same_part g d x e f m h le lf es ee fs fe =
    let be = part_of-below g d e le m in
    let bf = part_of-below g d f lf m in
    let pe = (part-ends g d (part_of g d e) h be).0 in
    let pf = (part-ends g d (part_of g d f) h bf).0 in
    part_only g d x (part_of g d e) (part_of g d f) h be bf es (omega arith) fs (omega arith)

-- devices that own one index have equal coordinates on all axes
owners_agree : (g : List ℕ) (ds : List Dimension) (i : List ℕ) (e f : ℕ) → AllByRecursion (λ d. AreAxesOf (length g) d.axes) ds → AllByRecursion (IsDimension g) ds → e < cell_count g → f < cell_count g
    → OwnsIn g e ds i → OwnsIn g f ds i → on_axes (axes_of ds) (unflat_of g e) ≡ on_axes (axes_of ds) (unflat_of g f)
owners_agree g [] i e f m ok le lf he hf = on_axes_nil (unflat_of g e) (unflat_of g f)
owners_agree g (d ∷ ds) [] e f m ok le lf he hf = absurd he
owners_agree g (d ∷ ds) (x ∷ i) e f m ok le lf he hf =
    let parts : part_of g d e ≡ part_of g d f = same_part g d x e f m.0 ok.0.divided le lf he.0 he.1 hf.0 hf.1 in
    let first = entries-part_of g d e le m.0 ∙ ap (unflat_of (on_axes d.axes g)) parts ∙ sym (entries-part_of g d f lf m.0) in
    on_axes-append d.axes (axes_of ds) (unflat_of g e)
    ∙ ap₂ ◌++◌ first (owners_agree g ds i e f m.1 ok.1 le lf he.2 hf.2)
    ∙ sym (on_axes-append d.axes (axes_of ds) (unflat_of g f))

-- ---- owners

pub on_axes-place_in : (g axes : List ℕ) (e : ℕ) → e < cell_count g → AreAxesOf (length g) axes → on_axes axes (unflat_of g e) ≡ unflat_of (on_axes axes g) (place_in g axes e)
on_axes-place_in g axes e h m =
    sym (ap (unflat_of (on_axes axes g)) (place_in-flat_of g axes e)
    ∙ unflat_of-flat_of (on_axes axes g) (on_axes axes (unflat_of g e)) (IsIndexOf-on_axes g (unflat_of g e) axes (unflat_of-within g e h) m))

-- In the group of each device along all axes of the sharding, in order of dimensions, exactly one device
-- owns an index of the whole.
pub one_owner : (s : ShardingValue) (device : ℕ) (i : List ℕ) → IsSharding s → device < cell_count s.grid.extents → IsIndexOf (whole_of s) i → HasOneOwner s device i
unfolding group_size_of
one_owner s device i ok l h =
    let g = s.grid.extents in
    let all = axes_of s.dimensions in
    let each = axes_of-each (length g) s.dimensions ok.axes in
    let at_all = owning g s.dimensions i each ok.dimensions h in
    let place = flat_of (on_axes all g) at_all.entries in
    let there : place < cell_count (on_axes all g) = flat_of-below (on_axes all g) at_all.entries at_all.within in
    let below = member_of-below g all device place l there in
    let entries : on_axes all (unflat_of g (member_of g all device place)) ≡ at_all.entries =
    on_axes-place_in g all (member_of g all device place) below ok.axes
    ∙ ap (unflat_of (on_axes all g)) (place_in-member_of g all device place l there ok.axes)
    ∙ unflat_of-flat_of (on_axes all g) at_all.entries at_all.within in
    let owns = at_all.owns (member_of g all device place) below entries in
    record {
      place = place;
      there = there;
      owns = owns;
      only = λ other lo ho.
          let below' = member_of-below g all device other l lo in
          let agree = owners_agree g s.dimensions i (member_of g all device other) (member_of g all device place) each ok.dimensions below' below ho owns in
          sym (place_in-member_of g all device other l lo ok.axes)
          ∙ place_in-flat_of g all (member_of g all device other)
          ∙ ap (flat_of (on_axes all g)) agree
          ∙ sym (place_in-flat_of g all (member_of g all device place))
          ∙ place_in-member_of g all device place l there ok.axes;
    }

-- ---- what the cuts hold

local_index-within : (g : List ℕ) (c : ℕ) (ds : List Dimension) (i : List ℕ) → OwnsIn g c ds i → IsIndexOf (map (λ d. d.extent) ds) i → IsIndexOf (map (local_extent g c) ds) (local_index g c ds i)
unfolding local_extent
local_index-within g c [] i h k = tt
local_index-within g c (d ∷ ds) [] h k = absurd h
local_index-within g c (d ∷ ds) (x ∷ i) h k =
    let from : start_in g c d ≤ x = h.0 in
    let to : x < start_in g c d + size_in g c d = h.1 in
    (omega arith, local_index-within g c ds i h.2 k.1)

whole_index-local : (g : List ℕ) (c : ℕ) (ds : List Dimension) (i : List ℕ) → OwnsIn g c ds i → IsIndexOf (map (λ d. d.extent) ds) i → whole_index g c ds (local_index g c ds i) ≡ i
whole_index-local g c [] [] h k = refl
whole_index-local g c [] (x ∷ i) h k = absurd k
whole_index-local g c (d ∷ ds) [] h k = absurd h
whole_index-local g c (d ∷ ds) (x ∷ i) h k =
    let from : start_in g c d ≤ x = h.0 in
    let entry : start_in g c d + (d.low + (x - start_in g c d)) - d.low ≡ x = omega arith in
    ap₂ ◌∷◌ entry (whole_index-local g c ds i h.2 k.1)

is_inside-local : (g : List ℕ) (c : ℕ) (ds : List Dimension) (i : List ℕ) → OwnsIn g c ds i → IsIndexOf (map (λ d. d.extent) ds) i → is_inside g c ds (local_index g c ds i) ≡ true
is_inside-local g c [] i h k = refl
is_inside-local g c (d ∷ ds) [] h k = absurd h
is_inside-local g c (d ∷ ds) (x ∷ i) h k =
    let from : start_in g c d ≤ x = h.0 in
    let below : x < d.extent = k.0 in
    let begins : nat_le d.low (start_in g c d + (d.low + (x - start_in g c d))) ≡ true = grind (arith, nat_tests) in
    let ends : nat_lt (start_in g c d + (d.low + (x - start_in g c d)) - d.low) d.extent ≡ true = grind (arith, nat_tests) in
    ap₂ (λ (a b : Bool). a && b) (ap₂ (λ (a b : Bool). a && b) begins ends) (is_inside-local g c ds i h.2 k.1)

-- an owned index lies in the whole
owned_within : (g : List ℕ) (c : ℕ) (ds : List Dimension) (i : List ℕ) → AllByRecursion (IsPlaced g c) ds → OwnsIn g c ds i → length i ≡ length ds → IsIndexOf (map (λ d. d.extent) ds) i
owned_within g c [] [] ok h e = tt
owned_within g c [] (x ∷ i) ok h e = absurd (cc)
owned_within g c (d ∷ ds) [] ok h e = absurd h
owned_within g c (d ∷ ds) (x ∷ i) ok h e =
    let fits = ok.0.fits in
    let to : x < start_in g c d + size_in g c d = h.1 in
    (omega arith, owned_within g c ds i ok.1 h.2 (omega arith))

pub held_cell-cut_of : (s : ShardingValue) (t : TensorValue) (c : ℕ) (i : List ℕ) → IsIndexOf (whole_of s) i → Owns s c i → held_cell s (cut_of s t c) c i ≡ at t i
held_cell-cut_of s t c i k h =
    let g = s.grid.extents in
    let j = local_index g c s.dimensions i in
    at-cut_of s t c j (local_index-within g c s.dimensions i h k)
    ∙ ap (λ (b : Bool). if b then at t (whole_index g c s.dimensions j) else Undef) (is_inside-local g c s.dimensions i h k)
    ∙ ap (at t) (whole_index-local g c s.dimensions i h k)

pub cuts_determine : (s : ShardingValue) → IsSharding s → CutsDetermine s
cuts_determine s ok = record {
  same = λ t u wt wu st su width cuts.
      tensor_ext t u wt.counted wu.counted (st ∙ sym su) width (λ i h.
      let h' : IsIndexOf (whole_of s) i = subst (λ z. IsIndexOf z i) su h in
      let some : 0 < cell_count s.grid.extents = some_device s ok in
      let owner = one_owner s 0 i ok some h' in
      let c = member_of s.grid.extents (axes_of s.dimensions) 0 owner.place in
      let below = member_of-below s.grid.extents (axes_of s.dimensions) 0 owner.place some owner.there in
      sym (held_cell-cut_of s t c i h' owner.owns)
      ∙ ap (λ z. held_cell s z c i) (cuts c below)
      ∙ held_cell-cut_of s u c i h' owner.owns);
}
  where
    some_device : (s : ShardingValue) → IsSharding s → 0 < cell_count s.grid.extents
    some_device s ok = cell_count-some s.grid.extents ok.grid.positive

-- ---- sizes

sizes_so_far : (g : List ℕ) (d : Dimension) (k : ℕ) → IsDivided d.extent (parts_of g d) d.mark → k ≤ parts_of g d → sum (map (part_size g d) (range_with_len 0 k)) ≡ offset_at g d k
unfolding offset_at
sizes_so_far g d zero h le = sym h.begins
sizes_so_far g d (suc k) h le =
    let more : sum (map (part_size g d) (range_with_len 0 (k + 1))) ≡ sum (map (part_size g d) (range_with_len 0 k)) + part_size g d k =
    sum_by-map-range_with_len_more (λ x. x) (part_size g d) 0 k k (omega arith) in
    let next : k + 1 ≡ suc k = omega arith in
    ap (λ z. sum (map (part_size g d) (range_with_len 0 z))) (sym next)
    ∙ more
    ∙ ap (λ z. z + part_size g d k) (sizes_so_far g d k h (omega arith))
    ∙ (part-ends g d k h (omega arith)).0
    ∙ ap (offset_of d.extent (parts_of g d) d.mark) next

pub sizes_sum : (g : List ℕ) (d : Dimension) → IsDivided d.extent (parts_of g d) d.mark → SizesSum g d
unfolding offset_at
sizes_sum g d h = record { before = λ part le. sizes_so_far g d part h le; total = sizes_so_far g d (parts_of g d) h (omega arith) ∙ h.ends }

pub all_sizes_sum : (g : List ℕ) (ds : List Dimension) → AllByRecursion (IsDimension g) ds → AllByRecursion (SizesSum g) ds
all_sizes_sum g [] h = tt
all_sizes_sum g (d ∷ ds) h = (sizes_sum g d h.0.divided, all_sizes_sum g ds h.1)

pub holds_owned : (s : ShardingValue) → HoldsOwned s
holds_owned s = record { cell = λ t device i within owns. held_cell-cut_of s t device i within owns }
