-- The laws of the interface of a slice.
use Rattle.std.proofs.Common.{ap₂, ◌≡◌, ℕ, zero, suc, ◌+◌, ◌<◌, ◌≤◌, Bool, true, false, List, [], ◌∷◌, length, map, get_or, Option, Some, None, inl, inr, refl, ap, sym, ◌∙◌, arith, subst}
use Rattle.std.proofs.lemmas.Bool.Decides.{nat_tests}
use Rattle.std.proofs.lemmas.List.{get_or-map, length-map}
use Rattle.std.proofs.lemmas.Option.{same_Some}
use Rattle.std.specs.List.{AllByRecursion}
use Rattle.std.specs.Prelude.{◌&&◌, nat_eq, slice_get}
use Rattle.sh_base.specs.declared.numbers.Width.{Width}
use Rattle.sh_base.specs.declared.places.Place.{Place}
use Rattle.sh_base.specs.Shape.{max_cells, max_rank}
use Rattle.sh_ir.specs.Numbers.{as_naturals}
use Rattle.sh_sem.specs.Slices.{Range}
use Rattle.sh_sharding.specs.declared.shardings.Dimension.{Dimension}
use Rattle.sh_sharding.specs.Sharding.{counted_cells, unsplit}
use Rattle.sh_sharding.proofs.PartLaws.{extents_few}
use Rattle.sh_iface.specs.declared.options.Split.{Split}
use Rattle.sh_iface.specs.declared.options.Follow.{Follow}
use Rattle.sh_iface.specs.declared.options.How.TheVariants.{Same}
use Rattle.sh_iface.specs.Lawful.{IsNest, IsNestValue}
use Rattle.sh_iface.specs.LoopNest.{Loop, NestValue}
use Rattle.sh_iface.specs.Splits.{OptionValue, split_at}
use Rattle.sh_iface.specs.Table.{always, each_follows, follows, loops_where, some_follow}
use Rattle.sh_iface.specs.Valid.{AreSplits}
use Rattle.sh_iface_tensor.specs.FollowLists.{always_follow, below_some, extents_some, length_loops, length_some, loop_of, part_by, parts, small_loops, split_test}
use Rattle.sh_iface_tensor.specs.declared.slices.SliceKind.{SliceKind}
use Rattle.sh_iface_tensor.specs.declared.slices.SliceKind.TheVariants.{Extract, Insert}
use Rattle.sh_iface_tensor.specs.Slices.{IsSliced, Sliced, extents_of, is_whole, loop_extents_by, operands_by, result_by, sizes_of, slice_dims, slice_value, sliced_dims, sliced_nest, sliced_value, written}
use Rattle.sh_iface_tensor.specs.LocalRanges.{IsPair, Pair, whole_range}
use Rattle.sh_iface_tensor.specs.RangeLists.{ranges_in, slice_of, sliced_of}

-- ---- the loops

-- which dimensions follow: of the tensor that is sliced, and of the slice
abbrev pub sliced_test : SliceKind → List Range → ℕ → Bool
sliced_test Extract rs = is_whole rs
sliced_test Insert rs = always

abbrev pub slice_test : SliceKind → List Range → ℕ → Bool
slice_test Extract rs = always
slice_test Insert rs = is_whole rs

pub sliced_by : (what : SliceKind) (rs : List Range) → some_follow (sliced_test what rs) 0 (extents_of rs) ≡ sliced_dims what rs
sliced_by Extract rs = refl
sliced_by Insert rs = always_follow 0 (extents_of rs)

pub slice_by_test : (what : SliceKind) (rs : List Range) → some_follow (slice_test what rs) 0 (sizes_of rs) ≡ slice_dims what rs
slice_by_test Extract rs = always_follow 0 (sizes_of rs)
slice_by_test Insert rs = refl

loops_counted : (what : SliceKind) (rs : List Range) → length (loops_where (is_whole rs) 0 (loop_extents_by what rs)) ≡ length rs
loops_counted Extract rs = length_loops (is_whole rs) 0 (sizes_of rs) ∙ length-map rs (λ r. r.size)
loops_counted Insert rs = length_loops (is_whole rs) 0 (extents_of rs) ∙ length-map rs (λ r. r.extent)

extents-whole : (shape : List ℕ) → map (λ (d : Dimension). d.extent) (map unsplit shape) ≡ shape
extents-whole [] = refl
extents-whole (n ∷ shape) = ap (λ ns. n ∷ ns) (extents-whole shape)

each_small : (test : ℕ → Bool) (shape : List ℕ) → counted_cells shape ≤ max_cells → AllByRecursion (λ (l : Loop). l.extent ≤ max_cells) (loops_where test 0 shape)
each_small test shape small = small_loops test 0 shape (extents_few (map unsplit shape) max_cells (subst (λ ns. counted_cells ns ≤ max_cells) (sym (extents-whole shape)) small))

-- ---- the values

-- one whose dimensions follow the loops of their numbers
value_of : (test : ℕ → Bool) (shape : List ℕ) (w : Width) (count : ℕ) → length shape ≤ count → length shape ≤ max_rank → counted_cells shape ≤ max_cells → IsNestValue count (record { dims = some_follow test 0 shape; width = w })
value_of test shape w count below short small = record {
  short = let n = length_some test 0 shape in omega (arith, n, short);
  small = subst (λ ns. counted_cells ns ≤ max_cells) (sym (extents_some test 0 shape)) small;
  below = below_some test 0 count shape (omega (arith, below));
}

module _ (x : Sliced) (is : IsSliced x) where
  abbrev count : ℕ
  count = length (loops_where (is_whole x.ranges) 0 (loop_extents_by x.what x.ranges))

  is_sliced_value : IsNestValue count (sliced_value x)
  is_sliced_value =
      let n = length-map x.ranges (λ r. r.extent) in
      let m = loops_counted x.what x.ranges in
      let short = is.short in
      subst (λ ds. IsNestValue count (record { dims = ds; width = x.width })) (sliced_by x.what x.ranges)
      (value_of (sliced_test x.what x.ranges) (extents_of x.ranges) x.width count (omega (arith, n, m)) (omega (arith, n, short)) is.extents)

  is_slice_value : IsNestValue count (slice_value x)
  is_slice_value =
      let n = length-map x.ranges (λ r. r.size) in
      let m = loops_counted x.what x.ranges in
      let short = is.short in
      subst (λ ds. IsNestValue count (record { dims = ds; width = x.width })) (slice_by_test x.what x.ranges)
      (value_of (slice_test x.what x.ranges) (sizes_of x.ranges) x.width count (omega (arith, n, m)) (omega (arith, n, short)) is.sizes)

-- the result's dimensions follow all loops
result_dims : (x : Sliced) → (result_by x.what (sliced_value x) (slice_value x)).dims ≡ each_follows 0 (loop_extents_by x.what x.ranges)
result_dims x = by_what x.what x.ranges x.width x.place
  where
    by_what : (what : SliceKind) (rs : List Range) (w : Width) (place : Place)
        → (result_by what (sliced_value (record { what = what; ranges = rs; width = w; place = place })) (slice_value (record { what = what; ranges = rs; width = w; place = place }))).dims ≡ each_follows 0 (loop_extents_by what rs)
    by_what Extract rs w place = refl
    by_what Insert rs w place = refl

values_of : (P : NestValue → Type 0) (what : SliceKind) (a b : NestValue) (v : ℕ) → P a → P b → P (get_or (operands_by what a b) v (result_by what a b))
values_of P Extract a b zero p q = p
values_of P Extract a b (suc v) p q = q
values_of P Insert a b zero p q = q
values_of P Insert a b (suc v) p q = second v p
  where
    second : (v : ℕ) → P a → P (get_or (a ∷ []) v a)
    second zero p = p
    second (suc v) p = p

past_end : (what : SliceKind) (a b : NestValue) → get_or (operands_by what a b) (length (operands_by what a b)) (result_by what a b) ≡ result_by what a b
past_end Extract a b = refl
past_end Insert a b = refl

small_extents : (what : SliceKind) (rs : List Range) → counted_cells (extents_of rs) ≤ max_cells → counted_cells (sizes_of rs) ≤ max_cells → counted_cells (loop_extents_by what rs) ≤ max_cells
small_extents Extract rs a b = b
small_extents Insert rs a b = a

pub sliced_is_nest : (x : Sliced) → IsSliced x → IsNest (sliced_nest x)
unfolding sliced_nest
sliced_is_nest x is =
    let a = sliced_value x in
    let b = slice_value x in
    record {
      few = let n = loops_counted x.what x.ranges in let short = is.short in omega (arith, n, short);
      small = each_small (is_whole x.ranges) (loop_extents_by x.what x.ranges) (small_extents x.what x.ranges is.extents is.sizes);
      values = λ v le. values_of (IsNestValue (length (loops_where (is_whole x.ranges) 0 (loop_extents_by x.what x.ranges)))) x.what a b v (is_sliced_value x is) (is_slice_value x is);
      splittable = λ l loop at yes.
          let it = loop_of (is_whole x.ranges) (loop_extents_by x.what x.ranges) 0 l loop at in
          let result = ap (λ (v : NestValue). v.dims) (past_end x.what a b) ∙ result_dims x in
          record {
            value = length (operands_by x.what a b);
            there = omega arith;
            dim = l;
            found = follows Same (0 + l) it.extent;
            at = subst (λ ds. slice_get ds l ≡ Some (follows Same (0 + l) it.extent)) (sym result) it.follows_it;
            follows = let same : 0 + l ≡ l = omega arith in let by_loop : ℕ → Option Follow = λ k. Some (record { loop_index = k; how = Same }) in ap by_loop same;
            extent = λ other h. let same = same_Some other loop (sym h ∙ at) in ap (λ (x : Loop). x.extent) (same ∙ it.is);
          };
    }

-- ---- a dimension that is taken whole

pub naturals_written : (ns : List ℕ) → as_naturals (written ns) ≡ ns
naturals_written [] = refl
naturals_written (n ∷ ns) = ap (λ xs. n ∷ xs) (naturals_written ns)

pub no_range : Range
no_range = record { extent = 0; offset = 1; size = 0; stride = 0 }

both : (a b : Bool) → (a && b) ≡ true → (a ≡ true) × (b ≡ true)
both true b h = (refl, h)
both false b h = absurd (cc)

same_number : (m n : ℕ) → nat_eq m n ≡ true → m ≡ n
same_number m n h = grind (arith, nat_tests)

read_number : (f : Range → ℕ) (rs : List Range) (i d : ℕ) (r : Range) → i < length rs → get_or (as_naturals (written (map f rs))) i d ≡ f (get_or rs i r)
read_number f rs i d r l = ap (λ ns. get_or ns i d) (naturals_written (map f rs)) ∙ get_or-map f rs i r d l

pub whole_is : (rs : List Range) (i : ℕ) (d : Range) → i < length rs → is_whole rs i ≡ true → get_or rs i d ≡ whole_range (get_or rs i d).size
whole_is rs i d l h =
    let a = both _ _ h in
    let b = both _ _ a.1 in
    let offset : (get_or rs i d).offset ≡ 0 = sym (read_number (λ r. r.offset) rs i 1 d l) ∙ same_number _ _ a.0 in
    let stride : (get_or rs i d).stride ≡ 1 = sym (read_number (λ r. r.stride) rs i 0 d l) ∙ same_number _ _ b.0 in
    let size : (get_or rs i d).size ≡ (get_or rs i d).extent = sym (read_number (λ r. r.size) rs i 0 d l) ∙ same_number _ _ b.1 ∙ get_or-map (λ r. r.extent) rs i d 0 l in
    λ j. record { extent = sym size j; offset = offset j; size = (get_or rs i d).size; stride = stride j }

-- ---- the pairs of dimensions

module _ (g : List ℕ) (o : OptionValue) (a b : ℕ → Bool) where
  abbrev pub pairs : ℕ → List Range → List Pair
  pairs at [] = []
  pairs at (r ∷ rs) = record { sliced = part_by g r.extent (a at) (split_at o at); slice = part_by g r.size (b at) (split_at o at); range = r } ∷ pairs (suc at) rs

  pub ranges_of_pairs : (at : ℕ) (rs : List Range) → ranges_in (pairs at rs) ≡ rs
  ranges_of_pairs at [] = refl
  ranges_of_pairs at (r ∷ rs) = ap (λ xs. r ∷ xs) (ranges_of_pairs (suc at) rs)

  pub sliced_of_pairs : (loops all : List ℕ) (at : ℕ) (rs : List Range) → parts g loops o all a at (extents_of rs) ≡ sliced_of (pairs at rs)
  sliced_of_pairs loops all at [] = refl
  sliced_of_pairs loops all at (r ∷ rs) = ap (λ ds. part_by g r.extent (a at) (split_at o at) ∷ ds) (sliced_of_pairs loops all (suc at) rs)

  pub slice_of_pairs : (loops all : List ℕ) (at : ℕ) (rs : List Range) → parts g loops o all b at (sizes_of rs) ≡ slice_of (pairs at rs)
  slice_of_pairs loops all at [] = refl
  slice_of_pairs loops all at (r ∷ rs) = ap (λ ds. part_by g r.size (b at) (split_at o at) ∷ ds) (slice_of_pairs loops all (suc at) rs)

  -- a range whose loop is split takes its dimension whole
  abbrev pub IsFree : ℕ → Range → Type 0
  IsFree at r = (split : Split) → split_at o at ≡ Some split → (a at ≡ true) × (b at ≡ true) × (r ≡ whole_range r.size)

  one_pair : (at : ℕ) (r : Range) → IsFree at r → (x : Option Split) → split_at o at ≡ x → IsPair (record { sliced = part_by g r.extent (a at) x; slice = part_by g r.size (b at) x; range = r })
  one_pair at r free None e = inl (unsplit_part r.extent (a at), unsplit_part r.size (b at))
    where
      unsplit_part : (n : ℕ) (test : Bool) → part_by g n test None ≡ unsplit n
      unsplit_part n true = refl
      unsplit_part n false = refl
  one_pair at r free (Some split) e =
      let here = free split e in
      let extent : r.extent ≡ r.size = ap (λ (z : Range). z.extent) here.2 in
      let slice : part_by g r.size (b at) (Some split) ≡ part_by g r.size true (Some split) = ap (λ t. part_by g r.size t (Some split)) here.1 in
      inr (
        ap₂ (λ n t. part_by g n t (Some split)) extent here.0 ∙ sym slice,
        here.2 ∙ ap whole_range (ap (λ (d : Dimension). d.extent) (sym slice)),
      )

  pub all_pairs : (at : ℕ) (rs : List Range) → ((i : ℕ) → i < length rs → IsFree (at + i) (get_or rs i no_range)) → AllByRecursion IsPair (pairs at rs)
  all_pairs at [] h = tt
  all_pairs at (r ∷ rs) h =
      let here : at + 0 ≡ at = omega arith in (
        one_pair at r (subst (λ n. IsFree n r) here (h 0 (omega arith))) (split_at o at) refl,
        all_pairs (suc at) rs (λ i l. let next : at + suc i ≡ suc at + i = omega arith in subst (λ n. IsFree n (get_or rs i no_range)) next (h (suc i) (omega (arith, l)))),
      )

pub test_of_splits : (what : SliceKind) (g : List ℕ) (rs : List Range) (o : OptionValue) (l : ℕ) (split : Split) → AreSplits g (loops_where (is_whole rs) 0 (loop_extents_by what rs)) o → l < length rs → split_at o l ≡ Some split → is_whole rs l ≡ true
test_of_splits Extract g rs o l split h below e = let n = length-map rs (λ r. r.size) in split_test g (is_whole rs) (sizes_of rs) o l split h (omega (arith, n, below)) e
test_of_splits Insert g rs o l split h below e = let n = length-map rs (λ r. r.extent) in split_test g (is_whole rs) (extents_of rs) o l split h (omega (arith, n, below)) e

pub both_tests : (what : SliceKind) (rs : List Range) (i : ℕ) → is_whole rs i ≡ true → (sliced_test what rs i ≡ true) × (slice_test what rs i ≡ true)
both_tests Extract rs i h = (h, refl)
both_tests Insert rs i h = (refl, h)
