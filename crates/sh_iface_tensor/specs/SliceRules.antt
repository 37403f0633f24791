-- A slice of local tensors keeps the rules of device form.
use Rattle.std.proofs.Common.{ap₂, ◌≡◌, ℕ, suc, ◌<◌, Bool, true, List, [], ◌∷◌, length, map, refl, ap, arith}
use Rattle.std.proofs.lemmas.Bool.Decides.{nat_tests}
use Rattle.std.specs.List.{AllByRecursion, list_all}
use Rattle.std.specs.Prelude.{◌&&◌, nat_eq, nat_lt}
use Rattle.sh_base.specs.declared.numbers.Width.{Width}
use Rattle.sh_base.specs.declared.places.Place.{Place}
use Rattle.sh_grid.specs.Grid.{GridValue}
use Rattle.sh_ir.specs.Agreement.{shapes_agree}
use Rattle.sh_ir.specs.Attributes.{in_extents, numbers_fit, slice_fits, sliced_dims}
use Rattle.sh_ir.specs.Formed.{is_not_negative}
use Rattle.sh_ir.specs.Limits.{has_few_cells, has_few_dims}
use Rattle.sh_ir.specs.Loops.{generic_of}
use Rattle.sh_ir.specs.Numbers.{as_naturals, is_positive}
use Rattle.sh_ir.specs.Operands.{is_part_of, operands_fit}
use Rattle.sh_ir.specs.Results.{is_slice, result_fits}
use Rattle.sh_ir.specs.Typing.{counts_fit, tensor_types, typing_of}
use Rattle.sh_ir.proofs.TypeLaws.{same_bits}
use Rattle.sh_sharding.specs.LocalTypes.{local_dim, local_dims}
use Rattle.sh_sharding.specs.Sharding.{IsSharding, ShardingValue, largest_local}
use Rattle.sh_sharding.proofs.LocalLimits.{few_cells, few_dims}
use Rattle.sh_iface.specs.Elements.{tensor_of}
use Rattle.sh_iface_tensor.specs.declared.slices.SliceKind.TheVariants.{Extract, Insert}
use Rattle.sh_iface_tensor.specs.Slices.{IsRange, Sliced, largest_sizes, local_op, slice_by, written, offsets_of, strides_of}
use Rattle.sh_iface_tensor.specs.LocalRanges.{IsLocalRule, Pair}
use Rattle.sh_iface_tensor.specs.PlainRules.{IsPlain}
use Rattle.sh_iface_tensor.specs.RangeLists.{ranges_in, slice_of, sliced_of}
use Rattle.sh_iface_tensor.specs.SliceCuts.{sharded}

none_negative : (ns : List ℕ) → list_all is_not_negative (written ns) ≡ true
none_negative [] = refl
none_negative (n ∷ ns) = none_negative ns

same_count : (m n : ℕ) → m ≡ n → nat_eq m n ≡ true
same_count m n e = grind (arith, nat_tests)

some_positive : (n : ℕ) → 0 < n → nat_lt 0 n ≡ true
some_positive n some = grind (arith, nat_tests)

module _ (g : List ℕ) where
  positive_sizes : (ps : List Pair) → AllByRecursion (IsLocalRule g) ps → list_all is_positive (written (map (largest_local g) (slice_of ps))) ≡ true
  positive_sizes [] all = refl
  positive_sizes (p ∷ ps) all = ap₂ (λ (a b : Bool). a && b) (some_positive (largest_local g p.slice) all.0.some) (positive_sizes ps all.1)

  positive_strides : (ps : List Pair) → AllByRecursion IsRange (ranges_in ps) → list_all is_positive (written (strides_of (ranges_in ps))) ≡ true
  positive_strides [] all = refl
  positive_strides (p ∷ ps) all = ap₂ (λ (a b : Bool). a && b) (some_positive p.range.stride all.0.1) (positive_strides ps all.1)

  within_extents : (ps : List Pair) → AllByRecursion (IsLocalRule g) ps → in_extents (as_naturals (written (offsets_of (ranges_in ps)))) (as_naturals (written (map (largest_local g) (slice_of ps)))) (as_naturals (written (strides_of (ranges_in ps)))) (map (local_dim g) (sliced_of ps)) ≡ true
  within_extents [] all = refl
  within_extents (p ∷ ps) all = ap₂ (λ (a b : Bool). a && b) all.0.fits (within_extents ps all.1)

  sizes_agree : (ps : List Pair) → AllByRecursion (IsLocalRule g) ps → shapes_agree (sliced_dims (written (map (largest_local g) (slice_of ps))) (map (local_dim g) (sliced_of ps))) (map (local_dim g) (slice_of ps)) ≡ true
  sizes_agree [] all = refl
  sizes_agree (p ∷ ps) all = ap₂ (λ (a b : Bool). a && b) all.0.agrees (sizes_agree ps all.1)

  offsets_counted : (ps : List Pair) → length (written (offsets_of (ranges_in ps))) ≡ length (map (local_dim g) (sliced_of ps))
  offsets_counted [] = refl
  offsets_counted (p ∷ ps) = ap suc (offsets_counted ps)

  strides_counted : (ps : List Pair) → length (written (strides_of (ranges_in ps))) ≡ length (map (local_dim g) (sliced_of ps))
  strides_counted [] = refl
  strides_counted (p ∷ ps) = ap suc (strides_counted ps)

  sizes_counted : (ps : List Pair) → length (written (map (largest_local g) (slice_of ps))) ≡ length (map (local_dim g) (sliced_of ps))
  sizes_counted [] = refl
  sizes_counted (p ∷ ps) = ap suc (sizes_counted ps)

  ranks_same : (ps : List Pair) → nat_eq (length (map (local_dim g) (sliced_of ps))) (length (map (local_dim g) (slice_of ps))) ≡ true
  ranks_same [] = refl
  ranks_same (p ∷ ps) = let rest = length_rest ps in same_count (length (map (local_dim g) (sliced_of (p ∷ ps)))) (length (map (local_dim g) (slice_of (p ∷ ps)))) (ap suc rest)
    where
      length_rest : (ps : List Pair) → length (map (local_dim g) (sliced_of ps)) ≡ length (map (local_dim g) (slice_of ps))
      length_rest [] = refl
      length_rest (p ∷ ps) = ap suc (length_rest ps)

  ranks_back : (ps : List Pair) → nat_eq (length (map (local_dim g) (slice_of ps))) (length (map (local_dim g) (sliced_of ps))) ≡ true
  ranks_back ps = same_count (length (map (local_dim g) (slice_of ps))) (length (map (local_dim g) (sliced_of ps))) (back ps)
    where
      back : (ps : List Pair) → length (map (local_dim g) (slice_of ps)) ≡ length (map (local_dim g) (sliced_of ps))
      back [] = refl
      back (p ∷ ps) = ap suc (back ps)

module _ (g : GridValue) (ps : List Pair) (w : Width) (place : Place) (ranges : AllByRecursion IsRange (ranges_in ps)) (rules : AllByRecursion (IsLocalRule g.extents) ps)
    (big : IsSharding (sharded g (sliced_of ps))) (small : IsSharding (sharded g (slice_of ps))) where
  abbrev sb : ShardingValue
  sb = sharded g (sliced_of ps)

  abbrev ss : ShardingValue
  ss = sharded g (slice_of ps)

  abbrev extraction : Sliced
  extraction = record { what = Extract; ranges = ranges_in ps; width = w; place = place }

  abbrev insertion : Sliced
  insertion = record { what = Insert; ranges = ranges_in ps; width = w; place = place }

  -- the slice is in order
  fits : slice_fits (slice_by (ranges_in ps) (largest_sizes ss)) (local_dims sb) ≡ true
  unfolding slice_fits
  fits =
      let a = same_count (length (written (offsets_of (ranges_in ps)))) (length (local_dims sb)) (offsets_counted g.extents ps) in
      let b = same_count (length (written (largest_sizes ss))) (length (local_dims sb)) (sizes_counted g.extents ps) in
      let c = same_count (length (written (strides_of (ranges_in ps)))) (length (local_dims sb)) (strides_counted g.extents ps) in
      let d = none_negative (offsets_of (ranges_in ps)) in
      let e = positive_sizes g.extents ps rules in
      let f = positive_strides g.extents ps ranges in
      let h = within_extents g.extents ps rules in
      rw (a, b, c, d, e, f, h) refl

  few : (s : ShardingValue) → IsSharding s → has_few_dims (tensor_of (local_dims s) w) ≡ true
  unfolding has_few_dims
  few s ok = few_dims s ok

  small_types : (s : ShardingValue) → IsSharding s → has_few_cells (tensor_of (local_dims s) w) ≡ true
  unfolding has_few_cells
  small_types s ok = few_cells s ok

  pub extraction_plain : IsPlain (local_op extraction sb ss) (tensor_of (local_dims sb) w ∷ [])
  unfolding generic_of typing_of counts_fit tensor_types operands_fit result_fits numbers_fit is_slice
  extraction_plain = record {
    operands = refl;
    defines = refl;
    count = refl;
    grids = refl;
    callees = refl;
    body = refl;
    generic = refl;
    device = refl;
    typed = refl;
    counted = refl;
    dims = let a = few sb big in let b = few ss small in rw (a, b) refl;
    cells = let a = small_types sb big in let b = small_types ss small in rw (a, b) refl;
    tensors = refl;
    takes = λ scope. refl;
    gives = λ scope.
        let bits = same_bits w in
        let ranks = ranks_same g.extents ps in
        let agree = sizes_agree g.extents ps rules in
        let order = fits in
        rw (bits, ranks, order, agree) refl;
    numbers = λ scope. fits;
  }

  pub insertion_plain : IsPlain (local_op insertion sb ss) (tensor_of (local_dims ss) w ∷ tensor_of (local_dims sb) w ∷ [])
  unfolding generic_of typing_of counts_fit tensor_types operands_fit result_fits numbers_fit is_part_of
  insertion_plain = record {
    operands = refl;
    defines = refl;
    count = refl;
    grids = refl;
    callees = refl;
    body = refl;
    generic = refl;
    device = refl;
    typed = refl;
    counted = refl;
    dims = let a = few sb big in let b = few ss small in rw (a, b) refl;
    cells = let a = small_types sb big in let b = small_types ss small in rw (a, b) refl;
    tensors = refl;
    takes = λ scope.
        let bits = same_bits w in
        let ranks = ranks_back g.extents ps in
        let agree = sizes_agree g.extents ps rules in
        let order = fits in
        rw (bits, ranks, order, agree) refl;
    gives = λ scope. refl;
    numbers = λ scope. fits;
  }
