-- The laws of the interface of a slice, whole.
use Rattle.std.proofs.Common.{◌≡◌, ℕ, ◌+◌, ◌<◌, ◌≤◌, true, List, [], ◌∷◌, length, get_or, Some, refl, ap, sym, ◌∙◌, arith, subst}
use Rattle.std.proofs.lemmas.Option.{same_Some}
use Rattle.std.specs.List.{AllByRecursion}
use Rattle.sh_base.specs.declared.numbers.Width.{Width}
use Rattle.sh_base.specs.declared.places.Place.{Place}
use Rattle.sh_base.specs.Shape.{cell_count}
use Rattle.sh_grid.specs.Grid.{GridValue}
use Rattle.sh_ir.specs.declared.operations.Op.{Op}
use Rattle.sh_ir.specs.declared.types.ValueType.{ValueType}
use Rattle.sh_ir.specs.Rules.{KeepsOps}
use Rattle.sh_pieces.specs.Promises.{AllFit, IsLocalPart, cuts}
use Rattle.sh_sem.specs.Given.{Seat, alone, given}
use Rattle.sh_sem.specs.Slices.{Range}
use Rattle.sh_sem.specs.Steps.{steps_on}
use Rattle.sh_sharding.specs.Cut.{cut_of}
use Rattle.sh_sharding.specs.LocalTypes.{local_dims}
use Rattle.sh_sharding.specs.Sharding.{HasNoHalos, IsSharding, ShardingValue}
use Rattle.sh_sharding.specs.Splits.{IsOfSplit, TensorSplit, tensor_splitting}
use Rattle.sh_sharding.proofs.LocalSizeLaws.{HasLargest, largest_device}
use Rattle.sh_sharding.proofs.PartLaws.{axes_of-each}
use Rattle.sh_tensor.specs.Tensor.{TensorValue}
use Rattle.sh_iface.specs.Elements.{tensor_of}
use Rattle.sh_iface.specs.Lawful.{IsLawful, IsPartScope, KeepsForm, is_local, operand_types}
use Rattle.sh_iface.specs.LoopNest.{HasNoWindows, NestValue, loop_extents, shape_of}
use Rattle.sh_iface.specs.Meaning.{instructions, local_type, operand_splits, result_split}
use Rattle.sh_iface.specs.Splits.{OptionValue, divided, implied_of}
use Rattle.sh_iface.specs.Valid.{IsValid}
use Rattle.sh_iface.proofs.Implied.{plain-implied, unsplit_valid}
use Rattle.sh_iface_tensor.specs.CutDims.{IsCutDim, are_cut}
use Rattle.sh_iface_tensor.specs.FollowLists.{parts_are, plain_some}
use Rattle.sh_iface_tensor.specs.InsertCuts.{inserted_cut, inserted_fits}
use Rattle.sh_iface_tensor.specs.declared.slices.SliceKind.{SliceKind}
use Rattle.sh_iface_tensor.specs.declared.slices.SliceKind.TheVariants.{Extract, Insert}
use Rattle.sh_iface_tensor.specs.Slices.{IsRange, IsSliced, Sliced, extents_of, local_op, operands_by, result_by, sizes_of, slice_dims, slice_sharding, slice_value, sliced_dims, sliced_meaning, sliced_nest, sliced_sharding, sliced_value, whole_op}
use Rattle.sh_iface_tensor.specs.LocalRanges.{IsLocalRule, IsPair, Pair, local_rule_of}
use Rattle.sh_iface_tensor.specs.OneInstruction.{GivesCuts, one_instruction}
use Rattle.sh_iface_tensor.specs.PlainRules.{IsPlain, plain_keeps}
use Rattle.sh_iface_tensor.specs.RangeLists.{ranges_in, slice_of, sliced_of}
use Rattle.sh_iface_tensor.specs.SliceCuts.{extracted_cut, extracted_fits, sharded}
use Rattle.sh_iface_tensor.specs.SliceLaws.{IsFree, all_pairs, both_tests, no_range, pairs, ranges_of_pairs, slice_by_test, slice_of_pairs, slice_test, sliced_by, sliced_is_nest, sliced_of_pairs, sliced_test, test_of_splits, whole_is}
use Rattle.sh_iface_tensor.specs.SliceRules.{extraction_plain, insertion_plain}

abbrev slice_at : SliceKind → List Range → Width → Place → Sliced
slice_at what rs w place = record { what = what; ranges = rs; width = w; place = place }

pub plain_sliced : (what : SliceKind) (rs : List Range) (w : Width) → HasNoWindows (record { dims = sliced_dims what rs; width = w })
plain_sliced what rs w = subst (λ ds. HasNoWindows (record { dims = ds; width = w })) (sliced_by what rs) (plain_some (sliced_test what rs) 0 (extents_of rs) w)

pub plain_slice : (what : SliceKind) (rs : List Range) (w : Width) → HasNoWindows (record { dims = slice_dims what rs; width = w })
plain_slice what rs w = subst (λ ds. HasNoWindows (record { dims = ds; width = w })) (slice_by_test what rs) (plain_some (slice_test what rs) 0 (sizes_of rs) w)

both_of : (P : NestValue → Type 0) (what : SliceKind) (a b : NestValue) → ((v : ℕ) → v ≤ length (operands_by what a b) → P (get_or (operands_by what a b) v (result_by what a b))) → P a × P b
both_of P Extract a b h = (h 0 (omega arith), h 1 (omega arith))
both_of P Insert a b h = (h 1 (omega arith), h 0 (omega arith))

-- ---- how both are split

module _ (what : SliceKind) (rs : List Range) (w : Width) (place : Place) (g : GridValue) (o : OptionValue) where
  abbrev x : Sliced
  x = slice_at what rs w place

  abbrev ps : List Pair
  ps = pairs g.extents o (sliced_test what rs) (slice_test what rs) 0 rs

  ranges_are : ranges_in ps ≡ rs
  ranges_are = ranges_of_pairs g.extents o (sliced_test what rs) (slice_test what rs) 0 rs

  big_is : sharded g (sliced_of ps) ≡ sliced_sharding x g o
  unfolding implied_of
  big_is =
      let loops = loop_extents (sliced_nest x) in
      let all = shape_of (sliced_value x) in
      let a = sliced_test what rs in
      ap (sharded g)
      (sym (sliced_of_pairs g.extents o a (slice_test what rs) loops all 0 rs)
      ∙ sym (parts_are g.extents loops o all a 0 (extents_of rs))
      ∙ ap (λ ds. divided g.extents loops o all 0 ds) (sliced_by what rs))

  small_is : sharded g (slice_of ps) ≡ slice_sharding x g o
  unfolding implied_of
  small_is =
      let loops = loop_extents (sliced_nest x) in
      let all = shape_of (slice_value x) in
      let b = slice_test what rs in
      ap (sharded g)
      (sym (slice_of_pairs g.extents o (sliced_test what rs) b loops all 0 rs)
      ∙ sym (parts_are g.extents loops o all b 0 (sizes_of rs))
      ∙ ap (λ ds. divided g.extents loops o all 0 ds) (slice_by_test what rs))

  pub plain_big : HasNoHalos (sliced_of ps)
  plain_big = subst (λ (s : ShardingValue). HasNoHalos s.dimensions) (sym big_is) (plain-implied g (sliced_nest x) o (sliced_value x) (plain_sliced what rs w))

  pub plain_small : HasNoHalos (slice_of ps)
  plain_small = subst (λ (s : ShardingValue). HasNoHalos s.dimensions) (sym small_is) (plain-implied g (sliced_nest x) o (slice_value x) (plain_slice what rs w))

  module _ (is : IsSliced x) (valid : IsValid (sliced_nest x) g o) where
    are_pairs : AllByRecursion IsPair ps
    unfolding sliced_nest
    are_pairs = all_pairs g.extents o (sliced_test what rs) (slice_test what rs) 0 rs (λ i l.
        let same : i ≡ 0 + i = omega arith in
        subst (λ n. IsFree g.extents o (sliced_test what rs) (slice_test what rs) n (get_or rs i no_range)) same (λ split e.
        let whole = test_of_splits what g.extents rs o i split valid.splits l e in
        let tests = both_tests what rs i whole in
        (tests.0, tests.1, whole_is rs i no_range l whole)))

    ranges_in_order : AllByRecursion IsRange (ranges_in ps)
    ranges_in_order = subst (AllByRecursion IsRange) (sym ranges_are) is.each

    admitted : IsSharding (sliced_sharding x g o) × IsSharding (slice_sharding x g o)
    unfolding sliced_nest
    admitted = both_of (λ v. IsSharding (implied_of g (sliced_nest x) o v)) what (sliced_value x) (slice_value x) valid.admitted

    big : IsSharding (sharded g (sliced_of ps))
    big = subst IsSharding (sym big_is) admitted.0

    small : IsSharding (sharded g (slice_of ps))
    small = subst IsSharding (sym small_is) admitted.1

    -- a device of the grid
    abbrev some_device : HasLargest g.extents (slice_of ps)
    some_device = largest_device g.extents (slice_of ps) small.grid (axes_of-each (length g.extents) (slice_of ps) small.axes) small.axes

    all_rules : (c : ℕ) (qs : List Pair) → AllByRecursion IsPair qs → AllByRecursion IsRange (ranges_in qs) → AllByRecursion (IsCutDim g.extents c) (slice_of qs) → AllByRecursion (IsLocalRule g.extents) qs
    all_rules c [] a b d = tt
    all_rules c (q ∷ qs) a b d = (local_rule_of g.extents c q a.0 b.0 d.0, all_rules c qs a.1 b.1 d.1)

    rules : AllByRecursion (IsLocalRule g.extents) ps
    rules = all_rules some_device.device ps are_pairs ranges_in_order (are_cut (sharded g (slice_of ps)) some_device.device small plain_small some_device.below)

    -- ---- the rules

    abbrev sb : ShardingValue
    sb = sharded g (sliced_of ps)

    abbrev ss : ShardingValue
    ss = sharded g (slice_of ps)

    abbrev types_at : SliceKind → ShardingValue → ShardingValue → List ValueType
    types_at t a b = operands_by t (tensor_of (local_dims a) w) (tensor_of (local_dims b) w)

    plain_at : (t : SliceKind) → IsPlain (local_op (slice_at t (ranges_in ps) w place) sb ss) (types_at t sb ss)
    plain_at Extract = extraction_plain g ps w place ranges_in_order rules big small
    plain_at Insert = insertion_plain g ps w place ranges_in_order rules big small

    abbrev whole_sharding : ShardingValue
    whole_sharding = sliced_sharding x g o

    abbrev part_sharding : ShardingValue
    part_sharding = slice_sharding x g o

    pub plain_here : IsPlain (local_op x whole_sharding part_sharding) (types_at what whole_sharding part_sharding)
    plain_here = subst (λ (q : Op × List ValueType). IsPlain q.0 q.1)
        (λ j. (local_op (slice_at what (ranges_are j) w place) (big_is j) (small_is j), types_at what (big_is j) (small_is j)))
        (plain_at what)

    -- ---- the cuts

    abbrev split : ShardingValue → TensorSplit
    split s = record { sharding = s; width = w }

    extraction_fits : (ts : List TensorValue) (t : TensorValue) → AllFit tensor_splitting (split sb ∷ []) ts → given (whole_op (slice_at Extract (ranges_in ps) w place)) alone ts ≡ Some t → IsOfSplit (split ss) t
    extraction_fits [] t all e = absurd all
    extraction_fits (y ∷ []) t all e = extracted_fits g ps w place are_pairs ranges_in_order big small plain_big plain_small y t all.0 e
    extraction_fits (y ∷ z ∷ ts) t all e = absurd all.1

    extraction_cuts : (ts : List TensorValue) (t : TensorValue) (c : ℕ) (seat : Seat) → AllFit tensor_splitting (split sb ∷ []) ts → given (whole_op (slice_at Extract (ranges_in ps) w place)) alone ts ≡ Some t → c < cell_count g.extents
        → given (local_op (slice_at Extract (ranges_in ps) w place) sb ss) seat (cuts tensor_splitting (split sb ∷ []) ts c) ≡ Some (cut_of ss t c)
    extraction_cuts [] t c seat all e l = absurd all
    extraction_cuts (y ∷ []) t c seat all e l = extracted_cut g ps w place are_pairs ranges_in_order big small plain_big plain_small y t c seat all.0 e l
    extraction_cuts (y ∷ z ∷ ts) t c seat all e l = absurd all.1

    insertion_fits : (ts : List TensorValue) (t : TensorValue) → AllFit tensor_splitting (split ss ∷ split sb ∷ []) ts → given (whole_op (slice_at Insert (ranges_in ps) w place)) alone ts ≡ Some t → IsOfSplit (split sb) t
    insertion_fits [] t all e = absurd all
    insertion_fits (y ∷ []) t all e = absurd all.1
    insertion_fits (y ∷ z ∷ []) t all e = inserted_fits g ps w place are_pairs ranges_in_order big small plain_big plain_small y z t all.0 all.1.0 e
    insertion_fits (y ∷ z ∷ u ∷ ts) t all e = absurd all.1.1

    insertion_cuts : (ts : List TensorValue) (t : TensorValue) (c : ℕ) (seat : Seat) → AllFit tensor_splitting (split ss ∷ split sb ∷ []) ts → given (whole_op (slice_at Insert (ranges_in ps) w place)) alone ts ≡ Some t → c < cell_count g.extents
        → given (local_op (slice_at Insert (ranges_in ps) w place) sb ss) seat (cuts tensor_splitting (split ss ∷ split sb ∷ []) ts c) ≡ Some (cut_of sb t c)
    insertion_cuts [] t c seat all e l = absurd all
    insertion_cuts (y ∷ []) t c seat all e l = absurd all.1
    insertion_cuts (y ∷ z ∷ []) t c seat all e l = inserted_cut g ps w place are_pairs ranges_in_order big small plain_big plain_small y z t c seat all.0 all.1.0 e l
    insertion_cuts (y ∷ z ∷ u ∷ ts) t c seat all e l = absurd all.1.1

    abbrev CutsBy : Sliced → ShardingValue → ShardingValue → Type 0
    CutsBy y a b = GivesCuts g.extents (given (whole_op y) alone) (operands_by y.what (split a) (split b)) (result_by y.what (split a) (split b)) (local_op y a b)

    cuts_at : (t : SliceKind) → CutsBy (slice_at t (ranges_in ps) w place) sb ss
    cuts_at Extract = record { local = refl; names = refl; defines = refl; fits = extraction_fits; cut = extraction_cuts }
    cuts_at Insert = record { local = refl; names = refl; defines = refl; fits = insertion_fits; cut = insertion_cuts }

    pub cuts_here : CutsBy x whole_sharding part_sharding
    cuts_here = subst (λ (q : List Range × ShardingValue × ShardingValue). CutsBy (slice_at what q.0 w place) q.1 q.2)
        (λ j. (ranges_are j, big_is j, small_is j))
        (cuts_at what)

-- ---- the laws

local_at : (what : SliceKind) (rs : List Range) (w : Width) (place : Place) (a b : ShardingValue) → is_local (local_op (slice_at what rs w place) a b) ≡ true
local_at Extract rs w place a b = refl
local_at Insert rs w place a b = refl

module _ (rs : List Range) (w : Width) (place : Place) (g : GridValue) (o : OptionValue) where
  types_are : (what : SliceKind) → operand_types (sliced_meaning (slice_at what rs w place)) g o
      ≡ operands_by what (tensor_of (local_dims (sliced_sharding (slice_at what rs w place) g o)) w) (tensor_of (local_dims (slice_sharding (slice_at what rs w place) g o)) w)
  unfolding sliced_nest implied_of local_type
  types_are Extract = refl
  types_are Insert = refl

  type_is : (what : SliceKind) → tensor_of (result_by what (local_dims (sliced_sharding (slice_at what rs w place) g o)) (local_dims (slice_sharding (slice_at what rs w place) g o))) w
      ≡ local_type (result_split (sliced_meaning (slice_at what rs w place)) g o)
  unfolding sliced_nest implied_of local_type
  type_is Extract = refl
  type_is Insert = refl

  operands_are : (what : SliceKind) → operand_splits (sliced_meaning (slice_at what rs w place)) g o
      ≡ operands_by what (record { sharding = sliced_sharding (slice_at what rs w place) g o; width = w }) (record { sharding = slice_sharding (slice_at what rs w place) g o; width = w })
  unfolding sliced_nest implied_of
  operands_are Extract = refl
  operands_are Insert = refl

  result_is : (what : SliceKind) → result_split (sliced_meaning (slice_at what rs w place)) g o
      ≡ result_by what (record { sharding = sliced_sharding (slice_at what rs w place) g o; width = w }) (record { sharding = slice_sharding (slice_at what rs w place) g o; width = w })
  unfolding sliced_nest implied_of
  result_is Extract = refl
  result_is Insert = refl

instructions_are : (x : Sliced) (g : GridValue) (o : OptionValue) → instructions (sliced_meaning x) g o ≡ local_op x (sliced_sharding x g o) (slice_sharding x g o) ∷ []
unfolding instructions
instructions_are x g o = refl

module _ (x : Sliced) (is : IsSliced x) (g : GridValue) (o : OptionValue) (valid : IsValid (sliced_nest x) g o) where
  abbrev op_here : Op
  op_here = local_op x (sliced_sharding x g o) (slice_sharding x g o)

  sliced_form : KeepsForm (sliced_meaning x) g o
  sliced_form = record {
    alone = (local_at x.what x.ranges x.width x.place (sliced_sharding x g o) (slice_sharding x g o), tt);
    keeps = λ scope rule p.
        subst (KeepsOps rule scope) (sym (instructions_are x g o))
        (plain_keeps g op_here (operands_by x.what (tensor_of (local_dims (sliced_sharding x g o)) x.width) (tensor_of (local_dims (slice_sharding x g o)) x.width)) scope
        (plain_here x.what x.ranges x.width x.place g o is valid)
        (subst (λ ts. IsPartScope g ts scope) (types_are x.ranges x.width x.place g o x.what) p) rule);
    typed = λ op at. ap (λ (y : Op). y.result) (sym (same_Some op_here op at)) ∙ type_is x.ranges x.width x.place g o x.what;
    outs = λ some. absurd (cc);
  }

  sliced_cuts : IsLocalPart (steps_on g.extents) tensor_splitting (given (whole_op x) alone) (operand_splits (sliced_meaning x) g o) (result_split (sliced_meaning x) g o) (instructions (sliced_meaning x) g o)
  sliced_cuts =
      subst (λ (q : List TensorSplit × TensorSplit × List Op). IsLocalPart (steps_on g.extents) tensor_splitting (given (whole_op x) alone) q.0 q.1 q.2)
      (λ j. (sym (operands_are x.ranges x.width x.place g o x.what) j, sym (result_is x.ranges x.width x.place g o x.what) j, sym (instructions_are x g o) j))
      (one_instruction g.extents (given (whole_op x) alone)
      (operands_by x.what (record { sharding = sliced_sharding x g o; width = x.width }) (record { sharding = slice_sharding x g o; width = x.width }))
      (result_by x.what (record { sharding = sliced_sharding x g o; width = x.width }) (record { sharding = slice_sharding x g o; width = x.width }))
      op_here (cuts_here x.what x.ranges x.width x.place g o is valid))

-- The laws of a slice.
pub sliced_lawful : (x : Sliced) → IsSliced x → IsLawful (sliced_meaning x)
sliced_lawful x is = record {
  nest = sliced_is_nest x is;
  replicated = unsplit_valid (sliced_nest x) (sliced_is_nest x is);
  form = λ g o valid. sliced_form x is g o valid;
  cut = λ g o valid. sliced_cuts x is g o valid;
}
