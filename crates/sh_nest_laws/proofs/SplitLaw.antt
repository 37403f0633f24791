-- The five instructions of a split reduction run in step to the cuts of the result.
use Rattle.std.proofs.Common.{◌≡◌, ◌≢◌, ℕ, zero, suc, ◌+◌, ◌-◌, ◌<◌, Bool, true, List, [], ◌∷◌, ◌++◌, map, get_or, length, Option, Some, refl, ap, ap₂, sym, ◌∙◌, arith, subst}
use Rattle.std.specs.Prelude.{option_and_then, slice_get, is_some, cond, if◌then◌else◌}
use Rattle.std.specs.List.{range_with_len, AllByRecursion}
use Rattle.std.proofs.lemmas.List.{length-map}
use Rattle.std.proofs.lemmas.List.FromFn.{length-range_with_len, get_or-range_with_len}
use Rattle.std.proofs.lemmas.Option.{slice_get-get_or}
use Rattle.sh_base.specs.declared.numbers.Cell.{Cell}
use Rattle.sh_base.specs.declared.operations.Kind.{Kind}
use Rattle.sh_base.specs.Shape.{cell_count, IsIndexOf}
use Rattle.sh_grid.specs.Grid.{GridValue, group_of, group_size_of, member_of, place_in}
use Rattle.sh_grid.proofs.GroupLaws.{length-group_of, place_in-below, member_of-below}
use Rattle.sh_int.specs.Reduction.{combine_of, neutral_of, operation_of}
use Rattle.sh_int.proofs.ReductionLaws.{combine_laws, element_of-operation_of}
use Rattle.sh_ir.specs.declared.operations.Op.{Op}
use Rattle.sh_ir.specs.Classes.{class_of}
use Rattle.sh_pieces.specs.Instructions.{State, collected_by, gives, is_name, local_by, operand_by}
use Rattle.sh_pieces.specs.Promises.{cuts, AllFit, HasCuts, IsLocalPart}
use Rattle.sh_pieces.specs.Runs.{RunsTo, HasRows, next_state}
use Rattle.sh_pieces.proofs.Names.{each_there, name_itself, name_other}
use Rattle.sh_sem.specs.Collected.{collected, combined_at}
use Rattle.sh_sem.specs.Given.{alone, given}
use Rattle.sh_sem.specs.Scalars.{width_of}
use Rattle.sh_sem.specs.Steps.{axes_of, is_collective_class, seat_of, steps_on}
use Rattle.sh_tensor.specs.Tensor.{TensorValue, at, build}
use Rattle.sh_tensor.proofs.TensorLaws.{at-build, build-ext}
use Rattle.sh_turns.specs.Program.{all_there}
use Rattle.sh_sharding.specs.declared.shardings.Dimension.{Dimension}
use Rattle.sh_sharding.specs.Sharding.{ShardingValue, local_shape}
use Rattle.sh_sharding.specs.Cut.{cut_of}
use Rattle.sh_sharding.specs.Splits.{TensorSplit, tensor_splitting}
use Rattle.sh_sharding.proofs.CutLaws.{shape-cut_of, width-cut_of}
use Rattle.sh_nest_laws.specs.Folds.{total}
use Rattle.sh_base.specs.declared.numbers.Width.{Width}
use Rattle.sh_nest_laws.specs.LoopSplits.{Operand, PlainNest, KeepsWidth, scalar_split, reduction_axes, sharding_on, split_by, splits_by}
use Rattle.sh_nest_laws.specs.SplitReduction.{IsSplitPart, local_operands}
use Rattle.sh_nest_laws.proofs.Combined.{binary_gives, collected_is, combined_is}
use Rattle.sh_nest_laws.proofs.Fills.{filled_is}
use Rattle.sh_nest_laws.proofs.Groups.{reduction_axes_are}
use Rattle.sh_nest_laws.proofs.Loops.{held_at}
use Rattle.sh_nest_laws.proofs.NestCut as cut
use Rattle.sh_nest_laws.proofs.ParallelLaw.{local_gives}
use Rattle.sh_nest_laws.proofs.SplitCells as cells
use Rattle.sh_nest_laws.proofs.SplitCells.{keeps_by}
use Rattle.sh_nest_laws.proofs.Totals.{each_in_range}

-- ---- rows of values

get_front : {V : Type 0} (xs ys : List V) (k : ℕ) → k < length xs → slice_get (xs ++ ys) k ≡ slice_get xs k
get_front [] ys k lt = absurd (omega (arith, lt))
get_front (x ∷ xs) ys zero lt = refl
get_front (x ∷ xs) ys (suc k) lt = get_front xs ys k (omega (arith, lt))

get_middle : {V : Type 0} (xs : List V) (v : V) (ys : List V) → slice_get (xs ++ v ∷ ys) (length xs) ≡ Some v
get_middle [] v ys = refl
get_middle (x ∷ xs) v ys = get_middle xs v ys

get_back : {V : Type 0} (xs : List V) (v : V) (ys : List V) (k : ℕ) → slice_get (xs ++ v ∷ ys) (suc (length xs) + k) ≡ slice_get ys k
get_back [] v ys k = let s : suc 0 + k ≡ suc k = omega arith in ap (slice_get (v ∷ ys)) s
get_back (x ∷ xs) v ys k = let s : suc (suc (length xs)) + k ≡ suc (suc (length xs) + k) = omega arith in ap (slice_get (x ∷ xs ++ v ∷ ys)) s ∙ get_back xs v ys k

row_there : {V : Type 0} (read : ℕ → Option V) (ys : List V) (b : ℕ) → ((k : ℕ) → k < length ys → read (b + k) ≡ slice_get ys k) → all_there (map read (range_with_len b (length ys))) ≡ Some ys
row_there read [] b h = refl
row_there read (y ∷ ys) b h =
    let z : b + 0 ≡ b = omega arith in
    let first : read b ≡ Some y = ap read (sym z) ∙ h 0 (omega arith) in
    let rest = row_there read ys (b + 1) (λ k lt. let s : b + 1 + k ≡ b + suc k = omega arith in ap read s ∙ h (suc k) (omega (arith, lt))) in
    rw (first, rest) refl

rows_around : {V : Type 0} (read : ℕ → Option V) (xs : List V) (a x : ℕ) (v : V) (ys : List V) (b : ℕ) → ((k : ℕ) → k < length xs → read (a + k) ≡ slice_get xs k) → read x ≡ Some v
    → ((k : ℕ) → k < length ys → read (b + k) ≡ slice_get ys k) → all_there (map read (range_with_len a (length xs) ++ x ∷ range_with_len b (length ys))) ≡ Some (xs ++ v ∷ ys)
rows_around read [] a x v ys b h middle back = let rest = row_there read ys b back in rw (middle, rest) refl
rows_around read (w ∷ xs) a x v ys b h middle back =
    let z : a + 0 ≡ a = omega arith in
    let first : read a ≡ Some w = ap read (sym z) ∙ h 0 (omega arith) in
    let rest = rows_around read xs (a + 1) x v ys b (λ k lt. let s : a + 1 + k ≡ a + suc k = omega arith in ap read s ∙ h (suc k) (omega (arith, lt))) middle back in
    rw (first, rest) refl

two_there : {V : Type 0} (read : ℕ → Option V) (a b : ℕ) (x y : V) → read a ≡ Some x → read b ≡ Some y → all_there (map read (a ∷ b ∷ [])) ≡ Some (x ∷ y ∷ [])
two_there read a b x y e f = rw (e, f) refl

all_of : {V : Type 0} (read : ℕ → Option V) (f : ℕ → V) (ms : List ℕ) → AllByRecursion (λ m. read m ≡ Some (f m)) ms → all_there (map read ms) ≡ Some (map f ms)
all_of read f [] h = refl
all_of read f (m ∷ ms) h = let here = h.0 in let rest = all_of read f ms h.1 in rw (here, rest) refl

each_both : {X : Type 0} (P Q : X → Type 0) (xs : List X) → ((x : X) → P x → Q x) → AllByRecursion P xs → AllByRecursion Q xs
each_both P Q [] up h = tt
each_both P Q (x ∷ xs) up h = (up x h.0, each_both P Q xs up h.1)

each_map : {X Y : Type 0} (P : Y → Type 0) (f : X → Y) (xs : List X) → AllByRecursion (λ x. P (f x)) xs → AllByRecursion P (map f xs)
each_map P f [] h = tt
each_map P f (x ∷ xs) h = (h.0, each_map P f xs h.1)

-- ---- states

module _ (grid : List ℕ) (op : Op) (s : State TensorValue) (name : ℕ) (defines : op.defines ≡ Some name) where
  read_itself : (c : ℕ) → next_state (steps_on grid) op s c name ≡ gives (steps_on grid) op s c
  unfolding steps_on
  read_itself c = ap (λ o. cond (is_name o name) (gives (steps_on grid) op s c) (s c name)) defines ∙ ap (λ b. cond b (gives (steps_on grid) op s c) (s c name)) (name_itself name)

  read_other : (c b : ℕ) → name ≢ b → next_state (steps_on grid) op s c b ≡ s c b
  unfolding steps_on
  read_other c b ne = ap (λ o. cond (is_name o b) (gives (steps_on grid) op s c) (s c b)) defines ∙ ap (λ t. cond t (gives (steps_on grid) op s c) (s c b)) (name_other name b ne)

-- a collective along axes takes one value of each member
collective_gives : (grid : List ℕ) (op : Op) (st : State TensorValue) (c : ℕ) (axes : List ℕ) (name : ℕ) (f : ℕ → TensorValue) (u : TensorValue) → is_collective_class (class_of op.kind) ≡ true → axes_of op.kind ≡ axes → op.operands ≡ name ∷ []
    → AllByRecursion (λ m. st m name ≡ Some (f m)) (group_of grid axes c) → collected op grid (map f (group_of grid axes c)) (place_in grid axes c) ≡ Some u → gives (steps_on grid) op st c ≡ Some u
unfolding steps_on
collective_gives grid op st c axes name f u together is reads has value =
    ap (λ (b : Bool). if b then collected_by (steps_on grid) op c st else local_by (steps_on grid) op c (st c)) together
    ∙ ap (λ a. option_and_then (λ ts. collected op grid ts (place_in grid a c)) (all_there (map (λ m. operand_by (steps_on grid) op (st m)) (group_of grid a c)))) is
    ∙ ap (option_and_then (λ ts. collected op grid ts (place_in grid axes c)))
    (all_of (λ m. operand_by (steps_on grid) op (st m)) f (group_of grid axes c)
    (each_both (λ m. st m name ≡ Some (f m)) (λ m. operand_by (steps_on grid) op (st m) ≡ Some (f m)) (group_of grid axes c) (λ m h. ap (λ xs. option_and_then (st m) (slice_get xs 0)) reads ∙ h) has))
    ∙ value

module _ (g : GridValue) (D : ℕ → Dimension) (nest : PlainNest) (k : Kind) (term : List Cell → List Cell → Option Cell) (whole_op constant fill local_op reduce join : Op)
    (is : IsSplitPart g D nest k term whole_op constant fill local_op reduce join) where
  abbrev splits : List TensorSplit
  splits = splits_by g D nest

  abbrev n : ℕ
  n = length nest.ins

  abbrev N : ℕ
  N = length (splits_by g D nest)

  abbrev So : ShardingValue
  So = sharding_on g D nest.out.dims

  abbrev w : Width
  w = nest.out.width

  N_is : N ≡ suc (n + length nest.captured)
  N_is = go nest.ins
    where
      go : (ins : List Operand) → length (map (split_by g D) ins ++ split_by g D nest.out ∷ map (scalar_split g) nest.captured) ≡ suc (length ins + length nest.captured)
      go [] = let e = length-map nest.captured (scalar_split g) in omega (arith, e)
      go (x ∷ ins) = let rest = go ins in omega (arith, rest)

  abbrev K : KeepsWidth nest
  K = cells.keeps g D nest is.split is.apart k term is.has_kind

  module _ (ts : List TensorValue) (fit : AllFit tensor_splitting (splits_by g D nest) ts) (t : TensorValue) (whole : given whole_op alone ts ≡ Some t) where
    abbrev part : ℕ → TensorValue
    part = cells.part g D nest is.split is.apart k term is.has_kind whole_op is.whole ts fit t whole

    abbrev filled : ℕ → TensorValue
    filled = cells.filled g D nest is.split is.apart k term is.has_kind whole_op is.whole ts fit t whole

    abbrev cell_of : ℕ → List ℕ → Cell
    cell_of = cells.cell_of g D nest is.split is.apart k term is.has_kind whole_op is.whole ts fit t whole

    abbrev neutral : TensorValue
    neutral = build [] w (λ i. neutral_of k w)

    abbrev group : ℕ → List ℕ
    group c = group_of g.extents (reduction_axes D nest) c

    abbrev reduced : ℕ → TensorValue
    reduced c = build (local_shape So c) w (combined_at k (map part (group c)))

    module _ (s0 : State TensorValue) (has : HasRows (steps_on g.extents) (range_with_len 0 (length (splits_by g D nest))) (cuts tensor_splitting (splits_by g D nest) ts) s0) where
      abbrev s1 : State TensorValue
      s1 = next_state (steps_on g.extents) constant s0

      abbrev s2 : State TensorValue
      s2 = next_state (steps_on g.extents) fill s1

      abbrev s3 : State TensorValue
      s3 = next_state (steps_on g.extents) local_op s2

      abbrev s4 : State TensorValue
      s4 = next_state (steps_on g.extents) reduce s3

      module _ (c : ℕ) (in' : c < cell_count g.extents) where
        abbrev inputs_c : List TensorValue
        inputs_c = cut.inputs_c g D nest is.split K whole_op is.whole ts fit t whole c in'

        abbrev outs_c : TensorValue
        outs_c = cut.outs_c g D nest is.split K whole_op is.whole ts fit t whole c in'

        abbrev scalars_c : List TensorValue
        scalars_c = cut.scalars_c g D nest is.split K whole_op is.whole ts fit t whole c in'

        row_at : (i : ℕ) → i < N → s0 c i ≡ slice_get (inputs_c ++ outs_c ∷ scalars_c) i
        unfolding steps_on
        row_at i lt =
            let counted : i < length (range_with_len 0 N) = omega (arith, lt, length-range_with_len 0 N) in
            let at : get_or (range_with_len 0 N) i 0 ≡ i = get_or-range_with_len 0 N i 0 lt ∙ omega arith in
            let there : slice_get (range_with_len 0 N) i ≡ Some i = slice_get-get_or (range_with_len 0 N) i 0 counted ∙ ap (λ m. Some m) at in
            let each = each_there (s0 c) (range_with_len 0 N) (cuts tensor_splitting splits ts c) i i (has c in') there in
            each.1 ∙ sym each.2 ∙ ap (λ row. slice_get row i) (cut.cuts_of_all g D nest is.split K whole_op is.whole ts fit t whole c in')

        long_inputs : length inputs_c ≡ n
        long_inputs =
            let o = cut.o g D nest is.split K whole_op is.whole ts fit t whole in
            length_inputs nest.ins o.inputs o.inputs_fit
          where
            length_inputs : (ins : List Operand) (us : List TensorValue) → AllFit tensor_splitting (map (split_by g D) ins) us → length (cuts tensor_splitting (map (split_by g D) ins) us c) ≡ length ins
            length_inputs [] us all = refl
            length_inputs (x ∷ ins) [] all = absurd all
            length_inputs (x ∷ ins) (u ∷ us) all = ap suc (length_inputs ins us all.1)

        long_scalars : length scalars_c ≡ length nest.captured
        long_scalars =
            let o = cut.o g D nest is.split K whole_op is.whole ts fit t whole in
            length_scalars nest.captured o.scalars o.scalars_fit
          where
            length_scalars : (ws : List Width) (us : List TensorValue) → AllFit tensor_splitting (map (scalar_split g) ws) us → length (cuts tensor_splitting (map (scalar_split g) ws) us c) ≡ length ws
            length_scalars [] us all = refl
            length_scalars (v ∷ ws) [] all = absurd all
            length_scalars (v ∷ ws) (u ∷ us) all = ap suc (length_scalars ws us all.1)

        input_at : (i : ℕ) → i < n → s0 c i ≡ slice_get inputs_c i
        input_at i lt = row_at i (omega (arith, lt, N_is)) ∙ get_front inputs_c (outs_c ∷ scalars_c) i (omega (arith, lt, long_inputs))

        outs_at : s0 c n ≡ Some outs_c
        outs_at = row_at n (omega (arith, N_is)) ∙ ap (slice_get (inputs_c ++ outs_c ∷ scalars_c)) (sym long_inputs) ∙ get_middle inputs_c outs_c scalars_c

        scalar_at : (i : ℕ) → i < length nest.captured → s0 c (suc n + i) ≡ slice_get scalars_c i
        scalar_at i lt = row_at (suc n + i) (omega (arith, lt, N_is)) ∙ ap (λ m. slice_get (inputs_c ++ outs_c ∷ scalars_c) (suc m + i)) (sym long_inputs) ∙ get_back inputs_c outs_c scalars_c i

        -- ---- the constant, the fill and the operation

        gives1 : gives (steps_on g.extents) constant s0 c ≡ Some neutral
        gives1 = local_gives g.extents constant s0 c [] [] neutral in' is.neutral_step.alone is.neutral_step.operands refl (is.neutral.gives (seat_of g.extents constant c))

        old1 : (i : ℕ) → i < N → s1 c i ≡ s0 c i
        old1 i lt = read_other g.extents constant s0 N is.neutral_step.defines c i (λ e. absurd (omega (arith, e, lt)))

        gives2 : gives (steps_on g.extents) fill s1 c ≡ Some (filled c)
        gives2 =
            local_gives g.extents fill s1 c (N ∷ n ∷ []) (neutral ∷ outs_c ∷ []) (filled c) in' is.filled_step.alone is.filled_step.operands
            (two_there (s1 c) N n neutral outs_c (read_itself g.extents constant s0 N is.neutral_step.defines c ∙ gives1) (old1 n (omega (arith, N_is)) ∙ outs_at))
            (filled_is g D nest.out fill is.filled is.filled_types c in' (seat_of g.extents fill c) neutral outs_c refl refl (shape-cut_of So _ c) (width-cut_of So _ c ∙ (cut.o g D nest is.split K whole_op is.whole ts fit t whole).outs_fit.width)
            ∙ ap (λ x. Some (build (local_shape So c) w (λ j. x))) (at-build [] w (λ i. neutral_of k w) [] tt))

        old2 : (i : ℕ) → i < N → s2 c i ≡ s0 c i
        old2 i lt = read_other g.extents fill s1 (suc N) is.filled_step.defines c i (λ e. absurd (omega (arith, e, lt))) ∙ old1 i lt

        local_row : all_there (map (s2 c) (local_operands g D nest)) ≡ Some (inputs_c ++ filled c ∷ scalars_c)
        local_row =
            ap₂ (λ a b. all_there (map (s2 c) (range_with_len 0 a ++ suc N ∷ range_with_len (suc n) b))) (sym long_inputs) (sym long_scalars)
            ∙ rows_around (s2 c) inputs_c 0 (suc N) (filled c) scalars_c (suc n)
            (λ i lt. let z : 0 + i ≡ i = omega arith in ap (s2 c) z ∙ old2 i (omega (arith, lt, long_inputs, N_is)) ∙ input_at i (omega (arith, lt, long_inputs)))
            (read_itself g.extents fill s1 (suc N) is.filled_step.defines c ∙ gives2)
            (λ i lt. old2 (suc n + i) (omega (arith, lt, long_scalars, N_is)) ∙ scalar_at i (omega (arith, lt, long_scalars)))

        gives3 : gives (steps_on g.extents) local_op s2 c ≡ Some (part c)
        gives3 =
            local_gives g.extents local_op s2 c (local_operands g D nest) (inputs_c ++ filled c ∷ scalars_c) (part c) in' is.local_step.alone is.local_step.operands local_row
            (cells.given_part g D nest is.split is.apart k term is.has_kind whole_op is.whole ts fit t whole c in' local_op is.local is.local_types (seat_of g.extents local_op c))

        part_at : s3 c (suc (suc N)) ≡ Some (part c)
        part_at = read_itself g.extents local_op s2 (suc (suc N)) is.local_step.defines c ∙ gives3

      -- ---- the all_reduce

      module _ (c : ℕ) (in' : c < cell_count g.extents) where
        members_below : AllByRecursion (λ m. m < cell_count g.extents) (group c)
        unfolding group_of
        members_below =
            each_map (λ m. m < cell_count g.extents) (λ q. member_of g.extents (reduction_axes D nest) c q) (range_with_len 0 (group_size_of g.extents (reduction_axes D nest)))
            (each_in_range _ 0 (group_size_of g.extents (reduction_axes D nest)) (λ q low lt. member_of-below g.extents (reduction_axes D nest) c q in' (omega (arith, lt))))

        place_below : place_in g.extents (reduction_axes D nest) c < length (group c)
        place_below = subst (λ m. place_in g.extents (reduction_axes D nest) c < m) (sym (length-group_of g.extents (reduction_axes D nest) c)) (place_in-below g.extents (reduction_axes D nest) c in' (reduction_axes_are g D nest is.split.loop is.apart))

        shapes_same : AllByRecursion (λ m. local_shape So m ≡ local_shape So c) (group c)
        shapes_same = cells.same_shapes g D nest is.split is.apart k term is.has_kind whole_op is.whole ts fit t whole c in'

        gives4 : gives (steps_on g.extents) reduce s3 c ≡ Some (reduced c)
        gives4 =
            collective_gives g.extents reduce s3 c (reduction_axes D nest) (suc (suc N)) part (reduced c)
            (ap (λ kind. is_collective_class (class_of kind)) is.combination.kind) (ap axes_of is.combination.kind ∙ is.combination.axes) is.combined_operands
            (each_both (λ m. m < cell_count g.extents) (λ m. s3 m (suc (suc N)) ≡ Some (part m)) (group c) (λ m lt. part_at m lt) members_below)
            (collected_is is.combination.reduce reduce is.combination.kind g.extents (local_shape So c) (is.combination.operand c in') (is.combination.result c in') (map part (group c)) (place_in g.extents (reduction_axes D nest) c)
            (subst (λ m. place_in g.extents (reduction_axes D nest) c < m) (sym (length-map (group c) part)) place_below)
            (each_map (λ u. u.shape ≡ local_shape So c) part (group c) shapes_same)
            ∙ ap₂ (λ v kind. Some (build (local_shape So c) v (combined_at kind (map part (group c))))) is.combination.width is.combination.reduction)

        -- ---- and the outs

        outs_later : s4 c n ≡ Some (outs_c c in')
        outs_later =
            read_other g.extents reduce s3 (suc (suc (suc N))) is.combined_name c n (λ e. absurd (omega (arith, e, N_is)))
            ∙ read_other g.extents local_op s2 (suc (suc N)) is.local_step.defines c n (λ e. absurd (omega (arith, e, N_is)))
            ∙ old2 c in' n (omega (arith, N_is))
            ∙ outs_at c in'

        abbrev W : List ℕ → List ℕ
        W j = cells.W g D nest is.split is.apart k term is.has_kind whole_op is.whole ts fit t whole c in' j

        combined_cells : (j : List ℕ) → IsIndexOf (local_shape So c) j → at (reduced c) j ≡ total (combine_of k w) (neutral_of k w) (group c) (λ m. cell_of m j)
        combined_cells j inside =
            at-build (local_shape So c) w (combined_at k (map part (group c))) j inside
            ∙ combined_is k w (combine_laws k w) part (λ m. cell_of m j) j (group c) (omega (arith, place_below)) (λ m. refl)
            (λ m. cells.is_part g D nest is.split is.apart k term is.has_kind whole_op is.whole ts fit t whole m j)
            (each_both (λ m. local_shape So m ≡ local_shape So c) (λ m. at (part m) j ≡ cell_of m j) (group c)
            (λ m same. at-build (local_shape So m) w (cell_of m) j (subst (λ s. IsIndexOf s j) (sym same) inside)) shapes_same)

        joined_cell : (j : List ℕ) → IsIndexOf (local_shape So c) j → combine_of k w (at (outs_c c in') j) (at (reduced c) j) ≡ at t (W j)
        joined_cell j inside =
            ap₂ (combine_of k w) (held_at g D c is.split.loop in' nest.out.dims is.split.output.admitted _ j inside) (combined_cells j inside)
            ∙ sym (cells.put_together g D nest is.split is.apart k term is.has_kind whole_op is.whole ts fit t whole c in' j inside).value

        gives5 : gives (steps_on g.extents) join s4 c ≡ Some (cut_of So t c)
        gives5 =
            local_gives g.extents join s4 c (n ∷ suc (suc (suc N)) ∷ []) (outs_c c in' ∷ reduced c ∷ []) (cut_of So t c) in' is.joined_step.alone is.joined_step.operands
            (two_there (s4 c) n (suc (suc (suc N))) (outs_c c in') (reduced c) outs_later (read_itself g.extents reduce s3 (suc (suc (suc N))) is.combined_name c ∙ gives4))
            (binary_gives (operation_of k) join is.joining.kind (combine_of k (width_of join.result)) (λ x y. element_of-operation_of k (width_of join.result) x y) (seat_of g.extents join c) (local_shape So c) (outs_c c in') (reduced c) (shape-cut_of So _ c) refl (is.joining.result c in')
            ∙ ap (λ v. Some (build (local_shape So c) v (λ j. combine_of k v (at (outs_c c in') j) (at (reduced c) j)))) is.joining.width
            ∙ ap (λ u. Some u) (build-ext (local_shape So c) w (λ j. combine_of k w (at (outs_c c in') j) (at (reduced c) j)) (λ j. at t (W j)) joined_cell)
            ∙ ap (λ u. Some u) (cut.cut_built g D nest is.split K whole_op is.whole ts fit t whole c in'))

      part_runs : RunsTo (steps_on g.extents) (constant ∷ fill ∷ local_op ∷ reduce ∷ join ∷ []) s0 (HasCuts (steps_on g.extents) tensor_splitting (suc (suc (suc (suc N)))) (split_by g D nest.out) t)
      unfolding steps_on
      part_runs = (
        ((λ c lt. ap (λ o. is_some o) (gives1 c lt)), ((λ c lt. ap (λ o. is_some o) (gives2 c lt)), ((λ c lt. ap (λ o. is_some o) (gives3 c lt)), ((λ c lt. ap (λ o. is_some o) (gives4 c lt)), ((λ c lt. ap (λ o. is_some o) (gives5 c lt)), tt))))),
        λ c lt. read_itself g.extents join s4 (suc (suc (suc (suc N)))) is.joined_step.defines c ∙ gives5 c lt,
      )

  -- ---- the law

  pub split_law : IsLocalPart (steps_on g.extents) tensor_splitting (given whole_op alone) (splits_by g D nest) (split_by g D nest.out) (constant ∷ fill ∷ local_op ∷ reduce ∷ join ∷ [])
  unfolding steps_on
  split_law =
      let last : N + 5 - 1 ≡ suc (suc (suc (suc N))) = omega arith in
      record {
        some = omega arith;
        numbered = (is.neutral_step.defines, (is.filled_step.defines, (is.local_step.defines, (is.combined_name, (is.joined_step.defines, tt)))));
        fits = λ ts t fit whole. cut.result_fits g D nest is.split K whole_op is.whole ts fit t whole;
        runs = λ ts t s fit whole has.
            subst (λ m. RunsTo (steps_on g.extents) (constant ∷ fill ∷ local_op ∷ reduce ∷ join ∷ []) s (HasCuts (steps_on g.extents) tensor_splitting m (split_by g D nest.out) t)) (sym last) (part_runs ts fit t whole s has);
      }
