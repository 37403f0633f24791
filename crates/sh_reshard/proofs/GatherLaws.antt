-- Moves that gather: the cuts of a group, one after the other, are the coarser cut.
use Rattle.std.proofs.Common.{◌≡◌, ◌∙◌, ℕ, ◌+◌, ◌<◌, ◌≤◌, true, List, [], ◌∷◌, map, length, get_or, Some, refl, ap, sym, subst, arith}
use Rattle.std.specs.List.{range_with_len}
use Rattle.std.proofs.lemmas.Bool.{and_from}
use Rattle.std.proofs.lemmas.List.{length-map}
use Rattle.sh_base.specs.declared.numbers.Cell.{Cell}
use Rattle.sh_base.specs.declared.numbers.Width.{Width}
use Rattle.sh_base.specs.Shape.{cell_count, IsIndexOf}
use Rattle.sh_grid.specs.Grid.{AreAxesOf, group_size_of, member_of, place_in}
use Rattle.sh_grid.proofs.GroupLaws.{member_of-below, place_in-below}
use Rattle.sh_grid.proofs.GroupSteps.{group_size_of-some}
use Rattle.sh_ir.specs.Classes.{class_of}
use Rattle.sh_ir.specs.Typing.{typing_of}
use Rattle.sh_ir.specs.declared.operations.Op.{Op}
use Rattle.sh_ir.specs.declared.types.ValueType.{ValueType}
use Rattle.sh_pieces.specs.Instructions.{State, gives}
use Rattle.sh_pieces.specs.Promises.{HasCuts}
use Rattle.sh_sem.specs.Collected.{collected, collecting, gathers}
use Rattle.sh_sem.specs.Given.{have_all_extents}
use Rattle.sh_sem.specs.Steps.{axes_of, is_collective_class, steps_on}
use Rattle.sh_sem.specs.Types.{have_extents}
use Rattle.sh_tensor.specs.Tensor.{TensorValue, at, build}
use Rattle.sh_tensor.proofs.TensorLaws.{build-ext}
use Rattle.sh_sharding.specs.Cut.{cut_cell, cut_of}
use Rattle.sh_sharding.specs.LocalTypes.{local_dims}
use Rattle.sh_sharding.specs.Sharding.{ShardingValue, local_extent, local_shape, offset_at}
use Rattle.sh_sharding.specs.Splits.{IsOfSplit, tensor_splitting}
use Rattle.sh_sharding.proofs.CutLaws.{at-cut_of, shape-cut_of}
use Rattle.sh_plan.specs.declared.moves.Move.{Move}
use Rattle.sh_plan.specs.declared.moves.Move.TheVariants.{M1, M4}
use Rattle.sh_plan.specs.Instructions.{IsMoveAt, Reshards, instruction_of, kind_of, local_type, split_of}
use Rattle.sh_plan.specs.Moves.{after, at as dimension_at, last_axis, moved}
use Rattle.sh_plan.proofs.FinerMoves.{equal_starts}
use Rattle.sh_plan.proofs.FinerParts.{ArePieced, piece_of_cut, pieced_within, pieces_begin, pieces_end, pieces_rise}
use Rattle.sh_plan.proofs.GatherPieces.{gathered_last, gathered_whole}
use Rattle.sh_plan.proofs.LocalSteps.{has_local_dims}
use Rattle.sh_plan.proofs.SplitLaws.{naturals, reshards_by, state_then}
use Rattle.sh_reshard.proofs.CollectedSteps.{collected_is, group_gives}
use Rattle.sh_reshard.proofs.JoinedPieces.{joined_shape_whole, joined_whole, piece, same_range}

-- a tensor of a cut's shape with its cells is the cut
pub build_cut : (s : ShardingValue) (t : TensorValue) (c : ℕ) (w : Width) (f : List ℕ → Cell) → t.width ≡ w → ((i : List ℕ) → IsIndexOf (local_shape s c) i → f i ≡ at (cut_of s t c) i)
    → build (local_shape s c) w f ≡ cut_of s t c
unfolding cut_of
build_cut s t c w f width cells =
    ap (λ w. build (local_shape s c) w f) (sym width)
    ∙ build-ext (local_shape s c) t.width f (cut_cell s t c) (λ i index. cells i index ∙ at-cut_of s t c i index)

-- what an instruction is that gathers along an axis
pub record IsGatherOp (g L : List ℕ) (k : ℕ) (operand : ValueType) (op : Op) : Type 0 where
  pub collective : is_collective_class (class_of op.kind) ≡ true
  pub on : axes_of op.kind ≡ L
  pub gathers : collecting op.kind g ≡ Some (gathers k)
  pub typed : typing_of op.kind op.result ≡ operand ∷ []

module _ (w : Width) (s to : ShardingValue) (m : Move) (value name : ℕ) (is : IsMoveAt s to m) (L : List ℕ) (off : ℕ → ℕ → ℕ) (k : ℕ)
    (axes : AreAxesOf (length s.grid.extents) L) (pieced : ArePieced s.grid.extents L off k s.dimensions (moved s to m).dimensions)
    (op_is : IsGatherOp s.grid.extents L k (local_type w s) (instruction_of w s (moved s to m) m value name)) where
  abbrev g : List ℕ
  g = s.grid.extents

  abbrev next : ShardingValue
  next = moved s to m

  abbrev op : Op
  op = instruction_of w s next m value name

  abbrev n : ℕ
  n = group_size_of g L

  module _ (t : TensorValue) (fits : IsOfSplit (split_of w s) t) (c : ℕ) (here : c < cell_count g) where
    abbrev whole : TensorValue
    whole = cut_of next t c

    abbrev part : ℕ → TensorValue
    part q = cut_of s t (member_of g L c q)

    part_is : (q : ℕ) → q < n → part q ≡ piece whole k (off c) q
    part_is q below = sym (piece_of_cut s.grid L off k s.dimensions next.dimensions t c q is.state (state_then s to m is) pieced here below)

    ranked : k < length whole.shape
    ranked =
        subst (λ x. k < length x) (sym (shape-cut_of next t c))
        (subst (λ x. k < x) (sym (length-map next.dimensions (local_extent g c))) (pieced_within g L off k s.dimensions next.dimensions pieced))

    some : 0 < n
    some = group_size_of-some g L is.state.sharding.grid.positive axes

    rises : (q : ℕ) → q < n → off c q ≤ off c (q + 1)
    rises q below = pieces_rise g L off c here k s.dimensions next.dimensions q below pieced

    begins : off c 0 ≡ 0
    begins = pieces_begin g L off c here k s.dimensions next.dimensions pieced

    ends : off c n ≡ get_or whole.shape k 0
    ends =
        pieces_end g L off c here k s.dimensions next.dimensions pieced (state_then s to m is).plain
        ∙ ap (λ x. get_or x k 0) (sym (shape-cut_of next t c))

    before : (q : ℕ) → q < n → have_all_extents (typing_of op.kind op.result) ((piece whole k (off c) q).shape ∷ []) ≡ true
    before q below =
        let there = member_of-below g L c q here below in
        let own : have_extents (local_dims s) (piece whole k (off c) q).shape ≡ true =
        ap (λ (u : TensorValue). have_extents (local_dims s) u.shape) (sym (part_is q below))
        ∙ ap (have_extents (local_dims s)) (shape-cut_of s t (member_of g L c q))
        ∙ has_local_dims s (member_of g L c q) is.state.sharding there in
        ap (λ types. have_all_extents types ((piece whole k (off c) q).shape ∷ [])) op_is.typed
        ∙ and_from (have_extents (local_dims s) (piece whole k (off c) q).shape) true own refl

    after_it : (q : ℕ) → q < n → have_extents (local_dims next) whole.shape ≡ true
    after_it q below = ap (have_extents (local_dims next)) (shape-cut_of next t c) ∙ has_local_dims next c (state_then s to m is).sharding here

    shaped : (q : ℕ) → q < n → (gathers k).shape q (map (λ q. (piece whole k (off c) q).shape) (range_with_len 0 n)) ≡ Some whole.shape
    unfolding gathers
    shaped q below = joined_shape_whole whole k (off c) ranked n some rises begins ends

    cells : (i : List ℕ) → IsIndexOf (local_shape next c) i → (gathers k).cell (place_in g L c) (map (piece whole k (off c)) (range_with_len 0 n)) i ≡ at whole i
    unfolding gathers
    cells i index = joined_whole whole k (off c) ranked n i rises begins ends (subst (λ x. IsIndexOf x i) (sym (shape-cut_of next t c)) index)

    gather_gives : (st : State TensorValue) → HasCuts (steps_on g) tensor_splitting value (split_of w s) t st → gives (steps_on g) op st c ≡ Some whole
    unfolding steps_on
    gather_gives st has =
        group_gives g op value L (cut_of s t) st op_is.collective refl op_is.on has c here
        ∙ ap (λ ts. collected op g ts (place_in g L c)) (same_range part (piece whole k (off c)) 0 n (λ q below. part_is q (omega (arith, below))))
        ∙ collected_is op g (gathers k) n (piece whole k (off c)) (λ q. whole.shape) op_is.gathers before shaped after_it (place_in g L c) (place_in-below g L c here axes)
        ∙ ap (λ x. Some (build x w ((gathers k).cell (place_in g L c) (map (piece whole k (off c)) (range_with_len 0 n))))) (shape-cut_of next t c)
        ∙ ap Some (build_cut next t c w ((gathers k).cell (place_in g L c) (map (piece whole k (off c)) (range_with_len 0 n))) fits.width cells)

  pub gather_reshards : Reshards w s next m value name
  gather_reshards = reshards_by w s to m value name is (λ t st c fits has here. gather_gives t fits c here st has)

-- ---- the moves

last_op : (w : Width) (s next : ShardingValue) (d value name : ℕ) → IsGatherOp s.grid.extents (last_axis (dimension_at s.dimensions d) ∷ []) d (local_type w s) (instruction_of w s next (M1 d) value name)
unfolding kind_of collecting typing_of
last_op w s next d value name = record { collective = refl; on = refl; gathers = refl; typed = refl }

whole_op : (w : Width) (s next : ShardingValue) (d value name : ℕ) → IsGatherOp s.grid.extents (dimension_at s.dimensions d).axes d (local_type w s) (instruction_of w s next (M4 d) value name)
unfolding kind_of collecting typing_of
whole_op w s next d value name = record { collective = refl; on = naturals (dimension_at s.dimensions d).axes; gathers = refl; typed = refl }

pub last_reshards : (w : Width) (s to : ShardingValue) (d value name : ℕ) → IsMoveAt s to (M1 d) → Reshards w s (moved s to (M1 d)) (M1 d) value name
unfolding after
last_reshards w s to d value name is =
    let x = gathered_last s to d is in
    gather_reshards w s to (M1 d) value name is (last_axis (dimension_at s.dimensions d) ∷ []) (equal_starts s.grid.extents (dimension_at s.dimensions d)) d x.axes x.pieced
    (last_op w s (moved s to (M1 d)) d value name)

pub whole_reshards : (w : Width) (s to : ShardingValue) (d value name : ℕ) → IsMoveAt s to (M4 d) → Reshards w s (moved s to (M4 d)) (M4 d) value name
unfolding after
whole_reshards w s to d value name is =
    let x = gathered_whole s to d is in
    gather_reshards w s to (M4 d) value name is (dimension_at s.dimensions d).axes (λ c q. offset_at s.grid.extents (dimension_at s.dimensions d) q) d x.axes x.pieced
    (whole_op w s (moved s to (M4 d)) d value name)
