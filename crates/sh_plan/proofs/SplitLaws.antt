-- Moves that split: the slice of a cut is the finer cut.
use Rattle.std.proofs.Common.{◌≡◌, ◌∙◌, ℕ, ◌+◌, ◌-◌, ◌*◌, ◌/◌, ◌%◌, ◌<◌, ◌≤◌, ◌==◌, Bool, true, false, not, ◌&&◌, List, [], ◌∷◌, ◌++◌, length, map, get_or, set, Option, Some, refl, ap, sym, subst, arith}
use Rattle.std.specs.Prelude.{nat_le, nat_lt, option_and_then, pos, if◌then◌else◌}
use Rattle.std.specs.List.{range_with_len}
use Rattle.std.proofs.lemmas.Bool.{and_from, le-leb, lt-ltb, not-true}
use Rattle.std.proofs.lemmas.Bool.Decides.{nat_tests}
use Rattle.std.proofs.lemmas.List.{get_or-set_same, length-set}
use Rattle.std.proofs.lemmas.List.FromFn.{get_or-map-range_with_len}
use Rattle.std.proofs.lemmas.Nat.{div-mul-add, mod-mul-add}
use Rattle.std.proofs.lemmas.Option.{same_Some}
use Rattle.sh_base.specs.declared.numbers.Width.{Width}
use Rattle.sh_base.specs.Shape.{cell_count}
use Rattle.sh_grid.specs.Grid.{AreAxesOf, group_size_of, member_of, place_in}
use Rattle.sh_grid.proofs.GroupLaws.{AgreeOutside-refl, member_of-place_in, place_in-below}
use Rattle.sh_grid.proofs.GroupSteps.{group_size_of-some}
use Rattle.sh_ir.specs.Numbers.{as_natural, as_naturals}
use Rattle.sh_ir.specs.Typing.{typing_of}
use Rattle.sh_ir.specs.declared.operations.Op.{Op}
use Rattle.sh_ir.specs.declared.types.ValueType.{ValueType}
use Rattle.sh_pieces.specs.Instructions.{State, gives}
use Rattle.sh_pieces.specs.Promises.{HasCuts, IsReshard}
use Rattle.sh_pieces.proofs.Parts.{one_gives}
use Rattle.sh_tensor.specs.Tensor.{TensorValue, slice_of}
use Rattle.sh_sem.specs.Given.{given, gives_piece, giving}
use Rattle.sh_sem.specs.Pieces.{Piece, equal_piece, listed_piece}
use Rattle.sh_sem.specs.Steps.{seat_of, steps_on}
use Rattle.sh_sem.specs.Types.{have_extents}
use Rattle.sh_sharding.specs.declared.shardings.Dimension.{Dimension}
use Rattle.sh_sharding.specs.Cut.{cut_of}
use Rattle.sh_sharding.specs.LocalTypes.{local_dims, part_sizes}
use Rattle.sh_sharding.specs.Made.{IsState}
use Rattle.sh_sharding.specs.Sharding.{ShardingValue, axes_of, is_even, is_split, is_uneven, local_extent, local_shape, offset_at, part_size, parts_of, size_of_part, unsplit, whole_of}
use Rattle.sh_sharding.specs.Splits.{IsOfSplit, TensorSplit, tensor_splitting}
use Rattle.sh_sharding.proofs.Cases.{and_left, and_right}
use Rattle.sh_sharding.proofs.CutLaws.{shape-cut_of, width-cut_of}
use Rattle.sh_plan.specs.declared.moves.Move.{Move}
use Rattle.sh_plan.specs.declared.moves.Move.TheVariants.{M1, M2, M3, M4, M5}
use Rattle.sh_plan.specs.Instructions.{IsMoveAt, Reshards, instruction_of, kind_of, local_type, part_starts, split_of}
use Rattle.sh_plan.specs.Moves.{after, are_unused, at, is_even_or_unsplit, may, may_append, may_be, moved, with_axis}
use Rattle.sh_plan.specs.States.{IsStateTo}
use Rattle.sh_plan.proofs.CheckSteps.{state_after}
use Rattle.sh_plan.proofs.EdgeRows.{moved_to}
use Rattle.sh_plan.proofs.FinerMoves.{IsOfState, equal_starts, even_pieces, finer, of_state, whole_pieces}
use Rattle.sh_plan.proofs.FinerParts.{ArePieced, IsPieced, piece_of_cut, piece_within, pieces_end, pieces_rise, shape_there}
use Rattle.sh_plan.proofs.LocalSteps.{IsPieceOp, has_local_dims, piece_given}
use Rattle.sh_plan.proofs.SplitSteps.{extent_at, same_rank}
use Rattle.sh_plan.proofs.States.{even_is, none_split, some_split}

-- ---- one instruction makes a reshard

pub is_state_to : (s to : ShardingValue) (m : Move) → IsMoveAt s to m → IsStateTo to s
is_state_to s to m is = record { state = is.state; grid = is.grid; whole = is.whole }

-- the sharding that a move leads to
pub state_then : (s to : ShardingValue) (m : Move) → IsMoveAt s to m → IsState (moved s to m)
state_then s to m is = state_after to s m (is_state_to s to m is) is.target is.named is.allowed

pub whole_then : (s to : ShardingValue) (m : Move) → IsMoveAt s to m → whole_of (moved s to m) ≡ whole_of s
whole_then s to m is = (moved_to to s (moved s to m) m (is_state_to s to m is) refl (state_then s to m is)).whole ∙ sym is.whole

-- where each device gets its cut
pub reshards_by : (w : Width) (s to : ShardingValue) (m : Move) (value name : ℕ) → IsMoveAt s to m →
    ((t : TensorValue) (st : State TensorValue) (c : ℕ) → IsOfSplit (split_of w s) t → HasCuts (steps_on s.grid.extents) tensor_splitting value (split_of w s) t st → c < cell_count s.grid.extents →
    gives (steps_on s.grid.extents) (instruction_of w s (moved s to m) m value name) st c ≡ Some (cut_of (moved s to m) t c)) →
    Reshards w s (moved s to m) m value name
unfolding steps_on
reshards_by w s to m value name is given = record {
  new = ((λ other e. let same : name ≡ other = same_Some name other e in omega (arith, same)), tt);
  rises = omega arith;
  below = omega arith;
  fits = λ t fits. record { tensor = fits.tensor; shape = fits.shape ∙ sym (whole_then s to m is); width = fits.width };
  runs = λ t st fits has.
      one_gives (steps_on s.grid.extents) tensor_splitting (instruction_of w s (moved s to m) m value name) st name (split_of w (moved s to m)) t refl
      (λ c here. given t st c fits has here);
}

-- ---- an instruction that keeps a piece of the own cut

module _ (w : Width) (s to : ShardingValue) (m : Move) (value name : ℕ) (is : IsMoveAt s to m) (L : List ℕ) (off : ℕ → ℕ → ℕ) (k : ℕ) (piece : ℕ → ℕ → Option Piece)
    (axes : AreAxesOf (length s.grid.extents) L) (pieced : ArePieced s.grid.extents L off k (moved s to m).dimensions s.dimensions)
    (is_local : (st : State TensorValue) (c : ℕ) (t : TensorValue) → st c value ≡ Some t →
    gives (steps_on s.grid.extents) (instruction_of w s (moved s to m) m value name) st c
    ≡ given (instruction_of w s (moved s to m) m value name) (seat_of s.grid.extents (instruction_of w s (moved s to m) m value name) c) (t ∷ []))
    (gives_it : (c : ℕ) → IsPieceOp (instruction_of w s (moved s to m) m value name) (seat_of s.grid.extents (instruction_of w s (moved s to m) m value name) c) k (piece c) (local_type w s))
    (here_it : (c : ℕ) → c < cell_count s.grid.extents → piece c (get_or (local_shape s c) k 0)
    ≡ Some (record { start = off c (place_in s.grid.extents L c); size = off c (place_in s.grid.extents L c + 1) - off c (place_in s.grid.extents L c) })) where
  abbrev g : List ℕ
  g = s.grid.extents

  abbrev next : ShardingValue
  next = moved s to m

  own_piece : (c : ℕ) → c < cell_count g → member_of g L c (place_in g L c) ≡ c
  own_piece c here = member_of-place_in g L c c here axes (AgreeOutside-refl g L c)

  gives_piece_of : (t : TensorValue) (st : State TensorValue) (c : ℕ) → IsOfSplit (split_of w s) t → HasCuts (steps_on g) tensor_splitting value (split_of w s) t st → c < cell_count g →
      gives (steps_on g) (instruction_of w s next m value name) st c ≡ Some (cut_of next t c)
  unfolding steps_on
  gives_piece_of t st c fits has here =
      let q = place_in g L c in
      let size : ℕ = off c (q + 1) - off c q in
      let below = place_in-below g L c here axes in
      let state = state_then s to m is in
      let itself = own_piece c here in
      let shaped : local_shape next c ≡ set (local_shape s c) k size =
      ap (local_shape next) (sym itself) ∙ shape_there g L off c q here below k next.dimensions s.dimensions pieced state.plain in
      let own : (cut_of s t c).shape ≡ local_shape s c = shape-cut_of s t c in
      let before : have_extents (local_dims s) (cut_of s t c).shape ≡ true = ap (have_extents (local_dims s)) own ∙ has_local_dims s c is.state.sharding here in
      let after' : have_extents (local_dims next) (set (cut_of s t c).shape k size) ≡ true =
      ap (λ n. have_extents (local_dims next) (set n k size)) own ∙ ap (have_extents (local_dims next)) (sym shaped) ∙ has_local_dims next c state.sharding here in
      let found = ap (λ n. piece c (get_or n k 0)) own ∙ here_it c here in
      is_local st c (cut_of s t c) (has c here)
      ∙ piece_given (instruction_of w s next m value name) (seat_of g (instruction_of w s next m value name) c) k (piece c) (local_type w s) (cut_of s t c) (off c q) size
      (gives_it c) before found after' (sym (width-cut_of s t c ∙ fits.width))
      ∙ ap Some (piece_of_cut s.grid L off k next.dimensions s.dimensions t c q state is.state pieced here below ∙ ap (cut_of next t) itself)

  pub reshards_piece : Reshards w s next m value name
  reshards_piece = reshards_by w s to m value name is gives_piece_of

-- ---- written numbers

pub naturals : (ns : List ℕ) → as_naturals (map pos ns) ≡ ns
naturals [] = refl
naturals (n ∷ ns) = ap (λ xs. n ∷ xs) (naturals ns)

-- ---- M2

pub equal_there : (n q size extent : ℕ) → 0 < n → extent ≡ n * size → equal_piece n q extent ≡ Some (record { start = q * size; size = (q + 1) * size - q * size })
equal_there n q size extent some long =
    let product : extent ≡ size * n + 0 = omega (arith, long) in
    let whole : extent % n ≡ 0 = ap (λ e. e % n) product ∙ mod-mul-add size n 0 some in
    let share : extent / n ≡ size = ap (λ e. e / n) product ∙ div-mul-add size n 0 some in
    let one : (q + 1) * size - q * size ≡ size = omega arith in
    let test : nat_lt 0 n ≡ true = lt-ltb 0 n some in
    rw (one, test, whole, share) refl

-- what a dimension is that an axis is appended to
even_append : (s to : ShardingValue) (d a : ℕ) → may_be s to (M2 d a) ≡ true → is_even s.grid.extents (with_axis (at s.dimensions d) a) ≡ true
unfolding may
even_append s to d a allowed =
    let appends = and_right (are_unused s.dimensions (a ∷ [])) (may_append s.grid.extents s.dimensions d a) allowed in
    and_right (is_even_or_unsplit s.grid.extents (at s.dimensions d)) (is_even s.grid.extents (with_axis (at s.dimensions d) a)) appends

-- a dimension that a move puts into a state
pub dimension_then : (s : ShardingValue) (ds : List Dimension) (k : ℕ) (d : Dimension) → IsState (record s { dimensions = set ds k d }) → k < length ds → IsOfState s.grid.extents d
dimension_then s ds k d state within =
    subst (λ (x : Dimension). IsOfState s.grid.extents x) (get_or-set_same ds k d (unsplit 0) within)
    (of_state (record s { dimensions = set ds k d }) k state (rw (length-set ds k d) within))

module _ (w : Width) (s to : ShardingValue) (d a value name : ℕ) (is : IsMoveAt s to (M2 d a)) where
  abbrev gs : List ℕ
  gs = s.grid.extents

  abbrev grown : Dimension
  grown = with_axis (at s.dimensions d) a

  pub slice_pieced : ArePieced gs (a ∷ []) (equal_starts gs grown) d (moved s to (M2 d a)).dimensions s.dimensions
  unfolding after
  slice_pieced =
      let state = state_then s to (M2 d a) is in
      let own = dimension_then s s.dimensions d grown state is.named.0 in
      finer s s.dimensions d (a ∷ []) (equal_starts gs grown) grown (at s.dimensions d).axes state.sharding.axes is.named.0 refl
      (even_pieces gs (at s.dimensions d) a is.state.sharding.grid own.axes (even_append s to d a is.allowed))

  slice_local : (st : State TensorValue) (c : ℕ) (t : TensorValue) → st c value ≡ Some t →
      gives (steps_on gs) (instruction_of w s (moved s to (M2 d a)) (M2 d a) value name) st c
      ≡ given (instruction_of w s (moved s to (M2 d a)) (M2 d a) value name) (seat_of gs (instruction_of w s (moved s to (M2 d a)) (M2 d a) value name) c) (t ∷ [])
  unfolding steps_on kind_of
  slice_local st c t has = rw has refl

  slice_op : (c : ℕ) → IsPieceOp (instruction_of w s (moved s to (M2 d a)) (M2 d a) value name) (seat_of gs (instruction_of w s (moved s to (M2 d a)) (M2 d a) value name) c) d
      (equal_piece (group_size_of gs (a ∷ [])) (place_in gs (a ∷ []) c)) (local_type w s)
  unfolding kind_of giving typing_of
  slice_op c = record { gives = refl; typed = refl }

  slice_found : (c : ℕ) → c < cell_count gs → equal_piece (group_size_of gs (a ∷ [])) (place_in gs (a ∷ []) c) (get_or (local_shape s c) d 0)
      ≡ Some (record {
        start = equal_starts gs grown c (place_in gs (a ∷ []) c);
        size = equal_starts gs grown c (place_in gs (a ∷ []) c + 1) - equal_starts gs grown c (place_in gs (a ∷ []) c);
      })
  slice_found c here =
      let ends = pieces_end gs (a ∷ []) (equal_starts gs grown) c here d (moved s to (M2 d a)).dimensions s.dimensions slice_pieced is.state.plain in
      equal_there (group_size_of gs (a ∷ [])) (place_in gs (a ∷ []) c) (grown.extent / parts_of gs grown) (get_or (local_shape s c) d 0)
      (group_size_of-some gs (a ∷ []) is.state.sharding.grid.positive (is.named.1, tt, tt)) (sym ends)

  pub slice_reshards : Reshards w s (moved s to (M2 d a)) (M2 d a) value name
  slice_reshards =
      reshards_piece w s to (M2 d a) value name is (a ∷ []) (equal_starts gs grown) d (λ c. equal_piece (group_size_of gs (a ∷ [])) (place_in gs (a ∷ []) c)) (is.named.1, tt, tt)
      slice_pieced slice_local slice_op slice_found

-- ---- M5

-- what the two dimensions are, where the target's is taken
record IsTaken (s to : ShardingValue) (d : ℕ) : Type 0 where
  extent : (at to.dimensions d).extent ≡ (at s.dimensions d).extent
  whole : at s.dimensions d ≡ unsplit (at to.dimensions d).extent

is_taken : (s to : ShardingValue) (d : ℕ) → IsMoveAt s to (M5 d) → IsTaken s to d
unfolding may
is_taken s to d is =
    let extent : (at to.dimensions d).extent ≡ (at s.dimensions d).extent =
    extent_at to.dimensions d ∙ ap (λ (ns : List ℕ). get_or ns d 0) (sym is.whole) ∙ sym (extent_at s.dimensions d) in
    let none : is_split (at s.dimensions d) ≡ false = not-true (is_split (at s.dimensions d))
    (and_left (not (is_split (at s.dimensions d))) (is_uneven s.grid.extents (at to.dimensions d) && are_unused s.dimensions (at to.dimensions d).axes) is.allowed) in
    let own = of_state s d is.state is.named in
    record { extent = extent; whole = own.dimension.unsplit (none_split (at s.dimensions d).axes none) ∙ ap unsplit (sym extent) }

size_is : (g : List ℕ) (d : Dimension) (q : ℕ) → part_size g d q ≡ offset_at g d (q + 1) - offset_at g d q
unfolding part_size size_of_part offset_at
size_is g d q = refl

-- the listed pieces are those of the parts
listed_there : (g : List ℕ) (d : Dimension) (q extent : ℕ) → q < parts_of g d → offset_at g d q ≤ offset_at g d (q + 1) → offset_at g d (q + 1) ≤ extent →
    listed_piece (part_starts g d) (part_sizes g d) q extent ≡ Some (record { start = offset_at g d q; size = offset_at g d (q + 1) - offset_at g d q })
unfolding part_starts part_sizes
listed_there g d q extent below rises within =
    let start : get_or (map (offset_at g d) (range_with_len 0 (parts_of g d))) q 0 ≡ offset_at g d q = get_or-map-range_with_len (offset_at g d) 0 (parts_of g d) q q 0 below (omega arith) in
    let size : get_or (map (part_size g d) (range_with_len 0 (parts_of g d))) q 0 ≡ part_size g d q = get_or-map-range_with_len (part_size g d) 0 (parts_of g d) q q 0 below (omega arith) in
    let long = size_is g d q in
    let test : nat_le (offset_at g d q + (offset_at g d (q + 1) - offset_at g d q)) extent ≡ true =
    le-leb (offset_at g d q + (offset_at g d (q + 1) - offset_at g d q)) extent (omega (arith, rises, within)) in
    rw (start, size) (rw long (rw test refl))

module _ (w : Width) (s to : ShardingValue) (d value name : ℕ) (is : IsMoveAt s to (M5 d)) where
  abbrev gt : List ℕ
  gt = s.grid.extents

  abbrev taken : Dimension
  taken = at to.dimensions d

  pub taken_of : IsOfState gt taken
  unfolding after
  taken_of = dimension_then s s.dimensions d taken (state_then s to (M5 d) is) is.named

  pub taken_there : at (moved s to (M5 d)).dimensions d ≡ taken
  unfolding after
  taken_there = get_or-set_same s.dimensions d taken (unsplit 0) is.named

  pub take_pieced : ArePieced gt taken.axes (λ c q. offset_at gt taken q) d (moved s to (M5 d)).dimensions s.dimensions
  unfolding after
  take_pieced =
      let state = state_then s to (M5 d) is in
      finer s s.dimensions d taken.axes (λ c q. offset_at gt taken q) taken [] state.sharding.axes is.named refl
      (subst (λ (x : Dimension). IsPieced gt taken.axes (λ c q. offset_at gt taken q) taken x) (sym (is_taken s to d is).whole)
      (whole_pieces gt taken is.state.sharding.grid taken_of.axes taken_of.dimension.divided))

  take_local : (st : State TensorValue) (c : ℕ) (t : TensorValue) → st c value ≡ Some t →
      gives (steps_on gt) (instruction_of w s (moved s to (M5 d)) (M5 d) value name) st c
      ≡ given (instruction_of w s (moved s to (M5 d)) (M5 d) value name) (seat_of gt (instruction_of w s (moved s to (M5 d)) (M5 d) value name) c) (t ∷ [])
  unfolding steps_on kind_of
  take_local st c t has = rw has refl

  take_op : (c : ℕ) → IsPieceOp (instruction_of w s (moved s to (M5 d)) (M5 d) value name) (seat_of gt (instruction_of w s (moved s to (M5 d)) (M5 d) value name) c) d
      (listed_piece (part_starts gt taken) (part_sizes gt taken) (place_in gt taken.axes c)) (local_type w s)
  unfolding kind_of giving typing_of
  take_op c = record {
    gives =
        ap (λ (x : Dimension). Some (gives_piece d (listed_piece (as_naturals (map pos (part_starts gt x))) (as_naturals (map pos (part_sizes gt x))) (place_in gt (as_naturals (map pos x.axes)) c)))) taken_there
        ∙ rw (naturals (part_starts gt taken), naturals (part_sizes gt taken), naturals taken.axes) refl;
    typed = refl;
  }

  take_found : (c : ℕ) → c < cell_count gt → listed_piece (part_starts gt taken) (part_sizes gt taken) (place_in gt taken.axes c) (get_or (local_shape s c) d 0)
      ≡ Some (record { start = offset_at gt taken (place_in gt taken.axes c); size = offset_at gt taken (place_in gt taken.axes c + 1) - offset_at gt taken (place_in gt taken.axes c) })
  unfolding parts_of
  take_found c here =
      let below = place_in-below gt taken.axes c here taken_of.axes in
      listed_there gt taken (place_in gt taken.axes c) (get_or (local_shape s c) d 0) below
      (pieces_rise gt taken.axes (λ c q. offset_at gt taken q) c here d (moved s to (M5 d)).dimensions s.dimensions (place_in gt taken.axes c) below take_pieced)
      (piece_within gt taken.axes (λ c q. offset_at gt taken q) c here d (moved s to (M5 d)).dimensions s.dimensions (place_in gt taken.axes c) below take_pieced is.state.plain)

  pub take_reshards : Reshards w s (moved s to (M5 d)) (M5 d) value name
  take_reshards =
      reshards_piece w s to (M5 d) value name is taken.axes (λ c q. offset_at gt taken q) d (λ c. listed_piece (part_starts gt taken) (part_sizes gt taken) (place_in gt taken.axes c)) taken_of.axes
      take_pieced take_local take_op take_found
