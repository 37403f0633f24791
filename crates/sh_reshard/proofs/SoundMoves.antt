-- The instruction of a move keeps the limits and the rules of device form.
use Rattle.std.proofs.Common.{◌≡◌, ◌≢◌, ◌∙◌, ℕ, ◌+◌, ◌-◌, ◌/◌, ◌<◌, Bool, true, false, not, ◌&&◌, List, [], ◌∷◌, length, map, set, Some, refl, ap, sym, subst, arith, inl, inr}
use Rattle.std.specs.Prelude.{◌||◌, nat_eq, nat_le, pos}
use Rattle.std.specs.List.{range_with_len}
use Rattle.std.proofs.lemmas.Bool.{and_from, lt-ltb}
use Rattle.std.proofs.lemmas.Bool.Decides.{nat_tests}
use Rattle.std.proofs.lemmas.List.{length-map}
use Rattle.std.proofs.lemmas.List.FromFn.{length-map-range_with_len}
use Rattle.sh_base.specs.Cells.{bits_of}
use Rattle.sh_base.specs.declared.numbers.Width.{Width}
use Rattle.sh_base.specs.declared.rules.Rule.{Rule}
use Rattle.sh_base.specs.declared.rules.Rule.TheVariants.{V1, V2, V3, V4, V5, V6, V8, V9, V10, L2, L4, L6}
use Rattle.sh_base.specs.Shape.{cell_count, max_cells, max_rank}
use Rattle.sh_grid.specs.Grid.{AreAxesOf, group_size_of}
use Rattle.sh_ir.specs.declared.operations.Op.{Op}
use Rattle.sh_ir.specs.declared.shard_ops.Take as declared_take
use Rattle.sh_ir.specs.declared.types.Dim.{Dim}
use Rattle.sh_ir.specs.Agreement.{all_related, dims_agree, same_dim, same_rank_and_bits}
use Rattle.sh_ir.specs.Attributes.{along_fits, axes_fit, has_dim, numbers_fit, pieces_fit}
use Rattle.sh_ir.specs.Limits.{counted_dim, has_few_cells, has_few_dims, has_few_inputs, has_few_loops}
use Rattle.sh_ir.specs.Loops.{generic_of}
use Rattle.sh_ir.specs.Numbers.{are_axes_below, as_naturals}
use Rattle.sh_ir.specs.Operands.{operands_fit}
use Rattle.sh_ir.specs.Results.{along, exchanged as exchanged_dims, is_gathered, is_of_sizes, is_piece, result_fits}
use Rattle.sh_ir.specs.Rules.{KeepsOp, calls_source, defines_new, has_region_in_order, is_in_form, keeps, names_known, region_faults, takes_operands, uses_defined}
use Rattle.sh_ir.specs.Scope.{Scope, group_size, same_text}
use Rattle.sh_ir.specs.Typing.{counts_fit, tensor_types, typing_of}
use Rattle.sh_ir.proofs.KeptLaws.{keeps_op}
use Rattle.sh_ir.proofs.TypeLaws.{agrees_itself, pairs_with_itself, same_bits, same_dim-itself}
use Rattle.sh_sharding.specs.declared.shardings.Dimension.{Dimension}
use Rattle.sh_sharding.specs.LocalTypes.{local_dim, local_dims, part_sizes}
use Rattle.sh_sharding.specs.Made.{IsState}
use Rattle.sh_sharding.specs.Sharding.{ShardingValue, offset_at, part_size, parts_of, unsplit}
use Rattle.sh_sharding.proofs.Cases.{same_or_not}
use Rattle.sh_sharding.proofs.LocalLimits.{few_cells, few_dims}
use Rattle.sh_plan.specs.declared.moves.Move.{Move}
use Rattle.sh_plan.specs.declared.moves.Move.TheVariants.{M1, M2, M3, M4, M5}
use Rattle.sh_plan.specs.Instructions.{IsMoveAt, groups_along, instruction_of, kind_of, local_type, part_starts}
use Rattle.sh_plan.specs.Moves.{after, at, last_axis, moved, with_axis, without_last}
use Rattle.sh_plan.proofs.FinerMoves.{equal_starts, of_state}
use Rattle.sh_plan.proofs.FinerParts.{ArePieced}
use Rattle.sh_plan.proofs.GatherPieces.{IsExchanged, exchanged, gathered_last, gathered_whole}
use Rattle.sh_plan.proofs.SplitLaws.{naturals, slice_pieced, state_then, take_pieced, taken_of, taken_there}
use Rattle.sh_reshard.specs.Soundness.{IsReshardScope}
use Rattle.sh_reshard.proofs.LocalExtents.{IsFiner, gathered, no_halos_at, of_sizes, piece_of, pieced_at, pieced_else, pieced_rank, related_all, related_at}
use Rattle.sh_reshard.proofs.NamedGroups.{axes_written, none_negative, size_known}

own_text : (name : List ℕ) → same_text name name ≡ true
own_text name = pairs_with_itself nat_eq (λ n. own n) name
  where
    own : (n : ℕ) → nat_eq n n ≡ true
    own n = grind (arith, nat_tests)

-- ---- what the rules ask of all five alike

module _ (w : Width) (s next : ShardingValue) (value name : ℕ) (scope : Scope) where
  abbrev op_of : Move → Op
  op_of m = instruction_of w s next m value name

  keeps_ranks : (m : Move) → nat_le (length (local_dims s)) max_rank ≡ true → nat_le (length (local_dims next)) max_rank ≡ true → keeps L2 scope (op_of m) ≡ true
  unfolding keeps kind_of has_few_dims has_few_loops generic_of
  keeps_ranks (M1 d) few then = rw (few, then) refl
  keeps_ranks (M2 d a) few then = rw (few, then) refl
  keeps_ranks (M3 d e) few then = rw (few, then) refl
  keeps_ranks (M4 d) few then = rw (few, then) refl
  keeps_ranks (M5 d) few then = rw (few, then) refl

  keeps_cells : (m : Move) → nat_le (cell_count (map counted_dim (local_dims s))) max_cells ≡ true → nat_le (cell_count (map counted_dim (local_dims next))) max_cells ≡ true →
      keeps L4 scope (op_of m) ≡ true
  unfolding keeps kind_of has_few_cells
  keeps_cells (M1 d) few then = rw (few, then) refl
  keeps_cells (M2 d a) few then = rw (few, then) refl
  keeps_cells (M3 d e) few then = rw (few, then) refl
  keeps_cells (M4 d) few then = rw (few, then) refl
  keeps_cells (M5 d) few then = rw (few, then) refl

  keeps_inputs : (m : Move) → keeps L6 scope (op_of m) ≡ true
  unfolding keeps kind_of has_few_inputs generic_of
  keeps_inputs (M1 d) = refl
  keeps_inputs (M2 d a) = refl
  keeps_inputs (M3 d e) = refl
  keeps_inputs (M4 d) = refl
  keeps_inputs (M5 d) = refl

  keeps_maps : (m : Move) → keeps V8 scope (op_of m) ≡ true
  unfolding keeps kind_of generic_of
  keeps_maps (M1 d) = refl
  keeps_maps (M2 d a) = refl
  keeps_maps (M3 d e) = refl
  keeps_maps (M4 d) = refl
  keeps_maps (M5 d) = refl

  keeps_region : (m : Move) → keeps V9 scope (op_of m) ≡ true
  unfolding keeps kind_of has_region_in_order
  keeps_region (M1 d) = refl
  keeps_region (M2 d a) = refl
  keeps_region (M3 d e) = refl
  keeps_region (M4 d) = refl
  keeps_region (M5 d) = refl

  no_region : (m : Move) (rule : Rule) → region_faults (rule ∷ []) scope (op_of m).kind ≡ []
  unfolding region_faults kind_of
  no_region (M1 d) rule = refl
  no_region (M2 d a) rule = refl
  no_region (M3 d e) rule = refl
  no_region (M4 d) rule = refl
  no_region (M5 d) rule = refl

  module _ (at_scope : IsReshardScope w s value name scope) where
    keeps_uses : (m : Move) → keeps V1 scope (op_of m) ≡ true
    unfolding keeps kind_of uses_defined
    keeps_uses (M1 d) = rw at_scope.there refl
    keeps_uses (M2 d a) = rw at_scope.there refl
    keeps_uses (M3 d e) = rw at_scope.there refl
    keeps_uses (M4 d) = rw at_scope.there refl
    keeps_uses (M5 d) = rw at_scope.there refl

    keeps_names : (m : Move) → keeps V2 scope (op_of m) ≡ true
    unfolding keeps kind_of defines_new
    keeps_names (M1 d) = let new = at_scope.fresh name (omega arith) in rw new refl
    keeps_names (M2 d a) = let new = at_scope.fresh name (omega arith) in rw new refl
    keeps_names (M3 d e) = let new = at_scope.fresh name (omega arith) in rw new refl
    keeps_names (M4 d) = let new = at_scope.fresh name (omega arith) in rw new refl
    keeps_names (M5 d) = let new = at_scope.fresh name (omega arith) in rw new refl

    keeps_types : (m : Move) → keeps V3 scope (op_of m) ≡ true
    unfolding keeps kind_of takes_operands counts_fit typing_of tensor_types operands_fit
    keeps_types (M1 d) = let bits = same_bits w in let same = pairs_with_itself same_dim same_dim-itself (local_dims s) in rw at_scope.there (rw at_scope.typed (rw (bits, same) refl))
    keeps_types (M2 d a) = let bits = same_bits w in let same = pairs_with_itself same_dim same_dim-itself (local_dims s) in rw at_scope.there (rw at_scope.typed (rw (bits, same) refl))
    keeps_types (M3 d e) = let bits = same_bits w in let same = pairs_with_itself same_dim same_dim-itself (local_dims s) in rw at_scope.there (rw at_scope.typed (rw (bits, same) refl))
    keeps_types (M4 d) = let bits = same_bits w in let same = pairs_with_itself same_dim same_dim-itself (local_dims s) in rw at_scope.there (rw at_scope.typed (rw (bits, same) refl))
    keeps_types (M5 d) = let bits = same_bits w in let same = pairs_with_itself same_dim same_dim-itself (local_dims s) in rw at_scope.there (rw at_scope.typed (rw (bits, same) refl))

    keeps_grids : (m : Move) → keeps V6 scope (op_of m) ≡ true
    unfolding keeps kind_of names_known
    keeps_grids (M1 d) = rw at_scope.grid refl
    keeps_grids (M2 d a) = rw at_scope.grid refl
    keeps_grids (M3 d e) = rw at_scope.grid refl
    keeps_grids (M4 d) = rw at_scope.grid refl
    keeps_grids (M5 d) = rw at_scope.grid refl

    keeps_form : (m : Move) → keeps V10 scope (op_of m) ≡ true
    unfolding keeps kind_of is_in_form calls_source
    keeps_form (M1 d) = let own = own_text s.grid.name in rw at_scope.device (rw own refl)
    keeps_form (M2 d a) = let own = own_text s.grid.name in rw at_scope.device (rw own refl)
    keeps_form (M3 d e) = let own = own_text s.grid.name in rw at_scope.device (rw own refl)
    keeps_form (M4 d) = let own = own_text s.grid.name in rw at_scope.device (rw own refl)
    keeps_form (M5 d) = let own = own_text s.grid.name in rw at_scope.device (rw own refl)

-- ---- axes and extents

module _ (w : Width) (s to : ShardingValue) (value name : ℕ) (scope : Scope) (at_scope : IsReshardScope w s value name scope) where
  abbrev g : List ℕ
  g = s.grid.extents

  abbrev f : Dimension → Dim
  f = local_dim g

  axes_here : (axes : List ℕ) → AreAxesOf (length g) axes → axes_fit scope (groups_along s axes) ≡ true
  unfolding axes_fit
  axes_here axes are =
      let rank : length at_scope.item.extents ≡ length g = ap length at_scope.extents ∙ length-map g pos in
      let own : are_axes_below (length at_scope.item.extents) (map pos axes) ≡ true = ap (λ n. are_axes_below n (map pos axes)) rank ∙ axes_written (length g) axes are in
      rw at_scope.grid own

  dim_here : (t : ShardingValue) (k : ℕ) → k < length t.dimensions → has_dim (local_type w t) k ≡ true
  dim_here t k within =
      let count : length (local_dims t) ≡ length t.dimensions = length-map t.dimensions (local_dim t.grid.extents) in
      lt-ltb k (length (local_dims t)) (omega (arith, count, within))

  along_here : (axes : List ℕ) (k : ℕ) → AreAxesOf (length g) axes → k < length s.dimensions → along_fits scope (groups_along s axes) k (local_type w s) ≡ true
  unfolding along_fits
  along_here axes k are within =
      and_from (axes_fit scope (groups_along s axes)) (has_dim (local_type w s) k) (axes_here axes are) (dim_here s k within)

  group_here : IsState s → (axes : List ℕ) → AreAxesOf (length g) axes → group_size scope (groups_along s axes) ≡ Some (group_size_of g axes)
  unfolding group_size
  group_here state axes are = rw at_scope.grid (size_known g axes at_scope.item state.sharding.grid are at_scope.extents)

  abbrev on_grid : List Dimension → ShardingValue
  on_grid ds = record s { dimensions = ds }

  -- types of one rank and one width
  alike_here : (ds : List Dimension) → length s.dimensions ≡ length ds → same_rank_and_bits (local_type w s) (local_type w (on_grid ds)) ≡ true
  alike_here ds same =
      let this : length (map f s.dimensions) ≡ length s.dimensions = length-map s.dimensions f in
      let that : length (map f ds) ≡ length ds = length-map ds f in
      let both : length (map f s.dimensions) ≡ length (map f ds) = this ∙ same ∙ sym that in
      and_from (nat_eq (bits_of w) (bits_of w)) (nat_eq (length (map f s.dimensions)) (length (map f ds))) (same_bits w) (grind (arith, nat_tests))

  finer_at : (L : List ℕ) (off : ℕ → ℕ → ℕ) (k : ℕ) (fine coarse : List Dimension) → IsState (on_grid fine) → IsState (on_grid coarse) → AreAxesOf (length g) L →
      ArePieced g L off k fine coarse → k < length fine → IsFiner g L off (at fine k) (at coarse k)
  finer_at L off k fine coarse is_fine is_coarse along pieced within =
      let there : k < length coarse = subst (λ n. k < n) (pieced_rank g L off k fine coarse pieced) within in
      let low = no_halos_at fine k is_fine.plain in
      let coarse_low = no_halos_at coarse k is_coarse.plain in
      record {
        grid = is_fine.sharding.grid;
        along = along;
        fine = (of_state (on_grid fine) k is_fine within).axes;
        coarse = (of_state (on_grid coarse) k is_coarse there).axes;
        pieced = pieced_at g L off k fine coarse pieced;
        fine_low = low.0;
        fine_high = low.1;
        coarse_low = coarse_low.0;
        coarse_high = coarse_low.1;
      }

  -- the cuts of a group are gathered
  gathers : (L : List ℕ) (off : ℕ → ℕ → ℕ) (k : ℕ) (ds : List Dimension) → IsState s → IsState (on_grid ds) → AreAxesOf (length g) L → ArePieced g L off k s.dimensions ds →
      k < length s.dimensions → along k (is_gathered (group_size scope (groups_along s L))) (local_type w s) (local_type w (on_grid ds)) ≡ true
  unfolding along
  gathers L off k ds state then are pieced within =
      let size = group_here state L are in
      let finer = finer_at L off k s.dimensions ds state then are pieced within in
      rw size
      (related_at (is_gathered (Some (group_size_of g L))) f k s.dimensions ds (pieced_rank g L off k s.dimensions ds pieced) (λ i other. pieced_else g L off k i s.dimensions ds pieced other)
      (gathered g L off (at s.dimensions k) (at ds k) finer))

  -- a cut is divided into pieces of one size
  slices : (L : List ℕ) (off : ℕ → ℕ → ℕ) (k size : ℕ) (ds : List Dimension) → IsState s → IsState (on_grid ds) → AreAxesOf (length g) L → ArePieced g L off k ds s.dimensions →
      k < length ds → ((q : ℕ) → off 0 (q + 1) - off 0 q ≡ size) →
      along k (is_piece (group_size scope (groups_along s L))) (local_type w s) (local_type w (on_grid ds)) ≡ true
  unfolding along
  slices L off k size ds state then are pieced within equal =
      let known = group_here state L are in
      let finer = finer_at L off k ds s.dimensions then state are pieced within in
      rw known
      (related_at (is_piece (Some (group_size_of g L))) f k s.dimensions ds (sym (pieced_rank g L off k ds s.dimensions pieced)) (λ i other. sym (pieced_else g L off k i ds s.dimensions pieced other))
      (piece_of g L off (at ds k) (at s.dimensions k) finer size equal))

  -- where the dimension is there, this is what is asked of it
  asked : (b c : Bool) → b ≡ true → c ≡ true → (not b || c) ≡ true
  asked b c there holds = rw there holds

  fits_along : (t : Bool) (k : ℕ) (c : Bool) → t ≡ true → k < length s.dimensions → c ≡ true → (t && (not (has_dim (local_type w s) k) || c)) ≡ true
  fits_along t k c alike within holds =
      and_from t (not (has_dim (local_type w s) k) || c) alike (asked (has_dim (local_type w s) k) c (dim_here s k within) holds)

  -- ---- M1

  last_result : (d : ℕ) → IsMoveAt s to (M1 d) → keeps V4 scope (instruction_of w s (moved s to (M1 d)) (M1 d) value name) ≡ true
  unfolding keeps kind_of result_fits after
  last_result d is =
      let x = gathered_last s to d is in
      let ds = set s.dimensions d (without_last (at s.dimensions d)) in
      let L = last_axis (at s.dimensions d) ∷ [] in
      fits_along (same_rank_and_bits (local_type w s) (local_type w (on_grid ds))) d (along d (is_gathered (group_size scope (groups_along s L))) (local_type w s) (local_type w (on_grid ds)))
      (alike_here ds (pieced_rank g L (equal_starts g (at s.dimensions d)) d s.dimensions ds x.pieced)) is.named
      (gathers L (equal_starts g (at s.dimensions d)) d ds is.state (state_then s to (M1 d) is) x.axes x.pieced is.named)

  last_numbers : (d : ℕ) → IsMoveAt s to (M1 d) → keeps V5 scope (instruction_of w s (moved s to (M1 d)) (M1 d) value name) ≡ true
  unfolding keeps kind_of numbers_fit
  last_numbers d is = along_here (last_axis (at s.dimensions d) ∷ []) d (gathered_last s to d is).axes is.named

  -- ---- M2

  slice_result : (d a : ℕ) → IsMoveAt s to (M2 d a) → keeps V4 scope (instruction_of w s (moved s to (M2 d a)) (M2 d a) value name) ≡ true
  unfolding keeps kind_of result_fits
  slice_result d a is =
      let ds = (moved s to (M2 d a)).dimensions in
      let grown = with_axis (at s.dimensions d) a in
      let pieced = slice_pieced w s to d a value name is in
      let rank = pieced_rank g (a ∷ []) (equal_starts g grown) d ds s.dimensions pieced in
      fits_along (same_rank_and_bits (local_type w s) (local_type w (on_grid ds))) d (along d (is_piece (group_size scope (groups_along s (a ∷ [])))) (local_type w s) (local_type w (on_grid ds)))
      (alike_here ds (sym rank)) is.named.0
      (slices (a ∷ []) (equal_starts g grown) d (grown.extent / parts_of g grown) ds is.state (state_then s to (M2 d a) is) (is.named.1, tt, tt) pieced
      (subst (λ n. d < n) (sym rank) is.named.0) (λ q. omega arith))

  slice_numbers : (d a : ℕ) → IsMoveAt s to (M2 d a) → keeps V5 scope (instruction_of w s (moved s to (M2 d a)) (M2 d a) value name) ≡ true
  unfolding keeps kind_of numbers_fit
  slice_numbers d a is = along_here (a ∷ []) d (is.named.1, tt, tt) is.named.0

  -- ---- M3

  module _ (d e : ℕ) (is : IsMoveAt s to (M3 d e)) where
    abbrev L : List ℕ
    L = last_axis (at s.dimensions d) ∷ []

    abbrev mid : List Dimension
    mid = set s.dimensions d (without_last (at s.dimensions d))

    abbrev ds : List Dimension
    ds = (moved s to (M3 d e)).dimensions

    abbrev joined : ℕ → ℕ → ℕ
    joined = equal_starts g (at s.dimensions d)

    abbrev grown : Dimension
    grown = with_axis (at s.dimensions e) (last_axis (at s.dimensions d))

    x : IsExchanged s to d e
    x = exchanged s to d e is

    first_rank : length s.dimensions ≡ length mid
    first_rank = pieced_rank g L joined d s.dimensions mid x.gathered.pieced

    second_rank : length ds ≡ length mid
    second_rank = pieced_rank g L (equal_starts g grown) e ds mid x.sliced

    joined_there : is_gathered (Some (group_size_of g L)) (f (at s.dimensions d)) (f (at ds d)) ≡ true
    joined_there =
        let finer = finer_at L joined d s.dimensions mid is.state x.middle x.gathered.axes x.gathered.pieced is.named.0 in
        let same = pieced_else g L (equal_starts g grown) e d ds mid x.sliced x.apart in
        rw same (gathered g L joined (at s.dimensions d) (at mid d) finer)

    split_there : is_piece (Some (group_size_of g L)) (f (at s.dimensions e)) (f (at ds e)) ≡ true
    split_there =
        let finer = finer_at L (equal_starts g grown) e ds mid (state_then s to (M3 d e) is) x.middle x.gathered.axes x.sliced
        (subst (λ n. e < n) (first_rank ∙ sym second_rank) is.named.1) in
        let same = pieced_else g L joined d e s.dimensions mid x.gathered.pieced (λ same. x.apart (sym same)) in
        rw same (piece_of g L (equal_starts g grown) (at ds e) (at mid e) finer (grown.extent / parts_of g grown) (λ q. omega arith))

    others_there : (i : ℕ) → i ≢ d → i ≢ e → dims_agree (f (at s.dimensions i)) (f (at ds i)) ≡ true
    others_there i first second =
        let this = pieced_else g L joined d i s.dimensions mid x.gathered.pieced first in
        let that = pieced_else g L (equal_starts g grown) e i ds mid x.sliced second in
        rw (this, that) (agrees_itself (f (at mid i)))

    each_there : (i : ℕ) → exchanged_dims (Some (group_size_of g L)) e d i (f (at s.dimensions i)) (f (at ds i)) ≡ true
    unfolding exchanged_dims
    each_there i = elim (same_or_not i e) [
      | inl same ↦
          let test : nat_eq i e ≡ true = grind (arith, nat_tests) in
          let apart = x.apart in
          let other : nat_eq i d ≡ false = by_other i same in
          rw (test, other) (rw same split_there)
      | inr other ↦
          let test : nat_eq i e ≡ false = grind (arith, nat_tests) in
          elim (same_or_not i d) [
            | inl same ↦
                let here : nat_eq i d ≡ true = grind (arith, nat_tests) in
                rw (test, here) (rw same joined_there)
            | inr rest ↦
                let here : nat_eq i d ≡ false = grind (arith, nat_tests) in
                rw (test, here) (others_there i rest other)
          ]
    ]
      where
        by_other : (i : ℕ) → i ≡ e → nat_eq i d ≡ false
        by_other i same = let apart : i ≢ d = λ own. x.apart (sym own ∙ same) in grind (arith, nat_tests)

    exchange_result : keeps V4 scope (instruction_of w s (moved s to (M3 d e)) (M3 d e) value name) ≡ true
    unfolding keeps kind_of result_fits
    exchange_result =
        let size = group_here is.state L x.gathered.axes in
        let there = dim_here s d is.named.0 in
        let there_too = dim_here s e is.named.1 in
        let related = related_all (exchanged_dims (Some (group_size_of g L)) e d) f s.dimensions ds (first_rank ∙ sym second_rank) (λ i below. each_there i) in
        and_from (same_rank_and_bits (local_type w s) (local_type w (on_grid ds)))
        (not (has_dim (local_type w s) e && has_dim (local_type w s) d)
        || all_related (exchanged_dims (group_size scope (groups_along s L)) e d) 0 (map f s.dimensions) (map f ds))
        (alike_here ds (first_rank ∙ sym second_rank)) (rw (there, there_too) (rw size related))

    exchange_numbers : keeps V5 scope (instruction_of w s (moved s to (M3 d e)) (M3 d e) value name) ≡ true
    unfolding keeps kind_of numbers_fit
    exchange_numbers =
        and_from (along_fits scope (groups_along s L) e (local_type w s)) (has_dim (local_type w s) d)
        (along_here L e x.gathered.axes is.named.1) (dim_here s d is.named.0)

  -- ---- M4

  whole_result : (d : ℕ) → IsMoveAt s to (M4 d) → keeps V4 scope (instruction_of w s (moved s to (M4 d)) (M4 d) value name) ≡ true
  unfolding keeps kind_of result_fits after
  whole_result d is =
      let x = gathered_whole s to d is in
      let ds = set s.dimensions d (unsplit (at s.dimensions d).extent) in
      let L = (at s.dimensions d).axes in
      let off : ℕ → ℕ → ℕ = λ c q. offset_at g (at s.dimensions d) q in
      fits_along (same_rank_and_bits (local_type w s) (local_type w (on_grid ds))) d (along d (is_gathered (group_size scope (groups_along s L))) (local_type w s) (local_type w (on_grid ds)))
      (alike_here ds (pieced_rank g L off d s.dimensions ds x.pieced)) is.named
      (gathers L off d ds is.state (state_then s to (M4 d) is) x.axes x.pieced is.named)

  whole_numbers : (d : ℕ) → IsMoveAt s to (M4 d) → keeps V5 scope (instruction_of w s (moved s to (M4 d)) (M4 d) value name) ≡ true
  unfolding keeps kind_of numbers_fit
  whole_numbers d is = along_here (at s.dimensions d).axes d (gathered_whole s to d is).axes is.named

  -- ---- M5

  module _ (d : ℕ) (is : IsMoveAt s to (M5 d)) where
    abbrev taken_now : Dimension
    taken_now = at (moved s to (M5 d)).dimensions d

    now_is : taken_now ≡ at to.dimensions d
    now_is = taken_there w s to d value name is

    axes_now : AreAxesOf (length g) taken_now.axes
    axes_now = rw now_is (taken_of w s to d value name is).axes

    parts_now : (f : Dimension → ℕ → ℕ) → length (map pos (map (f taken_now) (range_with_len 0 (parts_of g taken_now)))) ≡ group_size_of g taken_now.axes
    unfolding parts_of
    parts_now f = length-map (map (f taken_now) (range_with_len 0 (group_size_of g taken_now.axes))) pos ∙ length-map-range_with_len (f taken_now) 0 (group_size_of g taken_now.axes)

    abbrev written : declared_take.Take
    written = record {
      on = groups_along s taken_now.axes;
      axis = d;
      starts = map pos (part_starts g taken_now);
      sizes = map pos (part_sizes g taken_now);
      operand_type = local_type w s;
    }

    pieces_here : pieces_fit scope written ≡ true
    unfolding pieces_fit part_starts part_sizes
    pieces_here =
        let size = group_here is.state taken_now.axes axes_now in
        let starts = none_negative (map (offset_at g taken_now) (range_with_len 0 (parts_of g taken_now))) in
        let sizes = none_negative (map (part_size g taken_now) (range_with_len 0 (parts_of g taken_now))) in
        let start_count = parts_now (offset_at g) in
        let size_count = parts_now (part_size g) in
        let own : nat_eq (group_size_of g taken_now.axes) (group_size_of g taken_now.axes) ≡ true = grind (arith, nat_tests) in
        rw (starts, sizes) (rw size (rw (start_count, size_count) (rw own refl)))

    take_numbers : keeps V5 scope (instruction_of w s (moved s to (M5 d)) (M5 d) value name) ≡ true
    unfolding keeps kind_of numbers_fit
    take_numbers =
        and_from (along_fits scope (groups_along s taken_now.axes) d (local_type w s)) (pieces_fit scope written)
        (along_here taken_now.axes d axes_now is.named) pieces_here

    -- each known extent is each of the written sizes
    sizes_here : (extent : Dim) → (not (pieces_fit scope written) || is_of_sizes (as_naturals (map pos (part_sizes g taken_now))) (f taken_now)) ≡ true
    sizes_here extent =
        let state = state_then s to (M5 d) is in
        let ds = (moved s to (M5 d)).dimensions in
        let low = no_halos_at ds d state.plain in
        let numbers = naturals (part_sizes g taken_now) in
        rw numbers (asked (pieces_fit scope written) (is_of_sizes (part_sizes g taken_now) (f taken_now)) pieces_here (of_sizes g taken_now low.0 low.1))

    take_result : keeps V4 scope (instruction_of w s (moved s to (M5 d)) (M5 d) value name) ≡ true
    unfolding keeps kind_of result_fits along
    take_result =
        let ds = (moved s to (M5 d)).dimensions in
        let off : ℕ → ℕ → ℕ = λ c q. offset_at g (at to.dimensions d) q in
        let pieced = take_pieced w s to d value name is in
        let rank = sym (pieced_rank g (at to.dimensions d).axes off d ds s.dimensions pieced) in
        fits_along (same_rank_and_bits (local_type w s) (local_type w (on_grid ds))) d
        (along d (λ k n. not (pieces_fit scope written) || is_of_sizes (as_naturals written.sizes) n) (local_type w s) (local_type w (on_grid ds)))
        (alike_here ds rank) is.named
        (related_at (λ k n. not (pieces_fit scope written) || is_of_sizes (as_naturals written.sizes) n) f d s.dimensions ds rank
        (λ i other. sym (pieced_else g (at to.dimensions d).axes off d i ds s.dimensions pieced other)) (sizes_here (f (at s.dimensions d))))

  -- ---- all rules

  keeps_result : (m : Move) → IsMoveAt s to m → keeps V4 scope (instruction_of w s (moved s to m) m value name) ≡ true
  keeps_result (M1 d) is = last_result d is
  keeps_result (M2 d a) is = slice_result d a is
  keeps_result (M3 d e) is = exchange_result d e is
  keeps_result (M4 d) is = whole_result d is
  keeps_result (M5 d) is = take_result d is

  keeps_numbers : (m : Move) → IsMoveAt s to m → keeps V5 scope (instruction_of w s (moved s to m) m value name) ≡ true
  keeps_numbers (M1 d) is = last_numbers d is
  keeps_numbers (M2 d a) is = slice_numbers d a is
  keeps_numbers (M3 d e) is = exchange_numbers d e is
  keeps_numbers (M4 d) is = whole_numbers d is
  keeps_numbers (M5 d) is = take_numbers d is

  keeps_here : (m : Move) (rule : Rule) → IsMoveAt s to m → keeps rule scope (instruction_of w s (moved s to m) m value name) ≡ true
  unfolding keeps
  keeps_here m L2 is = keeps_ranks w s (moved s to m) value name scope m (few_dims s is.state.sharding) (few_dims (moved s to m) (state_then s to m is).sharding)
  keeps_here m L4 is = keeps_cells w s (moved s to m) value name scope m (few_cells s is.state.sharding) (few_cells (moved s to m) (state_then s to m is).sharding)
  keeps_here m L6 is = keeps_inputs w s (moved s to m) value name scope m
  keeps_here m V1 is = keeps_uses w s (moved s to m) value name scope at_scope m
  keeps_here m V2 is = keeps_names w s (moved s to m) value name scope at_scope m
  keeps_here m V3 is = keeps_types w s (moved s to m) value name scope at_scope m
  keeps_here m V4 is = keeps_result m is
  keeps_here m V5 is = keeps_numbers m is
  keeps_here m V6 is = keeps_grids w s (moved s to m) value name scope at_scope m
  keeps_here m V8 is = keeps_maps w s (moved s to m) value name scope m
  keeps_here m V9 is = keeps_region w s (moved s to m) value name scope m
  keeps_here m V10 is = keeps_form w s (moved s to m) value name scope at_scope m
  keeps_here m _ is = refl

  pub move_keeps : (m : Move) (rule : Rule) → IsMoveAt s to m → KeepsOp rule scope (instruction_of w s (moved s to m) m value name)
  move_keeps m rule is =
      keeps_op rule scope (instruction_of w s (moved s to m) m value name) (keeps_here m rule is) (no_region w s (moved s to m) value name scope m rule)
