-- The move that takes an axis from one dimension to another: each device's cut afterwards is its
-- slice of the parts of its group, one after the other.
use Rattle.std.proofs.Common.{ap₂, ◌≡◌, ◌≢◌, ◌∙◌, ℕ, zero, suc, ◌+◌, ◌-◌, ◌*◌, ◌/◌, ◌<◌, ◌≤◌, true, List, [], ◌∷◌, map, length, get_or, set, Some, refl, ap, sym, subst, arith}
use Rattle.std.specs.Prelude.{nat_eq, option_and_then, option_map}
use Rattle.std.specs.Cmp.Lexicographic.{pointwise}
use Rattle.std.specs.List.{list_all, range_with_len}
use Rattle.std.proofs.lemmas.Bool.{and_from}
use Rattle.std.proofs.lemmas.List.{get_or-set_other, get_or-set_same, length-map, length-set, set-get_or, set-set, set_comm}
use Rattle.std.proofs.lemmas.List.FromFn.{length-map-range_with_len}
use Rattle.std.proofs.lemmas.Slice.Eq.{bytes_eq-Decides}
use Rattle.sh_base.specs.declared.numbers.Width.{Width}
use Rattle.sh_base.specs.Shape.{cell_count, IsIndexOf}
use Rattle.sh_grid.specs.Grid.{group_size_of, member_of, place_in}
use Rattle.sh_grid.proofs.GroupLaws.{AgreeOutside-refl, member_of-below, member_of-place_in, place_in-below}
use Rattle.sh_grid.proofs.GroupSteps.{group_size_of-some}
use Rattle.sh_ir.specs.Typing.{typing_of}
use Rattle.sh_ir.specs.declared.operations.Op.{Op}
use Rattle.sh_pieces.specs.Instructions.{State, gives}
use Rattle.sh_pieces.specs.Promises.{HasCuts}
use Rattle.sh_sem.specs.Collected.{collected, collecting, exchanged_shape, exchanges, piece_of}
use Rattle.sh_sem.specs.Given.{have_all_extents}
use Rattle.sh_sem.specs.Pieces.{common_shape, equal_piece}
use Rattle.sh_sem.specs.Steps.{steps_on}
use Rattle.sh_sem.specs.Types.{have_extents}
use Rattle.sh_tensor.specs.Tensor.{TensorValue, at, build, joined_at, slice_of}
use Rattle.sh_sharding.specs.declared.shardings.Dimension.{Dimension}
use Rattle.sh_sharding.specs.Cut.{cut_of}
use Rattle.sh_sharding.specs.LocalTypes.{local_dims}
use Rattle.sh_sharding.specs.Sharding.{ShardingValue, local_extent, local_shape, parts_of}
use Rattle.sh_sharding.specs.Splits.{IsOfSplit, tensor_splitting}
use Rattle.sh_sharding.proofs.CutLaws.{shape-cut_of}
use Rattle.sh_plan.specs.declared.moves.Move.TheVariants.{M3}
use Rattle.sh_plan.specs.Instructions.{IsMoveAt, Reshards, instruction_of, kind_of, split_of}
use Rattle.sh_plan.specs.Moves.{at as dimension_at, last_axis, moved, with_axis, without_last}
use Rattle.sh_plan.proofs.FinerMoves.{equal_starts}
use Rattle.sh_plan.proofs.FinerParts.{piece_of_cut, piece_within, pieced_within, pieces_end}
use Rattle.sh_plan.proofs.GatherPieces.{IsExchanged, exchanged}
use Rattle.sh_plan.proofs.LocalSteps.{has_local_dims}
use Rattle.sh_plan.proofs.SplitLaws.{equal_there, reshards_by, state_then}
use Rattle.sh_reshard.proofs.CollectedSteps.{collected_is, group_gives}
use Rattle.sh_reshard.proofs.GatherLaws.{build_cut}
use Rattle.sh_reshard.proofs.JoinedPieces.{all_range, joined_whole, map_map, piece, same_range, slices_commute}

-- ---- shapes

-- the shapes of a group are one
common_range : (f : ℕ → List ℕ) (shape : List ℕ) (n : ℕ) → 0 < n → ((q : ℕ) → q < n → f q ≡ shape) → common_shape (map f (range_with_len 0 n)) ≡ Some shape
common_range f shape zero some is = absurd (omega arith)
common_range f shape (suc n) some is =
    let first : f 0 ≡ shape = is 0 (omega arith) in
    let all : list_all (pointwise nat_eq (f 0)) (map f (range_with_len 1 n)) ≡ true =
    all_range (pointwise nat_eq (f 0)) f 1 n (λ q below. ap₂ (λ s u. pointwise nat_eq s u) first (is q (omega (arith, below))) ∙ (bytes_eq-Decides shape shape).1 refl) in
    rw all (ap Some first)

-- what the pieces of parts of one shape make: the shape with the piece along the one axis, and
-- whole along the other
exchanged_is : (s : List ℕ) (d e n p size long : ℕ) → d ≢ e → d < length s → 0 < n → get_or s e 0 ≡ n * size → get_or s d 0 ≡ n * long
    → exchanged_shape e d n p (set s d long) ≡ Some (set s e ((p + 1) * size - p * size))
exchanged_is s d e n p size long apart ranked some wide whole =
    let other : get_or (set s d long) e 0 ≡ n * size = get_or-set_other s d e long 0 (λ same. apart (sym same)) ∙ wide in
    let piece : equal_piece n p (get_or (set s d long) e 0) ≡ Some (record { start = p * size; size = (p + 1) * size - p * size }) =
    equal_there n p size (get_or (set s d long) e 0) some other in
    let count : ℕ = (p + 1) * size - p * size in
    let has : get_or (set (set s d long) e count) d 0 ≡ long = get_or-set_other (set s d long) e d count 0 apart ∙ get_or-set_same s d long 0 ranked in
    let shape : set (set (set s d long) e count) d (n * get_or (set (set s d long) e count) d 0) ≡ set s e count =
    ap (λ x. set (set (set s d long) e count) d (n * x)) has
    ∙ ap (λ u. set u d (n * long)) (set_comm s d e long count apart)
    ∙ set-set (set s e count) d long (n * long)
    ∙ ap (set (set s e count) d) (sym whole ∙ sym (get_or-set_other s e d count 0 apart))
    ∙ set-get_or (set s e count) d 0 in
    ap (λ x. option_map (λ u. set u d (n * get_or u d 0)) (option_map (λ y. set (set s d long) e y.size) x)) piece ∙ ap Some shape

-- the piece of a tensor whose extent is divided
piece_found : (axis n p start size : ℕ) (t : TensorValue) → equal_piece n p (get_or t.shape axis 0) ≡ Some (record { start = start; size = size }) → piece_of axis n p t ≡ slice_of t axis start size
piece_found axis n p start size t e = rw (e, piece_of) refl

module _ (w : Width) (s to : ShardingValue) (d e value name : ℕ) (is : IsMoveAt s to (M3 d e)) where
  abbrev g : List ℕ
  g = s.grid.extents

  abbrev L : List ℕ
  L = last_axis (dimension_at s.dimensions d) ∷ []

  abbrev n : ℕ
  n = group_size_of g L

  abbrev next : ShardingValue
  next = moved s to (M3 d e)

  abbrev mid : List Dimension
  mid = set s.dimensions d (without_last (dimension_at s.dimensions d))

  abbrev middle : ShardingValue
  middle = record s { dimensions = mid }

  abbrev op : Op
  op = instruction_of w s next (M3 d e) value name

  -- how long the pieces are along each dimension
  abbrev long : ℕ
  long = (dimension_at s.dimensions d).extent / parts_of g (dimension_at s.dimensions d)

  abbrev grown : Dimension
  grown = with_axis (dimension_at s.dimensions e) (last_axis (dimension_at s.dimensions d))

  abbrev size : ℕ
  size = grown.extent / parts_of g grown

  abbrev along_d : ℕ → ℕ → ℕ
  along_d = equal_starts g (dimension_at s.dimensions d)

  abbrev along_e : ℕ → ℕ → ℕ
  along_e = equal_starts g grown

  x : IsExchanged s to d e
  x = exchanged s to d e is

  one_size : (q z : ℕ) → (q + 1) * z - q * z ≡ z
  one_size q z = omega arith

  module _ (t : TensorValue) (fits : IsOfSplit (split_of w s) t) (c : ℕ) (here : c < cell_count g) where
    -- the cut by the sharding between
    abbrev between : TensorValue
    between = cut_of middle t c

    abbrev part : ℕ → TensorValue
    part q = cut_of s t (member_of g L c q)

    -- what the device at a place gets
    abbrev out : ℕ → TensorValue
    out p = cut_of next t (member_of g L c p)

    some : 0 < n
    some = group_size_of-some g L is.state.sharding.grid.positive x.gathered.axes

    part_is : (q : ℕ) → q < n → part q ≡ piece between d (along_d c) q
    part_is q below = sym (piece_of_cut s.grid L along_d d s.dimensions mid t c q is.state x.middle x.gathered.pieced here below)

    out_is : (p : ℕ) → p < n → piece between e (along_e c) p ≡ out p
    out_is p below = piece_of_cut s.grid L along_e e next.dimensions mid t c p (state_then s to (M3 d e) is) x.middle x.sliced here below

    shape_is : between.shape ≡ local_shape middle c
    shape_is = shape-cut_of middle t c

    ranked : d < length between.shape
    ranked = rw shape_is (rw (length-map mid (local_extent g c)) (pieced_within g L along_d d s.dimensions mid x.gathered.pieced))

    ranked_too : e < length between.shape
    ranked_too = rw shape_is (rw (length-map mid (local_extent g c)) (pieced_within g L along_e e next.dimensions mid x.sliced))

    whole : get_or between.shape d 0 ≡ n * long
    whole = ap (λ u. get_or u d 0) shape_is ∙ sym (pieces_end g L along_d c here d s.dimensions mid x.gathered.pieced x.middle.plain)

    wide : get_or between.shape e 0 ≡ n * size
    wide = ap (λ u. get_or u e 0) shape_is ∙ sym (pieces_end g L along_e c here e next.dimensions mid x.sliced x.middle.plain)

    within : (q : ℕ) → q < n → along_d c (q + 1) ≤ get_or between.shape d 0
    within q below = rw shape_is (piece_within g L along_d c here d s.dimensions mid q below x.gathered.pieced x.middle.plain)

    within_too : (p : ℕ) → p < n → along_e c (p + 1) ≤ get_or between.shape e 0
    within_too p below = rw shape_is (piece_within g L along_e c here e next.dimensions mid p below x.sliced x.middle.plain)

    rises : (q : ℕ) → along_d c q ≤ along_d c (q + 1)
    rises q = omega arith

    rises_too : (p : ℕ) → along_e c p ≤ along_e c (p + 1)
    rises_too p = omega arith

    -- ---- the parts

    before : (q : ℕ) → q < n → have_all_extents (typing_of op.kind op.result) ((piece between d (along_d c) q).shape ∷ []) ≡ true
    unfolding kind_of typing_of
    before q below =
        let there = member_of-below g L c q here below in
        let own : have_extents (local_dims s) (piece between d (along_d c) q).shape ≡ true =
        ap (λ (u : TensorValue). have_extents (local_dims s) u.shape) (sym (part_is q below))
        ∙ ap (have_extents (local_dims s)) (shape-cut_of s t (member_of g L c q))
        ∙ has_local_dims s (member_of g L c q) is.state.sharding there in
        and_from (have_extents (local_dims s) (piece between d (along_d c) q).shape) true own refl

    out_shape : (p : ℕ) → p < n → set between.shape e ((p + 1) * size - p * size) ≡ (out p).shape
    out_shape p below = ap (λ (u : TensorValue). u.shape) (out_is p below)

    after_it : (p : ℕ) → p < n → have_extents (local_dims next) (out p).shape ≡ true
    after_it p below =
        ap (have_extents (local_dims next)) (shape-cut_of next t (member_of g L c p))
        ∙ has_local_dims next (member_of g L c p) (state_then s to (M3 d e) is).sharding (member_of-below g L c p here below)

    shaped : (p : ℕ) → p < n → (exchanges e d).shape p (map (λ q. (piece between d (along_d c) q).shape) (range_with_len 0 n)) ≡ Some (out p).shape
    unfolding exchanges
    shaped p below =
        let common : common_shape (map (λ q. (piece between d (along_d c) q).shape) (range_with_len 0 n)) ≡ Some (set between.shape d long) =
        common_range (λ q. (piece between d (along_d c) q).shape) (set between.shape d long) n some (λ q before. ap (set between.shape d) (one_size q long)) in
        ap₂ (λ k u. option_and_then (exchanged_shape e d k p) u) (length-map-range_with_len (λ q. (piece between d (along_d c) q).shape) 0 n) common
        ∙ exchanged_is between.shape d e n p size long x.apart ranked some wide whole
        ∙ ap Some (out_shape p below)

    -- ---- the cells

    abbrev p : ℕ
    p = place_in g L c

    p_below : p < n
    p_below = place_in-below g L c here x.gathered.axes

    itself : member_of g L c p ≡ c
    itself = member_of-place_in g L c c here x.gathered.axes (AgreeOutside-refl g L c)

    out_own : piece between e (along_e c) p ≡ cut_of next t c
    out_own = out_is p p_below ∙ ap (cut_of next t) itself

    -- the own piece of a part is the part of the own cut
    turned : (q : ℕ) → q < n → piece_of e n p (piece between d (along_d c) q) ≡ piece (cut_of next t c) d (along_d c) q
    turned q below =
        let other : get_or (piece between d (along_d c) q).shape e 0 ≡ n * size =
        get_or-set_other between.shape d e (along_d c (q + 1) - along_d c q) 0 (λ same. x.apart (sym same)) ∙ wide in
        let found : equal_piece n p (get_or (piece between d (along_d c) q).shape e 0) ≡ Some (record { start = p * size; size = (p + 1) * size - p * size }) =
        equal_there n p size (get_or (piece between d (along_d c) q).shape e 0) some other in
        let room : along_d c q + (along_d c (q + 1) - along_d c q) ≤ get_or between.shape d 0 = let up = rises q in let end = within q below in omega (arith, up, end) in
        let room_too : along_e c p + (along_e c (p + 1) - along_e c p) ≤ get_or between.shape e 0 = let up = rises_too p in let end = within_too p p_below in omega (arith, up, end) in
        piece_found e n p (p * size) ((p + 1) * size - p * size) (piece between d (along_d c) q) found
        ∙ (slices_commute between d e x.apart (along_d c q) (along_d c (q + 1) - along_d c q) (along_e c p) (along_e c (p + 1) - along_e c p) ranked ranked_too room room_too
        ∙ ap (λ (u : TensorValue). slice_of u d (along_d c q) (along_d c (q + 1) - along_d c q)) out_own)

    own_ranked : d < length (cut_of next t c).shape
    own_ranked = subst (λ (u : TensorValue). d < length u.shape) out_own (rw (length-set between.shape e (along_e c (p + 1) - along_e c p)) ranked)

    own_ends : along_d c n ≡ get_or (cut_of next t c).shape d 0
    own_ends =
        sym whole
        ∙ sym (get_or-set_other between.shape e d (along_e c (p + 1) - along_e c p) 0 x.apart)
        ∙ ap (λ (u : TensorValue). get_or u.shape d 0) out_own

    cells : (i : List ℕ) → IsIndexOf (local_shape next c) i → (exchanges e d).cell p (map (piece between d (along_d c)) (range_with_len 0 n)) i ≡ at (cut_of next t c) i
    unfolding exchanges
    cells i index =
        ap (λ k. joined_at d (map (piece_of e k p) (map (piece between d (along_d c)) (range_with_len 0 n))) i) (length-map-range_with_len (piece between d (along_d c)) 0 n)
        ∙ ap (λ ts. joined_at d ts i) (map_map (piece_of e n p) (piece between d (along_d c)) (range_with_len 0 n)
        ∙ same_range (λ q. piece_of e n p (piece between d (along_d c) q)) (piece (cut_of next t c) d (along_d c)) 0 n (λ q below. turned q (omega (arith, below))))
        ∙ joined_whole (cut_of next t c) d (along_d c) own_ranked n i (λ q below. rises q) (omega arith) own_ends (subst (λ u. IsIndexOf u i) (sym (shape-cut_of next t c)) index)

    exchange_gives : (st : State TensorValue) → HasCuts (steps_on g) tensor_splitting value (split_of w s) t st → gives (steps_on g) op st c ≡ Some (cut_of next t c)
    unfolding steps_on kind_of collecting
    exchange_gives st has =
        group_gives g op value L (cut_of s t) st refl refl refl has c here
        ∙ ap (λ ts. collected op g ts p) (same_range part (piece between d (along_d c)) 0 n (λ q below. part_is q (omega (arith, below))))
        ∙ collected_is op g (exchanges e d) n (piece between d (along_d c)) (λ q. (out q).shape) refl before shaped after_it p p_below
        ∙ ap (λ u. Some (build u w ((exchanges e d).cell p (map (piece between d (along_d c)) (range_with_len 0 n))))) (shape-cut_of next t (member_of g L c p) ∙ ap (local_shape next) itself)
        ∙ ap Some (build_cut next t c w ((exchanges e d).cell p (map (piece between d (along_d c)) (range_with_len 0 n))) fits.width cells)

  pub exchange_reshards : Reshards w s next (M3 d e) value name
  exchange_reshards = reshards_by w s to (M3 d e) value name is (λ t st c fits has here. exchange_gives t fits c here st has)
