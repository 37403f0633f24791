-- What a structured operation gives of its inputs, output and captured scalars: the fold of each cell,
-- loop by loop.
use Rattle.std.proofs.Common.{◌≡◌, ℕ, suc, ◌+◌, ◌<◌, Bool, true, false, List, [], ◌∷◌, ◌++◌, map, fold, length, Option, Some, None, refl, ap, ap₂, sym, ◌∙◌, arith, subst}
use Rattle.std.specs.Prelude.{◌&&◌, option_and_then, nat_eq, filter, take, drop, if◌then◌else◌}
use Rattle.std.specs.List.{range_with_len, list_all, AllByRecursion}
use Rattle.std.specs.Cmp.Lexicographic.{pointwise}
use Rattle.std.proofs.lemmas.Bool.{and_from}
use Rattle.std.proofs.lemmas.List.{length-map}
use Rattle.std.proofs.lemmas.Option.{same_Some}
use Rattle.sh_base.specs.declared.numbers.Cell.{Cell}
use Rattle.sh_base.specs.Shape.{IsIndexOf}
use Rattle.sh_base.proofs.ShapeLaws.{IsIndexOf-length}
use Rattle.sh_ir.specs.declared.operations.Op.{Op}
use Rattle.sh_ir.specs.Agreement.{dims_of}
use Rattle.sh_ir.specs.Loops.{LoopMap, Structure, single}
use Rattle.sh_ir.specs.Typing.{typing_of}
use Rattle.sh_sem.specs.Given.{Giving, Seat, given, shape_given, shape_by, cell_given, built_of, of_dims, of_one, outs_of, gives_nest, nest_shape, fixed_of, have_all_extents}
use Rattle.sh_sem.specs.Nest.{Fixed, all_followed, extent_of_loop, has_room, have_ranks, maps_of, extents_by, sizes_agree, index_at, points_of, input_cells, step_cell, visit, folded_cell}
use Rattle.sh_sem.specs.Scalars.{width_of}
use Rattle.sh_sem.specs.Types.{have_extents}
use Rattle.sh_grid.specs.Grid.{AreAxesOf}
use Rattle.sh_tensor.specs.Tensor.{TensorValue, at, build}
use Rattle.sh_nest_laws.specs.LoopSplits.{Operand, PlainNest, IsOperationOf, widths_of, loops_named, names}
use Rattle.sh_nest_laws.proofs.Literally.{index_is_taken, over_sent}
use Rattle.sh_nest_laws.proofs.Points.{over_points, taken, entry_for, every_up}
use Rattle.sh_nest_laws.proofs.Totals.{each_in_range}
use Rattle.sh_nest_laws.proofs.Values.{IsBuilt, built, build_all, gives_of, maps_by, shapes_by, all_dims, one_followed, map_more, all_are, extent_is, rooms, ranks_are}

-- ---- lists

take_front : {X : Type 0} (xs ys : List X) → take (length xs) (xs ++ ys) ≡ xs
take_front [] ys = refl
take_front (x ∷ xs) ys = ap (λ zs. x ∷ zs) (take_front xs ys)

drop_front : {X : Type 0} (xs ys : List X) → drop (length xs) (xs ++ ys) ≡ ys
drop_front [] ys = refl
drop_front (x ∷ xs) ys = drop_front xs ys

take_one_more : {X : Type 0} (xs : List X) (y : X) (ys : List X) → take (length xs + 1) (xs ++ y ∷ ys) ≡ xs ++ y ∷ []
take_one_more [] y ys = refl
take_one_more (x ∷ xs) y ys = let s : suc (length xs) + 1 ≡ suc (length xs + 1) = omega arith in ap (λ n. take n (x ∷ xs ++ y ∷ ys)) s ∙ ap (λ zs. x ∷ zs) (take_one_more xs y ys)

drop_one_more : {X : Type 0} (xs : List X) (y : X) (ys : List X) → drop (length xs + 1) (xs ++ y ∷ ys) ≡ ys
drop_one_more [] y ys = refl
drop_one_more (x ∷ xs) y ys = let s : suc (length xs) + 1 ≡ suc (length xs + 1) = omega arith in ap (λ n. drop n (x ∷ xs ++ y ∷ ys)) s ∙ drop_one_more xs y ys

-- ---- cells of the inputs at a point, and the fold

abbrev pub cells_at : List Operand → List TensorValue → List ℕ → List Cell
cells_at [] ts p = []
cells_at (x ∷ operands) [] p = []
cells_at (x ∷ operands) (t ∷ ts) p = at t (taken x.dims p) ∷ cells_at operands ts p

abbrev pub step_at : PlainNest → List Cell → List TensorValue → List ℕ → Option Cell → Option Cell
step_at nest scalars ins p so_far = option_and_then (nest.step scalars (cells_at nest.ins ins p)) so_far

unfoldable pub value_at : PlainNest → (ℕ → ℕ) → List Cell → List TensorValue → TensorValue → List ℕ → Option Cell
value_at nest E scalars ins u j = over_points 0 nest.loops E (entry_for nest.out.dims j) (step_at nest scalars ins) (Some (at u j))

abbrev pub scalar_cells : List TensorValue → List Cell
scalar_cells ts = map (λ t. at t []) ts

-- inputs and output have the extents E of the loops that they follow
pub record HasShapes (nest : PlainNest) (E : ℕ → ℕ) (ins : List TensorValue) (u : TensorValue) : Type 0 where
  pub widths : map (λ t. t.width) ins ≡ widths_of nest.ins
  pub width : u.width ≡ nest.out.width
  pub shapes : map (λ t. t.shape) ins ≡ shapes_by E nest.ins
  pub shape : u.shape ≡ map E nest.out.dims

input_is : (operands : List Operand) (ts : List TensorValue) (p : List ℕ) → input_cells (maps_by operands) ts p ≡ cells_at operands ts p
input_is [] ts p = refl
input_is (x ∷ operands) [] p = refl
input_is (x ∷ operands) (t ∷ ts) p = ap₂ (λ i cells. at t i ∷ cells) (index_is_taken x.dims p) (input_is operands ts p)

abbrev agree_by : List LoopMap → List (List ℕ) → Bool
agree_by maps shapes = have_ranks maps shapes && list_all (has_room (extent_of_loop (all_followed maps shapes))) (all_followed maps shapes)

abbrev extents_on : List LoopMap → ℕ → List (List ℕ) → List ℕ
extents_on maps loops shapes = map (extent_of_loop (all_followed maps shapes)) (range_with_len 0 loops)

map_each : {X Y : Type 0} (f g : X → Y) (xs : List X) → AllByRecursion (λ x. f x ≡ g x) xs → map f xs ≡ map g xs
map_each f g [] h = refl
map_each f g (x ∷ xs) h = ap₂ (λ a b. a ∷ b) h.0 (map_each f g xs h.1)

module _ (nest : PlainNest) (named : (l : ℕ) → l < nest.loops → names (loops_named nest) l ≡ true) (below : AllByRecursion (λ l. l < nest.loops) (loops_named nest)) (E : ℕ → ℕ) where
  abbrev operands : List Operand
  operands = nest.ins ++ nest.out ∷ []

  extents_are : (more : List (List ℕ)) → extents_on (maps_by operands) nest.loops (shapes_by E operands ++ more) ≡ map E (range_with_len 0 nest.loops)
  extents_are more =
      ap (λ ds. map (extent_of_loop ds) (range_with_len 0 nest.loops)) (all_are E operands more)
      ∙ map_each (extent_of_loop (map (one_followed E) (all_dims operands))) E (range_with_len 0 nest.loops)
      (each_in_range _ 0 nest.loops (λ l low lt. extent_is E (all_dims operands) l (named l (omega (arith, lt)))))

  none_more : (xs : List (List ℕ)) → xs ++ [] ≡ xs
  none_more [] = refl
  none_more (x ∷ xs) = ap (λ zs. x ∷ zs) (none_more xs)

  do_agree : agree_by (maps_by operands) (shapes_by E operands) ≡ true
  do_agree =
      let all : all_followed (maps_by operands) (shapes_by E operands) ≡ map (one_followed E) (all_dims operands) = ap (all_followed (maps_by operands)) (sym (none_more (shapes_by E operands))) ∙ all_are E operands [] in
      and_from (have_ranks (maps_by operands) (shapes_by E operands)) (list_all (has_room (extent_of_loop (all_followed (maps_by operands) (shapes_by E operands)))) (all_followed (maps_by operands) (shapes_by E operands)))
      (ranks_are E operands)
      (ap (λ ds. list_all (has_room (extent_of_loop ds)) ds) all
      ∙ rooms E (extent_of_loop (map (one_followed E) (all_dims operands))) (all_dims operands)
      (every_up (λ l. l < nest.loops) (λ l. extent_of_loop (map (one_followed E) (all_dims operands)) l ≡ E l) (all_dims operands) (λ l lt. extent_is E (all_dims operands) l (named l lt)) below))

  module _ (op : Op) (is : IsOperationOf nest op) (ins : List TensorValue) (u : TensorValue) (scalars : List TensorValue) (has : HasShapes nest E ins u) where
    abbrev pub row : List TensorValue
    row = ins ++ u ∷ scalars

    abbrev s : Structure
    s = is.structure

    abbrev N : ℕ
    N = length is.structure.inputs

    counted : length ins ≡ N
    counted =
        sym (length-map ins (λ t. t.shape)) ∙ ap (λ xs. length xs) has.shapes ∙ length-map nest.ins (λ x. map E x.dims)
        ∙ sym (length-map nest.ins (λ x. single x.dims)) ∙ ap (λ xs. length xs) (sym is.inputs)

    maps_are : maps_of s ≡ maps_by operands
    maps_are = ap₂ (λ a b. a ++ b ∷ []) is.inputs is.output ∙ sym (map_more (λ x. single x.dims) nest.ins (nest.out ∷ []))

    shapes_are : map (λ t. t.shape) row ≡ shapes_by E operands ++ map (λ t. t.shape) scalars
    shapes_are =
        map_more (λ t. t.shape) ins (u ∷ scalars)
        ∙ ap₂ (λ a b. a ++ b ∷ map (λ t. t.shape) scalars) has.shapes has.shape
        ∙ sym (append_one (shapes_by E nest.ins) (map E nest.out.dims) (map (λ t. t.shape) scalars))
        ∙ ap (λ a. a ++ map (λ t. t.shape) scalars) (sym (map_more (λ x. map E x.dims) nest.ins (nest.out ∷ [])))
      where
        append_one : (xs : List (List ℕ)) (y : List ℕ) (ys : List (List ℕ)) → (xs ++ y ∷ []) ++ ys ≡ xs ++ y ∷ ys
        append_one [] y ys = refl
        append_one (x ∷ xs) y ys = ap (λ zs. x ∷ zs) (append_one xs y ys)

    -- ---- its shape

    front_shapes : take (N + 1) (map (λ t. t.shape) row) ≡ shapes_by E operands
    front_shapes =
        let long : N ≡ length (map (λ t. t.shape) ins) = sym (length-map ins (λ t. t.shape) ∙ counted) in
        ap₂ (λ n ss. take (n + 1) ss) long (map_more (λ t. t.shape) ins (u ∷ scalars))
        ∙ take_one_more (map (λ t. t.shape) ins) u.shape (map (λ t. t.shape) scalars)
        ∙ ap₂ (λ a b. a ++ b ∷ []) has.shapes has.shape
        ∙ sym (map_more (λ x. map E x.dims) nest.ins (nest.out ∷ []))

    outs_shape : outs_of s (map (λ t. t.shape) row) ≡ u.shape ∷ []
    outs_shape =
        let long : N ≡ length (map (λ t. t.shape) ins) = sym (length-map ins (λ t. t.shape) ∙ counted) in
        ap₂ (λ n ss. take 1 (drop n ss)) long (map_more (λ t. t.shape) ins (u ∷ scalars))
        ∙ ap (take 1) (drop_front (map (λ t. t.shape) ins) (u.shape ∷ map (λ t. t.shape) scalars))

    shape_is : nest_shape s (map (λ t. t.shape) row) ≡ Some u.shape
    shape_is =
        let agrees : sizes_agree s (take (N + 1) (map (λ t. t.shape) row)) ≡ true = ap₂ agree_by maps_are front_shapes ∙ do_agree in
        ap (λ (b : Bool). if b then of_one (λ shape. Some shape) (outs_of s (map (λ t. t.shape) row)) else None) agrees
        ∙ ap (of_one (λ shape. Some shape)) outs_shape

    shape_by_is : (seat : Seat) → shape_by op seat (map (λ t. t.shape) row) ≡ Some u.shape
    unfolding gives_nest
    shape_by_is seat = ap (λ (x : Option Giving). option_and_then (λ g. g.shape (map (λ t. t.shape) row)) x) (gives_of op.kind s op.operands op.result seat is.is) ∙ shape_is

    abbrev typed : Bool
    typed = have_all_extents (typing_of op.kind op.result) (map (λ t. t.shape) row)

    abbrev known : Bool
    known = have_extents (dims_of op.result) u.shape

    given_is : (seat : Seat) → given op seat row ≡ option_and_then (λ shape. built_of shape (width_of op.result) (cell_given op seat row shape)) (if typed then (if known then Some u.shape else None) else None)
    unfolding given shape_given
    given_is seat =
        ap (λ o. option_and_then (λ shape. built_of shape (width_of op.result) (cell_given op seat row shape)) (if typed then option_and_then (of_dims (dims_of op.result)) o else None)) (shape_by_is seat)

    -- ---- its cells

    inputs_are : take N row ≡ ins
    inputs_are = ap (λ n. take n row) (sym counted) ∙ take_front ins (u ∷ scalars)

    abbrev fixed : Fixed
    fixed = fixed_of s (drop (N + 1) op.operands) row u

    scalars_are : drop (N + 1) row ≡ scalars
    scalars_are = ap (λ n. drop (n + 1) row) (sym counted) ∙ drop_one_more ins u scalars

    counted_ins : N ≡ length nest.ins
    counted_ins = ap (λ xs. length xs) is.inputs ∙ length-map nest.ins (λ x. single x.dims)

    step_is : (p : List ℕ) (cells : List Cell) (z : Cell) → step_cell s.step fixed p cells z ≡ nest.step (scalar_cells scalars) cells z
    step_is p cells z =
        is.step fixed (ap (map (λ t. t.width)) inputs_are ∙ has.widths) has.width (ap (λ n. drop (n + 1) op.operands) counted_ins) p cells z
        ∙ ap (λ ts. nest.step (scalar_cells ts) cells z) scalars_are

    visit_is : (a : Option Cell) (p : List ℕ) → visit s fixed (take N row) a p ≡ step_at nest (scalar_cells scalars) ins p a
    visit_is a p = ap₂ (λ maps ts. option_and_then (step_cell s.step fixed p (input_cells maps ts p)) a) is.inputs inputs_are ∙ ap (λ cells. option_and_then (step_cell s.step fixed p cells) a) (input_is nest.ins ins p) ∙ go a
      where
        go : (a : Option Cell) → option_and_then (step_cell s.step fixed p (cells_at nest.ins ins p)) a ≡ step_at nest (scalar_cells scalars) ins p a
        go None = refl
        go (Some z) = step_is p (cells_at nest.ins ins p) z

    extents_is : extents_by s (map (λ t. t.shape) row) ≡ map E (range_with_len 0 nest.loops)
    extents_is =
        ap₂ (λ maps n. extents_on maps n (map (λ t. t.shape) row)) maps_are is.loops
        ∙ ap (extents_on (maps_by operands) nest.loops) shapes_are
        ∙ extents_are (map (λ t. t.shape) scalars)

    outs_are : outs_of s row ≡ u ∷ []
    outs_are = ap (λ n. take 1 (drop n row)) (sym counted) ∙ ap (take 1) (drop_front ins (u ∷ scalars))

    folded_is : AreAxesOf nest.loops nest.out.dims → (j : List ℕ) → IsIndexOf (map E nest.out.dims) j
        → folded_cell s fixed (extents_by s (map (λ t. t.shape) row)) (take N row) u j ≡ value_at nest E (scalar_cells scalars) ins u j
    unfolding folded_cell value_at
    folded_is once j inside =
        let long : length j ≡ length nest.out.dims = sym (IsIndexOf-length (map E nest.out.dims) j inside) ∙ length-map nest.out.dims E in
        ap (λ (f : Option Cell → List ℕ → Option Cell). fold f (Some (at u j)) (filter (λ p. pointwise nat_eq (index_at s.output p) j) (points_of (extents_by s (map (λ t. t.shape) row))))) (λ i a p. visit_is a p i)
        ∙ ap₂ (λ m extents. fold (λ a p. step_at nest (scalar_cells scalars) ins p a) (Some (at u j)) (filter (λ p. pointwise nat_eq (index_at m p) j) (points_of extents))) is.output extents_is
        ∙ over_sent nest.loops E nest.out.dims j once long inside (step_at nest (scalar_cells scalars) ins) (Some (at u j))

    cell_is : AreAxesOf nest.loops nest.out.dims → (seat : Seat) (shape j : List ℕ) → IsIndexOf u.shape j → cell_given op seat row shape j ≡ value_at nest E (scalar_cells scalars) ins u j
    unfolding cell_given gives_nest
    cell_is once seat shape j inside =
        ap (λ (x : Option Giving). option_and_then (λ g. g.cell row shape j) x) (gives_of op.kind s op.operands op.result seat is.is)
        ∙ ap (of_one (λ outs. folded_cell s (fixed_of s (drop (N + 1) op.operands) row outs) (extents_by s (map (λ t. t.shape) row)) (take N row) outs j)) outs_are
        ∙ folded_is once j (subst (λ z. IsIndexOf z j) has.shape inside)

    -- ---- the value

    -- where all cells are there it gives them
    pub gives_cells : AreAxesOf nest.loops nest.out.dims → (seat : Seat) → typed ≡ true → known ≡ true → (h : List ℕ → Cell)
        → ((j : List ℕ) → IsIndexOf u.shape j → value_at nest E (scalar_cells scalars) ins u j ≡ Some (h j)) → given op seat row ≡ Some (build u.shape nest.out.width h)
    gives_cells once seat types knows h there =
        given_is seat
        ∙ ap₂ (λ (a b : Bool). option_and_then (λ shape. built_of shape (width_of op.result) (cell_given op seat row shape)) (if a then (if b then Some u.shape else None) else None)) types knows
        ∙ build_all u.shape (width_of op.result) (cell_given op seat row u.shape) h (λ j inside. cell_is once seat u.shape j inside ∙ there j inside)
        ∙ ap (λ w. Some (build u.shape w h)) is.width

    pub record IsNestValue (t : TensorValue) : Type 0 where
      pub shape : t.shape ≡ u.shape
      pub width : t.width ≡ nest.out.width
      pub cell : (j : List ℕ) → IsIndexOf u.shape j → value_at nest E (scalar_cells scalars) ins u j ≡ Some (at t j)
      pub built : t ≡ build u.shape nest.out.width (at t)

    -- and what it gives has them
    pub cells_given : AreAxesOf nest.loops nest.out.dims → (seat : Seat) (t : TensorValue) → given op seat row ≡ Some t → IsNestValue t
    cells_given once seat t e = start typed known (sym (given_is seat) ∙ e)
      where
        last : built_of u.shape (width_of op.result) (cell_given op seat row u.shape) ≡ Some t → IsNestValue t
        last e =
            let b : IsBuilt u.shape (width_of op.result) (cell_given op seat row u.shape) t = built u.shape (width_of op.result) (cell_given op seat row u.shape) t e in
            record {
              shape = ap (λ t. t.shape) b.is;
              width = ap (λ t. t.width) b.is ∙ is.width;
              cell = λ j inside. sym (cell_is once seat u.shape j inside) ∙ b.cell j inside;
              built = same_Some t (build u.shape nest.out.width (at t)) (sym e ∙ build_all u.shape (width_of op.result) (cell_given op seat row u.shape) (at t) (λ j inside. b.cell j inside) ∙ ap (λ w. Some (build u.shape w (at t))) is.width);
            }

        start : (a b : Bool) → option_and_then (λ shape. built_of shape (width_of op.result) (cell_given op seat row shape)) (if a then (if b then Some u.shape else None) else None) ≡ Some t → IsNestValue t
        start true true e = last e
        start true false e = absurd (cc)
        start false b e = absurd (cc)
