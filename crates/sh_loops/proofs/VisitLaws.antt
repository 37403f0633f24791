-- What the visit of a row knows at each of its points.
use Rattle.std.proofs.Common.{◌≡◌, ℕ, zero, suc, ◌+◌, ◌*◌, ◌-◌, ◌<◌, ◌≤◌, List, [], ◌∷◌, ◌++◌, map, length, get_or, drop, take, Option, Some, None, refl, ap, ap₂, sym, ◌∙◌, arith, subst, add-one, append_assoc, append-nil}
use Rattle.std.specs.Prelude.{Bool, false, min, set, slice_get, true}
use Rattle.std.specs.List.{All}
use Rattle.std.proofs.lemmas.List.{drop_all}
use Rattle.sh_base.specs.Cells.{IsCellOf, bits_of}
use Rattle.sh_base.specs.declared.numbers.Width.{Width}
use Rattle.sh_base.specs.Shape.{cell_count, IsIndexOf, flat_of, unflat_of}
use Rattle.sh_base.proofs.ShapeLaws.{flat_of-below}
use Rattle.sh_base.specs.declared.numbers.Cell.{Cell}
use Rattle.sh_base.specs.declared.numbers.Cell.TheVariants.{Undef}
use Rattle.sh_ir.specs.Loops.{LoopMap}
use Rattle.sh_sem.specs.Nest.{index_at, input_cells}
use Rattle.sh_tensor.specs.Tensor.{IsHeld, TensorValue}
use Rattle.sh_loops.specs.Cells.{cells_by}
use Rattle.sh_loops.specs.declared.steps.PointStep.{PointStep}
use Rattle.sh_loops.specs.declared.steps.PointStep.TheVariants.{Copied, ProductAdded}
use Rattle.sh_loops.specs.Nests.{AreFactors, AreInside, CanFold, TakesCells, folded_by, next_by, place_at, visit_at}
use Rattle.sh_loops.specs.Rows.{GoesOn, HasStrides, HaveCells, IsFoldedTo, IsRow, apart, numbers_of, row_cells, row_length_of, with_last}
use Rattle.sh_loops.specs.declared.nests.Nest as memory
use Rattle.sh_loops.specs.declared.rows.Row as declared
use Rattle.sh_loops.proofs.FoldLaws.{none_visited, one_visited}
use Rattle.sh_loops.proofs.RowLaws.{number_along, row_gathered, row_point, row_there, row_within}
use Rattle.sh_loops.proofs.StepLaws.{all_folded, copied_next, fold_stuck, goes_on}

-- ---- the numbers of the inputs' cells

numbers_more : (maps : List LoopMap) (ts : List TensorValue) (p : List ℕ) (i : ℕ) (d : LoopMap) (u : TensorValue) → AreInside maps ts p → i < length maps
    → numbers_of (drop i maps) (drop i ts) p ≡ flat_of (get_or ts i u).shape (index_at (get_or maps i d) p) ∷ numbers_of (drop (suc i) maps) (drop (suc i) ts) p
numbers_more [] ts p i d u h l = absurd (omega (arith, l))
numbers_more (dims ∷ maps) [] p i d u h l = absurd h
numbers_more (dims ∷ maps) (t ∷ ts) p zero d u h l = refl
numbers_more (dims ∷ maps) (t ∷ ts) p (suc i) d u h l = numbers_more maps ts p i d u h.1 (omega (arith, l))

pub numbered : (maps : List LoopMap) (ts : List TensorValue) (p : List ℕ) (i : ℕ) (dims : LoopMap) (t : TensorValue) (done new : List ℕ) (n : ℕ)
    → AreInside maps ts p → i < length maps → dims ≡ get_or maps i dims → t ≡ get_or ts i t → n ≡ flat_of t.shape (index_at dims p) → new ≡ done ++ n ∷ []
    → done ++ numbers_of (drop i maps) (drop i ts) p ≡ numbers_of maps ts p → new ++ numbers_of (drop (i + 1) maps) (drop (i + 1) ts) p ≡ numbers_of maps ts p
numbered maps ts p i dims t done new n inside l md te ce pushed h =
    ap (λ j. new ++ numbers_of (drop j maps) (drop j ts) p) (add-one i)
    ∙ ap (λ z. z ++ numbers_of (drop (suc i) maps) (drop (suc i) ts) p) pushed
    ∙ append_assoc done (n ∷ []) (numbers_of (drop (suc i) maps) (drop (suc i) ts) p)
    ∙ ap (λ z. done ++ z)
    (ap (λ x. x ∷ numbers_of (drop (suc i) maps) (drop (suc i) ts) p) (ce ∙ ap₂ (λ (u : TensorValue) ds. flat_of u.shape (index_at ds p)) te md)
    ∙ sym (numbers_more maps ts p i dims t inside l))
    ∙ h

pub all_numbered : (maps : List LoopMap) (ts : List TensorValue) (p : List ℕ) (i : ℕ) (numbers : List ℕ) → length maps ≤ i
    → numbers ++ numbers_of (drop i maps) (drop i ts) p ≡ numbers_of maps ts p → numbers ≡ numbers_of maps ts p
all_numbered maps ts p i numbers l h =
    sym (append-nil numbers) ∙ ap (λ z. numbers ++ z) (sym (ap (λ ms. numbers_of ms (drop i ts) p) (drop_all i maps l))) ∙ h

pub numbers_long : (maps : List LoopMap) (ts : List TensorValue) (p q : List ℕ) → length (numbers_of maps ts p) ≡ length (numbers_of maps ts q)
numbers_long [] ts p q = refl
numbers_long (dims ∷ maps) [] p q = refl
numbers_long (dims ∷ maps) (t ∷ ts) p q = ap suc (numbers_long maps ts p q)

-- ---- the cells along a row

pub length-row_cells : (ts : List TensorValue) (fs ds : List ℕ) (k : ℕ) → HaveCells ts fs ds k → length (row_cells ts fs ds k) ≡ length ts
length-row_cells [] fs ds k h = refl
length-row_cells (t ∷ ts) [] ds k h = absurd h
length-row_cells (t ∷ ts) (a ∷ fs) [] k h = absurd h
length-row_cells (t ∷ ts) (a ∷ fs) (d ∷ ds) k h = ap suc (length-row_cells ts fs ds k h.1)

-- what reading the cell of input i asks, and what it gives
pub record IsCellAlong (ts : List TensorValue) (fs ds : List ℕ) (k i : ℕ) (u : TensorValue) (x y : ℕ) : Type 0 where
  pub first_there : i < length fs
  pub stride_there : i < length ds
  pub below : get_or fs i x + k * get_or ds i y < length (get_or ts i u).cells
  pub value : get_or (row_cells ts fs ds k) i Undef ≡ get_or (get_or ts i u).cells (get_or fs i x + k * get_or ds i y) Undef

pub cell_along_at : (ts : List TensorValue) (fs ds : List ℕ) (k i : ℕ) (u : TensorValue) (x y : ℕ) → HaveCells ts fs ds k → i < length ts → IsCellAlong ts fs ds k i u x y
cell_along_at [] fs ds k i u x y h l = absurd (omega (arith, l))
cell_along_at (t ∷ ts) [] ds k i u x y h l = absurd h
cell_along_at (t ∷ ts) (a ∷ fs) [] k i u x y h l = absurd h
cell_along_at (t ∷ ts) (a ∷ fs) (d ∷ ds) k zero u x y h l = record { first_there = omega arith; stride_there = omega arith; below = h.0; value = refl }
cell_along_at (t ∷ ts) (a ∷ fs) (d ∷ ds) k (suc i) u x y h l =
    let rest = cell_along_at ts fs ds k i u x y h.1 (omega (arith, l)) in
    record { first_there = omega (arith, rest.first_there); stride_there = omega (arith, rest.stride_there); below = rest.below; value = rest.value }

-- ---- a row begun

pub row_begun : (nest : memory.Nest) (extents : List ℕ) (ins : List TensorValue) (outs : TensorValue) (row : declared.Row) (r : ℕ)
    → CanFold nest extents ins outs → HasStrides nest extents ins outs row → 0 < cell_count extents → row.start ≡ r * row.length
    → row.firsts.items ≡ numbers_of nest.inputs ins (unflat_of extents row.start) → row.place ≡ place_at nest extents outs.shape row.start
    → r * row.length + row.length ≤ cell_count extents → All IsHeld ins → IsHeld outs → IsRow nest extents ins outs row
unfolding place_at
row_begun nest extents ins outs row r can has some start firsts place fits held held_out =
    let n = row_length_of extents in
    let at : row.start ≡ r * n = start ∙ ap (λ l. r * l) has.length_is in
    let within = row_within extents some in
    let below : (k : ℕ) → k < row.length → r * n + k < cell_count extents = λ k l. omega (arith, l, fits, sym (ap (λ z. r * z) has.length_is)) in
    let short : (k : ℕ) → k < row.length → k < n = λ k l. subst (λ z. k < z) has.length_is l in
    let firsts_are : row.firsts.items ≡ numbers_of nest.inputs ins (unflat_of extents (r * n)) = firsts ∙ ap (λ z. numbers_of nest.inputs ins (unflat_of extents z)) at in
    let place_is : row.place ≡ flat_of outs.shape (index_at nest.output (unflat_of extents (r * n))) = place ∙ ap (λ z. flat_of outs.shape (index_at nest.output (unflat_of extents z))) at in
    let lists : (k : ℕ) → row_cells ins (numbers_of nest.inputs ins (unflat_of extents (r * n))) (apart (numbers_of nest.inputs ins (unflat_of extents (min (n - 1) 1))) (numbers_of nest.inputs ins (unflat_of extents 0))) k ≡ row_cells ins row.firsts.items row.strides.items k =
    λ k. ap₂ (λ a d. row_cells ins a d k) (sym firsts_are) (sym has.strides_are) in
    let inputs : (k : ℕ) → k < row.length → input_cells nest.inputs ins (unflat_of extents (row.start + k)) ≡ row_cells ins row.firsts.items row.strides.items k =
    λ k l. ap (λ z. input_cells nest.inputs ins (unflat_of extents (z + k))) at
    ∙ row_gathered extents nest.inputs ins r k (min (n - 1) 1) (short k l) (below k l) within refl
    ∙ lists k in
    let along : (k : ℕ) → k < row.length → place_at nest extents outs.shape (row.start + k) ≡ row.place + k * row.stride =
    λ k l. ap (λ z. flat_of outs.shape (index_at nest.output (unflat_of extents (z + k)))) at
    ∙ number_along extents outs.shape nest.output r k (min (n - 1) 1) (short k l) (below k l) within refl
    ∙ ap₂ (λ a d. a + k * d) (sym place_is) (sym has.stride_is) in
    let numbers : (k : ℕ) → k < row.length → row.start + k < cell_count extents = λ k l. subst (λ z. z + k < cell_count extents) (sym at) (below k l) in
    record {
      whole = subst (λ z. z + row.length ≤ cell_count extents) (sym start) fits;
      points = λ k l. subst (λ z. unflat_of extents (z + k) ≡ with_last (unflat_of extents z) k) (sym at) (row_point extents r k (short k l) (below k l));
      inputs = inputs;
      there = λ k l.
          subst (λ a. HaveCells ins a row.strides.items k) (sym firsts_are)
          (subst (λ d. HaveCells ins (numbers_of nest.inputs ins (unflat_of extents (r * n))) d k) (sym has.strides_are)
          (row_there extents nest.inputs ins r k (min (n - 1) 1) (short k l) (below k l) within refl
          (subst (λ z. AreInside nest.inputs ins (unflat_of extents (z + k))) at (can.inputs (row.start + k) (numbers k l))) held));
      output = along;
      below = λ k l.
          subst (λ z. z < length outs.cells) (along k l)
          (subst (λ z. flat_of outs.shape (index_at nest.output (unflat_of extents (row.start + k))) < z) (sym held_out.whole.counted)
          (flat_of-below outs.shape (index_at nest.output (unflat_of extents (row.start + k))) (can.output (row.start + k) (numbers k l))));
      takes = λ k l. subst (TakesCells nest.step outs.width) (inputs k l) (can.cells (row.start + k) (numbers k l));
    }

-- ---- a point of a row

pub row_visited : (nest : memory.Nest) (extents : List ℕ) (ins : List TensorValue) (outs : TensorValue) (row : declared.Row) (k : ℕ) (cells new : List Cell) (p : ℕ) (c : Cell)
    → IsRow nest extents ins outs row → k < row.length → IsFoldedTo nest extents ins outs (row.start + k) cells → p ≡ row.place + k * row.stride
    → Some c ≡ next_by nest.step outs.width (unflat_of extents (row.start + k)) (row_cells ins row.firsts.items row.strides.items k) (get_or cells p Undef)
    → IsCellOf outs.width c → new ≡ set cells p c → IsFoldedTo nest extents ins outs (row.start + (k + 1)) new
unfolding IsFoldedTo
row_visited nest extents ins outs row k cells new p c is l h at e fit set_is =
    let next : row.start + k + 1 ≡ row.start + (k + 1) = omega arith in
    subst (λ n. IsFoldedTo nest extents ins outs n new) next
    (one_visited (visit_at nest extents outs.width ins) (place_at nest extents outs.shape) (IsCellOf outs.width) outs.cells (row.start + k) cells new p c
    h (at ∙ sym (is.output k l)) (subst (λ z. z < length outs.cells) (sym at) (is.below k l))
    (e ∙ goes_on nest extents outs.width ins (row.start + k) (unflat_of extents (row.start + k)) (row_cells ins row.firsts.items row.strides.items k) (get_or cells p Undef) refl (sym (is.inputs k l)))
    fit set_is)

pub row_stuck : (nest : memory.Nest) (extents : List ℕ) (ins : List TensorValue) (outs : TensorValue) (row : declared.Row) (k : ℕ) (cells : List Cell) (p : ℕ)
    → IsRow nest extents ins outs row → k < row.length → IsFoldedTo nest extents ins outs (row.start + k) cells → p ≡ row.place + k * row.stride → length outs.cells ≡ cell_count outs.shape
    → None ≡ next_by nest.step outs.width (unflat_of extents (row.start + k)) (row_cells ins row.firsts.items row.strides.items k) (get_or cells p Undef)
    → cells_by (folded_by nest extents ins outs (cell_count extents)) (cell_count outs.shape) ≡ None
unfolding IsFoldedTo
row_stuck nest extents ins outs row k cells p is l h at counted e =
    fold_stuck nest extents ins outs (row.start + k) (cell_count extents) p cells
    h (let whole = is.whole in omega (arith, whole, l)) counted (at ∙ sym (is.output k l)) (subst (λ z. p < z) counted (subst (λ z. z < length outs.cells) (sym at) (is.below k l)))
    (e ∙ goes_on nest extents outs.width ins (row.start + k) (unflat_of extents (row.start + k)) (row_cells ins row.firsts.items row.strides.items k) (get_or cells p Undef) refl (sym (is.inputs k l)))

pub folded_counted : (nest : memory.Nest) (extents : List ℕ) (ins : List TensorValue) (outs : TensorValue) (n : ℕ) (cells : List Cell) → IsFoldedTo nest extents ins outs n cells → length cells ≡ length outs.cells
unfolding IsFoldedTo
folded_counted nest extents ins outs n cells h = h.counted

pub folded_fitting : (nest : memory.Nest) (extents : List ℕ) (ins : List TensorValue) (outs : TensorValue) (n : ℕ) (cells : List Cell) → IsFoldedTo nest extents ins outs n cells → All (IsCellOf outs.width) cells
unfolding IsFoldedTo
folded_fitting nest extents ins outs n cells h = h.fitting

-- ---- one step

pub no_input : (ts : List TensorValue) (fs ds : List ℕ) (k : ℕ) (step : PointStep) (w : Width) (p : List ℕ) (so_far : Cell) → step ≡ Copied → length ts ≡ 0 → None ≡ next_by step w p (row_cells ts fs ds k) so_far
unfolding next_by
no_input [] fs ds k step w p so_far is l = ap (λ s. next_by s w p [] so_far) (sym is)
no_input (t ∷ ts) fs ds k step w p so_far is l = absurd (omega (arith, l))

first_read : (cells : List Cell) → 0 < length cells → Some (get_or cells 0 Undef) ≡ slice_get cells 0
first_read [] l = absurd (omega (arith, l))
first_read (c ∷ cells) l = refl

pub first_copied : (step : PointStep) (w : Width) (p : List ℕ) (cells : List Cell) (c so_far : Cell) → step ≡ Copied → 0 < length cells → c ≡ get_or cells 0 Undef → Some c ≡ next_by step w p cells so_far
first_copied step w p cells c so_far is l e = ap (λ x. Some x) e ∙ first_read cells l ∙ copied_next step w p cells so_far is

pub record AreFactorsAt (first second w : Width) (cells : List Cell) : Type 0 where
  pub first_fits : bits_of first ≤ bits_of w
  pub second_fits : bits_of second ≤ bits_of w
  pub first_cell : IsCellOf first (get_or cells 0 Undef)
  pub second_cell : IsCellOf second (get_or cells 1 Undef)

factors : (first second w : Width) (cells : List Cell) → length cells ≡ 2 → AreFactors first second w cells → AreFactorsAt first second w cells
factors first second w [] l h = absurd (omega (arith, l))
factors first second w (a ∷ []) l h = absurd (omega (arith, l))
factors first second w (a ∷ b ∷ []) l h = record { first_fits = h.0.0; second_fits = h.0.1; first_cell = h.1.0; second_cell = h.1.1 }
factors first second w (a ∷ b ∷ c ∷ cells) l h = absurd (omega (arith, l))

pub factors_at : (step : PointStep) (first second w : Width) (cells : List Cell) → step ≡ ProductAdded first second → length cells ≡ 2 → TakesCells step w cells → AreFactorsAt first second w cells
factors_at step first second w cells is l h = factors first second w cells l (subst (λ s. TakesCells s w cells) is h)

-- ---- all rows

pub folded_none : (nest : memory.Nest) (extents : List ℕ) (ins : List TensorValue) (outs : TensorValue) (cells : List Cell) → cells ≡ outs.cells → All (IsCellOf outs.width) outs.cells → IsFoldedTo nest extents ins outs 0 cells
unfolding IsFoldedTo
folded_none nest extents ins outs cells same fit = none_visited (visit_at nest extents outs.width ins) (place_at nest extents outs.shape) (IsCellOf outs.width) outs.cells cells same fit

pub folded_all : (nest : memory.Nest) (extents : List ℕ) (ins : List TensorValue) (outs : TensorValue) (n count : ℕ) (cells : List Cell) → IsFoldedTo nest extents ins outs n cells → n ≡ count → length outs.cells ≡ cell_count outs.shape
    → cells_by (folded_by nest extents ins outs count) (cell_count outs.shape) ≡ Some cells
unfolding IsFoldedTo
folded_all nest extents ins outs n count cells h same counted = all_folded nest extents ins outs n count cells h same counted

pub went_on : (nest : memory.Nest) (extents : List ℕ) (ins : List TensorValue) (outs : TensorValue) (n : ℕ) (there : Bool) (cells : List Cell) → there ≡ true → GoesOn nest extents ins outs n there cells → IsFoldedTo nest extents ins outs n cells
went_on nest extents ins outs n there cells e h = subst (λ b. GoesOn nest extents ins outs n b cells) e h

pub got_stuck : (nest : memory.Nest) (extents : List ℕ) (ins : List TensorValue) (outs : TensorValue) (n : ℕ) (there : Bool) (cells : List Cell) → there ≡ false → GoesOn nest extents ins outs n there cells
    → cells_by (folded_by nest extents ins outs (cell_count extents)) (cell_count outs.shape) ≡ None
got_stuck nest extents ins outs n there cells e h = subst (λ b. GoesOn nest extents ins outs n b cells) e h
