use Rattle.std.proofs.Common.{◌≡◌, ◌<◌, ◌≤◌, ◌+◌, ◌*◌, ◌/◌, ◌↔◌, ℕ, Bool, true, false, List, get_or, ap, ◌∙◌, sym, subst, set, suc, drop, take, arith, length}
use Rattle.std.proofs.lemmas.Bool.{iff_false}
use Rattle.std.proofs.lemmas.Result.{IfOk-weaker}
use Rattle.sh_base.specs.Shape.{cell_count}
use Rattle.sh_base.proofs.IndexLaws.{extents_some}
use Rattle.sh_tensor.specs.Runs.{runs_of}
use Rattle.sh_tensor.specs.Tensor.{TensorValue}
use Rattle.sh_tensor.proofs.SliceLaws.{cell_count-sliced_le, empty_slice, source_some, slice_run, slice_cells}
use Rattle.sh_tensor.proofs.slices.sliced_cells.Goals as goal

pub is_empty-requires : goal.is_empty-requires
is_empty-requires c =
    let le = cell_count-sliced_le c.args.t.now.shape c.args.axis c.args.size c.requires.axis (omega (arith, c.requires.within)) in
    rw c.requires.shape (omega (arith, c.shape-whole.ensures.small))

pub returns-then-is_empty : goal.returns-then-is_empty
returns-then-is_empty c =
    let none : cell_count c.args.shape.now ≡ 0 = c.is_empty.ensures.0 c.if-is_empty.true in
    c.new.ensures.items ∙ sym (empty_slice c.args.t.now c.args.axis c.args.start c.args.size (sym (ap cell_count c.requires.shape) ∙ none))

-- where the slice has a cell, so has the tensor
some_cells : (s shape : List ℕ) (a start size : ℕ) (b : Bool) → a < length s → start + size ≤ get_or s a 0 → shape ≡ set s a size → (b ≡ true) ↔ (cell_count shape ≡ 0) → b ≡ false → 0 < cell_count s
some_cells s shape a start size b l fits e empty test =
    let not_none = iff_false empty test in
    let some : 0 < cell_count shape = omega arith in
    source_some s a start size l fits (subst (λ z. 0 < cell_count z) e some)

pub rows_before-rows-requires-clause-some : goal.rows_before-rows-requires-clause-some
rows_before-rows-requires-clause-some c =
    rw c.shape-whole.ensures.value
    (some_cells c.args.t.now.shape c.args.shape.now c.args.axis c.args.start c.args.size c.is_empty.result c.requires.axis c.requires.within c.requires.shape c.is_empty.ensures c.if-is_empty.false)

pub nonzero_div-step-2 : goal.nonzero_div-step-2
nonzero_div-step-2 c =
    let s = c.args.t.now.shape in
    let some = some_cells s c.args.shape.now c.args.axis c.args.start c.args.size c.is_empty.result c.requires.axis c.requires.within c.requires.shape c.is_empty.ensures c.if-is_empty.false in
    rw (c.extents.ensures.value, c.shape-whole.ensures.value) (extents_some s some c.args.axis 0 c.requires.axis)

pub runs-requires-clause-within : goal.runs-requires-clause-within
runs-requires-clause-within c =
    let s = c.args.t.now.shape in
    let some = some_cells s c.args.shape.now c.args.axis c.args.start c.args.size c.is_empty.result c.requires.axis c.requires.within c.requires.shape c.is_empty.ensures c.if-is_empty.false in
    let rows = c.rows_before-rows.ensures.value ∙ ap (λ xs. cell_count (take c.args.axis xs)) c.shape-whole.ensures.value in
    let run = slice_run s c.args.axis c.args.start c.args.size (length c.cells-cells.result.now) c.rows_before-rows.result c.requires.axis c.requires.within some c.cells-cells.ensures.counted rows in
    rw (c.extents.ensures.value, c.shape-whole.ensures.value) run.within

pub returns : goal.returns
returns c =
    let t : TensorValue = c.args.t.now in
    let a = c.args.axis in
    let cells = c.cells-cells.result.now in
    let after = cell_count (drop (suc a) t.shape) in
    let some = some_cells t.shape c.args.shape.now a c.args.start c.args.size c.is_empty.result c.requires.axis c.requires.within c.requires.shape c.is_empty.ensures c.if-is_empty.false in
    let rows : c.rows_before-rows.result ≡ cell_count (take a t.shape) = c.rows_before-rows.ensures.value ∙ ap (λ xs. cell_count (take a xs)) c.shape-whole.ensures.value in
    let run = slice_run t.shape a c.args.start c.args.size (length cells) c.rows_before-rows.result c.requires.axis c.requires.within some c.cells-cells.ensures.counted rows in
    let step : length cells / c.rows_before-rows.result / get_or c.extents.result.now a 0 ≡ after =
    ap (λ xs. length cells / c.rows_before-rows.result / get_or xs a 0) (c.extents.ensures.value ∙ c.shape-whole.ensures.value) ∙ run.step in
    let same =
    ap (λ z. runs_of cells c.rows_before-rows.result (c.args.start * z) (c.args.size * z)) step
    ∙ ap (λ cs. runs_of cs c.rows_before-rows.result (c.args.start * after) (c.args.size * after)) c.cells-cells.ensures.value
    ∙ slice_cells t a c.args.start c.args.size c.rows_before-rows.result c.shape-whole.ensures.whole c.requires.axis c.requires.within some rows in
    IfOk-weaker c.runs.result _ _ (λ out h. h ∙ same) c.runs.ensures
