-- A slice is made of runs of the tensor's rows.
use Rattle.std.proofs.Common.{◌≡◌, ℕ, suc, ◌+◌, ◌*◌, ◌/◌, ◌<◌, ◌≤◌, List, [], length, get_or, take, drop, set, ap, sym, ◌∙◌, arith, subst}
use Rattle.std.proofs.lemmas.List.{take_all, nil_from_length, set-set, set-get_or, get_or-set_same, length-set}
use Rattle.std.proofs.Math.Nat.{mul-le-mul_left, mul-le-mul_right, mul-div_cancel_left}
use Rattle.sh_base.specs.declared.numbers.Cell.{Cell}
use Rattle.sh_base.specs.declared.numbers.Cell.TheVariants.{Undef}
use Rattle.sh_base.specs.declared.numbers.Width.{Width}
use Rattle.sh_base.specs.Shape.{cell_count, max_cells, IsIndexOf, flat_of}
use Rattle.sh_base.proofs.ShapeLaws.{cell_count-take_more}
use Rattle.sh_base.proofs.IndexLaws.{IsIndexOf-set, IsIndexOf-entry, flat_of-before_below, cell_count-split, cell_count-set, flat_of-split, flat_of-set, flat_of-after_below, take-set_same, drop-set_same, rest_some, cell_count-front_some, cell_count-front_le, extents_some}
use Rattle.sh_tensor.specs.Tensor.{TensorValue, IsTensor, IsHeld, at, cells_of, slice_of}
use Rattle.sh_tensor.specs.Runs.{runs_of}
use Rattle.sh_tensor.proofs.TensorLaws.{at-build, is_cells_of, IsTensor-build, length-cells_of}
use Rattle.sh_tensor.proofs.RunLaws.{length-runs_of, get_or-runs_of}

-- the index of the tensor at which a slice's cell stands
pub sliced_index : (s i : List ℕ) (a start size : ℕ) → a < length s → start + size ≤ get_or s a 0 → IsIndexOf (set s a size) i → IsIndexOf s (set i a (start + get_or i a 0))
sliced_index s i a start size l fits h =
    let long : a < length (set s a size) = rw (length-set s a size) l in
    let entry : get_or i a 0 < size = subst (λ n. get_or i a 0 < n) (get_or-set_same s a size 0 l) (IsIndexOf-entry (set s a size) i a h long) in
    let same : set (set s a size) a (get_or s a 0) ≡ s = set-set s a size (get_or s a 0) ∙ set-get_or s a 0 in
    subst (λ s'. IsIndexOf s' (set i a (start + get_or i a 0))) same
    (IsIndexOf-set (set s a size) i a (start + get_or i a 0) (get_or s a 0) h (omega arith))

pub IsTensor-slice_of : (t : TensorValue) (a start size : ℕ) → a < length t.shape → start + size ≤ get_or t.shape a 0 → IsTensor t → IsTensor (slice_of t a start size)
IsTensor-slice_of t a start size l fits h =
    IsTensor-build (set t.shape a size) t.width (λ i. at t (set i a (start + get_or i a 0)))
    (λ i within. h.fitting (set i a (start + get_or i a 0)) (sliced_index t.shape i a start size l fits within))

-- a slice has no more cells than the tensor
pub cell_count-sliced_le : (s : List ℕ) (a size : ℕ) → a < length s → size ≤ get_or s a 0 → cell_count (set s a size) ≤ cell_count s
cell_count-sliced_le s a size l fits =
    let before = cell_count (take a s) in
    let after = cell_count (drop (suc a) s) in
    let extent : before * size ≤ before * get_or s a 0 = mul-le-mul_left before fits in
    let whole : before * size * after ≤ before * get_or s a 0 * after = mul-le-mul_right after extent in
    rw (cell_count-set s a size l, cell_count-split s a l) whole

-- ---- rows

-- how the cells of a shape lie in rows before an axis
pub record IsInRows (s : List ℕ) (a cells rows : ℕ) : Type 0 where
  pub row : cells / rows ≡ get_or s a 0 * cell_count (drop (suc a) s)
  pub step : cells / rows / get_or s a 0 ≡ cell_count (drop (suc a) s)
  pub extent : 0 < get_or s a 0
  pub after : 0 < cell_count (drop (suc a) s)
  pub some_rows : 0 < rows

pub in_rows : (s : List ℕ) (a cells rows : ℕ) → a < length s → 0 < cell_count s → cells ≡ cell_count s → rows ≡ cell_count (take a s) → IsInRows s a cells rows
in_rows s a cells rows l some counted e =
    let n = get_or s a 0 in
    let after = cell_count (drop (suc a) s) in
    let rows_some : 0 < rows = rw e (cell_count-front_some s a some) in
    let product : cells ≡ rows * (n * after) = counted ∙ cell_count-split s a l ∙ rw e (omega arith) in
    let extent : 0 < n = extents_some s some a 0 l in
    let row : cells / rows ≡ n * after = ap (λ z. z / rows) product ∙ mul-div_cancel_left (n * after) rows_some in
    let step : cells / rows / n ≡ after = ap (λ z. z / n) row ∙ mul-div_cancel_left after extent in
    let whole : 0 < rows * (n * after) = subst (λ z. 0 < z) product (rw counted some) in
    record { row = row; step = step; extent = extent; after = rest_some n after (rest_some rows (n * after) whole); some_rows = rows_some }

slice_number : (before n start x after rest : ℕ) → (before * n + (start + x)) * after + rest ≡ before * (n * after) + start * after + (x * after + rest)
slice_number before n start x after rest = omega arith

pub run_number : (before size x after rest : ℕ) → (before * size + x) * after + rest ≡ before * (size * after) + (x * after + rest)
run_number before size x after rest = omega arith

pub within_run : (x size after rest : ℕ) → x < size → rest < after → x * after + rest < size * after
within_run x size after rest h l =
    let more : (x + 1) * after ≤ size * after = mul-le-mul_right after (omega arith) in
    omega arith

-- the runs of the rows are the slice's cells
pub slice_cells : (t : TensorValue) (a start size rows : ℕ) → IsTensor t → a < length t.shape → start + size ≤ get_or t.shape a 0 → 0 < cell_count t.shape → rows ≡ cell_count (take a t.shape)
    → runs_of t.cells rows (start * cell_count (drop (suc a) t.shape)) (size * cell_count (drop (suc a) t.shape)) ≡ (slice_of t a start size).cells
unfolding at
slice_cells t a start size rows h l fits some e =
    let s = t.shape in
    let n = get_or s a 0 in
    let after = cell_count (drop (suc a) s) in
    let parts = in_rows s a (length t.cells) rows l some h.counted e in
    let bound : (start + size) * after ≤ n * after = mul-le-mul_right after fits in
    let fit : start * after + size * after ≤ length t.cells / rows = rw parts.row (omega arith) in
    let f : List ℕ → Cell = λ i. at t (set i a (start + get_or i a 0)) in
    let counted : length (runs_of t.cells rows (start * after) (size * after)) ≡ cell_count (set s a size) =
    length-runs_of t.cells rows (start * after) (size * after) fit ∙ rw (cell_count-set s a size l, e) (omega arith) in
    is_cells_of (runs_of t.cells rows (start * after) (size * after)) (set s a size) f counted
    (λ i within.
    let x = get_or i a 0 in
    let before = flat_of (take a s) (take a i) in
    let rest = flat_of (drop (suc a) s) (drop (suc a) i) in
    let long : a < length (set s a size) = rw (length-set s a size) l in
    let entry : x < size = subst (λ m. x < m) (get_or-set_same s a size 0 l) (IsIndexOf-entry (set s a size) i a within long) in
    let rest_below : rest < after = subst (λ d. flat_of d (drop (suc a) i) < cell_count d) (drop-set_same s a size) (flat_of-after_below (set s a size) i a within) in
    let before_below : before < rows = rw e (subst (λ d. flat_of d (take a i) < cell_count d) (take-set_same s a size) (flat_of-before_below (set s a size) i a within)) in
    let number : flat_of (set s a size) i ≡ before * (size * after) + (x * after + rest) =
    flat_of-split (set s a size) i a within long
    ∙ rw (take-set_same s a size, drop-set_same s a size, get_or-set_same s a size 0 l) (run_number before size x after rest) in
    let same : set (set s a size) a n ≡ s = set-set s a size n ∙ set-get_or s a 0 in
    let there : flat_of s (set i a (start + x)) ≡ before * (n * after) + start * after + (x * after + rest) =
    sym (ap (λ s'. flat_of s' (set i a (start + x))) same)
    ∙ flat_of-set (set s a size) i a (start + x) n within long (omega arith)
    ∙ rw (take-set_same s a size, drop-set_same s a size) (slice_number before n start x after rest) in
    let read = get_or-runs_of t.cells rows (start * after) (size * after) before (x * after + rest) fit before_below (within_run x size after rest entry rest_below) in
    ap (λ k. get_or (runs_of t.cells rows (start * after) (size * after)) k Undef) number
    ∙ read
    ∙ ap (λ r. get_or t.cells (before * r + start * after + (x * after + rest)) Undef) parts.row
    ∙ sym (ap (λ k. get_or t.cells k Undef) there))

pub at-slice_of : (t : TensorValue) (a start size : ℕ) (i : List ℕ) → IsIndexOf (set t.shape a size) i → at (slice_of t a start size) i ≡ at t (set i a (start + get_or i a 0))
at-slice_of t a start size i h = at-build (set t.shape a size) t.width (λ j. at t (set j a (start + get_or j a 0))) i h

-- ---- the product of the extents before an axis

pub record IsRowsStep (s : List ℕ) (a i rows : ℕ) : Type 0 where
  pub value : rows * get_or (take a s) i 0 ≡ cell_count (take (i + 1) (take a s))
  pub few : rows * get_or (take a s) i 0 ≤ max_cells

pub rows_step : (s : List ℕ) (a i rows : ℕ) → 0 < cell_count s → cell_count s ≤ max_cells → i < length (take a s) → rows ≡ cell_count (take i (take a s)) → IsRowsStep s a i rows
rows_step s a i rows some small l e =
    let before = take a s in
    let value : rows * get_or before i 0 ≡ cell_count (take (i + 1) before) = rw e (sym (cell_count-take_more before i l)) in
    let le = cell_count-front_le before (i + 1) (cell_count-front_some s a some) in
    let le' = cell_count-front_le s a some in
    record { value = value; few = omega arith }

pub record IsRowCount (s : List ℕ) (a rows : ℕ) : Type 0 where
  pub value : rows ≡ cell_count (take a s)
  pub some : 0 < rows
  pub few : rows ≤ max_cells

pub rows_end : (s : List ℕ) (a i rows : ℕ) → 0 < cell_count s → cell_count s ≤ max_cells → length (take a s) ≤ i → rows ≡ cell_count (take i (take a s)) → IsRowCount s a rows
rows_end s a i rows some small le e =
    let whole : rows ≡ cell_count (take a s) = e ∙ ap cell_count (take_all i (take a s) le) in
    let front = cell_count-front_some s a some in
    let less = cell_count-front_le s a some in
    record { value = whole; some = rw whole front; few = omega arith }

-- ---- the slice in memory

pub held_slice : (t : TensorValue) (a start size : ℕ) → a < length t.shape → start + size ≤ get_or t.shape a 0 → IsHeld t → IsHeld (slice_of t a start size)
held_slice t a start size l fits h =
    let le = cell_count-sliced_le t.shape a size l (omega arith) in
    let small = h.small in
    record { whole = IsTensor-slice_of t a start size l fits h.whole; small = omega arith }

-- a slice without cells
pub empty_slice : (t : TensorValue) (a start size : ℕ) → cell_count (set t.shape a size) ≡ 0 → (slice_of t a start size).cells ≡ []
empty_slice t a start size e =
    let f : List ℕ → Cell = λ i. at t (set i a (start + get_or i a 0)) in
    nil_from_length (cells_of (set t.shape a size) f) (length-cells_of (set t.shape a size) f ∙ e)

-- a slice with cells is of a tensor with cells
pub source_some : (s : List ℕ) (a start size : ℕ) → a < length s → start + size ≤ get_or s a 0 → 0 < cell_count (set s a size) → 0 < cell_count s
source_some s a start size l fits h =
    let le = cell_count-sliced_le s a size l (omega arith) in
    omega arith

-- the tensor that is made is the slice
pub slice_made : (t : TensorValue) (a start size : ℕ) (shape : List ℕ) (w : Width) (cells : List Cell) → shape ≡ set t.shape a size → w ≡ t.width → cells ≡ (slice_of t a start size).cells
    → record { shape = shape; width = w; cells = cells } ≡ slice_of t a start size
slice_made t a start size shape w cells e f g = λ j. record { shape = e j; width = f j; cells = g j }

-- what the code computes of the rows
pub record IsSliceRun (s : List ℕ) (a start size len rows : ℕ) : Type 0 where
  pub extent : 0 < get_or s a 0
  pub rows_some : 0 < rows
  pub step : len / rows / get_or s a 0 ≡ cell_count (drop (suc a) s)
  pub within : start * (len / rows / get_or s a 0) + size * (len / rows / get_or s a 0) ≤ len / rows

pub slice_run : (s : List ℕ) (a start size len rows : ℕ) → a < length s → start + size ≤ get_or s a 0 → 0 < cell_count s → len ≡ cell_count s → rows ≡ cell_count (take a s) → IsSliceRun s a start size len rows
slice_run s a start size len rows l fits some counted e =
    let parts = in_rows s a len rows l some counted e in
    let after = cell_count (drop (suc a) s) in
    let bound : (start + size) * after ≤ get_or s a 0 * after = mul-le-mul_right after fits in
    record {
      extent = parts.extent;
      rows_some = parts.some_rows;
      step = parts.step;
      within = rw (parts.step, parts.row) (omega arith);
    }
