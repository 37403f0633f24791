-- Joined tensors are made of the rows of their parts.
use Rattle.std.proofs.Common.{◌≡◌, ℕ, zero, suc, ◌+◌, ◌-◌, ◌*◌, ◌/◌, ◌<◌, ◌≤◌, List, [], ◌∷◌, ◌++◌, length, get_or, take, drop, set, refl, ap, sym, ◌∙◌, arith, subst, cond, inl, inr, add-one}
use Rattle.std.specs.List.{range_with_len, flat_map, AllByRecursion, All}
use Rattle.std.proofs.lemmas.Bool.{cases_lt, lt-ltb, le-ltb}
use Rattle.std.proofs.lemmas.List.{take_more, append-nil, append_assoc, set-set, set-get_or, get_or-set_same, length-set, length-append, get_or_append_left, get_or-append_right, nil_from_length}
use Rattle.std.proofs.lemmas.List.Concat.{flat_map-append}
use Rattle.std.proofs.lemmas.List.Elements.{All-from_recursion, All-more}
use Rattle.std.proofs.Math.Nat.{mul-div_cancel_left}
use Rattle.sh_base.specs.Cells.{IsCellOf}
use Rattle.sh_base.specs.declared.numbers.Cell.{Cell}
use Rattle.sh_base.specs.declared.numbers.Cell.TheVariants.{Undef}
use Rattle.sh_base.specs.declared.numbers.Width.{Width}
use Rattle.sh_base.specs.Shape.{cell_count, IsIndexOf, flat_of}
use Rattle.sh_base.proofs.IndexLaws.{IsIndexOf-set, IsIndexOf-entry, IsIndexOf-long, cell_count-set, flat_of-split, flat_of-after_below, flat_of-before_below, take-set_same, drop-set_same}
use Rattle.sh_tensor.specs.Tensor.{TensorValue, IsTensor, at, cells_of, extent, IsLike, CanJoin, joined_extent, joined_at, joined_shape, concat_of}
use Rattle.sh_tensor.specs.Runs.{run_of, joined_row, joined_rows}
use Rattle.sh_tensor.proofs.TensorLaws.{at-build, is_cells_of, IsTensor-build, length-cells_of}
use Rattle.sh_tensor.proofs.RunLaws.{AreRows, length-rows, get_or-rows, length-run_of, get_or-run_of}
use Rattle.sh_tensor.proofs.SliceLaws.{within_run, run_number}

-- ---- indices of shapes that differ in one extent

set_twice : (s : List ℕ) (a m n : ℕ) → set (set s a m) a n ≡ set s a n
set_twice s a m n = set-set s a m n

pub index_at : (s i : List ℕ) (a m n y : ℕ) → IsIndexOf (set s a m) i → y < n → IsIndexOf (set s a n) (set i a y)
index_at s i a m n y h l = subst (λ s'. IsIndexOf s' (set i a y)) (set_twice s a m n) (IsIndexOf-set (set s a m) i a y n h l)

pub index_within : (s i : List ℕ) (a m n : ℕ) → IsIndexOf (set s a m) i → get_or i a 0 < n → IsIndexOf (set s a n) i
index_within s i a m n h l = subst (λ j. IsIndexOf (set s a n) j) (set-get_or i a 0) (index_at s i a m n (get_or i a 0) h l)

entry_below : (s i : List ℕ) (a m : ℕ) → a < length s → IsIndexOf (set s a m) i → get_or i a 0 < m
entry_below s i a m l h =
    let long : a < length (set s a m) = rw (length-set s a m) l in
    subst (λ n. get_or i a 0 < n) (get_or-set_same s a m 0 l) (IsIndexOf-entry (set s a m) i a h long)

entry_there : (s i : List ℕ) (a m : ℕ) → a < length s → IsIndexOf (set s a m) i → a < length i
entry_there s i a m l h = let long : a < length (set s a m) = rw (length-set s a m) l in IsIndexOf-long (set s a m) i a h long

number_at : (s i : List ℕ) (a n : ℕ) → a < length s → IsIndexOf (set s a n) i
    → flat_of (set s a n) i ≡ flat_of (take a s) (take a i) * (n * cell_count (drop (suc a) s)) + (get_or i a 0 * cell_count (drop (suc a) s) + flat_of (drop (suc a) s) (drop (suc a) i))
number_at s i a n l h =
    let long : a < length (set s a n) = rw (length-set s a n) l in
    flat_of-split (set s a n) i a h long
    ∙ rw (take-set_same s a n, drop-set_same s a n, get_or-set_same s a n 0 l)
    (run_number (flat_of (take a s) (take a i)) n (get_or i a 0) (cell_count (drop (suc a) s)) (flat_of (drop (suc a) s) (drop (suc a) i)))

after_below : (s i : List ℕ) (a n : ℕ) → IsIndexOf (set s a n) i → flat_of (drop (suc a) s) (drop (suc a) i) < cell_count (drop (suc a) s)
after_below s i a n h = subst (λ d. flat_of d (drop (suc a) i) < cell_count d) (drop-set_same s a n) (flat_of-after_below (set s a n) i a h)

before_below : (s i : List ℕ) (a n : ℕ) → IsIndexOf (set s a n) i → flat_of (take a s) (take a i) < cell_count (take a s)
before_below s i a n h = subst (λ d. flat_of d (take a i) < cell_count d) (take-set_same s a n) (flat_of-before_below (set s a n) i a h)

-- ---- the parts

-- a tensor of the shape s but for its extent along the axis
pub record IsPart (s : List ℕ) (w : Width) (a : ℕ) (t : TensorValue) : Type 0 where
  pub shape : t.shape ≡ set s a (extent t a)
  pub width : t.width ≡ w
  pub whole : IsTensor t

like_part : (a : ℕ) (t u : TensorValue) → IsLike a t u → IsTensor u → IsPart t.shape t.width a u
like_part a t u like whole = record {
  shape =
      sym (set-get_or u.shape a 0)
      ∙ sym (set_twice u.shape a 0 (get_or u.shape a 0))
      ∙ ap (λ s. set s a (get_or u.shape a 0)) like.others
      ∙ set_twice t.shape a 0 (get_or u.shape a 0);
  width = like.width;
  whole = whole;
}

like_parts : (a : ℕ) (t : TensorValue) (us : List TensorValue) → AllByRecursion (IsLike a t) us → All IsTensor us → AllByRecursion (IsPart t.shape t.width a) us
like_parts a t [] likes whole = tt
like_parts a t (u ∷ us) likes whole =
    (like_part a t u likes.0 (whole 0 u (omega arith)), like_parts a t us likes.1 (λ k d l. whole (suc k) d (omega arith)))

-- ---- rows of the parts

part_row : (s : List ℕ) (w : Width) (a : ℕ) (t : TensorValue) → a < length s → IsPart s w a t → 0 < cell_count (take a s)
    → length t.cells / cell_count (take a s) ≡ extent t a * cell_count (drop (suc a) s)
part_row s w a t l part some =
    let rows = cell_count (take a s) in
    let after = cell_count (drop (suc a) s) in
    let product : length t.cells ≡ rows * (extent t a * after) =
    part.whole.counted ∙ ap cell_count part.shape ∙ cell_count-set s a (extent t a) l ∙ omega arith in
    ap (λ z. z / rows) product ∙ mul-div_cancel_left (extent t a * after) some

part_row_length : (s : List ℕ) (w : Width) (a : ℕ) (t : TensorValue) (q : ℕ) → a < length s → IsPart s w a t → q < cell_count (take a s)
    → length (run_of t.cells (cell_count (take a s)) 0 (length t.cells / cell_count (take a s)) q) ≡ extent t a * cell_count (drop (suc a) s)
part_row_length s w a t q l part h =
    let rows = cell_count (take a s) in
    length-run_of t.cells rows 0 (length t.cells / rows) q h (omega arith) ∙ part_row s w a t l part (omega arith)

joined_row-cons : (t : TensorValue) (ts : List TensorValue) (rows q : ℕ) → joined_row (t ∷ ts) rows q ≡ run_of t.cells rows 0 (length t.cells / rows) q ++ joined_row ts rows q
unfolding joined_row
joined_row-cons t ts rows q = refl

row_length : (s : List ℕ) (w : Width) (a : ℕ) (ts : List TensorValue) (q : ℕ) → a < length s → AllByRecursion (IsPart s w a) ts → q < cell_count (take a s)
    → length (joined_row ts (cell_count (take a s)) q) ≡ joined_extent a ts * cell_count (drop (suc a) s)
unfolding joined_row
row_length s w a [] q l parts h = omega arith
row_length s w a (t ∷ ts) q l parts h =
    let rows = cell_count (take a s) in
    let first = part_row_length s w a t q l parts.0 h in
    let rec = row_length s w a ts q l parts.1 h in
    let split = length-append (run_of t.cells rows 0 (length t.cells / rows) q) (joined_row ts rows q) in
    omega arith

at_number : (t : TensorValue) (i : List ℕ) (k : ℕ) → flat_of t.shape i ≡ k → at t i ≡ get_or t.cells k Undef
unfolding at
at_number t i k e = ap (λ n. get_or t.cells n Undef) e

joined_at-first : (a : ℕ) (t : TensorValue) (ts : List TensorValue) (i : List ℕ) → get_or i a 0 < extent t a → joined_at a (t ∷ ts) i ≡ at t i
joined_at-first a t ts i l =
    ap (λ b. cond b (at t i) (joined_at a ts (set i a (get_or i a 0 - extent t a)))) (lt-ltb (get_or i a 0) (extent t a) l)

joined_at-rest : (a : ℕ) (t : TensorValue) (ts : List TensorValue) (i : List ℕ) → extent t a ≤ get_or i a 0 → joined_at a (t ∷ ts) i ≡ joined_at a ts (set i a (get_or i a 0 - extent t a))
joined_at-rest a t ts i l =
    ap (λ b. cond b (at t i) (joined_at a ts (set i a (get_or i a 0 - extent t a)))) (le-ltb (get_or i a 0) (extent t a) l)

later_place : (x n y after rest j : ℕ) → x ≡ n + y → j ≡ x * after + rest → j - n * after ≡ y * after + rest
later_place x n y after rest j e h = rw (h, e) (omega arith)

later_long : (x n y after rest j : ℕ) → x ≡ n + y → j ≡ x * after + rest → n * after ≤ j
later_long x n y after rest j e h = rw (h, e) (omega arith)

-- a cell of a joined row
row_cell : (s : List ℕ) (w : Width) (a : ℕ) (ts : List TensorValue) (i : List ℕ) (q j : ℕ) → a < length s → AllByRecursion (IsPart s w a) ts
    → IsIndexOf (set s a (joined_extent a ts)) i → q ≡ flat_of (take a s) (take a i)
    → j ≡ get_or i a 0 * cell_count (drop (suc a) s) + flat_of (drop (suc a) s) (drop (suc a) i)
    → get_or (joined_row ts (cell_count (take a s)) q) j Undef ≡ joined_at a ts i
unfolding joined_row
row_cell s w a [] i q j l parts h eq ej = refl
row_cell s w a (t ∷ ts) i q j l parts h eq ej =
    let rows = cell_count (take a s) in
    let after = cell_count (drop (suc a) s) in
    let x = get_or i a 0 in
    let n = extent t a in
    let total = joined_extent a (t ∷ ts) in
    let own : List Cell = run_of t.cells rows 0 (length t.cells / rows) q in
    let others = joined_row ts rows q in
    let q_below : q < rows = rw eq (before_below s i a total h) in
    let size = part_row s w a t l parts.0 (omega arith) in
    let own_length : length own ≡ n * after = part_row_length s w a t q l parts.0 q_below in
    let rest_below = after_below s i a total h in
    elim (cases_lt x n) [
      | inl lt ↦
          let short : j < n * after = rw ej (within_run x n after (flat_of (drop (suc a) s) (drop (suc a) i)) lt rest_below) in
          let number : flat_of t.shape i ≡ q * (n * after) + 0 + j =
          ap (λ s'. flat_of s' i) parts.0.shape ∙ number_at s i a n l (index_within s i a total n h lt) ∙ rw (← eq, ← ej) (omega arith) in
          let row_short : j < length t.cells / rows = rw size short in
          get_or_append_left own others Undef j (rw own_length short)
          ∙ get_or-run_of t.cells rows 0 (length t.cells / rows) q j row_short
          ∙ ap (λ r. get_or t.cells (q * r + 0 + j) Undef) size
          ∙ sym (joined_at-first a t ts i lt ∙ at_number t i (q * (n * after) + 0 + j) number)
      | inr ge ↦
          let y : ℕ = x - n in
          let x_is : x ≡ n + y = omega arith in
          let total_below : x < total = entry_below s i a total l h in
          let y_below : y < joined_extent a ts = omega arith in
          let i' = set i a y in
          let there : a < length i = entry_there s i a total l h in
          let rest = flat_of (drop (suc a) s) (drop (suc a) i) in
          let long : n * after ≤ j = later_long x n y after rest j x_is ej in
          let j' : j - n * after ≡ y * after + rest = later_place x n y after rest j x_is ej in
          let place : j - n * after ≡ get_or i' a 0 * after + flat_of (drop (suc a) s) (drop (suc a) i') =
          j' ∙ rw (drop-set_same i a y, get_or-set_same i a y 0 there) refl in
          get_or-append_right own others (n * after) j Undef own_length long
          ∙ row_cell s w a ts i' q (j - n * after) l parts.1 (index_at s i a total (joined_extent a ts) y h y_below) (rw (take-set_same i a y) eq) place
          ∙ sym (joined_at-rest a t ts i ge)
    ]

-- the rows of the parts are the joined tensor's cells
pub join_cells : (s : List ℕ) (w : Width) (a : ℕ) (ts : List TensorValue) → a < length s → AllByRecursion (IsPart s w a) ts
    → joined_rows ts (cell_count (take a s)) ≡ cells_of (set s a (joined_extent a ts)) (joined_at a ts)
unfolding joined_rows
join_cells s w a ts l parts =
    let rows = cell_count (take a s) in
    let after = cell_count (drop (suc a) s) in
    let total = joined_extent a ts in
    let row : ℕ → List Cell = joined_row ts rows in
    let each : AreRows row 0 rows (total * after) = record { each = λ q h. let same : q ≡ 0 + q = omega arith in subst (λ k. length (row k) ≡ total * after) same (row_length s w a ts q l parts h) } in
    is_cells_of (flat_map row (range_with_len 0 rows)) (set s a total) (joined_at a ts)
    (length-rows row 0 rows (total * after) each ∙ rw (cell_count-set s a total l) (omega arith))
    (λ i within.
    let q = flat_of (take a s) (take a i) in
    let j = get_or i a 0 * after + flat_of (drop (suc a) s) (drop (suc a) i) in
    let short : j < total * after = within_run (get_or i a 0) total after (flat_of (drop (suc a) s) (drop (suc a) i)) (entry_below s i a total l within) (after_below s i a total within) in
    let same : 0 + q ≡ q = omega arith in
    ap (λ k. get_or (flat_map row (range_with_len 0 rows)) k Undef) (number_at s i a total l within)
    ∙ get_or-rows row 0 rows (total * after) q j Undef each (before_below s i a total within) short
    ∙ ap (λ k. get_or (row k) j Undef) same
    ∙ row_cell s w a ts i q j l parts within refl refl)

joined_fits : (s : List ℕ) (w : Width) (a : ℕ) (ts : List TensorValue) (i : List ℕ) → a < length s → AllByRecursion (IsPart s w a) ts
    → IsIndexOf (set s a (joined_extent a ts)) i → IsCellOf w (joined_at a ts i)
joined_fits s w a [] i l parts h = tt
joined_fits s w a (t ∷ ts) i l parts h =
    let x = get_or i a 0 in
    let n = extent t a in
    let total = joined_extent a (t ∷ ts) in
    elim (cases_lt x n) [
      | inl lt ↦
          let within : IsIndexOf t.shape i = subst (λ s'. IsIndexOf s' i) (sym parts.0.shape) (index_within s i a total n h lt) in
          subst (IsCellOf w) (sym (joined_at-first a t ts i lt)) (subst (λ v. IsCellOf v (at t i)) parts.0.width (parts.0.whole.fitting i within))
      | inr ge ↦
          let total_below : x < total = entry_below s i a total l h in
          subst (IsCellOf w) (sym (joined_at-rest a t ts i ge))
          (joined_fits s w a ts (set i a (x - n)) l parts.1 (index_at s i a total (joined_extent a ts) (x - n) h (omega arith)))
    ]

-- ---- what the code makes

pub record IsJoin (a : ℕ) (ts : List TensorValue) : Type 0 where
  pub ranked : a < length (joined_shape a ts)
  pub rows : joined_rows ts (cell_count (take a (joined_shape a ts))) ≡ (concat_of ts a).cells
  pub empty : cell_count (joined_shape a ts) ≡ 0 → [] ≡ (concat_of ts a).cells
  pub whole : IsTensor (concat_of ts a)

pub join_is : (a : ℕ) (ts : List TensorValue) → CanJoin a ts → All IsTensor ts → IsJoin a ts
join_is a [] can whole = absurd can
join_is a (t ∷ ts) can whole =
    let s = t.shape in
    let all : List TensorValue = t ∷ ts in
    let l : a < length s = can.0.ranked in
    let parts : AllByRecursion (IsPart s t.width a) all = like_parts a t all can whole in
    let total = joined_extent a all in
    record {
      ranked = rw (length-set s a total) l;
      rows = ap (λ before. joined_rows all (cell_count before)) (take-set_same s a total) ∙ join_cells s t.width a all l parts;
      empty = λ e. sym (nil_from_length (cells_of (set s a total) (joined_at a all)) (length-cells_of (set s a total) (joined_at a all) ∙ e));
      whole = IsTensor-build (set s a total) t.width (joined_at a all) (λ i h. joined_fits s t.width a all i l parts h);
    }

pub joined_shape-first : (a : ℕ) (ts : List TensorValue) (t : TensorValue) → CanJoin a ts → t ≡ get_or ts 0 t → set t.shape a (joined_extent a ts) ≡ joined_shape a ts
joined_shape-first a [] t can e = absurd can
joined_shape-first a (u ∷ ts) t can e = ap (λ (v : TensorValue). set v.shape a (joined_extent a (u ∷ ts))) e

-- the tensor that is made is the joined one
pub join_made : (a : ℕ) (ts : List TensorValue) (t : TensorValue) (shape : List ℕ) (w : Width) (cells : List Cell) → CanJoin a ts → t ≡ get_or ts 0 t
    → shape ≡ joined_shape a ts → w ≡ t.width → cells ≡ (concat_of ts a).cells → record { shape = shape; width = w; cells = cells } ≡ concat_of ts a
join_made a [] t shape w cells can first e f g = absurd can
join_made a (u ∷ ts) t shape w cells can first e f g =
    let widths : w ≡ u.width = f ∙ ap (λ (v : TensorValue). v.width) first in
    λ j. record { shape = e j; width = widths j; cells = g j }

-- ---- rows, one part at a time

joined_row-more : (ts : List TensorValue) (k rows q : ℕ) (t : TensorValue) → k < length ts → t ≡ get_or ts k t
    → joined_row (take (k + 1) ts) rows q ≡ joined_row (take k ts) rows q ++ run_of t.cells rows 0 (length t.cells / rows) q
unfolding joined_row
joined_row-more ts k rows q t l e =
    let f : TensorValue → List Cell = λ u. run_of u.cells rows 0 (length u.cells / rows) q in
    ap (flat_map f) (take_more ts k t l)
    ∙ flat_map-append f (take k ts) (get_or ts k t ∷ [])
    ∙ ap (λ z. flat_map f (take k ts) ++ z) (append-nil (f (get_or ts k t)) ∙ ap f (sym e))

pub joined_row-none : (ts : List TensorValue) (rows q : ℕ) (old : List Cell) → old ≡ old ++ joined_row [] rows q
unfolding joined_row
joined_row-none ts rows q old = sym (append-nil old)

pub push_step : (ts : List TensorValue) (k rows q : ℕ) (t : TensorValue) (old out new cells : List Cell) → k < length ts → t ≡ get_or ts k t → cells ≡ t.cells
    → out ≡ old ++ joined_row (take k ts) rows q → new ≡ out ++ take (length cells / rows) (drop (q * (length cells / rows)) cells)
    → new ≡ old ++ joined_row (take (k + 1) ts) rows q
unfolding run_of
push_step ts k rows q t old out new cells l e same h next =
    let piece : take (length t.cells / rows) (drop (q * (length t.cells / rows)) t.cells) ≡ run_of t.cells rows 0 (length t.cells / rows) q =
    ap (λ b. take (length t.cells / rows) (drop b t.cells)) (omega arith) in
    next
    ∙ ap (λ cs. out ++ take (length cs / rows) (drop (q * (length cs / rows)) cs)) same
    ∙ ap (λ z. z ++ take (length t.cells / rows) (drop (q * (length t.cells / rows)) t.cells)) h
    ∙ append_assoc old (joined_row (take k ts) rows q) (take (length t.cells / rows) (drop (q * (length t.cells / rows)) t.cells))
    ∙ ap (λ z. old ++ (joined_row (take k ts) rows q ++ z)) piece
    ∙ sym (ap (λ z. old ++ z) (joined_row-more ts k rows q t l e))

-- ---- the extents along the axis

extent-at : (a : ℕ) (ts : List TensorValue) (k : ℕ) (t : TensorValue) → k < length ts → t ≡ get_or ts k t → joined_extent a (take (suc k) ts) ≡ joined_extent a (take k ts) + extent t a
extent-at a [] k t l e = absurd (omega arith)
extent-at a (u ∷ ts) zero t l e = rw e (omega arith)
extent-at a (u ∷ ts) (suc k) t l e = let rec = extent-at a ts k t (omega arith) e in rw rec (omega arith)

extent-front_le : (a : ℕ) (ts : List TensorValue) (k : ℕ) → joined_extent a (take k ts) ≤ joined_extent a ts
extent-front_le a ts zero = omega arith
extent-front_le a [] (suc k) = omega arith
extent-front_le a (t ∷ ts) (suc k) = let rec = extent-front_le a ts k in omega arith

-- one part more
pub record IsExtentStep (a : ℕ) (ts : List TensorValue) (k sum : ℕ) (t : TensorValue) : Type 0 where
  pub value : sum + extent t a ≡ joined_extent a (take (k + 1) ts)
  pub few : sum + extent t a ≤ joined_extent a ts

pub extent_step : (a : ℕ) (ts : List TensorValue) (k sum : ℕ) (t : TensorValue) → k < length ts → t ≡ get_or ts k t → sum ≡ joined_extent a (take k ts) → IsExtentStep a ts k sum t
extent_step a ts k sum t l e h =
    let value : sum + extent t a ≡ joined_extent a (take (k + 1) ts) = rw (h, add-one) (sym (extent-at a ts k t l e)) in
    record { value = value; few = rw value (extent-front_le a ts (k + 1)) }

-- each part has the axis
pub ranked_parts : (a : ℕ) (ts : List TensorValue) → CanJoin a ts → All (λ t. a < length t.shape) ts
ranked_parts a [] can k d l = absurd can
ranked_parts a (t ∷ ts) can k d l = (All-from_recursion (IsLike a t) (t ∷ ts) can k d l).ranked

pub some_part : (a : ℕ) (ts : List TensorValue) → CanJoin a ts → 0 < length ts
some_part a [] can = absurd can
some_part a (t ∷ ts) can = omega arith

pub whole_more : (ts : List TensorValue) (k : ℕ) (t : TensorValue) → k < length ts → t ≡ get_or ts k t → All IsTensor (take k ts) → IsTensor t → All IsTensor (take (k + 1) ts)
whole_more ts k t l e so_far whole = All-more IsTensor ts k t l so_far (subst IsTensor e whole)

-- ---- the cells of joined tensors

pub at-concat_of : (a : ℕ) (t : TensorValue) (ts : List TensorValue) (i : List ℕ) → IsIndexOf (joined_shape a (t ∷ ts)) i → at (concat_of (t ∷ ts) a) i ≡ joined_at a (t ∷ ts) i
at-concat_of a t ts i h = at-build (joined_shape a (t ∷ ts)) t.width (joined_at a (t ∷ ts)) i h

set_sum : (i : List ℕ) (a m n k : ℕ) → a < length i → k ≡ m + n → set (set i a k) a (get_or (set i a k) a 0 - m) ≡ set i a n
set_sum i a m n k l e =
    let entry : get_or (set i a k) a 0 - m ≡ n = rw (get_or-set_same i a k 0 l, e) (omega arith) in
    ap (set (set i a k) a) entry ∙ set-set i a k n

-- the cell j of the p-th part stands after the parts before it
pub joined_at-part : (a : ℕ) (ts : List TensorValue) (p j : ℕ) (i : List ℕ) (t : TensorValue) → a < length i → p < length ts → j < extent (get_or ts p t) a
    → joined_at a ts (set i a (joined_extent a (take p ts) + j)) ≡ at (get_or ts p t) (set i a j)
joined_at-part a [] p j i t l h m = absurd (omega arith)
joined_at-part a (u ∷ ts) zero j i t l h m =
    let here : 0 + j ≡ j = omega arith in
    let entry : get_or (set i a j) a 0 < extent u a = rw (get_or-set_same i a j 0 l) m in
    ap (λ k. joined_at a (u ∷ ts) (set i a k)) here ∙ joined_at-first a u ts (set i a j) entry
joined_at-part a (u ∷ ts) (suc p) j i t l h m =
    let k : ℕ = extent u a + joined_extent a (take p ts) + j in
    let split : k ≡ extent u a + (joined_extent a (take p ts) + j) = omega arith in
    let past : extent u a ≤ get_or (set i a k) a 0 = rw (get_or-set_same i a k 0 l) (omega arith) in
    joined_at-rest a u ts (set i a k) past
    ∙ ap (joined_at a ts) (set_sum i a (extent u a) (joined_extent a (take p ts) + j) k l split)
    ∙ joined_at-part a ts p j i t l (omega arith) m
