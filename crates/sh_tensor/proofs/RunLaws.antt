-- Runs of cells: rows of one length joined end to end.
use Rattle.std.proofs.Common.{◌≡◌, ℕ, zero, suc, ◌+◌, ◌-◌, ◌*◌, ◌/◌, ◌<◌, ◌≤◌, List, ◌++◌, length, get_or, take, drop, ap, sym, ◌∙◌, arith, subst, add-zero}
use Rattle.std.specs.List.{range_with_len, flat_map}
use Rattle.std.proofs.lemmas.List.{append-nil, append_assoc, length-append, get_or_append_left, get_or-append_right, length-take, length-drop, get_or-take, get_or-drop}
use Rattle.std.proofs.lemmas.Nat.{row_fits}
use Rattle.sh_base.specs.declared.numbers.Cell.{Cell}
use Rattle.sh_base.specs.declared.numbers.Cell.TheVariants.{Undef}
use Rattle.sh_tensor.specs.Runs.{run_of, runs_of}

rows-one_more : {X : Type 0} (f : ℕ → List X) (a n : ℕ) → flat_map f (range_with_len a (suc n)) ≡ flat_map f (range_with_len a n) ++ f (a + n)
rows-one_more f a zero = append-nil (f a) ∙ ap f (sym (add-zero a))
rows-one_more f a (suc n) =
    let place : a + 1 + n ≡ a + suc n = omega arith in
    ap (λ z. f a ++ z) (rows-one_more f (a + 1) n ∙ ap (λ k. flat_map f (range_with_len (a + 1) n) ++ f k) place)
    ∙ sym (append_assoc (f a) (flat_map f (range_with_len (a + 1) n)) (f (a + suc n)))

-- one row more
pub rows-more : {X : Type 0} (f : ℕ → List X) (n : ℕ) → flat_map f (range_with_len 0 (n + 1)) ≡ flat_map f (range_with_len 0 n) ++ f n
rows-more f n =
    let next : n + 1 ≡ suc n = omega arith in
    let place : 0 + n ≡ n = omega arith in
    ap (λ k. flat_map f (range_with_len 0 k)) next ∙ rows-one_more f 0 n ∙ ap (λ k. flat_map f (range_with_len 0 n) ++ f k) place

-- each of so many rows has this length
pub record AreRows {X : Type 0} (f : ℕ → List X) (a rows size : ℕ) : Type 0 where
  pub each : (q : ℕ) → q < rows → length (f (a + q)) ≡ size

rest_rows : {X : Type 0} (f : ℕ → List X) (a n size : ℕ) → AreRows f a (suc n) size → AreRows f (a + 1) n size
rest_rows f a n size h = record {
  each = λ q l.
      let place : a + suc q ≡ a + 1 + q = omega arith in
      subst (λ k. length (f k) ≡ size) place (h.each (suc q) (omega arith));
}

first_row : {X : Type 0} (f : ℕ → List X) (a n size : ℕ) → AreRows f a (suc n) size → length (f a) ≡ size
first_row f a n size h = subst (λ k. length (f k) ≡ size) (add-zero a) (h.each 0 (omega arith))

pub length-rows : {X : Type 0} (f : ℕ → List X) (a n size : ℕ) → AreRows f a n size → length (flat_map f (range_with_len a n)) ≡ n * size
length-rows f a zero size h = omega arith
length-rows f a (suc n) size h =
    let rec = length-rows f (a + 1) n size (rest_rows f a n size h) in
    let first = first_row f a n size h in
    let split = length-append (f a) (flat_map f (range_with_len (a + 1) n)) in
    omega arith

-- the j-th element of the q-th row
pub get_or-rows : {X : Type 0} (f : ℕ → List X) (a n size q j : ℕ) (d : X) → AreRows f a n size → q < n → j < size
    → get_or (flat_map f (range_with_len a n)) (q * size + j) d ≡ get_or (f (a + q)) j d
get_or-rows f a zero size q j d h l m = absurd (omega arith)
get_or-rows f a (suc n) size zero j d h l m =
    let first = first_row f a n size h in
    let here : 0 * size + j ≡ j = omega arith in
    ap (λ k. get_or (flat_map f (range_with_len a (suc n))) k d) here
    ∙ get_or_append_left (f a) (flat_map f (range_with_len (a + 1) n)) d j (rw first m)
    ∙ ap (λ k. get_or (f k) j d) (sym (add-zero a))
get_or-rows f a (suc n) size (suc q) j d h l m =
    let first = first_row f a n size h in
    let place : a + 1 + q ≡ a + suc q = omega arith in
    let back : suc q * size + j - size ≡ q * size + j = omega arith in
    get_or-append_right (f a) (flat_map f (range_with_len (a + 1) n)) size (suc q * size + j) d first (omega arith)
    ∙ ap (λ k. get_or (flat_map f (range_with_len (a + 1) n)) k d) back
    ∙ get_or-rows f (a + 1) n size q j d (rest_rows f a n size h) (omega arith) m
    ∙ ap (λ k. get_or (f k) j d) place

-- ---- a run of a row

-- a run that lies within a row ends within the cells
pub run_fits : (len rows from size q : ℕ) → q < rows → from + size ≤ len / rows → q * (len / rows) + from + size ≤ len
run_fits len rows from size q l h =
    let some : 0 < rows = omega arith in
    let whole : q * (len / rows) + len / rows ≤ rows * (len / rows) = row_fits q (len / rows) rows (len / rows) l (omega arith) in
    omega arith

pub length-run_of : (cells : List Cell) (rows from size q : ℕ) → q < rows → from + size ≤ length cells / rows → length (run_of cells rows from size q) ≡ size
unfolding run_of
length-run_of cells rows from size q l h =
    let begin : ℕ = q * (length cells / rows) + from in
    let fits : q * (length cells / rows) + from + size ≤ length cells = run_fits (length cells) rows from size q l h in
    length-take size (drop begin cells) ∙ rw (length-drop begin cells) (omega arith)

pub get_or-run_of : (cells : List Cell) (rows from size q j : ℕ) → j < size → get_or (run_of cells rows from size q) j Undef ≡ get_or cells (q * (length cells / rows) + from + j) Undef
unfolding run_of
get_or-run_of cells rows from size q j l =
    get_or-take size (drop (q * (length cells / rows) + from) cells) j Undef l ∙ get_or-drop (q * (length cells / rows) + from) cells j Undef

pub are_runs : (cells : List Cell) (rows from size : ℕ) → from + size ≤ length cells / rows → AreRows (run_of cells rows from size) 0 rows size
are_runs cells rows from size h = record {
  each = λ q l.
      let place : q ≡ 0 + q = omega arith in
      subst (λ k. length (run_of cells rows from size k) ≡ size) place (length-run_of cells rows from size q l h);
}

pub length-runs_of : (cells : List Cell) (rows from size : ℕ) → from + size ≤ length cells / rows → length (runs_of cells rows from size) ≡ rows * size
unfolding runs_of
length-runs_of cells rows from size h = length-rows (run_of cells rows from size) 0 rows size (are_runs cells rows from size h)

pub get_or-runs_of : (cells : List Cell) (rows from size q j : ℕ) → from + size ≤ length cells / rows → q < rows → j < size
    → get_or (runs_of cells rows from size) (q * size + j) Undef ≡ get_or cells (q * (length cells / rows) + from + j) Undef
unfolding runs_of
get_or-runs_of cells rows from size q j h l m =
    let place : 0 + q ≡ q = omega arith in
    get_or-rows (run_of cells rows from size) 0 rows size q j Undef (are_runs cells rows from size h) l m
    ∙ ap (λ k. get_or (run_of cells rows from size k) j Undef) place
    ∙ get_or-run_of cells rows from size q j m

-- the run of one row more
pub runs_step : (cells : List Cell) (rows from size at : ℕ) (out new : List Cell) → out ≡ flat_map (run_of cells rows from size) (range_with_len 0 at)
    → new ≡ out ++ take size (drop (at * (length cells / rows) + from) cells) → new ≡ flat_map (run_of cells rows from size) (range_with_len 0 (at + 1))
unfolding run_of
runs_step cells rows from size at out new h next = next ∙ ap (λ z. z ++ run_of cells rows from size at) h ∙ sym (rows-more (run_of cells rows from size) at)

pub runs_end : (cells : List Cell) (rows from size at : ℕ) (out : List Cell) → at ≡ rows → out ≡ flat_map (run_of cells rows from size) (range_with_len 0 at) → out ≡ runs_of cells rows from size
unfolding runs_of
runs_end cells rows from size at out e h = h ∙ ap (λ k. flat_map (run_of cells rows from size) (range_with_len 0 k)) e
