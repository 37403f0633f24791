-- Rows of points: their numbers, and how the numbers of cells go along them.
use Rattle.std.proofs.Common.{◌≡◌, ℕ, zero, suc, ◌+◌, ◌*◌, ◌-◌, ◌/◌, ◌%◌, ◌<◌, ◌≤◌, List, [], ◌∷◌, length, get_or, refl, ap, ap₂, sym, ◌∙◌, arith, subst}
use Rattle.std.specs.List.{sum_by}
use Rattle.std.proofs.lemmas.List.Sums.{sum-map, sum_by-cons}
use Rattle.std.proofs.lemmas.Nat.{div-mul-add, mod-mul-add, div-add-mod', mod_below}
use Rattle.std.proofs.Math.Nat.{mul-le-mul_right}
use Rattle.sh_base.specs.Shape.{cell_count, flat_of, unflat_of}
use Rattle.sh_sem.specs.Nest.{index_at}
use Rattle.sh_loops.specs.Rows.{HaveCells, apart, numbers_of, row_cells, row_length_of, with_last}
use Rattle.sh_loops.specs.Folds.{coordinate_of}
use Rattle.sh_loops.specs.Nests.{AreInside}
use Rattle.sh_loops.proofs.PointLaws.{as_sum}
use Rattle.sh_sem.specs.Nest.{input_cells}
use Rattle.sh_tensor.specs.Tensor.{IsHeld, TensorValue, at}
use Rattle.sh_ir.specs.Loops.{LoopMap}
use Rattle.sh_base.proofs.ShapeLaws.{flat_of-below}
use Rattle.sh_base.specs.declared.numbers.Cell.TheVariants.{Undef}
use Rattle.std.specs.Prelude.{min, set}
use Rattle.std.specs.List.{All}

-- ---- the points of a row

-- how many rows lie under each index of the first loop
abbrev fronts_of : List ℕ → ℕ
fronts_of [] = 1
fronts_of (n ∷ []) = 1
fronts_of (n ∷ m ∷ ns) = n * fronts_of (m ∷ ns)

rows_whole : (ns : List ℕ) → cell_count ns ≡ fronts_of ns * row_length_of ns
rows_whole [] = omega arith
rows_whole (n ∷ []) = omega arith
rows_whole (n ∷ m ∷ ns) = let e = rows_whole (m ∷ ns) in rw e (grind arith)

first_row : (r n k : ℕ) → k < n → r * n + k < n * 1 → (r * n + k) / 1 ≡ k
first_row zero n k l h = omega arith
first_row (suc r) n k l h = absurd (omega (arith, h))

factor_some : (a b k : ℕ) → k < a * b → 0 < a
factor_some zero b k l = absurd (omega (arith, l))
factor_some (suc a) b k l = omega arith

rest_some : (m c k : ℕ) → k < m * c → 0 < c
rest_some m zero k l = absurd (omega (arith, l))
rest_some m (suc c) k l = omega arith

spread : (q c d n : ℕ) → (q * c + d) * n ≡ q * (c * n) + d * n
spread q c d n = grind arith

exchange : (a b k u v : ℕ) → (a + k * u) + (b + k * v) ≡ (a + b) + k * (u + v)
exchange a b k u v = grind arith

gathered_strides : (a c f k u v : ℕ) → (a + k * u) * c + (f + k * v) ≡ (a * c + f) + k * (u * c + v)
gathered_strides a c f k u v = grind arith

add_nothing : (a b : ℕ) → a ≡ a + 0 * b
add_nothing a b = omega arith

one_step : (a b : ℕ) → (a + 1 * b) - a ≡ b
one_step a b = omega arith

two_digits : (ns : List ℕ) (x q b : ℕ) → x ≡ q * cell_count ns + b → b < cell_count ns → (x / cell_count ns) ∷ unflat_of ns (x % cell_count ns) ≡ q ∷ unflat_of ns b
two_digits ns x q b e l =
    ap₂ (λ y z. y ∷ unflat_of ns z)
    (ap (λ y. y / cell_count ns) e ∙ div-mul-add q (cell_count ns) b l)
    (ap (λ y. y % cell_count ns) e ∙ mod-mul-add q (cell_count ns) b l)

held_count : (t : TensorValue) → IsHeld t → length t.cells ≡ cell_count t.shape
held_count t h = h.whole.counted

-- the row's point with number k differs from its first in the last coordinate alone
pub row_point : (ns : List ℕ) (r k : ℕ) → k < row_length_of ns → r * row_length_of ns + k < cell_count ns
    → unflat_of ns (r * row_length_of ns + k) ≡ with_last (unflat_of ns (r * row_length_of ns)) k
row_point [] r k l h = refl
row_point (n ∷ []) r k l h = ap (λ z. z ∷ []) (first_row r n k l h)
row_point (m ∷ n ∷ ns) r k l h =
    let whole = rows_whole (n ∷ ns) in
    let c = fronts_of (n ∷ ns) in
    let long = row_length_of (n ∷ ns) in
    let some : 0 < c = factor_some c long 0 (subst (λ z. 0 < z) whole (rest_some m (cell_count (n ∷ ns)) (r * long + k) h)) in
    let below = mod_below r c some in
    let step : r % c + 1 ≤ c = omega (arith, below) in
    let room : (r % c + 1) * long ≤ c * long = mul-le-mul_right long step in
    let fits : r % c * long + k < cell_count (n ∷ ns) = omega (arith, room, whole, l) in
    let first_fits : r % c * long < cell_count (n ∷ ns) = omega (arith, fits) in
    let split : r * long ≡ r / c * cell_count (n ∷ ns) + r % c * long = ap (λ z. z * long) (sym (div-add-mod' r c)) ∙ spread (r / c) c (r % c) long ∙ ap (λ z. r / c * z + r % c * long) (sym whole) in
    let split_k : r * long + k ≡ r / c * cell_count (n ∷ ns) + (r % c * long + k) = omega (arith, split) in
    two_digits (n ∷ ns) (r * long + k) (r / c) (r % c * long + k) split_k fits
    ∙ ap (λ z. r / c ∷ z) (row_point (n ∷ ns) (r % c) k l fits)
    ∙ sym (ap (λ z. with_last z k) (two_digits (n ∷ ns) (r * long) (r / c) (r % c * long) split first_fits))

-- ---- how numbers go along a row

-- whether a loop is the innermost: 1 or 0
abbrev innermost : List ℕ → ℕ → ℕ
innermost [] l = 0
innermost (n ∷ []) zero = 1
innermost (n ∷ []) (suc l) = 0
innermost (n ∷ m ∷ ns) zero = 0
innermost (n ∷ m ∷ ns) (suc l) = innermost (m ∷ ns) l

entry_moved : (ns : List ℕ) (x k l : ℕ) → get_or (with_last (unflat_of ns x) k) l 0 ≡ get_or (with_last (unflat_of ns x) 0) l 0 + k * innermost ns l
entry_moved [] x k l = omega arith
entry_moved (n ∷ []) x k zero = omega arith
entry_moved (n ∷ []) x k (suc l) = omega arith
entry_moved (n ∷ m ∷ ns) x k zero = omega arith
entry_moved (n ∷ m ∷ ns) x k (suc l) = entry_moved (m ∷ ns) (x % cell_count (m ∷ ns)) k l

-- how often the innermost loop is among these
abbrev times : List ℕ → List ℕ → ℕ
times ns [] = 0
times ns (l ∷ loops) = innermost ns l + times ns loops

sum_moved : (ns loops : List ℕ) (x k : ℕ)
    → sum_by (λ l. get_or (with_last (unflat_of ns x) k) l 0) loops ≡ sum_by (λ l. get_or (with_last (unflat_of ns x) 0) l 0) loops + k * times ns loops
sum_moved ns [] x k = omega arith
sum_moved ns (l ∷ loops) x k =
    let one = entry_moved ns x k l in
    let rest = sum_moved ns loops x k in
    sum_by-cons (λ l. get_or (with_last (unflat_of ns x) k) l 0) l loops
    ∙ ap₂ (λ a b. a + b) one rest
    ∙ exchange (get_or (with_last (unflat_of ns x) 0) l 0) (sum_by (λ l. get_or (with_last (unflat_of ns x) 0) l 0) loops) k (innermost ns l) (times ns loops)
    ∙ ap (λ z. z + k * times ns (l ∷ loops)) (sym (sum_by-cons (λ l. get_or (with_last (unflat_of ns x) 0) l 0) l loops))

coordinate_moved : (ns loops : List ℕ) (x k : ℕ) → coordinate_of (with_last (unflat_of ns x) k) loops ≡ coordinate_of (with_last (unflat_of ns x) 0) loops + k * times ns loops
coordinate_moved ns loops x k =
    as_sum (with_last (unflat_of ns x) k) loops ∙ sum_moved ns loops x k
    ∙ ap (λ z. z + k * times ns loops) (sym (as_sum (with_last (unflat_of ns x) 0) loops))

-- how far the number of an operand's cell goes a step along a row: the strides of the dimensions that follow the innermost loop
abbrev stride_of : List ℕ → List ℕ → LoopMap → ℕ
stride_of ns [] dims = 0
stride_of ns (n ∷ s) [] = 0
stride_of ns (n ∷ s) (loops ∷ dims) = times ns loops * cell_count s + stride_of ns s dims

number_moved : (ns s : List ℕ) (dims : LoopMap) (x k : ℕ)
    → flat_of s (index_at dims (with_last (unflat_of ns x) k)) ≡ flat_of s (index_at dims (with_last (unflat_of ns x) 0)) + k * stride_of ns s dims
unfolding coordinate_of
number_moved ns [] dims x k = omega arith
number_moved ns (n ∷ s) [] x k = omega arith
number_moved ns (n ∷ s) (loops ∷ dims) x k =
    ap₂ (λ a b. a * cell_count s + b) (coordinate_moved ns loops x k) (number_moved ns s dims x k)
    ∙ gathered_strides (coordinate_of (with_last (unflat_of ns x) 0) loops) (cell_count s) (flat_of s (index_at dims (with_last (unflat_of ns x) 0))) k (times ns loops) (stride_of ns s dims)

-- ---- the numbers of a row, by those of two points

number_by_stride : (ns s : List ℕ) (dims : LoopMap) (r k : ℕ) → k < row_length_of ns → r * row_length_of ns + k < cell_count ns
    → flat_of s (index_at dims (unflat_of ns (r * row_length_of ns + k))) ≡ flat_of s (index_at dims (unflat_of ns (r * row_length_of ns))) + k * stride_of ns s dims
number_by_stride ns s dims r k l h =
    let none : r * row_length_of ns + 0 ≡ r * row_length_of ns = omega arith in
    ap (λ p. flat_of s (index_at dims p)) (row_point ns r k l h)
    ∙ number_moved ns s dims (r * row_length_of ns) k
    ∙ ap (λ p. flat_of s (index_at dims p) + k * stride_of ns s dims)
    (sym (row_point ns r 0 (omega (arith, l)) (omega (arith, h))) ∙ ap (unflat_of ns) none)

pub number_along : (ns s : List ℕ) (dims : LoopMap) (r k next : ℕ) → k < row_length_of ns → r * row_length_of ns + k < cell_count ns
    → row_length_of ns ≤ cell_count ns → next ≡ min (row_length_of ns - 1) 1
    → flat_of s (index_at dims (unflat_of ns (r * row_length_of ns + k)))
    ≡ flat_of s (index_at dims (unflat_of ns (r * row_length_of ns))) + k * (flat_of s (index_at dims (unflat_of ns next)) - flat_of s (index_at dims (unflat_of ns 0)))
number_along ns s dims r zero next l h some e =
    let none : r * row_length_of ns + 0 ≡ r * row_length_of ns = omega arith in
    ap (λ x. flat_of s (index_at dims (unflat_of ns x))) none
    ∙ add_nothing (flat_of s (index_at dims (unflat_of ns (r * row_length_of ns)))) (flat_of s (index_at dims (unflat_of ns next)) - flat_of s (index_at dims (unflat_of ns 0)))
number_along ns s dims r (suc k) next l h some e =
    let one : next ≡ 0 * row_length_of ns + 1 = omega (arith, e, l) in
    let first : 0 * row_length_of ns ≡ 0 = omega arith in
    let at_one = number_by_stride ns s dims 0 1 (omega (arith, l)) (omega (arith, l, some)) in
    let stride : flat_of s (index_at dims (unflat_of ns next)) - flat_of s (index_at dims (unflat_of ns 0)) ≡ stride_of ns s dims =
    ap₂ (λ a b. flat_of s (index_at dims (unflat_of ns a)) - flat_of s (index_at dims (unflat_of ns b))) one (sym first)
    ∙ ap (λ z. z - flat_of s (index_at dims (unflat_of ns (0 * row_length_of ns)))) at_one
    ∙ one_step (flat_of s (index_at dims (unflat_of ns (0 * row_length_of ns)))) (stride_of ns s dims) in
    number_by_stride ns s dims r (suc k) l h
    ∙ ap (λ z. flat_of s (index_at dims (unflat_of ns (r * row_length_of ns))) + suc k * z) (sym stride)

-- ---- the cells of the inputs

pub row_gathered : (ns : List ℕ) (maps : List LoopMap) (ts : List TensorValue) (r k next : ℕ) → k < row_length_of ns → r * row_length_of ns + k < cell_count ns
    → row_length_of ns ≤ cell_count ns → next ≡ min (row_length_of ns - 1) 1
    → input_cells maps ts (unflat_of ns (r * row_length_of ns + k))
    ≡ row_cells ts (numbers_of maps ts (unflat_of ns (r * row_length_of ns))) (apart (numbers_of maps ts (unflat_of ns next)) (numbers_of maps ts (unflat_of ns 0))) k
unfolding at
row_gathered ns [] [] r k next l h some e = refl
row_gathered ns [] (t ∷ ts) r k next l h some e = refl
row_gathered ns (dims ∷ maps) [] r k next l h some e = refl
row_gathered ns (dims ∷ maps) (t ∷ ts) r k next l h some e =
    ap₂ (λ n cs. get_or t.cells n Undef ∷ cs) (number_along ns t.shape dims r k next l h some e) (row_gathered ns maps ts r k next l h some e)

pub row_there : (ns : List ℕ) (maps : List LoopMap) (ts : List TensorValue) (r k next : ℕ) → k < row_length_of ns → r * row_length_of ns + k < cell_count ns
    → row_length_of ns ≤ cell_count ns → next ≡ min (row_length_of ns - 1) 1 → AreInside maps ts (unflat_of ns (r * row_length_of ns + k))
    → All IsHeld ts
    → HaveCells ts (numbers_of maps ts (unflat_of ns (r * row_length_of ns))) (apart (numbers_of maps ts (unflat_of ns next)) (numbers_of maps ts (unflat_of ns 0))) k
row_there ns [] [] r k next l h some e inside whole = tt
row_there ns [] (t ∷ ts) r k next l h some e inside whole = absurd inside
row_there ns (dims ∷ maps) [] r k next l h some e inside whole = absurd inside
row_there ns (dims ∷ maps) (t ∷ ts) r k next l h some e inside whole = (
  subst (λ n. n < length t.cells) (number_along ns t.shape dims r k next l h some e)
      (subst (λ n. flat_of t.shape (index_at dims (unflat_of ns (r * row_length_of ns + k))) < n) (sym (held_count t (whole 0 t (omega arith)))) (flat_of-below t.shape (index_at dims (unflat_of ns (r * row_length_of ns + k))) inside.0)),
  row_there ns maps ts r k next l h some e inside.1 (λ i d below. whole (suc i) d (omega (arith, below))),
)

-- ---- rows and all points

pub row_some : (ns : List ℕ) → 0 < cell_count ns → 0 < row_length_of ns
row_some [] h = omega arith
row_some (n ∷ []) h = factor_some n 1 0 h
row_some (n ∷ m ∷ ns) h = row_some (m ∷ ns) (rest_some n (cell_count (m ∷ ns)) 0 h)

pub row_within : (ns : List ℕ) → 0 < cell_count ns → row_length_of ns ≤ cell_count ns
row_within ns h =
    let whole = rows_whole ns in
    let some = factor_some (fronts_of ns) (row_length_of ns) 0 (subst (λ z. 0 < z) whole h) in
    let least : 1 * row_length_of ns ≤ fronts_of ns * row_length_of ns = mul-le-mul_right (row_length_of ns) some in
    omega (arith, whole, least)

pub next_below : (ns : List ℕ) → 0 < cell_count ns → min (row_length_of ns - 1) 1 < cell_count ns
next_below ns h = let some = row_some ns h in let within = row_within ns h in omega (arith, some, within)

so_many : (q n : ℕ) → 0 < n → q * n / n ≡ q
so_many q n some = let e : q * n ≡ q * n + 0 = omega arith in ap (λ z. z / n) e ∙ div-mul-add q n 0 some

-- the rows have all points
pub rows_all : (ns : List ℕ) → 0 < cell_count ns → cell_count ns / row_length_of ns * row_length_of ns ≡ cell_count ns
rows_all ns h =
    let whole = rows_whole ns in
    let some = row_some ns h in
    ap (λ c. c / row_length_of ns * row_length_of ns) whole
    ∙ ap (λ q. q * row_length_of ns) (so_many (fronts_of ns) (row_length_of ns) some)
    ∙ sym whole

pub row_inside : (r rows n count : ℕ) → r < rows → rows * n ≡ count → r * n + n ≤ count
row_inside r rows n count l e =
    let step : r + 1 ≤ rows = omega (arith, l) in
    let room : (r + 1) * n ≤ rows * n = mul-le-mul_right n step in
    omega (arith, room, e)

-- ---- the last coordinate

pub with_last_again : (p : List ℕ) (j k : ℕ) → with_last (with_last p j) k ≡ with_last p k
with_last_again [] j k = refl
with_last_again (x ∷ []) j k = refl
with_last_again (x ∷ y ∷ p) j k = again (with_last (y ∷ p) j) y p j k (with_last_again (y ∷ p) j k)
  where
    again : (q : List ℕ) (y : ℕ) (p : List ℕ) (j k : ℕ) → with_last (with_last (y ∷ p) j) k ≡ with_last (y ∷ p) k → with_last (x ∷ with_last (y ∷ p) j) k ≡ x ∷ with_last (y ∷ p) k
    again q y [] j k e = refl
    again q y (z ∷ p) j k e = ap (λ r. x ∷ r) e

pub with_last_set : (p : List ℕ) (k : ℕ) → 0 < length p → set p (length p - 1) k ≡ with_last p k
with_last_set [] k l = refl
with_last_set (x ∷ []) k l = refl
with_last_set (x ∷ y ∷ p) k l =
    let at : length (x ∷ y ∷ p) - 1 ≡ suc (length (y ∷ p) - 1) = omega arith in
    ap (λ i. set (x ∷ y ∷ p) i k) at ∙ ap (λ r. x ∷ r) (with_last_set (y ∷ p) k (omega arith))

pub length_of_last : (ns : List ℕ) (d : ℕ) → 0 < length ns → get_or ns (length ns - 1) d ≡ row_length_of ns
length_of_last [] d l = absurd (omega (arith, l))
length_of_last (n ∷ []) d l = refl
length_of_last (n ∷ m ∷ ns) d l =
    let at : length (n ∷ m ∷ ns) - 1 ≡ suc (length (m ∷ ns) - 1) = omega arith in
    ap (λ i. get_or (n ∷ m ∷ ns) i d) at ∙ length_of_last (m ∷ ns) d (omega arith)
