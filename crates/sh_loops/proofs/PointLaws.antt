-- Coordinates of points, and the indices that follow them.
use Rattle.std.proofs.Common.{◌≡◌, ℕ, zero, suc, ◌+◌, ◌*◌, ◌^◌, subst, append_assoc, ◌<◌, ◌≤◌, List, [], ◌∷◌, ◌++◌, length, get_or, take, drop, refl, ap, sym, ◌∙◌, arith, add-one}
use Rattle.std.specs.List.{All, sum_by}
use Rattle.std.proofs.lemmas.List.Sums.{sum-map, sum_by_more, sum_by-take-le}
use Rattle.std.proofs.lemmas.Nat.{row_fits}
use Rattle.sh_base.specs.Shape.{cell_count, IsIndexOf}
use Rattle.std.proofs.Math.Nat.{div-lt_iff_lt-mul}
use Rattle.std.specs.Prelude.{◌/◌}
use Rattle.sh_base.proofs.ShapeLaws.{IsIndexOf-some, is_digit}
use Rattle.sh_sem.specs.Nest.{index_at}
use Rattle.sh_loops.specs.Folds.{coordinate_of}

pub coordinate-none : (point loops : List ℕ) → 0 ≡ coordinate_of point (take 0 loops)
unfolding coordinate_of
coordinate-none point [] = refl
coordinate-none point (l ∷ loops) = refl

pub as_sum : (point loops : List ℕ) → coordinate_of point loops ≡ sum_by (λ l. get_or point l 0) loops
unfolding coordinate_of
as_sum point loops = sum-map (λ l. get_or point l 0) loops

-- one loop more
pub coordinate-more : (point loops : List ℕ) (i : ℕ) → i < length loops
    → coordinate_of point (take (i + 1) loops) ≡ coordinate_of point (take i loops) + get_or point (get_or loops i 0) 0
coordinate-more point loops i l =
    as_sum point (take (i + 1) loops) ∙ sum_by_more (λ k. get_or point k 0) loops i 0 l
    ∙ ap (λ z. z + get_or point (get_or loops i 0) 0) (sym (as_sum point (take i loops)))

pub coordinate-part : (point loops : List ℕ) (i : ℕ) → coordinate_of point (take i loops) ≤ coordinate_of point loops
coordinate-part point loops i = rw (as_sum point (take i loops), as_sum point loops) (sum_by-take-le (λ k. get_or point k 0) loops i)

pub index-more : (dims : List (List ℕ)) (point : List ℕ) (i : ℕ) (d : List ℕ) → i < length dims
    → index_at (drop i dims) point ≡ coordinate_of point (get_or dims i d) ∷ index_at (drop (i + 1) dims) point
unfolding coordinate_of
index-more [] point i d l = absurd (omega (arith, l))
index-more (k ∷ dims) point zero d l = refl
index-more (k ∷ dims) point (suc i) d l =
    let next : suc i + 1 ≡ suc (i + 1) = omega arith in
    index-more dims point i d (omega (arith, l))
    ∙ ap (λ n. coordinate_of point (get_or dims i d) ∷ index_at (drop n (k ∷ dims)) point) (sym next)

pub index-entry : (dims : List (List ℕ)) (point : List ℕ) (i e : ℕ) (d : List ℕ) → i < length dims → get_or (index_at dims point) i e ≡ coordinate_of point (get_or dims i d)
unfolding coordinate_of
index-entry [] point i e d l = absurd (omega (arith, l))
index-entry (k ∷ dims) point zero e d l = refl
index-entry (k ∷ dims) point (suc i) e d l = index-entry dims point i e d (omega (arith, l))

pub length-index_at : (dims : List (List ℕ)) (point : List ℕ) → length (index_at dims point) ≡ length dims
length-index_at [] point = refl
length-index_at (k ∷ dims) point = ap suc (length-index_at dims point)

-- the coordinate of one dimension
pub coordinate-small : (dims : List (List ℕ)) (point loops : List ℕ) (i : ℕ) (d : List ℕ) → i < length dims → loops ≡ get_or dims i d
    → All (λ k. k < 2 ^ 64) (index_at dims point) → coordinate_of point loops < 2 ^ 64
coordinate-small dims point loops i d l e small =
    subst (λ k. k < 2 ^ 64) (index-entry dims point i 0 d l ∙ ap (coordinate_of point) (sym e)) (small i 0 (rw (length-index_at dims point) l))

pub index-pushed : (dims : List (List ℕ)) (point loops done new : List ℕ) (i k : ℕ) (d : List ℕ) → i < length dims → loops ≡ get_or dims i d
    → k ≡ coordinate_of point loops → new ≡ done ++ k ∷ [] → done ++ index_at (drop i dims) point ≡ index_at dims point
    → new ++ index_at (drop (i + 1) dims) point ≡ index_at dims point
index-pushed dims point loops done new i k d l e is pushed h =
    ap (λ z. z ++ index_at (drop (i + 1) dims) point) pushed
    ∙ append_assoc done (k ∷ []) (index_at (drop (i + 1) dims) point)
    ∙ ap (λ z. done ++ z) (ap (λ n. n ∷ index_at (drop (i + 1) dims) point) (is ∙ ap (coordinate_of point) e) ∙ sym (index-more dims point i d l))
    ∙ h

-- an index of a shape of so many cells is small
pub index-small : (s i : List ℕ) (m : ℕ) → IsIndexOf s i → cell_count s ≤ m → All (λ k. k < m) i
index-small [] [] m h l k d below = absurd (omega (arith, below))
index-small [] (x ∷ i) m h l k d below = absurd h
index-small (n ∷ s) [] m h l k d below = absurd h
index-small (n ∷ s) (x ∷ i) m h l zero d below =
    let wide = row_fits 0 n (cell_count s) n (IsIndexOf-some s i h.1) (omega arith) in
    let same : cell_count s * n ≡ n * cell_count s = grind arith in
    omega (arith, h.0, l)
index-small (n ∷ s) (x ∷ i) m h l (suc k) d below =
    let wide = row_fits 0 (cell_count s) n (cell_count s) (omega (arith, h.0)) (omega arith) in
    index-small s i m h.1 (omega (arith, l)) k d (omega (arith, below))

-- the cells from a dimension on are its extent times those behind it
pub count_at : (ns : List ℕ) (k d : ℕ) → k < length ns → cell_count (drop k ns) ≡ get_or ns k d * cell_count (drop (suc k) ns)
count_at [] k d l = absurd (omega (arith, l))
count_at (n ∷ ns) zero d l = refl
count_at (n ∷ ns) (suc k) d l = count_at ns k d (omega (arith, l))

-- a coordinate is below its extent
pub digit_below : (ns : List ℕ) (i rest stride extent : ℕ) → i < length ns → stride ≡ cell_count (drop i ns) → rest < stride → extent ≡ get_or ns i 0 → rest / (stride / extent) < extent
digit_below ns i rest stride extent l is below size =
    let digit = is_digit ns i rest l (subst (λ n. rest < n) is below) in
    let c = cell_count (drop (i + 1) ns) in
    let next : stride / extent ≡ c = rw (is, size) digit.stride in
    let whole : stride ≡ extent * c = is ∙ count_at ns i 0 l ∙ ap (λ n. get_or ns i 0 * cell_count (drop n ns)) (sym (add-one i)) ∙ ap (λ n. n * c) (sym size) in
    rw next ((div-lt_iff_lt-mul {k = c} {x = rest} {y = extent} digit.some).1 (subst (λ n. rest < n) whole below))
