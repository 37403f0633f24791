-- An index apart from its entry on one axis: row-major numbers, and what changes with that entry.
use Rattle.std.proofs.Common.{◌≡◌, ℕ, zero, suc, ◌+◌, ◌*◌, ◌/◌, ◌%◌, ◌<◌, ◌≤◌, List, [], ◌∷◌, length, take, drop, get_or, set, refl, ap, sym, ◌∙◌, arith, subst}
use Rattle.std.proofs.lemmas.List.{get_or-set_same, set-get_or}
use Rattle.std.proofs.lemmas.Nat.{div-mul-add, mod-mul-add, mul-le}
use Rattle.std.proofs.Math.Nat.{mul-le-mul_left}
use Rattle.std.specs.List.{All}
use Rattle.sh_base.specs.Shape.{cell_count, IsIndexOf, flat_of, unflat_of}
use Rattle.sh_base.proofs.ShapeLaws.{flat_of-below, IsIndexOf-take, unflat_of-within, flat_of-unflat_of}

pub length-unflat_of : (s : List ℕ) (k : ℕ) → length (unflat_of s k) ≡ length s
length-unflat_of [] k = refl
length-unflat_of (n ∷ s) k = ap (λ x. suc x) (length-unflat_of s (k % cell_count s))

-- each entry lies below its extent
pub IsIndexOf-entry : (s i : List ℕ) (a : ℕ) → IsIndexOf s i → a < length s → get_or i a 0 < get_or s a 0
IsIndexOf-entry [] i a h l = absurd (omega arith)
IsIndexOf-entry (n ∷ s) [] a h l = absurd h
IsIndexOf-entry (n ∷ s) (x ∷ i) zero h l = h.0
IsIndexOf-entry (n ∷ s) (x ∷ i) (suc a) h l = IsIndexOf-entry s i a h.1 (omega arith)

pub IsIndexOf-drop : (s i : List ℕ) (d : ℕ) → IsIndexOf s i → IsIndexOf (drop d s) (drop d i)
IsIndexOf-drop s i zero h = h
IsIndexOf-drop [] [] (suc d) h = tt
IsIndexOf-drop [] (x ∷ i) (suc d) h = absurd h
IsIndexOf-drop (n ∷ s) [] (suc d) h = absurd h
IsIndexOf-drop (n ∷ s) (x ∷ i) (suc d) h = IsIndexOf-drop s i d h.1

-- an index with another entry, in the shape with another extent
pub IsIndexOf-set : (s i : List ℕ) (a q n : ℕ) → IsIndexOf s i → q < n → IsIndexOf (set s a n) (set i a q)
IsIndexOf-set [] [] a q m h l = tt
IsIndexOf-set [] (x ∷ i) a q m h l = absurd h
IsIndexOf-set (n ∷ s) [] a q m h l = absurd h
IsIndexOf-set (n ∷ s) (x ∷ i) zero q m h l = (l, h.1)
IsIndexOf-set (n ∷ s) (x ∷ i) (suc a) q m h l = (h.0, IsIndexOf-set s i a q m h.1 l)

pub IsIndexOf-set_entry : (s i : List ℕ) (a q : ℕ) → IsIndexOf s i → q < get_or s a 0 → IsIndexOf s (set i a q)
IsIndexOf-set_entry s i a q h l = subst (λ s'. IsIndexOf s' (set i a q)) (set-get_or s a 0) (IsIndexOf-set s i a q (get_or s a 0) h l)

pub cell_count-split : (s : List ℕ) (a : ℕ) → a < length s → cell_count s ≡ cell_count (take a s) * get_or s a 0 * cell_count (drop (suc a) s)
cell_count-split [] a l = absurd (omega arith)
cell_count-split (n ∷ s) zero l = omega arith
cell_count-split (n ∷ s) (suc a) l =
    let rec : cell_count s ≡ cell_count (take a s) * get_or s a 0 * cell_count (drop (suc a) s) = cell_count-split s a (omega arith) in
    rw rec (omega arith)

-- the row-major number by the entries before the axis, on it and after it
pub flat_of-split : (s i : List ℕ) (a : ℕ) → IsIndexOf s i → a < length s
    → flat_of s i ≡ (flat_of (take a s) (take a i) * get_or s a 0 + get_or i a 0) * cell_count (drop (suc a) s) + flat_of (drop (suc a) s) (drop (suc a) i)
flat_of-split [] i a h l = absurd (omega arith)
flat_of-split (n ∷ s) [] a h l = absurd h
flat_of-split (n ∷ s) (x ∷ i) zero h l = omega arith
flat_of-split (n ∷ s) (x ∷ i) (suc a) h l =
    let less : a < length s = omega arith in
    let rec = flat_of-split s i a h.1 less in
    let count = cell_count-split s a less in
    rw (rec, count) (omega arith)

pub flat_of-before_below : (s i : List ℕ) (a : ℕ) → IsIndexOf s i → flat_of (take a s) (take a i) < cell_count (take a s)
flat_of-before_below s i a h = flat_of-below (take a s) (take a i) (IsIndexOf-take s i a h)

pub flat_of-after_below : (s i : List ℕ) (a : ℕ) → IsIndexOf s i → flat_of (drop (suc a) s) (drop (suc a) i) < cell_count (drop (suc a) s)
flat_of-after_below s i a h = flat_of-below (drop (suc a) s) (drop (suc a) i) (IsIndexOf-drop s i (suc a) h)

pub take-set_same : (i : List ℕ) (a q : ℕ) → take a (set i a q) ≡ take a i
take-set_same [] a q = refl
take-set_same (x ∷ i) zero q = refl
take-set_same (x ∷ i) (suc a) q = ap (λ z. x ∷ z) (take-set_same i a q)

pub drop-set_same : (i : List ℕ) (a q : ℕ) → drop (suc a) (set i a q) ≡ drop (suc a) i
drop-set_same [] a q = refl
drop-set_same (x ∷ i) zero q = refl
drop-set_same (x ∷ i) (suc a) q = drop-set_same i a q

length-set_same : (i : List ℕ) (a q : ℕ) → length (set i a q) ≡ length i
length-set_same [] a q = refl
length-set_same (x ∷ i) zero q = refl
length-set_same (x ∷ i) (suc a) q = ap (λ z. suc z) (length-set_same i a q)

pub IsIndexOf-long : (s i : List ℕ) (a : ℕ) → IsIndexOf s i → a < length s → a < length i
IsIndexOf-long [] i a h l = absurd (omega arith)
IsIndexOf-long (n ∷ s) [] a h l = absurd h
IsIndexOf-long (n ∷ s) (x ∷ i) zero h l = omega arith
IsIndexOf-long (n ∷ s) (x ∷ i) (suc a) h l = let rec = IsIndexOf-long s i a h.1 (omega arith) in omega arith

-- the count with another extent on the axis
pub cell_count-set : (s : List ℕ) (a n : ℕ) → a < length s → cell_count (set s a n) ≡ cell_count (take a s) * n * cell_count (drop (suc a) s)
cell_count-set s a n l =
    let long : a < length (set s a n) = rw (length-set_same s a n) l in
    cell_count-split (set s a n) a long ∙ rw (take-set_same s a n, drop-set_same s a n, get_or-set_same s a n 0 l) refl

-- the same with another extent and another entry on the axis
pub flat_of-set : (s i : List ℕ) (a q n : ℕ) → IsIndexOf s i → a < length s → q < n
    → flat_of (set s a n) (set i a q) ≡ (flat_of (take a s) (take a i) * n + q) * cell_count (drop (suc a) s) + flat_of (drop (suc a) s) (drop (suc a) i)
flat_of-set s i a q n h l lt =
    let long : a < length (set s a n) = rw (length-set_same s a n) l in
    let there : a < length i = IsIndexOf-long s i a h l in
    let split = flat_of-split (set s a n) (set i a q) a (IsIndexOf-set s i a q n h lt) long in
    split ∙ rw (take-set_same s a n, take-set_same i a q, drop-set_same s a n, drop-set_same i a q, get_or-set_same s a n 0 l, get_or-set_same i a q 0 there) refl

-- how far the number moves with the entry
pub flat_of-moved : (s i : List ℕ) (a q : ℕ) → IsIndexOf s i → a < length s → q < get_or s a 0
    → flat_of s (set i a q) + get_or i a 0 * cell_count (drop (suc a) s) ≡ flat_of s i + q * cell_count (drop (suc a) s)
flat_of-moved s i a q h l lt =
    let same = set-get_or s a 0 in
    let moved : flat_of s (set i a q) ≡ (flat_of (take a s) (take a i) * get_or s a 0 + q) * cell_count (drop (suc a) s) + flat_of (drop (suc a) s) (drop (suc a) i) =
    sym (ap (λ s'. flat_of s' (set i a q)) same) ∙ flat_of-set s i a q (get_or s a 0) h l lt in
    rw (moved, flat_of-split s i a h l) (omega arith)

-- an entry of the index with a number, by its stride
pub get_or-unflat_of : (s : List ℕ) (k a : ℕ) → k < cell_count s → a < length s
    → get_or (unflat_of s k) a 0 ≡ k / cell_count (drop (suc a) s) % get_or s a 0
get_or-unflat_of s k a h l =
    let i = unflat_of s k in
    let within = unflat_of-within s k h in
    let before = flat_of (take a s) (take a i) in
    let split : k ≡ (before * get_or s a 0 + get_or i a 0) * cell_count (drop (suc a) s) + flat_of (drop (suc a) s) (drop (suc a) i) =
    sym (flat_of-unflat_of s k h) ∙ flat_of-split s i a within l in
    let quotient = div-mul-add (before * get_or s a 0 + get_or i a 0) (cell_count (drop (suc a) s)) (flat_of (drop (suc a) s) (drop (suc a) i)) (flat_of-after_below s i a within) in
    let remainder = mod-mul-add before (get_or s a 0) (get_or i a 0) (IsIndexOf-entry s i a within l) in
    sym (ap (λ z. z / cell_count (drop (suc a) s) % get_or s a 0) split ∙ ap (λ z. z % get_or s a 0) quotient ∙ remainder)

-- ---- counts that aren't 0

pub cell_count-some : (s : List ℕ) → All (λ n. 0 < n) s → 0 < cell_count s
cell_count-some [] h = omega arith
cell_count-some (n ∷ s) h =
    let first : 0 < n = h 0 0 (omega arith) in
    let rec : 0 < cell_count s = cell_count-some s (λ k d l. h (suc k) d (omega arith)) in
    let least : 1 * 1 ≤ n * cell_count s = mul-le 1 1 n (cell_count s) (omega arith) (omega arith) in
    omega arith

pub first_some : (n c : ℕ) → 0 < n * c → 0 < n
first_some zero c h = absurd (omega arith)
first_some (suc n) c h = omega arith

pub rest_some : (n c : ℕ) → 0 < n * c → 0 < c
rest_some n zero h = absurd (omega arith)
rest_some n (suc c) h = omega arith

pub extents_some : (s : List ℕ) → 0 < cell_count s → All (λ n. 0 < n) s
extents_some [] h k d l = absurd (omega arith)
extents_some (n ∷ s) h zero d l = first_some n (cell_count s) h
extents_some (n ∷ s) h (suc k) d l = extents_some s (rest_some n (cell_count s) h) k d (omega arith)

pub cell_count-drop_some : (s : List ℕ) (d : ℕ) → 0 < cell_count s → 0 < cell_count (drop d s)
cell_count-drop_some s zero h = h
cell_count-drop_some [] (suc d) h = h
cell_count-drop_some (n ∷ s) (suc d) h = cell_count-drop_some s d (rest_some n (cell_count s) h)

pub cell_count-drop_le : (s : List ℕ) (d : ℕ) → 0 < cell_count s → cell_count (drop d s) ≤ cell_count s
cell_count-drop_le s zero h = omega arith
cell_count-drop_le [] (suc d) h = omega arith
cell_count-drop_le (n ∷ s) (suc d) h =
    let first = first_some n (cell_count s) h in
    let rec = cell_count-drop_le s d (rest_some n (cell_count s) h) in
    let more : 1 * cell_count s ≤ n * cell_count s = mul-le 1 (cell_count s) n (cell_count s) (omega arith) (omega arith) in
    omega arith

pub cell_count-front_some : (s : List ℕ) (d : ℕ) → 0 < cell_count s → 0 < cell_count (take d s)
cell_count-front_some s zero h = omega arith
cell_count-front_some [] (suc d) h = h
cell_count-front_some (n ∷ s) (suc d) h =
    let first = first_some n (cell_count s) h in
    let rec = cell_count-front_some s d (rest_some n (cell_count s) h) in
    let least : 1 * 1 ≤ n * cell_count (take d s) = mul-le 1 1 n (cell_count (take d s)) (omega arith) (omega arith) in
    omega arith

pub cell_count-front_le : (s : List ℕ) (d : ℕ) → 0 < cell_count s → cell_count (take d s) ≤ cell_count s
cell_count-front_le s zero h = omega arith
cell_count-front_le [] (suc d) h = omega arith
cell_count-front_le (n ∷ s) (suc d) h = mul-le-mul_left n (cell_count-front_le s d (rest_some n (cell_count s) h))
