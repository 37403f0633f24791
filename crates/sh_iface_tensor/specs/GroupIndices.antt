-- Groups of dimensions that are split along their first: an index under one dimension a group, and
-- the index of the same cell under all dimensions.
use Rattle.std.proofs.Common.{ap₂, ◌≡◌, ℕ, zero, suc, ◌+◌, ◌*◌, ◌<◌, ◌/◌, ◌%◌, List, [], ◌∷◌, ◌++◌, length, refl, ap, ◌∙◌, arith}
use Rattle.std.proofs.lemmas.Nat.{div-add-mod', div_below, mod_below}
use Rattle.sh_base.specs.Shape.{IsIndexOf, cell_count, flat_of, unflat_of}
use Rattle.sh_base.proofs.IndexLaws.{length-unflat_of}
use Rattle.sh_base.proofs.ShapeLaws.{flat_of-unflat_of, unflat_of-within}

-- a group on a device: of its first dimension a part, of the others all
pub record GroupPart : Type 0 where
  pub whole : ℕ
  pub start : ℕ
  pub local : ℕ
  pub others : List ℕ

abbrev pub stride_of : GroupPart → ℕ
stride_of p = cell_count p.others

abbrev pub many_local : List GroupPart → List ℕ
many_local [] = []
many_local (p ∷ ps) = (p.local ∷ p.others) ++ many_local ps

abbrev pub few_local : List GroupPart → List ℕ
few_local [] = []
few_local (p ∷ ps) = p.local * stride_of p ∷ few_local ps

abbrev pub many_whole : List GroupPart → List ℕ
many_whole [] = []
many_whole (p ∷ ps) = (p.whole ∷ p.others) ++ many_whole ps

abbrev pub few_whole : List GroupPart → List ℕ
few_whole [] = []
few_whole (p ∷ ps) = p.whole * stride_of p ∷ few_whole ps

-- the local index under all dimensions
abbrev pub parted : List GroupPart → List ℕ → List ℕ
parted [] i = []
parted (p ∷ ps) [] = []
parted (p ∷ ps) (x ∷ i) = (x / stride_of p ∷ unflat_of p.others (x % stride_of p)) ++ parted ps i

-- the index of the whole, under all dimensions and under one a group
abbrev pub many_moved : List GroupPart → List ℕ → List ℕ
many_moved [] i = []
many_moved (p ∷ ps) [] = []
many_moved (p ∷ ps) (x ∷ i) =
    ((p.start + x / stride_of p) ∷ unflat_of p.others (x % stride_of p)) ++ many_moved ps i

abbrev pub few_moved : List GroupPart → List ℕ → List ℕ
few_moved [] i = []
few_moved (p ∷ ps) [] = []
few_moved (p ∷ ps) (x ∷ i) = (p.start * stride_of p + x) ∷ few_moved ps i

-- ---- lists that are joined

times_sum : (a b c : ℕ) → a * (b * c) ≡ a * b * c
times_sum a b c = grind arith

pub cells_joined : (ns ms : List ℕ) → cell_count (ns ++ ms) ≡ cell_count ns * cell_count ms
cells_joined [] ms = omega arith
cells_joined (n ∷ ns) ms = ap (λ k. n * k) (cells_joined ns ms) ∙ times_sum n (cell_count ns) (cell_count ms)

joined_sum : (i a b c d : ℕ) → i * (a * b) + (c * b + d) ≡ (i * a + c) * b + d
joined_sum i a b c d = grind arith

pub flat_joined : (ns ms is js : List ℕ) → length is ≡ length ns → flat_of (ns ++ ms) (is ++ js) ≡ flat_of ns is * cell_count ms + flat_of ms js
flat_joined [] ms [] js e = omega arith
flat_joined [] ms (i ∷ is) js e = absurd (omega (arith, e))
flat_joined (n ∷ ns) ms [] js e = absurd (omega (arith, e))
flat_joined (n ∷ ns) ms (i ∷ is) js e =
    ap₂ (λ a b. i * a + b) (cells_joined ns ms) (flat_joined ns ms is js (omega (arith, e)))
    ∙ joined_sum i (cell_count ns) (cell_count ms) (flat_of ns is) (flat_of ms js)

pub index_joined : (ns ms is js : List ℕ) → IsIndexOf ns is → IsIndexOf ms js → IsIndexOf (ns ++ ms) (is ++ js)
index_joined [] ms [] js a b = b
index_joined [] ms (i ∷ is) js a b = absurd a
index_joined (n ∷ ns) ms [] js a b = absurd a
index_joined (n ∷ ns) ms (i ∷ is) js a b = (a.0, index_joined ns ms is js a.1 b)

-- ---- the same cell

pub cells_alike : (ps : List GroupPart) → cell_count (many_local ps) ≡ cell_count (few_local ps)
cells_alike [] = refl
cells_alike (p ∷ ps) = cells_joined (p.local ∷ p.others) (many_local ps) ∙ ap (λ k. p.local * stride_of p * k) (cells_alike ps)

cells_of_whole : (ps : List GroupPart) → cell_count (many_whole ps) ≡ cell_count (few_whole ps)
cells_of_whole [] = refl
cells_of_whole (p ∷ ps) = cells_joined (p.whole ∷ p.others) (many_whole ps) ∙ ap (λ k. p.whole * stride_of p * k) (cells_of_whole ps)

some_stride : (a r x : ℕ) → x < a * r → 0 < r
some_stride a zero x l = absurd (let none : a * 0 ≡ 0 = omega arith in omega (arith, none, l))
some_stride a (suc r) x l = omega arith

counted : (p : GroupPart) (first x : ℕ) → length (first ∷ unflat_of p.others (x % stride_of p)) ≡ length (p.local ∷ p.others)
counted p first x = ap suc (length-unflat_of p.others (x % stride_of p))

whole_step : (s a r y : ℕ) → (s + a) * r + y ≡ s * r + (a * r + y)
whole_step s a r y = grind arith

-- within one group
one_flat : (p : GroupPart) (x : ℕ) → x < p.local * stride_of p → flat_of (p.local ∷ p.others) (x / stride_of p ∷ unflat_of p.others (x % stride_of p)) ≡ x
one_flat p x l =
    let below : x % stride_of p < stride_of p = mod_below x (stride_of p) (some_stride p.local (stride_of p) x l) in
    ap (λ k. x / stride_of p * stride_of p + k) (flat_of-unflat_of p.others (x % stride_of p) below) ∙ div-add-mod' x (stride_of p)

one_moved : (p : GroupPart) (x : ℕ) → x < p.local * stride_of p → flat_of (p.whole ∷ p.others) ((p.start + x / stride_of p) ∷ unflat_of p.others (x % stride_of p)) ≡ p.start * stride_of p + x
one_moved p x l = whole_step p.start (x / stride_of p) (stride_of p) (flat_of p.others (unflat_of p.others (x % stride_of p))) ∙ ap (λ k. p.start * stride_of p + k) (one_flat p x l)

-- the number of a cell among the local ones
pub local_number : (ps : List GroupPart) (i : List ℕ) → IsIndexOf (few_local ps) i → flat_of (many_local ps) (parted ps i) ≡ flat_of (few_local ps) i
local_number [] [] h = refl
local_number [] (x ∷ i) h = absurd h
local_number (p ∷ ps) [] h = absurd h
local_number (p ∷ ps) (x ∷ i) h =
    flat_joined (p.local ∷ p.others) (many_local ps) (x / stride_of p ∷ unflat_of p.others (x % stride_of p)) (parted ps i) (counted p (x / stride_of p) x)
    ∙ ap₂ (λ a b. a * b + flat_of (many_local ps) (parted ps i)) (one_flat p x h.0) (cells_alike ps)
    ∙ ap (λ k. x * cell_count (few_local ps) + k) (local_number ps i h.1)

-- and among those of the whole
pub whole_number : (ps : List GroupPart) (i : List ℕ) → IsIndexOf (few_local ps) i → flat_of (many_whole ps) (many_moved ps i) ≡ flat_of (few_whole ps) (few_moved ps i)
whole_number [] [] h = refl
whole_number [] (x ∷ i) h = absurd h
whole_number (p ∷ ps) [] h = absurd h
whole_number (p ∷ ps) (x ∷ i) h =
    flat_joined (p.whole ∷ p.others) (many_whole ps) ((p.start + x / stride_of p) ∷ unflat_of p.others (x % stride_of p)) (many_moved ps i) (counted p (p.start + x / stride_of p) x)
    ∙ ap₂ (λ a b. a * b + flat_of (many_whole ps) (many_moved ps i)) (one_moved p x h.0) (cells_of_whole ps)
    ∙ ap (λ k. (p.start * stride_of p + x) * cell_count (few_whole ps) + k) (whole_number ps i h.1)

-- it is an index of the local tensor
pub parted_below : (ps : List GroupPart) (i : List ℕ) → IsIndexOf (few_local ps) i → IsIndexOf (many_local ps) (parted ps i)
parted_below [] [] h = tt
parted_below [] (x ∷ i) h = absurd h
parted_below (p ∷ ps) [] h = absurd h
parted_below (p ∷ ps) (x ∷ i) h =
    let some = some_stride p.local (stride_of p) x h.0 in
    let below : x % stride_of p < stride_of p = mod_below x (stride_of p) some in
    index_joined (p.local ∷ p.others) (many_local ps) (x / stride_of p ∷ unflat_of p.others (x % stride_of p)) (parted ps i)
    (div_below x (stride_of p) p.local some h.0, unflat_of-within p.others (x % stride_of p) below)
    (parted_below ps i h.1)
