-- What the code of the normal form and of the spelling does, dimension by dimension.
use Rattle.std.proofs.Common.{◌≡◌, ℕ, suc, ◌+◌, ◌<◌, ◌≤◌, List, [], ◌∷◌, ◌++◌, length, get_or, map, take, min, max, Bool, true, false, refl, ap, ap₂, sym, ◌∙◌, arith, subst, ℤ, pos, inl, inr}
use Rattle.std.specs.Prelude.{◌||◌, if◌then◌else◌}
use Rattle.std.specs.List.{list_any, range_with_len, All, AllByRecursion}
use Rattle.std.proofs.lemmas.List.{take_more, get_or-map, append_assoc}
use Rattle.std.proofs.lemmas.List.Elements.{All-from_recursion}
use Rattle.std.proofs.lemmas.List.Folds.{list_any-append}
use Rattle.std.proofs.lemmas.List.FromFn.{map-range_with_len_more}
use Rattle.std.proofs.lemmas.Simd.{map-map}
use Rattle.sh_grid.specs.Grid.{group_size_of, AreAxesOf}
use Rattle.sh_sharding.specs.declared.shardings.Dimension.{Dimension}
use Rattle.sh_sharding.specs.Sharding.{ShardingValue, parts_of, offset_at, offset_of, offsets_of, IsMarked, IsDimension, IsSharding, is_split}
use Rattle.sh_sharding.specs.Normal.{division_of, up_to_last_split}
use Rattle.sh_sharding.specs.Spelling.{written_dimensions, part_offsets}
use Rattle.sh_sharding.proofs.PartLaws.{axes_of-each}
use Rattle.std.proofs.lemmas.Bool.{cases_Bool}

-- ---- tests

or_true : (b : Bool) → (b || true) ≡ true
or_true true = refl
or_true false = refl

or_false : (b : Bool) → (b || false) ≡ b
or_false true = refl
or_false false = refl

pub or_parts : (a b : Bool) → (a || b) ≡ false → (a ≡ false) × (b ≡ false)
or_parts true b h = absurd (cc)
or_parts false b h = (refl, h)

-- ---- the last dimension that is split

-- of the first i dimensions, those up to the last that is split are the first so many
pub record IsLastSplit (ds : List Dimension) (i count : ℕ) : Type 0 where
  pub value : take count ds ≡ up_to_last_split (take i ds)
  pub within : count ≤ i

ends_split : (ds : List Dimension) (d : Dimension) → is_split d ≡ true → up_to_last_split (ds ++ d ∷ []) ≡ ds ++ d ∷ []
ends_split [] d h = ap (λ (b : Bool). if b || false then d ∷ [] else []) h
ends_split (x ∷ ds) d h =
    let some : list_any is_split (x ∷ ds ++ d ∷ []) ≡ true = list_any-append is_split (x ∷ ds) (d ∷ []) ∙ ap (λ (b : Bool). list_any is_split (x ∷ ds) || (b || false)) h ∙ or_true (list_any is_split (x ∷ ds)) in
    ap₂ (λ (b : Bool) ys. if b then x ∷ ys else []) some (ends_split ds d h)

ends_whole : (ds : List Dimension) (d : Dimension) → is_split d ≡ false → up_to_last_split (ds ++ d ∷ []) ≡ up_to_last_split ds
ends_whole [] d h = ap (λ (b : Bool). if b || false then d ∷ [] else []) h
ends_whole (x ∷ ds) d h =
    let same : list_any is_split (x ∷ ds ++ d ∷ []) ≡ list_any is_split (x ∷ ds) = list_any-append is_split (x ∷ ds) (d ∷ []) ∙ ap (λ (b : Bool). list_any is_split (x ∷ ds) || (b || false)) h ∙ or_false (list_any is_split (x ∷ ds)) in
    ap₂ (λ (b : Bool) ys. if b then x ∷ ys else []) same (ends_whole ds d h)

pub last_split_here : (ds : List Dimension) (i : ℕ) (d : Dimension) → i < length ds → d ≡ get_or ds i d → is_split d ≡ true → IsLastSplit ds (i + 1) (i + 1)
last_split_here ds i d l read h =
    let next : take (i + 1) ds ≡ take i ds ++ d ∷ [] = take_more ds i d l ∙ ap (λ x. take i ds ++ x ∷ []) (sym read) in
    record { value = next ∙ sym (ends_split (take i ds) d h) ∙ ap up_to_last_split (sym next); within = omega arith }

pub last_split_before : (ds : List Dimension) (i count : ℕ) (d : Dimension) → IsLastSplit ds i count → i < length ds → d ≡ get_or ds i d → is_split d ≡ false → IsLastSplit ds (i + 1) count
last_split_before ds i count d k l read h =
    let next : take (i + 1) ds ≡ take i ds ++ d ∷ [] = take_more ds i d l ∙ ap (λ x. take i ds ++ x ∷ []) (sym read) in
    let within = k.within in
    record { value = k.value ∙ sym (ends_whole (take i ds) d h) ∙ ap up_to_last_split (sym next); within = omega arith }

-- ---- lists divided alike

pub same_at : (xs ys : List Dimension) (i : ℕ) (x y : Dimension) → i < length xs → i < length ys → x ≡ get_or xs i x → y ≡ get_or ys i y → map division_of xs ≡ map division_of ys → division_of x ≡ division_of y
same_at xs ys i x y lx ly rx ry h =
    ap division_of rx
    ∙ sym (get_or-map division_of xs i x (division_of x) lx)
    ∙ ap (λ ds. get_or ds i (division_of x)) h
    ∙ get_or-map division_of ys i y (division_of x) ly
    ∙ ap division_of (sym ry)

-- ---- the dimensions whose lists of axes are written

pub some_split : (d : Dimension) (ds : List Dimension) → list_any is_split (d ∷ ds) ≡ true → up_to_last_split (d ∷ ds) ≡ d ∷ up_to_last_split ds
some_split d ds h = ap (λ (b : Bool). if b then d ∷ up_to_last_split ds else []) h

pub none_split : (ds : List Dimension) → list_any is_split ds ≡ false → up_to_last_split ds ≡ []
none_split [] h = refl
none_split (d ∷ ds) h = ap (λ (b : Bool). if b then d ∷ up_to_last_split ds else []) h

front : (ds : List Dimension) → take (length (up_to_last_split ds)) ds ≡ up_to_last_split ds
front [] = refl
front (d ∷ ds) = elim (cases_Bool (list_any is_split (d ∷ ds))) [
  | inl some ↦
      let here = some_split d ds some in
      ap (λ xs. take (length xs) (d ∷ ds)) here ∙ ap (λ xs. d ∷ xs) (front ds) ∙ sym here
  | inr none ↦
      let here = none_split (d ∷ ds) none in
      ap (λ xs. take (length xs) (d ∷ ds)) here ∙ sym here
]

pub length-up_to : (ds : List Dimension) → length (up_to_last_split ds) ≤ length ds
length-up_to [] = omega arith
length-up_to (d ∷ ds) = elim (cases_Bool (list_any is_split (d ∷ ds))) [
  | inl some ↦
      let rec = length-up_to ds in
      let here = ap length (some_split d ds some) in
      omega arith
  | inr none ↦
      let here = ap length (none_split (d ∷ ds) none) in
      omega arith
]

pub written_front : (ds : List Dimension) (n : ℕ) → n ≡ min (max (length (up_to_last_split ds)) 1) (length ds) → take n ds ≡ written_dimensions ds
written_front [] n e = let none : n ≡ 0 = omega arith in ap (λ m. take m []) none
written_front (d ∷ ds) n e = elim (cases_Bool (list_any is_split (d ∷ ds))) [
  | inl some ↦
      let here = ap length (some_split d ds some) in
      let few = length-up_to ds in
      let count : n ≡ suc (length (up_to_last_split ds)) = omega arith in
      ap (λ m. take m (d ∷ ds)) count ∙ ap (λ xs. d ∷ xs) (front ds)
  | inr none ↦
      let here = ap length (none_split (d ∷ ds) none) in
      let count : n ≡ 1 = omega arith in
      ap (λ m. take m (d ∷ ds)) count ∙ ap (λ xs. d ∷ xs) (sym (none_split ds (or_parts (is_split d) (list_any is_split ds) none).1))
]

-- ---- offsets

-- the first k offsets of a dimension
abbrev pub offsets_to : List ℕ → Dimension → ℕ → List ℤ
offsets_to g d k = map (λ part. pos (offset_at g d part)) (range_with_len 0 k)

-- one offset more
pub offsets_more : (g : List ℕ) (d : Dimension) (k found : ℕ) (old out next : List ℤ) → out ≡ old ++ offsets_to g d k → found ≡ offset_at g d k → next ≡ out ++ pos found ∷ []
    → next ≡ old ++ offsets_to g d (k + 1)
offsets_more g d k found old out next e ef en =
    en
    ∙ ap₂ (λ xs n. xs ++ pos n ∷ []) e ef
    ∙ append_assoc old (offsets_to g d k) (pos (offset_at g d k) ∷ [])
    ∙ ap (λ xs. old ++ xs) (sym (map-range_with_len_more (λ part. pos (offset_at g d part)) 0 k k (omega arith)))

-- all offsets of a dimension that is split
pub offsets_end : (g : List ℕ) (d : Dimension) (size k : ℕ) (old out : List ℤ) → out ≡ old ++ offsets_to g d k → size ≡ group_size_of g d.axes → is_split d ≡ true → k ≡ size + 1
    → out ≡ old ++ part_offsets g d
unfolding parts_of offset_at offsets_of
offsets_end g d size k old out e es split ek =
    let f = offset_of d.extent (group_size_of g d.axes) d.mark in
    let all : part_offsets g d ≡ map pos (map f (range_with_len 0 (group_size_of g d.axes + 1))) =
    ap (λ (b : Bool). if b then map pos (map f (range_with_len 0 (group_size_of g d.axes + 1))) else []) split in
    e
    ∙ ap (λ n. old ++ map (λ part. pos (f part)) (range_with_len 0 n)) (ek ∙ ap (λ n. n + 1) es)
    ∙ ap (λ xs. old ++ xs) (sym (map-map pos f (range_with_len 0 (group_size_of g d.axes + 1))) ∙ sym all)

-- ---- what the code asks of the dimensions

are_marked : (g : List ℕ) (ds : List Dimension) → AllByRecursion (λ d. AreAxesOf (length g) d.axes) ds → AllByRecursion (IsDimension g) ds → AllByRecursion (IsMarked g) ds
are_marked g [] m ok = tt
are_marked g (d ∷ ds) m ok = (record { axes = m.0; divided = ok.0.divided; normal = ok.0.normal }, are_marked g ds m.1 ok.1)

all_marked : (s : ShardingValue) → IsSharding s → All (IsMarked s.grid.extents) s.dimensions
all_marked s ok =
    All-from_recursion (IsMarked s.grid.extents) s.dimensions (are_marked s.grid.extents s.dimensions (axes_of-each (length s.grid.extents) s.dimensions ok.axes) ok.dimensions)

-- the same of a sharding whose fields the code reads
pub marked_through : (v s : ShardingValue) (ds : List Dimension) → v ≡ s → IsSharding v → ds ≡ v.dimensions → All (IsMarked s.grid.extents) ds
marked_through v s ds e ok ed = subst (All (IsMarked s.grid.extents)) (sym (ed ∙ ap (λ z. z.dimensions) e)) (all_marked s (subst IsSharding e ok))
