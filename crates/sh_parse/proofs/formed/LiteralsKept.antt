-- Literals are held in their short form, and those that are written `dense<..>` are dense.
use Rattle.std.proofs.Common.{◌≡◌, ◌+◌, ◌*◌, ◌^◌, ◌<◌, ◌≤◌, ◌-◌, ◌∙◌, ℕ, zero, suc, List, [], ◌∷◌, ◌++◌, length, map, take, drop, Option, Some, None, Bool, true, false, cond, nat_eq, refl, ap, sym, arith, inl, inr, ◌⊎◌, ◌/◌, ◌%◌, add-one, length-append, length-take}
use Rattle.sh_parse.proofs.formed.NumbersOfNames.{same_numbers}
use Rattle.std.specs.Prelude.{not, ◌&&◌, ◌||◌, nat_lt, nat_le, ℤ, pos, negsuc, option_map, IsTrue, codes, option_and_then, slice_get}
use Rattle.std.specs.List.{AllByRecursion, list_all, range_with_len, starts_with}
use Rattle.std.specs.Option.{option_map_or}
use Rattle.std.specs.Cmp.Lexicographic.{pointwise}
use Rattle.std.proofs.lemmas.Bool.{and_from, and_parts, cond_both, eq-eqb, eqb-true, leb-true, lt-ltb, ltb-true, not_from_false, or_cases, or_left, or_parts, or_right, false≢true, eqb-false}
use Rattle.std.proofs.Math.Nat.{one-le-mul, pow-le-pow_right, pow-suc}
use Rattle.sh_base.specs.Cells.{bits_of}
use Rattle.sh_base.specs.declared.numbers.Cell.{Cell}
use Rattle.sh_base.specs.declared.numbers.Cell.TheVariants.{Val}
use Rattle.sh_base.specs.declared.numbers.Width.{Width}
use Rattle.sh_base.specs.declared.numbers.Width.TheVariants.{I1, I8, I16, I32, I64}
use Rattle.sh_ir.specs.Literals.{are_equal, are_held, are_short, fills, is_held, is_literal_cell, known_count}
use Rattle.sh_ir.specs.declared.arith_ops.Contents.TheVariants as contents
use Rattle.sh_ir.specs.declared.types.Dim.{Dim}
use Rattle.sh_ir.specs.declared.types.Dim.TheVariants.{Known, Differs}
use Rattle.sh_ir.specs.declared.types.TensorType.{TensorType}
use Rattle.sh_ir.specs.declared.types.ValueType.{ValueType}
use Rattle.sh_ir.specs.declared.types.ValueType.TheVariants as value_type
use Rattle.sh_literals.specs.LiteralCells.{all_of, are_extents, below_zero, cell_of, bytes_of, cells_of, cells_of_bytes, dense, hex_value, is_between, little_endian, paired, fills_or_fits, from_zero, has_none, held, in_front, is_one_or_all, list_in_front, list_of, number_cell, quoted_cells, scalar, shortened, tensor_contents, truth_cell}
use Rattle.sh_literals.specs.declared.literals.Element.{Element}
use Rattle.sh_literals.specs.declared.literals.Element.TheVariants.{Number, Truth}
use Rattle.sh_literals.specs.declared.literals.Literal.{Literal}
use Rattle.sh_literals.specs.declared.literals.Literal.TheVariants.{Empty, Nested, Ragged, Quoted}
use Rattle.sh_literals.specs.declared.literals.Nested as nested
use Rattle.sh_parse.proofs.formed.EachOf.{InOption, each_map, tests_all}
use Rattle.sh_parse.proofs.formed.PartsKept.{ConstantKept, Counted, DenseKept, TypeSpelled, product}

-- ## Lists in lists

-- one item more
longer : (items item rest all count : ℕ) → items ≡ rest → rest ≡ count * all → item ≡ all → item + items ≡ suc count * all
longer items item rest all count a b c = grind arith

counted_list : (item items : nested.Nested) (count : ℕ) (extents : List ℕ) → items.extents ≡ count ∷ extents
    → Counted (Nested item) → Counted (Nested items)
    → (nat_eq count 0 ≡ true) ⊎ (pointwise nat_eq extents item.extents ≡ true)
    → length (item.elements ++ items.elements) ≡ suc count * product item.extents
counted_list item items count extents e a b (inl none) =
    let zero_count : count ≡ 0 = eqb-true count 0 none in
    let gone : 0 * product extents ≡ 0 * product item.extents = omega arith in
    let empty : product items.extents ≡ 0 * product extents = ap product e ∙ ap (λ n. n * product extents) zero_count in
    length-append item.elements items.elements
    ∙ longer (length items.elements) (length item.elements) (product items.extents) (product item.extents) count b
    (empty ∙ gone ∙ ap (λ n. n * product item.extents) (sym zero_count)) a
counted_list item items count extents e a b (inr same) =
    length-append item.elements items.elements
    ∙ longer (length items.elements) (length item.elements) (product items.extents) (product item.extents) count b
    (ap product e ∙ ap (λ ns. count * product ns) (same_numbers extents item.extents same)) a

counted_list_of : (item items : nested.Nested) (count : ℕ) (extents : List ℕ) → items.extents ≡ count ∷ extents
    → Counted (Nested item) → Counted (Nested items) → Counted (list_of item items count extents)
counted_list_of item items count extents e a b = cond_both (nat_eq count 0 || pointwise nat_eq extents item.extents) _ _ Counted
    (λ h. counted_list item items count extents e a b (or_cases (nat_eq count 0) (pointwise nat_eq extents item.extents) h))
    (λ h. tt)

counted_in_list : (item : nested.Nested) (extents : List ℕ) (elements : List Element) → Counted (Nested item)
    → length elements ≡ product extents
    → Counted (list_in_front item (record { extents = extents; elements = elements }) (slice_get extents 0))
counted_in_list item [] elements a b = tt
counted_in_list item (count ∷ extents) elements a b =
    counted_list_of item (record { extents = count ∷ extents; elements = elements }) count extents refl a b

pub counted_in_front : (x y : Literal) → Counted x → Counted y → Counted (in_front x y)
counted_in_front Empty y a b = tt
counted_in_front (Nested item) Empty a b = tt
counted_in_front (Nested item) (Nested items) a b = counted_in_list item items.extents items.elements a b
counted_in_front (Nested item) Ragged a b = tt
counted_in_front (Nested item) (Quoted text) a b = tt
counted_in_front Ragged y a b = tt
counted_in_front (Quoted text) y a b = tt

-- ## Cells of numbers

abbrev pub Small : Width → Cell → Type 0
Small w c = IsTrue (is_literal_cell w c)

small_below : (w : Width) (n : ℕ) → InOption (Small w) (below_zero w (suc n))
small_below w n = cond_both (nat_le (suc n) (2 ^ (bits_of w - 1))) _ _ (InOption (Small w))
    (λ h. lt-ltb (2 ^ bits_of w - suc n) (2 ^ bits_of w) (less w)) (λ h. tt)
  where
    less : (w : Width) → 2 ^ bits_of w - suc n < 2 ^ bits_of w
    less I1 = omega arith
    less I8 = omega arith
    less I16 = omega arith
    less I32 = omega arith
    less I64 = omega arith

small_from : (w : Width) (n : ℕ) → InOption (Small w) (from_zero w n)
small_from w n = cond_both (nat_lt n (2 ^ bits_of w)) _ _ (InOption (Small w)) (λ h. h) (λ h. tt)

small_number : (w : Width) (z : ℤ) → InOption (Small w) (number_cell w z)
small_number w (pos n) = cond_both (nat_lt n 0) _ _ (InOption (Small w)) (λ h. absurd (omega (arith, ltb-true n 0 h))) (λ h. small_from w n)
small_number w (negsuc n) = small_below w n

small_truth : (w : Width) (b : Bool) → InOption (Small w) (truth_cell w b)
small_truth I1 true = refl
small_truth I1 false = refl
small_truth I8 b = tt
small_truth I16 b = tt
small_truth I32 b = tt
small_truth I64 b = tt

small_cell : (w : Width) (e : Element) → InOption (Small w) (cell_of w e)
small_cell w (Number z) = small_number w z
small_cell w (Truth b) = small_truth w b

-- cells of the width, and as many
pub record AreCells (w : Width) (count : ℕ) (cells : List Cell) : Type 0 where
  pub small : AllByRecursion (Small w) cells
  pub counted : length cells ≡ count

one_cell : (w : Width) (o : Option Cell) (count : ℕ) (rest : List (Option Cell)) → InOption (Small w) o
    → InOption (AreCells w count) (all_of rest) → InOption (AreCells w (suc count)) (all_of (o ∷ rest))
one_cell w None count rest a b = tt
one_cell w (Some c) count rest a b = in_front_of (all_of rest) b
  where
    in_front_of : (o : Option (List Cell)) → InOption (AreCells w count) o → InOption (AreCells w (suc count)) (option_map (λ ys. c ∷ ys) o)
    in_front_of None h = tt
    in_front_of (Some cells) h = record { small = (a, h.small); counted = ap suc h.counted }

cells_small : (w : Width) (es : List Element) → InOption (AreCells w (length es)) (cells_of w es)
cells_small w [] = record { small = tt; counted = refl }
cells_small w (e ∷ es) = one_cell w (cell_of w e) (length es) (map (cell_of w) es) (small_cell w e) (cells_small w es)

pub scalar_kept : (w : Width) (e : Element) → ConstantKept (scalar w e)
scalar_kept w e = record { held = by_cell (cell_of w e) (small_cell w e); spelled = refl }
  where
    by_cell : (o : Option Cell) → InOption (Small w) o
        → IsTrue (is_held (record { value_type = value_type.Scalar w; contents = option_map_or (λ cell. contents.Held (cell ∷ [])) o contents.Broken }))
    by_cell None h = refl
    by_cell (Some c) h = and_from (is_literal_cell w c) true h refl

-- ## Cells of strings

all_of_each : {X Y : Type 0} (P : Y → Type 0) (f : X → Option Y) (xs : List X) → ((x : X) → InOption P (f x))
    → InOption (AllByRecursion P) (all_of (map f xs))
all_of_each P f [] each = tt
all_of_each {X} {Y} P f (x ∷ xs) each = one_more (f x) (all_of (map f xs)) (each x) (all_of_each P f xs each)
  where
    one_more : (o : Option Y) (rest : Option (List Y)) → InOption P o → InOption (AllByRecursion P) (all_of (map f xs))
        → InOption (AllByRecursion P) (all_of (o ∷ map f xs))
    one_more None rest a b = tt
    one_more (Some y) rest a b = joined (all_of (map f xs)) b
      where
        joined : (o : Option (List Y)) → InOption (AllByRecursion P) o → InOption (AllByRecursion P) (option_map (λ ys. y ∷ ys) o)
        joined None h = tt
        joined (Some ys) h = (a, h)

hex_small : (b : ℕ) → InOption (λ d. d < 16) (hex_value b)
hex_small b = cond_both (is_between 48 57 b) _ _ (InOption (λ d. d < 16))
    (λ h. omega (arith, leb-true b 57 (and_parts (nat_le 48 b) (nat_le b 57) h).1))
    (λ _. cond_both (is_between 97 102 b) _ _ (InOption (λ d. d < 16))
    (λ h. omega (arith, leb-true b 102 (and_parts (nat_le 97 b) (nat_le b 102) h).1))
    (λ _. cond_both (is_between 65 70 b) _ _ (InOption (λ d. d < 16))
    (λ h. omega (arith, leb-true b 70 (and_parts (nat_le 65 b) (nat_le b 70) h).1)) (λ _. tt)))

abbrev pub AreBytes : List ℕ → Type 0
AreBytes bytes = AllByRecursion (λ byte. byte < 256) bytes

paired_small : (digits : List ℕ) → AllByRecursion (λ d. d < 16) digits → InOption AreBytes (paired digits)
paired_small [] h = tt
paired_small (high ∷ []) h = tt
paired_small (high ∷ low ∷ digits) h = one_pair (paired digits) (paired_small digits h.1.1)
  where
    one_pair : (o : Option (List ℕ)) → InOption AreBytes o → InOption AreBytes (option_map (λ bytes. (high * 16 + low) ∷ bytes) o)
    one_pair None b = tt
    one_pair (Some bytes) b = let a = h.0 in let c = h.1.0 in (omega arith, b)

bytes_small : (text : List ℕ) → InOption AreBytes (bytes_of text)
bytes_small text = cond_both (starts_with nat_eq text (codes "0x")) _ _ (InOption AreBytes)
    (λ h. in_pairs (all_of (map hex_value (drop 2 text))) (all_of_each (λ d. d < 16) hex_value (drop 2 text) hex_small)) (λ h. tt)
  where
    in_pairs : (o : Option (List ℕ)) → InOption (AllByRecursion (λ d. d < 16)) o → InOption AreBytes (option_and_then paired o)
    in_pairs None b = tt
    in_pairs (Some digits) b = paired_small digits b

-- one byte more is 256 times as many numbers
one_byte : (k number byte : ℕ) → number < 256 ^ k → byte < 256 → number * 256 + byte < 256 ^ (k + 1)
one_byte k number byte h b = let e : 256 ^ (k + 1) ≡ 256 ^ k * 256 = rw add-one (pow-suc 256 k) in omega arith

little_small : (bytes : List ℕ) → AreBytes bytes → little_endian bytes < 256 ^ length bytes
little_small [] h = omega arith
little_small (byte ∷ bytes) h =
    let e : suc (length bytes) ≡ length bytes + 1 = omega arith in
    rw e (one_byte (length bytes) (little_endian bytes) byte (little_small bytes h.1) h.0)

each_take : {X : Type 0} (P : X → Type 0) (n : ℕ) (xs : List X) → AllByRecursion P xs → AllByRecursion P (take n xs)
each_take P zero xs h = tt
each_take P (suc n) [] h = tt
each_take P (suc n) (x ∷ xs) h = (h.0, each_take P n xs h.1)

each_drop : {X : Type 0} (P : X → Type 0) (n : ℕ) (xs : List X) → AllByRecursion P xs → AllByRecursion P (drop n xs)
each_drop P zero xs h = h
each_drop P (suc n) [] h = tt
each_drop P (suc n) (x ∷ xs) h = each_drop P n xs h.1

each_any : {X : Type 0} (P : X → Type 0) (xs : List X) → ((x : X) → P x) → AllByRecursion P xs
each_any P [] all = tt
each_any P (x ∷ xs) all = (all x, each_any P xs all)

small_piece : (w : Width) (size : ℕ) (bytes : List ℕ) → 256 ^ size ≡ 2 ^ bits_of w → AreBytes bytes
    → Small w (Val (little_endian (take size bytes)))
small_piece w size bytes e h =
    let short : length (take size bytes) ≤ size = omega (arith, length-take {A = ℕ}) in
    let below : little_endian (take size bytes) < 256 ^ length (take size bytes) = little_small (take size bytes) (each_take _ size bytes h) in
    let all : 256 ^ length (take size bytes) ≤ 256 ^ size = pow-le-pow_right (omega arith) short in
    lt-ltb (little_endian (take size bytes)) (2 ^ bits_of w) (omega arith)

small_pieces : (w : Width) (size : ℕ) (o : Option (List ℕ)) → 256 ^ size ≡ 2 ^ bits_of w → InOption AreBytes o
    → InOption (AllByRecursion (Small w)) (option_and_then (cells_of_bytes size) o)
small_pieces w size None e h = tt
small_pieces w size (Some bytes) e h = cond_both (nat_eq (length bytes % size) 0) _ _ (InOption (AllByRecursion (Small w)))
    (λ _. each_map (Small w) _ (range_with_len 0 (length bytes / size))
    (each_any _ (range_with_len 0 (length bytes / size)) (λ i. small_piece w size (drop (i * size) bytes) e (each_drop _ (i * size) bytes h))))
    (λ _. tt)

quoted_small : (w : Width) (text : List ℕ) → InOption (AllByRecursion (Small w)) (quoted_cells w text)
quoted_small I1 text = tt
quoted_small I8 text = small_pieces I8 1 (bytes_of text) refl (bytes_small text)
quoted_small I16 text = small_pieces I16 2 (bytes_of text) refl (bytes_small text)
quoted_small I32 text = small_pieces I32 4 (bytes_of text) refl (bytes_small text)
quoted_small I64 text = small_pieces I64 8 (bytes_of text) refl (bytes_small text)

-- ## The short form

-- the number of cells of a type that has some isn't 0
some_cells : (dims : List Dim) (n : ℕ) → has_none dims ≡ false → option_map_or (nat_eq n) (known_count dims) false ≡ true → 1 ≤ n
some_cells [] n none h = let e : n ≡ 1 = eqb-true n 1 h in omega arith
some_cells (Differs ∷ dims) n none h = cc
some_cells (Known k ∷ dims) n none h =
    let parts = or_parts (nat_eq k 0) (has_none dims) none in
    times (known_count dims) (λ m g. some_cells dims m parts.1 g) h (eqb-false k 0 parts.0)
  where
    times : (o : Option ℕ) → ((m : ℕ) → option_map_or (nat_eq m) o false ≡ true → 1 ≤ m)
        → option_map_or (nat_eq n) (option_map_or (λ count. Some (k * count)) o None) false ≡ true → (k ≡ 0 → ⊥) → 1 ≤ n
    times None some g not_zero = absurd (false≢true g)
    times (Some c) some g not_zero =
        let is : n ≡ k * c = eqb-true n (k * c) g in
        let positive : 1 ≤ c = some c (eq-eqb c c refl) in
        let of_k : 1 ≤ k = omega (arith, not_zero) in
        let all : 1 ≤ k * c = one-le-mul of_k positive in omega arith

-- one cell or as many as the type has
abbrev pub Enough : List Dim → List Cell → Type 0
Enough dims cells = is_one_or_all dims (length cells) ≡ true

module _ (t : TensorType) where
  held_none : has_none t.dims ≡ true → are_held (value_type.Tensor t) [] ≡ true
  held_none h = and_from (fills t.dims []) true (ap (λ b. cond b true (are_short t.dims [])) h) refl

  held_one : (c : Cell) → has_none t.dims ≡ false → Small t.width c → are_held (value_type.Tensor t) (c ∷ []) ≡ true
  held_one c h small = and_from (fills t.dims (c ∷ [])) (is_literal_cell t.width c && true)
      (ap (λ b. cond b false true) h) (and_from (is_literal_cell t.width c) true small refl)

  held_all : (cells : List Cell) → has_none t.dims ≡ false → AllByRecursion (Small t.width) cells → Enough t.dims cells
      → are_equal cells ≡ false → are_held (value_type.Tensor t) cells ≡ true
  held_all cells h small enough differ =
      let all : option_map_or (nat_eq (length cells)) (known_count t.dims) false ≡ true → are_short t.dims cells ≡ true =
      λ g. or_right (nat_eq (length cells) 1) _ (and_from _ (not (are_equal cells)) g (not_from_false (are_equal cells) differ)) in
      let short : are_short t.dims cells ≡ true =
      elim (or_cases (nat_eq (length cells) 1) _ enough) [ inl g ↦ or_left (nat_eq (length cells) 1) _ g | inr g ↦ all g ] in
      and_from (fills t.dims cells) (list_all (is_literal_cell t.width) cells)
      (ap (λ b. cond b (nat_eq (length cells) 0) (are_short t.dims cells)) h ∙ short)
      (tests_all (is_literal_cell t.width) cells small)

  held_first : (cells : List Cell) → has_none t.dims ≡ false → AllByRecursion (Small t.width) cells → Enough t.dims cells
      → are_held (value_type.Tensor t) (take 1 cells) ≡ true
  held_first [] h small enough =
      absurd (elim (or_cases (nat_eq 0 1) _ enough) [
        | inl g ↦ false≢true g
        | inr g ↦ let some : 1 ≤ 0 = some_cells t.dims 0 h g in omega arith
      ])
  held_first (c ∷ cells) h small enough = held_one c h small.0

  held_short : (cells : List Cell) → AllByRecursion (Small t.width) cells → (has_none t.dims ≡ false → Enough t.dims cells)
      → are_held (value_type.Tensor t) (shortened t.dims cells) ≡ true
  held_short cells small enough = cond_both (has_none t.dims) _ _ (λ cs. are_held (value_type.Tensor t) cs ≡ true) held_none
      (λ h. cond_both (are_equal cells) _ _ (λ cs. are_held (value_type.Tensor t) cs ≡ true)
      (λ _. held_first cells h small (enough h)) (held_all cells h small (enough h)))

-- cells of a type, one or all
pub record Written (t : TensorType) (cells : List Cell) : Type 0 where
  pub small : AllByRecursion (Small t.width) cells
  pub enough : has_none t.dims ≡ false → Enough t.dims cells

held_kept : (t : TensorType) (fits : Bool) (cells : Option (List Cell)) → (fits ≡ true → InOption (Written t) cells)
    → is_held (record { value_type = value_type.Tensor t; contents = held t.dims fits cells }) ≡ true
held_kept t true None h = refl
held_kept t true (Some cells) h = let w = h refl in held_short t cells w.small w.enough
held_kept t false cells h = refl

known_product : (dims : List Dim) (extents : List ℕ) → has_none dims ≡ false → are_extents dims extents ≡ true
    → known_count dims ≡ Some (product extents)
known_product [] [] none h = refl
known_product [] (m ∷ extents) none h = cc
known_product (Differs ∷ dims) [] none h = cc
known_product (Differs ∷ dims) (m ∷ extents) none h = cc
known_product (Known n ∷ dims) [] none h = cc
known_product (Known n ∷ dims) (m ∷ extents) none h =
    let parts = and_parts (nat_eq n m) (nat_eq n 0 || are_extents dims extents) h in
    let nones = or_parts (nat_eq n 0) (has_none dims) none in
    let rest : are_extents dims extents ≡ true = sym (ap (λ b. b || are_extents dims extents) nones.0) ∙ parts.1 in
    ap (λ o. option_map_or (λ count. Some (n * count)) o None) (known_product dims extents nones.1 rest)
    ∙ ap (λ k. Some (k * product extents)) (eqb-true n m parts.0)

one_product : (extents : List ℕ) → nat_eq (length extents) 0 ≡ true → product extents ≡ 1
one_product [] h = refl
one_product (n ∷ extents) h = absurd (omega (arith, eqb-true (length (n ∷ extents)) 0 h))

-- nested lists that fit are one cell or all
enough_nested : (dims : List Dim) (extents : List ℕ) (cells : List Cell) → length cells ≡ product extents
    → fills_or_fits dims extents ≡ true → has_none dims ≡ false → Enough dims cells
enough_nested dims extents cells e fits none = elim (or_cases (nat_eq (length extents) 0) (are_extents dims extents) fits) [
  | inl g ↦ or_left (nat_eq (length cells) 1) _ (eq-eqb (length cells) 1 (e ∙ one_product extents g))
  | inr g ↦ or_right (nat_eq (length cells) 1) _ (
      ap (λ o. option_map_or (nat_eq (length cells)) o false) (known_product dims extents none g)
      ∙ eq-eqb (length cells) (product extents) e)
]

nested_written : (t : TensorType) (extents : List ℕ) (count : ℕ) (cells : Option (List Cell)) → count ≡ product extents
    → InOption (AreCells t.width count) cells → fills_or_fits t.dims extents ≡ true → InOption (Written t) cells
nested_written t extents count None e h fits = tt
nested_written t extents count (Some cells) e h fits =
    record { small = h.small; enough = enough_nested t.dims extents cells (h.counted ∙ e) fits }

quoted_kept : (t : TensorType) (cells : Option (List Cell)) → InOption (AllByRecursion (Small t.width)) cells
    → is_held (record {
      value_type = value_type.Tensor t;
      contents =
          held t.dims (option_map_or (λ cells. is_one_or_all t.dims (length cells)) cells false) cells;
    }) ≡ true
quoted_kept t None h = refl
quoted_kept t (Some cells) h = held_kept t (is_one_or_all t.dims (length cells)) (Some cells) (λ fits. record { small = h; enough = λ _. fits })

tensor_kept : (t : TensorType) (l : Literal) → Counted l
    → is_held (record { value_type = value_type.Tensor t; contents = tensor_contents t l }) ≡ true
tensor_kept t Empty h = cond_both (has_none t.dims) _ _
    (λ c. is_held (record { value_type = value_type.Tensor t; contents = c }) ≡ true) (held_none t) (λ _. refl)
tensor_kept t (Nested n) h = held_kept t (fills_or_fits t.dims n.extents) (cells_of t.width n.elements)
    (nested_written t n.extents (length n.elements) (cells_of t.width n.elements) h (cells_small t.width n.elements))
tensor_kept t Ragged h = refl
tensor_kept t (Quoted text) h = quoted_kept t (quoted_cells t.width text) (quoted_small t.width text)

pub dense_kept : (t : ValueType) (l : Literal) → TypeSpelled t → Counted l → DenseKept (dense t l)
dense_kept value_type.Nothing l t h = cc
dense_kept (value_type.Scalar w) l t h = record { constant = record { held = refl; spelled = refl }; dense = refl }
dense_kept (value_type.Tensor x) l t h = record { constant = record { held = tensor_kept x l h; spelled = t }; dense = refl }
dense_kept value_type.Sharding l t h = cc
dense_kept value_type.Index l t h = cc
