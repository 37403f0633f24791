-- Literals, and constants of them.
use Rattle.std.proofs.Common.{◌≡◌, ◌∙◌, ◌<◌, ◌≤◌, ◌+◌, ◌-◌, ◌*◌, ◌^◌, ℕ, zero, suc, Bool, true, false, not, nat_eq, nat_lt, List, [], ◌∷◌, ◌++◌, map, take, drop, length, Some, refl, ap, sym, arith, if◌then◌else◌, ltb-true, ltb-false, lt-ltb}
use Rattle.std.specs.Prelude.{ℤ, pos, negsuc, ◌-ℤ◌, option_map}
use Rattle.std.specs.List.{AllByRecursion, list_all}
use Rattle.std.specs.Cmp.Lexicographic.{pointwise}
use Rattle.std.proofs.Math.Dec.{eqb-suc-zero}
use Rattle.std.proofs.lemmas.Bool.{le-leb}
use Rattle.std.proofs.lemmas.Cmp.{nat_list_eq_equiv}
use Rattle.std.proofs.lemmas.Int.{ints}
use Rattle.std.proofs.lemmas.List.{take-append-drop, map-append}
use Rattle.std.proofs.lemmas.List.Folds.{list_all-append}
use Rattle.sh_base.specs.Cells.{bits_of}
use Rattle.sh_base.specs.declared.numbers.Cell.{Cell}
use Rattle.sh_base.specs.declared.numbers.Cell.TheVariants.{Undef, Val}
use Rattle.sh_base.specs.declared.numbers.Width.{Width}
use Rattle.sh_base.specs.declared.numbers.Width.TheVariants.{I1, I8, I16, I32, I64}
use Rattle.sh_build.specs.Meaning.{made}
use Rattle.sh_build.specs.declared.parts.Part.TheVariants as part
use Rattle.sh_grammar.specs.Lexemes.{Lexeme}
use Rattle.sh_grammar.specs.declared.forms.Form.TheVariants as forms
use Rattle.sh_ir.specs.Formed.{is_spelled}
use Rattle.sh_ir.specs.Literals.{is_literal_cell}
use Rattle.sh_literals.specs.LiteralCells.{cell_of, cells_of, in_front, no_list, number_cell, single}
use Rattle.sh_literals.specs.declared.literals.Element.{Element}
use Rattle.sh_literals.specs.declared.literals.Element.TheVariants.{Number, Truth}
use Rattle.sh_literals.specs.declared.literals.Literal.{Literal}
use Rattle.sh_literals.specs.declared.literals.Literal.TheVariants.{Nested}
use Rattle.sh_print.specs.Spellings.{cell_pieces, number_pieces, signed_below, signed_value, word}
use Rattle.sh_print_laws.proofs.Keywords as keyword
use Rattle.sh_print_laws.proofs.ListForms.{IsListForm, list_spelled}
use Rattle.sh_print_laws.proofs.NestedCells.{ArePositive, nested, rows, size_of}
use Rattle.sh_print_laws.proofs.PlainForms.{num_spelled}
use Rattle.sh_print_laws.proofs.Rows.{Gives, Naming, by_row, end_row, last_is, then_is, then_token}
use Rattle.sh_print_laws.proofs.Tests.{and_parts}
use Rattle.sh_print_laws.proofs.Walks.{State}

-- ## Cells as elements

abbrev pub number_element : Width → ℕ → Element
number_element I1 n = Truth (not (nat_eq n 0))
number_element I8 n = Number (signed_value I8 n)
number_element I16 n = Number (signed_value I16 n)
number_element I32 n = Number (signed_value I32 n)
number_element I64 n = Number (signed_value I64 n)

abbrev pub element_of : Width → Cell → Element
element_of w Undef = Number (pos 0)
element_of w (Val n) = number_element w n

not_below : (n : ℕ) → nat_lt n 0 ≡ false
not_below n = by (nat_lt n 0) refl
  where
    by : (t : Bool) → nat_lt n 0 ≡ t → t ≡ false
    by false e = refl
    by true e = absurd (let no : n < 0 = ltb-true n 0 e in omega arith)

-- a number of the width, read as a signed one, is that cell again
signed_cell : (w : Width) (half n : ℕ) → 2 ^ bits_of w ≡ 2 * half → 2 ^ (bits_of w - 1) ≡ half → n < 2 ^ bits_of w
    → number_cell w (signed_value w n) ≡ Some (Val n)
signed_cell w half n whole halved small = go (nat_lt (2 * n) (2 ^ bits_of w)) refl
  where
    below : (z : ℤ) → z ≡ pos n -ℤ pos (2 ^ bits_of w) → 2 ^ bits_of w ≤ 2 * n → number_cell w z ≡ Some (Val n)
    below (pos m) e much = absurd (omega (arith, ints))
    below (negsuc m) e much =
        let same : 2 ^ bits_of w - suc m ≡ n = omega (arith, ints) in
        let low : suc m ≤ 2 ^ (bits_of w - 1) = omega (arith, ints) in
        rw (le-leb (suc m) (2 ^ (bits_of w - 1)) low) (ap (λ k. Some (Val k)) same)

    go : (v : Bool) → nat_lt (2 * n) (2 ^ bits_of w) ≡ v → number_cell w (if v then pos n else pos n -ℤ pos (2 ^ bits_of w)) ≡ Some (Val n)
    go true e = rw (not_below n, lt-ltb n (2 ^ bits_of w) small) refl
    go false e = below (pos n -ℤ pos (2 ^ bits_of w)) refl (ltb-false (2 * n) (2 ^ bits_of w) e)

truth_back : (n : ℕ) → n < 2 → cell_of I1 (Truth (not (nat_eq n 0))) ≡ Some (Val n)
truth_back zero h = refl
truth_back (suc zero) h = refl
truth_back (suc (suc n)) h = absurd (omega arith)

pub number_back : (w : Width) (n : ℕ) → n < 2 ^ bits_of w → cell_of w (number_element w n) ≡ Some (Val n)
number_back I1 n h = truth_back n h
number_back I8 n h = signed_cell I8 (2 ^ 7) n refl refl h
number_back I16 n h = signed_cell I16 (2 ^ 15) n refl refl h
number_back I32 n h = signed_cell I32 (2 ^ 31) n refl refl h
number_back I64 n h = signed_cell I64 (2 ^ 63) n refl refl h

cell_back : (w : Width) (c : Cell) → is_literal_cell w c ≡ true → cell_of w (element_of w c) ≡ Some c
cell_back w Undef h = absurd (let e : false ≡ true = h in cc)
cell_back w (Val n) h = number_back w n (ltb-true n (2 ^ bits_of w) h)

pub cells_back : (w : Width) (cells : List Cell) → list_all (is_literal_cell w) cells ≡ true → cells_of w (map (element_of w) cells) ≡ Some cells
cells_back w [] h = refl
cells_back w (c ∷ cells) h =
    let both = and_parts (is_literal_cell w c) (list_all (is_literal_cell w) cells) h in
    rw (cell_back w c both.0) (ap (option_map (λ more. c ∷ more)) (cells_back w cells both.1))

pub signed_spelled : (size n : ℕ) → n < size → size ≤ 2 ^ 64 → is_spelled (signed_below size n) ≡ true
signed_spelled size n small wide = go (nat_lt (2 * n) size) refl
  where
    difference : (z : ℤ) → z ≡ pos n -ℤ pos size → size ≤ 2 * n → is_spelled z ≡ true
    difference (pos m) e half = lt-ltb m (2 ^ 64) (omega (arith, ints))
    difference (negsuc m) e half = lt-ltb (m + 1) (2 ^ 64) (omega (arith, ints))

    go : (v : Bool) → nat_lt (2 * n) size ≡ v → is_spelled (if v then pos n else pos n -ℤ pos size) ≡ true
    go true e = lt-ltb n (2 ^ 64) (omega arith)
    go false e = difference (pos n -ℤ pos size) refl (ltb-false (2 * n) size e)

-- ## Nested lists as literals

-- the literal of nested lists of these extents
abbrev pub list_literal : Width → List ℕ → List Cell → Literal
list_literal w ns cells = Nested (record { extents = ns; elements = map (element_of w) cells })

-- one item in front of another, from the last on
abbrev gathered : Width → List ℕ → List (List Cell) → Literal
gathered w ns [] = no_list
gathered w ns (x ∷ xs) = in_front (list_literal w ns x) (gathered w ns xs)

abbrev row_extents : ℕ → List ℕ → List ℕ
row_extents zero ns = 0 ∷ []
row_extents (suc k) ns = suc k ∷ ns

same_extents : (ns : List ℕ) → pointwise nat_eq ns ns ≡ true
same_extents ns = nat_list_eq_equiv.refl ns

no_cells : (cells : List Cell) → length cells ≡ 0 → cells ≡ []
no_cells [] h = refl
no_cells (c ∷ cells) h = absurd (omega arith)

one_in_front : (w : Width) (ns : List ℕ) (k : ℕ) (front cells : List Cell) → (k ≡ 0 → cells ≡ [])
    → in_front (list_literal w ns front) (Nested (record { extents = row_extents k ns; elements = map (element_of w) cells }))
    ≡ Nested (record { extents = suc k ∷ ns; elements = map (element_of w) (front ++ cells) })
one_in_front w ns zero front cells h = rw (map-append (element_of w) front cells) refl
one_in_front w ns (suc k) front cells h = rw (eqb-suc-zero k, same_extents ns, map-append (element_of w) front cells) refl

taken_count : (size : ℕ) (rest : ℕ) (cells : List Cell) → length cells ≡ size + rest → (length (take size cells) ≡ size) × (length (drop size cells) ≡ rest)
taken_count zero rest cells h = (refl, (let e : length cells ≡ rest = omega arith in e))
taken_count (suc size) rest [] h = absurd (omega arith)
taken_count (suc size) rest (c ∷ cells) h = let more = taken_count size rest cells (omega arith) in (ap suc more.0, more.1)

gathered_rows : (w : Width) (ns : List ℕ) (k : ℕ) (cells : List Cell) → length cells ≡ k * size_of ns
    → gathered w ns (rows k (size_of ns) cells) ≡ Nested (record { extents = row_extents k ns; elements = map (element_of w) cells })
gathered_rows w ns zero cells h = rw (no_cells cells (let e : length cells ≡ 0 = h ∙ omega arith in e)) refl
gathered_rows w ns (suc k) cells h =
    let size : ℕ = size_of ns in
    let counted : length cells ≡ size + k * size = h ∙ (let e : suc k * size ≡ size + k * size = omega arith in e) in
    let counts = taken_count size (k * size) cells counted in
    ap (λ l. in_front (list_literal w ns (take size cells)) l) (gathered_rows w ns k (drop size cells) counts.1)
    ∙ one_in_front w ns k (take size cells) (drop size cells) (λ none. no_cells (drop size cells) (let e : length (drop size cells) ≡ 0 = counts.1 ∙ ap (λ j. j * size) none ∙ omega arith in e))
    ∙ ap (λ cs. Nested (record { extents = suc k ∷ ns; elements = map (element_of w) cs })) (take-append-drop size cells)

module _ {numbered : State → Lexeme → ℕ} (N : Naming numbered) where
  truth_spelled : (v : Bool) → Gives N forms.Element ((if v then word "false" else word "true") ∷ []) (part.Literal (single (Truth (not v))))
  unfolding made
  truth_spelled true = by_row N 2 refl refl (then_token N keyword.the-false (λ p i. end_row N refl))
  truth_spelled false = by_row N 1 refl refl (then_token N keyword.the-true (λ p i. end_row N refl))

  number_spelled : (w : Width) (n : ℕ) → n < 2 ^ bits_of w → Gives N forms.Element (number_pieces w n) (part.Literal (single (number_element w n)))
  unfolding made number_pieces
  number_spelled I1 n h = truth_spelled (nat_eq n 0)
  number_spelled I8 n h = by_row N 0 refl refl (last_is N (num_spelled N (signed_value I8 n) (signed_spelled (2 ^ 8) n h (omega arith))) refl)
  number_spelled I16 n h = by_row N 0 refl refl (last_is N (num_spelled N (signed_value I16 n) (signed_spelled (2 ^ 16) n h (omega arith))) refl)
  number_spelled I32 n h = by_row N 0 refl refl (last_is N (num_spelled N (signed_value I32 n) (signed_spelled (2 ^ 32) n h (omega arith))) refl)
  number_spelled I64 n h = by_row N 0 refl refl (last_is N (num_spelled N (signed_value I64 n) (signed_spelled (2 ^ 64) n h (omega arith))) refl)

  cell_spelled : (w : Width) (c : Cell) → is_literal_cell w c ≡ true → Gives N forms.Element (cell_pieces w c) (part.Literal (single (element_of w c)))
  unfolding cell_pieces
  cell_spelled w Undef h = absurd (let e : false ≡ true = h in cc)
  cell_spelled w (Val n) h = number_spelled w n (ltb-true n (2 ^ bits_of w) h)

  elements_form : (w : Width) (ns : List ℕ)
      → IsListForm forms.Elements forms.MoreElements forms.Element (λ xs. part.Literal (gathered w ns xs)) (λ x. part.Literal (list_literal w ns x))
  unfolding made
  elements_form w ns = record {
    lists = refl;
    rests = refl;
    plain = refl;
    plain_rest = refl;
    none = refl;
    some = λ x xs. refl;
    none_more = refl;
    some_more = λ comma x xs. refl;
  }

  -- lists of these extents are spelled
  abbrev AreNested : Width → List ℕ → Type 0
  AreNested w ns = (cells : List Cell) → length cells ≡ size_of ns → list_all (is_literal_cell w) cells ≡ true
      → Gives N forms.Element (nested w ns cells) (part.Literal (list_literal w ns cells))

  each_row : (w : Width) (ns : List ℕ) → AreNested w ns → (k : ℕ) (cells : List Cell) → length cells ≡ k * size_of ns
      → list_all (is_literal_cell w) cells ≡ true → AllByRecursion (λ x. Gives N forms.Element (nested w ns x) (part.Literal (list_literal w ns x))) (rows k (size_of ns) cells)
  each_row w ns f zero cells h all = tt
  each_row w ns f (suc k) cells h all =
      let size : ℕ = size_of ns in
      let counted : length cells ≡ size + k * size = h ∙ (let e : suc k * size ≡ size + k * size = omega arith in e) in
      let counts = taken_count size (k * size) cells counted in
      let both = and_parts (list_all (is_literal_cell w) (take size cells)) (list_all (is_literal_cell w) (drop size cells))
      (sym (list_all-append (is_literal_cell w) (take size cells) (drop size cells)) ∙ ap (list_all (is_literal_cell w)) (take-append-drop size cells) ∙ all) in
      (f (take size cells) counts.0 both.0, each_row w ns f k (drop size cells) counts.1 both.1)

  nested_item : (w : Width) (n : ℕ) (ns : List ℕ) → 0 < n → AreNested w ns → AreNested w (n ∷ ns)
  unfolding made
  nested_item w zero ns some f cells h all = absurd (omega arith)
  nested_item w (suc k) ns some f cells h all = by_row N 3 refl refl (then_token N keyword.the-open_bracket (λ p i.
      then_is N (list_spelled N (elements_form w ns) (nested w ns) (rows (suc k) (size_of ns) cells) (each_row w ns f (suc k) cells h all))
      (then_token N keyword.the-close_bracket (λ p i. end_row N (ap part.Literal (gathered_rows w ns (suc k) cells h))))))

  one_spelled : (w : Width) → AreNested w []
  one_spelled w [] h all = absurd (let e : 0 ≡ 1 = h in omega arith)
  one_spelled w (c ∷ []) h all = cell_spelled w c (and_parts (is_literal_cell w c) true all).0
  one_spelled w (c ∷ d ∷ cells) h all = absurd (let e : suc (suc (length cells)) ≡ 1 = h in omega arith)

  pub nested_spelled : (w : Width) (ns : List ℕ) → ArePositive ns → AreNested w ns
  nested_spelled w [] h = one_spelled w
  nested_spelled w (n ∷ ns) h = nested_item w n ns h.0 (nested_spelled w ns h.1)
