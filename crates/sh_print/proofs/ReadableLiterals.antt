-- Literals are readable: their cells are numbers of their width, or undefined.
use Rattle.std.proofs.Common.{◌≡◌, ℕ, zero, suc, ◌+◌, ◌*◌, ◌-◌, ◌^◌, ◌<◌, ◌≤◌, Bool, true, false, ◌&&◌, ℤ, pos, negsuc, nat_eq, nat_lt, if◌then◌else◌, List, [], ◌∷◌, ◌++◌, length, replicate, reverse, codes, refl, sym, subst, arith, ltb-true, ltb-false, lt-ltb}
use Rattle.std.specs.Prelude.{◌-ℤ◌}
use Rattle.std.specs.List.{list_all}
use Rattle.std.proofs.lemmas.Int.{ints}
use Rattle.sh_base.specs.Cells.{bits_of}
use Rattle.sh_base.specs.declared.numbers.Cell.{Cell}
use Rattle.sh_base.specs.declared.numbers.Cell.TheVariants as cell
use Rattle.sh_base.specs.declared.numbers.Width.{Width}
use Rattle.sh_base.specs.declared.numbers.Width.TheVariants.{I1, I8, I16, I32, I64}
use Rattle.sh_lex.specs.declared.tokens.TokenKind.TheVariants.{Word, Sign}
use Rattle.sh_ir.specs.Formed.{is_spelled, is_spelled_type}
use Rattle.sh_ir.specs.Literals.{are_held, fills, is_held, is_literal_cell}
use Rattle.sh_ir.specs.Shapes.{shape_of}
use Rattle.sh_ir.specs.declared.arith_ops.Constant as declared_constant
use Rattle.sh_ir.specs.declared.arith_ops.Contents.{Contents}
use Rattle.sh_ir.specs.declared.arith_ops.Contents.TheVariants.{Held, Broken}
use Rattle.sh_ir.specs.declared.types.ValueType.{ValueType}
use Rattle.sh_ir.specs.declared.types.ValueType.TheVariants as type
use Rattle.sh_print.specs.Layout.{Piece}
use Rattle.sh_print.specs.Layout.Piece.{token}
use Rattle.sh_print.specs.Spellings.{begun, cell_between, cell_pieces, cell_width, cells_from, cells_in, cells_pieces, comma_before, dense, dense_pieces, number_pieces, sign, signed_below, signed_value, word}
use Rattle.sh_print.specs.Tokens.{constant_pieces, first_cell, is_truth, literal_pieces, of_type, scalar_cell, scalar_pieces}
use Rattle.sh_print.proofs.ReadablePieces.{Readable, nothing, joined, both_true, is_other_sign, a_word, a_sign}
use Rattle.sh_print.proofs.ReadableForms.{sign_alone, word_alone, a_num, a_type, with_type}

-- ## Literals

-- a cell that a literal of this width can have, or none that is defined
abbrev pub is_printable : Width → Cell → Bool
is_printable w cell.Undef = true
is_printable w (cell.Val n) = nat_lt n (2 ^ bits_of w)

abbrev pub ArePrintable : declared_constant.Constant → Type 0
ArePrintable c = list_all (is_printable (cell_width c.value_type)) (cells_in c.contents) ≡ true

both_are : (a b : Bool) → a ≡ true → b ≡ true → (a && b) ≡ true
both_are true b p q = q
both_are false b p q = absurd (cc)

printable_cells : (w : Width) (cells : List Cell) → list_all (is_literal_cell w) cells ≡ true → list_all (is_printable w) cells ≡ true
printable_cells w [] e = refl
printable_cells w (cell.Undef ∷ cells) e = absurd (cc)
printable_cells w (cell.Val n ∷ cells) e =
    let both = both_true (nat_lt n (2 ^ bits_of w)) (list_all (is_literal_cell w) cells) e in
    both_are (nat_lt n (2 ^ bits_of w)) (list_all (is_printable w) cells) both.0 (printable_cells w cells both.1)

held_printable : (t : ValueType) (cells : List Cell) → are_held t cells ≡ true → list_all (is_printable (cell_width t)) cells ≡ true
held_printable (type.Scalar w) cells e = printable_cells w cells (both_true (nat_eq (length cells) 1) (list_all (is_literal_cell w) cells) e).1
held_printable (type.Tensor t) cells e = printable_cells t.width cells (both_true (fills t.dims cells) (list_all (is_literal_cell t.width) cells) e).1
held_printable type.Nothing cells e = absurd (cc)
held_printable type.Sharding cells e = absurd (cc)
held_printable type.Index cells e = absurd (cc)

held_by : (t : ValueType) (contents : Contents) → is_held (record { value_type = t; contents = contents }) ≡ true → list_all (is_printable (cell_width t)) (cells_in contents) ≡ true
held_by t (Held cells) e = held_printable t cells e
held_by t Broken e = refl

pub printable : (c : declared_constant.Constant) → is_held c ≡ true → ArePrintable c
printable c e = held_by c.value_type c.contents e

signed_spelled : (size n : ℕ) → n < size → size ≤ 2 ^ 64 → is_spelled (signed_below size n) ≡ true
signed_spelled size n small wide = go (nat_lt (2 * n) size) refl
  where
    difference : (z : ℤ) → z ≡ pos n -ℤ pos size → size ≤ 2 * n → is_spelled z ≡ true
    difference (pos m) e half = lt-ltb m (2 ^ 64) (omega (arith, ints))
    difference (negsuc m) e half = lt-ltb (m + 1) (2 ^ 64) (omega (arith, ints))

    go : (v : Bool) → nat_lt (2 * n) size ≡ v → is_spelled (if v then pos n else pos n -ℤ pos size) ≡ true
    go true e = lt-ltb n (2 ^ 64) (omega arith)
    go false e = difference (pos n -ℤ pos size) refl (ltb-false (2 * n) size e)

truth_word : (v : Bool) → Readable ((if v then word "false" else word "true") ∷ [])
truth_word true = word_alone (codes "false") refl
truth_word false = word_alone (codes "true") refl

number_of_width : (w : Width) (n : ℕ) → n < 2 ^ bits_of w → Readable (number_pieces w n)
unfolding number_pieces
number_of_width I1 n small = truth_word (nat_eq n 0)
number_of_width I8 n small = a_num (signed_value I8 n) (signed_spelled (2 ^ 8) n small (omega arith))
number_of_width I16 n small = a_num (signed_value I16 n) (signed_spelled (2 ^ 16) n small (omega arith))
number_of_width I32 n small = a_num (signed_value I32 n) (signed_spelled (2 ^ 32) n small (omega arith))
number_of_width I64 n small = a_num (signed_value I64 n) (signed_spelled (2 ^ 64) n small (omega arith))

a_cell : (w : Width) (c : Cell) → is_printable w c ≡ true → Readable (cell_pieces w c)
unfolding cell_pieces
a_cell w cell.Undef e = word_alone (codes "undef") refl
a_cell w (cell.Val n) e = number_of_width w n (ltb-true n (2 ^ bits_of w) e)

same_signs : (n : ℕ) (text : List ℕ) → is_other_sign text ≡ true → Readable (replicate n (token Sign text))
same_signs zero text e = nothing
same_signs (suc n) text e = a_sign e (same_signs n text e)

comma_behind : (v : Bool) → Readable (if v then [] else sign "," ∷ [])
comma_behind true = nothing
comma_behind false = sign_alone (codes ",") refl

a_cell_between : (extents : List ℕ) (w : Width) (at : ℕ) (c : Cell) → is_printable w c ≡ true → Readable (cell_between extents w at c)
unfolding cell_between
a_cell_between extents w at c e =
    joined (joined (joined (comma_behind (nat_eq at 0)) (same_signs (begun extents at) (codes "[") refl)) (a_cell w c e)) (same_signs (begun extents (suc at)) (codes "]") refl)

some_cells : (extents : List ℕ) (w : Width) (at : ℕ) (cells : List Cell) → list_all (is_printable w) cells ≡ true → Readable (cells_from extents w at cells)
some_cells extents w at [] e = nothing
some_cells extents w at (c ∷ cells) e =
    let both = both_true (is_printable w c) (list_all (is_printable w) cells) e in
    joined (a_cell_between extents w at c both.0) (some_cells extents w (suc at) cells both.1)

all_cells : (extents : List ℕ) (w : Width) (cells : List Cell) → list_all (is_printable w) cells ≡ true → Readable (cells_pieces extents w cells)
unfolding cells_pieces
all_cells extents w [] e = nothing
all_cells extents w (c ∷ []) e = a_cell w c (both_true (is_printable w c) true e).0
all_cells extents w (c ∷ next ∷ cells) e = some_cells extents w 0 (c ∷ next ∷ cells) e

a_dense : (t : ValueType) (cells : List Cell) → list_all (is_printable (cell_width t)) cells ≡ true → Readable (dense t cells)
unfolding dense
a_dense t cells e = a_word refl (a_sign refl (joined (all_cells (reverse (shape_of t)) (cell_width t) cells e) (sign_alone (codes ">") refl)))

pub a_dense_constant : (c : declared_constant.Constant) → ArePrintable c → is_spelled_type c.value_type ≡ true → Readable (dense_pieces c)
unfolding dense_pieces
a_dense_constant c e spelled = joined (a_dense c.value_type (cells_in c.contents) e) (a_sign refl (a_type c.value_type spelled))

first_printable : (w : Width) (cells : List Cell) → list_all (is_printable w) cells ≡ true → is_printable w (first_cell cells) ≡ true
first_printable w [] e = refl
first_printable w (c ∷ cells) e = (both_true (is_printable w c) (list_all (is_printable w) cells) e).0

maybe_type : (v : Bool) (t : ValueType) → is_spelled_type t ≡ true → Readable (if v then [] else of_type t)
maybe_type true t e = nothing
maybe_type false t e = with_type t e

a_scalar : (c : declared_constant.Constant) (w : Width) → is_printable w (scalar_cell c.contents) ≡ true → is_spelled_type c.value_type ≡ true → Readable (scalar_pieces c w)
unfolding scalar_pieces
a_scalar c w e spelled = joined (a_cell w (scalar_cell c.contents) e) (maybe_type (is_truth c.value_type) c.value_type spelled)

literal_of : (c : declared_constant.Constant) (t : ValueType) → t ≡ c.value_type → ArePrintable c → is_spelled_type c.value_type ≡ true → Readable (literal_pieces c t)
unfolding literal_pieces
literal_of c (type.Scalar w) same e spelled =
    let cells : list_all (is_printable w) (cells_in c.contents) ≡ true = subst (λ t. list_all (is_printable (cell_width t)) (cells_in c.contents) ≡ true) (sym same) e in
    a_scalar c w (first_printable w (cells_in c.contents) cells) spelled
literal_of c (type.Tensor t) same e spelled = a_dense_constant c e spelled
literal_of c type.Nothing same e spelled = a_dense_constant c e spelled
literal_of c type.Sharding same e spelled = a_dense_constant c e spelled
literal_of c type.Index same e spelled = a_dense_constant c e spelled

pub a_constant : (c : declared_constant.Constant) → is_held c ≡ true → is_spelled_type c.value_type ≡ true → Readable (constant_pieces c)
unfolding constant_pieces
a_constant c e spelled = a_word refl (literal_of c c.value_type refl (printable c e) spelled)
