-- The forms of the language are readable where their names, numbers and types are spelled.
use Rattle.std.proofs.Common.{◌≡◌, ℕ, zero, suc, ◌+◌, ◌*◌, ◌-◌, ◌/◌, ◌^◌, ◌<◌, ◌≤◌, Bool, true, false, ◌&&◌, ℤ, pos, negsuc, nat_eq, nat_lt, if◌then◌else◌, List, [], ◌∷◌, ◌++◌, Option, Some, None, length, take, drop, flat_map, map, replicate, reverse, codes, refl, sym, ap, ◌∙◌, subst, arith, ltb-true}
use Rattle.std.specs.Prelude.{unsigned_abs, ◌-ℤ◌}
use Rattle.std.specs.List.{AllByRecursion, list_all}
use Rattle.sh_base.specs.Cells.{bits_of}
use Rattle.sh_base.specs.declared.numbers.Cell.{Cell}
use Rattle.sh_base.specs.declared.numbers.Cell.TheVariants as cell
use Rattle.sh_base.specs.declared.numbers.Width.{Width}
use Rattle.sh_base.specs.declared.numbers.Width.TheVariants.{I1, I8, I16, I32, I64}
use Rattle.sh_base.specs.declared.operations.BinOp.{BinOp}
use Rattle.sh_base.specs.declared.operations.BinOp.TheVariants.{Addi, Subi, Muli, Divui, Divsi, Remui, Remsi, Andi, Ori, Xori, Maxsi, Minsi, Maxui, Minui, Shli, Shrui, Shrsi}
use Rattle.sh_base.specs.declared.operations.CastOp.{CastOp}
use Rattle.sh_base.specs.declared.operations.CastOp.TheVariants.{Extsi, Extui, Trunci}
use Rattle.sh_base.specs.declared.operations.Kind.{Kind}
use Rattle.sh_base.specs.declared.operations.Kind.TheVariants.{Sum, Product, Max, Min, And, Or, Xor}
use Rattle.sh_base.specs.declared.operations.Predicate.{Predicate}
use Rattle.sh_base.specs.declared.operations.Predicate.TheVariants.{Eq, Ne, Slt, Sle, Sgt, Sge, Ult, Ule, Ugt, Uge}
use Rattle.sh_ir.specs.Formed.{is_name, is_spelled, is_spelled_dim, is_spelled_type}
use Rattle.sh_ir.specs.Written.{all_numbers, sharding_numbers, slice_numbers}
use Rattle.sh_ir.specs.declared.types.Dim.{Dim}
use Rattle.sh_ir.specs.declared.types.Dim.TheVariants.{Known, Differs}
use Rattle.sh_ir.specs.declared.types.RawSharding.{RawSharding}
use Rattle.sh_ir.specs.declared.types.ValueType.{ValueType}
use Rattle.sh_ir.specs.declared.types.ValueType.TheVariants as type
use Rattle.sh_ir.specs.declared.shard_ops.GridAxes.{GridAxes}
use Rattle.sh_ir.specs.declared.tensor_ops.Slice.{Slice}
use Rattle.sh_print.specs.Layout.{Piece}
use Rattle.sh_print.specs.Layout.Piece.{apart, closing, line_end, opening, token}
use Rattle.sh_lex.specs.declared.tokens.TokenKind.TheVariants.{Word, Sign}
use Rattle.sh_print.specs.Spellings.{dim, in_brackets, list_of, lists, num, nums, type_pieces, width}
use Rattle.sh_print.specs.Tokens.{attribute, axis_pieces, flag, from_to, into_pieces, listed, numbers_pieces, of_type, on_pieces, over, pair, reduction_pieces, sharding_pieces, slice_pieces, splits, to_type, types, value_in, values}
use Rattle.sh_print.specs.Values.{Scope, name_in, value}
use Rattle.sh_print.specs.Words.{binary_word, cast_word, kind_word, predicate_word, width_word}
use Rattle.sh_print.specs.declared.names.Name.{Name}
use Rattle.sh_print.proofs.ReadablePieces.{Readable, nothing, joined, both_true, parts_true, is_word, is_other_sign, a_word, a_symbol, a_sign, an_apart, a_number, an_extent, an_unknown_extent, a_negative, a_value, a_sharding_type, readable_each, readable_rest, readable_list, readable_brackets, all_by, all_are, all_of_parts}

-- ## Ends of lists

pub sign_alone : (text : List ℕ) → is_other_sign text ≡ true → Readable (token Sign text ∷ [])
sign_alone text e = a_sign e nothing

pub word_alone : (text : List ℕ) → is_word text ≡ true → Readable (token Word text ∷ [])
word_alone text e = a_word e nothing

-- ## Words

width_is_word : (w : Width) → is_word (width_word w) ≡ true
width_is_word I1 = refl
width_is_word I8 = refl
width_is_word I16 = refl
width_is_word I32 = refl
width_is_word I64 = refl

pub binary_is_word : (op : BinOp) → is_word (binary_word op) ≡ true
binary_is_word Addi = refl
binary_is_word Subi = refl
binary_is_word Muli = refl
binary_is_word Divui = refl
binary_is_word Divsi = refl
binary_is_word Remui = refl
binary_is_word Remsi = refl
binary_is_word Andi = refl
binary_is_word Ori = refl
binary_is_word Xori = refl
binary_is_word Maxsi = refl
binary_is_word Minsi = refl
binary_is_word Maxui = refl
binary_is_word Minui = refl
binary_is_word Shli = refl
binary_is_word Shrui = refl
binary_is_word Shrsi = refl

pub predicate_is_word : (p : Predicate) → is_word (predicate_word p) ≡ true
predicate_is_word Eq = refl
predicate_is_word Ne = refl
predicate_is_word Slt = refl
predicate_is_word Sle = refl
predicate_is_word Sgt = refl
predicate_is_word Sge = refl
predicate_is_word Ult = refl
predicate_is_word Ule = refl
predicate_is_word Ugt = refl
predicate_is_word Uge = refl

pub cast_is_word : (op : CastOp) → is_word (cast_word op) ≡ true
cast_is_word Extsi = refl
cast_is_word Extui = refl
cast_is_word Trunci = refl

kind_is_word : (k : Kind) → is_word (kind_word k) ≡ true
kind_is_word Sum = refl
kind_is_word Product = refl
kind_is_word Max = refl
kind_is_word Min = refl
kind_is_word And = refl
kind_is_word Or = refl
kind_is_word Xor = refl

pub a_width : (w : Width) {pieces : List Piece} → Readable pieces → Readable (width w ∷ pieces)
a_width w more = a_word (width_is_word w) more

-- ## Numbers

small : (n m : ℕ) → nat_lt n m ≡ true → n < m
small n m e = ltb-true n m e

pub a_num : (z : ℤ) → is_spelled z ≡ true → Readable (num z)
a_num (pos n) e = a_number n (small n (2 ^ 64) e) nothing
a_num (negsuc n) e = a_negative (suc n) (omega (arith, small (n + 1) (2 ^ 64) e)) nothing

pub numbers_in_brackets : (zs : List ℤ) → list_all is_spelled zs ≡ true → Readable (nums zs)
numbers_in_brackets zs e = readable_brackets num zs (all_by num is_spelled zs a_num e)

lists_readable : (zss : List (List ℤ)) → AllByRecursion (λ zs. list_all is_spelled zs ≡ true) zss → AllByRecursion (λ zs. Readable (nums zs)) zss
lists_readable [] each = tt
lists_readable (zs ∷ zss) each = (numbers_in_brackets zs each.0, lists_readable zss each.1)

pub lists_in_brackets : (zss : List (List ℤ)) → list_all is_spelled (all_numbers zss) ≡ true → Readable (lists zss)
lists_in_brackets zss e = readable_brackets nums zss (lists_readable zss (all_of_parts is_spelled (λ zs. zs) zss e))

pub an_attribute : (name : List ℕ) → is_word name ≡ true → Readable (attribute name)
unfolding attribute
an_attribute name e = a_word e (sign_alone (codes "=") refl)

pub named_numbers : (name : List ℕ) (zs : List ℤ) → is_word name ≡ true → list_all is_spelled zs ≡ true → Readable (numbers_pieces name zs)
unfolding numbers_pieces
named_numbers name zs e spelled = joined (an_attribute name e) (numbers_in_brackets zs spelled)

pub maybe_numbers : (name : List ℕ) (zs : List ℤ) → is_word name ≡ true → list_all is_spelled zs ≡ true → Readable (listed name zs)
unfolding listed
maybe_numbers name [] e spelled = nothing
maybe_numbers name (z ∷ zs) e spelled = named_numbers name (z ∷ zs) e spelled

pub an_axis : (name : List ℕ) (n : ℕ) → is_word name ≡ true → is_spelled (pos n) ≡ true → Readable (axis_pieces name n)
unfolding axis_pieces
an_axis name n e spelled = joined (an_attribute name e) (a_number n (small n (2 ^ 64) spelled) nothing)

pub a_flag : (name : List ℕ) (v : Bool) → is_word name ≡ true → Readable (flag name v)
unfolding flag
a_flag name true e = word_alone name e
a_flag name false e = nothing

-- ## Types

dim_alone : (d : Dim) → is_spelled_dim d ≡ true → Readable (dim d ∷ [])
dim_alone (Known n) e = an_extent n (small n (2 ^ 64) e) nothing
dim_alone Differs e = an_unknown_extent nothing

pub a_type : (t : ValueType) → is_spelled_type t ≡ true → Readable (type_pieces t)
unfolding type_pieces
a_type type.Nothing e = nothing
a_type (type.Scalar w) e = a_width w nothing
a_type (type.Tensor t) e =
    a_word refl (a_sign refl (joined (readable_each (λ d. dim d ∷ []) t.dims (all_by (λ d. dim d ∷ []) is_spelled_dim t.dims dim_alone e)) (a_width t.width (sign_alone (codes ">") refl))))
a_type type.Sharding e = a_sharding_type nothing
a_type type.Index e = word_alone (codes "index") refl

pub some_types : (ts : List ValueType) → list_all is_spelled_type ts ≡ true → Readable (types ts)
unfolding types
some_types ts e = readable_list type_pieces ts (all_by type_pieces is_spelled_type ts a_type e)

pub with_type : (t : ValueType) → is_spelled_type t ≡ true → Readable (of_type t)
unfolding of_type
with_type t e = a_sign refl (a_type t e)

pub into_type : (t : ValueType) → is_spelled_type t ≡ true → Readable (to_type t)
unfolding to_type
into_type t e = a_sign refl (a_type t e)

pub from_type_to : (t result : ValueType) → is_spelled_type t ≡ true → is_spelled_type result ≡ true → Readable (from_to t result)
unfolding from_to
from_type_to t result e f = joined (with_type t e) (into_type result f)

pub source_into : (t result : ValueType) → is_spelled_type t ≡ true → is_spelled_type result ≡ true → Readable (into_pieces t result)
unfolding into_pieces
source_into t result e f = joined (with_type t e) (a_word refl (a_type result f))

-- ## Values

value_alone : (scope : Scope) (id : ℕ) → Readable (value_in scope id)
unfolding value_in
value_alone scope id = a_value (name_in scope id) nothing

pub some_values : (scope : Scope) (ids : List ℕ) → Readable (values scope ids)
unfolding values
some_values scope ids = readable_list (value_in scope) ids (all_are (value_in scope) ids (value_alone scope))

pub two_values : (a b : Name) → Readable (pair a b)
unfolding pair
two_values a b = a_value a (a_sign refl (a_value b nothing))

-- ## Attributes that several forms share

pub a_split : (axes : List (List ℤ)) → list_all is_spelled (all_numbers axes) ≡ true → Readable (splits axes)
unfolding splits
a_split axes e = joined (an_attribute (codes "split_axes") refl) (lists_in_brackets axes e)

pub a_sharding : (x : RawSharding) → list_all is_spelled (sharding_numbers x) ≡ true → Readable (sharding_pieces x)
unfolding sharding_pieces
a_sharding x e =
    let front = parts_true is_spelled (all_numbers x.split ++ x.halos) x.offsets e in
    let both = parts_true is_spelled (all_numbers x.split) x.halos front.0 in
    joined (joined (a_split x.split both.0) (maybe_numbers (codes "halo_sizes") x.halos refl both.1)) (maybe_numbers (codes "sharded_dims_offsets") x.offsets refl front.1)

pub a_slice : (x : Slice) → list_all is_spelled (slice_numbers x) ≡ true → Readable (slice_pieces x)
unfolding slice_pieces
a_slice x e =
    let front = parts_true is_spelled (x.offsets ++ x.sizes) x.strides e in
    let both = parts_true is_spelled x.offsets x.sizes front.0 in
    joined (joined (numbers_in_brackets x.offsets both.0) (numbers_in_brackets x.sizes both.1)) (numbers_in_brackets x.strides front.1)

pub on_groups : (on : GridAxes) → is_name on.grid ≡ true → list_all is_spelled on.grid_axes ≡ true → Readable (on_pieces on)
on_groups on name e = a_word refl (a_symbol on.grid name (named_numbers (codes "grid_axes") on.grid_axes refl e))

pub over_groups : (name : List ℕ) (a : Name) (on : GridAxes) → is_word name ≡ true → is_name on.grid ≡ true → list_all is_spelled on.grid_axes ≡ true → Readable (over name a on)
unfolding over
over_groups name a on is symbol e = a_word is (a_value a (on_groups on symbol e))

pub a_reduction : (k : Kind) → Readable (reduction_pieces k)
unfolding reduction_pieces
a_reduction k = joined (an_attribute (codes "reduction") refl) (an_apart (a_word (kind_is_word k) (sign_alone (codes ">") refl)))
