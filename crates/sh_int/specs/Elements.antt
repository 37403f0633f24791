-- The element operations of `arith`: what they give at two cells, and where they are stuck.
use Rattle.std.specs.Prelude.{ℕ, ◌+◌, ◌*◌, ◌/◌, ◌%◌, ◌^◌, ◌<◌, ◌==◌, nat_le, nat_lt, Bool, true, false, not, ◌&&◌, ◌||◌, if◌then◌else◌, max, min, bit_and, bit_or, bit_xor, pos, ◌-ℤ◌, int_div, int_rem, int_lt, int_le, Option, Some, None}
use Rattle.std.specs.Int.{int_max, int_min, int_shr}
use Rattle.sh_base.specs.declared.numbers.Width.{Width}
use Rattle.sh_base.specs.declared.numbers.Cell.{Cell}
use Rattle.sh_base.specs.declared.numbers.Cell.TheVariants.{Undef, Val}
use Rattle.sh_base.specs.declared.operations.BinOp.{BinOp}
use Rattle.sh_base.specs.declared.operations.BinOp.TheVariants.{Addi, Subi, Muli, Divui, Divsi, Remui, Remsi, Andi, Ori, Xori, Maxsi, Minsi, Maxui, Minui, Shli, Shrui, Shrsi}
use Rattle.sh_base.specs.declared.operations.Predicate.{Predicate}
use Rattle.sh_base.specs.declared.operations.Predicate.TheVariants.{Eq, Ne, Slt, Sle, Sgt, Sge, Ult, Ule, Ugt, Uge}
use Rattle.sh_base.specs.declared.operations.CastOp.{CastOp}
use Rattle.sh_base.specs.declared.operations.CastOp.TheVariants.{Extsi, Extui, Trunci}
use Rattle.sh_base.specs.Cells.{bits_of}
use Rattle.sh_int.specs.Signed.{signed_of, reduced, least_of, minus_one_of}

-- undefined where an operand is
abbrev pub on_numbers : (ℕ → ℕ → ℕ) → Cell → Cell → Cell
on_numbers f Undef b = Undef
on_numbers f (Val x) Undef = Undef
on_numbers f (Val x) (Val y) = Val (f x y)

-- what an operation gives at two numbers where it isn't stuck: arithmetic on unbounded numbers, reduced at the end
abbrev pub number_by : BinOp → Width → ℕ → ℕ → ℕ
number_by Addi w x y = (x + y) % 2 ^ bits_of w
number_by Subi w x y = reduced w (pos x -ℤ pos y)
number_by Muli w x y = (x * y) % 2 ^ bits_of w
number_by Divui w x y = x / y
number_by Divsi w x y = reduced w (int_div (signed_of w x) (signed_of w y))
number_by Remui w x y = x % y
number_by Remsi w x y = reduced w (int_rem (signed_of w x) (signed_of w y))
number_by Andi w x y = bit_and x y
number_by Ori w x y = bit_or x y
number_by Xori w x y = bit_xor x y
number_by Maxsi w x y = reduced w (int_max (signed_of w x) (signed_of w y))
number_by Minsi w x y = reduced w (int_min (signed_of w x) (signed_of w y))
number_by Maxui w x y = max x y
number_by Minui w x y = min x y
number_by Shli w x k = (x * 2 ^ k) % 2 ^ bits_of w
number_by Shrui w x k = x / 2 ^ k
number_by Shrsi w x k = reduced w (int_shr (signed_of w x) k)

-- a divisor that is 0 or undefined
abbrev pub is_no_divisor : Cell → Bool
is_no_divisor Undef = true
is_no_divisor (Val y) = y == 0

-- the least signed integer by -1, whose quotient is out of range
abbrev pub is_least_by_minus_one : Width → Cell → Cell → Bool
is_least_by_minus_one w Undef b = false
is_least_by_minus_one w (Val x) Undef = false
is_least_by_minus_one w (Val x) (Val y) = (x == least_of w) && (y == minus_one_of w)

-- a shift amount that is undefined, or at least the width
abbrev pub is_no_amount : Width → Cell → Bool
is_no_amount w Undef = true
is_no_amount w (Val k) = nat_le (bits_of w) k

abbrev pub is_stuck : BinOp → Width → Cell → Cell → Bool
is_stuck Divui w a b = is_no_divisor b
is_stuck Remui w a b = is_no_divisor b
is_stuck Divsi w a b = is_no_divisor b || is_least_by_minus_one w a b
is_stuck Remsi w a b = is_no_divisor b || is_least_by_minus_one w a b
is_stuck Shli w a b = is_no_amount w b
is_stuck Shrui w a b = is_no_amount w b
is_stuck Shrsi w a b = is_no_amount w b
is_stuck _ w a b = false

-- the cell that an operation gives, or none where it is stuck: what is stuck is decided before what is undefined
unfoldable pub element_of : BinOp → Width → Cell → Cell → Option Cell
element_of op w a b = if is_stuck op w a b then None else Some (on_numbers (number_by op w) a b)

abbrev pub holds : Predicate → Width → ℕ → ℕ → Bool
holds Eq w x y = x == y
holds Ne w x y = not (x == y)
holds Slt w x y = int_lt (signed_of w x) (signed_of w y)
holds Sle w x y = int_le (signed_of w x) (signed_of w y)
holds Sgt w x y = int_lt (signed_of w y) (signed_of w x)
holds Sge w x y = int_le (signed_of w y) (signed_of w x)
holds Ult w x y = nat_lt x y
holds Ule w x y = nat_le x y
holds Ugt w x y = nat_lt y x
holds Uge w x y = nat_le y x

-- the `i1` cell of a comparison
unfoldable pub comparison_of : Predicate → Width → Cell → Cell → Cell
comparison_of p w a b = on_numbers (λ x y. if holds p w x y then 1 else 0) a b

-- an extension widens, a truncation narrows
abbrev pub CanCast : CastOp → Width → Width → Type 0
CanCast Extsi from to = bits_of from < bits_of to
CanCast Extui from to = bits_of from < bits_of to
CanCast Trunci from to = bits_of to < bits_of from

abbrev pub cast_number : CastOp → Width → Width → ℕ → ℕ
cast_number Extsi from to x = reduced to (signed_of from x)
cast_number Extui from to x = x
cast_number Trunci from to x = x % 2 ^ bits_of to

-- the cell of the width `to` that a cast makes of one of the width `from`
unfoldable pub cast_of : CastOp → Width → Width → Cell → Cell
cast_of c from to Undef = Undef
cast_of c from to (Val x) = Val (cast_number c from to x)
