-- What an element operation gives is a number, and so a cell, of its width.
use Rattle.std.proofs.Common.{ℕ, ◌+◌, ◌*◌, ◌%◌, ◌^◌, ◌<◌, Bool, true, false, if◌then◌else◌, None, Some, IfSome, arith, lit<}
use Rattle.std.proofs.lemmas.Nat.{pow_pos, pow_below, mod_below, and_le_l, or_lt, xor_lt, shr_le}
use Rattle.std.proofs.Math.Nat.{div-le_self, mod-le}
use Rattle.sh_base.specs.declared.numbers.Width.{Width}
use Rattle.sh_base.specs.declared.numbers.Width.TheVariants.{I1}
use Rattle.sh_base.specs.declared.numbers.Cell.{Cell}
use Rattle.sh_base.specs.declared.numbers.Cell.TheVariants.{Undef, Val}
use Rattle.sh_base.specs.declared.operations.Predicate.{Predicate}
use Rattle.sh_base.specs.declared.operations.CastOp.{CastOp}
use Rattle.sh_base.specs.declared.operations.CastOp.TheVariants.{Extsi, Extui, Trunci}
use Rattle.sh_base.specs.declared.operations.BinOp.{BinOp}
use Rattle.sh_base.specs.declared.operations.BinOp.TheVariants.{Addi, Subi, Muli, Divui, Divsi, Remui, Remsi, Andi, Ori, Xori, Maxsi, Minsi, Maxui, Minui, Shli, Shrui, Shrsi}
use Rattle.sh_base.specs.Cells.{IsCellOf, bits_of}
use Rattle.sh_int.specs.Elements.{on_numbers, number_by, is_stuck, element_of, holds, comparison_of, CanCast, cast_number, cast_of}
use Rattle.sh_int.proofs.SignedLaws.{reduced-below}

low_below : (w : Width) (n : ℕ) → n % 2 ^ bits_of w < 2 ^ bits_of w
low_below w n = mod_below n (2 ^ bits_of w) (pow_pos (bits_of w))

pub number_by-below : (op : BinOp) (w : Width) (x y : ℕ) → x < 2 ^ bits_of w → y < 2 ^ bits_of w → number_by op w x y < 2 ^ bits_of w
number_by-below Addi w x y h k = low_below w (x + y)
number_by-below Subi w x y h k = reduced-below w _
number_by-below Muli w x y h k = low_below w (x * y)
number_by-below Divui w x y h k = omega (arith, div-le_self x y)
number_by-below Divsi w x y h k = reduced-below w _
number_by-below Remui w x y h k = omega (arith, mod-le x y)
number_by-below Remsi w x y h k = reduced-below w _
number_by-below Andi w x y h k = omega (arith, and_le_l x y)
number_by-below Ori w x y h k = or_lt (bits_of w) x y h k
number_by-below Xori w x y h k = xor_lt (bits_of w) x y h k
number_by-below Maxsi w x y h k = reduced-below w _
number_by-below Minsi w x y h k = reduced-below w _
number_by-below Maxui w x y h k = omega arith
number_by-below Minui w x y h k = omega arith
number_by-below Shli w x y h k = low_below w (x * 2 ^ y)
number_by-below Shrui w x y h k = omega (arith, shr_le x y)
number_by-below Shrsi w x y h k = reduced-below w _

pub on_numbers-within : (v w : Width) (f : ℕ → ℕ → ℕ) → ((x y : ℕ) → x < 2 ^ bits_of v → y < 2 ^ bits_of v → f x y < 2 ^ bits_of w) → (a b : Cell) → IsCellOf v a → IsCellOf v b → IsCellOf w (on_numbers f a b)
on_numbers-within v w f below Undef b h k = tt
on_numbers-within v w f below (Val x) Undef h k = tt
on_numbers-within v w f below (Val x) (Val y) h k = below x y h k

pub element_of-within : (op : BinOp) (w : Width) (a b : Cell) → IsCellOf w a → IsCellOf w b → IfSome (element_of op w a b) (λ c. IsCellOf w c)
unfolding element_of
element_of-within op w a b h k =
    let c = on_numbers (number_by op w) a b in
    elim (is_stuck op w a b) as (λ (t : Bool). IfSome (if t then None else Some c) (λ c. IsCellOf w c)) [
      | true ↦ tt
      | false ↦ on_numbers-within w w (number_by op w) (number_by-below op w) a b h k
    ]

pub comparison_of-within : (p : Predicate) (w : Width) (a b : Cell) → IsCellOf I1 (comparison_of p w a b)
unfolding comparison_of
comparison_of-within p w Undef b = tt
comparison_of-within p w (Val x) Undef = tt
comparison_of-within p w (Val x) (Val y) = elim (holds p w x y) as (λ (t : Bool). (if t then 1 else 0) < 2) [ true ↦ lit< tt | false ↦ lit< tt ]

cast_number-below : (c : CastOp) (from to : Width) (x : ℕ) → CanCast c from to → x < 2 ^ bits_of from → cast_number c from to x < 2 ^ bits_of to
cast_number-below Extsi from to x wider h = reduced-below to _
cast_number-below Extui from to x wider h = let more = pow_below (bits_of from) (bits_of to) wider in omega arith
cast_number-below Trunci from to x narrower h = low_below to x

pub cast_of-within : (c : CastOp) (from to : Width) (a : Cell) → CanCast c from to → IsCellOf from a → IsCellOf to (cast_of c from to a)
unfolding cast_of
cast_of-within c from to Undef can h = tt
cast_of-within c from to (Val x) can h = cast_number-below c from to x can h
