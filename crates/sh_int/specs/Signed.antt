-- Two's complement: the integer that a number of a width stands for, and the number that is left of an integer.
use Rattle.std.specs.Prelude.{◌≡◌, ℕ, ◌*◌, ◌-◌, ◌^◌, ◌<◌, nat_lt, if◌then◌else◌, ℤ, pos, negsuc, ◌-ℤ◌, ◌≤ℤ◌, unsigned_abs}
use Rattle.std.specs.Int.{int_rem_euclid}
use Rattle.sh_base.specs.declared.numbers.Width.{Width}
use Rattle.sh_base.specs.Cells.{bits_of}

-- what a number stands for: from the middle on, a negative integer
abbrev pub signed_of : Width → ℕ → ℤ
signed_of w x = if nat_lt (2 * x) (2 ^ bits_of w) then pos x else pos x -ℤ pos (2 ^ bits_of w)

-- the number of the width that differs from z by a multiple of 2 ^ bits_of w
abbrev pub reduced : Width → ℤ → ℕ
reduced w z = unsigned_abs (int_rem_euclid z (pos (2 ^ bits_of w)))

-- the number of the least signed integer, of the greatest one, and of -1
abbrev pub least_of : Width → ℕ
least_of w = 2 ^ (bits_of w - 1)

abbrev pub greatest_of : Width → ℕ
greatest_of w = 2 ^ (bits_of w - 1) - 1

abbrev pub minus_one_of : Width → ℕ
minus_one_of w = 2 ^ bits_of w - 1

-- an integer from -2 ^ (bits_of w - 1) up to 2 ^ (bits_of w - 1) - 1
pub record IsSigned (w : Width) (z : ℤ) : Type 0 where
  pub low : negsuc (2 ^ (bits_of w - 1) - 1) ≤ℤ z
  pub high : z ≤ℤ pos (2 ^ (bits_of w - 1) - 1)

-- the numbers of the width stand for these integers, one for one, and an integer in range is the one that is left of it
pub record TwosComplement (w : Width) : Type 0 where
  pub in_range : (x : ℕ) → x < 2 ^ bits_of w → IsSigned w (signed_of w x)
  pub number : (x : ℕ) → x < 2 ^ bits_of w → reduced w (signed_of w x) ≡ x
  pub below : (z : ℤ) → reduced w z < 2 ^ bits_of w
  pub integer : (z : ℤ) → IsSigned w z → signed_of w (reduced w z) ≡ z
