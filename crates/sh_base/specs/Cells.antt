-- The cells of a width.
use Rattle.std.specs.Prelude.{ℕ, ◌^◌, ◌<◌}
use Rattle.sh_base.specs.declared.numbers.Cell.{Cell}
use Rattle.sh_base.specs.declared.numbers.Cell.TheVariants.{Undef, Val}
use Rattle.sh_base.specs.declared.numbers.Width.{Width}
use Rattle.sh_base.specs.declared.numbers.Width.TheVariants.{I1, I8, I16, I32, I64}

-- how many bits a number of this width has
abbrev pub bits_of : Width → ℕ
bits_of I1 = 1
bits_of I8 = 8
bits_of I16 = 16
bits_of I32 = 32
bits_of I64 = 64

-- a cell of this width: undefined, or a number below two to the width
abbrev pub IsCellOf : Width → Cell → Type 0
IsCellOf w Undef = Unit {0}
IsCellOf w (Val x) = x < 2 ^ bits_of w
