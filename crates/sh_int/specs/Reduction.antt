-- How collectives combine cells, and the laws of a combine.
use Rattle.std.specs.Prelude.{◌≡◌, ℕ, Some}
use Rattle.sh_base.specs.declared.numbers.Width.{Width}
use Rattle.sh_base.specs.declared.numbers.Cell.{Cell}
use Rattle.sh_base.specs.declared.numbers.Cell.TheVariants.{Val}
use Rattle.sh_base.specs.declared.operations.BinOp.{BinOp}
use Rattle.sh_base.specs.declared.operations.BinOp.TheVariants.{Addi, Muli, Maxsi, Minsi, Andi, Ori, Xori}
use Rattle.sh_base.specs.declared.operations.Kind.{Kind}
use Rattle.sh_base.specs.declared.operations.Kind.TheVariants.{Sum, Product, Max, Min, And, Or, Xor}
use Rattle.sh_int.specs.Signed.{least_of, greatest_of, minus_one_of}
use Rattle.sh_int.specs.Elements.{on_numbers, number_by, element_of}

-- the operation by which a kind combines
abbrev pub operation_of : Kind → BinOp
operation_of Sum = Addi
operation_of Product = Muli
operation_of Max = Maxsi
operation_of Min = Minsi
operation_of And = Andi
operation_of Or = Ori
operation_of Xor = Xori

-- how a kind combines two cells
unfoldable pub combine_of : Kind → Width → Cell → Cell → Cell
combine_of k w a b = on_numbers (number_by (operation_of k) w) a b

abbrev pub neutral_number : Kind → Width → ℕ
neutral_number Sum w = 0
neutral_number Product w = 1
neutral_number Max w = least_of w
neutral_number Min w = greatest_of w
neutral_number And w = minus_one_of w
neutral_number Or w = 0
neutral_number Xor w = 0

-- the cell of a kind that changes none
unfoldable pub neutral_of : Kind → Width → Cell
neutral_of k w = Val (neutral_number k w)

-- a combine of the values in Is whose grouping and order don't matter, with a neutral value among them
pub record CombineLaws {A : Type 0} (Is : A → Type 0) (neutral : A) (combine : A → A → A) : Type 0 where
  pub neutral_is : Is neutral
  pub closed : (x y : A) → Is x → Is y → Is (combine x y)
  pub left_neutral : (x : A) → Is x → combine neutral x ≡ x
  pub associative : (x y z : A) → Is x → Is y → Is z → combine (combine x y) z ≡ combine x (combine y z)
  pub commutative : (x y : A) → Is x → Is y → combine x y ≡ combine y x

-- a value is lost to `absorbing` on either side
abbrev pub Absorbs : {A : Type 0} → A → (A → A → A) → Type 0
Absorbs {A} absorbing combine = (x : A) → (combine absorbing x ≡ absorbing) × (combine x absorbing ≡ absorbing)

-- the kind's element operation is never stuck, and combines
abbrev pub IsOperation : Kind → Width → Type 0
IsOperation k w = (a b : Cell) → element_of (operation_of k) w a b ≡ Some (combine_of k w a b)
