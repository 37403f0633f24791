-- Regions: what their operations give of cells, and what a run knows at each of them.
use Rattle.std.proofs.Common.{◌≡◌, ◌≢◌, ℕ, zero, suc, ◌+◌, ◌<◌, Bool, true, false, List, [], ◌∷◌, ◌++◌, map, length, get_or, drop, take, Option, Some, None, refl, ap, ap₂, sym, ◌∙◌, arith, subst, add-one}
use Rattle.std.specs.Prelude.{◌%◌, ◌^◌, slice_get, option_map, option_and_then}
use Rattle.sh_base.specs.Cells.{IsCellOf}
use Rattle.sh_base.specs.declared.numbers.Cell.{Cell}
use Rattle.sh_base.specs.declared.numbers.Cell.TheVariants.{Undef, Val}
use Rattle.sh_base.specs.declared.numbers.Width.{Width}
use Rattle.sh_base.specs.declared.numbers.Width.TheVariants.{I64}
use Rattle.sh_base.specs.declared.operations.CastOp.TheVariants.{Trunci}
use Rattle.sh_int.specs.Elements.{cast_of}
use Rattle.sh_sem.specs.Scalars.{on_one, on_two, on_three}

-- low bits of a cell that has no others
pub cast_to_itself : (a : Cell) → IsCellOf I64 a → cast_of Trunci I64 I64 a ≡ a
unfolding cast_of
cast_to_itself Undef h = refl
cast_to_itself (Val x) h = ap (λ y. Val y) (grind (arith, h))

-- ---- so many cells

pub one_cell : (xs : List Cell) (d : Cell) → length xs ≡ 1 → xs ≡ get_or xs 0 d ∷ []
one_cell [] d e = absurd (omega (arith, e))
one_cell (x ∷ []) d e = refl
one_cell (x ∷ y ∷ xs) d e = absurd (omega (arith, e))

pub two_cells : (xs : List Cell) (d e : Cell) → length xs ≡ 2 → xs ≡ get_or xs 0 d ∷ get_or xs 1 e ∷ []
two_cells [] d e l = absurd (omega (arith, l))
two_cells (x ∷ []) d e l = absurd (omega (arith, l))
two_cells (x ∷ y ∷ []) d e l = refl
two_cells (x ∷ y ∷ z ∷ xs) d e l = absurd (omega (arith, l))

pub three_cells : (xs : List Cell) (d e f : Cell) → length xs ≡ 3 → xs ≡ get_or xs 0 d ∷ get_or xs 1 e ∷ get_or xs 2 f ∷ []
three_cells [] d e f l = absurd (omega (arith, l))
three_cells (x ∷ []) d e f l = absurd (omega (arith, l))
three_cells (x ∷ y ∷ []) d e f l = absurd (omega (arith, l))
three_cells (x ∷ y ∷ z ∷ []) d e f l = refl
three_cells (x ∷ y ∷ z ∷ w ∷ xs) d e f l = absurd (omega (arith, l))

pub not_one : (f : Cell → Option Cell) (xs : List Cell) → length xs ≢ 1 → on_one f xs ≡ None
not_one f [] l = refl
not_one f (x ∷ []) l = absurd (l refl)
not_one f (x ∷ y ∷ xs) l = refl

pub not_two : (f : Cell → Cell → Option Cell) (xs : List Cell) → length xs ≢ 2 → on_two f xs ≡ None
not_two f [] l = refl
not_two f (x ∷ []) l = refl
not_two f (x ∷ y ∷ []) l = absurd (l refl)
not_two f (x ∷ y ∷ z ∷ xs) l = refl

pub not_three : (f : Cell → Cell → Cell → Option Cell) (xs : List Cell) → length xs ≢ 3 → on_three f xs ≡ None
not_three f [] l = refl
not_three f (x ∷ []) l = refl
not_three f (x ∷ y ∷ []) l = refl
not_three f (x ∷ y ∷ z ∷ []) l = absurd (l refl)
not_three f (x ∷ y ∷ z ∷ w ∷ xs) l = refl
