-- Regions that combine their output's cell with a cell of their own, and regions that don't ask for
-- the loop point.
use Rattle.std.specs.Prelude.{◌≡◌, ◌≢◌, ◌⊎◌, ℕ, suc, ◌+◌, List, [], ◌∷◌, ◌++◌, length, Option, Some, slice_get, option_and_then}
use Rattle.std.specs.List.{AllByRecursion}
use Rattle.sh_base.specs.declared.numbers.Cell.{Cell}
use Rattle.sh_base.specs.declared.numbers.Cell.TheVariants.{Undef}
use Rattle.sh_base.specs.declared.numbers.Width.{Width}
use Rattle.sh_base.specs.declared.operations.Kind.{Kind}
use Rattle.sh_int.specs.Reduction.{operation_of}
use Rattle.sh_ir.specs.declared.bodies.BodyKind.{BodyKind}
use Rattle.sh_ir.specs.declared.bodies.BodyKind.TheVariants.{Constant, Binary, Compare, Select, Cast, Index, IndexCast}
use Rattle.sh_sem.specs.Region.{PlacedOp, PlacedBody, cells_after}
use Rattle.sh_sem.specs.Scalars.{width_of}

-- ---- the loop point

abbrev pub IsPointFree : BodyKind → Type 0
IsPointFree (Constant x) = Unit {0}
IsPointFree (Binary op) = Unit {0}
IsPointFree (Compare x) = Unit {0}
IsPointFree (Select x) = Unit {0}
IsPointFree (Cast x) = Unit {0}
IsPointFree (Index x) = ⊥
IsPointFree IndexCast = Unit {0}

-- no operation takes a coordinate of it
abbrev pub ArePointFree : List PlacedOp → Type 0
ArePointFree ops = AllByRecursion (λ op. IsPointFree op.kind) ops

-- ---- kinds

-- none of the sources is that place
abbrev pub ReadsNot : ℕ → List (Option ℕ) → Type 0
ReadsNot place [] = Unit {0}
ReadsNot place (s ∷ sources) = (s ≢ Some place) × ReadsNot place sources

-- the two operands are these, in either order
abbrev pub ReadsBoth : ℕ → ℕ → List (Option ℕ) → Type 0
ReadsBoth out other sources =
    (sources ≡ Some out ∷ Some other ∷ []) ⊎ (sources ≡ Some other ∷ Some out ∷ [])

-- The output's cell is the last of the first ones, with the number `out`. One operation combines it
-- with another cell, and is yielded; no other one uses the output's cell or that value.
pub record HasBodyKind (k : Kind) (w : Width) (out : ℕ) (body : PlacedBody) : Type 0 where
  pub before : List PlacedOp
  pub combine : PlacedOp
  pub after : List PlacedOp
  pub other : ℕ
  pub ops : body.ops ≡ before ++ combine ∷ after
  pub kind : combine.kind ≡ Binary (operation_of k)
  pub width : width_of combine.result ≡ w
  pub sources : ReadsBoth out other combine.sources
  pub differs : other ≢ out
  pub yields : body.yields ≡ Some (suc out + length before)
  pub unused : AllByRecursion (λ op. ReadsNot out op.sources) before
  pub unused_after : AllByRecursion
      (λ op. ReadsNot out op.sources × ReadsNot (suc out + length before) op.sources) after

-- what is combined with the value so far, at a loop point
unfoldable pub term_of : PlacedBody → ℕ → List ℕ → List Cell → Option Cell
term_of body other point cells =
    option_and_then (λ after. slice_get after other)
    (cells_after body.ops point (cells ++ Undef ∷ []))
