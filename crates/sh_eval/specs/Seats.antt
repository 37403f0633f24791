-- Where a device stands.
use Rattle.std.specs.Prelude.{◌≡◌, ℕ, List}
use Rattle.sh_grid.specs.Grid.{group_size_of, place_in}
use Rattle.sh_ir.specs.declared.operations.OpKind.{OpKind}
use Rattle.sh_ir.specs.declared.types.ValueType.{ValueType}
use Rattle.sh_sem.specs.Given.{Seat, giving}

-- in the group along these axes, on a grid of these extents
abbrev pub seat_along : List ℕ → List ℕ → ℕ → Seat
seat_along grid axes device = record {
  size = group_size_of grid axes;
  place = place_in grid axes device;
}

-- an operation of this kind gives the same at both seats
abbrev pub GivesAlike : OpKind → Seat → Seat → Type 0
GivesAlike kind s t =
    (operands : List ℕ) (result : ValueType)
    → giving kind operands result s ≡ giving kind operands result t
