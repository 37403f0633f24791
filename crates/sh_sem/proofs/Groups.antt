-- What the laws of pieces ask of groups holds of the operations of device form on every grid.
use Rattle.std.proofs.Common.{◌≡◌, ℕ, ◌<◌, List, [], Option, Some, None, refl, arith}
use Rattle.std.specs.Prelude.{All, option_and_then, slice_get}
use Rattle.std.proofs.lemmas.List.Elements.{All-from_get_or}
use Rattle.sh_base.specs.Shape.{cell_count}
use Rattle.sh_grid.specs.Grid.{group_of, group_size_of}
use Rattle.sh_grid.proofs.GroupLaws.{member_of-below, length-group_of, get_or-group_of}
use Rattle.sh_ir.specs.declared.operations.Op.{Op}
use Rattle.sh_pieces.specs.Instructions.{HasGroups}
use Rattle.sh_sem.specs.Collected.{Collecting, collecting, collected, shapes_collected, result_at, shapes_by}
use Rattle.sh_ir.specs.Agreement.{dims_of}
use Rattle.sh_sem.specs.Steps.{axes_of, steps_on}

-- the members of a device's group are devices
members_below : (grid axes : List ℕ) (c : ℕ) → c < cell_count grid → All (λ m. m < cell_count grid) (group_of grid axes c)
members_below grid axes c below = All-from_get_or (λ m. m < cell_count grid) (group_of grid axes c) 0
    (λ place l.
    let within : place < group_size_of grid axes = omega (arith, length-group_of grid axes c) in
    rw (get_or-group_of grid axes c place 0 within) (member_of-below grid axes c place below within))

-- a group without members gets nothing
nothing_collected : (op : Op) (grid : List ℕ) (p : ℕ) → collected op grid [] p ≡ None
unfolding collected shapes_collected
nothing_collected op grid p = go (collecting op.kind grid)
  where
    go : (o : Option Collecting) → option_and_then (result_at op grid [] p) (option_and_then (λ shapes. slice_get shapes p) (option_and_then (shapes_by (dims_of op.result) []) o)) ≡ None
    go None = refl
    go (Some x) = refl

pub has_groups : (grid : List ℕ) → HasGroups (steps_on grid)
unfolding steps_on
has_groups grid = record {
  inside = λ op c below collective. members_below grid (axes_of op.kind) c below;
  empty = λ op c collective. nothing_collected op grid _;
}
