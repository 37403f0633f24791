use Rattle.std.proofs.Common.{◌≡◌, map}
use Rattle.sh_grid.specs.Grid.{group_size_of, member_of}
use Rattle.sh_eval.specs.Devices.{operand_of}
use Rattle.sh_lockstep.specs.Tables.{values_in}
use Rattle.sh_collectives.proofs.PlaceRows.{from_place, so_far}
use Rattle.sh_lockstep.proofs.steps.group_operands.Given as goal

abbrev pub invariant-loop-place : goal.invariant-loop-place
invariant-loop-place l =
    so_far (map (λ t. t.now) l.ts.items)
    (from_place (λ p. operand_of l.op (values_in l.table (member_of l.g.extents l.axes l.device p))) (group_size_of l.g.extents l.axes) l.place)
    ≡ from_place (λ p. operand_of l.op (values_in l.table (member_of l.g.extents l.axes l.device p))) (group_size_of l.g.extents l.axes) 0
