use Rattle.std.proofs.Common.{◌+◌, ◌-◌, ap₂, sym, ◌∙◌, length, inl, inr}
use Rattle.std.specs.Prelude.{nat_eq}
use Rattle.sh_loops.proofs.SizeLaws.{none_by, room_of_none, room_of_points, room_without_points, some_by}
use Rattle.sh_loops.proofs.sizes.has_room.Goals as goal
use Rattle.sh_loops.proofs.sizes.has_room.Goals.{else-loops-ne1-via-then-loops-ne1+else-entry-eq0, else-loops-ne1-via-else-loops-ne1}

pub returns-then-is_empty : goal.returns-then-is_empty
returns-then-is_empty c = sym (room_of_none c.args.extents.now c.args.loops.now c.args.extent (none_by (length c.args.loops.now) c.is_empty.result c.is_empty.ensures c.if-is_empty.true))

pub returns-then-entry-eq0 : goal.returns-then-entry-eq0
returns-then-entry-eq0 c =
    sym (room_without_points c.args.extents.now c.args.loops.now c.args.extent _ c.if-loops-ne1.true (sym c.entry.ensures ∙ c.if-entry-eq0.true) (some_by (length c.args.loops.now) c.is_empty.result c.is_empty.ensures c.if-is_empty.false))

pub returns : goal.returns
returns c =
    let some = some_by (length c.args.loops.now) c.is_empty.result c.is_empty.ensures c.if-is_empty.false in
    ap₂ (λ a b. nat_eq (a + (length c.args.loops.now - 1)) b) c.from.ensures c.total_extent.ensures
    ∙ sym (elim c.else-loops-ne1.branch [
      | else-loops-ne1-via-then-loops-ne1+else-entry-eq0 w ↦ room_of_points c.args.extents.now c.args.loops.now c.args.extent _ some (inr (λ e. w.if-entry-eq0.false (w.entry.ensures ∙ e)))
      | else-loops-ne1-via-else-loops-ne1 w ↦ room_of_points c.args.extents.now c.args.loops.now c.args.extent 0 some (inl w.if-loops-ne1.false)
    ])
