use Rattle.std.proofs.Common.{◌∙◌, ap, sym}
use Rattle.sh_sharding.specs.AxisLists.{listed}
use Rattle.sh_sharding.specs.OffsetLists.{marked}
use Rattle.sh_sharding.proofs.WrittenLaws.{has_axes, marked_listed}
use Rattle.sh_sharding.proofs.LeastRuleLaws.{axes_asked}
use Rattle.sh_sharding.proofs.admission.divided.Goals as goal

pub listed_dimensions-requires : goal.listed_dimensions-requires
listed_dimensions-requires c =
    let axes = has_axes c.args.g.now c.args.raw.now c.args.s.now c.requires.grid.few c.requires.lists in
    rw c.as_slice.ensures (record { fit = axes.fit; short = axes.short })

pub marked_dimensions-requires : goal.marked_dimensions-requires
marked_dimensions-requires c =
    axes_asked c.args.g.now c.args.raw.now c.args.s.now c.as_slice-2.result.now c.requires.grid.few c.requires.lists
    (c.as_slice-2.ensures.value ∙ c.in_ok-dimensions.ensures ∙ ap (λ z. listed z c.args.s.now) c.as_slice.ensures)

pub returns-then-is_empty-clause-kept : goal.returns-then-is_empty-clause-kept
returns-then-is_empty-clause-kept c =
    let none = c.is_empty.ensures.0 c.if-is_empty.true in
    let same = c.in_ok-dimensions.ensures ∙ ap (λ z. listed z c.args.s.now) c.as_slice.ensures in (
      λ given. absurd (given none),
      same ∙ marked_listed c.args.g.now.extents c.args.raw.now.split c.args.s.now ∙ ap (marked c.args.g.now.extents (listed c.args.raw.now.split c.args.s.now)) (sym none),
    )
