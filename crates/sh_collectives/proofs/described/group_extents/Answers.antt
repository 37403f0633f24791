use Rattle.std.proofs.Common.{ap, ◌∙◌, arith, length, refl}
use Rattle.std.proofs.lemmas.Grind.{common_steps}
use Rattle.std.proofs.lemmas.List.{length-map}
use Rattle.sh_grid.specs.Grid.{on_axes}
use Rattle.sh_ir.specs.Numbers.{as_naturals, as_natural}
use Rattle.sh_sharding.proofs.AxisListLaws.{few_axes}
use Rattle.sh_collectives.proofs.DescribedLaws.{axis_below, extent_of_axis, as_many}
use Rattle.sh_collectives.proofs.ListLaws.{pushed, copied}
use Rattle.sh_collectives.proofs.described.group_extents.Goals as goal

pub extent_on-requires : goal.extent_on-requires
extent_on-requires c = axis_below c.extents-all.result.now c.args.g.now.extents c.args.axes.now c.loop-axis.axis-index _ _ (c.extents-all.ensures.value ∙ c.extents.ensures.value) c.requires c.loop-axis-test.true refl

pub push_reserved-requires : goal.push_reserved-requires
push_reserved-requires c =
    let few = few_axes (length c.args.g.now.extents) (as_naturals c.args.axes.now) c.requires in
    let many = length-map c.args.axes.now as_natural in
    (omega arith, omega (arith, few, many, c.extents.ensures.grid.few, c.loop-axis-test.true, c.loop-axis.invariant.room, c.loop-axis.invariant.capacity))

pub loop-axis-preserved : goal.loop-axis-preserved
loop-axis-preserved c = record {
  value =
      pushed (on_axes (as_naturals c.args.axes.now) c.args.g.now.extents) c.loop-axis.found.items c.push_reserved.new.self.items c.loop-axis.axis-index c.extent_on.result 0
      (rw (as_many c.args.axes.now c.args.g.now.extents) c.loop-axis-test.true)
      (c.extent_on.ensures ∙ extent_of_axis c.extents-all.result.now c.args.g.now.extents c.args.axes.now c.loop-axis.axis-index _ _ (c.extents-all.ensures.value ∙ c.extents.ensures.value) c.loop-axis-test.true refl)
      c.loop-axis.invariant.value c.push_reserved.ensures.items;
  room = grind (arith, common_steps);
  capacity = grind (arith, common_steps);
}

pub shape-requires : goal.shape-requires
shape-requires c =
    let few = few_axes (length c.args.g.now.extents) (as_naturals c.args.axes.now) c.requires in
    let many = length-map c.args.axes.now as_natural in
    omega (arith, few, many, c.extents.ensures.grid.few, c.loop-axis-test.false, c.loop-axis.invariant.room, ap length c.as_slice.ensures, c.loop-axis.auto.axis-index-end)

pub returns : goal.returns
returns c =
    c.shape.ensures ∙ c.as_slice.ensures
    ∙ copied (on_axes (as_naturals c.args.axes.now) c.args.g.now.extents) c.loop-axis.found.items c.loop-axis.axis-index (rw (as_many c.args.axes.now c.args.g.now.extents) c.loop-axis-test.false)
    c.loop-axis.invariant.value
