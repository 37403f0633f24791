use Rattle.std.proofs.Common.{ap, ◌∙◌, sym, arith, length, refl}
use Rattle.std.proofs.lemmas.Grind.{common_steps}
use Rattle.std.proofs.lemmas.List.{get_or-map, length-map}
use Rattle.sh_ir.specs.Numbers.{as_natural, as_naturals}
use Rattle.sh_sharding.proofs.AxisListLaws.{few_axes}
use Rattle.sh_collectives.proofs.DescribedLaws.{axis_below}
use Rattle.sh_collectives.proofs.ListLaws.{pushed, copied}
use Rattle.sh_world.proofs.groups.axes_on.Goals as goal

pub axis_of-requires : goal.axis_of-requires
axis_of-requires c =
    axis_below c.extents-rank.result.now c.args.g.now.extents c.args.axes.now c.loop-axis.axis-index _ _ (c.extents-rank.ensures.value ∙ c.extents.ensures.value) c.requires c.loop-axis-test.true refl

pub push_reserved-requires : goal.push_reserved-requires
push_reserved-requires c =
    let few = few_axes (length c.args.g.now.extents) (as_naturals c.args.axes.now) c.requires in
    let many = length-map c.args.axes.now as_natural in
    (omega arith, omega (arith, few, many, c.extents.ensures.grid.few, c.loop-axis-test.true, c.loop-axis.invariant.room, c.loop-axis.invariant.capacity))

pub loop-axis-preserved : goal.loop-axis-preserved
loop-axis-preserved c =
    let many = length-map c.args.axes.now as_natural in
    record {
      value =
          pushed (as_naturals c.args.axes.now) c.loop-axis.found.items c.push_reserved.new.self.items c.loop-axis.axis-index c.axis_of.result 0
          (rw many c.loop-axis-test.true)
          (c.axis_of.ensures ∙ sym (get_or-map as_natural c.args.axes.now c.loop-axis.axis-index _ 0 c.loop-axis-test.true))
          c.loop-axis.invariant.value c.push_reserved.ensures.items;
      room = grind (arith, common_steps);
      capacity = grind (arith, common_steps);
    }

pub shape-requires : goal.shape-requires
shape-requires c =
    let few = few_axes (length c.args.g.now.extents) (as_naturals c.args.axes.now) c.requires in
    let many = length-map c.args.axes.now as_natural in
    omega (arith, few, many, c.extents.ensures.grid.few, c.loop-axis-test.false, c.loop-axis.invariant.room, ap length c.as_slice.ensures, c.loop-axis.auto.axis-index-end)

pub returns : goal.returns
returns c =
    let many = length-map c.args.axes.now as_natural in
    c.shape.ensures ∙ c.as_slice.ensures
    ∙ copied (as_naturals c.args.axes.now) c.loop-axis.found.items c.loop-axis.axis-index (rw many c.loop-axis-test.false) c.loop-axis.invariant.value
