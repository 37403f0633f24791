use Rattle.std.proofs.Common.{[], ◌∷◌, ◌++◌, ap, ◌∙◌, arith, length, refl}
use Rattle.std.proofs.lemmas.Grind.{common_steps}
use Rattle.std.proofs.lemmas.List.{length-map}
use Rattle.sh_ir.specs.Numbers.{as_natural, as_naturals}
use Rattle.sh_eval.proofs.SeatLaws.{all_axes, axis_below, few_axes, one_axis}
use Rattle.sh_eval.proofs.local.axes_on.Goals as goal

pub axis_of-requires : goal.axis_of-requires
axis_of-requires c =
    axis_below c.extents-rank.result.now c.args.g.now.extents c.args.axes.now c.loop-axis.axis-index _ _ (c.extents-rank.ensures.value ∙ c.extents.ensures.value) c.requires c.loop-axis-test.true refl

pub push_reserved-requires : goal.push_reserved-requires
push_reserved-requires c =
    let few = few_axes (length c.args.g.now.extents) (as_naturals c.args.axes.now) c.requires in
    let many = length-map c.args.axes.now as_natural in
    (omega arith, omega (arith, few, many, c.extents.ensures.grid.few, c.loop-axis-test.true, c.loop-axis.invariant.room, c.loop-axis.invariant.capacity))

pub loop-axis-preserved : goal.loop-axis-preserved
loop-axis-preserved c = record {
  value = one_axis c.args.axes.now c.loop-axis.found.items c.push_reserved.new.self.items c.loop-axis.axis-index _ _ c.loop-axis-test.true refl c.loop-axis.invariant.value
      (c.push_reserved.ensures.items ∙ ap (λ a. c.loop-axis.found.items ++ a ∷ []) c.axis_of.ensures);
  room = grind (arith, common_steps);
  capacity = grind (arith, common_steps);
}

pub shape-requires : goal.shape-requires
shape-requires c =
    let few = few_axes (length c.args.g.now.extents) (as_naturals c.args.axes.now) c.requires in
    let many = length-map c.args.axes.now as_natural in
    omega (arith, few, many, c.extents.ensures.grid.few, c.loop-axis-test.false, c.loop-axis.invariant.room, ap length c.as_slice.ensures, c.loop-axis.auto.axis-index-end)

pub returns : goal.returns
returns c = c.shape.ensures ∙ c.as_slice.ensures ∙ all_axes c.args.axes.now c.loop-axis.found.items c.loop-axis.axis-index c.loop-axis-test.false c.loop-axis.invariant.value
