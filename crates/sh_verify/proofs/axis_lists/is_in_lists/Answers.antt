use mathlib.Core.Path.{◌∙◌, ap, sym}
use Rattle.std.proofs.Common.{◌+◌, ◌||◌, drop}
use Rattle.sh_ir.specs.Numbers.{as_naturals}
use Rattle.sh_ir.specs.Regions.{is_among}
use Rattle.sh_verify.specs.Lists.{all_axes}
use Rattle.sh_verify.proofs.DistinctLaws.{among_next}
use Rattle.sh_verify.proofs.axis_lists.is_in_lists.Goals as goal

pub returns-then-is_listed : goal.returns-then-is_listed
returns-then-is_listed c =
    let more = is_among (as_naturals (all_axes (drop (c.loop-axes.axes-index + 1) c.args.lists.now))) c.args.number in
    ap (λ b. b || more) (sym c.if-is_listed.true)
    ∙ among_next c.args.lists.now c.loop-axes.axes-index c.axes-item.result c.as_slice.result.now c.args.number c.is_listed.result _
    c.loop-axes-test.true c.axes-item.is c.as_slice.ensures c.is_listed.ensures c.loop-axes.invariant

pub loop-axes-preserved : goal.loop-axes-preserved
loop-axes-preserved c =
    let more = is_among (as_naturals (all_axes (drop (c.loop-axes.axes-index + 1) c.args.lists.now))) c.args.number in
    ap (λ b. b || more) (sym c.if-is_listed.false)
    ∙ among_next c.args.lists.now c.loop-axes.axes-index c.axes-item.result c.as_slice.result.now c.args.number c.is_listed.result _
    c.loop-axes-test.true c.axes-item.is c.as_slice.ensures c.is_listed.ensures c.loop-axes.invariant
