use mathlib.Core.Path.{◌∙◌, sym}
use Rattle.sh_verify.proofs.ProductLaws.{counts_within, group_next, groups_end}
use Rattle.sh_verify.proofs.slices.count_up.Goals as goal

pub returns-in-None : goal.returns-in-None
returns-in-None c =
    group_next c.args.groups.now c.loop-group.group-index c.loop-group.next c.args.bound c.group-item.result c.as_slice.result.now _ _
    c.loop-group-test.true c.group-item.is c.as_slice.ensures c.loop-group.invariant.1 (sym c.count_on.ensures ∙ c.in-None.is)
    c.loop-group.invariant.0

pub loop-group-preserved : goal.loop-group-preserved
loop-group-preserved c = (
  group_next c.args.groups.now c.loop-group.group-index c.loop-group.next c.args.bound c.group-item.result c.as_slice.result.now _ _
      c.loop-group-test.true c.group-item.is c.as_slice.ensures c.loop-group.invariant.1 (sym c.count_on.ensures ∙ c.in-Some.is)
      c.loop-group.invariant.0,
  counts_within _ c.loop-group.next c.args.bound c.in-Some.after c.loop-group.invariant.1 (sym c.count_on.ensures ∙ c.in-Some.is),
)

pub returns : goal.returns
returns c =
    groups_end c.args.groups.now c.loop-group.group-index c.loop-group.next c.args.bound _ c.loop-group-test.false
    c.loop-group.invariant.1 c.loop-group.invariant.0
