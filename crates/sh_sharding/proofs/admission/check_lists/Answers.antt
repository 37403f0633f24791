use Rattle.std.proofs.Common.{◌∙◌}
use Rattle.sh_sharding.proofs.LeastRuleLaws.{least_A2, least_A3, kept_lists, listed_fit}
use Rattle.sh_sharding.proofs.admission.check_lists.Goals as goal

pub are_distinct-requires : goal.are_distinct-requires
are_distinct-requires c =
    listed_fit c.extents-2.result.now c.as_slice-lists.result.now c.as_slice.result.now (c.as_slice.ensures.value ∙ c.in_ok-listed.ensures) (c.are_axes.ensures.0 c.if-not-are_axes.false)

pub returns-then-not-are_distinct-clause-refused : goal.returns-then-not-are_distinct-clause-refused
returns-then-not-are_distinct-clause-refused c =
    least_A2 c.args.g.now c.args.raw.now c.args.s.now c.extents-2.result.now c.as_slice-lists.result.now c.as_slice.result.now c.are_distinct.result (c.extents-2.ensures.value ∙ c.extents.ensures.value) c.as_slice-lists.ensures
    (c.as_slice.ensures.value ∙ c.in_ok-listed.ensures) (c.are_axes.ensures.0 c.if-not-are_axes.false) c.if-not-are_distinct.true c.are_distinct.ensures.1

pub returns-then-lists-extents-clause-refused : goal.returns-then-lists-extents-clause-refused
returns-then-lists-extents-clause-refused c =
    least_A3 c.args.g.now c.args.raw.now c.args.s.now c.extents-2.result.now c.as_slice-lists.result.now c.as_slice.result.now (c.extents-2.ensures.value ∙ c.extents.ensures.value) c.as_slice-lists.ensures
    (c.as_slice.ensures.value ∙ c.in_ok-listed.ensures) (c.are_axes.ensures.0 c.if-not-are_axes.false) (c.are_distinct.ensures.0 c.if-not-are_distinct.false)
    (rw (← c.extents-3.ensures.value) c.if-lists-extents.true)

pub returns-clause-kept : goal.returns-clause-kept
returns-clause-kept c =
    kept_lists c.args.g.now c.args.raw.now c.args.s.now c.extents-2.result.now c.as_slice-lists.result.now c.as_slice.result.now (c.extents-2.ensures.value ∙ c.extents.ensures.value) c.as_slice-lists.ensures
    (c.as_slice.ensures.value ∙ c.in_ok-listed.ensures) (c.are_axes.ensures.0 c.if-not-are_axes.false) (c.are_distinct.ensures.0 c.if-not-are_distinct.false)
    (rw (← c.extents-3.ensures.value) c.if-lists-extents.false)
