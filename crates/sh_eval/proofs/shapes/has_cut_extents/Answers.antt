use Rattle.std.proofs.Common.{◌+◌, ap, sym, ◌∙◌, drop, arith}
use Rattle.std.specs.Prelude.{◌&&◌}
use Rattle.sh_sem.specs.Types.{have_extents}
use Rattle.sh_eval.proofs.ListRules.{end_extents, length_of_cut, next_cut, other_lengths}
use Rattle.sh_eval.proofs.shapes.has_cut_extents.Goals as goal

pub returns-then-dims-extents-clause-value : goal.returns-then-dims-extents-clause-value
returns-then-dims-extents-clause-value c =
    λ s is. sym (other_lengths c.args.dims.now s (λ e. c.if-dims-extents.true (e ∙ length_of_cut s c.args.extents.now is)))

pub returns-then-not-is_cut_extent-clause-value : goal.returns-then-not-is_cut_extent-clause-value
returns-then-not-is_cut_extent-clause-value c =
    λ s is.
    sym (ap (λ b. b && have_extents (drop (c.loop-at.at + 1) c.args.dims.now) (drop (c.loop-at.at + 1) s)) c.if-not-is_cut_extent.true)
    ∙ sym (next_cut c.args.dims.now s c.args.extents.now c.loop-at.at _ _ c.is_cut_extent.result c.loop-at-test.true c.if-dims-extents.false is c.is_cut_extent.ensures)
    ∙ c.loop-at.invariant s is

pub loop-at-preserved : goal.loop-at-preserved
loop-at-preserved c =
    λ s is.
    sym (ap (λ b. b && have_extents (drop (c.loop-at.at + 1) c.args.dims.now) (drop (c.loop-at.at + 1) s)) c.if-not-is_cut_extent.false)
    ∙ sym (next_cut c.args.dims.now s c.args.extents.now c.loop-at.at _ _ c.is_cut_extent.result c.loop-at-test.true c.if-dims-extents.false is c.is_cut_extent.ensures)
    ∙ c.loop-at.invariant s is

pub returns-clause-value : goal.returns-clause-value
returns-clause-value c =
    λ s is.
    let same = length_of_cut s c.args.extents.now is in
    sym (end_extents c.args.dims.now s c.loop-at.at (omega (arith, c.loop-at-test.false)) (omega (arith, c.loop-at-test.false, c.if-dims-extents.false, same))) ∙ c.loop-at.invariant s is
