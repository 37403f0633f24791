use mathlib.Core.Path.{◌∙◌, ap, sym}
use Rattle.std.proofs.Common.{◌+◌, ◌-◌, ◌&&◌, ◌||◌, nat_eq}
use Rattle.std.specs.List.{range_with_len}
use Rattle.sh_verify.specs.Joins.{column_agrees, columns_agree}
use Rattle.sh_verify.proofs.LoopLaws.{numbers_next}
use Rattle.sh_verify.proofs.joins.columns_agree.Goals as goal

pub loop-at-preserved : goal.loop-at-preserved
loop-at-preserved c =
    let more = columns_agree c.args.axis c.args.types.now (range_with_len (c.loop-at.at + 1) (c.args.rank - (c.loop-at.at + 1))) in
    ap (λ b. b && more) (sym c.if-not-column_agrees.false)
    ∙ numbers_next (λ i. nat_eq i c.args.axis || column_agrees c.args.types.now i) c.loop-at.at c.args.rank c.column_agrees.result _ c.loop-at-test.true c.column_agrees.ensures
    c.loop-at.invariant
