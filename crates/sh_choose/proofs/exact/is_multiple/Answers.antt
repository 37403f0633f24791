use Rattle.std.proofs.Common.{◌≢◌, arith, subst}
use Rattle.std.specs.Prelude.{◌%◌}
use Rattle.sh_sharding.specs.Sharding.{dimension_of}
use Rattle.sh_choose.proofs.OffsetLaws.{is_multiple-all, is_multiple-not}
use Rattle.sh_choose.proofs.exact.is_multiple.Goals as goal

pub returns-then-offset-factor-ne0 : goal.returns-then-offset-factor-ne0
returns-then-offset-factor-ne0 c =
    is_multiple-not c.args.s.now.grid.extents (dimension_of c.args.s.now c.args.dim) c.args.factor c.loop-part.part (omega (arith, c.loop-part-test.true, c.part_count-part-end.ensures.value))
    (subst (λ n. n % c.args.factor ≢ 0) c.offset.ensures.value c.if-offset-factor-ne0.true)

pub returns : goal.returns
returns c =
    is_multiple-all c.args.s.now.grid.extents (dimension_of c.args.s.now c.args.dim) c.args.factor c.loop-part.part c.if-factor-eq0.false (omega (arith, c.loop-part-test.false, c.loop-part.auto.part-end, c.part_count-part-end.ensures.value)) c.loop-part.invariant
