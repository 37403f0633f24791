use Rattle.std.proofs.Common.{◌<◌, arith, refl, subst}
use Rattle.std.specs.Prelude.{◌^◌}
use Rattle.std.specs.List.{All}
use Rattle.std.proofs.lemmas.List.{take_all}
use Rattle.std.proofs.lemmas.List.Elements.{All-more}
use Rattle.sh_eval.proofs.layouts.are_words.Goals as goal

pub loop-extent-preserved : goal.loop-extent-preserved
loop-extent-preserved c =
    All-more (λ n. n < 2 ^ 64) c.args.extents.now c.loop-extent.extent-index 0 c.loop-extent-test.true c.loop-extent.invariant (omega (arith, c.if-extent-from.false, c.from.ensures))

pub returns : goal.returns
returns c = (
  λ u. subst (All (λ n. n < 2 ^ 64)) (take_all c.loop-extent.extent-index c.args.extents.now (omega (arith, c.loop-extent-test.false))) c.loop-extent.invariant,
  λ all. refl,
)
