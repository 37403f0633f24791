use Rattle.std.proofs.Common.{refl, arith}
use Rattle.sh_sharding.specs.Views.{mark_in}
use Rattle.sh_sharding.proofs.ViewLaws.{is_dividing, balanced_only}
use Rattle.sh_sharding.proofs.offsets.is_balanced.Goals as goal

pub returns : goal.returns
returns c =
    let normal = (is_dividing c.args.extent c.args.parts c.args.mark c.requires).normal in (
      λ t. balanced_only c.args.extent c.args.parts (mark_in c.args.extent c.args.parts c.args.mark) normal (λ k l. c.loop-part.invariant k (omega (arith, c.loop-part-test.false))),
      λ e. refl,
    )
