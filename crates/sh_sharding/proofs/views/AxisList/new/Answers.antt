use Rattle.std.proofs.Common.{refl}
use Rattle.sh_sharding.proofs.ViewLaws.{copied_more, all_copied}
use Rattle.sh_sharding.proofs.views.AxisList.new.Goals as goal

pub loop-at-preserved : goal.loop-at-preserved
loop-at-preserved c =
    copied_more c.args.axes.now c.loop-at.at c.loop-at.list.axes c.loop-at.list.count _ c.loop-at.invariant c.requires c.loop-at-test.true refl

pub returns : goal.returns
returns c = all_copied c.loop-at.list c.args.axes.now c.loop-at.at c.loop-at.invariant c.loop-at-test.false c.requires
