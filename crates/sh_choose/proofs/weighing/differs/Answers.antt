use Rattle.sh_choose.proofs.SameLaws.{differs_shown}
use Rattle.sh_choose.proofs.weighing.differs.Goals as goal

pub returns : goal.returns
returns g c =
    differs_shown (g.O.HasLoops.meaning c.args.op.now).nest c.args.g.now c.args.o.now c.args.k.now c.in_ok-implied.implied c.same.result c.requires.known.grid c.in_ok-implied.ensures c.same.ensures
