use Rattle.sh_ways.proofs.Least.{smaller}
use Rattle.sh_ways.proofs.search.settle.Goals as goal

pub loop-fell-smaller : goal.loop-fell-smaller
loop-fell-smaller g c = smaller c.pass-fell.result c.loop-fell.fell c.pass-fell.new.d c.loop-fell.d c.loop-fell-test.true c.pass-fell.ensures.sums c.pass-fell.ensures.fell
