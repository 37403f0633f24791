use Rattle.std.proofs.Common.{arith}
use Rattle.sh_ir.specs.Numbers.{as_naturals}
use Rattle.sh_iface_linalg.proofs.ListedLaws.{count_next}
use Rattle.sh_iface_linalg.proofs.maps.unlisted_count.Goals as goal

pub loop-number-preserved : goal.loop-number-preserved
loop-number-preserved c = (
  count_next (as_naturals c.args.listed.now) c.loop-number.number c.args.bound c.loop-number.count c.count_one-count.result _
      c.loop-number-test.true c.count_one-count.ensures.value c.loop-number.invariant.0,
  omega arith,
)
