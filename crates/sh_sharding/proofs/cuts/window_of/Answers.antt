use Rattle.std.proofs.Common.{arith}
use Rattle.sh_sharding.specs.Windows.{from_in, end_in, taken_in, before_in, after_in}
use Rattle.sh_sharding.proofs.cuts.window_of.Goals as goal

pub returns : goal.returns
unfolding from_in taken_in end_in before_in after_in
returns c =
    let start = c.span-start.ensures.start in
    let size = c.span-start.ensures.size in
    let from = c.saturating_sub-from.ensures in
    let to = c.min.ensures in
    let before = c.saturating_sub.ensures in
    let after = c.saturating_sub-2.ensures in
    record { from = omega arith; taken = omega arith; before = omega arith; after = omega arith; within = omega arith; few = omega arith }
