use Rattle.std.proofs.Common.{◌∙◌, sym}
use Rattle.sh_tensor.proofs.tests.joined.Goals as goal

pub pair-requires-clause-axis : goal.pair-requires-clause-axis
pair-requires-clause-axis c = rw c.in_ok-left.ensures.shape c.requires.axis

pub pair-requires-clause-alike : goal.pair-requires-clause-alike
pair-requires-clause-alike c = record {
  ranked = rw c.in_ok-right.ensures.shape c.requires.axis_too;
  width = c.in_ok-right.ensures.width ∙ sym c.in_ok-left.ensures.width;
  others = rw (c.in_ok-right.ensures.shape, c.in_ok-left.ensures.shape) c.requires.alike;
}

pub pair-requires-clause-extent : goal.pair-requires-clause-extent
pair-requires-clause-extent c = rw (c.in_ok-right.ensures.shape, c.in_ok-left.ensures.shape) c.requires.extent

pub pair-requires-clause-small : goal.pair-requires-clause-small
pair-requires-clause-small c = rw (c.in_ok-right.ensures.shape, c.in_ok-left.ensures.shape) c.requires.whole
