use Rattle.std.proofs.Common.{length}
use Rattle.sh_parse.specs.Leaves.{IsRowTo}
use Rattle.sh_parse.proofs.rows.row_of.Given as goal

abbrev pub invariant-loop-event : goal.invariant-loop-event
invariant-loop-event l = IsRowTo l.fn.text l.fn.tokens l.fn.ids l.maps l.fn.events l.row l.events l.tokens l.ids

abbrev pub decreases-loop-event : goal.decreases-loop-event
decreases-loop-event l = length l.events
