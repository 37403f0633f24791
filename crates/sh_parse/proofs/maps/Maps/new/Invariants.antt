use Rattle.std.proofs.Common.{length}
use Rattle.sh_parse.specs.Leaves.{HasLater}
use Rattle.sh_parse.proofs.maps.Maps.new.Given as goal

abbrev pub invariant-loop-alias : goal.invariant-loop-alias
invariant-loop-alias l = HasLater l.maps l.fn.aliases l.rest

abbrev pub decreases-loop-alias : goal.decreases-loop-alias
decreases-loop-alias l = length l.rest
