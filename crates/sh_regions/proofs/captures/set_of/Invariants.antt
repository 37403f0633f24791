use Rattle.std.proofs.Common.{take}
use Rattle.sh_regions.specs.Members.{AreAgreed}
use Rattle.sh_regions.proofs.captures.set_of.Given as goal

abbrev pub invariant-loop-name : goal.invariant-loop-name
invariant-loop-name l = AreAgreed l.set.keys (take l.name-index l.names)
