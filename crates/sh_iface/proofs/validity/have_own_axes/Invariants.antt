use Rattle.std.proofs.Common.{◌↔◌, length}
use Rattle.sh_iface.specs.Valid.{HaveOwnAxes}
use Rattle.sh_iface.proofs.validity.have_own_axes.Given as goal

-- what is to come decides
abbrev pub invariant-loop-first : goal.invariant-loop-first
invariant-loop-first l = HaveOwnAxes l.rest ↔ HaveOwnAxes l.o

abbrev pub decreases-loop-first : goal.decreases-loop-first
decreases-loop-first l = length l.rest
