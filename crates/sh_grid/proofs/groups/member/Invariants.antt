use Rattle.sh_grid.proofs.GroupSteps.{IsMemberSoFar}
use Rattle.sh_grid.proofs.groups.member.Given as goal

abbrev pub invariant-loop-axis : goal.invariant-loop-axis
invariant-loop-axis l = IsMemberSoFar l.g.extents l.axes l.device l.place l.axis-index l.size l.rest l.found
