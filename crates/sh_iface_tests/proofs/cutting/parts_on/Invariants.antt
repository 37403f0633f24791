use Rattle.sh_iface_tests.proofs.PartsLike.{AreLike}
use Rattle.sh_iface_tests.proofs.cutting.parts_on.Given as goal

-- the parts of the devices so far
abbrev pub invariant-loop-device : goal.invariant-loop-device
invariant-loop-device g l = AreLike l.cuts.items l.parts.items l.device
