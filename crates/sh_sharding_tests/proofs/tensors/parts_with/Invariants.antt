use Rattle.sh_sharding_tests.proofs.PartsLaws.{ArePartsTo}
use Rattle.sh_sharding_tests.proofs.tensors.parts_with.Given as goal

abbrev pub invariant-loop-device : goal.invariant-loop-device
invariant-loop-device l = ArePartsTo l.s l.parts.items l.device
