use Rattle.sh_tensor.proofs.TensorLaws.{held}
use Rattle.sh_tensor.proofs.tensors.build.Goals as goal

pub invariant_of-result : goal.invariant_of-result
invariant_of-result c = held c.args.s c.args.w c.args.cells.items c.requires.counted c.requires.small c.requires.fitting
