use Rattle.sh_nest_laws.proofs.ParallelLaw as law
use Rattle.sh_nest_laws.proofs.laws.parallel_loops.Goals as goal

pub returns : goal.returns
returns a g D nest whole_op local_op is = law.parallel_law g D nest whole_op local_op is
