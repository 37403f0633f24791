use Rattle.sh_nest_laws.proofs.SplitLaw as law
use Rattle.sh_nest_laws.proofs.laws.split_reduction.Goals as goal

pub returns : goal.returns
returns a g D nest k term whole_op constant fill local_op reduce join is =
    law.split_law g D nest k term whole_op constant fill local_op reduce join is
