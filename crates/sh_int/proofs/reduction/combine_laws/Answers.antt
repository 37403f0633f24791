use Rattle.sh_int.proofs.ReductionLaws as laws
use Rattle.sh_int.proofs.reduction.combine_laws.Goals as goal

pub returns-clause-combines : goal.returns-clause-combines
returns-clause-combines c = laws.combine_laws c.args.k c.args.w

pub returns-clause-absorbs : goal.returns-clause-absorbs
returns-clause-absorbs c = laws.undefined_absorbs c.args.k c.args.w

pub returns-clause-operation : goal.returns-clause-operation
returns-clause-operation c = laws.element_of-operation_of c.args.k c.args.w
