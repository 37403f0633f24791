use Rattle.sh_eval.proofs.ReachedLaws.{can_where_reached, there_where_reached, typed_where_reached}
use Rattle.sh_eval.proofs.laws.can_evaluate_laws.Goals as goal

pub returns-clause-there : goal.returns-clause-there
returns-clause-there c = there_where_reached

pub returns-clause-can : goal.returns-clause-can
returns-clause-can c = can_where_reached

pub returns-clause-typed : goal.returns-clause-typed
returns-clause-typed c = typed_where_reached
