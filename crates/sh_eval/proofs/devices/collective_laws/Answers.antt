use Rattle.sh_eval.proofs.CollectedTypes.{are_group_operands, collective_kind, group_typed, operand_typed}
use Rattle.sh_eval.proofs.devices.collective_laws.Goals as goal

pub returns-clause-operand : goal.returns-clause-operand
returns-clause-operand c scope op values v is have = operand_typed scope op v (collective_kind op.kind is) values have

pub returns-clause-group : goal.returns-clause-group
returns-clause-group c scope op ts v is h = are_group_operands scope op v (collective_kind op.kind is) ts h

pub returns-clause-given : goal.returns-clause-given
returns-clause-given c scope op grid ts place t v is h few e = group_typed scope op v (collective_kind op.kind is) grid ts place t h few e
