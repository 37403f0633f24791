use Rattle.std.proofs.Common.{sym}
use Rattle.sh_eval.proofs.ListRules.{other_lengths}
use Rattle.sh_eval.proofs.shapes.has_extents.Goals as goal

pub returns-then-dims-extents : goal.returns-then-dims-extents
returns-then-dims-extents c = sym (other_lengths c.args.dims.now c.args.extents.now c.if-dims-extents.true)
