use mathlib.Core.Path.{sym}
use Rattle.sh_verify.specs.Relations.{relates}
use Rattle.sh_verify.proofs.RelationLaws.{unrelated}
use Rattle.sh_verify.proofs.relations.are_related.Goals as goal

pub returns-then-left-right : goal.returns-then-left-right
returns-then-left-right c =
    sym (unrelated (relates c.args.relation) 0 c.args.left.now c.args.right.now c.if-left-right.true)
