use mathlib.Core.Path.{◌∙◌, ap, sym}
use Rattle.std.proofs.Common.{◌&&◌, ◌||◌}
use Rattle.std.specs.Prelude.{not}
use Rattle.sh_ir.specs.Attributes.{has_dim}
use Rattle.sh_ir.specs.Operands.{beside, can_join, extents_fit}
use Rattle.sh_ir.specs.Written.{first_type}
use Rattle.sh_verify.proofs.JoinLaws.{extents_by_columns}
use Rattle.sh_verify.proofs.joins.can_join.Goals as goal

pub returns-then-are_alike : goal.returns-then-are_alike
unfolding can_join extents_fit
returns-then-are_alike c =
    let types = c.args.types.now in
    let asked = has_dim (first_type types) c.args.axis in
    c.agree_beside.ensures
    ∙ (ap (λ b. not asked || b) (sym (extents_by_columns c.args.axis (first_type types) types (sym c.are_alike.ensures ∙ c.if-are_alike.true)))
    ∙ ap (λ b. b && (not asked || extents_fit (beside c.args.axis types))) (sym c.if-are_alike.true ∙ c.are_alike.ensures))
