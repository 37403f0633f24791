use mathlib.Core.Path.{◌∙◌, ap, sym}
use Rattle.std.specs.Prelude.{map, sum, if◌then◌else◌}
use Rattle.std.specs.List.{list_any}
use Rattle.std.proofs.lemmas.Bool.{eq-eqb, ne_eqb}
use Rattle.sh_ir.specs.declared.types.Dim.TheVariants.{Differs, Known}
use Rattle.sh_ir.specs.Agreement.{differs, dims_agree}
use Rattle.sh_ir.specs.Operands.{beside, loop_dim}
use Rattle.sh_ir.specs.Results.{dims_along, joined_dim}
use Rattle.sh_ir.specs.Shapes.{extent_of}
use Rattle.sh_verify.proofs.JoinLaws.{column_of, sum_of}
use Rattle.sh_verify.proofs.joins.is_joined.Goals as goal

pub returns-then-at-axis : goal.returns-then-at-axis
unfolding joined_dim
returns-then-at-axis c =
    let types = c.args.types.now in
    let dims = dims_along c.args.axis types in
    let at_axis = (if list_any differs dims then Differs else Known (sum (map extent_of dims))) in
    c.dim_agrees.ensures
    ∙ (ap (λ d. dims_agree d c.args.dim) (c.column.ensures ∙ sym (column_of c.args.axis c.args.at types c.if-at-axis.true))
    ∙ ap (λ b. dims_agree (if b then at_axis else loop_dim (beside c.args.axis types) c.args.at) c.args.dim)
    (sym (ne_eqb c.args.at c.args.axis c.if-at-axis.true)))

pub returns-in-Known : goal.returns-in-Known
unfolding joined_dim
returns-in-Known c =
    let types = c.args.types.now in
    let dims = dims_along c.args.axis types in
    let at_axis = (if list_any differs dims then Differs else Known (sum (map extent_of dims))) in
    c.has_sum.ensures
    ∙ (sum_of c.in-Known.count dims
    ∙ (ap (λ d. dims_agree at_axis d) (sym c.in-Known.is)
    ∙ ap (λ b. dims_agree (if b then at_axis else loop_dim (beside c.args.axis types) c.args.at) c.args.dim)
    (sym (eq-eqb c.args.at c.args.axis c.if-at-axis.false))))
