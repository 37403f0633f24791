use Rattle.std.proofs.Common.{map, ap, ap₂, sym, ◌∙◌, subst}
use Rattle.std.specs.Prelude.{IfSome, option_and_then}
use Rattle.sh_ir.specs.Agreement.{dims_of}
use Rattle.sh_ir.specs.Loops.{structure_of}
use Rattle.sh_eval.specs.Shapes.{with_known}
use Rattle.sh_eval.proofs.EvaluationLaws.{nest_known}
use Rattle.sh_loops.specs.Structured.{CanNest, value_by}
use Rattle.sh_sem.specs.Given.{gives_nest}
use Rattle.sh_sem.specs.Scalars.{width_of}
use Rattle.sh_eval.proofs.evaluation.nest_op.Goals as goal

pub structured_op-requires-clause-fits : goal.structured_op-requires-clause-fits
structured_op-requires-clause-fits c =
    subst (λ w. IfSome (structure_of c.args.op.now.kind) (λ s. CanNest s c.as_slice.result.now w (map (λ t. t.now) c.args.ts.now))) (sym c.width_of-width.ensures)
    (subst (λ os. IfSome (structure_of c.args.op.now.kind) (λ s. CanNest s os (width_of c.args.op.now.result) (map (λ t. t.now) c.args.ts.now))) (sym c.as_slice.ensures) c.requires.fits)

pub returns : goal.returns
returns c =
    c.with_extents.ensures ∙ ap (λ d. option_and_then (with_known d) c.in_ok-out.out) c.dims_of.ensures
    ∙ ap (option_and_then (with_known (dims_of c.args.op.now.result)))
    (c.in_ok-out.ensures ∙ ap₂ (λ os v. option_and_then (λ s. value_by (gives_nest os s) v (map (λ t. t.now) c.args.ts.now)) (structure_of c.args.op.now.kind)) c.as_slice.ensures c.width_of-width.ensures)
    ∙ nest_known c.args.op.now.operands (dims_of c.args.op.now.result) (width_of c.args.op.now.result) (map (λ t. t.now) c.args.ts.now) (structure_of c.args.op.now.kind)
