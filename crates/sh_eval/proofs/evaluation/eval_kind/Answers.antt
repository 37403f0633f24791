use Rattle.std.proofs.Common.{map, ap, sym, ◌∙◌}
use Rattle.std.specs.Prelude.{option_and_then}
use Rattle.std.proofs.lemmas.Result.{IfOk-weaker}
use Rattle.sh_ir.specs.Agreement.{dims_of}
use Rattle.sh_eval.specs.Evaluations.{seat_in}
use Rattle.sh_eval.specs.Values.{known_value}
use Rattle.sh_eval.proofs.EvaluationLaws.{convolution_nest, structured_nest}
use Rattle.sh_eval.proofs.LayoutLaws.{not_both}
use Rattle.sh_sem.specs.Scalars.{width_of}
use Rattle.sh_eval.proofs.evaluation.eval_kind.Goals as goal

pub returns-then-is_of : goal.returns-then-is_of
returns-then-is_of c = c.element_op.ensures (sym c.class-class.ensures ∙ c.is_of.ensures.0 c.if-is_of.true) (seat_in c.args.seat)

pub nest_op-requires : goal.nest_op-requires
nest_op-requires c = (structured_nest c.args.op.now.kind c.args.op.now.operands c.args.op.now.result (map (λ t. t.now) c.args.ts.now) (sym c.class-class.ensures ∙ c.is_of-2.ensures.0 c.if-is_of-2.true) c.requires.fits).fits

pub returns-then-is_of-2 : goal.returns-then-is_of-2
returns-then-is_of-2 c =
    IfOk-weaker c.nest_op.result _ _
    (λ out p.
    p
    ∙ ap (option_and_then (λ x. known_value x (dims_of c.args.op.now.result) (width_of c.args.op.now.result) (map (λ t. t.now) c.args.ts.now))) (sym ((structured_nest c.args.op.now.kind c.args.op.now.operands c.args.op.now.result (map (λ t. t.now) c.args.ts.now) (sym c.class-class.ensures ∙ c.is_of-2.ensures.0 c.if-is_of-2.true) c.requires.fits).gives (seat_in c.args.seat))))
    c.nest_op.ensures

pub nest_op-requires-then-is_of-3 : goal.nest_op-requires-then-is_of-3
nest_op-requires-then-is_of-3 c = (convolution_nest c.args.op.now.kind c.args.op.now.operands c.args.op.now.result (map (λ t. t.now) c.args.ts.now) (sym c.class-class.ensures ∙ c.is_of-3.ensures.0 c.if-is_of-3.true) c.requires.fits).fits

pub returns-then-is_of-3 : goal.returns-then-is_of-3
returns-then-is_of-3 c =
    IfOk-weaker c.nest_op-then-is_of-3.result _ _
    (λ out p.
    p
    ∙ ap (option_and_then (λ x. known_value x (dims_of c.args.op.now.result) (width_of c.args.op.now.result) (map (λ t. t.now) c.args.ts.now))) (sym ((convolution_nest c.args.op.now.kind c.args.op.now.operands c.args.op.now.result (map (λ t. t.now) c.args.ts.now) (sym c.class-class.ensures ∙ c.is_of-3.ensures.0 c.if-is_of-3.true) c.requires.fits).gives (seat_in c.args.seat))))
    c.nest_op-then-is_of-3.ensures

pub returns : goal.returns
returns c = c.layout_op.ensures (λ e. not_both c.is_of.result c.if-is_of.false (c.is_of.ensures.1 (c.class-class.ensures ∙ e))) (λ e. not_both c.is_of-2.result c.if-is_of-2.false (c.is_of-2.ensures.1 (c.class-class.ensures ∙ e))) (λ e. not_both c.is_of-3.result c.if-is_of-3.false (c.is_of-3.ensures.1 (c.class-class.ensures ∙ e)))
