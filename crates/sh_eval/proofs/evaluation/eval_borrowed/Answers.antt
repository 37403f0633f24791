use Rattle.std.proofs.Common.{map, sym, ◌∙◌}
use Rattle.std.proofs.lemmas.Result.{IfOk-weaker}
use Rattle.sh_eval.specs.Evaluations.{seat_in}
use Rattle.sh_eval.proofs.EvaluationLaws.{answered, few_of_kind, note_given, refused}
use Rattle.sh_eval.proofs.LayoutLaws.{not_both}
use Rattle.sh_eval.proofs.evaluation.eval_borrowed.Goals as goal

pub returns-then-is_of : goal.returns-then-is_of
returns-then-is_of c = note_given c.args.op.now (seat_in c.args.seat) (map (λ t. t.now) c.args.ts.now) (sym c.class.ensures ∙ c.is_of.ensures.0 c.if-is_of.true)

pub returns-then-not-are_known : goal.returns-then-not-are_known
returns-then-not-are_known c = refused c.args.op.now (seat_in c.args.seat) (map (λ t. t.now) c.args.ts.now) c.are_known.result (c.are_known.ensures (λ e. not_both c.is_of.result c.if-is_of.false (c.is_of.ensures.1 (c.class.ensures ∙ e)))) c.if-not-are_known.true

pub eval_kind-requires-clause-few : goal.eval_kind-requires-clause-few
eval_kind-requires-clause-few c = few_of_kind c.args.op.now (seat_in c.args.seat) (map (λ t. t.now) c.args.ts.now) (sym (c.are_known.ensures (λ e. not_both c.is_of.result c.if-is_of.false (c.is_of.ensures.1 (c.class.ensures ∙ e)))) ∙ c.if-not-are_known.false) c.requires.few

pub returns : goal.returns
returns c =
    IfOk-weaker c.eval_kind.result _ _ (λ out p. p ∙ answered c.args.op.now (seat_in c.args.seat) (map (λ t. t.now) c.args.ts.now) c.are_known.result (c.are_known.ensures (λ e. not_both c.is_of.result c.if-is_of.false (c.is_of.ensures.1 (c.class.ensures ∙ e)))) c.if-not-are_known.false) c.eval_kind.ensures
