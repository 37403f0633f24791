use Rattle.std.proofs.Common.{map, sym, ◌∙◌}
use Rattle.std.proofs.lemmas.Result.{IfOk-weaker}
use Rattle.sh_ir.specs.Classes.{class_of}
use Rattle.sh_sem.specs.Given.{alone}
use Rattle.sh_eval.proofs.EvaluationLaws.{few_of_kind}
use Rattle.sh_eval.proofs.SizeRules.{known_sized, not_device, not_note, unknown_sized}
use Rattle.sh_eval.proofs.work.size_of.Goals as goal

pub returns-then-not-are_known : goal.returns-then-not-are_known
returns-then-not-are_known c = unknown_sized c.args.op.now (map (λ t. t.shape) (map (λ t. t.now) c.args.ts.now)) c.are_known.result (c.are_known.ensures (not_note (class_of c.args.op.now.kind) c.requires.computes)) c.if-not-are_known.true

pub returns-then-is_structured : goal.returns-then-is_structured
returns-then-is_structured c =
    IfOk-weaker c.structured_size.result _ _ (λ out p. p ∙ known_sized c.args.op.now (map (λ t. t.shape) (map (λ t. t.now) c.args.ts.now)) c.are_known.result (c.are_known.ensures (not_note (class_of c.args.op.now.kind) c.requires.computes)) c.if-not-are_known.false) c.structured_size.ensures

pub plain_size-requires-clause-few : goal.plain_size-requires-clause-few
plain_size-requires-clause-few c = few_of_kind c.args.op.now alone (map (λ t. t.now) c.args.ts.now) (sym (c.are_known.ensures (not_note (class_of c.args.op.now.kind) c.requires.computes)) ∙ c.if-not-are_known.false) c.requires.can.few

pub plain_size-requires-clause-source : goal.plain_size-requires-clause-source
plain_size-requires-clause-source c = not_device (class_of c.args.op.now.kind) c.requires.computes

pub returns : goal.returns
returns c =
    IfOk-weaker c.plain_size.result _ _ (λ out p. p ∙ known_sized c.args.op.now (map (λ t. t.shape) (map (λ t. t.now) c.args.ts.now)) c.are_known.result (c.are_known.ensures (not_note (class_of c.args.op.now.kind) c.requires.computes)) c.if-not-are_known.false) c.plain_size.ensures
