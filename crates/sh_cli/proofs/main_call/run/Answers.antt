use Rattle.std.proofs.Common.{◌∙◌, [], ap, map, string_bytes, sym, refl, Err}
use Rattle.sh_cli.specs.Answer.{IsAnswer}
use Rattle.sh_cli.specs.Answer.IsAnswer.{not_accepted, not_built}
use Rattle.sh_cli.specs.Ending.{IsRewriting}
use Rattle.sh_cli.specs.declared.status.Status.TheVariants.{Unbuilt, Usage}
use Rattle.sh_cli.proofs.Rewriting.{answers_by, answers_nothing, rewriting_answers}
use Rattle.sh_cli.proofs.main_call.run.Goals as goal

pub returns-in-Err-Usage-clause-answer : goal.returns-in-Err-Usage-clause-answer
returns-in-Err-Usage-clause-answer g c =
    let none = c.read_words.ensures.usage.0 (c.in-Err-Usage.is ∙ ap Err c.in-Err-Usage.field-0-is) in
    answers_nothing (λ text. IsAnswer c.args.tool (map string_bytes c.args.words.now.items) text Usage [])
    (λ text. not_accepted none) (g.S.Source.left c.args.src.now) (g.O.Sink.written c.args.out.now)

pub returns-then-asks_unbuilt-clause-answer : goal.returns-then-asks_unbuilt-clause-answer
returns-then-asks_unbuilt-clause-answer g c =
    answers_nothing (λ text. IsAnswer c.args.tool (map string_bytes c.args.words.now.items) text Unbuilt [])
    (λ text. not_built c.in-Ok.options c.in-Ok.ensures.options (sym c.if-asks_unbuilt.ensures))
    (g.S.Source.left c.args.src.now) (g.O.Sink.written c.args.out.now)

pub returns-clause-answer : goal.returns-clause-answer
returns-clause-answer g c =
    let words = map string_bytes c.args.words.now.items in
    answers_by (IsRewriting c.in-Ok.options.partition) (λ text. IsAnswer c.args.tool words text)
    (λ text status output is. rewriting_answers c.args.tool words text c.in-Ok.options c.in-Ok.ensures.options
    (sym c.if-asks_unbuilt.ensures) c.in-Ok.options.partition refl status output is)
    (g.S.Source.left c.args.src.now) c.read_and_rewrite.result (g.O.Sink.written c.args.out.now)
    (g.O.Sink.written c.read_and_rewrite.new.out) c.read_and_rewrite.ensures.answer
