use Rattle.std.proofs.Common.{sym, ◌∙◌}
use Rattle.sh_lex.proofs.FrontLemmas.{unknown_front, unknown_fault}
use Rattle.sh_lex.proofs.fronts.unknown_dim.Goals as goal

pub returns-then-not-starts_with : goal.returns-then-not-starts_with
returns-then-not-starts_with c = unknown_fault c.args.rest.now c.args.place c.requires (sym c.starts_with.ensures.value ∙ c.if-not-starts_with.true)

pub returns : goal.returns
returns c = unknown_front c.args.rest.now c.args.place c.requires (sym c.starts_with.ensures.value ∙ c.if-not-starts_with.false)
