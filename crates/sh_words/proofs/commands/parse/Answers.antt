use Rattle.std.proofs.Common.{◌∙◌, ap, map, string_bytes, Global}
use Rattle.std.proofs.lemmas.Result.{IfErr-weaker, IfOk-weaker}
use Rattle.clap.specs.Words.{App, is_simple, matches_of, takes}
use Rattle.sh_words.proofs.Taken.{simple_app, takes_accepted}
use Rattle.sh_words.proofs.commands.parse.Goals as goal

pub returns-clause-rows : goal.returns-clause-rows
returns-clause-rows c =
    IfOk-weaker c.try_get_matches_from.result _ _
    (λ m h. (h (ap is_simple c.in_ok-command.ensures ∙ simple_app c.args.tool)).0 ∙ ap (λ (a : App). matches_of a (map (string_bytes {Z = Global}) c.args.words.now)) c.in_ok-command.ensures)
    c.try_get_matches_from.ensures.matches

pub returns-clause-memory : goal.returns-clause-memory
returns-clause-memory c =
    IfErr-weaker c.try_get_matches_from.result _ _
    (λ e h accepted. h (ap (λ (a : App). takes a (map (string_bytes {Z = Global}) c.args.words.now)) c.in_ok-command.ensures ∙ takes_accepted c.args.tool (map (string_bytes {Z = Global}) c.args.words.now) accepted))
    c.try_get_matches_from.ensures.passes
