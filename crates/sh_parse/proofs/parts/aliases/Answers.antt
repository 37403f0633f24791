use Rattle.std.proofs.Common.{◌≡◌, ◌∙◌, [], ap, refl, take, drop, arith}
use Rattle.std.specs.List.{prefix_len}
use Rattle.sh_build.specs.Building.{parts_by}
use Rattle.sh_build.specs.Readings.{aliases_in}
use Rattle.sh_build.specs.Rows.{first_part}
use Rattle.sh_grammar.specs.Lexemes.{lexemes}
use Rattle.sh_names.specs.Tables.{tooks}
use Rattle.sh_parse.specs.Answers.{head_in, is_before}
use Rattle.sh_parse.specs.Reads.{leaves}
use Rattle.sh_parse.proofs.RowSteps.{head_sized, head_tooks, parts_front, within_taken}
use Rattle.sh_parse.proofs.parts.aliases.Goals as goal

pub split_at-requires-2 : goal.split_at-requires-2
split_at-requires-2 c =
    let head : c.split_at.result.0.now ≡ head_in c.args.events.now =
    c.split_at.ensures.front ∙ rw (c.steps_before.ensures.count, c.behind_first-rest.ensures) refl in
    let count = c.tokens_in-count.ensures.count ∙ ap tooks head in
    let less = head_tooks (prefix_len is_before (drop 1 c.args.events.now)) c.args.events.now in
    let all = c.requires.tokens in
    omega arith

pub row_of-requires-clause-within : goal.row_of-requires-clause-within
row_of-requires-clause-within c =
    rw (c.split_at-2.ensures.front) (within_taken c.args.text.now _ c.args.tokens.now c.requires.within)

pub row_of-requires-clause-sized : goal.row_of-requires-clause-sized
row_of-requires-clause-sized c =
    rw (c.split_at.ensures.front, c.behind_first-rest.ensures) (head_sized _ c.args.events.now c.requires.sized)

pub returns : goal.returns
returns c =
    let head : c.split_at.result.0.now ≡ head_in c.args.events.now =
    c.split_at.ensures.front ∙ rw (c.steps_before.ensures.count, c.behind_first-rest.ensures) refl in
    let made = c.in_ok-row.ensures [] c.none-maps.ensures in
    c.into_items.ensures ∙ c.aliases.ensures ∙ ap aliases_in c.into_first.ensures ∙ ap (λ r. aliases_in (first_part r)) made
    ∙ ap (λ ts. aliases_in (first_part (parts_by c.split_at.result.0.now (leaves [] (lexemes c.args.text.now ts) c.split_at-3.result.0.now) [])))
    (c.split_at-2.ensures.front ∙ ap (λ n. take n c.args.tokens.now) c.tokens_in-count.ensures.count)
    ∙ ap (λ ns. aliases_in (first_part (parts_by c.split_at.result.0.now (leaves [] (lexemes c.args.text.now (take (tooks c.split_at.result.0.now) c.args.tokens.now)) ns) [])))
    (c.split_at-3.ensures.front ∙ ap (λ n. take n c.args.ids.now) c.tokens_in-count.ensures.count)
    ∙ ap (λ r. aliases_in (first_part r)) (parts_front c.args.text.now [] c.split_at.result.0.now c.args.tokens.now c.args.ids.now [])
    ∙ ap (λ es. aliases_in (first_part (parts_by es (leaves [] (lexemes c.args.text.now c.args.tokens.now) c.args.ids.now) []))) head
