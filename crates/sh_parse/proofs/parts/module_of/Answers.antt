use Rattle.std.proofs.Common.{◌∙◌, [], ap, sym}
use Rattle.sh_build.specs.Building.{parts_by}
use Rattle.sh_build.specs.Rows.{first_part}
use Rattle.sh_grammar.specs.Lexemes.{lexemes}
use Rattle.sh_parse.specs.Reads.{leaves}
use Rattle.sh_parse.proofs.FileParts.{by_module, by_tooks}
use Rattle.sh_parse.proofs.parts.module_of.Goals as goal

pub aliases-requires-clause-tokens : goal.aliases-requires-clause-tokens
aliases-requires-clause-tokens c = by_tooks c.args.text.now c.args.tokens.now c.args.events.now c.requires.file

pub row_of-requires-clause-tokens : goal.row_of-requires-clause-tokens
row_of-requires-clause-tokens c = by_tooks c.args.text.now c.args.tokens.now c.args.events.now c.requires.file

pub unreachable-requires : goal.unreachable-requires
unreachable-requires c =
    let ts = lexemes c.args.text.now c.args.tokens.now in
    let made = by_module c.rows_have_sizes.ensures ts c.args.ids.now c.args.events.now c.requires.file in
    c.in-None.ensures.none made.it
    (ap first_part (c.in_ok-row.ensures c.as_slice.result.now c.in_ok-maps.ensures)
    ∙ ap (λ al. first_part (parts_by c.args.events.now (leaves al ts c.args.ids.now) [])) (c.as_slice.ensures ∙ c.in_ok-aliases.ensures)
    ∙ made.is)

pub returns : goal.returns
returns c =
    let ts = lexemes c.args.text.now c.args.tokens.now in
    sym (ap first_part (c.in_ok-row.ensures c.as_slice.result.now c.in_ok-maps.ensures)
    ∙ ap (λ al. first_part (parts_by c.args.events.now (leaves al ts c.args.ids.now) [])) (c.as_slice.ensures ∙ c.in_ok-aliases.ensures))
    ∙ c.in-Some.ensures.some
