use Rattle.std.proofs.Common.{length, ◌∙◌, sym}
use Rattle.sh_grammar.specs.Lexemes.{lexeme_of}
use Rattle.sh_grammar.proofs.Words.{texts_rise, classes_rise, row_within, row_of_both, no_more, class_by_row}
use Rattle.sh_grammar.proofs.keywords.class_of_token.Goals as goal

pub piece-spellings-requires-clause-rise : goal.piece-spellings-requires-clause-rise
piece-spellings-requires-clause-rise c = texts_rise _ _ c.spellings.ensures c.spelling_rows-rows.ensures

pub piece-spellings-requires-clause-within : goal.piece-spellings-requires-clause-within
piece-spellings-requires-clause-within c = row_within c.args.token.now.kind (length c.bytes_of-bytes.result.now) _ _ c.row_of-row.ensures c.spelling_rows-rows.ensures

pub piece-classes-requires-clause-rise : goal.piece-classes-requires-clause-rise
piece-classes-requires-clause-rise c = rw (c.classes.ensures, c.spelling_rows-rows.ensures) classes_rise

pub piece-classes-requires-clause-within : goal.piece-classes-requires-clause-within
piece-classes-requires-clause-within c = row_within c.args.token.now.kind (length c.bytes_of-bytes.result.now) _ _ c.row_of-row.ensures c.spelling_rows-rows.ensures

pub class_in-requires : goal.class_in-requires
class_in-requires c =
    let row = row_of_both c.args.token.now.kind (length c.bytes_of-bytes.result.now) _ _ _ _ _ _ c.row_of-row.ensures c.spellings.ensures c.classes.ensures c.spelling_rows-rows.ensures
    c.piece-spellings.ensures.piece c.piece-classes.ensures.piece in
    no_more _ _ _ row.0 row.1

pub returns : goal.returns
returns c =
    let row = row_of_both c.args.token.now.kind (length c.bytes_of-bytes.result.now) _ _ _ _ _ _ c.row_of-row.ensures c.spellings.ensures c.classes.ensures c.spelling_rows-rows.ensures
    c.piece-spellings.ensures.piece c.piece-classes.ensures.piece in
    rw (c.bytes_of-bytes.ensures, c.class_of_kind.ensures) at c.class_in.ensures
    ∙ class_by_row (lexeme_of c.args.text.now c.args.token.now) _ _ _ (rw c.bytes_of-bytes.ensures at c.row_of-row.ensures) row.0 row.1
