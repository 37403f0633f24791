use Rattle.std.proofs.Common.{◌∙◌, sym, string_bytes, Global}
use Rattle.std.proofs.lemmas.List.Folds.{list_all-map}
use Rattle.sh_words.specs.Tables.{is_word}
use Rattle.sh_words.proofs.acceptance.are_of_the_table.Goals as goal

pub returns : goal.returns
returns c = c.are_words.ensures ∙ sym (list_all-map (is_word c.args.tool) (string_bytes {Z = Global}) c.args.words.now)
