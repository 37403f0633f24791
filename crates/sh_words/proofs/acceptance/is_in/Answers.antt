use Rattle.std.proofs.Common.{◌∙◌, string_bytes, Global}
use Rattle.clap.proofs.WalkLemmas.{list_any-map}
use Rattle.sh_words.specs.Words.{has_name}
use Rattle.sh_words.proofs.acceptance.is_in.Goals as goal

pub returns : goal.returns
returns c = c.is_among.ensures ∙ list_any-map (has_name c.args.name.now) (string_bytes {Z = Global}) c.args.words.now
