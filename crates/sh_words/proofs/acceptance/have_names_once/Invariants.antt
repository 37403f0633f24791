use Rattle.std.proofs.Common.{◌≡◌, map, string_bytes, drop}
use Rattle.sh_words.specs.Words.{names_once}
use Rattle.sh_words.proofs.acceptance.have_names_once.Given as goal

abbrev pub invariant-loop-i : goal.invariant-loop-i
invariant-loop-i l = names_once (map string_bytes l.words) ≡ names_once (map string_bytes (drop l.i l.words))
