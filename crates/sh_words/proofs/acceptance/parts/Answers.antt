use Rattle.std.proofs.Common.{◌≡◌, cond, false, Some, None, sym, ap, arith, lit<}
use Rattle.std.specs.List.{list_any, after_first}
use Rattle.std.proofs.lemmas.List.Folds.{list_any_none}
use Rattle.std.proofs.lemmas.List.Sums.{fails_before_first}
use Rattle.std.proofs.lemmas.Str.Pattern.{split_once_first}
use Rattle.sh_words.specs.Words.{is_equals}
use Rattle.sh_words.proofs.acceptance.parts.Goals as goal

pub returns-in-None-clause-value : goal.returns-in-None-clause-value
returns-in-None-clause-value c =
    let word = c.args.word.now in
    let past = split_once_first 61 word None c.in-None.ensures.cases (lit< tt) in
    let none : list_any is_equals word ≡ false = list_any_none is_equals word (λ k d lt. fails_before_first is_equals word k d (omega arith)) in
    ap (λ b. cond b (Some (after_first is_equals word)) None) (sym none)
