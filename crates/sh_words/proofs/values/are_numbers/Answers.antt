use Rattle.std.proofs.Common.{◌≡◌, ◌∙◌, Bool, cond, true, false, refl, List, ℤ, Some, None, is_some, map, lit<, rules}
use Rattle.std.specs.List.{list_all}
use Rattle.std.proofs.lemmas.Iterator.Search.{all_from_yields_List}
use Rattle.std.proofs.lemmas.Iterator.Splits.{YieldsList-from_str_split}
use Rattle.sh_words.specs.Values.{is_decimal, parts_of, signed_value}
use Rattle.sh_words.proofs.values.are_numbers.Goals as goal

are_decimals : (b : Bool) (ns : List ℤ) → b ≡ is_some (cond b (Some ns) None)
are_decimals true ns = refl
are_decimals false ns = refl

pub returns : goal.returns
returns c =
    all_from_yields_List is_decimal _ _ c.all.result c.all.ensures.ran
    (YieldsList-from_str_split 44 c.args.text.now (lit< tt) c.split.ensures.text c.split.ensures.has_more c.split.ensures.pattern)
    (λ x b q k. search rules)
    ∙ are_decimals (list_all is_decimal (parts_of c.args.text.now)) (map signed_value (parts_of c.args.text.now))
