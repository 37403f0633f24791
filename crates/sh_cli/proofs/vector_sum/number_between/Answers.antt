use Rattle.std.proofs.Common.{◌≡◌, ℕ, List, ◌++◌, length, drop, None, Some, ◌∙◌, ap, sym}
use Rattle.std.proofs.Math.Seq.{drop-append_seam}
use Rattle.std.proofs.lemmas.Bool.Decides.{Decides-eqb}
use Rattle.std.proofs.lemmas.Option.{same_Some}
use Rattle.std.proofs.lemmas.Slice.Eq.{strip_prefix_is}
use Rattle.std.specs.Fmt.{decimal}
use Rattle.sh_cli.proofs.Decimals.{decimal_lacks}
use Rattle.sh_cli.proofs.vector_sum.number_between.Goals as goal

-- what stands behind a prefix
behind : (text before rest more : List ℕ) → text ≡ before ++ more → rest ≡ drop (length before) text → rest ≡ more
behind text before rest more e is_rest = is_rest ∙ ap (drop (length before)) e ∙ drop-append_seam before more

pub returns-in_err-rest : goal.returns-in_err-rest
returns-in_err-rest c = λ n rest small e.
    let is_prefix = strip_prefix_is Decides-eqb c.args.text.now c.args.before.now _ c.strip_prefix.ensures.cases in
    let none = rw c.in_err-rest.was at is_prefix in
    absurd (none _ e)

pub returns-in_err-digits : goal.returns-in_err-digits
returns-in_err-digits c = λ n rest small e.
    let follows = behind c.args.text.now c.args.before.now c.in_ok-rest.rest.now _ e c.in_ok-rest.ensures.cases.1 in
    absurd (c.in_err-digits.ensures (decimal n) rest (decimal_lacks c.args.after n small c.requires) follows)

pub returns-in_err-decimal_value : goal.returns-in_err-decimal_value
returns-in_err-decimal_value c = λ n rest small e.
    let follows = behind c.args.text.now c.args.before.now c.in_ok-rest.rest.now _ e c.in_ok-rest.ensures.cases.1 in
    let parts = c.in_ok-digits.ensures (decimal n) rest (decimal_lacks c.args.after n small c.requires) follows in
    let none : None ≡ Some n = sym c.in_err-decimal_value.was ∙ c.decimal_value.ensures n small parts.0 in
    cc none

pub returns : goal.returns
returns c = λ n rest small e.
    let follows = behind c.args.text.now c.args.before.now c.in_ok-rest.rest.now _ e c.in_ok-rest.ensures.cases.1 in
    let parts = c.in_ok-digits.ensures (decimal n) rest (decimal_lacks c.args.after n small c.requires) follows in
    (same_Some _ _ (c.in_ok-decimal_value.ensures n small parts.0), parts.1)
