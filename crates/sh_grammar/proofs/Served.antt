-- The tables are those of the grammar, and they serve it: by computing.
use Rattle.std.proofs.Common.{◌≡◌, ℕ, zero, suc, ◌-◌, ◌<◌, ◌^◌, true, nat_lt, List, [], ◌∷◌, length, map, get_or, refl, ◌∙◌, ap, Some}
use Rattle.std.specs.Prelude.{slice_get}
use Rattle.std.proofs.lemmas.Bool.{ltb-true}
use mathlib.Core.Path.{fun_ext}
use Rattle.sh_grammar.specs.declared.forms.Form.{Form}
use Rattle.sh_grammar.specs.declared.forms.Form.TheVariants.{File}
use Rattle.sh_grammar.specs.declared.symbols.Symbol.{Symbol}
use Rattle.sh_grammar.specs.Lexemes.{signs, dims, bangs, hashes, words, class_count}
use Rattle.sh_grammar.specs.Forms.{number, all_forms}
use Rattle.sh_grammar.specs.Grammar.{is_operation}
use Rattle.sh_grammar.specs.Laid.{the_symbols, the_starts, the_firsts, the_choices, the_rows, the_beginnings}
use Rattle.sh_grammar.specs.Language.{language}
use Rattle.sh_grammar.specs.Predictive.{serves, no_facts, ◌&◌, ◌or◌, only_if}
use Rattle.sh_grammar.specs.Views.{pieces, rise, grammar_of, beginning_of}
use Rattle.sh_grammar.proofs.Facts.{the_facts}
use Rattle.sh_grammar.proofs.Numbered.{form_at}

laid : pieces (pieces the_symbols the_starts) the_firsts ≡ map language all_forms
unfolding signs dims bangs hashes words class_count all_forms the_symbols the_starts the_firsts
laid = refl

get_mapped : (ns : List Form) (i : ℕ) (n : Form) → slice_get ns i ≡ Some n → get_or (map language ns) i [] ≡ language n
get_mapped [] i n e = cc
get_mapped (m ∷ ns) zero n e = let same : m ≡ n = cc in ap language same
get_mapped (m ∷ ns) (suc i) n e = get_mapped ns i n e

grammar_is : grammar_of the_symbols the_starts the_firsts ≡ language
grammar_is = fun_ext (λ n. ap (λ g. get_or g (number n) []) laid ∙ get_mapped all_forms (number n) n (form_at n))

pub language_served : serves language (pieces the_choices the_rows) the_facts File 10 ≡ true
unfolding signs dims bangs hashes words class_count all_forms is_operation no_facts ◌&◌ ◌or◌ only_if the_facts the_choices the_rows
language_served = refl

pub beginnings_known : the_beginnings ≡ map beginning_of the_facts
unfolding the_beginnings the_facts
beginnings_known = refl

pub starts_rise : rise (length the_symbols) the_starts ≡ true
unfolding the_symbols the_starts ◌&◌
starts_rise = refl

pub firsts_rise : rise (length the_starts - 1) the_firsts ≡ true
unfolding the_starts the_firsts ◌&◌
firsts_rise = refl

pub rows_rise : rise (length the_choices) the_rows ≡ true
unfolding the_choices the_rows ◌&◌
rows_rise = refl

few : nat_lt (length the_symbols) (2 ^ 16) ≡ true
unfolding the_symbols
few = refl

pub symbols_short : length the_symbols < 2 ^ 16
symbols_short = ltb-true _ _ few

-- the same of lists that are these
pub grammar_by : (symbols : List Symbol) (starts firsts : List ℕ) → symbols ≡ the_symbols → starts ≡ the_starts → firsts ≡ the_firsts
    → grammar_of symbols starts firsts ≡ language
grammar_by symbols starts firsts a b c = rw (a, b, c) grammar_is

pub served_by : (symbols : List Symbol) (starts firsts choices rows : List ℕ)
    → symbols ≡ the_symbols → starts ≡ the_starts → firsts ≡ the_firsts → choices ≡ the_choices → rows ≡ the_rows
    → serves (grammar_of symbols starts firsts) (pieces choices rows) the_facts File 10 ≡ true
served_by symbols starts firsts choices rows a b c d e =
    ap (λ g. serves g (pieces choices rows) the_facts File 10) (grammar_by symbols starts firsts a b c)
    ∙ ap (λ t. serves language t the_facts File 10) (ap (λ cs. pieces cs rows) d ∙ ap (pieces the_choices) e)
    ∙ language_served
