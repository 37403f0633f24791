-- The laws on readings of the language.
use Rattle.std.proofs.Common.{◌≡◌, ℕ, List, [], ◌∷◌, ◌++◌, ◌↔◌, take, refl, sym, ◌∙◌, ap}
use Rattle.std.proofs.lemmas.List.{append-nil}
use Rattle.sh_grammar.specs.declared.forms.Form.TheVariants.{File}
use Rattle.sh_grammar.specs.declared.symbols.Event.{Event}
use Rattle.sh_grammar.specs.Grammar.{Trees, Reads, Front, tokens, events, up_to}
use Rattle.sh_grammar.specs.Language.{language, text_of_file}
use Rattle.sh_grammar.specs.Laid.{the_choices, the_rows}
use Rattle.sh_grammar.specs.Views.{pieces}
use Rattle.sh_grammar.specs.Lexemes.{Lexeme}
use Rattle.sh_grammar.specs.Machine.{Runs, IsApt, whole}
use Rattle.sh_grammar.proofs.Facts.{the_facts}
use Rattle.sh_grammar.proofs.Fitting.{IsPredictive}
use Rattle.sh_grammar.proofs.Leftmost.{run_of, one_tree}
use Rattle.sh_grammar.proofs.Ends.{apt_spellable}
use Rattle.sh_grammar.proofs.Fronts.{front_of, goes_on}
use Rattle.sh_grammar.proofs.Served.{language_served}
use Rattle.sh_grammar.proofs.Answered.{known, whole_apt}
use Rattle.sh_grammar.proofs.OneWay.{same_way, one_run}

language_known : IsPredictive language (pieces the_choices the_rows) the_facts
language_known = known language (pieces the_choices the_rows) the_facts File language_served

file_apt : IsApt the_facts text_of_file
file_apt = whole_apt language (pieces the_choices the_rows) the_facts File language_served

run_over : (ts : List Lexeme) (f : Trees) → Reads language text_of_file ts f → Runs language text_of_file ts (events f)
run_over ts f p = rw p.1 at (run_of p.0)

pub only_tree : (ts : List Lexeme) (f h : Trees) → Reads language text_of_file ts f → Reads language text_of_file ts h → f ≡ h
only_tree ts f h p q =
    let same : events f ≡ events h = one_run language_known (run_over ts f p) (run_over ts h q) file_apt in
    let also : tokens f ≡ tokens h = p.1 ∙ sym q.1 in
    (one_tree p.0 q.0 [] [] [] [] (ap (λ xs. xs ++ []) also) (ap (λ xs. xs ++ []) same)).0

pub only_way : (k : ℕ) (ts us : List Lexeme) (f h : Trees) → Reads language text_of_file ts f → Reads language text_of_file us h
    → take k ts ≡ take k us → up_to k (events f) ≡ up_to k (events h)
only_way k ts us f h p q e = same_way language_known (run_over ts f p) (run_over us h q) file_apt k e

pub front_on : (ts : List Lexeme) → Front language text_of_file ts ↔ ((more : List Lexeme) × (f : Trees) × Reads language text_of_file (ts ++ more) f)
front_on ts = (
  λ p. let on = goes_on language_known p (apt_spellable the_facts text_of_file file_apt) in (on.more, on.trees, on.reads),
  λ q. front_of q.2.0 ts q.0 q.2.1,
)
