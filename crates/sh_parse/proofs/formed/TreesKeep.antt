-- What the trees of the grammar stand for is as it should be, where their tokens are.
use Rattle.std.proofs.Common.{List, subst}
use Rattle.std.specs.List.{AllByRecursion}
use Rattle.sh_build.specs.declared.parts.Alias.{Alias}
use Rattle.sh_build.specs.declared.parts.Part.{Part}
use Rattle.sh_grammar.specs.Grammar.{Spells, Trees, tokens}
use Rattle.sh_grammar.specs.Grammar.Spells.{is_form, is_nothing, is_token}
use Rattle.sh_grammar.specs.Language.{language}
use Rattle.sh_grammar.specs.declared.forms.Form.{Form}
use Rattle.sh_grammar.specs.declared.forms.Form.TheVariants as forms
use Rattle.sh_grammar.specs.declared.symbols.Symbol.{Symbol}
use Rattle.sh_names.specs.Names.{Owned, distinct, first_number}
use Rattle.sh_parse.proofs.formed.EachOf.{each_behind, each_front}
use Rattle.sh_parse.proofs.formed.MapsNumbered.{WordsIn, words_everywhere}
use Rattle.sh_parse.proofs.formed.PartsKept.{IsKept, LeafKept, MapNumbered, NamesKept}
use Rattle.sh_parse.proofs.formed.RowFacts.{Fits, by_row, row_at}
use Rattle.sh_parse.proofs.formed.RowsKeep.{Makes, rows_keep}
use Rattle.sh_parse.proofs.formed.States.{Below, Everywhere, Starts}
use Rattle.sh_parse.proofs.formed.TokensKept.{LexemeKept, leaf_kept}
use Rattle.sh_parse.proofs.formed.Walks.{State, enter, names_at, parts_at, past, step}
use Rattle.sh_parse.specs.Reads.{leaf}

names_kept : (aliases : List Alias) (all : List Owned) (n : Form) (σ τ : State) (p : Part) → WordsIn aliases all n σ τ p
    → NamesKept n p
names_kept aliases all forms.Map σ τ p h = h
names_kept aliases all _ σ τ p h = tt

module _ (aliases : List Alias) (all : List Owned) (numbered : AllByRecursion (λ a. MapNumbered a.map) aliases) where
  kept_by_words : (α : List Symbol) (f : Trees) (σ : State) → Spells language α f → AllByRecursion LexemeKept (tokens f)
      → Everywhere aliases all (WordsIn aliases all) σ f → Fits IsKept α (parts_at aliases (distinct all) σ f)
  kept_by_words α f σ is_nothing k words = tt
  kept_by_words α f σ (is_token {t = t} {behind = after} e spells) k words = (
    subst (λ c. LeafKept c (leaf aliases t (first_number (distinct all) (names_at aliases (distinct all) σ t)))) e (leaf_kept aliases t (first_number (distinct all) (names_at aliases (distinct all) σ t)) numbered k.0),
    kept_by_words _ after (step t σ) spells k.1 words,
  )
  kept_by_words α f σ (is_form {n = n} {i = i} {body = body} {below = under} {behind = after} e spells others) k words = (
    by_row IsKept body (Makes n i) (parts_at aliases (distinct all) (enter n σ) under) (row_at IsKept (Makes n) (language n) i body (rows_keep n) e)
        (kept_by_words body under (enter n σ) spells (each_front LexemeKept (tokens under) (tokens after) k) words.1.0)
        (names_kept aliases all n σ (past (enter n σ) under) _ words.0),
    kept_by_words _ after (past (enter n σ) under) others (each_behind LexemeKept (tokens under) (tokens after) k) words.1.1,
  )

  pub trees_keep : (α : List Symbol) (f : Trees) (σ : State) → Spells language α f → AllByRecursion LexemeKept (tokens f)
      → Below σ → Starts all (past σ f) → Fits IsKept α (parts_at aliases (distinct all) σ f)
  trees_keep α f σ spells k below b = kept_by_words α f σ spells k (words_everywhere aliases all α f σ spells below b)
