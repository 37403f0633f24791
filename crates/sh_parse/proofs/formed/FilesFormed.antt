-- The module that a text stands for is formed.
use Rattle.std.proofs.Common.{◌≡◌, ◌∙◌, ℕ, zero, suc, List, [], ◌∷◌, ◌++◌, map, refl, ap, sym, subst, arith, append_assoc, Ok, Err, Result}
use Rattle.std.specs.Prelude.{IfOk}
use Rattle.std.proofs.lemmas.List.{append-nil}
use Rattle.std.specs.List.{AllByRecursion}
use Rattle.std.proofs.lemmas.Option.{same_Some}
use Rattle.sh_build.specs.Meaning.{made}
use Rattle.sh_build.specs.Readings.{aliases_in}
use Rattle.sh_build.specs.Rows.{first_part}
use Rattle.sh_build.specs.declared.parts.Alias.{Alias}
use Rattle.sh_build.specs.declared.parts.Part.{Part}
use Rattle.sh_build.specs.declared.parts.Part.TheVariants as part
use Rattle.sh_grammar.specs.Grammar.{IsAlternative, Spells, Trees, events, tokens}
use Rattle.sh_grammar.specs.Grammar.Spells.{is_form}
use Rattle.sh_grammar.specs.Grammar.Trees.{form}
use Rattle.sh_grammar.specs.Language.{any, language, text_of_file}
use Rattle.sh_grammar.specs.Lexemes.{Lexeme, lexemes}
use Rattle.sh_grammar.specs.declared.forms.Form.{Form}
use Rattle.sh_grammar.specs.declared.forms.Form.TheVariants as forms
use Rattle.sh_grammar.specs.declared.symbols.Symbol.{Symbol}
use Rattle.sh_grammar.specs.declared.symbols.Symbol.TheVariants as symbol
use Rattle.sh_ir.specs.Formed.{IsFormed, has_own_body_names}
use Rattle.sh_ir.specs.declared.modules.Module.{Module}
use Rattle.sh_lex.specs.declared.tokens.TokenKind.TheVariants.{End}
use Rattle.sh_names.specs.Names.{Owned, distinct, first_number, mentions, names_behind, names_of, numbers_of}
use Rattle.sh_parse.proofs.formed.EachOf.{each_front, tests_all}
use Rattle.sh_parse.proofs.formed.FunctionRows.{names_everywhere}
use Rattle.sh_parse.proofs.formed.ModulesFormed.{formed}
use Rattle.sh_parse.proofs.formed.PartsKept.{IsKept, Keeps, MapNumbered, ModuleKept, module_in}
use Rattle.sh_parse.proofs.formed.RegionRows.{AllOwn, NamesIn}
use Rattle.sh_parse.proofs.formed.RowFacts.{Fits, by_row, row_at}
use Rattle.sh_parse.proofs.formed.RowsKeep.{Makes, rows_keep}
use Rattle.sh_parse.proofs.formed.States.{Below, Everywhere, Starts, starts_before, enter_below, flat, named_before}
use Rattle.sh_parse.proofs.formed.TokensKept.{LexemeKept, tokens_kept}
use Rattle.sh_parse.proofs.formed.TreesKeep.{trees_keep}
use Rattle.sh_parse.proofs.formed.Walks.{State, before_past, enter, leaves_at, leaves_walked, mentions_walked, parts_at, parts_walked, past, start, walked}
use Rattle.sh_parse.specs.Reads.{Reads, TokensRead, aliases_of, file_part, file_parts, leaves, parts_of}

below_start : Below start
below_start = record {
  names = tt;
  ops = tt;
  scope = record { func = omega arith; op = omega arith; map = omega arith; at = refl };
}

-- ## The parts of a file

-- the names of all tokens of these trees
abbrev pub all_names : Trees → List Owned
all_names f = flat (names_behind [] (walked start f))

mentions_of_file : (f : Trees) → mentions (events f) (tokens f) ≡ walked start f
mentions_of_file f =
    ap (λ es. mentions es (tokens f)) (sym (append-nil (events f))) ∙ ap (mentions (events f ++ [])) (sym (append-nil (tokens f)))
    ∙ mentions_walked f start [] [] ∙ append-nil (walked start f)

leaves_of_file : (aliases : List Alias) (f : Trees)
    → leaves aliases (tokens f) (numbers_of (names_of (mentions (events f) (tokens f))))
    ≡ leaves_at aliases (distinct (all_names f)) start f ++ []
leaves_of_file aliases f =
    ap (λ ms. leaves aliases (tokens f) (numbers_of (names_of ms))) (mentions_of_file f)
    ∙ ap (λ ts. leaves aliases ts (map (first_number (distinct (all_names f))) (names_behind [] (walked start f)))) (sym (append-nil (tokens f)))
    ∙ ap (λ ms. leaves aliases (tokens f ++ []) (map (first_number (distinct (all_names f))) (names_behind [] ms))) (sym (append-nil (walked start f)))
    ∙ leaves_walked aliases (distinct (all_names f)) f start [] []

-- the aliases of a file
abbrev pub aliases_in_file : Trees → List Alias
aliases_in_file f = aliases_of (leaves_at [] (distinct (all_names f)) start f ++ []) f

pub parts_of_file : (f : Trees)
    → file_parts (tokens f) (numbers_of (names_of (mentions (events f) (tokens f)))) f
    ≡ parts_at (aliases_in_file f) (distinct (all_names f)) start f
parts_of_file f =
    ap (λ ls. parts_of (leaves (aliases_of ls f) (tokens f) (numbers_of (names_of (mentions (events f) (tokens f))))) f) (leaves_of_file [] f)
    ∙ ap (λ ls. parts_of ls f) (leaves_of_file (aliases_in_file f) f)
    ∙ parts_walked (aliases_in_file f) (distinct (all_names f)) f start []

-- ## Aliases

begins_all : (f : Trees) → Starts (all_names f) (past start f)
begins_all f = record {
  later = [];
  is = sym (ap (λ ms. flat (names_behind [] ms)) (before_past f start)) ∙ sym (append-nil (named_before (past start f)));
}

module _ (all : List Owned) where
  abbrev pub at_heads : State
  at_heads = enter forms.Aliases (enter forms.File start)

  heads_numbered : (i j : ℕ) (row : List Symbol) (heads rest behind : Trees) → IsAlternative language forms.Aliases j row
      → Spells language row heads → AllByRecursion LexemeKept (tokens heads)
      → Starts all (past start (form forms.File i (form forms.Aliases j heads rest) behind))
      → AllByRecursion (λ a. MapNumbered a.map) (aliases_of
      (leaves_at [] (distinct all) start (form forms.File i (form forms.Aliases j heads rest) behind) ++ [])
      (form forms.File i (form forms.Aliases j heads rest) behind))
  heads_numbered i j row heads rest behind e spells k b =
      let below : Below at_heads = enter_below forms.Aliases (enter forms.File start) (enter_below forms.File start below_start) in
      let b' : Starts all (past at_heads heads) =
      starts_before all rest (past at_heads heads)
      (starts_before all behind (past (past at_heads heads) rest) b) in
      let front : List Part = leaves_at [] (distinct all) at_heads heads in
      let middle : List Part = leaves_at [] (distinct all) (past at_heads heads) rest in
      let last : List Part = leaves_at [] (distinct all) (past (past at_heads heads) rest) behind in
      let apart : front ++ middle ++ last ++ [] ≡ front ++ (middle ++ (last ++ [])) =
      append_assoc (front ++ middle) last [] ∙ append_assoc front middle (last ++ []) in
      let parts : parts_of (front ++ middle ++ last ++ []) heads ≡ parts_at [] (distinct all) at_heads heads =
      ap (λ ls. parts_of ls heads) apart ∙ parts_walked [] (distinct all) heads at_heads (middle ++ (last ++ [])) in
      subst (λ ps. AllByRecursion (λ a. MapNumbered a.map) (aliases_in (made forms.Aliases j ps))) (sym parts)
      (by_row IsKept row (Makes forms.Aliases j) (parts_at [] (distinct all) at_heads heads)
      (row_at IsKept (Makes forms.Aliases) (language forms.Aliases) j row (rows_keep forms.Aliases) e)
      (trees_keep [] all tt row heads at_heads spells k below b') tt)

file_row : (i : ℕ) (body : List Symbol) → IsAlternative language forms.File i body
    → body ≡ symbol.Part forms.Aliases ∷ symbol.Part forms.Contents ∷ []
file_row zero body e = sym (same_Some _ body e)
file_row (suc i) body e = cc

aliases_under : (all : List Owned) (i : ℕ) (below behind : Trees)
    → Spells language (symbol.Part forms.Aliases ∷ symbol.Part forms.Contents ∷ []) below
    → AllByRecursion LexemeKept (tokens below)
    → Starts all (past start (form forms.File i below behind))
    → AllByRecursion (λ a. MapNumbered a.map) (aliases_of
    (leaves_at [] (distinct all) start (form forms.File i below behind) ++ []) (form forms.File i below behind))
aliases_under all i below behind (is_form {i = j} {body = row} {below = heads} {behind = rest} e spells others) k b =
    heads_numbered all i j row heads rest behind e spells (each_front LexemeKept (tokens heads) (tokens rest) k) b

aliases_numbered : (all : List Owned) (f : Trees) → Spells language text_of_file f → AllByRecursion LexemeKept (tokens f)
    → Starts all (past start f)
    → AllByRecursion (λ a. MapNumbered a.map) (aliases_of (leaves_at [] (distinct all) start f ++ []) f)
aliases_numbered all f (is_form {i = i} {body = body} {below = below} {behind = behind} e spells others) k b =
    aliases_under all i below behind (subst (λ α. Spells language α below) (file_row i body e) spells)
    (each_front LexemeKept (tokens below) (tokens behind) k) b

-- ## The module

first_fits : (n : Form) (α : List Symbol) (ps : List Part) → Fits IsKept (symbol.Part n ∷ α) ps → Keeps n (first_part ps)
first_fits n α [] h = absurd h
first_fits n α (p ∷ ps) h = h.0

file_kept : (f : Trees) → Spells language text_of_file f → AllByRecursion LexemeKept (tokens f)
    → ModuleKept (module_in (file_part (tokens f) f))
file_kept f spells k =
    let numbered = aliases_numbered (all_names f) f spells k (begins_all f) in
    let fits = trees_keep (aliases_in_file f) (all_names f) numbered text_of_file f start spells k below_start (begins_all f) in
    subst (λ ps. ModuleKept (module_in (first_part ps))) (sym (parts_of_file f))
    (first_fits forms.File (any End ∷ []) (parts_at (aliases_in_file f) (distinct (all_names f)) start f) fits)

own_first : (aliases : List Alias) (all : List Owned) (f : Trees) → Spells language text_of_file f
    → Everywhere aliases all (NamesIn aliases all) start f
    → AllOwn all (module_in (first_part (parts_at aliases (distinct all) start f))).funcs
own_first aliases all f (is_form e spells others) every = every.0 refl

file_own : (f : Trees) → Spells language text_of_file f → AllOwn (all_names f) (module_in (file_part (tokens f) f)).funcs
file_own f spells = subst (λ ps. AllOwn (all_names f) (module_in (first_part ps)).funcs) (sym (parts_of_file f))
    (own_first (aliases_in_file f) (all_names f) f spells
    (names_everywhere (aliases_in_file f) (all_names f) text_of_file f start spells below_start (begins_all f)))

tokens_formed : (ts : List Lexeme) (m : Module) → AllByRecursion LexemeKept ts → TokensRead ts m → IsFormed m
tokens_formed ts m k r =
    let spells : Spells language text_of_file r.trees = r.file.0 in
    let all : tokens r.trees ≡ ts = r.file.1 in
    let stands : file_part (tokens r.trees) r.trees ≡ part.Module m = ap (λ us. file_part us r.trees) all ∙ r.stands in
    let kept : ModuleKept (module_in (part.Module m)) =
    subst (λ p. ModuleKept (module_in p)) stands (file_kept r.trees spells (subst (AllByRecursion LexemeKept) (sym all) k)) in
    let own : AllOwn (all_names r.trees) m.funcs =
    subst (λ p. AllOwn (all_names r.trees) (module_in p).funcs) stands (file_own r.trees spells) in
    formed m kept (tests_all has_own_body_names m.funcs own)

pub read_formed : (text : List ℕ) (m : Module) → Reads text m → IsFormed m
read_formed text m r = tokens_formed (lexemes text r.tokens) m (tokens_kept text 0 r.tokens r.has) r.read

-- what answers a module that the text stands for answers a formed one
pub formed_answer : {E : Type 0} (text : List ℕ) (r : Result Module E) → IfOk r (λ m. Reads text m) → IfOk r (λ m. IsFormed m)
formed_answer text (Ok m) read = read_formed text m read
formed_answer text (Err why) read = tt
