-- The tokens of a printed module are a file that stands for a module alike.
use Rattle.std.proofs.Common.{◌≡◌, ◌∙◌, ℕ, true, List, [], ◌∷◌, ◌++◌, map, refl, ap, sym, subst, codes}
use Rattle.std.specs.Prelude.{IsTrue, flat_map}
use Rattle.std.specs.List.{AllByRecursion, list_all, list_any}
use Rattle.std.proofs.lemmas.Bool.{or_left}
use Rattle.std.proofs.lemmas.Grind.{flat_map-append}
use Rattle.std.proofs.lemmas.List.{append-nil}
use Rattle.std.proofs.lemmas.List.Folds.{list_all-append}
use Rattle.sh_alike.specs.Alike.{AreAlike}
use Rattle.sh_base.specs.declared.places.Place.{Place}
use Rattle.sh_build.specs.Meaning.{made}
use Rattle.sh_build.specs.Rows.{first_part}
use Rattle.sh_build.specs.declared.parts.Part.{Part}
use Rattle.sh_build.specs.declared.parts.Part.TheVariants as part
use Rattle.sh_grammar.proofs.OneLanguage.{only_tree}
use Rattle.sh_grammar.specs.Grammar.{Trees, events, tokens}
use Rattle.sh_grammar.specs.Grammar.Spells.{is_form, is_nothing, is_token}
use Rattle.sh_grammar.specs.Grammar.Trees.{form, nothing, token as tree_token}
use Rattle.sh_grammar.specs.Language.{IsFile}
use Rattle.sh_grammar.specs.Lexemes.{Lexeme, class_of, class_of_kind, lexeme_of, lexemes}
use Rattle.sh_grammar.specs.declared.forms.Form.TheVariants as forms
use Rattle.sh_ir.specs.Formed.{IsFormed, is_numbered, op_texts, all_written, ops_of}
use Rattle.sh_ir.specs.Written.{Written}
use Rattle.sh_ir.specs.declared.functions.Func.{Func}
use Rattle.sh_ir.specs.declared.modules.Module.{Module}
use Rattle.sh_ir.specs.declared.operations.Op.{Op}
use Rattle.sh_lex.specs.declared.tokens.Token.{Token}
use Rattle.sh_lex.specs.declared.tokens.TokenKind.TheVariants as kind
use Rattle.sh_names.specs.Names.{Mention, Owned, all_keep, distinct, first_number, keep_rules, mentions, names_behind, same_owned}
use Rattle.sh_parse.proofs.formed.FilesFormed.{all_names, parts_of_file, read_formed}
use Rattle.sh_parse.proofs.formed.NumbersOfNames.{IsIn, in_behind, in_front, same_self}
use Rattle.sh_parse.proofs.formed.Walks.{before_past, mentions_walked, names_behind_both, walked}
use Rattle.sh_parse.proofs.formed.Walks as read
use Rattle.sh_parse.specs.Reads.{Reads, TokensRead, aliases_of, file_part, leaf}
use Rattle.sh_print.proofs.LayoutLexes.{layout_lexes}
use Rattle.sh_print.proofs.ReadableModules.{formed_can_be_read}
use Rattle.sh_print.specs.Layout.{Piece}
use Rattle.sh_print.specs.Layout.Piece.{apart as piece_apart, closing as piece_closing, line_end as piece_line_end, opening as piece_opening, token as piece_token}
use Rattle.sh_print.specs.LayoutLaw.{HasSpellings, Spelling, spelling, spelling_in, spellings_of}
use Rattle.sh_print.specs.Tokens.{text_of, tokens_of}
use Rattle.sh_print_laws.specs.Printable.{IsReadAlike}
use Rattle.sh_print_laws.specs.TokensOf.{AreTokensOf, lexeme}
use Rattle.sh_print_laws.specs.TokensOf.AreTokensOf.{none, a_token, an_apart, an_opening, a_closing, a_line_end}
use Rattle.sh_print_laws.proofs.Between.{outside_spot}
use Rattle.sh_print_laws.proofs.Codes.{code, code_apart, number_by, number_in_all, numbers_apart}
use Rattle.sh_print_laws.proofs.FunctionForms.{AreNumbered}
use Rattle.sh_print_laws.proofs.Heads.{AtItem, anyone, at_start}
use Rattle.sh_print_laws.proofs.ModuleForms.{IsModule, ModuleFits, ModuleRead, contents_spelled}
use Rattle.sh_print_laws.proofs.Owners.{FuncNames, module_alike}
use Rattle.sh_print_laws.proofs.Rows.{MadeTo, split}
use Rattle.sh_print_laws.proofs.Standing.{Standing, enters_plain, first_by, names_at, num_by, steps_on}
use Rattle.sh_print_laws.proofs.Tests.{and_parts}
use Rattle.sh_print_laws.proofs.Walks.{State, enter, parts_at, past, start, step}

-- ## Tokens by their spellings

-- the end of a text
abbrev the_end : Piece
the_end = piece_token kind.End []

all_spellings : (ps : List Piece) → spellings_of (ps ++ the_end ∷ []) ≡ spellings_of ps ++ spelling kind.End [] ∷ []
all_spellings [] = refl
all_spellings (piece_token k x ∷ ps) = ap (λ xs. spelling k x ∷ xs) (all_spellings ps)
all_spellings (piece_apart ∷ ps) = ap (λ xs. spelling kind.Sign (codes "<") ∷ xs) (all_spellings ps)
all_spellings (piece_opening ∷ ps) = ap (λ xs. spelling kind.Sign (codes "{") ∷ xs) (all_spellings ps)
all_spellings (piece_closing ∷ ps) = ap (λ xs. spelling kind.Sign (codes "}") ∷ xs) (all_spellings ps)
all_spellings (piece_line_end ∷ ps) = all_spellings ps

-- a token of this spelling
spelled_token : (text : List ℕ) (t : Token) (x : Spelling) → spelling_in text t ≡ x → lexeme_of text t ≡ lexeme x.kind x.text t.place
spelled_token text t x e = ap (λ y. lexeme y.kind y.text t.place) e

first_two : {X : Type 0} (x y : X) (xs ys : List X) → x ∷ xs ≡ y ∷ ys → (x ≡ y) × (xs ≡ ys)
first_two x y xs ys e = (let a : x ≡ y = cc in a, let b : xs ≡ ys = cc in b)

tokens_are : (text : List ℕ) (ps : List Piece) (ts : List Token) → map (spelling_in text) ts ≡ spellings_of ps → AreTokensOf ps (lexemes text ts)
tokens_are text [] [] e = none
tokens_are text [] (t ∷ ts) e = absurd (cc)
tokens_are text (piece_line_end ∷ ps) ts e = a_line_end (tokens_are text ps ts e)
tokens_are text (piece_token k x ∷ ps) [] e = absurd (cc)
tokens_are text (piece_token k x ∷ ps) (t ∷ ts) e = let h = first_two _ _ _ _ e in
    subst (λ l. AreTokensOf (piece_token k x ∷ ps) (l ∷ lexemes text ts)) (sym (spelled_token text t (spelling k x) h.0)) (a_token (tokens_are text ps ts h.1))
tokens_are text (piece_apart ∷ ps) [] e = absurd (cc)
tokens_are text (piece_apart ∷ ps) (t ∷ ts) e = let h = first_two _ _ _ _ e in
    subst (λ l. AreTokensOf (piece_apart ∷ ps) (l ∷ lexemes text ts)) (sym (spelled_token text t (spelling kind.Sign (codes "<")) h.0)) (an_apart (tokens_are text ps ts h.1))
tokens_are text (piece_opening ∷ ps) [] e = absurd (cc)
tokens_are text (piece_opening ∷ ps) (t ∷ ts) e = let h = first_two _ _ _ _ e in
    subst (λ l. AreTokensOf (piece_opening ∷ ps) (l ∷ lexemes text ts)) (sym (spelled_token text t (spelling kind.Sign (codes "{")) h.0)) (an_opening (tokens_are text ps ts h.1))
tokens_are text (piece_closing ∷ ps) [] e = absurd (cc)
tokens_are text (piece_closing ∷ ps) (t ∷ ts) e = let h = first_two _ _ _ _ e in
    subst (λ l. AreTokensOf (piece_closing ∷ ps) (l ∷ lexemes text ts)) (sym (spelled_token text t (spelling kind.Sign (codes "}")) h.0)) (a_closing (tokens_are text ps ts h.1))

-- ## The tree of a file

end_class : (p : Place) → class_of (lexeme kind.End [] p) ≡ class_of_kind kind.End
unfolding class_of
end_class p = refl

-- where the contents begin
abbrev at_contents : State
at_contents = enter forms.Aliases (enter forms.File start)

stands_there : Standing (outside_spot anyone 0 0) at_contents
stands_there = enters_plain (outside_spot anyone 0 0) forms.Aliases (enter forms.File start) refl (enters_plain (outside_spot anyone 0 0) forms.File start refl at_start)

-- the tree of these contents and this end
abbrev tree_of : ℕ → Trees → Lexeme → Trees
tree_of i below end = form forms.File 0 (form forms.Aliases 0 nothing (form forms.Contents i below nothing)) (tree_token end nothing)

-- The tokens are a file, which stands for a module that is read so.
record FileTree (v : Owned → ℕ) (apart : (x y : Owned) → x.unit ≡ y.unit → v x ≡ v y → x ≡ y) (m : Module) (ts : List Lexeme) : Type 0 where
  pub i : ℕ
  pub below : Trees
  pub end : Lexeme
  pub file : IsFile ts (tree_of i below end)
  pub found : Module
  pub is : first_part (parts_at (num_by v) start (tree_of i below end)) ≡ part.Module found
  pub read : ModuleRead v apart m found
  pub kept : all_keep [] (past start (tree_of i below end)).before ≡ true

file_tree : (v : Owned → ℕ) (apart : (x y : Owned) → x.unit ≡ y.unit → v x ≡ v y → x ≡ y) (m : Module) → ModuleFits m → (ts : List Lexeme) → AreTokensOf (tokens_of m ++ the_end ∷ []) ts → FileTree v apart m ts
unfolding made
file_tree v apart m fits ts are =
    let s = split (tokens_of m) (the_end ∷ []) ts are in
    let c = contents_spelled v apart m fits s.front at_contents s.first stands_there in
    by_end s.behind s.second s.is c
  where
    by_end : (behind : List Lexeme) → AreTokensOf (the_end ∷ []) behind → {front : List Lexeme} → front ++ behind ≡ ts → MadeTo (num_by v) (AtItem anyone) forms.Contents at_contents front (IsModule v apart m)
        → FileTree v apart m ts
    by_end _ (a_token {place = p} none) {front} is c =
        let end : Lexeme = lexeme kind.End [] p in
        let h = c.holds in
        let behind_it = steps_on (outside_spot anyone h.0 h.1) refl end (past (enter forms.Contents at_contents) c.below) h.2 in
        record {
          i = c.i;
          below = c.below;
          end = end;
          file = (is_form refl (is_form refl is_nothing (is_form c.is c.spells is_nothing)) (is_token (end_class p) is_nothing), ap (λ us. us ++ end ∷ []) (append-nil (tokens c.below) ∙ c.takes) ∙ is);
          found = c.value.0;
          is = c.value.1;
          read = c.value.2;
          kept = behind_it.mentioned.kept;
        }

-- ## Numbers of the names of a tree

abbrev flat : List (List Owned) → List Owned
flat names = flat_map (λ ns. ns) names

module _ (all : List Owned) where
  abbrev num : State → Lexeme → ℕ
  num = num_by (number_by all)

  -- the names of these trees are among all
  abbrev AreIn : State → Trees → Type 0
  AreIn σ f = (x : Owned) → IsIn (flat (names_behind σ.before (walked σ f))) x → IsIn all x

  number_same : (names : List Owned) → ((x : Owned) → IsIn names x → IsIn all x) → first_by (number_by all) names ≡ first_number (distinct all) names
  number_same [] h = refl
  number_same (x ∷ xs) h = number_in_all all x (h x (or_left (same_owned x x) (list_any (same_owned x) xs) (same_self x)))

  leaf_same : (σ : State) (t : Lexeme) → ((x : Owned) → IsIn (names_at σ t) x → IsIn all x) → leaf [] t (num σ t) ≡ read.leaf_at [] (distinct all) σ t
  leaf_same σ t h = ap (leaf [] t) (number_same (names_at σ t) h)

  parts_same : (f : Trees) (σ : State) → AreIn σ f → parts_at num σ f ≡ read.parts_at [] (distinct all) σ f
  parts_same nothing σ h = refl
  parts_same (tree_token t after) σ h =
      let first = leaf_same σ t (λ x g. h x (in_front (names_at σ t) (flat (names_behind (step t σ).before (walked (step t σ) after))) x g)) in
      let rest = parts_same after (step t σ) (λ x g. h x (in_behind (names_at σ t) (flat (names_behind (step t σ).before (walked (step t σ) after))) x g)) in
      ap (λ p. p ∷ parts_at num (step t σ) after) first ∙ ap (λ ps. read.leaf_at [] (distinct all) σ t ∷ ps) rest
  parts_same (form n i below after) σ h =
      let inner : List Mention = walked (enter n σ) below in
      let later : List Mention = walked (past (enter n σ) below) after in
      let both : flat (names_behind σ.before (inner ++ later)) ≡ flat (names_behind σ.before inner) ++ flat (names_behind (past (enter n σ) below).before later) =
      ap flat (names_behind_both σ.before inner later)
      ∙ flat_map-append (λ ns. ns) (names_behind σ.before inner) (names_behind (σ.before ++ inner) later)
      ∙ ap (λ b. flat (names_behind σ.before inner) ++ flat (names_behind b later)) (sym (before_past below (enter n σ))) in
      let first = parts_same below (enter n σ) (λ x g. h x (subst (λ xs. IsIn xs x) (sym both) (in_front (flat (names_behind σ.before inner)) (flat (names_behind (past (enter n σ) below).before later)) x g))) in
      let rest = parts_same after (past (enter n σ) below) (λ x g. h x (subst (λ xs. IsIn xs x) (sym both) (in_behind (flat (names_behind σ.before inner)) (flat (names_behind (past (enter n σ) below).before later)) x g))) in
      ap (λ ps. made n i ps ∷ parts_at num (past (enter n σ) below) after) first
      ∙ ap (λ ps. made n i (read.parts_at [] (distinct all) (enter n σ) below) ∷ ps) rest

mentions_of : (f : Trees) → mentions (events f) (tokens f) ≡ walked start f
mentions_of f =
    ap (λ es. mentions es (tokens f)) (sym (append-nil (events f))) ∙ ap (mentions (events f ++ [])) (sym (append-nil (tokens f)))
    ∙ mentions_walked f start [] [] ∙ append-nil (walked start f)

no_aliases : (ls : List Part) (i : ℕ) (below : Trees) (end : Lexeme) → aliases_of ls (tree_of i below end) ≡ []
unfolding made
no_aliases ls i below end = refl

-- ## The module that is read

-- A module that the tokens stand for, which is alike where its maps are numbered.
pub record IsReadAs (m : Module) (ts : List Lexeme) : Type 0 where
  pub found : Module
  pub stands : TokensRead ts found
  pub alike : AllByRecursion (λ g. AreNumbered g.ops) found.funcs → AreAlike m found

read_as : (m : Module) (ts : List Lexeme) (g : Trees) → IsFile ts g → AllByRecursion FuncNames m.funcs → FileTree (number_by (all_names g)) (numbers_apart (all_names g)) m ts → IsReadAs m ts
read_as m ts g other names t =
    let f : Trees = tree_of t.i t.below t.end in
    let same : g ≡ f = only_tree ts g f other t.file in
    let all : List Owned = all_names g in
    let takes : tokens f ≡ ts = t.file.1 in
    let is_all : all_names f ≡ all = ap all_names (sym same) in
    let parts : parts_at (num_by (number_by all)) start f ≡ read.parts_at [] (distinct all) start f =
    parts_same all f start (λ x h. subst (λ xs. IsIn xs x) is_all h) in
    let none : aliases_of (read.leaves_at [] (distinct (all_names f)) start f ++ []) f ≡ [] = no_aliases (read.leaves_at [] (distinct (all_names f)) start f ++ []) t.i t.below t.end in
    let stands : file_part (tokens f) f ≡ part.Module t.found =
    ap first_part (parts_of_file f ∙ ap (λ aliases. read.parts_at aliases (distinct (all_names f)) start f) none ∙ ap (λ xs. read.parts_at [] (distinct xs) start f) is_all ∙ sym parts) ∙ t.is in
    let kept : keep_rules (mentions (events f) (tokens f)) ≡ true = ap keep_rules (mentions_of f) ∙ ap (all_keep []) (sym (before_past f start)) ∙ t.kept in
    record {
      found = t.found;
      stands = record {
        trees = f;
        file = t.file;
        names = subst (λ us. keep_rules (mentions (events f) us) ≡ true) takes kept;
        stands = subst (λ us. file_part us f ≡ part.Module t.found) takes stands;
      };
      alike = λ numbered. module_alike (number_by all) (numbers_apart all) m t.found names t.read numbered;
    }

tokens_read : (m : Module) → ModuleFits m → AllByRecursion FuncNames m.funcs → (ts : List Lexeme) → AreTokensOf (tokens_of m ++ the_end ∷ []) ts → IsReadAs m ts
tokens_read m fits names ts are =
    let first = file_tree code (λ x y u e. code_apart x y e) m fits ts are in
    let g : Trees = tree_of first.i first.below first.end in
    read_as m ts g first.file names (file_tree (number_by (all_names g)) (numbers_apart (all_names g)) m fits ts are)

-- ## The text

texts_numbered : (xs : List Written) → list_all is_numbered (flat_map (λ x. x.maps) xs) ≡ true → AllByRecursion (λ x. IsTrue (list_all is_numbered x.maps)) xs
texts_numbered [] h = tt
texts_numbered (x ∷ xs) h = let both = and_parts (list_all is_numbered x.maps) (list_all is_numbered (flat_map (λ x. x.maps) xs)) (sym (list_all-append is_numbered x.maps (flat_map (λ x. x.maps) xs)) ∙ h) in
    (both.0, texts_numbered xs both.1)

ops_numbered : (ops : List Op) (more : List Written) → AllByRecursion (λ x. IsTrue (list_all is_numbered x.maps)) (op_texts ops ++ more) → AreNumbered ops
ops_numbered [] more h = tt
ops_numbered (x ∷ ops) more h = (h.0, ops_numbered ops more h.1)

funcs_numbered : (funcs : List Func) → AreNumbered (flat_map (λ f. f.ops) funcs) → AllByRecursion (λ g. AreNumbered g.ops) funcs
funcs_numbered [] h = tt
funcs_numbered (f ∷ funcs) h = (front f.ops h, funcs_numbered funcs (behind f.ops h))
  where
    front : (ops : List Op) → AreNumbered (ops ++ flat_map (λ f. f.ops) funcs) → AreNumbered ops
    front [] h = tt
    front (x ∷ ops) h = (h.0, front ops h.1)

    behind : (ops : List Op) → AreNumbered (ops ++ flat_map (λ f. f.ops) funcs) → AreNumbered (flat_map (λ f. f.ops) funcs)
    behind [] h = h
    behind (x ∷ ops) h = behind ops h.1

pub text_read : (m : Module) → IsFormed m → ModuleFits m → AllByRecursion FuncNames m.funcs → IsReadAlike m (text_of m)
text_read m formed fits names =
    let printed : HasSpellings (text_of m) (spellings_of (tokens_of m)) = layout_lexes (tokens_of m) (formed_can_be_read m formed) in
    let are : AreTokensOf (tokens_of m ++ the_end ∷ []) (lexemes (text_of m) printed.tokens) =
    tokens_are (text_of m) (tokens_of m ++ the_end ∷ []) printed.tokens (printed.same ∙ sym (all_spellings (tokens_of m))) in
    let it = tokens_read m fits names (lexemes (text_of m) printed.tokens) are in
    let reads : Reads (text_of m) it.found = record { tokens = printed.tokens; has = printed.has; read = it.stands } in
    let again : IsFormed it.found = read_formed (text_of m) it.found reads in
    record {
      found = it.found;
      reads = reads;
      alike = it.alike (funcs_numbered it.found.funcs (ops_numbered (ops_of it.found) _ (texts_numbered (all_written it.found) again.maps)));
    }
