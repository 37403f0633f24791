-- The tokens of a tree one by one: where each stands, which number its name has, and what the parts of
-- the tree are by that.
use Rattle.std.proofs.Common.{◌≡◌, ◌+◌, ◌∙◌, ℕ, suc, List, [], ◌∷◌, ◌++◌, length, map, drop, Some, refl, ap, sym, append_assoc, length-append}
use Rattle.std.proofs.lemmas.List.{append-nil}
use Rattle.sh_build.specs.Meaning.{made}
use Rattle.sh_build.specs.declared.parts.Alias.{Alias}
use Rattle.sh_build.specs.declared.parts.Part.{Part}
use Rattle.sh_grammar.specs.Grammar.{Trees, events, tokens}
use Rattle.sh_grammar.specs.Grammar.Trees.{form, nothing, token}
use Rattle.sh_grammar.specs.Lexemes.{Lexeme}
use Rattle.sh_grammar.specs.declared.forms.Form.{Form}
use Rattle.sh_grammar.specs.declared.symbols.Event.{Event}
use Rattle.sh_names.specs.declared.scopes.Scope.{Scope}
use Rattle.sh_names.specs.Names.{Mention, Owned, at_start, behind, first_number, inside, mention_of, mentions_from, names_behind, names_by_role}
use Rattle.sh_parse.specs.Reads.{leaf, leaves, parts_of}

-- How far a reading has come.
pub record State : Type 0 where
  pub count : ℕ  -- how many tokens are read
  pub scope : Scope
  pub before : List Mention  -- what they mention

abbrev pub start : State
start = record { count = 0; scope = at_start; before = [] }

abbrev pub step : Lexeme → State → State
step t σ = record {
  count = suc σ.count;
  scope = behind t.kind σ.scope;
  before = σ.before ++ mention_of σ.scope t ∷ [];
}

-- a form begins
abbrev pub enter : Form → State → State
enter n σ = record σ { scope = record (inside σ.count n σ.scope) { opened = Some n } }

-- behind the trees
abbrev pub past : State → Trees → State
past σ nothing = σ
past σ (token t after) = past (step t σ) after
past σ (form n i below after) = past (past (enter n σ) below) after

-- what their tokens mention
abbrev pub walked : State → Trees → List Mention
walked σ nothing = []
walked σ (token t after) = mention_of σ.scope t ∷ walked (step t σ) after
walked σ (form n i below after) = walked (enter n σ) below ++ walked (past (enter n σ) below) after

pub mentions_walked : (f : Trees) (σ : State) (es : List Event) (us : List Lexeme)
    → mentions_from σ.count σ.scope (events f ++ es) (tokens f ++ us)
    ≡ walked σ f ++ mentions_from (past σ f).count (past σ f).scope es us
mentions_walked nothing σ es us = refl
mentions_walked (token t after) σ es us = ap (λ ms. mention_of σ.scope t ∷ ms) (mentions_walked after (step t σ) es us)
mentions_walked (form n i below after) σ es us =
    ap (λ xs. mentions_from σ.count (enter n σ).scope xs (tokens below ++ tokens after ++ us)) (append_assoc (events below) (events after) es)
    ∙ ap (mentions_from σ.count (enter n σ).scope (events below ++ (events after ++ es))) (append_assoc (tokens below) (tokens after) us)
    ∙ mentions_walked below (enter n σ) (events after ++ es) (tokens after ++ us)
    ∙ ap (λ ms. walked (enter n σ) below ++ ms) (mentions_walked after (past (enter n σ) below) es us)
    ∙ sym (append_assoc (walked (enter n σ) below) _ _)

pub before_past : (f : Trees) (σ : State) → (past σ f).before ≡ σ.before ++ walked σ f
before_past nothing σ = sym (append-nil σ.before)
before_past (token t after) σ = before_past after (step t σ) ∙ append_assoc σ.before (mention_of σ.scope t ∷ []) (walked (step t σ) after)
before_past (form n i below after) σ =
    before_past after (past (enter n σ) below)
    ∙ ap (λ ms. ms ++ walked (past (enter n σ) below) after) (before_past below (enter n σ))
    ∙ append_assoc σ.before (walked (enter n σ) below) (walked (past (enter n σ) below) after)

pub names_behind_both : (before ms ns : List Mention)
    → names_behind before (ms ++ ns) ≡ names_behind before ms ++ names_behind (before ++ ms) ns
names_behind_both before [] ns = ap (λ b. names_behind b ns) (sym (append-nil before))
names_behind_both before (m ∷ ms) ns = ap (λ xs. names_by_role m.role before m ∷ xs)
    (names_behind_both (before ++ m ∷ []) ms ns
    ∙ ap (λ b. names_behind (before ++ m ∷ []) ms ++ names_behind b ns) (append_assoc before (m ∷ []) ms))

-- ## Parts

module _ (aliases : List Alias) (names : List Owned) where
  -- the names of a token
  abbrev pub names_at : State → Lexeme → List Owned
  names_at σ t = let m = mention_of σ.scope t in names_by_role m.role σ.before m

  abbrev pub leaf_at : State → Lexeme → Part
  leaf_at σ t = leaf aliases t (first_number names (names_at σ t))

  abbrev pub leaves_at : State → Trees → List Part
  leaves_at σ nothing = []
  leaves_at σ (token t after) = leaf_at σ t ∷ leaves_at (step t σ) after
  leaves_at σ (form n i below after) = leaves_at (enter n σ) below ++ leaves_at (past (enter n σ) below) after

  abbrev pub parts_at : State → Trees → List Part
  parts_at σ nothing = []
  parts_at σ (token t after) = leaf_at σ t ∷ parts_at (step t σ) after
  parts_at σ (form n i below after) = made n i (parts_at (enter n σ) below) ∷ parts_at (past (enter n σ) below) after

  leaves_counted : (f : Trees) (σ : State) → length (leaves_at σ f) ≡ length (tokens f)
  leaves_counted nothing σ = refl
  leaves_counted (token t after) σ = ap suc (leaves_counted after (step t σ))
  leaves_counted (form n i below after) σ = length-append (leaves_at (enter n σ) below) _
      ∙ ap (λ k. k + length (leaves_at (past (enter n σ) below) after)) (leaves_counted below (enter n σ))
      ∙ ap (λ k. length (tokens below) + k) (leaves_counted after (past (enter n σ) below))
      ∙ sym (length-append (tokens below) (tokens after))

  drop_front : (xs ys : List Part) → drop (length xs) (xs ++ ys) ≡ ys
  drop_front [] ys = refl
  drop_front (x ∷ xs) ys = drop_front xs ys

  pub parts_walked : (f : Trees) (σ : State) (ls : List Part) → parts_of (leaves_at σ f ++ ls) f ≡ parts_at σ f
  parts_walked nothing σ ls = refl
  parts_walked (token t after) σ ls = ap (λ ps. leaf_at σ t ∷ ps) (parts_walked after (step t σ) ls)
  parts_walked (form n i below after) σ ls =
      let left : List Part = leaves_at (enter n σ) below in
      let right : List Part = leaves_at (past (enter n σ) below) after in
      let all : left ++ right ++ ls ≡ left ++ (right ++ ls) = append_assoc left right ls in
      let row : parts_of (left ++ right ++ ls) below ≡ parts_at (enter n σ) below =
      ap (λ xs. parts_of xs below) all ∙ parts_walked below (enter n σ) (right ++ ls) in
      let rest : drop (length (tokens below)) (left ++ right ++ ls) ≡ right ++ ls =
      ap (λ k. drop k (left ++ right ++ ls)) (sym (leaves_counted below (enter n σ))) ∙ ap (drop (length left)) all ∙ drop_front left (right ++ ls) in
      ap (λ ps. made n i ps ∷ parts_of (drop (length (tokens below)) (left ++ right ++ ls)) after) row
      ∙ ap (λ xs. made n i (parts_at (enter n σ) below) ∷ parts_of xs after) rest
      ∙ ap (λ ps. made n i (parts_at (enter n σ) below) ∷ ps) (parts_walked after (past (enter n σ) below) ls)

  pub leaves_walked : (f : Trees) (σ : State) (us : List Lexeme) (ms : List Mention)
      → leaves aliases (tokens f ++ us) (map (first_number names) (names_behind σ.before (walked σ f ++ ms)))
      ≡ leaves_at σ f ++ leaves aliases us (map (first_number names) (names_behind (past σ f).before ms))
  leaves_walked nothing σ us ms = refl
  leaves_walked (token t after) σ us ms = ap (λ ls. leaf_at σ t ∷ ls) (leaves_walked after (step t σ) us ms)
  leaves_walked (form n i below after) σ us ms =
      ap (λ xs. leaves aliases (tokens below ++ tokens after ++ us) (map (first_number names) (names_behind σ.before xs)))
      (append_assoc (walked (enter n σ) below) (walked (past (enter n σ) below) after) ms)
      ∙ ap (λ ts. leaves aliases ts (map (first_number names) (names_behind σ.before (walked (enter n σ) below ++ (walked (past (enter n σ) below) after ++ ms)))))
      (append_assoc (tokens below) (tokens after) us)
      ∙ leaves_walked below (enter n σ) (tokens after ++ us) (walked (past (enter n σ) below) after ++ ms)
      ∙ ap (λ ls. leaves_at (enter n σ) below ++ ls) (leaves_walked after (past (enter n σ) below) us ms)
      ∙ sym (append_assoc (leaves_at (enter n σ) below) _ _)
