-- The tokens of a tree one by one: where each stands, and what the parts of the tree are by the numbers
-- that the tokens have there.
use Rattle.std.proofs.Common.{◌≡◌, ◌+◌, ◌∙◌, ℕ, suc, List, [], ◌∷◌, ◌++◌, length, map, drop, refl, ap, sym, append_assoc, length-append}
use Rattle.std.proofs.lemmas.List.{append-nil}
use Rattle.sh_build.specs.Meaning.{made}
use Rattle.sh_build.specs.declared.parts.Part.{Part}
use Rattle.sh_grammar.specs.Grammar.{Trees, tokens}
use Rattle.sh_grammar.specs.Grammar.Trees.{form, nothing, token}
use Rattle.sh_grammar.specs.Lexemes.{Lexeme}
use Rattle.sh_parse.specs.Reads.{leaf, leaves, parts_of}
pub use Rattle.sh_parse.proofs.formed.Walks.{State, enter, past, start, step}

-- ## Parts, by the number of each token where it stands

module _ (num : State → Lexeme → ℕ) where
  abbrev pub leaf_at : State → Lexeme → Part
  leaf_at σ t = leaf [] t (num σ t)

  abbrev pub leaves_at : State → Trees → List Part
  leaves_at σ nothing = []
  leaves_at σ (token t after) = leaf_at σ t ∷ leaves_at (step t σ) after
  leaves_at σ (form n i below after) = leaves_at (enter n σ) below ++ leaves_at (past (enter n σ) below) after

  abbrev pub parts_at : State → Trees → List Part
  parts_at σ nothing = []
  parts_at σ (token t after) = leaf_at σ t ∷ parts_at (step t σ) after
  parts_at σ (form n i below after) = made n i (parts_at (enter n σ) below) ∷ parts_at (past (enter n σ) below) after

  leaves_counted : (f : Trees) (σ : State) → length (leaves_at σ f) ≡ length (tokens f)
  leaves_counted nothing σ = refl
  leaves_counted (token t after) σ = ap suc (leaves_counted after (step t σ))
  leaves_counted (form n i below after) σ = length-append (leaves_at (enter n σ) below) _
      ∙ ap (λ k. k + length (leaves_at (past (enter n σ) below) after)) (leaves_counted below (enter n σ))
      ∙ ap (λ k. length (tokens below) + k) (leaves_counted after (past (enter n σ) below))
      ∙ sym (length-append (tokens below) (tokens after))

  drop_front : (xs ys : List Part) → drop (length xs) (xs ++ ys) ≡ ys
  drop_front [] ys = refl
  drop_front (x ∷ xs) ys = drop_front xs ys

  pub parts_walked : (f : Trees) (σ : State) (ls : List Part) → parts_of (leaves_at σ f ++ ls) f ≡ parts_at σ f
  parts_walked nothing σ ls = refl
  parts_walked (token t after) σ ls = ap (λ ps. leaf_at σ t ∷ ps) (parts_walked after (step t σ) ls)
  parts_walked (form n i below after) σ ls =
      let left : List Part = leaves_at (enter n σ) below in
      let right : List Part = leaves_at (past (enter n σ) below) after in
      let all : left ++ right ++ ls ≡ left ++ (right ++ ls) = append_assoc left right ls in
      let row : parts_of (left ++ right ++ ls) below ≡ parts_at (enter n σ) below =
      ap (λ xs. parts_of xs below) all ∙ parts_walked below (enter n σ) (right ++ ls) in
      let rest : drop (length (tokens below)) (left ++ right ++ ls) ≡ right ++ ls =
      ap (λ k. drop k (left ++ right ++ ls)) (sym (leaves_counted below (enter n σ))) ∙ ap (drop (length left)) all ∙ drop_front left (right ++ ls) in
      ap (λ ps. made n i ps ∷ parts_of (drop (length (tokens below)) (left ++ right ++ ls)) after) row
      ∙ ap (λ xs. made n i (parts_at (enter n σ) below) ∷ parts_of xs after) rest
      ∙ ap (λ ps. made n i (parts_at (enter n σ) below) ∷ ps) (parts_walked after (past (enter n σ) below) ls)

-- ## Numbers by texts alone

module _ (g : List ℕ → ℕ) where
  abbrev pub by_text : State → Lexeme → ℕ
  by_text σ t = g t.text

  leaves_both : (ts us : List Lexeme) → leaves [] (ts ++ us) (map (λ t. g t.text) (ts ++ us))
      ≡ leaves [] ts (map (λ t. g t.text) ts) ++ leaves [] us (map (λ t. g t.text) us)
  leaves_both [] us = refl
  leaves_both (t ∷ ts) us = ap (λ ls. leaf [] t (g t.text) ∷ ls) (leaves_both ts us)

  leaves_by_text : (f : Trees) (σ : State) → leaves_at by_text σ f ≡ leaves [] (tokens f) (map (λ t. g t.text) (tokens f))
  leaves_by_text nothing σ = refl
  leaves_by_text (token t after) σ = ap (λ ls. leaf [] t (g t.text) ∷ ls) (leaves_by_text after (step t σ))
  leaves_by_text (form n i below after) σ =
      ap (λ ls. ls ++ leaves_at by_text (past (enter n σ) below) after) (leaves_by_text below (enter n σ))
      ∙ ap (λ ls. leaves [] (tokens below) (map (λ t. g t.text) (tokens below)) ++ ls) (leaves_by_text after (past (enter n σ) below))
      ∙ sym (leaves_both (tokens below) (tokens after))

  pub parts_by_text : (f : Trees) (σ : State) → parts_of (leaves [] (tokens f) (map (λ t. g t.text) (tokens f))) f ≡ parts_at by_text σ f
  parts_by_text f σ =
      ap (λ ls. parts_of ls f) (sym (leaves_by_text f σ) ∙ sym (append-nil (leaves_at by_text σ f))) ∙ parts_walked by_text f σ []
