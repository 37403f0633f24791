-- The parts that are made from the steps of a tree, from the last to the first, are those that the tree
-- stands for.
use Rattle.std.proofs.Common.{◌≡◌, ℕ, suc, List, [], ◌∷◌, ◌++◌, length, drop, refl, ◌∙◌, ap, sym, append_assoc, length-append, drop-drop}
use Rattle.std.proofs.Math.Seq.{drop-nil}
use Rattle.sh_grammar.specs.Grammar.{Trees, events, size, tokens}
use Rattle.sh_grammar.specs.Grammar.Trees.{nothing, token, form}
use Rattle.sh_grammar.specs.declared.forms.Form.{Form}
use Rattle.sh_grammar.specs.declared.symbols.Event.{Event}
use Rattle.sh_grammar.specs.declared.symbols.Event.TheVariants.{Opened}
use Rattle.sh_build.specs.Building.{made_of, parts_by}
use Rattle.sh_build.specs.Meaning.{made}
use Rattle.sh_parse.specs.Reads.{parts_of}
use Rattle.sh_build.specs.Rows.{firsts, past}
use Rattle.sh_build.specs.declared.parts.Part.{Part}
use Rattle.sh_build.specs.declared.parts.Part.TheVariants.{Nothing}

firsts_of : (xs ys : List Part) → firsts (length xs) (xs ++ ys) ≡ xs
firsts_of [] ys = refl
firsts_of (x ∷ xs) ys = ap (λ zs. x ∷ zs) (firsts_of xs ys)

past_of : (xs ys : List Part) → past (length xs) (xs ++ ys) ≡ ys
past_of [] ys = refl
past_of (x ∷ xs) ys = past_of xs ys

-- a row of trees has as many parts as trees
pub parts_counted : (ls : List Part) (f : Trees) → length (parts_of ls f) ≡ size f
parts_counted ls nothing = refl
parts_counted [] (token t behind) = ap suc (parts_counted [] behind)
parts_counted (l ∷ ls) (token t behind) = ap suc (parts_counted ls behind)
parts_counted ls (form n i below behind) = ap suc (parts_counted (drop (length (tokens below)) ls) behind)

-- a form makes its part of a row of so many
made_of_row : (n : Form) (i k : ℕ) (row rest : List Part) → length row ≡ k
    → made_of (Opened n i k) (row ++ rest) ≡ made n i row ∷ rest
made_of_row n i k row rest e = rw (sym e) (rw (firsts_of row rest, past_of row rest) refl)

pub parts_by-parts_of : (f : Trees) (es : List Event) (ls parts : List Part)
    → parts_by (events f ++ es) ls parts ≡ parts_of ls f ++ parts_by es (drop (length (tokens f)) ls) parts
parts_by-parts_of nothing es ls parts = refl
parts_by-parts_of (token t behind) es [] parts =
    ap (λ zs. Nothing ∷ zs) (parts_by-parts_of behind es [] parts
    ∙ ap (λ ls. parts_of [] behind ++ parts_by es ls parts) (drop-nil (length (tokens behind))))
parts_by-parts_of (token t behind) es (l ∷ ls) parts = ap (λ zs. l ∷ zs) (parts_by-parts_of behind es ls parts)
parts_by-parts_of (form n i below behind) es ls parts =
    let left : drop (length (tokens behind)) (drop (length (tokens below)) ls) ≡ drop (length (tokens below ++ tokens behind)) ls =
    drop-drop (length (tokens behind)) (length (tokens below)) ls
    ∙ ap (λ n. drop n ls) (sym (length-append (tokens below) (tokens behind))) in
    let row : parts_by (events below ++ events behind ++ es) ls parts
    ≡ parts_of ls below ++ (parts_of (drop (length (tokens below)) ls) behind
    ++ parts_by es (drop (length (tokens below ++ tokens behind)) ls) parts) =
    ap (λ steps. parts_by steps ls parts) (append_assoc (events below) (events behind) es)
    ∙ parts_by-parts_of below (events behind ++ es) ls parts
    ∙ ap (λ rest. parts_of ls below ++ rest) (parts_by-parts_of behind es (drop (length (tokens below)) ls) parts
    ∙ ap (λ d. parts_of (drop (length (tokens below)) ls) behind ++ parts_by es d parts) left) in
    ap (made_of (Opened n i (size below))) row
    ∙ made_of_row n i (size below) (parts_of ls below) _ (parts_counted ls below)
