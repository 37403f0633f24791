-- Each file stands for a module: the parts of its contents are as many as their row has symbols.
use mathlib.Core.Path.{◌∙◌, ap, sym, refl, subst}
use Rattle.std.proofs.Common.{◌≡◌, ℕ, zero, suc, List, [], ◌∷◌, length, drop, arith}
use Rattle.std.proofs.lemmas.Option.{none-some, same_Some}
use Rattle.sh_grammar.specs.Grammar.{IsAlternative, Spells, Trees, is_form, is_nothing, is_token, size, tokens}
use Rattle.sh_grammar.specs.Language.{IsFile, language, text_of_file}
use Rattle.sh_grammar.specs.Lexemes.{Lexeme}
use Rattle.sh_grammar.specs.declared.forms.Form.TheVariants.{Aliases, Contents, File}
use Rattle.sh_grammar.specs.declared.symbols.Symbol.{Symbol}
use Rattle.sh_grammar.specs.declared.symbols.Symbol.TheVariants as symbol
use Rattle.sh_ir.specs.declared.modules.Module.{Module}
use Rattle.sh_build.specs.Meaning.{made}
use Rattle.sh_build.specs.Rows.{first_part}
use Rattle.sh_build.specs.declared.parts.Part.{Part}
use Rattle.sh_build.specs.declared.parts.Part.TheVariants as part
use Rattle.sh_parse.specs.Reads.{file_part, parts_of}
use Rattle.sh_parse.proofs.Backwards.{parts_counted}

pub record IsModule (p : Part) : Type 0 where
  pub it : Module
  pub is : p ≡ part.Module it

row_counted : {α : List Symbol} {f : Trees} → Spells language α f → size f ≡ length α
row_counted is_nothing = refl
row_counted (is_token e s) = ap suc (row_counted s)
row_counted (is_form at s t) = ap suc (row_counted t)

-- a row of five parts, or of one
five : (k : ℕ) (ps : List Part) → length ps ≡ 5 → IsModule (made Contents k ps)
unfolding made
five k [] e = absurd (omega (arith, e))
five k (a ∷ []) e = absurd (omega (arith, e))
five k (a ∷ b ∷ []) e = absurd (omega (arith, e))
five k (a ∷ b ∷ c ∷ []) e = absurd (omega (arith, e))
five k (a ∷ b ∷ c ∷ d ∷ []) e = absurd (omega (arith, e))
five k (a ∷ b ∷ c ∷ d ∷ f ∷ []) e = record { it = _; is = refl }
five k (a ∷ b ∷ c ∷ d ∷ f ∷ g ∷ ps) e = absurd (omega (arith, e))

one : (k : ℕ) (ps : List Part) → length ps ≡ 1 → IsModule (made Contents k ps)
unfolding made
one k [] e = absurd (omega (arith, e))
one k (a ∷ []) e = record { it = _; is = refl }
one k (a ∷ b ∷ ps) e = absurd (omega (arith, e))

contents_stand : (k : ℕ) (body : List Symbol) (ps : List Part) → IsAlternative language Contents k body → length ps ≡ length body
    → IsModule (made Contents k ps)
contents_stand zero body ps at e = five zero ps (e ∙ ap length (sym (same_Some _ body at)))
contents_stand (suc zero) body ps at e = one (suc zero) ps (e ∙ ap length (sym (same_Some _ body at)))
contents_stand (suc (suc k)) body ps at e = absurd (none-some body at)

-- the parts that aliases and contents make
aliases_stand : {f : Trees} (ls : List Part) (i : ℕ) → Spells language (symbol.Part Aliases ∷ symbol.Part Contents ∷ []) f
    → IsModule (made File i (parts_of ls f))
unfolding made
aliases_stand ls i (is_form {below = heads} at s (is_form {i = k} {body = body} {below = inner} there t is_nothing)) =
    contents_stand k body (parts_of (drop (length (tokens heads)) ls) inner) there
    (parts_counted (drop (length (tokens heads)) ls) inner ∙ row_counted t)

file_row : (i : ℕ) (body : List Symbol) → IsAlternative language File i body → body ≡ symbol.Part Aliases ∷ symbol.Part Contents ∷ []
file_row zero body at = sym (same_Some _ body at)
file_row (suc i) body at = absurd (none-some body at)

parts_stand : {f : Trees} (ls : List Part) → Spells language text_of_file f → IsModule (first_part (parts_of ls f))
parts_stand ls (is_form {i = i} {body = body} {below = below} at s t) =
    aliases_stand ls i (subst (λ α. Spells language α below) (file_row i body at) s)

pub file_stands : (ts : List Lexeme) (f : Trees) → IsFile ts f → IsModule (file_part ts f)
file_stands ts f file = parts_stand _ file.0
