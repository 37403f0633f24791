-- Behind the token that ends a text no file goes on.
use mathlib.Core.Path.{◌∙◌, ap, sym, refl}
use Rattle.std.proofs.Common.{◌≡◌, ℕ, Bool, true, false, cond, nat_eq, List, [], ◌∷◌, ◌++◌, append_assoc, eq-eqb, true≢false}
use Rattle.sh_grammar.specs.declared.forms.Form.{Form}
use Rattle.sh_grammar.specs.declared.symbols.Symbol.{Symbol}
use Rattle.sh_grammar.specs.Forms.{all_forms, number}
use Rattle.sh_grammar.specs.Grammar.{IsAlternative, Spells, Trees, is_form, is_nothing, is_token, tokens}
use Rattle.sh_grammar.specs.Language.{IsFile, language, text_of_file}
use Rattle.sh_grammar.specs.Lexemes.{Lexeme, class_of}
use Rattle.sh_grammar.specs.Predictive.{each, lacks}
use Rattle.sh_grammar.proofs.Booleans.{and_both, each_at}
use Rattle.sh_grammar.proofs.Lexed.{Closed}
use Rattle.sh_grammar.proofs.Numbered.{form_at}
use Rattle.sh_grammar.proofs.Served.{language_served}

-- the class of the token that ends a text
abbrev end : ℕ
end = 10

language_lacks : (n : Form) (i : ℕ) (body : List Symbol) → IsAlternative language n i body → lacks end body ≡ true
language_lacks n i body at =
    each_at (lacks end) (language n) i body
    (each_at (λ m. each (lacks end) (language m)) all_forms (number n) n (and_both _ _ language_served).1 (form_at n)) at

-- no token ends a text
LackEnd : List Lexeme → Type 0
LackEnd [] = Unit {0}
LackEnd (t ∷ ts) = (class_of t ≡ end → ⊥) × LackEnd ts

both_lack : (ts us : List Lexeme) → LackEnd ts → LackEnd us → LackEnd (ts ++ us)
unfolding LackEnd
both_lack [] us h k = k
both_lack (t ∷ ts) us h k = (h.0, both_lack ts us h.1 k)

other_class : (c : ℕ) (rest : Bool) → cond (nat_eq end c) false rest ≡ true → (c ≡ end → ⊥) × (rest ≡ true)
other_class c rest e = by (nat_eq end c) refl e
  where
    by : (v : Bool) → nat_eq end c ≡ v → cond v false rest ≡ true → (c ≡ end → ⊥) × (rest ≡ true)
    by true same h = absurd (true≢false (sym h))
    by false other h = (λ same. true≢false (sym (eq-eqb end c (sym same)) ∙ other), h)

spelled_lack : {α : List Symbol} {f : Trees} → Spells language α f → lacks end α ≡ true → LackEnd (tokens f)
unfolding LackEnd
spelled_lack is_nothing h = tt
spelled_lack (is_token {c = c} is s) h =
    let other = other_class c _ h in (λ same. other.0 (sym is ∙ same), spelled_lack s other.1)
spelled_lack (is_form {n = n} {i = i} {body = body} {below = below} {behind = behind} at s t) h =
    both_lack (tokens below) (tokens behind) (spelled_lack s (language_lacks n i body at)) (spelled_lack t h)

-- where only the last token ends a text, nothing is behind it
nothing_behind : (ts us more : List Lexeme) (t e : Lexeme) → LackEnd ts → class_of t ≡ end → us ++ t ∷ more ≡ ts ++ e ∷ [] → more ≡ []
unfolding LackEnd
nothing_behind [] [] more t e h k same = cc
nothing_behind [] (u ∷ []) more t e h k same = absurd (cc)
nothing_behind [] (u ∷ v ∷ us) more t e h k same = absurd (cc)
nothing_behind (x ∷ ts) [] more t e h k same = let this : t ≡ x = cc in absurd (h.0 (ap class_of (sym this) ∙ k))
nothing_behind (x ∷ ts) (u ∷ us) more t e h k same =
    let tail : us ++ t ∷ more ≡ ts ++ e ∷ [] = cc in nothing_behind ts us more t e h.1 k tail

-- the tokens of a file: those of the form, and the end
record Parted (ts : List Lexeme) : Type 0 where
  front : List Lexeme
  last : Lexeme
  is : ts ≡ front ++ last ∷ []
  lack : LackEnd front

parted : {f : Trees} → Spells language text_of_file f → Parted (tokens f)
parted (is_form {n = n} {i = i} {body = body} {below = below} at s (is_token {t = t} is is_nothing)) = record {
  front = tokens below;
  last = t;
  is = refl;
  lack = spelled_lack s (language_lacks n i body at);
}

pub file_ended : (ts more : List Lexeme) (f : Trees) → Closed ts → IsFile (ts ++ more) f → more ≡ []
file_ended ts more f closed file =
    let p = parted file.0 in
    nothing_behind p.front closed.front more closed.last p.last p.lack closed.ends
    (sym (append_assoc closed.front (closed.last ∷ []) more) ∙ ap (λ us. us ++ more) (sym closed.is) ∙ sym file.1 ∙ p.is)
