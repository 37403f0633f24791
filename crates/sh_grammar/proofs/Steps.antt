-- The steps of the machine, and what they come to.
use Rattle.std.proofs.Common.{◌≡◌, ℕ, zero, suc, ◌+◌, List, [], ◌∷◌, ◌++◌, length, refl, sym, ◌∙◌, ap, append_assoc, arith, Some}
use Rattle.std.proofs.lemmas.List.{length-append}
use Rattle.std.specs.Prelude.{slice_get}
use Rattle.sh_grammar.specs.declared.forms.Form.{Form}
use Rattle.sh_grammar.specs.declared.symbols.Symbol.{Symbol}
use Rattle.sh_grammar.specs.declared.symbols.Event.{Event}
use Rattle.sh_grammar.specs.declared.symbols.Event.TheVariants.{Took, Opened}
use Rattle.sh_grammar.specs.declared.symbols.Symbol.TheVariants.{Class, Part}
use Rattle.sh_grammar.specs.Lexemes.{Lexeme, class_of}
use Rattle.sh_grammar.specs.Grammar.{Grammar, IsAlternative, after}
use Rattle.sh_grammar.specs.Predictive.{Table, Facts, choice}
use Rattle.sh_grammar.specs.Machine.{Runs, shifts, expands, IsApt, Opens, Moves, IsStuck}
use Rattle.sh_grammar.proofs.Fitting.{IsPredictive}
use Rattle.sh_grammar.proofs.Stack.{opening, shifted}

pub opens_none : (g : Grammar) (α : List Symbol) (t : Lexeme) → Opens g α t [] α
opens_none g α t = record { forward = λ ts ds r. r; back = λ ts es r. (es, r, refl); spent = λ k ds. refl }

-- one more form is opened, by the alternative that the table says
pub opens_more : {g : Grammar} {table : Table} {fs : List Facts} → IsPredictive g table fs
    → (α : List Symbol) (t : Lexeme) (cs : List Event) (n : Form) (i : ℕ) (body β : List Symbol)
    → Opens g α t cs (Part n ∷ β) → IsApt fs (Part n ∷ β) → IsAlternative g n i body → choice table n (class_of t) ≡ suc i
    → Opens g α t (cs ++ Opened n i (length body) ∷ []) (body ++ β)
opens_more {g} {table} {fs} known α t cs n i body β o apt at chosen = record {
  forward = λ ts ds r. rw (append_assoc cs (Opened n i (length body) ∷ []) ds) (o.forward ts (Opened n i (length body) ∷ ds) (expands body at r));
  back = λ ts es r.
      let b = o.back ts es r in
      let p = opening known apt b.1 in
      let same : i ≡ p.i = cc (chosen, p.chosen) in
      let also : slice_get (g n) i ≡ Some p.body = rw same p.at in
      let body_is : p.body ≡ body = cc (also, at) in
      (p.rest, rw body_is at p.run, rw (append_assoc cs (Opened n i (length body) ∷ []) p.rest) (rw (same, ← body_is) (cc (b.2, p.all))));
  spent = λ k ds. rw (append_assoc cs (Opened n i (length body) ∷ []) ds) (o.spent k (Opened n i (length body) ∷ ds));
}

-- no alternative fits: the stack is stuck
pub stuck_form : {g : Grammar} {table : Table} {fs : List Facts} → IsPredictive g table fs
    → (α : List Symbol) (t : Lexeme) (cs : List Event) (n : Form) (β : List Symbol)
    → Opens g α t cs (Part n ∷ β) → IsApt fs (Part n ∷ β)
    → ((i : ℕ) (body : List Symbol) → IsAlternative g n i body → choice table n (class_of t) ≡ suc i → ⊥)
    → IsStuck g α t
stuck_form known α t cs n β o apt none ts es r =
    let b = o.back ts es r in
    let p = opening known apt b.1 in
    none p.i p.body p.at p.chosen

-- another token is wanted
pub stuck_class : (g : Grammar) (α : List Symbol) (t : Lexeme) (cs : List Event) (c : ℕ) (β : List Symbol)
    → Opens g α t cs (Class c ∷ β) → (class_of t ≡ c → ⊥) → IsStuck g α t
stuck_class g α t cs c β o other ts es r = other (shifted (o.back ts es r).1).0

no_more : {g : Grammar} {t : Lexeme} {ts : List Lexeme} {cs : List Event} → Runs g [] (t ∷ ts) cs → ⊥
no_more r = elim r [ ]

-- no token is wanted
pub stuck_empty : (g : Grammar) (α : List Symbol) (t : Lexeme) (cs : List Event) → Opens g α t cs [] → IsStuck g α t
stuck_empty g α t cs o ts es r = no_more (o.back ts es r).1

-- the token that is wanted
pub moves_class : (g : Grammar) (α : List Symbol) (t : Lexeme) (cs : List Event) (c : ℕ) (β : List Symbol)
    → Opens g α t cs (Class c ∷ β) → class_of t ≡ c → Moves g α (t ∷ []) (cs ++ Took ∷ []) β
moves_class g α t cs c β o same = record {
  forward = λ ts ds r. rw (append_assoc cs (Took ∷ []) ds) (o.forward (t ∷ ts) (Took ∷ ds) (shifts same r));
  back = λ ts es r. let b = o.back ts es r in let s = shifted b.1 in (s.1, s.3, rw (append_assoc cs (Took ∷ []) s.1) (cc (b.2, s.2)));
  spent = λ ds. rw (append_assoc cs (Took ∷ []) ds) (o.spent 0 (Took ∷ ds));
}

pub moves_none : (g : Grammar) (α : List Symbol) → Moves g α [] [] α
moves_none g α = record { forward = λ ts ds r. r; back = λ ts es r. (es, r, refl); spent = λ ds. refl }

after_none : (k : ℕ) → after k [] ≡ []
after_none zero = refl
after_none (suc k) = refl

after_more : (j k n : ℕ) (es : List Event) → n ≡ j + k → after n es ≡ after k (after j es)
after_more zero k n es is = let same : n ≡ k = omega arith in rw same refl
after_more (suc j) k zero es is = absurd (omega arith)
after_more (suc j) k (suc n) [] is = sym (after_none k)
after_more (suc j) k (suc n) (Took ∷ es) is = after_more j k n es (omega arith)
after_more (suc j) k (suc n) (Opened m i s ∷ es) is = after_more (suc j) k (suc n) es is

pub moves_more : (g : Grammar) (α β γ : List Symbol) (us vs : List Lexeme) (cs ds : List Event)
    → Moves g α us cs β → Moves g β vs ds γ → Moves g α (us ++ vs) (cs ++ ds) γ
moves_more g α β γ us vs cs ds m n = record {
  forward = λ ts es r. rw (append_assoc us vs ts, append_assoc cs ds es) (m.forward (vs ++ ts) (ds ++ es) (n.forward ts es r));
  back = λ ts es r.
      let b = m.back (vs ++ ts) es (rw (append_assoc us vs ts) at r) in
      let e = n.back ts b.0 b.1 in
      (e.0, e.1, b.2 ∙ ap (λ xs. cs ++ xs) e.2 ∙ sym (append_assoc cs ds e.0));
  spent = λ es.
      ap (after (length (us ++ vs))) (append_assoc cs ds es)
      ∙ after_more (length us) (length vs) (length (us ++ vs)) (cs ++ (ds ++ es)) (length-append us vs)
      ∙ ap (after (length vs)) (m.spent (ds ++ es))
      ∙ n.spent es;
}
