-- The steps of the machine, over its vectors.
use Rattle.std.proofs.Common.{◌≡◌, ℕ, suc, ◌<◌, true, List, [], ◌∷◌, ◌++◌, length, reverse, refl, ◌∙◌, ap, append_assoc, None, arith}
use Rattle.std.specs.Prelude.{slice_get}
use Rattle.std.proofs.lemmas.List.{reverse-append, reverse-reverse}
use Rattle.sh_grammar.specs.declared.forms.Form.{Form}
use Rattle.sh_grammar.specs.declared.symbols.Symbol.{Symbol}
use Rattle.sh_grammar.specs.declared.symbols.Event.{Event}
use Rattle.sh_grammar.specs.declared.symbols.Event.TheVariants.{Took, Opened}
use Rattle.sh_grammar.specs.declared.symbols.Symbol.TheVariants.{Class, Part}
use Rattle.sh_grammar.specs.Lexemes.{Lexeme, class_of}
use Rattle.sh_grammar.specs.Grammar.{Grammar, IsAlternative}
use Rattle.sh_grammar.specs.Predictive.{Table, Facts, choice, is_predictive, weight_of}
use Rattle.sh_grammar.specs.Machine.{IsStuck, IsOpened, IsMoved}
use Rattle.sh_grammar.specs.Views.{stack_of}
use Rattle.sh_grammar.proofs.Fitting.{predictive_test}
use Rattle.sh_grammar.proofs.Stack.{apt_opened, lighter}
use Rattle.sh_grammar.proofs.Steps.{opens_more, stuck_form, stuck_class, stuck_empty, moves_class}

pub pop_stack : (old new : List Symbol) (s : Symbol) → old ≡ new ++ s ∷ [] → stack_of old ≡ s ∷ stack_of new
pop_stack old new s e = ap reverse e ∙ reverse-append new (s ∷ [])

pub push_stack : (old new body : List Symbol) → new ≡ old ++ reverse body → stack_of new ≡ body ++ stack_of old
push_stack old new body e = ap reverse e ∙ reverse-append old (reverse body) ∙ ap (λ b. b ++ reverse old) (reverse-reverse body)

pub no_items : (items : List Symbol) (n : ℕ) → n ≡ length items → n ≡ 0 → items ≡ []
no_items [] n e h = refl
no_items (s ∷ items) n e h = absurd (omega arith)

module _ (g : Grammar) (table : Table) (fs : List Facts) (α : List Symbol) (t : Lexeme) (old new : List Event) where
  pub class_taken : (w : ℕ) (stack rest : List Symbol) → stack ≡ rest ++ Class w ∷ []
      → IsOpened g fs α t old (stack_of stack) new → class_of t ≡ w → (newer : List Event) → newer ≡ new ++ Took ∷ []
      → IsMoved g fs α (t ∷ []) old (stack_of rest) newer
  class_taken w stack rest e o same newer is =
      let here : IsOpened g fs α t old (Class w ∷ stack_of rest) new = rw (pop_stack stack rest (Class w) e) at o in
      record {
        taken = here.taken ++ Took ∷ [];
        all = is ∙ ap (λ es. es ++ Took ∷ []) here.all ∙ append_assoc old here.taken (Took ∷ []);
        moves = moves_class g α t here.taken w (stack_of rest) here.opens same;
        apt = here.apt.1;
      }

  pub class_stuck : (w : ℕ) (stack rest : List Symbol) → stack ≡ rest ++ Class w ∷ []
      → IsOpened g fs α t old (stack_of stack) new → (class_of t ≡ w → ⊥) → IsStuck g α t
  class_stuck w stack rest e o other =
      let here : IsOpened g fs α t old (Class w ∷ stack_of rest) new = rw (pop_stack stack rest (Class w) e) at o in
      stuck_class g α t here.taken w (stack_of rest) here.opens other

  pub empty_stuck : (stack : List Symbol) → stack ≡ [] → IsOpened g fs α t old (stack_of stack) new → IsStuck g α t
  empty_stuck stack e o =
      let here : IsOpened g fs α t old [] new = rw e at o in
      stuck_empty g α t here.taken here.opens

  pub form_stuck : is_predictive g table fs ≡ true → (n : Form) (stack rest : List Symbol) → stack ≡ rest ++ Part n ∷ []
      → IsOpened g fs α t old (stack_of stack) new
      → ((i : ℕ) → choice table n (class_of t) ≡ suc i → slice_get (g n) i ≡ None) → IsStuck g α t
  form_stuck known n stack rest e o none =
      let here : IsOpened g fs α t old (Part n ∷ stack_of rest) new = rw (pop_stack stack rest (Part n) e) at o in
      stuck_form (predictive_test g table fs known) α t here.taken n (stack_of rest) here.opens here.apt
      (λ i body at chosen. let no : slice_get (g n) i ≡ None = none i chosen in cc)

  pub form_opened : is_predictive g table fs ≡ true → (n : Form) (i : ℕ) (body stack rest more : List Symbol) → stack ≡ rest ++ Part n ∷ []
      → IsOpened g fs α t old (stack_of stack) new → IsAlternative g n i body → choice table n (class_of t) ≡ suc i
      → more ≡ rest ++ reverse body
      → (newer : List Event) → newer ≡ new ++ Opened n i (length body) ∷ [] → IsOpened g fs α t old (stack_of more) newer
  form_opened known n i body stack rest more e o at chosen pushed newer is =
      let here : IsOpened g fs α t old (Part n ∷ stack_of rest) new = rw (pop_stack stack rest (Part n) e) at o in
      let p = predictive_test g table fs known in
      rw (push_stack rest more body pushed) (record {
        taken = here.taken ++ Opened n i (length body) ∷ [];
        all = is ∙ ap (λ cs. cs ++ Opened n i (length body) ∷ []) here.all ∙ append_assoc old here.taken (Opened n i (length body) ∷ []);
        opens = opens_more p α t here.taken n i body (stack_of rest) here.opens here.apt at chosen;
        apt = apt_opened p n i body (stack_of rest) at here.apt;
      })

  pub form_lighter : is_predictive g table fs ≡ true → (n : Form) (i : ℕ) (body stack rest more : List Symbol) → stack ≡ rest ++ Part n ∷ []
      → IsAlternative g n i body → more ≡ rest ++ reverse body → weight_of fs (stack_of more) < weight_of fs (stack_of stack)
  form_lighter known n i body stack rest more e at pushed =
      rw (push_stack rest more body pushed, pop_stack stack rest (Part n) e) (lighter (predictive_test g table fs known) n i body (stack_of rest) at)
