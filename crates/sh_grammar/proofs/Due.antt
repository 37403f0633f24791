-- Where an operation is due: what the test on a stack tells.
use Rattle.std.proofs.Common.{◌≡◌, ◌⊎◌, ℕ, zero, suc, ◌<◌, Bool, true, false, List, [], ◌∷◌, ◌++◌, length, refl, sym, ◌∙◌, ap, arith, inl, inr}
use Rattle.std.specs.Prelude.{◌||◌, ◌≤◌, reverse, take, get_or, map, cond}
use Rattle.std.proofs.lemmas.List.{reverse-append}
use Rattle.sh_grammar.specs.declared.symbols.Beginning.{Beginning}
use Rattle.sh_grammar.specs.declared.symbols.Beginning.TheVariants.{Operation, Empty, Other}
use Rattle.sh_grammar.specs.Views.{stack_of, beginning_of}
use Rattle.sh_grammar.specs.declared.forms.Form.{Form}
use Rattle.sh_grammar.specs.declared.symbols.Symbol.{Symbol}
use Rattle.sh_grammar.specs.declared.symbols.Event.{Event}
use Rattle.sh_grammar.specs.declared.symbols.Event.TheVariants.{Opened}
use Rattle.sh_grammar.specs.declared.symbols.Symbol.TheVariants.{Class, Part}
use Rattle.sh_grammar.specs.Lexemes.{Lexeme}
use Rattle.sh_grammar.specs.Forms.{number}
use Rattle.sh_grammar.specs.Grammar.{Grammar, IsAlternative, IsDue, events, after, opens_operation, is_operation}
use Rattle.sh_grammar.specs.Predictive.{Table, Facts, facts_of, may_be_empty, may_begin_operation, weight_of, no_facts, ◌&◌, ◌or◌}
use Rattle.sh_grammar.specs.Machine.{Runs, ends, shifts, expands, IsApt, Moves}
use Rattle.sh_grammar.proofs.Booleans.{and_both, and_true, or_left, or_right, or_either}
use Rattle.sh_grammar.proofs.Fitting.{IsPredictive}
use Rattle.sh_grammar.proofs.Stack.{apt_opened, lighter}
use Rattle.sh_grammar.proofs.Leftmost.{run_of, trees_of}
use Rattle.sh_grammar.proofs.Ends.{apt_spellable, some_run}

either_true : (a b : Bool) → (a || b) ≡ true → (a ≡ true) ⊎ (b ≡ true)
either_true true b e = inl refl
either_true false b e = inr e

true_left : (a b : Bool) → a ≡ true → (a || b) ≡ true
true_left true b e = refl
true_left false b e = cc

true_right : (a b : Bool) → b ≡ true → (a || b) ≡ true
true_right true b e = refl
true_right false b e = e

-- where an operation may begin in two rows, one behind the other
due_either : (fs : List Facts) (α β : List Symbol) → may_begin_operation fs (α ++ β) ≡ true
    → (may_begin_operation fs α ≡ true) ⊎ ((may_be_empty fs α ≡ true) × (may_begin_operation fs β ≡ true))
due_either fs [] β h = inr (refl, h)
due_either fs (Class c ∷ α) β h = cc
due_either fs (Part n ∷ α) β h = elim (or_either _ _ h) [
  | inl k ↦ inl (or_left _ _ k)
  | inr k ↦ let a = and_both _ _ k in
      elim (due_either fs α β a.1) [
        | inl j ↦ inl (or_right _ _ (and_true _ _ a.0 j))
        | inr q ↦ inr (and_true _ _ a.0 q.0, q.1)
      ]
]

due_front : (fs : List Facts) (α β : List Symbol) → may_begin_operation fs α ≡ true → may_begin_operation fs (α ++ β) ≡ true
due_front fs [] β h = cc
due_front fs (Class c ∷ α) β h = h
due_front fs (Part n ∷ α) β h = elim (or_either _ _ h) [
  | inl k ↦ or_left _ _ k
  | inr k ↦ let a = and_both _ _ k in or_right _ _ (and_true _ _ a.0 (due_front fs α β a.1))
]

due_behind : (fs : List Facts) (α β : List Symbol) → may_be_empty fs α ≡ true → may_begin_operation fs β ≡ true → may_begin_operation fs (α ++ β) ≡ true
due_behind fs [] β e h = h
due_behind fs (Class c ∷ α) β e h = cc
due_behind fs (Part n ∷ α) β e h =
    let a = and_both _ _ e in or_right _ _ (and_true _ _ a.0 (due_behind fs α β a.1 h))

-- a run that opens an operation first: an operation may begin its stack
pub due_of_run : {g : Grammar} {table : Table} {fs : List Facts} → IsPredictive g table fs
    → {α : List Symbol} {ts : List Lexeme} {cs : List Event} → Runs g α ts cs → opens_operation cs ≡ true → may_begin_operation fs α ≡ true
due_of_run known ends h = cc
due_of_run known (shifts e r) h = cc
due_of_run {fs = fs} known (expands {n = n} {i = i} body {α = α} at r) h = elim (either_true _ _ h) [
  | inl k ↦ or_left _ _ (known.operation n k)
  | inr k ↦ elim (due_either fs body α (due_of_run known r k)) [
    | inl j ↦ or_left _ _ ((known.fit n i body at).begins j)
    | inr q ↦ or_right _ _ (and_true _ _ ((known.fit n i body at).empty q.0) q.1)
  ]
]

pub record DueRun (g : Grammar) (α : List Symbol) : Type 0 where
  pub ts : List Lexeme
  pub cs : List Event
  pub run : Runs g α ts cs
  pub due : opens_operation cs ≡ true

first_opened : {g : Grammar} {n : Form} {α : List Symbol} {ts : List Lexeme} {cs : List Event}
    → is_operation n ≡ true → Runs g (Part n ∷ α) ts cs → opens_operation cs ≡ true
first_opened h (expands body at r) = true_left _ _ h

due_expanded : {g : Grammar} (n : Form) (i : ℕ) (body α : List Symbol) → IsAlternative g n i body → DueRun g (body ++ α) → DueRun g (Part n ∷ α)
due_expanded n i body α at r = record {
  ts = r.ts;
  cs = Opened n i (length body) ∷ r.cs;
  run = expands body at r.run;
  due = true_right (is_operation n) _ r.due;
}

-- where an operation may begin the stack, some run opens one first
due_run : {g : Grammar} {table : Table} {fs : List Facts} → IsPredictive g table fs
    → (d : ℕ) (α : List Symbol) → weight_of fs α < d → IsApt fs α → may_begin_operation fs α ≡ true → DueRun g α
due_run known zero α lt apt h = absurd (omega arith)
due_run known (suc d) [] lt apt h = cc
due_run known (suc d) (Class c ∷ α) lt apt h = cc
due_run {g} {table} {fs} known (suc d) (Part n ∷ α) lt apt h = elim (or_either _ _ h) [
  | inl k ↦ elim (known.beginning n k) [
    | inl o ↦ let r = some_run known (Part n ∷ α) (apt_spellable fs (Part n ∷ α) apt) in
        record { ts = r.ts; cs = r.cs; run = r.run; due = first_opened o r.run }
    | inr s ↦ let less = lighter known n s.i s.item α s.at in
        due_expanded n s.i s.item α s.at
        (due_run known d (s.item ++ α) (omega arith) (apt_opened known n s.i s.item α s.at apt) (due_front fs s.item α s.passes))
  ]
  | inr k ↦
      let a = and_both _ _ k in
      let s = known.empties n a.0 in
      let less = lighter known n s.i s.item α s.at in
      due_expanded n s.i s.item α s.at
      (due_run known d (s.item ++ α) (omega arith) (apt_opened known n s.i s.item α s.at apt) (due_behind fs s.item α s.passes a.1))
]

-- behind these tokens an operation is due exactly where the test on the stack says so
pub due_there : {g : Grammar} {table : Table} {fs : List Facts} → IsPredictive g table fs
    → {α : List Symbol} {us : List Lexeme} {cs : List Event} {β : List Symbol} → Moves g α us cs β
    → IsDue g α us → may_begin_operation fs β ≡ true
due_there {g} known {us = us} m due =
    let run : Runs g _ (us ++ due.more) (events due.trees) = rw due.reads.1 at (run_of due.reads.0) in
    let b = m.back due.more (events due.trees) run in
    due_of_run known b.1 (rw (sym (ap (after (length us)) b.2 ∙ m.spent b.0)) due.begins)

pub due_here : {g : Grammar} {table : Table} {fs : List Facts} → IsPredictive g table fs
    → {α : List Symbol} {us : List Lexeme} {cs : List Event} {β : List Symbol} → Moves g α us cs β → IsApt fs β
    → may_begin_operation fs β ≡ true → IsDue g α us
due_here {fs = fs} known {us = us} {cs = cs} {β = β} m apt h =
    let r = due_run known (suc (weight_of fs β)) β (omega arith) apt h in
    let t = trees_of (m.forward r.ts r.cs r.run) in
    record {
      more = r.ts;
      trees = t.trees;
      reads = (t.spells, t.tokens_are);
      begins = ap opens_operation (ap (after (length us)) t.events_are ∙ m.spent r.cs) ∙ r.due;
    }

-- the top of a stack in a vector
take_top : (stack : List Symbol) (k m : ℕ) (n : Form) (d : Symbol) → m ≡ suc k → m ≤ length stack → get_or stack k d ≡ Part n
    → stack_of (take m stack) ≡ Part n ∷ stack_of (take k stack)
take_top stack k m n d is h e =
    rw is (ap reverse (take_next stack k d (omega arith)) ∙ reverse-append (take k stack) (get_or stack k d ∷ []) ∙ ap (λ s. s ∷ reverse (take k stack)) e)
  where
    take_next : (xs : List Symbol) (i : ℕ) (d : Symbol) → i < length xs → take (suc i) xs ≡ take i xs ++ get_or xs i d ∷ []
    take_next [] i d h = absurd (omega arith)
    take_next (x ∷ xs) zero d h = refl
    take_next (x ∷ xs) (suc i) d h = ap (λ ys. x ∷ ys) (take_next xs i d (omega arith))

-- how the form on top begins
beginning_at : (fs : List Facts) (i : ℕ) → get_or (map beginning_of fs) i Other ≡ beginning_of (get_or fs i no_facts)
unfolding no_facts
beginning_at [] i = refl
beginning_at (f ∷ fs) zero = refl
beginning_at (f ∷ fs) (suc i) = beginning_at fs i

tests : (c d b : Bool) (x : Beginning) → x ≡ cond c Operation (cond d Empty Other)
    → (x ≡ Operation → (c or d & b) ≡ true) × (x ≡ Empty → (c or d & b) ≡ b) × (x ≡ Other → (c or d & b) ≡ false)
unfolding ◌or◌ ◌&◌
tests true d b x e = (λ h. refl, λ h. cc, λ h. cc)
tests false true b x e = (λ h. cc, λ h. refl, λ h. cc)
tests false false b x e = (λ h. cc, λ h. cc, λ h. refl)

pub record TopBegins (fs : List Facts) (stack rest : List Symbol) (x : Beginning) : Type 0 where
  pub operation : x ≡ Operation → may_begin_operation fs stack ≡ true
  pub empty : x ≡ Empty → may_begin_operation fs stack ≡ may_begin_operation fs rest
  pub other : x ≡ Other → may_begin_operation fs stack ≡ false

-- what the form at the top of a stack tells
pub top_begins : (fs : List Facts) (beginnings : List Beginning) (stack : List Symbol) (k m : ℕ) (n : Form) (d : Symbol) (x : Beginning)
    → beginnings ≡ map beginning_of fs → m ≡ suc k → m ≤ length stack → get_or stack k d ≡ Part n → x ≡ get_or beginnings (number n) Other
    → may_begin_operation fs (stack_of stack) ≡ may_begin_operation fs (stack_of (take m stack))
    → TopBegins fs (stack_of stack) (stack_of (take k stack)) x
top_begins fs beginnings stack k m n d x known is h at x_is same =
    let top = take_top stack k m n d is h at in
    let all = same ∙ ap (may_begin_operation fs) top in
    let begins : x ≡ beginning_of (facts_of fs n) = x_is ∙ ap (λ bs. get_or bs (number n) Other) known ∙ beginning_at fs (number n) in
    let t = tests (facts_of fs n).begins (facts_of fs n).empty (may_begin_operation fs (stack_of (take k stack))) x begins in
    record { operation = λ e. all ∙ t.0 e; empty = λ e. all ∙ t.1 e; other = λ e. all ∙ t.2 e }
