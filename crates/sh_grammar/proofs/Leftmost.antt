-- The same spellings from the left: a stack of symbols, the tokens that it goes over and the steps that it takes.
use Rattle.std.proofs.Common.{◌≡◌, suc, length, List, [], ◌∷◌, ◌++◌, refl, sym, ◌∙◌, ap, append_assoc}
use Rattle.std.proofs.lemmas.List.{append-nil}
use Rattle.sh_grammar.specs.declared.symbols.Symbol.{Symbol}
use Rattle.sh_grammar.specs.declared.symbols.Event.{Event}
use Rattle.sh_grammar.specs.declared.symbols.Symbol.TheVariants.{Class, Part}
use Rattle.sh_grammar.specs.declared.symbols.Event.TheVariants.{Took, Opened}
use Rattle.sh_grammar.specs.Lexemes.{Lexeme}
use Rattle.sh_grammar.specs.Machine.{Runs, ends, shifts, expands}
use Rattle.sh_grammar.specs.Grammar.{Grammar, IsAlternative, Trees, nothing, token, form, tokens, events, size, Spells, is_nothing, is_token, is_form}

size_of : {g : Grammar} {α : List Symbol} {f : Trees} → Spells g α f → size f ≡ length α
size_of is_nothing = refl
size_of (is_token e s) = ap suc (size_of s)
size_of (is_form at s t) = ap suc (size_of t)

-- trees, and then a run
run_before : {g : Grammar} {α : List Symbol} {f : Trees} → Spells g α f → {β : List Symbol} {ts : List Lexeme} {cs : List Event}
    → Runs g β ts cs → Runs g (α ++ β) (tokens f ++ ts) (events f ++ cs)
run_before is_nothing r = r
run_before (is_token e s) r = shifts e (run_before s r)
run_before {g} (is_form {n = n} {i = i} {body = body} {α = α} {below = below} {behind = behind} at s t) {β} {ts} {cs} r =
    let rest = run_before t r in
    let all = run_before s rest in
    rw (append_assoc {A = Lexeme}) (rw (append_assoc {A = Event}) (rw (size_of s) (expands body at all)))

pub run_of : {g : Grammar} {α : List Symbol} {f : Trees} → Spells g α f → Runs g α (tokens f) (events f)
run_of {g} {α} {f} s =
    let all : Runs g (α ++ []) (tokens f ++ []) (events f ++ []) = run_before s ends in
    rw (append-nil {A = Symbol}, append-nil {A = Lexeme}, append-nil {A = Event}) at all

-- trees for a row of symbols are trees for its front and trees for the rest
record Parts (g : Grammar) (α β : List Symbol) (f : Trees) : Type 0 where
  front : Trees
  rest : Trees
  spells_front : Spells g α front
  spells_rest : Spells g β rest
  tokens_are : tokens f ≡ tokens front ++ tokens rest
  events_are : events f ≡ events front ++ events rest

parts : (g : Grammar) (α β : List Symbol) (f : Trees) → Spells g (α ++ β) f → Parts g α β f
parts g [] β f s = record { front = nothing; rest = f; spells_front = is_nothing; spells_rest = s; tokens_are = refl; events_are = refl }
parts g (Class c ∷ α) β _ (is_token {t = t} {behind = behind} e s) =
    let p = parts g α β behind s in
    record {
      front = token t p.front;
      rest = p.rest;
      spells_front = is_token e p.spells_front;
      spells_rest = p.spells_rest;
      tokens_are = ap (λ ts. t ∷ ts) p.tokens_are;
      events_are = ap (λ cs. Took ∷ cs) p.events_are;
    }
parts g (Part n ∷ α) β _ (is_form {i = i} {below = below} {behind = behind} at s t) =
    let p = parts g α β behind t in
    record {
      front = form n i below p.front;
      rest = p.rest;
      spells_front = is_form at s p.spells_front;
      spells_rest = p.spells_rest;
      tokens_are = ap (λ ts. tokens below ++ ts) p.tokens_are ∙ sym (append_assoc (tokens below) (tokens p.front) (tokens p.rest));
      events_are = ap (λ cs. Opened n i (size below) ∷ (events below ++ cs)) p.events_are ∙ ap (λ cs. Opened n i (size below) ∷ cs) (sym (append_assoc (events below) (events p.front) (events p.rest)));
    }

-- the trees of a run
pub record TreesOf (g : Grammar) (α : List Symbol) (ts : List Lexeme) (cs : List Event) : Type 0 where
  pub trees : Trees
  pub spells : Spells g α trees
  pub tokens_are : tokens trees ≡ ts
  pub events_are : events trees ≡ cs

pub trees_of : {g : Grammar} {α : List Symbol} {ts : List Lexeme} {cs : List Event} → Runs g α ts cs → TreesOf g α ts cs
trees_of ends = record { trees = nothing; spells = is_nothing; tokens_are = refl; events_are = refl }
trees_of (shifts {t = t} e r) =
    let f = trees_of r in
    record { trees = token t f.trees; spells = is_token e f.spells; tokens_are = ap (λ ts. t ∷ ts) f.tokens_are; events_are = ap (λ cs. Took ∷ cs) f.events_are }
trees_of {g} (expands {n = n} {i = i} body {α = α} at r) =
    let t = trees_of r in
    let p = parts g body α t.trees t.spells in
    record {
      trees = form n i p.front p.rest;
      spells = is_form at p.spells_front p.spells_rest;
      tokens_are = sym p.tokens_are ∙ t.tokens_are;
      events_are = ap (λ k. Opened n i k ∷ (events p.front ++ events p.rest)) (size_of p.spells_front) ∙ ap (λ cs. Opened n i (length body) ∷ cs) (sym p.events_are ∙ t.events_are);
    }

-- Trees of the same tokens that take the same steps are the same.
pub one_tree : {g : Grammar} {α : List Symbol} {f h : Trees} → Spells g α f → Spells g α h → (us vs : List Lexeme) (xs ys : List Event)
    → tokens f ++ us ≡ tokens h ++ vs → events f ++ xs ≡ events h ++ ys → (f ≡ h) × (us ≡ vs) × (xs ≡ ys)
one_tree is_nothing is_nothing us vs xs ys d e = (refl, d, e)
one_tree (is_token {t = t} {behind = b} k s) (is_token {t = t'} {behind = b'} k' s') us vs xs ys d e =
    let same : t ≡ t' = cc in
    let rest : tokens b ++ us ≡ tokens b' ++ vs = cc in
    let tail : events b ++ xs ≡ events b' ++ ys = cc in
    let more = one_tree s s' us vs xs ys rest tail in
    (ap (λ x. token x b) same ∙ ap (token t') more.0, more.1, more.2)
one_tree {g} {α} (is_form {n = n} {i = i} {body = body} {below = below} {behind = behind} at s u)
    (is_form {i = j} {body = other} {below = below'} {behind = behind'} at' s' u') us vs xs ys d e =
    let same : i ≡ j = cc in
    let at'' : IsAlternative g n i other = rw same at' in
    let bodies : other ≡ body = cc (at, at'') in
    let tail : (events below ++ events behind) ++ xs ≡ (events below' ++ events behind') ++ ys = cc in
    let inside = one_tree s (rw bodies at s') (tokens behind ++ us) (tokens behind' ++ vs) (events behind ++ xs) (events behind' ++ ys)
    (sym (append_assoc (tokens below) (tokens behind) us) ∙ d ∙ append_assoc (tokens below') (tokens behind') vs)
    (sym (append_assoc (events below) (events behind) xs) ∙ tail ∙ append_assoc (events below') (events behind') ys) in
    let rest = one_tree u u' us vs xs ys inside.1 inside.2 in
    (ap (λ k. form n k below behind) same ∙ ap (λ b. form n j b behind) inside.0 ∙ ap (λ b. form n j below' b) rest.0, rest.1, rest.2)
