-- A front is what some text goes on from and is read.
use Rattle.std.proofs.Common.{◌≡◌, ◌⊎◌, List, [], ◌∷◌, ◌++◌, refl, sym, ◌∙◌, ap, append_assoc, inl, inr}
use Rattle.std.proofs.lemmas.List.{append-nil}
use Rattle.sh_grammar.specs.declared.symbols.Symbol.{Symbol}
use Rattle.sh_grammar.specs.declared.symbols.Symbol.TheVariants.{Class, Part}
use Rattle.sh_grammar.specs.Lexemes.{Lexeme}
use Rattle.sh_grammar.specs.Grammar.{Grammar, Trees, nothing, token, form, tokens, Spells, is_nothing, is_token, is_form, Reads, Front, is_empty, is_spelled, is_inside, is_past}
use Rattle.sh_grammar.specs.Predictive.{Table, Facts}
use Rattle.sh_grammar.proofs.Fitting.{IsPredictive}
use Rattle.sh_grammar.proofs.Leftmost.{trees_of}
use Rattle.sh_grammar.proofs.Ends.{IsSpellable, body_spellable, some_run}

pub record GoesOn (g : Grammar) (α : List Symbol) (ts : List Lexeme) : Type 0 where
  pub more : List Lexeme
  pub trees : Trees
  pub reads : Reads g α (ts ++ more) trees

-- how two lists that join to the same one lie: the first ends within the third, or behind it
record Within (xs ms ys : List Lexeme) : Type 0 where
  rest : List Lexeme
  is : xs ≡ ms ++ rest

split : (xs ys us vs : List Lexeme) → xs ++ ys ≡ us ++ vs → Within xs us ys ⊎ Within us xs ys
split [] ys us vs e = inr (record { rest = us; is = refl })
split (x ∷ xs) ys [] vs e = inl (record { rest = x ∷ xs; is = refl })
split (x ∷ xs) ys (u ∷ us) vs e =
    let same : x ≡ u = cc in
    let tail : xs ++ ys ≡ us ++ vs = cc in
    elim (split xs ys us vs tail) [
      | inl w ↦ inl (record { rest = w.rest; is = ap (λ h. h ∷ xs) same ∙ ap (λ t. u ∷ t) w.is })
      | inr w ↦ inr (record { rest = w.rest; is = ap (λ h. h ∷ us) (sym same) ∙ ap (λ t. x ∷ t) w.is })
    ]

cancel : (xs ys zs : List Lexeme) → xs ++ ys ≡ xs ++ zs → ys ≡ zs
cancel [] ys zs e = e
cancel (x ∷ xs) ys zs e = let tail : xs ++ ys ≡ xs ++ zs = cc in cancel xs ys zs tail

-- what begins a spelling is a front
pub front_of : {g : Grammar} {α : List Symbol} {f : Trees} → Spells g α f → (ts more : List Lexeme) → tokens f ≡ ts ++ more → Front g α ts
front_of is_nothing [] more e = is_empty
front_of is_nothing (t ∷ ts) more e = cc
front_of (is_token k s) [] more e = is_empty
front_of {g} (is_token {c = c} {t = t} {α = α} {behind = behind} k s) (u ∷ ts) more e =
    let same : t ≡ u = cc in
    let tail : tokens behind ≡ ts ++ more = cc in
    rw (← same) (is_past (token t nothing) ts (is_token k is_nothing) (front_of s ts more tail))
front_of {g} (is_form {n = n} {i = i} {body = body} {α = α} {below = below} {behind = behind} at s t) ts more e =
    elim (split (tokens below) (tokens behind) ts more e) [
      | inl w ↦ is_inside i body at (front_of s ts w.rest w.is)
      | inr w ↦
          let tail : tokens behind ≡ w.rest ++ more =
          cancel (tokens below) (tokens behind) (w.rest ++ more) (e ∙ ap (λ x. x ++ more) w.is ∙ append_assoc (tokens below) w.rest more) in
          let here : Front g (Part n ∷ α) ((tokens below ++ []) ++ w.rest) =
          is_past (form n i below nothing) w.rest (is_form at s is_nothing) (front_of t w.rest more tail) in
          rw (w.is) (rw (append-nil (tokens below)) at here)
    ]

-- trees of two rows, one behind the other
record Joined (g : Grammar) (α β : List Symbol) (ts us : List Lexeme) : Type 0 where
  trees : Trees
  reads : Reads g (α ++ β) (ts ++ us) trees

joined : {g : Grammar} {α : List Symbol} {f : Trees} → Spells g α f → (β : List Symbol) (us : List Lexeme) (h : Trees) → Reads g β us h → Joined g α β (tokens f) us
joined is_nothing β us h r = record { trees = h; reads = r }
joined (is_token {t = t} k s) β us h r =
    let j = joined s β us h r in record { trees = token t j.trees; reads = (is_token k j.reads.0, ap (λ ts. t ∷ ts) j.reads.1) }
joined (is_form {n = n} {i = i} {below = below} {behind = behind} at s t) β us h r =
    let j = joined t β us h r in
    record {
      trees = form n i below j.trees;
      reads = (is_form at s j.reads.0, ap (λ ts. tokens below ++ ts) j.reads.1 ∙ sym (append_assoc (tokens below) (tokens behind) us));
    }

some_trees : {g : Grammar} {table : Table} {fs : List Facts} → IsPredictive g table fs → (α : List Symbol) → IsSpellable α → GoesOn g α []
some_trees known α s =
    let r = some_run known α s in
    let t = trees_of r.run in
    record { more = r.ts; trees = t.trees; reads = (t.spells, t.tokens_are) }

first_spellable : (s : Symbol) (α : List Symbol) → IsSpellable (s ∷ α) → IsSpellable α
first_spellable (Class c) α h = h.1
first_spellable (Part n) α h = h

-- a front goes on
pub goes_on : {g : Grammar} {table : Table} {fs : List Facts} → IsPredictive g table fs
    → {α : List Symbol} {ts : List Lexeme} → Front g α ts → IsSpellable α → GoesOn g α ts
goes_on known {α} is_empty s = some_trees known α s
goes_on known (is_spelled f p) s = record { more = []; trees = f; reads = (p, sym (append-nil (tokens f))) }
goes_on {g} {fs = fs} known (is_inside {n = n} {α = α} {ts = ts} i body at p) s =
    let inner = goes_on known p (body_spellable fs n body (known.fit n i body at).follows) in
    let outer = some_trees known α s in
    record {
      more = inner.more ++ outer.more;
      trees = form n i inner.trees outer.trees;
      reads = (
        is_form at inner.reads.0 outer.reads.0,
        ap (λ x. x ++ tokens outer.trees) inner.reads.1 ∙ ap (λ x. (ts ++ inner.more) ++ x) outer.reads.1 ∙ append_assoc ts inner.more outer.more,
      );
    }
goes_on known (is_past {s = s} {α = α} f ts p q) sp =
    let rest = goes_on known q (first_spellable s α sp) in
    let j = joined p α (ts ++ rest.more) rest.trees rest.reads in
    record { more = rest.more; trees = j.trees; reads = (j.reads.0, j.reads.1 ∙ sym (append_assoc (tokens f) ts rest.more)) }
