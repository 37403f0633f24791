-- A stack of a predictive grammar: what the next token says of it.
use Rattle.std.proofs.Common.{◌≡◌, ◌⊎◌, ℕ, suc, ◌+◌, ◌<◌, ◌≤◌, Bool, true, false, cond, List, [], ◌∷◌, ◌++◌, length, refl, inl, inr, arith}
use Rattle.std.proofs.lemmas.Bool.{eq-eqb}
use Rattle.sh_grammar.specs.declared.forms.Form.{Form}
use Rattle.sh_grammar.specs.declared.symbols.Symbol.{Symbol}
use Rattle.sh_grammar.specs.declared.symbols.Event.{Event}
use Rattle.sh_grammar.specs.declared.symbols.Event.TheVariants.{Took, Opened}
use Rattle.sh_grammar.specs.declared.symbols.Symbol.TheVariants.{Class, Part}
use Rattle.sh_grammar.specs.Lexemes.{Lexeme, class_of}
use Rattle.sh_grammar.specs.Grammar.{Grammar, IsAlternative}
use Rattle.sh_grammar.specs.Predictive.{Table, Facts, facts_of, choice, has, may_be_empty, firsts, weight_of, follows_fit, ◌&◌}
use Rattle.sh_grammar.specs.Machine.{Runs, ends, shifts, expands, IsApt, HasClass}
use Rattle.sh_grammar.proofs.Booleans.{and_both, and_true, implied, or_left, has_left, each_has, has_cond, has_cond_right}
use Rattle.sh_grammar.proofs.Fitting.{Fit, IsPredictive}

-- what may begin two stacks, one behind the other
pub firsts_either : (fs : List Facts) (α β : List Symbol) (c : ℕ) → has (firsts fs (α ++ β)) c ≡ true
    → (has (firsts fs α) c ≡ true) ⊎ ((may_be_empty fs α ≡ true) × (has (firsts fs β) c ≡ true))
firsts_either fs [] β c h = inr (refl, h)
firsts_either fs (Class d ∷ α) β c h = inl h
firsts_either fs (Part n ∷ α) β c h =
    elim (has_cond (facts_of fs n).empty (facts_of fs n).first (firsts fs (α ++ β)) c h) [
      | inl k ↦ inl (has_left (facts_of fs n).first (cond (facts_of fs n).empty (firsts fs α) []) c k)
      | inr p ↦ elim (firsts_either fs α β c p.1) [
        | inl j ↦ inl (has_cond_right (facts_of fs n).empty (facts_of fs n).first (firsts fs α) c p.0 j)
        | inr q ↦ inr (and_true (facts_of fs n).empty (may_be_empty fs α) p.0 q.0, q.1)
      ]
    ]

-- what begins a run may begin its stack
pub begins : {g : Grammar} {table : Table} {fs : List Facts} → IsPredictive g table fs
    → {α : List Symbol} {t : Lexeme} {ts : List Lexeme} {cs : List Event} → Runs g α (t ∷ ts) cs → has (firsts fs α) (class_of t) ≡ true
begins known (shifts {c = c} {t = t} e r) = or_left _ _ (eq-eqb c (class_of t) (cc))
begins {g} {table} {fs} known {α = α'} {t = t} (expands {n = n} {i = i} body {α = α} at r) =
    elim (firsts_either fs body α (class_of t) (begins known r)) [
      | inl k ↦ has_left (facts_of fs n).first (cond (facts_of fs n).empty (firsts fs α) []) (class_of t) ((known.fit n i body at).first (class_of t) k)
      | inr p ↦ has_cond_right (facts_of fs n).empty (facts_of fs n).first (firsts fs α) (class_of t) ((known.fit n i body at).empty p.0) p.1
    ]

-- a form on the stack takes the alternative that the table says
pub record Opening (g : Grammar) (table : Table) (n : Form) (t : Lexeme) (α : List Symbol) (ts : List Lexeme) (cs : List Event) : Type 0 where
  pub i : ℕ
  pub body : List Symbol
  pub rest : List Event
  pub at : IsAlternative g n i body
  pub chosen : choice table n (class_of t) ≡ suc i
  pub all : cs ≡ Opened n i (length body) ∷ rest
  pub run : Runs g (body ++ α) (t ∷ ts) rest

pub opening : {g : Grammar} {table : Table} {fs : List Facts} → IsPredictive g table fs
    → {n : Form} {t : Lexeme} {α : List Symbol} {ts : List Lexeme} {cs : List Event} → IsApt fs (Part n ∷ α) → Runs g (Part n ∷ α) (t ∷ ts) cs
    → Opening g table n t α ts cs
opening {g} {table} {fs} known {n} {t} {α} apt (expands {i = i} body {cs = rest} at r) = record {
  i = i;
  body = body;
  rest = rest;
  at = at;
  chosen = elim (firsts_either fs body α (class_of t) (begins known r)) [
    | inl k ↦ (known.fit n i body at).taken (class_of t) k
    | inr p ↦ (known.fit n i body at).skipped p.0 (class_of t) (apt.0 (class_of t) p.1)
  ];
  all = refl;
  run = r;
}

pub shifted : {g : Grammar} {c : ℕ} {t : Lexeme} {α : List Symbol} {ts : List Lexeme} {cs : List Event} → Runs g (Class c ∷ α) (t ∷ ts) cs
    → (class_of t ≡ c) × (rest : List Event) × (cs ≡ Took ∷ rest) × Runs g α ts rest
shifted (shifts {cs = rest} e r) = (e, rest, refl, r)

pub wants_behind : (α β : List Symbol) → HasClass β → HasClass (α ++ β)
wants_behind [] β w = w
wants_behind (Class c ∷ α) β w = tt
wants_behind (Part n ∷ α) β w = wants_behind α β w

-- a token that is wanted must come
pub wants_more : {g : Grammar} {α : List Symbol} {cs : List Event} → HasClass α → Runs g α [] cs → ⊥
wants_more w ends = w
wants_more w (expands body {α = α} at r) = wants_more (wants_behind body α w) r

-- the stack stays apt
pub apt_behind : (fs : List Facts) (n : Form) (body α : List Symbol) → follows_fit fs n body ≡ true
    → ((c : ℕ) → has (firsts fs α) c ≡ true → has (facts_of fs n).follow c ≡ true) → HasClass α → IsApt fs α → IsApt fs (body ++ α)
apt_behind fs n [] α e f w apt = apt
apt_behind fs n (Class c ∷ body) α e f w apt = let a = and_both _ _ e in (a.0, apt_behind fs n body α a.1 f w apt)
apt_behind fs n (Part m ∷ body) α e f w apt =
    let a = and_both _ _ e in
    let b = and_both _ _ a.0 in (
      λ k h. elim (firsts_either fs body α k h) [
        | inl j ↦ each_has (has (facts_of fs m).follow) (firsts fs body) k b.0 j
        | inr p ↦ each_has (has (facts_of fs m).follow) (facts_of fs n).follow k (implied _ _ b.1 p.0) (f k p.1)
      ],
      wants_behind body α w,
      apt_behind fs n body α a.1 f w apt,
    )

-- weights
more_weight : (b c : Bool) (n all front rest : ℕ) → all ≤ front + cond c rest 0
    → n + cond b all 0 ≤ n + cond b front 0 + cond (b & c) rest 0
unfolding ◌&◌
more_weight true c n all front rest h = omega arith
more_weight false c n all front rest h = omega arith

weight_append : (fs : List Facts) (α β : List Symbol) → weight_of fs (α ++ β) ≤ weight_of fs α + cond (may_be_empty fs α) (weight_of fs β) 0
weight_append fs [] β = omega arith
weight_append fs (Class c ∷ α) β = omega arith
weight_append fs (Part n ∷ α) β =
    more_weight (facts_of fs n).empty (may_be_empty fs α) (facts_of fs n).weight (weight_of fs (α ++ β)) (weight_of fs α) (weight_of fs β) (weight_append fs α β)

pub lighter : {g : Grammar} {table : Table} {fs : List Facts} → IsPredictive g table fs
    → (n : Form) (i : ℕ) (body α : List Symbol) → IsAlternative g n i body → weight_of fs (body ++ α) < weight_of fs (Part n ∷ α)
lighter {g} {table} {fs} known n i body α at = go (may_be_empty fs body) (facts_of fs n).empty (fit.empty) (weight_append fs body α)
  where
    fit : Fit table fs n i body
    fit = known.fit n i body at

    go : (b e : Bool) → (b ≡ true → e ≡ true) → weight_of fs (body ++ α) ≤ weight_of fs body + cond b (weight_of fs α) 0
        → weight_of fs (body ++ α) < (facts_of fs n).weight + cond e (weight_of fs α) 0
    go true true f h = omega (arith, fit.lighter)
    go true false f h = let no : false ≡ true = f refl in cc
    go false e f h = omega (arith, fit.lighter)

pub apt_opened : {g : Grammar} {table : Table} {fs : List Facts} → IsPredictive g table fs → (n : Form) (i : ℕ) (body α : List Symbol)
    → IsAlternative g n i body → IsApt fs (Part n ∷ α) → IsApt fs (body ++ α)
apt_opened {g} {table} {fs} known n i body α at apt = apt_behind fs n body α (known.fit n i body at).follows apt.0 apt.1 apt.2
