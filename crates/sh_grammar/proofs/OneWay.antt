-- Two readings take the same steps as long as their tokens are the same.
use Rattle.std.proofs.Common.{◌≡◌, ℕ, zero, suc, List, [], ◌∷◌, ◌++◌, length, take, refl, sym, ◌∙◌, ap, inl, inr}
use Rattle.sh_grammar.specs.declared.forms.Form.{Form}
use Rattle.sh_grammar.specs.declared.symbols.Symbol.{Symbol}
use Rattle.sh_grammar.specs.declared.symbols.Symbol.TheVariants.{Class, Part}
use Rattle.sh_grammar.specs.declared.symbols.Event.{Event}
use Rattle.sh_grammar.specs.declared.symbols.Event.TheVariants.{Took, Opened}
use Rattle.sh_grammar.specs.Lexemes.{Lexeme, class_of}
use Rattle.sh_grammar.specs.Grammar.{Grammar, IsAlternative, up_to}
use Rattle.sh_grammar.specs.Predictive.{Table, Facts, choice}
use Rattle.sh_grammar.specs.Machine.{Runs, ends, shifts, expands, IsApt}
use Rattle.sh_grammar.proofs.Fitting.{IsPredictive}
use Rattle.sh_grammar.proofs.Stack.{firsts_either, begins, wants_more, apt_opened}

record Begun (ts : List Lexeme) : Type 0 where
  t : Lexeme
  rest : List Lexeme
  is : ts ≡ t ∷ rest

begun : {g : Grammar} (fs : List Facts) {n : Form} {α : List Symbol} (ts : List Lexeme) {cs : List Event}
    → Runs g (Part n ∷ α) ts cs → IsApt fs (Part n ∷ α) → Begun ts
begun fs [] r apt = absurd (wants_more apt.1 r)
begun fs (t ∷ ts) r apt = record { t = t; rest = ts; is = refl }

chosen : {g : Grammar} {table : Table} {fs : List Facts} → IsPredictive g table fs
    → (n : Form) (i : ℕ) (body α : List Symbol) (t : Lexeme) (ts : List Lexeme) {cs : List Event}
    → IsAlternative g n i body → IsApt fs (Part n ∷ α) → Runs g (body ++ α) (t ∷ ts) cs → choice table n (class_of t) ≡ suc i
chosen {fs = fs} known n i body α t ts at apt r = elim (firsts_either fs body α (class_of t) (begins known r)) [
  | inl k ↦ (known.fit n i body at).taken (class_of t) k
  | inr p ↦ (known.fit n i body at).skipped p.0 (class_of t) (apt.0 (class_of t) p.1)
]

first_same : (k : ℕ) (ts us : List Lexeme) (t u : Lexeme) (rest others : List Lexeme) → ts ≡ t ∷ rest → us ≡ u ∷ others → take (suc k) ts ≡ take (suc k) us → t ≡ u
first_same k ts us t u rest others a b e =
    let both : t ∷ take k rest ≡ u ∷ take k others = sym (ap (take (suc k)) a) ∙ e ∙ ap (take (suc k)) b in cc

pub same_way : {g : Grammar} {table : Table} {fs : List Facts} → IsPredictive g table fs
    → {α : List Symbol} {ts us : List Lexeme} {cs ds : List Event} → Runs g α ts cs → Runs g α us ds → IsApt fs α
    → (k : ℕ) → take k ts ≡ take k us → up_to k cs ≡ up_to k ds
same_way known r s apt zero e = refl
same_way known ends ends apt (suc k) e = refl
same_way known (shifts {ts = ts} p r) (shifts {ts = us} q s) apt (suc k) e =
    let tail : take k ts ≡ take k us = cc in
    ap (λ es. Took ∷ es) (same_way known r s apt.1 k tail)
same_way {g} {table} {fs} known (expands {n = n} {i = i} body {α = α} {ts = ts} {cs = cs} at r) (expands {i = j} other {ts = us} {cs = ds} at' s) apt (suc k) e =
    let a = begun fs ts (expands body at r) apt in
    let b = begun fs us (expands other at' s) apt in
    let first : a.t ≡ b.t = first_same k ts us a.t b.t a.rest b.rest a.is b.is e in
    let x : choice table n (class_of a.t) ≡ suc i = chosen known n i body α a.t a.rest at apt (rw a.is at r) in
    let y : choice table n (class_of b.t) ≡ suc j = chosen known n j other α b.t b.rest at' apt (rw b.is at s) in
    let both : suc i ≡ suc j = sym x ∙ ap (λ t. choice table n (class_of t)) first ∙ y in
    let same : i ≡ j = cc in
    let at'' : IsAlternative g n i other = rw same at' in
    let bodies : other ≡ body = cc (at, at'') in
    let rest = same_way known r (rw bodies at s) (apt_opened known n i body α at apt) (suc k) e in
    ap (λ es. Opened n i (length body) ∷ es) rest
    ∙ ap (λ m. Opened n m (length body) ∷ up_to (suc k) ds) same
    ∙ ap (λ b. Opened n j (length b) ∷ up_to (suc k) ds) (sym bodies)

pub one_run : {g : Grammar} {table : Table} {fs : List Facts} → IsPredictive g table fs
    → {α : List Symbol} {ts : List Lexeme} {cs ds : List Event} → Runs g α ts cs → Runs g α ts ds → IsApt fs α → cs ≡ ds
one_run known ends ends apt = refl
one_run known (shifts p r) (shifts q s) apt = ap (λ es. Took ∷ es) (one_run known r s apt.1)
one_run {g} {table} {fs} known (expands {n = n} {i = i} body {α = α} {ts = ts} {cs = cs} at r) (expands {i = j} other {cs = ds} at' s) apt =
    let a = begun fs ts (expands body at r) apt in
    let x : choice table n (class_of a.t) ≡ suc i = chosen known n i body α a.t a.rest at apt (rw a.is at r) in
    let y : choice table n (class_of a.t) ≡ suc j = chosen known n j other α a.t a.rest at' apt (rw a.is at s) in
    let both : suc i ≡ suc j = sym x ∙ y in
    let same : i ≡ j = cc in
    let at'' : IsAlternative g n i other = rw same at' in
    let bodies : other ≡ body = cc (at, at'') in
    let rest = one_run known r (rw bodies at s) (apt_opened known n i body α at apt) in
    ap (λ es. Opened n i (length body) ∷ es) rest
    ∙ ap (λ m. Opened n m (length body) ∷ ds) same
    ∙ ap (λ b. Opened n j (length b) ∷ ds) (sym bodies)
