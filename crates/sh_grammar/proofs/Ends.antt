-- Each row of symbols of a predictive grammar can be read to its end.
use Rattle.std.proofs.Common.{◌≡◌, ℕ, zero, suc, ◌<◌, List, [], ◌∷◌, ◌++◌, length, true, nat_lt, arith}
use Rattle.std.proofs.lemmas.Bool.{ltb-true}
use Rattle.sh_grammar.specs.declared.forms.Form.{Form}
use Rattle.sh_grammar.specs.declared.symbols.Symbol.{Symbol}
use Rattle.sh_grammar.specs.declared.symbols.Event.{Event}
use Rattle.sh_grammar.specs.declared.symbols.Event.TheVariants.{Took, Opened}
use Rattle.sh_grammar.specs.declared.symbols.Symbol.TheVariants.{Class, Part}
use Rattle.sh_grammar.specs.Lexemes.{Lexeme, class_count}
use Rattle.sh_grammar.specs.Grammar.{Grammar}
use Rattle.sh_grammar.specs.Predictive.{Table, Facts, facts_of, follows_fit, is_shallower}
use Rattle.sh_grammar.specs.Machine.{Runs, ends, shifts, expands, IsApt}
use Rattle.sh_grammar.proofs.Booleans.{and_both}
use Rattle.sh_grammar.proofs.Fitting.{IsPredictive}
use Rattle.sh_grammar.proofs.Classes.{token_of}

pub record SomeRun (g : Grammar) (α : List Symbol) : Type 0 where
  pub ts : List Lexeme
  pub cs : List Event
  pub run : Runs g α ts cs

-- its classes are classes of tokens
abbrev pub IsSpellable : List Symbol → Type 0
IsSpellable [] = Unit {0}
IsSpellable (Class c ∷ α) = (nat_lt c class_count ≡ true) × IsSpellable α
IsSpellable (Part n ∷ α) = IsSpellable α

pub apt_spellable : (fs : List Facts) (α : List Symbol) → IsApt fs α → IsSpellable α
apt_spellable fs [] apt = tt
apt_spellable fs (Class c ∷ α) apt = (apt.0, apt_spellable fs α apt.1)
apt_spellable fs (Part n ∷ α) apt = apt_spellable fs α apt.2

pub body_spellable : (fs : List Facts) (n : Form) (body : List Symbol) → follows_fit fs n body ≡ true → IsSpellable body
body_spellable fs n [] e = tt
body_spellable fs n (Class c ∷ body) e = let a = and_both _ _ e in (a.0, body_spellable fs n body a.1)
body_spellable fs n (Part m ∷ body) e = body_spellable fs n body (and_both _ _ e).1

class_run : (g : Grammar) (c : ℕ) (α : List Symbol) → nat_lt c class_count ≡ true → SomeRun g α → SomeRun g (Class c ∷ α)
class_run g c α h r = let t = token_of c h in record { ts = t.0 ∷ r.ts; cs = Took ∷ r.cs; run = shifts t.1 r.run }

-- a body whose forms are shallow has a run, if shallow forms have
body_run : (g : Grammar) (fs : List Facts) (d : ℕ)
    → ((m : Form) → (facts_of fs m).depth < d → (β : List Symbol) → SomeRun g β → SomeRun g (Part m ∷ β))
    → (body α : List Symbol) → IsSpellable body → is_shallower fs d body ≡ true → SomeRun g α → SomeRun g (body ++ α)
body_run g fs d shallow [] α f s rest = rest
body_run g fs d shallow (Class c ∷ body) α f s rest = class_run g c (body ++ α) f.0 (body_run g fs d shallow body α f.1 s rest)
body_run g fs d shallow (Part m ∷ body) α f s rest =
    let t = and_both _ _ s in
    shallow m (ltb-true _ _ t.0) (body ++ α) (body_run g fs d shallow body α f t.1 rest)

form_run : {g : Grammar} {table : Table} {fs : List Facts} → IsPredictive g table fs
    → (d : ℕ) (n : Form) → (facts_of fs n).depth < d → (α : List Symbol) → SomeRun g α → SomeRun g (Part n ∷ α)
form_run known zero n deep α rest = absurd (omega arith)
form_run {g} {table} {fs} known (suc d) n deep α rest =
    let e = known.ends n in
    let r = body_run g fs (facts_of fs n).depth (λ m less β more. form_run known d m (omega arith) β more)
    e.item α (body_spellable fs n e.item (known.fit n e.i e.item e.at).follows) e.passes rest in
    record { ts = r.ts; cs = Opened n e.i (length e.item) ∷ r.cs; run = expands e.item e.at r.run }

pub some_run : {g : Grammar} {table : Table} {fs : List Facts} → IsPredictive g table fs
    → (α : List Symbol) → IsSpellable α → SomeRun g α
some_run known [] s = record { ts = []; cs = []; run = ends }
some_run {g} known (Class c ∷ α) s = class_run g c α s.0 (some_run known α s.1)
some_run {fs = fs} known (Part n ∷ α) s = form_run known (suc (facts_of fs n).depth) n (omega arith) α (some_run known α s)
