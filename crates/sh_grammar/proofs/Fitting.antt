-- What a predictive grammar knows of each alternative.
use Rattle.std.proofs.Common.{◌≡◌, ◌⊎◌, ℕ, zero, suc, ◌+◌, ◌<◌, true, List, [], ◌∷◌, arith, inl, inr, Some}
use Rattle.std.specs.Prelude.{slice_get}
use Rattle.std.proofs.lemmas.Bool.{eqb-true, ltb-true}
use Rattle.sh_grammar.specs.declared.forms.Form.{Form}
use Rattle.sh_grammar.specs.declared.symbols.Symbol.{Symbol}
use Rattle.sh_grammar.specs.Forms.{number, all_forms}
use Rattle.sh_grammar.specs.Grammar.{Grammar, IsAlternative, is_operation}
use Rattle.sh_grammar.specs.Predictive.{Table, Facts, facts_of, choice, has, may_be_empty, may_begin_operation, firsts, weight_of, follows_fit, alternative_fits, alternatives_fit, form_fits, is_predictive, is_shallower}
use Rattle.sh_grammar.proofs.Numbered.{form_at}
use Rattle.sh_grammar.proofs.Booleans.{and_both, implied, or_either, each_has, each_at, SomeAt, some_at}

pub record Fit (table : Table) (fs : List Facts) (n : Form) (i : ℕ) (body : List Symbol) : Type 0 where
  pub empty : may_be_empty fs body ≡ true → (facts_of fs n).empty ≡ true
  pub begins : may_begin_operation fs body ≡ true → (facts_of fs n).begins ≡ true
  pub first : (c : ℕ) → has (firsts fs body) c ≡ true → has (facts_of fs n).first c ≡ true
  pub taken : (c : ℕ) → has (firsts fs body) c ≡ true → choice table n c ≡ suc i
  pub skipped : may_be_empty fs body ≡ true → (c : ℕ) → has (facts_of fs n).follow c ≡ true → choice table n c ≡ suc i
  pub lighter : weight_of fs body < (facts_of fs n).weight
  pub follows : follows_fit fs n body ≡ true

pub record IsPredictive (g : Grammar) (table : Table) (fs : List Facts) : Type 0 where
  pub fit : (n : Form) (i : ℕ) (body : List Symbol) → IsAlternative g n i body → Fit table fs n i body
  pub ends : (n : Form) → SomeAt (is_shallower fs (facts_of fs n).depth) (g n)
  pub empties : (n : Form) → (facts_of fs n).empty ≡ true → SomeAt (may_be_empty fs) (g n)
  pub operation : (n : Form) → is_operation n ≡ true → (facts_of fs n).begins ≡ true
  pub beginning : (n : Form) → (facts_of fs n).begins ≡ true → (is_operation n ≡ true) ⊎ SomeAt (may_begin_operation fs) (g n)

record FormFit (g : Grammar) (table : Table) (fs : List Facts) (n : Form) : Type 0 where
  fit : (i : ℕ) (body : List Symbol) → IsAlternative g n i body → Fit table fs n i body
  ends : SomeAt (is_shallower fs (facts_of fs n).depth) (g n)
  empties : (facts_of fs n).empty ≡ true → SomeAt (may_be_empty fs) (g n)
  operation : is_operation n ≡ true → (facts_of fs n).begins ≡ true
  beginning : (facts_of fs n).begins ≡ true → (is_operation n ≡ true) ⊎ SomeAt (may_begin_operation fs) (g n)

alternative_fit : (table : Table) (fs : List Facts) (n : Form) (i : ℕ) (body : List Symbol)
    → alternative_fits table fs n i body ≡ true → Fit table fs n i body
alternative_fit table fs n i body e =
    let a = and_both _ _ e in
    let b = and_both _ _ a.0 in
    let c = and_both _ _ b.0 in
    let d = and_both _ _ c.0 in
    let f = and_both _ _ d.0 in
    let h = and_both _ _ f.0 in
    record {
      empty = implied _ _ h.0;
      begins = implied _ _ h.1;
      first = λ k j. each_has _ _ k f.1 j;
      taken = λ k j. eqb-true _ _ (each_has _ _ k d.1 j);
      skipped = λ m k j. eqb-true _ _ (each_has _ _ k (implied _ _ c.1 m) j);
      lighter = ltb-true _ _ b.1;
      follows = a.1;
    }

alternative_at : (table : Table) (fs : List Facts) (n : Form) (k : ℕ) (bodies : List (List Symbol)) (i j : ℕ) (body : List Symbol)
    → alternatives_fit table fs n k bodies ≡ true → slice_get bodies j ≡ Some body → i ≡ k + j
    → alternative_fits table fs n i body ≡ true
alternative_at table fs n k [] i j body e at is = cc
alternative_at table fs n k (b ∷ bodies) i zero body e at is =
    let same : i ≡ k = omega arith in
    let this : b ≡ body = cc in
    rw (same, ← this) (and_both _ _ e).0
alternative_at table fs n k (b ∷ bodies) i (suc j) body e at is =
    alternative_at table fs n (suc k) bodies i j body (and_both _ _ e).1 at (omega arith)

form_test : (g : Grammar) (table : Table) (fs : List Facts) (n : Form) → form_fits g table fs n ≡ true → FormFit g table fs n
form_test g table fs n e =
    let a = and_both _ _ e in
    let b = and_both _ _ a.0 in
    let c = and_both _ _ b.0 in
    let d = and_both _ _ c.0 in
    record {
      fit = λ i body at. alternative_fit table fs n i body (alternative_at table fs n 0 (g n) i i body d.0 at (omega arith));
      ends = some_at _ _ d.1;
      empties = λ h. some_at _ _ (implied _ _ c.1 h);
      operation = implied _ _ b.1;
      beginning = λ h. elim (or_either _ _ (implied _ _ a.1 h)) [ inl k ↦ inl k | inr k ↦ inr (some_at _ _ k) ];
    }

pub predictive_test : (g : Grammar) (table : Table) (fs : List Facts) → is_predictive g table fs ≡ true → IsPredictive g table fs
predictive_test g table fs e = record {
  fit = λ n i body at. (form_test g table fs n (passes n)).fit i body at;
  ends = λ n. (form_test g table fs n (passes n)).ends;
  empties = λ n. (form_test g table fs n (passes n)).empties;
  operation = λ n. (form_test g table fs n (passes n)).operation;
  beginning = λ n. (form_test g table fs n (passes n)).beginning;
}
  where
    passes : (n : Form) → form_fits g table fs n ≡ true
    passes n = each_at (form_fits g table fs) all_forms (number n) n e (form_at n)
