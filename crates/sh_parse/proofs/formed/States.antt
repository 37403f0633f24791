-- What is known wherever a reading stands: functions, maps and operations that are named so far began
-- before, and the names so far are the first of all.
use Rattle.std.proofs.Common.{◌≡◌, ◌∙◌, ◌<◌, ◌≤◌, ℕ, zero, suc, Bool, true, false, List, [], ◌∷◌, ◌++◌, Option, Some, None, refl, ap, sym, subst, arith, append_assoc}
use Rattle.std.proofs.lemmas.List.{append-nil}
use Rattle.std.proofs.lemmas.Grind.{flat_map-append}
use Rattle.std.specs.Prelude.{flat_map, ◌&&◌, slice_get}
use Rattle.std.specs.List.{AllByRecursion, list_any}
use Rattle.std.proofs.lemmas.Bool.{cond_both}
use Rattle.std.proofs.lemmas.Option.{same_Some}
use Rattle.sh_build.specs.Meaning.{made}
use Rattle.sh_build.specs.declared.parts.Alias.{Alias}
use Rattle.sh_build.specs.declared.parts.Part.{Part}
use Rattle.sh_grammar.specs.Grammar.{Spells, Trees}
use Rattle.sh_grammar.specs.Grammar.Spells.{is_form, is_nothing, is_token}
use Rattle.sh_grammar.specs.Grammar.Trees.{form, nothing, token}
use Rattle.sh_grammar.specs.Language.{language}
use Rattle.sh_grammar.specs.Lexemes.{Lexeme, class_of}
use Rattle.sh_grammar.specs.declared.forms.Form.{Form}
use Rattle.sh_grammar.specs.declared.forms.Form.TheVariants as form
use Rattle.sh_grammar.specs.declared.symbols.Symbol.{Symbol}
use Rattle.sh_grammar.specs.declared.symbols.Symbol.TheVariants as symbol
use Rattle.sh_lex.specs.declared.tokens.TokenKind.{TokenKind}
use Rattle.sh_lex.specs.declared.tokens.TokenKind.TheVariants as kind
use Rattle.sh_names.specs.Names.{Mention, Owned, behind, defines_for, distinct, inside, mention_of, names_behind, names_by_role, region_of_use}
use Rattle.sh_names.specs.declared.scopes.Role.{Role}
use Rattle.sh_names.specs.declared.scopes.Role.TheVariants as role
use Rattle.sh_names.specs.declared.scopes.Scope.{Scope}
use Rattle.sh_parse.proofs.formed.EachOf.{each_append, each_so}
use Rattle.sh_parse.proofs.formed.Walks.{State, enter, leaf_at, names_at, names_behind_both, parts_at, past, step}

-- ## Names so far

abbrev pub flat : List (List Owned) → List Owned
flat names = flat_map (λ ns. ns) names

abbrev pub named_before : State → List Owned
named_before σ = flat (names_behind [] σ.before)

pub named_step : (aliases : List Alias) (names : List Owned) (σ : State) (t : Lexeme)
    → named_before (step t σ) ≡ named_before σ ++ names_at aliases names σ t
named_step aliases names σ t =
    ap flat (names_behind_both [] σ.before (mention_of σ.scope t ∷ []))
    ∙ flat_map-append (λ ns. ns) (names_behind [] σ.before) (names_by_role (mention_of σ.scope t).role σ.before (mention_of σ.scope t) ∷ [])
    ∙ ap (λ ns. named_before σ ++ ns) (append-nil (names_by_role (mention_of σ.scope t).role σ.before (mention_of σ.scope t)))

-- ## Numbers of forms

abbrev pub RegionBelow : ℕ → Option ℕ → Type 0
RegionBelow k None = Unit {0}
RegionBelow k (Some o) = o < k

pub record NameBelow (k : ℕ) (x : Owned) : Type 0 where
  pub unit : x.unit < k
  pub region : RegionBelow k x.region

abbrev pub OpBelow : ℕ → Mention → Type 0
OpBelow k m = m.scope.op < k

-- a role that an `@name` may have
abbrev pub is_of_item : Role → Bool
is_of_item role.Nothing = true
is_of_item role.DeviceName = true
is_of_item role.FuncName = true
is_of_item _ = false

pub record ScopeBelow (k : ℕ) (s : Scope) : Type 0 where
  pub func : s.func < k
  pub op : s.op < k
  pub map : s.map < k
  pub at : is_of_item s.at ≡ true

-- what began before
pub record Below (σ : State) : Type 0 where
  pub names : AllByRecursion (NameBelow σ.count) (named_before σ)
  pub ops : AllByRecursion (OpBelow σ.count) σ.before
  pub scope : ScopeBelow (suc σ.count) σ.scope

region_more : (k : ℕ) (r : Option ℕ) → RegionBelow k r → RegionBelow (suc k) r
region_more k None h = tt
region_more k (Some o) h = omega arith

one_more : (k : ℕ) (x : Owned) → NameBelow k x → NameBelow (suc k) x
one_more k x h = record { unit = let u = h.unit in omega arith; region = region_more k x.region h.region }

use_below : (k : ℕ) (before : List Mention) (m : Mention) → m.scope.op < k → RegionBelow k (region_of_use before m)
use_below k before m h = cond_both (m.scope.in_region && list_any (defines_for m) before) _ _ (RegionBelow k) (λ _. h) (λ _. tt)

role_below : (role : Role) (before : List Mention) (m : Mention) (k : ℕ) → ScopeBelow k m.scope
    → AllByRecursion (NameBelow k) (names_by_role role before m)
role_below role.Nothing before m k h = tt
role_below role.Value before m k h = (record { unit = h.func; region = use_below k before m h.op }, tt)
role_below role.Own before m k h = (record { unit = h.func; region = h.op }, tt)
role_below role.Combiner before m k h =
    (record { unit = h.func; region = h.op }, (record { unit = h.func; region = h.op }, (record { unit = h.func; region = h.op }, tt)))
role_below role.Word before m k h = (record { unit = h.map; region = tt }, tt)
role_below role.NewAlias before m k h = tt
role_below role.Alias before m k h = tt
role_below role.DeviceName before m k h = tt
role_below role.FuncName before m k h = tt

behind_below : (kind : TokenKind) (k : ℕ) (s : Scope) → ScopeBelow k s → ScopeBelow (suc k) (behind kind s)
behind_below kind.At k s h = let a = h.func in let b = h.op in let c = h.map in record { func = omega arith; op = omega arith; map = omega arith; at = refl }
behind_below _ k s h = let a = h.func in let b = h.op in let c = h.map in record { func = omega arith; op = omega arith; map = omega arith; at = h.at }

inside_below : (k : ℕ) (n : Form) (s : Scope) → ScopeBelow (suc k) s → ScopeBelow (suc k) (inside k n s)
inside_below k form.Contents s h = record { func = h.func; op = h.op; map = h.map; at = h.at }
inside_below k form.Map s h = record { func = h.func; op = h.op; map = omega arith; at = h.at }
inside_below k form.Device s h = record { func = h.func; op = h.op; map = h.map; at = refl }
inside_below k form.Func s h = record { func = omega arith; op = h.op; map = h.map; at = refl }
inside_below k form.Operation s h = record { func = h.func; op = omega arith; map = h.map; at = h.at }
inside_below k form.Return s h = record { func = h.func; op = omega arith; map = h.map; at = h.at }
inside_below k form.BlockArgument s h = record { func = h.func; op = h.op; map = h.map; at = h.at }
inside_below k form.BodyOperation s h = record { func = h.func; op = h.op; map = h.map; at = h.at }
inside_below k form.GenericOperation s h = record { func = h.func; op = h.op; map = h.map; at = h.at }
inside_below k form.Yield s h = record { func = h.func; op = h.op; map = h.map; at = h.at }
inside_below k _ s h = h

pub enter_below : (n : Form) (σ : State) → Below σ → Below (enter n σ)
enter_below n σ h =
    let s = inside_below σ.count n σ.scope h.scope in
    record { names = h.names; ops = h.ops; scope = record { func = s.func; op = s.op; map = s.map; at = s.at } }

pub step_below : (t : Lexeme) (σ : State) → Below σ → Below (step t σ)
step_below t σ h =
    let front = each_so (NameBelow σ.count) (NameBelow (suc σ.count)) (named_before σ) (one_more σ.count) h.names in
    let more = role_below (mention_of σ.scope t).role σ.before (mention_of σ.scope t) (suc σ.count) h.scope in
    record {
      names = subst (AllByRecursion (NameBelow (suc σ.count))) (sym (named_step [] [] σ t)) (each_append (NameBelow (suc σ.count)) (named_before σ) _ front more);
      ops = each_append (OpBelow (suc σ.count)) σ.before (mention_of σ.scope t ∷ [])
          (each_so (OpBelow σ.count) (OpBelow (suc σ.count)) σ.before (λ m less. omega arith) h.ops) (h.scope.op, tt);
      scope = behind_below t.kind (suc σ.count) σ.scope h.scope;
    }

pub past_below : (f : Trees) (σ : State) → Below σ → Below (past σ f)
past_below nothing σ h = h
past_below (token t after) σ h = past_below after (step t σ) (step_below t σ h)
past_below (form n i below after) σ h = past_below after (past (enter n σ) below) (past_below below (enter n σ) (enter_below n σ h))

pub past_count : (f : Trees) (σ : State) → σ.count ≤ (past σ f).count
past_count nothing σ = omega arith
past_count (token t after) σ = let rest = past_count after (step t σ) in omega (arith, rest)
past_count (form n i below after) σ =
    let first : σ.count ≤ (past (enter n σ) below).count = past_count below (enter n σ) in
    let rest : (past (enter n σ) below).count ≤ (past (past (enter n σ) below) after).count = past_count after (past (enter n σ) below) in
    omega arith

-- ## Trees

-- where the token is read, and what comes of it
pub record TokenAt (all : List Owned) (c : ℕ) (σ : State) (t : Lexeme) : Type 0 where
  pub class : class_of t ≡ c
  pub below : Below σ
  pub later : List Owned
  pub is : all ≡ named_before (step t σ) ++ later

-- the names of all tokens begin with those up to here
pub record Starts (all : List Owned) (σ : State) : Type 0 where
  pub later : List Owned
  pub is : all ≡ named_before σ ++ later

starts_step : (all : List Owned) (t : Lexeme) (σ : State) → Starts all (step t σ) → Starts all σ
starts_step all t σ b = record {
  later = names_at [] all σ t ++ b.later;
  is = b.is ∙ ap (λ ns. ns ++ b.later) (named_step [] all σ t) ∙ append_assoc (named_before σ) (names_at [] all σ t) b.later;
}

pub starts_before : (all : List Owned) (f : Trees) (σ : State) → Starts all (past σ f) → Starts all σ
starts_before all nothing σ b = b
starts_before all (token t after) σ b = starts_step all t σ (starts_before all after (step t σ) b)
starts_before all (form n i below after) σ b =
    let inner : Starts all (enter n σ) = starts_before all below (enter n σ) (starts_before all after (past (enter n σ) below) b) in
    record { later = inner.later; is = inner.is }

module _ (aliases : List Alias) (all : List Owned) (Is : Form → State → State → Part → Type 0) where
  -- so it is with each row of tokens and forms that are as `Is` says, from where the row begins
  abbrev pub ForRowFrom : State → List Symbol → (State → List Part → Type 0) → Type 0
  ForRowFrom σ [] P = P σ []
  ForRowFrom σ (symbol.Class c ∷ α) P =
      (t : Lexeme) → TokenAt all c σ t
      → ForRowFrom (step t σ) α (λ τ ps. P τ (leaf_at aliases (distinct all) σ t ∷ ps))
  ForRowFrom σ (symbol.Part n ∷ α) P =
      (τ : State) (p : Part) → σ.count ≤ τ.count → Is n σ τ p → ForRowFrom τ α (λ υ ps. P υ (p ∷ ps))

  -- so it is with each row of the form
  abbrev pub ForRowsFrom : State → List (List Symbol) → (ℕ → State → List Part → Type 0) → Type 0
  ForRowsFrom σ [] P = Unit {0}
  ForRowsFrom σ (row ∷ rows) P = ForRowFrom σ row (P 0) × ForRowsFrom σ rows (λ i. P (suc i))

  -- what each form makes is as `Is` says
  abbrev pub RowsAre : Form → Type 0
  RowsAre n = (σ : State) → Below σ → ForRowsFrom (enter n σ) (language n) (λ i τ ps. Is n σ τ (made n i ps))

  row_from : (σ : State) (rows : List (List Symbol)) (P : ℕ → State → List Part → Type 0) (i : ℕ) (body : List Symbol)
      → ForRowsFrom σ rows P → slice_get rows i ≡ Some body → ForRowFrom σ body (P i)
  row_from σ [] P i body rows at = cc
  row_from σ (row ∷ rows) P zero body h at = subst (λ α. ForRowFrom σ α (P 0)) (same_Some row body at) h.0
  row_from σ (row ∷ rows) P (suc i) body h at = row_from σ rows (λ j. P (suc j)) i body h.1 at

  -- each form of the trees is as `Is` says
  abbrev pub Everywhere : State → Trees → Type 0
  Everywhere σ nothing = Unit {0}
  Everywhere σ (token t after) = Everywhere (step t σ) after
  Everywhere σ (form n i below after) =
      Is n σ (past (enter n σ) below) (made n i (parts_at aliases (distinct all) (enter n σ) below))
      × (Everywhere (enter n σ) below × Everywhere (past (enter n σ) below) after)

  by_row_from : (α : List Symbol) (f : Trees) (σ : State) (P : State → List Part → Type 0) → Spells language α f
      → Below σ → Starts all (past σ f) → Everywhere σ f → ForRowFrom σ α P
      → P (past σ f) (parts_at aliases (distinct all) σ f)
  by_row_from α f σ P is_nothing below b every row = row
  by_row_from α f σ P (is_token {t = t} {behind = after} e spells) below b every row =
      let now : Starts all (step t σ) = starts_before all after (step t σ) b in
      by_row_from _ after (step t σ) _ spells (step_below t σ below) b every
      (row t (record { class = e; below = below; later = now.later; is = now.is }))
  by_row_from α f σ P (is_form {n = n} {below = under} {behind = after} e spells others) below b every row =
      by_row_from _ after (past (enter n σ) under) _ others (past_below under (enter n σ) (enter_below n σ below)) b every.1.1
      (row (past (enter n σ) under) _ (past_count under (enter n σ)) every.0)

  -- what is so of the part of a form by what is so below it
  abbrev pub EachForm : Type 0
  EachForm = (n : Form) (i : ℕ) (body : List Symbol) (under : Trees) (σ : State) → slice_get (language n) i ≡ Some body
      → Spells language body under → Below σ → Starts all (past (enter n σ) under) → Everywhere (enter n σ) under
      → Is n σ (past (enter n σ) under) (made n i (parts_at aliases (distinct all) (enter n σ) under))

  pub by_rows : (n : Form) → RowsAre n → (i : ℕ) (body : List Symbol) (under : Trees) (σ : State) → slice_get (language n) i ≡ Some body
      → Spells language body under → Below σ → Starts all (past (enter n σ) under) → Everywhere (enter n σ) under
      → Is n σ (past (enter n σ) under) (made n i (parts_at aliases (distinct all) (enter n σ) under))
  by_rows n rows i body under σ e spells below b every =
      by_row_from body under (enter n σ) (λ τ ps. Is n σ τ (made n i ps)) spells (enter_below n σ below) b every
      (row_from (enter n σ) (language n) (λ j τ ps. Is n σ τ (made n j ps)) i body (rows σ below) e)

  pub everywhere : EachForm → (α : List Symbol) (f : Trees) (σ : State) → Spells language α f
      → Below σ → Starts all (past σ f) → Everywhere σ f
  everywhere each α f σ is_nothing below b = tt
  everywhere each α f σ (is_token {t = t} {behind = after} e spells) below b =
      everywhere each _ after (step t σ) spells (step_below t σ below) b
  everywhere each α f σ (is_form {n = n} {i = i} {body = body} {below = under} {behind = after} e spells others) below b =
      let inner : Below (enter n σ) = enter_below n σ below in
      let b' : Starts all (past (enter n σ) under) = starts_before all after (past (enter n σ) under) b in
      let every = everywhere each body under (enter n σ) spells inner b' in (
        each n i body under σ e spells below b' every,
        (every, everywhere each _ after (past (enter n σ) under) others (past_below under (enter n σ) inner) b),
      )

  -- where it is so with all parts
  row_free : (σ : State) (α : List Symbol) (P : State → List Part → Type 0) → ((τ : State) (ps : List Part) → P τ ps)
      → ForRowFrom σ α P
  row_free σ [] P so = so σ []
  row_free σ (symbol.Class c ∷ α) P so = λ t at. row_free (step t σ) α _ (λ τ ps. so τ (leaf_at aliases (distinct all) σ t ∷ ps))
  row_free σ (symbol.Part n ∷ α) P so = λ τ p _ is. row_free τ α _ (λ υ ps. so υ (p ∷ ps))

  pub rows_free : (σ : State) (rows : List (List Symbol)) (P : ℕ → State → List Part → Type 0)
      → ((i : ℕ) (τ : State) (ps : List Part) → P i τ ps) → ForRowsFrom σ rows P
  rows_free σ [] P so = tt
  rows_free σ (row ∷ rows) P so = (row_free σ row (P 0) (so 0), rows_free σ rows (λ i. P (suc i)) (λ i. so (suc i)))
