-- Most forms define no name of a region: behind them a reading stands in the same function, operation
-- and region as before.
use Rattle.std.proofs.Common.{◌≡◌, ◌∙◌, ℕ, zero, suc, Bool, true, false, cond, List, [], ◌∷◌, ◌++◌, Option, Some, None, refl, ap, sym, subst}
use Rattle.std.proofs.lemmas.List.{append-nil}
use Rattle.std.proofs.lemmas.List.Elements.{filter-append}
use Rattle.std.specs.Prelude.{filter, ◌&&◌, slice_get}
use Rattle.std.specs.List.{AllByRecursion, list_all, list_any}
use Rattle.std.proofs.lemmas.Bool.{and_parts, false≢true}
use Rattle.std.proofs.lemmas.Option.{same_Some}
use Rattle.sh_grammar.specs.Grammar.{Spells, Trees}
use Rattle.sh_grammar.specs.Grammar.Spells.{is_form, is_nothing, is_token}
use Rattle.sh_grammar.specs.Language.{language}
use Rattle.sh_grammar.specs.Lexemes.{Lexeme, words}
use Rattle.sh_grammar.specs.declared.forms.Form.{Form}
use Rattle.sh_grammar.specs.declared.forms.Form.TheVariants as forms
use Rattle.sh_grammar.specs.declared.symbols.Symbol.{Symbol}
use Rattle.sh_grammar.specs.declared.symbols.Symbol.TheVariants as symbol
use Rattle.sh_lex.specs.declared.tokens.TokenKind.{TokenKind}
use Rattle.sh_lex.specs.declared.tokens.TokenKind.TheVariants as kind
use Rattle.sh_names.specs.Names.{Mention, Owned, behind, defines_for, is_own, mention_of, names_by_role, region_of_use, role_by_kind, role_in}
use Rattle.sh_names.specs.declared.scopes.Role.{Role}
use Rattle.sh_names.specs.declared.scopes.Role.TheVariants as role
use Rattle.sh_names.specs.declared.scopes.Scope.{Scope}
use Rattle.sh_parse.proofs.formed.EachOf.{each_append}
use Rattle.sh_parse.proofs.formed.States.{Below, enter_below, is_of_item, named_before, named_step, past_below, step_below}
use Rattle.sh_parse.proofs.formed.Walks.{State, enter, past, step}

-- ## Which forms

-- neither a name that a region defines nor a combiner begins here
abbrev pub is_calm : Option Form → Bool
is_calm None = true
is_calm (Some forms.BlockArgument) = false
is_calm (Some forms.BodyOperation) = false
is_calm (Some forms.GenericOperation) = false
is_calm (Some forms.Combiner) = false
is_calm (Some _) = true

-- a form that holds no operation and no region, and is neither
abbrev pub is_quiet : Form → Bool
is_quiet forms.File = false
is_quiet forms.Contents = false
is_quiet forms.Items = false
is_quiet forms.Item = false
is_quiet forms.Func = false
is_quiet forms.Operations = false
is_quiet forms.Operation = false
is_quiet forms.Return = false
is_quiet forms.RightSide = false
is_quiet forms.Reduce = false
is_quiet forms.ReduceTail = false
is_quiet forms.Generic = false
is_quiet forms.Body = false
is_quiet forms.BodyOperation = false
is_quiet forms.GenericBody = false
is_quiet forms.GenericOperation = false
is_quiet forms.Yield = false
is_quiet forms.BlockArguments = false
is_quiet forms.MoreBlockArguments = false
is_quiet forms.BlockArgument = false
is_quiet forms.Combiner = false
is_quiet _ = true

abbrev pub quiet_symbol : Symbol → Bool
quiet_symbol (symbol.Class c) = true
quiet_symbol (symbol.Part n) = is_quiet n

abbrev pub quiet_row : List Symbol → Bool
quiet_row α = list_all quiet_symbol α

-- its rows hold such forms alone
quiet_rows : (n : Form) → is_quiet n ≡ true → list_all quiet_row (language n) ≡ true
unfolding words
quiet_rows forms.File h = absurd (false≢true h)
quiet_rows forms.Contents h = absurd (false≢true h)
quiet_rows forms.Items h = absurd (false≢true h)
quiet_rows forms.Item h = absurd (false≢true h)
quiet_rows forms.Func h = absurd (false≢true h)
quiet_rows forms.Operations h = absurd (false≢true h)
quiet_rows forms.Operation h = absurd (false≢true h)
quiet_rows forms.Return h = absurd (false≢true h)
quiet_rows forms.RightSide h = absurd (false≢true h)
quiet_rows forms.Reduce h = absurd (false≢true h)
quiet_rows forms.ReduceTail h = absurd (false≢true h)
quiet_rows forms.Generic h = absurd (false≢true h)
quiet_rows forms.Body h = absurd (false≢true h)
quiet_rows forms.BodyOperation h = absurd (false≢true h)
quiet_rows forms.GenericBody h = absurd (false≢true h)
quiet_rows forms.GenericOperation h = absurd (false≢true h)
quiet_rows forms.Yield h = absurd (false≢true h)
quiet_rows forms.BlockArguments h = absurd (false≢true h)
quiet_rows forms.MoreBlockArguments h = absurd (false≢true h)
quiet_rows forms.BlockArgument h = absurd (false≢true h)
quiet_rows forms.Combiner h = absurd (false≢true h)
quiet_rows _ h = refl

all_at : (rows : List (List Symbol)) (i : ℕ) (body : List Symbol) → list_all quiet_row rows ≡ true → slice_get rows i ≡ Some body
    → quiet_row body ≡ true
all_at [] i body h at = cc
all_at (row ∷ rows) zero body h at =
    subst (λ α. quiet_row α ≡ true) (same_Some row body at) (and_parts (quiet_row row) _ h).0
all_at (row ∷ rows) (suc i) body h at = all_at rows i body (and_parts (quiet_row row) _ h).1 at

pub quiet_body : (n : Form) (i : ℕ) (body : List Symbol) → is_quiet n ≡ true → slice_get (language n) i ≡ Some body
    → quiet_row body ≡ true
quiet_body n i body h at = all_at (language n) i body (quiet_rows n h) at

-- ## Where a reading stands

-- the names that regions define so far
abbrev pub owns : State → List Mention
owns σ = filter (λ m. is_own m.role) σ.before

-- no name so far is of the region of this operation
abbrev pub NotOf : ℕ → Owned → Type 0
NotOf o x = x.region ≡ Some o → ⊥

pub record Same (σ τ : State) : Type 0 where
  pub func : τ.scope.func ≡ σ.scope.func
  pub op : τ.scope.op ≡ σ.scope.op
  pub in_region : τ.scope.in_region ≡ σ.scope.in_region
  pub step : τ.scope.step ≡ σ.scope.step
  pub own : owns τ ≡ owns σ
  pub fresh : (o : ℕ) → σ.scope.in_region ≡ false → AllByRecursion (NotOf o) (named_before σ)
      → AllByRecursion (NotOf o) (named_before τ)
  pub calm : is_calm τ.scope.opened ≡ true

pub same_then : (σ τ υ : State) → Same σ τ → Same τ υ → Same σ υ
same_then σ τ υ a b = record {
  func = b.func ∙ a.func;
  op = b.op ∙ a.op;
  in_region = b.in_region ∙ a.in_region;
  step = b.step ∙ a.step;
  own = b.own ∙ a.own;
  fresh = λ o out h. b.fresh o (a.in_region ∙ out) (a.fresh o out h);
  calm = b.calm;
}

pub behind_func : (kind : TokenKind) (s : Scope) → (behind kind s).func ≡ s.func
behind_func kind.At s = refl
behind_func _ s = refl

pub behind_op : (kind : TokenKind) (s : Scope) → (behind kind s).op ≡ s.op
behind_op kind.At s = refl
behind_op _ s = refl

pub behind_region : (kind : TokenKind) (s : Scope) → (behind kind s).in_region ≡ s.in_region
behind_region kind.At s = refl
behind_region _ s = refl

pub behind_step : (kind : TokenKind) (s : Scope) → (behind kind s).step ≡ s.step
behind_step kind.At s = refl
behind_step _ s = refl

pub behind_opened : (kind : TokenKind) (s : Scope) → is_calm (behind kind s).opened ≡ true
behind_opened kind.At s = refl
behind_opened _ s = refl

-- a role that defines no name of a region
abbrev pub is_calm_role : Role → Bool
is_calm_role role.Own = false
is_calm_role role.Combiner = false
is_calm_role _ = true

item_role : (r : Role) → is_of_item r ≡ true → is_calm_role r ≡ true
item_role role.Nothing h = refl
item_role role.Value h = refl
item_role role.Own h = h
item_role role.Combiner h = h
item_role role.Word h = refl
item_role role.NewAlias h = refl
item_role role.Alias h = refl
item_role role.DeviceName h = refl
item_role role.FuncName h = refl

kind_role : (kind : TokenKind) (s : Scope) → is_of_item s.at ≡ true → is_calm_role (role_by_kind kind s) ≡ true
kind_role kind.Val s h = refl
kind_role kind.At s h = item_role s.at h
kind_role _ s h = refl

hash_role : (b : Bool) → is_calm_role (cond b role.NewAlias role.Alias) ≡ true
hash_role true = refl
hash_role false = refl

calm_role : (opened : Option Form) (kind : TokenKind) (s : Scope) → is_calm opened ≡ true → is_of_item s.at ≡ true
    → is_calm_role (role_in opened kind s) ≡ true
calm_role None kind s c h = kind_role kind s h
calm_role (Some forms.BlockArgument) kind s c h = absurd (false≢true c)
calm_role (Some forms.BodyOperation) kind s c h = absurd (false≢true c)
calm_role (Some forms.GenericOperation) kind s c h = absurd (false≢true c)
calm_role (Some forms.Combiner) kind s c h = absurd (false≢true c)
calm_role (Some forms.Name) kind s c h = refl
calm_role (Some forms.Hash) kind s c h = hash_role s.in_head
calm_role (Some _) kind s c h = kind_role kind s h

not_own : (r : Role) → is_calm_role r ≡ true → is_own r ≡ false
not_own role.Own h = absurd (false≢true h)
not_own _ h = refl

-- outside of regions a token names none of a region
no_region : (before : List Mention) (m : Mention) → m.scope.in_region ≡ false → region_of_use before m ≡ None
no_region before m out = ap (λ b. cond (b && list_any (defines_for m) before) (Some m.scope.op) None) out

role_not_of : (r : Role) (o : ℕ) (before : List Mention) (m : Mention) → is_calm_role r ≡ true → m.scope.in_region ≡ false
    → AllByRecursion (NotOf o) (names_by_role r before m)
role_not_of role.Nothing o before m h out = tt
role_not_of role.Value o before m h out = (λ e. let none : None ≡ Some o = sym (no_region before m out) ∙ e in cc, tt)
role_not_of role.Own o before m h out = absurd (false≢true h)
role_not_of role.Combiner o before m h out = absurd (false≢true h)
role_not_of role.Word o before m h out = (λ e. cc, tt)
role_not_of role.NewAlias o before m h out = tt
role_not_of role.Alias o before m h out = tt
role_not_of role.DeviceName o before m h out = tt
role_not_of role.FuncName o before m h out = tt

-- behind a token
pub same_step : (t : Lexeme) (σ : State) → Below σ → is_calm σ.scope.opened ≡ true → Same σ (step t σ)
same_step t σ below calm =
    let m : Mention = mention_of σ.scope t in
    let role_calm : is_calm_role m.role ≡ true = calm_role σ.scope.opened t.kind σ.scope calm below.scope.at in
    record {
      func = behind_func t.kind σ.scope;
      op = behind_op t.kind σ.scope;
      in_region = behind_region t.kind σ.scope;
      step = behind_step t.kind σ.scope;
      own = filter-append (λ m. is_own m.role) σ.before (m ∷ [])
          ∙ ap (λ b. owns σ ++ cond b (m ∷ []) []) (not_own m.role role_calm) ∙ append-nil (owns σ);
      fresh = λ o out h. subst (AllByRecursion (NotOf o)) (sym (named_step [] [] σ t))
          (each_append (NotOf o) (named_before σ) _ h (role_not_of m.role o σ.before m role_calm out));
      calm = behind_opened t.kind σ.scope;
    }

-- where such a form begins
pub enter_same : (n : Form) (σ : State) → is_quiet n ≡ true → Same σ (enter n σ)
enter_same forms.File σ h = absurd (false≢true h)
enter_same forms.Contents σ h = absurd (false≢true h)
enter_same forms.Items σ h = absurd (false≢true h)
enter_same forms.Item σ h = absurd (false≢true h)
enter_same forms.Func σ h = absurd (false≢true h)
enter_same forms.Operations σ h = absurd (false≢true h)
enter_same forms.Operation σ h = absurd (false≢true h)
enter_same forms.Return σ h = absurd (false≢true h)
enter_same forms.RightSide σ h = absurd (false≢true h)
enter_same forms.Reduce σ h = absurd (false≢true h)
enter_same forms.ReduceTail σ h = absurd (false≢true h)
enter_same forms.Generic σ h = absurd (false≢true h)
enter_same forms.Body σ h = absurd (false≢true h)
enter_same forms.BodyOperation σ h = absurd (false≢true h)
enter_same forms.GenericBody σ h = absurd (false≢true h)
enter_same forms.GenericOperation σ h = absurd (false≢true h)
enter_same forms.Yield σ h = absurd (false≢true h)
enter_same forms.BlockArguments σ h = absurd (false≢true h)
enter_same forms.MoreBlockArguments σ h = absurd (false≢true h)
enter_same forms.BlockArgument σ h = absurd (false≢true h)
enter_same forms.Combiner σ h = absurd (false≢true h)
enter_same _ σ h = record {
  func = refl;
  op = refl;
  in_region = refl;
  step = refl;
  own = refl;
  fresh = λ o out all. all;
  calm = refl;
}

pub same_self : (σ : State) → is_calm σ.scope.opened ≡ true → Same σ σ
same_self σ calm = record {
  func = refl;
  op = refl;
  in_region = refl;
  step = refl;
  own = refl;
  fresh = λ o out all. all;
  calm = calm;
}

pub quiet_past : (α : List Symbol) (f : Trees) (σ : State) → Spells language α f → quiet_row α ≡ true → Below σ
    → is_calm σ.scope.opened ≡ true → Same σ (past σ f)
quiet_past α f σ is_nothing q below calm = same_self σ calm
quiet_past α f σ (is_token {t = t} {behind = after} e spells) q below calm =
    let now : Same σ (step t σ) = same_step t σ below calm in
    same_then σ (step t σ) (past (step t σ) after) now (quiet_past _ after (step t σ) spells q (step_below t σ below) now.calm)
quiet_past α f σ (is_form {n = n} {i = i} {body = body} {below = under} {behind = after} e spells others) q below calm =
    let parts = and_parts (is_quiet n) _ q in
    let inner : Same σ (enter n σ) = enter_same n σ parts.0 in
    let b : Below (enter n σ) = enter_below n σ below in
    let through : Same (enter n σ) (past (enter n σ) under) = quiet_past body under (enter n σ) spells (quiet_body n i body parts.0 e) b inner.calm in
    let rest : Same (past (enter n σ) under) (past (past (enter n σ) under) after) =
    quiet_past _ after (past (enter n σ) under) others parts.1 (past_below under (enter n σ) b) through.calm in
    same_then σ (enter n σ) _ inner (same_then (enter n σ) (past (enter n σ) under) _ through rest)
