-- Where a reading of a printed module stands, and what names mean there.
use Rattle.std.proofs.Common.{◌≡◌, ◌∙◌, ◌⊎◌, inl, inr, append_assoc, ◌<◌, ◌≤◌, ℕ, suc, Bool, true, false, not, ◌&&◌, ◌||◌, nat_eq, List, [], ◌∷◌, ◌++◌, reverse, Option, Some, None, refl, ap, sym, subst, arith, if◌then◌else◌}
use Rattle.std.specs.List.{AllByRecursion, list_any}
use Rattle.std.proofs.Math.Bool.{or-false}
use Rattle.std.proofs.lemmas.Bool.{and_from, eq-eqb}
use Rattle.std.proofs.lemmas.Grind.{reverse_onto}
use Rattle.std.proofs.lemmas.List.{append-nil, reverse-append}
use Rattle.std.proofs.lemmas.List.Folds.{list_any-append}
use Rattle.sh_base.specs.declared.places.Place.{Place}
use Rattle.sh_grammar.specs.Lexemes.{Lexeme}
use Rattle.sh_grammar.specs.declared.forms.Form.{Form}
use Rattle.sh_grammar.specs.declared.forms.Form.TheVariants as forms
use Rattle.sh_lex.specs.declared.tokens.TokenKind.{TokenKind}
use Rattle.sh_lex.specs.declared.tokens.TokenKind.TheVariants as kind
use Rattle.sh_names.specs.Names.{Mention, Owned, all_keep, behind, defines_for, fits_behind, fits_device, inside, is_own, keeps_rules, mention_of, names_by_role, region_of_use, role_by_kind, role_in, same_text}
use Rattle.sh_names.specs.declared.scopes.Role.{Role}
use Rattle.sh_names.specs.declared.scopes.Role.TheVariants as role
use Rattle.sh_names.specs.declared.scopes.Scope.{Scope}
use Rattle.sh_print_laws.specs.TokensOf.{lexeme}
use Rattle.sh_print_laws.proofs.Rows.{Naming, is_plain}
use Rattle.sh_print_laws.proofs.Walks.{State, enter, step}

-- ## Numbers by owned names

abbrev pub first_by : (Owned → ℕ) → List Owned → ℕ
first_by v [] = 0
first_by v (x ∷ xs) = v x

-- the names of a token
abbrev pub names_at : State → Lexeme → List Owned
names_at σ t = let m = mention_of σ.scope t in names_by_role m.role σ.before m

abbrev pub num_by : (Owned → ℕ) → State → Lexeme → ℕ
num_by v σ t = first_by v (names_at σ t)

abbrev pub owned : ℕ → Option ℕ → List ℕ → Owned
owned unit region text = record { unit = unit; region = region; text = text }

-- ## What is known

abbrev pub among : List (List ℕ) → List ℕ → Bool
among texts text = list_any (λ x. same_text x text) texts

-- the mention defines this name of the region of this operation
abbrev pub owns : ℕ → List ℕ → Mention → Bool
owns op text m = is_own m.role && nat_eq m.scope.op op && same_text m.text text

-- and so by another step than this
abbrev pub defines_by : ℕ → ℕ → List ℕ → Mention → Bool
defines_by op step text m = is_own m.role && nat_eq m.scope.op op && not (nat_eq m.scope.step step) && same_text m.text text

-- Where a reading stands.
pub record Spot : Type 0 where
  pub fit : List ℕ → Bool  -- which functions may follow, by the device item before
  pub at : Role  -- what the next `@name` is
  pub func : ℕ
  pub op : ℕ
  pub inside : Bool  -- in the region of the operation
  pub defined : List (List ℕ)  -- the names that the region defined before this step
  pub all : List (List ℕ)  -- with that of this step

abbrev pub IsBelow : ℕ → Mention → Type 0
IsBelow k m = (m.scope.op < k) × (m.scope.step < k)

-- What is mentioned so far.
pub record Mentioned (s : Spot) (σ : State) : Type 0 where
  pub kept : all_keep [] σ.before ≡ true
  pub device : (text : List ℕ) → fits_device text (reverse σ.before) ≡ s.fit text
  pub all : (text : List ℕ) → list_any (owns s.op text) σ.before ≡ among s.all text
  pub below : AllByRecursion (IsBelow σ.count) σ.before
  pub op_now : σ.scope.op ≤ σ.count
  pub step_now : σ.scope.step ≤ σ.count

pub record Standing (s : Spot) (σ : State) : Type 0 where
  pub func : σ.scope.func ≡ s.func
  pub op : σ.scope.op ≡ s.op
  pub inside : σ.scope.in_region ≡ s.inside
  pub at : σ.scope.at ≡ s.at
  pub roles : (k : TokenKind) → role_in σ.scope.opened k σ.scope ≡ role_by_kind k σ.scope
  pub mentioned : Mentioned s σ
  pub defined : (text : List ℕ) → list_any (defines_by σ.scope.op σ.scope.step text) σ.before ≡ among s.defined text

-- ## Behind a token

pub behind_func : (k : TokenKind) (s : Scope) → (behind k s).func ≡ s.func
behind_func kind.At s = refl
behind_func _ s = refl

pub behind_op : (k : TokenKind) (s : Scope) → (behind k s).op ≡ s.op
behind_op kind.At s = refl
behind_op _ s = refl

pub behind_region : (k : TokenKind) (s : Scope) → (behind k s).in_region ≡ s.in_region
behind_region kind.At s = refl
behind_region _ s = refl

pub behind_step : (k : TokenKind) (s : Scope) → (behind k s).step ≡ s.step
behind_step kind.At s = refl
behind_step _ s = refl

pub behind_roles : (k : TokenKind) (s : Scope) (j : TokenKind) → role_in (behind k s).opened j (behind k s) ≡ role_by_kind j (behind k s)
behind_roles kind.At s j = refl
behind_roles _ s j = refl

-- what the next `@name` is behind a token
abbrev pub at_behind : TokenKind → Role → Role
at_behind kind.At a = role.Nothing
at_behind _ a = a

pub behind_at : (k : TokenKind) (s : Scope) → (behind k s).at ≡ at_behind k s.at
behind_at kind.At s = refl
behind_at _ s = refl

-- a role that keeps the rules and changes nothing
abbrev pub is_calm : Role → Bool
is_calm role.Nothing = true
is_calm role.Value = true
is_calm role.Own = true
is_calm role.Combiner = false
is_calm role.Word = true
is_calm role.NewAlias = false
is_calm role.Alias = false
is_calm role.DeviceName = false
is_calm role.FuncName = false

calm_keeps : (r : Role) (text : List ℕ) (before : List Mention) → is_calm r ≡ true → keeps_rules r text before ≡ true
calm_keeps role.Nothing text before h = refl
calm_keeps role.Value text before h = refl
calm_keeps role.Own text before h = refl
calm_keeps role.Combiner text before h = absurd (let e : false ≡ true = h in cc)
calm_keeps role.Word text before h = refl
calm_keeps role.NewAlias text before h = absurd (let e : false ≡ true = h in cc)
calm_keeps role.Alias text before h = absurd (let e : false ≡ true = h in cc)
calm_keeps role.DeviceName text before h = absurd (let e : false ≡ true = h in cc)
calm_keeps role.FuncName text before h = absurd (let e : false ≡ true = h in cc)

calm_fits : (r : Role) (device text : List ℕ) (before : Bool) → is_calm r ≡ true → fits_behind r device text before ≡ before
calm_fits role.Nothing device text before h = refl
calm_fits role.Value device text before h = refl
calm_fits role.Own device text before h = refl
calm_fits role.Combiner device text before h = absurd (let e : false ≡ true = h in cc)
calm_fits role.Word device text before h = refl
calm_fits role.NewAlias device text before h = absurd (let e : false ≡ true = h in cc)
calm_fits role.Alias device text before h = absurd (let e : false ≡ true = h in cc)
calm_fits role.DeviceName device text before h = absurd (let e : false ≡ true = h in cc)
calm_fits role.FuncName device text before h = absurd (let e : false ≡ true = h in cc)

keep_more : (b ms : List Mention) (m : Mention) → all_keep b (ms ++ m ∷ []) ≡ (all_keep b ms && keeps_rules m.role m.text (reverse ms ++ b))
keep_more b [] m = and_true (keeps_rules m.role m.text b)
  where
    and_true : (x : Bool) → (x && true) ≡ (true && x)
    and_true true = refl
    and_true false = refl
keep_more b (x ∷ ms) m =
    ap (λ t. keeps_rules x.role x.text b && t) (keep_more (x ∷ b) ms m)
    ∙ and_assoc (keeps_rules x.role x.text b) (all_keep (x ∷ b) ms) (keeps_rules m.role m.text (reverse ms ++ (x ∷ b)))
    ∙ ap (λ bs. (keeps_rules x.role x.text b && all_keep (x ∷ b) ms) && keeps_rules m.role m.text bs) (sym (turned ms x b))
  where
    and_assoc : (x y z : Bool) → (x && (y && z)) ≡ ((x && y) && z)
    and_assoc true y z = refl
    and_assoc false y z = refl

    turned : (ms : List Mention) (x : Mention) (b : List Mention) → reverse (x ∷ ms) ++ b ≡ reverse ms ++ (x ∷ b)
    turned ms x b = ap (λ bs. bs ++ b) (reverse_onto ms x []) ∙ append_assoc (reverse ms) (x ∷ []) b

last_first : (ms : List Mention) (m : Mention) → reverse (ms ++ m ∷ []) ≡ m ∷ reverse ms
last_first ms m = reverse-append ms (m ∷ [])

below_more : (k : ℕ) (ms : List Mention) → AllByRecursion (IsBelow k) ms → AllByRecursion (IsBelow (suc k)) ms
below_more k [] h = tt
below_more k (m ∷ ms) h = let a = h.0.0 in let b = h.0.1 in ((omega arith, omega arith), below_more k ms h.1)

below_last : (k : ℕ) (ms : List Mention) (m : Mention) → AllByRecursion (IsBelow k) ms → IsBelow k m → AllByRecursion (IsBelow k) (ms ++ m ∷ [])
below_last k [] m h g = (g, tt)
below_last k (x ∷ ms) m h g = (h.0, below_last k ms m h.1 g)

-- a mention of another role, behind which others may follow
pub mentioned_by : (s u : Spot) (σ : State) (t : Lexeme) → Mentioned s σ
    → keeps_rules (mention_of σ.scope t).role t.text (reverse σ.before) ≡ true
    → ((text : List ℕ) → fits_behind (mention_of σ.scope t).role t.text text (s.fit text) ≡ u.fit text)
    → ((text : List ℕ) → (among s.all text || owns s.op text (mention_of σ.scope t)) ≡ among u.all text)
    → u.op ≡ s.op → Mentioned u (step t σ)
mentioned_by s u σ t h keeps fits all op =
    let m : Mention = mention_of σ.scope t in
    let a = h.op_now in
    let b = h.step_now in
    record {
      kept = keep_more [] σ.before m ∙ and_from (all_keep [] σ.before) _ h.kept (ap (keeps_rules m.role m.text) (append-nil (reverse σ.before)) ∙ keeps);
      device = λ text. ap (fits_device text) (last_first σ.before m) ∙ ap (fits_behind m.role m.text text) (h.device text) ∙ fits text;
      all = λ text. ap (λ o. list_any (owns o text) (σ.before ++ m ∷ [])) op
          ∙ list_any-append (owns s.op text) σ.before (m ∷ [])
          ∙ ap (λ b. b || list_any (owns s.op text) (m ∷ [])) (h.all text)
          ∙ ap (λ b. among s.all text || b) (or-false (owns s.op text m))
          ∙ all text;
      below = below_last (suc σ.count) σ.before m (below_more σ.count σ.before h.below) (omega arith, omega arith);
      op_now = subst (λ k. k ≤ suc σ.count) (sym (behind_op t.kind σ.scope)) (omega arith);
      step_now = subst (λ k. k ≤ suc σ.count) (sym (behind_step t.kind σ.scope)) (omega arith);
    }

not_defining : (op step : ℕ) (text : List ℕ) (m : Mention) → (is_own m.role ≡ false) ⊎ (m.scope.step ≡ step) → defines_by op step text m ≡ false
not_defining op step text m (inl none) = rw none refl
not_defining op step text m (inr same) =
    ap (λ b. is_own m.role && nat_eq m.scope.op op && not b && same_text m.text text) (eq-eqb m.scope.step step same)
    ∙ falses (is_own m.role) (nat_eq m.scope.op op) (same_text m.text text)
  where
    falses : (a b c : Bool) → (a && b && false && c) ≡ false
    falses true true c = refl
    falses true false c = refl
    falses false b c = refl

-- what a region had defined is defined still
pub defined_still : (σ : State) (t : Lexeme) (defined : List (List ℕ))
    → ((text : List ℕ) → list_any (defines_by σ.scope.op σ.scope.step text) σ.before ≡ among defined text)
    → (text : List ℕ) → list_any (defines_by (step t σ).scope.op (step t σ).scope.step text) (step t σ).before ≡ among defined text
defined_still σ t defined h text =
    let m : Mention = mention_of σ.scope t in
    ap (λ o. list_any (defines_by o (behind t.kind σ.scope).step text) (σ.before ++ m ∷ [])) (behind_op t.kind σ.scope)
    ∙ ap (λ p. list_any (defines_by σ.scope.op p text) (σ.before ++ m ∷ [])) (behind_step t.kind σ.scope)
    ∙ list_any-append (defines_by σ.scope.op σ.scope.step text) σ.before (m ∷ [])
    ∙ ap (λ b. b || list_any (defines_by σ.scope.op σ.scope.step text) (m ∷ [])) (h text)
    ∙ ap (λ b. among defined text || (b || false)) (not_defining σ.scope.op σ.scope.step text m (inr refl))
    ∙ or-false (among defined text)

-- What is known of a state but what its tokens say.
pub record Placed (s : Spot) (σ : State) : Type 0 where
  pub func : σ.scope.func ≡ s.func
  pub op : σ.scope.op ≡ s.op
  pub inside : σ.scope.in_region ≡ s.inside
  pub at : σ.scope.at ≡ s.at
  pub mentioned : Mentioned s σ
  pub defined : (text : List ℕ) → list_any (defines_by σ.scope.op σ.scope.step text) σ.before ≡ among s.defined text

abbrev pub placed : (s : Spot) (σ : State) → Standing s σ → Placed s σ
placed s σ h = record { func = h.func; op = h.op; inside = h.inside; at = h.at; mentioned = h.mentioned; defined = h.defined }

-- a calm token that defines no name of a region
pub stands_behind : (s : Spot) (a : Role) (σ : State) (t : Lexeme) → is_calm (mention_of σ.scope t).role ≡ true → is_own (mention_of σ.scope t).role ≡ false
    → at_behind t.kind s.at ≡ a → Placed s σ → Standing (record s { at = a }) (step t σ)
stands_behind s a σ t calm other at h =
    let m : Mention = mention_of σ.scope t in
    let not_owned = λ (text : List ℕ). (let e : owns s.op text m ≡ false = rw other refl in e) in
    record {
      func = behind_func t.kind σ.scope ∙ h.func;
      op = behind_op t.kind σ.scope ∙ h.op;
      inside = behind_region t.kind σ.scope ∙ h.inside;
      at = behind_at t.kind σ.scope ∙ ap (at_behind t.kind) h.at ∙ at;
      roles = behind_roles t.kind σ.scope;
      mentioned = mentioned_by s (record s { at = a }) σ t h.mentioned (calm_keeps m.role t.text (reverse σ.before) calm)
          (λ text. calm_fits m.role t.text text (s.fit text) calm)
          (λ text. ap (λ b. among s.all text || b) (not_owned text) ∙ or-false (among s.all text)) refl;
      defined = defined_still σ t s.defined h.defined;
    }

pub stands_on : (s : Spot) (a : Role) (σ : State) (t : Lexeme) → is_calm (mention_of σ.scope t).role ≡ true → is_own (mention_of σ.scope t).role ≡ false
    → at_behind t.kind s.at ≡ a → Standing s σ → Standing (record s { at = a }) (step t σ)
stands_on s a σ t calm other at h = stands_behind s a σ t calm other at (placed s σ h)

nothing_behind : (k : TokenKind) → at_behind k role.Nothing ≡ role.Nothing
nothing_behind kind.At = refl
nothing_behind _ = refl

kind_calm : (k : TokenKind) (s : Scope) → s.at ≡ role.Nothing → is_calm (role_by_kind k s) ≡ true
kind_calm kind.Val s h = refl
kind_calm kind.At s h = ap is_calm h
kind_calm _ s h = refl

kind_other : (k : TokenKind) (s : Scope) → s.at ≡ role.Nothing → is_own (role_by_kind k s) ≡ false
kind_other kind.Val s h = refl
kind_other kind.At s h = ap is_own h
kind_other _ s h = refl

pub steps_on : (s : Spot) → s.at ≡ role.Nothing → (t : Lexeme) (σ : State) → Standing s σ → Standing s (step t σ)
steps_on s none t σ h =
    stands_on s s.at σ t (ap is_calm (h.roles t.kind) ∙ kind_calm t.kind σ.scope (h.at ∙ none)) (ap is_own (h.roles t.kind) ∙ kind_other t.kind σ.scope (h.at ∙ none))
    (ap (at_behind t.kind) none ∙ nothing_behind t.kind ∙ sym none) h

-- a token that is no `@name`, whatever that would be
pub steps_past : (s : Spot) (t : Lexeme) (σ : State) → (role_by_kind t.kind σ.scope ≡ role.Nothing) → at_behind t.kind s.at ≡ s.at → Standing s σ → Standing s (step t σ)
steps_past s t σ quiet same h =
    stands_on s s.at σ t (ap is_calm (h.roles t.kind ∙ quiet)) (ap is_own (h.roles t.kind ∙ quiet)) same h

-- ## Where a form begins

pub plain_inside : (k : ℕ) (n : Form) (s : Scope) → is_plain n ≡ true → inside k n s ≡ s
plain_inside k forms.Contents s h = absurd (let e : false ≡ true = h in cc)
plain_inside k forms.Device s h = absurd (let e : false ≡ true = h in cc)
plain_inside k forms.Func s h = absurd (let e : false ≡ true = h in cc)
plain_inside k forms.Operation s h = absurd (let e : false ≡ true = h in cc)
plain_inside k forms.Return s h = absurd (let e : false ≡ true = h in cc)
plain_inside k forms.Map s h = absurd (let e : false ≡ true = h in cc)
plain_inside k forms.Name s h = absurd (let e : false ≡ true = h in cc)
plain_inside k forms.Hash s h = absurd (let e : false ≡ true = h in cc)
plain_inside k forms.Combiner s h = absurd (let e : false ≡ true = h in cc)
plain_inside k forms.BodyOperation s h = absurd (let e : false ≡ true = h in cc)
plain_inside k forms.GenericOperation s h = absurd (let e : false ≡ true = h in cc)
plain_inside k forms.BlockArgument s h = absurd (let e : false ≡ true = h in cc)
plain_inside k forms.Yield s h = absurd (let e : false ≡ true = h in cc)
plain_inside k _ s h = refl

plain_roles : (n : Form) (j : TokenKind) (s : Scope) → is_plain n ≡ true → role_in (Some n) j s ≡ role_by_kind j s
plain_roles forms.Contents j s h = refl
plain_roles forms.Device j s h = refl
plain_roles forms.Func j s h = refl
plain_roles forms.Operation j s h = refl
plain_roles forms.Return j s h = refl
plain_roles forms.Map j s h = refl
plain_roles forms.Yield j s h = refl
plain_roles forms.Name j s h = absurd (let e : false ≡ true = h in cc)
plain_roles forms.Hash j s h = absurd (let e : false ≡ true = h in cc)
plain_roles forms.Combiner j s h = absurd (let e : false ≡ true = h in cc)
plain_roles forms.BodyOperation j s h = absurd (let e : false ≡ true = h in cc)
plain_roles forms.GenericOperation j s h = absurd (let e : false ≡ true = h in cc)
plain_roles forms.BlockArgument j s h = absurd (let e : false ≡ true = h in cc)
plain_roles _ j s h = refl

pub enters_plain : (s : Spot) (n : Form) (σ : State) → is_plain n ≡ true → Standing s σ → Standing s (enter n σ)
enters_plain s n σ plain h =
    let same : inside σ.count n σ.scope ≡ σ.scope = plain_inside σ.count n σ.scope plain in
    record {
      func = ap (λ x. x.func) same ∙ h.func;
      op = ap (λ x. x.op) same ∙ h.op;
      inside = ap (λ x. x.in_region) same ∙ h.inside;
      at = ap (λ x. x.at) same ∙ h.at;
      roles = λ j. plain_roles n j (record (inside σ.count n σ.scope) { opened = Some n }) plain;
      mentioned = record {
        kept = h.mentioned.kept;
        device = h.mentioned.device;
        all = h.mentioned.all;
        below = h.mentioned.below;
        op_now = subst (λ x. x.op ≤ σ.count) (sym same) h.mentioned.op_now;
        step_now = subst (λ x. x.step ≤ σ.count) (sym same) h.mentioned.step_now;
      };
      defined = subst (λ (x : Scope). (text : List ℕ) → list_any (defines_by x.op x.step text) σ.before ≡ among s.defined text) (sym same) h.defined;
    }

-- ## What names mean

abbrev pub region_at : Spot → List ℕ → Option ℕ
region_at s text = if s.inside && among s.defined text then Some s.op else None

abbrev pub name_of : Spot → List ℕ → Owned
name_of s text = owned s.func (region_at s text) text

pub name_used : (v : Owned → ℕ) (s : Spot) (text : List ℕ) (place : Place) (σ : State) → Standing s σ → num_by v σ (lexeme kind.Val text place) ≡ v (name_of s text)
name_used v s text place σ h =
    let m : Mention = mention_of σ.scope (lexeme kind.Val text place) in
    ap (λ r. first_by v (names_by_role r σ.before m)) (h.roles kind.Val)
    ∙ ap (λ u. v (owned u (region_of_use σ.before m) text)) h.func
    ∙ ap (λ b. v (owned s.func (if b && list_any (defines_for m) σ.before then Some σ.scope.op else None) text)) h.inside
    ∙ ap (λ b. v (owned s.func (if s.inside && b then Some σ.scope.op else None) text)) (h.defined text)
    ∙ ap (λ o. v (owned s.func (if s.inside && among s.defined text then Some o else None) text)) h.op

abbrev pub naming : (v : Owned → ℕ) (s : Spot) → s.at ≡ role.Nothing → Naming (num_by v)
naming v s none = record {
  Holds = Standing s;
  number = λ text. v (name_of s text);
  enters = enters_plain s;
  steps = λ t σ h. steps_on s none t σ h;
  named = λ text place σ h. name_used v s text place σ h;
}
