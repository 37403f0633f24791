-- Where items, functions and device items begin, and what their names do.
use Rattle.std.proofs.Common.{◌≡◌, ◌∙◌, ◌≤◌, ◌||◌, ℕ, Bool, true, false, List, [], reverse, refl, ap, arith}
use Rattle.sh_base.specs.declared.places.Place.{Place}
use Rattle.sh_grammar.specs.Lexemes.{Lexeme}
use Rattle.sh_grammar.specs.declared.forms.Form.TheVariants as forms
use Rattle.sh_lex.specs.declared.tokens.TokenKind.TheVariants as kind
use Rattle.sh_names.specs.Names.{Mention, fits_behind, is_own, keeps_rules, mention_of, same_text}
use Rattle.sh_names.specs.declared.scopes.Role.{Role}
use Rattle.sh_names.specs.declared.scopes.Role.TheVariants as role
use Rattle.sh_print_laws.specs.TokensOf.{lexeme}
use Rattle.sh_print_laws.proofs.Between.{outside_spot}
use Rattle.sh_print_laws.proofs.Standing.{Mentioned, Spot, Standing, behind_roles, defined_still, mentioned_by, owns}
use Rattle.sh_print_laws.proofs.Walks.{State, enter, start, step}

-- any function may follow
abbrev pub anyone : List ℕ → Bool
anyone name = true

-- where the next `@name` has this role
abbrev pub head_spot : (List ℕ → Bool) → Role → ℕ → ℕ → Spot
head_spot fit at unit op = record (outside_spot fit unit op) { at = at }

-- among items
abbrev pub AtItem : (List ℕ → Bool) → State → Type 0
AtItem fit σ = (unit : ℕ) × (op : ℕ) × Standing (outside_spot fit unit op) σ

pub at_start : Standing (outside_spot anyone 0 0) start
at_start = record {
  func = refl;
  op = refl;
  inside = refl;
  at = refl;
  roles = λ j. refl;
  mentioned = record { kept = refl; device = λ text. refl; all = λ text. refl; below = tt; op_now = (let e : 0 ≤ 0 = omega arith in e); step_now = (let e : 0 ≤ 0 = omega arith in e) };
  defined = λ text. refl;
}

module _ (fit : List ℕ → Bool) (unit op : ℕ) (σ : State) (h : Standing (outside_spot fit unit op) σ) where
  pub enters_func : Standing (head_spot fit role.FuncName σ.count op) (enter forms.Func σ)
  enters_func =
      let mentioned : Mentioned (head_spot fit role.FuncName σ.count op) (enter forms.Func σ) = record {
        kept = h.mentioned.kept;
        device = h.mentioned.device;
        all = h.mentioned.all;
        below = h.mentioned.below;
        op_now = h.mentioned.op_now;
        step_now = h.mentioned.step_now;
      } in
      record { func = refl; op = h.op; inside = h.inside; at = refl; roles = λ j. refl; mentioned = mentioned; defined = h.defined }

  pub enters_device : Standing (head_spot fit role.DeviceName unit op) (enter forms.Device σ)
  enters_device =
      let mentioned : Mentioned (head_spot fit role.DeviceName unit op) (enter forms.Device σ) = record {
        kept = h.mentioned.kept;
        device = h.mentioned.device;
        all = h.mentioned.all;
        below = h.mentioned.below;
        op_now = h.mentioned.op_now;
        step_now = h.mentioned.step_now;
      } in
      record { func = h.func; op = h.op; inside = h.inside; at = refl; roles = λ j. refl; mentioned = mentioned; defined = h.defined }

  pub enters_contents : Standing (outside_spot fit unit op) (enter forms.Contents σ)
  enters_contents =
      let mentioned : Mentioned (outside_spot fit unit op) (enter forms.Contents σ) = record {
        kept = h.mentioned.kept;
        device = h.mentioned.device;
        all = h.mentioned.all;
        below = h.mentioned.below;
        op_now = h.mentioned.op_now;
        step_now = h.mentioned.step_now;
      } in
      record { func = h.func; op = h.op; inside = h.inside; at = h.at; roles = λ j. refl; mentioned = mentioned; defined = h.defined }

-- behind the name of a function, or of a device item
named_behind : (fit after : List ℕ → Bool) (at : Role) (unit op : ℕ) (text : List ℕ) (σ : State) (p : Place) → is_own at ≡ false
    → keeps_rules at text (reverse σ.before) ≡ true → ((other : List ℕ) → fits_behind at text other (fit other) ≡ after other)
    → Standing (head_spot fit at unit op) σ → Standing (outside_spot after unit op) (step (lexeme kind.At text p) σ)
named_behind fit after at unit op text σ p other keeps fits h =
    let t : Lexeme = lexeme kind.At text p in
    let m : Mention = mention_of σ.scope t in
    let is_role : m.role ≡ at = h.roles kind.At ∙ h.at in
    let not_own : is_own m.role ≡ false = ap is_own is_role ∙ other in
    let none_owned = λ (x : List ℕ). (let e : owns op x m ≡ false = rw not_own refl in e) in
    record {
      func = h.func;
      op = h.op;
      inside = h.inside;
      at = refl;
      roles = λ j. behind_roles kind.At σ.scope j;
      mentioned = mentioned_by (head_spot fit at unit op) (outside_spot after unit op) σ t h.mentioned
          (ap (λ r. keeps_rules r text (reverse σ.before)) is_role ∙ keeps)
          (λ x. ap (λ r. fits_behind r text x (fit x)) is_role ∙ fits x)
          (λ x. ap (λ b. false || b) (none_owned x)) refl;
      defined = defined_still σ t [] h.defined;
    }

pub func_named : (fit : List ℕ → Bool) (unit op : ℕ) (text : List ℕ) (σ : State) (p : Place) → fit text ≡ true
    → Standing (head_spot fit role.FuncName unit op) σ → Standing (outside_spot anyone unit op) (step (lexeme kind.At text p) σ)
func_named fit unit op text σ p fits h = named_behind fit anyone role.FuncName unit op text σ p refl (h.mentioned.device text ∙ fits) (λ other. refl) h

pub device_named : (fit : List ℕ → Bool) (unit op : ℕ) (text : List ℕ) (σ : State) (p : Place)
    → Standing (head_spot fit role.DeviceName unit op) σ → Standing (outside_spot (same_text text) unit op) (step (lexeme kind.At text p) σ)
device_named fit unit op text σ p h = named_behind fit (same_text text) role.DeviceName unit op text σ p refl refl (λ other. refl) h
