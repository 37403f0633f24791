-- Where operations begin and end.
use Rattle.std.proofs.Common.{◌≡◌, ◌∙◌, ◌<◌, ◌≤◌, ◌&&◌, ◌||◌, ℕ, Bool, true, false, not, nat_eq, List, [], ◌∷◌, refl, ap, arith}
use Rattle.std.specs.List.{AllByRecursion, list_any}
use Rattle.std.proofs.lemmas.Bool.{eqb-true}
use Rattle.sh_grammar.specs.declared.forms.Form.TheVariants as forms
use Rattle.sh_names.specs.Names.{Mention, is_own, same_text}
use Rattle.sh_names.specs.declared.scopes.Role.TheVariants as role
use Rattle.sh_print_laws.proofs.Standing.{IsBelow, Mentioned, Spot, Standing, defines_by, owns}
use Rattle.sh_print_laws.proofs.Walks.{State, enter}

-- Between two operations of a function.
pub record Between (fit : List ℕ → Bool) (unit : ℕ) (σ : State) : Type 0 where
  pub spot : Spot
  pub stands : Standing spot σ
  pub of_fit : spot.fit ≡ fit
  pub of_at : spot.at ≡ role.Nothing
  pub of_func : spot.func ≡ unit

-- outside of the operation's region
abbrev pub outside_spot : (List ℕ → Bool) → ℕ → ℕ → Spot
outside_spot fit unit op = record { fit = fit; at = role.Nothing; func = unit; op = op; inside = false; defined = []; all = [] }

other_op : (a b : ℕ) → a < b → nat_eq a b ≡ false
other_op a b less = by (nat_eq a b) refl
  where
    by : (t : Bool) → nat_eq a b ≡ t → t ≡ false
    by false e = refl
    by true e = absurd (let same : a ≡ b = eqb-true a b e in omega arith)

none_owned : (k : ℕ) (text : List ℕ) (ms : List Mention) → AllByRecursion (IsBelow k) ms → list_any (owns k text) ms ≡ false
none_owned k text [] h = refl
none_owned k text (m ∷ ms) h =
    ap (λ b. (is_own m.role && b && same_text m.text text) || list_any (owns k text) ms) (other_op m.scope.op k h.0.0)
    ∙ ap (λ b. b || list_any (owns k text) ms) (falses (is_own m.role) (same_text m.text text)) ∙ none_owned k text ms h.1
  where
    falses : (a b : Bool) → (a && false && b) ≡ false
    falses true b = refl
    falses false b = refl

none_defined : (k step : ℕ) (text : List ℕ) (ms : List Mention) → AllByRecursion (IsBelow k) ms → list_any (defines_by k step text) ms ≡ false
none_defined k step text [] h = refl
none_defined k step text (m ∷ ms) h =
    ap (λ b. (is_own m.role && b && not (nat_eq m.scope.step step) && same_text m.text text) || list_any (defines_by k step text) ms) (other_op m.scope.op k h.0.0)
    ∙ ap (λ b. b || list_any (defines_by k step text) ms) (falses (is_own m.role) (not (nat_eq m.scope.step step)) (same_text m.text text)) ∙ none_defined k step text ms h.1
  where
    falses : (a b c : Bool) → (a && false && b && c) ≡ false
    falses true b c = refl
    falses false b c = refl

module _ (fit : List ℕ → Bool) (unit : ℕ) (σ : State) (h : Between fit unit σ) where
  fresh : (now : σ.count ≤ σ.count) → Mentioned (outside_spot fit unit σ.count) (enter forms.Operation σ)
  fresh now = record {
    kept = h.stands.mentioned.kept;
    device = λ text. h.stands.mentioned.device text ∙ ap (λ f. f text) h.of_fit;
    all = λ text. none_owned σ.count text σ.before h.stands.mentioned.below;
    below = h.stands.mentioned.below;
    op_now = now;
    step_now = now;
  }

  pub enters_operation : Standing (outside_spot fit unit σ.count) (enter forms.Operation σ)
  enters_operation = record {
    func = h.stands.func ∙ h.of_func;
    op = refl;
    inside = refl;
    at = h.stands.at ∙ h.of_at;
    roles = λ j. refl;
    mentioned = fresh (omega arith);
    defined = λ text. none_defined σ.count σ.count text σ.before h.stands.mentioned.below;
  }

  fresh_return : (now : σ.count ≤ σ.count) → Mentioned (outside_spot fit unit σ.count) (enter forms.Return σ)
  fresh_return now = record {
    kept = h.stands.mentioned.kept;
    device = λ text. h.stands.mentioned.device text ∙ ap (λ f. f text) h.of_fit;
    all = λ text. none_owned σ.count text σ.before h.stands.mentioned.below;
    below = h.stands.mentioned.below;
    op_now = now;
    step_now = now;
  }

  pub enters_return : Standing (outside_spot fit unit σ.count) (enter forms.Return σ)
  enters_return = record {
    func = h.stands.func ∙ h.of_func;
    op = refl;
    inside = refl;
    at = h.stands.at ∙ h.of_at;
    roles = λ j. refl;
    mentioned = fresh_return (omega arith);
    defined = λ text. none_defined σ.count σ.count text σ.before h.stands.mentioned.below;
  }
