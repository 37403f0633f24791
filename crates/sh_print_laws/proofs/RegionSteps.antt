-- The steps of a region: its block arguments, its operations and its yield.
use Rattle.std.proofs.Common.{◌≡◌, ◌∙◌, ◌<◌, ◌≤◌, ℕ, suc, Bool, true, false, not, ◌&&◌, ◌||◌, nat_eq, List, [], ◌∷◌, ◌++◌, reverse, Some, refl, ap, sym, subst, arith, if◌then◌else◌}
use Rattle.std.specs.List.{AllByRecursion, list_any}
use Rattle.std.proofs.Math.Bool.{or-false}
use Rattle.std.proofs.Math.Dec.{eqb-suc-zero}
use Rattle.std.proofs.lemmas.Bool.{eq-eqb, eqb-true}
use Rattle.std.proofs.lemmas.List.Folds.{list_any-append}
use Rattle.sh_base.specs.declared.numbers.Width.{Width}
use Rattle.sh_base.specs.declared.places.Place.{Place}
use Rattle.sh_build.specs.Meaning.{made}
use Rattle.sh_build.specs.declared.parts.Part.TheVariants as part
use Rattle.sh_grammar.specs.declared.forms.Form.{Form}
use Rattle.sh_grammar.specs.declared.forms.Form.TheVariants as forms
use Rattle.sh_ir.specs.declared.functions.Arg.{Arg}
use Rattle.sh_ir.specs.declared.types.ValueType.TheVariants as type
use Rattle.sh_lex.specs.declared.tokens.TokenKind.TheVariants as kind
use Rattle.sh_names.specs.Names.{Mention, Owned, fits_behind, inside, keeps_rules, is_own, mention_of, names_by_role, role_in, same_text}
use Rattle.sh_names.specs.declared.scopes.Role.TheVariants as role
use Rattle.sh_names.specs.declared.scopes.Scope.{Scope}
use Rattle.sh_print.specs.Layout.{Piece}
use Rattle.sh_print.specs.Spellings.{sign, width}
use Rattle.sh_print.specs.Tokens.{block_argument, more_block_arguments}
use Rattle.sh_print.specs.Values.{name_text, value}
use Rattle.sh_print.specs.declared.names.Name.TheVariants.{BlockArgument}
use Rattle.sh_print_laws.specs.TokensOf.{lexeme}
use Rattle.sh_print_laws.proofs.Keywords as keyword
use Rattle.sh_print_laws.proofs.PlainForms.{width_spelled}
use Rattle.sh_print_laws.proofs.Rows.{FormTo, by_row, by_row_entered, end_row, last_is, row_by, then_is, then_named, then_token}
use Rattle.sh_print_laws.proofs.Standing.{IsBelow, Mentioned, Spot, Standing, among, defined_still, defines_by, first_by, mentioned_by, naming, num_by, owned, owns}
use Rattle.sh_print_laws.proofs.Walks.{State, enter, step}

-- A step of a region begins with a name that it defines.
pub record Opening (s : Spot) (σ : State) : Type 0 where
  pub func : σ.scope.func ≡ s.func
  pub op : σ.scope.op ≡ s.op
  pub inside : σ.scope.in_region ≡ true
  pub at : σ.scope.at ≡ role.Nothing
  pub own : role_in σ.scope.opened kind.Val σ.scope ≡ role.Own
  pub mentioned : Mentioned s σ
  pub defined : (text : List ℕ) → list_any (defines_by σ.scope.op σ.scope.step text) σ.before ≡ among s.all text

-- behind that name
abbrev pub with_own : Spot → List ℕ → Spot
with_own s text = record s { inside = true; defined = s.all; all = s.all ++ text ∷ [] }

-- by a new step all names so far are defined
fresh_step : (op k : ℕ) (text : List ℕ) (ms : List Mention) → AllByRecursion (IsBelow k) ms → list_any (defines_by op k text) ms ≡ list_any (owns op text) ms
fresh_step op k text [] h = refl
fresh_step op k text (m ∷ ms) h =
    ap (λ b. b || list_any (defines_by op k text) ms)
    (ap (λ b. is_own m.role && nat_eq m.scope.op op && not b && same_text m.text text) (other m.scope.step k h.0.1)
    ∙ with_true (is_own m.role && nat_eq m.scope.op op) (same_text m.text text))
    ∙ ap (λ b. owns op text m || b) (fresh_step op k text ms h.1)
  where
    other : (a b : ℕ) → a < b → nat_eq a b ≡ false
    other a b less = by (nat_eq a b) refl
      where
        by : (t : Bool) → nat_eq a b ≡ t → t ≡ false
        by false e = refl
        by true e = absurd (let same : a ≡ b = eqb-true a b e in omega arith)

    with_true : (a b : Bool) → (a && true && b) ≡ (a && b)
    with_true true b = refl
    with_true false b = refl

module _ (s : Spot) (none : s.at ≡ role.Nothing) where
  all_defined : (op : ℕ) (σ : State) → op ≡ s.op → Mentioned s σ → (text : List ℕ) → list_any (defines_by op σ.count text) σ.before ≡ among s.all text
  all_defined op σ same h text =
      fresh_step op σ.count text σ.before h.below ∙ ap (λ o. list_any (owns o text) σ.before) same ∙ h.all text

  opened : (n : Form) (σ : State) → inside σ.count n σ.scope ≡ record σ.scope { step = σ.count; in_region = true }
      → ((scope : Scope) → role_in (Some n) kind.Val scope ≡ role.Own) → Standing s σ → Opening s (enter n σ)
  opened n σ is own h = record {
    func = ap (λ x. x.func) is ∙ h.func;
    op = ap (λ x. x.op) is ∙ h.op;
    inside = ap (λ x. x.in_region) is;
    at = ap (λ x. x.at) is ∙ h.at ∙ none;
    own = own _;
    mentioned = record {
      kept = h.mentioned.kept;
      device = h.mentioned.device;
      all = h.mentioned.all;
      below = h.mentioned.below;
      op_now = subst (λ x. x.op ≤ σ.count) (sym is) h.mentioned.op_now;
      step_now = subst (λ x. x.step ≤ σ.count) (sym is) (omega arith);
    };
    defined = λ text. ap (λ x. list_any (defines_by x.op x.step text) σ.before) is ∙ all_defined σ.scope.op σ h.op h.mentioned text;
  }

  pub opens_argument : (σ : State) → Standing s σ → Opening s (enter forms.BlockArgument σ)
  opens_argument σ h = opened forms.BlockArgument σ refl (λ scope. refl) h

  pub opens_operation : (σ : State) → Standing s σ → Opening s (enter forms.BodyOperation σ)
  opens_operation σ h = opened forms.BodyOperation σ refl (λ scope. refl) h

  pub opens_generic : (σ : State) → Standing s σ → Opening s (enter forms.GenericOperation σ)
  opens_generic σ h = opened forms.GenericOperation σ refl (λ scope. refl) h

  -- a yield defines no name
  pub enters_yield : (σ : State) → Standing s σ → Standing (record s { inside = true; defined = s.all }) (enter forms.Yield σ)
  enters_yield σ h = record {
    func = h.func;
    op = h.op;
    inside = refl;
    at = h.at;
    roles = λ j. refl;
    mentioned = record {
      kept = h.mentioned.kept;
      device = h.mentioned.device;
      all = h.mentioned.all;
      below = h.mentioned.below;
      op_now = h.mentioned.op_now;
      step_now = (let e : σ.count ≤ σ.count = omega arith in e);
    };
    defined = all_defined σ.scope.op σ h.op h.mentioned;
  }

module _ (v : Owned → ℕ) (s : Spot) (none : s.at ≡ role.Nothing) where
  -- the number of a name of this region
  abbrev pub own_number : List ℕ → ℕ
  own_number text = v (owned s.func (Some s.op) text)

  pub own_name : (text : List ℕ) (σ : State) (p : Place) → Opening s σ
      → (num_by v σ (lexeme kind.Val text p) ≡ own_number text) × Standing (with_own s text) (step (lexeme kind.Val text p) σ)
  own_name text σ p h =
      let t = lexeme kind.Val text p in
      let m : Mention = mention_of σ.scope t in
      let is_named : num_by v σ t ≡ own_number text =
      ap (λ r. first_by v (names_by_role r σ.before m)) h.own ∙ ap (λ u. v (owned u (Some σ.scope.op) text)) h.func ∙ ap (λ o. v (owned s.func (Some o) text)) h.op in
      let owns_it : (other : List ℕ) → owns s.op other m ≡ same_text text other = λ other.
      ap (λ r. is_own r && nat_eq σ.scope.op s.op && same_text text other) h.own ∙ ap (λ b. true && b && same_text text other) (eq-eqb σ.scope.op s.op h.op) in (
        is_named,
        record {
          func = h.func;
          op = h.op;
          inside = h.inside;
          at = h.at ∙ sym none;
          roles = λ j. refl;
          mentioned = mentioned_by s (with_own s text) σ t h.mentioned
              (ap (λ r. keeps_rules r text (reverse σ.before)) h.own)
              (λ other. ap (λ r. fits_behind r text other (s.fit other)) h.own)
              (λ other. ap (λ b. among s.all other || b) (owns_it other ∙ sym (or-false (same_text text other))) ∙ sym (list_any-append (λ x. same_text x other) s.all (text ∷ []))) refl;
          defined = defined_still σ t s.all h.defined;
        },
      )

  -- ## Block arguments

  abbrev pub block_text : ℕ → List ℕ
  block_text at = name_text (BlockArgument at)

  pub argument_spelled : (at : ℕ) (w : Width) → FormTo (num_by v) (Standing s) (Standing (with_own s (block_text at))) forms.BlockArgument
      (value (BlockArgument at) ∷ sign ":" ∷ width w ∷ []) (λ p. p ≡ part.Arg (record { id = own_number (block_text at); value_type = type.Scalar w }))
  unfolding made
  argument_spelled at w = let N = naming v (with_own s (block_text at)) none in
      by_row_entered 0 refl (opens_argument s none) (then_named (own_name (block_text at)) (λ p. then_token N keyword.the-colon (λ p i.
      last_is N {ps = width w ∷ []} (width_spelled N w) refl)))

-- behind block arguments from this one on
abbrev pub with_blocks : Spot → ℕ → List Width → Spot
with_blocks s at [] = s
with_blocks s at (w ∷ ws) = with_blocks (with_own s (name_text (BlockArgument at))) (suc at) ws

-- what they are read as
abbrev pub read_blocks : (Owned → ℕ) → Spot → ℕ → List Width → List Arg
read_blocks v s at [] = []
read_blocks v s at (w ∷ ws) =
    record { id = v (owned s.func (Some s.op) (name_text (BlockArgument at))); value_type = type.Scalar w } ∷ read_blocks v (with_own s (name_text (BlockArgument at))) (suc at) ws

module _ (v : Owned → ℕ) where
  more_arguments : (s : Spot) (none : s.at ≡ role.Nothing) (at : ℕ) (ws : List Width)
      → FormTo (num_by v) (Standing s) (Standing (with_blocks s (suc at) ws)) forms.MoreBlockArguments (more_block_arguments (suc at) ws)
      (λ p. p ≡ part.Args (read_blocks v s (suc at) ws))
  unfolding made block_argument
  more_arguments s none at [] = let N = naming v s none in by_row N 0 refl refl (end_row N refl)
  more_arguments s none at (w ∷ ws) = let N = naming v s none in
      let x : List ℕ = name_text (BlockArgument (suc at)) in
      let after : List Piece = more_block_arguments (suc (suc at)) ws in
      by_row N 1 refl refl (row_by N (sym (ap (λ b. ((if b then [] else sign "," ∷ []) ++ value (BlockArgument (suc at)) ∷ sign ":" ∷ width w ∷ []) ++ after) (eqb-suc-zero at)))
      (then_token N keyword.the-comma (λ p i.
      then_is N (argument_spelled v s none (suc at) w) (last_is N (more_arguments (with_own s x) none (suc at) ws) refl))))

  pub arguments_spelled : (s : Spot) (none : s.at ≡ role.Nothing) (ws : List Width)
      → FormTo (num_by v) (Standing s) (Standing (with_blocks s 0 ws)) forms.BlockArguments (more_block_arguments 0 ws)
      (λ p. p ≡ part.Args (read_blocks v s 0 ws))
  unfolding made block_argument
  arguments_spelled s none [] = let N = naming v s none in by_row N 0 refl refl (end_row N refl)
  arguments_spelled s none (w ∷ ws) = let N = naming v s none in
      by_row N 1 refl refl (then_is N (argument_spelled v s none 0 w) (last_is N (more_arguments (with_own s (name_text (BlockArgument 0))) none 0 ws) refl))
