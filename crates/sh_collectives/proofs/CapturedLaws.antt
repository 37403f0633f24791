-- The values of a function that a region uses are constants of the scope.
use Rattle.std.proofs.Common.{◌≡◌, ℕ, zero, suc, ◌+◌, Bool, true, false, List, [], ◌∷◌, ◌++◌, length, take, drop, Option, Some, None, refl, ap, sym, ◌∙◌, arith, subst, inl, inr}
use Rattle.std.proofs.lemmas.Bool.{cases_Bool}
use Rattle.std.proofs.lemmas.Bool.Decides.{nat_tests}
use Rattle.std.proofs.lemmas.List.{take-append-drop}
use Rattle.std.specs.List.{AllByRecursion, list_all}
use Rattle.std.specs.Option.{option_map_or}
use Rattle.std.specs.Prelude.{◌&&◌, ◌||◌, MatchOption, ⊤, filter, if◌then◌else◌, is_some, nat_eq, not}
use Rattle.sh_base.specs.declared.numbers.Width.{Width}
use Rattle.sh_base.specs.declared.places.Refusal.{Refusal}
use Rattle.sh_base.specs.declared.rules.Rule.TheVariants.{V1}
use Rattle.sh_ir.specs.declared.bodies.Body.{Body}
use Rattle.sh_ir.specs.declared.bodies.BodyKind.{BodyKind}
use Rattle.sh_ir.specs.declared.bodies.BodyKind.TheVariants.{Constant, Binary, Compare, Select, Cast, Index, IndexCast}
use Rattle.sh_ir.specs.declared.bodies.BodyOp.{BodyOp}
use Rattle.sh_ir.specs.declared.operations.Op.{Op}
use Rattle.sh_ir.specs.declared.operations.OpKind.{OpKind}
use Rattle.sh_ir.specs.declared.types.ValueType.{ValueType}
use Rattle.sh_ir.specs.declared.types.ValueType.TheVariants as value_type
use Rattle.sh_ir.specs.Agreement.{same_type}
use Rattle.sh_ir.specs.Formed.{Captures, OperandsFit, captured_in}
use Rattle.sh_ir.specs.RegionRules.{are_typed, block_of, body_typing, is_scalar_op, is_there, is_typed, keeps_at_yield, keeps_in_region, own_after, region_fits, stand_for, stands_for, with_block}
use Rattle.sh_ir.specs.Regions.{captured_by, first_occurrences, is_among, outer_uses, outside}
use Rattle.sh_ir.specs.Rules.{body_faults, faults_at, has_region_in_order, loop_count, loop_operands, region_faults}
use Rattle.sh_ir.specs.Scope.{Scope, Value, plain_value, value_named}
use Rattle.sh_ir.specs.Written.{Written, written_by, written_in_body}
use Rattle.sh_ir.proofs.KeptLaws.{kept_inside, left_empty, right_empty}
use Rattle.sh_sharding.proofs.Cases.{and_left, and_right}
use Rattle.sh_collectives.specs.VerifiedOps.{IsBody, IsBodyOp, IsOfVerifiedOp}
use Rattle.sh_collectives.proofs.RuleLaws.{no_fault, neither_left, neither_right, sound}

-- ---- lists of names

pub all_joined : {X : Type 0} (p : X → Bool) (xs ys : List X) → list_all p xs ≡ true → list_all p ys ≡ true → list_all p (xs ++ ys) ≡ true
all_joined p [] ys h k = k
all_joined p (x ∷ xs) ys h k =
    let here = and_left (p x) (list_all p xs) h in
    let rest = all_joined p xs ys (and_right (p x) (list_all p xs) h) k in
    rw (here, rest) refl

pub all_filtered : {X : Type 0} (p q : X → Bool) (xs : List X) → list_all p xs ≡ true → list_all p (filter q xs) ≡ true
all_filtered p q [] h = refl
all_filtered p q (x ∷ xs) h =
    let here = and_left (p x) (list_all p xs) h in
    let rest = all_filtered p q xs (and_right (p x) (list_all p xs) h) in
    elim (cases_Bool (q x)) [ inl b ↦ rw b (rw (here, rest) refl) | inr b ↦ rw b rest ]

all_firsts : (p : ℕ → Bool) (names : List ℕ) → list_all p names ≡ true → list_all p (first_occurrences names) ≡ true
all_firsts p [] h = refl
all_firsts p (n ∷ names) h =
    let here = and_left (p n) (list_all p names) h in
    let rest = all_filtered p (λ other. not (nat_eq n other)) (first_occurrences names)
    (all_firsts p names (and_right (p n) (list_all p names) h)) in
    rw (here, rest) refl

-- ---- a name that a region uses and doesn't define

-- it stands for a value that regions may use
abbrev pub is_usable : List Value → ℕ → Bool
is_usable outer name = option_map_or (λ v. v.is_constant) (value_named outer name) false

usable_by : (own outer : Option Value) (t : ValueType) → own ≡ None → (is_some own || is_some outer) ≡ true
    → option_map_or (λ v. same_type v.value_type t) own (option_map_or (λ v. v.is_constant && same_type v.value_type t) outer true) ≡ true
    → option_map_or (λ v. v.is_constant) outer false ≡ true
usable_by (Some v) outer t none there stands = absurd (cc)
usable_by None None t none there stands = absurd (cc)
usable_by None (Some v) t none there stands = and_left v.is_constant (same_type v.value_type t) stands

-- the values are those of these names
abbrev AreOf : List ℕ → List Value → Type 0
AreOf known own = (name : ℕ) → is_among known name ≡ false → value_named own name ≡ None

module _ (outer : List Value) where
  -- the names of these operands that the region doesn't define
  outside_usable : (own : List Value) (known : List ℕ) (types : List ValueType) (names : List ℕ) → AreOf known own
      → length names ≡ length types → list_all (is_there outer own) names ≡ true
      → stand_for outer own types names ≡ true → list_all (is_usable outer) (outside known names) ≡ true
  outside_usable own known [] [] are long there stand = refl
  outside_usable own known [] (n ∷ names) are long there stand = absurd (omega (arith, long))
  outside_usable own known (t ∷ types) [] are long there stand = absurd (omega (arith, long))
  outside_usable own known (t ∷ types) (n ∷ names) are long there stand =
      let shorter : length names ≡ length types = let all : suc (length names) ≡ suc (length types) = long in omega (arith, all) in
      let rest = outside_usable own known types names are shorter
      (and_right (is_there outer own n) (list_all (is_there outer own) names) there)
      (and_right (stands_for outer own t n) (stand_for outer own types names) stand) in
      elim (cases_Bool (is_among known n)) [
        | inl b ↦ rw b rest
        | inr b ↦
            let here : is_usable outer n ≡ true =
            usable_by (value_named own n) (value_named outer n) t (are n b)
            (and_left (is_there outer own n) (list_all (is_there outer own) names) there)
            (and_left (stands_for outer own t n) (stand_for outer own types names) stand) in
            rw b (rw (here, rest) refl)
      ]

  -- a name that isn't the first isn't the first value's
  other_name : (n : ℕ) (names : List ℕ) (name : ℕ) → is_among (n ∷ names) name ≡ false → nat_eq n name ≡ false
  other_name n names name h =
      let apart : nat_eq name n ≡ false = neither_left (nat_eq name n) (is_among names name) h in grind (arith, nat_tests)

  are_after : (known : List ℕ) (own : List Value) (n : ℕ) (t : ValueType) → AreOf known own → AreOf (n ∷ known) (plain_value n t ∷ own)
  are_after known own n t are name other =
      let rest = are name (neither_right (nat_eq name n) (is_among known name) other) in
      rw (other_name n known name other) rest

  are_block : (own : List Value) (names : List ℕ) (widths : List Width) (name : ℕ) → is_among names name ≡ false
      → value_named own name ≡ None → value_named (with_block own names widths) name ≡ None
  are_block own [] widths name other none = none
  are_block own (n ∷ names) [] name other none = none
  are_block own (n ∷ names) (w ∷ widths) name other none =
      let here : value_named (plain_value n (value_type.Scalar w) ∷ own) name ≡ None = rw (other_name n names name other) none in
      are_block (plain_value n (value_type.Scalar w) ∷ own) names widths name
      (neither_right (nat_eq name n) (is_among names name) other) here

-- as many operands as types
pub body_arity : (kind : BodyKind) (operands : List ℕ) (result : ValueType) → OperandsFit (written_in_body kind) operands
    → length operands ≡ length (body_typing kind result)
unfolding body_typing
body_arity (Constant x) operands result h = h
body_arity (Binary x) operands result h = h
body_arity (Compare x) operands result h = h
body_arity (Select x) operands result h = h
body_arity (Cast x) operands result h = h
body_arity (Index x) operands result h = h
body_arity IndexCast operands result h = h

there_in_region : (loops : ℕ) (outer own : List Value) (op : BodyOp) (r : Refusal)
    → (if keeps_in_region V1 loops outer own op then [] else r ∷ []) ≡ [] → list_all (is_there outer own) op.operands ≡ true
unfolding keeps_in_region
there_in_region loops outer own op r h = no_fault (list_all (is_there outer own) op.operands) r h

there_at_yield : (outer own : List Value) (yields : ℕ) (r : Refusal) → (if keeps_at_yield V1 outer own yields then [] else r ∷ []) ≡ []
    → is_there outer own yields ≡ true
unfolding keeps_at_yield
there_at_yield outer own yields r h = no_fault (is_there outer own yields) r h

-- from these operations on
uses_usable : (loops : ℕ) (outer own : List Value) (known : List ℕ) (ops : List BodyOp) (body : Body) (w : Width) → AreOf known own
    → body_faults (V1 ∷ []) loops outer own ops body ≡ []
    → are_typed outer own ops body.yields w ≡ true → AllByRecursion IsBodyOp ops
    → list_all (is_usable outer) (outer_uses known ops body.yields) ≡ true
uses_usable loops outer own known [] body w are kept typed formed =
    let there : is_there outer own body.yields ≡ true = there_at_yield outer own body.yields _ kept in
    outside_usable outer own known (value_type.Scalar w ∷ []) (body.yields ∷ []) are refl (rw there refl) (rw typed refl)
uses_usable loops outer own known (op ∷ ops) body w are kept typed formed =
    let here = left_empty (faults_at op.place (V1 ∷ []) (λ rule. keeps_in_region rule loops outer own op))
    (body_faults (V1 ∷ []) loops outer (own_after own op) ops body) kept in
    let rest = right_empty (faults_at op.place (V1 ∷ []) (λ rule. keeps_in_region rule loops outer own op))
    (body_faults (V1 ∷ []) loops outer (own_after own op) ops body) kept in
    let typed_here = and_left (is_typed outer own op) (are_typed outer (own_after own op) ops body.yields w) typed in
    all_joined (is_usable outer) (outside known op.operands) (outer_uses (op.defines ∷ known) ops body.yields)
    (outside_usable outer own known (body_typing op.kind op.result) op.operands are
    (body_arity op.kind op.operands op.result formed.0.counted) (there_in_region loops outer own op _ here)
    (and_right (is_scalar_op op.kind op.result) (stand_for outer own (body_typing op.kind op.result) op.operands) typed_here))
    (uses_usable loops outer (own_after own op) (op.defines ∷ known) ops body w (are_after outer known own op.defines op.result are) rest
    (and_right (is_typed outer own op) (are_typed outer (own_after own op) ops body.yields w) typed) formed.1)

region_typed : (outer : List Value) (operands : List ValueType) (body : Body) → region_fits outer operands body ≡ true
    → are_typed outer (block_of body) body.ops body.yields body.width ≡ true
unfolding region_fits
region_typed outer operands body h = and_right _ _ (and_right _ _ h)

-- ---- of an operation

captured_by_body : (scope : Scope) (kind : OpKind) (o : Option Body)
    → option_map_or (λ body. body_faults (V1 ∷ []) (loop_count kind) scope.values (block_of body) body.ops body) o [] ≡ []
    → option_map_or (region_fits scope.values (loop_operands kind)) o true ≡ true → MatchOption o ⊤ IsBody
    → list_all (is_usable scope.values) (option_map_or captured_by o []) ≡ true
captured_by_body scope kind None kept typed formed = refl
captured_by_body scope kind (Some body) kept typed formed =
    all_firsts (is_usable scope.values) (outer_uses body.args body.ops body.yields)
    (uses_usable (loop_count kind) scope.values (block_of body) body.args body.ops body body.width
    (λ name other. are_block scope.values [] body.args body.widths name other refl) kept
    (region_typed scope.values (loop_operands kind) body typed) formed.ops)

-- all names that the region of an operation takes of its function are usable
pub captured_usable : (scope : Scope) (op : Op) → IsOfVerifiedOp scope op
    → list_all (is_usable scope.values) (captured_in (written_by op.kind)) ≡ true
unfolding region_faults has_region_in_order
captured_usable scope op v =
    captured_by_body scope op.kind (written_by op.kind).body (kept_inside V1 scope op (v.keeps V1)) (sound scope op v).region v.body

-- ---- operands, as they are written and captured

pub take_long : {X : Type 0} (n m : ℕ) (xs : List X) → length xs ≡ n + m → length (take n xs) ≡ n
take_long zero m xs h = refl
take_long (suc n) m [] h = absurd (omega (arith, h))
take_long (suc n) m (x ∷ xs) h = ap suc (take_long n m xs (let all : suc (length xs) ≡ suc n + m = h in omega (arith, all)))

drop_none : {X : Type 0} (n : ℕ) (xs : List X) → length xs ≡ n + 0 → drop n xs ≡ []
drop_none zero [] h = refl
drop_none zero (x ∷ xs) h = absurd (omega (arith, h))
drop_none (suc n) [] h = absurd (omega (arith, h))
drop_none (suc n) (x ∷ xs) h = drop_none n xs (let all : suc (length xs) ≡ suc n + 0 = h in omega (arith, all))

-- the written operands, and behind them those that the region uses
pub record AreParted (x : Written) (n : ℕ) (operands : List ℕ) : Type 0 where
  pub all : take n operands ++ captured_in x ≡ operands
  pub long : length (take n operands) ≡ n
  pub captured : drop n operands ≡ captured_in x

captured_are : (o : Option Body) (n : ℕ) (operands : List ℕ) → length operands ≡ n + length (option_map_or captured_by o [])
    → MatchOption o ⊤ (λ body. drop n operands ≡ captured_by body)
    → drop n operands ≡ option_map_or captured_by o []
captured_are None n operands long h = drop_none n operands long
captured_are (Some body) n operands long h = h

pub are_parted : (x : Written) (n : ℕ) (operands : List ℕ) → x.operands ≡ Some n → OperandsFit x operands → Captures x operands
    → AreParted x n operands
are_parted x n operands e fits captures =
    let long : length operands ≡ n + length (captured_in x) = subst
    (λ o. MatchOption o ⊤ (λ count. length operands ≡ count + length (captured_in x))) e fits in
    let same : drop n operands ≡ captured_in x =
    captured_are x.body n operands long (subst
    (λ o. MatchOption x.body ⊤ (λ body. drop (option_map_or (λ m. m) o 0) operands ≡ captured_by body)) e captures) in
    record {
      all = ap (λ names. take n operands ++ names) (sym same) ∙ take-append-drop n operands;
      long = take_long n (length (captured_in x)) operands long;
      captured = same;
    }
