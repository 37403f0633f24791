-- What a kept rule says, of an operation and of several: the way in for whoever is given `KeepsOp`.
use mathlib.Core.Path.{◌∙◌, ap, sym, refl}
use Rattle.std.proofs.Common.{◌≡◌, List, [], ◌∷◌, ◌++◌, Bool, true, false}
use Rattle.std.proofs.lemmas.List.{append_assoc}
use Rattle.std.specs.Prelude.{if◌then◌else◌}
use Rattle.sh_base.specs.declared.places.Refusal.{Refusal}
use Rattle.sh_base.specs.declared.rules.Rule.{Rule}
use Rattle.sh_ir.specs.declared.operations.Op.{Op}
use Rattle.sh_ir.specs.Rules.{KeepsOp, KeepsOps, faults_at, keeps, op_faults, ops_faults, refusal_at, region_faults}
use Rattle.sh_ir.specs.Scope.{Scope, scope_after}

pub left_empty : (a b : List Refusal) → a ++ b ≡ [] → a ≡ []
left_empty [] b e = refl
left_empty (r ∷ a) b e = absurd (cc)

pub right_empty : (a b : List Refusal) → a ++ b ≡ [] → b ≡ []
right_empty [] b e = e
right_empty (r ∷ a) b e = absurd (cc)

pub both_empty : (a b : List Refusal) → a ≡ [] → b ≡ [] → a ++ b ≡ []
both_empty a b p q = ap (λ x. x ++ b) p ∙ q

no_fault : (b : Bool) (r : Refusal) → (if b then [] else r ∷ []) ≡ [] → b ≡ true
no_fault true r e = refl
no_fault false r e = absurd (cc)

-- What the rule asks at the operation's own place.
pub kept_here : (rule : Rule) (scope : Scope) (op : Op) → KeepsOp rule scope op
    → keeps rule scope op ≡ true
unfolding op_faults
kept_here rule scope op kept =
    no_fault (keeps rule scope op) (refusal_at op.place rule)
    (left_empty (faults_at op.place (rule ∷ []) (λ r. keeps r scope op)) (region_faults (rule ∷ []) scope op.kind) kept)

-- And in its region.
pub kept_inside : (rule : Rule) (scope : Scope) (op : Op) → KeepsOp rule scope op
    → region_faults (rule ∷ []) scope op.kind ≡ []
unfolding op_faults
kept_inside rule scope op kept =
    right_empty (faults_at op.place (rule ∷ []) (λ r. keeps r scope op)) (region_faults (rule ∷ []) scope op.kind) kept

here_is : (b : Bool) (r : Refusal) → b ≡ true → (if b then [] else r ∷ []) ≡ []
here_is b r e = ap (λ x. if x then [] else r ∷ []) e

-- The two together are all.
pub keeps_op : (rule : Rule) (scope : Scope) (op : Op) → keeps rule scope op ≡ true
    → region_faults (rule ∷ []) scope op.kind ≡ [] → KeepsOp rule scope op
unfolding op_faults
keeps_op rule scope op here inside =
    both_empty (faults_at op.place (rule ∷ []) (λ r. keeps r scope op)) (region_faults (rule ∷ []) scope op.kind)
    (here_is (keeps rule scope op) (refusal_at op.place rule) here) inside

-- ---- operations one after the other

pub kept_first : (rule : Rule) (scope : Scope) (op : Op) (ops : List Op)
    → KeepsOps rule scope (op ∷ ops) → KeepsOp rule scope op
kept_first rule scope op ops kept =
    left_empty (op_faults (rule ∷ []) scope op) (ops_faults (rule ∷ []) (scope_after scope op) ops) kept

pub kept_rest : (rule : Rule) (scope : Scope) (op : Op) (ops : List Op)
    → KeepsOps rule scope (op ∷ ops) → KeepsOps rule (scope_after scope op) ops
kept_rest rule scope op ops kept =
    right_empty (op_faults (rule ∷ []) scope op) (ops_faults (rule ∷ []) (scope_after scope op) ops) kept

pub keeps_next : (rule : Rule) (scope : Scope) (op : Op) (ops : List Op) → KeepsOp rule scope op
    → KeepsOps rule (scope_after scope op) ops → KeepsOps rule scope (op ∷ ops)
keeps_next rule scope op ops here rest =
    both_empty (op_faults (rule ∷ []) scope op) (ops_faults (rule ∷ []) (scope_after scope op) ops) here rest

-- the scope behind some operations
abbrev pub scope_behind : Scope → List Op → Scope
scope_behind scope [] = scope
scope_behind scope (op ∷ ops) = scope_behind (scope_after scope op) ops

-- the faults of two lists of operations, one after the other
pub faults_of_both : (asked : List Rule) (scope : Scope) (ops more : List Op)
    → ops_faults asked scope (ops ++ more) ≡ ops_faults asked scope ops ++ ops_faults asked (scope_behind scope ops) more
faults_of_both asked scope [] more = refl
faults_of_both asked scope (op ∷ ops) more =
    ap (λ rs. op_faults asked scope op ++ rs) (faults_of_both asked (scope_after scope op) ops more)
    ∙ sym (append_assoc (op_faults asked scope op) (ops_faults asked (scope_after scope op) ops) _)

-- Operations that keep a rule may be followed by others that do.
pub keeps_both : (rule : Rule) (scope : Scope) (ops more : List Op) → KeepsOps rule scope ops
    → KeepsOps rule (scope_behind scope ops) more → KeepsOps rule scope (ops ++ more)
keeps_both rule scope ops more first second =
    faults_of_both (rule ∷ []) scope ops more
    ∙ both_empty (ops_faults (rule ∷ []) scope ops) (ops_faults (rule ∷ []) (scope_behind scope ops) more) first second
