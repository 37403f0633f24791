-- Each operation of a verified function is verified where it stands.
use Rattle.std.proofs.Common.{◌≡◌, ℕ, zero, suc, Bool, true, false, List, [], ◌∷◌, ◌++◌, map, take, Option, Some, None, refl, sym, subst}
use Rattle.std.proofs.lemmas.Option.{none-some, same_Some}
use Rattle.std.specs.List.{AllByRecursion, list_all}
use Rattle.std.specs.Option.{option_map_or}
use Rattle.std.specs.Prelude.{MatchOption, ⊤, flat_map, if◌then◌else◌, nat_eq, slice_get}
use Rattle.sh_base.specs.declared.rules.Rule.{Rule}
use Rattle.sh_base.specs.declared.rules.Rule.TheVariants.{L4}
use Rattle.sh_ir.specs.declared.bodies.Body.{Body}
use Rattle.sh_ir.specs.declared.bodies.BodyOp.{BodyOp}
use Rattle.sh_ir.specs.declared.functions.Arg.{Arg}
use Rattle.sh_ir.specs.declared.functions.Func.{Func}
use Rattle.sh_ir.specs.declared.modules.Module.{Module}
use Rattle.sh_ir.specs.declared.operations.Op.{Op}
use Rattle.sh_ir.specs.Faults.{KeepsModule, call_faults, faults_by, func_faults, funcs_faults, grid_faults, keeps_func, return_faults}
use Rattle.sh_ir.specs.Formed.{Captures, Defines, IsFormed, OperandsFit, ResultFits, all_written, bodies_in, body_ops_of, call_constants, cuts_in, func_types, is_block, is_scalar, is_spelled_type, op_texts, op_types, ops_of, types_in}
use Rattle.sh_ir.specs.Limits.{has_few_cells}
use Rattle.sh_ir.specs.Literals.{is_held}
use Rattle.sh_ir.specs.Rules.{KeepsOp, KeepsOps, faults_at, op_types_of, ops_faults}
use Rattle.sh_ir.specs.Scope.{Scope, Value, plain_value, scope_after, scope_of, value_named, value_of, with_args}
use Rattle.sh_ir.specs.Written.{Written, written_by, written_in_body}
use Rattle.sh_ir.proofs.KeptLaws.{kept_first, kept_rest, left_empty, right_empty, scope_behind}
use Rattle.sh_sharding.proofs.Cases.{and_right}
use Rattle.sh_collectives.specs.DeviceForms.{IsVerifiedFunc}
use Rattle.sh_collectives.specs.VerifiedOps.{HaveScalarConstants, IsBody, IsBodyOp, IsOfVerifiedOp}
use Rattle.sh_collectives.proofs.RuleLaws.{all_front, no_fault}
use Rattle.sh_collectives.proofs.MemberLaws.{all_both, at_place, each_chosen, each_list, each_mapped, of_back, of_front, of_test, to_test}

-- ---- the rules

func_kept : (rule : Rule) (m : Module) (before : List Func) (f : Func) → func_faults (rule ∷ []) m before f ≡ []
    → KeepsOps rule (scope_of m f) f.ops
unfolding func_faults
func_kept rule m before f h =
    let head = faults_at f.place (rule ∷ []) (λ r. keeps_func r m before f) in
    let ops = ops_faults (rule ∷ []) (scope_of m f) f.ops in
    let last = return_faults (rule ∷ []) f.results f.ops in
    left_empty ops last (right_empty head (ops ++ last) h)

funcs_kept : (rule : Rule) (m : Module) (before funcs : List Func) (place : ℕ) (f : Func) → funcs_faults (rule ∷ []) m before funcs ≡ []
    → slice_get funcs place ≡ Some f → KeepsOps rule (scope_of m f) f.ops
funcs_kept rule m before [] place f h e = absurd (none-some f e)
funcs_kept rule m before (g ∷ funcs) zero f h e =
    func_kept rule m before f (subst (λ x. func_faults (rule ∷ []) m before x ≡ []) (same_Some g f e)
    (left_empty (func_faults (rule ∷ []) m before g) (funcs_faults (rule ∷ []) m (before ++ g ∷ []) funcs) h))
funcs_kept rule m before (g ∷ funcs) (suc place) f h e =
    funcs_kept rule m (before ++ g ∷ []) funcs place f
    (right_empty (func_faults (rule ∷ []) m before g) (funcs_faults (rule ∷ []) m (before ++ g ∷ []) funcs) h) e

-- at the place of a function
record KeepsFunc (rule : Rule) (m : Module) (f : Func) : Type 0 where
  before : List Func
  keeps : keeps_func rule m before f ≡ true

func_here : (rule : Rule) (m : Module) (before : List Func) (f : Func) → func_faults (rule ∷ []) m before f ≡ [] → KeepsFunc rule m f
unfolding func_faults
func_here rule m before f h =
    record {
      before = before;
      keeps = no_fault (keeps_func rule m before f) _
          (left_empty (faults_at f.place (rule ∷ []) (λ r. keeps_func r m before f))
          (ops_faults (rule ∷ []) (scope_of m f) f.ops ++ return_faults (rule ∷ []) f.results f.ops) h);
    }

funcs_here : (rule : Rule) (m : Module) (before funcs : List Func) (place : ℕ) (f : Func) → funcs_faults (rule ∷ []) m before funcs ≡ []
    → slice_get funcs place ≡ Some f → KeepsFunc rule m f
funcs_here rule m before [] place f h e = absurd (none-some f e)
funcs_here rule m before (g ∷ funcs) zero f h e =
    func_here rule m before f (subst (λ x. func_faults (rule ∷ []) m before x ≡ []) (same_Some g f e)
    (left_empty (func_faults (rule ∷ []) m before g) (funcs_faults (rule ∷ []) m (before ++ g ∷ []) funcs) h))
funcs_here rule m before (g ∷ funcs) (suc place) f h e =
    funcs_here rule m (before ++ g ∷ []) funcs place f
    (right_empty (func_faults (rule ∷ []) m before g) (funcs_faults (rule ∷ []) m (before ++ g ∷ []) funcs) h) e

module_kept : (rule : Rule) (m : Module) → KeepsModule rule m → funcs_faults (rule ∷ []) m [] m.funcs ≡ []
unfolding faults_by
module_kept rule m h =
    let grids = grid_faults (rule ∷ []) [] m.grids in
    let funcs = funcs_faults (rule ∷ []) m [] m.funcs in
    let calls = call_faults (rule ∷ []) m.calls in
    left_empty funcs calls (right_empty grids (funcs ++ calls) h)

kept_at : (rule : Rule) (scope : Scope) (ops : List Op) (k : ℕ) (op : Op) → KeepsOps rule scope ops → slice_get ops k ≡ Some op
    → KeepsOp rule (scope_behind scope (take k ops)) op
kept_at rule scope [] k op h e = absurd (none-some op e)
kept_at rule scope (x ∷ ops) zero op h e = subst (λ y. KeepsOp rule scope y) (same_Some x op e) (kept_first rule scope x ops h)
kept_at rule scope (x ∷ ops) (suc k) op h e = kept_at rule (scope_after scope x) ops k op (kept_rest rule scope x ops h) e

-- ---- the scope

scalar_next : (values : List Value) (v : Value) → (v.is_constant ≡ true → is_scalar v.value_type ≡ true) → HaveScalarConstants values
    → HaveScalarConstants (v ∷ values)
scalar_next values v here rest name w e constant = go (nat_eq v.name name) e
  where
    go : (b : Bool) → (if b then Some v else value_named values name) ≡ Some w → is_scalar w.value_type ≡ true
    go true k =
        let same = same_Some v w k in
        subst (λ (x : Value). is_scalar x.value_type ≡ true) same (here (subst (λ (x : Value). x.is_constant ≡ true) (sym same) constant))
    go false k = rest name w k constant

scalar_args : (values : List Value) (args : List Arg) → HaveScalarConstants values → HaveScalarConstants (with_args values args)
scalar_args values [] h = h
scalar_args values (arg ∷ args) h =
    scalar_args (plain_value arg.id arg.value_type ∷ values) args
    (scalar_next values (plain_value arg.id arg.value_type) (λ c. absurd (cc)) h)

scalar_after : (values : List Value) (op : Op) (o : Option ℕ) → HaveScalarConstants values
    → HaveScalarConstants (option_map_or (λ name. value_of op name ∷ values) o values)
scalar_after values op None h = h
scalar_after values op (Some name) h = scalar_next values (value_of op name) (λ c. and_right _ (is_scalar op.result) c) h

scalar_behind : (scope : Scope) (ops : List Op) → HaveScalarConstants scope.values → HaveScalarConstants (scope_behind scope ops).values
scalar_behind scope [] h = h
scalar_behind scope (op ∷ ops) h = scalar_behind (scope_after scope op) ops (scalar_after scope.values op op.defines h)

no_constants : HaveScalarConstants []
no_constants name v e constant = absurd (none-some v e)

-- ---- forms

module _ (m : Module) (formed : IsFormed m) where
  -- what holds of all operations holds of each
  at_op : (P : Op → Type 0) (place k : ℕ) (f : Func) (op : Op) → AllByRecursion P (ops_of m) → slice_get m.funcs place ≡ Some f
      → slice_get f.ops k ≡ Some op → P op
  at_op P place k f op h here e =
      at_place P f.ops k op (at_place (λ (g : Func). AllByRecursion P g.ops) m.funcs place f
      (each_list P (λ (g : Func). g.ops) m.funcs h) here) e

  spelled_ops : AllByRecursion (λ op. list_all is_spelled_type (op_types_of op) ≡ true) (ops_of m)
  spelled_ops =
      let P : _ → Type 0 = λ t. is_spelled_type t ≡ true in
      let ops = flat_map op_types_of (ops_of m) in
      let bodies = flat_map (λ (op : BodyOp). types_in (written_in_body op.kind) op.result) (body_ops_of m) in
      let all = of_test is_spelled_type _ formed.types in
      let front = of_back P (flat_map func_types m.funcs) (op_types m) (of_front P (flat_map func_types m.funcs ++ op_types m) _ all) in
      tests (ops_of m) (each_list P op_types_of (ops_of m) (of_front P ops bodies front))
    where
      tests : (ops : List Op) → AllByRecursion (λ op. AllByRecursion (λ t. is_spelled_type t ≡ true) (op_types_of op)) ops
          → AllByRecursion (λ op. list_all is_spelled_type (op_types_of op) ≡ true) ops
      tests [] h = tt
      tests (op ∷ ops) h = (to_test is_spelled_type (op_types_of op) h.0, tests ops h.1)

  held_texts : AllByRecursion (λ (x : Written). list_all is_held x.constants ≡ true) (all_written m)
  held_texts =
      let all = of_test is_held _ formed.literals in
      tests (all_written m) (each_list (λ c. is_held c ≡ true) (λ (x : Written). x.constants) (all_written m)
      (of_front (λ c. is_held c ≡ true) (flat_map (λ (x : Written). x.constants) (all_written m)) (call_constants m) all))
    where
      tests : (xs : List Written) → AllByRecursion (λ (x : Written). AllByRecursion (λ c. is_held c ≡ true) x.constants) xs
          → AllByRecursion (λ (x : Written). list_all is_held x.constants ≡ true) xs
      tests [] h = tt
      tests (x ∷ xs) h = (to_test is_held x.constants h.0, tests xs h.1)

  held_ops : AllByRecursion (λ (op : Op). list_all is_held (written_by op.kind).constants ≡ true) (ops_of m)
  held_ops =
      let P : Written → Type 0 = λ x. list_all is_held x.constants ≡ true in
      each_mapped P (λ (op : Op). written_by op.kind) (ops_of m)
      (of_front P (op_texts (ops_of m)) (map (λ (op : BodyOp). written_in_body op.kind) (body_ops_of m)) held_texts)

  held_body_ops : AllByRecursion (λ (op : BodyOp). list_all is_held (written_in_body op.kind).constants ≡ true) (body_ops_of m)
  held_body_ops =
      let P : Written → Type 0 = λ x. list_all is_held x.constants ≡ true in
      each_mapped P (λ (op : BodyOp). written_in_body op.kind) (body_ops_of m)
      (of_back P (op_texts (ops_of m)) (map (λ (op : BodyOp). written_in_body op.kind) (body_ops_of m)) held_texts)

  body_ops : AllByRecursion IsBodyOp (body_ops_of m)
  body_ops =
      let Fits : BodyOp → Type 0 = λ op. OperandsFit (written_in_body op.kind) op.operands in
      let Gives : BodyOp → Type 0 = λ op. ResultFits (written_in_body op.kind).result op.result in
      let Holds : BodyOp → Type 0 = λ op. list_all is_held (written_in_body op.kind).constants ≡ true in
      all_both Fits (λ op. Gives op × Holds op) IsBodyOp (body_ops_of m)
      (λ op a b. record { counted = a; result = b.0; held = b.1 }) formed.body_operands
      (all_both Gives Holds (λ op. Gives op × Holds op) (body_ops_of m) (λ op a b. (a, b)) formed.body_results held_body_ops)

  bodies : AllByRecursion (λ (op : Op). MatchOption (written_by op.kind).body ⊤ IsBody) (ops_of m)
  bodies =
      let of_bodies : AllByRecursion IsBody (bodies_in (ops_of m)) =
      all_both (λ (body : Body). is_block body ≡ true) (λ (body : Body). AllByRecursion IsBodyOp body.ops) IsBody (bodies_in (ops_of m))
      (λ body a b. record { block = a; ops = b })
      (of_test is_block (bodies_in (ops_of m)) formed.blocks)
      (each_list IsBodyOp (λ (body : Body). body.ops) (bodies_in (ops_of m)) body_ops) in
      each_mapped (λ (x : Written). MatchOption x.body ⊤ IsBody) (λ (op : Op). written_by op.kind) (ops_of m)
      (each_chosen IsBody (λ (x : Written). x.body) (op_texts (ops_of m)) of_bodies)

-- ---- the operation at a place

pub verified_op : (f : Func) (h : IsVerifiedFunc f) (k : ℕ) (op : Op) → slice_get f.ops k ≡ Some op
    → IsOfVerifiedOp (scope_behind (scope_of h.whole f) (take k f.ops)) op
verified_op f h k op e =
    let m = h.whole in
    let start = scope_of m f in
    record {
      keeps = λ rule. kept_at rule start f.ops k op (funcs_kept rule m [] m.funcs h.place f (module_kept rule m (h.keeps rule)) h.stands) e;
      constants = scalar_behind start (take k f.ops) (scalar_args [] f.args no_constants);
      counted = at_op m h.formed (λ o. OperandsFit (written_by o.kind) o.operands) h.place k f op h.formed.operands h.stands e;
      captures = at_op m h.formed (λ o. Captures (written_by o.kind) o.operands) h.place k f op h.formed.captures h.stands e;
      defines = at_op m h.formed Defines h.place k f op h.formed.defines h.stands e;
      result = at_op m h.formed (λ o. ResultFits (written_by o.kind).result o.result) h.place k f op h.formed.results h.stands e;
      spelled = at_op m h.formed (λ o. list_all is_spelled_type (op_types_of o) ≡ true) h.place k f op (spelled_ops m h.formed) h.stands e;
      held = at_op m h.formed (λ o. list_all is_held (written_by o.kind).constants ≡ true) h.place k f op (held_ops m h.formed) h.stands e;
      body = at_op m h.formed (λ o. MatchOption (written_by o.kind).body ⊤ IsBody) h.place k f op (bodies m h.formed) h.stands e;
    }

-- ---- what stays the same from operation to operation

pub device_behind : (scope : Scope) (ops : List Op) → (scope_behind scope ops).device ≡ scope.device
device_behind scope [] = refl
device_behind scope (op ∷ ops) = device_behind (scope_after scope op) ops

pub grids_behind : (scope : Scope) (ops : List Op) → (scope_behind scope ops).grids ≡ scope.grids
grids_behind scope [] = refl
grids_behind scope (op ∷ ops) = grids_behind (scope_after scope op) ops

-- ---- the parameters

-- their types have few cells
pub small_args : (f : Func) (h : IsVerifiedFunc f) → list_all has_few_cells (map (λ a. a.value_type) f.args) ≡ true
unfolding keeps_func
small_args f h =
    let k = funcs_here L4 h.whole [] h.whole.funcs h.place f (module_kept L4 h.whole (h.keeps L4)) h.stands in
    let types = map (λ (a : Arg). a.value_type) f.args in
    all_front has_few_cells types f.results (all_front has_few_cells (types ++ f.results) (map (λ cut. cut.whole) (cuts_in f)) k.keeps)
