-- The rules that are asked of a module are all: the others ask nothing, so a function of a module that keeps the asked ones keeps all.
use Rattle.std.proofs.Common.{◌≡◌, ℕ, Bool, true, List, [], ◌∷◌, ◌++◌, Option, Some, None, refl, ap}
use Rattle.std.specs.Option.{option_map_or}
use Rattle.std.specs.Prelude.{if◌then◌else◌, slice_get}
use Rattle.sh_base.specs.declared.places.Place.{Place}
use Rattle.sh_base.specs.declared.rules.Rule.{Rule}
use Rattle.sh_base.specs.declared.rules.Rule.TheVariants.{B1, B2, B3, P1, P2, P3, L1, L2, L3, L4, L5, L6, L7, L8, L9, L10, V1, V2, V3, V4, V5, V6, V7, V8, V9, V10, V11, A1, A2, A3, A5, A6, A7, A8, A9, A10, C1, C2, C3, N1, N2, N3, N4, U1, U2, E1, E2, K1, K2, K3, K4}
use Rattle.sh_ir.specs.declared.bodies.Body.{Body}
use Rattle.sh_ir.specs.declared.bodies.BodyOp.{BodyOp}
use Rattle.sh_ir.specs.declared.functions.Carry.{Carry}
use Rattle.sh_ir.specs.declared.functions.Func.{Func}
use Rattle.sh_ir.specs.declared.modules.CallItem.{CallItem}
use Rattle.sh_ir.specs.declared.modules.GridItem.{GridItem}
use Rattle.sh_ir.specs.declared.modules.Module.{Module}
use Rattle.sh_ir.specs.declared.operations.Op.{Op}
use Rattle.sh_ir.specs.declared.operations.OpKind.{OpKind}
use Rattle.sh_ir.specs.declared.types.ValueType.{ValueType}
use Rattle.sh_ir.specs.Faults.{KeepsModule, call_faults, faults_by, func_faults, funcs_faults, grid_faults, keeps_call, keeps_func, keeps_grid, keeps_return, return_faults}
use Rattle.sh_ir.specs.Formed.{IsFormed}
use Rattle.sh_ir.specs.RegionRules.{block_of, keeps_at_yield, keeps_in_region, own_after}
use Rattle.sh_ir.specs.Rules.{body_faults, faults_at, keeps, loop_count, op_faults, ops_faults, refusal_at, region_faults}
use Rattle.sh_ir.specs.Numbers.{as_naturals}
use Rattle.sh_ir.specs.Scope.{Scope, Value, grid_item, scope_after, scope_of}
use Rattle.sh_ir.specs.Written.{written_by}
use Rattle.sh_ir.proofs.KeptLaws.{both_empty}
use Rattle.sh_collectives.specs.DeviceForms.{IsOfDevice}
use Rattle.sh_eval.specs.Sources.{IsOfSource}

-- a rule that asks nothing at any place
module _ (rule : Rule) (at_grid : (before : List GridItem) (g : GridItem) → keeps_grid rule before g ≡ true)
    (at_func : (m : Module) (before : List Func) (f : Func) → keeps_func rule m before f ≡ true)
    (at_op : (scope : Scope) (op : Op) → keeps rule scope op ≡ true)
    (at_body_op : (loops : ℕ) (outer own : List Value) (op : BodyOp) → keeps_in_region rule loops outer own op ≡ true)
    (at_yield : (outer own : List Value) (yields : ℕ) → keeps_at_yield rule outer own yields ≡ true)
    (at_return : (results : List ValueType) (op : Op) → keeps_return rule results op ≡ true)
    (at_call : (item : CallItem) → keeps_call rule item ≡ true) where
  none_here : (place : Place) (b : Bool) → b ≡ true → (if b then [] else refusal_at place rule ∷ []) ≡ []
  none_here place b e = ap (λ x. if x then [] else refusal_at place rule ∷ []) e

  in_grids : (before grids : List GridItem) → grid_faults (rule ∷ []) before grids ≡ []
  in_grids before [] = refl
  in_grids before (g ∷ grids) =
      both_empty (faults_at g.place (rule ∷ []) (λ r. keeps_grid r before g)) (grid_faults (rule ∷ []) (before ++ g ∷ []) grids)
      (none_here g.place (keeps_grid rule before g) (at_grid before g)) (in_grids (before ++ g ∷ []) grids)

  in_body : (loops : ℕ) (outer own : List Value) (ops : List BodyOp) (body : Body) → body_faults (rule ∷ []) loops outer own ops body ≡ []
  in_body loops outer own [] body = none_here body.place (keeps_at_yield rule outer own body.yields) (at_yield outer own body.yields)
  in_body loops outer own (op ∷ ops) body =
      both_empty (faults_at op.place (rule ∷ []) (λ r. keeps_in_region r loops outer own op))
      (body_faults (rule ∷ []) loops outer (own_after own op) ops body)
      (none_here op.place (keeps_in_region rule loops outer own op) (at_body_op loops outer own op))
      (in_body loops outer (own_after own op) ops body)

  in_region : (scope : Scope) (kind : OpKind) → region_faults (rule ∷ []) scope kind ≡ []
  unfolding region_faults
  in_region scope kind = go (written_by kind).body
    where
      go : (o : Option Body)
          → option_map_or (λ body. body_faults (rule ∷ []) (loop_count kind) scope.values (block_of body) body.ops body) o [] ≡ []
      go None = refl
      go (Some body) = in_body (loop_count kind) scope.values (block_of body) body.ops body

  in_op : (scope : Scope) (op : Op) → op_faults (rule ∷ []) scope op ≡ []
  unfolding op_faults
  in_op scope op =
      both_empty (faults_at op.place (rule ∷ []) (λ r. keeps r scope op)) (region_faults (rule ∷ []) scope op.kind)
      (none_here op.place (keeps rule scope op) (at_op scope op)) (in_region scope op.kind)

  in_ops : (scope : Scope) (ops : List Op) → ops_faults (rule ∷ []) scope ops ≡ []
  in_ops scope [] = refl
  in_ops scope (op ∷ ops) =
      both_empty (op_faults (rule ∷ []) scope op) (ops_faults (rule ∷ []) (scope_after scope op) ops) (in_op scope op)
      (in_ops (scope_after scope op) ops)

  in_returns : (results : List ValueType) (ops : List Op) → return_faults (rule ∷ []) results ops ≡ []
  in_returns results [] = refl
  in_returns results (op ∷ ops) =
      both_empty (faults_at op.place (rule ∷ []) (λ r. keeps_return r results op)) (return_faults (rule ∷ []) results ops)
      (none_here op.place (keeps_return rule results op) (at_return results op)) (in_returns results ops)

  in_func : (m : Module) (before : List Func) (f : Func) → func_faults (rule ∷ []) m before f ≡ []
  unfolding func_faults
  in_func m before f =
      let ops = ops_faults (rule ∷ []) (scope_of m f) f.ops in
      let last = return_faults (rule ∷ []) f.results f.ops in
      both_empty (faults_at f.place (rule ∷ []) (λ r. keeps_func r m before f)) (ops ++ last)
      (none_here f.place (keeps_func rule m before f) (at_func m before f))
      (both_empty ops last (in_ops (scope_of m f) f.ops) (in_returns f.results f.ops))

  in_funcs : (m : Module) (before funcs : List Func) → funcs_faults (rule ∷ []) m before funcs ≡ []
  in_funcs m before [] = refl
  in_funcs m before (f ∷ funcs) =
      both_empty (func_faults (rule ∷ []) m before f) (funcs_faults (rule ∷ []) m (before ++ f ∷ []) funcs) (in_func m before f)
      (in_funcs m (before ++ f ∷ []) funcs)

  in_calls : (items : List CallItem) → call_faults (rule ∷ []) items ≡ []
  in_calls [] = refl
  in_calls (item ∷ items) =
      both_empty (faults_at item.place (rule ∷ []) (λ r. keeps_call r item)) (call_faults (rule ∷ []) items)
      (none_here item.place (keeps_call rule item) (at_call item)) (in_calls items)

  unasked_kept : (m : Module) → KeepsModule rule m
  unfolding faults_by
  unasked_kept m =
      let funcs = funcs_faults (rule ∷ []) m [] m.funcs in
      let calls = call_faults (rule ∷ []) m.calls in
      both_empty (grid_faults (rule ∷ []) [] m.grids) (funcs ++ calls) (in_grids [] m.grids)
      (both_empty funcs calls (in_funcs m [] m.funcs) (in_calls m.calls))

-- the limits and the rules that are asked
pub record KeepsAsked (m : Module) : Type 0 where
  pub keeps_L2 : KeepsModule L2 m
  pub keeps_L3 : KeepsModule L3 m
  pub keeps_L4 : KeepsModule L4 m
  pub keeps_L5 : KeepsModule L5 m
  pub keeps_L6 : KeepsModule L6 m
  pub keeps_L7 : KeepsModule L7 m
  pub keeps_V1 : KeepsModule V1 m
  pub keeps_V2 : KeepsModule V2 m
  pub keeps_V3 : KeepsModule V3 m
  pub keeps_V4 : KeepsModule V4 m
  pub keeps_V5 : KeepsModule V5 m
  pub keeps_V6 : KeepsModule V6 m
  pub keeps_V7 : KeepsModule V7 m
  pub keeps_V8 : KeepsModule V8 m
  pub keeps_V9 : KeepsModule V9 m
  pub keeps_V10 : KeepsModule V10 m

-- They are all: the others ask nothing.
pub keeps_all : (m : Module) → KeepsAsked m → (rule : Rule) → KeepsModule rule m
unfolding keeps_grid keeps_func keeps keeps_in_region keeps_at_yield keeps_return keeps_call
keeps_all m asked B1 =
    unasked_kept B1 (λ b g. refl) (λ m b f. refl) (λ s p. refl) (λ l o w p. refl) (λ o w y. refl) (λ r p. refl) (λ i. refl) m
keeps_all m asked B2 =
    unasked_kept B2 (λ b g. refl) (λ m b f. refl) (λ s p. refl) (λ l o w p. refl) (λ o w y. refl) (λ r p. refl) (λ i. refl) m
keeps_all m asked B3 =
    unasked_kept B3 (λ b g. refl) (λ m b f. refl) (λ s p. refl) (λ l o w p. refl) (λ o w y. refl) (λ r p. refl) (λ i. refl) m
keeps_all m asked P1 =
    unasked_kept P1 (λ b g. refl) (λ m b f. refl) (λ s p. refl) (λ l o w p. refl) (λ o w y. refl) (λ r p. refl) (λ i. refl) m
keeps_all m asked P2 =
    unasked_kept P2 (λ b g. refl) (λ m b f. refl) (λ s p. refl) (λ l o w p. refl) (λ o w y. refl) (λ r p. refl) (λ i. refl) m
keeps_all m asked P3 =
    unasked_kept P3 (λ b g. refl) (λ m b f. refl) (λ s p. refl) (λ l o w p. refl) (λ o w y. refl) (λ r p. refl) (λ i. refl) m
keeps_all m asked L1 =
    unasked_kept L1 (λ b g. refl) (λ m b f. refl) (λ s p. refl) (λ l o w p. refl) (λ o w y. refl) (λ r p. refl) (λ i. refl) m
keeps_all m asked L2 = asked.keeps_L2
keeps_all m asked L3 = asked.keeps_L3
keeps_all m asked L4 = asked.keeps_L4
keeps_all m asked L5 = asked.keeps_L5
keeps_all m asked L6 = asked.keeps_L6
keeps_all m asked L7 = asked.keeps_L7
keeps_all m asked L8 =
    unasked_kept L8 (λ b g. refl) (λ m b f. refl) (λ s p. refl) (λ l o w p. refl) (λ o w y. refl) (λ r p. refl) (λ i. refl) m
keeps_all m asked L9 =
    unasked_kept L9 (λ b g. refl) (λ m b f. refl) (λ s p. refl) (λ l o w p. refl) (λ o w y. refl) (λ r p. refl) (λ i. refl) m
keeps_all m asked L10 =
    unasked_kept L10 (λ b g. refl) (λ m b f. refl) (λ s p. refl) (λ l o w p. refl) (λ o w y. refl) (λ r p. refl) (λ i. refl) m
keeps_all m asked V1 = asked.keeps_V1
keeps_all m asked V2 = asked.keeps_V2
keeps_all m asked V3 = asked.keeps_V3
keeps_all m asked V4 = asked.keeps_V4
keeps_all m asked V5 = asked.keeps_V5
keeps_all m asked V6 = asked.keeps_V6
keeps_all m asked V7 = asked.keeps_V7
keeps_all m asked V8 = asked.keeps_V8
keeps_all m asked V9 = asked.keeps_V9
keeps_all m asked V10 = asked.keeps_V10
keeps_all m asked V11 =
    unasked_kept V11 (λ b g. refl) (λ m b f. refl) (λ s p. refl) (λ l o w p. refl) (λ o w y. refl) (λ r p. refl) (λ i. refl) m
keeps_all m asked A1 =
    unasked_kept A1 (λ b g. refl) (λ m b f. refl) (λ s p. refl) (λ l o w p. refl) (λ o w y. refl) (λ r p. refl) (λ i. refl) m
keeps_all m asked A2 =
    unasked_kept A2 (λ b g. refl) (λ m b f. refl) (λ s p. refl) (λ l o w p. refl) (λ o w y. refl) (λ r p. refl) (λ i. refl) m
keeps_all m asked A3 =
    unasked_kept A3 (λ b g. refl) (λ m b f. refl) (λ s p. refl) (λ l o w p. refl) (λ o w y. refl) (λ r p. refl) (λ i. refl) m
keeps_all m asked A5 =
    unasked_kept A5 (λ b g. refl) (λ m b f. refl) (λ s p. refl) (λ l o w p. refl) (λ o w y. refl) (λ r p. refl) (λ i. refl) m
keeps_all m asked A6 =
    unasked_kept A6 (λ b g. refl) (λ m b f. refl) (λ s p. refl) (λ l o w p. refl) (λ o w y. refl) (λ r p. refl) (λ i. refl) m
keeps_all m asked A7 =
    unasked_kept A7 (λ b g. refl) (λ m b f. refl) (λ s p. refl) (λ l o w p. refl) (λ o w y. refl) (λ r p. refl) (λ i. refl) m
keeps_all m asked A8 =
    unasked_kept A8 (λ b g. refl) (λ m b f. refl) (λ s p. refl) (λ l o w p. refl) (λ o w y. refl) (λ r p. refl) (λ i. refl) m
keeps_all m asked A9 =
    unasked_kept A9 (λ b g. refl) (λ m b f. refl) (λ s p. refl) (λ l o w p. refl) (λ o w y. refl) (λ r p. refl) (λ i. refl) m
keeps_all m asked A10 =
    unasked_kept A10 (λ b g. refl) (λ m b f. refl) (λ s p. refl) (λ l o w p. refl) (λ o w y. refl) (λ r p. refl) (λ i. refl) m
keeps_all m asked C1 =
    unasked_kept C1 (λ b g. refl) (λ m b f. refl) (λ s p. refl) (λ l o w p. refl) (λ o w y. refl) (λ r p. refl) (λ i. refl) m
keeps_all m asked C2 =
    unasked_kept C2 (λ b g. refl) (λ m b f. refl) (λ s p. refl) (λ l o w p. refl) (λ o w y. refl) (λ r p. refl) (λ i. refl) m
keeps_all m asked C3 =
    unasked_kept C3 (λ b g. refl) (λ m b f. refl) (λ s p. refl) (λ l o w p. refl) (λ o w y. refl) (λ r p. refl) (λ i. refl) m
keeps_all m asked N1 =
    unasked_kept N1 (λ b g. refl) (λ m b f. refl) (λ s p. refl) (λ l o w p. refl) (λ o w y. refl) (λ r p. refl) (λ i. refl) m
keeps_all m asked N2 =
    unasked_kept N2 (λ b g. refl) (λ m b f. refl) (λ s p. refl) (λ l o w p. refl) (λ o w y. refl) (λ r p. refl) (λ i. refl) m
keeps_all m asked N3 =
    unasked_kept N3 (λ b g. refl) (λ m b f. refl) (λ s p. refl) (λ l o w p. refl) (λ o w y. refl) (λ r p. refl) (λ i. refl) m
keeps_all m asked N4 =
    unasked_kept N4 (λ b g. refl) (λ m b f. refl) (λ s p. refl) (λ l o w p. refl) (λ o w y. refl) (λ r p. refl) (λ i. refl) m
keeps_all m asked U1 =
    unasked_kept U1 (λ b g. refl) (λ m b f. refl) (λ s p. refl) (λ l o w p. refl) (λ o w y. refl) (λ r p. refl) (λ i. refl) m
keeps_all m asked U2 =
    unasked_kept U2 (λ b g. refl) (λ m b f. refl) (λ s p. refl) (λ l o w p. refl) (λ o w y. refl) (λ r p. refl) (λ i. refl) m
keeps_all m asked E1 =
    unasked_kept E1 (λ b g. refl) (λ m b f. refl) (λ s p. refl) (λ l o w p. refl) (λ o w y. refl) (λ r p. refl) (λ i. refl) m
keeps_all m asked E2 =
    unasked_kept E2 (λ b g. refl) (λ m b f. refl) (λ s p. refl) (λ l o w p. refl) (λ o w y. refl) (λ r p. refl) (λ i. refl) m
keeps_all m asked K1 =
    unasked_kept K1 (λ b g. refl) (λ m b f. refl) (λ s p. refl) (λ l o w p. refl) (λ o w y. refl) (λ r p. refl) (λ i. refl) m
keeps_all m asked K2 =
    unasked_kept K2 (λ b g. refl) (λ m b f. refl) (λ s p. refl) (λ l o w p. refl) (λ o w y. refl) (λ r p. refl) (λ i. refl) m
keeps_all m asked K3 =
    unasked_kept K3 (λ b g. refl) (λ m b f. refl) (λ s p. refl) (λ l o w p. refl) (λ o w y. refl) (λ r p. refl) (λ i. refl) m
keeps_all m asked K4 =
    unasked_kept K4 (λ b g. refl) (λ m b f. refl) (λ s p. refl) (λ l o w p. refl) (λ o w y. refl) (λ r p. refl) (λ i. refl) m

-- A function in source form of a formed module that keeps them.
pub of_source : (m : Module) (place : ℕ) (f : Func) → IsFormed m → KeepsAsked m → slice_get m.funcs place ≡ Some f → f.carry ≡ None
    → IsOfSource f
of_source m place f formed asked stands source =
    record { whole = m; formed = formed; keeps = keeps_all m asked; place = place; stands = stands; source = source }

-- And one in device form, on the grid that it is carried on.
pub of_device : (m : Module) (place : ℕ) (f : Func) (carry : Carry) (item : GridItem) (grid : List ℕ) → IsFormed m → KeepsAsked m
    → slice_get m.funcs place ≡ Some f → f.carry ≡ Some carry → grid_item m.grids carry.grid ≡ Some item
    → grid ≡ as_naturals item.extents → IsOfDevice f grid
of_device m place f carry item grid formed asked stands carried named extents =
    record {
      verified = record { whole = m; formed = formed; keeps = keeps_all m asked; place = place; stands = stands };
      carry = carry;
      carried = carried;
      item = item;
      named = named;
      extents = extents;
    }
