-- A module that keeps each of some rules has no fault of them, and a verified one none at all.
use mathlib.Core.Path.{◌∙◌, ap, sym, refl}
use mathlib.Core.Bool.{true≢false}
use Rattle.std.proofs.Common.{◌≡◌, ◌⊎◌, inl, inr, ℕ, List, [], ◌∷◌, ◌++◌, Bool, true, false, subst}
use Rattle.std.specs.Prelude.{Option, Some, None, Contains, flat_map, if◌then◌else◌}
use Rattle.std.specs.List.{AllByRecursion}
use Rattle.std.specs.Option.{option_map_or}
use Rattle.std.proofs.lemmas.List.Elements.{All-from_recursion}
use Rattle.sh_base.specs.declared.places.Place.{Place}
use Rattle.sh_base.specs.declared.places.Refusal.{Refusal}
use Rattle.sh_base.specs.declared.rules.Rule.{Rule}
use Rattle.sh_base.specs.declared.rules.Rule.TheVariants.{V1, V2, V3, V4, V5, V6, V7, V8, V9, V10}
use Rattle.sh_ir.specs.declared.bodies.Body.{Body}
use Rattle.sh_ir.specs.declared.bodies.BodyOp.{BodyOp}
use Rattle.sh_ir.specs.declared.functions.Func.{Func}
use Rattle.sh_ir.specs.declared.modules.CallItem.{CallItem}
use Rattle.sh_ir.specs.declared.modules.GridItem.{GridItem}
use Rattle.sh_ir.specs.declared.modules.Module.{Module}
use Rattle.sh_ir.specs.declared.operations.Op.{Op}
use Rattle.sh_ir.specs.declared.types.ValueType.{ValueType}
use Rattle.sh_ir.specs.Faults.{KeepsModule, call_faults, faults_by, func_faults, funcs_faults, grid_faults, keeps_call, keeps_func, keeps_grid, keeps_return, return_faults, rule_faults}
use Rattle.sh_ir.specs.RegionRules.{block_of, keeps_at_yield, keeps_in_region, own_after}
use Rattle.sh_ir.specs.Rules.{body_faults, faults_at, keeps, loop_count, op_faults, ops_faults, refusal_at, region_faults}
use Rattle.sh_ir.specs.Scope.{Scope, Value, scope_after, scope_of}
use Rattle.sh_ir.specs.Written.{written_by}
use Rattle.sh_ir.proofs.KeptLaws.{left_empty, right_empty}
use Rattle.sh_sharding.specs.CutRules.{IsCutFault, KeepsCuts}
use Rattle.sh_verify.specs.Least.{StandsIn}
use Rattle.sh_verify.specs.Verified.{IsFault, IsVerified}

-- two lists in parts: where the parts of both are without a fault, so are those of a third
joined : (a b c d : List Refusal) {x y : List Refusal} → (a ≡ [] → c ≡ [] → x ≡ []) → (b ≡ [] → d ≡ [] → y ≡ [])
    → a ++ b ≡ [] → c ++ d ≡ [] → x ++ y ≡ []
joined a b c d {x} {y} first second e f =
    ap (λ z. z ++ y) (first (left_empty a b e) (left_empty c d f)) ∙ second (right_empty a b e) (right_empty c d f)

module _ (rule : Rule) (rules : List Rule) where
  -- at one place: the rule is kept, and so are the further ones
  at_place : (place : Place) (kept : Rule → Bool) → faults_at place (rule ∷ []) kept ≡ [] → faults_at place rules kept ≡ []
      → faults_at place (rule ∷ rules) kept ≡ []
  at_place place kept e f = by (kept rule) e
    where
      by : (b : Bool) → (if b then [] else refusal_at place rule ∷ []) ≡ []
          → (if b then faults_at place rules kept else refusal_at place rule ∷ faults_at place rules kept) ≡ []
      by true e = f
      by false e = absurd (cc)

  in_body : (loops : ℕ) (outer own : List Value) (ops : List BodyOp) (body : Body)
      → body_faults (rule ∷ []) loops outer own ops body ≡ [] → body_faults rules loops outer own ops body ≡ []
      → body_faults (rule ∷ rules) loops outer own ops body ≡ []
  in_body loops outer own [] body e f = at_place body.place (λ r. keeps_at_yield r outer own body.yields) e f
  in_body loops outer own (op ∷ ops) body e f =
      let kept : Rule → Bool = λ r. keeps_in_region r loops outer own op in
      joined (faults_at op.place (rule ∷ []) kept) (body_faults (rule ∷ []) loops outer (own_after own op) ops body)
      (faults_at op.place rules kept) (body_faults rules loops outer (own_after own op) ops body)
      (at_place op.place kept) (in_body loops outer (own_after own op) ops body) e f

  in_region : (loops : ℕ) (outer : List Value) (body : Option Body)
      → option_map_or (λ b. body_faults (rule ∷ []) loops outer (block_of b) b.ops b) body [] ≡ []
      → option_map_or (λ b. body_faults rules loops outer (block_of b) b.ops b) body [] ≡ []
      → option_map_or (λ b. body_faults (rule ∷ rules) loops outer (block_of b) b.ops b) body [] ≡ []
  in_region loops outer None e f = refl
  in_region loops outer (Some body) e f = in_body loops outer (block_of body) body.ops body e f

  in_op : (scope : Scope) (op : Op) → op_faults (rule ∷ []) scope op ≡ [] → op_faults rules scope op ≡ []
      → op_faults (rule ∷ rules) scope op ≡ []
  unfolding op_faults region_faults
  in_op scope op e f =
      let kept : Rule → Bool = λ r. keeps r scope op in
      joined (faults_at op.place (rule ∷ []) kept) (region_faults (rule ∷ []) scope op.kind)
      (faults_at op.place rules kept) (region_faults rules scope op.kind)
      (at_place op.place kept) (in_region (loop_count op.kind) scope.values (written_by op.kind).body) e f

  in_ops : (scope : Scope) (ops : List Op) → ops_faults (rule ∷ []) scope ops ≡ [] → ops_faults rules scope ops ≡ []
      → ops_faults (rule ∷ rules) scope ops ≡ []
  in_ops scope [] e f = refl
  in_ops scope (op ∷ ops) e f =
      joined (op_faults (rule ∷ []) scope op) (ops_faults (rule ∷ []) (scope_after scope op) ops)
      (op_faults rules scope op) (ops_faults rules (scope_after scope op) ops)
      (in_op scope op) (in_ops (scope_after scope op) ops) e f

  in_returns : (results : List ValueType) (ops : List Op) → return_faults (rule ∷ []) results ops ≡ [] → return_faults rules results ops ≡ []
      → return_faults (rule ∷ rules) results ops ≡ []
  in_returns results [] e f = refl
  in_returns results (op ∷ ops) e f =
      let kept : Rule → Bool = λ r. keeps_return r results op in
      joined (faults_at op.place (rule ∷ []) kept) (return_faults (rule ∷ []) results ops)
      (faults_at op.place rules kept) (return_faults rules results ops)
      (at_place op.place kept) (in_returns results ops) e f

  in_func : (m : Module) (before : List Func) (g : Func) → func_faults (rule ∷ []) m before g ≡ [] → func_faults rules m before g ≡ []
      → func_faults (rule ∷ rules) m before g ≡ []
  unfolding func_faults
  in_func m before g e f =
      let kept : Rule → Bool = λ r. keeps_func r m before g in
      let scope = scope_of m g in
      joined (faults_at g.place (rule ∷ []) kept) (ops_faults (rule ∷ []) scope g.ops ++ return_faults (rule ∷ []) g.results g.ops)
      (faults_at g.place rules kept) (ops_faults rules scope g.ops ++ return_faults rules g.results g.ops)
      (at_place g.place kept)
      (joined (ops_faults (rule ∷ []) scope g.ops) (return_faults (rule ∷ []) g.results g.ops)
      (ops_faults rules scope g.ops) (return_faults rules g.results g.ops)
      (in_ops scope g.ops) (in_returns g.results g.ops)) e f

  in_funcs : (m : Module) (before funcs : List Func) → funcs_faults (rule ∷ []) m before funcs ≡ [] → funcs_faults rules m before funcs ≡ []
      → funcs_faults (rule ∷ rules) m before funcs ≡ []
  in_funcs m before [] e f = refl
  in_funcs m before (g ∷ funcs) e f =
      joined (func_faults (rule ∷ []) m before g) (funcs_faults (rule ∷ []) m (before ++ g ∷ []) funcs)
      (func_faults rules m before g) (funcs_faults rules m (before ++ g ∷ []) funcs)
      (in_func m before g) (in_funcs m (before ++ g ∷ []) funcs) e f

  in_grids : (before grids : List GridItem) → grid_faults (rule ∷ []) before grids ≡ [] → grid_faults rules before grids ≡ []
      → grid_faults (rule ∷ rules) before grids ≡ []
  in_grids before [] e f = refl
  in_grids before (g ∷ grids) e f =
      let kept : Rule → Bool = λ r. keeps_grid r before g in
      joined (faults_at g.place (rule ∷ []) kept) (grid_faults (rule ∷ []) (before ++ g ∷ []) grids)
      (faults_at g.place rules kept) (grid_faults rules (before ++ g ∷ []) grids)
      (at_place g.place kept) (in_grids (before ++ g ∷ []) grids) e f

  in_calls : (items : List CallItem) → call_faults (rule ∷ []) items ≡ [] → call_faults rules items ≡ []
      → call_faults (rule ∷ rules) items ≡ []
  in_calls [] e f = refl
  in_calls (item ∷ items) e f =
      let kept : Rule → Bool = λ r. keeps_call r item in
      joined (faults_at item.place (rule ∷ []) kept) (call_faults (rule ∷ []) items)
      (faults_at item.place rules kept) (call_faults rules items)
      (at_place item.place kept) (in_calls items) e f

  -- a module that keeps a rule and some further ones has no fault of them all
  one_more : (m : Module) → KeepsModule rule m → faults_by rules m ≡ [] → faults_by (rule ∷ rules) m ≡ []
  unfolding faults_by
  one_more m e f =
      joined (grid_faults (rule ∷ []) [] m.grids) (funcs_faults (rule ∷ []) m [] m.funcs ++ call_faults (rule ∷ []) m.calls)
      (grid_faults rules [] m.grids) (funcs_faults rules m [] m.funcs ++ call_faults rules m.calls)
      (in_grids [] m.grids)
      (joined (funcs_faults (rule ∷ []) m [] m.funcs) (call_faults (rule ∷ []) m.calls)
      (funcs_faults rules m [] m.funcs) (call_faults rules m.calls)
      (in_funcs m [] m.funcs) (in_calls m.calls)) e f

no_rule_fault : (m : Module) → IsVerified m → rule_faults m ≡ []
no_rule_fault m v =
    one_more V1 (V2 ∷ V3 ∷ V4 ∷ V5 ∷ V6 ∷ V7 ∷ V8 ∷ V9 ∷ V10 ∷ []) m v.keeps_V1
    (one_more V2 (V3 ∷ V4 ∷ V5 ∷ V6 ∷ V7 ∷ V8 ∷ V9 ∷ V10 ∷ []) m v.keeps_V2
    (one_more V3 (V4 ∷ V5 ∷ V6 ∷ V7 ∷ V8 ∷ V9 ∷ V10 ∷ []) m v.keeps_V3
    (one_more V4 (V5 ∷ V6 ∷ V7 ∷ V8 ∷ V9 ∷ V10 ∷ []) m v.keeps_V4
    (one_more V5 (V6 ∷ V7 ∷ V8 ∷ V9 ∷ V10 ∷ []) m v.keeps_V5
    (one_more V6 (V7 ∷ V8 ∷ V9 ∷ V10 ∷ []) m v.keeps_V6
    (one_more V7 (V8 ∷ V9 ∷ V10 ∷ []) m v.keeps_V7
    (one_more V8 (V9 ∷ V10 ∷ []) m v.keeps_V8
    (one_more V9 (V10 ∷ []) m v.keeps_V9 v.keeps_V10))))))))

kept_cuts : (m : Module) → IsVerified m → (f : Func) → Contains m.funcs f → KeepsCuts m f
kept_cuts m v f (at, within, is) = subst (KeepsCuts m) is (All-from_recursion (KeepsCuts m) m.funcs v.cuts at f within)

-- A verified module has no fault of a rule.
pub no_fault : (m : Module) → IsVerified m → (r : Refusal) → ¬ (IsFault m r)
no_fault m v r (inl there) = subst (λ rs. StandsIn rs r) (no_rule_fault m v) there
no_fault m v r (inr fault) = fault.broken (kept_cuts m v fault.func fault.there)
