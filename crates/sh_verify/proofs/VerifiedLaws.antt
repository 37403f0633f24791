-- From the faults that are found to what a verified module keeps, and to the least fault of another.
use mathlib.Core.Path.{◌∙◌, ap, sym, refl}
use mathlib.Core.Bool.{true≢false}
use Rattle.std.proofs.Common.{◌≡◌, ◌⊎◌, inl, inr, ℕ, zero, suc, ◌<◌, List, [], ◌∷◌, ◌++◌, Bool, true, false, ◌&&◌, length, arith, subst}
use Rattle.std.proofs.lemmas.List.Elements.{All-from_recursion}
use Rattle.std.specs.Prelude.{◌↔◌, Option, Some, None, Contains, IsTrue, MatchOption, ⊤, flat_map, if◌then◌else◌, slice_index_or}
use Rattle.std.specs.Cmp.{IsTotalOrder}
use Rattle.std.specs.List.{All, AllByRecursion, list_all}
use Rattle.std.specs.Option.{option_map_or}
use Rattle.sh_base.specs.declared.places.Place.{Place}
use Rattle.sh_base.specs.declared.places.Refusal.{Refusal}
use Rattle.sh_base.specs.declared.rules.Rule.{Rule}
use Rattle.sh_base.specs.declared.rules.Rule.TheVariants.{L2, L3, L4, L5, L6, L7, V1, V2, V3, V4, V5, V6, V7, V8, V9, V10}
use Rattle.sh_ir.specs.declared.bodies.Body.{Body}
use Rattle.sh_ir.specs.declared.bodies.BodyOp.{BodyOp}
use Rattle.sh_ir.specs.declared.functions.Carry.{Carry}
use Rattle.sh_ir.specs.declared.functions.Cut.{Cut}
use Rattle.sh_ir.specs.declared.functions.Func.{Func}
use Rattle.sh_ir.specs.declared.modules.CallItem.{CallItem}
use Rattle.sh_ir.specs.declared.modules.GridItem.{GridItem}
use Rattle.sh_ir.specs.declared.modules.Module.{Module}
use Rattle.sh_ir.specs.declared.operations.Op.{Op}
use Rattle.sh_ir.specs.declared.types.ValueType.{ValueType}
use Rattle.sh_ir.specs.Faults.{KeepsModule, call_faults, faults_by, func_faults, funcs_faults, grid_faults, keeps_call, keeps_func, keeps_grid, keeps_return, limit_faults, return_faults, rule_faults, the_limits, the_rules}
use Rattle.sh_ir.specs.Formed.{CutsOnGrid, IsFormed, cuts_in}
use Rattle.sh_ir.specs.Limits.{has_few_cells, has_few_dims}
use Rattle.sh_ir.specs.RegionRules.{block_of, keeps_at_yield, keeps_in_region, own_after}
use Rattle.sh_ir.specs.Rules.{body_faults, faults_at, keeps, loop_count, op_faults, ops_faults, refusal_at, region_faults}
use Rattle.sh_ir.specs.Scope.{Scope, Value, scope_after, scope_of}
use Rattle.sh_ir.specs.Written.{written_by}
use Rattle.sh_ir.proofs.KeptLaws.{both_empty, left_empty, right_empty}
use Rattle.sh_sharding.specs.CutRules.{IsCutFault, KeepsCuts}
use Rattle.sh_verify.specs.CutFaults.{AreCutFaults, HasReadyCuts, IsReadyCut}
use Rattle.sh_verify.specs.Least.{StandsIn, by_place, fault_unless, least_of}
use Rattle.sh_verify.specs.LimitFaults.{all_in_func, func_head_limits, func_limits, grid_limits, module_limits}
use Rattle.sh_verify.specs.Verified.{IsFault, IsLeastFault, IsVerified}
use Rattle.sh_verify.specs.RuleFaults.{module_rules}
use Rattle.sh_verify.proofs.LeastLaws.{least_of_both}
use Rattle.sh_verify.proofs.LimitLaws.{limits_found}
use Rattle.sh_verify.proofs.RuleLaws.{all_rules}
use Rattle.sh_verify.proofs.OrderLaws.{least_found, none_found}

-- ---- lists without a fault

-- each part of a list goes over to a part of another
parts_empty : (a b c d : List Refusal) → (a ≡ [] → c ≡ []) → (b ≡ [] → d ≡ []) → a ++ b ≡ [] → c ++ d ≡ []
parts_empty a b c d first second e = both_empty c d (first (left_empty a b e)) (second (right_empty a b e))

kept_unless : (b : Bool) (r : Refusal) → (if b then [] else r ∷ []) ≡ [] → b ≡ true
kept_unless true r e = refl
kept_unless false r e = absurd (cc)

-- ---- one rule of those that are asked

abbrev Among : Rule → List Rule → Type 0
Among rule [] = ⊥
Among rule (r ∷ rules) = (r ≡ rule) ⊎ Among rule rules

here : (b : Bool) (r : Refusal) → b ≡ true → (if b then [] else r ∷ []) ≡ []
here b r e = ap (λ x. if x then [] else r ∷ []) e

kept_at : (place : Place) (asked : List Rule) (rule : Rule) (kept : Rule → Bool) → Among rule asked
    → faults_at place asked kept ≡ [] → faults_at place (rule ∷ []) kept ≡ []
kept_at place [] rule kept among e = absurd among
kept_at place (r ∷ rules) rule kept among e = by (kept r) refl among (kept_at place rules rule kept) e
  where
    by : (b : Bool) → kept r ≡ b → (r ≡ rule) ⊎ Among rule rules
        → (Among rule rules → faults_at place rules kept ≡ [] → faults_at place (rule ∷ []) kept ≡ [])
        → (if b then faults_at place rules kept else refusal_at place r ∷ faults_at place rules kept) ≡ []
        → faults_at place (rule ∷ []) kept ≡ []
    by true k (inl same) rest f = here (kept rule) (refusal_at place rule) (sym (ap kept same) ∙ k)
    by true k (inr further) rest f = rest further f
    by false k there rest f = absurd (cc)

module _ (asked : List Rule) (rule : Rule) (among : Among rule asked) where
  of_body : (loops : ℕ) (outer own : List Value) (ops : List BodyOp) (body : Body)
      → body_faults asked loops outer own ops body ≡ [] → body_faults (rule ∷ []) loops outer own ops body ≡ []
  of_body loops outer own [] body e = kept_at body.place asked rule (λ r. keeps_at_yield r outer own body.yields) among e
  of_body loops outer own (op ∷ ops) body e =
      let kept : Rule → Bool = λ r. keeps_in_region r loops outer own op in
      parts_empty (faults_at op.place asked kept) (body_faults asked loops outer (own_after own op) ops body)
      (faults_at op.place (rule ∷ []) kept) (body_faults (rule ∷ []) loops outer (own_after own op) ops body)
      (kept_at op.place asked rule kept among) (of_body loops outer (own_after own op) ops body) e

  of_region : (loops : ℕ) (outer : List Value) (body : Option Body)
      → option_map_or (λ b. body_faults asked loops outer (block_of b) b.ops b) body [] ≡ []
      → option_map_or (λ b. body_faults (rule ∷ []) loops outer (block_of b) b.ops b) body [] ≡ []
  of_region loops outer None e = refl
  of_region loops outer (Some body) e = of_body loops outer (block_of body) body.ops body e

  of_op : (scope : Scope) (op : Op) → op_faults asked scope op ≡ [] → op_faults (rule ∷ []) scope op ≡ []
  unfolding op_faults region_faults
  of_op scope op e =
      let kept : Rule → Bool = λ r. keeps r scope op in
      parts_empty (faults_at op.place asked kept) (region_faults asked scope op.kind)
      (faults_at op.place (rule ∷ []) kept) (region_faults (rule ∷ []) scope op.kind)
      (kept_at op.place asked rule kept among) (of_region (loop_count op.kind) scope.values (written_by op.kind).body) e

  of_ops : (scope : Scope) (ops : List Op) → ops_faults asked scope ops ≡ [] → ops_faults (rule ∷ []) scope ops ≡ []
  of_ops scope [] e = refl
  of_ops scope (op ∷ ops) e =
      parts_empty (op_faults asked scope op) (ops_faults asked (scope_after scope op) ops)
      (op_faults (rule ∷ []) scope op) (ops_faults (rule ∷ []) (scope_after scope op) ops)
      (of_op scope op) (of_ops (scope_after scope op) ops) e

  of_returns : (results : List ValueType) (ops : List Op) → return_faults asked results ops ≡ [] → return_faults (rule ∷ []) results ops ≡ []
  of_returns results [] e = refl
  of_returns results (op ∷ ops) e =
      let kept : Rule → Bool = λ r. keeps_return r results op in
      parts_empty (faults_at op.place asked kept) (return_faults asked results ops)
      (faults_at op.place (rule ∷ []) kept) (return_faults (rule ∷ []) results ops)
      (kept_at op.place asked rule kept among) (of_returns results ops) e

  of_func : (m : Module) (before : List Func) (f : Func) → func_faults asked m before f ≡ [] → func_faults (rule ∷ []) m before f ≡ []
  unfolding func_faults
  of_func m before f e =
      let kept : Rule → Bool = λ r. keeps_func r m before f in
      let scope = scope_of m f in
      parts_empty (faults_at f.place asked kept) (ops_faults asked scope f.ops ++ return_faults asked f.results f.ops)
      (faults_at f.place (rule ∷ []) kept) (ops_faults (rule ∷ []) scope f.ops ++ return_faults (rule ∷ []) f.results f.ops)
      (kept_at f.place asked rule kept among)
      (parts_empty (ops_faults asked scope f.ops) (return_faults asked f.results f.ops)
      (ops_faults (rule ∷ []) scope f.ops) (return_faults (rule ∷ []) f.results f.ops)
      (of_ops scope f.ops) (of_returns f.results f.ops)) e

  of_funcs : (m : Module) (before funcs : List Func) → funcs_faults asked m before funcs ≡ [] → funcs_faults (rule ∷ []) m before funcs ≡ []
  of_funcs m before [] e = refl
  of_funcs m before (f ∷ funcs) e =
      parts_empty (func_faults asked m before f) (funcs_faults asked m (before ++ f ∷ []) funcs)
      (func_faults (rule ∷ []) m before f) (funcs_faults (rule ∷ []) m (before ++ f ∷ []) funcs)
      (of_func m before f) (of_funcs m (before ++ f ∷ []) funcs) e

  of_grids : (before grids : List GridItem) → grid_faults asked before grids ≡ [] → grid_faults (rule ∷ []) before grids ≡ []
  of_grids before [] e = refl
  of_grids before (g ∷ grids) e =
      let kept : Rule → Bool = λ r. keeps_grid r before g in
      parts_empty (faults_at g.place asked kept) (grid_faults asked (before ++ g ∷ []) grids)
      (faults_at g.place (rule ∷ []) kept) (grid_faults (rule ∷ []) (before ++ g ∷ []) grids)
      (kept_at g.place asked rule kept among) (of_grids (before ++ g ∷ []) grids) e

  of_calls : (items : List CallItem) → call_faults asked items ≡ [] → call_faults (rule ∷ []) items ≡ []
  of_calls [] e = refl
  of_calls (item ∷ items) e =
      let kept : Rule → Bool = λ r. keeps_call r item in
      parts_empty (faults_at item.place asked kept) (call_faults asked items)
      (faults_at item.place (rule ∷ []) kept) (call_faults (rule ∷ []) items)
      (kept_at item.place asked rule kept among) (of_calls items) e

  -- A module without a fault of the asked rules keeps each of them.
  kept_module : (m : Module) → faults_by asked m ≡ [] → KeepsModule rule m
  unfolding faults_by
  kept_module m e =
      parts_empty (grid_faults asked [] m.grids) (funcs_faults asked m [] m.funcs ++ call_faults asked m.calls)
      (grid_faults (rule ∷ []) [] m.grids) (funcs_faults (rule ∷ []) m [] m.funcs ++ call_faults (rule ∷ []) m.calls)
      (of_grids [] m.grids)
      (parts_empty (funcs_faults asked m [] m.funcs) (call_faults asked m.calls)
      (funcs_faults (rule ∷ []) m [] m.funcs) (call_faults (rule ∷ []) m.calls)
      (of_funcs m [] m.funcs) (of_calls m.calls)) e

-- ---- the faults of cuts

stands_split : (a b : List Refusal) (r : Refusal) → StandsIn (a ++ b) r → StandsIn a r ⊎ StandsIn b r
stands_split [] b r there = inr there
stands_split (x ∷ a) b r (inl same) = inl (inl same)
stands_split (x ∷ a) b r (inr further) = by (stands_split a b r further)
  where
    by : StandsIn a r ⊎ StandsIn b r → StandsIn (x ∷ a) r ⊎ StandsIn b r
    by (inl first) = inl (inr first)
    by (inr second) = inr second

stands_left : (a b : List Refusal) (r : Refusal) → StandsIn a r → StandsIn (a ++ b) r
stands_left [] b r there = absurd there
stands_left (x ∷ a) b r (inl same) = inl same
stands_left (x ∷ a) b r (inr further) = inr (stands_left a b r further)

stands_right : (a b : List Refusal) (r : Refusal) → StandsIn b r → StandsIn (a ++ b) r
stands_right [] b r there = there
stands_right (x ∷ a) b r there = inr (stands_right a b r there)

-- a function among these whose cuts break the rule
record IsCutFaultOf (m : Module) (funcs : List Func) (r : Refusal) : Type 0 where
  func : Func
  there : Contains funcs func
  broken : ¬ KeepsCuts m func
  fault : r ≡ refusal_at func.place V10

further_func : (m : Module) (f : Func) (funcs : List Func) (r : Refusal) → IsCutFaultOf m funcs r → IsCutFaultOf m (f ∷ funcs) r
further_func m f funcs r x = record {
  func = x.func;
  there = (suc x.there.0, omega (arith, x.there.1), x.there.2);
  broken = x.broken;
  fault = x.fault;
}

first_func : (m : Module) (f : Func) (funcs : List Func) (r : Refusal) (kept : Bool) → IsTrue kept ↔ KeepsCuts m f
    → StandsIn (fault_unless kept f.place V10) r → IsCutFaultOf m (f ∷ funcs) r
first_func m f funcs r true decides there = absurd there
first_func m f funcs r false decides (inl same) = record {
  func = f;
  there = (0, omega arith, refl);
  broken = λ w. true≢false (sym (decides.1 w));
  fault = sym same;
}
first_func m f funcs r false decides (inr further) = absurd further

cuts_sound : (m : Module) (funcs : List Func) (faults : List Refusal) (r : Refusal) → AreCutFaults m funcs faults
    → StandsIn faults r → IsCutFaultOf m funcs r
cuts_sound m [] faults r none there = absurd (subst (λ fs. StandsIn fs r) none there)
cuts_sound m (f ∷ funcs) faults r (kept, rest, decides, is, further) there =
    by (stands_split (fault_unless kept f.place V10) rest r (subst (λ fs. StandsIn fs r) is there)) (cuts_sound m funcs rest r further)
  where
    by : StandsIn (fault_unless kept f.place V10) r ⊎ StandsIn rest r
        → (StandsIn rest r → IsCutFaultOf m funcs r) → IsCutFaultOf m (f ∷ funcs) r
    by (inl first) later = first_func m f funcs r kept decides first
    by (inr second) later = further_func m f funcs r (later second)

cuts_complete : (m : Module) (funcs : List Func) (faults : List Refusal) (f : Func) (k : ℕ) → AreCutFaults m funcs faults
    → k < length funcs → slice_index_or funcs k f ≡ f → ¬ KeepsCuts m f → StandsIn faults (refusal_at f.place V10)
cuts_complete m [] faults f k none within at broken = absurd (omega (arith, within))
cuts_complete m (x ∷ funcs) faults f zero (kept, rest, decides, is, further) within at broken =
    subst (λ fs. StandsIn fs (refusal_at f.place V10)) (sym is) (by kept decides)
  where
    by : (b : Bool) → IsTrue b ↔ KeepsCuts m x → StandsIn (fault_unless b x.place V10 ++ rest) (refusal_at f.place V10)
    by true asked = absurd (broken (subst (KeepsCuts m) at (asked.0 refl)))
    by false asked = inl (ap (λ y. refusal_at y.place V10) at)
cuts_complete m (x ∷ funcs) faults f (suc k) (kept, rest, decides, is, further) within at broken =
    subst (λ fs. StandsIn fs (refusal_at f.place V10)) (sym is)
    (stands_right (fault_unless kept x.place V10) rest (refusal_at f.place V10)
    (cuts_complete m funcs rest f k further (omega (arith, within)) at broken))

cuts_kept : (m : Module) (funcs : List Func) (faults : List Refusal) → AreCutFaults m funcs faults → faults ≡ []
    → AllByRecursion (KeepsCuts m) funcs
cuts_kept m [] faults none empty = tt
cuts_kept m (f ∷ funcs) faults (kept, rest, decides, is, further) empty =
    let e = sym is ∙ empty in (
      decides.0 (kept_unless kept (refusal_at f.place V10) (left_empty (fault_unless kept f.place V10) rest e)),
      cuts_kept m funcs rest further (right_empty (fault_unless kept f.place V10) rest e),
    )

-- ---- answers

fault_of : (m : Module) (cuts : List Refusal) (r : Refusal) → AreCutFaults m m.funcs cuts → StandsIn (rule_faults m ++ cuts) r → IsFault m r
fault_of m cuts r of_cuts there = by (stands_split (rule_faults m) cuts r there)
  where
    of : IsCutFaultOf m m.funcs r → IsCutFault m r
    of x = record { func = x.func; there = x.there; broken = x.broken; fault = x.fault }

    by : StandsIn (rule_faults m) r ⊎ StandsIn cuts r → IsFault m r
    by (inl rule) = inl rule
    by (inr cut) = inr (of (cuts_sound m m.funcs cuts r of_cuts cut))

found_of : (m : Module) (cuts : List Refusal) (r : Refusal) → AreCutFaults m m.funcs cuts → IsFault m r → StandsIn (rule_faults m ++ cuts) r
found_of m cuts r of_cuts (inl rule) = stands_left (rule_faults m) cuts r rule
found_of m cuts r of_cuts (inr x) =
    stands_right (rule_faults m) cuts r
    (subst (StandsIn cuts) (sym x.fault) (cuts_complete m m.funcs cuts x.func x.there.0 of_cuts x.there.1 x.there.2 x.broken))

-- The least of those that are found is the least fault.
pub least_fault : (m : Module) (cuts : List Refusal) (r : Refusal) → IsTotalOrder by_place → AreCutFaults m m.funcs cuts
    → least_of by_place None (rule_faults m ++ cuts) ≡ Some r → IsLeastFault m r
least_fault m cuts r total of_cuts found =
    let least = least_found by_place total (rule_faults m ++ cuts) r found in
    record {
      there = fault_of m cuts r of_cuts least.there;
      first = λ other fault. least.first other (found_of m cuts other of_cuts fault);
    }

-- A module without any is verified.
pub verified_by : (m : Module) (cuts : List Refusal) → IsFormed m → limit_faults m ≡ [] → AreCutFaults m m.funcs cuts
    → least_of by_place None (rule_faults m ++ cuts) ≡ None → IsVerified m
verified_by m cuts formed within of_cuts found =
    let none = none_found by_place (rule_faults m ++ cuts) found in
    let rules : faults_by the_rules m ≡ [] = left_empty (rule_faults m) cuts none in
    let limit : (rule : Rule) → Among rule the_limits → KeepsModule rule m = λ rule among. kept_module the_limits rule among m within in
    let kept : (rule : Rule) → Among rule the_rules → KeepsModule rule m = λ rule among. kept_module the_rules rule among m rules in
    record {
      formed = formed;
      keeps_L2 = limit L2 (inl refl);
      keeps_L3 = limit L3 (inr (inl refl));
      keeps_L4 = limit L4 (inr (inr (inl refl)));
      keeps_L5 = limit L5 (inr (inr (inr (inl refl))));
      keeps_L6 = limit L6 (inr (inr (inr (inr (inl refl)))));
      keeps_L7 = limit L7 (inr (inr (inr (inr (inr (inl refl))))));
      keeps_V1 = kept V1 (inl refl);
      keeps_V2 = kept V2 (inr (inl refl));
      keeps_V3 = kept V3 (inr (inr (inl refl)));
      keeps_V4 = kept V4 (inr (inr (inr (inl refl))));
      keeps_V5 = kept V5 (inr (inr (inr (inr (inl refl)))));
      keeps_V6 = kept V6 (inr (inr (inr (inr (inr (inl refl))))));
      keeps_V7 = kept V7 (inr (inr (inr (inr (inr (inr (inl refl)))))));
      keeps_V8 = kept V8 (inr (inr (inr (inr (inr (inr (inr (inl refl))))))));
      keeps_V9 = kept V9 (inr (inr (inr (inr (inr (inr (inr (inr (inl refl)))))))));
      keeps_V10 = kept V10 (inr (inr (inr (inr (inr (inr (inr (inr (inr (inl refl))))))))));
      cuts = cuts_kept m m.funcs cuts of_cuts (right_empty (rule_faults m) cuts none);
    }

-- ---- cuts within limits

and_right : (a b : Bool) → (a && b) ≡ true → b ≡ true
and_right true b e = e
and_right false b e = absurd (true≢false (sym e))

and_left : (a b : Bool) → (a && b) ≡ true → a ≡ true
and_left true b e = refl
and_left false b e = absurd (true≢false (sym e))

-- what is known of cuts on a grid within limits
record AreWithin (grid : List ℕ) (cuts : List Cut) : Type 0 where
  named : AllByRecursion (λ cut. cut.sharding.grid ≡ grid) cuts
  few : list_all (λ cut. has_few_dims cut.whole) cuts ≡ true
  small : list_all (λ cut. has_few_cells cut.whole) cuts ≡ true

rest_within : (grid : List ℕ) (x : Cut) (cuts : List Cut) → AreWithin grid (x ∷ cuts) → AreWithin grid cuts
rest_within grid x cuts w = record {
  named = w.named.1;
  few = and_right (has_few_dims x.whole) (list_all (λ cut. has_few_dims cut.whole) cuts) w.few;
  small = and_right (has_few_cells x.whole) (list_all (λ cut. has_few_cells cut.whole) cuts) w.small;
}

one_ready : (grid : List ℕ) (x : Cut) (cuts : List Cut) → AreWithin grid (x ∷ cuts) → IsReadyCut grid x
one_ready grid x cuts w = record {
  named = w.named.0;
  few = and_left (has_few_dims x.whole) (list_all (λ cut. has_few_dims cut.whole) cuts) w.few;
  small = and_left (has_few_cells x.whole) (list_all (λ cut. has_few_cells cut.whole) cuts) w.small;
}

first_ready : (grid : List ℕ) (xs ys : List Cut) → AreWithin grid (xs ++ ys) → AllByRecursion (IsReadyCut grid) xs
first_ready grid [] ys w = tt
first_ready grid (x ∷ xs) ys w = (one_ready grid x (xs ++ ys) w, first_ready grid xs ys (rest_within grid x (xs ++ ys) w))

last_ready : (grid : List ℕ) (xs ys : List Cut) → AreWithin grid (xs ++ ys) → AllByRecursion (IsReadyCut grid) ys
last_ready grid [] [] w = tt
last_ready grid [] (y ∷ ys) w = (one_ready grid y ys w, last_ready grid [] ys (rest_within grid y ys w))
last_ready grid (x ∷ xs) ys w = last_ready grid xs ys (rest_within grid x (xs ++ ys) w)

carry_ready : (carry : Option Carry) → MatchOption carry ⊤ (λ c. AllByRecursion (λ cut. cut.sharding.grid ≡ c.grid) (c.args ++ c.results))
    → list_all (λ cut. has_few_dims cut.whole) (option_map_or (λ c. c.args ++ c.results) carry []) ≡ true
    → list_all (λ cut. has_few_cells cut.whole) (option_map_or (λ c. c.args ++ c.results) carry []) ≡ true
    → MatchOption carry ⊤ (λ c. All (IsReadyCut c.grid) c.args × All (IsReadyCut c.grid) c.results)
carry_ready None named few small = tt
carry_ready (Some c) named few small =
    let w : AreWithin c.grid (c.args ++ c.results) = record { named = named; few = few; small = small } in (
      All-from_recursion (IsReadyCut c.grid) c.args (first_ready c.grid c.args c.results w),
      All-from_recursion (IsReadyCut c.grid) c.results (last_ready c.grid c.args c.results w),
    )

ready_by : (f : Func) → CutsOnGrid f → all_in_func has_few_dims f ≡ true → all_in_func has_few_cells f ≡ true → HasReadyCuts f
ready_by f named few small =
    carry_ready f.carry named
    (and_right _ (list_all (λ cut. has_few_dims cut.whole) (cuts_in f)) few)
    (and_right _ (list_all (λ cut. has_few_cells cut.whole) (cuts_in f)) small)

func_ready : (f : Func) → CutsOnGrid f → func_limits f ≡ [] → HasReadyCuts f
unfolding func_limits func_head_limits
func_ready f named none =
    let heads = left_empty (func_head_limits f) _ none in
    ready_by f named
    (kept_unless (all_in_func has_few_dims f) (refusal_at f.place L2) (left_empty (fault_unless (all_in_func has_few_dims f) f.place L2) _ heads))
    (kept_unless (all_in_func has_few_cells f) (refusal_at f.place L4)
    (left_empty (fault_unless (all_in_func has_few_cells f) f.place L4) _ (right_empty (fault_unless (all_in_func has_few_dims f) f.place L2) _ heads)))

funcs_ready : (funcs : List Func) → AllByRecursion CutsOnGrid funcs → flat_map func_limits funcs ≡ [] → AllByRecursion HasReadyCuts funcs
funcs_ready [] named none = tt
funcs_ready (f ∷ funcs) named none =
    (func_ready f named.0 (left_empty (func_limits f) _ none), funcs_ready funcs named.1 (right_empty (func_limits f) _ none))

pub all_ready : (m : Module) → IsFormed m → limit_faults m ≡ [] → All HasReadyCuts m.funcs
unfolding module_limits
all_ready m formed within =
    let none = sym (limits_found m) ∙ within in
    All-from_recursion HasReadyCuts m.funcs
    (funcs_ready m.funcs formed.cuts (left_empty (flat_map func_limits m.funcs) _ (right_empty (flat_map grid_limits m.grids) _ none)))

-- ---- what is found of rules, and then of cuts

abbrev pub IsFoundIn : Module → List Func → Option Refusal → Option Refusal → Type 0
IsFoundIn m funcs least found =
    (faults : List Refusal) × AreCutFaults m funcs faults × (found ≡ least_of by_place least faults)

pub found_in_all : (m tables : Module) (funcs : List Func) (least found : Option Refusal) → tables ≡ m → funcs ≡ m.funcs
    → least ≡ least_of by_place None (module_rules m) → IsFoundIn tables funcs least found
    → (faults : List Refusal) × AreCutFaults m m.funcs faults × (found ≡ least_of by_place None (rule_faults m ++ faults))
found_in_all m tables funcs least found same same_funcs before (faults, of_cuts, is) = (
  faults,
  subst (λ fs. AreCutFaults m fs faults) same_funcs (subst (λ x. AreCutFaults x funcs faults) same of_cuts),
  is ∙ (ap (λ l. least_of by_place l faults) before
      ∙ (sym (least_of_both by_place None (module_rules m) faults)
      ∙ ap (λ rs. least_of by_place None (rs ++ faults)) (sym (all_rules m)))),
)
