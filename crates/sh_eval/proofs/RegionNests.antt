-- Operations with a region of verified functions can be folded on their operands.
use Rattle.std.proofs.Common.{◌≡◌, ℕ, ◌+◌, ◌≤◌, true, List, [], ◌∷◌, ◌++◌, map, length, take, drop, refl, ap, sym, ◌∙◌, arith, subst}
use Rattle.std.proofs.lemmas.Bool.Decides.{nat_tests}
use Rattle.std.proofs.lemmas.List.{length-append, length-map, take-append-drop}
use Rattle.std.specs.List.{list_all}
use Rattle.std.specs.Option.{option_map_or}
use Rattle.std.specs.Prelude.{nat_eq, nat_le, nat_lt}
use Rattle.sh_base.specs.Shape.{max_rank}
use Rattle.sh_base.specs.declared.numbers.Width.{Width}
use Rattle.sh_ir.specs.declared.bodies.Body.{Body}
use Rattle.sh_ir.specs.declared.linalg_ops.AffineMap.{AffineMap}
use Rattle.sh_ir.specs.declared.linalg_ops.Generic as declared_generic
use Rattle.sh_ir.specs.declared.linalg_ops.Reduce as declared_reduce
use Rattle.sh_ir.specs.declared.operations.OpKind.TheVariants.{Generic, Reduce}
use Rattle.sh_ir.specs.declared.types.ValueType.{ValueType}
use Rattle.sh_ir.specs.Limits.{has_few_dims, has_few_loops, max_loops}
use Rattle.sh_ir.specs.Loops.{Step, Structure, by_region, first_results, generic_of, generic_structure, input_rank, reduce_structure, single, structure_of}
use Rattle.sh_ir.specs.Maps.{has_all_maps, is_projection, maps_fit}
use Rattle.sh_ir.specs.Numbers.{are_distinct, as_naturals}
use Rattle.sh_ir.specs.RegionRules.{region_fits}
use Rattle.sh_ir.specs.Regions.{captured_by}
use Rattle.sh_ir.specs.Results.{has_output_type, result_fits}
use Rattle.sh_ir.specs.Scope.{Scope, Value}
use Rattle.sh_ir.specs.Typing.{counts_fit, names, names_typed, operand_types, typing_of}
use Rattle.sh_loops.specs.Nests.{all_follow_loops, follows_loops}
use Rattle.sh_loops.specs.Structured.{CanNest, FitsStep}
use Rattle.sh_loops.specs.Structures.{HasFewLoops}
use Rattle.sh_loops.proofs.InsideLaws.{both_left, both_right}
use Rattle.sh_sem.specs.Scalars.{width_of}
use Rattle.sh_tensor.specs.Tensor.{TensorValue}
use Rattle.sh_eval.specs.Evaluations.{FitsKind}
use Rattle.sh_eval.specs.Sources.{AreOfValueTypes, has_value}
use Rattle.sh_collectives.specs.VerifiedOps.{HaveScalarConstants, IsBody}
use Rattle.sh_collectives.proofs.CapturedLaws.{all_joined, is_usable, take_long}
use Rattle.sh_eval.proofs.CapturedTypes.{type_named}
use Rattle.sh_eval.proofs.NamedFits.{identity_follows, input_short, output_value, unlisted_follows}
use Rattle.sh_eval.proofs.NestFits.{IsNestOf, can_nest, output_width, single_follows}
use Rattle.sh_eval.proofs.RegionFits.{region_fits_widths}
use Rattle.sh_collectives.proofs.RuleLaws.{all_back, all_front}
use Rattle.sh_eval.proofs.RuleFacts.{OneOutput, one_output}
use Rattle.sh_eval.proofs.TypeLaws.{equal_numbers}

-- what is known of a region and of the values that it uses
pub record IsRegionOf (outer : List Value) (body : Body) (operands : List ℕ) (types : List ValueType) : Type 0 where
  pub constants : HaveScalarConstants outer
  pub usable : list_all (is_usable outer) (captured_by body) ≡ true
  pub formed : IsBody body
  pub captured : drop (length types) operands ≡ captured_by body
  pub fits : region_fits outer types body ≡ true

-- any structured operation by a region
region_nests : (outer : List Value) (s : Structure) (body : Body) (operands : List ℕ) (result : ValueType) (ts : List TensorValue)
    → s.step ≡ by_region body → (is : IsNestOf s result)
    → IsRegionOf outer body operands (operand_types s.ins_outs) → list_all has_value (operand_types s.ins_outs) ≡ true
    → AreOfValueTypes (operand_types s.ins_outs ++ map (type_named outer) (captured_by body)) ts
    → CanNest s operands (width_of result) ts
region_nests outer s body operands result ts e is r values typed =
    let ins : List ValueType = s.ins_outs.ins_types in
    let types : operand_types s.ins_outs ≡ ins ++ is.out ∷ [] = ap (λ outs. ins ++ outs) is.outs in
    let all = subst (λ us. list_all has_value us ≡ true) types values in
    let value = both_left (has_value is.out) true (all_back has_value ins (is.out ∷ []) all) in
    let long : length (operand_types s.ins_outs) ≡ length s.inputs + 1 = ap length types ∙ length-append ins (is.out ∷ []) ∙ ap (λ n. n + 1)
    (sym is.inputs) in
    let captured : drop (length s.inputs + 1) operands ≡ captured_by body = ap (λ n. drop n operands) (sym long) ∙ r.captured in
    let made = region_fits_widths outer body (captured_by body) ins is.out
    (width_of result) r.constants r.usable r.formed all value is.width (subst (λ us. region_fits outer us body ≡ true) types r.fits) in
    let more : List Width = map width_of (map (type_named outer) (captured_by body)) in
    can_nest s operands result (map (type_named outer) (captured_by body)) ts is typed
    (subst (λ (step : Step). FitsStep step (map width_of ins) (width_of result) (drop (length s.inputs + 1) operands) more) (sym e)
    (subst (λ names. FitsStep (by_region body) (map width_of ins) (width_of result) names more) (sym captured) made))

-- ---- a reduction

reduce_nest : (x : declared_reduce.Reduce) (result : ValueType) → OneOutput 1 x.ins_outs
    → list_all has_value (operand_types x.ins_outs) ≡ true → has_value result ≡ true
    → has_output_type x.ins_outs.outs_types result ≡ true → input_rank x.ins_outs ≤ max_rank → IsNestOf (reduce_structure x) result
reduce_nest x result one values value gives few =
    let out = output_value 1 x.ins_outs one values in
    let n = input_rank x.ins_outs in
    record {
      out = one.out;
      outs = one.outs;
      inputs = sym one.ins;
      width = output_width x.ins_outs one.out result one.outs out value gives;
      few = few;
      follow = let own = identity_follows n in let rest = unlisted_follows n (as_naturals x.dimensions) in rw (own, rest) refl;
    }

pub reduce_fits : (scope : Scope) (x : declared_reduce.Reduce) (operands : List ℕ) (result : ValueType) (ts : List TensorValue)
    → IsRegionOf scope.values x.body operands (operand_types x.ins_outs)
    → AreOfValueTypes (typing_of (Reduce x) result ++ map (type_named scope.values) (captured_by x.body)) ts
    → list_all has_value (typing_of (Reduce x) result) ≡ true → has_value result ≡ true
    → list_all has_few_dims (operand_types x.ins_outs ++ []) ≡ true → names 1 x.ins_outs ≡ true → result_fits scope (Reduce x) result ≡ true
    → FitsKind (Reduce x) operands result ts
unfolding FitsKind HasFewLoops structure_of typing_of result_fits
reduce_fits scope x operands result ts r typed values value short counts gives =
    let few = input_short x.ins_outs [] short in
    record {
      few = few;
      fits =
          region_nests scope.values (reduce_structure x) x.body operands result ts refl
          (reduce_nest x result (one_output 1 x.ins_outs counts) values value gives few) r values typed;
    }

-- ---- a generic

map_follows : (n : ℕ) (m : AffineMap) → is_projection n m ≡ true → follows_loops n (single m.results) ≡ true
unfolding is_projection
map_follows n m h =
    single_follows n m.results (both_left (list_all (λ l. nat_lt l n) m.results) (are_distinct m.results) (both_right _ _ h))

maps_follow : (n : ℕ) (maps : List AffineMap) → list_all (is_projection n) maps ≡ true
    → all_follow_loops n (map (λ m. single m.results) maps) ≡ true
maps_follow n [] h = refl
maps_follow n (m ∷ maps) h =
    let here = map_follows n m (both_left (is_projection n m) (list_all (is_projection n) maps) h) in
    let rest = maps_follow n maps (both_right (is_projection n m) (list_all (is_projection n) maps) h) in
    rw (here, rest) refl

first_follows : (n : ℕ) (maps : List AffineMap) → list_all (is_projection n) maps ≡ true
    → follows_loops n (single (first_results maps)) ≡ true
first_follows n [] h = refl
first_follows n (m ∷ maps) h = map_follows n m (both_left (is_projection n m) (list_all (is_projection n) maps) h)

-- what is known of a generic's maps
record HasMaps (x : declared_generic.Generic) : Type 0 where
  outs : nat_eq x.ins_outs.outs_count 1 ≡ true
  counted : length x.indexing_maps ≡ x.ins_outs.ins_count + 1
  project : list_all (is_projection (length x.iterator_types)) x.indexing_maps ≡ true

has_maps : (x : declared_generic.Generic) → maps_fit x ≡ true → HasMaps x
unfolding maps_fit has_all_maps
has_maps x h =
    let all = both_left _ _ h in
    record {
      outs = both_left (nat_eq x.ins_outs.outs_count 1) (nat_eq (length x.indexing_maps) (x.ins_outs.ins_count + 1)) all;
      counted =
          equal_numbers (length x.indexing_maps) (x.ins_outs.ins_count + 1)
          (both_right (nat_eq x.ins_outs.outs_count 1) (nat_eq (length x.indexing_maps) (x.ins_outs.ins_count + 1)) all);
      project = both_left (list_all (is_projection (length x.iterator_types)) x.indexing_maps) _ (both_right _ _ h);
    }

generic_counts : (x : declared_generic.Generic) → names_typed x.ins_outs ≡ true → nat_eq x.ins_outs.outs_count 1 ≡ true
    → names x.ins_outs.ins_count x.ins_outs ≡ true
generic_counts x typed outs =
    let same : nat_eq x.ins_outs.ins_count x.ins_outs.ins_count ≡ true = grind (arith, nat_tests) in
    rw (same, outs) typed

generic_nest : (x : declared_generic.Generic) (result : ValueType) → HasMaps x → OneOutput x.ins_outs.ins_count x.ins_outs
    → list_all has_value (operand_types x.ins_outs) ≡ true → has_value result ≡ true
    → has_output_type x.ins_outs.outs_types result ≡ true → length x.iterator_types ≤ max_rank → IsNestOf (generic_structure x) result
generic_nest x result m one values value gives few =
    let out = output_value x.ins_outs.ins_count x.ins_outs one values in
    let n = length x.iterator_types in
    let c : ℕ = x.ins_outs.ins_count in
    let parts = subst (λ ms. list_all (is_projection n) ms ≡ true) (sym (take-append-drop c x.indexing_maps)) m.project in
    let front = maps_follow n (take c x.indexing_maps)
    (all_front (is_projection n) (take c x.indexing_maps) (drop c x.indexing_maps) parts) in
    let last = first_follows n (drop c x.indexing_maps)
    (all_back (is_projection n) (take c x.indexing_maps) (drop c x.indexing_maps) parts) in
    record {
      out = one.out;
      outs = one.outs;
      inputs = length-map (take c x.indexing_maps) (λ m. single m.results) ∙ take_long c 1 x.indexing_maps m.counted ∙ sym one.ins;
      width = output_width x.ins_outs one.out result one.outs out value gives;
      few = few;
      follow =
          all_joined (follows_loops n) (map (λ m. single m.results) (take c x.indexing_maps))
          (single (first_results (drop c x.indexing_maps)) ∷ []) front (rw last refl);
    }

generic_few : (x : declared_generic.Generic) → has_few_loops (Generic x) ≡ true → length x.iterator_types ≤ max_rank
unfolding has_few_loops generic_of
generic_few x h = let few : nat_le (length x.iterator_types) max_loops ≡ true = h in grind (arith, nat_tests)

generic_maps : (x : declared_generic.Generic) → option_map_or maps_fit (generic_of (Generic x)) true ≡ true → maps_fit x ≡ true
unfolding generic_of
generic_maps x h = h

pub generic_fits : (scope : Scope) (x : declared_generic.Generic) (operands : List ℕ) (result : ValueType) (ts : List TensorValue)
    → IsRegionOf scope.values x.body operands (operand_types x.ins_outs)
    → AreOfValueTypes (typing_of (Generic x) result ++ map (type_named scope.values) (captured_by x.body)) ts
    → list_all has_value (typing_of (Generic x) result) ≡ true → has_value result ≡ true
    → has_few_loops (Generic x) ≡ true → option_map_or maps_fit (generic_of (Generic x)) true ≡ true
    → counts_fit (Generic x) operands ≡ true → result_fits scope (Generic x) result ≡ true
    → FitsKind (Generic x) operands result ts
unfolding FitsKind HasFewLoops structure_of typing_of counts_fit result_fits
generic_fits scope x operands result ts r typed values value loops maps counts gives =
    let few = generic_few x loops in
    let m = has_maps x (generic_maps x maps) in
    let one = one_output x.ins_outs.ins_count x.ins_outs (generic_counts x counts m.outs) in
    record {
      few = few;
      fits =
          region_nests scope.values (generic_structure x) x.body operands result ts refl
          (generic_nest x result m one values value gives few) r values typed;
    }
