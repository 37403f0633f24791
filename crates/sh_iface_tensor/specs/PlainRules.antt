-- The rules of an instruction without grids, regions and calls, where its operands have the types
-- that are written for them.
use Rattle.std.proofs.Common.{ap₂, ◌≡◌, ℕ, suc, ◌+◌, ◌<◌, true, List, [], ◌∷◌, length, get_or, Option, Some, None, refl, ap, ◌∙◌, arith, subst}
use Rattle.std.proofs.lemmas.List.{take_all}
use Rattle.std.proofs.lemmas.List.FromFn.{length-range_with_len}
use Rattle.std.specs.List.{list_all, range_with_len}
use Rattle.std.specs.Option.{option_map_or}
use Rattle.std.specs.Prelude.{◌&&◌, is_some, take}
use Rattle.sh_base.specs.declared.rules.Rule.{Rule}
use Rattle.sh_base.specs.declared.rules.Rule.TheVariants.{V1, V2, V3, V4, V5, V6, V8, V9, V10, L2, L4, L6}
use Rattle.sh_grid.specs.Grid.{GridValue}
use Rattle.sh_ir.specs.declared.operations.Op.{Op}
use Rattle.sh_ir.specs.declared.types.ValueType.{ValueType}
use Rattle.sh_ir.specs.declared.types.ValueType.TheVariants.{Nothing, Scalar, Tensor, Sharding, Index}
use Rattle.sh_ir.specs.Agreement.{same_dim, same_type}
use Rattle.sh_ir.specs.Attributes.{numbers_fit}
use Rattle.sh_ir.specs.Classes.{class_of}
use Rattle.sh_ir.specs.Formed.{is_scalar}
use Rattle.sh_ir.specs.Limits.{has_few_cells, has_few_dims, has_few_inputs, has_few_loops}
use Rattle.sh_ir.specs.Loops.{generic_of}
use Rattle.sh_ir.specs.Maps.{maps_fit}
use Rattle.sh_ir.specs.Operands.{operands_fit}
use Rattle.sh_ir.specs.Results.{result_fits}
use Rattle.sh_ir.specs.Rules.{KeepsOps, calls_source, defines_new, has_region_in_order, is_in_form, is_of_device, keeps, names_known, op_types_of, region_faults, takes_operands, uses_defined}
use Rattle.sh_ir.specs.Scope.{Scope, is_defined, value_named}
use Rattle.sh_ir.specs.Typing.{are_of_types, counts_fit, has_no_scalars, typing_of, written_operands}
use Rattle.sh_ir.specs.Written.{written_by}
use Rattle.sh_ir.proofs.KeptLaws.{keeps_next, keeps_op}
use Rattle.sh_ir.proofs.TypeLaws.{pairs_with_itself, same_bits, same_dim-itself}
use Rattle.sh_iface.specs.Lawful.{IsPartScope}

-- of operands of these types, named 0, 1, ..
pub record IsPlain (op : Op) (types : List ValueType) : Type 0 where
  pub operands : op.operands ≡ range_with_len 0 (length types)
  pub defines : op.defines ≡ Some (length types)
  pub count : (written_by op.kind).operands ≡ Some (length types)
  pub grids : (written_by op.kind).grids ≡ []
  pub callees : (written_by op.kind).callees ≡ []
  pub body : (written_by op.kind).body ≡ None
  pub generic : generic_of op.kind ≡ None
  pub device : is_of_device (class_of op.kind) ≡ true
  pub typed : typing_of op.kind op.result ≡ types
  pub counted : counts_fit op.kind op.operands ≡ true
  pub dims : list_all has_few_dims (op_types_of op) ≡ true
  pub cells : list_all has_few_cells (op_types_of op) ≡ true
  pub tensors : has_no_scalars op.kind op.result ≡ true
  pub takes : (scope : Scope) → operands_fit scope op.kind op.result ≡ true
  pub gives : (scope : Scope) → result_fits scope op.kind op.result ≡ true
  pub numbers : (scope : Scope) → numbers_fit scope op.kind op.result ≡ true

same_type-itself : (t : ValueType) → same_type t t ≡ true
same_type-itself (Tensor t) = let bits = same_bits t.width in let dims = pairs_with_itself same_dim same_dim-itself t.dims in rw (bits, dims) refl
same_type-itself (Scalar w) = same_bits w
same_type-itself Nothing = refl
same_type-itself Sharding = refl
same_type-itself Index = refl

module _ (g : GridValue) (scope : Scope) where
  -- from number k on the values have these types
  abbrev AreThere : ℕ → List ValueType → Type 0
  AreThere k [] = Unit {0}
  AreThere k (t ∷ ts) = (value_named scope.values k ≡ Some (record { name = k; value_type = t; is_constant = is_scalar t })) × AreThere (suc k) ts

  there : (k : ℕ) (ts : List ValueType)
      → ((i : ℕ) → i < length ts → value_named scope.values (k + i) ≡ Some (record { name = k + i; value_type = get_or ts i Nothing; is_constant = is_scalar (get_or ts i Nothing) }))
      → AreThere k ts
  there k [] h = tt
  there k (t ∷ ts) h =
      let first : k + 0 ≡ k = omega arith in (
        subst (λ n. value_named scope.values n ≡ Some (record { name = n; value_type = t; is_constant = is_scalar t })) first (h 0 (omega arith)),
        there (suc k) ts (λ i l.
            let next : k + suc i ≡ suc k + i = omega arith in
            subst (λ n. value_named scope.values n ≡ Some (record { name = n; value_type = get_or ts i Nothing; is_constant = is_scalar (get_or ts i Nothing) })) next (h (suc i) (omega (arith, l)))),
      )

  next : (k : ℕ) → k + 1 ≡ suc k
  next k = omega arith

  all_defined : (k : ℕ) (ts : List ValueType) → AreThere k ts → list_all (is_defined scope.values) (range_with_len k (length ts)) ≡ true
  all_defined k [] h = refl
  all_defined k (t ∷ ts) h = let here = h.0 in let rest = all_defined (suc k) ts h.1 in let more = next k in rw (here, more, rest) refl

  all_typed : (k : ℕ) (ts : List ValueType) → AreThere k ts → are_of_types scope.values ts (range_with_len k (length ts)) ≡ true
  all_typed k [] h = refl
  all_typed k (t ∷ ts) h = let here = h.0 in let rest = all_typed (suc k) ts h.1 in let more = next k in let same = same_type-itself t in rw (here, more) (rw (same, rest) refl)

module _ (g : GridValue) (op : Op) (types : List ValueType) (scope : Scope) (is : IsPlain op types) (at : IsPartScope g types scope) where
  are_there : AreThere g scope 0 types
  are_there = there g scope 0 types (λ i l.
      let same : i ≡ 0 + i = omega arith in
      subst (λ n. value_named scope.values n ≡ Some (record { name = n; value_type = get_or types i Nothing; is_constant = is_scalar (get_or types i Nothing) })) same (at.operands i l))

  written_are : written_operands op ≡ range_with_len 0 (length types)
  written_are =
      ap (λ (o : Option ℕ). option_map_or (λ count. take count op.operands) o op.operands) is.count
      ∙ ap (take (length types)) is.operands
      ∙ take_all (length types) (range_with_len 0 (length types)) (let n = length-range_with_len 0 (length types) in omega (arith, n))

  keeps_uses : uses_defined scope op ≡ true
  unfolding uses_defined
  keeps_uses = ap (list_all (is_defined scope.values)) written_are ∙ all_defined g scope 0 types are_there

  keeps_names : defines_new scope op ≡ true
  unfolding defines_new
  keeps_names =
      let new = at.fresh (length types) (omega arith) in
      let defines = is.defines in
      let body = is.body in
      rw (defines, body) (rw new refl)

  keeps_types : takes_operands scope op ≡ true
  unfolding takes_operands
  keeps_types =
      let counted = is.counted in
      let typed : are_of_types scope.values (typing_of op.kind op.result) (written_operands op) ≡ true = ap₂ (are_of_types scope.values) is.typed written_are ∙ all_typed g scope 0 types are_there in
      let tensors = is.tensors in
      let takes = is.takes scope in
      rw (counted, typed, tensors, takes) refl

  keeps_grids : names_known scope op.kind ≡ true
  unfolding names_known
  keeps_grids = let grids = is.grids in let callees = is.callees in rw (grids, callees) refl

  keeps_form : is_in_form scope op ≡ true
  unfolding is_in_form calls_source
  keeps_form =
      let grids = is.grids in
      let callees = is.callees in
      let device = is.device in
      let carried = at.device in
      rw (carried, grids, callees, device) refl

  keeps_ranks : (list_all has_few_dims (op_types_of op) && has_few_loops op.kind) ≡ true
  unfolding has_few_loops
  keeps_ranks = let dims = is.dims in let generic = is.generic in rw (dims, generic) refl

  keeps_inputs : has_few_inputs (is_some scope.device) op.kind ≡ true
  unfolding has_few_inputs
  keeps_inputs = let generic = is.generic in rw generic refl

  keeps_region : has_region_in_order scope op.kind ≡ true
  unfolding has_region_in_order
  keeps_region = let body = is.body in rw body refl

  keeps_maps : option_map_or maps_fit (generic_of op.kind) true ≡ true
  keeps_maps = let generic = is.generic in rw generic refl

  keeps_here : (rule : Rule) → keeps rule scope op ≡ true
  unfolding keeps
  keeps_here L2 = keeps_ranks
  keeps_here L4 = is.cells
  keeps_here L6 = keeps_inputs
  keeps_here V1 = keeps_uses
  keeps_here V2 = keeps_names
  keeps_here V3 = keeps_types
  keeps_here V4 = is.gives scope
  keeps_here V5 = is.numbers scope
  keeps_here V6 = keeps_grids
  keeps_here V8 = keeps_maps
  keeps_here V9 = keeps_region
  keeps_here V10 = keeps_form
  keeps_here _ = refl

  no_region : (rule : Rule) → region_faults (rule ∷ []) scope op.kind ≡ []
  unfolding region_faults
  no_region rule = let body = is.body in rw body refl

  -- All rules are kept.
  pub plain_keeps : (rule : Rule) → KeepsOps rule scope (op ∷ [])
  plain_keeps rule = keeps_next rule scope op [] (keeps_op rule scope op (keeps_here rule) (no_region rule)) refl
