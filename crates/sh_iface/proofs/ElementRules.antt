-- An element operation at local types keeps the rules of device form.
use Rattle.std.proofs.Common.{◌≡◌, ℕ, suc, true, false, List, [], ◌∷◌, map, length, Some, None, refl}
use Rattle.std.specs.Prelude.{nat_le}
use Rattle.sh_base.specs.declared.numbers.Width.{Width}
use Rattle.sh_base.specs.declared.places.Place.{Place}
use Rattle.sh_base.specs.declared.rules.Rule.{Rule}
use Rattle.sh_base.specs.declared.rules.Rule.TheVariants.{V1, V2, V3, V4, V5, V6, V8, V9, V10, L2, L4, L6}
use Rattle.sh_base.specs.Shape.{cell_count, max_cells, max_rank}
use Rattle.sh_ir.specs.declared.operations.Op.{Op}
use Rattle.sh_ir.specs.declared.types.Dim.{Dim}
use Rattle.sh_ir.specs.Agreement.{dims_agree, same_dim}
use Rattle.sh_ir.specs.Attributes.{numbers_fit}
use Rattle.sh_ir.specs.Limits.{counted_dim, has_few_dims, has_few_cells, has_few_loops, has_few_inputs}
use Rattle.sh_ir.specs.Loops.{generic_of}
use Rattle.sh_ir.specs.Operands.{is_test_of, operands_fit}
use Rattle.sh_ir.specs.Results.{is_cast, result_fits}
use Rattle.sh_ir.specs.Rules.{calls_source, defines_new, has_region_in_order, is_in_form, keeps, names_known, region_faults, takes_operands, uses_defined, KeepsOps}
use Rattle.sh_ir.specs.Scope.{Scope, value_named}
use Rattle.sh_ir.specs.Typing.{counts_fit, tensor_types, typing_of}
use Rattle.sh_ir.proofs.KeptLaws.{keeps_next, keeps_op}
use Rattle.sh_ir.proofs.TypeLaws.{agrees_itself, pairs_with_itself, same_bits, same_dim-itself}
use Rattle.sh_iface.specs.Elements.{What, by_operation, by_predicate, by_choice, by_cast, Element, widths_by, fits_width, op_at, tensor_of}

-- ---- the operands where the instruction stands

-- operand k is a tensor of these extents and of width w
abbrev pub IsTyped : Scope → List Dim → ℕ → Width → Type 0
IsTyped scope dims k w = value_named scope.values k ≡ Some (record { name = k; value_type = tensor_of dims w; is_constant = false })

-- the first of them has number k
abbrev pub AreTyped : Scope → List Dim → ℕ → List Width → Type 0
AreTyped scope dims k [] = Unit {0}
AreTyped scope dims k (w ∷ ws) = IsTyped scope dims k w × AreTyped scope dims (suc k) ws

-- what is known where it stands
pub record IsPlace (what : What) (w : Width) (dims : List Dim) (scope : Scope) : Type 0 where
  pub fits : fits_width what w ≡ true
  pub grid : List ℕ
  pub device : scope.device ≡ Some grid
  pub operands : AreTyped scope dims 0 (widths_by what w)
  pub fresh : value_named scope.values (length (widths_by what w)) ≡ None
  pub few_dims : nat_le (length dims) max_rank ≡ true
  pub few_cells : nat_le (cell_count (map counted_dim dims)) max_cells ≡ true

-- ---- rule by rule

abbrev element : What → Width → List ℕ → Place → Element
element what w shape place = record { what = what; width = w; shape = shape; place = place }

module _ (w : Width) (shape : List ℕ) (place : Place) (dims : List Dim) (scope : Scope) where
  abbrev op_of : What → Op
  op_of what = op_at (element what w shape place) dims

  keeps_ranks : (what : What) → IsPlace what w dims scope → keeps L2 scope (op_of what) ≡ true
  unfolding keeps has_few_dims has_few_loops generic_of
  keeps_ranks (by_operation op) at = let few = at.few_dims in rw few refl
  keeps_ranks (by_predicate p v) at = let few = at.few_dims in rw few refl
  keeps_ranks by_choice at = let few = at.few_dims in rw few refl
  keeps_ranks (by_cast op v) at = let few = at.few_dims in rw few refl

  keeps_cells : (what : What) → IsPlace what w dims scope → keeps L4 scope (op_of what) ≡ true
  unfolding keeps has_few_cells
  keeps_cells (by_operation op) at = let few = at.few_cells in rw few refl
  keeps_cells (by_predicate p v) at = let few = at.few_cells in rw few refl
  keeps_cells by_choice at = let few = at.few_cells in rw few refl
  keeps_cells (by_cast op v) at = let few = at.few_cells in rw few refl

  keeps_inputs : (what : What) → keeps L6 scope (op_of what) ≡ true
  unfolding keeps has_few_inputs generic_of
  keeps_inputs (by_operation op) = refl
  keeps_inputs (by_predicate p v) = refl
  keeps_inputs by_choice = refl
  keeps_inputs (by_cast op v) = refl

  keeps_uses : (what : What) → IsPlace what w dims scope → keeps V1 scope (op_of what) ≡ true
  unfolding keeps uses_defined
  keeps_uses (by_operation op) at = let a = at.operands.0 in let b = at.operands.1.0 in rw (a, b) refl
  keeps_uses (by_predicate p v) at = let a = at.operands.0 in let b = at.operands.1.0 in rw (a, b) refl
  keeps_uses by_choice at = let a = at.operands.0 in let b = at.operands.1.0 in let c = at.operands.1.1.0 in rw (a, b, c) refl
  keeps_uses (by_cast op v) at = let a = at.operands.0 in rw a refl

  keeps_names : (what : What) → IsPlace what w dims scope → keeps V2 scope (op_of what) ≡ true
  unfolding keeps defines_new
  keeps_names (by_operation op) at = let new = at.fresh in rw new refl
  keeps_names (by_predicate p v) at = let new = at.fresh in rw new refl
  keeps_names by_choice at = let new = at.fresh in rw new refl
  keeps_names (by_cast op v) at = let new = at.fresh in rw new refl

  keeps_types : (what : What) → IsPlace what w dims scope → keeps V3 scope (op_of what) ≡ true
  unfolding keeps takes_operands counts_fit typing_of tensor_types operands_fit is_test_of
  keeps_types (by_operation op) at =
      let a = at.operands.0 in let b = at.operands.1.0 in
      let bits = same_bits w in let same = pairs_with_itself same_dim same_dim-itself dims in
      rw (a, b) (rw (bits, same) refl)
  keeps_types (by_predicate p v) at =
      let a = at.operands.0 in let b = at.operands.1.0 in
      let bits = same_bits v in let same = pairs_with_itself same_dim same_dim-itself dims in
      rw (a, b) (rw (bits, same) refl)
  keeps_types by_choice at =
      let a = at.operands.0 in let b = at.operands.1.0 in let c = at.operands.1.1.0 in
      let bits = same_bits w in let same = pairs_with_itself same_dim same_dim-itself dims in let agree = pairs_with_itself dims_agree agrees_itself dims in
      rw (a, b, c) (rw (bits, same, agree) refl)
  keeps_types (by_cast op v) at =
      let a = at.operands.0 in
      let bits = same_bits v in let same = pairs_with_itself same_dim same_dim-itself dims in
      rw a (rw (bits, same) refl)

  keeps_result : (what : What) → IsPlace what w dims scope → keeps V4 scope (op_of what) ≡ true
  unfolding keeps result_fits is_cast
  keeps_result (by_operation op) at = refl
  keeps_result (by_predicate p v) at = refl
  keeps_result by_choice at = refl
  keeps_result (by_cast op v) at = let fits = at.fits in let agree = pairs_with_itself dims_agree agrees_itself dims in rw (fits, agree) refl

  keeps_numbers : (what : What) → keeps V5 scope (op_of what) ≡ true
  unfolding keeps numbers_fit
  keeps_numbers (by_operation op) = refl
  keeps_numbers (by_predicate p v) = refl
  keeps_numbers by_choice = refl
  keeps_numbers (by_cast op v) = refl

  keeps_grids : (what : What) → keeps V6 scope (op_of what) ≡ true
  unfolding keeps names_known
  keeps_grids (by_operation op) = refl
  keeps_grids (by_predicate p v) = refl
  keeps_grids by_choice = refl
  keeps_grids (by_cast op v) = refl

  keeps_maps : (what : What) → keeps V8 scope (op_of what) ≡ true
  unfolding keeps generic_of
  keeps_maps (by_operation op) = refl
  keeps_maps (by_predicate p v) = refl
  keeps_maps by_choice = refl
  keeps_maps (by_cast op v) = refl

  keeps_region : (what : What) → keeps V9 scope (op_of what) ≡ true
  unfolding keeps has_region_in_order
  keeps_region (by_operation op) = refl
  keeps_region (by_predicate p v) = refl
  keeps_region by_choice = refl
  keeps_region (by_cast op v) = refl

  keeps_form : (what : What) → IsPlace what w dims scope → keeps V10 scope (op_of what) ≡ true
  unfolding keeps is_in_form calls_source
  keeps_form (by_operation op) at = let device = at.device in rw device refl
  keeps_form (by_predicate p v) at = let device = at.device in rw device refl
  keeps_form by_choice at = let device = at.device in rw device refl
  keeps_form (by_cast op v) at = let device = at.device in rw device refl

  keeps_here : (what : What) (rule : Rule) → IsPlace what w dims scope → keeps rule scope (op_of what) ≡ true
  unfolding keeps
  keeps_here what L2 at = keeps_ranks what at
  keeps_here what L4 at = keeps_cells what at
  keeps_here what L6 at = keeps_inputs what
  keeps_here what V1 at = keeps_uses what at
  keeps_here what V2 at = keeps_names what at
  keeps_here what V3 at = keeps_types what at
  keeps_here what V4 at = keeps_result what at
  keeps_here what V5 at = keeps_numbers what
  keeps_here what V6 at = keeps_grids what
  keeps_here what V8 at = keeps_maps what
  keeps_here what V9 at = keeps_region what
  keeps_here what V10 at = keeps_form what at
  keeps_here what _ at = refl

  no_region : (what : What) (rule : Rule) → region_faults (rule ∷ []) scope (op_of what).kind ≡ []
  unfolding region_faults
  no_region (by_operation op) rule = refl
  no_region (by_predicate p v) rule = refl
  no_region by_choice rule = refl
  no_region (by_cast op v) rule = refl

  -- All rules are kept.
  pub element_keeps : (what : What) (rule : Rule) → IsPlace what w dims scope → KeepsOps rule scope (op_of what ∷ [])
  element_keeps what rule at = keeps_next rule scope (op_of what) [] (keeps_op rule scope (op_of what) (keeps_here what rule at) (no_region what rule)) refl
