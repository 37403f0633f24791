-- The instructions that combine the parts of a reduction keep the rules of device form.
use Rattle.std.proofs.Common.{◌≡◌, ℕ, suc, true, false, List, [], ◌∷◌, map, length, Some, None, refl, ap, sym, ◌∙◌, arith, subst}
use Rattle.std.proofs.lemmas.Bool.{lt-ltb}
use Rattle.std.proofs.lemmas.Bool.Decides.{nat_tests}
use Rattle.std.proofs.lemmas.List.{length-map}
use Rattle.std.specs.List.{list_all}
use Rattle.std.specs.Prelude.{nat_eq, pos}
use Rattle.sh_base.specs.declared.numbers.Width.{Width}
use Rattle.sh_base.specs.declared.operations.Kind.{Kind}
use Rattle.sh_base.specs.declared.places.Place.{Place}
use Rattle.sh_base.specs.declared.rules.Rule.{Rule}
use Rattle.sh_base.specs.declared.rules.Rule.TheVariants.{V1, V2, V3, V4, V5, V6, V8, V9, V10, L2, L4, L6}
use Rattle.sh_grid.specs.Grid.{AreAxesOf, GridValue, IsNoneOf}
use Rattle.sh_ir.specs.declared.modules.GridItem.{GridItem}
use Rattle.sh_ir.specs.declared.operations.Op.{Op}
use Rattle.sh_ir.specs.declared.types.Dim.{Dim}
use Rattle.sh_ir.specs.Agreement.{same_type}
use Rattle.sh_ir.specs.Attributes.{axes_fit, numbers_fit}
use Rattle.sh_ir.specs.Limits.{has_few_cells, has_few_dims, has_few_inputs, has_few_loops}
use Rattle.sh_ir.specs.Loops.{generic_of}
use Rattle.sh_ir.specs.Numbers.{are_axes_below, are_distinct, as_naturals, is_below}
use Rattle.sh_ir.specs.Operands.{operands_fit}
use Rattle.sh_ir.specs.Regions.{is_among}
use Rattle.sh_ir.specs.Results.{result_fits}
use Rattle.sh_ir.specs.Rules.{calls_source, defines_new, has_region_in_order, is_in_form, keeps, names_known, region_faults, takes_operands, uses_defined, KeepsOp}
use Rattle.sh_ir.specs.Scope.{Scope, grid_item, value_named}
use Rattle.sh_ir.specs.Typing.{counts_fit, tensor_types, typing_of}
use Rattle.sh_ir.proofs.KeptLaws.{keeps_op}
use Rattle.sh_ir.proofs.TypeLaws.{pairs_with_itself}
use Rattle.sh_iface.specs.Elements.{tensor_of}
use Rattle.sh_iface_linalg.specs.Structured.{Structured, neutral_op}
use Rattle.sh_iface_linalg.specs.Cuts.{join_op, reduce_op}
use Rattle.sh_iface_linalg.specs.Rules.{IsValueOf, agrees, itself, joined, type_itself}

-- ---- axes as they are written

not_among : (a : ℕ) (axes : List ℕ) → IsNoneOf a axes → is_among axes a ≡ false
not_among a [] none = refl
not_among a (b ∷ axes) none =
    let other = none.0 in
    let test : nat_eq a b ≡ false = grind (arith, nat_tests) in
    let rest = not_among a axes none.1 in
    rw (test, rest) refl

all_below : (rank : ℕ) (axes : List ℕ) → AreAxesOf rank axes → list_all (is_below rank) (map (λ a. pos a) axes) ≡ true
all_below rank [] are = refl
all_below rank (a ∷ axes) are =
    let test = lt-ltb a rank are.0 in
    let rest = all_below rank axes are.2 in
    rw (test, rest) refl

all_distinct : (rank : ℕ) (axes : List ℕ) → AreAxesOf rank axes → are_distinct (as_naturals (map (λ a. pos a) axes)) ≡ true
all_distinct rank axes are = ap are_distinct (naturals axes) ∙ distinct axes are
  where
    naturals : (axes : List ℕ) → as_naturals (map (λ a. pos a) axes) ≡ axes
    naturals [] = refl
    naturals (a ∷ axes) = ap (λ ns. a ∷ ns) (naturals axes)

    distinct : (axes : List ℕ) → AreAxesOf rank axes → are_distinct axes ≡ true
    distinct [] are = refl
    distinct (a ∷ axes) are =
        let other = not_among a axes are.1 in
        let rest = distinct axes are.2 in
        rw (other, rest) refl

axes_written : (rank : ℕ) (axes : List ℕ) → AreAxesOf rank axes → are_axes_below rank (map (λ a. pos a) axes) ≡ true
axes_written rank axes are = joined _ _ (all_below rank axes are) (all_distinct rank axes are)

-- ---- a scalar constant

module _ (e : Structured) (dim : ℕ → Dim) (k : Kind) (name : ℕ) (scope : Scope) (grid : List ℕ) (device : scope.device ≡ Some grid) (fresh : value_named scope.values name ≡ None) where
  neutral_kept : (rule : Rule) → keeps rule scope (neutral_op e dim k name) ≡ true
  unfolding keeps has_few_dims has_few_cells has_few_loops has_few_inputs generic_of uses_defined defines_new takes_operands counts_fit typing_of tensor_types operands_fit result_fits numbers_fit names_known has_region_in_order is_in_form calls_source
  neutral_kept L2 = refl
  neutral_kept L4 = refl
  neutral_kept L6 = refl
  neutral_kept V1 = refl
  neutral_kept V2 = rw fresh refl
  neutral_kept V3 = refl
  neutral_kept V4 = refl
  neutral_kept V5 = refl
  neutral_kept V6 = refl
  neutral_kept V8 = refl
  neutral_kept V9 = refl
  neutral_kept V10 = rw device refl
  neutral_kept _ = refl

  neutral_alone : (rule : Rule) → region_faults (rule ∷ []) scope (neutral_op e dim k name).kind ≡ []
  unfolding region_faults
  neutral_alone rule = refl

  pub neutral_keeps : (rule : Rule) → KeepsOp rule scope (neutral_op e dim k name)
  neutral_keeps rule = keeps_op rule scope (neutral_op e dim k name) (neutral_kept rule) (neutral_alone rule)

-- ---- the two that combine, on tensors of one type

module _ (dims : List Dim) (w : Width) (few_dims : has_few_dims (tensor_of dims w) ≡ true) (few_cells : has_few_cells (tensor_of dims w) ≡ true) (scope : Scope) (place : Place) where
  module _ (g : GridValue) (axes : List ℕ) (k : Kind) (last : ℕ) (device : scope.device ≡ Some g.name) (fresh : value_named scope.values (suc last) ≡ None) (operand : IsValueOf scope (tensor_of dims w) last)
      (item : GridItem) (there : grid_item scope.grids g.name ≡ Some item) (extents : item.extents ≡ map (λ n. pos n) g.extents) (are : AreAxesOf (length g.extents) axes) where
    abbrev reducing : Op
    reducing = reduce_op g axes k last (tensor_of dims w) place

    axes_here : keeps V5 scope reducing ≡ true
    unfolding keeps numbers_fit axes_fit
    axes_here =
        let rank : length item.extents ≡ length g.extents = ap length extents ∙ length-map g.extents (λ n. pos n) in
        let own : are_axes_below (length item.extents) (map (λ a. pos a) axes) ≡ true = ap (λ n. are_axes_below n (map (λ a. pos a) axes)) rank ∙ axes_written (length g.extents) axes are in
        rw there own

    reduce_typed : keeps V3 scope reducing ≡ true
    unfolding keeps takes_operands counts_fit typing_of tensor_types operands_fit
    reduce_typed =
        let is = operand.is in
        rw is (joined _ _ (joined _ _ (subst (λ t. same_type t (tensor_of dims w) ≡ true) (sym operand.typed) (type_itself (tensor_of dims w))) refl) refl)

    reduce_kept : (rule : Rule) → keeps rule scope reducing ≡ true
    unfolding keeps has_few_loops has_few_inputs generic_of uses_defined defines_new result_fits names_known has_region_in_order is_in_form calls_source
    reduce_kept L2 = rw few_dims refl
    reduce_kept L4 = rw few_cells refl
    reduce_kept L6 = refl
    reduce_kept V1 = let is = operand.is in rw is refl
    reduce_kept V2 = rw fresh refl
    reduce_kept V3 = reduce_typed
    reduce_kept V4 = agrees dims w
    reduce_kept V5 = axes_here
    reduce_kept V6 = rw there refl
    reduce_kept V8 = refl
    reduce_kept V9 = refl
    reduce_kept V10 = let own = pairs_with_itself nat_eq itself g.name in rw device (rw own refl)
    reduce_kept _ = refl

    reduce_alone : (rule : Rule) → region_faults (rule ∷ []) scope reducing.kind ≡ []
    unfolding region_faults
    reduce_alone rule = refl

    pub reduce_keeps : (rule : Rule) → KeepsOp rule scope reducing
    reduce_keeps rule = keeps_op rule scope reducing (reduce_kept rule) (reduce_alone rule)

  module _ (grid : List ℕ) (k : Kind) (outs last : ℕ) (device : scope.device ≡ Some grid) (fresh : value_named scope.values (suc (suc last)) ≡ None) (first : IsValueOf scope (tensor_of dims w) outs) (second : IsValueOf scope (tensor_of dims w) (suc last)) where
    abbrev joining : Op
    joining = join_op k outs last (tensor_of dims w) place

    typed : {name : ℕ} (v : IsValueOf scope (tensor_of dims w) name) → same_type v.found.value_type (tensor_of dims w) ≡ true
    typed v = subst (λ t. same_type t (tensor_of dims w) ≡ true) (sym v.typed) (type_itself (tensor_of dims w))

    join_typed : keeps V3 scope joining ≡ true
    unfolding keeps takes_operands counts_fit typing_of tensor_types operands_fit
    join_typed =
        let a = first.is in let b = second.is in
        rw (a, b) (joined _ _ (joined _ _ (typed first) (joined _ _ (typed second) refl)) refl)

    join_kept : (rule : Rule) → keeps rule scope joining ≡ true
    unfolding keeps has_few_loops has_few_inputs generic_of uses_defined defines_new result_fits numbers_fit names_known has_region_in_order is_in_form calls_source
    join_kept L2 = rw few_dims refl
    join_kept L4 = rw few_cells refl
    join_kept L6 = refl
    join_kept V1 = let a = first.is in let b = second.is in rw (a, b) refl
    join_kept V2 = rw fresh refl
    join_kept V3 = join_typed
    join_kept V4 = refl
    join_kept V5 = refl
    join_kept V6 = refl
    join_kept V8 = refl
    join_kept V9 = refl
    join_kept V10 = rw device refl
    join_kept _ = refl

    join_alone : (rule : Rule) → region_faults (rule ∷ []) scope joining.kind ≡ []
    unfolding region_faults
    join_alone rule = refl

    pub join_keeps : (rule : Rule) → KeepsOp rule scope joining
    join_keeps rule = keeps_op rule scope joining (join_kept rule) (join_alone rule)
