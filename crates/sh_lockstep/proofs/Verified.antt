-- A verified function in device form can be run in step.
use Rattle.std.proofs.Common.{◌≡◌, ℕ, ◌<◌, ◌≤◌, Bool, true, false, List, [], ◌∷◌, map, max, length, get_or, Option, Some, None, refl, ap₂, sym, ◌∙◌, arith, subst}
use Rattle.std.proofs.lemmas.Bool.Decides.{nat_tests}
use Rattle.std.proofs.lemmas.List.{length-map}
use Rattle.std.proofs.lemmas.List.Elements.{All-from_get_or}
use Rattle.std.specs.Prelude.{IfSome, IsSomeAnd, if◌then◌else◌, option_and_then}
use Rattle.sh_base.specs.Shape.{cell_count, max_cells}
use Rattle.sh_collectives.proofs.InstructionLaws.{in_order, results_known}
use Rattle.sh_collectives.specs.DeviceForms.{HasNoExchange, IsOfDevice}
use Rattle.sh_collectives.specs.Operands.{IsSmall}
use Rattle.sh_collectives.specs.Sizes.{is_small}
use Rattle.sh_eval.proofs.DeviceWalk.{can_run_reached}
use Rattle.sh_eval.proofs.TypeLaws.{typed_long}
use Rattle.sh_collectives.specs.Operands.{AreGroupOperands, shape_collected}
use Rattle.sh_eval.specs.Devices.{AreLocalArguments, CanRunOn, GivesFewAlong, group_operands, operand_of, shape_on, values_at}
use Rattle.sh_eval.specs.Evaluations.{CanEvaluate}
use Rattle.sh_eval.specs.Values.{IsFew, shapes_of}
use Rattle.sh_grid.specs.Grid.{group_of, place_in}
use Rattle.sh_ir.specs.Classes.{class_of}
use Rattle.sh_ir.specs.declared.functions.Func.{Func}
use Rattle.sh_ir.specs.declared.operations.Op.{Op}
use Rattle.sh_ir.specs.declared.operations.OpKind.{OpKind}
use Rattle.sh_ir.specs.declared.operations.OpKind.TheVariants.{UpdateHalo}
use Rattle.sh_ir.specs.declared.shard_ops.UpdateHalo as declared_halo
use Rattle.sh_pieces.specs.Instructions.{State}
use Rattle.sh_sem.proofs.Groups.{has_groups}
use Rattle.sh_sem.specs.Given.{shape_given}
use Rattle.sh_sem.specs.Steps.{axes_of, is_collective_class, seat_of, steps_on}
use Rattle.sh_sharding.specs.Sharding.{counted_cells}
use Rattle.sh_tensor.specs.Tensor.{TensorValue}
use Rattle.sh_turns.specs.Program.{all_there}
use Rattle.sh_lockstep.specs.Behind.{AreAlike, CanLock, arguments_in}
use Rattle.sh_lockstep.specs.Groups.{HasOneList}
use Rattle.sh_eval.specs.Devices.{operand_of}
use Rattle.sh_lockstep.specs.Steps.{AreCollectable, CanStepOn}
use Rattle.sh_lockstep.proofs.Alike.{group_alike, row_alike}

one_list : (kind : OpKind) → ((x : declared_halo.UpdateHalo) → kind ≡ UpdateHalo x → ⊥) → HasOneList kind
one_list (UpdateHalo x) h = absurd (h x refl)
one_list kind h = tt

-- ---- few cells are small

counted : (s : List ℕ) → map (max 1) s ≡ map (λ n. max n 1) s
counted [] = refl
counted (n ∷ s) = let same : max 1 n ≡ max n 1 = omega arith in ap₂ ◌∷◌ same (counted s)

few_small : (s : List ℕ) → IsFew s → is_small s ≡ true
few_small s few =
    let cells : counted_cells s ≤ max_cells = subst (λ ns. cell_count ns ≤ max_cells) (sym (counted s)) few in
    grind (arith, nat_tests)

shape_small : (o : Option (List ℕ)) → IfSome o IsFew → IsSmall o
shape_small None h = tt
shape_small (Some s) h = few_small s h

-- ---- values that are one on all devices

module _ (grid : List ℕ) (op : Op) (s t : State TensorValue) (alike : AreAlike (steps_on grid) s t) (c : ℕ) (below : c < cell_count grid) where
  same_row : map (s c) op.operands ≡ map (t c) op.operands
  unfolding steps_on
  same_row = row_alike (steps_on grid) s t alike c below op.operands

  same_group : is_collective_class (class_of op.kind) ≡ true
      → map (λ m. operand_of op (s m)) (group_of grid (axes_of op.kind) c) ≡ map (λ m. operand_of op (t m)) (group_of grid (axes_of op.kind) c)
  unfolding steps_on
  same_group e = group_alike (steps_on grid) s t alike op (group_of grid (axes_of op.kind) c) ((has_groups grid).inside op c below e)

  module _ (can : CanRunOn grid op t c) (few : IfSome (shape_on grid op t c) IsFew) where
    step_local : is_collective_class (class_of op.kind) ≡ false
        → IfSome (all_there (map (s c) op.operands)) (CanEvaluate op (seat_of grid op c))
    step_local e =
        subst (λ vs. IfSome (all_there vs) (CanEvaluate op (seat_of grid op c))) (sym same_row)
        (go (all_there (map (t c) op.operands)) (can.local e))
      where
        go : (o : Option (List TensorValue)) → IsSomeAnd o (CanEvaluate op (seat_of grid op c)) → IfSome o (CanEvaluate op (seat_of grid op c))
        go None h = tt
        go (Some ts) h = h

    step_collective : is_collective_class (class_of op.kind) ≡ true
        → IfSome (all_there (map (λ m. operand_of op (s m)) (group_of grid (axes_of op.kind) c)))
        (AreCollectable grid op (place_in grid (axes_of op.kind) c))
    step_collective e =
        subst (λ vs. IfSome (all_there vs) (AreCollectable grid op (place_in grid (axes_of op.kind) c))) (sym (same_group e))
        (go (group_operands grid op t c) (can.collective e) (small (is_collective_class (class_of op.kind)) e few))
      where
        place : ℕ
        place = place_in grid (axes_of op.kind) c

        small : (b : Bool) → b ≡ true
            → IfSome (if b then option_and_then (shape_collected grid op place) (group_operands grid op t c)
            else option_and_then (λ ts. shape_given op (seat_of grid op c) (shapes_of ts)) (all_there (map (t c) op.operands))) IsFew
            → IfSome (option_and_then (shape_collected grid op place) (group_operands grid op t c)) IsFew
        small true is h = h
        small false is h = absurd (cc)

        go : (o : Option (List TensorValue)) → IsSomeAnd o (AreGroupOperands op) → IfSome (option_and_then (shape_collected grid op place) o) IsFew
            → IfSome o (AreCollectable grid op place)
        go None h k = tt
        go (Some ts) h k = record { operands = h; small = shape_small (shape_collected grid op place ts) k }

    can_step : CanStepOn grid op s c
    unfolding steps_on
    can_step = record { local = step_local; collective = step_collective }

-- ---- the function

pub can_lock : (f : Func) (grid : List ℕ) (args : List (List TensorValue)) → IsOfDevice f grid → HasNoExchange f
    → length args ≡ cell_count grid → AreLocalArguments f grid (arguments_in args) → GivesFewAlong f grid (arguments_in args)
    → CanLock f grid args
can_lock f grid args d plain many typed few = record {
  counted = many;
  arguments = All-from_get_or (λ (ts : List TensorValue). length ts ≡ length f.args) args []
      (λ c l. typed_long (map (λ a. a.value_type) f.args) (get_or args c []) (typed c (omega (arith, many, l))) ∙ length-map f.args (λ a. a.value_type));
  known = results_known f grid d;
  lists = λ k op at. one_list op.kind (λ x is. plain k op x at is);
  axes = λ k op at. (in_order f grid d k op at).axes;
  can = λ k op s at behind c below.
      can_step grid op s (values_at f grid (arguments_in args) k) behind.alike c below
      (can_run_reached f grid d (arguments_in args) typed few k op at behind.there c below)
      (few k op at behind.there c below);
}
