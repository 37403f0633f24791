-- What instructions give, by their class.
use Rattle.std.proofs.Common.{◌≡◌, ℕ, suc, ◌<◌, true, false, List, [], ◌∷◌, length, map, Some, None, ap, refl, subst, sym, ◌∙◌, arith}
use Rattle.std.proofs.lemmas.List.{length-map}
use Rattle.std.proofs.lemmas.Option.{none-some, same_Some}
use Rattle.std.specs.Prelude.{IfSome, Option, option_and_then, option_map}
use Rattle.sh_base.specs.Shape.{cell_count}
use Rattle.sh_collectives.specs.Described.{CanCollect}
use Rattle.sh_grid.specs.Grid.{AreAxesOf, group_of, group_size_of, place_in}
use Rattle.sh_grid.proofs.GroupLaws.{length-group_of, place_in-below}
use Rattle.sh_ir.specs.declared.operations.Op.{Op}
use Rattle.sh_pieces.specs.Instructions.{State, gives}
use Rattle.sh_sem.specs.Collected.{collected}
use Rattle.sh_sem.specs.Steps.{axes_of, steps_on}
use Rattle.sh_tensor.specs.Tensor.{TensorValue}
use Rattle.sh_turns.specs.Program.{all_there}
use Rattle.sh_eval.specs.Devices.{operand_of}
use Rattle.sh_lockstep.specs.Steps.{AreCollectable, CanStepOn}

-- values that are all there are as many
more_there : {V : Type 0} (v : V) (vs : List (Option V)) (o : Option (List V)) (ts : List V)
    → ((ws : List V) → o ≡ Some ws → length ws ≡ length vs)
    → option_map (λ ws. v ∷ ws) o ≡ Some ts → length ts ≡ suc (length vs)
more_there v vs None ts rest e = absurd (none-some ts e)
more_there v vs (Some ws) ts rest e = ap length (sym (same_Some (v ∷ ws) ts e)) ∙ ap suc (rest ws refl)

there_length : {V : Type 0} (vs : List (Option V)) (ts : List V) → all_there vs ≡ Some ts → length ts ≡ length vs
there_length [] ts e = ap length (sym (same_Some [] ts e))
there_length (None ∷ vs) ts e = absurd (none-some ts e)
there_length (Some v ∷ vs) ts e = more_there v vs (all_there vs) ts (λ ws h. there_length vs ws h) e

module _ (grid : List ℕ) (op : Op) (s : State TensorValue) (device : ℕ) where
  -- of a local instruction its operands on the device
  pub gives_local : (steps_on grid).is_collective op ≡ false
      → gives (steps_on grid) op s device
      ≡ option_and_then ((steps_on grid).local op device) (all_there (map (s device) op.operands))
  unfolding steps_on
  gives_local h = rw h refl

  -- of a collective the operands of the device's group
  pub gives_collective : (steps_on grid).is_collective op ≡ true
      → gives (steps_on grid) op s device
      ≡ option_and_then (λ ts. collected op grid ts (place_in grid (axes_of op.kind) device))
      (all_there (map (λ m. operand_of op (s m)) (group_of grid (axes_of op.kind) device)))
  unfolding steps_on
  gives_collective h = rw h refl

  -- the operands of a group, where they are there
  pub collectable : (ts : List TensorValue) (place : ℕ) → CanStepOn grid op s device
      → (steps_on grid).is_collective op ≡ true
      → all_there (map (λ m. operand_of op (s m)) (group_of grid (axes_of op.kind) device)) ≡ Some ts
      → place ≡ place_in grid (axes_of op.kind) device → AreCollectable grid op place ts
  collectable ts place can h there is =
      subst (λ p. AreCollectable grid op p ts) (sym is)
      (subst (λ (o : Option (List TensorValue)). IfSome o (AreCollectable grid op (place_in grid (axes_of op.kind) device))) there (can.collective h))

  -- and a collective can make the result at the device's place of them
  pub collects : AreAxesOf (length grid) (axes_of op.kind) → device < cell_count grid → (ts : List TensorValue) (place : ℕ)
      → all_there (map (λ m. operand_of op (s m)) (group_of grid (axes_of op.kind) device)) ≡ Some ts
      → place ≡ place_in grid (axes_of op.kind) device → AreCollectable grid op place ts
      → CanCollect op.kind grid (map (λ t. t.shape) ts) place
  collects axes on ts place there is given =
      let long : length (map (λ (t : TensorValue). t.shape) ts) ≡ group_size_of grid (axes_of op.kind) =
      length-map ts (λ (t : TensorValue). t.shape)
      ∙ there_length (map (λ m. operand_of op (s m)) (group_of grid (axes_of op.kind) device)) ts there
      ∙ length-map (group_of grid (axes_of op.kind) device) (λ m. operand_of op (s m))
      ∙ length-group_of grid (axes_of op.kind) device in
      let below = place_in-below grid (axes_of op.kind) device on axes in
      record { axes = axes; counted = long; within = omega (arith, long, below, is); dims = given.operands.dims }
