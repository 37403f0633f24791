-- The group of a take: as many tensors as members, on which a collective can work.
use Rattle.std.proofs.Common.{◌≡◌, ℕ, ◌<◌, List, [], ◌∷◌, length, map, Option, Some, sym, ap, ◌∙◌, arith}
use Rattle.std.specs.Prelude.{slice_get}
use Rattle.std.proofs.lemmas.List.{length-map}
use Rattle.std.proofs.lemmas.Option.{same_Some}
use Rattle.sh_collectives.specs.Described.{CanCollect}
use Rattle.sh_grid.specs.Grid.{AreAxesOf, group_of, group_size_of}
use Rattle.sh_grid.proofs.GroupLaws.{length-group_of}
use Rattle.sh_ir.specs.declared.operations.Op.{Op}
use Rattle.sh_pieces.proofs.Names.{first_there}
use Rattle.sh_sem.specs.Steps.{axes_of}
use Rattle.sh_tensor.specs.Tensor.{TensorValue}
use Rattle.sh_turns.specs.Program.{all_there}
use Rattle.sh_turns.specs.World.{World, device_at, posted_for}
use Rattle.sh_world.specs.Turning.{CanTake, posted_in}

as_many_there : {X Y : Type 0} (get : X → Option Y) (xs : List X) (ys : List Y) → all_there (map get xs) ≡ Some ys → length ys ≡ length xs
as_many_there get [] ys h = ap length (sym (same_Some [] ys h))
as_many_there get (x ∷ xs) ys h =
    let c = first_there (get x) (map get xs) ys h in
    omega (arith, ap length c.whole, as_many_there get xs c.rest c.others)

pub can_collect : (op : Op) (grid : List ℕ) (c instruction number : ℕ) (w : World TensorValue) (ts : List TensorValue) (place : ℕ) → AreAxesOf (length grid) (axes_of op.kind)
    → posted_in grid op c instruction number w ≡ Some ts → place < group_size_of grid (axes_of op.kind) → CanTake op grid ts place
    → CanCollect op.kind grid (map (λ t. t.shape) ts) place
can_collect op grid c instruction number w ts place axes posted below can =
    let get : ℕ → Option TensorValue = λ m. posted_for instruction (slice_get (device_at w m).posts number) in
    let counted : length (map (λ (t : TensorValue). t.shape) ts) ≡ group_size_of grid (axes_of op.kind) =
    length-map ts (λ (t : TensorValue). t.shape) ∙ as_many_there get (group_of grid (axes_of op.kind) c) ts posted ∙ length-group_of grid (axes_of op.kind) c in
    record { axes = axes; counted = counted; within = omega (arith, below, counted); dims = can.operands.dims }
