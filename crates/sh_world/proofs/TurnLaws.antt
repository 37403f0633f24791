-- What the machine says of a turn, by the operation of the device's next instruction.
use Rattle.std.proofs.Common.{◌≡◌, ℕ, ◌-◌, ◌<◌, ◌≤◌, Bool, true, false, List, length, map, Option, Some, refl, ap, ap₂, ◌∙◌}
use Rattle.std.specs.Prelude.{slice_get, option_and_then, nat_le, nat_lt, not, ◌||◌}
use Rattle.std.specs.List.{list_all}
use Rattle.std.proofs.lemmas.Bool.{and_left, and_right, le-ltb, lt-ltb}
use Rattle.std.proofs.lemmas.Option.{slice_get_within}
use Rattle.sh_grid.specs.Grid.{group_of, place_in}
use Rattle.sh_ir.specs.declared.operations.Op.{Op}
use Rattle.sh_ir.specs.Classes.{class_of}
use Rattle.sh_pieces.specs.Instructions.{value_under}
use Rattle.sh_sem.specs.Collected.{collected}
use Rattle.sh_sem.specs.Steps.{axes_of, is_collective_class, steps_on}
use Rattle.sh_tensor.specs.Tensor.{TensorValue}
use Rattle.sh_turns.specs.Program.{all_there, there}
use Rattle.sh_turns.specs.World.{Device, World, can_go, can_move, device_at, local_turn, post_turn, posted_for, take_turn, taken, turn_of}
use Rattle.sh_world.specs.Machine.{Source, instructions_of, names_at, program_of}
use Rattle.sh_world.specs.Turning.{operands_on, posted_in}
use Rattle.sh_world.proofs.MachineLaws.{collect_is, collective_is, local_is, members_are, operand_is, size_is}

module _ (s : Source) (w : World TensorValue) (c : ℕ) where
  pub past_all : length (instructions_of s) ≤ (device_at w c).next → can_move (program_of s) w c ≡ false
  past_all le =
      let here : nat_lt (device_at w c).next (program_of s).size ≡ false = rw (size_is s) (le-ltb _ _ le) in
      and_right (nat_lt c (length w)) (can_go (program_of s) w c (device_at w c)) (and_left _ _ here)

  -- each member of the group has at least as many posts
  abbrev pub group_posted : Op → Device TensorValue → Bool
  group_posted op d = list_all (λ m. nat_le (length d.posts) (length (device_at w m).posts)) (group_of s.grid.extents (axes_of op.kind) c)

  pub can_is : (op : Op) → c < length w → slice_get (instructions_of s) (device_at w c).next ≡ Some op
      → can_move (program_of s) w c ≡ (not (is_collective_class (class_of op.kind)) || (not (device_at w c).waits || group_posted op (device_at w c)))
  can_is op within here =
      let next = (device_at w c).next in
      let one : nat_lt c (length w) ≡ true = lt-ltb _ _ within in
      let two : nat_lt next (program_of s).size ≡ true = rw (size_is s) (lt-ltb _ _ (slice_get_within (instructions_of s) next op here)) in
      rw (one, two, collective_is s next op here, members_are s next op here c) refl

  module _ (op : Op) (d : Device TensorValue) (here : slice_get (instructions_of s) d.next ≡ Some op) where
    pub turn_local : is_collective_class (class_of op.kind) ≡ false
        → turn_of (program_of s) w c d ≡ local_turn d (option_and_then ((steps_on s.grid.extents).local op c) (operands_on s d op))
    turn_local b = rw (collective_is s d.next op here, b) (ap (local_turn d) (local_is s d.next op here c d.values))

    pub turn_posts : is_collective_class (class_of op.kind) ≡ true → d.waits ≡ false
        → turn_of (program_of s) w c d ≡ post_turn d (option_and_then (value_under (names_at s d.next) (there d.values)) (slice_get op.operands 0))
    turn_posts b free =
        let collective : (program_of s).is_collective d.next ≡ true = collective_is s d.next op here ∙ b in
        let same : turn_of (program_of s) w c d ≡ post_turn d ((program_of s).operand d.next c (there d.values)) = rw (collective, free) refl in
        same ∙ ap (post_turn d) (operand_is s d.next op here c d.values)

    pub turn_takes : is_collective_class (class_of op.kind) ≡ true → d.waits ≡ true
        → turn_of (program_of s) w c d
        ≡ take_turn d (option_and_then (λ ts. collected op s.grid.extents ts (place_in s.grid.extents (axes_of op.kind) c)) (posted_in s.grid.extents op c d.next (length d.posts - 1) w))
    turn_takes b waits =
        let collective : (program_of s).is_collective d.next ≡ true = collective_is s d.next op here ∙ b in
        let same : turn_of (program_of s) w c d ≡ take_turn d (taken (program_of s) w c d) = rw (collective, waits) refl in
        let get : ℕ → Option TensorValue = λ m. posted_for d.next (slice_get (device_at w m).posts (length d.posts - 1)) in
        let collects : (program_of s).collect d.next c ≡ (λ ts. collected op s.grid.extents ts (place_in s.grid.extents (axes_of op.kind) c)) =
        λ i ts. (collect_is s d.next op here c ts) i in
        same
        ∙ ap (take_turn d) (ap₂ (λ (f : List TensorValue → Option TensorValue) (o : Option (List TensorValue)). option_and_then f o) collects
        (ap (λ (ms : List ℕ). all_there (map get ms)) (members_are s d.next op here c)))
