-- The program of a function in device form, by its instructions.
use Rattle.std.proofs.Common.{◌≡◌, ℕ, false, List, [], length, map, get_or, Some, None, refl, sym, ap, ◌∙◌, arith}
use Rattle.std.specs.Prelude.{slice_get, option_and_then, option_map, unwrap_or}
use Rattle.std.proofs.lemmas.List.{length-map}
use Rattle.std.proofs.lemmas.List.Elements.{All-get_or}
use Rattle.sh_base.specs.Shape.{cell_count}
use Rattle.sh_collectives.proofs.DeviceLaws.{device_by_names}
use Rattle.sh_grid.specs.Grid.{group_of, place_in}
use Rattle.sh_ir.specs.declared.operations.Op.{Op}
use Rattle.sh_ir.specs.Classes.{class_of}
use Rattle.sh_pieces.specs.Instructions.{UsesEarlier, at_instruction, value_under}
use Rattle.sh_pieces.specs.Runs.{HaveArguments}
use Rattle.sh_sem.specs.Collected.{collected}
use Rattle.sh_sem.specs.Steps.{axes_of, device_function, device_program, is_collective_class, steps_on}
use Rattle.sh_tensor.specs.Tensor.{TensorValue}
use Rattle.sh_turns.specs.Law.{HoldsInEveryOrder}
use Rattle.sh_turns.specs.Program.{IsWellFormed, all_there, there}
use Rattle.sh_turns.proofs.EveryOrder.{every_order}
use Rattle.sh_world.specs.Machine.{IsRunnable, Source, instructions_of, names_at, program_of}
use Rattle.sh_world.proofs.PlaceLaws.{first_known}

module _ (s : Source) where
  at_is : {X : Type 0} (default : X) (fact : Op → X) (k : ℕ) (op : Op) → slice_get (instructions_of s) k ≡ Some op
      → at_instruction (device_function s.function) default fact k ≡ fact op
  unfolding at_instruction
  at_is default fact k op here = ap (λ o. unwrap_or (option_map fact o) default) here

  pub size_is : (program_of s).size ≡ length (instructions_of s)
  unfolding device_program
  size_is = refl

  pub devices_are : (program_of s).devices ≡ cell_count s.grid.extents
  unfolding device_program steps_on
  devices_are = refl

  pub arguments_are : (c : ℕ) → (program_of s).arguments c ≡ get_or s.arguments c []
  unfolding device_program
  arguments_are c = refl

  module _ (k : ℕ) (op : Op) (here : slice_get (instructions_of s) k ≡ Some op) where
    pub collective_is : (program_of s).is_collective k ≡ is_collective_class (class_of op.kind)
    unfolding device_program steps_on
    collective_is = at_is false (λ (i : Op). is_collective_class (class_of i.kind)) k op here

    pub members_are : (c : ℕ) → (program_of s).members k c ≡ group_of s.grid.extents (axes_of op.kind) c
    unfolding device_program steps_on
    members_are c = at_is [] (λ (i : Op). group_of s.grid.extents (axes_of i.kind) c) k op here

    pub operand_is : (c : ℕ) (vs : List TensorValue)
        → (program_of s).operand k c (there vs) ≡ option_and_then (value_under (names_at s k) (there vs)) (slice_get op.operands 0)
    unfolding device_program steps_on
    operand_is c vs =
        at_is None (λ (i : Op). option_and_then (value_under (names_at s k) (there vs)) (slice_get i.operands 0)) k op here

    pub local_is : (c : ℕ) (vs : List TensorValue)
        → (program_of s).local k c (there vs) ≡ option_and_then ((steps_on s.grid.extents).local op c) (all_there (map (value_under (names_at s k) (there vs)) op.operands))
    unfolding device_program steps_on
    local_is c vs =
        at_is None (λ (i : Op). option_and_then ((steps_on s.grid.extents).local i c) (all_there (map (value_under (names_at s k) (there vs)) i.operands))) k op here

    pub collect_is : (c : ℕ) (ts : List TensorValue)
        → (program_of s).collect k c ts ≡ collected op s.grid.extents ts (place_in s.grid.extents (axes_of op.kind) c)
    unfolding device_program steps_on
    collect_is c ts =
        at_is None (λ (i : Op). collected i s.grid.extents ts (place_in s.grid.extents (axes_of i.kind) c)) k op here

-- ---- what devices can run is well formed

parameters_are : (s : Source) → length (device_function s.function).parameters ≡ length s.function.args
unfolding device_function
parameters_are s = length-map s.function.args (λ a. a.id)

uses_earlier : (s : Source) → IsRunnable s → UsesEarlier (steps_on s.grid.extents) (device_function s.function)
unfolding steps_on
uses_earlier s can k op here collective =
    let i = can.instructions k op here in
    first_known (names_at s k) op.operands i.order.known (i.order.some collective)

have_arguments : (s : Source) → IsRunnable s → HaveArguments (steps_on s.grid.extents) (device_function s.function).parameters (λ device. get_or s.arguments device [])
unfolding steps_on
have_arguments s can c below =
    All-get_or (λ ts. length ts ≡ length s.function.args) s.arguments c [] (omega (arith, can.devices, below)) can.arguments ∙ sym (parameters_are s)

pub well_formed : (s : Source) → IsRunnable s → IsWellFormed (program_of s)
well_formed s can =
    (device_by_names s.function s.grid.extents (λ device. get_or s.arguments device []) (have_arguments s can)).formed (uses_earlier s can)

pub in_every_order : (s : Source) → IsRunnable s → HoldsInEveryOrder (program_of s)
in_every_order s can = every_order (program_of s) (well_formed s can)
