-- What a sound world says of a device and of its next instruction.
use Rattle.std.proofs.Common.{◌≡◌, ℕ, ◌<◌, ◌≤◌, true, false, List, [], ◌∷◌, length, map, get_or, Some, refl, sym, ap, ◌∙◌, arith, subst}
use Rattle.std.specs.Prelude.{filter_map, nat_le, not, slice_get, vec_capacity, ◌||◌, ◌&&◌}
use Rattle.std.specs.List.{list_all}
use Rattle.std.proofs.lemmas.List.{length-map}
use Rattle.std.proofs.lemmas.List.Elements.{All-get_or}
use Rattle.std.proofs.lemmas.Option.{slice_get-get_or, slice_get_within}
use Rattle.sh_base.specs.Shape.{cell_count}
use Rattle.sh_ir.specs.declared.functions.Arg.{Arg}
use Rattle.sh_ir.specs.Classes.{class_of}
use Rattle.sh_pieces.specs.Instructions.{last_place}
use Rattle.sh_sem.specs.Steps.{device_function, is_collective_class, steps_on}
use Rattle.sh_tensor.specs.Tensor.{TensorValue}
use Rattle.sh_turns.specs.Law.{AgreesWith}
use Rattle.sh_turns.specs.Program.{all_there, collectives, returned}
use Rattle.sh_turns.specs.World.{Device, can_move, device_at, finished}
use Rattle.sh_turns.proofs.EveryOrder.{has_room, length-values}
use Rattle.sh_world.specs.declared.scripts.Instruction.{Instruction}
use Rattle.sh_world.specs.declared.scripts.Script.{Script}
use Rattle.sh_world.specs.declared.states.State.{State}
use Rattle.sh_world.specs.Machine.{IsInstruction, Source, instructions_of, names_at, program_of}
use Rattle.sh_world.specs.Scripts.{names_until}
use Rattle.sh_world.specs.Sound.{IsSound, arguments_in, source_of}
use Rattle.sh_world.specs.States.{device_of, HasRoom}
use Rattle.sh_world.proofs.GroupLaws.{device_is}
use Rattle.sh_world.proofs.MachineLaws.{arguments_are, collective_is, devices_are, in_every_order, size_is}
use Rattle.sh_world.proofs.PlaceLaws.{length-names_until}
use Rattle.sh_world.proofs.TurnLaws.{can_is, group_posted, past_all}

pub names_are : (s : Source) (k : ℕ) → names_at s k ≡ names_until (map (λ a. a.id) s.function.args) (instructions_of s) k
unfolding steps_on device_function
names_are s k = refl

-- a device's state, and its next instruction with the places of its operands
pub record IsNext (s : Source) (states : List State) (c : ℕ) (state : State) (i : Instruction) : Type 0 where
  pub device : device_at (map device_of states) c ≡ device_of state
  pub op : slice_get (instructions_of s) state.next ≡ Some i.op.now
  pub asked : IsInstruction s.grid.extents (names_at s state.next) i.op.now
  pub places : all_there (map (last_place (names_at s state.next)) i.op.now.operands) ≡ Some i.places.items
  pub values : length (names_at s state.next) ≡ length state.values.items

module _ (x : Script) (states : List State) (sound : IsSound x states) where
  abbrev s : Source
  s = source_of x states

  pub as_many_states : length states ≡ cell_count x.grid.now.extents
  as_many_states = sym (length-map states (arguments_in x.arity)) ∙ sound.runnable.devices

  pub as_many_instructions : length x.instructions.items ≡ length (instructions_of s)
  as_many_instructions = sound.placed.counted

  pub agrees : (c : ℕ) (state : State) → c < cell_count x.grid.now.extents → state ≡ get_or states c state → AgreesWith (program_of s) c (device_of state)
  agrees c state below is =
      let all = (in_every_order s sound.runnable sound.stands.0 (map device_of states) sound.stands.1).agree in
      subst (AgreesWith (program_of s) c) (device_is states c state (omega (arith, below, as_many_states)) is) (all.each c (rw (devices_are s) below))

  pub device_here : (c : ℕ) (state : State) → c < cell_count x.grid.now.extents → state ≡ get_or states c state → device_at (map device_of states) c ≡ device_of state
  device_here c state below is = device_is states c state (omega (arith, below, as_many_states)) is

  -- as many values as names
  named : (c : ℕ) (state : State) → c < cell_count x.grid.now.extents → AgreesWith (program_of s) c (device_of state) → length (names_at s state.next) ≡ length state.values.items
  named c state below agree =
      let ids = map (λ (a : Arg). a.id) x.func.now.args in
      let next : state.next ≤ length (instructions_of s) = rw (size_is s) at agree.within in
      let given : length (get_or s.arguments c []) ≡ length x.func.now.args =
      All-get_or (λ (ts : List TensorValue). length ts ≡ length x.func.now.args) s.arguments c [] (omega (arith, below, sound.runnable.devices)) sound.runnable.arguments in
      ap length (names_are s state.next) ∙ length-names_until ids (instructions_of s) state.next next
      ∙ omega (arith, length-map x.func.now.args (λ (a : Arg). a.id), given, length-values (program_of s) c (device_of state) agree, ap length (arguments_are s c))

  pub arity_here : (c : ℕ) (state : State) → c < cell_count x.grid.now.extents → state ≡ get_or states c state → x.arity ≤ length state.values.items
  arity_here c state below is =
      let ids = map (λ (a : Arg). a.id) x.func.now.args in
      let agree = agrees c state below is in
      let next : state.next ≤ length (instructions_of s) = rw (size_is s) at agree.within in
      let names = ap length (names_are s state.next) ∙ length-names_until ids (instructions_of s) state.next next in
      omega (arith, names, length-map x.func.now.args (λ (a : Arg). a.id), sound.arity, named c state below agree)

  pub next_is : (c : ℕ) (state : State) (i : Instruction) → c < cell_count x.grid.now.extents → state ≡ get_or states c state
      → state.next < length x.instructions.items → i ≡ get_or x.instructions.items state.next i → IsNext s states c state i
  next_is c state i below is more has =
      let found : slice_get x.instructions.items state.next ≡ Some i = slice_get-get_or x.instructions.items state.next i more ∙ ap (λ (j : Instruction). Some j) (sym has) in
      let placed = sound.placed.each state.next i found in
      record {
        device = device_here c state below is;
        op = placed.op;
        asked = sound.runnable.instructions state.next i.op.now placed.op;
        places = rw (names_are s state.next) placed.places;
        values = named c state below (agrees c state below is);
      }

  -- whether it can move
  pub past_here : (c : ℕ) (state : State) → c < cell_count x.grid.now.extents → state ≡ get_or states c state
      → length x.instructions.items ≤ state.next → can_move (program_of s) (map device_of states) c ≡ false
  past_here c state below is past =
      past_all s (map device_of states) c
      (subst (λ (d : Device TensorValue). length (instructions_of s) ≤ d.next) (sym (device_here c state below is)) (omega (arith, past, as_many_instructions)))

  pub can_here : (c : ℕ) (state : State) (i : Instruction) → c < cell_count x.grid.now.extents → IsNext s states c state i
      → can_move (program_of s) (map device_of states) c
      ≡ (not (is_collective_class (class_of i.op.now.kind)) || (not state.waits || group_posted s (map device_of states) c i.op.now (device_of state)))
  can_here c state i below next =
      can_is s (map device_of states) c i.op.now (rw (length-map states device_of) (omega (arith, below, as_many_states)))
      (subst (λ (d : Device TensorValue). slice_get (instructions_of s) d.next ≡ Some i.op.now) (sym next.device) next.op)
      ∙ ap (λ (d : Device TensorValue). not (is_collective_class (class_of i.op.now.kind)) || (not d.waits || group_posted s (map device_of states) c i.op.now d)) next.device

  -- a device that posts has room for the post
  pub room_here : (c : ℕ) (state : State) (i : Instruction) → c < cell_count x.grid.now.extents → state ≡ get_or states c state
      → IsNext s states c state i → is_collective_class (class_of i.op.now.kind) ≡ true → state.waits ≡ false → length (device_of state).posts < vec_capacity state.posts
  room_here c state i below is next collective free =
      let agree = agrees c state below is in
      let more : state.next < (program_of s).size = rw (size_is s) (slice_get_within (instructions_of s) state.next i.op.now next.op) in
      let few = has_room (program_of s) c (device_of state) agree more (collective_is s state.next i.op.now next.op ∙ collective) free in
      let room = All-get_or (HasRoom (collectives (program_of s) (program_of s).size)) states c state (omega (arith, below, as_many_states)) sound.room in
      let here : collectives (program_of s) (program_of s).size ≤ vec_capacity state.posts = subst (λ (t : State). collectives (program_of s) (program_of s).size ≤ vec_capacity t.posts) (sym is) room in
      omega (arith, few, here)

  pub over_where_all : list_all (λ (t : State). nat_le (length x.instructions.items) t.next) states ≡ finished (program_of s) (map device_of states)
  over_where_all =
      rw (size_is s, as_many_instructions) (over states)
    where
      over : (ts : List State) → list_all (λ (t : State). nat_le (length (instructions_of s)) t.next) ts ≡ list_all (λ (d : Device TensorValue). nat_le (length (instructions_of s)) d.next) (map device_of ts)
      over [] = refl
      over (t ∷ ts) = ap (λ b. nat_le (length (instructions_of s)) t.next && b) (over ts)

  pub returned_where_all : map (λ (t : State). filter_map (λ place. slice_get t.values.items place) x.results.items) states ≡ map (λ d. returned (program_of s) d.values) (map device_of states)
  returned_where_all =
      ap (λ (places : List ℕ). map (λ (t : State). filter_map (λ place. slice_get t.values.items place) places) states) sound.results ∙ each states
    where
      each : (ts : List State) → map (λ (t : State). filter_map (λ place. slice_get t.values.items place) (program_of s).results) ts ≡ map (λ d. returned (program_of s) d.values) (map device_of ts)
      each [] = refl
      each (t ∷ ts) = ap (λ rows. filter_map (λ place. slice_get t.values.items place) (program_of s).results ∷ rows) (each ts)
