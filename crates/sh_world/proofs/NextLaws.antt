-- The turn of a device that can move, by its next instruction.
use Rattle.std.proofs.Common.{◌≡◌, ℕ, ◌-◌, ◌<◌, true, false, List, [], ◌∷◌, length, map, get_or, Option, Some, None, sym, ap, ◌∙◌, arith, subst}
use Rattle.std.specs.Prelude.{All, option_and_then, slice_get}
use Rattle.std.proofs.lemmas.Option.{get_or_from_slice_get}
use Rattle.sh_base.specs.Shape.{cell_count}
use Rattle.sh_grid.specs.Grid.{place_in}
use Rattle.sh_ir.specs.declared.operations.Op.{Op}
use Rattle.sh_ir.specs.Classes.{class_of}
use Rattle.sh_pieces.specs.Instructions.{last_place, value_under}
use Rattle.sh_pieces.proofs.Names.{first_there}
use Rattle.sh_sem.specs.Collected.{collected}
use Rattle.sh_sem.specs.Steps.{axes_of, is_collective_class, steps_on}
use Rattle.sh_tensor.specs.Tensor.{TensorValue}
use Rattle.sh_turns.specs.declared.Turn.TheVariants.{Posted}
use Rattle.sh_turns.specs.Program.{all_there, there}
use Rattle.sh_turns.specs.World.{Device, can_move, device_at, local_turn, post_turn, take_turn, turn_of, with_post}
use Rattle.sh_turns.proofs.Moves.{can_parts, has_next}
use Rattle.sh_world.specs.declared.scripts.Instruction.{Instruction}
use Rattle.sh_world.specs.declared.scripts.Script.{Script}
use Rattle.sh_world.specs.declared.states.State.{State}
use Rattle.sh_world.specs.Machine.{Source, instructions_of, names_at, program_of}
use Rattle.sh_world.specs.Sound.{IsSound, source_of}
use Rattle.sh_world.specs.States.{device_of, no_tensor, tensor_at}
use Rattle.sh_world.specs.Turning.{CanTake, CanTurn, operands_on, posted_in}
use Rattle.sh_world.proofs.MachineLaws.{size_is}
use Rattle.sh_world.proofs.PlaceLaws.{as_many_places, places_below, values_of_places}
use Rattle.sh_world.proofs.SoundLaws.{IsNext, as_many_instructions, device_here, next_is}
use Rattle.sh_world.proofs.TurnLaws.{turn_local, turn_posts, turn_takes}

-- a turn that isn't local or a take posts
pub local_never_posts : (d : Device TensorValue) (o : Option TensorValue) → (local_turn d o).0 ≡ Posted → ⊥
local_never_posts d None h = cc
local_never_posts d (Some t) h = cc

pub take_never_posts : (d : Device TensorValue) (o : Option TensorValue) → (take_turn d o).0 ≡ Posted → ⊥
take_never_posts d None h = cc
take_never_posts d (Some t) h = cc

-- the value of the first of some names
first_value : (ns : List (Option ℕ)) (vs : List TensorValue) (names places : List ℕ) (d : ℕ) → length ns ≡ length vs → all_there (map (last_place ns) names) ≡ Some places → 0 < length names
    → option_and_then (value_under ns (there vs)) (slice_get names 0) ≡ Some (tensor_at vs (get_or places 0 d))
first_value ns vs [] places d size h some = absurd (omega arith)
first_value ns vs (name ∷ names) places d size h some =
    let c = first_there (last_place ns name) (map (last_place ns) names) places h in
    let one : all_there (map (last_place ns) (name ∷ [])) ≡ Some (c.first ∷ []) = ap (λ o. all_there (o ∷ [])) c.here in
    let here : all_there (map (value_under ns (there vs)) (name ∷ [])) ≡ Some (tensor_at vs c.first ∷ []) = values_of_places ns vs no_tensor size (name ∷ []) (c.first ∷ []) one in
    let v = first_there (value_under ns (there vs) name) [] (tensor_at vs c.first ∷ []) here in
    let same : tensor_at vs c.first ≡ v.first = ap (λ (ts : List TensorValue). get_or ts 0 no_tensor) v.whole in
    v.here ∙ ap (λ t. Some t) (sym same) ∙ ap (λ (ks : List ℕ). Some (tensor_at vs (get_or ks 0 d))) (sym c.whole)

module _ (x : Script) (states : List State) (sound : IsSound x states) (c : ℕ) (state : State) (below : c < cell_count x.grid.now.extents) (found : slice_get states c ≡ Some state)
  where
    abbrev s : Source
    s = source_of x states

    pub state_is : state ≡ get_or states c state
    state_is = sym (get_or_from_slice_get states c state state found)

    pub more_here : can_move (program_of s) (map device_of states) c ≡ true → state.next < length x.instructions.items
    more_here moves =
        let w = map device_of states in
        let there : (device_at w c).next < (program_of s).size = has_next (program_of s) w c (device_at w c) (can_parts (program_of s) w c moves).1 in
        let here : state.next < (program_of s).size = subst (λ (d : Device TensorValue). d.next < (program_of s).size) (device_here x states sound c state below state_is) there in
        omega (arith, here, size_is s, as_many_instructions x states sound)

    pub next_here : (i : Instruction) → can_move (program_of s) (map device_of states) c ≡ true → i ≡ get_or x.instructions.items state.next i → IsNext s states c state i
    next_here i moves has = next_is x states sound c state i below state_is (more_here moves) has

module _ (s : Source) (states : List State) (c : ℕ) (state : State) (i : Instruction) (next : IsNext s states c state i) where
  pub places_here : All (λ place. place < length state.values.items) i.places.items
  places_here = places_below (names_at s state.next) state.values.items no_tensor next.values i.op.now.operands i.places.items next.places

  operands_here : operands_on s (device_of state) i.op.now ≡ Some (map (tensor_at state.values.items) i.places.items)
  operands_here = values_of_places (names_at s state.next) state.values.items no_tensor next.values i.op.now.operands i.places.items next.places

  at_device : turn_of (program_of s) (map device_of states) c (device_at (map device_of states) c) ≡ turn_of (program_of s) (map device_of states) c (device_of state)
  at_device = ap (turn_of (program_of s) (map device_of states) c) next.device

  pub local_here : is_collective_class (class_of i.op.now.kind) ≡ false
      → turn_of (program_of s) (map device_of states) c (device_at (map device_of states) c)
      ≡ local_turn (device_of state) ((steps_on s.grid.extents).local i.op.now c (map (tensor_at state.values.items) i.places.items))
  local_here b =
      at_device ∙ turn_local s (map device_of states) c i.op.now (device_of state) next.op b
      ∙ ap (λ o. local_turn (device_of state) (option_and_then ((steps_on s.grid.extents).local i.op.now c) o)) operands_here

  pub takes_here : is_collective_class (class_of i.op.now.kind) ≡ true → state.waits ≡ true
      → turn_of (program_of s) (map device_of states) c (device_at (map device_of states) c)
      ≡ take_turn (device_of state) (option_and_then (λ ts. collected i.op.now s.grid.extents ts (place_in s.grid.extents (axes_of i.op.now.kind) c))
      (posted_in s.grid.extents i.op.now c state.next (length (device_of state).posts - 1) (map device_of states)))
  takes_here b waits = at_device ∙ turn_takes s (map device_of states) c i.op.now (device_of state) next.op b waits

  pub some_places : is_collective_class (class_of i.op.now.kind) ≡ true → 0 < length i.places.items
  some_places b = omega (arith, next.asked.order.some b, as_many_places (names_at s state.next) i.op.now.operands i.places.items next.places)

  pub posts_here : is_collective_class (class_of i.op.now.kind) ≡ true → state.waits ≡ false → (d : ℕ)
      → turn_of (program_of s) (map device_of states) c (device_at (map device_of states) c)
      ≡ (Posted, with_post (device_of state) (tensor_at state.values.items (get_or i.places.items 0 d)))
  posts_here b free d =
      at_device ∙ turn_posts s (map device_of states) c i.op.now (device_of state) next.op b free
      ∙ ap (post_turn (device_of state)) (first_value (names_at s state.next) state.values.items i.op.now.operands i.places.items d next.values next.places (next.asked.order.some b))

  module _ (can : Op → List ℕ → ℕ → List TensorValue → Type 0) (able : CanTurn can s (map device_of states) c) where
    pub can_step_here : is_collective_class (class_of i.op.now.kind) ≡ false → can i.op.now s.grid.extents c (map (tensor_at state.values.items) i.places.items)
    can_step_here b =
        able.steps i.op.now (map (tensor_at state.values.items) i.places.items)
        (subst (λ (d : Device TensorValue). slice_get (instructions_of s) d.next ≡ Some i.op.now) (sym next.device) next.op) b
        (subst (λ (d : Device TensorValue). operands_on s d i.op.now ≡ Some (map (tensor_at state.values.items) i.places.items)) (sym next.device) operands_here)

    pub can_take_here : state.waits ≡ true → (ts : List TensorValue)
        → posted_in s.grid.extents i.op.now c state.next (length (device_of state).posts - 1) (map device_of states) ≡ Some ts
        → CanTake i.op.now s.grid.extents ts (place_in s.grid.extents (axes_of i.op.now.kind) c)
    can_take_here waits ts posted =
        able.takes i.op.now ts
        (subst (λ (d : Device TensorValue). slice_get (instructions_of s) d.next ≡ Some i.op.now) (sym next.device) next.op)
        (subst (λ (d : Device TensorValue). d.waits ≡ true) (sym next.device) waits)
        (subst (λ (d : Device TensorValue). posted_in s.grid.extents i.op.now c d.next (length d.posts - 1) (map device_of states) ≡ Some ts) (sym next.device) posted)
