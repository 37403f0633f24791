-- A world before any turn.
use Rattle.std.proofs.Common.{◌≡◌, ℕ, zero, suc, ◌<◌, List, [], ◌∷◌, length, map, take, get_or, Some, refl, sym, ap, ap₂, ◌∙◌, arith, subst}
use Rattle.std.specs.Prelude.{All, filter_map}
use Rattle.std.proofs.lemmas.List.{ext_get_or, get_or-map, length-map, take_all}
use Rattle.std.proofs.lemmas.List.Elements.{All-head, All-tail}
use Rattle.std.proofs.lemmas.List.FromFn.{fill_by_all}
use Rattle.std.proofs.lemmas.Option.{get_or_from_slice_get, same_Some, slice_get-get_or}
use Rattle.sh_grid.specs.Grid.{GridValue}
use Rattle.sh_ir.specs.declared.functions.Func.{Func}
use Rattle.sh_ir.specs.declared.operations.Op.{Op}
use Rattle.sh_pieces.specs.Instructions.{at_instruction, last_place}
use Rattle.sh_sem.specs.Returned.{returned}
use Rattle.sh_sem.specs.Steps.{device_function, device_program, steps_on}
use Rattle.sh_tensor.specs.Tensor.{TensorValue}
use Rattle.sh_turns.specs.Program.{collectives}
use Rattle.sh_turns.specs.World.{Device, World, fresh, start}
use Rattle.sh_world.specs.declared.scripts.Instruction.{Instruction}
use Rattle.sh_world.specs.declared.scripts.Script.{Script}
use Rattle.sh_world.specs.declared.states.State.{State}
use Rattle.sh_world.specs.Machine.{AfterTurns, IsRunnable, Source, StandsFor, WorldValue, instructions_of, program_of}
use Rattle.sh_world.specs.Scripts.{AllArePlaced, KnowsOperands, collectives_in, names_until, without_return}
use Rattle.sh_world.specs.Sound.{IsSound, arguments_in, source_of, value_of}
use Rattle.sh_world.specs.States.{HasPosted, HasRoom, device_of}
use Rattle.sh_world.proofs.MachineLaws.{arguments_are, devices_are, size_is}

-- ---- what is so of one list of turns is so of each

pub after_any : (m : WorldValue) (Holds : World TensorValue → Type 0) → Holds m.devices → AfterTurns m Holds
after_any m Holds h turns devices stands is = subst Holds (same_Some m.devices devices (sym stands ∙ is)) h

-- ---- instructions

pub instructions_are : (s : Source) → instructions_of s ≡ without_return s.function.ops
unfolding device_function
instructions_are s = refl

pub knows_operands : (s : Source) → IsRunnable s → KnowsOperands (map (λ a. a.id) s.function.args) (without_return s.function.ops)
unfolding device_function steps_on
knows_operands s can k op here = (can.instructions k op here).order.known

placed_at : (ids : List ℕ) (ops : List Op) (is : List Instruction) → AllArePlaced ids ops (length ops) is → (k : ℕ) → k < length is → (d : Op) → get_or ops k d ≡ get_or (map (λ i. i.op.now) is) k d
placed_at ids ops [] all k lt d = absurd (omega arith)
placed_at ids ops (i ∷ is) all k lt d =
    let here = slice_get-get_or (i ∷ is) k i lt in
    get_or_from_slice_get ops k (get_or (i ∷ is) k i).op.now d (all.each k (get_or (i ∷ is) k i) here).op
    ∙ sym (get_or-map (λ (j : Instruction). j.op.now) (i ∷ is) k i d lt)

same_lists : {X : Type 0} (xs ys : List X) → length xs ≡ length ys → ((k : ℕ) (d : X) → k < length xs → get_or xs k d ≡ get_or ys k d) → xs ≡ ys
same_lists [] [] size same = refl
same_lists [] (y ∷ ys) size same = absurd (omega arith)
same_lists (x ∷ xs) ys size same = ext_get_or x (x ∷ xs) ys size (λ k lt. same k x lt)

pub results_are : (s : Source) → (program_of s).results
    ≡ filter_map (last_place (names_until (map (λ a. a.id) s.function.args) (without_return s.function.ops) (length (without_return s.function.ops)))) (returned s.function.ops)
unfolding device_program device_function steps_on
results_are s = refl

-- ---- how many collectives

pub collectives_are : (s : Source) (k : ℕ) → collectives (program_of s) k ≡ collectives_in (instructions_of s) k
unfolding device_program steps_on at_instruction
collectives_are s zero = refl
collectives_are s (suc k) = rw (collectives_are s k) refl

-- ---- arguments

take_each : (n : ℕ) (rows : List (List TensorValue)) → All (λ row. length row ≡ n) rows → map (take n) rows ≡ rows
take_each n [] all = refl
take_each n (row ∷ rows) all =
    let size : length row ≡ n = All-head (λ (row : List TensorValue). length row ≡ n) row rows all in
    let here : take n row ≡ row = take_all n row (omega (arith, size)) in
    rw (here, take_each n rows (All-tail (λ (row : List TensorValue). length row ≡ n) row rows all)) refl

in_two : (n : ℕ) (states : List State) → map (arguments_in n) states ≡ map (take n) (map (λ s. s.values.items) states)
in_two n [] = refl
in_two n (s ∷ states) = ap (λ rows. take n s.values.items ∷ rows) (in_two n states)

pub arguments_same : (n : ℕ) (states : List State) (rows : List (List TensorValue)) → map (λ s. s.values.items) states ≡ rows → All (λ row. length row ≡ n) rows → map (arguments_in n) states ≡ rows
arguments_same n states rows e all = in_two n states ∙ ap (map (take n)) e ∙ take_each n rows all

pub start_is : (s : Source) → IsRunnable s → start (program_of s) ≡ map fresh s.arguments
start_is s can =
    let f : ℕ → Device TensorValue = λ c. fresh ((program_of s).arguments c) in
    sym (fill_by_all f (map fresh s.arguments) (program_of s).devices (fresh []) (length-map s.arguments fresh ∙ can.devices ∙ sym (devices_are s))
    (λ k lt. get_or-map fresh s.arguments k [] (fresh []) (omega (arith, lt, devices_are s, can.devices)) ∙ ap fresh (sym (arguments_are s k))))

-- ---- the world before any turn

abbrev source_with : Func → GridValue → List (List TensorValue) → Source
source_with f g rows = record { function = f; grid = g; arguments = rows }

-- what is given to a world, and what it makes of it
pub record IsStarted (s : Source) (x : Script) (states : List State) : Type 0 where
  pub function : x.func.now ≡ s.function
  pub grid : x.grid.now ≡ s.grid
  pub arity : x.arity ≡ length s.function.args
  pub placed : AllArePlaced (map (λ a. a.id) s.function.args) (without_return s.function.ops) (length (without_return s.function.ops)) x.instructions.items
  pub results : x.results.items ≡ filter_map (last_place (names_until (map (λ a. a.id) s.function.args) (without_return s.function.ops) (length (without_return s.function.ops)))) (returned s.function.ops)
  pub values : map (λ s. s.values.items) states ≡ s.arguments
  pub devices : map device_of states ≡ map fresh s.arguments
  pub posted : All HasPosted states
  pub room : All (HasRoom (collectives_in (map (λ i. i.op.now) x.instructions.items) (length x.instructions.items))) states

module _ (s : Source) (x : Script) (states : List State) (can : IsRunnable s) (is : IsStarted s x states) where
  pub started_source : source_of x states ≡ s
  started_source =
      let rows : map (arguments_in x.arity) states ≡ s.arguments =
      ap (λ n. map (arguments_in n) states) is.arity ∙ arguments_same (length s.function.args) states s.arguments is.values can.arguments in
      ap₂ (λ (f : Func) (g : GridValue). source_with f g (map (arguments_in x.arity) states)) is.function is.grid ∙ ap (source_with s.function s.grid) rows

  pub started_stands : StandsFor (value_of x states) []
  started_stands =
      ap (λ w. Some w) (ap (λ (t : Source). start (program_of t)) started_source ∙ start_is s can ∙ sym is.devices)

  ops_are : map (λ i. i.op.now) x.instructions.items ≡ without_return s.function.ops
  ops_are =
      same_lists (map (λ (i : Instruction). i.op.now) x.instructions.items) (without_return s.function.ops) (length-map x.instructions.items (λ (i : Instruction). i.op.now) ∙ is.placed.counted)
      (λ k d lt. sym (placed_at (map (λ a. a.id) s.function.args) (without_return s.function.ops) x.instructions.items is.placed k (omega (arith, lt, length-map x.instructions.items (λ (i : Instruction). i.op.now))) d))

  count_is : collectives_in (map (λ i. i.op.now) x.instructions.items) (length x.instructions.items) ≡ collectives (program_of s) (program_of s).size
  count_is =
      ap₂ collectives_in ops_are is.placed.counted
      ∙ ap₂ (λ (os : List Op) n. collectives_in os n) (sym (instructions_are s)) (ap length (sym (instructions_are s)) ∙ sym (size_is s))
      ∙ sym (collectives_are s (program_of s).size)

  pub started_sound : IsSound x states
  started_sound = record {
    runnable = subst IsRunnable (sym started_source) can;
    arity = is.arity ∙ ap (λ (f : Func). length f.args) (sym is.function);
    placed =
        subst (λ (t : Source). AllArePlaced (map (λ a. a.id) t.function.args) (instructions_of t) (length (instructions_of t)) x.instructions.items) (sym started_source)
        (subst (λ (os : List Op). AllArePlaced (map (λ a. a.id) s.function.args) os (length os) x.instructions.items) (sym (instructions_are s)) is.placed);
    results = is.results ∙ sym (results_are s) ∙ ap (λ (t : Source). (program_of t).results) (sym started_source);
    posted = is.posted;
    room = subst (λ n. All (HasRoom n) states) (count_is ∙ ap (λ (t : Source). collectives (program_of t) (program_of t).size) (sym started_source)) is.room;
    stands = ([], started_stands);
  }
