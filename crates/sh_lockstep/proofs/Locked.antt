-- Functions in device form that are run in step, from the arguments to the end.
use Rattle.std.proofs.Common.{Bor, ◌≡◌, ◌≤◌, ℕ, zero, suc, ◌+◌, ◌<◌, List, [], ◌∷◌, map, length, get_or, Option, Some, refl, ap, ap₂, sym, ◌∙◌, subst, add-one, arith}
use Rattle.std.specs.Prelude.{IsSome, option_map, slice_get}
use Rattle.std.specs.List.{range_with_len}
use Rattle.std.proofs.lemmas.List.{length-map}
use Rattle.std.proofs.lemmas.Option.{same_Some, slice_get-map, slice_get_read}
use Rattle.sh_base.specs.Shape.{cell_count}
use Rattle.sh_ir.specs.declared.functions.Func.{Func}
use Rattle.sh_ir.specs.declared.operations.Op.{Op}
use Rattle.sh_pieces.specs.Instructions.{State}
use Rattle.sh_pieces.specs.Runs.{HaveArguments, argument_under}
use Rattle.sh_sem.specs.Returned.{returned}
use Rattle.sh_sem.specs.Steps.{device_function, device_program, steps_on}
use Rattle.sh_tensor.specs.Tensor.{TensorValue}
use Rattle.sh_turns.specs.Lockstep.{Done, lockstep, results_of}
use Rattle.sh_turns.specs.Program.{all_there}
use Rattle.sh_lockstep.specs.declared.lock.Lock.{Lock}
use Rattle.sh_lockstep.specs.Behind.{CanLock, IsBehind, arguments_in}
use Rattle.sh_lockstep.specs.Locks.{AreRows, IsDone, IsEnd, outcome_in}
use Rattle.sh_lockstep.proofs.Progress.{at_first, ends_done, ends_with, goes_on, lacks_at}

-- a list is known by its items
same_items : {X : Type 0} (g : ℕ → X) (a n : ℕ) (xs : List X) → length xs ≡ n
    → ((k : ℕ) → k < n → slice_get xs k ≡ Some (g (a + k))) → xs ≡ map g (range_with_len a n)
same_items g a n [] e each = ap (λ k. map g (range_with_len a k)) e
same_items g a zero (x ∷ xs) e each = absurd (omega (arith, e))
same_items g a (suc n) (x ∷ xs) e each =
    let first : x ≡ g a = same_Some x (g (a + 0)) (each 0 (omega arith)) ∙ ap g (omega arith) in
    let next : (k : ℕ) → k < n → slice_get xs k ≡ Some (g (a + 1 + k)) =
    λ k l. each (suc k) (omega (arith, l)) ∙ ap (λ j. Some (g j)) (omega arith) in
    ap₂ ◌∷◌ first (same_items g (a + 1) n xs (omega (arith, e)) next)

-- the instruction that is borrowed at a place
pub instruction_at : (ops : List (Bor Op)) (instructions : List Op) (at : ℕ) (op : Bor Op) → map (λ op. op.now) ops ≡ instructions
    → at < length ops → op ≡ get_or ops at op → slice_get instructions at ≡ Some op.now
instruction_at ops instructions at op same inside is =
    ap (λ (xs : List Op). slice_get xs at) (sym same)
    ∙ slice_get-map (λ (op : Bor Op). op.now) ops at
    ∙ ap (option_map (λ (op : Bor Op). op.now)) (slice_get_read ops (length ops) at op refl inside is)

-- behind all
pub all_done : (ops : List (Bor Op)) (instructions : List Op) (at : ℕ) → map (λ op. op.now) ops ≡ instructions
    → at ≤ length instructions → length ops ≤ at → at ≡ length instructions
all_done ops instructions at same within past =
    let long : length instructions ≡ length ops = sym (ap length same) ∙ length-map ops (λ (op : Bor Op). op.now) in
    omega (arith, long, within, past)

module _ (f : Func) (grid : List ℕ) (args : List (List TensorValue)) (can : CanLock f grid args) where
  -- each device has an argument for each parameter
  pub have_arguments : HaveArguments (steps_on grid) (device_function f).parameters (arguments_in args)
  unfolding device_function steps_on
  have_arguments c l = can.arguments c [] (omega (arith, l, can.counted)) ∙ sym (length-map f.args (λ a. a.id))

  -- before the first instruction
  pub behind_none : (s : State TensorValue)
      → ((c name : ℕ) → c < length args → s c name ≡ argument_under (map (λ a. a.id) f.args) (get_or args c []) name)
      → IsBehind grid (device_function f) (arguments_in args) 0 s
  unfolding device_function steps_on
  behind_none s started = at_first grid (device_function f) (arguments_in args) s (λ c name l. started c name (omega (arith, l, can.counted)))

  module _ (k : ℕ) (op : Op) (at : slice_get (device_function f).instructions k ≡ Some op) (s : State TensorValue)
      (behind : IsBehind grid (device_function f) (arguments_in args) k s) where
    -- where an instruction is done, behind it
    pub behind_one : (new : State TensorValue) → IsDone grid op k s new
        → IsBehind grid (device_function f) (arguments_in args) (k + 1) new
    behind_one new done =
        subst (λ n. IsBehind grid (device_function f) (arguments_in args) n new) (sym (add-one k))
        (goes_on grid (device_function f) (arguments_in args) k s op at behind new done.row done.given done.after)

    -- where it isn't, the end
    pub ends_here : (lock : Lock) → IsEnd grid op k lock s
        → outcome_in lock ≡ lockstep (device_program f grid (arguments_in args))
    unfolding device_program
    ends_here lock end =
        end.ends
        ∙ sym (lacks_at grid (device_function f) (arguments_in args) have_arguments k end.device s op at behind end.lacking)

  module _ (s : State TensorValue) (n : ℕ) (all : n ≡ length (device_function f).instructions)
      (behind : IsBehind grid (device_function f) (arguments_in args) n s) where
    behind_all : IsBehind grid (device_function f) (arguments_in args) (length (device_function f).instructions) s
    behind_all = subst (λ k. IsBehind grid (device_function f) (arguments_in args) k s) all behind

    result_is : (c : ℕ) → c < cell_count grid
        → all_there (map (s c) (returned f.ops)) ≡ Some (results_of (device_program f grid (arguments_in args)) c)
    unfolding device_function device_program
    result_is c l = ends_with grid (device_function f) (arguments_in args) have_arguments s behind_all can.known c l

    -- the results are there
    pub results_there : (c : ℕ) → c < cell_count grid → IsSome (all_there (map (s c) (returned f.ops)))
    results_there c l = subst (λ (o : Option (List TensorValue)). IsSome o) (sym (result_is c l)) refl

    -- and they are the end
    pub ends_all : (rows : List (List TensorValue)) → AreRows s (returned f.ops) (cell_count grid) rows
        → Done rows ≡ lockstep (device_program f grid (arguments_in args))
    unfolding device_program
    ends_all rows are =
        ap (λ (r : List (List TensorValue)). Done r)
        (same_items (results_of (device_program f grid (arguments_in args))) 0 (cell_count grid) rows are.counted
        (λ k l. sym (are.each k l) ∙ result_is k l ∙ ap (λ c. Some (results_of (device_program f grid (arguments_in args)) c)) (omega arith)))
        ∙ sym (ends_done grid (device_function f) (arguments_in args) have_arguments s behind_all)
