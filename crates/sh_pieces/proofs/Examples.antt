-- Small functions on two devices, run by names and by the machine of turns. A value is a list of numbers.
use Rattle.std.proofs.Common.{◌≡◌, ℕ, zero, suc, ◌+◌, ◌<◌, Bool, true, false, List, [], ◌∷◌, ◌++◌, map, Option, Some, None, refl, arith}
use Rattle.std.specs.Prelude.{sum, ◌&&◌, is_some, IsSome, All}
use Rattle.sh_turns.specs.Program.{all_there}
use Rattle.sh_turns.specs.Lockstep.{Done, MismatchAt, lockstep}
use Rattle.sh_turns.proofs.Examples.{add, tail, total, ending}
use Rattle.sh_pieces.specs.Instructions.{Semantics, HasGroups, DeviceFunction, State, gives, at_instruction, program_by_names}
use Rattle.sh_pieces.specs.Runs.{at_start, next_state, state_after, Runs, RunsToRows}
use Rattle.sh_pieces.specs.Renaming.{IsRenamed, IsRenamedFunction}
use Rattle.sh_pieces.proofs.Renamed.{same_program}

-- ---- instructions

pub data Action : Type 0 where
  -- all but the first number; stuck where there is none
  Tail : Action
  -- the sum of two, number by number; stuck where their lengths differ
  Add : Action
  -- the sum of the numbers
  Total : Action
  -- one after the other, over both devices
  AllGather : Action
  -- the sum over both devices, number by number; a mismatch where their lengths differ
  AllReduce : Action

pub record Instruction : Type 0 where
  pub action : Action
  pub operands : List ℕ
  pub defines : Option ℕ

abbrev pub is_collective : Action → Bool
is_collective Tail = false
is_collective Add = false
is_collective Total = false
is_collective AllGather = true
is_collective AllReduce = true

abbrev pub on_one : (List ℕ → Option (List ℕ)) → List (List ℕ) → Option (List ℕ)
on_one f [] = None
on_one f (x ∷ []) = f x
on_one f (x ∷ y ∷ xs) = None

abbrev pub on_two : (List ℕ → List ℕ → Option (List ℕ)) → List (List ℕ) → Option (List ℕ)
on_two f [] = None
on_two f (x ∷ []) = None
on_two f (x ∷ y ∷ []) = f x y
on_two f (x ∷ y ∷ z ∷ xs) = None

abbrev pub local : Action → List (List ℕ) → Option (List ℕ)
local Tail = on_one tail
local Add = on_two add
local Total = on_one (λ x. Some (sum x ∷ []))
local AllGather = λ operands. None
local AllReduce = λ operands. None

abbrev pub joined : List (List ℕ) → List ℕ
joined [] = []
joined (x ∷ xs) = x ++ joined xs

abbrev pub collect : Action → List (List ℕ) → Option (List ℕ)
collect Tail operands = None
collect Add operands = None
collect Total operands = None
collect AllGather [] = None
collect AllGather (x ∷ xs) = Some (joined (x ∷ xs))
collect AllReduce operands = total operands

-- on two devices, of one group
abbrev pub pair : Semantics (List ℕ) Instruction
pair = record {
  devices = 2;
  is_collective = λ i. is_collective i.action;
  operands = λ i. i.operands;
  defines = λ i. i.defines;
  members = λ i c. 0 ∷ 1 ∷ [];
  local = λ i c. local i.action;
  collect = λ i c. collect i.action;
}

pub groups : HasGroups pair
groups = record { inside = λ i c device b. both_inside; empty = λ i c b. none i.action }
  where
    both_inside : All (λ m. m < 2) (0 ∷ 1 ∷ [])
    both_inside zero d lt = omega arith
    both_inside (suc zero) d lt = omega arith
    both_inside (suc (suc k)) d lt = absurd (omega arith)

    none : (action : Action) → collect action [] ≡ None
    none Tail = refl
    none Add = refl
    none Total = refl
    none AllGather = refl
    none AllReduce = refl

-- what is so of each of two devices
pub on_both : (P : ℕ → Type 0) → P 0 → P 1 → (c : ℕ) → c < 2 → P c
on_both P first second zero lt = first
on_both P first second (suc zero) lt = second
on_both P first second (suc (suc c)) lt = absurd (omega arith)

-- each instruction gives a value on both
abbrev pub both_give : List Instruction → State (List ℕ) → Bool
both_give [] s = true
both_give (i ∷ is) s = is_some (gives pair i s 0) && (is_some (gives pair i s 1) && both_give is (next_state pair i s))

runs_where_both : (is : List Instruction) (s : State (List ℕ)) → both_give is s ≡ true → Runs pair is s
runs_where_both [] s h = tt
runs_where_both (i ∷ is) s h = go (is_some (gives pair i s 0)) refl (is_some (gives pair i s 1)) refl (λ rest. runs_where_both is (next_state pair i s) rest) h
  where
    go : (a : Bool) → is_some (gives pair i s 0) ≡ a → (b : Bool) → is_some (gives pair i s 1) ≡ b
        → (both_give is (next_state pair i s) ≡ true → Runs pair is (next_state pair i s)) → a && (b && both_give is (next_state pair i s)) ≡ true → Runs pair (i ∷ is) s
    go true e true f more h = (on_both (λ c. IsSome (gives pair i s c)) e f, more h)
    go true e false f more h = cc
    go false e b f more h = cc

abbrev pub does : Action → List ℕ → ℕ → Instruction
does action operands name = record { action = action; operands = operands; defines = Some name }

-- ---- one function

-- local, all_gather, all_reduce, local; the name 3 is defined twice
abbrev pub front : List Instruction
front = does Tail (7 ∷ []) 3 ∷ does AllGather (3 ∷ []) 9 ∷ []

abbrev pub back : List Instruction
back = does AllReduce (3 ∷ []) 3 ∷ does Add (3 ∷ 3 ∷ []) 4 ∷ []

abbrev pub two : DeviceFunction Instruction
two = record { parameters = 7 ∷ []; instructions = front ++ back; results = 9 ∷ 4 ∷ [] }

abbrev pub arguments : ℕ → List (List ℕ)
arguments zero = (1 ∷ 2 ∷ 3 ∷ []) ∷ []
arguments (suc c) = (4 ∷ 5 ∷ 6 ∷ []) ∷ []

abbrev pub row : List (List ℕ)
row = (2 ∷ 3 ∷ 5 ∷ 6 ∷ []) ∷ (14 ∷ 18 ∷ []) ∷ []

-- it runs by names
pub two_runs : RunsToRows pair two arguments (λ c. row)
two_runs = (
  runs_where_both two.instructions (at_start (7 ∷ []) arguments) refl,
  on_both (λ c. all_there (map (state_after pair two.instructions (at_start (7 ∷ []) arguments) c) (9 ∷ 4 ∷ [])) ≡ Some row) refl refl,
)

-- in step, and by turns
pub two_lockstep : lockstep (program_by_names pair two arguments) ≡ Done (row ∷ row ∷ [])
unfolding at_instruction
two_lockstep = refl

pub two_turns : ending (program_by_names pair two arguments) (1 ∷ 1 ∷ 0 ∷ 0 ∷ 0 ∷ 1 ∷ 1 ∷ 0 ∷ 1 ∷ 0 ∷ 0 ∷ 1 ∷ []) ≡ Some (true, row ∷ row ∷ [])
unfolding at_instruction
two_turns = refl

-- ---- cut in two

-- the second half, on the values after the first
pub back_after_front : (state_after pair back (state_after pair front (at_start (7 ∷ []) arguments)) 0 4 ≡ Some (14 ∷ 18 ∷ [])) × (state_after pair back (state_after pair front (at_start (7 ∷ []) arguments)) 1 9 ≡ Some (2 ∷ 3 ∷ 5 ∷ 6 ∷ []))
back_after_front = (refl, refl)

-- the other way round nothing runs: the name 3 has no value yet
pub front_after_back : Runs pair (back ++ front) (at_start (7 ∷ []) arguments) → ⊥
front_after_back run = let some : IsSome {T = List ℕ} None = run.0 0 (omega arith) in cc

-- ---- renamed

-- every name is 10 more
abbrev pub two_renumbered : DeviceFunction Instruction
two_renumbered = record {
  parameters = 17 ∷ [];
  instructions = does Tail (17 ∷ []) 13 ∷ does AllGather (13 ∷ []) 19 ∷ does AllReduce (13 ∷ []) 13 ∷ does Add (13 ∷ 13 ∷ []) 14 ∷ [];
  results = 19 ∷ 14 ∷ [];
}

same_action : (action : Action) (operands : List ℕ) (name : ℕ) → IsRenamed pair (λ x. x + 10) (does action operands name) (does action (map (λ x. x + 10) operands) (name + 10))
same_action action operands name = record { same_class = refl; operands = refl; defines = refl; members = λ c. refl; local = λ c vs. refl; collect = λ c vs. refl }

pub two_renamed : IsRenamedFunction pair (λ x. x + 10) two two_renumbered
two_renamed = record {
  parameters = refl;
  instructions = (same_action Tail (7 ∷ []) 3, (same_action AllGather (3 ∷ []) 9, (same_action AllReduce (3 ∷ []) 3, (same_action Add (3 ∷ 3 ∷ []) 4, tt))));
  results = refl;
  apart = (apart 7, (apart 3, (apart 9, (apart 3, (apart 4, tt)))));
}
  where
    apart : (d name other : ℕ) → Some d ≡ Some name → other + 10 ≡ name + 10 → other ≡ name
    apart d name other e same = omega (arith, same)

-- it is the same program
pub two_same : program_by_names pair two_renumbered arguments ≡ program_by_names pair two arguments
two_same = same_program pair (λ x. x + 10) two two_renumbered two_renamed arguments

-- where two names become one the newer value hides the other
pub two_hidden : lockstep (program_by_names pair (record two { instructions = does Tail (7 ∷ []) 3 ∷ does AllGather (3 ∷ []) 3 ∷ does AllReduce (3 ∷ []) 3 ∷ does Add (3 ∷ 3 ∷ []) 4 ∷ []; results = 3 ∷ 4 ∷ [] }) arguments)
    ≡ Done (((4 ∷ 6 ∷ 10 ∷ 12 ∷ []) ∷ (8 ∷ 12 ∷ 20 ∷ 24 ∷ []) ∷ []) ∷ ((4 ∷ 6 ∷ 10 ∷ 12 ∷ []) ∷ (8 ∷ 12 ∷ 20 ∷ 24 ∷ []) ∷ []) ∷ [])
unfolding at_instruction
two_hidden = refl

-- ---- a mismatch

-- parts of two lengths can't be summed
abbrev pub uneven : ℕ → List (List ℕ)
uneven zero = (1 ∷ 2 ∷ []) ∷ []
uneven (suc c) = (3 ∷ 4 ∷ 5 ∷ []) ∷ []

abbrev pub reduces : DeviceFunction Instruction
reduces = record { parameters = 0 ∷ []; instructions = does Tail (0 ∷ []) 1 ∷ does AllReduce (1 ∷ []) 2 ∷ []; results = 2 ∷ [] }

pub uneven_lockstep : lockstep (program_by_names pair reduces uneven) ≡ MismatchAt 1 0
unfolding at_instruction
uneven_lockstep = refl

pub uneven_runs : Runs pair reduces.instructions (at_start (0 ∷ []) uneven) → ⊥
uneven_runs run = let some : IsSome {T = List ℕ} None = run.1.0 0 (omega arith) in cc

-- a result that is no value of the function is left out of what the program returns
pub unknown_result : lockstep (program_by_names pair (record two { results = 5 ∷ 4 ∷ [] }) arguments) ≡ Done (((14 ∷ 18 ∷ []) ∷ []) ∷ ((14 ∷ 18 ∷ []) ∷ []) ∷ [])
unfolding at_instruction
unknown_result = refl
