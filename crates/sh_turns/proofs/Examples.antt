-- Small programs, run by the definitions. A tensor is the list of its cells.
use Rattle.std.proofs.Common.{◌≡◌, ℕ, ◌+◌, ◌*◌, ◌/◌, ◌%◌, Bool, true, false, List, [], ◌∷◌, map, length, Option, Some, None, refl}
use Rattle.std.specs.Prelude.{fold, option_map, option_and_then, slice_get, slice_index_or, unwrap_or, IsSomeAnd}
use Rattle.sh_turns.specs.declared.Turn.TheVariants.{Took, Stuck, Mismatch}
use Rattle.sh_turns.specs.Program.{Program, value, returned, turns}
use Rattle.sh_turns.specs.Lockstep.{Done, StuckAt, MismatchAt, lockstep}
use Rattle.sh_turns.specs.World.{World, device_at, start, can_move, turn, after, run, finished}

-- an instruction, with the place of its operand among the values of a device
pub data Instruction : Type 0 where
  -- each cell twice
  Double : ℕ → Instruction
  -- all but the first cell; stuck where there is none
  Tail : ℕ → Instruction
  -- the sum over the group, cell by cell; a mismatch where the lengths differ
  AllReduce : ℕ → (ℕ → List ℕ) → Instruction

abbrev pub tail : List ℕ → Option (List ℕ)
tail [] = None
tail (x ∷ xs) = Some xs

abbrev pub add : List ℕ → List ℕ → Option (List ℕ)
add [] [] = Some []
add [] (y ∷ ys) = None
add (x ∷ xs) [] = None
add (x ∷ xs) (y ∷ ys) = option_map (λ zs. (x + y) ∷ zs) (add xs ys)

abbrev pub total : List (List ℕ) → Option (List ℕ)
total [] = None
total (v ∷ vs) = fold (λ sum w. option_and_then (λ s. add s w) sum) (Some v) vs

abbrev pub is_all_reduce : Instruction → Bool
is_all_reduce (Double v) = false
is_all_reduce (Tail v) = false
is_all_reduce (AllReduce v group) = true

abbrev pub group_of : Instruction → ℕ → List ℕ
group_of (Double v) c = []
group_of (Tail v) c = []
group_of (AllReduce v group) c = group c

abbrev pub operand_of : Instruction → ℕ
operand_of (Double v) = v
operand_of (Tail v) = v
operand_of (AllReduce v group) = v

abbrev pub local_of : Instruction → List ℕ → Option (List ℕ)
local_of (Double v) xs = Some (map (λ x. 2 * x) xs)
local_of (Tail v) xs = tail xs
local_of (AllReduce v group) xs = None

-- the program of these instructions, with one argument a device; it returns its last value
abbrev pub program : List (List ℕ) → List Instruction → Program (List ℕ)
program arguments instructions =
    let at : ℕ → Instruction = λ k. slice_index_or instructions k (Double 0) in
    let read : ℕ → List (Option (List ℕ)) → Option (List ℕ) = λ k values. unwrap_or (slice_get values (operand_of (at k))) None in
    record {
      devices = length arguments;
      size = length instructions;
      arguments = λ c. slice_index_or arguments c [] ∷ [];
      is_collective = λ k. is_all_reduce (at k);
      members = λ k c. group_of (at k) c;
      operand = λ k c values. read k values;
      local = λ k c values. option_and_then (local_of (at k)) (read k values);
      collect = λ k c operands. total operands;
      results = length instructions ∷ [];
    }

-- whether a run is finished, and what each device returns
abbrev pub ending : (p : Program (List ℕ)) → List ℕ → Option (Bool × List (List (List ℕ)))
ending p schedule = option_map (λ w. (finished p w, map (λ d. returned p d.values) w)) (run p (start p) schedule)

-- what is so in the world of a run
abbrev pub InWorld : (p : Program (List ℕ)) → List ℕ → (World (List ℕ) → Type 0) → Type 0
InWorld p schedule Fact = IsSomeAnd (run p (start p) schedule) Fact

-- two devices, with an all_reduce between two local instructions
abbrev pub two : Program (List ℕ)
two = program ((1 ∷ 2 ∷ []) ∷ (3 ∷ 4 ∷ []) ∷ []) (Double 0 ∷ AllReduce 1 (λ c. 0 ∷ 1 ∷ []) ∷ Tail 2 ∷ [])

abbrev pub twelve : List (List (List ℕ))
twelve = ((12 ∷ []) ∷ []) ∷ ((12 ∷ []) ∷ []) ∷ []

pub two_turns : turns two ≡ 2 * (2 + 2 * 1)
two_turns = refl

pub two_lockstep : lockstep two ≡ Done twelve
two_lockstep = refl

pub two_round : ending two (0 ∷ 1 ∷ 0 ∷ 1 ∷ 0 ∷ 1 ∷ 0 ∷ 1 ∷ []) ≡ Some (true, twelve)
two_round = refl

pub two_reverse : ending two (1 ∷ 0 ∷ 1 ∷ 0 ∷ 1 ∷ 0 ∷ 1 ∷ 0 ∷ []) ≡ Some (true, twelve)
two_reverse = refl

pub two_far_ahead : ending two (1 ∷ 1 ∷ 0 ∷ 0 ∷ 0 ∷ 0 ∷ 1 ∷ 1 ∷ []) ≡ Some (true, twelve)
two_far_ahead = refl

-- a device that has posted waits until the other has posted too
pub two_waits : InWorld two (1 ∷ 1 ∷ []) (λ w. can_move two w 1 ≡ false)
two_waits = refl

pub two_no_third : ending two (1 ∷ 1 ∷ 1 ∷ []) ≡ None
two_no_third = refl

-- one turn less
pub two_unfinished : InWorld two (1 ∷ 1 ∷ 0 ∷ 0 ∷ 0 ∷ 0 ∷ 1 ∷ []) (λ w. (finished two w ≡ false) × (can_move two w 0 ≡ false) × (can_move two w 1 ≡ true))
two_unfinished = (refl, refl, refl)

-- a grid of 2 × 2 devices, device 2 × row + column: an all_reduce along each row, then one along each column
abbrev pub grid : Program (List ℕ)
grid =
    program ((1 ∷ []) ∷ (2 ∷ []) ∷ (4 ∷ []) ∷ (8 ∷ []) ∷ [])
    (AllReduce 0 (λ c. 2 * (c / 2) ∷ (2 * (c / 2) + 1) ∷ []) ∷ AllReduce 1 (λ c. c % 2 ∷ (c % 2 + 2) ∷ []) ∷ [])

abbrev pub fifteen : List (List (List ℕ))
fifteen = ((15 ∷ []) ∷ []) ∷ ((15 ∷ []) ∷ []) ∷ ((15 ∷ []) ∷ []) ∷ ((15 ∷ []) ∷ []) ∷ []

pub grid_turns : turns grid ≡ 4 * (0 + 2 * 2)
grid_turns = refl

pub grid_lockstep : lockstep grid ≡ Done fifteen
grid_lockstep = refl

-- devices 0 and 2 have taken both collectives before device 1 has taken its first
pub grid_ahead : InWorld grid (0 ∷ 1 ∷ 0 ∷ 0 ∷ 2 ∷ 3 ∷ 2 ∷ 2 ∷ 0 ∷ 2 ∷ []) (λ w. ((device_at w 0).next ≡ 2) × ((device_at w 0).posts ≡ (0, 1 ∷ []) ∷ (1, 3 ∷ []) ∷ []) × ((device_at w 1).next ≡ 0) × ((device_at w 1).posts ≡ (0, 2 ∷ []) ∷ []))
grid_ahead = (refl, refl, refl, refl)

-- device 1 then takes device 0's first post, and not its newest
pub grid_takes_first : InWorld grid (0 ∷ 1 ∷ 0 ∷ 0 ∷ 2 ∷ 3 ∷ 2 ∷ 2 ∷ 0 ∷ 2 ∷ []) (λ w. (turn grid w 1 ≡ Took) × ((device_at (after grid w 1) 1).values ≡ (2 ∷ []) ∷ (3 ∷ []) ∷ []))
grid_takes_first = (refl, refl)

pub grid_ends : ending grid (0 ∷ 1 ∷ 0 ∷ 0 ∷ 2 ∷ 3 ∷ 2 ∷ 2 ∷ 0 ∷ 2 ∷ 1 ∷ 1 ∷ 3 ∷ 3 ∷ 1 ∷ 3 ∷ []) ≡ Some (true, fifteen)
grid_ends = refl

-- operands of two lengths
abbrev pub uneven : Program (List ℕ)
uneven = program ((1 ∷ 2 ∷ []) ∷ (3 ∷ 4 ∷ 5 ∷ []) ∷ []) (AllReduce 0 (λ c. 0 ∷ 1 ∷ []) ∷ [])

pub uneven_lockstep : lockstep uneven ≡ MismatchAt 0 0
uneven_lockstep = refl

pub uneven_turns : InWorld uneven (1 ∷ 0 ∷ []) (λ w. (can_move uneven w 0 ≡ true) × (turn uneven w 0 ≡ Mismatch) × (can_move uneven w 1 ≡ true) × (turn uneven w 1 ≡ Mismatch))
uneven_turns = (refl, refl, refl, refl)

pub uneven_stays : InWorld uneven (1 ∷ 0 ∷ []) (λ w. after uneven w 0 ≡ w)
uneven_stays = refl

-- an instruction that is stuck on device 1
abbrev pub short : Program (List ℕ)
short = program ((5 ∷ 6 ∷ []) ∷ [] ∷ []) (Tail 0 ∷ AllReduce 1 (λ c. 0 ∷ 1 ∷ []) ∷ [])

pub short_lockstep : lockstep short ≡ StuckAt 0 1
short_lockstep = refl

-- device 0 goes on up to its post, and then waits for ever
pub short_turns : InWorld short (0 ∷ 0 ∷ []) (λ w. (can_move short w 0 ≡ false) × (can_move short w 1 ≡ true) × (turn short w 1 ≡ Stuck))
short_turns = (refl, refl, refl)

-- a value that nothing uses may be lacking, and the values after it are there
abbrev pub unused : Program (List ℕ)
unused = program ([] ∷ []) (Tail 0 ∷ Double 0 ∷ [])

pub unused_values : (value unused 0 0 ≡ None) × (value unused 1 0 ≡ Some [])
unused_values = (refl, refl)

pub unused_lockstep : lockstep unused ≡ StuckAt 0 0
unused_lockstep = refl

-- no instructions
abbrev pub empty : Program (List ℕ)
empty = program ((7 ∷ []) ∷ []) []

pub empty_turns : turns empty ≡ 0
empty_turns = refl

pub empty_ends : ending empty [] ≡ Some (true, ((7 ∷ []) ∷ []) ∷ [])
empty_ends = refl
