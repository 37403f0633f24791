-- The machine of turns: one device moves at a time.
use Rattle.std.specs.Prelude.{ℕ, ◌+◌, ◌-◌, Bool, true, false, ◌&&◌, ◌||◌, not, List, [], ◌∷◌, ◌++◌, map, length, Option, Some, None, option_and_then, if◌then◌else◌, nat_lt, nat_le, ◌==◌, slice_get, slice_set, slice_index_or}
use Rattle.std.specs.List.{list_all, range_with_len}
use Rattle.sh_turns.specs.declared.Turn.{Turn}
use Rattle.sh_turns.specs.declared.Turn.TheVariants.{Local, Posted, Took, Stuck, Mismatch}
use Rattle.sh_turns.specs.Program.{Program, there, all_there}

-- a device: its values so far, its next instruction, whether it waits, and all its posts, each with its instruction
pub record Device (V : Type 0) : Type 0 where
  pub values : List V
  pub next : ℕ
  pub waits : Bool
  pub posts : List (ℕ × V)

-- a device before its first turn
abbrev pub fresh : {V : Type 0} → List V → Device V
fresh arguments = record { values = arguments; next = 0; waits = false; posts = [] }

-- the devices, by number
abbrev pub World : Type 0 → Type 0
World V = List (Device V)

abbrev pub device_at : {V : Type 0} → World V → ℕ → Device V
device_at w c = slice_index_or w c (fresh [])

-- the device with the value of its next instruction
abbrev pub with_value : {V : Type 0} → Device V → V → Device V
with_value d v = record d { values = d.values ++ v ∷ []; next = d.next + 1 }

-- the device with the post of its next instruction
abbrev pub with_post : {V : Type 0} → Device V → V → Device V
with_post d v = record d { waits = true; posts = d.posts ++ (d.next, v) ∷ [] }

abbrev pub no_longer_waiting : {V : Type 0} → Device V → Device V
no_longer_waiting d = record d { waits = false }

-- what a turn is, with the device after it, by the value if there is one
abbrev pub local_turn : {V : Type 0} → Device V → Option V → Turn × Device V
local_turn d None = (Stuck, d)
local_turn d (Some v) = (Local, with_value d v)

abbrev pub post_turn : {V : Type 0} → Device V → Option V → Turn × Device V
post_turn d None = (Stuck, d)
post_turn d (Some v) = (Posted, with_post d v)

abbrev pub take_turn : {V : Type 0} → Device V → Option V → Turn × Device V
take_turn d None = (Mismatch, d)
take_turn d (Some v) = (Took, no_longer_waiting (with_value d v))

-- the operand in a post of instruction k
abbrev pub posted_for : {V : Type 0} → ℕ → Option (ℕ × V) → Option V
posted_for k None = None
posted_for k (Some post) = if post.0 == k then Some post.1 else None

-- a turn that is neither stuck nor a mismatch
abbrev pub goes_on : Turn → Bool
goes_on Local = true
goes_on Posted = true
goes_on Took = true
goes_on Stuck = false
goes_on Mismatch = false

module _ {V : Type 0} (p : Program V) where
  -- the world before any turn
  abbrev pub start : World V
  start = map (λ c. fresh (p.arguments c)) (range_with_len 0 p.devices)

  -- each member of the group of device c has at least as many posts as it has
  abbrev pub all_posted : World V → ℕ → Device V → Bool
  all_posted w c d = list_all (λ m. nat_le (length d.posts) (length (device_at w m).posts)) (p.members d.next c)

  -- the next instruction is local, or a collective that isn't posted, or one that all have posted
  abbrev pub can_go : World V → ℕ → Device V → Bool
  can_go w c d = nat_lt d.next p.size && (not (p.is_collective d.next) || (not d.waits || all_posted w c d))

  abbrev pub can_move : World V → ℕ → Bool
  can_move w c = nat_lt c (length w) && can_go w c (device_at w c)

  -- what a take gives: by the members' posts with the number of the taker's own last post
  abbrev pub taken : World V → ℕ → Device V → Option V
  taken w c d =
      option_and_then (p.collect d.next c) (all_there (map (λ m. posted_for d.next (slice_get (device_at w m).posts (length d.posts - 1))) (p.members d.next c)))

  -- what a turn of device c is, and the device after it
  abbrev pub turn_of : World V → ℕ → Device V → Turn × Device V
  turn_of w c d =
      if p.is_collective d.next
      then (if d.waits then take_turn d (taken w c d) else post_turn d (p.operand d.next c (there d.values)))
      else local_turn d (p.local d.next c (there d.values))

  abbrev pub turn : World V → ℕ → Turn
  turn w c = (turn_of w c (device_at w c)).0

  -- the world after a turn of device c
  abbrev pub after : World V → ℕ → World V
  after w c = slice_set w c (turn_of w c (device_at w c)).1

  -- the world after these turns, if each is of a device that can move, and none is stuck or a mismatch
  abbrev pub run : World V → List ℕ → Option (World V)
  run w [] = Some w
  run w (c ∷ schedule) = if can_move w c && goes_on (turn w c) then run (after w c) schedule else None

  -- no device has a next instruction
  abbrev pub finished : World V → Bool
  finished w = list_all (λ d. nat_le p.size d.next) w
