-- A device of a plain world by the definitions.
use Rattle.std.proofs.Common.{◌≡◌, ℕ, ◌-◌, ◌<◌, Bool, true, false, List, length, map, Option, refl, ◌∙◌, get_or}
use Rattle.std.specs.Prelude.{nat_le, slice_get, option_and_then}
use Rattle.std.specs.List.{list_all}
use Rattle.std.proofs.lemmas.Bool.{lt-ltb}
use Rattle.std.proofs.lemmas.List.{get_or_default}
use Rattle.sh_turns.specs.Program.{there, all_there}
use Rattle.sh_turns.specs.World.{Device, World, device_at, posted_for, local_turn, post_turn, take_turn, can_go, turn_of}
use Rattle.sh_turns_demo.specs.declared.plain.Instruction.{Instruction}
use Rattle.sh_turns_demo.specs.declared.plain.Instruction.TheVariants.{Subtract}
use Rattle.sh_turns_demo.specs.declared.plain.Plain.{Plain}
use Rattle.sh_turns_demo.specs.Plain.{sum_within, instruction_at, is_collective_of, members_of, operand_of, local_of, is_collective_at, members_at, operand_at, local_at, collect_at, program_of}

module _ (p : Plain) (w : World ℕ) (c : ℕ) (d : Device ℕ) (i : Instruction) (more : d.next < length p.instructions.items) (here : i ≡ instruction_at p d.next) where
  -- a device that waits can go where all members have posted
  pub goes_where_posted : (b : Bool) (count : ℕ) (members : List ℕ) → is_collective_of i ≡ true → d.waits ≡ true → count ≡ length d.posts → members ≡ members_of i c → b ≡ list_all (λ m. nat_le count (length (device_at w m).posts)) members → b ≡ can_go (program_of p) w c d
  unfolding is_collective_at members_at
  goes_where_posted b count members col n all group e = rw (lt-ltb _ _ more, ← here, col, n, ← all, ← group) e

module _ (p : Plain) (w : World ℕ) (c : ℕ) (d : Device ℕ) (i : Instruction) (more : d.next < length p.instructions.items) (here : i ≡ get_or p.instructions.items d.next i) where
  there_it_is : i ≡ instruction_at p d.next
  there_it_is = here ∙ get_or_default p.instructions.items d.next i (Subtract 0 0) more

  pub local_turn_is : (values : List ℕ) (o : Option ℕ) → is_collective_of i ≡ false → values ≡ d.values → o ≡ local_of i (there values) → turn_of (program_of p) w c d ≡ local_turn d o
  unfolding is_collective_at local_at
  local_turn_is values o col v e = rw (← there_it_is, col, e, v) refl

  pub post_turn_is : (values : List ℕ) (o : Option ℕ) → is_collective_of i ≡ true → d.waits ≡ false → values ≡ d.values → o ≡ operand_of i (there values) → turn_of (program_of p) w c d ≡ post_turn d o
  unfolding is_collective_at operand_at
  post_turn_is values o col n v e = rw (← there_it_is, col, n, e, v) refl

  pub take_turn_is : (members : List ℕ) (number : ℕ) (o : Option ℕ) → is_collective_of i ≡ true → d.waits ≡ true → members ≡ members_of i c → number ≡ length d.posts - 1 → o ≡ option_and_then sum_within (all_there (map (λ m. posted_for d.next (slice_get (device_at w m).posts number)) members)) → turn_of (program_of p) w c d ≡ take_turn d o
  unfolding is_collective_at members_at collect_at
  take_turn_is members number o col n group last e = rw (← there_it_is, col, n, e, group, last) refl
