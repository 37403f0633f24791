-- What the law of turns asks of a program, and the world before any turn.
use Rattle.std.proofs.Common.{◌≡◌, ℕ, ◌<◌, ◌≤◌, true, List, [], length, map, take, Some, refl, ap, ◌∙◌, arith, get_or}
use Rattle.std.specs.Prelude.{IsSome}
use Rattle.std.proofs.lemmas.List.{length-map, get_or-map, take_all}
use Rattle.std.proofs.lemmas.List.FromFn.{fill_by_all}
use Rattle.std.proofs.lemmas.Option.{slice_get-get_or}
use Rattle.sh_turns.specs.Program.{IsWellFormed, there}
use Rattle.sh_turns.specs.World.{fresh, start}
use Rattle.sh_turns_demo.specs.declared.plain.Instruction.{Instruction}
use Rattle.sh_turns_demo.specs.declared.plain.Instruction.TheVariants.{Subtract, AllReduce}
use Rattle.sh_turns_demo.specs.declared.plain.Plain.{Plain}
use Rattle.sh_turns_demo.specs.Plain.{read, instruction_at, is_collective_of, operand_of, is_collective_at, members_at, operand_at, program_of, place_of, IsVerified}

pub start_is : (p : Plain) (n : ℕ) → length p.arguments.items ≤ n → map fresh (take n p.arguments.items) ≡ start (program_of p)
start_is p n le =
    let arguments = p.arguments.items in
    ap (map fresh) (take_all n arguments le)
    ∙ fill_by_all (λ c. fresh (get_or arguments c [])) (map fresh arguments) (length arguments) (fresh []) (length-map arguments fresh) (λ k lt. get_or-map fresh arguments k [] (fresh []) lt)

reads : (values : List ℕ) (place : ℕ) → place < length values → IsSome (read (there values) place)
reads values place lt =
    let e = slice_get-get_or (there values) place (Some 0) (omega (arith, length-map values (λ v. Some v))) in
    rw (e, get_or-map (λ v. Some v) values place 0 (Some 0) lt) refl

posts : (i : Instruction) (values : List ℕ) → is_collective_of i ≡ true → place_of i < length values → IsSome (operand_of i (there values))
posts (Subtract left right) values col lt = cc
posts (AllReduce place groups) values col lt = reads values place lt

pub well_formed : (p : Plain) → IsVerified p → IsWellFormed (program_of p)
unfolding is_collective_at members_at operand_at
well_formed p is =
    record {
      members = λ k c kin cin col. is.members k c kin cin;
      operands = λ k c values kin cin col size. posts (instruction_at p k) values col (omega (arith, is.operands k c kin cin col));
    }
