-- Promises of lists of numbers that are split between two devices, kept and broken.
use Rattle.std.proofs.Common.{◌≡◌, ℕ, zero, suc, ◌<◌, ◌≤◌, List, [], ◌∷◌, ◌++◌, map, take, drop, get_or, Option, Some, None, refl, ap, ◌∙◌, arith}
use Rattle.std.specs.Prelude.{sum, IsSome}
use Rattle.std.proofs.lemmas.List.Sums.{sum_by-take-drop}
use Rattle.std.proofs.lemmas.List.{append-nil, take-append-drop}
use Rattle.std.proofs.lemmas.Option.{same_Some}
use Rattle.sh_pieces.specs.Instructions.{State, gives, program_by_names}
use Rattle.sh_pieces.specs.Runs.{argument_under, at_start, next_state, RunsTo, HasRows}
use Rattle.sh_pieces.specs.Renaming.{IsRenamed}
use Rattle.sh_pieces.specs.Right.{IsDoneWith}
use Rattle.sh_pieces.specs.Promises.{Splitting, Wholes, Placed, Placing, with_entry, placed_arguments, IsOperation, noted, part_name, cuts, HasCuts, IsReshard, IsLocalPart}
use Rattle.sh_pieces.proofs.Examples.{Action, Instruction, Total, AllGather, AllReduce, pair, groups, on_both, does}
use Rattle.sh_pieces.proofs.Parts.{operand_cuts, one_gives}
use Rattle.sh_pieces.proofs.Steps.{note_step, operation_step, step_then, done_with_cuts}

pub data Way : Type 0 where
  -- both devices have the whole list
  Everywhere : Way
  -- device 0 has so many numbers, device 1 the others
  Front : ℕ → Way

abbrev pub half : Way → List ℕ → ℕ → List ℕ
half Everywhere t c = t
half (Front k) t zero = take k t
half (Front k) t (suc c) = drop k t

abbrev pub halves : Splitting (List ℕ) (List ℕ) Way
halves = record { cut = half; Fits = λ way t. Unit {0} }

-- ---- kept

-- an all_gather reshards parts, of any lengths, to the whole
pub gathers : (k value first : ℕ) → value < first → IsReshard pair halves (Front k) Everywhere value first first (suc first) (does AllGather (value ∷ []) first ∷ [])
gathers k value first below = record {
  new = (λ name e. let same = same_Some first name e in omega (arith, same), tt);
  rises = omega arith;
  below = omega arith;
  fits = λ t fits. fits;
  runs = λ t s fits has.
      let given : (c : ℕ) → gives pair (does AllGather (value ∷ []) first) s c ≡ Some t = λ c.
      rw (has 0 (omega arith), has 1 (omega arith)) (ap (λ l. Some l) (ap (λ l. take k t ++ l) (append-nil (drop k t)) ∙ take-append-drop k t)) in
      one_gives pair halves (does AllGather (value ∷ []) first) s first Everywhere t refl (λ c device. given c);
}

-- the sum of a list
abbrev pub whole_total : List (List ℕ) → Option (List ℕ)
whole_total [] = None
whole_total (t ∷ []) = Some (sum t ∷ [])
whole_total (t ∷ u ∷ ts) = None

-- each device sums its part, and an all_reduce sums the sums
abbrev pub total_part : List Instruction
total_part = does Total (0 ∷ []) 1 ∷ does AllReduce (1 ∷ []) 2 ∷ []

pub totals : (k : ℕ) → IsLocalPart pair halves whole_total (Front k ∷ []) Everywhere total_part
totals k = record {
  some = omega arith;
  numbered = (refl, (refl, tt));
  fits = λ ts t fits is. tt;
  runs = λ ts t s fits is has. go ts t s is has;
}
  where
    go : (ts : List (List ℕ)) (t : List ℕ) (s : State (List ℕ)) → whole_total ts ≡ Some t → HasRows pair (0 ∷ []) (cuts halves (Front k ∷ []) ts) s → RunsTo pair total_part s (HasCuts pair halves 2 Everywhere t)
    go [] t s is has = cc
    go (u ∷ v ∷ ts) t s is has = cc
    go (u ∷ []) t s is has =
        let parts = operand_cuts pair halves (Front k ∷ []) (u ∷ []) s has 0 (Front k) u refl refl in
        let first : s 0 0 ≡ Some (take k u) = parts 0 (omega arith) in
        let second : s 1 0 ≡ Some (drop k u) = parts 1 (omega arith) in
        let summed = next_state pair (does Total (0 ∷ []) 1) s in
        let rest = one_gives pair halves (does AllReduce (1 ∷ []) 2) summed 2 Everywhere t refl (λ c device. rw (first, second) (ap (λ n. Some (n ∷ [])) (sum_by-take-drop (λ n. n) u k) ∙ is)) in
        ((on_both (λ c. IsSome (gives pair (does Total (0 ∷ []) 1) s c)) (rw first refl) (rw second refl), rest.0), rest.1)

-- A function of the source: a note that makes its argument whole, and then its sum, of the argument as it was split. On the
-- devices: an all_gather, and the local part of the sum.
abbrev pub source : Wholes (List ℕ) → Wholes (List ℕ) → Type 0
source w w'' = (w' : Wholes (List ℕ)) × IsOperation noted (10 ∷ []) 11 w w' × IsOperation whole_total (10 ∷ []) 12 w' w''

abbrev pub written : List Instruction
written = does AllGather (0 ∷ []) 1 ∷ does Total (0 ∷ []) 2 ∷ does AllReduce (2 ∷ []) 3 ∷ []

abbrev pub placed : Way → ℕ → Placed Way
placed way name = record { split = way; name = name }

-- wherever the argument is cut, both devices end with the whole list and its sum
pub written_done : (k : ℕ) (t : List ℕ)
    → IsDoneWith (program_by_names pair (record { parameters = 0 ∷ []; instructions = written; results = 1 ∷ 3 ∷ [] }) (cuts halves (Front k ∷ []) (t ∷ []))) (λ c. t ∷ (sum t ∷ []) ∷ [])
written_done k t =
    done_with_cuts pair halves groups source (10 ∷ []) (11 ∷ 12 ∷ []) (Front k ∷ []) ends 4 written (placed Everywhere 1 ∷ placed Everywhere 3 ∷ [])
    (step_then pair halves (IsOperation noted (10 ∷ []) 11) (IsOperation whole_total (10 ∷ []) 12) starts gathered ends 1 2 4 (does AllGather (0 ∷ []) 1 ∷ []) (does Total (0 ∷ []) 2 ∷ does AllReduce (2 ∷ []) 3 ∷ [])
    (note_step pair halves starts 1 2 10 11 1 (placed (Front k) 0) Everywhere (does AllGather (0 ∷ []) 1 ∷ []) refl (gathers k 0 1 (omega arith)))
    (operation_step pair halves whole_total (Front k ∷ []) Everywhere total_part (does Total (0 ∷ []) 2 ∷ does AllReduce (2 ∷ []) 3 ∷ []) gathered 2 12 (10 ∷ []) (placed (Front k) 0 ∷ []) (totals k) refl refl
    (same_action Total (0 ∷ []) 1, (same_action AllReduce (1 ∷ []) 2, tt))))
    refl
    (t ∷ []) (t ∷ (sum t ∷ []) ∷ []) (with_entry 12 (sum t ∷ []) (with_entry 11 t (argument_under (10 ∷ []) (t ∷ [])))) (tt, tt) (
      with_entry 11 t (argument_under (10 ∷ []) (t ∷ [])),
      record { read = t ∷ []; given = t; reads = refl; gives = refl; defines = λ y. refl },
      record { read = t ∷ []; given = sum t ∷ []; reads = refl; gives = refl; defines = λ y. refl },
    )
    refl
  where
    same_action : (action : Action) (operands : List ℕ) (name : ℕ) → IsRenamed pair (part_name (0 ∷ []) 2) (does action operands name) (does action (map (part_name (0 ∷ []) 2) operands) (part_name (0 ∷ []) 2 name))
    same_action action operands name = record { same_class = refl; operands = refl; defines = refl; members = λ c. refl; local = λ c vs. refl; collect = λ c vs. refl }

    starts : Placing Way
    starts = placed_arguments (10 ∷ []) (Front k ∷ [])

    gathered : Placing Way
    gathered = with_entry 11 (placed Everywhere 1) starts

    ends : Placing Way
    ends = with_entry 12 (placed Everywhere 3) gathered

-- ---- broken

-- a reshard that overwrites an older name
pub overwrites : (k : ℕ) → IsReshard pair halves (Front k) Everywhere 0 1 0 1 (does AllGather (0 ∷ []) 0 ∷ []) → ⊥
overwrites k law = let above : 1 ≤ 0 = law.new.0 0 refl in absurd (omega (arith, above))

-- one that says it gathered, and didn't
pub nothing_done : IsReshard pair halves (Front 1) Everywhere 0 1 0 1 [] → ⊥
nothing_done law =
    let run = law.runs (5 ∷ 6 ∷ []) (at_start (0 ∷ []) (λ c. half (Front 1) (5 ∷ 6 ∷ []) c ∷ [])) tt (λ c device. refl) in
    let first = run.1 0 (omega arith) in
    cc

-- a part whose result has another name than the last
pub other_name : (k : ℕ) → IsLocalPart pair halves whole_total (Front k ∷ []) Everywhere (does Total (0 ∷ []) 1 ∷ does AllReduce (1 ∷ []) 3 ∷ []) → ⊥
other_name k law = let named : Some 3 ≡ Some 2 = law.numbered.1.0 in let same : 3 ≡ 2 = same_Some 3 2 named in absurd (omega (arith, same))

-- one that forgets to combine the sums of the devices
pub not_combined : IsLocalPart pair halves whole_total (Front 1 ∷ []) Everywhere (does Total (0 ∷ []) 1 ∷ []) → ⊥
not_combined law =
    let run = law.runs ((5 ∷ 6 ∷ []) ∷ []) (11 ∷ []) (at_start (0 ∷ []) (λ c. half (Front 1) (5 ∷ 6 ∷ []) c ∷ [])) (tt, tt) refl (λ c device. refl) in
    let same : 5 ≡ 11 = ap (λ l. get_or l 0 0) (same_Some (5 ∷ []) (11 ∷ []) (run.1 0 (omega arith))) in
    absurd (omega (arith, same))

-- one whose devices don't have the same length after a tail is a mismatch, and no part at all
pub mismatched : IsLocalPart pair halves whole_total (Front 1 ∷ []) Everywhere (does AllReduce (0 ∷ []) 1 ∷ []) → ⊥
mismatched law =
    let run = law.runs ((5 ∷ 6 ∷ 7 ∷ []) ∷ []) (18 ∷ []) (at_start (0 ∷ []) (λ c. half (Front 1) (5 ∷ 6 ∷ 7 ∷ []) c ∷ [])) (tt, tt) refl (λ c device. refl) in
    let some : IsSome {T = List ℕ} None = run.0.0 0 (omega arith) in
    cc
