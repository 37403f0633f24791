-- By names and by the machine of turns: instructions run in step exactly where their program is done, with the same values.
use Rattle.std.proofs.Common.{ap₂, ◌≡◌, ℕ, zero, suc, ◌+◌, ◌<◌, ◌≤◌, true, false, cond, List, [], ◌∷◌, ◌++◌, map, take, length, get_or, Option, Some, None, refl, sym, ap, ◌∙◌, subst, inl, inr, arith}
use Rattle.std.specs.Prelude.{slice_get, slice_index_or, option_map, option_and_then, unwrap_or, filter_map, is_some, IsSome, All}
use Rattle.std.specs.List.{range_with_len}
use Rattle.std.proofs.lemmas.Bool.{cases_lt}
use Rattle.std.proofs.lemmas.List.{get_or-map, append-nil, append_assoc, map_push, length-append, length-map, length-take-le, take_all}
use Rattle.std.proofs.lemmas.List.Elements.{All-head}
use Rattle.std.proofs.lemmas.List.FromFn.{get_or-map-range_with_len}
use Rattle.std.proofs.lemmas.Option.{same_Some, slice_get_within}
use Rattle.sh_turns.specs.Program.{Program, IsWellFormed, there, all_there, values_before, value, returned}
use Rattle.sh_turns.specs.Lockstep.{Done, is_done, lockstep, results_of, HasAllValues}
use Rattle.sh_turns.specs.World.{fresh, device_at, finished}
use Rattle.sh_turns.specs.Law.{HoldsAfter}
use Rattle.sh_turns.proofs.EveryOrder.{every_order}
use Rattle.sh_turns.proofs.Table.{length-values_before}
use Rattle.sh_turns.proofs.InStep.{all_there_where_done, done_where_all_there, all_results, present_of}
use Rattle.sh_pieces.specs.Instructions.{Semantics, HasGroups, DeviceFunction, State, is_name, last_place, value_under, operand_by, local_by, collected_by, gives, at_instruction, names_before, program_by_names, IsKnown, UsesEarlier}
use Rattle.sh_pieces.specs.Runs.{at_start, state_after, state_before, Runs, RunsToRows, HasRows, HaveArguments, ResultsAreKnown}
use Rattle.sh_pieces.specs.Right.{IsDoneWith, RunsRight}
use Rattle.sh_pieces.specs.Laws.{IsByNames}
use Rattle.sh_pieces.proofs.Names.{value_push, values_at_places, known_where_there, there_where_known, each_there}
use Rattle.sh_pieces.proofs.Lists.{take_next, state_next, gives_alike, give_where_runs, runs_where_give}

map_range : {X : Type 0} (f g : ℕ → X) (a n : ℕ) → ((c : ℕ) → c < a + n → f c ≡ g c) → map f (range_with_len a n) ≡ map g (range_with_len a n)
map_range f g a zero same = refl
map_range f g a (suc n) same = ap₂ (λ x xs. x ∷ xs) (same a (omega arith)) (map_range f g (a + 1) n (λ c below. same c (omega arith)))

there_is : {X : Type 0} (xs : List X) (k : ℕ) → k < length xs → (x : X) × (slice_get xs k ≡ Some x)
there_is [] k lt = absurd (omega arith)
there_is (x ∷ xs) zero lt = (x, refl)
there_is (x ∷ xs) (suc k) lt = there_is xs k (omega arith)

-- a well formed program that is done in step is right in every order of turns
pub right_where_done : {V : Type 0} (p : Program V) (rows : ℕ → List V) → IsDoneWith p rows → IsWellFormed p → RunsRight p rows
right_where_done p rows done well schedule w ran =
    let holds = every_order p well schedule w ran in
    record {
      no_fault = holds.no_fault (ap is_done done);
      progress = holds.progress;
      no_longer = holds.no_longer;
      exact = holds.exact;
      results = λ end c device. device_results holds end c device;
    }
  where
    device_results : HoldsAfter p schedule w → finished p w ≡ true → (c : ℕ) → c < p.devices → returned p (device_at w c).values ≡ rows c
    device_results holds end c device =
        let here : c < length w = omega (arith, holds.agree.devices, device) in
        sym (get_or-map (λ d. returned p d.values) w c (fresh []) [] here)
        ∙ ap (λ l. slice_index_or l c []) (holds.results (map rows (range_with_len 0 p.devices)) done end)
        ∙ get_or-map-range_with_len rows 0 p.devices c c [] device (omega arith)

module _ {V I : Type 0} (sem : Semantics V I) (f : DeviceFunction I) where
  at_is : {X : Type 0} (default : X) (fact : I → X) (k : ℕ) (i : I) → slice_get f.instructions k ≡ Some i → at_instruction f default fact k ≡ fact i
  unfolding at_instruction
  at_is default fact k i here = ap (λ o. unwrap_or (option_map fact o) default) here

  length-names : (k : ℕ) → k ≤ length f.instructions → length (names_before sem f k) ≡ length f.parameters + k
  length-names k le =
      length-append (map (λ name. Some name) f.parameters) (map sem.defines (take k f.instructions))
      ∙ ap₂ (λ a b. a + b) (length-map f.parameters (λ name. Some name)) (length-map (take k f.instructions) sem.defines ∙ length-take-le k f.instructions le)

  names_next : (k : ℕ) (i : I) → slice_get f.instructions k ≡ Some i → names_before sem f (suc k) ≡ names_before sem f k ++ sem.defines i ∷ []
  names_next k i here =
      ap (λ is. map (λ name. Some name) f.parameters ++ map sem.defines is) (take_next sem f.instructions k i here)
      ∙ ap (λ ds. map (λ name. Some name) f.parameters ++ ds) (map_push sem.defines (take k f.instructions) i)
      ∙ sym (append_assoc (map (λ name. Some name) f.parameters) (map sem.defines (take k f.instructions)) (sem.defines i ∷ []))

  module _ (arguments : ℕ → List V) where
    abbrev P : Program V
    P = program_by_names sem f arguments

    abbrev state : ℕ → State V
    state = state_before sem f arguments

    -- the values by name before instruction k, by the machine of turns
    abbrev by_place : ℕ → State V
    by_place k m = value_under (names_before sem f k) (values_before P k m)

    given_by_place : (k : ℕ) (i : I) → slice_get f.instructions k ≡ Some i → (c : ℕ) → value P k c ≡ gives sem i (by_place k) c
    given_by_place k i here c = λ d.
        cond (at_is false sem.is_collective k i here d)
        (option_and_then (λ os. at_is None (λ i. sem.collect i c os) k i here d) (all_there (map (λ m. at_is None (λ i. operand_by sem i (by_place k m)) k i here d) (at_is [] (λ i. sem.members i c) k i here d))))
        (at_is None (λ i. local_by sem i c (by_place k c)) k i here d)

    module _ (groups : HasGroups sem) (counted : HaveArguments sem f.parameters arguments) where
      -- by places and by names the values are the same
      pub same_state : (k : ℕ) → k ≤ length f.instructions → (c name : ℕ) → c < sem.devices → by_place k c name ≡ state k c name
      same_state zero le c name device = ap (λ ns. value_under ns (there (arguments c)) name) (append-nil (map (λ name. Some name) f.parameters))
      same_state (suc k) le c name device =
          let next = there_is f.instructions k (omega arith) in
          let i = next.0 in
          let size : length (names_before sem f k) ≡ length (values_before P k c) = omega (arith, length-names k (omega arith), length-values_before P k c, counted c device) in
          let given : value P k c ≡ gives sem i (state k) c = given_by_place k i next.1 c ∙ gives_alike sem groups i (by_place k) (state k) (λ name. Unit {0}) (λ j d lt. tt) (λ m name in' is. same_state k (omega arith) m name in') c device in
          ap (λ ns. value_under ns (values_before P (suc k) c) name) (names_next k i next.1)
          ∙ value_push (names_before sem f k) (values_before P k c) (sem.defines i) (value P k c) name size
          ∙ ap₂ (λ a b. cond (is_name (sem.defines i) name) a b) given (same_state k (omega arith) c name device)
          ∙ sym (ap (λ s. s c name) (state_next sem f.instructions k i (at_start f.parameters arguments) next.1))

      -- the value of an instruction is what it gives by names
      pub value_is : (k : ℕ) (i : I) → slice_get f.instructions k ≡ Some i → (c : ℕ) → c < sem.devices → value P k c ≡ gives sem i (state k) c
      value_is k i here c device =
          let lt = slice_get_within f.instructions k i here in
          given_by_place k i here c ∙ gives_alike sem groups i (by_place k) (state k) (λ name. Unit {0}) (λ j d lt. tt) (λ m name in' is. same_state k (omega (arith, lt)) m name in') c device

      -- ---- done exactly where they run

      pub values_where_run : Runs sem f.instructions (at_start f.parameters arguments) → HasAllValues P
      values_where_run run k c kin cin =
          let next = there_is f.instructions k kin in
          subst (λ (o : Option V). IsSome o) (sym (value_is k next.0 next.1 c cin)) (give_where_runs sem f.instructions (at_start f.parameters arguments) run k c next.0 next.1 cin)

      pub run_where_values : HasAllValues P → Runs sem f.instructions (at_start f.parameters arguments)
      run_where_values all =
          runs_where_give sem f.instructions (at_start f.parameters arguments)
          (λ k c i here device. subst (λ (o : Option V). IsSome o) (value_is k i here c device) (all k c (slice_get_within f.instructions k i here) device))

      pub run_where_done : is_done (lockstep P) ≡ true → Runs sem f.instructions (at_start f.parameters arguments)
      run_where_done done = run_where_values (all_there_where_done P done)

      pub done_where_run : Runs sem f.instructions (at_start f.parameters arguments) → is_done (lockstep P) ≡ true
      done_where_run run = ap is_done (done_where_all_there P (values_where_run run))

      -- ---- results

      -- the values of a device, where all are there
      all_values : HasAllValues P → (n c : ℕ) → n ≤ length f.instructions → c < sem.devices → (vs : List V) × (there vs ≡ values_before P n c)
      all_values all zero c le device = (arguments c, refl)
      all_values all (suc n) c le device =
          let older = all_values all n c (omega arith) device in
          go (value P n c) refl (all n c (omega arith) device) older
        where
          go : (o : Option V) → value P n c ≡ o → IsSome (value P n c) → (vs : List V) × (there vs ≡ values_before P n c) → (vs : List V) × (there vs ≡ values_before P (suc n) c)
          go None e is older = let bad : IsSome {T = V} None = subst (λ (o : Option V). IsSome o) e is in cc
          go (Some x) e is older = (older.0 ++ x ∷ [], map_push (λ v. Some v) older.0 x ∙ ap₂ (λ a b. a ++ b ∷ []) older.1 (sym e))

      -- the state at the end, by the values of a device
      state_at_end : (c : ℕ) (vs : List V) → c < sem.devices → there vs ≡ values_before P (length f.instructions) c → (name : ℕ)
          → value_under (names_before sem f (length f.instructions)) (there vs) name ≡ state_after sem f.instructions (at_start f.parameters arguments) c name
      state_at_end c vs device is name =
          ap (λ values. value_under (names_before sem f (length f.instructions)) values name) is
          ∙ same_state (length f.instructions) (omega arith) c name device
          ∙ ap (λ is. state_after sem is (at_start f.parameters arguments) c name) (take_all (length f.instructions) f.instructions (omega arith))

      -- where each result is known, the values of its name are what the program returns
      returns_rows : ResultsAreKnown sem f → HasAllValues P → HasRows sem f.results (results_of P) (state_after sem f.instructions (at_start f.parameters arguments))
      returns_rows known all c device =
          let vs = all_values all (length f.instructions) c (omega arith) device in
          let size : length (names_before sem f (length f.instructions)) ≡ length vs.0 =
          omega (arith, length-names (length f.instructions) (omega arith), length-values_before P (length f.instructions) c, counted c device, ap length vs.1, length-map vs.0 (λ v. Some v)) in
          ap (λ named. all_there (map named f.results)) (λ d name. sym (state_at_end c vs.0 device vs.1 name) d)
          ∙ values_at_places (names_before sem f (length f.instructions)) vs.0 f.results size known
          ∙ ap (λ values. Some (returned P values)) (sym (present_of vs.0))
          ∙ ap (λ values. Some (returned P (filter_map (λ v. v) values))) vs.1

      -- a name with a value is a parameter or an earlier value
      known_where_some : (k : ℕ) → k ≤ length f.instructions → (c name : ℕ) → c < sem.devices → IsSome (state k c name) → IsSome (last_place (names_before sem f k) name)
      known_where_some k le c name device some =
          known_where_there (names_before sem f k) (values_before P k c) name (subst (λ (o : Option V). IsSome o) (sym (same_state k le c name device)) some)

      known_where_rows : (rows : ℕ → List V) → 0 < sem.devices → HasRows sem f.results rows (state_after sem f.instructions (at_start f.parameters arguments)) → ResultsAreKnown sem f
      known_where_rows rows some has k name here =
          let each = each_there (state_after sem f.instructions (at_start f.parameters arguments) 0) f.results (rows 0) k name (has 0 some) here in
          let all : take (length f.instructions) f.instructions ≡ f.instructions = take_all (length f.instructions) f.instructions (omega arith) in
          known_where_some (length f.instructions) (omega arith) 0 name some
          (ap is_some (ap (λ is. state_after sem is (at_start f.parameters arguments) 0 name) all ∙ each.1))

      -- instructions that run to rows of results are, as a program, done in step with these rows
      pub done_with_rows : (rows : ℕ → List V) → RunsToRows sem f arguments rows → IsDoneWith P rows
      unfolding all_results
      done_with_rows rows run =
          let all = values_where_run run.0 in
          done_where_all_there P all
          ∙ ap (λ r. Done r) (map_range (results_of P) rows 0 sem.devices (λ c below.
          let returned = returns_rows (known_where_rows rows (omega (arith, below)) run.1) all c (omega (arith, below)) in
          same_Some (results_of P c) (rows c) (sym returned ∙ run.1 c (omega (arith, below)))))

      -- and back
      pub rows_where_done : (rows : ℕ → List V) → ResultsAreKnown sem f → IsDoneWith P rows → RunsToRows sem f arguments rows
      unfolding all_results
      rows_where_done rows known done =
          let all = all_there_where_done P (ap is_done done) in
          let both : Done (all_results P) ≡ Done (map rows (range_with_len 0 sem.devices)) = sym (done_where_all_there P all) ∙ done in
          let same : map (results_of P) (range_with_len 0 sem.devices) ≡ map rows (range_with_len 0 sem.devices) = cc in
          (run_where_values all, λ c device. returns_rows known all c device ∙ ap (λ row. Some row) (row_at same c device))
        where
          row_at : map (results_of P) (range_with_len 0 sem.devices) ≡ map rows (range_with_len 0 sem.devices) → (c : ℕ) → c < sem.devices → results_of P c ≡ rows c
          row_at same c device =
              sym (get_or-map-range_with_len (results_of P) 0 sem.devices c c [] device (omega arith))
              ∙ ap (λ l. get_or l c []) same
              ∙ get_or-map-range_with_len rows 0 sem.devices c c [] device (omega arith)

      -- ---- well formed

      is_collective_at : (k : ℕ) (i : I) → slice_get f.instructions k ≡ Some i → P.is_collective k ≡ true → sem.is_collective i ≡ true
      is_collective_at k i here b = sym (at_is false sem.is_collective k i here) ∙ b

      members_inside : (k c : ℕ) → k < length f.instructions → c < sem.devices → P.is_collective k ≡ true → All (λ m. m < sem.devices) (P.members k c)
      members_inside k c kin cin b =
          let next = there_is f.instructions k kin in
          subst (λ (ms : List ℕ). All (λ m. m < sem.devices) ms) (sym (at_is [] (λ i. sem.members i c) k next.0 next.1)) (groups.inside next.0 c cin (is_collective_at k next.0 next.1 b))

      known_operand : (ns : List (Option ℕ)) (vs : List V) → length ns ≡ length vs → (o : Option ℕ) → IsSome (option_and_then (last_place ns) o) → IsSome (option_and_then (value_under ns (there vs)) o)
      known_operand ns vs size None known = cc
      known_operand ns vs size (Some name) known = there_where_known ns vs name size known

      -- where each collective uses an earlier value
      pub well_formed : UsesEarlier sem f → IsWellFormed P
      well_formed uses = record {
        members = members_inside;
        operands = λ k c vs kin cin b size.
            let next = there_is f.instructions k kin in
            let i = next.0 in
            let named = value_under (names_before sem f k) (there vs) in
            let long : length (names_before sem f k) ≡ length vs = omega (arith, length-names k (omega (arith, kin)), counted c cin, size) in
            subst (λ (o : Option V). IsSome o) (sym (at_is None (λ i. operand_by sem i named) k i next.1))
            (known_operand (names_before sem f k) vs long (slice_get (sem.operands i) 0) (uses k i next.1 (is_collective_at k i next.1 b)));
      }

      -- a collective that gives a value has the operand of its first member
      known_where_given : (k : ℕ) (i : I) → slice_get f.instructions k ≡ Some i → (c : ℕ) → c < sem.devices → sem.is_collective i ≡ true → IsSome (gives sem i (state k) c) → IsKnown sem (names_before sem f k) i
      known_where_given k i here c device b given =
          let collected : IsSome (collected_by sem i c (state k)) = rw b at given in
          go (sem.members i c) (groups.inside i c device b) collected
        where
          le : k ≤ length f.instructions
          le = let lt = slice_get_within f.instructions k i here in omega (arith, lt)

          value : (m : ℕ) → m < sem.devices → (x : ℕ) (os : List (Option V)) (o : Option V) → state k m x ≡ o → IsSome (option_and_then (sem.collect i c) (all_there (o ∷ os))) → IsSome (last_place (names_before sem f k) x)
          value m lt x os None e h = cc
          value m lt x os (Some v) e h = known_where_some k le m x lt (ap is_some e)

          first : (m : ℕ) → m < sem.devices → (os : List (Option V)) (o : Option ℕ) → IsSome (option_and_then (sem.collect i c) (all_there (option_and_then (state k m) o ∷ os))) → IsSome (option_and_then (last_place (names_before sem f k)) o)
          first m lt os None h = cc
          first m lt os (Some x) h = value m lt x os (state k m x) refl h

          go : (ms : List ℕ) → All (λ m. m < sem.devices) ms → IsSome (option_and_then (sem.collect i c) (all_there (map (λ m. operand_by sem i (state k m)) ms))) → IsKnown sem (names_before sem f k) i
          go [] all h = let none = groups.empty i c b in let bad : IsSome {T = V} None = subst (λ (o : Option V). IsSome o) none h in cc
          go (m ∷ ms) all h = first m (All-head (λ m. m < sem.devices) m ms all) (map (λ m. operand_by sem i (state k m)) ms) (slice_get (sem.operands i) 0) h

      -- whatever is done in step is well formed
      pub formed_where_run : Runs sem f.instructions (at_start f.parameters arguments) → IsWellFormed P
      formed_where_run run =
          elim (cases_lt 0 sem.devices) [
            | inl some ↦ well_formed (λ k i here b. known_where_given k i here 0 some b (give_where_runs sem f.instructions (at_start f.parameters arguments) run k 0 i here some))
            | inr none ↦ record {
              members = members_inside;
              operands = λ k c vs kin cin b size. absurd (omega (arith, none, cin));
            }
          ]

      pub by_names : IsByNames sem f arguments P
      by_names = record {
        values = λ k c i here device. value_is k i here c device;
        done = (run_where_done, done_where_run);
        results = done_with_rows;
        back = rows_where_done;
        formed = well_formed;
        formed_where_done = λ done. formed_where_run (run_where_done done);
        right = λ rows done. right_where_done P rows done (formed_where_run (run_where_done (ap is_done done)));
      }
