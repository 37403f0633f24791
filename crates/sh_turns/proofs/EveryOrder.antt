-- Every order of turns.
use Rattle.std.proofs.Common.{◌≡◌, ℕ, suc, ◌+◌, ◌<◌, true, false, List, [], ◌∷◌, ◌++◌, map, length, Option, Some, None, refl, sym, ap, ◌∙◌, subst, inl, inr, arith}
use Rattle.std.specs.Prelude.{slice_get, sum_by, is_some, IsSome, filter_map, option_map, if◌then◌else◌}
use Rattle.std.proofs.lemmas.Bool.{cases_Bool}
use Rattle.std.proofs.lemmas.List.{length-map, get_or-map}
use Rattle.std.proofs.lemmas.List.FromFn.{fill_by_all}
use Rattle.std.proofs.lemmas.Option.{same_Some, slice_get-map}
use Rattle.sh_turns.specs.declared.Turn.{Turn}
use Rattle.sh_turns.specs.Program.{Program, IsWellFormed, there, values_before, value, returned, collectives}
use Rattle.sh_turns.specs.Lockstep.{Done, is_done, results_of, lockstep, HasAllValues}
use Rattle.sh_turns.specs.World.{Device, World, fresh, device_at, local_turn, post_turn, take_turn, goes_on, can_go, can_move, taken, turn_of, turn, start, run, finished}
use Rattle.sh_turns.specs.Law.{AgreesWith, AllAgree, HoldsInEveryOrder}
use Rattle.sh_turns.proofs.Table.{length-values_before, value_at, collectives_up}
use Rattle.sh_turns.proofs.Moves.{has_next, has_all_posts, can_parts, length-posts, taken_is}
use Rattle.sh_turns.proofs.Kept.{turns_made, start_agrees, start_counts, run_agrees, run_on, after_stays}
use Rattle.sh_turns.proofs.Progress.{progress}
use Rattle.sh_turns.proofs.Count.{no_longer, ends, full_at_end, end_from_full}
use Rattle.sh_turns.proofs.InStep.{present_of, all_results, all_there_where_done, done_where_all_there}

module _ {V : Type 0} (p : Program V) where
  pub length-values : (c : ℕ) (d : Device V) → AgreesWith p c d → length d.values ≡ length (p.arguments c) + d.next
  length-values c d is = sym (length-map d.values (λ v. Some v)) ∙ ap length is.values ∙ length-values_before p d.next c

  -- each value of a device
  pub value_is : (c : ℕ) (d : Device V) → AgreesWith p c d → (k : ℕ) → k < d.next → slice_get d.values (length (p.arguments c) + k) ≡ value p k c
  value_is c d is k lt =
      go (slice_get d.values (length (p.arguments c) + k)) (value p k c)
      (sym (slice_get-map (λ v. Some v) d.values (length (p.arguments c) + k)) ∙ ap (λ l. slice_get l (length (p.arguments c) + k)) is.values ∙ value_at p d.next c k lt)
    where
      go : (o x : Option V) → option_map (λ v. Some v) o ≡ Some x → o ≡ x
      go None x h = cc
      go (Some v) x h = same_Some (Some v) x h

  pub posts_count : (c : ℕ) (d : Device V) → AgreesWith p c d → length d.posts ≡ collectives p d.next + (if d.waits then 1 else 0)
  posts_count c d is =
      elim (cases_Bool d.waits) [
        | inl n ↦ let b = (is.waits n).1 in length-posts p c d is ∙ rw (n, b) refl
        | inr n ↦ length-posts p c d is ∙ rw n (omega arith)
      ]

  -- where a device posts, it has fewer posts than the program has collectives
  pub has_room : (c : ℕ) (d : Device V) → AgreesWith p c d → d.next < p.size → p.is_collective d.next ≡ true → d.waits ≡ false → length d.posts < collectives p p.size
  has_room c d is more b n =
      let count : length d.posts ≡ collectives p d.next = length-posts p c d is ∙ rw n refl in
      let step : collectives p (suc d.next) ≡ collectives p d.next + 1 = rw b refl in
      omega (arith, collectives_up p p.size (suc d.next) (omega arith))

  local_goes : (d : Device V) (o : Option V) → IsSome o → goes_on (local_turn d o).0 ≡ true
  local_goes d None h = cc
  local_goes d (Some v) h = refl

  post_goes : (d : Device V) (o : Option V) → IsSome o → goes_on (post_turn d o).0 ≡ true
  post_goes d None h = cc
  post_goes d (Some v) h = refl

  take_goes : (d : Device V) (o : Option V) → IsSome o → goes_on (take_turn d o).0 ≡ true
  take_goes d None h = cc
  take_goes d (Some v) h = refl

  -- a turn goes on where the instruction has a value
  goes_where_there : (w : World V) → IsWellFormed p → AllAgree p w → (c : ℕ) (d : Device V) → AgreesWith p c d → c < p.devices → can_go p w c d ≡ true → IsSome (value p d.next c) → goes_on (turn_of p w c d).0 ≡ true
  goes_where_there w well all c d is in' can some =
      elim (cases_Bool (p.is_collective d.next)) [
        | inl b ↦
            elim (cases_Bool d.waits) [
              | inl n ↦
                  let same : turn_of p w c d ≡ take_turn d (taken p w c d) = rw (b, n) refl in
                  ap (λ (t : Turn × Device V). goes_on t.0) same ∙ take_goes d (taken p w c d) (subst IsSome (sym (taken_is p w well all c d in' is n (has_all_posts p w c d can b n))) some)
              | inr n ↦
                  let same : turn_of p w c d ≡ post_turn d (p.operand d.next c (there d.values)) = rw (b, n) refl in
                  ap (λ (t : Turn × Device V). goes_on t.0) same ∙ post_goes d (p.operand d.next c (there d.values)) (well.operands d.next c d.values (has_next p w c d can) in' b (length-values c d is))
            ]
        | inr b ↦
            let some' : IsSome (p.local d.next c (values_before p d.next c)) = rw b at some in
            rw b (local_goes d (p.local d.next c (there d.values)) (rw is.values some'))
      ]

  in_grid : (w : World V) → AllAgree p w → (c : ℕ) → can_move p w c ≡ true → c < p.devices
  in_grid w is c can = omega (arith, (can_parts p w c can).0, is.devices)

  goes_here : (w : World V) → IsWellFormed p → AllAgree p w → (c : ℕ) → can_move p w c ≡ true → IsSome (value p (device_at w c).next c) → goes_on (turn p w c) ≡ true
  goes_here w well is c can some =
      let in' = in_grid w is c can in
      goes_where_there w well is c (device_at w c) (is.each c in') in' (can_parts p w c can).1 some

  -- a fault comes only where the instruction has no value
  fault_where_none : (w : World V) → IsWellFormed p → AllAgree p w → (c : ℕ) → can_move p w c ≡ true → goes_on (turn p w c) ≡ false → value p (device_at w c).next c ≡ None
  fault_where_none w well is c can stops = go (value p (device_at w c).next c) refl
    where
      go : (o : Option V) → value p (device_at w c).next c ≡ o → o ≡ None
      go None e = refl
      go (Some v) e = let on = goes_here w well is c can (ap is_some e) in cc

  no_fault_where_done : (w : World V) → IsWellFormed p → AllAgree p w → is_done (lockstep p) ≡ true → (c : ℕ) → can_move p w c ≡ true → goes_on (turn p w c) ≡ true
  no_fault_where_done w well is done c can =
      let more = has_next p w c (device_at w c) (can_parts p w c can).1 in
      goes_here w well is c can (all_there_where_done p done (device_at w c).next c more (in_grid w is c can))

  end_values : (w : World V) → AllAgree p w → finished p w ≡ true → (c : ℕ) → c < length w → there (device_at w c).values ≡ values_before p p.size c
  end_values w is fin c lt =
      let each = is.each c (omega (arith, is.devices)) in
      let n : (device_at w c).next ≡ p.size = omega (arith, ends p w fin c lt, each.within) in
      each.values ∙ ap (λ n. values_before p n c) n

  results_at_end : (w : World V) → AllAgree p w → finished p w ≡ true → map (λ d. returned p d.values) w ≡ all_results p
  unfolding all_results
  results_at_end w is fin =
      fill_by_all (results_of p) (map (λ d. returned p d.values) w) p.devices [] (length-map w (λ d. returned p d.values) ∙ is.devices) (λ k kin.
      let lt : k < length w = omega (arith, is.devices) in
      get_or-map (λ (d : Device V). returned p d.values) w k (fresh []) [] lt
      ∙ ap (returned p) (sym (present_of (device_at w k).values) ∙ ap (filter_map (λ v. v)) (end_values w is fin k lt)))

  some_of_some : (o : Option V) (x : Option V) → option_map (λ v. Some v) o ≡ Some x → IsSome x
  some_of_some None x h = cc
  some_of_some (Some v) x h = let e : Some v ≡ x = cc in subst IsSome e refl

  all_there_at_end : (w : World V) → AllAgree p w → finished p w ≡ true → HasAllValues p
  all_there_at_end w is fin k c kin cin =
      let d = device_at w c in
      let i = length (p.arguments c) + k in
      some_of_some (slice_get d.values i) (value p k c)
      (sym (slice_get-map (λ v. Some v) d.values i) ∙ ap (λ l. slice_get l i) (end_values w is fin c (omega (arith, is.devices))) ∙ value_at p p.size c k kin)

  done_at_end : (w : World V) → AllAgree p w → finished p w ≡ true → lockstep p ≡ Done (all_results p)
  done_at_end w is fin = done_where_all_there p (all_there_at_end w is fin)

  unfinished_where_not_done : (w : World V) → AllAgree p w → is_done (lockstep p) ≡ false → finished p w ≡ false
  unfinished_where_not_done w is not_done =
      elim (cases_Bool (finished p w)) [
        | inl fin ↦ let done : is_done (lockstep p) ≡ true = ap is_done (done_at_end w is fin) in cc
        | inr fin ↦ fin
      ]

  stops_where_last : (schedule : List ℕ) (w : World V) → run p (start p) schedule ≡ Some w → ((c : ℕ) → run p (start p) (schedule ++ c ∷ []) ≡ None) → (c : ℕ) → can_move p w c ≡ true → goes_on (turn p w c) ≡ false
  stops_where_last schedule w ran last c can =
      elim (cases_Bool (goes_on (turn p w c))) [
        | inl on ↦ let more = run_on p schedule (start p) w c ran can on in let none = last c in cc
        | inr stops ↦ stops
      ]

  -- the law of turns
  pub every_order : IsWellFormed p → HoldsInEveryOrder p
  every_order well schedule w ran =
      let reach = run_agrees p well schedule (start p) w (start_agrees p) ran in
      let is = reach.0 in
      let count : sum_by turns_made w ≡ length schedule = omega (arith, reach.1, start_counts p) in
      record {
        agree = is;
        values = λ c k lt. value_is c (device_at w c) (is.each c lt) k;
        posts = λ c lt. posts_count c (device_at w c) (is.each c lt);
        progress = progress p w well is;
        no_longer = omega (arith, no_longer p w is, count);
        exact = (λ fin. sym count ∙ full_at_end p w is fin, λ e. end_from_full p w is (count ∙ e));
        fault = fault_where_none w well is;
        unchanged = after_stays p w;
        no_fault = no_fault_where_done w well is;
        results = λ rows done fin.
            let both : Done (all_results p) ≡ Done rows = sym (done_at_end w is fin) ∙ done in
            let same : all_results p ≡ rows = cc in
            results_at_end w is fin ∙ same;
        unfinished = unfinished_where_not_done w is;
        stops = λ not_done last.
            record {
              some = progress p w well is (unfinished_where_not_done w is not_done);
              each = stops_where_last schedule w ran last;
            };
      }
