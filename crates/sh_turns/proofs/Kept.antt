-- Each turn keeps what the program says of each device, and counts one.
use Rattle.std.proofs.Common.{◌≡◌, ℕ, suc, ◌+◌, ◌*◌, ◌<◌, true, false, ◌&&◌, List, [], ◌∷◌, ◌++◌, map, length, Option, Some, None, refl, sym, ap, ◌∙◌, subst, inl, inr, arith, add-one, get_or}
use Rattle.std.specs.Prelude.{sum_by, slice_set}
use Rattle.std.proofs.lemmas.Bool.{cases_eq, cases_Bool, and_parts, and_from}
use Rattle.std.proofs.lemmas.List.{length_push, length-set, map_push, get_or-set_same, get_or-set_other, set-get_or}
use Rattle.std.proofs.lemmas.List.FromFn.{get_or-map-range_with_len, length-map-range_with_len}
use Rattle.std.proofs.lemmas.List.Sums.{sum_by-set, sum_by-cons}
use Rattle.std.proofs.lemmas.Option.{same_Some}
use Rattle.sh_turns.specs.declared.Turn.{Turn}
use Rattle.sh_turns.specs.Program.{Program, IsWellFormed, there, values_before, value}
use Rattle.sh_turns.specs.World.{Device, World, fresh, device_at, with_value, with_post, no_longer_waiting, local_turn, post_turn, take_turn, goes_on, can_go, can_move, taken, turn_of, turn, after, run, start}
use Rattle.sh_turns.specs.Law.{operands_before, with_operand, AgreesWith, AllAgree}
use Rattle.sh_turns.proofs.Moves.{Move, goes, posts, takes, move_of, has_next, has_all_posts, can_parts, taken_is}

-- the turns that a device has made
abbrev pub turns_made : {V : Type 0} → Device V → ℕ
turns_made d = d.next + length d.posts

-- a sum of equal terms
pub sum_of_same : {X : Type 0} (f : X → ℕ) (n : ℕ) (d : X) (xs : List X) → ((k : ℕ) → k < length xs → f (get_or xs k d) ≡ n) → sum_by f xs ≡ length xs * n
sum_of_same f n d [] h = omega arith
sum_of_same f n d (x ∷ xs) h = omega (arith, sum_by-cons f x xs, h 0 (omega arith), sum_of_same f n d xs (λ k lt. h (suc k) (omega arith)))

module _ {V : Type 0} (p : Program V) where
  value_kept : (c : ℕ) (d : Device V) (v : V) → AgreesWith p c d → d.next < p.size → value p d.next c ≡ Some v → map with_operand d.posts ≡ operands_before p (suc d.next) c → AgreesWith p c (no_longer_waiting (with_value d v))
  value_kept c d v is more e ps =
      record {
        within = omega arith;
        values = rw add-one (map_push (λ v. Some v) d.values v ∙ ap (λ l. l ++ Some v ∷ []) is.values ∙ ap (λ o. values_before p d.next c ++ o ∷ []) (sym e));
        posts = rw add-one ps;
        waits = λ h. cc;
      }

  -- a device that doesn't wait goes on not waiting
  still_free : (d : Device V) (v : V) → d.waits ≡ false → with_value d v ≡ no_longer_waiting (with_value d v)
  still_free d v n = ap (λ b. record { values = d.values ++ v ∷ []; next = d.next + 1; waits = b; posts = d.posts }) n

  post_kept : (c : ℕ) (d : Device V) (v : V) → AgreesWith p c d → d.next < p.size → d.waits ≡ false → p.is_collective d.next ≡ true → p.operand d.next c (there d.values) ≡ Some v → AgreesWith p c (with_post d v)
  post_kept c d v is more n b e =
      let before : map with_operand d.posts ≡ operands_before p d.next c = is.posts ∙ rw n refl in
      let x : Some v ≡ p.operand d.next c (values_before p d.next c) = sym e ∙ ap (λ l. p.operand d.next c l) is.values in
      record {
        within = is.within;
        values = is.values;
        posts = rw b (map_push with_operand d.posts (d.next, v) ∙ ap (λ l. l ++ (d.next, Some v) ∷ []) before ∙ ap (λ (o : Option V). operands_before p d.next c ++ (d.next, o) ∷ []) x);
        waits = λ h. (more, b);
      }

  move_kept : (w : World V) → IsWellFormed p → AllAgree p w → (c : ℕ) (d : Device V) (t : Turn × Device V) → c < p.devices → AgreesWith p c d → can_go p w c d ≡ true → Move p w c d t → AgreesWith p c t.1
  move_kept w well all c d t in' is can (goes v b e same) =
      let more = has_next p w c d can in
      let n : d.waits ≡ false = elim (cases_Bool d.waits) [ inl n ↦ let b' = (is.waits n).1 in cc | inr n ↦ n ] in
      let val : value p d.next c ≡ Some v = rw b (ap (λ l. p.local d.next c l) (sym is.values) ∙ e) in
      let ps : map with_operand d.posts ≡ operands_before p (suc d.next) c = rw b (is.posts ∙ rw n refl) in
      subst (λ (x : Turn × Device V). AgreesWith p c x.1) (sym same) (subst (λ d. AgreesWith p c d) (sym (still_free d v n)) (value_kept c d v is more val ps))
  move_kept w well all c d t in' is can (posts v b n e same) =
      subst (λ (x : Turn × Device V). AgreesWith p c x.1) (sym same) (post_kept c d v is (has_next p w c d can) n b e)
  move_kept w well all c d t in' is can (takes v b n e same) =
      let val : value p d.next c ≡ Some v = sym (taken_is p w well all c d in' is n (has_all_posts p w c d can b n)) ∙ e in
      let ps : map with_operand d.posts ≡ operands_before p (suc d.next) c = is.posts ∙ rw n refl in
      subst (λ (x : Turn × Device V). AgreesWith p c x.1) (sym same) (value_kept c d v is (has_next p w c d can) val ps)

  move_counts : (w : World V) (c : ℕ) (d : Device V) (t : Turn × Device V) → Move p w c d t → turns_made t.1 ≡ turns_made d + 1
  move_counts w c d t (goes v b e same) = ap (λ (x : Turn × Device V). turns_made x.1) same ∙ omega arith
  move_counts w c d t (posts v b n e same) = ap (λ (x : Turn × Device V). turns_made x.1) same ∙ omega (arith, length_push d.posts (d.next, v))
  move_counts w c d t (takes v b n e same) = ap (λ (x : Turn × Device V). turns_made x.1) same ∙ omega arith

  fresh_agrees : (c : ℕ) → AgreesWith p c (fresh (p.arguments c))
  fresh_agrees c = record { within = omega arith; values = refl; posts = refl; waits = λ h. cc }

  pub start_at : (c : ℕ) → c < p.devices → device_at (start p) c ≡ fresh (p.arguments c)
  start_at c lt = get_or-map-range_with_len (λ c. fresh (p.arguments c)) 0 p.devices c c (fresh []) lt (omega arith)

  pub start_agrees : AllAgree p (start p)
  start_agrees =
      record {
        devices = length-map-range_with_len (λ c. fresh (p.arguments c)) 0 p.devices;
        each = λ c lt. subst (λ d. AgreesWith p c d) (sym (start_at c lt)) (fresh_agrees c);
      }

  pub start_counts : sum_by turns_made (start p) ≡ 0
  start_counts =
      let n = length-map-range_with_len (λ c. fresh (p.arguments c)) 0 p.devices in
      sum_of_same turns_made 0 (fresh []) (start p) (λ k lt. ap turns_made (start_at k (omega arith)) ∙ omega arith) ∙ omega arith

  pub after_agrees : (w : World V) (c : ℕ) → IsWellFormed p → AllAgree p w → can_move p w c ≡ true → goes_on (turn p w c) ≡ true → AllAgree p (after p w c)
  after_agrees w c well all can g =
      let parts = can_parts p w c can in
      let in' : c < length w = parts.0 in
      let in'' : c < p.devices = omega (arith, all.devices) in
      let d = device_at w c in
      let t = turn_of p w c d in
      let new : AgreesWith p c t.1 = move_kept w well all c d t in'' (all.each c in'') parts.1 (move_of p w c d g) in
      record {
        devices = length-set w c t.1 ∙ all.devices;
        each = λ m lt.
            elim (cases_eq m c) [
              | inl e ↦ rw e (rw (get_or-set_same w c t.1 (fresh []) in') new)
              | inr ne ↦ rw (get_or-set_other w c m t.1 (fresh []) ne) (all.each m lt)
            ];
      }

  pub after_counts : (w : World V) (c : ℕ) → can_move p w c ≡ true → goes_on (turn p w c) ≡ true → sum_by turns_made (after p w c) ≡ sum_by turns_made w + 1
  after_counts w c can g =
      let in' : c < length w = (can_parts p w c can).0 in
      let d = device_at w c in
      let t = turn_of p w c d in
      omega (arith, sum_by-set turns_made w c t.1 (fresh []) in', move_counts w c d t (move_of p w c d g))

  pub run_agrees : IsWellFormed p → (schedule : List ℕ) (w w' : World V) → AllAgree p w → run p w schedule ≡ Some w' → AllAgree p w' × (sum_by turns_made w' ≡ sum_by turns_made w + length schedule)
  run_agrees well [] w w' all h =
      let e = same_Some w w' h in
      (subst (λ w. AllAgree p w) e all, ap (sum_by turns_made) (sym e) ∙ omega arith)
  run_agrees well (c ∷ cs) w w' all h =
      elim (cases_Bool (can_move p w c && goes_on (turn p w c))) [
        | inl e ↦
            let parts = and_parts _ _ e in
            let h' : run p (after p w c) cs ≡ Some w' = rw e at h in
            let rest = run_agrees well cs (after p w c) w' (after_agrees w c well all parts.0 parts.1) h' in
            (rest.0, omega (arith, rest.1, after_counts w c parts.0 parts.1))
        | inr e ↦ let h' : None ≡ Some w' = rw e at h in cc
      ]

  -- a run that goes on by one turn
  pub run_on : (schedule : List ℕ) (w w' : World V) (c : ℕ) → run p w schedule ≡ Some w' → can_move p w' c ≡ true → goes_on (turn p w' c) ≡ true → run p w (schedule ++ c ∷ []) ≡ Some (after p w' c)
  run_on [] w w' c ran can on =
      let e : w' ≡ w = sym (same_Some w w' ran) in
      let both : (can_move p w c && goes_on (turn p w c)) ≡ true = and_from _ _ (rw e at can) (rw e at on) in
      rw (both, e) refl
  run_on (x ∷ xs) w w' c ran can on =
      elim (cases_Bool (can_move p w x && goes_on (turn p w x))) [
        | inl b ↦ let rest : run p (after p w x) xs ≡ Some w' = rw b at ran in rw b (run_on xs (after p w x) w' c rest can on)
        | inr b ↦ let bad : None ≡ Some w' = rw b at ran in cc
      ]

  local_stays : (d : Device V) (o : Option V) → goes_on (local_turn d o).0 ≡ false → (local_turn d o).1 ≡ d
  local_stays d None h = refl
  local_stays d (Some v) h = cc

  post_stays : (d : Device V) (o : Option V) → goes_on (post_turn d o).0 ≡ false → (post_turn d o).1 ≡ d
  post_stays d None h = refl
  post_stays d (Some v) h = cc

  take_stays : (d : Device V) (o : Option V) → goes_on (take_turn d o).0 ≡ false → (take_turn d o).1 ≡ d
  take_stays d None h = refl
  take_stays d (Some v) h = cc

  turn_stays : (w : World V) (c : ℕ) (d : Device V) → goes_on (turn_of p w c d).0 ≡ false → (turn_of p w c d).1 ≡ d
  turn_stays w c d h =
      let Q : Turn × Device V → Type 0 = λ t. goes_on t.0 ≡ false → t.1 ≡ d in
      let all : Q (turn_of p w c d) =
      elim (cases_Bool (p.is_collective d.next)) [
        | inl b ↦
            elim (cases_Bool d.waits) [
              | inl n ↦ let e : turn_of p w c d ≡ take_turn d (taken p w c d) = rw (b, n) refl in subst Q (sym e) (take_stays d (taken p w c d))
              | inr n ↦ let e : turn_of p w c d ≡ post_turn d (p.operand d.next c (there d.values)) = rw (b, n) refl in subst Q (sym e) (post_stays d (p.operand d.next c (there d.values)))
            ]
        | inr b ↦ let e : turn_of p w c d ≡ local_turn d (p.local d.next c (there d.values)) = rw b refl in subst Q (sym e) (local_stays d (p.local d.next c (there d.values)))
      ] in
      all h

  -- a turn that is stuck or a mismatch leaves the world as it was
  pub after_stays : (w : World V) (c : ℕ) → goes_on (turn p w c) ≡ false → after p w c ≡ w
  after_stays w c h = ap (λ d. slice_set w c d) (turn_stays w c (device_at w c) h) ∙ set-get_or w c (fresh [])
