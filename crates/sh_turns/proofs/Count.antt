-- How many turns the devices of a world have made, and how many they can.
use Rattle.std.proofs.Common.{◌≡◌, ℕ, suc, ◌+◌, ◌*◌, ◌<◌, ◌≤◌, zero, true, false, List, [], ◌∷◌, length, ap, ◌∙◌, inl, inr, arith, get_or}
use Rattle.std.specs.Prelude.{sum_by, nat_le}
use Rattle.std.proofs.lemmas.Bool.{cases_Bool, leb-true, le-leb}
use Rattle.std.proofs.lemmas.List.Elements.{All-get_or, All-from_get_or}
use Rattle.std.proofs.lemmas.List.Sums.{sum_by-cons, sum_by-le, AllPass-from_list_all, list_all-from_AllPass}
use Rattle.sh_turns.specs.Program.{Program, collectives, turns}
use Rattle.sh_turns.specs.World.{Device, World, fresh, device_at, finished}
use Rattle.sh_turns.specs.Law.{reached, AgreesWith, AllAgree}
use Rattle.sh_turns.proofs.Table.{collectives_up, locals_and_collectives}
use Rattle.sh_turns.proofs.Moves.{length-posts}
use Rattle.sh_turns.proofs.Kept.{turns_made, sum_of_same}

-- a sum that is as large as its terms allow
same_in_sum : {X : Type 0} (f : X → ℕ) (n : ℕ) (d : X) (xs : List X) → ((k : ℕ) → k < length xs → f (get_or xs k d) ≤ n) → sum_by f xs ≡ length xs * n → (k : ℕ) → k < length xs → f (get_or xs k d) ≡ n
same_in_sum f n d [] h e k lt = absurd (omega arith)
same_in_sum f n d (x ∷ xs) h e k lt =
    let rest : (k : ℕ) → k < length xs → f (get_or xs k d) ≤ n = λ k lt. h (suc k) (omega arith) in
    let most = sum_by-le f n xs (All-from_get_or (λ x. f x ≤ n) xs d rest) in
    let here : f x ≡ n = omega (arith, sum_by-cons f x xs, h 0 (omega arith), most, e) in
    let e' : sum_by f xs ≡ length xs * n = omega (arith, sum_by-cons f x xs, here, e) in
    at k here (same_in_sum f n d xs rest e') lt
  where
    at : (k : ℕ) → f x ≡ n → ((k : ℕ) → k < length xs → f (get_or xs k d) ≡ n) → k < suc (length xs) → f (get_or (x ∷ xs) k d) ≡ n
    at zero here there lt = here
    at (suc k) here there lt = there k (omega arith)

module _ {V : Type 0} (p : Program V) where
  -- the most turns that a device makes
  most : ℕ
  most = p.size + collectives p p.size

  turns_is : turns p ≡ p.devices * most
  unfolding most
  turns_is = ap (λ n. p.devices * n) (omega (arith, locals_and_collectives p p.size))

  reached_within : (c : ℕ) (d : Device V) → AgreesWith p c d → reached d ≤ p.size
  reached_within c d is =
      elim (cases_Bool d.waits) [ inl n ↦ rw n (omega (arith, (is.waits n).0)) | inr n ↦ rw n is.within ]

  at_most : (c : ℕ) (d : Device V) → AgreesWith p c d → turns_made d ≤ most
  unfolding most
  at_most c d is =
      omega (arith, length-posts p c d is, collectives_up p p.size (reached d) (reached_within c d is), is.within)

  at_end : (c : ℕ) (d : Device V) → AgreesWith p c d → p.size ≤ d.next → turns_made d ≡ most
  unfolding most
  at_end c d is end =
      let n : d.waits ≡ false = elim (cases_Bool d.waits) [ inl n ↦ absurd (omega (arith, (is.waits n).0)) | inr n ↦ n ] in
      let r : reached d ≡ p.size = rw n (omega (arith, is.within)) in
      omega (arith, length-posts p c d is, ap (collectives p) r, is.within)

  end_from_most : (c : ℕ) (d : Device V) → AgreesWith p c d → turns_made d ≡ most → p.size ≤ d.next
  unfolding most
  end_from_most c d is full =
      omega (arith, length-posts p c d is, collectives_up p p.size (reached d) (reached_within c d is), full)

  all_turns : (w : World V) → AllAgree p w → length w * most ≡ turns p
  all_turns w is = ap (λ n. n * most) is.devices ∙ omega (arith, turns_is)

  pub no_longer : (w : World V) → AllAgree p w → sum_by turns_made w ≤ turns p
  no_longer w is =
      let l = sum_by-le turns_made most w (All-from_get_or (λ d. turns_made d ≤ most) w (fresh []) (λ k lt. at_most k (device_at w k) (is.each k (omega (arith, is.devices))))) in
      omega (arith, l, all_turns w is)

  pub ends : (w : World V) → finished p w ≡ true → (c : ℕ) → c < length w → p.size ≤ (device_at w c).next
  ends w fin c lt =
      leb-true _ _ (All-get_or (λ (d : Device V). nat_le p.size d.next ≡ true) w c (fresh []) lt (AllPass-from_list_all (λ (d : Device V). nat_le p.size d.next) w fin))

  pub full_at_end : (w : World V) → AllAgree p w → finished p w ≡ true → sum_by turns_made w ≡ turns p
  full_at_end w is fin =
      sum_of_same turns_made most (fresh []) w (λ k lt. at_end k (device_at w k) (is.each k (omega (arith, is.devices))) (ends w fin k lt)) ∙ all_turns w is

  pub end_from_full : (w : World V) → AllAgree p w → sum_by turns_made w ≡ turns p → finished p w ≡ true
  end_from_full w is full =
      let e : sum_by turns_made w ≡ length w * most = omega (arith, full, all_turns w is) in
      let each = same_in_sum turns_made most (fresh []) w (λ k lt. at_most k (device_at w k) (is.each k (omega (arith, is.devices)))) e in
      list_all-from_AllPass (λ (d : Device V). nat_le p.size d.next) w
      (All-from_get_or (λ (d : Device V). nat_le p.size d.next ≡ true) w (fresh []) (λ k lt. le-leb _ _ (end_from_most k (device_at w k) (is.each k (omega (arith, is.devices))) (each k lt))))
