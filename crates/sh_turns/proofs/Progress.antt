-- While a world isn't finished some device can move.
use Rattle.std.proofs.Common.{◌≡◌, ℕ, zero, suc, ◌<◌, ◌≤◌, Bool, true, false, List, [], ◌∷◌, length, refl, ◌∙◌, inl, inr, arith, get_or}
use Rattle.std.specs.Prelude.{nat_le}
use Rattle.std.specs.List.{list_all}
use Rattle.std.proofs.lemmas.Bool.{cases_Bool, cases_lt, lt-ltb, leb-false, and_from}
use Rattle.std.proofs.lemmas.List.Elements.{All-get_or}
use Rattle.sh_turns.specs.Program.{Program, IsWellFormed, collectives}
use Rattle.sh_turns.specs.World.{Device, World, fresh, device_at, all_posted, can_move, finished}
use Rattle.sh_turns.specs.Law.{reached, AllAgree}
use Rattle.sh_turns.proofs.Table.{collectives_up}
use Rattle.sh_turns.proofs.Moves.{length-posts}

-- a list whose test fails has a place where it fails
fails_at : {X : Type 0} (t : X → Bool) (d : X) (xs : List X) → list_all t xs ≡ false → (k : ℕ) × (k < length xs) × (t (get_or xs k d) ≡ false)
fails_at t d [] h = cc
fails_at t d (x ∷ xs) h =
    elim (cases_Bool (t x)) [
      | inl e ↦ let rest = fails_at t d xs (rw e at h) in (suc rest.0, omega (arith, rest.1), rest.2)
      | inr e ↦ (0, omega arith, e)
    ]

module _ {V : Type 0} (p : Program V) where
  moves : (w : World V) (c : ℕ) → c < length w → (device_at w c).next < p.size → ((device_at w c).waits ≡ true → all_posted p w c (device_at w c) ≡ true) → can_move p w c ≡ true
  moves w c lt more all =
      and_from _ _ (lt-ltb _ _ lt) (and_from _ _ (lt-ltb _ _ more)
      (elim (cases_Bool (p.is_collective (device_at w c).next)) [
        | inl b ↦ elim (cases_Bool (device_at w c).waits) [ inl n ↦ rw (b, n) (all n) | inr n ↦ rw (b, n) refl ]
        | inr b ↦ rw b refl
      ]))

  -- From a device with a next instruction, one that can move: a member that lags isn't waiting, or is further behind
  progress_from : (n : ℕ) (w : World V) → IsWellFormed p → AllAgree p w → (c : ℕ) → c < p.devices → (device_at w c).next < p.size → (device_at w c).next < n → (m : ℕ) × (m < p.devices) × (can_move p w m ≡ true)
  progress_from zero w well is c lt more small = absurd (omega arith)
  progress_from (suc n) w well is c lt more small =
      let d = device_at w c in
      let here : c < length w = omega (arith, is.devices) in
      elim (cases_Bool d.waits) [
        | inr n ↦ (c, lt, moves w c here more (λ h. cc))
        | inl waits ↦
            elim (cases_Bool (all_posted p w c d)) [
              | inl all ↦ (c, lt, moves w c here more (λ h. all))
              | inr not_all ↦
                  let ms = p.members d.next c in
                  let f = fails_at (λ m. nat_le (length d.posts) (length (device_at w m).posts)) 0 ms not_all in
                  let m = get_or ms f.0 0 in
                  let e = device_at w m in
                  let in' : m < p.devices = All-get_or (λ m. m < p.devices) ms f.0 0 f.1 (well.members d.next c more lt ((is.each c lt).waits waits).1) in
                  let there : m < length w = omega (arith, is.devices) in
                  let fewer : length e.posts < length d.posts = leb-false _ _ f.2 in
                  let mine : length d.posts ≡ collectives p (suc d.next) = length-posts p c d (is.each c lt) ∙ rw waits refl in
                  let theirs : length e.posts ≡ collectives p (reached e) = length-posts p m e (is.each m in') in
                  let behind : reached e ≤ d.next =
                  elim (cases_lt d.next (reached e)) [ inl up ↦ absurd (omega (arith, collectives_up p (reached e) (suc d.next) (omega arith))) | inr le ↦ le ] in
                  elim (cases_Bool e.waits) [
                    | inl w' ↦
                        let before : suc e.next ≤ d.next = rw w' at behind in
                        progress_from n w well is m in' (omega arith) (omega arith)
                    | inr w' ↦
                        let before : e.next ≤ d.next = rw w' at behind in
                        (m, in', moves w m there (omega arith) (λ h. cc))
                  ]
            ]
      ]

  pub progress : (w : World V) → IsWellFormed p → AllAgree p w → finished p w ≡ false → (c : ℕ) × (c < p.devices) × (can_move p w c ≡ true)
  progress w well is unfinished =
      let f = fails_at (λ (d : Device V). nat_le p.size d.next) (fresh []) w unfinished in
      progress_from p.size w well is f.0 (omega (arith, f.1, is.devices)) (leb-false _ _ f.2) (leb-false _ _ f.2)
