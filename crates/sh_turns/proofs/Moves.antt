-- One turn: which kinds there are, and that a take gives the value of its instruction.
use Rattle.std.proofs.Common.{◌≡◌, ℕ, ◌+◌, ◌-◌, ◌<◌, Bool, true, false, List, [], ◌∷◌, map, length, Option, Some, None, refl, sym, ap, ◌∙◌, inl, inr, arith}
use Rattle.std.specs.Prelude.{slice_get, option_and_then, option_map, nat_le, nat_lt, All, ◌||◌, not}
use Rattle.std.specs.List.{list_all}
use Rattle.std.proofs.lemmas.Bool.{cases_Bool, cases_lt, eq-eqb, leb-true, ltb-true, and_parts}
use Rattle.std.proofs.lemmas.List.{length-map}
use Rattle.std.proofs.lemmas.List.Elements.{All-head, All-tail}
use Rattle.std.proofs.lemmas.Option.{slice_get-map, same_Some}
use Rattle.sh_turns.specs.declared.Turn.{Turn}
use Rattle.sh_turns.specs.declared.Turn.TheVariants.{Local, Posted, Took}
use Rattle.sh_turns.specs.Program.{Program, IsWellFormed, there, all_there, values_before, value, collectives}
use Rattle.sh_turns.specs.World.{Device, World, device_at, with_value, with_post, no_longer_waiting, local_turn, post_turn, take_turn, posted_for, goes_on, all_posted, can_go, can_move, taken, turn_of}
use Rattle.sh_turns.specs.Law.{with_operand, reached, AgreesWith, AllAgree}
use Rattle.sh_turns.proofs.Table.{length-operands_before, collectives_up, operand_at}

-- two maps agree where they agree at each member that is in range and passes a test
map_where : {X Y : Type 0} (P : X → Type 0) (t : X → Bool) (f g : X → Y) → ((x : X) → P x → t x ≡ true → f x ≡ g x) → (xs : List X) → All P xs → list_all t xs ≡ true → map f xs ≡ map g xs
map_where P t f g same [] in' h = refl
map_where P t f g same (x ∷ xs) in' h =
    let parts = and_parts (t x) (list_all t xs) h in
    let here = same x (All-head P x xs in') parts.0 in
    let rest = map_where P t f g same xs (All-tail P x xs in') parts.1 in
    cc

-- a turn that goes on is one of three
pub data Move {V : Type 0} (p : Program V) (w : World V) (c : ℕ) (d : Device V) (t : Turn × Device V) : Type 0 where
  goes : (v : V) → p.is_collective d.next ≡ false → p.local d.next c (there d.values) ≡ Some v → t ≡ (Local, with_value d v) → Move p w c d t
  posts : (v : V) → p.is_collective d.next ≡ true → d.waits ≡ false → p.operand d.next c (there d.values) ≡ Some v → t ≡ (Posted, with_post d v) → Move p w c d t
  takes : (v : V) → p.is_collective d.next ≡ true → d.waits ≡ true → taken p w c d ≡ Some v → t ≡ (Took, no_longer_waiting (with_value d v)) → Move p w c d t

module _ {V : Type 0} (p : Program V) (w : World V) (c : ℕ) (d : Device V) where
  local_move : (o : Option V) (t : Turn × Device V) → p.is_collective d.next ≡ false → p.local d.next c (there d.values) ≡ o → t ≡ local_turn d o → goes_on t.0 ≡ true → Move p w c d t
  local_move None t b e is g = let f : goes_on t.0 ≡ false = ap (λ t. goes_on t.0) is in cc
  local_move (Some v) t b e is g = goes v b e is

  post_move : (o : Option V) (t : Turn × Device V) → p.is_collective d.next ≡ true → d.waits ≡ false → p.operand d.next c (there d.values) ≡ o → t ≡ post_turn d o → goes_on t.0 ≡ true → Move p w c d t
  post_move None t b n e is g = let f : goes_on t.0 ≡ false = ap (λ t. goes_on t.0) is in cc
  post_move (Some v) t b n e is g = posts v b n e is

  take_move : (o : Option V) (t : Turn × Device V) → p.is_collective d.next ≡ true → d.waits ≡ true → taken p w c d ≡ o → t ≡ take_turn d o → goes_on t.0 ≡ true → Move p w c d t
  take_move None t b n e is g = let f : goes_on t.0 ≡ false = ap (λ t. goes_on t.0) is in cc
  take_move (Some v) t b n e is g = takes v b n e is

  pub move_of : goes_on (turn_of p w c d).0 ≡ true → Move p w c d (turn_of p w c d)
  move_of g =
      elim (cases_Bool (p.is_collective d.next)) [
        | inl b ↦
            elim (cases_Bool d.waits) [
              | inl n ↦ take_move (taken p w c d) (turn_of p w c d) b n refl (rw (b, n) refl) g
              | inr n ↦ post_move (p.operand d.next c (there d.values)) (turn_of p w c d) b n refl (rw (b, n) refl) g
            ]
        | inr b ↦ local_move (p.local d.next c (there d.values)) (turn_of p w c d) b refl (rw b refl) g
      ]

  pub has_next : can_go p w c d ≡ true → d.next < p.size
  has_next can = ltb-true _ _ (and_parts (nat_lt d.next p.size) (not (p.is_collective d.next) || (not d.waits || all_posted p w c d)) can).0

  pub has_all_posts : can_go p w c d ≡ true → p.is_collective d.next ≡ true → d.waits ≡ true → all_posted p w c d ≡ true
  has_all_posts can b n =
      let parts = and_parts (nat_lt d.next p.size) (not (p.is_collective d.next) || (not d.waits || all_posted p w c d)) can in
      rw (b, n) at parts.1

module _ {V : Type 0} (p : Program V) where
  -- a device that can move is one of the world
  pub can_parts : (w : World V) (c : ℕ) → can_move p w c ≡ true → (c < length w) × (can_go p w c (device_at w c) ≡ true)
  can_parts w c can =
      let parts = and_parts (nat_lt c (length w)) (can_go p w c (device_at w c)) can in (ltb-true _ _ parts.0, parts.1)

  -- how many posts a device has
  pub length-posts : (c : ℕ) (d : Device V) → AgreesWith p c d → length d.posts ≡ collectives p (reached d)
  length-posts c d is = sym (length-map d.posts with_operand) ∙ ap length is.posts ∙ length-operands_before p (reached d) c

  as_posted : (k : ℕ) (x : Option V) (o : Option (ℕ × V)) → option_map with_operand o ≡ Some (k, x) → posted_for k o ≡ x
  as_posted k x None h = cc
  as_posted k x (Some post) h =
      let pair : with_operand post ≡ (k, x) = same_Some (with_operand post) (k, x) h in
      let a : post.0 ≡ k = ap (λ (q : ℕ × Option V). q.0) pair in
      let b : Some post.1 ≡ x = ap (λ (q : ℕ × Option V). q.1) pair in
      rw (eq-eqb post.0 k a) b

  -- a member's post at a collective, where it has enough posts
  member_post : (k m : ℕ) (e : Device V) → AgreesWith p m e → p.is_collective k ≡ true → collectives p k < length e.posts → posted_for k (slice_get e.posts (collectives p k)) ≡ p.operand k m (values_before p k m)
  member_post k m e is b enough =
      let n = reached e in
      let before : k < n =
      elim (cases_lt k n) [ inl lt ↦ lt | inr ge ↦ absurd (omega (arith, collectives_up p k n ge, length-posts m e is)) ] in
      as_posted k (p.operand k m (values_before p k m)) (slice_get e.posts (collectives p k))
      (sym (slice_get-map with_operand e.posts (collectives p k)) ∙ ap (λ l. slice_get l (collectives p k)) is.posts ∙ operand_at p n m k before b)

  -- what a waiting device takes is the value of its instruction
  pub taken_is : (w : World V) → IsWellFormed p → AllAgree p w → (c : ℕ) (d : Device V) → c < p.devices → AgreesWith p c d → d.waits ≡ true → all_posted p w c d ≡ true → taken p w c d ≡ value p d.next c
  taken_is w well all c d in' is n posted =
      let k = d.next in
      let more : k < p.size = (is.waits n).0 in
      let b : p.is_collective k ≡ true = (is.waits n).1 in
      let count : length d.posts ≡ collectives p k + 1 = length-posts c d is ∙ rw (n, b) refl in
      let place : length d.posts - 1 ≡ collectives p k = omega arith in
      let same = map_where (λ m. m < p.devices) (λ m. nat_le (length d.posts) (length (device_at w m).posts))
      (λ m. posted_for k (slice_get (device_at w m).posts (length d.posts - 1)))
      (λ m. p.operand k m (values_before p k m))
      (λ m lt t. rw place (member_post k m (device_at w m) (all.each m lt) b (omega (arith, leb-true (length d.posts) (length (device_at w m).posts) t))))
      (p.members k c) (well.members k c more in' b) posted in
      rw b (ap (λ l. option_and_then (p.collect k c) (all_there l)) same)
