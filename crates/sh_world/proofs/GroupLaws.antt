-- A group as a list made of its places: a test of each member, and what is gathered from each.
use Rattle.std.proofs.Common.{◌≡◌, ℕ, zero, suc, ◌+◌, ◌<◌, Bool, true, false, List, [], ◌∷◌, ◌++◌, length, map, Option, Some, None, refl, sym, ap, ◌∙◌, arith, get_or}
use Rattle.std.specs.Prelude.{slice_get, option_map}
use Rattle.std.specs.List.{list_all, range_with_len}
use Rattle.std.proofs.lemmas.Bool.{and_from}
use Rattle.std.proofs.lemmas.List.{get_or-map, map_push, length-map}
use Rattle.std.proofs.lemmas.List.FromFn.{map-range_with_len_more, get_or-map-range_with_len, length-map-range_with_len}
use Rattle.std.proofs.lemmas.List.Folds.{list_all-append, list_all_at}
use Rattle.sh_tensor.specs.Tensor.{TensorValue}
use Rattle.sh_turns.specs.Program.{all_there}
use Rattle.sh_turns.specs.World.{Device, fresh, device_at, posted_for}
use Rattle.sh_world.specs.declared.states.State.{State}
use Rattle.sh_world.specs.States.{device_of}

module _ {X : Type 0} (f : ℕ → X) where
  pub all_more : (t : X → Bool) (i : ℕ) → list_all t (map f (range_with_len 0 i)) ≡ true → t (f i) ≡ true → list_all t (map f (range_with_len 0 (i + 1))) ≡ true
  all_more t i so_far here =
      rw (map-range_with_len_more f 0 i i (omega arith), list_all-append t (map f (range_with_len 0 i)) (f i ∷ [])) (and_from _ _ so_far (and_from _ _ here refl))

  pub all_fails : (t : X → Bool) (i n : ℕ) → i < n → t (f i) ≡ false → list_all t (map f (range_with_len 0 n)) ≡ false
  all_fails t i n lt here =
      list_all_at t (map f (range_with_len 0 n)) i (f i) (omega (arith, length-map-range_with_len f 0 n)) (ap t (get_or-map-range_with_len f 0 n i i (f i) lt (omega arith)) ∙ here)

module _ {X : Type 0} where
  there_push : (os : List (Option X)) (xs : List X) (x : X) → all_there os ≡ Some xs → all_there (os ++ Some x ∷ []) ≡ Some (xs ++ x ∷ [])
  there_push [] xs x h = let e : [] ≡ xs = cc in rw (← e) refl
  there_push (None ∷ os) xs x h = cc
  there_push (Some y ∷ os) xs x h = go (all_there os) (λ ys e. there_push os ys x e) h
    where
      go : (o : Option (List X)) → ((ys : List X) → o ≡ Some ys → all_there (os ++ Some x ∷ []) ≡ Some (ys ++ x ∷ [])) → option_map (λ ys. y ∷ ys) o ≡ Some xs → option_map (λ ys. y ∷ ys) (all_there (os ++ Some x ∷ [])) ≡ Some (xs ++ x ∷ [])
      go None rest h = cc
      go (Some ys) rest h = let e : y ∷ ys ≡ xs = cc in rw (rest ys refl, ← e) refl

  none_there : (os : List (Option X)) (i : ℕ) (d : Option X) → i < length os → get_or os i d ≡ None → all_there os ≡ None
  none_there [] i d lt h = absurd (omega arith)
  none_there (None ∷ os) i d lt h = refl
  none_there (Some x ∷ os) zero d lt h = cc
  none_there (Some x ∷ os) (suc i) d lt h = ap (option_map (λ ys. x ∷ ys)) (none_there os i d (omega arith) h)

module _ {X : Type 0} (get : ℕ → Option X) (f : ℕ → ℕ) where
  pub gather_more : (i : ℕ) (xs : List X) (x : X) → all_there (map get (map f (range_with_len 0 i))) ≡ Some xs → get (f i) ≡ Some x → all_there (map get (map f (range_with_len 0 (i + 1)))) ≡ Some (xs ++ x ∷ [])
  gather_more i xs x so_far here =
      rw (map-range_with_len_more f 0 i i (omega arith), map_push get (map f (range_with_len 0 i)) (f i), here) (there_push (map get (map f (range_with_len 0 i))) xs x so_far)

  pub gather_none : (i n : ℕ) → i < n → get (f i) ≡ None → all_there (map get (map f (range_with_len 0 n))) ≡ None
  gather_none i n lt here =
      let l : length (map f (range_with_len 0 n)) ≡ n = length-map-range_with_len f 0 n in
      none_there (map get (map f (range_with_len 0 n))) i None (omega (arith, length-map (map f (range_with_len 0 n)) get, l))
      (get_or-map get (map f (range_with_len 0 n)) i 0 None (omega (arith, l)) ∙ ap get (get_or-map-range_with_len f 0 n i i 0 lt (omega arith)) ∙ here)

-- a device in memory is one of the machine's
pub device_is : (states : List State) (m : ℕ) (s : State) → m < length states → s ≡ get_or states m s → device_at (map device_of states) m ≡ device_of s
device_is states m s lt is = get_or-map device_of states m s (fresh []) lt ∙ ap device_of (sym is)

-- the posts of a member
pub count_at : (states : List State) (m m' : ℕ) (s : State) (n : ℕ) → m ≡ m' → m < length states → s ≡ get_or states m s → n ≡ length (device_of s).posts
    → length (device_at (map device_of states) m').posts ≡ n
count_at states m m' s n e lt is count =
    rw (← e) (ap (λ (d : Device TensorValue). length d.posts) (device_is states m s lt is) ∙ sym count)

pub posted_at : (states : List State) (m m' : ℕ) (s : State) (k number : ℕ) (o : Option TensorValue) → m ≡ m' → m < length states → s ≡ get_or states m s
    → o ≡ posted_for k (slice_get (device_of s).posts number) → posted_for k (slice_get (device_at (map device_of states) m').posts number) ≡ o
posted_at states m m' s k number o e lt is post =
    rw (← e) (ap (λ (d : Device TensorValue). posted_for k (slice_get d.posts number)) (device_is states m s lt is) ∙ sym post)
