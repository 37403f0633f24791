-- What is gathered from the members of a group, one at a time.
use Rattle.std.proofs.Common.{◌≡◌, ℕ, zero, suc, ◌+◌, ◌<◌, List, [], ◌∷◌, ◌++◌, length, map, take, get_or, Option, Some, None, refl, ap, ◌∙◌, arith}
use Rattle.std.specs.Prelude.{option_map}
use Rattle.std.proofs.lemmas.List.{take_more, map_push, length-map, get_or-map}
use Rattle.sh_turns.specs.Program.{all_there}

-- a list that is all there, with one more part
there_push : {Y : Type 0} (os : List (Option Y)) (ys : List Y) (y : Y) → all_there os ≡ Some ys → all_there (os ++ Some y ∷ []) ≡ Some (ys ++ y ∷ [])
there_push [] ys y h = let e : [] ≡ ys = cc in rw (← e) refl
there_push (None ∷ os) ys y h = cc
there_push {Y = Y} (Some x ∷ os) ys y h = go (all_there os) (λ zs e. there_push os zs y e) h
  where
    go : (o : Option (List Y)) → ((zs : List Y) → o ≡ Some zs → all_there (os ++ Some y ∷ []) ≡ Some (zs ++ y ∷ [])) → option_map (λ zs. x ∷ zs) o ≡ Some ys → option_map (λ zs. x ∷ zs) (all_there (os ++ Some y ∷ [])) ≡ Some (ys ++ y ∷ [])
    go None rest h = cc
    go (Some zs) rest h = let e : x ∷ zs ≡ ys = cc in rw (rest zs refl, ← e) refl

none_there : {Y : Type 0} (os : List (Option Y)) (i : ℕ) (d : Option Y) → i < length os → get_or os i d ≡ None → all_there os ≡ None
none_there [] i d lt h = absurd (omega arith)
none_there (None ∷ os) i d lt h = refl
none_there (Some x ∷ os) zero d lt h = cc
none_there (Some x ∷ os) (suc i) d lt h = ap (option_map (λ ys. x ∷ ys)) (none_there os i d (omega arith) h)

module _ {X Y : Type 0} (f : X → Option Y) (xs : List X) (i : ℕ) (d : X) (lt : i < length xs) where
  pub gather_more : (ys : List Y) (y : Y) → all_there (map f (take i xs)) ≡ Some ys → f (get_or xs i d) ≡ Some y → all_there (map f (take (i + 1) xs)) ≡ Some (ys ++ y ∷ [])
  gather_more ys y so_far here =
      rw (take_more xs i d lt, map_push f (take i xs) (get_or xs i d), here) (there_push (map f (take i xs)) ys y so_far)

  pub gather_none : f (get_or xs i d) ≡ None → all_there (map f xs) ≡ None
  gather_none here =
      none_there (map f xs) i None (omega (arith, length-map xs f)) (get_or-map f xs i d None lt ∙ here)
