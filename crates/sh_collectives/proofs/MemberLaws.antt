-- What holds of all parts of a list holds of each.
use Rattle.std.proofs.Common.{◌≡◌, ℕ, zero, suc, Bool, true, List, [], ◌∷◌, ◌++◌, map, Option, Some, None, refl, arith, subst}
use Rattle.std.specs.Prelude.{IfSome, IsSomeAnd, MatchOption, ⊤, flat_map, filter_map, option_map, slice_get}
use Rattle.std.proofs.lemmas.Option.{none-some, same_Some}
use Rattle.std.specs.List.{All, AllByRecursion, cons_option, list_all}
use Rattle.sh_turns.specs.Program.{all_there}
use Rattle.sh_sharding.proofs.Cases.{and_left, and_right}

pub of_test : {X : Type 0} (p : X → Bool) (xs : List X) → list_all p xs ≡ true → AllByRecursion (λ x. p x ≡ true) xs
of_test p [] h = tt
of_test p (x ∷ xs) h = (and_left (p x) (list_all p xs) h, of_test p xs (and_right (p x) (list_all p xs) h))

pub to_test : {X : Type 0} (p : X → Bool) (xs : List X) → AllByRecursion (λ x. p x ≡ true) xs → list_all p xs ≡ true
to_test p [] h = refl
to_test p (x ∷ xs) h = let here = h.0 in let rest = to_test p xs h.1 in rw (here, rest) refl

module _ {X : Type 0} (P : X → Type 0) where
  pub of_front : (xs ys : List X) → AllByRecursion P (xs ++ ys) → AllByRecursion P xs
  of_front [] ys h = tt
  of_front (x ∷ xs) ys h = (h.0, of_front xs ys h.1)

  pub of_back : (xs ys : List X) → AllByRecursion P (xs ++ ys) → AllByRecursion P ys
  of_back [] ys h = h
  of_back (x ∷ xs) ys h = of_back xs ys h.1

  pub at_place : (xs : List X) (k : ℕ) (x : X) → AllByRecursion P xs → slice_get xs k ≡ Some x → P x
  at_place [] k x h e = absurd (none-some x e)
  at_place (y ∷ xs) zero x h e = subst P (same_Some y x e) h.0
  at_place (y ∷ xs) (suc k) x h e = at_place xs k x h.1 e

  pub each_list : {Y : Type 0} (f : Y → List X) (ys : List Y) → AllByRecursion P (flat_map f ys)
      → AllByRecursion (λ y. AllByRecursion P (f y)) ys
  each_list f [] h = tt
  each_list f (y ∷ ys) h = (of_front (f y) (flat_map f ys) h, each_list f ys (of_back (f y) (flat_map f ys) h))

  pub each_mapped : {Y : Type 0} (f : Y → X) (ys : List Y) → AllByRecursion P (map f ys) → AllByRecursion (λ y. P (f y)) ys
  each_mapped f [] h = tt
  each_mapped f (y ∷ ys) h = (h.0, each_mapped f ys h.1)

  pub each_chosen : {Y : Type 0} (f : Y → Option X) (ys : List Y) → AllByRecursion P (filter_map f ys)
      → AllByRecursion (λ y. MatchOption (f y) ⊤ P) ys
  each_chosen f [] h = tt
  each_chosen f (y ∷ ys) h = go (f y) (each_chosen f ys) h
    where
      go : (o : Option X) → (AllByRecursion P (filter_map f ys) → AllByRecursion (λ z. MatchOption (f z) ⊤ P) ys)
          → AllByRecursion P (cons_option o (filter_map f ys))
          → MatchOption o ⊤ P × AllByRecursion (λ z. MatchOption (f z) ⊤ P) ys
      go None rest h = (tt, rest h)
      go (Some x) rest h = (h.0, rest h.1)

pub all_both : {X : Type 0} (P Q R : X → Type 0) (xs : List X) → ((x : X) → P x → Q x → R x) → AllByRecursion P xs → AllByRecursion Q xs
    → AllByRecursion R xs
all_both P Q R [] both h k = tt
all_both P Q R (x ∷ xs) both h k = (both x h.0 k.0, all_both P Q R xs both h.1 k.1)

-- what is so of each part that may be there is so of all, where they are there
pub all_pass : {X Y : Type 0} (P : Y → Type 0) (g : X → Option Y) → ((x : X) → IfSome (g x) P) → (xs : List X) (ys : List Y)
    → all_there (map g xs) ≡ Some ys → AllByRecursion P ys
all_pass P g each [] ys e = subst (AllByRecursion P) (same_Some [] ys e) tt
all_pass P g each (x ∷ xs) ys e = first (g x) (each x) (λ zs is. all_pass P g each xs zs is) e
  where
    second : (y : _) → P y → (r : Option (List _)) → all_there (map g xs) ≡ r
        → ((zs : List _) → all_there (map g xs) ≡ Some zs → AllByRecursion P zs)
        → option_map (λ zs. y ∷ zs) r ≡ Some ys → AllByRecursion P ys
    second y h None is rest f = absurd (none-some ys f)
    second y h (Some zs) is rest f = subst (AllByRecursion P) (same_Some (y ∷ zs) ys f) (h, rest zs is)

    first : (o : Option _) → IfSome o P → ((zs : List _) → all_there (map g xs) ≡ Some zs → AllByRecursion P zs)
        → all_there (o ∷ map g xs) ≡ Some ys → AllByRecursion P ys
    first None h rest f = absurd (none-some ys f)
    first (Some y) h rest f = second y h (all_there (map g xs)) refl rest f

-- parts that are there are there together
pub all_found : {X Y : Type 0} (P : Y → Type 0) (g : X → Option Y) (xs : List X) → AllByRecursion (λ x. IsSomeAnd (g x) P) xs
    → IsSomeAnd (all_there (map g xs)) (AllByRecursion P)
all_found P g [] h = tt
all_found P g (x ∷ xs) h = first (g x) h.0 (all_found P g xs h.1)
  where
    second : (y : _) → P y → (r : Option (List _)) → IsSomeAnd r (AllByRecursion P) → IsSomeAnd (option_map (λ zs. y ∷ zs) r) (AllByRecursion P)
    second y h None rest = absurd rest
    second y h (Some zs) rest = (h, rest)

    first : (o : Option _) → IsSomeAnd o P → IsSomeAnd (all_there (map g xs)) (AllByRecursion P)
        → IsSomeAnd (all_there (o ∷ map g xs)) (AllByRecursion P)
    first None h rest = absurd h
    first (Some y) h rest = second y h (all_there (map g xs)) rest

pub all_by : {X : Type 0} (P : X → Type 0) (xs : List X) → AllByRecursion P xs → All P xs
all_by P [] h = λ k d l. absurd (omega (arith, l))
all_by P (x ∷ xs) h = go (all_by P xs h.1)
  where
    go : All P xs → All P (x ∷ xs)
    go rest zero d l = h.0
    go rest (suc k) d l = rest k d (omega (arith, l))
