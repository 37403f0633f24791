-- What holds of all members of a list holds of each.
use Rattle.std.proofs.Common.{◌≡◌, ◌∙◌, ◌⊎◌, inl, inr, Bool, true, List, [], ◌∷◌, ◌++◌, map, Option, Some, None, refl, ap, sym, subst}
use Rattle.std.specs.Prelude.{flat_map, filter_map}
use Rattle.std.specs.List.{AllByRecursion, cons_option, list_all}
use Rattle.sh_print_laws.proofs.Tests.{all_parts, and_parts}

module _ {X : Type 0} where
  abbrev pub Member : X → List X → Type 0
  Member x [] = ⊥
  Member x (y ∷ ys) = (x ≡ y) ⊎ Member x ys

  pub of_all : (P : X → Type 0) (xs : List X) (x : X) → AllByRecursion P xs → Member x xs → P x
  of_all P [] x h m = absurd m
  of_all P (y ∷ ys) x h (inl e) = subst P (sym e) h.0
  of_all P (y ∷ ys) x h (inr m) = of_all P ys x h.1 m

  pub all_of : (P : X → Type 0) (xs : List X) → ((x : X) → Member x xs → P x) → AllByRecursion P xs
  all_of P [] f = tt
  all_of P (y ∷ ys) f = (f y (inl refl), all_of P ys (λ x m. f x (inr m)))

  pub of_test : (p : X → Bool) (xs : List X) (x : X) → list_all p xs ≡ true → Member x xs → p x ≡ true
  of_test p [] x h m = absurd m
  of_test p (y ∷ ys) x h (inl e) = subst (λ z. p z ≡ true) (sym e) (and_parts (p y) (list_all p ys) h).0
  of_test p (y ∷ ys) x h (inr m) = of_test p ys x (and_parts (p y) (list_all p ys) h).1 m

  pub in_first : (xs ys : List X) (x : X) → Member x xs → Member x (xs ++ ys)
  in_first [] ys x m = absurd m
  in_first (z ∷ xs) ys x (inl e) = inl e
  in_first (z ∷ xs) ys x (inr m) = inr (in_first xs ys x m)

  pub in_second : (xs ys : List X) (x : X) → Member x ys → Member x (xs ++ ys)
  in_second [] ys x m = m
  in_second (z ∷ xs) ys x m = inr (in_second xs ys x m)

  pub front_all : (P : X → Type 0) (xs ys : List X) → AllByRecursion P (xs ++ ys) → AllByRecursion P xs
  front_all P [] ys h = tt
  front_all P (x ∷ xs) ys h = (h.0, front_all P xs ys h.1)

  pub behind_all : (P : X → Type 0) (xs ys : List X) → AllByRecursion P (xs ++ ys) → AllByRecursion P ys
  behind_all P [] ys h = h
  behind_all P (x ∷ xs) ys h = behind_all P xs ys h.1

module _ {X Y : Type 0} where
  pub in_map : (f : X → Y) (xs : List X) (x : X) → Member x xs → Member (f x) (map f xs)
  in_map f [] x m = absurd m
  in_map f (y ∷ ys) x (inl e) = inl (ap f e)
  in_map f (y ∷ ys) x (inr m) = inr (in_map f ys x m)

  pub in_flat : (f : X → List Y) (xs : List X) (x : X) (y : Y) → Member x xs → Member y (f x) → Member y (flat_map f xs)
  in_flat f [] x y m n = absurd m
  in_flat f (z ∷ zs) x y (inl e) n = in_first (f z) (flat_map f zs) y (subst (λ w. Member y (f w)) e n)
  in_flat f (z ∷ zs) x y (inr m) n = in_second (f z) (flat_map f zs) y (in_flat f zs x y m n)

  pub in_chosen : (f : X → Option Y) (xs : List X) (x : X) (y : Y) → Member x xs → f x ≡ Some y → Member y (filter_map f xs)
  in_chosen f [] x y m e = absurd m
  in_chosen f (z ∷ zs) x y (inl same) e = subst (λ o. Member y (cons_option o (filter_map f zs))) (sym (ap f (sym same) ∙ e)) (inl refl)
  in_chosen f (z ∷ zs) x y (inr m) e = behind (f z) (in_chosen f zs x y m e)
    where
      behind : (o : Option Y) → Member y (filter_map f zs) → Member y (cons_option o (filter_map f zs))
      behind None n = n
      behind (Some w) n = inr n

  -- the tests of all parts
  pub of_parts : (p : Y → Bool) (f : X → List Y) (xs : List X) (x : X) → list_all p (flat_map f xs) ≡ true → Member x xs → list_all p (f x) ≡ true
  of_parts p f [] x h m = absurd m
  of_parts p f (y ∷ ys) x h (inl e) = subst (λ z. list_all p (f z) ≡ true) (sym e) (all_parts p (f y) (flat_map f ys) h).0
  of_parts p f (y ∷ ys) x h (inr m) = of_parts p f ys x (all_parts p (f y) (flat_map f ys) h).1 m

  pub of_each_part : (P : Y → Type 0) (f : X → List Y) (xs : List X) (x : X) → AllByRecursion P (flat_map f xs) → Member x xs → AllByRecursion P (f x)
  of_each_part P f [] x h m = absurd m
  of_each_part P f (y ∷ ys) x h (inl e) = subst (λ z. AllByRecursion P (f z)) (sym e) (front_all P (f y) (flat_map f ys) h)
  of_each_part P f (y ∷ ys) x h (inr m) = of_each_part P f ys x (behind_all P (f y) (flat_map f ys) h) m
