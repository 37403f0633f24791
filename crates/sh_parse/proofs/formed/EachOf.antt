-- What holds of each of some values.
use Rattle.std.proofs.Common.{Bool, List, [], ◌∷◌, ◌++◌, map, Option, Some, None, refl}
use Rattle.std.proofs.lemmas.Bool.{and_from}
use Rattle.std.specs.Prelude.{flat_map, filter_map, IsTrue}
use Rattle.std.specs.List.{AllByRecursion, list_all}
use Rattle.sh_literals.specs.Fronts.{before}

pub each_append : {X : Type 0} (P : X → Type 0) (xs ys : List X) → AllByRecursion P xs → AllByRecursion P ys
    → AllByRecursion P (xs ++ ys)
each_append P [] ys a b = b
each_append P (x ∷ xs) ys a b = (a.0, each_append P xs ys a.1 b)

pub each_front : {X : Type 0} (P : X → Type 0) (xs ys : List X) → AllByRecursion P (xs ++ ys) → AllByRecursion P xs
each_front P [] ys h = tt
each_front P (x ∷ xs) ys h = (h.0, each_front P xs ys h.1)

pub each_behind : {X : Type 0} (P : X → Type 0) (xs ys : List X) → AllByRecursion P (xs ++ ys) → AllByRecursion P ys
each_behind P [] ys h = h
each_behind P (x ∷ xs) ys h = each_behind P xs ys h.1

pub each_map : {X Y : Type 0} (P : Y → Type 0) (f : X → Y) (xs : List X) → AllByRecursion (λ x. P (f x)) xs
    → AllByRecursion P (map f xs)
each_map P f [] a = tt
each_map P f (x ∷ xs) a = (a.0, each_map P f xs a.1)

pub each_flat_map : {X Y : Type 0} (P : Y → Type 0) (f : X → List Y) (xs : List X)
    → AllByRecursion (λ x. AllByRecursion P (f x)) xs → AllByRecursion P (flat_map f xs)
each_flat_map P f [] a = tt
each_flat_map P f (x ∷ xs) a = each_append P (f x) (flat_map f xs) a.0 (each_flat_map P f xs a.1)

pub each_so : {X : Type 0} (P Q : X → Type 0) (xs : List X) → ((x : X) → P x → Q x) → AllByRecursion P xs
    → AllByRecursion Q xs
each_so P Q [] so a = tt
each_so P Q (x ∷ xs) so a = (so x a.0, each_so P Q xs so a.1)

-- of the value, where there is one
abbrev pub InOption : {X : Type 0} → (X → Type 0) → Option X → Type 0
InOption P None = Unit {0}
InOption P (Some x) = P x

pub each_before : {X : Type 0} (P : X → Type 0) (o : Option X) (xs : List X) → InOption P o → AllByRecursion P xs
    → AllByRecursion P (before o xs)
each_before P None xs a b = b
each_before P (Some x) xs a b = (a, b)

pub each_filter_map : {X Y : Type 0} (P : Y → Type 0) (f : X → Option Y) (xs : List X)
    → AllByRecursion (λ x. InOption P (f x)) xs → AllByRecursion P (filter_map f xs)
each_filter_map P f [] a = tt
each_filter_map P f (x ∷ xs) a = with_option P (f x) (filter_map f xs) a.0 (each_filter_map P f xs a.1)
  where
    with_option : {Y : Type 0} (P : Y → Type 0) (o : Option Y) (ys : List Y) → InOption P o → AllByRecursion P ys
        → AllByRecursion P (before o ys)
    with_option P o ys a b = each_before P o ys a b

pub tests_all : {X : Type 0} (p : X → Bool) (xs : List X) → AllByRecursion (λ x. IsTrue (p x)) xs → IsTrue (list_all p xs)
tests_all p [] a = refl
tests_all p (x ∷ xs) a = and_from (p x) (list_all p xs) a.0 (tests_all p xs a.1)
