-- Values put together by an operation whose grouping and order don't matter, some of which may be
-- missing.
use Rattle.std.specs.Prelude.{◌≡◌, List, [], ◌∷◌, ◌++◌, map, fold, flat_map, Option, Some, None}
use Rattle.std.specs.List.{AllByRecursion}

-- one by one from the first, with a neutral value where there is none
abbrev pub total : {A X : Type 0} → (A → A → A) → A → List X → (X → A) → A
total op e [] f = e
total op e (x ∷ xs) f = op (f x) (total op e xs f)

-- with a value that may be missing: there is none where either is missing
abbrev pub lifted : {A : Type 0} → (A → A → A) → Option A → Option A → Option A
lifted op None b = None
lifted op (Some x) None = None
lifted op (Some x) (Some y) = Some (op x y)

abbrev pub IfThere : {A : Type 0} → (A → Type 0) → Option A → Type 0
IfThere Is None = Unit {0}
IfThere Is (Some x) = Is x

-- What is known of folds by an operation on the values in Is
pub record FoldLaws {A : Type 0} (Is : A → Type 0) (e : A) (op : A → A → A) : Type 0 where
  -- begun with another value, a fold is that value with the fold begun with the neutral one
  pub begun : (a : A) (xs : List A) → Is a → AllByRecursion Is xs
      → fold op a xs ≡ op a (fold op e xs)
  -- the order doesn't matter: two neighbors change places
  pub ordered : (xs : List A) (a b : A) (ys : List A) → AllByRecursion Is xs → Is a → Is b
      → AllByRecursion Is ys → fold op e (xs ++ a ∷ b ∷ ys) ≡ fold op e (xs ++ b ∷ a ∷ ys)
  -- divided into parts, of which some may be empty, it is the fold of the folds of the parts
  pub divided : (parts : List (List A)) → AllByRecursion (AllByRecursion Is) parts
      → fold op e (flat_map (λ part. part) parts) ≡ fold op e (map (fold op e) parts)
