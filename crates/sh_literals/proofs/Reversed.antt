-- Lists are equal where the lists of their elements from the last to the first are.
use Rattle.std.proofs.Common.{◌≡◌, ℕ, List, reverse, nat_eq, Bool, ap, sym, ◌∙◌, rules}
use Rattle.std.specs.Bool.{Decides}
use Rattle.std.specs.Cmp.Lexicographic.{pointwise}
use Rattle.std.proofs.lemmas.List.{reverse-reverse}
use Rattle.std.proofs.lemmas.Slice.Eq.{bytes_eq-Decides}

one_reversed : (xs ys : List ℕ) → reverse xs ≡ reverse ys → xs ≡ ys
one_reversed xs ys e = sym (reverse-reverse xs) ∙ ap reverse e ∙ reverse-reverse ys

decided : (xs ys : List ℕ) → Decides (pointwise nat_eq xs ys) (reverse xs ≡ reverse ys)
decided xs ys = (λ t. ap reverse ((bytes_eq-Decides xs ys).0 t), λ e. (bytes_eq-Decides xs ys).1 (one_reversed xs ys e))

tested : (xs ys : List ℕ) (r : Bool) → Decides r (xs ≡ ys) → r ≡ pointwise nat_eq xs ys
tested xs ys r h = search (rules, bytes_eq-Decides)

pub same_reversed : (xs ys : List ℕ) → pointwise nat_eq xs ys ≡ pointwise nat_eq (reverse xs) (reverse ys)
same_reversed xs ys = tested (reverse xs) (reverse ys) (pointwise nat_eq xs ys) (decided xs ys)
