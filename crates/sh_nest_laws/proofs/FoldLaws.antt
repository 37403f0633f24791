-- Folds from the neutral value: their order, and their parts.
use Rattle.std.proofs.Common.{◌≡◌, List, [], ◌∷◌, ◌++◌, map, fold, refl, ap, sym, ◌∙◌}
use Rattle.std.specs.Prelude.{flat_map}
use Rattle.std.specs.List.{AllByRecursion}
use Rattle.sh_int.specs.Reduction.{CombineLaws}
use Rattle.sh_nest_laws.specs.Folds.{FoldLaws}

module _ {A : Type 0} {Is : A → Type 0} {e : A} {op : A → A → A} (laws : CombineLaws Is e op) where
  fold_is : (a : A) (xs : List A) → Is a → AllByRecursion Is xs → Is (fold op a xs)
  fold_is a [] ia is = ia
  fold_is a (x ∷ xs) ia is = fold_is (op a x) xs (laws.closed a x ia is.0) is.1

  begun : (a : A) (xs : List A) → Is a → AllByRecursion Is xs → fold op a xs ≡ op a (fold op e xs)
  begun a [] ia is = sym (laws.commutative a e ia laws.neutral_is ∙ laws.left_neutral a ia)
  begun a (x ∷ xs) ia is =
      let rest = fold op e xs in
      let all : Is rest = fold_is e xs laws.neutral_is is.1 in
      begun (op a x) xs (laws.closed a x ia is.0) is.1
      ∙ laws.associative a x rest ia is.0 all
      ∙ ap (op a) (sym (ap (λ b. fold op b xs) (laws.left_neutral x is.0) ∙ begun x xs is.0 is.1))

  fold_more : (a : A) (xs ys : List A) → fold op a (xs ++ ys) ≡ fold op (fold op a xs) ys
  fold_more a [] ys = refl
  fold_more a (x ∷ xs) ys = fold_more (op a x) xs ys

  exchanged : (c a b : A) → Is c → Is a → Is b → op (op c a) b ≡ op (op c b) a
  exchanged c a b ic ia ib = laws.associative c a b ic ia ib ∙ ap (op c) (laws.commutative a b ia ib) ∙ sym (laws.associative c b a ic ib ia)

  ordered : (xs : List A) (a b : A) (ys : List A) → AllByRecursion Is xs → Is a → Is b → AllByRecursion Is ys → fold op e (xs ++ a ∷ b ∷ ys) ≡ fold op e (xs ++ b ∷ a ∷ ys)
  ordered xs a b ys is ia ib is' =
      fold_more e xs (a ∷ b ∷ ys)
      ∙ ap (λ c. fold op c ys) (exchanged (fold op e xs) a b (fold_is e xs laws.neutral_is is) ia ib)
      ∙ sym (fold_more e xs (b ∷ a ∷ ys))

  folds_are : (parts : List (List A)) → AllByRecursion (AllByRecursion Is) parts → AllByRecursion Is (map (fold op e) parts)
  folds_are [] is = tt
  folds_are (xs ∷ parts) is = (fold_is e xs laws.neutral_is is.0, folds_are parts is.1)

  are_more : (xs ys : List A) → AllByRecursion Is xs → AllByRecursion Is ys → AllByRecursion Is (xs ++ ys)
  are_more [] ys h k = k
  are_more (x ∷ xs) ys h k = (h.0, are_more xs ys h.1 k)

  all_parts : (parts : List (List A)) → AllByRecursion (AllByRecursion Is) parts → AllByRecursion Is (flat_map (λ part. part) parts)
  all_parts [] is = tt
  all_parts (xs ∷ parts) is = are_more xs (flat_map (λ part. part) parts) is.0 (all_parts parts is.1)

  divided : (parts : List (List A)) → AllByRecursion (AllByRecursion Is) parts → fold op e (flat_map (λ part. part) parts) ≡ fold op e (map (fold op e) parts)
  divided [] is = refl
  divided (xs ∷ parts) is =
      let whole = flat_map (λ part. part) parts in
      let first = fold op e xs in
      let ia : Is first = fold_is e xs laws.neutral_is is.0 in
      fold_more e xs whole
      ∙ begun first whole ia (all_parts parts is.1)
      ∙ ap (op first) (divided parts is.1)
      ∙ sym (begun first (map (fold op e) parts) ia (folds_are parts is.1))
      ∙ ap (λ b. fold op b (map (fold op e) parts)) (sym (laws.left_neutral first ia))

  pub fold_laws : FoldLaws Is e op
  fold_laws = record { begun = begun; ordered = ordered; divided = divided }
