-- Element operations: operands of one shape have the value that a formula gives, and others none.
use Rattle.std.proofs.Common.{◌≡◌, ℕ, suc, Bool, true, false, List, [], ◌∷◌, map, length, get_or, Some, None, refl, ap, ap₂, sym, ◌∙◌, arith}
use Rattle.std.specs.Prelude.{◌&&◌, nat_eq, option_and_then, if◌then◌else◌}
use Rattle.std.specs.Cmp.Lexicographic.{pointwise}
use Rattle.std.proofs.lemmas.Slice.Eq.{bytes_eq-Decides}
use Rattle.sh_base.specs.declared.numbers.Width.{Width}
use Rattle.sh_tensor.specs.Tensor.{TensorValue}
use Rattle.sh_loops.specs.declared.formulas.Formula as declared
use Rattle.sh_loops.specs.Formulas.{formula_of, formula_value, result_width}
use Rattle.sh_loops.specs.Structured.{value_by, widths_of}
use Rattle.sh_sem.specs.Given.{built_of, gives_cells}

-- ---- shapes

pub alike : (s other : List ℕ) (b : Bool) → b ≡ pointwise nat_eq s other → b ≡ true → s ≡ other
alike s other b e is = (bytes_eq-Decides s other).0 (sym e ∙ is)

same_shape : (s : List ℕ) → pointwise nat_eq s s ≡ true
same_shape s = (bytes_eq-Decides s s).1 refl

-- ---- so many operands

module _ {B : Type 0} (f : B → TensorValue) where
  pub widths_long : (xs : List B) → length (widths_of (map f xs)) ≡ length xs
  widths_long [] = refl
  widths_long (x ∷ xs) = ap suc (widths_long xs)

  pub first_width : (xs : List B) (t : B) (w : Width) (ws : List Width) → widths_of (map f xs) ≡ w ∷ ws → t ≡ get_or xs 0 t → (f t).width ≡ w
  first_width [] t w ws e is = absurd (cc)
  first_width (x ∷ xs) t w ws e is = ap (λ y. (f y).width) is ∙ ap (λ (vs : List Width). get_or vs 0 w) e

  pub second_width : (xs : List B) (t : B) (v w : Width) (ws : List Width) → widths_of (map f xs) ≡ v ∷ w ∷ ws → t ≡ get_or xs 1 t → (f t).width ≡ w
  second_width [] t v w ws e is = absurd (cc)
  second_width (x ∷ []) t v w ws e is = absurd (cc)
  second_width (x ∷ y ∷ xs) t v w ws e is = ap (λ y. (f y).width) is ∙ ap (λ (vs : List Width). get_or vs 1 w) e

  pub third_width : (xs : List B) (t : B) (u v w : Width) (ws : List Width) → widths_of (map f xs) ≡ u ∷ v ∷ w ∷ ws → t ≡ get_or xs 2 t → (f t).width ≡ w
  third_width [] t u v w ws e is = absurd (cc)
  third_width (x ∷ []) t u v w ws e is = absurd (cc)
  third_width (x ∷ y ∷ []) t u v w ws e is = absurd (cc)
  third_width (x ∷ y ∷ z ∷ xs) t u v w ws e is = ap (λ y. (f y).width) is ∙ ap (λ (vs : List Width). get_or vs 2 w) e

  pub long_of : (xs : List B) (ws : List Width) → widths_of (map f xs) ≡ ws → length xs ≡ length ws
  long_of xs ws e = sym (widths_long xs) ∙ ap length e

  pub three_values : (xs : List B) (t u v : B) → length xs ≡ 3 → t ≡ get_or xs 0 t → u ≡ get_or xs 1 u → v ≡ get_or xs 2 v → map f xs ≡ f t ∷ f u ∷ f v ∷ []
  three_values [] t u v l e g h = absurd (omega (arith, l))
  three_values (x ∷ []) t u v l e g h = absurd (omega (arith, l))
  three_values (x ∷ y ∷ []) t u v l e g h = absurd (omega (arith, l))
  three_values (x ∷ y ∷ z ∷ []) t u v l e g h = ap₂ (λ a bs. f a ∷ bs) (sym e) (ap₂ (λ b c. f b ∷ f c ∷ []) (sym g) (sym h))
  three_values (x ∷ y ∷ z ∷ w ∷ xs) t u v l e g h = absurd (omega (arith, l))

-- ---- values

pub one_value_is : (formula : declared.Formula) (a : TensorValue) (ts : List TensorValue) → ts ≡ a ∷ []
    → formula_value formula a.shape (a ∷ []) ≡ value_by (gives_cells (formula_of formula)) (result_width formula) ts
unfolding formula_value gives_cells
one_value_is formula a ts alone = ap (value_by (gives_cells (formula_of formula)) (result_width formula)) (sym alone)

pub two_values_are : (formula : declared.Formula) (a b : TensorValue) (ts : List TensorValue) (same : Bool) → ts ≡ a ∷ b ∷ [] → same ≡ pointwise nat_eq a.shape b.shape
    → (if same then formula_value formula a.shape (a ∷ b ∷ []) else None) ≡ value_by (gives_cells (formula_of formula)) (result_width formula) ts
unfolding formula_value gives_cells
two_values_are formula a b ts same both e =
    go same
    ∙ ap (λ t. option_and_then (λ shape. built_of shape (result_width formula) ((gives_cells (formula_of formula)).cell (a ∷ b ∷ []) shape)) (if t && true then Some a.shape else None)) e
    ∙ ap (value_by (gives_cells (formula_of formula)) (result_width formula)) (sym both)
  where
    go : (t : Bool) → (if t then built_of a.shape (result_width formula) ((gives_cells (formula_of formula)).cell (a ∷ b ∷ []) a.shape) else None)
        ≡ option_and_then (λ shape. built_of shape (result_width formula) ((gives_cells (formula_of formula)).cell (a ∷ b ∷ []) shape)) (if t && true then Some a.shape else None)
    go true = refl
    go false = refl

-- the first is the condition's
pub three_values_are : (formula : declared.Formula) (c a b : TensorValue) (ts : List TensorValue) (first second : Bool) → ts ≡ c ∷ a ∷ b ∷ [] → first ≡ pointwise nat_eq c.shape a.shape
    → second ≡ pointwise nat_eq c.shape b.shape
    → (if first && second then formula_value formula a.shape (c ∷ a ∷ b ∷ []) else None) ≡ value_by (gives_cells (formula_of formula)) (result_width formula) ts
unfolding formula_value gives_cells
three_values_are formula c a b ts first second all e g =
    go first second (λ is. (bytes_eq-Decides c.shape a.shape).0 (sym e ∙ is))
    ∙ ap₂ (λ t u. option_and_then (λ shape. built_of shape (result_width formula) ((gives_cells (formula_of formula)).cell (c ∷ a ∷ b ∷ []) shape)) (if t && (u && true) then Some c.shape else None)) e g
    ∙ ap (value_by (gives_cells (formula_of formula)) (result_width formula)) (sym all)
  where
    go : (t u : Bool) → (t ≡ true → c.shape ≡ a.shape)
        → (if t && u then built_of a.shape (result_width formula) ((gives_cells (formula_of formula)).cell (c ∷ a ∷ b ∷ []) a.shape) else None)
        ≡ option_and_then (λ shape. built_of shape (result_width formula) ((gives_cells (formula_of formula)).cell (c ∷ a ∷ b ∷ []) shape)) (if t && (u && true) then Some c.shape else None)
    go true true h = ap (λ s. built_of s (result_width formula) ((gives_cells (formula_of formula)).cell (c ∷ a ∷ b ∷ []) s)) (sym (h refl))
    go true false h = refl
    go false u h = refl
