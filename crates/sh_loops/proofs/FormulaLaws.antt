-- What a formula gives of cells that are read one by one.
use Rattle.std.proofs.Common.{◌≡◌, ℕ, ◌<◌, List, [], ◌∷◌, map, length, get_or, Option, Some, None, refl, ap, ap₂, sym, ◌∙◌, subst}
use Rattle.std.specs.Prelude.{IfSome, option_map}
use Rattle.std.specs.List.{All, AllByRecursion}
use Rattle.std.proofs.lemmas.List.{get_or_default}
use Rattle.sh_base.specs.declared.numbers.Cell.{Cell}
use Rattle.sh_base.specs.declared.numbers.Cell.TheVariants.{Undef}
use Rattle.sh_base.specs.declared.numbers.Width.{Width}
use Rattle.sh_base.specs.Cells.{IsCellOf}
use Rattle.sh_base.specs.Shape.{cell_count, flat_of, unflat_of}
use Rattle.sh_base.proofs.ShapeLaws.{flat_of-unflat_of, unflat_of-within}
use Rattle.sh_tensor.specs.Tensor.{TensorValue, IsTensor, at}
use Rattle.sh_sem.specs.Given.{gives_cells}
use Rattle.sh_sem.specs.Scalars.{Formula, formula_cell}
use Rattle.sh_loops.specs.declared.formulas.Formula as declared
use Rattle.sh_loops.specs.Cells.{cells_by}
use Rattle.sh_loops.specs.Formulas.{formula_of, formula_at, formula_value, result_width}
use Rattle.sh_loops.proofs.CellLaws.{built_by, cells_by-same, length-cells_by}

pub of_one_at : (f : Formula) (xs : List Cell) (k : ℕ) (d : Cell) → k < length xs
    → formula_cell f (get_or xs k d ∷ []) ≡ formula_at f (xs ∷ []) k
unfolding formula_at
of_one_at f xs k d l = ap (λ a. formula_cell f (a ∷ [])) (get_or_default xs k d Undef l)

pub of_two_at : (f : Formula) (xs ys : List Cell) (k : ℕ) (d e : Cell) → k < length xs → length ys ≡ length xs
    → formula_cell f (get_or xs k d ∷ get_or ys k e ∷ []) ≡ formula_at f (xs ∷ ys ∷ []) k
unfolding formula_at
of_two_at f xs ys k d e l long =
    ap (λ a. formula_cell f (a ∷ get_or ys k e ∷ [])) (get_or_default xs k d Undef l)
    ∙ ap (λ b. formula_cell f (get_or xs k Undef ∷ b ∷ [])) (get_or_default ys k e Undef (rw long l))

pub of_three_at : (f : Formula) (cs xs ys : List Cell) (k : ℕ) (b d e : Cell) → k < length xs → length cs ≡ length xs → length ys ≡ length xs
    → formula_cell f (get_or cs k b ∷ get_or xs k d ∷ get_or ys k e ∷ []) ≡ formula_at f (cs ∷ xs ∷ ys ∷ []) k
unfolding formula_at
of_three_at f cs xs ys k b d e l counted long =
    ap (λ c. formula_cell f (c ∷ get_or xs k d ∷ get_or ys k e ∷ [])) (get_or_default cs k b Undef (rw counted l))
    ∙ ap (λ a. formula_cell f (get_or cs k Undef ∷ a ∷ get_or ys k e ∷ [])) (get_or_default xs k d Undef l)
    ∙ ap (λ z. formula_cell f (get_or cs k Undef ∷ get_or xs k Undef ∷ z ∷ [])) (get_or_default ys k e Undef (rw long l))

-- ---- whole tensors

-- each tensor has this shape
abbrev pub HaveShape : List ℕ → List TensorValue → Type 0
HaveShape shape ts = AllByRecursion (λ t. t.shape ≡ shape) ts

read_all : (shape : List ℕ) (ts : List TensorValue) (k : ℕ) → HaveShape shape ts → k < cell_count shape
    → map (λ t. at t (unflat_of shape k)) ts ≡ map (λ cells. get_or cells k Undef) (map (λ t. t.cells) ts)
unfolding at
read_all shape [] k h l = refl
read_all shape (t ∷ ts) k h l =
    let here : flat_of t.shape (unflat_of shape k) ≡ k = ap (λ s. flat_of s (unflat_of shape k)) h.0 ∙ flat_of-unflat_of shape k l in
    ap₂ (λ x xs. x ∷ xs) (ap (λ n. get_or t.cells n Undef) here) (read_all shape ts k h.1 l)

pub cells_made : (f : declared.Formula) (shape : List ℕ) (ts : List TensorValue) (n : ℕ) (w : Width) (made_shape : List ℕ) (cells : Option (List Cell))
    → HaveShape shape ts → n ≡ cell_count shape → w ≡ result_width f → made_shape ≡ shape
    → cells ≡ cells_by (formula_at (formula_of f) (map (λ t. t.cells) ts)) n
    → option_map (λ cs. record { shape = made_shape; width = w; cells = cs }) cells ≡ formula_value f shape ts
unfolding formula_value formula_at gives_cells
cells_made f shape ts n w made_shape cells h counted width is e =
    let value : cells ≡ cells_by (λ k. formula_cell (formula_of f) (map (λ t. at t (unflat_of shape k)) ts)) (cell_count shape) =
    e ∙ ap (cells_by (formula_at (formula_of f) (map (λ t. t.cells) ts))) counted
    ∙ cells_by-same (formula_at (formula_of f) (map (λ t. t.cells) ts)) (λ k. formula_cell (formula_of f) (map (λ t. at t (unflat_of shape k)) ts)) (cell_count shape)
    (λ k l. ap (formula_cell (formula_of f)) (sym (read_all shape ts k h l))) in
    ap₂ (λ s v. option_map (λ cs. record { shape = s; width = v; cells = cs }) cells) is width
    ∙ ap (option_map (λ cs. record { shape = shape; width = result_width f; cells = cs })) value
    ∙ sym (built_by shape (result_width f) (λ i. formula_cell (formula_of f) (map (λ t. at t i) ts)))

-- the cells that are there are as many as were asked for
pub counted_by : (f : ℕ → Option Cell) (n m : ℕ) (cells : Option (List Cell)) → cells ≡ cells_by f n → n ≡ m → IfSome cells (λ cs. length cs ≡ m)
counted_by f n m None e same = tt
counted_by f n m (Some cs) e same = length-cells_by f n cs (sym e) ∙ same
