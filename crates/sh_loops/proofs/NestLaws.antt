-- The fold over all points gives at each index the fold over the points that go there.
use Rattle.std.proofs.Common.{◌≡◌, ◌≢◌, ℕ, ◌<◌, true, false, List, get_or, Option, Some, None, refl, ap, ap₂, sym, ◌∙◌, arith, inl, inr}
use Rattle.std.specs.Prelude.{◌==◌, nat_eq, option_map}
use Rattle.std.specs.Cmp.Lexicographic.{pointwise}
use Rattle.std.proofs.lemmas.Bool.{cases_Bool, cases_eq}
use Rattle.std.proofs.lemmas.Bool.Decides.{nat_tests}
use Rattle.std.proofs.lemmas.Slice.Eq.{bytes_eq-Decides}
use Rattle.sh_base.specs.Shape.{cell_count, IsIndexOf, flat_of, unflat_of}
use Rattle.sh_base.proofs.ShapeLaws.{flat_of-unflat_of, unflat_of-flat_of}
use Rattle.sh_base.specs.declared.numbers.Cell.{Cell}
use Rattle.sh_base.specs.declared.numbers.Cell.TheVariants.{Undef}
use Rattle.sh_base.specs.declared.numbers.Width.{Width}
use Rattle.sh_ir.specs.Loops.{Structure}
use Rattle.sh_tensor.specs.Tensor.{TensorValue, at}
use Rattle.sh_sem.specs.Given.{built_of}
use Rattle.sh_sem.specs.Nest.{Fixed, folded_cell, index_at, input_cells, visit}
use Rattle.sh_loops.specs.declared.nests.Nest as memory
use Rattle.sh_loops.specs.Cells.{cells_by}
use Rattle.sh_loops.specs.Folds.{visited}
use Rattle.sh_loops.specs.Nests.{CanFold, StandsFor, folded_by, next_by, place_at, visit_at}
use Rattle.sh_loops.proofs.CellLaws.{built_by, cells_by-same}
use Rattle.sh_loops.proofs.FoldLaws.{visited_is_fold}

test_same : (a b : ℕ) → a ≡ b → (a == b) ≡ true
test_same a b e = grind (arith, nat_tests)

test_other : (a b : ℕ) → a ≢ b → (a == b) ≡ false
test_other a b e = grind (arith, nat_tests)

-- an index is the one with number j exactly where its number is j
same_place : (shape i : List ℕ) (j : ℕ) → IsIndexOf shape i → j < cell_count shape → pointwise nat_eq i (unflat_of shape j) ≡ (flat_of shape i == j)
same_place shape i j inside below =
    elim (cases_eq (flat_of shape i) j) [
      | inl e ↦
          (bytes_eq-Decides i (unflat_of shape j)).1 (sym (unflat_of-flat_of shape i inside) ∙ ap (unflat_of shape) e)
          ∙ sym (test_same (flat_of shape i) j e)
      | inr other ↦
          elim (cases_Bool (pointwise nat_eq i (unflat_of shape j))) [
            | inl b ↦ absurd (other (ap (flat_of shape) ((bytes_eq-Decides i (unflat_of shape j)).0 b) ∙ flat_of-unflat_of shape j below))
            | inr b ↦ b ∙ sym (test_other (flat_of shape i) j other)
          ]
    ]

same_visit : (nest : memory.Nest) (w : Width) (s : Structure) (x : Fixed) (extents : List ℕ) (ins : List TensorValue) → StandsFor nest w s x
    → (k : ℕ) (a : Option Cell) → visit s x ins a (unflat_of extents k) ≡ visit_at nest extents w ins k a
unfolding visit_at
same_visit nest w s x extents ins stands k None = refl
same_visit nest w s x extents ins stands k (Some c) =
    sym (stands.step (unflat_of extents k) (input_cells s.inputs ins (unflat_of extents k)) c)
    ∙ ap (λ maps. next_by nest.step w (unflat_of extents k) (input_cells maps ins (unflat_of extents k)) c) (sym stands.inputs)

-- at the index with number j
pub one_folded : (nest : memory.Nest) (s : Structure) (x : Fixed) (extents : List ℕ) (ins : List TensorValue) (outs : TensorValue) (j : ℕ)
    → StandsFor nest outs.width s x → CanFold nest extents ins outs → j < cell_count outs.shape
    → folded_cell s x extents ins outs (unflat_of outs.shape j) ≡ folded_by nest extents ins outs (cell_count extents) j
unfolding folded_cell folded_by place_at at
one_folded nest s x extents ins outs j stands can below =
    let start : get_or outs.cells (flat_of outs.shape (unflat_of outs.shape j)) Undef ≡ get_or outs.cells j Undef =
    ap (λ n. get_or outs.cells n Undef) (flat_of-unflat_of outs.shape j below) in
    visited_is_fold (visit s x ins) (λ p. pointwise nat_eq (index_at s.output p) (unflat_of outs.shape j)) (unflat_of extents) (place_at nest extents outs.shape) j
    (Some (get_or outs.cells (flat_of outs.shape (unflat_of outs.shape j)) Undef)) (cell_count extents)
    (λ k l.
    ap (λ dims. pointwise nat_eq (index_at dims (unflat_of extents k)) (unflat_of outs.shape j)) (sym stands.output)
    ∙ same_place outs.shape (index_at nest.output (unflat_of extents k)) j (can.output k l) below)
    ∙ ap₂ (λ v c. visited v (place_at nest extents outs.shape) j (Some c) (cell_count extents)) (λ i k a. same_visit nest outs.width s x extents ins stands k a i) start

pub nest_made : (nest : memory.Nest) (s : Structure) (x : Fixed) (extents : List ℕ) (ins : List TensorValue) (outs : TensorValue) (count : ℕ) (shape : List ℕ) (w : Width) (cells : Option (List Cell))
    → StandsFor nest outs.width s x → CanFold nest extents ins outs → count ≡ cell_count extents → shape ≡ outs.shape → w ≡ outs.width
    → cells ≡ cells_by (folded_by nest extents ins outs count) (cell_count outs.shape)
    → option_map (λ cs. record { shape = shape; width = w; cells = cs }) cells ≡ built_of outs.shape outs.width (folded_cell s x extents ins outs)
nest_made nest s x extents ins outs count shape w cells stands can all is width e =
    ap₂ (λ z v. option_map (λ cs. record { shape = z; width = v; cells = cs }) cells) is width
    ∙ ap (option_map (λ cs. record { shape = outs.shape; width = outs.width; cells = cs }))
    (e ∙ ap (λ n. cells_by (folded_by nest extents ins outs n) (cell_count outs.shape)) all
    ∙ cells_by-same (folded_by nest extents ins outs (cell_count extents)) (λ j. folded_cell s x extents ins outs (unflat_of outs.shape j)) (cell_count outs.shape)
    (λ j l. sym (one_folded nest s x extents ins outs j stands can l)))
    ∙ sym (built_by outs.shape outs.width (folded_cell s x extents ins outs))
