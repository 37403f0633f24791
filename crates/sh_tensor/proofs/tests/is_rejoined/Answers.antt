use Rattle.std.proofs.Common.{◌≡◌, ◌<◌, ◌≤◌, ◌+◌, ◌-◌, ℕ, List, get_or, length, set, ap, ap₂, ◌∙◌, sym, subst, arith}
use Rattle.std.proofs.lemmas.List.{set-set, set-get_or, get_or-set_same, length-set}
use Rattle.sh_base.specs.Shape.{cell_count, max_cells}
use Rattle.sh_tensor.specs.Tensor.{TensorValue, IsLike, extent, slice_of}
use Rattle.sh_tensor.proofs.tests.is_rejoined.Goals as goal

-- the two slices of a tensor can be joined, to its own shape
record AreHalves (s : List ℕ) (a : ℕ) (left right : TensorValue) : Type 0 where
  axis : a < length left.shape
  alike : IsLike a left right
  total : extent left a + (extent right a + 0) ≡ get_or s a 0
  whole : set left.shape a (get_or s a 0) ≡ s

halves : (s : List ℕ) (whole left right : TensorValue) (a at : ℕ) → whole.shape ≡ s → left ≡ slice_of whole a 0 at → right ≡ slice_of whole a at (get_or s a 0 - at) → a < length s → at ≤ get_or s a 0 → AreHalves s a left right
halves s whole left right a at e l r ranked within =
    let rest : ℕ = get_or s a 0 - at in
    let left_shape : left.shape ≡ set s a at = ap (λ (t : TensorValue). t.shape) l ∙ ap (λ z. set z a at) e in
    let right_shape : right.shape ≡ set s a rest = ap (λ (t : TensorValue). t.shape) r ∙ ap (λ z. set z a rest) e in
    let left_extent : extent left a ≡ at = ap (λ z. get_or z a 0) left_shape ∙ get_or-set_same s a at 0 ranked in
    let right_extent : extent right a ≡ rest = ap (λ z. get_or z a 0) right_shape ∙ get_or-set_same s a rest 0 ranked in
    record {
      axis = rw (left_shape, length-set s a at) ranked;
      alike = record {
        ranked = rw (right_shape, length-set s a rest) ranked;
        width = ap (λ (t : TensorValue). t.width) r ∙ sym (ap (λ (t : TensorValue). t.width) l);
        others = ap (λ z. set z a 0) right_shape ∙ set-set s a rest 0 ∙ sym (ap (λ z. set z a 0) left_shape ∙ set-set s a at 0);
      };
      total = ap₂ (λ x y. x + (y + 0)) left_extent right_extent ∙ omega arith;
      whole = ap (λ z. set z a (get_or s a 0)) left_shape ∙ set-set s a at (get_or s a 0) ∙ set-get_or s a 0;
    }

pub pair-requires-clause-axis : goal.pair-requires-clause-axis
pair-requires-clause-axis c =
    (halves c.args.extents.now c.in_ok-whole.whole c.in_ok-left.left c.in_ok-right.right c.args.axis c.args.at c.in_ok-whole.ensures.shape c.in_ok-left.ensures c.in_ok-right.ensures c.requires.axis c.requires.within).axis

pub pair-requires-clause-alike : goal.pair-requires-clause-alike
pair-requires-clause-alike c =
    (halves c.args.extents.now c.in_ok-whole.whole c.in_ok-left.left c.in_ok-right.right c.args.axis c.args.at c.in_ok-whole.ensures.shape c.in_ok-left.ensures c.in_ok-right.ensures c.requires.axis c.requires.within).alike

pub pair-requires-clause-extent : goal.pair-requires-clause-extent
pair-requires-clause-extent c =
    let parts = halves c.args.extents.now c.in_ok-whole.whole c.in_ok-left.left c.in_ok-right.right c.args.axis c.args.at c.in_ok-whole.ensures.shape c.in_ok-left.ensures c.in_ok-right.ensures c.requires.axis c.requires.within in
    omega (arith, parts.total, c.type_inv.extents c.args.axis)

pub pair-requires-clause-small : goal.pair-requires-clause-small
pair-requires-clause-small c =
    let parts = halves c.args.extents.now c.in_ok-whole.whole c.in_ok-left.left c.in_ok-right.right c.args.axis c.args.at c.in_ok-whole.ensures.shape c.in_ok-left.ensures c.in_ok-right.ensures c.requires.axis c.requires.within in
    subst (λ s. cell_count s ≤ max_cells) (sym (ap (set c.in_ok-left.left.shape c.args.axis) parts.total ∙ parts.whole)) c.requires.small
