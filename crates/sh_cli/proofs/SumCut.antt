-- What an addition of vectors gives, and that the cut of the sum is the sum of the cuts.
use Rattle.std.proofs.Common.{◌≡◌, ℕ, zero, suc, ◌+◌, ◌<◌, true, false, List, [], ◌∷◌, Some, refl, ap, ap₂, sym, ◌∙◌, arith}
use Rattle.std.proofs.lemmas.Bool.Decides.{nat_tests}
use Rattle.std.specs.List.{list_any, range_with_len}
use Rattle.std.specs.Prelude.{nat_eq, option_and_then, unwrap_or}
use Rattle.sh_base.specs.declared.numbers.Cell.{Cell}
use Rattle.sh_base.specs.declared.numbers.Cell.TheVariants.{Undef}
use Rattle.sh_base.specs.declared.numbers.Width.TheVariants.{I32}
use Rattle.sh_base.specs.declared.operations.BinOp.TheVariants.{Addi}
use Rattle.sh_base.specs.declared.places.Place.{Place}
use Rattle.sh_base.specs.Shape.{cell_count}
use Rattle.sh_int.specs.Elements.{element_of}
use Rattle.sh_ir.specs.declared.operations.Op.{Op}
use Rattle.sh_ir.specs.declared.operations.OpKind.TheVariants.{Binary}
use Rattle.sh_ir.specs.Typing.{typing_of}
use Rattle.sh_tensor.specs.Tensor.{TensorValue, at, build}
use Rattle.sh_sharding.specs.Cut.{cut_of}
use Rattle.sh_sharding.specs.Sharding.{ShardingValue, IsSharding, HasNoHalos, local_shape, whole_of}
use Rattle.sh_sharding.proofs.CutLaws.{cut_of-zip}
use Rattle.sh_sem.specs.Given.{Seat, given, shape_given, cell_given, giving, gives_cells, built_of}
use Rattle.sh_sem.specs.Scalars.{formula_cell}
use Rattle.sh_cli.specs.Modules.{defining, vector}

-- the cell of a sum
abbrev pub added : Cell → Cell → Cell
added a b = unwrap_or (element_of Addi I32 a b) Undef

-- the sum of two tensors in a shape
abbrev pub total : List ℕ → TensorValue → TensorValue → TensorValue
total shape x y = build shape I32 (λ i. added (at x i) (at y i))

-- `arith.addi` on vectors of an extent
abbrev pub addition : ℕ → ℕ → ℕ → ℕ → Place → Op
addition name first second extent place = defining name (Binary Addi) (first ∷ second ∷ []) (vector extent) place

none_fail : (a n : ℕ) → list_any (λ k. false) (range_with_len a n) ≡ false
none_fail a zero = refl
none_fail a (suc n) = none_fail (a + 1) n

-- it has the shape of its type
shape_added : (name first second extent : ℕ) (place : Place) (seat : Seat)
    → shape_given (addition name first second extent place) seat ((extent ∷ []) ∷ (extent ∷ []) ∷ []) ≡ Some (extent ∷ [])
unfolding shape_given giving gives_cells typing_of
shape_added name first second extent place seat =
    let same : nat_eq extent extent ≡ true = grind (arith, nat_tests) in
    rw same (rw same refl)

-- and the sum of the cells at each index, for an addition is never stuck
built_sum : (shape : List ℕ) (x y : TensorValue) → built_of shape I32 (λ i. element_of Addi I32 (at x i) (at y i)) ≡ Some (total shape x y)
unfolding built_of element_of
built_sum shape x y = rw (none_fail 0 (cell_count shape)) refl

cells_added : (name first second extent : ℕ) (place : Place) (seat : Seat) (x y : TensorValue) (shape : List ℕ)
    → built_of shape I32 (cell_given (addition name first second extent place) seat (x ∷ y ∷ []) shape) ≡ Some (total shape x y)
unfolding cell_given giving gives_cells formula_cell
cells_added name first second extent place seat x y shape = built_sum shape x y

pub given_sum : (name first second extent : ℕ) (place : Place) (seat : Seat) (x y : TensorValue) → x.shape ≡ extent ∷ [] → y.shape ≡ extent ∷ []
    → given (addition name first second extent place) seat (x ∷ y ∷ []) ≡ Some (total (extent ∷ []) x y)
unfolding given
given_sum name first second extent place seat x y left right =
    let op : Op = addition name first second extent place in
    let shape : shape_given op seat (x.shape ∷ y.shape ∷ []) ≡ Some (extent ∷ []) =
    ap₂ (λ (s t : List ℕ). shape_given op seat (s ∷ t ∷ [])) left right ∙ shape_added name first second extent place seat in
    ap (option_and_then (λ (s : List ℕ). built_of s I32 (cell_given op seat (x ∷ y ∷ []) s))) shape
    ∙ cells_added name first second extent place seat x y (extent ∷ [])

-- the cut of the sum is the sum of the cuts
pub cut_total : (s : ShardingValue) (x y : TensorValue) (device : ℕ) → IsSharding s → HasNoHalos s.dimensions → device < cell_count s.grid.extents
    → total (local_shape s device) (cut_of s x device) (cut_of s y device) ≡ cut_of s (total (whole_of s) x y) device
cut_total s x y device ok none below = sym (cut_of-zip s I32 added x y device ok none below)
