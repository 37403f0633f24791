-- Kind by kind: the shape that a slice, a reshape, a piece, a padding or a join gives, and its cells
-- by the rule in memory.
use Rattle.std.proofs.Common.{◌≡◌, ◌≢◌, ℕ, Bool, List, [], ◌∷◌, length, get_or, set, Option, Some, None, refl, ap, ap₂, sym, ◌∙◌}
use Rattle.std.specs.Prelude.{◌&&◌, nat_eq, option_map, if◌then◌else◌}
use Rattle.std.specs.List.{list_all}
use Rattle.std.specs.Cmp.Lexicographic.{pointwise}
use Rattle.std.proofs.lemmas.Option.{none-some, same_Some}
use Rattle.sh_ir.specs.Agreement.{dims_of}
use Rattle.sh_ir.specs.Numbers.{as_naturals}
use Rattle.sh_ir.specs.declared.shard_ops.Pad as declared_pad
use Rattle.sh_ir.specs.declared.tensor_ops.CollapseShape as declared_collapse_shape
use Rattle.sh_ir.specs.declared.tensor_ops.ExpandShape as declared_expand_shape
use Rattle.sh_ir.specs.declared.tensor_ops.ExtractSlice as declared_extract_slice
use Rattle.sh_ir.specs.declared.tensor_ops.InsertSlice as declared_insert_slice
use Rattle.sh_ir.specs.declared.types.Dim.{Dim}
use Rattle.sh_tensor.specs.Tensor.{TensorValue}
use Rattle.sh_eval.specs.declared.rules.CellRule.TheVariants.{Sliced, Inserted, Reshaped, Moved, Padded, Joined}
use Rattle.sh_eval.specs.declared.slices.SliceRange.{SliceRange}
use Rattle.sh_eval.specs.Rules.{rule_cell}
use Rattle.sh_eval.specs.Slices.{ranges_in}
use Rattle.sh_eval.specs.Values.{shapes_of}
use Rattle.sh_eval.proofs.LayoutLaws.{none_of_none, none_of_one, none_of_two}
use Rattle.sh_base.specs.declared.numbers.Cell.TheVariants.{Undef}
use Rattle.sh_base.specs.declared.numbers.Width.{Width}
use Rattle.sh_ir.specs.declared.arith_ops.Constant as declared_constant
use Rattle.sh_loops.specs.Cells.{constant_value}
use Rattle.sh_sem.specs.Given.{built_of, gives_collapse, gives_constant, gives_expansion, gives_insertion, gives_join, gives_padding, gives_piece, gives_slice, gives_undefined, known_shape}
use Rattle.sh_sem.specs.Pieces.{Piece, joined_shape, padded_shape, piece_cell, piece_shape}
use Rattle.sh_sem.specs.Reshapes.{collapsed_shape, expanded_shape}
use Rattle.sh_sem.specs.Slices.{Range, extracted_cell, extracted_shape, inserted_cell, inserted_shape, lies_within, ranges_of, sizes_of}

-- ---- slices

pub extract_shape : (x : declared_extract_slice.ExtractSlice) (t : TensorValue) (ts : List TensorValue) (R : List Range) (b : Bool) → ts ≡ t ∷ []
    → R ≡ ranges_of x.slice (dims_of x.source_type) t.shape → b ≡ list_all lies_within R
    → (gives_slice x).shape (shapes_of ts) ≡ (if b then Some (sizes_of R) else None)
unfolding gives_slice
extract_shape x t ts R b alone is inside =
    ap (λ us. (gives_slice x).shape (shapes_of us)) alone ∙ ap extracted_shape (sym is)
    ∙ ap (λ a. if a then Some (sizes_of R) else None) (sym inside)

pub extract_cell : (x : declared_extract_slice.ExtractSlice) (t : TensorValue) (ts : List TensorValue) (ranges : List SliceRange) → ts ≡ t ∷ []
    → ranges_in ranges ≡ ranges_of x.slice (dims_of x.source_type) t.shape → (z i : List ℕ) → (gives_slice x).cell ts z i ≡ Some (rule_cell (Sliced ranges) t ts z i)
unfolding gives_slice rule_cell
extract_cell x t ts ranges alone is z i = ap (λ us. (gives_slice x).cell us z i) alone ∙ ap (λ R. Some (extracted_cell R t i)) (sym is)

pub insert_shape : (x : declared_insert_slice.InsertSlice) (dims : List Dim) (t u : TensorValue) (ts : List TensorValue) (R : List Range) (a b : Bool) → ts ≡ t ∷ u ∷ []
    → R ≡ ranges_of x.slice dims u.shape → a ≡ list_all lies_within R → b ≡ pointwise nat_eq (sizes_of R) t.shape
    → (gives_insertion x dims).shape (shapes_of ts) ≡ (if a && b then Some u.shape else None)
unfolding gives_insertion
insert_shape x dims t u ts R a b both is inside sized =
    ap (λ us. (gives_insertion x dims).shape (shapes_of us)) both ∙ ap (λ r. inserted_shape r t.shape u.shape) (sym is)
    ∙ ap₂ (λ c d. if c && d then Some u.shape else None) (sym inside) (sym sized)

pub insert_cell : (x : declared_insert_slice.InsertSlice) (dims : List Dim) (t u : TensorValue) (ts : List TensorValue) (ranges : List SliceRange) → ts ≡ t ∷ u ∷ []
    → ranges_in ranges ≡ ranges_of x.slice dims u.shape → (z i : List ℕ) → (gives_insertion x dims).cell ts z i ≡ Some (rule_cell (Inserted ranges) t ts z i)
unfolding gives_insertion rule_cell
insert_cell x dims t u ts ranges both is z i =
    ap (λ us. (gives_insertion x dims).cell us z i) both
    ∙ ap (λ R. Some (inserted_cell R t u i)) (sym is)
    ∙ ap (λ us. Some (inserted_cell (ranges_in ranges) t (get_or us 1 t) i)) (sym both)

-- ---- reshapes

pub collapse_shape : (x : declared_collapse_shape.CollapseShape) (t : TensorValue) (ts : List TensorValue) → ts ≡ t ∷ [] → (gives_collapse x).shape (shapes_of ts) ≡ collapsed_shape x.reassociation t.shape
unfolding gives_collapse
collapse_shape x t ts alone = ap (λ us. (gives_collapse x).shape (shapes_of us)) alone

pub collapse_cell : (x : declared_collapse_shape.CollapseShape) (t : TensorValue) (ts : List TensorValue) → ts ≡ t ∷ [] → (z i : List ℕ)
    → (gives_collapse x).cell ts z i ≡ Some (rule_cell Reshaped t ts z i)
unfolding gives_collapse rule_cell
collapse_cell x t ts alone z i = ap (λ us. (gives_collapse x).cell us z i) alone

pub expand_shape : (x : declared_expand_shape.ExpandShape) (dims : List Dim) (t : TensorValue) (ts : List TensorValue) → ts ≡ t ∷ []
    → (gives_expansion x dims).shape (shapes_of ts) ≡ expanded_shape dims x.reassociation t.shape
unfolding gives_expansion
expand_shape x dims t ts alone = ap (λ us. (gives_expansion x dims).shape (shapes_of us)) alone

pub expand_cell : (x : declared_expand_shape.ExpandShape) (dims : List Dim) (t : TensorValue) (ts : List TensorValue) → ts ≡ t ∷ [] → (z i : List ℕ)
    → (gives_expansion x dims).cell ts z i ≡ Some (rule_cell Reshaped t ts z i)
unfolding gives_expansion rule_cell
expand_cell x dims t ts alone z i = ap (λ us. (gives_expansion x dims).cell us z i) alone

-- ---- pieces, paddings and joins

pub piece_shape_is : (axis : ℕ) (f : ℕ → Option Piece) (t : TensorValue) (ts : List TensorValue) (p : Option Piece) → ts ≡ t ∷ [] → p ≡ f (get_or t.shape axis 0)
    → (gives_piece axis f).shape (shapes_of ts) ≡ option_map (λ x. set t.shape axis x.size) p
unfolding gives_piece
piece_shape_is axis f t ts p alone is = ap (λ us. (gives_piece axis f).shape (shapes_of us)) alone ∙ ap (piece_shape axis t.shape) (sym is)

pub piece_cell_is : (axis : ℕ) (f : ℕ → Option Piece) (t : TensorValue) (ts : List TensorValue) (p : Piece) → ts ≡ t ∷ [] → Some p ≡ f (get_or t.shape axis 0) → (z i : List ℕ)
    → (gives_piece axis f).cell ts z i ≡ Some (rule_cell (Moved axis p.start) t ts z i)
unfolding gives_piece rule_cell
piece_cell_is axis f t ts p alone is z i = ap (λ us. (gives_piece axis f).cell us z i) alone ∙ ap (piece_cell axis t i) (sym is)

pub pad_shape : (x : declared_pad.Pad) (t : TensorValue) (ts : List TensorValue) → ts ≡ t ∷ []
    → (gives_padding x).shape (shapes_of ts) ≡ Some (padded_shape (as_naturals x.low) (as_naturals x.high) t.shape)
unfolding gives_padding
pad_shape x t ts alone = ap (λ us. (gives_padding x).shape (shapes_of us)) alone

pub pad_cell : (x : declared_pad.Pad) (t : TensorValue) (ts : List TensorValue) → ts ≡ t ∷ [] → (z i : List ℕ) → (gives_padding x).cell ts z i ≡ Some (rule_cell (Padded x.low) t ts z i)
unfolding gives_padding rule_cell
pad_cell x t ts alone z i = ap (λ us. (gives_padding x).cell us z i) alone

pub join_shape : (axis : ℕ) (ts : List TensorValue) → (gives_join axis).shape (shapes_of ts) ≡ joined_shape axis (shapes_of ts)
unfolding gives_join
join_shape axis ts = refl

pub join_cell : (axis : ℕ) (t : TensorValue) (ts : List TensorValue) (z i : List ℕ) → (gives_join axis).cell ts z i ≡ Some (rule_cell (Joined axis) t ts z i)
unfolding gives_join rule_cell
join_cell axis t ts z i = refl

-- ---- extents that are there, cut

pub cut_there : (o : Option (List ℕ)) (g : List ℕ → List ℕ) (e : List ℕ) → Some e ≡ option_map g o → (s : List ℕ) → o ≡ Some s → e ≡ g s
cut_there o g e h s is = same_Some e (g s) (h ∙ ap (option_map g) is)

pub record IsThere (o : Option (List ℕ)) (g : List ℕ → List ℕ) (e : List ℕ) : Type 0 where
  pub value : List ℕ
  pub there : o ≡ Some value
  pub cut : e ≡ g value

pub is_there : (o : Option (List ℕ)) (g : List ℕ → List ℕ) (e : List ℕ) → Some e ≡ option_map g o → IsThere o g e
is_there None g e h = absurd (none-some e (sym h))
is_there (Some s) g e h = record { value = s; there = refl; cut = same_Some e (g s) h }

pub not_there : (o : Option (List ℕ)) (g : List ℕ → List ℕ) → None ≡ option_map g o → o ≡ None
not_there None g h = refl
not_there (Some s) g h = absurd (none-some (g s) h)

-- ---- too many operands, or too few

pub extract_alone : (x : declared_extract_slice.ExtractSlice) (ts : List TensorValue) → length (shapes_of ts) ≢ 1 → (gives_slice x).shape (shapes_of ts) ≡ None
unfolding gives_slice
extract_alone x ts h = none_of_one _ (shapes_of ts) h

pub insert_both : (x : declared_insert_slice.InsertSlice) (dims : List Dim) (ts : List TensorValue) → length (shapes_of ts) ≢ 2 → (gives_insertion x dims).shape (shapes_of ts) ≡ None
unfolding gives_insertion
insert_both x dims ts h = none_of_two _ (shapes_of ts) h

pub collapse_alone : (x : declared_collapse_shape.CollapseShape) (ts : List TensorValue) → length (shapes_of ts) ≢ 1 → (gives_collapse x).shape (shapes_of ts) ≡ None
unfolding gives_collapse
collapse_alone x ts h = none_of_one _ (shapes_of ts) h

pub expand_alone : (x : declared_expand_shape.ExpandShape) (dims : List Dim) (ts : List TensorValue) → length (shapes_of ts) ≢ 1 → (gives_expansion x dims).shape (shapes_of ts) ≡ None
unfolding gives_expansion
expand_alone x dims ts h = none_of_one _ (shapes_of ts) h

pub piece_alone : (axis : ℕ) (f : ℕ → Option Piece) (ts : List TensorValue) → length (shapes_of ts) ≢ 1 → (gives_piece axis f).shape (shapes_of ts) ≡ None
unfolding gives_piece
piece_alone axis f ts h = none_of_one _ (shapes_of ts) h

pub pad_alone : (x : declared_pad.Pad) (ts : List TensorValue) → length (shapes_of ts) ≢ 1 → (gives_padding x).shape (shapes_of ts) ≡ None
unfolding gives_padding
pad_alone x ts h = none_of_one _ (shapes_of ts) h

-- ---- creators

pub constant_some : (x : declared_constant.Constant) (ts : List TensorValue) → length (shapes_of ts) ≢ 0 → (gives_constant x).shape (shapes_of ts) ≡ None
unfolding gives_constant
constant_some x ts h = none_of_none _ (shapes_of ts) h

pub constant_shape : (x : declared_constant.Constant) (ts : List TensorValue) → ts ≡ [] → (gives_constant x).shape (shapes_of ts) ≡ known_shape (dims_of x.value_type)
unfolding gives_constant
constant_shape x ts none = ap (λ us. (gives_constant x).shape (shapes_of us)) none

pub constant_cells : (x : declared_constant.Constant) (w : Width) (ts : List TensorValue) (shape : List ℕ) → constant_value x shape w ≡ built_of shape w ((gives_constant x).cell ts shape)
unfolding gives_constant
constant_cells x w ts shape = refl

pub undefined_some : (dims : List Dim) (ts : List TensorValue) → length (shapes_of ts) ≢ 0 → (gives_undefined dims).shape (shapes_of ts) ≡ None
unfolding gives_undefined
undefined_some dims ts h = none_of_none _ (shapes_of ts) h

pub undefined_shape : (dims : List Dim) (ts : List TensorValue) → ts ≡ [] → (gives_undefined dims).shape (shapes_of ts) ≡ known_shape dims
unfolding gives_undefined
undefined_shape dims ts none = ap (λ us. (gives_undefined dims).shape (shapes_of us)) none

pub undefined_cells : (dims : List Dim) (w : Width) (ts : List TensorValue) (shape : List ℕ) → built_of shape w (λ i. Some Undef) ≡ built_of shape w ((gives_undefined dims).cell ts shape)
unfolding gives_undefined
undefined_cells dims w ts shape = refl
