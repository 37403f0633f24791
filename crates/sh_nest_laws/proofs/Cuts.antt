-- The operands of a structured operation and their cuts: shapes, widths and cells.
use Rattle.std.proofs.Common.{◌≡◌, ℕ, zero, suc, ◌<◌, ◌≤◌, Bool, true, false, List, [], ◌∷◌, ◌++◌, map, get_or, length, refl, ap, ap₂, sym, ◌∙◌, arith, subst, inl, inr}
use Rattle.std.specs.Prelude.{flat_map, if◌then◌else◌}
use Rattle.std.specs.List.{AllByRecursion}
use Rattle.std.proofs.lemmas.Bool.{cases_lt}
use Rattle.sh_base.specs.declared.numbers.Cell.{Cell}
use Rattle.sh_base.specs.declared.numbers.Cell.TheVariants.{Undef}
use Rattle.sh_base.specs.declared.numbers.Width.{Width}
use Rattle.sh_base.specs.Cells.{IsCellOf}
use Rattle.sh_base.specs.Shape.{cell_count, flat_of, unflat_of}
use Rattle.sh_base.proofs.ShapeLaws.{flat_of-unflat_of, unflat_of-within}
use Rattle.sh_grid.specs.Grid.{GridValue}
use Rattle.sh_tensor.specs.Tensor.{TensorValue, IsTensor, at}
use Rattle.sh_tensor.proofs.TensorLaws.{IsTensor-build}
use Rattle.sh_sharding.specs.declared.shardings.Dimension.{Dimension}
use Rattle.sh_sharding.specs.Sharding.{ShardingValue, local_extent, local_shape}
use Rattle.sh_sharding.specs.Cut.{cut_of, cut_cell, is_inside, whole_index}
use Rattle.sh_sharding.specs.Splits.{TensorSplit, IsOfSplit, tensor_splitting}
use Rattle.sh_sharding.proofs.CutLaws.{at-cut_of, shape-cut_of, width-cut_of}
use Rattle.sh_pieces.specs.Promises.{cuts, AllFit}
use Rattle.sh_nest_laws.specs.LoopSplits.{Operand, PlainNest, AreCellsOf, IsLoop, IsOperand, sharding_on, split_by, scalar_split, widths_of}
use Rattle.sh_nest_laws.proofs.Literally.{map_map}
use Rattle.sh_nest_laws.proofs.Loops.{local, to, held_at_point}
use Rattle.sh_nest_laws.proofs.Operands.{cells_at, scalar_cells, HasShapes}
use Rattle.sh_nest_laws.proofs.Points.{IsPoint, moved, taken}
use Rattle.sh_nest_laws.proofs.Values.{shapes_by}

-- ---- cells of a tensor are of its width, also where no index is

get_past : (xs : List Cell) (k : ℕ) → length xs ≤ k → get_or xs k Undef ≡ Undef
get_past [] k h = refl
get_past (x ∷ xs) zero h = absurd (omega (arith, h))
get_past (x ∷ xs) (suc k) h = get_past xs k (omega (arith, h))

pub at_valid : (t : TensorValue) → IsTensor t → (i : List ℕ) → IsCellOf t.width (at t i)
unfolding at
at_valid t ok i =
    elim (cases_lt (flat_of t.shape i) (length t.cells)) [
      | inl lt ↦
          let within : flat_of t.shape i < cell_count t.shape = subst (λ n. flat_of t.shape i < n) ok.counted lt in
          let here = ok.fitting (unflat_of t.shape (flat_of t.shape i)) (unflat_of-within t.shape (flat_of t.shape i) within) in
          subst (λ k. IsCellOf t.width (get_or t.cells k Undef)) (flat_of-unflat_of t.shape (flat_of t.shape i) within) here
      | inr ge ↦ subst (IsCellOf t.width) (sym (get_past t.cells (flat_of t.shape i) (omega (arith, ge)))) tt
    ]

-- cuts have cells of their width
pub cut_tensor : (s : ShardingValue) (t : TensorValue) (c : ℕ) → IsTensor t → IsTensor (cut_of s t c)
unfolding cut_of
cut_tensor s t c ok = IsTensor-build (local_shape s c) t.width (cut_cell s t c) (λ i inside. go i (is_inside s.grid.extents c s.dimensions i) refl)
  where
    go : (i : List ℕ) (b : Bool) → is_inside s.grid.extents c s.dimensions i ≡ b → IsCellOf t.width (cut_cell s t c i)
    go i true e = subst (λ (b : Bool). IsCellOf t.width (if b then at t (whole_index s.grid.extents c s.dimensions i) else Undef)) (sym e) (at_valid t ok (whole_index s.grid.extents c s.dimensions i))
    go i false e = subst (λ (b : Bool). IsCellOf t.width (if b then at t (whole_index s.grid.extents c s.dimensions i) else Undef)) (sym e) tt

-- the shapes of cuts
pub shapes_of_cuts : (ss : List TensorSplit) (ts : List TensorValue) (c : ℕ) → AllFit tensor_splitting ss ts → map (λ t. t.shape) (cuts tensor_splitting ss ts c) ≡ map (λ s. local_shape s.sharding c) ss
shapes_of_cuts [] ts c all = refl
shapes_of_cuts (s ∷ ss) [] c all = absurd all
shapes_of_cuts (s ∷ ss) (t ∷ ts) c all = ap₂ (λ a b. a ∷ b) (shape-cut_of s.sharding t c) (shapes_of_cuts ss ts c all.1)

module _ (g : GridValue) (D : ℕ → Dimension) where
  -- ---- which operands are which

  pub record HasOperands (ins : List Operand) (out : Operand) (captured : List Width) (ts : List TensorValue) : Type 0 where
    pub inputs : List TensorValue
    pub outs : TensorValue
    pub scalars : List TensorValue
    pub is : ts ≡ inputs ++ outs ∷ scalars
    pub inputs_fit : AllFit tensor_splitting (map (split_by g D) ins) inputs
    pub outs_fit : IsOfSplit (split_by g D out) outs
    pub scalars_fit : AllFit tensor_splitting (map (scalar_split g) captured) scalars

  pub operands_of : (ins : List Operand) (out : Operand) (captured : List Width) (ts : List TensorValue) → AllFit tensor_splitting (map (split_by g D) ins ++ split_by g D out ∷ map (scalar_split g) captured) ts
      → HasOperands ins out captured ts
  operands_of [] out captured [] all = absurd all
  operands_of [] out captured (t ∷ ts) all = record { inputs = []; outs = t; scalars = ts; is = refl; inputs_fit = tt; outs_fit = all.0; scalars_fit = all.1 }
  operands_of (x ∷ ins) out captured [] all = absurd all
  operands_of (x ∷ ins) out captured (t ∷ ts) all =
      let rest = operands_of ins out captured ts all.1 in
      record {
        inputs = t ∷ rest.inputs;
        outs = rest.outs;
        scalars = rest.scalars;
        is = ap (λ us. t ∷ us) rest.is;
        inputs_fit = (all.0, rest.inputs_fit);
        outs_fit = rest.outs_fit;
        scalars_fit = rest.scalars_fit;
      }

  abbrev pub input_cuts : List Operand → List TensorValue → ℕ → List TensorValue
  input_cuts ins ts c = cuts tensor_splitting (map (split_by g D) ins) ts c

  abbrev pub scalar_cuts : List Width → List TensorValue → ℕ → List TensorValue
  scalar_cuts captured ts c = cuts tensor_splitting (map (scalar_split g) captured) ts c

  pub cuts_are : (ins : List Operand) (inputs : List TensorValue) (s : TensorSplit) (u : TensorValue) (ss : List TensorSplit) (ts : List TensorValue) (c : ℕ) → AllFit tensor_splitting (map (split_by g D) ins) inputs
      → cuts tensor_splitting (map (split_by g D) ins ++ s ∷ ss) (inputs ++ u ∷ ts) c ≡ input_cuts ins inputs c ++ cut_of s.sharding u c ∷ cuts tensor_splitting ss ts c
  cuts_are [] [] s u ss ts c all = refl
  cuts_are [] (t ∷ inputs) s u ss ts c all = absurd all
  cuts_are (x ∷ ins) [] s u ss ts c all = absurd all
  cuts_are (x ∷ ins) (t ∷ inputs) s u ss ts c all = ap (λ us. cut_of (sharding_on g D x.dims) t c ∷ us) (cuts_are ins inputs s u ss ts c all.1)

  -- ---- shapes and widths

  pub whole_shape : (m : List ℕ) → map (λ d. d.extent) (map D m) ≡ map (λ l. (D l).extent) m
  whole_shape m = map_map (λ d. d.extent) D m

  pub local_shape_is : (c : ℕ) (m : List ℕ) → local_shape (sharding_on g D m) c ≡ map (local g D c) m
  local_shape_is c m = map_map (local_extent g.extents c) D m

  whole_shapes : (ins : List Operand) (ts : List TensorValue) → AllFit tensor_splitting (map (split_by g D) ins) ts → map (λ t. t.shape) ts ≡ shapes_by (λ l. (D l).extent) ins
  whole_shapes [] [] all = refl
  whole_shapes [] (t ∷ ts) all = absurd all
  whole_shapes (x ∷ ins) [] all = absurd all
  whole_shapes (x ∷ ins) (t ∷ ts) all = ap₂ (λ a b. a ∷ b) (all.0.shape ∙ whole_shape x.dims) (whole_shapes ins ts all.1)

  whole_widths : (ins : List Operand) (ts : List TensorValue) → AllFit tensor_splitting (map (split_by g D) ins) ts → map (λ t. t.width) ts ≡ widths_of ins
  whole_widths [] [] all = refl
  whole_widths [] (t ∷ ts) all = absurd all
  whole_widths (x ∷ ins) [] all = absurd all
  whole_widths (x ∷ ins) (t ∷ ts) all = ap₂ (λ a b. a ∷ b) all.0.width (whole_widths ins ts all.1)

  local_shapes : (c : ℕ) (ins : List Operand) (ts : List TensorValue) → AllFit tensor_splitting (map (split_by g D) ins) ts → map (λ t. t.shape) (input_cuts ins ts c) ≡ shapes_by (local g D c) ins
  local_shapes c [] [] all = refl
  local_shapes c [] (t ∷ ts) all = absurd all
  local_shapes c (x ∷ ins) [] all = absurd all
  local_shapes c (x ∷ ins) (t ∷ ts) all = ap₂ (λ a b. a ∷ b) (shape-cut_of (sharding_on g D x.dims) t c ∙ local_shape_is c x.dims) (local_shapes c ins ts all.1)

  local_widths : (c : ℕ) (ins : List Operand) (ts : List TensorValue) → AllFit tensor_splitting (map (split_by g D) ins) ts → map (λ t. t.width) (input_cuts ins ts c) ≡ widths_of ins
  local_widths c [] [] all = refl
  local_widths c [] (t ∷ ts) all = absurd all
  local_widths c (x ∷ ins) [] all = absurd all
  local_widths c (x ∷ ins) (t ∷ ts) all = ap₂ (λ a b. a ∷ b) (width-cut_of (sharding_on g D x.dims) t c ∙ all.0.width) (local_widths c ins ts all.1)

  pub whole_has : (nest : PlainNest) (ins : List TensorValue) (u : TensorValue) → AllFit tensor_splitting (map (split_by g D) nest.ins) ins → IsOfSplit (split_by g D nest.out) u → HasShapes nest (λ l. (D l).extent) ins u
  whole_has nest ins u all fits = record { widths = whole_widths nest.ins ins all; width = fits.width; shapes = whole_shapes nest.ins ins all; shape = fits.shape ∙ whole_shape nest.out.dims }

  pub local_has : (nest : PlainNest) (c : ℕ) (ins : List TensorValue) (u : TensorValue) → AllFit tensor_splitting (map (split_by g D) nest.ins) ins → u.shape ≡ local_shape (sharding_on g D nest.out.dims) c → u.width ≡ nest.out.width
      → HasShapes nest (local g D c) (input_cuts nest.ins ins c) u
  local_has nest c ins u all shape width = record { widths = local_widths c nest.ins ins all; width = width; shapes = local_shapes c nest.ins ins all; shape = shape ∙ local_shape_is c nest.out.dims }

  -- the shapes of the cuts with an output of the local shape
  pub row_shapes : (ins : List Operand) (inputs : List TensorValue) (s : TensorSplit) (u : TensorValue) (ss : List TensorSplit) (ts : List TensorValue) (c : ℕ) → AllFit tensor_splitting (map (split_by g D) ins) inputs → u.shape ≡ local_shape s.sharding c
      → AllFit tensor_splitting ss ts → map (λ t. t.shape) (input_cuts ins inputs c ++ u ∷ cuts tensor_splitting ss ts c) ≡ map (λ s. local_shape s.sharding c) (map (split_by g D) ins ++ s ∷ ss)
  row_shapes [] [] s u ss ts c all shape more = ap₂ (λ a b. a ∷ b) shape (shapes_of_cuts ss ts c more)
  row_shapes [] (t ∷ inputs) s u ss ts c all shape more = absurd all
  row_shapes (x ∷ ins) [] s u ss ts c all shape more = absurd all
  row_shapes (x ∷ ins) (t ∷ inputs) s u ss ts c all shape more = ap₂ (λ a b. a ∷ b) (shape-cut_of (sharding_on g D x.dims) t c) (row_shapes ins inputs s u ss ts c all.1 shape more)

  -- ---- cells

  pub cells_of_cuts : ((l : ℕ) → IsLoop g.extents (D l)) → (c : ℕ) → c < cell_count g.extents → (loops : ℕ) (p : List ℕ) → IsPoint 0 loops (local g D c) p → (ins : List Operand) → AllByRecursion (IsOperand g D loops) ins
      → (ts : List TensorValue) → AllFit tensor_splitting (map (split_by g D) ins) ts → cells_at ins (input_cuts ins ts c) p ≡ cells_at ins ts (moved (to g D c) 0 p)
  cells_of_cuts loop c in' loops p pt [] ok [] all = refl
  cells_of_cuts loop c in' loops p pt [] ok (t ∷ ts) all = absurd all
  cells_of_cuts loop c in' loops p pt (x ∷ ins) ok [] all = absurd all
  cells_of_cuts loop c in' loops p pt (x ∷ ins) ok (t ∷ ts) all = ap₂ (λ a b. a ∷ b) (held_at_point g D c loop in' loops p pt x ok.0 t) (cells_of_cuts loop c in' loops p pt ins ok.1 ts all.1)

  pub valid_cells : (p : List ℕ) (ins : List Operand) (ts : List TensorValue) → AllFit tensor_splitting (map (split_by g D) ins) ts → AreCellsOf (widths_of ins) (cells_at ins ts p)
  valid_cells p [] [] all = tt
  valid_cells p [] (t ∷ ts) all = absurd all
  valid_cells p (x ∷ ins) [] all = absurd all
  valid_cells p (x ∷ ins) (t ∷ ts) all = (subst (λ w. IsCellOf w (at t (taken x.dims p))) all.0.width (at_valid t all.0.tensor (taken x.dims p)), valid_cells p ins ts all.1)

  pub valid_cuts : (p : List ℕ) (c : ℕ) (ins : List Operand) (ts : List TensorValue) → AllFit tensor_splitting (map (split_by g D) ins) ts → AreCellsOf (widths_of ins) (cells_at ins (input_cuts ins ts c) p)
  valid_cuts p c [] [] all = tt
  valid_cuts p c [] (t ∷ ts) all = absurd all
  valid_cuts p c (x ∷ ins) [] all = absurd all
  valid_cuts p c (x ∷ ins) (t ∷ ts) all =
      let s = sharding_on g D x.dims in
      (subst (λ w. IsCellOf w (at (cut_of s t c) (taken x.dims p))) (width-cut_of s t c ∙ all.0.width) (at_valid (cut_of s t c) (cut_tensor s t c all.0.tensor) (taken x.dims p)), valid_cuts p c ins ts all.1)

  pub scalars_of_cuts : (c : ℕ) (ws : List Width) (ts : List TensorValue) → AllFit tensor_splitting (map (scalar_split g) ws) ts → scalar_cells (scalar_cuts ws ts c) ≡ scalar_cells ts
  scalars_of_cuts c [] [] all = refl
  scalars_of_cuts c [] (t ∷ ts) all = absurd all
  scalars_of_cuts c (w ∷ ws) [] all = absurd all
  scalars_of_cuts c (w ∷ ws) (t ∷ ts) all = ap₂ (λ a b. a ∷ b) (at-cut_of (record { grid = g; dimensions = [] }) t c [] tt) (scalars_of_cuts c ws ts all.1)

  pub valid_scalars : (ws : List Width) (ts : List TensorValue) → AllFit tensor_splitting (map (scalar_split g) ws) ts → AreCellsOf ws (scalar_cells ts)
  valid_scalars [] [] all = tt
  valid_scalars [] (t ∷ ts) all = absurd all
  valid_scalars (w ∷ ws) [] all = absurd all
  valid_scalars (w ∷ ws) (t ∷ ts) all = (subst (λ w. IsCellOf w (at t [])) all.0.width (at_valid t all.0.tensor []), valid_scalars ws ts all.1)

  -- ---- the loops of all maps are there

  pub all_below : (loops : ℕ) (ins : List Operand) (out : Operand) → AllByRecursion (IsOperand g D loops) ins → IsOperand g D loops out → AllByRecursion (λ l. l < loops) (flat_map (λ x. x.dims) (ins ++ out ∷ []))
  all_below loops [] out ok ok_out = more out.dims [] ok_out.below tt
    where
      more : (xs ys : List ℕ) → AllByRecursion (λ l. l < loops) xs → AllByRecursion (λ l. l < loops) ys → AllByRecursion (λ l. l < loops) (xs ++ ys)
      more [] ys h k = k
      more (x ∷ xs) ys h k = (h.0, more xs ys h.1 k)
  all_below loops (x ∷ ins) out ok ok_out = more x.dims (flat_map (λ x. x.dims) (ins ++ out ∷ [])) ok.0.below (all_below loops ins out ok.1 ok_out)
    where
      more : (xs ys : List ℕ) → AllByRecursion (λ l. l < loops) xs → AllByRecursion (λ l. l < loops) ys → AllByRecursion (λ l. l < loops) (xs ++ ys)
      more [] ys h k = k
      more (x ∷ xs) ys h k = (h.0, more xs ys h.1 k)
