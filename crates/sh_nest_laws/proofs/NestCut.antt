-- Loops of the output split in any way: the operation on the cuts gives the cut of the result.
use Rattle.std.proofs.Common.{◌≡◌, ℕ, zero, suc, ◌<◌, List, [], ◌∷◌, ◌++◌, map, fold, length, Option, Some, None, refl, ap, sym, ◌∙◌, arith, subst}
use Rattle.std.specs.Prelude.{option_and_then}
use Rattle.std.specs.List.{AllByRecursion}
use Rattle.std.proofs.lemmas.List.{length-map}
use Rattle.sh_base.specs.declared.numbers.Cell.{Cell}
use Rattle.sh_base.specs.Cells.{IsCellOf}
use Rattle.sh_base.specs.Shape.{cell_count, IsIndexOf}
use Rattle.sh_base.proofs.ShapeLaws.{IsIndexOf-length}
use Rattle.sh_grid.specs.Grid.{GridValue}
use Rattle.sh_ir.specs.declared.operations.Op.{Op}
use Rattle.sh_ir.specs.Typing.{typing_of}
use Rattle.sh_sem.specs.Given.{Seat, alone, given, have_all_extents}
use Rattle.sh_sem.specs.Types.{have_extents}
use Rattle.sh_tensor.specs.Tensor.{TensorValue, at, build}
use Rattle.sh_tensor.proofs.TensorLaws.{build-ext, length-cells_of}
use Rattle.sh_sharding.specs.declared.shardings.Dimension.{Dimension}
use Rattle.sh_sharding.specs.Sharding.{ShardingValue, local_shape}
use Rattle.sh_sharding.specs.Cut.{cut_of, cut_cell, whole_index}
use Rattle.sh_sharding.specs.Splits.{IsOfSplit, tensor_splitting}
use Rattle.sh_sharding.proofs.CutLaws.{shape-cut_of, width-cut_of, cut_cell-no_halos, no_halos-inside, whole_index-inside}
use Rattle.sh_sharding.proofs.PartLaws.{placed}
use Rattle.sh_pieces.specs.Promises.{cuts, AllFit}
use Rattle.sh_nest_laws.specs.Folds.{IfThere}
use Rattle.sh_nest_laws.specs.LoopSplits.{PlainNest, AreSplit, IsOperationOf, KeepsWidth, HasLocalTypes, SplitsParallel, sharding_on, split_by, scalar_split, splits_by, loops_named}
use Rattle.sh_nest_laws.proofs.Cuts.{HasOperands, operands_of, input_cuts, scalar_cuts, cuts_are, whole_has, local_has, local_shape_is, row_shapes, cells_of_cuts, valid_cells, valid_scalars, scalars_of_cuts, at_valid, all_below}
use Rattle.sh_nest_laws.proofs.Literally.{entry_none, entry_within}
use Rattle.sh_nest_laws.proofs.Loops.{local, whole, to, whole_loop, entry_moved, held_at, no_halos}
use Rattle.sh_nest_laws.proofs.Operands.{cells_at, scalar_cells, step_at, value_at, HasShapes, IsNestValue, cells_given, gives_cells}
use Rattle.sh_nest_laws.proofs.Points.{over_points, choices, IsPoint, entry_for, moved, local_is_whole}

over_keeps : {A : Type 0} (Q : A → Type 0) (n l : ℕ) (extent : ℕ → ℕ) (fixed : ℕ → Option ℕ) (f : List ℕ → A → A) → ((p : List ℕ) (a : A) → Q a → Q (f p a)) → (a : A) → Q a → Q (over_points l n extent fixed f a)
over_keeps Q zero l extent fixed f keeps a qa = keeps [] a qa
over_keeps {A} Q (suc n) l extent fixed f keeps a qa =
    go (λ b k. over_points (suc l) n extent fixed (λ p. f (k ∷ p)) b) (λ b k qb. over_keeps Q n (suc l) extent fixed (λ p. f (k ∷ p)) (λ p c qc. keeps (k ∷ p) c qc) b qb) (choices (extent l) (fixed l)) a qa
  where
    go : (F : A → ℕ → A) → ((b : A) (k : ℕ) → Q b → Q (F b k)) → (ks : List ℕ) (b : A) → Q b → Q (fold F b ks)
    go F keep [] b qb = qb
    go F keep (k ∷ ks) b qb = go F keep ks (F b k) (keep b k qb)

module _ (g : GridValue) (D : ℕ → Dimension) (nest : PlainNest) (split : AreSplit g D nest) (keeps : KeepsWidth nest) where
  abbrev pub So : ShardingValue
  So = sharding_on g D nest.out.dims

  pub below : AllByRecursion (λ l. l < nest.loops) (loops_named nest)
  below = all_below g D nest.loops nest.ins nest.out split.inputs split.output

  -- ---- the result on whole operands

  module _ (op : Op) (is_op : IsOperationOf nest op) (ts : List TensorValue) (fit : AllFit tensor_splitting (splits_by g D nest) ts) (t : TensorValue) (is : given op alone ts ≡ Some t) where
    abbrev pub o : HasOperands g D nest.ins nest.out nest.captured ts
    o = operands_of g D nest.ins nest.out nest.captured ts fit

    abbrev pub whole_value : List ℕ → Option Cell
    whole_value j = value_at nest (whole g D 0) (scalar_cells o.scalars) o.inputs o.outs j

    is_value : IsNestValue nest split.named below (whole g D 0) op is_op o.inputs o.outs o.scalars (whole_has g D nest o.inputs o.outs o.inputs_fit o.outs_fit) t
    is_value =
        cells_given nest split.named below (whole g D 0) op is_op o.inputs o.outs o.scalars (whole_has g D nest o.inputs o.outs o.inputs_fit o.outs_fit) split.once alone t
        (ap (given op alone) (sym o.is) ∙ is)

    pub whole_cell : (j : List ℕ) → IsIndexOf o.outs.shape j → whole_value j ≡ Some (at t j)
    whole_cell j inside = is_value.cell j inside

    step_keeps : (p : List ℕ) (a : Option Cell) → IfThere (IsCellOf nest.out.width) a → IfThere (IsCellOf nest.out.width) (step_at nest (scalar_cells o.scalars) o.inputs p a)
    step_keeps p None h = tt
    step_keeps p (Some z) h = go (nest.step (scalar_cells o.scalars) (cells_at nest.ins o.inputs p) z) refl
      where
        go : (r : Option Cell) → nest.step (scalar_cells o.scalars) (cells_at nest.ins o.inputs p) z ≡ r → IfThere (IsCellOf nest.out.width) r
        go None e = tt
        go (Some y) e = keeps (scalar_cells o.scalars) (cells_at nest.ins o.inputs p) z y (valid_scalars g D nest.captured o.scalars o.scalars_fit) (valid_cells g D p nest.ins o.inputs o.inputs_fit) h e

    pub outs_valid : (j : List ℕ) → IsCellOf nest.out.width (at o.outs j)
    outs_valid j = subst (λ w. IsCellOf w (at o.outs j)) o.outs_fit.width (at_valid o.outs o.outs_fit.tensor j)

    cell_valid : (j : List ℕ) → IsIndexOf o.outs.shape j → IsCellOf nest.out.width (at t j)
    unfolding value_at
    cell_valid j inside =
        subst (IfThere (IsCellOf nest.out.width)) (whole_cell j inside)
        (over_keeps (IfThere (IsCellOf nest.out.width)) nest.loops 0 (whole g D 0) (entry_for nest.out.dims j) (step_at nest (scalar_cells o.scalars) o.inputs) step_keeps (Some (at o.outs j)) (outs_valid j))

    pub result_width : t.width ≡ nest.out.width
    result_width = is_value.width

    pub result_fits : IsOfSplit (split_by g D nest.out) t
    result_fits = record {
      tensor = record {
        counted = ap (λ u. length u.cells) is_value.built ∙ length-cells_of o.outs.shape _ ∙ ap cell_count (sym is_value.shape);
        fitting = λ j inside. subst (λ w. IsCellOf w (at t j)) (sym is_value.width) (cell_valid j (subst (λ s. IsIndexOf s j) is_value.shape inside));
      };
      shape = is_value.shape ∙ o.outs_fit.shape;
      width = is_value.width;
    }

    -- ---- on a device

    module _ (c : ℕ) (in' : c < cell_count g.extents) where
      abbrev pub inputs_c : List TensorValue
      inputs_c = input_cuts g D nest.ins o.inputs c

      abbrev pub scalars_c : List TensorValue
      scalars_c = scalar_cuts g D nest.captured o.scalars c

      abbrev pub outs_c : TensorValue
      outs_c = cut_of So o.outs c

      abbrev pub W : List ℕ → List ℕ
      W j = whole_index g.extents c So.dimensions j

      pub cuts_of_all : cuts tensor_splitting (splits_by g D nest) ts c ≡ inputs_c ++ outs_c ∷ scalars_c
      cuts_of_all = ap (λ us. cuts tensor_splitting (splits_by g D nest) us c) o.is ∙ cuts_are g D nest.ins o.inputs (split_by g D nest.out) o.outs (map (scalar_split g) nest.captured) o.scalars c o.inputs_fit

      pub index_in : (j : List ℕ) → IsIndexOf (local_shape So c) j → IsIndexOf (map (local g D c) nest.out.dims) j
      index_in j inside = subst (λ s. IsIndexOf s j) (local_shape_is g D c nest.out.dims) inside

      -- where a local index stands in the outs
      pub index_inside : (j : List ℕ) → IsIndexOf (local_shape So c) j → IsIndexOf o.outs.shape (W j)
      index_inside j inside =
          let stands = no_halos-inside g.extents c So.dimensions j (placed So c split.output.admitted in') (no_halos g D c split.loop nest.out.dims) inside in
          subst (λ s. IsIndexOf s (W j)) (sym o.outs_fit.shape) (whole_index-inside g.extents c So.dimensions j inside stands)

      -- the cut of the result, cell by cell
      pub cut_built : build (local_shape So c) nest.out.width (λ j. at t (W j)) ≡ cut_of So t c
      unfolding cut_of
      cut_built =
          ap (λ w. build (local_shape So c) w (λ j. at t (W j))) (sym result_width)
          ∙ sym (build-ext (local_shape So c) t.width (cut_cell So t c) (λ j. at t (W j))
          (λ j inside. cut_cell-no_halos So t c j split.output.admitted (no_halos g D c split.loop nest.out.dims) in' inside))

      -- The operation at local sizes on the cuts of the inputs and an output u, where its cells are there.
      pub local_given : (local_op : Op) → IsOperationOf nest local_op → HasLocalTypes g D nest local_op → (seat : Seat) (u : TensorValue) → u.shape ≡ local_shape So c → u.width ≡ nest.out.width → (h : List ℕ → Cell)
          → ((j : List ℕ) → IsIndexOf (local_shape So c) j → value_at nest (local g D c) (scalar_cells o.scalars) inputs_c u j ≡ Some (h j))
          → given local_op seat (inputs_c ++ u ∷ scalars_c) ≡ Some (build (local_shape So c) nest.out.width h)
      local_given local_op is_local types seat u shape width h there =
          let has : HasShapes nest (local g D c) inputs_c u = local_has g D nest c o.inputs u o.inputs_fit shape width in
          let rows = row_shapes g D nest.ins o.inputs (split_by g D nest.out) u (map (scalar_split g) nest.captured) o.scalars c o.inputs_fit shape o.scalars_fit in
          let scalars : scalar_cells scalars_c ≡ scalar_cells o.scalars = scalars_of_cuts g D c nest.captured o.scalars o.scalars_fit in
          gives_cells nest split.named below (local g D c) local_op is_local inputs_c u scalars_c has split.once seat
          (ap (have_all_extents (typing_of local_op.kind local_op.result)) rows ∙ types.operands c in')
          (ap (have_extents _) shape ∙ types.result c in') h
          (λ j inside. ap (λ cells. value_at nest (local g D c) cells inputs_c u j) scalars ∙ there j (subst (λ s. IsIndexOf s j) shape inside))
          ∙ ap (λ s. Some (build s nest.out.width h)) shape

      -- ---- where only loops of the output are split

      steps_same : (p : List ℕ) (a : Option Cell) → IsPoint 0 nest.loops (local g D c) p → step_at nest (scalar_cells o.scalars) inputs_c p a ≡ step_at nest (scalar_cells o.scalars) o.inputs (moved (to g D c) 0 p) a
      steps_same p a pt = ap (λ cells. option_and_then (nest.step (scalar_cells o.scalars) cells) a) (cells_of_cuts g D split.loop c in' nest.loops p pt nest.ins split.inputs o.inputs o.inputs_fit)

      pub cell_cut : SplitsParallel D nest → (j : List ℕ) → IsIndexOf (local_shape So c) j → value_at nest (local g D c) (scalar_cells o.scalars) inputs_c outs_c j ≡ whole_value (W j)
      unfolding value_at
      cell_cut parallel j inside =
          let inside' = index_in j inside in
          let long : length j ≡ length nest.out.dims = sym (IsIndexOf-length (map (local g D c) nest.out.dims) j inside') ∙ length-map nest.out.dims (local g D c) in
          local_is_whole (local g D c) (whole g D c) (to g D c) (entry_for nest.out.dims j) (entry_for nest.out.dims (W j)) 0
          (λ l le none. whole_loop g D c l (split.loop l) (parallel l (entry_none nest.out.dims [] j l long none)))
          (λ l. entry_moved g D c nest.out.dims j l)
          (λ l x e. entry_within (local g D c) nest.out.dims j l x inside' e)
          nest.loops 0 (omega arith) (step_at nest (scalar_cells o.scalars) inputs_c) (step_at nest (scalar_cells o.scalars) o.inputs) (λ p a pt. steps_same p a pt) (Some (at outs_c j))
          ∙ ap (λ z. over_points 0 nest.loops (whole g D c) (entry_for nest.out.dims (W j)) (step_at nest (scalar_cells o.scalars) o.inputs) (Some z)) (held_at g D c split.loop in' nest.out.dims split.output.admitted o.outs j inside)

      pub given_cut : SplitsParallel D nest → (local_op : Op) → IsOperationOf nest local_op → HasLocalTypes g D nest local_op → (seat : Seat)
          → given local_op seat (cuts tensor_splitting (splits_by g D nest) ts c) ≡ Some (cut_of So t c)
      given_cut parallel local_op is_local types seat =
          ap (given local_op seat) cuts_of_all
          ∙ local_given local_op is_local types seat outs_c (shape-cut_of So o.outs c) (width-cut_of So o.outs c ∙ o.outs_fit.width) (λ j. at t (W j))
          (λ j inside. cell_cut parallel j inside ∙ whole_cell (W j) (index_inside j inside))
          ∙ ap (λ u. Some u) cut_built
