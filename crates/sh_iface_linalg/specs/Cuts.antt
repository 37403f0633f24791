-- The local part of a structured operation makes the cut of the result of the cuts of the operands.
use Rattle.std.proofs.Common.{◌≡◌, ◌≢◌, ℕ, zero, suc, ◌+◌, ◌-◌, ◌<◌, Bool, true, false, List, [], ◌∷◌, ◌++◌, map, take, drop, length, Option, Some, None, refl, ap, ap₂, sym, ◌∙◌, arith, subst, inl, inr, ◌⊎◌, append_assoc}
use Rattle.std.proofs.lemmas.Bool.{cases_Bool}
use Rattle.std.proofs.lemmas.List.{drop_all, length-append, length-map, take_all}
use Rattle.std.proofs.lemmas.List.Elements.{recursion_from_All}
use Rattle.std.specs.List.{AllByRecursion, range_with_len}
use Rattle.std.specs.Prelude.{All, ◌&&◌, flat_map, get_or, option_map, pos, if◌then◌else◌}
use Rattle.sh_base.specs.declared.operations.Kind.{Kind}
use Rattle.sh_base.specs.declared.numbers.Width.{Width}
use Rattle.sh_base.specs.Shape.{cell_count}
use Rattle.sh_grid.specs.Grid.{AreApart, GridValue, IsNoneOf}
use Rattle.sh_int.specs.Reduction.{operation_of}
use Rattle.sh_ir.specs.declared.operations.Op.{Op}
use Rattle.sh_ir.specs.declared.types.Dim.{Dim}
use Rattle.sh_ir.specs.declared.types.ValueType.{ValueType}
use Rattle.sh_ir.specs.declared.types.ValueType.TheVariants.{Scalar}
use Rattle.sh_ir.specs.Agreement.{dims_of}
use Rattle.sh_ir.specs.Loops.{copy, structure_of}
use Rattle.sh_ir.specs.declared.operations.OpKind.TheVariants.{AllReduce, Binary}
use Rattle.sh_base.specs.declared.places.Place.{Place}
use Rattle.sh_sem.specs.Scalars.{width_of}
use Rattle.sh_ir.specs.Numbers.{as_naturals}
use Rattle.sh_ir.specs.Typing.{typing_of}
use Rattle.sh_nest_laws.specs.LoopSplits.{AreLoopsApart, AreSplit, HasLocalTypes, IsOperationOf, KeepsWidth, Operand, PlainNest, SplitsParallel, names, scalar_split, sharding_on, split_by, splits_by}
use Rattle.sh_nest_laws.specs.LoopSplits as nest
use Rattle.sh_nest_laws.specs.SplitReduction.{FitsLocal, IsNeutral, fill_division, fill_nest}
use Rattle.sh_nest_laws.proofs.Instances.{fills_are}
use Rattle.sh_nest_laws.proofs.NestCut.{given_cut, result_fits}
use Rattle.sh_nest_laws.proofs.ParallelLaw.{is_local, local_gives, parallel_law}
use Rattle.sh_nest_laws.proofs.SplitLaw.{split_law}
use Rattle.sh_turns.specs.Program.{all_there}
use Rattle.sh_pieces.specs.Instructions.{Semantics, State}
use Rattle.sh_pieces.specs.Promises.{AllFit, HasCuts, IsLocalPart, cuts}
use Rattle.sh_pieces.specs.Runs.{HasRows, RunsTo}
use Rattle.sh_pieces.proofs.Parts.{one_gives}
use Rattle.sh_sem.specs.Given.{alone, built_of, cell_given, given, gives_constant, giving, have_all_extents, shape_given}
use Rattle.sh_sem.specs.Steps.{seat_of, steps_on}
use Rattle.sh_sem.specs.Types.{have_extents}
use Rattle.sh_sharding.specs.declared.shardings.Dimension.{Dimension}
use Rattle.sh_sharding.specs.Cut.{cut_of}
use Rattle.sh_sharding.specs.Sharding.{IsSharding, local_extent, local_shape}
use Rattle.sh_sharding.specs.Splits.{TensorSplit, tensor_splitting}
use Rattle.sh_tensor.specs.Tensor.{TensorValue}
use Rattle.sh_iface.specs.declared.options.Split.{Split}
use Rattle.sh_iface.specs.Meaning.{axes_where, completion, instructions, local_type, operand_count, operand_splits, reduction_axes, result_split}
use Rattle.sh_iface.specs.Splits.{OptionValue, scalar_split as iface_scalar_split, split_at, split_of}
use Rattle.sh_iface.proofs.SplitLists.{splits_counted as option_counted}
use Rattle.sh_iface.specs.Valid.{HaveOwnAxes, IsApartFrom, IsValid}
use Rattle.sh_iface.specs.Whole.{leading_scalars, whole_of}
use Rattle.sh_iface.specs.Elements.{tensor_of}
use Rattle.sh_iface.proofs.ElementCut.{local_extents}
use Rattle.sh_iface_linalg.specs.Structured.{FitsRegion, FitsWidths, Form, IsStructured, known, operands_in, reducing_names, renumbered_form, scalar_widths, splits_reduction, Structured, combining_kind, fill_op, first_rank, input_type, input_types, inputs_at, ins_outs_by, is_fill, kind_at, kind_of_form, local_loop, loop_by, neutral_op, op_by, own_type, part_by, structured_meaning, structured_nest, structured_part, tensor_ins, value_by, whole_op}
use Rattle.sh_iface_linalg.specs.Structured.{fill, matmul, batch_matmul, matvec, vecmat, dot, transpose, broadcast, reduce, generic}
use Rattle.sh_iface_linalg.specs.Loops.{length-range, loops_counted}
use Rattle.sh_iface_linalg.specs.Nests.{HasScalarsLast, is_operation, kind_of_plain, plain_by, plain_keeps, plain_of, same_fill}
use Rattle.sh_iface_linalg.specs.Divisions.{D, are_split, dims_local, divided_by, division_is, no_dims, out_admitted, ins_admitted, split_is, splits_are, splits_parallel, type_is}

-- ---- the types of local tensors

pub typing_is : (form : Form) (ins : List ValueType) (out : ValueType) → typing_of (kind_at form ins out) out ≡ ins ++ out ∷ []
unfolding typing_of
typing_is fill ins out = refl
typing_is matmul ins out = refl
typing_is batch_matmul ins out = refl
typing_is matvec ins out = refl
typing_is vecmat ins out = refl
typing_is dot ins out = refl
typing_is (transpose p) ins out = refl
typing_is (broadcast d) ins out = refl
typing_is (reduce n d r) ins out = refl
typing_is (generic maps its r) ins out = refl

leading_is : (form : Form) (ins : List ValueType) (out : ValueType) → leading_scalars (kind_at form ins out) ≡ (if is_fill form then length ins else 0)
leading_is fill ins out = refl
leading_is matmul ins out = refl
leading_is batch_matmul ins out = refl
leading_is matvec ins out = refl
leading_is vecmat ins out = refl
leading_is dot ins out = refl
leading_is (transpose p) ins out = refl
leading_is (broadcast d) ins out = refl
leading_is (reduce n d r) ins out = refl
leading_is (generic maps its r) ins out = refl

all_known : (types : List ValueType) (out : ValueType) (shapes : List (List ℕ)) (shape : List ℕ) (others : List (List ℕ)) → length types ≡ length shapes → have_all_extents types shapes ≡ true → have_extents (dims_of out) shape ≡ true
    → have_all_extents (types ++ out ∷ []) (shapes ++ shape ∷ others) ≡ true
all_known [] out [] shape others n h o = rw o refl
all_known [] out (s ∷ shapes) shape others n h o = absurd (omega (arith, n))
all_known (t ∷ types) out [] shape others n h o = absurd (omega (arith, n))
all_known (t ∷ types) out (s ∷ shapes) shape others n h o = go (have_extents (dims_of t) s) h (λ more. all_known types out shapes shape others (omega (arith, n)) more o)
  where
    go : (b : Bool) → (b && have_all_extents types shapes) ≡ true → (have_all_extents types shapes ≡ true → have_all_extents (types ++ out ∷ []) (shapes ++ shape ∷ others) ≡ true) → (b && have_all_extents (types ++ out ∷ []) (shapes ++ shape ∷ others)) ≡ true
    go true h f = f h
    go false h f = absurd (cc)

-- ---- axes of different loops

abbrev axes_by : Option Split → List ℕ
axes_by None = []
axes_by (Some split) = split.axes

none_of : (a : ℕ) (axes : List ℕ) → AllByRecursion (λ b. a ≢ b) axes → IsNoneOf a axes
none_of a [] h = tt
none_of a (b ∷ axes) h = (h.0, none_of a axes h.1)

are_apart : (axes others : List ℕ) → AllByRecursion (λ a. All (λ b. a ≢ b) others) axes → AreApart axes others
are_apart [] others h = tt
are_apart (a ∷ axes) others h = (none_of a others (recursion_from_All (λ b. a ≢ b) others h.0), are_apart axes others h.1)

apart_none : (axes : List ℕ) → AreApart axes []
apart_none [] = tt
apart_none (a ∷ axes) = (tt, apart_none axes)

apart_more : (axes : List ℕ) (a : ℕ) (others : List ℕ) → IsNoneOf a axes → AreApart axes others → AreApart axes (a ∷ others)
apart_more [] a others h rest = tt
apart_more (b ∷ axes) a others h rest = ((λ e. h.0 (sym e), rest.0), apart_more axes a others h.1 rest.1)

apart_back : (axes others : List ℕ) → AreApart axes others → AreApart others axes
apart_back [] others h = apart_none others
apart_back (a ∷ axes) others h = apart_more others a axes h.0 (apart_back axes others h.1)

apart_from : (axes : List ℕ) (o : OptionValue) (k : ℕ) → AllByRecursion (IsApartFrom axes) o → AreApart axes (axes_by (split_at o k))
apart_from axes [] k h = apart_none axes
apart_from axes (None ∷ o) zero h = apart_none axes
apart_from axes (Some other ∷ o) zero h = are_apart axes other.axes (recursion_from_All (λ a. All (λ b. a ≢ b) other.axes) axes h.0)
apart_from axes (x ∷ o) (suc k) h = apart_from axes o k h.1

own_apart : (o : OptionValue) (l k : ℕ) → l < k → HaveOwnAxes o → AreApart (axes_by (split_at o l)) (axes_by (split_at o k))
own_apart [] l k lt own = tt
own_apart (None ∷ o) zero k lt own = tt
own_apart (Some split ∷ o) zero zero lt own = absurd (omega (arith, lt))
own_apart (Some split ∷ o) zero (suc k) lt own = apart_from split.axes o k (recursion_from_All (IsApartFrom split.axes) o own.0)
own_apart (x ∷ o) (suc l) zero lt own = absurd (omega (arith, lt))
own_apart (x ∷ o) (suc l) (suc k) lt own = own_apart o l k (omega (arith, lt)) own.1

in_order_or_back : (l k : ℕ) → l ≢ k → (l < k) ⊎ (k < l)
in_order_or_back zero zero h = absurd (h refl)
in_order_or_back zero (suc k) h = inl (omega arith)
in_order_or_back (suc l) zero h = inr (omega arith)
in_order_or_back (suc l) (suc k) h =
    elim (in_order_or_back l k (λ same. h (ap suc same))) [
      | inl lt ↦ inl (omega (arith, lt))
      | inr lt ↦ inr (omega (arith, lt))
    ]

-- ---- the instructions that combine

abbrev pub reduce_op : GridValue → List ℕ → Kind → ℕ → ValueType → Place → Op
reduce_op g axes k last type place = record {
  kind = AllReduce (record { on = record { grid = g.name; grid_axes = map (λ a. pos a) axes }; reduction = k; operand_type = type });
  operands = last ∷ [];
  defines = Some (suc last);
  result = type;
  place = place;
}

abbrev pub join_op : Kind → ℕ → ℕ → ValueType → Place → Op
join_op k outs last type place = record {
  kind = Binary (operation_of k);
  operands = outs ∷ suc last ∷ [];
  defines = Some (suc (suc last));
  result = type;
  place = place;
}

naturals_back : (axes : List ℕ) → as_naturals (map (λ a. pos a) axes) ≡ axes
naturals_back [] = refl
naturals_back (a ∷ axes) = ap (λ ns. a ∷ ns) (naturals_back axes)

-- the constant gives the neutral cell
neutral_is : (e : Structured) (dim : ℕ → Dim) (k : Kind) (name : ℕ) → IsNeutral k e.out.width (neutral_op e dim k name)
unfolding given shape_given cell_given giving gives_constant built_of typing_of
neutral_is e dim k name = record { gives = λ seat. refl }

pub entries : {X : Type 0} (f : ℕ → X) (dims : List ℕ) → map (λ i. f (get_or dims i 0)) (range_with_len 0 (length dims)) ≡ map f dims
entries {X} f dims = go dims 0 (λ i. get_or dims i 0) (λ k lt. let z : 0 + k ≡ k = omega arith in ap (λ i. get_or dims i 0) z)
  where
    go : (ds : List ℕ) (a : ℕ) (read : ℕ → ℕ) → ((k : ℕ) → k < length ds → read (a + k) ≡ get_or ds k 0) → map (λ i. f (read i)) (range_with_len a (length ds)) ≡ map f ds
    go [] a read h = refl
    go (d ∷ ds) a read h =
        let z : a + 0 ≡ a = omega arith in
        ap₂ (λ x xs. f x ∷ xs) (ap read (sym z) ∙ h 0 (omega arith))
        (go ds (a + 1) read (λ k lt. let s : a + 1 + k ≡ a + suc k = omega arith in ap read s ∙ h (suc k) (omega (arith, lt))))

-- ---- the law of a fill

-- the same where the operation is given by an equal function
of_same : (sem : Semantics TensorValue Op) (f h : List TensorValue → Option TensorValue) → ((ts : List TensorValue) → f ts ≡ h ts) → {ss : List TensorSplit} {r : TensorSplit} {ops : List Op}
    → IsLocalPart sem tensor_splitting h ss r ops → IsLocalPart sem tensor_splitting f ss r ops
of_same sem f h same part = record {
  some = part.some;
  numbered = part.numbered;
  fits = λ ts t fit is. part.fits ts t fit (sym (same ts) ∙ is);
  runs = λ ts t st fit is has. part.runs ts t st fit (sym (same ts) ∙ is) has;
}

drop_none : (ts : List TensorValue) → drop (length ts) ts ++ take (length ts) ts ≡ ts
drop_none [] = refl
drop_none (t ∷ ts) = dropped (length (t ∷ ts)) (t ∷ ts) refl
  where
    dropped : (n : ℕ) (ts : List TensorValue) → n ≡ length ts → drop n ts ++ take n ts ≡ ts
    dropped n ts long = ap₂ (λ a b. a ++ b) (drop_all n ts (omega (arith, long))) (take_all n ts (omega (arith, long)))

swapped : (x y : Option TensorValue) (u v : TensorValue) → all_there (x ∷ y ∷ []) ≡ Some (u ∷ v ∷ []) → all_there (y ∷ x ∷ []) ≡ Some (v ∷ u ∷ [])
swapped None y u v e = absurd (cc)
swapped (Some a) None u v e = absurd (cc)
swapped (Some a) (Some b) u v e = ap (λ (o : Option (List TensorValue)). option_map turned o) e
  where
    turned : List TensorValue → List TensorValue
    turned [] = []
    turned (s ∷ []) = s ∷ []
    turned (s ∷ t ∷ ts) = t ∷ s ∷ ts

module _ (g : GridValue) (D : ℕ → Dimension) (loops : ℕ) (form : Form) (v : Width) (out : Operand) (whole_fill local_fill : Op) (whole : List TensorValue → Option TensorValue) where
  abbrev filling : PlainNest
  filling = plain_by loops form (record { dims = []; width = v } ∷ []) out []

  abbrev two_splits : List TensorSplit
  two_splits = split_by g D out ∷ scalar_split g v ∷ []

  filled_part : AreSplit g D filling → SplitsParallel D filling → KeepsWidth filling → IsOperationOf filling whole_fill → IsOperationOf filling local_fill → HasLocalTypes g D filling local_fill
      → local_fill.operands ≡ 1 ∷ 0 ∷ [] → local_fill.defines ≡ Some 2 → ((a b : TensorValue) → whole (a ∷ b ∷ []) ≡ given whole_fill alone (b ∷ a ∷ []))
      → IsLocalPart (steps_on g.extents) tensor_splitting whole two_splits (split_by g D out) (local_fill ∷ [])
  unfolding steps_on
  filled_part split parallel keeps is_whole is_local_op types operands defines turned = record {
    some = omega arith;
    numbered = (defines, tt);
    fits = fits;
    runs = runs;
  }
    where
      fits : (ts : List TensorValue) (t : TensorValue) → AllFit tensor_splitting two_splits ts → whole ts ≡ Some t → tensor_splitting.Fits (split_by g D out) t
      fits [] t fit is = absurd fit
      fits (a ∷ []) t fit is = absurd fit.1
      fits (a ∷ b ∷ []) t fit is = result_fits g D filling split keeps whole_fill is_whole (b ∷ a ∷ []) (fit.1.0, (fit.0, tt)) t (sym (turned a b) ∙ is)
      fits (a ∷ b ∷ c ∷ ts) t fit is = absurd fit.1.1

      runs : (ts : List TensorValue) (t : TensorValue) (st : State TensorValue) → AllFit tensor_splitting two_splits ts → whole ts ≡ Some t
          → HasRows (steps_on g.extents) (range_with_len 0 2) (cuts tensor_splitting two_splits ts) st
          → RunsTo (steps_on g.extents) (local_fill ∷ []) st (HasCuts (steps_on g.extents) tensor_splitting 2 (split_by g D out) t)
      runs [] t st fit is has = absurd fit
      runs (a ∷ []) t st fit is has = absurd fit.1
      runs (a ∷ b ∷ c ∷ ts) t st fit is has = absurd fit.1.1
      runs (a ∷ b ∷ []) t st fit is has =
          one_gives (steps_on g.extents) tensor_splitting local_fill st 2 (split_by g D out) t defines (λ c lt.
          local_gives g.extents local_fill st c (1 ∷ 0 ∷ []) (cuts tensor_splitting (splits_by g D filling) (b ∷ a ∷ []) c) (cut_of (sharding_on g D out.dims) t c) lt
          (is_local local_fill.kind is_local_op.structure is_local_op.is) operands
          (swapped (st c 0) (st c 1) (cut_of (sharding_on g D out.dims) a c) (cut_of (sharding_on g D []) b c) (has c lt))
          (given_cut g D filling split keeps whole_fill is_whole (b ∷ a ∷ []) (fit.1.0, (fit.0, tt)) t (sym (turned a b) ∙ is) c lt parallel local_fill is_local_op types (seat_of g.extents local_fill c)))

pub no_kind : (form : Form) (b : Bool) → is_fill form ≡ true → (if b then kind_of_form form else None) ≡ None
no_kind fill true h = refl
no_kind fill false h = refl
no_kind matmul b h = absurd (cc)
no_kind batch_matmul b h = absurd (cc)
no_kind matvec b h = absurd (cc)
no_kind vecmat b h = absurd (cc)
no_kind dot b h = absurd (cc)
no_kind (transpose p) b h = absurd (cc)
no_kind (broadcast d) b h = absurd (cc)
no_kind (reduce n d r) b h = absurd (cc)
no_kind (generic maps its r) b h = absurd (cc)

one_scalar : (ins : List Operand) (w : Width) → [] ∷ [] ≡ map (λ (x : Operand). x.dims) ins → map (λ (x : Operand). x.width) ins ≡ w ∷ [] → ins ≡ record { dims = []; width = w } ∷ []
one_scalar [] w h fits = absurd (cc)
one_scalar (x ∷ []) w h fits =
    ap₂ (λ ds v. record { dims = ds; width = v } ∷ []) (sym (ap (λ (xs : List (List ℕ)). get_or xs 0 []) h)) (ap (λ (ws : List Width). get_or ws 0 w) fits)
one_scalar (x ∷ y ∷ ins) w h fits = absurd (cc)

pub scalar_input : (form : Form) (ins : List Operand) (out : Operand) → is_fill form ≡ true → (f r : ℕ) → inputs_at form f r ≡ map (λ x. x.dims) ins → FitsWidths form out.width (map (λ x. x.width) ins)
    → ins ≡ record { dims = []; width = out.width } ∷ []
scalar_input fill ins out b f r h fits = one_scalar ins out.width h fits
scalar_input matmul ins out b f r h fits = absurd (cc)
scalar_input batch_matmul ins out b f r h fits = absurd (cc)
scalar_input matvec ins out b f r h fits = absurd (cc)
scalar_input vecmat ins out b f r h fits = absurd (cc)
scalar_input dot ins out b f r h fits = absurd (cc)
scalar_input (transpose p) ins out b f r h fits = absurd (cc)
scalar_input (broadcast d) ins out b f r h fits = absurd (cc)
scalar_input (reduce n d c) ins out b f r h fits = absurd (cc)
scalar_input (generic maps its c) ins out b f r h fits = absurd (cc)

-- and no scalars of a region
pub no_captured : (form : Form) (scalars ins : List Width) (w : Width) → is_fill form ≡ true → FitsRegion form scalars ins w → scalars ≡ []
no_captured fill scalars ins w b h = h
no_captured matmul scalars ins w b h = absurd (cc)
no_captured batch_matmul scalars ins w b h = absurd (cc)
no_captured matvec scalars ins w b h = absurd (cc)
no_captured vecmat scalars ins w b h = absurd (cc)
no_captured dot scalars ins w b h = absurd (cc)
no_captured (transpose p) scalars ins w b h = absurd (cc)
no_captured (broadcast d) scalars ins w b h = absurd (cc)
no_captured (reduce n d c) scalars ins w b h = absurd (cc)
no_captured (generic maps its c) scalars ins w b h = absurd (cc)

-- ---- the names of the scalars

range_dropped : (b k c n : ℕ) → n ≡ k + c → drop k (range_with_len b n) ≡ range_with_len (b + k) c
range_dropped b zero c n e = let z : b ≡ b + 0 = omega arith in let m : n ≡ c = omega (arith, e) in ap₂ range_with_len z m
range_dropped b (suc k) c zero e = absurd (omega (arith, e))
range_dropped b (suc k) c (suc n) e = range_dropped (b + 1) k c n (omega (arith, e)) ∙ (let z : b + 1 + k ≡ b + suc k = omega arith in ap (λ m. range_with_len m c) z)

behind_front : (xs ys : List ℕ) (x n : ℕ) → length xs ≡ n → drop (n + 1) (xs ++ x ∷ ys) ≡ ys
behind_front xs ys x n long = let z : n + 1 ≡ suc n = omega arith in ap (λ m. drop m (xs ++ x ∷ ys)) z ∙ go xs n long
  where
    go : (xs : List ℕ) (n : ℕ) → length xs ≡ n → drop (suc n) (xs ++ x ∷ ys) ≡ ys
    go [] zero e = refl
    go [] (suc n) e = absurd (omega (arith, e))
    go (y ∷ xs) zero e = absurd (omega (arith, e))
    go (y ∷ xs) (suc n) e = go xs n (omega (arith, e))

pub scalars_last : (e : Structured) → HasScalarsLast e (range_with_len 0 (operands_in e))
scalars_last e = range_dropped 0 (length e.ins + 1) (length e.captured) (operands_in e) refl ∙ (let z : 0 + (length e.ins + 1) ≡ length e.ins + 1 = omega arith in ap (λ n. range_with_len n (length e.captured)) z)

pub scalars_reducing : (e : Structured) (outs : ℕ) → HasScalarsLast e (reducing_names e outs)
scalars_reducing e outs = behind_front (range_with_len 0 (length e.ins)) (range_with_len (length e.ins + 1) (length e.captured)) outs (length e.ins) (length-range 0 (length e.ins))

pub none_last : (e : Structured) (a b : ℕ) → length e.ins ≡ 1 → length e.captured ≡ 0 → HasScalarsLast e (a ∷ b ∷ [])
none_last e a b one none = ap (λ n. drop (n + 1) (a ∷ b ∷ [])) one ∙ ap (range_with_len (length e.ins + 1)) (sym none)

module _ (e : Structured) (is : IsStructured e) (g : GridValue) (o : OptionValue) (valid : IsValid (structured_nest e) g o) where
  abbrev E : ℕ → Dimension
  E = D e is g o valid

  abbrev local : ℕ → Dim
  local = local_loop e.extents g o

  -- what a type says of the cut of a tensor is so
  extents_hold : (x : Operand) → IsSharding (sharding_on g E x.dims) → (c : ℕ) → c < cell_count g.extents → have_extents (map local x.dims) (local_shape (sharding_on g E x.dims) c) ≡ true
  extents_hold x ok c lt = subst (λ ds. have_extents ds (local_shape (sharding_on g E x.dims) c) ≡ true) (dims_local g o e.extents x.dims) (local_extents (sharding_on g E x.dims) c ok lt)

  abbrev in_shapes : ℕ → List (List ℕ)
  in_shapes c = map (λ (x : Operand). local_shape (sharding_on g E x.dims) c) e.ins

  tensors_known : (c : ℕ) → c < cell_count g.extents → is_fill e.form ≡ false → (ins : List Operand) → AllByRecursion (λ (x : Operand). IsSharding (sharding_on g E x.dims)) ins
      → have_all_extents (map (λ (x : Operand). input_type e.form (map local x.dims) x.width) ins) (map (λ (x : Operand). local_shape (sharding_on g E x.dims) c) ins) ≡ true
  tensors_known c lt tensors [] ok = refl
  tensors_known c lt tensors (x ∷ ins) ok = let first = extents_hold x ok.0 c lt in let rest = tensors_known c lt tensors ins ok.1 in rw tensors (rw (first, rest) refl)

  scalars_known : (c : ℕ) → is_fill e.form ≡ true → (ins : List Operand) → AllByRecursion (λ (x : Operand). x.dims ≡ []) ins
      → have_all_extents (map (λ (x : Operand). input_type e.form (map local x.dims) x.width) ins) (map (λ (x : Operand). local_shape (sharding_on g E x.dims) c) ins) ≡ true
  scalars_known c filling [] none = refl
  scalars_known c filling (x ∷ ins) none = let first = none.0 in let rest = scalars_known c filling ins none.1 in rw filling (rw (first, rest) refl)

  inputs_known : (c : ℕ) → c < cell_count g.extents → have_all_extents (input_types e local) (in_shapes c) ≡ true
  inputs_known c lt =
      elim (cases_Bool (is_fill e.form)) [
        | inl b ↦ scalars_known c b e.ins (no_dims e is g o valid e.ins (first_rank e.ins) (length e.out.dims) e.form b is.inputs)
        | inr b ↦ tensors_known c lt b e.ins (ins_admitted e is g o valid)
      ]

  abbrev scalar_shapes : ℕ → List (List ℕ)
  scalar_shapes c = map (λ s. local_shape s.sharding c) (map (scalar_split g) e.captured)

  shapes_are : (c : ℕ) (ins : List Operand) → map (λ s. local_shape s.sharding c) (map (split_by g E) ins ++ split_by g E e.out ∷ map (scalar_split g) e.captured) ≡ map (λ (x : Operand). local_shape (sharding_on g E x.dims) c) ins ++ local_shape (sharding_on g E e.out.dims) c ∷ scalar_shapes c
  shapes_are c [] = refl
  shapes_are c (x ∷ ins) = ap (λ ss. local_shape (sharding_on g E x.dims) c ∷ ss) (shapes_are c ins)

  pub result_known : (c : ℕ) → c < cell_count g.extents → have_extents (map local e.out.dims) (local_shape (sharding_on g E e.out.dims) c) ≡ true
  result_known c lt = extents_hold e.out (out_admitted e is g o valid) c lt

  local_types : (operands : List ℕ) (name : ℕ) → HasLocalTypes g E (plain_of e) (op_by e local operands name)
  local_types operands name = record {
    operands = λ c lt.
        let counted : length (input_types e local) ≡ length (in_shapes c) = length-map e.ins (λ (x : Operand). input_type e.form (map local x.dims) x.width) ∙ sym (length-map e.ins (λ (x : Operand). local_shape (sharding_on g E x.dims) c)) in
        ap₂ (λ types shapes. have_all_extents types shapes) (typing_is (renumbered_form (length e.ins + 1) (name + 1) e.form) (input_types e local) (tensor_of (map local e.out.dims) e.out.width)) (shapes_are c e.ins)
        ∙ all_known (input_types e local) (tensor_of (map local e.out.dims) e.out.width) (in_shapes c) (local_shape (sharding_on g E e.out.dims) c) (scalar_shapes c) counted (inputs_known c lt) (result_known c lt);
    result = λ c lt. result_known c lt;
  }

  -- ---- how many

  pub splits_counted : length (splits_by g E (plain_of e)) ≡ operands_in e
  splits_counted =
      let a = length-append (map (split_by g E) e.ins) (split_by g E e.out ∷ map (scalar_split g) e.captured) in
      let b = length-map e.ins (split_by g E) in
      let c = length-map e.captured (scalar_split g) in
      omega (arith, a, b, c)

  -- the operation on whole tensors is such a nest
  whole_operation : IsOperationOf (plain_of e) (whole_op e)
  whole_operation = is_operation e is (known e.extents) (range_with_len 0 (operands_in e)) (operands_in e) (scalars_last e) (omega arith)

  -- ---- where nothing is combined

  part_parallel : combining_kind e o ≡ None → is_fill e.form ≡ false
      → IsLocalPart (steps_on g.extents) tensor_splitting (given (whole_op e) alone) (splits_by g E (plain_of e)) (split_by g E e.out) (op_by e local (range_with_len 0 (operands_in e)) (operands_in e) ∷ [])
  part_parallel none tensors =
      parallel_law g E (plain_of e) (whole_op e) (op_by e local (range_with_len 0 (operands_in e)) (operands_in e))
      (record {
        split = are_split e is g o valid;
        parallel = splits_parallel e is g o valid none;
        keeps = plain_keeps e is;
        whole = whole_operation;
        local = is_operation e is local (range_with_len 0 (operands_in e)) (operands_in e) (scalars_last e) (omega arith);
        types = local_types (range_with_len 0 (operands_in e)) (operands_in e);
        operands = ap (range_with_len 0) (sym splits_counted);
        defines = ap (λ n. Some n) (sym splits_counted);
      })

  -- ---- where parts are combined

  pub loops_apart : HaveOwnAxes o → AreLoopsApart E (plain_of e)
  loops_apart own l k reduced differ = ap_apart (division_axes k) (division_axes l) (pair (in_order_or_back l k differ))
    where
      division_axes : (l : ℕ) → (E l).axes ≡ axes_by (split_at o l)
      division_axes l = ap (λ (d : Dimension). d.axes) (division_is e is g o valid l) ∙ go (split_at o l)
        where
          go : (x : Option Split) → (divided_by g.extents (get_or e.extents l 0) x).axes ≡ axes_by x
          go None = refl
          go (Some split) = refl

      pair : (l < k) ⊎ (k < l) → AreApart (axes_by (split_at o k)) (axes_by (split_at o l))
      pair (inl lt) = apart_back (axes_by (split_at o l)) (axes_by (split_at o k)) (own_apart o l k lt own)
      pair (inr lt) = own_apart o k l lt own

      ap_apart : {a b c d : List ℕ} → a ≡ c → b ≡ d → AreApart c d → AreApart a b
      ap_apart {b = b} {c = c} same other h = subst (λ xs. AreApart xs b) (sym same) (subst (AreApart c) (sym other) h)

  filled_types : (k : Kind) → HasLocalTypes g (fill_division E e.out) (fill_nest e.out) (fill_op e local (length e.ins) (operands_in e))
  unfolding typing_of
  filled_types k = record {
    operands = λ c lt. let known = result_filled c lt in rw known refl;
    result = λ c lt. result_filled c lt;
  }
    where
      result_filled : (c : ℕ) → c < cell_count g.extents → have_extents (map local e.out.dims) (local_shape (sharding_on g (fill_division E e.out) (range_with_len 0 (length e.out.dims))) c) ≡ true
      result_filled c lt = subst (λ ds. have_extents (map local e.out.dims) (map (local_extent g.extents c) ds) ≡ true) (sym (entries E e.out.dims)) (result_known c lt)

  fill_structure : structure_of (fill_op e local (length e.ins) (operands_in e)).kind ≡ Some (copy (ins_outs_by (Scalar e.out.width ∷ []) (own_type e local)) [])
  unfolding structure_of
  fill_structure = refl

  part_split : (k : Kind) → kind_of_form e.form ≡ Some k → (outs last : ℕ) (axes : List ℕ) (type : ValueType) → outs ≡ length e.ins → last ≡ suc (suc (operands_in e))
      → axes ≡ nest.reduction_axes E (plain_of e) → type ≡ own_type e local → HaveOwnAxes o
      → IsLocalPart (steps_on g.extents) tensor_splitting (given (whole_op e) alone) (splits_by g E (plain_of e)) (split_by g E e.out)
      (neutral_op e local k (operands_in e) ∷ fill_op e local (length e.ins) (operands_in e) ∷ op_by e local (reducing_names e (suc (operands_in e))) (suc (suc (operands_in e)))
      ∷ reduce_op g axes k last type e.place ∷ join_op k outs last type e.place ∷ [])
  part_split k has outs last axes type outs_is last_is axes_are type_is apart =
      let kinded = kind_of_plain e is k has in
      let name : operands_in e ≡ length (splits_by g E (plain_of e)) = sym splits_counted in
      let second : suc (operands_in e) ≡ suc (length (splits_by g E (plain_of e))) = ap suc name in
      let third : suc (suc (operands_in e)) ≡ suc (suc (length (splits_by g E (plain_of e)))) = ap (λ n. suc (suc n)) name in
      let fourth : suc last ≡ suc (suc (suc (length (splits_by g E (plain_of e))))) = ap suc (last_is ∙ third) in
      let fits : FitsLocal g E e.out type = λ c lt. subst (λ t. have_extents (dims_of t) (local_shape (sharding_on g E e.out.dims) c) ≡ true) (sym type_is) (result_known c lt) in
      let width : width_of type ≡ e.out.width = ap width_of type_is in
      split_law g E (plain_of e) k kinded.term (whole_op e) (neutral_op e local k (operands_in e)) (fill_op e local (length e.ins) (operands_in e))
      (op_by e local (reducing_names e (suc (operands_in e))) (suc (suc (operands_in e)))) (reduce_op g axes k last type e.place) (join_op k outs last type e.place)
      (record {
        split = are_split e is g o valid;
        apart = loops_apart apart;
        has_kind = kinded.has;
        whole = whole_operation;
        neutral = neutral_is e local k (operands_in e);
        neutral_step = record { alone = refl; operands = refl; defines = ap (λ n. Some n) name };
        filled = fills_are (ins_outs_by (Scalar e.out.width ∷ []) (own_type e local)) e.out (fill_op e local (length e.ins) (operands_in e)) fill_structure (length-map e.out.dims local) refl;
        filled_types = filled_types k;
        filled_step = record { alone = refl; operands = ap (λ n. n ∷ length e.ins ∷ []) name; defines = ap (λ n. Some n) second };
        local = is_operation e is local (reducing_names e (suc (operands_in e))) (suc (suc (operands_in e))) (scalars_reducing e (suc (operands_in e))) (omega arith);
        local_types = local_types (reducing_names e (suc (operands_in e))) (suc (suc (operands_in e)));
        local_step = record {
          alone = is_local (kind_at (renumbered_form (length e.ins + 1) (suc (suc (operands_in e)) + 1) e.form) (input_types e local) (own_type e local)) _ (is_operation e is local (reducing_names e (suc (operands_in e))) (suc (suc (operands_in e))) (scalars_reducing e (suc (operands_in e))) (omega arith)).is;
          operands = ap₂ (λ n m. range_with_len 0 (length e.ins) ++ n ∷ range_with_len m (length e.captured)) second (let z : length e.ins + 1 ≡ suc (length e.ins) = omega arith in z);
          defines = ap (λ n. Some n) third;
        };
        combination = record {
          reduce = record { on = record { grid = g.name; grid_axes = map (λ a. pos a) axes }; reduction = k; operand_type = type };
          kind = refl;
          reduction = refl;
          axes = naturals_back axes ∙ axes_are;
          width = width;
          operand = fits;
          result = fits;
        };
        combined_operands = ap (λ n. n ∷ []) (last_is ∙ third);
        combined_name = ap (λ n. Some n) fourth;
        joining = record { kind = refl; width = width; result = fits };
        joined_step = record { alone = refl; operands = ap₂ (λ a b. a ∷ b ∷ []) outs_is fourth; defines = ap (λ n. Some (suc n)) fourth };
      })

  -- ---- the same in terms of the option

  pub counted_tensors : is_fill e.form ≡ false → length (structured_nest e).operands ≡ length e.ins + 1
  unfolding structured_nest
  counted_tensors tensors =
      length-map (tensor_ins e ++ e.out ∷ []) (value_by e.extents) ∙ length-append (tensor_ins e) (e.out ∷ []) ∙ ap (λ (b : Bool). length (if b then [] else e.ins) + 1) tensors

  pub own_scalars : is_fill e.form ≡ false → scalar_widths e ≡ e.captured
  own_scalars tensors = ap (λ (b : Bool). if b then map (λ (x : Operand). x.width) e.ins else e.captured) tensors

  pub all_counted : is_fill e.form ≡ false → operand_count (structured_meaning e) ≡ operands_in e
  all_counted tensors = ap₂ (λ a b. a + b) (counted_tensors tensors) (ap (λ (ws : List Width). length ws) (own_scalars tensors))

  split_of_result : result_split (structured_meaning e) g o ≡ split_by g E e.out
  unfolding structured_nest
  split_of_result = split_is g (structured_nest e) o e.extents e.out

  pub type_of_result : local_type (result_split (structured_meaning e) g o) ≡ own_type e local
  unfolding structured_nest
  type_of_result = type_is g (structured_nest e) o e.extents e.out

  splits_more : (ins : List Operand) → map (split_of g (structured_nest e) o) (map (value_by e.extents) (ins ++ e.out ∷ [])) ≡ map (split_by g E) ins ++ split_by g E e.out ∷ []
  splits_more [] = splits_are g (structured_nest e) o e.extents (e.out ∷ [])
  splits_more (x ∷ ins) = ap₂ ◌∷◌ (split_is g (structured_nest e) o e.extents x) (splits_more ins)

  splits_of_operands : is_fill e.form ≡ false → operand_splits (structured_meaning e) g o ≡ splits_by g E (plain_of e)
  unfolding structured_nest
  splits_of_operands tensors =
      ap₂ (λ ins ws. map (split_of g (structured_nest e) o) (map (value_by e.extents) (ins ++ e.out ∷ [])) ++ map (iface_scalar_split g) ws)
      (ap (λ (b : Bool). if b then [] else e.ins) tensors) (own_scalars tensors)
      ∙ ap (λ ss. ss ++ map (iface_scalar_split g) e.captured) (splits_more e.ins)
      ∙ append_assoc (map (split_by g E) e.ins) (split_by g E e.out ∷ []) (map (scalar_split g) e.captured)

  -- the axes along which its reduction loops are split
  axes_from : (k : Kind) → kind_of_form e.form ≡ Some k → (b n : ℕ) (rest : OptionValue) → length rest ≡ n → ((i : ℕ) → split_at rest i ≡ split_at o (b + i))
      → reduction_axes (map (loop_by e) (range_with_len b n)) rest ≡ flat_map (λ l. if names e.out.dims l then [] else (E l).axes) (range_with_len b n)
  axes_from k has b zero rest long same = refl
  axes_from k has b (suc n) [] long same = absurd (omega (arith, long))
  axes_from k has b (suc n) (x ∷ rest) long same =
      let here : x ≡ split_at o b = same 0 ∙ (let z : b + 0 ≡ b = omega arith in ap (split_at o) z) in
      ap₂ (λ a b. a ++ b) (go (names e.out.dims b) x here) (axes_from k has (b + 1) n rest (omega (arith, long)) (λ i. same (suc i) ∙ (let z : b + suc i ≡ b + 1 + i = omega arith in ap (split_at o) z)))
    where
      go : (t : Bool) (x : Option Split) → x ≡ split_at o b → axes_where (if t then None else kind_of_form e.form) x ≡ (if t then [] else (E b).axes)
      go true x here = refl
      go false x here = ap (λ kind. axes_where kind x) has ∙ ap (axes_where (Some k)) here ∙ by_kind (split_at o b) ∙ sym (ap (λ (d : Dimension). d.axes) (division_is e is g o valid b))
        where
          by_kind : (x : Option Split) → axes_where (Some k) x ≡ (divided_by g.extents (get_or e.extents b 0) x).axes
          by_kind None = refl
          by_kind (Some split) = refl

  pub axes_are : (k : Kind) → kind_of_form e.form ≡ Some k → reduction_axes (structured_nest e).loops o ≡ nest.reduction_axes E (plain_of e)
  unfolding structured_nest
  axes_are k has =
      let counted = loops_counted e is in
      let all = option_counted g.extents (structured_nest e).loops o valid.splits in
      axes_from k has 0 (length e.extents) o (all ∙ counted) (λ i. let z : i ≡ 0 + i = omega arith in ap (split_at o) z)

  -- ---- what it gives of whole operands

  whole_is : is_fill e.form ≡ false → (ts : List TensorValue) → whole_of (whole_op e) ts ≡ given (whole_op e) alone ts
  unfolding whole_of
  whole_is tensors ts =
      let none = leading_is (renumbered_form (length e.ins + 1) (operands_in e + 1) e.form) (input_types e (known e.extents)) (whole_op e).result
      ∙ ap (λ (b : Bool). if b then length (input_types e (known e.extents)) else 0) (same_fill (length e.ins + 1) (operands_in e + 1) e.form) ∙ ap (λ (b : Bool). if b then length (input_types e (known e.extents)) else 0) tensors in
      ap (λ n. given (whole_op e) alone (drop (length ts - n) ts ++ take (length ts - n) ts)) none
      ∙ (let z : length ts - 0 ≡ length ts = omega arith in ap (λ n. given (whole_op e) alone (drop n ts ++ take n ts)) z)
      ∙ ap (given (whole_op e) alone) (drop_none ts)

  whole_swapped : is_fill e.form ≡ true → length e.ins ≡ 1 → (a b : TensorValue) → whole_of (whole_op e) (a ∷ b ∷ []) ≡ given (whole_op e) alone (b ∷ a ∷ [])
  unfolding whole_of
  whole_swapped filling one a b =
      let first = leading_is (renumbered_form (length e.ins + 1) (operands_in e + 1) e.form) (input_types e (known e.extents)) (whole_op e).result
      ∙ ap (λ (b : Bool). if b then length (input_types e (known e.extents)) else 0) (same_fill (length e.ins + 1) (operands_in e + 1) e.form) ∙ ap (λ (b : Bool). if b then length (input_types e (known e.extents)) else 0) filling
      ∙ length-map e.ins (λ (x : Operand). input_type e.form (map (known e.extents) x.dims) x.width) ∙ one in
      ap (λ n. given (whole_op e) alone (drop (2 - n) (a ∷ b ∷ []) ++ take (2 - n) (a ∷ b ∷ []))) first

  -- ---- the local part

  pub instructions_by : (k : Option Kind) → combining_kind e o ≡ k → instructions (structured_meaning e) g o
      ≡ (part_by e local k).ops ++ completion (structured_meaning e) g o (part_by e local k).combine (operand_count (structured_meaning e) + length (part_by e local k).ops - 1)
  unfolding instructions structured_part
  instructions_by k has = ap (λ k. (part_by e local k).ops ++ completion (structured_meaning e) g o (part_by e local k).combine (operand_count (structured_meaning e) + length (part_by e local k).ops - 1)) has

  abbrev Cuts : List Op → Type 0
  Cuts is = IsLocalPart (steps_on g.extents) tensor_splitting (structured_meaning e).whole (operand_splits (structured_meaning e) g o) (result_split (structured_meaning e) g o) is

  as_meant : (ops : List Op) → is_fill e.form ≡ false → IsLocalPart (steps_on g.extents) tensor_splitting (given (whole_op e) alone) (splits_by g E (plain_of e)) (split_by g E e.out) ops → Cuts ops
  as_meant ops tensors part =
      subst (λ ss. IsLocalPart (steps_on g.extents) tensor_splitting (whole_of (whole_op e)) ss (result_split (structured_meaning e) g o) ops) (sym (splits_of_operands tensors))
      (subst (λ r. IsLocalPart (steps_on g.extents) tensor_splitting (whole_of (whole_op e)) (splits_by g E (plain_of e)) r ops) (sym split_of_result)
      (of_same (steps_on g.extents) (whole_of (whole_op e)) (given (whole_op e) alone) (whole_is tensors) part))

  pub form_kind : (k : Kind) → combining_kind e o ≡ Some k → kind_of_form e.form ≡ Some k
  unfolding combining_kind
  form_kind k has = go (splits_reduction (structured_nest e).loops o) has
    where
      go : (b : Bool) → (if b then kind_of_form e.form else None) ≡ Some k → kind_of_form e.form ≡ Some k
      go true h = h
      go false h = absurd (cc)

  tensors_part : (k : Option Kind) → combining_kind e o ≡ k → is_fill e.form ≡ false → Cuts (instructions (structured_meaning e) g o)
  tensors_part None none tensors =
      subst Cuts (sym (instructions_by None none ∙ ap (λ ns. op_by e local ns (operands_in e) ∷ []) (ap (λ (b : Bool). if b then 1 ∷ 0 ∷ [] else range_with_len 0 (operands_in e)) tensors)))
      (as_meant _ tensors (part_parallel none tensors))
  tensors_part (Some k) has tensors =
      let count = all_counted tensors in
      let tensors_count = counted_tensors tensors in
      let form = form_kind k has in
      subst Cuts (sym (instructions_by (Some k) has))
      (as_meant _ tensors
      (part_split k form (length (structured_nest e).operands - 1) (operand_count (structured_meaning e) + 3 - 1) (reduction_axes (structured_nest e).loops o) (local_type (result_split (structured_meaning e) g o))
      (omega (arith, tensors_count)) (omega (arith, count)) (axes_are k form) type_of_result valid.apart))

  -- ---- a fill, whose scalar is the last operand of the local part

  fill_part : is_fill e.form ≡ true → Cuts (instructions (structured_meaning e) g o)
  unfolding structured_nest combining_kind
  fill_part filling =
      let none : combining_kind e o ≡ None = no_kind e.form (splits_reduction (structured_nest e).loops o) filling in
      let ins : e.ins ≡ record { dims = []; width = e.out.width } ∷ [] = scalar_input e.form e.ins e.out filling (first_rank e.ins) (length e.out.dims) is.inputs is.widths in
      let own : e.captured ≡ [] = no_captured e.form e.captured (map (λ (x : Operand). x.width) e.ins) e.out.width filling is.region in
      let one : length e.ins ≡ 1 = ap length ins in
      let zero_more : length e.captured ≡ 0 = ap length own in
      let two : operands_in e ≡ 2 = omega (arith, one, zero_more) in
      let last : HasScalarsLast e (1 ∷ 0 ∷ []) = none_last e 1 0 one zero_more in
      let local_is = is_operation e is local (1 ∷ 0 ∷ []) 2 last (omega (arith, two)) in
      let part = filled_part g E (length e.extents) e.form e.out.width e.out (whole_op e) (op_by e local (1 ∷ 0 ∷ []) 2) (whole_of (whole_op e))
      (on_fill (λ nest. AreSplit g E nest) ins own (are_split e is g o valid))
      (splits_parallel e is g o valid none)
      (on_fill KeepsWidth ins own (plain_keeps e is))
      (on_fill (λ nest. IsOperationOf nest (whole_op e)) ins own whole_operation)
      (on_fill (λ nest. IsOperationOf nest (op_by e local (1 ∷ 0 ∷ []) 2)) ins own local_is)
      (on_fill (λ nest. HasLocalTypes g E nest (op_by e local (1 ∷ 0 ∷ []) 2)) ins own (local_types (1 ∷ 0 ∷ []) 2))
      refl refl (whole_swapped filling one) in
      let splits : operand_splits (structured_meaning e) g o ≡ split_by g E e.out ∷ scalar_split g e.out.width ∷ [] =
      ap₂ (λ xs ws. map (split_of g (structured_nest e) o) (map (value_by e.extents) (xs ++ e.out ∷ [])) ++ map (iface_scalar_split g) ws)
      (ap (λ (b : Bool). if b then [] else e.ins) filling)
      (ap (λ (b : Bool). if b then map (λ (x : Operand). x.width) e.ins else e.captured) filling ∙ ap (map (λ (x : Operand). x.width)) ins)
      ∙ ap (λ s. s ∷ scalar_split g e.out.width ∷ []) (split_is g (structured_nest e) o e.extents e.out) in
      subst Cuts (sym (instructions_by None none ∙ ap₂ (λ ns n. op_by e local ns n ∷ []) (ap (λ (b : Bool). if b then 1 ∷ 0 ∷ [] else range_with_len 0 (operands_in e)) filling) two))
      (subst (λ ss. IsLocalPart (steps_on g.extents) tensor_splitting (whole_of (whole_op e)) ss (result_split (structured_meaning e) g o) (op_by e local (1 ∷ 0 ∷ []) 2 ∷ [])) (sym splits)
      (subst (λ r. IsLocalPart (steps_on g.extents) tensor_splitting (whole_of (whole_op e)) (split_by g E e.out ∷ scalar_split g e.out.width ∷ []) r (op_by e local (1 ∷ 0 ∷ []) 2 ∷ [])) (sym split_of_result) part))
    where
      on_fill : (P : PlainNest → Type 0) → e.ins ≡ record { dims = []; width = e.out.width } ∷ [] → e.captured ≡ [] → P (plain_of e) → P (plain_by (length e.extents) e.form (record { dims = []; width = e.out.width } ∷ []) e.out [])
      on_fill P ins own h = subst (λ ws. P (plain_by (length e.extents) e.form (record { dims = []; width = e.out.width } ∷ []) e.out ws)) own (subst (λ xs. P (plain_by (length e.extents) e.form xs e.out e.captured)) ins h)

  pub part_cuts : Cuts (instructions (structured_meaning e) g o)
  part_cuts =
      elim (cases_Bool (is_fill e.form)) [
        | inl b ↦ fill_part b
        | inr b ↦ tensors_part (combining_kind e o) refl b
      ]
