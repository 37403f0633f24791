-- Reduction loops split along axes: the cells that the devices of a group put together are parts of the
-- whole's.
use Rattle.std.proofs.Common.{◌≡◌, ℕ, zero, suc, ◌+◌, ◌<◌, Bool, true, false, List, [], ◌∷◌, ◌++◌, map, get_or, length, Option, Some, None, refl, ap, ap₂, sym, ◌∙◌, arith, subst, inl, inr}
use Rattle.std.specs.Prelude.{◌==◌, ◌||◌, option_map, unwrap_or, is_some, flat_map, if◌then◌else◌}
use Rattle.std.specs.List.{range_with_len, AllByRecursion}
use Rattle.std.proofs.lemmas.Bool.{cases_Bool}
use Rattle.std.proofs.lemmas.Bool.Decides.{nat_tests}
use Rattle.std.proofs.lemmas.List.{length-map}
use Rattle.std.proofs.lemmas.Option.{same_Some}
use Rattle.sh_base.specs.declared.numbers.Cell.{Cell}
use Rattle.sh_base.specs.declared.numbers.Cell.TheVariants.{Undef}
use Rattle.sh_base.specs.declared.operations.Kind.{Kind}
use Rattle.sh_base.specs.Cells.{IsCellOf}
use Rattle.sh_base.specs.Shape.{cell_count, IsIndexOf}
use Rattle.sh_base.proofs.ShapeLaws.{IsIndexOf-length}
use Rattle.sh_grid.specs.Grid.{GridValue, AreApart, group_of, group_size_of, member_of, place_in}
use Rattle.sh_grid.proofs.GroupLaws.{group_of-own, length-group_of, place_in-below, places_stay, member_of-agrees}
use Rattle.sh_int.specs.Reduction.{combine_of, neutral_of, CombineLaws}
use Rattle.sh_int.proofs.ReductionLaws.{combine_laws}
use Rattle.sh_ir.specs.declared.operations.Op.{Op}
use Rattle.sh_sem.specs.Given.{Seat, alone, given}
use Rattle.sh_tensor.specs.Tensor.{TensorValue, at, build}
use Rattle.sh_tensor.proofs.TensorLaws.{at-build}
use Rattle.sh_sharding.specs.declared.shardings.Dimension.{Dimension}
use Rattle.sh_sharding.specs.Sharding.{ShardingValue, part_of, part_size, size_in, local_extent, local_shape}
use Rattle.sh_sharding.specs.Cut.{whole_index}
use Rattle.sh_sharding.specs.Splits.{tensor_splitting}
use Rattle.sh_pieces.specs.Promises.{AllFit}
use Rattle.sh_nest_laws.specs.Folds.{total, lifted, IfThere}
use Rattle.sh_nest_laws.specs.LoopSplits.{PlainNest, AreCellsOf, AreSplit, AreLoopsApart, IsOperationOf, KeepsWidth, HasLocalTypes, names, reduction_axes, sharding_on, splits_by, widths_of}
use Rattle.sh_nest_laws.specs.SplitReduction.{HasKind}
use Rattle.sh_nest_laws.proofs.Cuts.{input_cuts, valid_cells, valid_cuts, valid_scalars, cells_of_cuts, local_shape_is}
use Rattle.sh_nest_laws.proofs.Groups.{output, count, member, off, size, are_parts, members_are_group, reduction_axes_are, apart_none, apart_more}
use Rattle.sh_nest_laws.proofs.Literally.{entry_within}
use Rattle.sh_nest_laws.proofs.Loops.{local, whole, to, entry_moved}
use Rattle.sh_nest_laws.proofs.NestCut as cut
use Rattle.sh_nest_laws.proofs.Operands.{cells_at, scalar_cells, step_at, value_at}
use Rattle.sh_nest_laws.proofs.Points.{points_total, points_total_is, over_total, total_at_points, group_total, entry_for, moved}
use Rattle.sh_nest_laws.proofs.Totals.{each_in_range, lifted_laws}

-- ---- outcomes that are there

pub record BothThere {A : Type 0} (op : A → A → A) (x y : A) (b : Option A) : Type 0 where
  pub value : A
  pub is : b ≡ Some value
  pub result : y ≡ op x value

lifted_there : {A : Type 0} (op : A → A → A) (x y : A) (b : Option A) → Some y ≡ lifted op (Some x) b → BothThere op x y b
lifted_there op x y None h = absurd (cc)
lifted_there op x y (Some z) h = record { value = z; is = refl; result = same_Some y (op x z) h }

pub record PartsThere {A : Type 0} (op : A → A → A) (e d : A) (ks : List ℕ) (f : ℕ → Option A) (v : A) : Type 0 where
  pub each : AllByRecursion (λ q. f q ≡ Some (unwrap_or (f q) d)) ks
  pub value : total op e ks (λ q. unwrap_or (f q) d) ≡ v

total_there : {A : Type 0} (op : A → A → A) (e d : A) (ks : List ℕ) (f : ℕ → Option A) (v : A) → total (lifted op) (Some e) ks f ≡ Some v → PartsThere op e d ks f v
total_there op e d [] f v h = record { each = tt; value = same_Some e v h }
total_there {A} op e d (k ∷ ks) f v h = go (f k) refl (total (lifted op) (Some e) ks f) refl (λ u e'. total_there op e d ks f u e')
  where
    go : (a : Option A) → f k ≡ a → (b : Option A) → total (lifted op) (Some e) ks f ≡ b → ((u : A) → total (lifted op) (Some e) ks f ≡ Some u → PartsThere op e d ks f u) → PartsThere op e d (k ∷ ks) f v
    go None p b q more = let bad : None ≡ Some v = sym (ap (λ a. lifted op a (total (lifted op) (Some e) ks f)) p) ∙ h in absurd (cc)
    go (Some x) p None q more = let bad : None ≡ Some v = sym (ap₂ (λ a b. lifted op a b) p q) ∙ h in absurd (cc)
    go (Some x) p (Some u) q more =
        let rest = more u q in
        let is : op x u ≡ v = same_Some (op x u) v (sym (ap₂ (λ a b. lifted op a b) p q) ∙ h) in
        record {
          each = (p ∙ ap (λ (o : Option A). Some (unwrap_or o d)) (sym p), rest.each);
          value = ap₂ op (ap (λ (o : Option A). unwrap_or o d) p) rest.value ∙ is;
        }

entry_absent : (m i : List ℕ) (l : ℕ) → names m l ≡ false → entry_for m i l ≡ None
entry_absent [] i l h = refl
entry_absent (k ∷ m) [] l h = refl
entry_absent (k ∷ m) (x ∷ i) l h =
    elim (cases_Bool (k == l)) [
      | inl b ↦ let bad : true ≡ false = rw b at h in absurd (cc)
      | inr b ↦ let rest : names m l ≡ false = rw b at h in rw b (entry_absent m i l rest)
    ]

-- an index of the output has an entry for exactly the loops that the output follows
pub entry_fixes : (m i : List ℕ) (l : ℕ) → length i ≡ length m → names m l ≡ is_some (entry_for m i l)
entry_fixes [] i l long = refl
entry_fixes (k ∷ m) [] l long = absurd (omega (arith, long))
entry_fixes (k ∷ m) (x ∷ i) l long =
    elim (cases_Bool (k == l)) [
      | inl b ↦ rw b refl
      | inr b ↦ rw b (entry_fixes m i l (omega (arith, long)))
    ]

each_entry : {X : Type 0} (P : X → Type 0) (xs : List X) (i : ℕ) (d : X) → AllByRecursion P xs → i < length xs → P (get_or xs i d)
each_entry P [] i d h lt = absurd (omega (arith, lt))
each_entry P (x ∷ xs) zero d h lt = h.0
each_entry P (x ∷ xs) (suc i) d h lt = each_entry P xs i d h.1 (omega (arith, lt))

-- a step with a kind keeps the width
pub keeps_by : (k : Kind) (nest : PlainNest) (term : List Cell → List Cell → Option Cell) → HasKind k nest term → KeepsWidth nest
keeps_by k nest term kind scalars cells z y oks okc okz e = go (term scalars cells) (kind.valid scalars cells oks okc) (sym (kind.combines scalars cells z oks okc okz) ∙ e)
  where
    go : (o : Option Cell) → IfThere (IsCellOf nest.out.width) o → option_map (λ y. combine_of k nest.out.width z y) o ≡ Some y → IsCellOf nest.out.width y
    go None io e = absurd (cc)
    go (Some x) io e = subst (IsCellOf nest.out.width) (same_Some (combine_of k nest.out.width z x) y e) ((combine_laws k nest.out.width).closed z x okz io)

module _ (g : GridValue) (D : ℕ → Dimension) (nest : PlainNest) (split : AreSplit g D nest) (apart : AreLoopsApart D nest) (k : Kind) (term : List Cell → List Cell → Option Cell) (kind : HasKind k nest term) where
  abbrev pub So : ShardingValue
  So = sharding_on g D nest.out.dims

  abbrev pub op' : Option Cell → Option Cell → Option Cell
  op' = lifted (combine_of k nest.out.width)

  abbrev pub e' : Option Cell
  e' = Some (neutral_of k nest.out.width)

  abbrev pub Is' : Option Cell → Type 0
  Is' = IfThere (IsCellOf nest.out.width)

  laws' : CombineLaws Is' e' op'
  laws' = lifted_laws (combine_laws k nest.out.width)

  pub keeps : KeepsWidth nest
  keeps = keeps_by k nest term kind

  -- a step puts the term in
  kind_step : (scalars : List Cell) (lts : List TensorValue) → AreCellsOf nest.captured scalars → ((p : List ℕ) → AreCellsOf (widths_of nest.ins) (cells_at nest.ins lts p)) → (p : List ℕ) (a : Option Cell) → Is' a
      → step_at nest scalars lts p a ≡ op' a (term scalars (cells_at nest.ins lts p))
  kind_step scalars lts oks ok p None ia = refl
  kind_step scalars lts oks ok p (Some z) ia = kind.combines scalars (cells_at nest.ins lts p) z oks (ok p) ia ∙ go (term scalars (cells_at nest.ins lts p))
    where
      go : (o : Option Cell) → option_map (λ y. combine_of k nest.out.width z y) o ≡ op' (Some z) o
      go None = refl
      go (Some y) = refl

  -- a fold from a start is the start and then the terms put together
  kind_total : (E : ℕ → ℕ) (scalars : List Cell) (lts : List TensorValue) (u : TensorValue) (j : List ℕ) → AreCellsOf nest.captured scalars → ((p : List ℕ) → AreCellsOf (widths_of nest.ins) (cells_at nest.ins lts p))
      → IsCellOf nest.out.width (at u j)
      → value_at nest E scalars lts u j ≡ op' (Some (at u j)) (points_total op' e' 0 nest.loops E (entry_for nest.out.dims j) (λ p. term scalars (cells_at nest.ins lts p)))
  unfolding value_at
  kind_total E scalars lts u j oks ok iu =
      over_total laws' nest.loops 0 E (entry_for nest.out.dims j) (step_at nest scalars lts) (λ p. term scalars (cells_at nest.ins lts p)) (λ p. kind.valid scalars _ oks (ok p)) (kind_step scalars lts oks ok) (Some (at u j)) iu

  module _ (op : Op) (is_op : IsOperationOf nest op) (ts : List TensorValue) (fit : AllFit tensor_splitting (splits_by g D nest) ts) (t : TensorValue) (is : given op alone ts ≡ Some t) where
    abbrev pub inputs : List TensorValue
    inputs = (cut.o g D nest split keeps op is_op ts fit t is).inputs

    abbrev pub outs : TensorValue
    outs = (cut.o g D nest split keeps op is_op ts fit t is).outs

    abbrev scalars : List Cell
    scalars = scalar_cells (cut.o g D nest split keeps op is_op ts fit t is).scalars

    scalars_ok : AreCellsOf nest.captured scalars
    scalars_ok = valid_scalars g D nest.captured (cut.o g D nest split keeps op is_op ts fit t is).scalars (cut.o g D nest split keeps op is_op ts fit t is).scalars_fit

    abbrev pub h : List ℕ → Option Cell
    h p = term scalars (cells_at nest.ins inputs p)

    is_h : (p : List ℕ) → Is' (h p)
    is_h p = kind.valid scalars _ scalars_ok (valid_cells g D p nest.ins inputs (cut.o g D nest split keeps op is_op ts fit t is).inputs_fit)

    -- what device d puts together at j
    abbrev pub part_cell : ℕ → List ℕ → Option Cell
    part_cell d j = points_total op' e' 0 nest.loops (local g D d) (entry_for nest.out.dims j) (λ p. h (moved (to g D d) 0 p))

    abbrev pub cell_of : ℕ → List ℕ → Cell
    cell_of d j = unwrap_or (part_cell d j) Undef

    abbrev pub part : ℕ → TensorValue
    part d = build (local_shape So d) nest.out.width (cell_of d)

    abbrev pub filled : ℕ → TensorValue
    filled d = build (local_shape So d) nest.out.width (λ j. neutral_of k nest.out.width)

    pub is_part : (d : ℕ) (j : List ℕ) → IsCellOf nest.out.width (cell_of d j)
    is_part d j = go (part_cell d j) (points_total_is laws' nest.loops 0 (local g D d) (entry_for nest.out.dims j) (λ p. h (moved (to g D d) 0 p)) (λ p. is_h (moved (to g D d) 0 p)))
      where
        go : (o : Option Cell) → Is' o → IsCellOf nest.out.width (unwrap_or o Undef)
        go None io = tt
        go (Some x) io = io

    -- ---- on one device

    local_total : (d : ℕ) → d < cell_count g.extents → (j : List ℕ) → IsIndexOf (local_shape So d) j → value_at nest (local g D d) scalars (input_cuts g D nest.ins inputs d) (filled d) j ≡ part_cell d j
    local_total d in' j inside =
        let holds : at (filled d) j ≡ neutral_of k nest.out.width = at-build (local_shape So d) nest.out.width (λ j. neutral_of k nest.out.width) j inside in
        let inside' : IsIndexOf (map (local g D d) nest.out.dims) j = subst (λ s. IsIndexOf s j) (local_shape_is g D d nest.out.dims) inside in
        let all_fit = (cut.o g D nest split keeps op is_op ts fit t is).inputs_fit in
        let lts = input_cuts g D nest.ins inputs d in
        let valid : (p : List ℕ) → AreCellsOf (widths_of nest.ins) (cells_at nest.ins lts p) = λ p. valid_cuts g D p d nest.ins inputs all_fit in
        let value = points_total op' e' 0 nest.loops (local g D d) (entry_for nest.out.dims j) (λ p. term scalars (cells_at nest.ins lts p)) in
        kind_total (local g D d) scalars lts (filled d) j scalars_ok valid (subst (IsCellOf nest.out.width) (sym holds) (combine_laws k nest.out.width).neutral_is)
        ∙ ap (λ z. op' (Some z) value) holds
        ∙ laws'.left_neutral value (points_total_is laws' nest.loops 0 (local g D d) (entry_for nest.out.dims j) (λ p. term scalars (cells_at nest.ins lts p)) (λ p. kind.valid scalars _ scalars_ok (valid p)))
        ∙ total_at_points op' e' (local g D d) (entry_for nest.out.dims j) (λ l x e. entry_within (local g D d) nest.out.dims j l x inside' e) nest.loops 0
        (λ p. term scalars (cells_at nest.ins lts p)) (λ p. h (moved (to g D d) 0 p))
        (λ p pt. ap (term scalars) (cells_of_cuts g D split.loop d in' nest.loops p pt nest.ins split.inputs inputs all_fit))

    -- ---- the group of a device

    module _ (c : ℕ) (in' : c < cell_count g.extents) where
      abbrev pub group : List ℕ
      group = group_of g.extents (reduction_axes D nest) c

      abbrev pub W : List ℕ → List ℕ
      W j = whole_index g.extents c So.dimensions j

      -- the parts of the group, put together, are the whole
      parts_total : (j : List ℕ) → IsIndexOf (local_shape So c) j → points_total op' e' 0 nest.loops (whole g D 0) (entry_for nest.out.dims (W j)) h ≡ total op' e' group (λ m. part_cell m j)
      parts_total j inside =
          let inside' : IsIndexOf (map (local g D c) nest.out.dims) j = subst (λ s. IsIndexOf s j) (local_shape_is g D c nest.out.dims) inside in
          let long : length j ≡ length nest.out.dims = sym (IsIndexOf-length (map (local g D c) nest.out.dims) j inside') ∙ length-map nest.out.dims (local g D c) in
          group_total (cell_count g.extents) (output g D nest split.loop apart) (count g D nest split.loop apart) (member g D nest split.loop apart) (whole g D 0) (local g D) (to g D) (off g D nest split.loop apart) (size g D nest split.loop apart)
          (are_parts g D nest split.loop apart) laws' (entry_for nest.out.dims j) (entry_for nest.out.dims (W j)) (λ l. entry_fixes nest.out.dims j l long) nest.loops 0 c in'
          (λ l. entry_moved g D c nest.out.dims j l) h is_h
          ∙ ap (λ ms. total op' e' ms (λ m. part_cell m j)) (members_are_group g D nest split.loop apart c in')

      -- the cell of the whole is that of the outs and then the parts put together, all of which are there
      pub record IsPutTogether (j : List ℕ) : Type 0 where
        pub there : AllByRecursion (λ m. part_cell m j ≡ Some (cell_of m j)) group
        pub value : at t (W j) ≡ combine_of k nest.out.width (at outs (W j)) (total (combine_of k nest.out.width) (neutral_of k nest.out.width) group (λ m. cell_of m j))

      pub put_together : (j : List ℕ) → IsIndexOf (local_shape So c) j → IsPutTogether j
      put_together j inside =
          let here : IsIndexOf outs.shape (W j) = cut.index_inside g D nest split keeps op is_op ts fit t is c in' j inside in
          let folded : Some (at t (W j)) ≡ op' (Some (at outs (W j))) (total op' e' group (λ m. part_cell m j)) =
          sym (cut.whole_cell g D nest split keeps op is_op ts fit t is (W j) here)
          ∙ kind_total (whole g D 0) scalars inputs outs (W j) scalars_ok (λ p. valid_cells g D p nest.ins inputs (cut.o g D nest split keeps op is_op ts fit t is).inputs_fit) (cut.outs_valid g D nest split keeps op is_op ts fit t is (W j))
          ∙ ap (op' (Some (at outs (W j)))) (parts_total j inside) in
          let both = lifted_there (combine_of k nest.out.width) (at outs (W j)) (at t (W j)) (total op' e' group (λ m. part_cell m j)) folded in
          let all = total_there (combine_of k nest.out.width) (neutral_of k nest.out.width) Undef group (λ m. part_cell m j) both.value both.is in
          record { there = all.each; value = both.result ∙ ap (combine_of k nest.out.width (at outs (W j))) (sym all.value) }

      -- its own part is there
      own_there : (j : List ℕ) → IsIndexOf (local_shape So c) j → part_cell c j ≡ Some (cell_of c j)
      own_there j inside =
          let axes = reduction_axes_are g D nest split.loop apart in
          let place = place_in g.extents (reduction_axes D nest) c in
          let lt : place < length group = subst (λ n. place < n) (sym (length-group_of g.extents (reduction_axes D nest) c)) (place_in-below g.extents (reduction_axes D nest) c in' axes) in
          subst (λ m. part_cell m j ≡ Some (cell_of m j)) (group_of-own g.extents (reduction_axes D nest) c 0 in' axes)
          (each_entry (λ m. part_cell m j ≡ Some (cell_of m j)) group place 0 (put_together j inside).there lt)

      -- the operation on the cuts and the neutral cells gives the part
      pub given_part : (local_op : Op) → IsOperationOf nest local_op → HasLocalTypes g D nest local_op → (seat : Seat)
          → given local_op seat (cut.inputs_c g D nest split keeps op is_op ts fit t is c in' ++ filled c ∷ cut.scalars_c g D nest split keeps op is_op ts fit t is c in') ≡ Some (part c)
      given_part local_op is_local types seat =
          cut.local_given g D nest split keeps op is_op ts fit t is c in' local_op is_local types seat (filled c) refl refl (cell_of c) (λ j inside. local_total c in' j inside ∙ own_there j inside)

      -- ---- the members have one shape

      apart_from_all : (l k n : ℕ) → names nest.out.dims l ≡ true → AreApart (D l).axes (flat_map (λ l. if names nest.out.dims l then [] else (D l).axes) (range_with_len k n))
      apart_from_all l k zero named = apart_none (D l).axes
      apart_from_all l k (suc n) named =
          apart_more (D l).axes (if names nest.out.dims k then [] else (D k).axes) (flat_map (λ l. if names nest.out.dims l then [] else (D l).axes) (range_with_len (k + 1) n)) (here (names nest.out.dims k) refl) (apart_from_all l (k + 1) n named)
        where
          here : (b : Bool) → names nest.out.dims k ≡ b → AreApart (D l).axes (if b then [] else (D k).axes)
          here true e = apart_none (D l).axes
          here false e = apart k l e (λ z. let bad : true ≡ false = sym named ∙ ap (names nest.out.dims) (sym z) ∙ e in absurd (cc))

      same_local : (q : ℕ) → q < group_size_of g.extents (reduction_axes D nest) → (l : ℕ) → names nest.out.dims l ≡ true
          → local_extent g.extents (member_of g.extents (reduction_axes D nest) c q) (D l) ≡ local_extent g.extents c (D l)
      unfolding local_extent size_in part_of
      same_local q lt l named =
          let stays = places_stay g.extents (D l).axes (reduction_axes D nest) c (member_of g.extents (reduction_axes D nest) c q) (apart_from_all l 0 nest.loops named) (member_of-agrees g.extents (reduction_axes D nest) c q in' lt) in
          ap (λ p. (D l).low + part_size g.extents (D l) p + (D l).high) (sym stays)

      same_on : (q : ℕ) → q < group_size_of g.extents (reduction_axes D nest) → (dims : List ℕ) → AllByRecursion (λ l. names nest.out.dims l ≡ true) dims
          → map (local_extent g.extents (member_of g.extents (reduction_axes D nest) c q)) (map D dims) ≡ map (local_extent g.extents c) (map D dims)
      same_on q lt [] named = refl
      same_on q lt (l ∷ dims) named = ap₂ (λ a b. a ∷ b) (same_local q lt l named.0) (same_on q lt dims named.1)

      test_itself : (x : ℕ) → (x == x) ≡ true
      test_itself x = grind (arith, nat_tests)

      names_more : (k : ℕ) (m : List ℕ) (l : ℕ) → names m l ≡ true → names (k ∷ m) l ≡ true
      names_more k m l h = go (k == l)
        where
          go : (b : Bool) → (b || names m l) ≡ true
          go true = refl
          go false = h

      named_all : (m : List ℕ) → AllByRecursion (λ l. names m l ≡ true) m
      named_all [] = tt
      named_all (k ∷ m) = (rw (test_itself k) refl, up m (named_all m))
        where
          up : (xs : List ℕ) → AllByRecursion (λ l. names m l ≡ true) xs → AllByRecursion (λ l. names (k ∷ m) l ≡ true) xs
          up [] h = tt
          up (x ∷ xs) h = (names_more k m x h.0, up xs h.1)

      pub same_shape : (q : ℕ) → q < group_size_of g.extents (reduction_axes D nest) → local_shape So (member_of g.extents (reduction_axes D nest) c q) ≡ local_shape So c
      same_shape q lt = same_on q lt nest.out.dims (named_all nest.out.dims)

      pub same_shapes : AllByRecursion (λ m. local_shape So m ≡ local_shape So c) group
      unfolding group_of
      same_shapes = go (range_with_len 0 (group_size_of g.extents (reduction_axes D nest))) (each_in_range _ 0 (group_size_of g.extents (reduction_axes D nest)) (λ q low lt. same_shape q (omega (arith, lt))))
        where
          go : (qs : List ℕ) → AllByRecursion (λ q. local_shape So (member_of g.extents (reduction_axes D nest) c q) ≡ local_shape So c) qs
              → AllByRecursion (λ m. local_shape So m ≡ local_shape So c) (map (λ q. member_of g.extents (reduction_axes D nest) c q) qs)
          go [] h = tt
          go (q ∷ qs) h = (h.0, go qs h.1)
