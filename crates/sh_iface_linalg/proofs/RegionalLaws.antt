-- What is read off an operation with a region is in order, and its interface is the operation's.
use Rattle.std.proofs.Common.{◌≡◌, ℕ, ◌+◌, ◌-◌, ◌<◌, ◌≤◌, Bool, true, false, List, [], ◌∷◌, ◌++◌, map, take, drop, fold, length, Option, Some, None, refl, ap, ap₂, sym, ◌∙◌, arith, subst}
use Rattle.std.proofs.lemmas.List.{drop_all, length-append, length-map, take_all}
use Rattle.std.specs.List.{AllByRecursion, range_with_len}
use Rattle.std.specs.Prelude.{◌||◌, get_or, is_some, option_and_then, option_map, if◌then◌else◌, ℤ}
use Rattle.sh_base.specs.declared.numbers.Width.{Width}
use Rattle.sh_base.specs.declared.places.Place.{Place}
use Rattle.sh_base.specs.Shape.{max_cells, max_rank}
use Rattle.sh_grid.specs.Grid.{AreAxesOf}
use Rattle.sh_ir.specs.declared.bodies.Body.{Body}
use Rattle.sh_ir.specs.declared.operations.Op.{Op}
use Rattle.sh_ir.specs.declared.types.ValueType.{ValueType}
use Rattle.sh_ir.specs.Agreement.{dims_of, is_tensor, rank_of}
use Rattle.sh_ir.specs.declared.linalg_ops.AffineMap.{AffineMap}
use Rattle.sh_ir.specs.declared.linalg_ops.IteratorType.{IteratorType}
use Rattle.sh_ir.specs.declared.operations.OpKind.{OpKind}
use Rattle.sh_ir.specs.Loops.{Structure, by_region, generic_structure, reduce_structure, single, structure_of}
use Rattle.sh_ir.specs.Shapes.{shape_of}
use Rattle.sh_ir.specs.Typing.{typing_of}
use Rattle.sh_ir.specs.Written.{first_type}
use Rattle.sh_nest_laws.specs.LoopSplits.{Operand}
use Rattle.sh_sem.specs.Given.{Giving, alone, built_of, cell_given, given, gives_nest, giving, have_all_extents, nest_shape, of_dims, of_one, outs_of, shape_given}
use Rattle.sh_sem.specs.Nest.{all_followed, extent_of_loop, extents_by, folded_cell, input_cells, points_to}
use Rattle.sh_sem.specs.Region.{PlacedBody, placed, region_cell}
use Rattle.sh_sem.specs.Scalars.{width_of}
use Rattle.sh_sharding.specs.Sharding.{counted_cells}
use Rattle.sh_tensor.specs.Tensor.{TensorValue, at}
use Rattle.sh_iface.specs.Elements.{known_dims, tensor_of}
use Rattle.sh_iface.specs.Table as table
use Rattle.sh_iface.specs.Table.{dims_by_map, nest_of, structured_loop}
use Rattle.sh_iface.specs.Whole.{IsInterfaceOf, leading_scalars, whole_of}
use Rattle.sh_iface_linalg.specs.Bodies.{IsRegion, Region, renumbered}
use Rattle.sh_iface_linalg.specs.BodyNames.{same_placed}
use Rattle.sh_iface_linalg.specs.Loops.{length-range, map_twice}
use Rattle.sh_iface_linalg.specs.Nests.{Agrees, structure_by, structure_is}
use Rattle.sh_iface_linalg.specs.Reading.{extent_by, inputs_by, regional_by}
use Rattle.sh_iface_linalg.specs.Structured.{FitsNumbers, FitsRegion, FitsWidths, Form, IsFollowing, IsStructured, Structured, input_type, inputs_at, ins_outs_by, is_fill, kind_at, known, loop_by, loops_at, operands_in, output_at, output_type, renumbered_form, scalar_widths, step_at, structured_meaning, structured_nest, tensor_ins, value_by, whole_op}
use Rattle.sh_iface_linalg.specs.Structured.{reduce, generic}
use Rattle.sh_iface_linalg.proofs.InterfaceLaws.{drop_and_take, kinds_same, map_same, named_single, nest_kind, shapes_joined, singles_joined, value_same, values_same}
use Rattle.sh_iface_linalg.proofs.NestLaws.{got_mapped, got_range}
use Rattle.sh_iface_linalg.proofs.Pairs.{AreShapes, all_pairs, extent_is, first_at, followed_are}
use Rattle.sh_iface_linalg.proofs.ReadLaws.{IsInput, in_shapes, mapped_below, own_shape, shapes_below, zipped_dims, zipped_first, zipped_named, zipped_widths}
use Rattle.sh_iface_linalg.proofs.RowLaws.{AllBelow, named_in}

module _ (form : Form) (L : ℕ) (ms : List (List ℕ)) (os : List ℕ) (ts : List ValueType) (t : ValueType) (scalars : List Width) (place : Place) where
  abbrev pub E : Structured
  E = regional_by form L ms os ts t scalars place

  abbrev shapes : List (List ℕ)
  shapes = map shape_of (ts ++ t ∷ [])

  abbrev F : ℕ → ℕ
  F = first_at (all_pairs (ms ++ os ∷ []) (map shape_of ts ++ shape_of t ∷ []))

  abbrev X : List ℕ
  X = map (extent_by ms os shapes) (range_with_len 0 L)

  abbrev G : ℕ → ℕ
  G l = get_or X l 0

  -- what the rules say of the maps and of the types of operands and result
  pub record Reads : Type 0 where
    pub count : length ts ≡ length ms
    pub tensors : is_fill form ≡ false
    pub inputs : AllByRecursion (IsInput form) ts
    pub out : t ≡ tensor_of (known_dims (shape_of t)) (width_of t)
    pub short : length (shape_of t) ≤ max_rank
    pub small : counted_cells (shape_of t) ≤ max_cells
    pub shapes_fit : AreShapes F (ms ++ os ∷ []) (map shape_of ts ++ shape_of t ∷ [])
    pub below : AllBelow L ms
    pub own_below : AllByRecursion (λ l. l < L) os
    pub once : AreAxesOf L os
    pub few : L ≤ max_rank
    pub named : (l : ℕ) → l < L → named_in ms os l ≡ true
    pub loops : loops_at form (length os) ≡ L
    pub maps : inputs_at form (length (get_or ms 0 [])) (length os) ≡ ms
    pub output : output_at form (length os) ≡ os
    pub numbers : FitsNumbers form (length (get_or ms 0 [])) (length os)
    pub widths : FitsWidths form (width_of t) (map width_of ts)
    pub region : FitsRegion form scalars (map width_of ts) (width_of t)

  module _ (h : Reads) where
    X_counted : length X ≡ L
    X_counted = length-map (range_with_len 0 L) (extent_by ms os shapes) ∙ length-range 0 L

    extent_first : (l : ℕ) → extent_by ms os shapes l ≡ F l
    extent_first l =
        ap₂ (λ ds ss. extent_of_loop (all_followed ds ss) l) (sym (singles_joined ms os)) (shapes_joined ts t)
        ∙ ap (λ fs. extent_of_loop fs l) (followed_are (ms ++ os ∷ []) (map shape_of ts ++ shape_of t ∷ [])) ∙ extent_is (all_pairs (ms ++ os ∷ []) (map shape_of ts ++ shape_of t ∷ [])) l

    G_is : (l : ℕ) → l < L → G l ≡ F l
    G_is l lt =
        let n = length-range 0 L in
        got_mapped (extent_by ms os shapes) (range_with_len 0 L) l 0 0 (omega (arith, lt, n)) ∙ ap (extent_by ms os shapes) (got_range L l lt) ∙ extent_first l

    pub G_shapes : AreShapes G ms (map shape_of ts)
    G_shapes = shapes_below F G L G_is ms (map shape_of ts) h.below (in_shapes F ms os ts (shape_of t) h.count h.shapes_fit)

    pub G_own : shape_of t ≡ map G os
    G_own = own_shape F ms os ts (shape_of t) h.count h.shapes_fit ∙ mapped_below F G L G_is os h.own_below

    ws_counted : length (map width_of ts) ≡ length ms
    ws_counted = length-map ts width_of ∙ h.count

    -- ---- it is in order

    following : (ls : List ℕ) (w : Width) (ns : List ℕ) → AllByRecursion (λ l. l < L) ls → ns ≡ map G ls → length ns ≤ max_rank → counted_cells ns ≤ max_cells → IsFollowing X (record { dims = ls; width = w })
    following ls w ns below is short small = record {
      below = subst (λ n. AllByRecursion (λ l. l < n) ls) (sym X_counted) below;
      short = let n : length ns ≡ length ls = ap length is ∙ length-map ls G in omega (arith, n, short);
      small = subst (λ xs. counted_cells xs ≤ max_cells) is small;
    }

    ins_following : (maps : List (List ℕ)) (us : List ValueType) → AllByRecursion (IsInput form) us → AllBelow L maps → AreShapes G maps (map shape_of us) → AllByRecursion (IsFollowing X) (inputs_by maps (map width_of us))
    ins_following [] [] is below are = tt
    ins_following [] (u ∷ us) is below are = absurd are
    ins_following (ls ∷ maps) [] is below are = absurd are
    ins_following (ls ∷ maps) (u ∷ us) is below are = (following ls (width_of u) (shape_of u) below.0 are.0 is.0.short is.0.small, ins_following maps us is.1 below.1 are.1)

    pub in_order : IsStructured E
    in_order =
        let first = zipped_first ms (map width_of ts) ws_counted in
        let counted = X_counted in
        let few = h.few in
        let same_widths : map (λ (x : Operand). x.width) (inputs_by ms (map width_of ts)) ≡ map width_of ts = zipped_widths ms (map width_of ts) ws_counted in
        record {
          loops = h.loops ∙ sym X_counted;
          inputs = ap (λ n. inputs_at form n (length os)) first ∙ h.maps ∙ sym (zipped_dims ms (map width_of ts) ws_counted);
          output = h.output;
          widths = subst (FitsWidths form (width_of t)) (sym same_widths) h.widths;
          region = subst (λ ws. FitsRegion form scalars ws (width_of t)) (sym same_widths) h.region;
          numbers = subst (λ f. FitsNumbers form f (length os)) (sym first) h.numbers;
          few = omega (arith, counted, few);
          ins = ins_following ms ts h.inputs h.below G_shapes;
          out = following os (width_of t) (shape_of t) h.own_below G_own h.short h.small;
          once = subst (λ n. AreAxesOf n os) (sym X_counted) h.once;
          named = λ l lt. zipped_named ms (map width_of ts) (record { dims = os; width = width_of t }) l ws_counted ∙ h.named l (omega (arith, lt, counted));
        }

    -- ---- its loops are those of the table

    types_are : (maps : List (List ℕ)) (us : List ValueType) → AllByRecursion (IsInput form) us → AreShapes G maps (map shape_of us) → us ≡ map (λ (x : Operand). input_type form (map (known X) x.dims) x.width) (inputs_by maps (map width_of us))
    types_are [] [] is are = refl
    types_are [] (u ∷ us) is are = absurd are
    types_are (ls ∷ maps) [] is are = absurd are
    types_are (ls ∷ maps) (u ∷ us) is are =
        ap₂ ◌∷◌ (is.0.is ∙ ap (λ dims. input_type form dims (width_of u)) (ap known_dims are.0 ∙ map_twice _ G ls)) (types_are maps us is.1 are.1)

    own_type_is : t ≡ output_type E (known X)
    own_type_is = h.out ∙ ap (λ dims. tensor_of dims (width_of t)) (ap known_dims G_own ∙ map_twice _ G os)

    ins_counted : length E.ins ≡ length ms
    ins_counted = sym (length-map E.ins (λ (x : Operand). x.dims)) ∙ ap length (zipped_dims ms (map width_of ts) ws_counted)

    is_tensor_type : is_tensor t ≡ true
    is_tensor_type = subst (λ u. is_tensor u ≡ true) (sym h.out) refl

    module _ (agrees : Agrees form (rank_of (first_type ts)) (length ts)) (loops_same : loops_at form (rank_of t) ≡ L) (inputs_same : inputs_at form (rank_of (first_type ts)) (rank_of t) ≡ ms) (output_same : output_at form (rank_of t) ≡ os) where
      abbrev structure : Structure
      structure = record { ins_outs = ins_outs_by ts t; loops = L; inputs = map single ms; output = single os; step = step_at form }

      structure_same : structure_by form ts t (rank_of (first_type ts)) (rank_of t) ≡ structure
      structure_same =
          let inputs : map single (inputs_at form (rank_of (first_type ts)) (rank_of t)) ≡ map single ms = ap (map single) inputs_same in
          let output : single (output_at form (rank_of t)) ≡ single os = ap single output_same in
          λ j. record { ins_outs = ins_outs_by ts t; loops = loops_same j; inputs = inputs j; output = output j; step = step_at form }

      loop_same : (l : ℕ) → structured_loop structure X l ≡ loop_by E l
      loop_same l = ap₂ (λ b k. record { extent = get_or X l 0; splittable = b || is_some (if b then None else k); kind = if b then None else k }) (named_single os l) (kinds_same form)

      table_same : table.structured_nest t structure ≡ structured_nest E
      unfolding structured_nest
      table_same =
          let loops = map_same (structured_loop structure X) (loop_by E) loop_same (range_with_len 0 L) ∙ ap (λ k. map (loop_by E) (range_with_len 0 k)) (sym X_counted) in
          let operands = values_same form X os t (width_of t) G_own refl is_tensor_type ms ts h.inputs G_shapes in
          let result = value_same X os t (width_of t) G_own refl in
          λ j. record { loops = loops j; operands = operands j; result = result j }

      nest_same : nest_of (kind_at form ts t) t ≡ Some (structured_nest E)
      nest_same = nest_kind form ts t ∙ ap (option_map (table.structured_nest t)) (structure_is form ts t agrees ∙ ap (λ x. Some x) structure_same) ∙ ap (λ x. Some x) table_same

      -- the interface is that of an operation that gives the same
      pub interface_of : (op : Op) → op.kind ≡ kind_at form ts t → op.result ≡ t → op.place ≡ place → leading_scalars op.kind ≡ 0 → length op.operands ≡ length ms + 1 + length scalars
          → ((us : List TensorValue) → whole_of (whole_op E) us ≡ whole_of op us) → IsInterfaceOf op (structured_meaning E)
      unfolding structured_nest
      interface_of op kind result where_at leading counted whole = record {
        nest = ap₂ nest_of kind result ∙ nest_same;
        whole = whole;
        counted =
            let a = drop_and_take (leading_scalars op.kind) op.operands in
            let b = length-map (tensor_ins E ++ E.out ∷ []) (value_by X) ∙ length-append (tensor_ins E) (E.out ∷ []) in
            let c : length (tensor_ins E) ≡ length E.ins = ap (λ (x : Bool). length (if x then [] else E.ins)) h.tensors in
            let d : length (scalar_widths E) ≡ length scalars = ap (λ (x : Bool). length (if x then map (λ (y : Operand). y.width) E.ins else scalars)) h.tensors in
            let n = ins_counted in
            omega (arith, a, b, c, d, n, counted);
        place = sym where_at;
      }

      -- it does where it gives the same on these types
      pub whole_same : (op : Op) → op.kind ≡ kind_at form ts t → op.result ≡ t → leading_scalars op.kind ≡ 0
          → ((us : List TensorValue) → given (record { kind = kind_at (renumbered_form (length E.ins + 1) (operands_in E + 1) form) ts t; operands = range_with_len 0 (operands_in E); defines = Some (operands_in E); result = t; place = place }) alone us ≡ given op alone us)
          → leading_scalars (whole_op E).kind ≡ 0 → (us : List TensorValue) → whole_of (whole_op E) us ≡ whole_of op us
      unfolding whole_of
      whole_same op kind result none same none_here us =
          let ins = types_are ms ts h.inputs G_shapes in
          let all : (n : ℕ) → n ≡ 0 → drop (length us - n) us ++ take (length us - n) us ≡ us = λ n e. ap (λ m. drop (length us - m) us ++ take (length us - m) us) e ∙ whole_list us in
          ap (given (whole_op E) alone) (all (leading_scalars (whole_op E).kind) none_here)
          ∙ ap₂ (λ us' u. given (record { kind = kind_at (renumbered_form (length E.ins + 1) (operands_in E + 1) form) us' u; operands = range_with_len 0 (operands_in E); defines = Some (operands_in E); result = u; place = place }) alone us) (sym ins) (sym own_type_is)
          ∙ same us
          ∙ sym (ap (given op alone) (all (leading_scalars op.kind) none))
        where
          whole_list : (us : List TensorValue) → drop (length us - 0) us ++ take (length us - 0) us ≡ us
          whole_list us =
              let z : length us - 0 ≡ length us = omega arith in
              ap (λ n. drop n us ++ take n us) z ∙ ap₂ (λ a b. a ++ b) (drop_all (length us) us (omega arith)) (take_all (length us) us (omega arith))

-- ---- what a region gives doesn't depend on names

-- by a placed region
abbrev giving_by : Structure → PlacedBody → Giving
giving_by s body = record {
  shape = nest_shape s;
  cell = λ us shape i.
      of_one (λ outs.
      fold (λ so_far p. option_and_then (λ z. region_cell body p (map (λ u. at u []) (drop (length s.inputs + 1) us) ++ input_cells s.inputs (take (length s.inputs) us) p ++ z ∷ [])) so_far) (Some (at outs i))
      (points_to s (extents_by s (map (λ u. u.shape) us)) i)) (outs_of s us);
}

same_giving : (s : Structure) (body other : Body) (xs ys : List ℕ) → placed (drop (length s.inputs + 1) xs) body ≡ placed (drop (length s.inputs + 1) ys) other
    → gives_nest xs (record s { step = by_region body }) ≡ gives_nest ys (record s { step = by_region other })
unfolding gives_nest folded_cell
same_giving s body other xs ys e = ap (giving_by s) e

given_same : (k l : OpKind) (xs ys : List ℕ) (x y : Option ℕ) (t : ValueType) (p q : Place) → typing_of k t ≡ typing_of l t → giving k xs t alone ≡ giving l ys t alone → (us : List TensorValue)
    → given (record { kind = k; operands = xs; defines = x; result = t; place = p }) alone us ≡ given (record { kind = l; operands = ys; defines = y; result = t; place = q }) alone us
unfolding given shape_given cell_given
given_same k l xs ys x y t p q types same us =
    ap₂ (λ (ts : List ValueType) (gv : Option Giving).
    option_and_then (λ shape. built_of shape (width_of t) (λ i. option_and_then (λ v. v.cell us shape i) gv))
    (if have_all_extents ts (map (λ u. u.shape) us) then option_and_then (of_dims (dims_of t)) (option_and_then (λ v. v.shape (map (λ u. u.shape) us)) gv) else None))
    types same

-- a reduction, and a generic, under other names
pub reduced_same : (n : ℕ) (d : List ℤ) (r : Region) (scalars ins : List Width) (w : Width) (ts : List ValueType) (t : ValueType) (first base : ℕ) (xs ys : List ℕ) (x y : Option ℕ) (p q : Place) → IsRegion r scalars ins w → first + length r.captured ≤ base
    → drop 2 xs ≡ range_with_len first (length r.captured) → drop 2 ys ≡ r.captured → (us : List TensorValue)
    → given (record { kind = kind_at (renumbered_form first base (reduce n d r)) ts t; operands = xs; defines = x; result = t; place = p }) alone us ≡ given (record { kind = kind_at (reduce n d r) ts t; operands = ys; defines = y; result = t; place = q }) alone us
unfolding giving structure_of typing_of
reduced_same n d r scalars ins w ts t first base xs ys x y p q is later new old us =
    given_same _ _ xs ys x y t p q refl
    (ap (λ gv. Some gv) (same_giving (reduce_structure (record { ins_outs = ins_outs_by ts t; dimensions = d; body = r.body })) (renumbered first base r).body r.body xs ys
    (ap (λ ns. placed ns (renumbered first base r).body) new ∙ same_placed first base r later is ∙ ap (λ ns. placed ns r.body) (sym old)))) us

pub generic_same : (maps : List AffineMap) (its : List IteratorType) (r : Region) (scalars ins : List Width) (w : Width) (ts : List ValueType) (t : ValueType) (first base : ℕ) (xs ys : List ℕ) (x y : Option ℕ) (p q : Place) → IsRegion r scalars ins w
    → first + length r.captured ≤ base → length (take (length ts) maps) ≡ length ts → drop (length ts + 1) xs ≡ range_with_len first (length r.captured) → drop (length ts + 1) ys ≡ r.captured → (us : List TensorValue)
    → given (record { kind = kind_at (renumbered_form first base (generic maps its r)) ts t; operands = xs; defines = x; result = t; place = p }) alone us ≡ given (record { kind = kind_at (generic maps its r) ts t; operands = ys; defines = y; result = t; place = q }) alone us
unfolding giving structure_of typing_of
generic_same maps its r scalars ins w ts t first base xs ys x y p q is later counted new old us =
    let s = generic_structure (record { ins_outs = ins_outs_by ts t; indexing_maps = maps; iterator_types = its; body = r.body }) in
    let n : length s.inputs ≡ length ts = length-map (take (length ts) maps) (λ (m : AffineMap). single m.results) ∙ counted in
    given_same _ _ xs ys x y t p q refl
    (ap (λ gv. Some gv) (same_giving s (renumbered first base r).body r.body xs ys
    (ap (λ ns. placed ns (renumbered first base r).body) (ap (λ k. drop (k + 1) xs) n ∙ new) ∙ same_placed first base r later is ∙ ap (λ ns. placed ns r.body) (sym old ∙ sym (ap (λ k. drop (k + 1) ys) n))))) us
