-- The interface of what is read off an operation is the operation's.
use Rattle.std.proofs.Common.{◌≡◌, ℕ, zero, suc, ◌+◌, ◌-◌, Bool, true, false, ◌==◌, List, [], ◌∷◌, ◌++◌, map, take, drop, length, Option, Some, None, refl, ap, ap₂, sym, ◌∙◌, arith, subst, inl, inr}
use Rattle.std.proofs.lemmas.Bool.{cases_Bool}
use Rattle.std.proofs.lemmas.List.{append-nil, drop_all, length-append, length-map}
use Rattle.std.specs.List.{AllByRecursion, list_any, range_with_len}
use Rattle.std.specs.Cmp.Lexicographic.{pointwise}
use Rattle.std.specs.Prelude.{◌&&◌, ◌||◌, get_or, is_some, nat_eq, option_and_then, option_map, if◌then◌else◌}
use Rattle.sh_base.specs.declared.numbers.Width.{Width}
use Rattle.sh_base.specs.declared.places.Place.{Place}
use Rattle.sh_ir.specs.declared.operations.Op.{Op}
use Rattle.sh_ir.specs.declared.types.ValueType.{ValueType}
use Rattle.sh_ir.specs.declared.types.ValueType.TheVariants.{Index, Nothing, Scalar, Sharding, Tensor}
use Rattle.sh_ir.specs.Agreement.{dims_of, is_tensor, rank_of}
use Rattle.sh_ir.specs.Typing.{typing_of}
use Rattle.sh_ir.specs.Loops.{Structure, single, structure_of}
use Rattle.sh_ir.specs.Shapes.{extent_of, shape_of}
use Rattle.sh_ir.specs.Written.{first_type}
use Rattle.sh_nest_laws.specs.LoopSplits.{Operand, names}
use Rattle.sh_sem.specs.Given.{Giving, Seat, alone, built_of, cell_given, given, gives_nest, giving, nest_cell, nest_shape, of_dims, have_all_extents, shape_given}
use Rattle.sh_sem.specs.Nest.{all_followed, extent_of_loop, extents_by}
use Rattle.sh_sem.specs.Scalars.{width_of}
use Rattle.sh_tensor.specs.Tensor.{TensorValue}
use Rattle.sh_iface.specs.declared.options.How.TheVariants.{Same}
use Rattle.sh_iface.specs.Elements.{known_dims, tensor_of}
use Rattle.sh_iface.specs.Table as table
use Rattle.sh_iface.specs.Table.{dims_by_map, follows, is_parallel, kind_of_step, nest_of, structured_loop, values_by}
use Rattle.sh_iface.specs.Whole.{IsInterfaceOf, leading_scalars, whole_of}
use Rattle.sh_iface_linalg.specs.Loops.{length-range}
use Rattle.sh_iface_linalg.specs.Nests.{Agrees, structure_by, structure_is}
use Rattle.sh_iface_linalg.specs.Reading.{IsNamed, inputs_by}
use Rattle.sh_iface_linalg.specs.Structured.{Form, Structured, input_types, ins_outs_by, inputs_at, is_fill, kind_at, kind_of_form, known, loop_by, loops_at, operands_in, output_at, output_type, renumbered_form, scalar_widths, step_at, structured_meaning, structured_nest, tensor_ins, value_by, whole_op}
use Rattle.sh_iface_linalg.specs.Structured.{fill, matmul, batch_matmul, matvec, vecmat, dot, transpose, broadcast, reduce, generic}
use Rattle.sh_iface_linalg.proofs.Pairs.{AreShapes, extent_is, followed_are}
use Rattle.sh_iface_linalg.proofs.ReadLaws.{F, Fits, G, G_own, G_shapes, IsInput, L, X, X_counted, X_is, e, h, head_is, maps, own_type_is, pairs_in, row, types_are, zipped_dims}

-- ---- the operation's structure

pub nest_kind : (form : Form) (ts : List ValueType) (t : ValueType) → nest_of (kind_at form ts t) t ≡ option_map (table.structured_nest t) (structure_of (kind_at form ts t))
unfolding nest_of
nest_kind fill ts t = refl
nest_kind matmul ts t = refl
nest_kind batch_matmul ts t = refl
nest_kind matvec ts t = refl
nest_kind vecmat ts t = refl
nest_kind dot ts t = refl
nest_kind (transpose p) ts t = refl
nest_kind (broadcast d) ts t = refl
nest_kind (reduce n d r) ts t = refl
nest_kind (generic maps its r) ts t = refl

pub kinds_same : (form : Form) → kind_of_step (step_at form) ≡ kind_of_form form
kinds_same fill = refl
kinds_same matmul = refl
kinds_same batch_matmul = refl
kinds_same matvec = refl
kinds_same vecmat = refl
kinds_same dot = refl
kinds_same (transpose p) = refl
kinds_same (broadcast d) = refl
kinds_same (reduce n d r) = refl
kinds_same (generic maps its r) = refl

-- a named one writes nothing that has to agree with its operands, and no names
named_agrees : (form : Form) (f n : ℕ) → IsNamed form → Agrees form f n
named_agrees fill f n h = tt
named_agrees matmul f n h = tt
named_agrees batch_matmul f n h = tt
named_agrees matvec f n h = tt
named_agrees vecmat f n h = tt
named_agrees dot f n h = tt
named_agrees (transpose p) f n h = tt
named_agrees (broadcast d) f n h = tt
named_agrees (reduce m d r) f n h = absurd h
named_agrees (generic maps its r) f n h = absurd h

named_still : (first base : ℕ) (form : Form) → IsNamed form → renumbered_form first base form ≡ form
named_still first base fill h = refl
named_still first base matmul h = refl
named_still first base batch_matmul h = refl
named_still first base matvec h = refl
named_still first base vecmat h = refl
named_still first base dot h = refl
named_still first base (transpose p) h = refl
named_still first base (broadcast d) h = refl
named_still first base (reduce n d r) h = absurd h
named_still first base (generic maps its r) h = absurd h

pub named_single : (dims : List ℕ) (l : ℕ) → list_any (λ loops. pointwise nat_eq loops (l ∷ [])) (single dims) ≡ names dims l
named_single [] l = refl
named_single (k ∷ dims) l = ap₂ (λ a b. a || b) (one (k == l)) (named_single dims l)
  where
    one : (b : Bool) → (b && true) ≡ b
    one true = refl
    one false = refl

pub map_same : {X Y : Type 0} (f g : X → Y) → ((x : X) → f x ≡ g x) → (xs : List X) → map f xs ≡ map g xs
map_same f g h [] = refl
map_same f g h (x ∷ xs) = ap₂ ◌∷◌ (h x) (map_same f g h xs)

pub singles_joined : (maps : List (List ℕ)) (out : List ℕ) → map single (maps ++ out ∷ []) ≡ map single maps ++ single out ∷ []
singles_joined [] out = refl
singles_joined (ls ∷ maps) out = ap (λ ms. single ls ∷ ms) (singles_joined maps out)

pub shapes_joined : (ts : List ValueType) (t : ValueType) → map shape_of (ts ++ t ∷ []) ≡ map shape_of ts ++ shape_of t ∷ []
shapes_joined [] t = refl
shapes_joined (u ∷ ts) t = ap (λ ss. shape_of u ∷ ss) (shapes_joined ts t)

dims_single : (G : ℕ → ℕ) (ls : List ℕ) → dims_by_map (single ls) (map G ls) ≡ map (λ l. follows Same l (G l)) ls
dims_single G [] = refl
dims_single G (l ∷ ls) = ap (λ ds. follows Same l (G l) ∷ ds) (dims_single G ls)

pub value_same : (xs ls : List ℕ) (t : ValueType) (w : Width) → shape_of t ≡ map (λ l. get_or xs l 0) ls → width_of t ≡ w → table.value_by (dims_by_map (single ls)) t ≡ value_by xs (record { dims = ls; width = w })
value_same xs ls t w shape width =
    ap₂ (λ ns v. record { dims = dims_by_map (single ls) ns; width = v }) shape width
    ∙ ap (λ ds. record { dims = ds; width = w }) (dims_single (λ l. get_or xs l 0) ls)

tensor_is : (form : Form) (t : ValueType) → is_fill form ≡ false → IsInput form t → is_tensor t ≡ true
tensor_is form t no_fill is = subst (λ u. is_tensor u ≡ true) (sym (is.is ∙ ap (λ (b : Bool). input_by b) no_fill)) refl
  where
    input_by : Bool → ValueType
    input_by b = if b then Scalar (width_of t) else tensor_of (known_dims (shape_of t)) (width_of t)

scalar_is : (form : Form) (t : ValueType) → is_fill form ≡ true → IsInput form t → is_tensor t ≡ false
scalar_is form t filling is = subst (λ u. is_tensor u ≡ false) (sym (is.is ∙ ap (λ (b : Bool). input_by b) filling)) refl
  where
    input_by : Bool → ValueType
    input_by b = if b then Scalar (width_of t) else tensor_of (known_dims (shape_of t)) (width_of t)

pub values_same : (form : Form) (xs : List ℕ) (out : List ℕ) (t : ValueType) (w : Width) → shape_of t ≡ map (λ l. get_or xs l 0) out → width_of t ≡ w → is_tensor t ≡ true → (maps : List (List ℕ)) (ts : List ValueType)
    → AllByRecursion (IsInput form) ts → AreShapes (λ l. get_or xs l 0) maps (map shape_of ts)
    → values_by dims_by_map (map single maps ++ single out ∷ []) (ts ++ t ∷ []) ≡ map (value_by xs) ((if is_fill form then [] else inputs_by maps (map width_of ts)) ++ record { dims = out; width = w } ∷ [])
values_same form xs out t w shape width tensor maps ts is are =
    elim (cases_Bool (is_fill form)) [
      | inl b ↦ scalars b maps ts is are ∙ ap (λ (x : Bool). map (value_by xs) ((if x then [] else inputs_by maps (map width_of ts)) ++ record { dims = out; width = w } ∷ [])) (sym b)
      | inr b ↦ tensors b maps ts is are ∙ ap (λ (x : Bool). map (value_by xs) ((if x then [] else inputs_by maps (map width_of ts)) ++ record { dims = out; width = w } ∷ [])) (sym b)
    ]
  where
    last : values_by dims_by_map (single out ∷ []) (t ∷ []) ≡ value_by xs (record { dims = out; width = w }) ∷ []
    last = ap (λ b. if b then table.value_by (dims_by_map (single out)) t ∷ [] else []) tensor ∙ ap (λ v. v ∷ []) (value_same xs out t w shape width)

    scalars : is_fill form ≡ true → (maps : List (List ℕ)) (ts : List ValueType) → AllByRecursion (IsInput form) ts → AreShapes (λ l. get_or xs l 0) maps (map shape_of ts)
        → values_by dims_by_map (map single maps ++ single out ∷ []) (ts ++ t ∷ []) ≡ value_by xs (record { dims = out; width = w }) ∷ []
    scalars b [] [] is are = last
    scalars b [] (u ∷ us) is are = absurd are
    scalars b (ls ∷ maps) [] is are = absurd are
    scalars b (ls ∷ maps) (u ∷ us) is are =
        ap (λ c. if c then table.value_by (dims_by_map (single ls)) u ∷ values_by dims_by_map (map single maps ++ single out ∷ []) (us ++ t ∷ []) else values_by dims_by_map (map single maps ++ single out ∷ []) (us ++ t ∷ [])) (scalar_is form u b is.0)
        ∙ scalars b maps us is.1 are.1

    tensors : is_fill form ≡ false → (maps : List (List ℕ)) (ts : List ValueType) → AllByRecursion (IsInput form) ts → AreShapes (λ l. get_or xs l 0) maps (map shape_of ts)
        → values_by dims_by_map (map single maps ++ single out ∷ []) (ts ++ t ∷ []) ≡ map (value_by xs) (inputs_by maps (map width_of ts) ++ record { dims = out; width = w } ∷ [])
    tensors b [] [] is are = last
    tensors b [] (u ∷ us) is are = absurd are
    tensors b (ls ∷ maps) [] is are = absurd are
    tensors b (ls ∷ maps) (u ∷ us) is are =
        ap (λ c. if c then table.value_by (dims_by_map (single ls)) u ∷ values_by dims_by_map (map single maps ++ single out ∷ []) (us ++ t ∷ []) else values_by dims_by_map (map single maps ++ single out ∷ []) (us ++ t ∷ [])) (tensor_is form u b is.0)
        ∙ ap₂ ◌∷◌ (value_same xs ls u (width_of u) are.0 refl) (tensors b maps us is.1 are.1)

-- ---- what it gives doesn't depend on names

given_by : (form : Form) (ts : List ValueType) (t : ValueType) (xs ys : List ℕ) (seat : Seat) → IsNamed form → drop (length (inputs_at form (rank_of (first_type ts)) (rank_of t)) + 1) xs ≡ drop (length (inputs_at form (rank_of (first_type ts)) (rank_of t)) + 1) ys
    → giving (kind_at form ts t) xs t seat ≡ giving (kind_at form ts t) ys t seat
unfolding giving gives_nest structure_of
given_by fill ts t xs ys seat named same = ap (λ names. Some (record { shape = nest_shape (structure_by fill ts t 0 (rank_of t)); cell = λ us shape i. nest_cell (structure_by fill ts t 0 (rank_of t)) names us i })) same
given_by matmul ts t xs ys seat named same = ap (λ names. Some (record { shape = nest_shape (structure_by matmul ts t 0 0); cell = λ us shape i. nest_cell (structure_by matmul ts t 0 0) names us i })) same
given_by batch_matmul ts t xs ys seat named same = ap (λ names. Some (record { shape = nest_shape (structure_by batch_matmul ts t 0 0); cell = λ us shape i. nest_cell (structure_by batch_matmul ts t 0 0) names us i })) same
given_by matvec ts t xs ys seat named same = ap (λ names. Some (record { shape = nest_shape (structure_by matvec ts t 0 0); cell = λ us shape i. nest_cell (structure_by matvec ts t 0 0) names us i })) same
given_by vecmat ts t xs ys seat named same = ap (λ names. Some (record { shape = nest_shape (structure_by vecmat ts t 0 0); cell = λ us shape i. nest_cell (structure_by vecmat ts t 0 0) names us i })) same
given_by dot ts t xs ys seat named same = ap (λ names. Some (record { shape = nest_shape (structure_by dot ts t 0 0); cell = λ us shape i. nest_cell (structure_by dot ts t 0 0) names us i })) same
given_by (transpose p) ts t xs ys seat named same = ap (λ names. Some (record { shape = nest_shape (structure_by (transpose p) ts t (rank_of (first_type ts)) (rank_of t)); cell = λ us shape i. nest_cell (structure_by (transpose p) ts t (rank_of (first_type ts)) (rank_of t)) names us i })) same
given_by (broadcast d) ts t xs ys seat named same = ap (λ names. Some (record { shape = nest_shape (structure_by (broadcast d) ts t 0 (rank_of t)); cell = λ us shape i. nest_cell (structure_by (broadcast d) ts t 0 (rank_of t)) names us i })) same
given_by (reduce n d b) ts t xs ys seat named same = absurd named
given_by (generic maps its b) ts t xs ys seat named same = absurd named

pub given_alike : (form : Form) (ts : List ValueType) (t : ValueType) (xs ys : List ℕ) (x y : Option ℕ) (p q : Place) → IsNamed form → length xs ≡ length (inputs_at form (rank_of (first_type ts)) (rank_of t)) + 1 → length ys ≡ length (inputs_at form (rank_of (first_type ts)) (rank_of t)) + 1 → (us : List TensorValue)
    → given (record { kind = kind_at form ts t; operands = xs; defines = x; result = t; place = p }) alone us ≡ given (record { kind = kind_at form ts t; operands = ys; defines = y; result = t; place = q }) alone us
unfolding given shape_given cell_given
given_alike form ts t xs ys x y p q named m n us =
    let k = length (inputs_at form (rank_of (first_type ts)) (rank_of t)) + 1 in
    ap (λ (gv : Option Giving).
    option_and_then (λ shape. built_of shape (width_of t) (λ i. option_and_then (λ v. v.cell us shape i) gv))
    (if have_all_extents (typing_of (kind_at form ts t) t) (map (λ u. u.shape) us) then option_and_then (of_dims (dims_of t)) (option_and_then (λ v. v.shape (map (λ u. u.shape) us)) gv) else None))
    (given_by form ts t xs ys alone named (drop_all k xs (omega (arith, m)) ∙ sym (drop_all k ys (omega (arith, n)))))

-- ---- the interface

pub ranks_alike : (t : ValueType) → rank_of t ≡ length (shape_of t)
ranks_alike (Tensor t) = sym (length-map t.dims extent_of)
ranks_alike (Scalar w) = refl
ranks_alike Nothing = refl
ranks_alike Sharding = refl
ranks_alike Index = refl

pub drop_and_take : {X : Type 0} (n : ℕ) (xs : List X) → length (drop n xs ++ take n xs) ≡ length xs
drop_and_take zero xs = ap length (append-nil xs)
drop_and_take (suc n) [] = refl
drop_and_take (suc n) (x ∷ xs) =
    length-append (drop n xs) (x ∷ take n xs)
    ∙ (let rest = length-append (drop n xs) (take n xs) in let all = drop_and_take n xs in omega (arith, rest, all))

module _ (form : Form) (ts : List ValueType) (t : ValueType) (place : Place) (fits : Fits form ts t) where
  abbrev E : Structured
  E = e form ts t place fits

  abbrev xs : List ℕ
  xs = X form ts t place fits

  abbrev ms : List (List ℕ)
  ms = maps form ts t place fits

  abbrev n : ℕ
  n = length (shape_of t)

  inputs_same : inputs_at form (rank_of (first_type ts)) (rank_of t) ≡ ms
  inputs_same =
      let head : length (shape_of (first_type ts)) ≡ length (get_or ms 0 []) = ap length (head_is form ts t place fits) ∙ length-map (get_or ms 0 []) (F form ts t place fits) in
      ap₂ (inputs_at form) (ranks_alike (first_type ts) ∙ head) (ranks_alike t) ∙ (row form ts t place fits).first

  abbrev structure : Structure
  structure = record { ins_outs = ins_outs_by ts t; loops = L form ts t place fits; inputs = map single ms; output = single (range_with_len 0 n); step = step_at form }

  structure_same : structure_by form ts t (rank_of (first_type ts)) (rank_of t) ≡ structure
  structure_same =
      let loops : loops_at form (rank_of t) ≡ L form ts t place fits = ap (loops_at form) (ranks_alike t) in
      let inputs : map single (inputs_at form (rank_of (first_type ts)) (rank_of t)) ≡ map single ms = ap (map single) inputs_same in
      let output : single (output_at form (rank_of t)) ≡ single (range_with_len 0 n) = ap (λ k. single (output_at form k)) (ranks_alike t) ∙ ap single (row form ts t place fits).output in
      λ j. record { ins_outs = ins_outs_by ts t; loops = loops j; inputs = inputs j; output = output j; step = step_at form }

  extents_same : extents_by structure (map shape_of (ts ++ t ∷ [])) ≡ xs
  extents_same =
      ap (λ fs. map (extent_of_loop fs) (range_with_len 0 (L form ts t place fits)))
      (ap₂ all_followed (sym (singles_joined ms (range_with_len 0 n))) (shapes_joined ts t) ∙ followed_are (ms ++ range_with_len 0 n ∷ []) (map shape_of ts ++ shape_of t ∷ []))
      ∙ map_same _ (F form ts t place fits) (extent_is (pairs_in form ts t)) (range_with_len 0 (L form ts t place fits)) ∙ sym (X_is form ts t place fits)

  loop_same : (l : ℕ) → structured_loop structure xs l ≡ loop_by E l
  loop_same l =
      ap₂ (λ b k. record { extent = get_or xs l 0; splittable = b || is_some (if b then None else k); kind = if b then None else k })
      (named_single (range_with_len 0 n) l) (kinds_same form)

  is_tensor_type : is_tensor t ≡ true
  is_tensor_type = subst (λ u. is_tensor u ≡ true) (sym fits.out) refl

  table_same : table.structured_nest t structure ≡ structured_nest E
  unfolding structured_nest
  table_same =
      let loops = ap (λ ys. map (structured_loop structure ys) (range_with_len 0 (L form ts t place fits))) extents_same
      ∙ map_same (structured_loop structure xs) (loop_by E) loop_same (range_with_len 0 (L form ts t place fits))
      ∙ ap (λ k. map (loop_by E) (range_with_len 0 k)) (sym (X_counted form ts t place fits)) in
      let operands = values_same form xs (range_with_len 0 n) t (width_of t) (G_own form ts t place fits) refl is_tensor_type ms ts fits.inputs (G_shapes form ts t place fits) in
      let result = value_same xs (range_with_len 0 n) t (width_of t) (G_own form ts t place fits) refl in
      λ j. record { loops = loops j; operands = operands j; result = result j }

  nest_same : nest_of (kind_at form ts t) t ≡ Some (structured_nest E)
  nest_same = nest_kind form ts t ∙ ap (option_map (table.structured_nest t)) (structure_is form ts t (named_agrees form (rank_of (first_type ts)) (length ts) fits.named) ∙ ap (λ x. Some x) structure_same) ∙ ap (λ x. Some x) table_same

  ins_counted : length E.ins ≡ length ms
  ins_counted = sym (length-map E.ins (λ (x : Operand). x.dims)) ∙ ap length (zipped_dims ms (map width_of ts) (length-map ts width_of ∙ fits.count))

  whole_same : (operands : List ℕ) (defines : Option ℕ) (where_at : Place) → length operands ≡ length ms + 1 → (us : List TensorValue)
      → whole_of (whole_op E) us ≡ whole_of (record { kind = kind_at form ts t; operands = operands; defines = defines; result = t; place = where_at }) us
  unfolding whole_of
  whole_same operands defines where_at counted us =
      let inputs = types_are form ts t place fits ms ts fits.inputs (G_shapes form ts t place fits) in
      let own = own_type_is form ts t place fits in
      let names : List ℕ = range_with_len 0 (operands_in E) in
      let all = ins_counted in
      let shape : length (inputs_at form (rank_of (first_type ts)) (rank_of t)) ≡ length ms = ap length inputs_same in
      let long : length names ≡ operands_in E = length-range 0 (operands_in E) in
      ap (λ k. whole_of (record { kind = kind_at k (input_types E (known xs)) (output_type E (known xs)); operands = names; defines = Some (operands_in E); result = output_type E (known xs); place = place }) us)
      (named_still (length E.ins + 1) (operands_in E + 1) form fits.named)
      ∙ ap₂ (λ us' u. whole_of (record { kind = kind_at form us' u; operands = names; defines = Some (operands_in E); result = u; place = place }) us) (sym inputs) (sym own)
      ∙ given_alike form ts t names operands (Some (operands_in E)) defines place where_at fits.named (omega (arith, all, shape, long)) (omega (arith, counted, shape))
      (drop (length us - leading_scalars (kind_at form ts t)) us ++ take (length us - leading_scalars (kind_at form ts t)) us)

  scalars_or_tensors : (b : Bool) → is_fill form ≡ b → length (structured_nest E).operands + length (scalar_widths E) ≡ length ms + 1
  unfolding structured_nest
  scalars_or_tensors b filling =
      let all = ins_counted in
      let operands = length-map (tensor_ins E ++ E.out ∷ []) (value_by xs) ∙ length-append (tensor_ins E) (E.out ∷ []) in
      let scalars = length-map E.ins (λ (x : Operand). x.width) in
      let both : length (tensor_ins E) + length (scalar_widths E) ≡ length E.ins = ap (λ (c : Bool). length (if c then [] else E.ins) + length (if c then map (λ (x : Operand). x.width) E.ins else [])) filling ∙ go b in
      omega (arith, all, operands, both)
    where
      go : (c : Bool) → length (if c then [] else E.ins) + length (if c then map (λ (x : Operand). x.width) E.ins else []) ≡ length E.ins
      go true = let scalars = length-map E.ins (λ (x : Operand). x.width) in omega (arith, scalars)
      go false = omega arith

  -- The interface is that of an operation of this kind.
  pub interface : (op : Op) → op.kind ≡ kind_at form ts t → op.result ≡ t → op.place ≡ place → length op.operands ≡ length ms + 1 → IsInterfaceOf op (structured_meaning E)
  interface op kind result at counted = record {
    nest = ap₂ nest_of kind result ∙ nest_same;
    whole = λ us.
        whole_same op.operands op.defines op.place counted us
        ∙ ap₂ (λ k u. whole_of (record { kind = k; operands = op.operands; defines = op.defines; result = u; place = op.place }) us) (sym kind) (sym result);
    counted = drop_and_take (leading_scalars op.kind) op.operands ∙ counted ∙ sym (scalars_or_tensors (is_fill form) refl);
    place = sym at;
  }
