-- The local part of a structured operation keeps the rules of device form.
use Rattle.std.proofs.Common.{◌≡◌, ◌≢◌, ℕ, zero, suc, ◌+◌, ◌-◌, ◌<◌, ◌≤◌, Bool, true, false, List, [], ◌∷◌, ◌++◌, map, take, length, Option, Some, None, refl, ap, ap₂, sym, ◌∙◌, arith, subst, inl, inr}
use Rattle.std.proofs.lemmas.Bool.{cases_Bool}
use Rattle.std.proofs.lemmas.Bool.Decides.{nat_tests}
use Rattle.std.proofs.lemmas.List.{length-append, length-map}
use Rattle.std.proofs.lemmas.Option.{same_Some}
use Rattle.std.specs.List.{AllByRecursion, list_all, range_with_len}
use Rattle.std.specs.Prelude.{get_or, nat_eq, nat_le, slice_get, if◌then◌else◌}
use Rattle.sh_base.specs.declared.numbers.Width.{Width}
use Rattle.sh_base.specs.declared.operations.Kind.{Kind}
use Rattle.sh_base.specs.declared.rules.Rule.{Rule}
use Rattle.sh_base.specs.Shape.{cell_count, max_cells, max_rank}
use Rattle.sh_grid.specs.Grid.{GridValue}
use Rattle.sh_ir.specs.declared.operations.Op.{Op}
use Rattle.sh_ir.specs.declared.types.Dim.{Dim}
use Rattle.sh_ir.specs.declared.types.ValueType.{ValueType}
use Rattle.sh_ir.specs.declared.types.ValueType.TheVariants.{Nothing, Scalar}
use Rattle.sh_ir.specs.Formed.{is_scalar}
use Rattle.sh_ir.specs.Limits.{counted_dim, has_few_cells, has_few_dims}
use Rattle.sh_ir.specs.Rules.{KeepsOps}
use Rattle.sh_ir.specs.Scope.{Scope, Value, value_named, value_of}
use Rattle.sh_ir.proofs.KeptLaws.{keeps_next}
use Rattle.sh_nest_laws.specs.LoopSplits.{Operand, sharding_on}
use Rattle.sh_nest_laws.specs.LoopSplits as nest
use Rattle.sh_nest_laws.proofs.Groups.{reduction_axes_are}
use Rattle.sh_sharding.specs.Sharding.{IsSharding}
use Rattle.sh_sharding.proofs.LocalLimits.{few_cells, few_dims}
use Rattle.sh_iface.specs.Elements.{tensor_of}
use Rattle.sh_iface.specs.Lawful.{EndsWith, IsLawful, IsPartScope, KeepsForm, is_local, operand_types}
use Rattle.sh_iface.specs.LoopNest.{value_at}
use Rattle.sh_iface.specs.Meaning.{instructions, local_type, operand_count, reduction_axes, result_split}
use Rattle.sh_iface.specs.Splits.{OptionValue, split_of}
use Rattle.sh_iface.specs.Valid.{IsValid}
use Rattle.sh_iface.proofs.Implied.{unsplit_valid}
use Rattle.sh_iface_linalg.specs.Structured.{Form, IsStructured, Structured, combining_kind, fill_op, first_rank, input_type, input_types, is_fill, kind_at, kind_of_form, local_loop, neutral_op, op_by, operands_in, own_type, part_by, part_names, reducing_names, renumbered_form, structured_meaning, structured_nest, structured_part, tensor_ins, value_by}
use Rattle.sh_iface_linalg.specs.Structured.{fill, matmul, batch_matmul, matvec, vecmat, dot, transpose, broadcast, reduce, generic}
use Rattle.sh_iface_linalg.specs.Nests.{plain_of}
use Rattle.sh_iface_linalg.specs.Loops.{length-range, nest_in_order}
use Rattle.sh_iface_linalg.specs.Divisions.{D, are_split, dims_local, ins_admitted, out_admitted, scalar_admitted, type_is}
use Rattle.sh_iface_linalg.specs.Cuts.{all_counted, axes_are, counted_tensors, form_kind, instructions_by, join_op, loops_apart, no_captured, no_kind, own_scalars, part_cuts, reduce_op, scalar_input, type_of_result}
use Rattle.sh_iface_linalg.specs.Bodies.{scalar_types}
use Rattle.sh_iface_linalg.specs.BodyRules.{IsConstantOf}
use Rattle.sh_iface_linalg.specs.Rules.{AreValuesOf, IsValueOf, itself, joined}
use Rattle.sh_iface_linalg.specs.Kept.{filling, filling_stands, op_keeps, stands}
use Rattle.sh_iface_linalg.specs.Combining.{join_keeps, neutral_keeps, reduce_keeps}

-- ---- values in a scope

-- the values behind one more
abbrev behind : Scope → Value → Scope
behind scope v = record scope { values = v ∷ scope.values }

other_named : (values : List Value) (v : Value) (name : ℕ) → v.name ≢ name → value_named (v ∷ values) name ≡ value_named values name
other_named values v name other = let test : nat_eq v.name name ≡ false = grind (arith, nat_tests) in rw test refl

still : {scope : Scope} {t : ValueType} {name : ℕ} → IsValueOf scope t name → (v : Value) → v.name ≢ name → IsValueOf (behind scope v) t name
still {scope = scope} {name = name} h v other = record { found = h.found; is = other_named scope.values v name other ∙ h.is; typed = h.typed }

newest : (scope : Scope) (v : Value) → IsValueOf (behind scope v) v.value_type v.name
newest scope v = record { found = v; is = (let test = itself v.name in rw test refl); typed = refl }

values_from : (scope : Scope) (k : ℕ) (ts : List ValueType) → ((i : ℕ) → i < length ts → IsValueOf scope (get_or ts i Nothing) (k + i)) → AreValuesOf scope ts (range_with_len k (length ts))
values_from scope k [] h = tt
values_from scope k (t ∷ ts) h =
    let here : k + 0 ≡ k = omega arith in (
      subst (IsValueOf scope t) here (h 0 (omega arith)),
      values_from scope (k + 1) ts (λ i lt. let next : k + suc i ≡ k + 1 + i = omega arith in subst (IsValueOf scope (get_or ts i Nothing)) next (h (suc i) (omega (arith, lt)))),
    )

values_joined : (scope : Scope) (ts : List ValueType) (names : List ℕ) (t : ValueType) (name : ℕ) → AreValuesOf scope ts names → IsValueOf scope t name → AreValuesOf scope (ts ++ t ∷ []) (names ++ name ∷ [])
values_joined scope [] [] t name h v = (v, tt)
values_joined scope [] (n ∷ names) t name h v = absurd h
values_joined scope (s ∷ ts) [] t name h v = absurd h
values_joined scope (s ∷ ts) (n ∷ names) t name h v = (h.0, values_joined scope ts names t name h.1 v)

got_front : {X : Type 0} (xs ys : List X) (i : ℕ) (d : X) → i < length xs → get_or (xs ++ ys) i d ≡ get_or xs i d
got_front [] ys i d lt = absurd (omega arith)
got_front (x ∷ xs) ys zero d lt = refl
got_front (x ∷ xs) ys (suc i) d lt = got_front xs ys i d (omega (arith, lt))

got_last : {X : Type 0} (xs : List X) (y d : X) → get_or (xs ++ y ∷ []) (length xs) d ≡ y
got_last [] y d = refl
got_last (x ∷ xs) y d = got_last xs y d

last_mapped : {X Y : Type 0} (f : X → Y) (xs : List X) (x : X) (d : Y) → get_or (map f (xs ++ x ∷ [])) (length (map f (xs ++ x ∷ [])) - 1) d ≡ f x
last_mapped {X = X} f xs x d =
    let n = length-map (xs ++ x ∷ []) f in
    let m = length-append xs (x ∷ []) in
    let last : length (map f (xs ++ x ∷ [])) - 1 ≡ length xs = omega (arith, n, m) in
    ap (λ i. get_or (map f (xs ++ x ∷ [])) i d) last ∙ go xs
  where
    go : (xs : List X) → get_or (map f (xs ++ x ∷ [])) (length xs) d ≡ f x
    go [] = refl
    go (y ∷ xs) = go xs

-- its class is one of local operations
local_class : (form : Form) (ts : List ValueType) (t : ValueType) (operands : List ℕ) (name : Option ℕ) (place : _) → is_local (record { kind = kind_at form ts t; operands = operands; defines = name; result = t; place = place }) ≡ true
local_class fill ts t operands name place = refl
local_class matmul ts t operands name place = refl
local_class batch_matmul ts t operands name place = refl
local_class matvec ts t operands name place = refl
local_class vecmat ts t operands name place = refl
local_class dot ts t operands name place = refl
local_class (transpose p) ts t operands name place = refl
local_class (broadcast d) ts t operands name place = refl
local_class (reduce n d r) ts t operands name place = refl
local_class (generic maps its r) ts t operands name place = refl

-- ---- the operands that are written, and those behind them

range_taken : (b k n : ℕ) → k ≤ n → take k (range_with_len b n) ≡ range_with_len b k
range_taken b zero n le = refl
range_taken b (suc k) zero le = absurd (omega (arith, le))
range_taken b (suc k) (suc n) le = ap (λ ns. b ∷ ns) (range_taken (b + 1) k n (omega (arith, le)))

front_taken : (xs ys : List ℕ) (x n : ℕ) → length xs ≡ n → take (n + 1) (xs ++ x ∷ ys) ≡ xs ++ x ∷ []
front_taken xs ys x n long = let z : n + 1 ≡ suc n = omega arith in ap (λ m. take m (xs ++ x ∷ ys)) z ∙ go xs n long
  where
    go : (xs : List ℕ) (n : ℕ) → length xs ≡ n → take (suc n) (xs ++ x ∷ ys) ≡ xs ++ x ∷ []
    go [] zero e = refl
    go [] (suc n) e = absurd (omega (arith, e))
    go (y ∷ xs) zero e = absurd (omega (arith, e))
    go (y ∷ xs) (suc n) e = ap (λ zs. y ∷ zs) (go xs n (omega (arith, e)))

got_behind : {X : Type 0} (xs ys : List X) (i : ℕ) (d : X) → get_or (xs ++ ys) (length xs + i) d ≡ get_or ys i d
got_behind [] ys i d = let z : 0 + i ≡ i = omega arith in ap (λ k. get_or ys k d) z
got_behind (x ∷ xs) ys i d = let z : suc (length xs) + i ≡ suc (length xs + i) = omega arith in ap (λ k. get_or (x ∷ xs ++ ys) k d) z ∙ got_behind xs ys i d

got_scalar : (ws : List Width) (i : ℕ) (v : Width) → slice_get ws i ≡ Some v → (get_or (scalar_types ws) i Nothing ≡ Scalar v) × (i < length ws)
got_scalar [] i v e = absurd (cc)
got_scalar (w ∷ ws) zero v e = (ap (λ u. Scalar u) (same_Some w v e), omega arith)
got_scalar (w ∷ ws) (suc i) v e = let rest = got_scalar ws i v e in (rest.0, let lt = rest.1 in omega (arith, lt))

constant_still : {values : List Value} {t : ValueType} {name : ℕ} → IsConstantOf values t name → (v : Value) → v.name ≢ name → IsConstantOf (v ∷ values) t name
constant_still {values = values} {name = name} h v other = record { found = h.found; is = other_named values v name other ∙ h.is; typed = h.typed; constant = h.constant }

module _ (e : Structured) (is : IsStructured e) (g : GridValue) (o : OptionValue) (valid : IsValid (structured_nest e) g o) where
  abbrev local : ℕ → Dim
  local = local_loop e.extents g o

  abbrev own : ValueType
  own = own_type e local

  abbrev ins : List ValueType
  ins = input_types e local

  -- ---- limits

  tensor_dims : (x : Operand) → IsSharding (sharding_on g (D e is g o valid) x.dims) → has_few_dims (tensor_of (map local x.dims) x.width) ≡ true
  unfolding has_few_dims
  tensor_dims x ok = subst (λ ds. nat_le (length ds) max_rank ≡ true) (dims_local g o e.extents x.dims) (few_dims (sharding_on g (D e is g o valid) x.dims) ok)

  tensor_cells : (x : Operand) → IsSharding (sharding_on g (D e is g o valid) x.dims) → has_few_cells (tensor_of (map local x.dims) x.width) ≡ true
  unfolding has_few_cells
  tensor_cells x ok = subst (λ ds. nat_le (cell_count (map counted_dim ds)) max_cells ≡ true) (dims_local g o e.extents x.dims) (few_cells (sharding_on g (D e is g o valid) x.dims) ok)

  all_dims : (b : Bool) (xs : List Operand) → AllByRecursion (λ x. IsSharding (sharding_on g (D e is g o valid) x.dims)) xs
      → list_all has_few_dims (map (λ (x : Operand). if b then Scalar x.width else tensor_of (map local x.dims) x.width) xs) ≡ true
  unfolding has_few_dims
  all_dims b [] ok = refl
  all_dims true (x ∷ xs) ok = all_dims true xs ok.1
  all_dims false (x ∷ xs) ok = joined _ _ (tensor_dims x ok.0) (all_dims false xs ok.1)

  all_cells : (b : Bool) (xs : List Operand) → AllByRecursion (λ x. IsSharding (sharding_on g (D e is g o valid) x.dims)) xs
      → list_all has_few_cells (map (λ (x : Operand). if b then Scalar x.width else tensor_of (map local x.dims) x.width) xs) ≡ true
  unfolding has_few_cells
  all_cells b [] ok = refl
  all_cells true (x ∷ xs) ok = all_cells true xs ok.1
  all_cells false (x ∷ xs) ok = joined _ _ (tensor_cells x ok.0) (all_cells false xs ok.1)

  few_of_dims : (list_all has_few_dims ins ≡ true) × (has_few_dims own ≡ true)
  few_of_dims = (all_dims (is_fill e.form) e.ins (ins_admitted e is g o valid), tensor_dims e.out (out_admitted e is g o valid))

  few_of_cells : (list_all has_few_cells ins ≡ true) × (has_few_cells own ≡ true)
  few_of_cells = (all_cells (is_fill e.form) e.ins (ins_admitted e is g o valid), tensor_cells e.out (out_admitted e is g o valid))

  -- ---- the operands where the local part stands

  types_of : (xs : List Operand) → map (λ value. local_type (split_of g (structured_nest e) o value)) (map (value_by e.extents) xs) ≡ map (λ (x : Operand). tensor_of (map local x.dims) x.width) xs
  types_of [] = refl
  types_of (x ∷ xs) = ap₂ ◌∷◌ (type_is g (structured_nest e) o e.extents x) (types_of xs)

  mapped_both : (xs : List Operand) → map (λ (x : Operand). tensor_of (map local x.dims) x.width) (xs ++ e.out ∷ []) ≡ map (λ (x : Operand). tensor_of (map local x.dims) x.width) xs ++ own ∷ []
  mapped_both [] = refl
  mapped_both (x ∷ xs) = ap (λ ts. tensor_of (map local x.dims) x.width ∷ ts) (mapped_both xs)

  -- the types of the operands: the tensors, then the scalars that its region uses
  abbrev part_types : List ValueType
  part_types = (ins ++ own ∷ []) ++ scalar_types e.captured

  tensor_types : is_fill e.form ≡ false → operand_types (structured_meaning e) g o ≡ part_types
  unfolding structured_nest
  tensor_types tensors =
      ap₂ (λ xs ws. map (λ value. local_type (split_of g (structured_nest e) o value)) (map (value_by e.extents) (xs ++ e.out ∷ [])) ++ map (λ w. Scalar w) ws)
      (ap (λ (b : Bool). if b then [] else e.ins) tensors) (own_scalars e is g o valid tensors)
      ∙ ap (λ ts. ts ++ scalar_types e.captured)
      (types_of (e.ins ++ e.out ∷ []) ∙ mapped_both e.ins
      ∙ ap (λ (b : Bool). map (λ (x : Operand). if b then Scalar x.width else tensor_of (map local x.dims) x.width) e.ins ++ own ∷ []) (sym tensors))

  one_in : is_fill e.form ≡ true → e.ins ≡ record { dims = []; width = e.out.width } ∷ []
  one_in filling_it = scalar_input e.form e.ins e.out filling_it (first_rank e.ins) (length e.out.dims) is.inputs is.widths

  filled_types : is_fill e.form ≡ true → operand_types (structured_meaning e) g o ≡ own ∷ Scalar e.out.width ∷ []
  unfolding structured_nest
  filled_types filling_it =
      ap₂ (λ xs ws. map (λ value. local_type (split_of g (structured_nest e) o value)) (map (value_by e.extents) (xs ++ e.out ∷ [])) ++ map (λ w. Scalar w) ws)
      (ap (λ (b : Bool). if b then [] else e.ins) filling_it) (ap (λ (b : Bool). if b then map (λ (x : Operand). x.width) e.ins else e.captured) filling_it ∙ ap (map (λ (x : Operand). x.width)) (one_in filling_it))
      ∙ ap (λ t. t ∷ Scalar e.out.width ∷ []) (type_is g (structured_nest e) o e.extents e.out)

  input_is : is_fill e.form ≡ true → ins ≡ Scalar e.out.width ∷ []
  input_is filling_it =
      ap₂ (λ (b : Bool) (xs : List Operand). map (λ (x : Operand). if b then Scalar x.width else tensor_of (map local x.dims) x.width) xs) filling_it (one_in filling_it)

  ins_counted : length ins ≡ length e.ins
  ins_counted = length-map e.ins (λ (x : Operand). input_type e.form (map local x.dims) x.width)

  tensors_counted : length (ins ++ own ∷ []) ≡ length e.ins + 1
  tensors_counted = length-append ins (own ∷ []) ∙ ap (λ n. n + 1) ins_counted

  types_counted : length part_types ≡ operands_in e
  types_counted =
      let a = length-append (ins ++ own ∷ []) (scalar_types e.captured) in
      let b = tensors_counted in
      let c = length-map e.captured (λ v. Scalar v) in
      omega (arith, a, b, c)

  value_here : {types : List ValueType} {scope : Scope} (p : IsPartScope g types scope) (i : ℕ) → i < length types → IsValueOf scope (get_or types i Nothing) i
  value_here {types = types} p i lt = record { found = record { name = i; value_type = get_or types i Nothing; is_constant = is_scalar (get_or types i Nothing) }; is = p.operands i lt; typed = refl }

  -- a tensor among the operands
  tensor_here : {scope : Scope} (p : IsPartScope g part_types scope) (i : ℕ) → i < length (ins ++ own ∷ []) → IsValueOf scope (get_or (ins ++ own ∷ []) i Nothing) i
  tensor_here {scope = scope} p i lt =
      let a = types_counted in
      let b = tensors_counted in
      subst (λ t. IsValueOf scope t i) (got_front (ins ++ own ∷ []) (scalar_types e.captured) i Nothing lt) (value_here p i (omega (arith, a, b, lt)))

  -- and a scalar
  scalar_here : {scope : Scope} (p : IsPartScope g part_types scope) (i : ℕ) (v : Width) → slice_get e.captured i ≡ Some v → IsConstantOf scope.values (Scalar v) (length e.ins + 1 + i)
  scalar_here p i v at =
      let own_at = got_scalar e.captured i v at in
      let a = types_counted in
      let b = tensors_counted in
      let lt = own_at.1 in
      let place : length (ins ++ own ∷ []) + i ≡ length e.ins + 1 + i = omega (arith, b) in
      let type : get_or part_types (length e.ins + 1 + i) Nothing ≡ Scalar v = ap (λ k. get_or part_types k Nothing) (sym place) ∙ got_behind (ins ++ own ∷ []) (scalar_types e.captured) i Nothing ∙ own_at.0 in
      record {
        found = record { name = length e.ins + 1 + i; value_type = get_or part_types (length e.ins + 1 + i) Nothing; is_constant = is_scalar (get_or part_types (length e.ins + 1 + i) Nothing) };
        is = p.operands (length e.ins + 1 + i) (omega (arith, a, lt));
        typed = type;
        constant = ap is_scalar type;
      }

  -- ---- alone

  module _ (rule : Rule) (scope : Scope) where
    tensors_keep : IsPartScope g part_types scope → KeepsOps rule scope (op_by e local (range_with_len 0 (operands_in e)) (operands_in e) ∷ [])
    tensors_keep p =
        let counted = types_counted in
        keeps_next rule scope (op_by e local (range_with_len 0 (operands_in e)) (operands_in e)) []
        (op_keeps e local (range_with_len 0 (operands_in e)) (operands_in e) scope (stands e is local) (record {
          grid = g.name;
          device = p.device;
          typed =
              subst (AreValuesOf scope (ins ++ own ∷ [])) (sym (range_taken 0 (length e.ins + 1) (operands_in e) (omega arith)))
              (subst (λ n. AreValuesOf scope (ins ++ own ∷ []) (range_with_len 0 n)) tensors_counted (values_from scope 0 (ins ++ own ∷ []) (λ i lt. let z : i ≡ 0 + i = omega arith in subst (IsValueOf scope (get_or (ins ++ own ∷ []) i Nothing)) z (tensor_here p i lt))));
          scalars = scalar_here p;
          later = omega arith;
          fresh = p.fresh (operands_in e) (omega (arith, counted));
          few_dims = few_of_dims;
          few_cells = few_of_cells;
        }) rule) refl

    fill_keeps : is_fill e.form ≡ true → IsPartScope g (own ∷ Scalar e.out.width ∷ []) scope → KeepsOps rule scope (op_by e local (1 ∷ 0 ∷ []) (operands_in e) ∷ [])
    fill_keeps filling_it p =
        let one : length e.ins ≡ 1 = ap length (one_in filling_it) in
        let own_none : e.captured ≡ [] = no_captured e.form e.captured (map (λ (x : Operand). x.width) e.ins) e.out.width filling_it is.region in
        let none : length e.captured ≡ 0 = ap length own_none in
        keeps_next rule scope (op_by e local (1 ∷ 0 ∷ []) (operands_in e)) []
        (op_keeps e local (1 ∷ 0 ∷ []) (operands_in e) scope (stands e is local) (record {
          grid = g.name;
          device = p.device;
          typed =
              subst (AreValuesOf scope (ins ++ own ∷ [])) (sym (ap (λ n. take (n + 1) (1 ∷ 0 ∷ [])) one))
              (subst (λ ts. AreValuesOf scope (ts ++ own ∷ []) (1 ∷ 0 ∷ [])) (sym (input_is filling_it)) (value_here p 1 (omega arith), (value_here p 0 (omega arith), tt)));
          scalars = λ i v at. let f : None ≡ Some v = sym (ap (λ ws. slice_get ws i) own_none) ∙ at in absurd (cc);
          later = omega arith;
          fresh = p.fresh (operands_in e) (omega (arith, one));
          few_dims = few_of_dims;
          few_cells = few_of_cells;
        }) rule) refl

    -- ---- with what combines

    module _ (k : Kind) (has : kind_of_form e.form ≡ Some k) (p : IsPartScope g part_types scope) where
      abbrev N : ℕ
      N = operands_in e

      abbrev first_op : Op
      first_op = neutral_op e local k N

      abbrev second_op : Op
      second_op = fill_op e local (length e.ins) N

      abbrev third_op : Op
      third_op = op_by e local (reducing_names e (suc N)) (suc (suc N))

      abbrev axes : List ℕ
      axes = nest.reduction_axes (D e is g o valid) (plain_of e)

      abbrev fourth_op : Op
      fourth_op = reduce_op g axes k (suc (suc N)) own e.place

      abbrev fifth_op : Op
      fifth_op = join_op k (length e.ins) (suc (suc N)) own e.place

      abbrev scope1 : Scope
      scope1 = behind scope (value_of first_op N)

      abbrev scope2 : Scope
      scope2 = behind scope1 (value_of second_op (suc N))

      abbrev scope3 : Scope
      scope3 = behind scope2 (value_of third_op (suc (suc N)))

      abbrev scope4 : Scope
      scope4 = behind scope3 (value_of fourth_op (suc (suc (suc N))))

      new_in : (name : ℕ) → N ≤ name → value_named scope.values name ≡ None
      new_in name le = let counted = types_counted in p.fresh name (omega (arith, counted, le))

      new1 : (name : ℕ) → suc N ≤ name → value_named scope1.values name ≡ None
      new1 name le = other_named scope.values (value_of first_op N) name (λ same. absurd (omega (arith, same, le))) ∙ new_in name (omega (arith, le))

      new2 : (name : ℕ) → suc (suc N) ≤ name → value_named scope2.values name ≡ None
      new2 name le = other_named scope1.values (value_of second_op (suc N)) name (λ same. absurd (omega (arith, same, le))) ∙ new1 name (omega (arith, le))

      new3 : (name : ℕ) → suc (suc (suc N)) ≤ name → value_named scope3.values name ≡ None
      new3 name le = other_named scope2.values (value_of third_op (suc (suc N))) name (λ same. absurd (omega (arith, same, le))) ∙ new2 name (omega (arith, le))

      new4 : (name : ℕ) → suc (suc (suc (suc N))) ≤ name → value_named scope4.values name ≡ None
      new4 name le = other_named scope3.values (value_of fourth_op (suc (suc (suc N)))) name (λ same. absurd (omega (arith, same, le))) ∙ new3 name (omega (arith, le))

      outs_here : IsValueOf scope own (length e.ins)
      outs_here =
          let counted = tensors_counted in
          let n = ins_counted in
          subst (λ t. IsValueOf scope t (length e.ins)) (ap (λ i. get_or (ins ++ own ∷ []) i Nothing) (sym n) ∙ got_last ins own Nothing) (tensor_here p (length e.ins) (omega (arith, counted)))

      outs1 : IsValueOf scope1 own (length e.ins)
      outs1 = still outs_here (value_of first_op N) (λ same. absurd (omega (arith, same)))

      outs2 : IsValueOf scope2 own (length e.ins)
      outs2 = still outs1 (value_of second_op (suc N)) (λ same. absurd (omega (arith, same)))

      outs3 : IsValueOf scope3 own (length e.ins)
      outs3 = still outs2 (value_of third_op (suc (suc N))) (λ same. absurd (omega (arith, same)))

      outs4 : IsValueOf scope4 own (length e.ins)
      outs4 = still outs3 (value_of fourth_op (suc (suc (suc N)))) (λ same. absurd (omega (arith, same)))

      input2 : (i : ℕ) → i < length ins → IsValueOf scope2 (get_or ins i Nothing) (0 + i)
      input2 i lt =
          let counted = tensors_counted in
          let n = ins_counted in
          let z : i ≡ 0 + i = omega arith in
          let here : IsValueOf scope (get_or ins i Nothing) i = subst (λ t. IsValueOf scope t i) (got_front ins (own ∷ []) i Nothing lt) (tensor_here p i (omega (arith, counted, n, lt))) in
          subst (IsValueOf scope2 (get_or ins i Nothing)) z
          (still (still here (value_of first_op N) (λ same. absurd (omega (arith, same, n, lt)))) (value_of second_op (suc N)) (λ same. absurd (omega (arith, same, n, lt))))

      scalar2 : (i : ℕ) (v : Width) → slice_get e.captured i ≡ Some v → IsConstantOf scope2.values (Scalar v) (length e.ins + 1 + i)
      scalar2 i v at =
          let lt = (got_scalar e.captured i v at).1 in
          constant_still (constant_still (scalar_here p i v at) (value_of first_op N) (λ same. absurd (omega (arith, same, lt)))) (value_of second_op (suc N)) (λ same. absurd (omega (arith, same, lt)))

      second_keeps : KeepsOps rule scope1 (second_op ∷ third_op ∷ fourth_op ∷ fifth_op ∷ []) → KeepsOps rule scope (first_op ∷ second_op ∷ third_op ∷ fourth_op ∷ fifth_op ∷ [])
      second_keeps rest = keeps_next rule scope first_op (second_op ∷ third_op ∷ fourth_op ∷ fifth_op ∷ []) (neutral_keeps e local k N scope g.name p.device (new_in N (omega arith)) rule) rest

      third_keeps : KeepsOps rule scope2 (third_op ∷ fourth_op ∷ fifth_op ∷ []) → KeepsOps rule scope1 (second_op ∷ third_op ∷ fourth_op ∷ fifth_op ∷ [])
      third_keeps rest =
          keeps_next rule scope1 second_op (third_op ∷ fourth_op ∷ fifth_op ∷ [])
          (op_keeps (filling e.out e.place) local (N ∷ length e.ins ∷ []) (suc N) scope1 (filling_stands e.out e.place local) (record {
            grid = g.name;
            device = p.device;
            typed = (newest scope (value_of first_op N), (outs1, tt));
            scalars = λ i v at. absurd (cc);
            later = omega arith;
            fresh = new1 (suc N) (omega arith);
            few_dims = (all_dims true (record { dims = []; width = e.out.width } ∷ []) (no_dims, tt), few_of_dims.1);
            few_cells = (all_cells true (record { dims = []; width = e.out.width } ∷ []) (no_dims, tt), few_of_cells.1);
          }) rule) rest
        where
          no_dims : IsSharding (sharding_on g (D e is g o valid) [])
          no_dims = scalar_admitted e is g o valid

      fourth_keeps : KeepsOps rule scope3 (fourth_op ∷ fifth_op ∷ []) → KeepsOps rule scope2 (third_op ∷ fourth_op ∷ fifth_op ∷ [])
      fourth_keeps rest =
          keeps_next rule scope2 third_op (fourth_op ∷ fifth_op ∷ [])
          (op_keeps e local (reducing_names e (suc N)) (suc (suc N)) scope2 (stands e is local) (record {
            grid = g.name;
            device = p.device;
            typed = subst (AreValuesOf scope2 (ins ++ own ∷ [])) (sym (front_taken (range_with_len 0 (length e.ins)) (range_with_len (length e.ins + 1) (length e.captured)) (suc N) (length e.ins) (length-range 0 (length e.ins)))) (values_joined scope2 ins (range_with_len 0 (length e.ins)) own (suc N) (subst (λ n. AreValuesOf scope2 ins (range_with_len 0 n)) ins_counted (values_from scope2 0 ins input2)) (newest scope1 (value_of second_op (suc N))));
            scalars = scalar2;
            later = omega arith;
            fresh = new2 (suc (suc N)) (omega arith);
            few_dims = few_of_dims;
            few_cells = few_of_cells;
          }) rule) rest

      rest_keeps : KeepsOps rule scope3 (fourth_op ∷ fifth_op ∷ [])
      rest_keeps =
          keeps_next rule scope3 fourth_op (fifth_op ∷ [])
          (reduce_keeps (map local e.out.dims) e.out.width few_of_dims.1 few_of_cells.1 scope3 e.place g axes k (suc (suc N)) p.device (new3 (suc (suc (suc N))) (omega arith)) (newest scope2 (value_of third_op (suc (suc N)))) p.item p.grid p.extents
          (reduction_axes_are g (D e is g o valid) (plain_of e) (are_split e is g o valid).loop (loops_apart e is g o valid valid.apart)) rule)
          (keeps_next rule scope4 fifth_op []
          (join_keeps (map local e.out.dims) e.out.width few_of_dims.1 few_of_cells.1 scope4 e.place g.name k (length e.ins) (suc (suc N)) p.device (new4 (suc (suc (suc (suc N)))) (omega arith)) outs4 (newest scope3 (value_of fourth_op (suc (suc (suc N))))) rule) refl)

      all_keep : KeepsOps rule scope (first_op ∷ second_op ∷ third_op ∷ fourth_op ∷ fifth_op ∷ [])
      all_keep = second_keeps (third_keeps (fourth_keeps rest_keeps))

      pub combined_keeps : (outs last : ℕ) (along : List ℕ) (type : ValueType) → outs ≡ length e.ins → last ≡ suc (suc N) → along ≡ axes → type ≡ own
          → KeepsOps rule scope (first_op ∷ second_op ∷ third_op ∷ reduce_op g along k last type e.place ∷ join_op k outs last type e.place ∷ [])
      combined_keeps outs last along type outs_is last_is axes_is type_is =
          subst (λ n. KeepsOps rule scope (first_op ∷ second_op ∷ third_op ∷ reduce_op g along k last type e.place ∷ join_op k n last type e.place ∷ [])) (sym outs_is)
          (subst (λ n. KeepsOps rule scope (first_op ∷ second_op ∷ third_op ∷ reduce_op g along k n type e.place ∷ join_op k (length e.ins) n type e.place ∷ [])) (sym last_is)
          (subst (λ xs. KeepsOps rule scope (first_op ∷ second_op ∷ third_op ∷ reduce_op g xs k (suc (suc N)) type e.place ∷ join_op k (length e.ins) (suc (suc N)) type e.place ∷ [])) (sym axes_is)
          (subst (λ t. KeepsOps rule scope (first_op ∷ second_op ∷ third_op ∷ reduce_op g axes k (suc (suc N)) t e.place ∷ join_op k (length e.ins) (suc (suc N)) t e.place ∷ [])) (sym type_is) all_keep)))

    -- ---- all instructions

    abbrev Keeps : List Op → Type 0
    Keeps ops = KeepsOps rule scope ops

    tensors_form : (k : Option Kind) → combining_kind e o ≡ k → is_fill e.form ≡ false → IsPartScope g (operand_types (structured_meaning e) g o) scope → Keeps (instructions (structured_meaning e) g o)
    tensors_form None none tensors p =
        subst Keeps (sym (instructions_by e is g o valid None none ∙ ap (λ ns. op_by e local ns (operands_in e) ∷ []) (ap (λ (b : Bool). if b then 1 ∷ 0 ∷ [] else range_with_len 0 (operands_in e)) tensors)))
        (tensors_keep (subst (λ ts. IsPartScope g ts scope) (tensor_types tensors) p))
    tensors_form (Some k) has tensors p =
        let count = all_counted e is g o valid tensors in
        let tensors_count = counted_tensors e is g o valid tensors in
        let form = form_kind e is g o valid k has in
        subst Keeps (sym (instructions_by e is g o valid (Some k) has))
        (combined_keeps k form (subst (λ ts. IsPartScope g ts scope) (tensor_types tensors) p) (length (structured_nest e).operands - 1) (operand_count (structured_meaning e) + 3 - 1) (reduction_axes (structured_nest e).loops o) (local_type (result_split (structured_meaning e) g o))
        (omega (arith, tensors_count)) (omega (arith, count)) (axes_are e is g o valid k form) (type_of_result e is g o valid))

    fill_form : is_fill e.form ≡ true → IsPartScope g (operand_types (structured_meaning e) g o) scope → Keeps (instructions (structured_meaning e) g o)
    unfolding combining_kind
    fill_form filling_it p =
        subst Keeps (sym (instructions_by e is g o valid None (no_kind e.form _ filling_it) ∙ ap (λ (b : Bool). op_by e local (if b then 1 ∷ 0 ∷ [] else range_with_len 0 (operands_in e)) (operands_in e) ∷ []) filling_it))
        (fill_keeps filling_it (subst (λ ts. IsPartScope g ts scope) (filled_types filling_it) p))

    keeps_all : IsPartScope g (operand_types (structured_meaning e) g o) scope → Keeps (instructions (structured_meaning e) g o)
    keeps_all p =
        elim (cases_Bool (is_fill e.form)) [
          | inl b ↦ fill_form b p
          | inr b ↦ tensors_form (combining_kind e o) refl b p
        ]

  -- ---- of its own instructions

  alone_by : (k : Option Kind) → AllByRecursion (λ op. is_local op ≡ true) (part_by e local k).ops
  alone_by None = (local_class (renumbered_form (length e.ins + 1) (operands_in e + 1) e.form) ins own (part_names e) (Some (operands_in e)) e.place, tt)
  alone_by (Some k) =
      (refl, (refl, (local_class (renumbered_form (length e.ins + 1) (suc (suc (operands_in e)) + 1) e.form) ins own (reducing_names e (suc (operands_in e))) (Some (suc (suc (operands_in e)))) e.place, tt)))

  ends_by : (k : Option Kind) → EndsWith own (part_by e local k).ops
  ends_by None op at = ap (λ (x : Op). x.result) (sym (same_Some _ op at))
  ends_by (Some k) op at = ap (λ (x : Op). x.result) (sym (same_Some _ op at))

  outs_is : split_of g (structured_nest e) o (value_at (structured_nest e) (length (structured_nest e).operands - 1)) ≡ result_split (structured_meaning e) g o
  unfolding structured_nest
  outs_is = ap (split_of g (structured_nest e) o) (last_mapped (value_by e.extents) (tensor_ins e) e.out (value_by e.extents e.out))

  pub form_kept : KeepsForm (structured_meaning e) g o
  unfolding structured_part
  form_kept = record {
    alone = alone_by (combining_kind e o);
    keeps = λ scope rule p. keeps_all rule scope p;
    typed = subst (λ t. EndsWith t (part_by e local (combining_kind e o)).ops) (sym (type_of_result e is g o valid)) (ends_by (combining_kind e o));
    outs = λ some. outs_is;
  }

-- The laws of a structured operation.
pub structured_lawful : (e : Structured) → IsStructured e → IsLawful (structured_meaning e)
structured_lawful e is = record {
  nest = nest_in_order e is;
  replicated = unsplit_valid (structured_nest e) (nest_in_order e is);
  form = λ g o valid. form_kept e is g o valid;
  cut = λ g o valid. part_cuts e is g o valid;
}
