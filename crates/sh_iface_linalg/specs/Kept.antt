-- A structured operation keeps every rule of device form where its operands have their types.
use Rattle.std.proofs.Common.{◌≡◌, ℕ, zero, suc, ◌+◌, ◌<◌, ◌≤◌, Bool, true, false, List, [], ◌∷◌, ◌++◌, map, take, drop, length, Option, Some, None, refl, ap, ap₂, sym, ◌∙◌, arith, subst}
use Rattle.std.proofs.lemmas.Bool.Decides.{nat_tests}
use Rattle.std.proofs.lemmas.List.{length-map, length-take-le}
use Rattle.std.specs.Cmp.Lexicographic.{pointwise}
use Rattle.std.specs.List.{list_all, range_with_len}
use Rattle.std.specs.Option.{option_map_or}
use Rattle.std.specs.Prelude.{◌&&◌, ◌||◌, get_or, is_some, nat_eq, nat_le, nat_lt, not, slice_get, if◌then◌else◌, ℤ}
use Rattle.sh_base.specs.Shape.{max_rank}
use Rattle.sh_base.specs.Cells.{bits_of}
use Rattle.sh_base.specs.declared.numbers.Width.{Width}
use Rattle.sh_base.specs.declared.places.Place.{Place}
use Rattle.sh_base.specs.declared.rules.Rule.{Rule}
use Rattle.sh_base.specs.declared.rules.Rule.TheVariants.{V1, V2, V3, V4, V5, V6, V8, V9, V10, L2, L4, L6}
use Rattle.sh_ir.specs.declared.operations.Op.{Op}
use Rattle.sh_ir.specs.declared.types.Dim.{Dim}
use Rattle.sh_ir.specs.declared.types.ValueType.{ValueType}
use Rattle.sh_ir.specs.declared.types.ValueType.TheVariants.{Scalar}
use Rattle.sh_ir.specs.Agreement.{cell_bits, rank_of, same_bits}
use Rattle.sh_ir.specs.Attributes.{numbers_fit}
use Rattle.sh_ir.specs.Formed.{is_scalar, types_in}
use Rattle.sh_ir.specs.Limits.{has_few_cells, has_few_dims, has_few_inputs, has_few_loops, max_inputs, max_loops}
use Rattle.sh_ir.specs.declared.bodies.Body.{Body}
use Rattle.sh_ir.specs.declared.linalg_ops.AffineMap.{AffineMap}
use Rattle.sh_ir.specs.declared.linalg_ops.IteratorType.{IteratorType}
use Rattle.sh_ir.specs.Loops.{LoopMap, Structure, by_region, first_results, generic_of, single, structure_of, unlisted}
use Rattle.sh_ir.specs.Maps.{has_all_maps, iterators_fit, maps_fit, operands_follow}
use Rattle.sh_ir.specs.Numbers.{are_axes_below, are_distinct, as_naturals}
use Rattle.sh_ir.specs.RegionRules.{last_bits, region_fits}
use Rattle.sh_ir.specs.Regions.{is_among}
use Rattle.sh_ir.specs.Operands.{all_following, all_of_bits, can_multiply, extents_fit, follows_maps, operands_fit, ranks_fit}
use Rattle.sh_ir.specs.Results.{result_fits}
use Rattle.sh_ir.specs.Rules.{calls_source, defines_new, has_region_in_order, is_in_form, keeps, names_known, region_faults, takes_operands, uses_defined, KeepsOp}
use Rattle.sh_ir.specs.Scope.{Scope, is_defined, value_named}
use Rattle.sh_ir.specs.Typing.{are_of_types, counts_fit, has_no_scalars, tensor_types, written_operands}
use Rattle.sh_ir.specs.Written.{first_type, written_by}
use Rattle.sh_ir.proofs.KeptLaws.{keeps_op}
use Rattle.sh_nest_laws.specs.LoopSplits.{Operand}
use Rattle.sh_iface.specs.Elements.{tensor_of}
use Rattle.sh_iface_linalg.specs.Bodies.{IsRegion, Region, renumbered_body}
use Rattle.sh_iface_linalg.specs.BodyRules.{IsConstantOf, body_faultless, body_typed}
use Rattle.sh_iface_linalg.specs.Structured.{AreMaps, FitsNumbers, FitsRegion, FitsWidths, Form, IsStructured, Structured, first_rank, input_type, input_types, inputs_at, inputs_of_maps, ins_outs_by, is_fill, kind_at, loops_at, multiplies, op_by, operands_in, output_at, output_type, renumbered_form}
use Rattle.sh_iface_linalg.specs.Structured.{fill, matmul, batch_matmul, matvec, vecmat, dot, transpose, broadcast, reduce, generic}
use Rattle.sh_iface_linalg.specs.Nests.{first_rank_is, same_fill, same_inputs, same_loops, same_numbers, same_output, same_widths, structure_by}
use Rattle.sh_iface_linalg.specs.Cuts.{typing_is}
use Rattle.sh_iface_linalg.specs.Rules.{AreValuesOf, agrees, all_both, all_defined, all_typed, both, equal, itself, joined, maps_by, maps_hold, types_by}

-- ---- names in a range, and maps

range_distinct : (b n : ℕ) → are_distinct (range_with_len b n) ≡ true
range_distinct b zero = refl
range_distinct b (suc n) = let other = none_below b (b + 1) n (omega arith) in let rest = range_distinct (b + 1) n in rw (other, rest) refl
  where
    none_below : (b c n : ℕ) → b < c → is_among (range_with_len c n) b ≡ false
    none_below b c zero lt = refl
    none_below b c (suc n) lt = let here : nat_eq b c ≡ false = grind (arith, nat_tests) in let rest = none_below b (c + 1) n (omega (arith, lt)) in rw (here, rest) refl

pub maps_counted : (maps : List AffineMap) (its : List IteratorType) → AreMaps maps its → length (map (λ (m : AffineMap). m.results) (take (inputs_of_maps maps) maps)) ≡ inputs_of_maps maps
maps_counted maps its h =
    length-map (take (inputs_of_maps maps) maps) (λ (m : AffineMap). m.results) ∙ length-take-le (inputs_of_maps maps) maps (let some = h.some in omega (arith, some))

-- all maps are those of the inputs and that of the output
pub results_split : (maps : List AffineMap) → length maps ≡ inputs_of_maps maps + 1
    → map (λ (m : AffineMap). m.results) maps ≡ map (λ (m : AffineMap). m.results) (take (inputs_of_maps maps) maps) ++ first_results (drop (inputs_of_maps maps) maps) ∷ []
results_split maps some = go maps (inputs_of_maps maps) some
  where
    go : (maps : List AffineMap) (n : ℕ) → length maps ≡ n + 1 → map (λ (m : AffineMap). m.results) maps ≡ map (λ (m : AffineMap). m.results) (take n maps) ++ first_results (drop n maps) ∷ []
    go [] n e = absurd (omega (arith, e))
    go (m ∷ []) zero e = refl
    go (m ∷ k ∷ maps) zero e = absurd (omega (arith, e))
    go (m ∷ maps) (suc n) e = ap (λ ls. m.results ∷ ls) (go maps n (omega (arith, e)))

pub maps_both : (is : List (List ℕ)) (os : List ℕ) → map single (is ++ os ∷ []) ≡ map single is ++ single os ∷ []
maps_both [] os = refl
maps_both (ls ∷ is) os = ap (λ ms. single ls ∷ ms) (maps_both is os)

-- ---- the types that are written

few_types : (form : Form) (ts : List ValueType) (t : ValueType) (test : ValueType → Bool) → list_all test ts ≡ true → test t ≡ true → list_all test (types_in (written_by (kind_at form ts t)) t) ≡ true
few_types fill ts t test h k = all_both test (ts ++ t ∷ []) (t ∷ []) (all_both test ts (t ∷ []) h (rw k refl)) (rw k refl)
few_types matmul ts t test h k = all_both test (ts ++ t ∷ []) (t ∷ []) (all_both test ts (t ∷ []) h (rw k refl)) (rw k refl)
few_types batch_matmul ts t test h k = all_both test (ts ++ t ∷ []) (t ∷ []) (all_both test ts (t ∷ []) h (rw k refl)) (rw k refl)
few_types matvec ts t test h k = all_both test (ts ++ t ∷ []) (t ∷ []) (all_both test ts (t ∷ []) h (rw k refl)) (rw k refl)
few_types vecmat ts t test h k = all_both test (ts ++ t ∷ []) (t ∷ []) (all_both test ts (t ∷ []) h (rw k refl)) (rw k refl)
few_types dot ts t test h k = all_both test (ts ++ t ∷ []) (t ∷ []) (all_both test ts (t ∷ []) h (rw k refl)) (rw k refl)
few_types (transpose p) ts t test h k = all_both test (ts ++ t ∷ []) [] (all_both test ts (t ∷ []) h (rw k refl)) refl
few_types (broadcast d) ts t test h k = all_both test (ts ++ t ∷ []) [] (all_both test ts (t ∷ []) h (rw k refl)) refl
few_types (reduce n d r) ts t test h k = all_both test (ts ++ t ∷ []) [] (all_both test ts (t ∷ []) h (rw k refl)) refl
few_types (generic maps its r) ts t test h k = all_both test (ts ++ t ∷ []) (t ∷ []) (all_both test ts (t ∷ []) h (rw k refl)) (rw k refl)

-- what the limits ask of a generic
abbrev pub FitsLimits : Form → Type 0
FitsLimits fill = Unit {0}
FitsLimits matmul = Unit {0}
FitsLimits batch_matmul = Unit {0}
FitsLimits matvec = Unit {0}
FitsLimits vecmat = Unit {0}
FitsLimits dot = Unit {0}
FitsLimits (transpose p) = Unit {0}
FitsLimits (broadcast d) = Unit {0}
FitsLimits (reduce n d r) = Unit {0}
FitsLimits (generic maps its r) = (length its ≤ max_loops) × AreMaps maps its

limits_by : (form : Form) (f r n : ℕ) → loops_at form r ≡ n → n ≤ max_rank → FitsNumbers form f r → FitsLimits form
limits_by fill f r n same few h = tt
limits_by matmul f r n same few h = tt
limits_by batch_matmul f r n same few h = tt
limits_by matvec f r n same few h = tt
limits_by vecmat f r n same few h = tt
limits_by dot f r n same few h = tt
limits_by (transpose p) f r n same few h = tt
limits_by (broadcast d) f r n same few h = tt
limits_by (reduce m d b) f r n same few h = tt
limits_by (generic maps its b) f r n same few h = (omega (arith, same, few), h)

few_loops : (form : Form) (ts : List ValueType) (t : ValueType) → FitsLimits form → has_few_loops (kind_at form ts t) ≡ true
unfolding has_few_loops generic_of
few_loops fill ts t h = refl
few_loops matmul ts t h = refl
few_loops batch_matmul ts t h = refl
few_loops matvec ts t h = refl
few_loops vecmat ts t h = refl
few_loops dot ts t h = refl
few_loops (transpose p) ts t h = refl
few_loops (broadcast d) ts t h = refl
few_loops (reduce n d r) ts t h = refl
few_loops (generic maps its r) ts t h = let few = h.0 in grind (arith, nat_tests)

few_inputs : (form : Form) (ts : List ValueType) (t : ValueType) (device : Bool) (f r : ℕ) → device ≡ true → FitsLimits form → length ts ≡ length (inputs_at form f r) → has_few_inputs device (kind_at form ts t) ≡ true
unfolding has_few_inputs generic_of
few_inputs fill ts t device f r on h n = refl
few_inputs matmul ts t device f r on h n = refl
few_inputs batch_matmul ts t device f r on h n = refl
few_inputs matvec ts t device f r on h n = refl
few_inputs vecmat ts t device f r on h n = refl
few_inputs dot ts t device f r on h n = refl
few_inputs (transpose p) ts t device f r on h n = refl
few_inputs (broadcast d) ts t device f r on h n = refl
few_inputs (reduce m d b) ts t device f r on h n = refl
few_inputs (generic maps its b) ts t device f r on h n =
    let counted = maps_counted maps its h.1 in
    let few = h.1.few in
    let le : length ts ≤ max_inputs true = omega (arith, n, counted, few) in
    ap (λ (b : Bool). nat_le (length ts) (max_inputs b)) on ∙ within (length ts) (max_inputs true) le
  where
    within : (m n : ℕ) → m ≤ n → nat_le m n ≡ true
    within m n le = grind (arith, nat_tests)

-- ---- operands

module _ (ts : List ValueType) (t : ValueType) (operands : List ℕ) (name : ℕ) (place : Place) where
  abbrev op_of : Form → Op
  op_of form = record { kind = kind_at form ts t; operands = operands; defines = Some name; result = t; place = place }

  written : (form : Form) → written_operands (op_of form) ≡ take (length ts + 1) operands
  written fill = refl
  written matmul = refl
  written batch_matmul = refl
  written matvec = refl
  written vecmat = refl
  written dot = refl
  written (transpose p) = refl
  written (broadcast d) = refl
  written (reduce n d r) = refl
  written (generic maps its r) = refl

  new_name : (first base : ℕ) (form : Form) (scope : Scope) → value_named scope.values name ≡ None → defines_new scope (op_of (renumbered_form first base form)) ≡ true
  unfolding defines_new
  new_name first base fill scope none = rw none refl
  new_name first base matmul scope none = rw none refl
  new_name first base batch_matmul scope none = rw none refl
  new_name first base matvec scope none = rw none refl
  new_name first base vecmat scope none = rw none refl
  new_name first base dot scope none = rw none refl
  new_name first base (transpose p) scope none = rw none refl
  new_name first base (broadcast d) scope none = rw none refl
  new_name first base (reduce n d r) scope none = let apart = range_distinct base (length r.body.args) in rw (none, apart) refl
  new_name first base (generic maps its r) scope none = let apart = range_distinct base (length r.body.args) in rw (none, apart) refl

  grids_known : (form : Form) (scope : Scope) → names_known scope (kind_at form ts t) ≡ true
  unfolding names_known
  grids_known fill scope = refl
  grids_known matmul scope = refl
  grids_known batch_matmul scope = refl
  grids_known matvec scope = refl
  grids_known vecmat scope = refl
  grids_known dot scope = refl
  grids_known (transpose p) scope = refl
  grids_known (broadcast d) scope = refl
  grids_known (reduce n d r) scope = refl
  grids_known (generic maps its r) scope = refl

  of_device : (form : Form) (scope : Scope) (grid : List ℕ) → scope.device ≡ Some grid → is_in_form scope (op_of form) ≡ true
  unfolding is_in_form calls_source
  of_device fill scope grid device = rw device refl
  of_device matmul scope grid device = rw device refl
  of_device batch_matmul scope grid device = rw device refl
  of_device matvec scope grid device = rw device refl
  of_device vecmat scope grid device = rw device refl
  of_device dot scope grid device = rw device refl
  of_device (transpose p) scope grid device = rw device refl
  of_device (broadcast d) scope grid device = rw device refl
  of_device (reduce n d r) scope grid device = rw device refl
  of_device (generic maps its r) scope grid device = rw device refl

  counts : (form : Form) (f r : ℕ) → length ts ≡ length (inputs_at form f r) → counts_fit (kind_at form ts t) operands ≡ true
  unfolding counts_fit
  counts fill f r n = rw n refl
  counts matmul f r n = rw n refl
  counts batch_matmul f r n = rw n refl
  counts matvec f r n = rw n refl
  counts vecmat f r n = rw n refl
  counts dot f r n = rw n refl
  counts (transpose p) f r n = rw n refl
  counts (broadcast d) f r n = rw n refl
  counts (reduce m d b) f r n = rw n refl
  counts (generic maps its b) f r n = let own = itself (length ts) in rw own refl

-- ---- types by the operands

tensors : (dim : ℕ → Dim) (ins : List Operand) → list_all (λ (t : ValueType). not (is_scalar t)) (types_by dim ins) ≡ true
tensors dim [] = refl
tensors dim (x ∷ ins) = tensors dim ins

no_scalars : (form : Form) (dim : ℕ → Dim) (ins : List Operand) (out : Operand)
    → has_no_scalars (kind_at form (map (λ (x : Operand). input_type form (map dim x.dims) x.width) ins) (tensor_of (map dim out.dims) out.width)) (tensor_of (map dim out.dims) out.width) ≡ true
unfolding tensor_types
no_scalars fill dim ins out = refl
no_scalars matmul dim ins out = few_types matmul (types_by dim ins) (tensor_of (map dim out.dims) out.width) (λ t. not (is_scalar t)) (tensors dim ins) refl
no_scalars batch_matmul dim ins out = few_types batch_matmul (types_by dim ins) (tensor_of (map dim out.dims) out.width) (λ t. not (is_scalar t)) (tensors dim ins) refl
no_scalars matvec dim ins out = few_types matvec (types_by dim ins) (tensor_of (map dim out.dims) out.width) (λ t. not (is_scalar t)) (tensors dim ins) refl
no_scalars vecmat dim ins out = few_types vecmat (types_by dim ins) (tensor_of (map dim out.dims) out.width) (λ t. not (is_scalar t)) (tensors dim ins) refl
no_scalars dot dim ins out = few_types dot (types_by dim ins) (tensor_of (map dim out.dims) out.width) (λ t. not (is_scalar t)) (tensors dim ins) refl
no_scalars (transpose p) dim ins out = few_types (transpose p) (types_by dim ins) (tensor_of (map dim out.dims) out.width) (λ t. not (is_scalar t)) (tensors dim ins) refl
no_scalars (broadcast d) dim ins out = few_types (broadcast d) (types_by dim ins) (tensor_of (map dim out.dims) out.width) (λ t. not (is_scalar t)) (tensors dim ins) refl
no_scalars (reduce n d r) dim ins out = few_types (reduce n d r) (types_by dim ins) (tensor_of (map dim out.dims) out.width) (λ t. not (is_scalar t)) (tensors dim ins) refl
no_scalars (generic maps its r) dim ins out = few_types (generic maps its r) (types_by dim ins) (tensor_of (map dim out.dims) out.width) (λ t. not (is_scalar t)) (tensors dim ins) refl

maps_are : (dim : ℕ → Dim) (ins : List Operand) (out : Operand) → maps_by dim (ins ++ out ∷ []) ≡ map single (map (λ (x : Operand). x.dims) ins) ++ single out.dims ∷ []
maps_are dim [] out = refl
maps_are dim (x ∷ ins) out = ap (λ ms. single x.dims ∷ ms) (maps_are dim ins out)

types_are : (dim : ℕ → Dim) (ins : List Operand) (out : Operand) → types_by dim (ins ++ out ∷ []) ≡ types_by dim ins ++ tensor_of (map dim out.dims) out.width ∷ []
types_are dim [] out = refl
types_are dim (x ∷ ins) out = ap (λ ts. tensor_of (map dim x.dims) x.width ∷ ts) (types_are dim ins out)

abbrev pub fits_maps : List LoopMap → List ValueType → Bool
fits_maps maps ts = ranks_fit maps ts && extents_fit (all_following maps ts)

follows : (form : Form) (dim : ℕ → Dim) (ins : List Operand) (out : Operand) (f r : ℕ) → inputs_at form f r ≡ map (λ (x : Operand). x.dims) ins → output_at form r ≡ out.dims
    → follows_maps (structure_by form (types_by dim ins) (tensor_of (map dim out.dims) out.width) f r) ≡ true
unfolding follows_maps
follows form dim ins out f r inputs output =
    ap₂ fits_maps (ap₂ (λ is os. map single is ++ single os ∷ []) inputs output ∙ sym (maps_are dim ins out)) (sym (types_are dim ins out))
    ∙ maps_hold dim (ins ++ out ∷ [])

-- ---- widths

wide : (dim : ℕ → Dim) (ins : List Operand) → list_all (λ v. nat_lt 1 (bits_of v)) (map (λ (x : Operand). x.width) ins) ≡ true → list_all (λ t. nat_lt 1 (cell_bits t)) (types_by dim ins) ≡ true
wide dim [] h = refl
wide dim (x ∷ ins) h =
    let parts = both (nat_lt 1 (bits_of x.width)) (list_all (λ v. nat_lt 1 (bits_of v)) (map (λ (x : Operand). x.width) ins)) h in
    joined (nat_lt 1 (bits_of x.width)) (list_all (λ t. nat_lt 1 (cell_bits t)) (types_by dim ins)) parts.0 (wide dim ins parts.1)

narrow : (dim : ℕ → Dim) (ins : List Operand) (w : Width) → list_all (λ v. nat_le (bits_of v) (bits_of w)) (map (λ (x : Operand). x.width) ins) ≡ true → list_all (λ t. nat_le (cell_bits t) (bits_of w)) (types_by dim ins) ≡ true
narrow dim [] w h = refl
narrow dim (x ∷ ins) w h =
    let parts = both (nat_le (bits_of x.width) (bits_of w)) (list_all (λ v. nat_le (bits_of v) (bits_of w)) (map (λ (x : Operand). x.width) ins)) h in
    joined (nat_le (bits_of x.width) (bits_of w)) (list_all (λ t. nat_le (cell_bits t) (bits_of w)) (types_by dim ins)) parts.0 (narrow dim ins w parts.1)

product_widths : (dim : ℕ → Dim) (ins : List Operand) (out : Operand) → multiplies out.width (map (λ (x : Operand). x.width) ins) ≡ true → can_multiply (ins_outs_by (types_by dim ins) (tensor_of (map dim out.dims) out.width)) ≡ true
unfolding can_multiply
product_widths dim ins out h =
    let all = both (nat_lt 1 (bits_of out.width)) (list_all (λ v. nat_lt 1 (bits_of v)) (map (λ (x : Operand). x.width) ins) && list_all (λ v. nat_le (bits_of v) (bits_of out.width)) (map (λ (x : Operand). x.width) ins)) h in
    let parts = both (list_all (λ v. nat_lt 1 (bits_of v)) (map (λ (x : Operand). x.width) ins)) (list_all (λ v. nat_le (bits_of v) (bits_of out.width)) (map (λ (x : Operand). x.width) ins)) all.1 in
    joined _ _ (all_both (λ t. nat_lt 1 (cell_bits t)) (types_by dim ins) (tensor_of (map dim out.dims) out.width ∷ []) (wide dim ins parts.0) (let o = all.0 in rw o refl)) (narrow dim ins out.width parts.1)

copied_widths : (dim : ℕ → Dim) (ins : List Operand) (out : Operand) → map (λ (x : Operand). x.width) ins ≡ out.width ∷ [] → all_of_bits (ins_outs_by (types_by dim ins) (tensor_of (map dim out.dims) out.width)) ≡ true
unfolding all_of_bits
copied_widths dim [] out h = absurd (cc)
copied_widths dim (x ∷ []) out h =
    let same : x.width ≡ out.width = ap (λ (ws : List Width). get_or ws 0 out.width) h in
    joined (nat_eq (bits_of out.width) (bits_of x.width)) true (subst (λ w. nat_eq (bits_of out.width) (bits_of w) ≡ true) (sym same) (itself (bits_of out.width))) refl
copied_widths dim (x ∷ y ∷ ins) out h = absurd (cc)

-- ---- the numbers

numbers : (form : Form) (ts : List ValueType) (t : ValueType) (scope : Scope) (f : ℕ) → (is_fill form ≡ false → rank_of (first_type ts) ≡ f) → FitsNumbers form f (rank_of t) → numbers_fit scope (kind_at form ts t) t ≡ true
unfolding numbers_fit
numbers fill ts t scope f same h = refl
numbers matmul ts t scope f same h = refl
numbers batch_matmul ts t scope f same h = refl
numbers matvec ts t scope f same h = refl
numbers vecmat ts t scope f same h = refl
numbers dot ts t scope f same h = refl
numbers (transpose p) ts t scope f same h = h.0
numbers (broadcast d) ts t scope f same h = h.0
numbers (reduce n d r) ts t scope f same h = ap (λ m. are_axes_below m d) (same refl ∙ sym h.1) ∙ h.0
numbers (generic maps its r) ts t scope f same h = refl

-- ---- the operands fit

or_right : (a b : Bool) → b ≡ true → (a || b) ≡ true
or_right true b h = refl
or_right false b h = h

-- a reduction of an input of rank `first`, whose output's dimensions are told by `own`
abbrev reduced_by : ℕ → ℕ → List ℤ → Body → List ValueType → ValueType → Structure
reduced_by own first d body ts t = record {
  ins_outs = ins_outs_by ts t;
  loops = own;
  inputs = single (range_with_len 0 first) ∷ [];
  output = single (unlisted own (as_naturals d));
  step = by_region body;
}

module _ (scope : Scope) (dim : ℕ → Dim) (ins : List Operand) (out : Operand) where
  abbrev out_type : ValueType
  out_type = tensor_of (map dim out.dims) out.width

  abbrev in_types : Form → List ValueType
  in_types form = map (λ (x : Operand). input_type form (map dim x.dims) x.width) ins

  filled_operands : FitsWidths fill out.width (map (λ (x : Operand). x.width) ins) → operands_fit scope (kind_at fill (in_types fill) out_type) out_type ≡ true
  unfolding operands_fit all_of_bits
  filled_operands h = go ins h
    where
      go : (ins : List Operand) → map (λ (x : Operand). x.width) ins ≡ out.width ∷ []
          → (list_all (same_bits out_type) (map (λ (x : Operand). input_type fill (map dim x.dims) x.width) ins) && is_scalar (first_type (map (λ (x : Operand). input_type fill (map dim x.dims) x.width) ins))) ≡ true
      go [] h = absurd (cc)
      go (x ∷ []) h =
          let same : x.width ≡ out.width = ap (λ (ws : List Width). get_or ws 0 out.width) h in
          joined (nat_eq (bits_of out.width) (bits_of x.width) && true) true (joined (nat_eq (bits_of out.width) (bits_of x.width)) true (subst (λ w. nat_eq (bits_of out.width) (bits_of w) ≡ true) (sym same) (itself (bits_of out.width))) refl) refl
      go (x ∷ y ∷ ins) h = absurd (cc)

  operands_by : (form : Form) → FitsWidths form out.width (map (λ (x : Operand). x.width) ins) → FitsNumbers form (first_rank ins) (length out.dims)
      → inputs_at form (first_rank ins) (length out.dims) ≡ map (λ (x : Operand). x.dims) ins → output_at form (length out.dims) ≡ out.dims
      → operands_fit scope (kind_at form (in_types form) out_type) out_type ≡ true
  unfolding operands_fit
  operands_by fill widths numbers_ok inputs output = filled_operands widths
  operands_by matmul widths numbers_ok inputs output = joined _ _ (product_widths dim ins out widths) (follows matmul dim ins out (first_rank ins) (length out.dims) inputs output)
  operands_by batch_matmul widths numbers_ok inputs output = joined _ _ (product_widths dim ins out widths) (follows batch_matmul dim ins out (first_rank ins) (length out.dims) inputs output)
  operands_by matvec widths numbers_ok inputs output = joined _ _ (product_widths dim ins out widths) (follows matvec dim ins out (first_rank ins) (length out.dims) inputs output)
  operands_by vecmat widths numbers_ok inputs output = joined _ _ (product_widths dim ins out widths) (follows vecmat dim ins out (first_rank ins) (length out.dims) inputs output)
  operands_by dot widths numbers_ok inputs output = joined _ _ (product_widths dim ins out widths) (follows dot dim ins out (first_rank ins) (length out.dims) inputs output)
  operands_by (transpose p) widths numbers_ok inputs output =
      let first = first_rank_is (transpose p) dim ins refl in
      let rank : length (map dim out.dims) ≡ length out.dims = length-map out.dims dim in
      joined _ _ (copied_widths dim ins out widths)
      (joined _ _ (equal _ _ (first ∙ numbers_ok.1 ∙ sym rank))
      (or_right _ _ (follows (transpose p) dim ins out (rank_of (first_type (types_by dim ins))) (length (map dim out.dims)) (ap₂ (inputs_at (transpose p)) first rank ∙ inputs) (ap (output_at (transpose p)) rank ∙ output))))
  operands_by (reduce n d r) widths numbers_ok inputs output =
      let first = first_rank_is (reduce n d r) dim ins refl in
      let rank : length (map dim out.dims) ≡ length out.dims = length-map out.dims dim in
      let own : n ≡ rank_of (first_type (types_by dim ins)) = numbers_ok.1 ∙ sym first in
      joined _ _ (equal _ _ (ap (λ m. m + length d) rank ∙ numbers_ok.2 ∙ sym first))
      (or_right _ _ (subst (λ m. follows_maps (reduced_by m (rank_of (first_type (types_by dim ins))) d r.body (types_by dim ins) (tensor_of (map dim out.dims) out.width)) ≡ true) own
      (follows (reduce n d r) dim ins out (rank_of (first_type (types_by dim ins))) (length (map dim out.dims)) (ap₂ (inputs_at (reduce n d r)) first rank ∙ inputs) (ap (output_at (reduce n d r)) rank ∙ output))))
  operands_by (generic maps its r) widths numbers_ok inputs output = refl
  operands_by (broadcast d) widths numbers_ok inputs output =
      let first = first_rank_is (broadcast d) dim ins refl in
      let rank : length (map dim out.dims) ≡ length out.dims = length-map out.dims dim in
      joined _ _ (copied_widths dim ins out widths)
      (joined _ _ (equal _ _ (ap (λ n. n + length d) first ∙ numbers_ok.1 ∙ sym rank))
      (or_right _ _ (follows (broadcast d) dim ins out (rank_of (first_type (types_by dim ins))) (length (map dim out.dims)) (ap₂ (inputs_at (broadcast d)) first rank ∙ inputs) (ap (output_at (broadcast d)) rank ∙ output))))

-- ---- maps

maps_kept : (form : Form) (dim : ℕ → Dim) (ins : List Operand) (out : Operand) (f r : ℕ) → FitsLimits form → inputs_at form f r ≡ map (λ (x : Operand). x.dims) ins → output_at form r ≡ out.dims
    → option_map_or maps_fit (generic_of (kind_at form (map (λ (x : Operand). input_type form (map dim x.dims) x.width) ins) (tensor_of (map dim out.dims) out.width))) true ≡ true
unfolding generic_of maps_fit has_all_maps operands_follow iterators_fit
maps_kept fill dim ins out f r h inputs output = refl
maps_kept matmul dim ins out f r h inputs output = refl
maps_kept batch_matmul dim ins out f r h inputs output = refl
maps_kept matvec dim ins out f r h inputs output = refl
maps_kept vecmat dim ins out f r h inputs output = refl
maps_kept dot dim ins out f r h inputs output = refl
maps_kept (transpose p) dim ins out f r h inputs output = refl
maps_kept (broadcast d) dim ins out f r h inputs output = refl
maps_kept (reduce n d b) dim ins out f r h inputs output = refl
maps_kept (generic maps its b) dim ins out f r h inputs output =
    let counted : length ins ≡ inputs_of_maps maps = sym (length-map ins (λ (x : Operand). x.dims)) ∙ ap length (sym inputs) ∙ maps_counted maps its h.1 in
    let some = h.1.some in
    let typed : length (types_by dim ins) ≡ length ins = length-map ins (λ (x : Operand). tensor_of (map dim x.dims) x.width) in
    joined _ _ (joined _ _ refl (equal _ _ (omega (arith, counted, some, typed))))
    (joined _ _ h.1.projections
    (joined _ _
    (ap₂ fits_maps (ap (map single) (results_split maps h.1.some) ∙ maps_both (map (λ (m : AffineMap). m.results) (take (inputs_of_maps maps) maps)) (first_results (drop (inputs_of_maps maps) maps))
    ∙ ap₂ (λ is os. map single is ++ single os ∷ []) inputs output ∙ sym (maps_are dim ins out)) (sym (types_are dim ins out))
    ∙ maps_hold dim (ins ++ out ∷ []))
    (joined _ _ h.1.used h.1.iterators_fit)))

-- ---- regions

widths_pair : (dim : ℕ → Dim) (ins : List Operand) (out : Operand)
    → pointwise (λ w t. nat_eq (bits_of w) (cell_bits t)) (map (λ (x : Operand). x.width) ins ++ out.width ∷ []) (types_by dim ins ++ tensor_of (map dim out.dims) out.width ∷ []) ≡ true
widths_pair dim [] out = joined _ _ (itself (bits_of out.width)) refl
widths_pair dim (x ∷ ins) out = joined _ _ (itself (bits_of x.width)) (widths_pair dim ins out)

last_is : (ts : List ValueType) (t : ValueType) → last_bits (ts ++ t ∷ []) ≡ cell_bits t
last_is [] t = refl
last_is (u ∷ []) t = refl
last_is (u ∷ v ∷ ts) t = last_is (v ∷ ts) t

module _ (scope : Scope) (dim : ℕ → Dim) (ins : List Operand) (out : Operand) (scalars : List Width) (base : ℕ) where
  abbrev front : ℕ
  front = length ins + 1

  -- the scalars of the function stand under the names behind the tensors
  abbrev pub HasScalars : Type 0
  HasScalars = (i : ℕ) (v : Width) → slice_get scalars i ≡ Some v → IsConstantOf scope.values (Scalar v) (length ins + 1 + i)

  abbrev written_types : List ValueType
  written_types = types_by dim ins ++ tensor_of (map dim out.dims) out.width ∷ []

  region_in_order : (r : Region) → IsRegion r scalars (map (λ (x : Operand). x.width) ins) out.width → length ins + 1 + length scalars ≤ base → HasScalars
      → region_fits scope.values written_types (renumbered_body (length ins + 1) base r) ≡ true
  unfolding region_fits
  region_in_order r is later there =
      let counted = is.scalars_counted in
      joined _ _ (subst (λ ws. pointwise (λ w t. nat_eq (bits_of w) (cell_bits t)) ws written_types ≡ true) (sym is.block) (widths_pair dim ins out))
      (joined _ _ (equal _ _ (ap bits_of is.width ∙ sym (last_is (types_by dim ins) (tensor_of (map dim out.dims) out.width))))
      (body_typed scope.values (length ins + 1) base r scalars (map (λ (x : Operand). x.width) ins) out.width is (omega (arith, later, counted)) there))

  region_kept : (form : Form) → FitsRegion form scalars (map (λ (x : Operand). x.width) ins) out.width → length ins + 1 + length scalars ≤ base → HasScalars
      → has_region_in_order scope (kind_at (renumbered_form (length ins + 1) base form) (map (λ (x : Operand). input_type form (map dim x.dims) x.width) ins) (tensor_of (map dim out.dims) out.width)) ≡ true
  unfolding has_region_in_order structure_of
  region_kept fill fits later there = refl
  region_kept matmul fits later there = refl
  region_kept batch_matmul fits later there = refl
  region_kept matvec fits later there = refl
  region_kept vecmat fits later there = refl
  region_kept dot fits later there = refl
  region_kept (transpose p) fits later there = refl
  region_kept (broadcast d) fits later there = refl
  region_kept (reduce n d r) fits later there = region_in_order r fits later there
  region_kept (generic maps its r) fits later there = region_in_order r fits later there

  region_faultless : (rule : Rule) (form : Form) → FitsRegion form scalars (map (λ (x : Operand). x.width) ins) out.width → length ins + 1 + length scalars ≤ base → HasScalars
      → region_faults (rule ∷ []) scope (kind_at (renumbered_form (length ins + 1) base form) (map (λ (x : Operand). input_type form (map dim x.dims) x.width) ins) (tensor_of (map dim out.dims) out.width)) ≡ []
  unfolding region_faults
  region_faultless rule fill fits later there = refl
  region_faultless rule matmul fits later there = refl
  region_faultless rule batch_matmul fits later there = refl
  region_faultless rule matvec fits later there = refl
  region_faultless rule vecmat fits later there = refl
  region_faultless rule dot fits later there = refl
  region_faultless rule (transpose p) fits later there = refl
  region_faultless rule (broadcast d) fits later there = refl
  region_faultless rule (reduce n d r) fits later there =
      let counted = fits.scalars_counted in
      body_faultless scope.values (length ins + 1) base r scalars (map (λ (x : Operand). x.width) ins) out.width fits (omega (arith, later, counted)) there rule _
  region_faultless rule (generic maps its r) fits later there =
      let counted = fits.scalars_counted in
      body_faultless scope.values (length ins + 1) base r scalars (map (λ (x : Operand). x.width) ins) out.width fits (omega (arith, later, counted)) there rule _

-- ---- all rules

-- what is known where the operation stands
pub record IsAt (e : Structured) (dim : ℕ → Dim) (operands : List ℕ) (name : ℕ) (scope : Scope) : Type 0 where
  pub grid : List ℕ
  pub device : scope.device ≡ Some grid
  pub typed : AreValuesOf scope (input_types e dim ++ output_type e dim ∷ []) (take (length e.ins + 1) operands)
  pub scalars : HasScalars scope dim e.ins e.out e.captured 0
  pub later : operands_in e ≤ name + 1
  pub fresh : value_named scope.values name ≡ None
  pub few_dims : (list_all has_few_dims (input_types e dim) ≡ true) × (has_few_dims (output_type e dim) ≡ true)
  pub few_cells : (list_all has_few_cells (input_types e dim) ≡ true) × (has_few_cells (output_type e dim) ≡ true)

result_is : (form : Form) (ts : List ValueType) (dims : List Dim) (w : Width) (scope : Scope) → result_fits scope (kind_at form ts (tensor_of dims w)) (tensor_of dims w) ≡ true
unfolding result_fits
result_is fill ts dims w scope = agrees dims w
result_is matmul ts dims w scope = agrees dims w
result_is batch_matmul ts dims w scope = agrees dims w
result_is matvec ts dims w scope = agrees dims w
result_is vecmat ts dims w scope = agrees dims w
result_is dot ts dims w scope = agrees dims w
result_is (transpose p) ts dims w scope = agrees dims w
result_is (broadcast d) ts dims w scope = agrees dims w
result_is (reduce n d r) ts dims w scope = agrees dims w
result_is (generic maps its r) ts dims w scope = agrees dims w

-- a form under other names, with the same types
renumbered_types : (first base : ℕ) (form : Form) (dim : ℕ → Dim) (ins : List Operand)
    → map (λ (x : Operand). input_type (renumbered_form first base form) (map dim x.dims) x.width) ins ≡ map (λ (x : Operand). input_type form (map dim x.dims) x.width) ins
renumbered_types first base form dim ins = ap (λ (b : Bool). map (λ (x : Operand). if b then Scalar x.width else tensor_of (map dim x.dims) x.width) ins) (same_fill first base form)

-- its operands and numbers are in order at these types
pub record Stands (e : Structured) (dim : ℕ → Dim) : Type 0 where
  pub counted : length e.ins ≡ length (inputs_at e.form (first_rank e.ins) (length e.out.dims))
  pub operands : (scope : Scope) (first base : ℕ) → operands_fit scope (kind_at (renumbered_form first base e.form) (input_types e dim) (output_type e dim)) (output_type e dim) ≡ true
  pub numbers : (scope : Scope) (first base : ℕ) → numbers_fit scope (kind_at (renumbered_form first base e.form) (input_types e dim) (output_type e dim)) (output_type e dim) ≡ true
  pub maps : (first base : ℕ) → option_map_or maps_fit (generic_of (kind_at (renumbered_form first base e.form) (input_types e dim) (output_type e dim))) true ≡ true
  pub limits : (first base : ℕ) → FitsLimits (renumbered_form first base e.form)
  pub region : FitsRegion e.form e.captured (map (λ x. x.width) e.ins) e.out.width

pub stands : (e : Structured) → IsStructured e → (dim : ℕ → Dim) → Stands e dim
stands e is dim = record {
  counted = sym (ap length is.inputs ∙ length-map e.ins (λ (x : Operand). x.dims));
  operands = λ scope first base.
      subst (λ ts. operands_fit scope (kind_at (renumbered_form first base e.form) ts (output_type e dim)) (output_type e dim) ≡ true) (renumbered_types first base e.form dim e.ins)
      (operands_by scope dim e.ins e.out (renumbered_form first base e.form) (same_widths first base e.form e.out.width (map (λ (x : Operand). x.width) e.ins) is.widths)
      (same_numbers first base e.form (first_rank e.ins) (length e.out.dims) is.numbers) (same_inputs first base e.form (first_rank e.ins) (length e.out.dims) ∙ is.inputs) (same_output first base e.form (length e.out.dims) ∙ is.output));
  numbers = λ scope first base.
      numbers (renumbered_form first base e.form) (input_types e dim) (output_type e dim) scope (first_rank e.ins) (λ tensors. first_rank_is e.form dim e.ins (sym (same_fill first base e.form) ∙ tensors))
      (subst (FitsNumbers (renumbered_form first base e.form) (first_rank e.ins)) (sym (length-map e.out.dims dim)) (same_numbers first base e.form (first_rank e.ins) (length e.out.dims) is.numbers));
  maps = λ first base.
      subst (λ ts. option_map_or maps_fit (generic_of (kind_at (renumbered_form first base e.form) ts (output_type e dim))) true ≡ true) (renumbered_types first base e.form dim e.ins)
      (maps_kept (renumbered_form first base e.form) dim e.ins e.out (first_rank e.ins) (length e.out.dims) (limits_of e is first base)
      (same_inputs first base e.form (first_rank e.ins) (length e.out.dims) ∙ is.inputs) (same_output first base e.form (length e.out.dims) ∙ is.output));
  limits = limits_of e is;
  region = is.region;
}
  where
    limits_of : (e : Structured) → IsStructured e → (first base : ℕ) → FitsLimits (renumbered_form first base e.form)
    limits_of e is first base =
        limits_by (renumbered_form first base e.form) (first_rank e.ins) (length e.out.dims) (length e.extents) (same_loops first base e.form (length e.out.dims) ∙ is.loops) is.few
        (same_numbers first base e.form (first_rank e.ins) (length e.out.dims) is.numbers)

-- a fill of a tensor, whatever its dimensions follow
abbrev pub filling : Operand → Place → Structured
filling out place = record {
  form = fill;
  extents = [];
  ins = record { dims = []; width = out.width } ∷ [];
  out = out;
  captured = [];
  place = place;
}

filling_maps : (out : Operand) (place : Place) (dim : ℕ → Dim) → option_map_or maps_fit (generic_of (kind_at fill (input_types (filling out place) dim) (output_type (filling out place) dim))) true ≡ true
unfolding generic_of
filling_maps out place dim = refl

pub filling_stands : (out : Operand) (place : Place) (dim : ℕ → Dim) → Stands (filling out place) dim
filling_stands out place dim = record {
  counted = refl;
  operands = λ scope first base. filled_operands scope dim (record { dims = []; width = out.width } ∷ []) out refl;
  numbers = λ scope first base. numbers fill (input_types (filling out place) dim) (output_type (filling out place) dim) scope 0 (λ tensors. absurd (cc)) tt;
  maps = λ first base. filling_maps out place dim;
  limits = λ first base. tt;
  region = refl;
}

module _ (e : Structured) (dim : ℕ → Dim) (operands : List ℕ) (name : ℕ) (scope : Scope) (is : Stands e dim) (at : IsAt e dim operands name scope) where
  abbrev op : Op
  op = op_by e dim operands name

  abbrev ins : List ValueType
  ins = input_types e dim

  abbrev out : ValueType
  out = output_type e dim

  -- the form under the names that it has here
  abbrev form_here : Form
  form_here = renumbered_form (length e.ins + 1) (name + 1) e.form

  ins_counted : length ins ≡ length e.ins
  ins_counted = length-map e.ins (λ (x : Operand). input_type e.form (map dim x.dims) x.width)

  written_are : written_operands op ≡ take (length e.ins + 1) operands
  written_are = written ins out operands name e.place form_here ∙ ap (λ n. take (n + 1) operands) ins_counted

  uses : keeps V1 scope op ≡ true
  unfolding keeps uses_defined
  uses = ap (list_all (is_defined scope.values)) written_are ∙ all_defined scope (ins ++ out ∷ []) (take (length e.ins + 1) operands) at.typed

  inputs_counted : length ins ≡ length (inputs_at form_here (first_rank e.ins) (length e.out.dims))
  inputs_counted = ins_counted ∙ is.counted ∙ ap length (sym (same_inputs (length e.ins + 1) (name + 1) e.form (first_rank e.ins) (length e.out.dims)))

  no_scalars_here : has_no_scalars (kind_at form_here ins out) out ≡ true
  no_scalars_here = subst (λ ts. has_no_scalars (kind_at form_here ts out) out ≡ true) (renumbered_types (length e.ins + 1) (name + 1) e.form dim e.ins) (no_scalars form_here dim e.ins e.out)

  takes : keeps V3 scope op ≡ true
  unfolding keeps takes_operands
  takes =
      joined _ _ (counts ins out operands name e.place form_here (first_rank e.ins) (length e.out.dims) inputs_counted)
      (joined _ _ (ap₂ (are_of_types scope.values) (typing_is form_here ins out) written_are ∙ all_typed scope (ins ++ out ∷ []) (take (length e.ins + 1) operands) at.typed)
      (joined _ _ no_scalars_here (is.operands scope (length e.ins + 1) (name + 1))))

  numbers_kept : keeps V5 scope op ≡ true
  unfolding keeps
  numbers_kept = is.numbers scope (length e.ins + 1) (name + 1)

  ranks : keeps L2 scope op ≡ true
  unfolding keeps
  ranks = joined _ _ (few_types form_here ins out has_few_dims at.few_dims.0 at.few_dims.1) (few_loops form_here ins out (is.limits (length e.ins + 1) (name + 1)))

  cells : keeps L4 scope op ≡ true
  unfolding keeps
  cells = few_types form_here ins out has_few_cells at.few_cells.0 at.few_cells.1

  kept_inputs : keeps L6 scope op ≡ true
  unfolding keeps
  kept_inputs =
      few_inputs form_here ins out (is_some scope.device) (first_rank e.ins) (length e.out.dims) (ap (λ (d : Option (List ℕ)). is_some d) at.device) (is.limits (length e.ins + 1) (name + 1)) inputs_counted

  kept_maps : keeps V8 scope op ≡ true
  unfolding keeps
  kept_maps = is.maps (length e.ins + 1) (name + 1)

  kept_region : keeps V9 scope op ≡ true
  unfolding keeps
  kept_region = region_kept scope dim e.ins e.out e.captured (name + 1) e.form is.region at.later at.scalars

  kept : (rule : Rule) → keeps rule scope op ≡ true
  unfolding keeps
  kept L2 = ranks
  kept L4 = cells
  kept L6 = kept_inputs
  kept V1 = uses
  kept V2 = new_name ins out operands name e.place (length e.ins + 1) (name + 1) e.form scope at.fresh
  kept V3 = takes
  kept V4 = result_is form_here ins (map dim e.out.dims) e.out.width scope
  kept V5 = numbers_kept
  kept V6 = grids_known ins out operands name e.place form_here scope
  kept V8 = kept_maps
  kept V9 = kept_region
  kept V10 = of_device ins out operands name e.place form_here scope at.grid at.device
  kept _ = refl

  pub op_keeps : (rule : Rule) → KeepsOp rule scope op
  op_keeps rule = keeps_op rule scope op (kept rule) (region_faultless scope dim e.ins e.out e.captured (name + 1) rule e.form is.region at.later at.scalars)
