-- A structured operation as a plain nest of loops, on tensors of any extents.
use Rattle.std.proofs.Common.{◌≡◌, ℕ, ◌+◌, ◌≤◌, Bool, true, false, List, [], ◌∷◌, ◌++◌, map, take, drop, length, Option, Some, None, refl, ap, ap₂, sym, ◌∙◌, arith, subst}
use Rattle.std.proofs.lemmas.List.{length-map, length-take-le}
use Rattle.std.proofs.lemmas.Option.{same_Some}
use Rattle.std.specs.List.{range_with_len}
use Rattle.std.specs.Prelude.{get_or, option_map, slice_get, ◌==◌, ◌||◌, flat_map}
use Rattle.sh_base.specs.Cells.{IsCellOf}
use Rattle.sh_base.specs.declared.numbers.Cell.{Cell}
use Rattle.sh_base.specs.declared.numbers.Width.{Width}
use Rattle.sh_base.specs.declared.operations.Kind.{Kind}
use Rattle.sh_base.specs.declared.operations.Kind.TheVariants.{Sum}
use Rattle.sh_int.specs.Reduction.{combine_of}
use Rattle.sh_int.proofs.ReductionLaws.{combine_laws}
use Rattle.sh_ir.specs.declared.types.Dim.{Dim}
use Rattle.sh_ir.specs.declared.types.ValueType.{ValueType}
use Rattle.sh_ir.specs.Agreement.{rank_of}
use Rattle.sh_ir.specs.declared.linalg_ops.AffineMap.{AffineMap}
use Rattle.sh_ir.specs.Loops.{Step, Structure, copied, first_results, product_added, by_region, single, structure_of, unlisted}
use Rattle.sh_ir.specs.Numbers.{as_naturals}
use Rattle.sh_ir.specs.Written.{first_type}
use Rattle.sh_nest_laws.specs.Folds.{IfThere}
use Rattle.sh_nest_laws.specs.LoopSplits.{AreCellsOf, IsOperationOf, KeepsWidth, Operand, PlainNest, names, widths_of}
use Rattle.sh_nest_laws.specs.SplitReduction.{HasKind}
use Rattle.sh_nest_laws.specs.RegionKinds.{term_of}
use Rattle.sh_nest_laws.specs.StepKinds.{adding_products, product_of, yielding}
use Rattle.sh_nest_laws.proofs.Instances.{copies_keep}
use Rattle.sh_nest_laws.proofs.RegionLaws.{same_at_points}
use Rattle.sh_nest_laws.proofs.StepLaws.{adds_products, region_kind}
use Rattle.sh_sem.specs.Nest.{Fixed, step_cell}
use Rattle.sh_sem.specs.Region.{placed, region_cell}
use Rattle.sh_iface.specs.BodyKinds.{kind_of_body}
use Rattle.sh_iface.specs.Elements.{tensor_of}
use Rattle.sh_iface_linalg.specs.Bodies.{IsRegion, Region, renumbered}
use Rattle.sh_iface_linalg.specs.BodyCells.{free_of_points}
use Rattle.sh_iface_linalg.specs.BodyNames.{same_placed}
use Rattle.sh_iface_linalg.specs.KindOfBody.{has_kind_at, region_keeps, term_keeps}
use Rattle.sh_iface_linalg.specs.Structured.{FitsNumbers, FitsRegion, FitsWidths, Form, IsStructured, Structured, first_rank, input_type, input_types, inputs_at, inputs_of_maps, ins_outs_by, is_fill, is_named, kind_at, kind_of_form, loops_at, op_by, operands_in, output_at, renumbered_form, step_at}
use Rattle.sh_iface_linalg.specs.Structured.{fill, matmul, batch_matmul, matvec, vecmat, dot, transpose, broadcast, reduce, generic}
use Rattle.sh_iface_linalg.specs.Loops.{map_twice}

-- ---- the nest

abbrev pub step_by : Step → List Width → Width → List Cell → List Cell → Cell → Option Cell
step_by copied ws w scalars cells z = slice_get cells 0
step_by product_added ws w scalars cells z = adding_products (get_or ws 0 w) (get_or ws 1 w) w scalars cells z
step_by (by_region body) ws w scalars cells z = None

abbrev pub step_of : Form → List Width → Width → List Cell → List Cell → Cell → Option Cell
step_of fill ws w = step_by copied ws w
step_of matmul ws w = step_by product_added ws w
step_of batch_matmul ws w = step_by product_added ws w
step_of matvec ws w = step_by product_added ws w
step_of vecmat ws w = step_by product_added ws w
step_of dot ws w = step_by product_added ws w
step_of (transpose p) ws w = step_by copied ws w
step_of (broadcast d) ws w = step_by copied ws w
step_of (reduce n d r) ws w = yielding (placed r.captured r.body)
step_of (generic maps its r) ws w = yielding (placed r.captured r.body)

abbrev pub plain_by : ℕ → Form → List Operand → Operand → List Width → PlainNest
plain_by loops form ins out captured = record {
  loops = loops;
  ins = ins;
  out = out;
  captured = captured;
  step = λ scalars cells z. step_of form (widths_of ins) out.width scalars cells z;
}

abbrev pub plain_of : Structured → PlainNest
plain_of e = plain_by (length e.extents) e.form e.ins e.out e.captured

-- ---- the operation is this nest

abbrev pub structure_by : Form → List ValueType → ValueType → ℕ → ℕ → Structure
structure_by form ins out first rank = record {
  ins_outs = ins_outs_by ins out;
  loops = loops_at form rank;
  inputs = map single (inputs_at form first rank);
  output = single (output_at form rank);
  step = step_at form;
}

-- what is written agrees with the rank of the first input and with the number of inputs
abbrev pub Agrees : Form → ℕ → ℕ → Type 0
Agrees fill first count = Unit {0}
Agrees matmul first count = Unit {0}
Agrees batch_matmul first count = Unit {0}
Agrees matvec first count = Unit {0}
Agrees vecmat first count = Unit {0}
Agrees dot first count = Unit {0}
Agrees (transpose p) first count = Unit {0}
Agrees (broadcast d) first count = Unit {0}
Agrees (reduce n d r) first count = n ≡ first
Agrees (generic maps its r) first count = inputs_of_maps maps ≡ count

pub structure_is : (form : Form) (ins : List ValueType) (out : ValueType) → Agrees form (rank_of (first_type ins)) (length ins) → structure_of (kind_at form ins out) ≡ Some (structure_by form ins out (rank_of (first_type ins)) (rank_of out))
unfolding structure_of
structure_is fill ins out a = refl
structure_is matmul ins out a = refl
structure_is batch_matmul ins out a = refl
structure_is matvec ins out a = refl
structure_is vecmat ins out a = refl
structure_is dot ins out a = refl
structure_is (transpose p) ins out a = refl
structure_is (broadcast d) ins out a = refl
structure_is (reduce n d r) ins out a =
    ap (λ m. Some (record { ins_outs = ins_outs_by ins out; loops = m; inputs = single (range_with_len 0 (rank_of (first_type ins))) ∷ []; output = single (unlisted m (as_naturals d)); step = by_region r.body })) (sym a)
structure_is (generic maps its r) ins out a =
    ap (λ n. Some (record { ins_outs = ins_outs_by ins out; loops = length its; inputs = map (λ (m : AffineMap). single m.results) (take n maps); output = single (first_results (drop n maps)); step = by_region r.body })) (sym a)
    ∙ ap (λ is. Some (record { ins_outs = ins_outs_by ins out; loops = length its; inputs = is; output = single (first_results (drop (inputs_of_maps maps) maps)); step = by_region r.body })) (sym (map_twice single (λ (m : AffineMap). m.results) (take (inputs_of_maps maps) maps)))

inputs_same : (form : Form) (f h r s : ℕ) → (is_fill form ≡ false → f ≡ h) → r ≡ s → inputs_at form f r ≡ inputs_at form h s
inputs_same fill f h r s e same = refl
inputs_same matmul f h r s e same = refl
inputs_same batch_matmul f h r s e same = refl
inputs_same matvec f h r s e same = refl
inputs_same vecmat f h r s e same = refl
inputs_same dot f h r s e same = refl
inputs_same (transpose p) f h r s e same = ap₂ (inputs_at (transpose p)) (e refl) same
inputs_same (broadcast d) f h r s e same = ap₂ (inputs_at (broadcast d)) (e refl) same
inputs_same (reduce n d b) f h r s e same = ap₂ (inputs_at (reduce n d b)) (e refl) same
inputs_same (generic maps its b) f h r s e same = refl

pub first_rank_is : (form : Form) (dim : ℕ → Dim) (ins : List Operand) → is_fill form ≡ false → rank_of (first_type (map (λ (x : Operand). input_type form (map dim x.dims) x.width) ins)) ≡ first_rank ins
first_rank_is form dim [] tensors = refl
first_rank_is form dim (x ∷ ins) tensors = rw tensors (length-map x.dims dim)

step_is : (ws : List Width) (w : Width) (x : Fixed) → x.widths ≡ ws → x.width ≡ w → (p : List ℕ) (cells : List Cell) (z : Cell)
    → step_cell product_added x p cells z ≡ step_by product_added ws w x.scalars cells z
step_is ws w x widths width p [] z = refl
step_is ws w x widths width p (a ∷ []) z = refl
step_is ws w x widths width p (a ∷ b ∷ []) z =
    ap₂ (λ vs v. step_cell product_added (record { widths = vs; width = v; captured = []; scalars = [] }) p (a ∷ b ∷ []) z) widths width
step_is ws w x widths width p (a ∷ b ∷ c ∷ cells) z = refl

-- ---- under other names

pub same_loops : (first base : ℕ) (form : Form) (rank : ℕ) → loops_at (renumbered_form first base form) rank ≡ loops_at form rank
same_loops first base fill rank = refl
same_loops first base matmul rank = refl
same_loops first base batch_matmul rank = refl
same_loops first base matvec rank = refl
same_loops first base vecmat rank = refl
same_loops first base dot rank = refl
same_loops first base (transpose p) rank = refl
same_loops first base (broadcast d) rank = refl
same_loops first base (reduce n d r) rank = refl
same_loops first base (generic maps its r) rank = refl

pub same_inputs : (first base : ℕ) (form : Form) (f r : ℕ) → inputs_at (renumbered_form first base form) f r ≡ inputs_at form f r
same_inputs first base fill f r = refl
same_inputs first base matmul f r = refl
same_inputs first base batch_matmul f r = refl
same_inputs first base matvec f r = refl
same_inputs first base vecmat f r = refl
same_inputs first base dot f r = refl
same_inputs first base (transpose p) f r = refl
same_inputs first base (broadcast d) f r = refl
same_inputs first base (reduce n d b) f r = refl
same_inputs first base (generic maps its b) f r = refl

pub same_output : (first base : ℕ) (form : Form) (rank : ℕ) → output_at (renumbered_form first base form) rank ≡ output_at form rank
same_output first base fill rank = refl
same_output first base matmul rank = refl
same_output first base batch_matmul rank = refl
same_output first base matvec rank = refl
same_output first base vecmat rank = refl
same_output first base dot rank = refl
same_output first base (transpose p) rank = refl
same_output first base (broadcast d) rank = refl
same_output first base (reduce n d r) rank = refl
same_output first base (generic maps its r) rank = refl

pub same_fill : (first base : ℕ) (form : Form) → is_fill (renumbered_form first base form) ≡ is_fill form
same_fill first base fill = refl
same_fill first base matmul = refl
same_fill first base batch_matmul = refl
same_fill first base matvec = refl
same_fill first base vecmat = refl
same_fill first base dot = refl
same_fill first base (transpose p) = refl
same_fill first base (broadcast d) = refl
same_fill first base (reduce n d r) = refl
same_fill first base (generic maps its r) = refl

-- what is so of the numbers that are written stays so
pub same_numbers : (first base : ℕ) (form : Form) (f r : ℕ) → FitsNumbers form f r → FitsNumbers (renumbered_form first base form) f r
same_numbers first base fill f r h = h
same_numbers first base matmul f r h = h
same_numbers first base batch_matmul f r h = h
same_numbers first base matvec f r h = h
same_numbers first base vecmat f r h = h
same_numbers first base dot f r h = h
same_numbers first base (transpose p) f r h = h
same_numbers first base (broadcast d) f r h = h
same_numbers first base (reduce n d b) f r h = h
same_numbers first base (generic maps its b) f r h = h

pub same_widths : (first base : ℕ) (form : Form) (w : Width) (ins : List Width) → FitsWidths form w ins → FitsWidths (renumbered_form first base form) w ins
same_widths first base fill w ins h = h
same_widths first base matmul w ins h = h
same_widths first base batch_matmul w ins h = h
same_widths first base matvec w ins h = h
same_widths first base vecmat w ins h = h
same_widths first base dot w ins h = h
same_widths first base (transpose p) w ins h = h
same_widths first base (broadcast d) w ins h = h
same_widths first base (reduce n d r) w ins h = h
same_widths first base (generic maps its r) w ins h = h

agrees_by : (first base : ℕ) (form : Form) (f h r n : ℕ) → (is_fill form ≡ false → f ≡ h) → FitsNumbers form h r → n ≡ length (inputs_at form h r) → Agrees (renumbered_form first base form) f n
agrees_by first base fill f h r n same fits count = tt
agrees_by first base matmul f h r n same fits count = tt
agrees_by first base batch_matmul f h r n same fits count = tt
agrees_by first base matvec f h r n same fits count = tt
agrees_by first base vecmat f h r n same fits count = tt
agrees_by first base dot f h r n same fits count = tt
agrees_by first base (transpose p) f h r n same fits count = tt
agrees_by first base (broadcast d) f h r n same fits count = tt
agrees_by first base (reduce m d b) f h r n same fits count = fits.1 ∙ sym (same refl)
agrees_by first base (generic maps its b) f h r n same fits count =
    let a = length-map (take (inputs_of_maps maps) maps) (λ (m : AffineMap). m.results) in
    let c = length-take-le (inputs_of_maps maps) maps (let some = fits.some in omega (arith, some)) in
    omega (arith, a, c, count)

-- a step of the region under its new names
region_steps : (first base : ℕ) (r : Region) (scalars ins : List Width) (w : Width) (x : Fixed) → IsRegion r scalars ins w → first + length r.captured ≤ base → x.captured ≡ range_with_len first (length r.captured)
    → (p : List ℕ) (cells : List Cell) (z : Cell) → step_cell (by_region (renumbered first base r).body) x p cells z ≡ yielding (placed r.captured r.body) x.scalars cells z
unfolding placed
region_steps first base r scalars ins w x is later names p cells z =
    ap (λ ns. region_cell (placed ns (renumbered first base r).body) p (x.scalars ++ cells ++ z ∷ [])) names
    ∙ ap (λ body. region_cell body p (x.scalars ++ cells ++ z ∷ [])) (same_placed first base r later is)
    ∙ same_at_points (placed r.captured r.body) p [] (x.scalars ++ cells ++ z ∷ []) (free_of_points _ _ r.body.ops is.ops)

steps_are : (first base : ℕ) (form : Form) (scalars ws : List Width) (w : Width) (x : Fixed) → FitsRegion form scalars ws w → first + length scalars ≤ base → x.widths ≡ ws → x.width ≡ w
    → x.captured ≡ range_with_len first (length scalars) → (p : List ℕ) (cells : List Cell) (z : Cell)
    → step_cell (step_at (renumbered_form first base form)) x p cells z ≡ step_of form ws w x.scalars cells z
steps_are first base fill scalars ws w x region later widths width names p cells z = refl
steps_are first base matmul scalars ws w x region later widths width names p cells z = step_is ws w x widths width p cells z
steps_are first base batch_matmul scalars ws w x region later widths width names p cells z = step_is ws w x widths width p cells z
steps_are first base matvec scalars ws w x region later widths width names p cells z = step_is ws w x widths width p cells z
steps_are first base vecmat scalars ws w x region later widths width names p cells z = step_is ws w x widths width p cells z
steps_are first base dot scalars ws w x region later widths width names p cells z = step_is ws w x widths width p cells z
steps_are first base (transpose q) scalars ws w x region later widths width names p cells z = refl
steps_are first base (broadcast d) scalars ws w x region later widths width names p cells z = refl
steps_are first base (reduce n d r) scalars ws w x region later widths width names p cells z =
    let counted = region.scalars_counted in
    region_steps first base r scalars ws w x region (omega (arith, counted, later)) (names ∙ ap (range_with_len first) (sym counted)) p cells z
steps_are first base (generic maps its r) scalars ws w x region later widths width names p cells z =
    let counted = region.scalars_counted in
    region_steps first base r scalars ws w x region (omega (arith, counted, later)) (names ∙ ap (range_with_len first) (sym counted)) p cells z

-- the scalars stand last, under the names behind the tensors
abbrev pub HasScalarsLast : Structured → List ℕ → Type 0
HasScalarsLast e operands = drop (length e.ins + 1) operands ≡ range_with_len (length e.ins + 1) (length e.captured)

module _ (e : Structured) (is : IsStructured e) where
  first_is : (dim : ℕ → Dim) → is_fill e.form ≡ false → rank_of (first_type (input_types e dim)) ≡ first_rank e.ins
  first_is dim tensors = first_rank_is e.form dim e.ins tensors

  pub agrees_all : (first base : ℕ) (dim : ℕ → Dim) → Agrees (renumbered_form first base e.form) (rank_of (first_type (input_types e dim))) (length (input_types e dim))
  agrees_all first base dim =
      agrees_by first base e.form (rank_of (first_type (input_types e dim))) (first_rank e.ins) (length e.out.dims) (length (input_types e dim)) (first_is dim) is.numbers
      (length-map e.ins (λ (x : Operand). input_type e.form (map dim x.dims) x.width) ∙ sym (length-map e.ins (λ (x : Operand). x.dims)) ∙ ap length (sym is.inputs))

  pub is_operation : (dim : ℕ → Dim) (operands : List ℕ) (name : ℕ) → HasScalarsLast e operands → operands_in e ≤ name + 1 → IsOperationOf (plain_of e) (op_by e dim operands name)
  is_operation dim operands name last later =
      let rank : length (map dim e.out.dims) ≡ length e.out.dims = length-map e.out.dims dim in
      let first = length e.ins + 1 in
      let form = renumbered_form (length e.ins + 1) (name + 1) e.form in
      record {
        structure = structure_by form (input_types e dim) (tensor_of (map dim e.out.dims) e.out.width) (rank_of (first_type (input_types e dim))) (length (map dim e.out.dims));
        is = structure_is form (input_types e dim) (tensor_of (map dim e.out.dims) e.out.width) (agrees_all (length e.ins + 1) (name + 1) dim);
        loops = same_loops (length e.ins + 1) (name + 1) e.form (length (map dim e.out.dims)) ∙ ap (loops_at e.form) rank ∙ is.loops;
        inputs =
            ap (map single) (same_inputs (length e.ins + 1) (name + 1) e.form (rank_of (first_type (input_types e dim))) (length (map dim e.out.dims))
            ∙ inputs_same e.form (rank_of (first_type (input_types e dim))) (first_rank e.ins) (length (map dim e.out.dims)) (length e.out.dims) (first_is dim) rank ∙ is.inputs)
            ∙ map_twice single (λ (x : Operand). x.dims) e.ins;
        output = ap single (same_output (length e.ins + 1) (name + 1) e.form (length (map dim e.out.dims))) ∙ ap (λ r. single (output_at e.form r)) rank ∙ ap single is.output;
        step = λ x widths width captured p cells z. steps_are (length e.ins + 1) (name + 1) e.form e.captured (widths_of e.ins) e.out.width x is.region later widths width (captured ∙ last) p cells z;
        width = refl;
      }

-- ---- kinds

-- it combines by the kind, with some term
pub record Combines (k : Kind) (nest : PlainNest) : Type 0 where
  pub term : List Cell → List Cell → Option Cell
  pub has : HasKind k nest term

two_kind : (loops : ℕ) (form : Form) (a b out : Operand) (captured : List Width) (k : Kind) → step_of form ≡ step_of matmul → captured ≡ [] → Sum ≡ k → Combines k (plain_by loops form (a ∷ b ∷ []) out captured)
two_kind loops form a b out captured k step none same = record {
  term = λ scalars cells. product_of a.width b.width out.width cells;
  has =
      subst (λ k. HasKind k (plain_by loops form (a ∷ b ∷ []) out captured) (λ scalars cells. product_of a.width b.width out.width cells)) same
      (subst (λ ws. HasKind Sum (plain_by loops form (a ∷ b ∷ []) out ws) (λ scalars cells. product_of a.width b.width out.width cells)) (sym none)
      (subst (λ (f : List Width → Width → List Cell → List Cell → Cell → Option Cell). HasKind Sum (record { loops = loops; ins = a ∷ b ∷ []; out = out; captured = []; step = λ scalars cells z. f (a.width ∷ b.width ∷ []) out.width scalars cells z }) (λ scalars cells. product_of a.width b.width out.width cells)) (sym step)
      (adds_products loops a b out)));
}

product_kind : (loops : ℕ) (form : Form) (ins : List Operand) (out : Operand) (captured : List Width) (k : Kind) → step_of form ≡ step_of matmul → captured ≡ [] → Sum ≡ k → 2 ≡ length ins → Combines k (plain_by loops form ins out captured)
product_kind loops form [] out captured k step none same n = absurd (omega (arith, n))
product_kind loops form (a ∷ []) out captured k step none same n = absurd (omega (arith, n))
product_kind loops form (a ∷ b ∷ []) out captured k step none same n = two_kind loops form a b out captured k step none same
product_kind loops form (a ∷ b ∷ c ∷ ins) out captured k step none same n = absurd (omega (arith, n))

body_kind : (loops : ℕ) (r : Region) (ins : List Operand) (out : Operand) (captured : List Width) (k : Kind) → IsRegion r captured (widths_of ins) out.width → kind_of_body r.body ≡ Some k
    → Combines k (record { loops = loops; ins = ins; out = out; captured = captured; step = λ scalars cells z. yielding (placed r.captured r.body) scalars cells z })
body_kind loops r ins out captured k region e =
    let at = has_kind_at r captured (widths_of ins) out.width region k e in
    record {
      term = λ scalars cells. term_of (placed r.captured r.body) at.has.other [] (scalars ++ cells);
      has = region_kind k loops ins out captured (placed r.captured r.body) at.has (λ scalars cells oks ok. term_keeps r captured (widths_of ins) out.width region k at scalars cells oks ok);
    }

kind_by_form : (loops : ℕ) (form : Form) (ins : List Operand) (out : Operand) (captured : List Width) (f r : ℕ) (k : Kind) → kind_of_form form ≡ Some k → length (inputs_at form f r) ≡ length ins
    → FitsRegion form captured (widths_of ins) out.width → Combines k (plain_by loops form ins out captured)
kind_by_form loops fill ins out captured f r k e n region = absurd (cc)
kind_by_form loops matmul ins out captured f r k e n region = product_kind loops matmul ins out captured k refl region (same_Some Sum k e) n
kind_by_form loops batch_matmul ins out captured f r k e n region = product_kind loops batch_matmul ins out captured k refl region (same_Some Sum k e) n
kind_by_form loops matvec ins out captured f r k e n region = product_kind loops matvec ins out captured k refl region (same_Some Sum k e) n
kind_by_form loops vecmat ins out captured f r k e n region = product_kind loops vecmat ins out captured k refl region (same_Some Sum k e) n
kind_by_form loops dot ins out captured f r k e n region = product_kind loops dot ins out captured k refl region (same_Some Sum k e) n
kind_by_form loops (transpose p) ins out captured f r k e n region = absurd (cc)
kind_by_form loops (broadcast d) ins out captured f r k e n region = absurd (cc)
kind_by_form loops (reduce m d b) ins out captured f r k e n region = body_kind loops b ins out captured k region e
kind_by_form loops (generic maps its b) ins out captured f r k e n region = body_kind loops b ins out captured k region e

pub kind_of_plain : (e : Structured) → IsStructured e → (k : Kind) → kind_of_form e.form ≡ Some k → Combines k (plain_of e)
kind_of_plain e is k has =
    kind_by_form (length e.extents) e.form e.ins e.out e.captured (first_rank e.ins) (length e.out.dims) k has
    (ap length is.inputs ∙ length-map e.ins (λ (x : Operand). x.dims)) is.region

-- ---- its cells are of the output's width

within_joined : (k : Kind) (w : Width) (z y : Cell) (t : Option Cell) → IsCellOf w z → IfThere (IsCellOf w) t → option_map (λ x. combine_of k w z x) t ≡ Some y → IsCellOf w y
within_joined k w z y None iz it e = absurd (cc)
within_joined k w z y (Some x) iz it e = subst (IsCellOf w) (same_Some (combine_of k w z x) y e) ((combine_laws k w).closed z x iz it)

kind_keeps : (k : Kind) (nest : PlainNest) → Combines k nest → KeepsWidth nest
kind_keeps k nest c scalars cells z y oks ok iz e =
    within_joined k nest.out.width z y (c.term scalars cells) iz (c.has.valid scalars cells oks ok) (sym (c.has.combines scalars cells z oks ok iz) ∙ e)

copy_keeps : (captured ws : List Width) (w : Width) → captured ≡ [] → ws ≡ w ∷ [] → (scalars cells : List Cell) (z y : Cell) → AreCellsOf captured scalars → AreCellsOf ws cells → IsCellOf w z → slice_get cells 0 ≡ Some y → IsCellOf w y
copy_keeps captured ws w none same scalars cells z y oks ok iz e =
    copies_keep 0 [] w scalars cells z y (subst (λ vs. AreCellsOf vs scalars) none oks) (subst (λ vs. AreCellsOf vs cells) same ok) iz e

keeps_by : (loops : ℕ) (form : Form) (ins : List Operand) (out : Operand) (captured : List Width) → FitsWidths form out.width (map (λ x. x.width) ins) → FitsRegion form captured (widths_of ins) out.width
    → ((k : Kind) → kind_of_form form ≡ Some k → KeepsWidth (plain_by loops form ins out captured)) → KeepsWidth (plain_by loops form ins out captured)
keeps_by loops fill ins out captured fits region h = λ scalars cells z y oks ok iz e. copy_keeps captured (widths_of ins) out.width region fits scalars cells z y oks ok iz e
keeps_by loops matmul ins out captured fits region h = h Sum refl
keeps_by loops batch_matmul ins out captured fits region h = h Sum refl
keeps_by loops matvec ins out captured fits region h = h Sum refl
keeps_by loops vecmat ins out captured fits region h = h Sum refl
keeps_by loops dot ins out captured fits region h = h Sum refl
keeps_by loops (transpose p) ins out captured fits region h = λ scalars cells z y oks ok iz e. copy_keeps captured (widths_of ins) out.width region fits scalars cells z y oks ok iz e
keeps_by loops (broadcast d) ins out captured fits region h = λ scalars cells z y oks ok iz e. copy_keeps captured (widths_of ins) out.width region fits scalars cells z y oks ok iz e
keeps_by loops (reduce n d r) ins out captured fits region h = λ scalars cells z y oks ok iz e. region_keeps r captured (widths_of ins) out.width region [] scalars cells z y oks ok iz e
keeps_by loops (generic maps its r) ins out captured fits region h = λ scalars cells z y oks ok iz e. region_keeps r captured (widths_of ins) out.width region [] scalars cells z y oks ok iz e

pub plain_keeps : (e : Structured) → IsStructured e → KeepsWidth (plain_of e)
plain_keeps e is = keeps_by (length e.extents) e.form e.ins e.out e.captured is.widths is.region (λ k has. kind_keeps k (plain_of e) (kind_of_plain e is k has))

-- ---- each loop is in a map

names_both : (xs ys : List ℕ) (l : ℕ) → names (xs ++ ys) l ≡ (names xs l || names ys l)
names_both [] ys l = refl
names_both (x ∷ xs) ys l = ap (λ b. (x == l) || b) (names_both xs ys l) ∙ regroup (x == l) (names xs l) (names ys l)
  where
    regroup : (a b c : Bool) → (a || (b || c)) ≡ ((a || b) || c)
    regroup true b c = refl
    regroup false b c = refl

pub named_all : (ins : List Operand) (out : Operand) (l : ℕ) → is_named ins out l ≡ true → names (flat_map (λ x. x.dims) (ins ++ out ∷ [])) l ≡ true
named_all [] out l h = names_both out.dims [] l ∙ from (names out.dims l) h
  where
    from : (b : Bool) → b ≡ true → (b || false) ≡ true
    from true h = refl
    from false h = h
named_all (x ∷ ins) out l h = names_both x.dims (flat_map (λ x. x.dims) (ins ++ out ∷ [])) l ∙ from (names x.dims l) h (λ rest. named_all ins out l rest)
  where
    from : (b : Bool) → (b || is_named ins out l) ≡ true → (is_named ins out l ≡ true → names (flat_map (λ x. x.dims) (ins ++ out ∷ [])) l ≡ true) → (b || names (flat_map (λ x. x.dims) (ins ++ out ∷ [])) l) ≡ true
    from true h f = refl
    from false h f = f h
