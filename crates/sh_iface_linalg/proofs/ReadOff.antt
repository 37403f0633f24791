-- A verified structured operation, and the interface of what is read off it.
use Rattle.std.proofs.Common.{◌≡◌, ℕ, ◌+◌, ◌-◌, ◌≤◌, true, List, [], ◌∷◌, ◌++◌, length, refl, ap, sym, ◌∙◌, subst}
use Rattle.std.specs.List.{AllByRecursion, range_with_len}
use Rattle.std.specs.Prelude.{get_or}
use Rattle.sh_base.specs.declared.numbers.Width.{Width}
use Rattle.sh_base.specs.Shape.{max_rank}
use Rattle.sh_ir.specs.declared.linalg_ops.InsOuts.{InsOuts}
use Rattle.sh_ir.specs.declared.operations.Op.{Op}
use Rattle.sh_ir.specs.declared.types.ValueType.{ValueType}
use Rattle.sh_ir.specs.declared.types.ValueType.TheVariants.{Nothing}
use Rattle.sh_ir.specs.Agreement.{rank_of}
use Rattle.sh_ir.specs.Attributes.{numbers_fit}
use Rattle.sh_ir.specs.Formed.{OperandsFit}
use Rattle.sh_ir.specs.Operands.{operands_fit}
use Rattle.sh_ir.specs.Shapes.{shape_of}
use Rattle.sh_ir.specs.Typing.{counts_fit}
use Rattle.sh_ir.specs.Written.{first_type, written_by}
use Rattle.sh_sem.specs.Scalars.{width_of}
use Rattle.sh_iface.specs.Elements.{known_dims, tensor_of}
use Rattle.sh_iface.specs.Verified.{IsOfVerified}
use Rattle.sh_iface.specs.Whole.{IsInterfaceOf}
use Rattle.sh_iface_linalg.specs.declared.kinds.LinalgKind.{LinalgKind}
use Rattle.sh_iface_linalg.specs.declared.kinds.LinalgKind.TheVariants as linalg
use Rattle.sh_iface_linalg.specs.Reading.{IsNamed, kind_with, meant, structured_by}
use Rattle.sh_iface_linalg.specs.Structured.{FitsNumbers, Form, IsStructured, Structured, inputs_at, kind_at, structured_meaning}
use Rattle.sh_iface_linalg.proofs.InterfaceLaws.{interface, ranks_alike, shapes_joined}
use Rattle.sh_iface_linalg.proofs.OfVerified as verified
use Rattle.sh_iface_linalg.proofs.Pairs.{AreShapes, all_pairs, first_at}
use Rattle.sh_iface_linalg.proofs.ReadLaws.{Fits, IsInput, e, e_is, structured}
use Rattle.sh_iface_linalg.proofs.SourceTypes.{HasParts, counts_are, named_parts, sound}
use Rattle.sh_iface_linalg.proofs.VerifiedLaws.{HasCells, fits_by, inputs_cells, inputs_counted, inputs_of, numbers_by, operands_by, shapes_fit, widths_by}

pub all_and : (P : ValueType → Type 0) (ts : List ValueType) (t : ValueType) → AllByRecursion P ts → P t → AllByRecursion P (ts ++ t ∷ [])
all_and P [] t h p = (p, tt)
all_and P (u ∷ ts) t h p = (h.0, all_and P ts t h.1 p)

-- what the code holds has a name
pub meant_named : (kind : LinalgKind) → IsNamed (meant kind)
meant_named linalg.Fill = tt
meant_named linalg.Matmul = tt
meant_named linalg.BatchMatmul = tt
meant_named linalg.Matvec = tt
meant_named linalg.Vecmat = tt
meant_named linalg.Dot = tt
meant_named (linalg.Transpose p) = tt
meant_named (linalg.Broadcast d) = tt

module _ (op : Op) (h : IsOfVerified op) (form : Form) (named : IsNamed form) (x : InsOuts) (kind : op.kind ≡ kind_with form x) where
  abbrev ts : List ValueType
  ts = x.ins_types

  parts : HasParts (length (inputs_at form 0 0)) x
  parts = named_parts (length (inputs_at form 0 0)) x (sym (counts_are form x op.operands 0 0 named) ∙ ap (λ k. counts_fit k op.operands) (sym kind) ∙ (sound op h).counts)

  abbrev t : ValueType
  t = parts.out

  kind_here : op.kind ≡ kind_at form ts t
  kind_here = verified.kind_here op h form x kind (length (inputs_at form 0 0)) parts

  same : t ≡ op.result
  same = verified.same op h form x kind (length (inputs_at form 0 0)) parts

  numbers_here : numbers_fit h.scope (kind_at form ts t) op.result ≡ true
  numbers_here = verified.numbers_here op h form x kind (length (inputs_at form 0 0)) parts

  operands_here : operands_fit h.scope (kind_at form ts t) op.result ≡ true
  operands_here = verified.operands_here op h form x kind (length (inputs_at form 0 0)) parts

  inputs : AllByRecursion (IsInput form) ts
  inputs = inputs_of h.scope ts t op.result form (λ no_fill. verified.tensor_inputs op h form x kind (length (inputs_at form 0 0)) parts no_fill) operands_here parts.count

  own_is : t ≡ tensor_of (known_dims (shape_of t)) (width_of t)
  own_is = verified.own_is op h form x kind (length (inputs_at form 0 0)) parts

  own_cells : HasCells t
  own_cells = verified.own_cells op h form x kind (length (inputs_at form 0 0)) parts

  short : length (shape_of t) ≤ max_rank
  short = verified.short op h form x kind (length (inputs_at form 0 0)) parts

  fits : Fits form ts t
  fits =
      let n = length (shape_of t) in
      let all_fit = fits_by h.scope ts t op.result form (width_of t) named own_is short parts.count numbers_here operands_here in
      let maps = inputs_at form n n ++ range_with_len 0 n ∷ [] in
      record {
        named = named;
        count = parts.count ∙ sym (inputs_counted form n n);
        inputs = inputs;
        out = own_is;
        short = short;
        small = verified.small op h form x kind (length (inputs_at form 0 0)) parts;
        out_rank = all_fit.0;
        shapes = subst (λ ss. AreShapes (first_at (all_pairs maps ss)) maps ss) (shapes_joined ts t) (shapes_fit maps (ts ++ t ∷ []) (all_and HasCells ts t (inputs_cells form ts inputs) own_cells) all_fit.1);
        numbers = subst (FitsNumbers form (length (shape_of (first_type ts)))) (ranks_alike t) (subst (λ f. FitsNumbers form f (rank_of t)) (ranks_alike (first_type ts)) (numbers_by h.scope ts t op.result form named numbers_here operands_here));
        widths = widths_by h.scope ts t op.result form (inputs_cells form ts inputs) own_cells parts.count operands_here;
      }

  abbrev read : Structured
  read = e form ts t op.place fits

  read_is : (shape : List ℕ) (reduced : ℕ) (first second width : Width) (types : List ValueType) → types ≡ ts → shape ≡ shape_of op.result
      → reduced ≡ get_or (shape_of (first_type types)) (length (shape_of (first_type types)) - 1) 0 → first ≡ width_of (get_or types 0 Nothing) → second ≡ width_of (get_or types 1 Nothing) → width ≡ width_of op.result
      → structured_by form shape reduced first second width op.place ≡ read
  read_is shape reduced first second width types same_types shape_is reduced_is first_is second_is width_is =
      let a = shape_is ∙ ap shape_of (sym same) in
      let b = reduced_is ∙ ap (λ us. get_or (shape_of (first_type us)) (length (shape_of (first_type us)) - 1) 0) same_types in
      let c = first_is ∙ ap (λ us. width_of (get_or us 0 Nothing)) same_types in
      let d = second_is ∙ ap (λ us. width_of (get_or us 1 Nothing)) same_types in
      let w = width_is ∙ ap width_of (sym same) in
      (λ j. structured_by form (a j) (b j) (c j) (d j) (w j) op.place) ∙ e_is form ts t op.place fits

  module _ (shape : List ℕ) (reduced : ℕ) (first second width : Width) (types : List ValueType) (same_types : types ≡ ts) (shape_is : shape ≡ shape_of op.result)
      (reduced_is : reduced ≡ get_or (shape_of (first_type types)) (length (shape_of (first_type types)) - 1) 0) (first_is : first ≡ width_of (get_or types 0 Nothing)) (second_is : second ≡ width_of (get_or types 1 Nothing)) (width_is : width ≡ width_of op.result) where
    pub read_in_order : IsStructured (structured_by form shape reduced first second width op.place)
    read_in_order = subst IsStructured (sym (read_is shape reduced first second width types same_types shape_is reduced_is first_is second_is width_is)) (structured form ts t op.place fits)

    pub read_interface : IsInterfaceOf op (structured_meaning (structured_by form shape reduced first second width op.place))
    read_interface =
        subst (λ s. IsInterfaceOf op (structured_meaning s)) (sym (read_is shape reduced first second width types same_types shape_is reduced_is first_is second_is width_is))
        (interface form ts t op.place fits op kind_here (sym same) refl
        (operands_by h.scope ts t op.result form op.operands named (subst (λ k. OperandsFit (written_by k) op.operands) kind_here h.counted) ∙ ap (λ n. n + 1) (parts.count ∙ sym (inputs_counted form (length (shape_of t)) (length (shape_of t))))))
