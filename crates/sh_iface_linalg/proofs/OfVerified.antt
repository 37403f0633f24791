-- What the rules say of the types of a verified structured operation, whichever it is.
use Rattle.std.proofs.Common.{◌≡◌, ℕ, ◌≤◌, Bool, true, false, List, length, ap, ◌∙◌, subst}
use Rattle.std.specs.List.{AllByRecursion, list_all}
use Rattle.std.specs.Prelude.{not}
use Rattle.sh_base.specs.Shape.{max_cells, max_rank}
use Rattle.sh_ir.specs.declared.linalg_ops.InsOuts.{InsOuts}
use Rattle.sh_ir.specs.declared.operations.Op.{Op}
use Rattle.sh_ir.specs.declared.types.ValueType.{ValueType}
use Rattle.sh_ir.specs.Agreement.{has_differing}
use Rattle.sh_ir.specs.Attributes.{numbers_fit}
use Rattle.sh_ir.specs.Formed.{ResultFits, is_scalar, is_spelled_type, types_in}
use Rattle.sh_ir.specs.Limits.{has_few_cells, has_few_dims}
use Rattle.sh_ir.specs.Operands.{operands_fit}
use Rattle.sh_ir.specs.Results.{result_fits}
use Rattle.sh_ir.specs.Rules.{op_types_of}
use Rattle.sh_ir.specs.Shapes.{shape_of}
use Rattle.sh_ir.specs.Typing.{tensor_types}
use Rattle.sh_ir.specs.Written.{written_by}
use Rattle.sh_sem.specs.Scalars.{width_of}
use Rattle.sh_sharding.specs.Sharding.{counted_cells}
use Rattle.sh_iface.specs.Elements.{known_dims, tensor_of}
use Rattle.sh_iface.specs.Verified.{IsOfVerified}
use Rattle.sh_iface_linalg.specs.Reading.{kind_with}
use Rattle.sh_iface_linalg.specs.Structured.{Form, is_fill, kind_at}
use Rattle.sh_iface_linalg.proofs.ReadLaws.{IsInput}
use Rattle.sh_iface_linalg.proofs.SourceTypes.{HasParts, IsSourceType, kind_is, same_source, sound, source_type, source_types, tensors_split, types_split}
use Rattle.sh_iface_linalg.proofs.VerifiedLaws.{HasCells, agrees, is_not, none_of, outs_tensors, source_inputs, source_own, source_shape, tensor_cells}

module _ (op : Op) (h : IsOfVerified op) (form : Form) (x : InsOuts) (kind : op.kind ≡ kind_with form x) (count : ℕ) (parts : HasParts count x) where
  abbrev ts : List ValueType
  ts = x.ins_types

  abbrev t : ValueType
  t = parts.out

  pub kind_here : op.kind ≡ kind_at form ts t
  kind_here = kind ∙ ap (kind_with form) parts.is ∙ kind_is form ts t

  text : ResultFits (written_by (kind_at form ts t)).result op.result
  text = subst (λ k. ResultFits (written_by k).result op.result) kind_here h.result

  all : (test : ValueType → Bool) → list_all test (op_types_of op) ≡ true → (list_all test ts ≡ true) × (test t ≡ true) × (test op.result ≡ true)
  all test q = types_split form ts t op.result text test (subst (λ k. list_all test (types_in (written_by k) op.result) ≡ true) kind_here q)

  spelled : (list_all is_spelled_type ts ≡ true) × (is_spelled_type t ≡ true) × (is_spelled_type op.result ≡ true)
  spelled = all is_spelled_type h.spelled

  known : (list_all (λ u. not (has_differing u)) ts ≡ true) × (not (has_differing t) ≡ true) × (not (has_differing op.result) ≡ true)
  known = all (λ u. not (has_differing u)) (sound op h).known

  dims : (list_all has_few_dims ts ≡ true) × (has_few_dims t ≡ true) × (has_few_dims op.result ≡ true)
  dims = all has_few_dims (sound op h).dims

  cells : (list_all has_few_cells ts ≡ true) × (has_few_cells t ≡ true) × (has_few_cells op.result ≡ true)
  cells = all has_few_cells (sound op h).cells

  tensors : list_all (λ u. not (is_scalar u)) (tensor_types (kind_at form ts t) op.result) ≡ true
  tensors = subst (λ k. list_all (λ u. not (is_scalar u)) (tensor_types k op.result) ≡ true) kind_here (sound op h).tensors

  outs : (not (is_scalar t) ≡ true) × (not (is_scalar op.result) ≡ true)
  outs = outs_tensors h.scope ts t op.result form text tensors

  own_source : IsSourceType t
  own_source = source_type t spelled.1 outs.0 (is_not (has_differing t) known.1) dims.1 cells.1

  result_source : IsSourceType op.result
  result_source = source_type op.result spelled.2 outs.1 (is_not (has_differing op.result) known.2) dims.2 cells.2

  -- the result has the output's type
  pub same : t ≡ op.result
  same = same_source t op.result own_source result_source (agrees h.scope ts t op.result form (subst (λ k. result_fits h.scope k op.result ≡ true) kind_here (sound op h).result))

  pub numbers_here : numbers_fit h.scope (kind_at form ts t) op.result ≡ true
  numbers_here = subst (λ k. numbers_fit h.scope k op.result ≡ true) kind_here (sound op h).numbers

  pub operands_here : operands_fit h.scope (kind_at form ts t) op.result ≡ true
  operands_here = subst (λ k. operands_fit h.scope k op.result ≡ true) kind_here (sound op h).operands

  -- the inputs are tensors but for a fill's
  pub tensor_inputs : is_fill form ≡ false → AllByRecursion (IsInput form) ts
  tensor_inputs no_fill = source_inputs form no_fill ts (source_types ts spelled.0 (tensors_split form ts t op.result text no_fill tensors).0 (none_of ts known.0) dims.0 cells.0)

  pub own_is : t ≡ tensor_of (known_dims (shape_of t)) (width_of t)
  own_is = source_own t own_source

  pub own_cells : HasCells t
  own_cells = tensor_cells t (shape_of t) (width_of t) own_is

  pub short : length (shape_of t) ≤ max_rank
  short = subst (λ ns. length ns ≤ max_rank) (source_shape t own_source) own_source.short

  pub small : counted_cells (shape_of t) ≤ max_cells
  small = subst (λ ns. counted_cells ns ≤ max_cells) (source_shape t own_source) own_source.small
