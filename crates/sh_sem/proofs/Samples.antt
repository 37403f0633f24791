-- Small operations and tensors, for examples by computation.
use Rattle.std.specs.Prelude.{ℕ, List, [], ◌∷◌, map, length, Option, Some}
use Rattle.sh_base.specs.declared.numbers.Cell.TheVariants.{Val}
use Rattle.sh_base.specs.declared.numbers.Width.{Width}
use Rattle.sh_base.specs.declared.numbers.Width.TheVariants.{I32}
use Rattle.sh_ir.specs.declared.bodies.Body.{Body}
use Rattle.sh_ir.specs.declared.bodies.BodyKind.{BodyKind}
use Rattle.sh_ir.specs.declared.bodies.BodyOp.{BodyOp}
use Rattle.sh_ir.specs.declared.linalg_ops.InsOuts.{InsOuts}
use Rattle.sh_ir.specs.declared.operations.Op.{Op}
use Rattle.sh_ir.specs.declared.operations.OpKind.{OpKind}
use Rattle.sh_ir.specs.declared.types.Dim.TheVariants.{Known, Differs}
use Rattle.sh_ir.specs.declared.types.ValueType.{ValueType}
use Rattle.sh_ir.specs.declared.types.ValueType.TheVariants.{Tensor, Scalar}
use Rattle.sh_tensor.specs.Tensor.{TensorValue}
use Rattle.sh_sem.specs.Given.{alone, given}

-- ---- types and tensors

abbrev pub tensor_type : Width → List ℕ → ValueType
tensor_type w shape = Tensor (record { dims = map (λ n. Known n) shape; width = w })

abbrev pub type_of : List ℕ → ValueType
type_of shape = tensor_type I32 shape

-- with one extent that is open
abbrev pub open_type : ValueType
open_type = Tensor (record { dims = Differs ∷ []; width = I32 })

abbrev pub tensor_in : Width → List ℕ → List ℕ → TensorValue
tensor_in w shape numbers = record { shape = shape; width = w; cells = map (λ n. Val n) numbers }

abbrev pub tensor : List ℕ → List ℕ → TensorValue
tensor shape numbers = tensor_in I32 shape numbers

-- ---- operations

-- an operation whose operands are the values 0, 1 and so on
abbrev pub op_with : OpKind → List ℕ → ValueType → Op
op_with kind operands result = record {
  kind = kind;
  operands = operands;
  defines = Some (length operands);
  result = result;
  place = record { line = 1; column = 1 };
}

-- what it gives of these tensors in source form
abbrev pub gives : OpKind → List ℕ → ValueType → List TensorValue → Option TensorValue
gives kind operands result ts = given (op_with kind operands result) alone ts

abbrev pub ins_outs : List ValueType → ValueType → InsOuts
ins_outs ins outs = record {
  ins_count = length ins;
  ins_types = ins;
  outs_count = 1;
  outs_types = outs ∷ [];
}

-- ---- regions

abbrev pub body_op : BodyKind → List ℕ → ℕ → Width → BodyOp
body_op kind operands defines w = record {
  kind = kind;
  operands = operands;
  defines = defines;
  result = Scalar w;
  place = record { line = 1; column = 1 };
}

abbrev pub region : List ℕ → Width → List BodyOp → ℕ → Body
region args w ops yields = record {
  args = args;
  widths = map (λ a. w) args;
  ops = ops;
  yields = yields;
  width = w;
  place = record { line = 1; column = 1 };
}
