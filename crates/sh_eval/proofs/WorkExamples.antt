-- The outcome of small functions, by computation.
use Rattle.std.proofs.Common.{◌≡◌, ℕ, false, List, [], ◌∷◌, map, length, Some, None, refl}
use Rattle.sh_base.specs.declared.numbers.Cell.TheVariants.{Val}
use Rattle.sh_base.specs.declared.numbers.Width.TheVariants.{I32}
use Rattle.sh_base.specs.declared.operations.BinOp.{BinOp}
use Rattle.sh_base.specs.declared.operations.BinOp.TheVariants.{Addi, Divui}
use Rattle.sh_ir.specs.declared.functions.Arg.{Arg}
use Rattle.sh_ir.specs.declared.functions.Func.{Func}
use Rattle.sh_ir.specs.declared.operations.Op.{Op}
use Rattle.sh_ir.specs.declared.operations.OpKind.{OpKind}
use Rattle.sh_ir.specs.declared.operations.OpKind.TheVariants.{Binary, Matmul, Return}
use Rattle.sh_ir.specs.declared.types.Dim.TheVariants.{Known}
use Rattle.sh_ir.specs.declared.types.ValueType.{ValueType}
use Rattle.sh_ir.specs.declared.types.ValueType.TheVariants.{Nothing, Tensor}
use Rattle.sh_ir.specs.Loops.{structure_of}
use Rattle.sh_ir.specs.Typing.{typing_of}
use Rattle.sh_int.specs.Elements.{element_of}
use Rattle.sh_sem.specs.Given.{alone, built_of, cell_given, given, gives_cells, gives_nest, giving, shape_given}
use Rattle.sh_sem.specs.Meaning.{Results, StuckAt}
use Rattle.sh_sem.specs.Scalars.{formula_cell}
use Rattle.sh_tensor.specs.Tensor.{TensorValue, at, cells_of}
use Rattle.sh_eval.specs.Reached.{values_at_start}
use Rattle.sh_eval.specs.Work.{Ended, Outcome, TooMuchAt, load_given, load_in, outcome, outcome_from, passes, work_of}

abbrev row : List ℕ → TensorValue
row numbers = record { shape = length numbers ∷ []; width = I32; cells = map (λ n. Val n) numbers }

abbrev type_of : List ℕ → ValueType
type_of shape = Tensor (record { dims = map (λ n. Known n) shape; width = I32 })

abbrev op_of : OpKind → List ℕ → ℕ → ValueType → Op
op_of kind operands name result =
    record { kind = kind; operands = operands; defines = Some name; result = result; place = record { line = 1; column = 1 } }

abbrev returns : List ℕ → List ValueType → Op
returns names types =
    record { kind = Return (record { operand_types = types }); operands = names; defines = None; result = Nothing; place = record { line = 1; column = 1 } }

-- two rows, on which one operation is done
abbrev ops_on : BinOp → List Op
ops_on op = op_of (Binary op) (0 ∷ 1 ∷ []) 2 (type_of (2 ∷ [])) ∷ returns (2 ∷ []) (type_of (2 ∷ []) ∷ []) ∷ []

abbrev param : ℕ → Arg
param name = record { id = name; value_type = type_of (2 ∷ []) }

abbrev func_on : BinOp → Func
func_on op = record {
  name = [];
  private = false;
  args = param 0 ∷ param 1 ∷ [];
  results = type_of (2 ∷ []) ∷ [];
  ops = ops_on op;
  carry = None;
  place = record { line = 1; column = 1 };
}

-- 16 and the cells of the result
sum_load : load_given (op_of (Binary Addi) (0 ∷ 1 ∷ []) 2 (type_of (2 ∷ []))) alone ((2 ∷ []) ∷ (2 ∷ []) ∷ []) ≡ record { cells = 2; work = 18 }
unfolding work_of typing_of structure_of shape_given giving gives_cells
sum_load = refl

-- an extent of 0 counts as 1 among the cells, and not in the work
empty_load : load_given (op_of (Binary Addi) (0 ∷ 1 ∷ []) 2 (type_of (0 ∷ []))) alone ((0 ∷ []) ∷ (0 ∷ []) ∷ []) ≡ record { cells = 1; work = 16 }
unfolding work_of typing_of structure_of shape_given giving gives_cells
empty_load = refl

-- the loop points come to it: 2 x 3 x 2 of them
product_load : load_given
    (op_of
    (Matmul (record { ins_count = 2; ins_types = type_of (2 ∷ 3 ∷ []) ∷ type_of (3 ∷ 2 ∷ []) ∷ []; outs_count = 1; outs_types = type_of (2 ∷ 2 ∷ []) ∷ [] }))
    (0 ∷ 1 ∷ 2 ∷ []) 3 (type_of (2 ∷ 2 ∷ [])))
    alone ((2 ∷ 3 ∷ []) ∷ (3 ∷ 2 ∷ []) ∷ (2 ∷ 2 ∷ []) ∷ []) ≡ record { cells = 4; work = 32 }
unfolding work_of typing_of structure_of shape_given giving gives_nest
product_load = refl

-- stuck by the shapes
no_work : load_given (op_of (Binary Addi) (0 ∷ 1 ∷ []) 2 (type_of (2 ∷ []))) alone ((2 ∷ []) ∷ (3 ∷ []) ∷ []) ≡ record { cells = 0; work = 0 }
unfolding work_of typing_of structure_of shape_given giving gives_cells
no_work = refl

-- ---- functions

sums : outcome (func_on Addi) (row (1 ∷ 2 ∷ []) ∷ row (10 ∷ 20 ∷ []) ∷ []) ≡ Ended (Results (row (11 ∷ 22 ∷ []) ∷ []))
unfolding outcome passes load_in work_of typing_of structure_of given shape_given cell_given giving gives_cells built_of formula_cell cells_of at element_of
sums = refl

divides_by_zero : outcome (func_on Divui) (row (1 ∷ 2 ∷ []) ∷ row (1 ∷ 0 ∷ []) ∷ []) ≡ Ended (StuckAt 0)
unfolding outcome passes load_in work_of typing_of structure_of given shape_given cell_given giving gives_cells built_of formula_cell cells_of at element_of
divides_by_zero = refl

-- ---- the limit, after so much work

abbrev after_work : ℕ → BinOp → List ℕ → Outcome
after_work so_far op numbers =
    outcome_from so_far 0 (ops_on op) (2 ∷ []) (values_at_start (func_on op) (row (1 ∷ 2 ∷ []) ∷ row numbers ∷ []))

-- 67,108,864 with it
at_the_limit : after_work 67108846 Addi (10 ∷ 20 ∷ []) ≡ Ended (Results (row (11 ∷ 22 ∷ []) ∷ []))
unfolding passes load_in work_of typing_of structure_of given shape_given cell_given giving gives_cells built_of formula_cell cells_of at element_of
at_the_limit = refl

past_the_limit : after_work 67108847 Addi (10 ∷ 20 ∷ []) ≡ TooMuchAt 0
unfolding passes load_in work_of typing_of structure_of given shape_given cell_given giving gives_cells built_of formula_cell cells_of at element_of
past_the_limit = refl

-- the limit comes before a stuck cell
past_before_stuck : after_work 67108847 Divui (1 ∷ 0 ∷ []) ≡ TooMuchAt 0
unfolding passes load_in work_of typing_of structure_of given shape_given cell_given giving gives_cells built_of formula_cell cells_of at element_of
past_before_stuck = refl
