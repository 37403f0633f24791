-- The module of a small network of two layers, with 8-bit weights.
use Rattle.std.specs.Prelude.{ℕ, ℤ, pos, List, [], ◌∷◌, ◌++◌, Some, None, false, codes}
use Rattle.sh_base.specs.declared.numbers.Width.{Width}
use Rattle.sh_base.specs.declared.numbers.Width.TheVariants.{I8, I32}
use Rattle.sh_base.specs.declared.numbers.Cell.TheVariants.{Val}
use Rattle.sh_base.specs.declared.operations.BinOp.TheVariants.{Maxsi}
use Rattle.sh_base.specs.declared.places.Place.{Place}
use Rattle.sh_ir.specs.declared.types.Dim.TheVariants.{Known}
use Rattle.sh_ir.specs.declared.types.ValueType.{ValueType}
use Rattle.sh_ir.specs.declared.types.ValueType.TheVariants as value_type
use Rattle.sh_ir.specs.declared.arith_ops.Constant.{Constant}
use Rattle.sh_ir.specs.declared.arith_ops.Contents.TheVariants.{Held}
use Rattle.sh_ir.specs.declared.bodies.Body.{Body}
use Rattle.sh_ir.specs.declared.bodies.BodyOp.{BodyOp}
use Rattle.sh_ir.specs.declared.bodies.BodyKind.TheVariants as body_kind
use Rattle.sh_ir.specs.declared.linalg_ops.Generic.{Generic}
use Rattle.sh_ir.specs.declared.linalg_ops.InsOuts.{InsOuts}
use Rattle.sh_ir.specs.declared.linalg_ops.AffineMap.{AffineMap}
use Rattle.sh_ir.specs.declared.linalg_ops.IteratorType.TheVariants.{Parallel}
use Rattle.sh_ir.specs.declared.operations.OpKind.TheVariants as op_kind
use Rattle.sh_ir.specs.declared.operations.Op.{Op}
use Rattle.sh_ir.specs.declared.functions.Func.{Func}
use Rattle.sh_ir.specs.declared.modules.CallItem.{CallItem}
use Rattle.sh_ir.specs.declared.modules.GridItem.{GridItem}
use Rattle.sh_ir.specs.declared.modules.Module.{Module}

abbrev pub place_of : ℕ → ℕ → Place
place_of line column = record { line = line; column = column }

-- a line of a function's body
abbrev pub on_line : ℕ → Place
on_line line = place_of line 5

abbrev pub matrix : ℕ → ℕ → Width → ValueType
matrix rows columns w = value_type.Tensor (record { dims = Known rows ∷ Known columns ∷ []; width = w })

abbrev pub sharding_op : ℕ → ℕ → List (List ℤ) → Op
sharding_op line name split = record { kind = op_kind.Sharding (record { grid = codes "g"; split = split; halos = []; offsets = [] }); operands = []; defines = Some name; result = value_type.Sharding; place = on_line line }

abbrev pub note_op : ℕ → ℕ → ℕ → ℕ → ValueType → Op
note_op line name value sharding t = record { kind = op_kind.Shard (record { annotate_for_users = false }); operands = value ∷ sharding ∷ []; defines = Some name; result = t; place = on_line line }

abbrev pub empty_op : ℕ → ℕ → ValueType → Op
empty_op line name t = record { kind = op_kind.Empty; operands = []; defines = Some name; result = t; place = on_line line }

abbrev pub zero_op : ℕ → ℕ → Op
zero_op line name = record { kind = op_kind.Constant (record { value_type = value_type.Scalar I32; contents = Held (Val 0 ∷ []) }); operands = []; defines = Some name; result = value_type.Scalar I32; place = on_line line }

abbrev pub fill_op : ℕ → ℕ → ℕ → ℕ → ValueType → Op
fill_op line name value outs t = record { kind = op_kind.Fill (record { ins_count = 1; ins_types = value_type.Scalar I32 ∷ []; outs_count = 1; outs_types = t ∷ [] }); operands = value ∷ outs ∷ []; defines = Some name; result = t; place = on_line line }

-- a product of an `m` by `k` matrix by a `k` by `n` matrix of weights
abbrev pub product_of : ℕ → ℕ → ℕ → InsOuts
product_of m k n = record { ins_count = 2; ins_types = matrix m k I32 ∷ matrix k n I8 ∷ []; outs_count = 1; outs_types = matrix m n I32 ∷ [] }

abbrev pub matmul_op : ℕ → ℕ → List ℕ → ℕ → ℕ → ℕ → Op
matmul_op line name operands m k n = record { kind = op_kind.Matmul (product_of m k n); operands = operands; defines = Some name; result = matrix m n I32; place = on_line line }

abbrev pub identity : AffineMap
identity = record { loops = 0 ∷ 1 ∷ []; results = 0 ∷ 1 ∷ [] }

abbrev pub maximum_op : BodyOp
maximum_op = record { kind = body_kind.Binary Maxsi; operands = 14 ∷ 9 ∷ []; defines = 16; result = value_type.Scalar I32; place = place_of 17 7 }

-- the greater of the input and zero
abbrev pub rectifier : Body
rectifier = record { args = 14 ∷ 15 ∷ []; widths = I32 ∷ I32 ∷ []; ops = maximum_op ∷ []; yields = 16; width = I32; place = place_of 18 7 }

abbrev pub rectify : Generic
rectify = record { ins_outs = record { ins_count = 1; ins_types = matrix 16 32 I32 ∷ []; outs_count = 1; outs_types = matrix 16 32 I32 ∷ [] }; indexing_maps = identity ∷ identity ∷ []; iterator_types = Parallel ∷ Parallel ∷ []; body = rectifier }

abbrev pub rectify_op : Op
rectify_op = record { kind = op_kind.Generic rectify; operands = 12 ∷ 10 ∷ 9 ∷ []; defines = Some 13; result = matrix 16 32 I32; place = on_line 15 }

abbrev pub return_op : Op
return_op = record { kind = op_kind.Return (record { operand_types = matrix 16 8 I32 ∷ [] }); operands = 19 ∷ []; defines = None; result = value_type.Nothing; place = on_line 23 }

abbrev pub shardings : List Op
shardings = sharding_op 5 3 ((pos 0 ∷ []) ∷ []) ∷ sharding_op 6 4 ([] ∷ (pos 1 ∷ []) ∷ []) ∷ sharding_op 7 5 ((pos 1 ∷ []) ∷ []) ∷ []

abbrev pub notes : List Op
notes = note_op 8 6 0 3 (matrix 16 32 I32) ∷ note_op 9 7 1 4 (matrix 32 32 I8) ∷ note_op 10 8 2 5 (matrix 32 8 I8) ∷ []

-- the outputs of the first product, all zero
abbrev pub filled_output : List Op
filled_output = zero_op 11 9 ∷ empty_op 12 10 (matrix 16 32 I32) ∷ fill_op 13 11 9 10 (matrix 16 32 I32) ∷ []

abbrev pub first_layer : List Op
first_layer = matmul_op 14 12 (6 ∷ 7 ∷ 11 ∷ []) 16 32 32 ∷ rectify_op ∷ []

abbrev pub second_filled : List Op
second_filled = empty_op 20 17 (matrix 16 8 I32) ∷ fill_op 21 18 9 17 (matrix 16 8 I32) ∷ []

abbrev pub second_layer : List Op
second_layer = matmul_op 22 19 (13 ∷ 8 ∷ 18 ∷ []) 16 32 8 ∷ return_op ∷ []

abbrev pub net : Func
net = record { name = codes "net"; private = false; args = record { id = 0; value_type = matrix 16 32 I32 } ∷ record { id = 1; value_type = matrix 32 32 I8 } ∷ record { id = 2; value_type = matrix 32 8 I8 } ∷ []; results = matrix 16 8 I32 ∷ []; ops = shardings ++ notes ++ filled_output ++ first_layer ++ second_filled ++ second_layer; carry = None; place = place_of 4 3 }

-- a literal whose cells are all this one
abbrev pub filled : ValueType → ℕ → Constant
filled t cell = record { value_type = t; contents = Held (Val cell ∷ []) }

abbrev pub the_grid : GridItem
the_grid = record { name = codes "g"; extents = pos 2 ∷ pos 2 ∷ []; place = place_of 3 3 }

abbrev pub the_call : CallItem
the_call = record { callee = codes "net"; args = filled (matrix 16 32 I32) 1 ∷ filled (matrix 32 32 I8) 1 ∷ filled (matrix 32 8 I8) 255 ∷ []; place = place_of 25 3 }

abbrev pub the_network : Module
the_network = record { name = None; grids = the_grid ∷ []; funcs = net ∷ []; calls = the_call ∷ [] }
