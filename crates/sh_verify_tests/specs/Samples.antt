-- Operations that keep all rules, and beside each some that break one.
use Rattle.std.specs.Prelude.{◌≡◌, ℕ, ◌+◌, ℤ, pos, negsuc, List, [], ◌∷◌, Some, None, ◌++◌, true, false, length, map, replicate, codes}
use Rattle.std.specs.List.{range_with_len}
use Rattle.sh_base.specs.declared.numbers.Width.{Width}
use Rattle.sh_base.specs.declared.numbers.Width.TheVariants.{I1, I8, I32}
use Rattle.sh_base.specs.declared.numbers.Cell.TheVariants.{Val}
use Rattle.sh_base.specs.declared.operations.BinOp.TheVariants.{Addi}
use Rattle.sh_base.specs.declared.operations.CastOp.TheVariants.{Extsi, Trunci}
use Rattle.sh_base.specs.declared.operations.CastOp.{CastOp}
use Rattle.sh_base.specs.declared.operations.Kind.TheVariants as kind
use Rattle.sh_base.specs.declared.operations.Predicate.TheVariants.{Slt}
use Rattle.sh_base.specs.declared.places.Place.{Place}
use Rattle.sh_base.specs.declared.rules.Rule.{Rule}
use Rattle.sh_base.specs.declared.rules.Rule.TheVariants.{L2, L4, L6, V1, V2, V3, V4, V5, V6, V8, V9, V10}
use Rattle.sh_ir.specs.declared.arith_ops.Contents.{Contents}
use Rattle.sh_ir.specs.declared.arith_ops.Contents.TheVariants.{Held, Broken}
use Rattle.sh_ir.specs.declared.bodies.Body.{Body}
use Rattle.sh_ir.specs.declared.bodies.BodyOp.{BodyOp}
use Rattle.sh_ir.specs.declared.bodies.BodyKind.{BodyKind}
use Rattle.sh_ir.specs.declared.bodies.BodyKind.TheVariants as body_kind
use Rattle.sh_ir.specs.declared.functions.Carry.{Carry}
use Rattle.sh_ir.specs.declared.functions.Func.{Func}
use Rattle.sh_ir.specs.declared.linalg_ops.AffineMap.{AffineMap}
use Rattle.sh_ir.specs.declared.linalg_ops.InsOuts.{InsOuts}
use Rattle.sh_ir.specs.declared.linalg_ops.IteratorType.{IteratorType}
use Rattle.sh_ir.specs.declared.linalg_ops.IteratorType.TheVariants.{Parallel, Reduction, Unknown}
use Rattle.sh_ir.specs.declared.modules.GridItem.{GridItem}
use Rattle.sh_ir.specs.declared.operations.Op.{Op}
use Rattle.sh_ir.specs.declared.operations.OpKind.{OpKind}
use Rattle.sh_ir.specs.declared.operations.OpKind.TheVariants as op_kind
use Rattle.sh_ir.specs.declared.shard_ops.GridAxes.{GridAxes}
use Rattle.sh_ir.specs.declared.tensor_ops.Slice.{Slice}
use Rattle.sh_ir.specs.declared.types.Dim.{Dim}
use Rattle.sh_ir.specs.declared.types.Dim.TheVariants.{Known, Differs}
use Rattle.sh_ir.specs.declared.types.ValueType.{ValueType}
use Rattle.sh_ir.specs.declared.types.ValueType.TheVariants as value_type
use Rattle.sh_ir.specs.Faults.{the_limits, the_rules}
use Rattle.sh_ir.specs.Parts.{op_of}
use Rattle.sh_ir.specs.Rules.{op_faults}
use Rattle.sh_ir.specs.Scope.{Scope, Value}

abbrev pub here : Place
here = record { line = 1; column = 1 }

-- ---- types

abbrev pub tensor : List Dim → Width → ValueType
tensor dims w = value_type.Tensor (record { dims = dims; width = w })

abbrev pub vector : ℕ → Width → ValueType
vector n w = tensor (Known n ∷ []) w

abbrev pub matrix : ℕ → ℕ → Width → ValueType
matrix m n w = tensor (Known m ∷ Known n ∷ []) w

abbrev pub cube : ℕ → ℕ → ℕ → Width → ValueType
cube l m n w = tensor (Known l ∷ Known m ∷ Known n ∷ []) w

-- an extent that differs
abbrev pub open_vector : Width → ValueType
open_vector w = tensor (Differs ∷ []) w

abbrev pub scalar : Width → ValueType
scalar w = value_type.Scalar w

-- ---- what is known

-- a grid of 2x2 devices
abbrev pub the_grid : GridItem
the_grid = record { name = codes "g"; extents = pos 2 ∷ pos 2 ∷ []; place = here }

-- a function from a tensor of four cells to one of two
abbrev pub half : Func
half = record {
  name = codes "half";
  private = false;
  args = record { id = 0; value_type = vector 4 I32 } ∷ [];
  results = vector 2 I32 ∷ [];
  ops = [];
  carry = None;
  place = here;
}

abbrev pub carried : Carry
carried = record { grid = codes "g"; args = []; results = [] }

abbrev pub local : Func
local = record half { name = codes "local"; carry = Some carried }

abbrev pub value : ℕ → ValueType → Value
value name t = record { name = name; value_type = t; is_constant = false }

abbrev pub constant_value : ℕ → ValueType → Value
constant_value name t = record { name = name; value_type = t; is_constant = true }

abbrev pub the_values : List Value
the_values =
    value 0 (vector 4 I32) ∷ value 1 (matrix 2 4 I32) ∷ constant_value 2 (scalar I32) ∷ value 3 (vector 4 I8)
    ∷ value 4 (vector 4 I1) ∷ value 5 value_type.Sharding ∷ value 6 (open_vector I32) ∷ value 7 (matrix 2 3 I32)
    ∷ value 8 (matrix 3 4 I8) ∷ value 9 (vector 2 I32) ∷ value 10 (tensor [] I32) ∷ value 11 (vector 3 I32)
    ∷ value 12 (vector 6 I32) ∷ value 13 (matrix 4 2 I32) ∷ value 14 (vector 0 I32) ∷ value 15 (cube 1 2 3 I32)
    ∷ value 16 (cube 1 3 4 I8) ∷ value 17 (cube 1 2 4 I32) ∷ value 18 (matrix 2 2 I32) ∷ []

abbrev pub in_source : Scope
in_source = record { grids = the_grid ∷ []; funcs = half ∷ local ∷ []; device = None; values = the_values }

abbrev pub in_device : Scope
in_device = record in_source { device = Some (codes "g") }

-- ---- samples

-- An operation, and the rules that it breaks: none, or the one that the sample is for.
pub record Sample : Type 0 where
  pub op : Op
  pub breaks : List Rule

abbrev pub broken_by : Scope → Op → List Rule
broken_by scope op = map (λ r. r.rule) (op_faults (the_limits) scope op) ++ map (λ r. r.rule) (op_faults the_rules scope op)

-- each sample breaks what it says
abbrev pub AreRight : Scope → List Sample → Type 0
AreRight scope samples = map (λ s. broken_by scope s.op) samples ≡ map (λ s. s.breaks) samples

-- an operation that defines the value 20
abbrev pub op : OpKind → List ℕ → ValueType → Op
op kind used t = op_of kind used (Some 20) t here

abbrev pub sound : OpKind → List ℕ → ValueType → Sample
sound kind used t = record { op = op kind used t; breaks = [] }

abbrev pub breaking : List Rule → OpKind → List ℕ → ValueType → Sample
breaking rules kind used t = record { op = op kind used t; breaks = rules }

abbrev pub v1 : List Rule
v1 = V1 ∷ []

abbrev pub v2 : List Rule
v2 = V2 ∷ []

abbrev pub v3 : List Rule
v3 = V3 ∷ []

abbrev pub v4 : List Rule
v4 = V4 ∷ []

abbrev pub v5 : List Rule
v5 = V5 ∷ []

abbrev pub v6 : List Rule
v6 = V6 ∷ []

abbrev pub v8 : List Rule
v8 = V8 ∷ []

abbrev pub v9 : List Rule
v9 = V9 ∷ []

abbrev pub v10 : List Rule
v10 = V10 ∷ []

-- ---- element operations and constants

abbrev pub literal : ValueType → Contents → OpKind
literal t contents = op_kind.Constant (record { value_type = t; contents = contents })

abbrev pub compare : ValueType → OpKind
compare t = op_kind.Compare (record { predicate = Slt; operand_type = t })

abbrev pub select : ValueType → OpKind
select t = op_kind.Select (record { condition_type = t })

abbrev pub cast : CastOp → ValueType → OpKind
cast c t = op_kind.Cast (record { op = c; operand_type = t })

abbrev pub element_samples : List Sample
element_samples =
    sound (literal (vector 2 I32) (Held (Val 1 ∷ Val 2 ∷ []))) [] (vector 2 I32)
    ∷ sound (literal (scalar I32) (Held (Val 1 ∷ []))) [] (scalar I32)
    ∷ breaking v5 (literal (vector 2 I32) Broken) [] (vector 2 I32)
    ∷ sound (op_kind.Binary Addi) (0 ∷ 0 ∷ []) (vector 4 I32)
    ∷ breaking v1 (op_kind.Binary Addi) (0 ∷ 19 ∷ []) (vector 4 I32)
    ∷ breaking v3 (op_kind.Binary Addi) (0 ∷ 3 ∷ []) (vector 4 I32)
    ∷ breaking v3 (op_kind.Binary Addi) (2 ∷ 2 ∷ []) (scalar I32)
    ∷ breaking (V3 ∷ V10 ∷ []) (op_kind.Binary Addi) (0 ∷ 0 ∷ []) (open_vector I32)
    ∷ breaking v10 (op_kind.Binary Addi) (6 ∷ 6 ∷ []) (open_vector I32)
    ∷ sound (compare (vector 4 I32)) (0 ∷ 0 ∷ []) (vector 4 I1)
    ∷ breaking v3 (compare (vector 4 I32)) (0 ∷ 9 ∷ []) (vector 4 I1)
    ∷ sound (select (vector 4 I1)) (4 ∷ 0 ∷ 0 ∷ []) (vector 4 I32)
    ∷ breaking v3 (select (vector 4 I32)) (0 ∷ 0 ∷ 0 ∷ []) (vector 4 I32)
    ∷ breaking v3 (select (vector 4 I1)) (4 ∷ 9 ∷ 9 ∷ []) (vector 2 I32)
    ∷ sound (cast Extsi (vector 4 I8)) (3 ∷ []) (vector 4 I32)
    ∷ breaking v4 (cast Extsi (vector 4 I32)) (0 ∷ []) (vector 4 I8)
    ∷ sound (cast Trunci (vector 4 I32)) (0 ∷ []) (vector 4 I8)
    ∷ breaking v4 (cast Trunci (vector 4 I32)) (0 ∷ []) (vector 4 I32)
    ∷ breaking v4 (cast Trunci (vector 4 I32)) (0 ∷ []) (vector 2 I8)
    ∷ sound op_kind.Empty [] (vector 4 I32)
    ∷ breaking v3 op_kind.Empty [] (scalar I32)
    ∷ breaking v10 op_kind.Empty [] (open_vector I32)
    ∷ breaking (L4 ∷ []) op_kind.Empty [] (matrix 0 1048577 I32)
    ∷ sound op_kind.Empty [] (matrix 0 1048576 I32)
    ∷ breaking (L2 ∷ []) op_kind.Empty [] (tensor (Known 1 ∷ Known 1 ∷ Known 1 ∷ Known 1 ∷ Known 1 ∷ Known 1 ∷ Known 1 ∷ []) I32)
    ∷ record { op = op_of op_kind.Empty [] (Some 3) (vector 4 I32) here; breaks = v2 }
    ∷ []

-- ---- slices and reshapes

abbrev pub nums : ℕ → ℕ → List ℤ
nums m n = pos m ∷ pos n ∷ []

abbrev pub one : ℕ → List ℤ
one n = pos n ∷ []

abbrev pub cells : List ℤ → List ℤ → List ℤ → Slice
cells offsets sizes strides = record { offsets = offsets; sizes = sizes; strides = strides }

abbrev pub extract : Slice → ValueType → OpKind
extract s t = op_kind.ExtractSlice (record { slice = s; source_type = t })

abbrev pub insert : Slice → ValueType → OpKind
insert s t = op_kind.InsertSlice (record { slice = s; source_type = t })

abbrev pub collapse : List (List ℤ) → ValueType → OpKind
collapse groups t = op_kind.CollapseShape (record { reassociation = groups; source_type = t })

abbrev pub expand : List (List ℤ) → List ℤ → ValueType → OpKind
expand groups shape t =
    op_kind.ExpandShape (record { reassociation = groups; output_shape = shape; source_type = t })

abbrev pub layout_samples : List Sample
layout_samples =
    sound (extract (cells (one 0) (one 2) (one 2)) (vector 4 I32)) (0 ∷ []) (vector 2 I32)
    ∷ breaking v5 (extract (cells (one 0) (one 2) (one 4)) (vector 4 I32)) (0 ∷ []) (vector 2 I32)
    ∷ breaking v5 (extract (cells (one 0) (one 0) (one 1)) (vector 4 I32)) (0 ∷ []) (vector 2 I32)
    ∷ breaking v5 (extract (cells (one 0) (nums 1 1) (one 1)) (vector 4 I32)) (0 ∷ []) (vector 2 I32)
    ∷ breaking v5 (extract (cells (negsuc 0 ∷ []) (one 1) (one 1)) (vector 4 I32)) (0 ∷ []) (vector 1 I32)
    ∷ breaking v4 (extract (cells (one 0) (one 2) (one 2)) (vector 4 I32)) (0 ∷ []) (vector 3 I32)
    ∷ breaking v4 (extract (cells (one 0) (one 2) (one 2)) (vector 4 I32)) (0 ∷ []) (vector 2 I8)
    ∷ sound (insert (cells (one 1) (one 2) (one 1)) (vector 2 I32)) (9 ∷ 0 ∷ []) (vector 4 I32)
    ∷ breaking v3 (insert (cells (one 1) (one 1) (one 1)) (vector 2 I32)) (9 ∷ 0 ∷ []) (vector 4 I32)
    ∷ breaking v5 (insert (cells (one 3) (one 2) (one 1)) (vector 2 I32)) (9 ∷ 0 ∷ []) (vector 4 I32)
    ∷ sound (collapse (nums 0 1 ∷ []) (matrix 2 4 I32)) (1 ∷ []) (vector 8 I32)
    ∷ breaking v4 (collapse (nums 0 1 ∷ []) (matrix 2 4 I32)) (1 ∷ []) (vector 6 I32)
    ∷ breaking v5 (collapse (nums 1 0 ∷ []) (matrix 2 4 I32)) (1 ∷ []) (vector 8 I32)
    ∷ breaking v5 (collapse (one 0 ∷ []) (matrix 2 4 I32)) (1 ∷ []) (vector 8 I32)
    ∷ breaking v5 (collapse (one 0 ∷ [] ∷ one 1 ∷ []) (matrix 2 4 I32)) (1 ∷ []) (tensor (Known 2 ∷ Known 1 ∷ Known 4 ∷ []) I32)
    ∷ breaking v4 (collapse [] (matrix 2 4 I32)) (1 ∷ []) (tensor [] I32)
    ∷ sound (expand (nums 0 1 ∷ []) (nums 2 2) (vector 4 I32)) (0 ∷ []) (matrix 2 2 I32)
    ∷ sound (expand [] (one 1) (tensor [] I32)) (10 ∷ []) (vector 1 I32)
    ∷ breaking v4 (expand (nums 0 1 ∷ []) (nums 2 4) (vector 4 I32)) (0 ∷ []) (matrix 2 2 I32)
    ∷ breaking v4 (expand (nums 0 1 ∷ []) (nums 2 4) (vector 4 I32)) (0 ∷ []) (matrix 2 4 I32)
    ∷ breaking v5 (expand (nums 0 1 ∷ []) (one 2) (vector 4 I32)) (0 ∷ []) (matrix 2 2 I32)
    ∷ breaking v5 (expand (one 0 ∷ one 1 ∷ []) (nums 2 2) (vector 4 I32)) (0 ∷ []) (matrix 2 2 I32)
    ∷ []

-- ---- structured operations

abbrev pub ins_outs : List ValueType → ValueType → InsOuts
ins_outs ins out =
    record { ins_count = length ins; ins_types = ins; outs_count = 1; outs_types = out ∷ [] }

abbrev pub structured_samples : List Sample
structured_samples =
    sound (op_kind.Fill (ins_outs (scalar I32 ∷ []) (vector 4 I32))) (2 ∷ 0 ∷ []) (vector 4 I32)
    ∷ breaking v3 (op_kind.Fill (ins_outs (vector 4 I32 ∷ []) (vector 4 I32))) (0 ∷ 0 ∷ []) (vector 4 I32)
    ∷ breaking v3 (op_kind.Fill (ins_outs (scalar I32 ∷ []) (vector 4 I8))) (2 ∷ 3 ∷ []) (vector 4 I8)
    ∷ breaking v4 (op_kind.Fill (ins_outs (scalar I32 ∷ []) (vector 4 I32))) (2 ∷ 0 ∷ []) (vector 2 I32)
    ∷ sound (op_kind.Matmul (ins_outs (matrix 2 3 I32 ∷ matrix 3 4 I8 ∷ []) (matrix 2 4 I32))) (7 ∷ 8 ∷ 1 ∷ []) (matrix 2 4 I32)
    ∷ breaking v3 (op_kind.Matmul (ins_outs (matrix 2 3 I32 ∷ matrix 2 4 I32 ∷ []) (matrix 2 4 I32))) (7 ∷ 1 ∷ 1 ∷ []) (matrix 2 4 I32)
    ∷ breaking v3 (op_kind.Matmul (ins_outs (matrix 2 3 I32 ∷ []) (matrix 2 4 I32))) (7 ∷ 1 ∷ []) (matrix 2 4 I32)
    ∷ breaking v3 (op_kind.Matvec (ins_outs (matrix 2 4 I32 ∷ vector 4 I8 ∷ []) (vector 4 I8))) (1 ∷ 3 ∷ 3 ∷ []) (vector 4 I8)
    ∷ sound (op_kind.Matvec (ins_outs (matrix 2 4 I32 ∷ vector 4 I8 ∷ []) (vector 2 I32))) (1 ∷ 3 ∷ 9 ∷ []) (vector 2 I32)
    ∷ sound (op_kind.Vecmat (ins_outs (vector 2 I32 ∷ matrix 2 4 I32 ∷ []) (vector 4 I32))) (9 ∷ 1 ∷ 0 ∷ []) (vector 4 I32)
    ∷ breaking v3 (op_kind.Vecmat (ins_outs (matrix 2 4 I32 ∷ vector 2 I32 ∷ []) (vector 4 I32))) (1 ∷ 9 ∷ 0 ∷ []) (vector 4 I32)
    ∷ sound (op_kind.Dot (ins_outs (vector 4 I32 ∷ vector 4 I8 ∷ []) (tensor [] I32))) (0 ∷ 3 ∷ 10 ∷ []) (tensor [] I32)
    ∷ breaking v3 (op_kind.Dot (ins_outs (vector 4 I32 ∷ vector 2 I32 ∷ []) (tensor [] I32))) (0 ∷ 9 ∷ 10 ∷ []) (tensor [] I32)
    ∷ breaking v3 (op_kind.Dot (ins_outs (vector 4 I1 ∷ vector 4 I8 ∷ []) (tensor [] I32))) (4 ∷ 3 ∷ 10 ∷ []) (tensor [] I32)
    ∷ sound (op_kind.Conv1d (ins_outs (vector 6 I32 ∷ vector 3 I32 ∷ []) (vector 4 I32))) (12 ∷ 11 ∷ 0 ∷ []) (vector 4 I32)
    ∷ breaking v3 (op_kind.Conv1d (ins_outs (vector 6 I32 ∷ vector 4 I32 ∷ []) (vector 4 I32))) (12 ∷ 0 ∷ 0 ∷ []) (vector 4 I32)
    ∷ sound (op_kind.Conv1d (ins_outs (vector 6 I32 ∷ vector 3 I32 ∷ []) (vector 0 I32))) (12 ∷ 11 ∷ 14 ∷ []) (vector 0 I32)
    ∷ sound (op_kind.BatchMatmul (ins_outs (cube 1 2 3 I32 ∷ cube 1 3 4 I8 ∷ []) (cube 1 2 4 I32))) (15 ∷ 16 ∷ 17 ∷ []) (cube 1 2 4 I32)
    ∷ breaking v3 (op_kind.BatchMatmul (ins_outs (cube 1 2 3 I32 ∷ cube 1 2 3 I32 ∷ []) (cube 1 2 4 I32))) (15 ∷ 15 ∷ 17 ∷ []) (cube 1 2 4 I32)
    ∷ breaking v3 (op_kind.BatchMatmul (ins_outs (cube 1 2 3 I32 ∷ matrix 3 4 I8 ∷ []) (cube 1 2 4 I32))) (15 ∷ 8 ∷ 17 ∷ []) (cube 1 2 4 I32)
    ∷ breaking v4 (op_kind.BatchMatmul (ins_outs (cube 1 2 3 I32 ∷ cube 1 3 4 I8 ∷ []) (cube 1 2 4 I32))) (15 ∷ 16 ∷ 17 ∷ []) (cube 2 2 4 I32)
    ∷ sound (op_kind.Conv2d (ins_outs (matrix 3 4 I8 ∷ matrix 2 3 I32 ∷ []) (matrix 2 2 I32))) (8 ∷ 7 ∷ 18 ∷ []) (matrix 2 2 I32)
    ∷ breaking v3 (op_kind.Conv2d (ins_outs (matrix 3 4 I8 ∷ matrix 2 4 I32 ∷ []) (matrix 2 2 I32))) (8 ∷ 1 ∷ 18 ∷ []) (matrix 2 2 I32)
    ∷ breaking v3 (op_kind.Conv2d (ins_outs (matrix 3 4 I8 ∷ vector 3 I32 ∷ []) (matrix 2 2 I32))) (8 ∷ 11 ∷ 18 ∷ []) (matrix 2 2 I32)
    ∷ breaking v4 (op_kind.Conv2d (ins_outs (matrix 3 4 I8 ∷ matrix 2 3 I32 ∷ []) (matrix 2 2 I32))) (8 ∷ 7 ∷ 18 ∷ []) (matrix 2 4 I32)
    ∷ sound (op_kind.Transpose (record { ins_outs = ins_outs (matrix 2 4 I32 ∷ []) (matrix 4 2 I32); permutation = nums 1 0 })) (1 ∷ 13 ∷ []) (matrix 4 2 I32)
    ∷ breaking v5 (op_kind.Transpose (record { ins_outs = ins_outs (matrix 2 4 I32 ∷ []) (matrix 4 2 I32); permutation = nums 1 1 })) (1 ∷ 13 ∷ []) (matrix 4 2 I32)
    ∷ breaking v3 (op_kind.Transpose (record { ins_outs = ins_outs (matrix 2 4 I32 ∷ []) (matrix 4 2 I32); permutation = nums 0 1 })) (1 ∷ 13 ∷ []) (matrix 4 2 I32)
    ∷ sound (op_kind.Broadcast (record { ins_outs = ins_outs (vector 4 I32 ∷ []) (matrix 2 4 I32); dimensions = one 0 })) (0 ∷ 1 ∷ []) (matrix 2 4 I32)
    ∷ breaking v3 (op_kind.Broadcast (record { ins_outs = ins_outs (vector 4 I32 ∷ []) (matrix 2 4 I32); dimensions = one 1 })) (0 ∷ 1 ∷ []) (matrix 2 4 I32)
    ∷ breaking v5 (op_kind.Broadcast (record { ins_outs = ins_outs (vector 4 I32 ∷ []) (matrix 2 4 I32); dimensions = one 2 })) (0 ∷ 1 ∷ []) (matrix 2 4 I32)
    ∷ breaking v3 (op_kind.Broadcast (record { ins_outs = ins_outs (vector 4 I32 ∷ []) (matrix 2 4 I32); dimensions = [] })) (0 ∷ 1 ∷ []) (matrix 2 4 I32)
    ∷ []

-- ---- regions

abbrev pub body_op : BodyKind → List ℕ → ℕ → ValueType → BodyOp
body_op kind used name t =
    record { kind = kind; operands = used; defines = name; result = t; place = here }

abbrev pub region : List ℕ → List Width → List BodyOp → ℕ → Body
region args widths ops yields =
    record { args = args; widths = widths; ops = ops; yields = yields; width = I32; place = here }

abbrev pub a_sum : List ℕ → BodyOp
a_sum used = body_op (body_kind.Binary Addi) used 32 (scalar I32)

abbrev pub two : List ℕ
two = 30 ∷ 31 ∷ []

abbrev pub summing : Body
summing = region two (I32 ∷ I32 ∷ []) (a_sum two ∷ []) 32

abbrev pub reduce : List ℤ → Body → OpKind
reduce dimensions body =
    op_kind.Reduce (record { ins_outs = ins_outs (matrix 2 4 I32 ∷ []) (vector 4 I32); dimensions = dimensions; body = body })

abbrev pub map_of : List ℕ → List ℕ → AffineMap
map_of loops results = record { loops = loops; results = results }

abbrev pub generic : List AffineMap → List IteratorType → Body → OpKind
generic maps iterators body =
    op_kind.Generic (record { ins_outs = ins_outs (matrix 2 4 I32 ∷ []) (vector 4 I32); indexing_maps = maps; iterator_types = iterators; body = body })

abbrev pub columns : List AffineMap
columns = map_of (0 ∷ 1 ∷ []) (0 ∷ 1 ∷ []) ∷ map_of (0 ∷ 1 ∷ []) (1 ∷ []) ∷ []

abbrev pub over_rows : List IteratorType
over_rows = Reduction ∷ Parallel ∷ []

abbrev pub index_op : ℕ → BodyOp
index_op n = body_op (body_kind.Index (record { dimension = n })) [] 32 value_type.Index

abbrev pub index_cast : BodyOp
index_cast = body_op body_kind.IndexCast (32 ∷ []) 33 (scalar I32)

abbrev pub blocks : List BodyOp → ℕ → Body
blocks ops yields = region two (I32 ∷ I32 ∷ []) ops yields

abbrev pub region_samples : List Sample
region_samples =
    sound (reduce (one 0) summing) (1 ∷ 0 ∷ []) (vector 4 I32)
    ∷ breaking v5 (reduce (one 2) summing) (1 ∷ 0 ∷ []) (vector 4 I32)
    ∷ breaking v3 (reduce [] summing) (1 ∷ 0 ∷ []) (vector 4 I32)
    ∷ breaking v3 (reduce (one 1) summing) (1 ∷ 0 ∷ []) (vector 4 I32)
    ∷ breaking v9 (reduce (one 0) (region two (I32 ∷ I8 ∷ []) (a_sum (30 ∷ 30 ∷ []) ∷ []) 32)) (1 ∷ 0 ∷ []) (vector 4 I32)
    ∷ breaking v9 (reduce (one 0) (region (30 ∷ []) (I32 ∷ []) [] 30)) (1 ∷ 0 ∷ []) (vector 4 I32)
    ∷ sound (generic columns over_rows summing) (1 ∷ 0 ∷ []) (vector 4 I32)
    ∷ sound (generic columns over_rows (blocks (a_sum (30 ∷ 2 ∷ []) ∷ []) 32)) (1 ∷ 0 ∷ 2 ∷ []) (vector 4 I32)
    ∷ breaking v1 (generic columns over_rows (blocks (a_sum (30 ∷ 19 ∷ []) ∷ []) 32)) (1 ∷ 0 ∷ 19 ∷ []) (vector 4 I32)
    ∷ breaking v1 (generic columns over_rows (blocks [] 32)) (1 ∷ 0 ∷ 32 ∷ []) (vector 4 I32)
    ∷ breaking v2 (generic columns over_rows (blocks (a_sum two ∷ a_sum two ∷ []) 32)) (1 ∷ 0 ∷ []) (vector 4 I32)
    ∷ breaking v2 (generic columns over_rows (region (30 ∷ 30 ∷ []) (I32 ∷ I32 ∷ []) [] 30)) (1 ∷ 0 ∷ []) (vector 4 I32)
    ∷ breaking v9 (generic columns over_rows (blocks (a_sum (30 ∷ 0 ∷ []) ∷ []) 32)) (1 ∷ 0 ∷ 0 ∷ []) (vector 4 I32)
    ∷ breaking v9 (generic columns over_rows (blocks (body_op (body_kind.Binary Addi) two 32 (vector 4 I32) ∷ []) 30)) (1 ∷ 0 ∷ []) (vector 4 I32)
    ∷ sound (generic columns over_rows (blocks (index_op 1 ∷ index_cast ∷ []) 33)) (1 ∷ 0 ∷ []) (vector 4 I32)
    ∷ breaking v5 (generic columns over_rows (blocks (index_op 2 ∷ index_cast ∷ []) 33)) (1 ∷ 0 ∷ []) (vector 4 I32)
    ∷ breaking v9 (generic columns over_rows (blocks (index_op 1 ∷ []) 32)) (1 ∷ 0 ∷ []) (vector 4 I32)
    ∷ breaking v5 (generic columns over_rows (blocks (body_op (body_kind.Constant (record { value_type = scalar I32; contents = Broken })) [] 32 (scalar I32) ∷ []) 32)) (1 ∷ 0 ∷ []) (vector 4 I32)
    ∷ breaking v8 (generic columns (Parallel ∷ Parallel ∷ []) summing) (1 ∷ 0 ∷ []) (vector 4 I32)
    ∷ breaking v8 (generic columns (Unknown ∷ Parallel ∷ []) summing) (1 ∷ 0 ∷ []) (vector 4 I32)
    ∷ breaking v8 (generic (map_of (0 ∷ 1 ∷ []) (0 ∷ 1 ∷ []) ∷ []) over_rows summing) (1 ∷ 0 ∷ []) (vector 4 I32)
    ∷ breaking v8 (generic (map_of (0 ∷ 1 ∷ []) (0 ∷ 1 ∷ []) ∷ map_of (0 ∷ 1 ∷ []) (0 ∷ []) ∷ []) (Parallel ∷ Reduction ∷ []) summing) (1 ∷ 0 ∷ []) (vector 4 I32)
    ∷ breaking v8 (generic (map_of (0 ∷ 1 ∷ []) (1 ∷ 1 ∷ []) ∷ map_of (0 ∷ 1 ∷ []) (1 ∷ []) ∷ []) over_rows summing) (1 ∷ 0 ∷ []) (vector 4 I32)
    ∷ breaking v8 (generic (map_of (0 ∷ 1 ∷ 2 ∷ []) (0 ∷ 1 ∷ []) ∷ map_of (0 ∷ 1 ∷ 2 ∷ []) (1 ∷ []) ∷ []) (Reduction ∷ Parallel ∷ Reduction ∷ []) summing) (1 ∷ 0 ∷ []) (vector 4 I32)
    ∷ breaking v4 (generic columns over_rows summing) (1 ∷ 0 ∷ []) (vector 2 I32)
    ∷ []

-- ---- how many inputs

abbrev pub identity : AffineMap
identity = map_of (0 ∷ []) (0 ∷ [])

-- a generic of so many vectors of four cells, which gives the first one
abbrev pub first_of : ℕ → OpKind
first_of n =
    op_kind.Generic (record {
      ins_outs = ins_outs (replicate n (vector 4 I32)) (vector 4 I32);
      indexing_maps = replicate (n + 1) identity;
      iterator_types = Parallel ∷ [];
      body = region (range_with_len 30 (n + 1)) (replicate (n + 1) I32) [] 30;
    })

abbrev pub of_inputs : ℕ → List Rule → Sample
of_inputs n rules = breaking rules (first_of n) (replicate (n + 1) 0) (vector 4 I32)

abbrev pub source_counts : List Sample
source_counts = of_inputs 3 [] ∷ of_inputs 4 (L6 ∷ []) ∷ []

abbrev pub device_counts : List Sample
device_counts = of_inputs 4 [] ∷ of_inputs 9 [] ∷ of_inputs 10 (L6 ∷ []) ∷ []

-- ---- returns

abbrev pub returned : List Rule → List ℕ → List ValueType → Sample
returned rules used types = record {
  op = op_of (op_kind.Return (record { operand_types = types })) used None value_type.Nothing here;
  breaks = rules;
}

abbrev pub return_samples : List Sample
return_samples =
    returned [] [] []
    ∷ returned [] (0 ∷ []) (vector 4 I32 ∷ [])
    ∷ returned [] (2 ∷ 0 ∷ []) (scalar I32 ∷ vector 4 I32 ∷ [])
    ∷ returned v1 (19 ∷ []) (vector 4 I32 ∷ [])
    ∷ returned v3 (0 ∷ []) (vector 2 I32 ∷ [])
    ∷ returned v3 (0 ∷ 0 ∷ []) (vector 4 I32 ∷ [])
    ∷ returned v3 (0 ∷ []) (vector 4 I32 ∷ vector 4 I32 ∷ [])
    ∷ []

-- ---- annotations, calls

abbrev pub halves : List ℕ → OpKind
halves grid = op_kind.Sharding (record { grid = grid; split = one 0 ∷ []; halos = []; offsets = [] })

abbrev pub note : OpKind
note = op_kind.Shard (record { annotate_for_users = false })

abbrev pub call : List ℕ → List ValueType → OpKind
call name types = op_kind.Call (record { callee = name; operand_types = types })

abbrev pub source_samples : List Sample
source_samples =
    sound (halves (codes "g")) [] value_type.Sharding
    ∷ breaking v6 (halves (codes "h")) [] value_type.Sharding
    ∷ sound note (0 ∷ 5 ∷ []) (vector 4 I32)
    ∷ breaking v3 note (0 ∷ 0 ∷ []) (vector 4 I32)
    ∷ breaking v3 note (5 ∷ 5 ∷ []) (vector 4 I32)
    ∷ sound (call (codes "half") (vector 4 I32 ∷ [])) (0 ∷ []) (vector 2 I32)
    ∷ breaking v6 (call (codes "third") (vector 4 I32 ∷ [])) (0 ∷ []) (vector 3 I32)
    ∷ breaking v3 (call (codes "half") (vector 2 I32 ∷ [])) (9 ∷ []) (vector 2 I32)
    ∷ breaking v3 (call (codes "half") (vector 4 I32 ∷ [])) (0 ∷ 0 ∷ []) (vector 2 I32)
    ∷ breaking v4 (call (codes "half") (vector 4 I32 ∷ [])) (0 ∷ []) (vector 4 I32)
    ∷ breaking v10 (call (codes "local") (vector 4 I32 ∷ [])) (0 ∷ []) (vector 2 I32)
    ∷ []

-- ---- collectives and layouts of device form

abbrev pub on : List ℤ → GridAxes
on axes = record { grid = codes "g"; grid_axes = axes }

abbrev pub elsewhere : GridAxes
elsewhere = record { grid = codes "h"; grid_axes = one 7 }

abbrev pub gather : GridAxes → ℕ → ValueType → OpKind
gather o axis t = op_kind.AllGather (record { on = o; gather_axis = axis; operand_type = t })

abbrev pub slice : GridAxes → ℕ → ValueType → OpKind
slice o axis t = op_kind.AllSlice (record { on = o; slice_axis = axis; operand_type = t })

abbrev pub all_reduce : GridAxes → ValueType → OpKind
all_reduce o t = op_kind.AllReduce (record { on = o; reduction = kind.Sum; operand_type = t })

abbrev pub scatter : GridAxes → ℕ → ValueType → OpKind
scatter o axis t =
    op_kind.ReduceScatter (record { on = o; reduction = kind.Sum; scatter_axis = axis; operand_type = t })

abbrev pub exchange : GridAxes → ℕ → ℕ → ValueType → OpKind
exchange o split concat t =
    op_kind.AllToAll (record { on = o; split_axis = split; concat_axis = concat; operand_type = t })

abbrev pub shift : GridAxes → ℕ → ValueType → OpKind
shift o axis t =
    op_kind.Shift (record { on = o; shift_axis = axis; offset = pos 1; rotate = false; operand_type = t })

abbrev pub halo : List (List ℤ) → List ℤ → OpKind
halo lists sizes = op_kind.UpdateHalo (record { grid = codes "g"; split_axes = lists; halo_sizes = sizes })

abbrev pub take_op : GridAxes → ℕ → List ℤ → List ℤ → ValueType → OpKind
take_op o axis starts sizes t =
    op_kind.Take (record { on = o; axis = axis; starts = starts; sizes = sizes; operand_type = t })

abbrev pub pad : List ℤ → List ℤ → ValueType → OpKind
pad low high t = op_kind.Pad (record { low = low; high = high; operand_type = t })

abbrev pub join : ℕ → List ValueType → OpKind
join axis types = op_kind.Join (record { axis = axis; operand_types = types })

abbrev pub device_samples : List Sample
device_samples =
    sound (gather (on (one 0)) 0 (vector 4 I32)) (0 ∷ []) (vector 8 I32)
    ∷ sound (gather (on (one 0)) 0 (open_vector I32)) (6 ∷ []) (vector 8 I32)
    ∷ breaking v3 (gather (on (one 0)) 0 (open_vector I32)) (0 ∷ []) (vector 8 I32)
    ∷ breaking v4 (gather (on (one 0)) 0 (vector 4 I32)) (0 ∷ []) (vector 4 I32)
    ∷ breaking v4 (gather (on (one 0)) 0 (matrix 2 4 I32)) (1 ∷ []) (matrix 4 2 I32)
    ∷ breaking v5 (gather (on (one 2)) 0 (vector 4 I32)) (0 ∷ []) (vector 8 I32)
    ∷ breaking v5 (gather (on (nums 0 0)) 0 (vector 4 I32)) (0 ∷ []) (vector 16 I32)
    ∷ breaking v5 (gather (on (one 0)) 1 (vector 4 I32)) (0 ∷ []) (vector 8 I32)
    ∷ breaking (V6 ∷ V10 ∷ []) (gather elsewhere 0 (vector 4 I32)) (0 ∷ []) (vector 5 I32)
    ∷ sound (slice (on (nums 0 1)) 0 (vector 4 I32)) (0 ∷ []) (vector 1 I32)
    ∷ breaking v4 (slice (on (nums 0 1)) 0 (vector 2 I32)) (9 ∷ []) (vector 1 I32)
    ∷ sound (slice (on (nums 0 1)) 0 (vector 2 I32)) (9 ∷ []) (open_vector I32)
    ∷ sound (all_reduce (on (one 1)) (vector 4 I32)) (0 ∷ []) (vector 4 I32)
    ∷ breaking v4 (all_reduce (on (one 1)) (vector 4 I32)) (0 ∷ []) (vector 2 I32)
    ∷ sound (all_reduce (on (one 1)) (vector 4 I32)) (0 ∷ []) (open_vector I32)
    ∷ breaking v5 (all_reduce (on (one 2)) (vector 4 I32)) (0 ∷ []) (vector 4 I32)
    ∷ sound (scatter (on (one 0)) 0 (vector 4 I32)) (0 ∷ []) (vector 2 I32)
    ∷ breaking v4 (scatter (on (one 0)) 0 (vector 3 I32)) (11 ∷ []) (vector 1 I32)
    ∷ sound (exchange (on (one 0)) 1 0 (matrix 2 4 I32)) (1 ∷ []) (matrix 4 2 I32)
    ∷ breaking v4 (exchange (on (one 0)) 0 1 (matrix 2 4 I32)) (1 ∷ []) (matrix 4 2 I32)
    ∷ sound (exchange (on (one 0)) 0 0 (matrix 2 4 I32)) (1 ∷ []) (matrix 2 4 I32)
    ∷ breaking v5 (exchange (on (one 0)) 0 2 (matrix 2 4 I32)) (1 ∷ []) (matrix 2 4 I32)
    ∷ sound (shift (on (nums 1 0)) 0 (vector 4 I32)) (0 ∷ []) (vector 4 I32)
    ∷ breaking v5 (shift (on (one 1)) 0 (vector 4 I32)) (0 ∷ []) (vector 4 I32)
    ∷ breaking v4 (shift (on (one 1)) 1 (vector 4 I32)) (0 ∷ []) (vector 3 I32)
    ∷ sound (halo (one 0 ∷ []) (nums 1 1)) (0 ∷ []) (vector 4 I32)
    ∷ breaking v5 (halo (one 0 ∷ []) (one 1)) (0 ∷ []) (vector 4 I32)
    ∷ breaking v5 (halo (one 0 ∷ one 1 ∷ []) (pos 1 ∷ pos 1 ∷ pos 1 ∷ pos 1 ∷ [])) (0 ∷ []) (vector 4 I32)
    ∷ breaking v5 (halo (one 0 ∷ []) (pos 1 ∷ negsuc 0 ∷ [])) (0 ∷ []) (vector 4 I32)
    ∷ breaking v5 (halo (one 2 ∷ []) (nums 1 1)) (0 ∷ []) (vector 4 I32)
    ∷ breaking v3 (halo (one 0 ∷ []) (nums 1 1)) (0 ∷ []) (open_vector I32)
    ∷ sound (take_op (on (one 0)) 0 (nums 0 2) (nums 2 2) (vector 4 I32)) (0 ∷ []) (vector 2 I32)
    ∷ sound (take_op (on (one 0)) 0 (nums 0 3) (nums 3 1) (vector 4 I32)) (0 ∷ []) (open_vector I32)
    ∷ breaking v4 (take_op (on (one 0)) 0 (nums 0 3) (nums 3 1) (vector 4 I32)) (0 ∷ []) (vector 3 I32)
    ∷ breaking v5 (take_op (on (one 0)) 0 (nums 0 2) (one 2) (vector 4 I32)) (0 ∷ []) (vector 2 I32)
    ∷ breaking v5 (take_op (on (one 0)) 1 (nums 0 2) (nums 2 2) (vector 4 I32)) (0 ∷ []) (vector 2 I32)
    ∷ sound (pad (one 1) (one 2) (vector 4 I32)) (0 ∷ []) (vector 7 I32)
    ∷ breaking v4 (pad (one 1) (one 2) (vector 4 I32)) (0 ∷ []) (vector 4 I32)
    ∷ breaking v5 (pad [] (one 2) (vector 4 I32)) (0 ∷ []) (vector 6 I32)
    ∷ sound (join 0 (vector 4 I32 ∷ vector 2 I32 ∷ [])) (0 ∷ 9 ∷ []) (vector 6 I32)
    ∷ breaking v4 (join 0 (vector 4 I32 ∷ vector 2 I32 ∷ [])) (0 ∷ 9 ∷ []) (vector 4 I32)
    ∷ breaking v3 (join 0 (vector 4 I32 ∷ vector 4 I8 ∷ [])) (0 ∷ 3 ∷ []) (vector 8 I32)
    ∷ breaking v3 (join 0 (matrix 2 4 I32 ∷ matrix 2 3 I32 ∷ [])) (1 ∷ 7 ∷ []) (matrix 4 4 I32)
    ∷ breaking v5 (join 1 (vector 4 I32 ∷ [])) (0 ∷ []) (vector 4 I32)
    ∷ breaking v10 (halves (codes "g")) [] value_type.Sharding
    ∷ breaking v10 note (0 ∷ 5 ∷ []) (vector 4 I32)
    ∷ breaking v10 (call (codes "half") (vector 4 I32 ∷ [])) (0 ∷ []) (vector 2 I32)
    ∷ []
