-- How large what an operation gives is.
use Rattle.std.specs.Prelude.{ℕ, List, Option, option_map, option_and_then}
use Rattle.sh_ir.specs.Agreement.{dims_of}
use Rattle.sh_ir.specs.declared.operations.Op.{Op}
use Rattle.sh_loops.specs.declared.nest_sizes.NestSize.{NestSize}
use Rattle.sh_sem.specs.Given.{alone, of_dims, shape_by, shape_given}
use Rattle.sh_eval.specs.Work.{loop_points}

-- a shape, with the loop points of the operation that gives it
abbrev pub with_points : Op → List (List ℕ) → Option (List ℕ) → Option NestSize
with_points op shapes shape =
    option_map (λ s. record { shape = s; points = loop_points op shapes }) shape

-- of an operation by the shapes of its operands, if it isn't stuck by them
unfoldable pub sized : Op → List (List ℕ) → Option NestSize
sized op shapes = with_points op shapes (shape_given op alone shapes)

-- by its kind, where the operands have the extents that their types know
unfoldable pub kind_sized : Op → List (List ℕ) → Option NestSize
kind_sized op shapes =
    with_points op shapes (option_and_then (of_dims (dims_of op.result)) (shape_by op alone shapes))
