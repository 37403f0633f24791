-- What is asked of a region: its names, its types, its numbers.
use Rattle.std.specs.Prelude.{ℕ, List, [], ◌∷◌, Bool, true, not, ◌&&◌, ◌||◌, nat_eq, nat_lt}
use Rattle.std.specs.List.{list_all}
use Rattle.std.specs.Option.{option_map_or}
use Rattle.std.specs.Cmp.Lexicographic.{pointwise}
use Rattle.sh_base.specs.Cells.{bits_of}
use Rattle.sh_base.specs.declared.numbers.Width.{Width}
use Rattle.sh_base.specs.declared.numbers.Width.TheVariants.{I1}
use Rattle.sh_base.specs.declared.rules.Rule.{Rule}
use Rattle.sh_base.specs.declared.rules.Rule.TheVariants.{L2, L4, V1, V2, V5}
use Rattle.sh_ir.specs.declared.bodies.Body.{Body}
use Rattle.sh_ir.specs.declared.bodies.BodyKind.{BodyKind}
use Rattle.sh_ir.specs.declared.bodies.BodyKind.TheVariants.{Constant, Binary, Compare, Select, Cast, Index, IndexCast}
use Rattle.sh_ir.specs.declared.bodies.BodyOp.{BodyOp}
use Rattle.sh_ir.specs.declared.types.ValueType.{ValueType}
use Rattle.sh_ir.specs.declared.types.ValueType.TheVariants as value_type
use Rattle.sh_ir.specs.Agreement.{cell_bits, same_type}
use Rattle.sh_ir.specs.Formed.{is_scalar, types_in}
use Rattle.sh_ir.specs.Limits.{has_few_dims, has_few_cells}
use Rattle.sh_ir.specs.Literals.{is_broken}
use Rattle.sh_ir.specs.Results.{changes_bits}
use Rattle.sh_ir.specs.Scope.{Value, plain_value, value_named, is_defined}
use Rattle.sh_ir.specs.Written.{written_in_body}

-- ---- the region's own values, the last one first

-- the block arguments
abbrev pub with_block : List Value → List ℕ → List Width → List Value
with_block own [] widths = own
with_block own (name ∷ names) [] = own
with_block own (name ∷ names) (w ∷ widths) =
    with_block (plain_value name (value_type.Scalar w) ∷ own) names widths

abbrev pub block_of : Body → List Value
block_of body = with_block [] body.args body.widths

abbrev pub own_after : List Value → BodyOp → List Value
own_after own op = plain_value op.defines op.result ∷ own

-- ---- types

-- The value that a name stands for is of a type. A value of the function is one that regions may
-- use: a scalar constant. Of a name that stands for none nothing is asked.
abbrev pub is_outer_of : List Value → ValueType → ℕ → Bool
is_outer_of outer t name =
    option_map_or (λ v. v.is_constant && same_type v.value_type t) (value_named outer name) true

abbrev pub stands_for : List Value → List Value → ValueType → ℕ → Bool
stands_for outer own t name =
    option_map_or (λ v. same_type v.value_type t) (value_named own name) (is_outer_of outer t name)

abbrev pub stand_for : List Value → List Value → List ValueType → List ℕ → Bool
stand_for outer own [] names = true
stand_for outer own (t ∷ ts) [] = true
stand_for outer own (t ∷ ts) (name ∷ names) =
    stands_for outer own t name && stand_for outer own ts names

-- the types of the operands, by the kind and the type of the value
unfoldable pub body_typing : BodyKind → ValueType → List ValueType
body_typing (Constant x) result = []
body_typing (Binary x) result = result ∷ result ∷ []
body_typing (Compare x) result = x.operand_type ∷ x.operand_type ∷ []
body_typing (Select x) result = x.condition_type ∷ result ∷ result ∷ []
body_typing (Cast x) result = x.operand_type ∷ []
body_typing (Index x) result = []
body_typing IndexCast result = value_type.Index ∷ []

-- the types are scalar, a choice is by an `i1`, and a cast widens or narrows
unfoldable pub is_scalar_op : BodyKind → ValueType → Bool
is_scalar_op (Constant x) result = is_scalar result
is_scalar_op (Binary x) result = is_scalar result
is_scalar_op (Compare x) result = is_scalar x.operand_type
is_scalar_op (Select x) result =
    is_scalar result && same_type x.condition_type (value_type.Scalar I1)
is_scalar_op (Cast x) result =
    (is_scalar x.operand_type && is_scalar result)
    && changes_bits x.op (cell_bits x.operand_type) (cell_bits result)
is_scalar_op (Index x) result = true
is_scalar_op IndexCast result = is_scalar result

abbrev pub is_typed : List Value → List Value → BodyOp → Bool
is_typed outer own op =
    is_scalar_op op.kind op.result
    && stand_for outer own (body_typing op.kind op.result) op.operands

-- from these operations on, to what is yielded
abbrev pub are_typed : List Value → List Value → List BodyOp → ℕ → Width → Bool
are_typed outer own [] yields w = stands_for outer own (value_type.Scalar w) yields
are_typed outer own (op ∷ ops) yields w =
    is_typed outer own op && are_typed outer (own_after own op) ops yields w

-- The block arguments are one for each operand, of its width; the operations follow their types;
-- and what is yielded has the width of the last operand, which is the output.
abbrev pub last_bits : List ValueType → ℕ
last_bits [] = 0
last_bits (t ∷ []) = cell_bits t
last_bits (t ∷ u ∷ ts) = last_bits (u ∷ ts)

unfoldable pub region_fits : List Value → List ValueType → Body → Bool
region_fits outer operands body =
    pointwise (λ w t. nat_eq (bits_of w) (cell_bits t)) body.widths operands
    && (nat_eq (bits_of body.width) (last_bits operands)
    && are_typed outer (block_of body) body.ops body.yields body.width)

-- ---- operation by operation

-- the number of a loop that there is
unfoldable pub body_number_fits : ℕ → BodyKind → Bool
body_number_fits loops (Constant x) = not (is_broken x.contents)
body_number_fits loops (Binary x) = true
body_number_fits loops (Compare x) = true
body_number_fits loops (Select x) = true
body_number_fits loops (Cast x) = true
body_number_fits loops (Index x) = nat_lt x.dimension loops
body_number_fits loops IndexCast = true

abbrev pub is_there : List Value → List Value → ℕ → Bool
is_there outer own name = is_defined own name || is_defined outer name

-- what a rule asks of an operation of a region, at its place
unfoldable pub keeps_in_region : Rule → ℕ → List Value → List Value → BodyOp → Bool
keeps_in_region L2 loops outer own op =
    list_all has_few_dims (types_in (written_in_body op.kind) op.result)
keeps_in_region L4 loops outer own op =
    list_all has_few_cells (types_in (written_in_body op.kind) op.result)
keeps_in_region V1 loops outer own op = list_all (is_there outer own) op.operands
keeps_in_region V2 loops outer own op = not (is_defined own op.defines)
keeps_in_region V5 loops outer own op = body_number_fits loops op.kind
keeps_in_region _ loops outer own op = true

-- what a rule asks of the yield, at its place
unfoldable pub keeps_at_yield : Rule → List Value → List Value → ℕ → Bool
keeps_at_yield V1 outer own yields = is_there outer own yields
keeps_at_yield _ outer own yields = true
