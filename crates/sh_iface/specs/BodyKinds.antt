-- The kind of a region: by which operation it combines its output's cell with a cell of its own.
use Rattle.std.specs.Prelude.{ℕ, ◌&&◌, ◌||◌, not, Bool, false, List, [], ◌∷◌, nat_eq, Option, Some, None, option_and_then, if◌then◌else◌}
use Rattle.std.specs.List.{list_all}
use Rattle.sh_base.specs.declared.operations.BinOp.{BinOp}
use Rattle.sh_base.specs.declared.operations.BinOp.TheVariants.{Addi, Subi, Muli, Divui, Divsi, Remui, Remsi, Andi, Ori, Xori, Maxsi, Minsi, Maxui, Minui, Shli, Shrui, Shrsi}
use Rattle.sh_base.specs.declared.operations.Kind.{Kind}
use Rattle.sh_base.specs.declared.operations.Kind.TheVariants.{Sum, Product, Max, Min, And, Or, Xor}
use Rattle.sh_ir.specs.declared.bodies.Body.{Body}
use Rattle.sh_ir.specs.declared.bodies.BodyKind.{BodyKind}
use Rattle.sh_ir.specs.declared.bodies.BodyKind.TheVariants.{Constant, Binary, Compare, Select, Cast, Index, IndexCast}
use Rattle.sh_ir.specs.declared.bodies.BodyOp.{BodyOp}
use Rattle.sh_ir.specs.Regions.{is_among}

-- the kind that combines by an operation
abbrev pub kind_by : BinOp → Option Kind
kind_by Addi = Some Sum
kind_by Muli = Some Product
kind_by Maxsi = Some Max
kind_by Minsi = Some Min
kind_by Andi = Some And
kind_by Ori = Some Or
kind_by Xori = Some Xor
kind_by Subi = None
kind_by Divui = None
kind_by Divsi = None
kind_by Remui = None
kind_by Remsi = None
kind_by Maxui = None
kind_by Minui = None
kind_by Shli = None
kind_by Shrui = None
kind_by Shrsi = None

-- the kind by which an operation of a region combines
abbrev pub combining_kind : BodyKind → Option Kind
combining_kind (Constant x) = None
combining_kind (Binary op) = kind_by op
combining_kind (Compare x) = None
combining_kind (Select x) = None
combining_kind (Cast x) = None
combining_kind (Index x) = None
combining_kind IndexCast = None

-- two operands, one of which is the name
abbrev pub has_once : ℕ → List ℕ → Bool
has_once name (a ∷ b ∷ []) = not (nat_eq a b) && (nat_eq a name || nat_eq b name)
has_once name [] = false
has_once name (a ∷ []) = false
has_once name (a ∷ b ∷ c ∷ operands) = false

-- the operation that defines the name, if there is one
abbrev pub defining : ℕ → List BodyOp → Option BodyOp
defining name [] = None
defining name (op ∷ ops) = if nat_eq op.defines name then Some op else defining name ops

-- the block argument of the output is the last one
abbrev pub last_name : List ℕ → Option ℕ
last_name [] = None
last_name (name ∷ []) = Some name
last_name (name ∷ other ∷ names) = last_name (other ∷ names)

-- no operation but the one that defines `yielded` uses the output's argument or the yielded value
abbrev pub uses_neither : ℕ → ℕ → BodyOp → Bool
uses_neither out yielded op =
    nat_eq op.defines yielded
    || (not (is_among op.operands out) && not (is_among op.operands yielded))

-- The region yields an operation of a kind on its output's argument and another value; no further
-- operation uses that argument or the yielded value. So the other value doesn't use the argument.
abbrev pub kind_with : Body → ℕ → BodyOp → Option Kind
kind_with body out op =
    if has_once out op.operands && list_all (uses_neither out body.yields) body.ops
    then combining_kind op.kind else None

unfoldable pub kind_of_body : Body → Option Kind
kind_of_body body =
    option_and_then (λ out.
    option_and_then (kind_with body out) (defining body.yields body.ops)) (last_name body.args)
