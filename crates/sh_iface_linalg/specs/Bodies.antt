-- The region of a structured operation as plain data: when it is in order, and the same region under
-- other names.
use Rattle.std.specs.Prelude.{◌≡◌, ℕ, ◌+◌, Bool, true, false, List, [], ◌∷◌, ◌++◌, map, length, nat_eq, slice_get, Option, Some, None, option_and_then, unwrap_or, ⊤, MatchOption, if◌then◌else◌}
use Rattle.std.specs.List.{AllByRecursion, list_all, range_with_len}
use Rattle.std.specs.Option.{option_map_or}
use Rattle.sh_base.specs.declared.numbers.Width.{Width}
use Rattle.sh_ir.specs.declared.bodies.Body.{Body}
use Rattle.sh_ir.specs.declared.bodies.BodyKind.{BodyKind}
use Rattle.sh_ir.specs.declared.bodies.BodyKind.TheVariants.{Constant, Binary, Compare, Select, Cast, Index, IndexCast}
use Rattle.sh_ir.specs.declared.bodies.BodyOp.{BodyOp}
use Rattle.sh_ir.specs.declared.types.ValueType.{ValueType}
use Rattle.sh_ir.specs.declared.types.ValueType.TheVariants.{Scalar}
use Rattle.sh_ir.specs.Agreement.{same_type}
use Rattle.sh_ir.specs.declared.operations.OpKind.{OpKind}
use Rattle.sh_ir.specs.Formed.{OperandsFit, ResultFits, is_on_index, types_in}
use Rattle.sh_ir.specs.Limits.{has_few_cells, has_few_dims}
use Rattle.sh_ir.specs.Literals.{is_held}
use Rattle.sh_ir.specs.RegionRules.{body_number_fits, body_typing, is_scalar_op}
use Rattle.sh_ir.specs.Written.{test_type, written_by, written_in_body}
use Rattle.sh_pieces.specs.Instructions.{last_place}
use Rattle.sh_sem.specs.Region.{all_names, first_names}
use Rattle.sh_sem.specs.Scalars.{width_of}

pub record Region : Type 0 where
  -- the names of the scalars of the function that it uses
  pub captured : List ℕ
  pub body : Body

-- ---- the same region under other names

-- a name gets a new one, and the others keep theirs
abbrev pub with_name : (ℕ → ℕ) → ℕ → ℕ → ℕ → ℕ
with_name renamed name new x = if nat_eq name x then new else renamed x

-- these names get new ones in order, from this number on
abbrev pub with_names : (ℕ → ℕ) → List ℕ → ℕ → ℕ → ℕ
with_names renamed [] next = renamed
with_names renamed (name ∷ names) next = with_names (with_name renamed name next) names (next + 1)

-- what operations define is numbered in order
abbrev pub renumbered_ops : (ℕ → ℕ) → ℕ → List BodyOp → List BodyOp
renumbered_ops renamed next [] = []
renumbered_ops renamed next (op ∷ ops) =
    record op { operands = map renamed op.operands; defines = next }
    ∷ renumbered_ops (with_name renamed op.defines next) (next + 1) ops

-- the scalars from one number on, and the block arguments from another
abbrev pub block_renamed : ℕ → ℕ → Region → ℕ → ℕ
block_renamed first base r =
    with_names (with_names (λ name. 0) r.captured first) r.body.args base

-- The scalars are numbered from `first` on, the region's own names from `base` on.
abbrev pub renumbered_body : ℕ → ℕ → Region → Body
renumbered_body first base r =
    let renamed = block_renamed first base r in
    let next = base + length r.body.args in
    record r.body {
      args = range_with_len base (length r.body.args);
      ops = renumbered_ops renamed next r.body.ops;
      yields = with_names renamed (map (λ op. op.defines) r.body.ops) next r.body.yields;
    }

abbrev pub renumbered : ℕ → ℕ → Region → Region
renumbered first base r = record {
  captured = range_with_len first (length r.captured);
  body = renumbered_body first base r;
}

-- ---- a region in order: behind values of these types under these names

-- the name stands for a value of the type
abbrev pub is_typed_at : List ValueType → List (Option ℕ) → ValueType → ℕ → Bool
is_typed_at types names t name =
    option_map_or (λ u. same_type u t)
    (option_and_then (slice_get types) (last_place names name)) false

abbrev pub AreTypedAt : List ValueType → List (Option ℕ) → List ValueType → List ℕ → Type 0
AreTypedAt types names [] [] = Unit {0}
AreTypedAt types names [] (name ∷ operands) = ⊥
AreTypedAt types names (t ∷ ts) [] = ⊥
AreTypedAt types names (t ∷ ts) (name ∷ operands) =
    (is_typed_at types names t name ≡ true) × AreTypedAt types names ts operands

-- the type of the value is the one that goes with the form, where the text doesn't write it
abbrev pub has_own_type : BodyKind → ValueType → Bool
has_own_type (Constant x) result = same_type result x.value_type
has_own_type (Binary x) result = true
has_own_type (Compare x) result = same_type result (test_type x.operand_type)
has_own_type (Select x) result = true
has_own_type (Cast x) result = true
has_own_type (Index x) result = true
has_own_type IndexCast result = true

pub record IsSoundOp (types : List ValueType) (names : List (Option ℕ)) (op : BodyOp)
    : Type 0 where
  pub scalar : is_scalar_op op.kind op.result ≡ true
  pub operands : AreTypedAt types names (body_typing op.kind op.result) op.operands
  pub own : has_own_type op.kind op.result ≡ true
  pub held : list_all is_held (written_in_body op.kind).constants ≡ true
  pub sound : body_number_fits 0 op.kind ≡ true
  -- it doesn't ask for the index of a loop
  pub free : is_on_index op.kind ≡ false
  pub dims : list_all has_few_dims (types_in (written_in_body op.kind) op.result) ≡ true
  pub cells : list_all has_few_cells (types_in (written_in_body op.kind) op.result) ≡ true

abbrev pub AreSoundOps : List ValueType → List (Option ℕ) → List BodyOp → Type 0
AreSoundOps types names [] = Unit {0}
AreSoundOps types names (op ∷ ops) =
    IsSoundOp types names op
    × AreSoundOps (types ++ op.result ∷ []) (names ++ Some op.defines ∷ []) ops

-- the name is none of these
abbrev pub is_none_of : ℕ → List ℕ → Bool
is_none_of name [] = true
is_none_of name (other ∷ names) = if nat_eq name other then false else is_none_of name names

-- no name stands twice
abbrev pub AreDifferent : List ℕ → Type 0
AreDifferent [] = Unit {0}
AreDifferent (name ∷ names) = (is_none_of name names ≡ true) × AreDifferent names

-- the scalars, the block arguments, and the values of the operations
abbrev pub names_of : Region → List ℕ
names_of r = r.captured ++ r.body.args ++ map (λ op. op.defines) r.body.ops

abbrev pub scalar_types : List Width → List ValueType
scalar_types widths = map (λ w. Scalar w) widths

-- By the widths of the scalars, of the inputs and of the output.
pub record IsRegion (r : Region) (scalars ins : List Width) (w : Width) : Type 0 where
  pub scalars_counted : length r.captured ≡ length scalars
  pub block_counted : length r.body.args ≡ length r.body.widths
  pub block : r.body.widths ≡ ins ++ w ∷ []
  pub width : r.body.width ≡ w
  pub ops : AreSoundOps (scalar_types (scalars ++ r.body.widths)) (first_names r.captured r.body) r.body.ops
  pub yields : is_typed_at
      (scalar_types (scalars ++ r.body.widths) ++ map (λ op. op.result) r.body.ops)
      (all_names r.captured r.body) (Scalar w) r.body.yields ≡ true
  pub different : AreDifferent (names_of r)

-- ---- as it is read

-- the width of the type that a name stands for among operands of these types, if it is there
abbrev pub width_among : ℕ → List ValueType → List ℕ → Option Width
width_among name [] operands = None
width_among name (t ∷ types) [] = None
width_among name (t ∷ types) (other ∷ operands) =
    if nat_eq other name then Some (width_of t) else width_among name types operands

-- the width at which operations and a yield of width `w` use a name first
abbrev pub width_used : ℕ → List BodyOp → Width → Width
width_used name [] w = w
width_used name (op ∷ ops) w =
    unwrap_or (width_among name (body_typing op.kind op.result) op.operands) (width_used name ops w)

-- the widths of the scalars of the function that a region uses
abbrev pub widths_used : Region → List Width
widths_used r = map (λ name. width_used name r.body.ops r.body.width) r.captured

-- an operation of a region is as a text can spell it
pub record IsSpelledOp (op : BodyOp) : Type 0 where
  pub counted : OperandsFit (written_in_body op.kind) op.operands
  pub result : ResultFits (written_in_body op.kind).result op.result
  pub held : list_all is_held (written_in_body op.kind).constants ≡ true

-- and so is each of the region that an operation has, if it has one
abbrev pub HasSpelledRegion : OpKind → Type 0
HasSpelledRegion kind =
    MatchOption (written_by kind).body ⊤ (λ body. AllByRecursion IsSpelledOp body.ops)
