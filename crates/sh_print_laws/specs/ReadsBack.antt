-- When printed pieces are read as a part, whatever their places and the numbers of values are.
use Rattle.std.specs.Prelude.{◌≡◌, ℕ, Bool, true, false, not, List, [], ◌∷◌, map, IsTrue}
use Rattle.std.specs.List.{list_all}
use Rattle.sh_alike.specs.Renamed.{renamed_op}
use Rattle.sh_build.specs.declared.parts.Part.{Part}
use Rattle.sh_build.specs.declared.parts.Part.TheVariants as part
use Rattle.sh_grammar.specs.Grammar.{Spells, Trees, tokens}
use Rattle.sh_grammar.specs.Language.{language}
use Rattle.sh_grammar.specs.Lexemes.{Lexeme}
use Rattle.sh_grammar.specs.declared.forms.Form.{Form}
use Rattle.sh_grammar.specs.declared.forms.Form.TheVariants.{Operation}
use Rattle.sh_grammar.specs.declared.symbols.Symbol.TheVariants as symbol
use Rattle.sh_ir.specs.Formed.{OperandsFit, ResultFits, is_spelled, is_spelled_type, types_in}
use Rattle.sh_ir.specs.Literals.{is_broken, is_held}
use Rattle.sh_ir.specs.Written.{Written, written_by}
use Rattle.sh_ir.specs.declared.arith_ops.Constant as constant
use Rattle.sh_ir.specs.declared.operations.Op.{Op}
use Rattle.sh_ir.specs.declared.operations.OpKind.{OpKind}
use Rattle.sh_ir.specs.declared.operations.OpKind.TheVariants.{Constant, Binary, Compare, Select, Cast, Empty, ExtractSlice, InsertSlice, CollapseShape, ExpandShape, Fill, Matmul, BatchMatmul, Matvec, Vecmat, Dot, Conv1d, Conv2d, Transpose, Broadcast, Reduce, Generic, Sharding, Shard, AllGather, AllSlice, AllReduce, ReduceScatter, AllToAll, Shift, UpdateHalo, Take, Pad, Join, Call, Return}
use Rattle.sh_ir.specs.declared.types.ValueType.{ValueType}
use Rattle.sh_parse.specs.Reads.{leaves, parts_of}
use Rattle.sh_print.specs.Layout.{Piece}
use Rattle.sh_print.specs.Values.{Scope, name_in, name_text}
use Rattle.sh_print_laws.specs.TokensOf.{AreTokensOf}

-- These tokens spell the form, by a tree that stands for this part where each name has the number
-- of its text.
pub record StandFor (ts : List Lexeme) (number : List ℕ → ℕ) (n : Form) (p : Part) : Type 0 where
  pub trees : Trees
  pub spells : Spells language (symbol.Part n ∷ []) trees
  pub takes : tokens trees ≡ ts
  pub stands : parts_of (leaves [] ts (map (λ t. number t.text) ts)) trees ≡ p ∷ []

-- the tokens of the pieces do, at any places
abbrev pub ReadBack : List Piece → (List ℕ → ℕ) → Form → Part → Type 0
ReadBack pieces number n p = (ts : List Lexeme) → AreTokensOf pieces ts → StandFor ts number n p

-- the part that a type is
abbrev pub type_part : ValueType → Part
type_part t = part.Type t

-- the renaming by which each name has the number of its text
abbrev pub by_names : (List ℕ → ℕ) → Scope → ℕ → ℕ
by_names number scope id = number (name_text (name_in scope id))

-- The tokens are read as an operation that is this one but for its place, with its names renamed.
pub record IsOperationRead (ts : List Lexeme) (number : List ℕ → ℕ) (scope : Scope) (op : Op)
    : Type 0 where
  pub read : Op
  pub stands : StandFor ts number Operation (part.Op read)
  pub same : renamed_op (λ id. id) read ≡ renamed_op (by_names number scope) op

-- an operation of a function that has no region, and isn't the return
abbrev pub is_simple : OpKind → Bool
is_simple (Constant x) = true
is_simple (Binary x) = true
is_simple (Compare x) = true
is_simple (Select x) = true
is_simple (Cast x) = true
is_simple Empty = true
is_simple (ExtractSlice x) = true
is_simple (InsertSlice x) = true
is_simple (CollapseShape x) = true
is_simple (ExpandShape x) = true
is_simple (Fill x) = true
is_simple (Matmul x) = true
is_simple (BatchMatmul x) = true
is_simple (Matvec x) = true
is_simple (Vecmat x) = true
is_simple (Dot x) = true
is_simple (Conv1d x) = true
is_simple (Conv2d x) = true
is_simple (Transpose x) = true
is_simple (Broadcast x) = true
is_simple (Reduce x) = false
is_simple (Generic x) = false
is_simple (Sharding x) = true
is_simple (Shard x) = true
is_simple (AllGather x) = true
is_simple (AllSlice x) = true
is_simple (AllReduce x) = true
is_simple (ReduceScatter x) = true
is_simple (AllToAll x) = true
is_simple (Shift x) = true
is_simple (UpdateHalo x) = true
is_simple (Take x) = true
is_simple (Pad x) = true
is_simple (Join x) = true
is_simple (Call x) = true
is_simple (Return x) = false

-- a literal fits its type
abbrev pub is_whole : constant.Constant → Bool
is_whole c = not (is_broken c.contents)

-- The operands, the type of the value and the rest of what an operation writes are such as a text can
-- write.
pub record AreWritten (x : Written) (xs : List ℕ) (t : ValueType) : Type 0 where
  pub operands : OperandsFit x xs
  pub numbers : IsTrue (list_all is_spelled x.numbers)
  pub types : IsTrue (list_all is_spelled_type (types_in x t))
  pub result : ResultFits x.result t
  pub held : IsTrue (list_all is_held x.constants)
  pub whole : IsTrue (list_all is_whole x.constants)

abbrev pub IsWritten : OpKind → List ℕ → ValueType → Type 0
IsWritten k xs t = AreWritten (written_by k) xs t
