-- Structured operations without a region.
use Rattle.std.proofs.Common.{◌≡◌, ◌∙◌, ◌+◌, ℕ, List, [], ◌∷◌, ◌++◌, length, refl, ap, codes}
use Rattle.std.specs.Prelude.{IsTrue}
use Rattle.std.specs.List.{list_all}
use Rattle.sh_build.specs.Meaning as meaning
use Rattle.sh_build.specs.Meaning.{made, operands_of, side}
use Rattle.sh_build.specs.declared.parts.Part.TheVariants as part
use Rattle.sh_grammar.specs.declared.forms.Form.TheVariants as forms
use Rattle.sh_ir.specs.Formed.{is_spelled, is_spelled_type}
use Rattle.sh_ir.specs.Written.{first_type}
use Rattle.sh_ir.specs.declared.linalg_ops.InsOuts.{InsOuts}
use Rattle.sh_ir.specs.declared.operations.OpKind.{OpKind}
use Rattle.sh_ir.specs.declared.operations.OpKind.TheVariants as op_kind
use Rattle.sh_ir.specs.declared.types.ValueType.{ValueType}
use Rattle.sh_lex.specs.declared.tokens.TokenKind.TheVariants as kind
use Rattle.sh_grammar.specs.Lexemes.{Lexeme}
use Rattle.sh_print.specs.Layout.Piece.{token as piece_token}
use Rattle.sh_print.specs.Values.{Scope, name_in}
use Rattle.sh_print_laws.proofs.Keywords as keyword
use Rattle.sh_print_laws.proofs.PlainForms.{nums_spelled, type_spelled}
use Rattle.sh_print_laws.proofs.Walks.{State}
use Rattle.sh_print_laws.proofs.Rows.{Gives, Naming, by_row, end_row, last_is, then_in_2, then_is, then_token}
use Rattle.sh_print_laws.proofs.Tests.{all_parts}
use Rattle.sh_print_laws.proofs.ValueForms.{all_values, id_of, ids_in, ins_outs_same, ins_spelled, outs_spelled}
use Rattle.sh_build.specs.declared.parts.StructuredName as declared_name
use Rattle.sh_build.specs.declared.parts.StructuredName.TheVariants as structured
use Rattle.sh_ir.specs.declared.linalg_ops.Broadcast.{Broadcast}
use Rattle.sh_ir.specs.declared.linalg_ops.Transpose.{Transpose}
use Rattle.sh_print.specs.Tokens.{along_pieces, attribute, ins_outs, ins_values, numbers_pieces, outs_values, structured_pieces, to_type}

abbrev pub structured_word : declared_name.StructuredName → List ℕ
structured_word structured.Fill = codes "linalg.fill"
structured_word structured.Matmul = codes "linalg.matmul"
structured_word structured.BatchMatmul = codes "linalg.batch_matmul"
structured_word structured.Matvec = codes "linalg.matvec"
structured_word structured.Vecmat = codes "linalg.vecmat"
structured_word structured.Dot = codes "linalg.dot"
structured_word structured.Conv1d = codes "linalg.conv_1d"
structured_word structured.Conv2d = codes "linalg.conv_2d"

-- what `ins` and `outs` write has as many values as the operation has operands
abbrev pub IsCounted : InsOuts → List ℕ → Type 0
IsCounted x operands = length operands ≡ x.ins_count + x.outs_count

-- the types that `ins` and `outs` write
abbrev pub AreSpelled : InsOuts → Type 0
AreSpelled x = IsTrue (list_all is_spelled_type (x.ins_types ++ x.outs_types))

module _ {numbered : State → Lexeme → ℕ} (N : Naming numbered) where
  structured_name : (n : declared_name.StructuredName) → Gives N forms.StructuredName (piece_token kind.Word (structured_word n) ∷ []) (part.Structured n)
  unfolding made
  structured_name structured.Fill = by_row N 0 refl refl (then_token N keyword.the-linalg_fill (λ p i. end_row N refl))
  structured_name structured.Matmul = by_row N 1 refl refl (then_token N keyword.the-linalg_matmul (λ p i. end_row N refl))
  structured_name structured.BatchMatmul = by_row N 2 refl refl (then_token N keyword.the-linalg_batch_matmul (λ p i. end_row N refl))
  structured_name structured.Matvec = by_row N 3 refl refl (then_token N keyword.the-linalg_matvec (λ p i. end_row N refl))
  structured_name structured.Vecmat = by_row N 4 refl refl (then_token N keyword.the-linalg_vecmat (λ p i. end_row N refl))
  structured_name structured.Dot = by_row N 5 refl refl (then_token N keyword.the-linalg_dot (λ p i. end_row N refl))
  structured_name structured.Conv1d = by_row N 6 refl refl (then_token N keyword.the-linalg_conv_1d (λ p i. end_row N refl))
  structured_name structured.Conv2d = by_row N 7 refl refl (then_token N keyword.the-linalg_conv_2d (λ p i. end_row N refl))

  -- the operands and what `ins` and `outs` write are those of the operation
  sides_same : (kind : InsOuts → OpKind) (scope : Scope) (x : InsOuts) (operands : List ℕ) (t : ValueType) → IsCounted x operands
      → meaning.structured_side kind (record { values = ids_in N scope (ins_values x operands); types = x.ins_types })
      (record { values = ids_in N scope (outs_values x operands); types = x.outs_types }) [] t
      ≡ side (kind x) (ids_in N scope operands) t
  sides_same kind scope x operands t h =
      ap (λ y. side (kind y) (ids_in N scope (ins_values x operands) ++ ids_in N scope (outs_values x operands) ++ []) t)
      (ins_outs_same (λ id. id_of N (name_in scope id)) x operands h)
      ∙ ap (λ ids. side (kind x) ids t) (all_values (λ id. id_of N (name_in scope id)) x.ins_count x.outs_count operands h)

  structured_form : (n : declared_name.StructuredName) (scope : Scope) (x : InsOuts) (operands : List ℕ) (t : ValueType)
      → IsCounted x operands → AreSpelled x → IsTrue (is_spelled_type t)
      → Gives N forms.Structured (structured_pieces (structured_word n) scope x operands t) (side (meaning.structured_kind n x) (ids_in N scope operands) t)
  unfolding made structured_pieces ins_outs to_type
  structured_form n scope x operands t count spelled h = let both = all_parts is_spelled_type x.ins_types x.outs_types spelled in
      by_row N 0 refl refl (then_is N {ps = piece_token kind.Word (structured_word n) ∷ []} (structured_name n) (
      then_in_2 N (ins_spelled N scope x operands both.0) _ _ (then_is N (outs_spelled N scope x operands both.1) (
      then_token N keyword.the-arrow (λ p i. last_is N (type_spelled N t h) (sides_same (meaning.structured_kind n) scope x operands t count))))))

  pub structured_spelled : (n : declared_name.StructuredName) (scope : Scope) (x : InsOuts) (operands : List ℕ) (t : ValueType)
      → IsCounted x operands → AreSpelled x → IsTrue (is_spelled_type t)
      → Gives N forms.RightSide (structured_pieces (structured_word n) scope x operands t) (side (meaning.structured_kind n x) (ids_in N scope operands) t)
  unfolding made
  structured_spelled n scope x operands t count spelled h = by_row N 6 refl refl (last_is N (structured_form n scope x operands t count spelled h) refl)

  transpose_form : (scope : Scope) (x : Transpose) (operands : List ℕ) → IsCounted x.ins_outs operands → AreSpelled x.ins_outs → IsTrue (list_all is_spelled x.permutation)
      → Gives N forms.Transpose (along_pieces (codes "linalg.transpose") scope x.ins_outs operands (codes "permutation") x.permutation)
      (side (op_kind.Transpose x) (ids_in N scope operands) (first_type x.ins_outs.outs_types))
  unfolding made along_pieces ins_outs numbers_pieces attribute
  transpose_form scope x operands count spelled h = let both = all_parts is_spelled_type x.ins_outs.ins_types x.ins_outs.outs_types spelled in
      by_row N 0 refl refl (then_token N keyword.the-linalg_transpose (λ p i.
      then_in_2 N (ins_spelled N scope x.ins_outs operands both.0) _ _ (then_is N (outs_spelled N scope x.ins_outs operands both.1) (
      then_token N keyword.the-permutation (λ p i. then_token N keyword.the-equals (λ p i. last_is N (nums_spelled N x.permutation h)
      (sides_same (λ y. op_kind.Transpose (record { ins_outs = y; permutation = x.permutation })) scope x.ins_outs operands (first_type x.ins_outs.outs_types) count)))))))

  pub transpose_spelled : (scope : Scope) (x : Transpose) (operands : List ℕ) → IsCounted x.ins_outs operands → AreSpelled x.ins_outs → IsTrue (list_all is_spelled x.permutation)
      → Gives N forms.RightSide (along_pieces (codes "linalg.transpose") scope x.ins_outs operands (codes "permutation") x.permutation)
      (side (op_kind.Transpose x) (ids_in N scope operands) (first_type x.ins_outs.outs_types))
  unfolding made
  transpose_spelled scope x operands count spelled h = by_row N 7 refl refl (last_is N (transpose_form scope x operands count spelled h) refl)

  broadcast_form : (scope : Scope) (x : Broadcast) (operands : List ℕ) → IsCounted x.ins_outs operands → AreSpelled x.ins_outs → IsTrue (list_all is_spelled x.dimensions)
      → Gives N forms.Broadcast (along_pieces (codes "linalg.broadcast") scope x.ins_outs operands (codes "dimensions") x.dimensions)
      (side (op_kind.Broadcast x) (ids_in N scope operands) (first_type x.ins_outs.outs_types))
  unfolding made along_pieces ins_outs numbers_pieces attribute
  broadcast_form scope x operands count spelled h = let both = all_parts is_spelled_type x.ins_outs.ins_types x.ins_outs.outs_types spelled in
      by_row N 0 refl refl (then_token N keyword.the-linalg_broadcast (λ p i.
      then_in_2 N (ins_spelled N scope x.ins_outs operands both.0) _ _ (then_is N (outs_spelled N scope x.ins_outs operands both.1) (
      then_token N keyword.the-dimensions (λ p i. then_token N keyword.the-equals (λ p i. last_is N (nums_spelled N x.dimensions h)
      (sides_same (λ y. op_kind.Broadcast (record { ins_outs = y; dimensions = x.dimensions })) scope x.ins_outs operands (first_type x.ins_outs.outs_types) count)))))))

  pub broadcast_spelled : (scope : Scope) (x : Broadcast) (operands : List ℕ) → IsCounted x.ins_outs operands → AreSpelled x.ins_outs → IsTrue (list_all is_spelled x.dimensions)
      → Gives N forms.RightSide (along_pieces (codes "linalg.broadcast") scope x.ins_outs operands (codes "dimensions") x.dimensions)
      (side (op_kind.Broadcast x) (ids_in N scope operands) (first_type x.ins_outs.outs_types))
  unfolding made
  broadcast_spelled scope x operands count spelled h = by_row N 8 refl refl (last_is N (broadcast_form scope x operands count spelled h) refl)
