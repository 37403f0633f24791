-- The operations of a region, and the region.
use Rattle.std.proofs.Common.{◌≡◌, ◌^◌, ℕ, true, false, List, [], ◌∷◌, map, refl, sym, subst}
use Rattle.std.specs.Prelude.{pos}
use Rattle.std.proofs.lemmas.Bool.{ltb-true}
use Rattle.sh_build.specs.Meaning.{arith, made}
use Rattle.sh_grammar.specs.declared.forms.Form.{Form}
use Rattle.sh_grammar.specs.declared.forms.Form.TheVariants as forms
use Rattle.sh_grammar.specs.Lexemes.{Lexeme}
use Rattle.sh_ir.specs.Formed.{is_on_index, is_scalar, is_spelled, is_spelled_type}
use Rattle.sh_ir.specs.Literals.{is_held}
use Rattle.sh_ir.specs.Written.{written_in_body}
use Rattle.sh_ir.specs.declared.bodies.BodyKind.{BodyKind}
use Rattle.sh_ir.specs.declared.bodies.BodyKind.TheVariants as body_kind
use Rattle.sh_ir.specs.declared.types.ValueType.{ValueType}
use Rattle.sh_ir.specs.declared.types.ValueType.TheVariants as type
use Rattle.sh_print.specs.Layout.{Piece}
use Rattle.sh_print.specs.Spellings.{type_pieces, width}
use Rattle.sh_print.specs.Tokens.{body_kind_pieces, index_cast_pieces, index_pieces, inner}
use Rattle.sh_print.specs.Values.{Scope, name_inside, name_text}
use Rattle.sh_print_laws.specs.ReadsBack.{AreWritten, is_whole}
use Rattle.sh_print_laws.proofs.ArithForms.{binary_spelled, cast_spelled, compare_spelled, select_spelled}
use Rattle.sh_print_laws.proofs.DenseForms.{literal_spelled, not_broken}
use Rattle.sh_print_laws.proofs.Keywords as keyword
use Rattle.sh_print_laws.proofs.KindForms.{first, none_of, one_of, second, three_of, two_of}
use Rattle.sh_print_laws.proofs.PlainForms.{then_number, width_spelled}
use Rattle.sh_print_laws.proofs.Rows.{Gives, Naming, by_row, end_row, last_is, then_token, then_value}
use Rattle.sh_print_laws.proofs.Walks.{State}

-- ## What an operation of a region is

module _ {numbered : State → Lexeme → ℕ} (N : Naming numbered) (own outer : Scope) where
  -- the numbers of names in the region
  abbrev pub inner_ids : List ℕ → List ℕ
  inner_ids ids = map (λ id. N.number (name_text (name_inside own outer id))) ids

  given : {n : Form} {ps : List Piece} (k : BodyKind) (xs ys : List ℕ) (t : ValueType) → xs ≡ ys → Gives N n ps (arith k (inner_ids ys) t)
      → Gives N n ps (arith k (inner_ids xs) t)
  given {n = n} {ps = ps} k xs ys t same f = subst (λ zs. Gives N n ps (arith k (inner_ids zs) t)) (sym same) f

  typed : {n : Form} {ps : List Piece} (k : BodyKind) (ids : List ℕ) (t its : ValueType) → t ≡ its → Gives N n ps (arith k ids its)
      → Gives N n ps (arith k ids t)
  typed {n = n} {ps = ps} k ids t its same f = subst (λ u. Gives N n ps (arith k ids u)) (sym same) f

  pub arith_spelled : (k : BodyKind) (xs : List ℕ) (t : ValueType) → is_on_index k ≡ false → AreWritten (written_in_body k) xs t
      → Gives N forms.Arith (body_kind_pieces k own outer xs t) (arith k (inner_ids xs) t)
  unfolding body_kind_pieces
  arith_spelled (body_kind.Constant x) xs t other w = typed (body_kind.Constant x) (inner_ids xs) t _ w.result (given (body_kind.Constant x) xs [] _ (none_of xs w.operands)
      (literal_spelled N x (first is_held x [] w.held) (not_broken x (first is_whole x [] w.whole)) (first is_spelled_type x.value_type [] w.types)))
  arith_spelled (body_kind.Binary x) xs t other w = given (body_kind.Binary x) xs _ t (two_of xs w.operands)
      (binary_spelled N x (inner own outer xs 0) (inner own outer xs 1) t (first is_spelled_type t [] w.types))
  arith_spelled (body_kind.Compare x) xs t other w = typed (body_kind.Compare x) (inner_ids xs) t _ w.result (given (body_kind.Compare x) xs _ _ (two_of xs w.operands)
      (compare_spelled N x (inner own outer xs 0) (inner own outer xs 1) (first is_spelled_type x.operand_type [] w.types)))
  arith_spelled (body_kind.Select x) xs t other w = given (body_kind.Select x) xs _ t (three_of xs w.operands)
      (select_spelled N x.condition_type (inner own outer xs 0) (inner own outer xs 1) (inner own outer xs 2) t
      (first is_spelled_type x.condition_type (t ∷ []) w.types) (second is_spelled_type x.condition_type t [] w.types))
  arith_spelled (body_kind.Cast x) xs t other w = given (body_kind.Cast x) xs _ t (one_of xs w.operands)
      (cast_spelled N x (inner own outer xs 0) t (first is_spelled_type x.operand_type (t ∷ []) w.types) (second is_spelled_type x.operand_type t [] w.types))
  arith_spelled (body_kind.Index x) xs t other w = absurd (let e : true ≡ false = other in cc)
  arith_spelled body_kind.IndexCast xs t other w = absurd (let e : true ≡ false = other in cc)

  a_cast : (xs : List ℕ) (t : ValueType) → is_scalar t ≡ true → Gives N forms.IndexCast (index_cast_pieces (inner own outer xs 0) t)
      (arith body_kind.IndexCast (N.number (name_text (inner own outer xs 0)) ∷ []) t)
  unfolding made index_cast_pieces type_pieces
  a_cast xs (type.Scalar w) h = by_row N 0 refl refl (then_token N keyword.the-arith_index_cast (λ p i. then_value N (λ p. then_token N keyword.the-colon (λ p i.
      then_token N keyword.the-index (λ p i. then_token N keyword.the-to (λ p i. last_is N {ps = width w ∷ []} (width_spelled N w) refl))))))
  a_cast xs (type.Tensor t) h = absurd (let e : false ≡ true = h in cc)
  a_cast xs type.Nothing h = absurd (let e : false ≡ true = h in cc)
  a_cast xs type.Sharding h = absurd (let e : false ≡ true = h in cc)
  a_cast xs type.Index h = absurd (let e : false ≡ true = h in cc)

  pub generic_spelled : (k : BodyKind) (xs : List ℕ) (t : ValueType) → AreWritten (written_in_body k) xs t
      → Gives N forms.GenericRightSide (body_kind_pieces k own outer xs t) (arith k (inner_ids xs) t)
  unfolding made body_kind_pieces index_pieces
  generic_spelled (body_kind.Constant x) xs t w = by_row N 0 refl refl (last_is N (arith_spelled (body_kind.Constant x) xs t refl w) refl)
  generic_spelled (body_kind.Binary x) xs t w = by_row N 0 refl refl (last_is N (arith_spelled (body_kind.Binary x) xs t refl w) refl)
  generic_spelled (body_kind.Compare x) xs t w = by_row N 0 refl refl (last_is N (arith_spelled (body_kind.Compare x) xs t refl w) refl)
  generic_spelled (body_kind.Select x) xs t w = by_row N 0 refl refl (last_is N (arith_spelled (body_kind.Select x) xs t refl w) refl)
  generic_spelled (body_kind.Cast x) xs t w = by_row N 0 refl refl (last_is N (arith_spelled (body_kind.Cast x) xs t refl w) refl)
  generic_spelled (body_kind.Index x) xs t w = typed (body_kind.Index x) (inner_ids xs) t _ w.result (given (body_kind.Index x) xs [] _ (none_of xs w.operands)
      (by_row N 1 refl refl (last_is N (by_row N {n = forms.LoopIndex} {P = λ p. p ≡ arith (body_kind.Index x) [] type.Index} 0 refl refl (then_token N keyword.the-linalg_index (λ p i.
      then_number N (ltb-true x.dimension (2 ^ 64) (first is_spelled (pos x.dimension) [] w.numbers)) (then_token N keyword.the-colon (λ p i. then_token N keyword.the-index (λ p i. end_row N refl)))))) refl)))
  generic_spelled body_kind.IndexCast xs t w = given body_kind.IndexCast xs _ t (one_of xs w.operands)
      (by_row N 2 refl refl (last_is N (a_cast xs t w.result) refl))
