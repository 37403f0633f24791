-- Operations that may stand in a region too.
use Rattle.std.proofs.Common.{◌≡◌, ℕ, false, List, [], ◌∷◌, ◌++◌, refl, ap, subst}
use Rattle.std.specs.Prelude.{IsTrue}
use Rattle.std.proofs.lemmas.List.{append-nil}
use Rattle.sh_base.specs.declared.numbers.Width.TheVariants.{I1, I8, I16, I32, I64}
use Rattle.sh_base.specs.declared.operations.BinOp.{BinOp}
use Rattle.sh_base.specs.declared.operations.BinOp.TheVariants.{Addi, Subi, Muli, Divui, Divsi, Remui, Remsi, Andi, Ori, Xori, Maxsi, Minsi, Maxui, Minui, Shli, Shrui, Shrsi}
use Rattle.sh_base.specs.declared.operations.CastOp.{CastOp}
use Rattle.sh_base.specs.declared.operations.CastOp.TheVariants.{Extsi, Extui, Trunci}
use Rattle.sh_base.specs.declared.operations.Predicate.{Predicate}
use Rattle.sh_base.specs.declared.operations.Predicate.TheVariants.{Eq, Ne, Slt, Sle, Sgt, Sge, Ult, Ule, Ugt, Uge}
use Rattle.sh_build.specs.Meaning.{arith, made}
use Rattle.sh_build.specs.declared.parts.Part.{Part}
use Rattle.sh_build.specs.declared.parts.Part.TheVariants as part
use Rattle.sh_grammar.specs.declared.forms.Form.{Form}
use Rattle.sh_grammar.specs.declared.forms.Form.TheVariants as forms
use Rattle.sh_grammar.specs.declared.symbols.Symbol.{Symbol}
use Rattle.sh_grammar.specs.declared.symbols.Symbol.TheVariants as symbol
use Rattle.sh_ir.specs.Formed.{is_spelled_type}
use Rattle.sh_ir.specs.Written.{test_type}
use Rattle.sh_ir.specs.declared.arith_ops.Cast.{Cast}
use Rattle.sh_ir.specs.declared.arith_ops.Compare.{Compare}
use Rattle.sh_ir.specs.declared.bodies.BodyKind.TheVariants as body_kind
use Rattle.sh_ir.specs.declared.types.ValueType.{ValueType}
use Rattle.sh_ir.specs.declared.types.ValueType.TheVariants as type
use Rattle.sh_lex.specs.declared.tokens.TokenKind.TheVariants as kind
use Rattle.sh_grammar.specs.Lexemes.{Lexeme}
use Rattle.sh_print.specs.Layout.{Piece}
use Rattle.sh_print.specs.Layout.Piece.{token as piece_token}
use Rattle.sh_print.specs.Spellings.{sign, type_pieces}
use Rattle.sh_print.specs.Tokens.{binary_pieces, cast_pieces, compare_pieces, condition_pieces, is_truth, of_type, pair, select_pieces, types_of_select}
use Rattle.sh_print.specs.Words.{binary_word, cast_word, predicate_word}
use Rattle.sh_print.specs.declared.names.Name.{Name}
use Rattle.sh_print_laws.proofs.Keywords as keyword
use Rattle.sh_print_laws.proofs.PlainForms.{type_spelled}
use Rattle.sh_print_laws.proofs.Walks.{State}
use Rattle.sh_print_laws.proofs.Rows.{Gives, Naming, Row, by_row, end_row, last_is, row_by, then_in_2, then_is, then_token, then_value}
use Rattle.sh_print_laws.proofs.ValueForms.{id_of}

module _ {numbered : State → Lexeme → ℕ} (N : Naming numbered) where
  -- a form that is the last with tokens
  pub then_empty : {n : Form} {v : Part} {α : List Symbol} {ps : List Piece} {V : List Part → Type 0}
      → Gives N n ps v → Row N α [] (λ row. V (v ∷ row)) → Row N (symbol.Part n ∷ α) ps V
  then_empty {n = n} {α = α} {ps = ps} {V = V} f rest = subst (λ qs. Row N (symbol.Part n ∷ α) qs V) (append-nil ps) (then_is N f rest)

  -- ## Binary operations

  binary_name : (op : BinOp) → Gives N forms.BinaryName (piece_token kind.Word (binary_word op) ∷ []) (part.BinOp op)
  unfolding made
  binary_name Addi = by_row N 0 refl refl (then_token N keyword.the-arith_addi (λ p i. end_row N refl))
  binary_name Subi = by_row N 1 refl refl (then_token N keyword.the-arith_subi (λ p i. end_row N refl))
  binary_name Muli = by_row N 2 refl refl (then_token N keyword.the-arith_muli (λ p i. end_row N refl))
  binary_name Andi = by_row N 3 refl refl (then_token N keyword.the-arith_andi (λ p i. end_row N refl))
  binary_name Ori = by_row N 4 refl refl (then_token N keyword.the-arith_ori (λ p i. end_row N refl))
  binary_name Xori = by_row N 5 refl refl (then_token N keyword.the-arith_xori (λ p i. end_row N refl))
  binary_name Maxsi = by_row N 6 refl refl (then_token N keyword.the-arith_maxsi (λ p i. end_row N refl))
  binary_name Minsi = by_row N 7 refl refl (then_token N keyword.the-arith_minsi (λ p i. end_row N refl))
  binary_name Maxui = by_row N 8 refl refl (then_token N keyword.the-arith_maxui (λ p i. end_row N refl))
  binary_name Minui = by_row N 9 refl refl (then_token N keyword.the-arith_minui (λ p i. end_row N refl))
  binary_name Divui = by_row N 10 refl refl (then_token N keyword.the-arith_divui (λ p i. end_row N refl))
  binary_name Remui = by_row N 11 refl refl (then_token N keyword.the-arith_remui (λ p i. end_row N refl))
  binary_name Divsi = by_row N 12 refl refl (then_token N keyword.the-arith_divsi (λ p i. end_row N refl))
  binary_name Remsi = by_row N 13 refl refl (then_token N keyword.the-arith_remsi (λ p i. end_row N refl))
  binary_name Shli = by_row N 14 refl refl (then_token N keyword.the-arith_shli (λ p i. end_row N refl))
  binary_name Shrui = by_row N 15 refl refl (then_token N keyword.the-arith_shrui (λ p i. end_row N refl))
  binary_name Shrsi = by_row N 16 refl refl (then_token N keyword.the-arith_shrsi (λ p i. end_row N refl))

  pub binary_spelled : (op : BinOp) (a b : Name) (t : ValueType) → IsTrue (is_spelled_type t)
      → Gives N forms.Arith (binary_pieces op a b t) (arith (body_kind.Binary op) (id_of N a ∷ id_of N b ∷ []) t)
  unfolding made binary_pieces pair of_type
  binary_spelled op a b t h = by_row N 1 refl refl (last_is N (by_row N {n = forms.Binary} {P = λ p. p ≡ arith (body_kind.Binary op) (id_of N a ∷ id_of N b ∷ []) t} 0 refl refl (
      then_is N {ps = piece_token kind.Word (binary_word op) ∷ []} (binary_name op) (then_value N (λ p.
      then_token N keyword.the-comma (λ p i. then_value N (λ p. then_token N keyword.the-colon (λ p i. last_is N (type_spelled N t h) refl))))))) refl)

  -- ## Comparisons

  predicate_name : (x : Predicate) → Gives N forms.Predicate (piece_token kind.Word (predicate_word x) ∷ []) (part.Predicate x)
  unfolding made
  predicate_name Eq = by_row N 0 refl refl (then_token N keyword.the-eq (λ p i. end_row N refl))
  predicate_name Ne = by_row N 1 refl refl (then_token N keyword.the-ne (λ p i. end_row N refl))
  predicate_name Slt = by_row N 2 refl refl (then_token N keyword.the-slt (λ p i. end_row N refl))
  predicate_name Sle = by_row N 3 refl refl (then_token N keyword.the-sle (λ p i. end_row N refl))
  predicate_name Sgt = by_row N 4 refl refl (then_token N keyword.the-sgt (λ p i. end_row N refl))
  predicate_name Sge = by_row N 5 refl refl (then_token N keyword.the-sge (λ p i. end_row N refl))
  predicate_name Ult = by_row N 6 refl refl (then_token N keyword.the-ult (λ p i. end_row N refl))
  predicate_name Ule = by_row N 7 refl refl (then_token N keyword.the-ule (λ p i. end_row N refl))
  predicate_name Ugt = by_row N 8 refl refl (then_token N keyword.the-ugt (λ p i. end_row N refl))
  predicate_name Uge = by_row N 9 refl refl (then_token N keyword.the-uge (λ p i. end_row N refl))

  pub compare_spelled : (x : Compare) (a b : Name) → IsTrue (is_spelled_type x.operand_type)
      → Gives N forms.Arith (compare_pieces x a b) (arith (body_kind.Compare x) (id_of N a ∷ id_of N b ∷ []) (test_type x.operand_type))
  unfolding made compare_pieces pair of_type
  compare_spelled x a b h = by_row N 2 refl refl (last_is N (by_row N {n = forms.Compare} {P = λ p. p ≡ arith (body_kind.Compare x) (id_of N a ∷ id_of N b ∷ []) (test_type x.operand_type)} 0 refl refl (
      then_token N keyword.the-arith_cmpi (λ p i. then_is N {ps = piece_token kind.Word (predicate_word x.predicate) ∷ []} (predicate_name x.predicate) (
      then_token N keyword.the-comma (λ p i. then_value N (λ p. then_token N keyword.the-comma (λ p i. then_value N (λ p.
      then_token N keyword.the-colon (λ p i. last_is N (type_spelled N x.operand_type h) refl))))))))) refl)

  -- ## Choices

  abbrev selected : ValueType → Name → Name → Name → ValueType → Part
  selected condition c a b t =
      arith (body_kind.Select (record { condition_type = condition })) (id_of N c ∷ id_of N a ∷ id_of N b ∷ []) t

  one_type : (c a b : Name) (t : ValueType) → IsTrue (is_spelled_type t)
      → Gives N forms.Select (select_pieces (type.Scalar I1) c a b t) (selected (type.Scalar I1) c a b t)
  unfolding made select_pieces pair types_of_select condition_pieces
  one_type c a b t h = by_row N 0 refl refl (then_token N keyword.the-arith_select (λ p i. then_value N (λ p.
      then_token N keyword.the-comma (λ p i. then_value N (λ p. then_token N keyword.the-comma (λ p i. then_value N (λ p.
      then_token N keyword.the-colon (λ p i. then_empty (type_spelled N t h) (last_is N (by_row N {n = forms.SelectTypes} {P = λ q. q ≡ part.Types []} 0 refl refl (end_row N refl)) refl)))))))))

  condition_written : (condition : ValueType) → is_truth condition ≡ false → type_pieces condition ++ sign "," ∷ [] ≡ condition_pieces condition
  unfolding condition_pieces
  condition_written condition other = rw other refl

  two_types : (condition : ValueType) (c a b : Name) (t : ValueType) → is_truth condition ≡ false → IsTrue (is_spelled_type condition) → IsTrue (is_spelled_type t)
      → Gives N forms.Select (select_pieces condition c a b t) (selected condition c a b t)
  unfolding made select_pieces pair types_of_select
  two_types condition c a b t other k h = by_row N 0 refl refl (then_token N keyword.the-arith_select (λ p i. then_value N (λ p.
      then_token N keyword.the-comma (λ p i. then_value N (λ p. then_token N keyword.the-comma (λ p i. then_value N (λ p.
      then_token N keyword.the-colon (λ p i. row_by N (ap (λ front. front ++ type_pieces t) (condition_written condition other)) (then_in_2 N (type_spelled N condition k) _ _ (
      last_is N (by_row N {n = forms.SelectTypes} {P = λ q. q ≡ part.Types (t ∷ [])} 1 refl refl (then_token N keyword.the-comma (λ p i. last_is N (type_spelled N t h) refl))) refl))))))))))

  choice : (condition : ValueType) (c a b : Name) (t : ValueType) → IsTrue (is_spelled_type condition) → IsTrue (is_spelled_type t)
      → Gives N forms.Select (select_pieces condition c a b t) (selected condition c a b t)
  choice (type.Scalar I1) c a b t k h = one_type c a b t h
  choice (type.Scalar I8) c a b t k h = two_types (type.Scalar I8) c a b t refl k h
  choice (type.Scalar I16) c a b t k h = two_types (type.Scalar I16) c a b t refl k h
  choice (type.Scalar I32) c a b t k h = two_types (type.Scalar I32) c a b t refl k h
  choice (type.Scalar I64) c a b t k h = two_types (type.Scalar I64) c a b t refl k h
  choice (type.Tensor x) c a b t k h = two_types (type.Tensor x) c a b t refl k h
  choice type.Nothing c a b t k h = two_types type.Nothing c a b t refl k h
  choice type.Sharding c a b t k h = two_types type.Sharding c a b t refl k h
  choice type.Index c a b t k h = two_types type.Index c a b t refl k h

  pub select_spelled : (condition : ValueType) (c a b : Name) (t : ValueType) → IsTrue (is_spelled_type condition) → IsTrue (is_spelled_type t)
      → Gives N forms.Arith (select_pieces condition c a b t) (selected condition c a b t)
  unfolding made
  select_spelled condition c a b t k h = by_row N 3 refl refl (last_is N (choice condition c a b t k h) refl)

  -- ## Casts

  cast_name : (op : CastOp) → Gives N forms.CastName (piece_token kind.Word (cast_word op) ∷ []) (part.CastOp op)
  unfolding made
  cast_name Extsi = by_row N 0 refl refl (then_token N keyword.the-arith_extsi (λ p i. end_row N refl))
  cast_name Extui = by_row N 1 refl refl (then_token N keyword.the-arith_extui (λ p i. end_row N refl))
  cast_name Trunci = by_row N 2 refl refl (then_token N keyword.the-arith_trunci (λ p i. end_row N refl))

  pub cast_spelled : (x : Cast) (a : Name) (t : ValueType) → IsTrue (is_spelled_type x.operand_type) → IsTrue (is_spelled_type t)
      → Gives N forms.Arith (cast_pieces x a t) (arith (body_kind.Cast x) (id_of N a ∷ []) t)
  unfolding made cast_pieces of_type
  cast_spelled x a t k h = by_row N 4 refl refl (last_is N (by_row N {n = forms.Cast} {P = λ p. p ≡ arith (body_kind.Cast x) (id_of N a ∷ []) t} 0 refl refl (
      then_is N {ps = piece_token kind.Word (cast_word x.op) ∷ []} (cast_name x.op) (then_value N (λ p. then_token N keyword.the-colon (λ p i.
      then_is N (type_spelled N x.operand_type k) (then_token N keyword.the-to (λ p i. last_is N (type_spelled N t h) refl))))))) refl)
