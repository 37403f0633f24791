-- Dense literals and constants.
use Rattle.std.proofs.Common.{◌≡◌, ◌∙◌, ◌<◌, ◌*◌, ◌^◌, ℕ, zero, suc, Bool, true, false, not, ◌&&◌, ◌||◌, nat_eq, List, [], ◌∷◌, ◌++◌, map, length, reverse, Option, Some, None, refl, ap, sym, subst, arith, if◌then◌else◌, ltb-true}
use Rattle.std.specs.List.{list_all, list_any}
use Rattle.std.specs.Option.{option_map_or}
use Rattle.std.proofs.lemmas.Bool.{eqb-true, eq-eqb, or_parts, or_right}
use Rattle.sh_base.specs.Cells.{bits_of}
use Rattle.sh_base.specs.declared.numbers.Cell.{Cell}
use Rattle.sh_base.specs.declared.numbers.Cell.TheVariants.{Undef, Val}
use Rattle.sh_base.specs.declared.numbers.Width.{Width}
use Rattle.sh_base.specs.declared.numbers.Width.TheVariants.{I1, I8, I16, I32, I64}
use Rattle.sh_build.specs.Meaning as meaning
use Rattle.sh_build.specs.Meaning.{constant_side, made}
use Rattle.sh_build.specs.declared.parts.Part.TheVariants as part
use Rattle.sh_grammar.specs.Lexemes.{Lexeme}
use Rattle.sh_grammar.specs.declared.forms.Form.TheVariants as forms
use Rattle.sh_ir.specs.Formed.{is_spelled, is_spelled_type}
use Rattle.sh_ir.specs.Literals.{are_equal, are_held, are_short, fills, is_broken, is_held, is_literal_cell, is_zero, known_count}
use Rattle.sh_ir.specs.Shapes.{extent_of}
use Rattle.sh_ir.specs.declared.bodies.BodyKind.TheVariants as body_kind
use Rattle.sh_ir.specs.declared.types.Dim.{Dim}
use Rattle.sh_ir.specs.declared.types.Dim.TheVariants.{Known, Differs}
use Rattle.sh_ir.specs.declared.types.TensorType.{TensorType}
use Rattle.sh_ir.specs.declared.types.ValueType.{ValueType}
use Rattle.sh_ir.specs.declared.types.ValueType.TheVariants as type
use Rattle.sh_ir.specs.declared.arith_ops.Constant as constant
use Rattle.sh_ir.specs.declared.arith_ops.Contents.{Contents}
use Rattle.sh_ir.specs.declared.arith_ops.Contents.TheVariants.{Held, Broken}
use Rattle.sh_literals.specs.LiteralCells.{are_extents, cell_of, cells_of, fills_or_fits, held, tensor_contents}
use Rattle.sh_literals.specs.declared.literals.Element.TheVariants.{Number}
use Rattle.sh_literals.specs.declared.literals.Literal.{Literal}
use Rattle.sh_literals.specs.declared.literals.Literal.TheVariants.{Empty}
use Rattle.sh_print.specs.Spellings.{cell_pieces, cells_pieces, dense, dense_pieces, num, number_pieces, sign, signed_value, type_pieces, width}
use Rattle.sh_print.specs.Tokens.{constant_pieces, literal_pieces, of_type, scalar_pieces}
use Rattle.sh_print_laws.specs.ReadsBack.{is_whole}
use Rattle.sh_print_laws.proofs.ConstantForms.{cells_back, element_of, list_literal, nested_spelled, number_back, number_element, signed_spelled}
use Rattle.sh_print_laws.proofs.Keywords as keyword
use Rattle.sh_print_laws.proofs.NestedCells.{ArePositive, cells_nested, size_of}
use Rattle.sh_print_laws.proofs.PlainForms.{num_spelled, type_spelled, width_spelled}
use Rattle.sh_print_laws.proofs.Rows.{Gives, Naming, by_row, end_row, last_is, then_is, then_token}
use Rattle.sh_print_laws.proofs.Tests.{and_parts}
use Rattle.sh_print_laws.proofs.Walks.{State}

-- ## The literal of a tensor's cells

abbrev pub literal_for : Width → List ℕ → List Cell → Literal
literal_for w ns [] = Empty
literal_for w ns (c ∷ []) = list_literal w [] (c ∷ [])
literal_for w ns (c ∷ d ∷ cells) = list_literal w ns (c ∷ d ∷ cells)

-- What is known of the extents where their product is.
record AreCounted (dims : List Dim) (count : ℕ) : Type 0 where
  pub size : size_of (map extent_of dims) ≡ count
  pub positive : ArePositive (map extent_of dims)
  pub fit : are_extents dims (map extent_of dims) ≡ true

not_zero : (n : ℕ) → nat_eq n 0 ≡ false → 0 < n
not_zero zero h = absurd (let e : true ≡ false = h in cc)
not_zero (suc n) h = omega arith

counted : (dims : List Dim) (count : ℕ) → known_count dims ≡ Some count → list_any is_zero dims ≡ false → AreCounted dims count
counted [] count h some = record { size = (let e : Some 1 ≡ Some count = h in cc); positive = tt; fit = refl }
counted (Differs ∷ dims) count h some = absurd (let e : None ≡ Some count = h in cc)
counted (Known n ∷ dims) count h some = go (counted dims) (known_count dims) refl h
  where
    parts : (nat_eq n 0 ≡ false) × (list_any is_zero dims ≡ false)
    parts = or_parts (nat_eq n 0) (list_any is_zero dims) some

    go : ((k : ℕ) → known_count dims ≡ Some k → list_any is_zero dims ≡ false → AreCounted dims k)
        → (k : Option ℕ) → known_count dims ≡ k → option_map_or (λ c. Some (n * c)) k None ≡ Some count → AreCounted (Known n ∷ dims) count
    go again None e g = absurd (let no : None ≡ Some count = g in cc)
    go again (Some k) e g = let more = again k e parts.1 in record {
      size = ap (λ s. n * s) more.size ∙ (let e : Some (n * k) ≡ Some count = g in cc);
      positive = (not_zero n parts.0, more.positive);
      fit = rw (eq-eqb n n refl, parts.0, more.fit) refl;
    }

-- What is known of two cells or more.
record AreAll (dims : List Dim) (cells : List Cell) : Type 0 where
  pub counted : AreCounted dims (length cells)
  pub differ : are_equal cells ≡ false
  pub some : list_any is_zero dims ≡ false

pub not_true : (b : Bool) → not b ≡ true → b ≡ false
not_true false h = refl
not_true true h = absurd (let e : false ≡ true = h in cc)

not_one : (n : ℕ) → nat_eq (suc (suc n)) 1 ≡ false
not_one n = by (nat_eq (suc (suc n)) 1) refl
  where
    by : (t : Bool) → nat_eq (suc (suc n)) 1 ≡ t → t ≡ false
    by false e = refl
    by true e = absurd (let no : suc (suc n) ≡ 1 = eqb-true _ _ e in omega arith)

module _ (dims : List Dim) where
  by_count : (k : Option ℕ) (n : ℕ) → known_count dims ≡ k → option_map_or (nat_eq n) k false ≡ true → known_count dims ≡ Some n
  by_count None n e g = absurd (let no : false ≡ true = g in cc)
  by_count (Some k) n e g = e ∙ ap Some (sym (eqb-true n k g))

  all_cells : (c d : Cell) (cells : List Cell) → fills dims (c ∷ d ∷ cells) ≡ true → AreAll dims (c ∷ d ∷ cells)
  all_cells c d cells h = go (list_any is_zero dims) refl h
    where
      all : List Cell
      all = c ∷ d ∷ cells

      go : (z : Bool) → list_any is_zero dims ≡ z → (if z then nat_eq (length all) 0 else are_short dims all) ≡ true → AreAll dims all
      go true e g = absurd (let no : length all ≡ 0 = eqb-true (length all) 0 g in omega arith)
      go false e g =
          let short : (option_map_or (nat_eq (length all)) (known_count dims) false && not (are_equal all)) ≡ true =
          ap (λ b. b || (option_map_or (nat_eq (length all)) (known_count dims) false && not (are_equal all))) (sym (not_one (length cells))) ∙ g in
          let both = and_parts (option_map_or (nat_eq (length all)) (known_count dims) false) (not (are_equal all)) short in
          record {
            counted = counted dims (length all) (by_count (known_count dims) (length all) refl both.0) e;
            differ = not_true (are_equal all) both.1;
            some = e;
          }

  no_zero : (c : Cell) → fills dims (c ∷ []) ≡ true → list_any is_zero dims ≡ false
  no_zero c h = go (list_any is_zero dims) refl h
    where
      go : (z : Bool) → list_any is_zero dims ≡ z → (if z then nat_eq 1 0 else are_short dims (c ∷ [])) ≡ true → z ≡ false
      go true e g = absurd (let no : false ≡ true = g in cc)
      go false e g = refl

  a_zero : fills dims [] ≡ true → list_any is_zero dims ≡ true
  a_zero h = go (list_any is_zero dims) refl h
    where
      none : (o : Option ℕ) → (option_map_or (nat_eq 0) o false && false) ≡ true → false ≡ true
      none None g = g
      none (Some k) g = (and_parts (nat_eq 0 k) false g).1

      go : (z : Bool) → list_any is_zero dims ≡ z → (if z then nat_eq 0 0 else are_short dims []) ≡ true → z ≡ true
      go true e g = refl
      go false e g = none (known_count dims) g

pub contents_back : (t : TensorType) (cells : List Cell) → are_held (type.Tensor t) cells ≡ true
    → tensor_contents t (literal_for t.width (map extent_of t.dims) cells) ≡ Held cells
contents_back t [] h = rw (a_zero t.dims (and_parts (fills t.dims []) true h).0) refl
contents_back t (c ∷ []) h =
    let both = and_parts (fills t.dims (c ∷ [])) (list_all (is_literal_cell t.width) (c ∷ [])) h in
    rw (cells_back t.width (c ∷ []) both.1, no_zero t.dims c both.0) refl
contents_back t (c ∷ d ∷ cells) h =
    let both = and_parts (fills t.dims (c ∷ d ∷ cells)) (list_all (is_literal_cell t.width) (c ∷ d ∷ cells)) h in
    let all = all_cells t.dims c d cells both.0 in
    let fit : fills_or_fits t.dims (map extent_of t.dims) ≡ true = or_right (nat_eq (length (map extent_of t.dims)) 0) (are_extents t.dims (map extent_of t.dims)) all.counted.fit in
    ap (λ f. held t.dims f (cells_of t.width (map (element_of t.width) (c ∷ d ∷ cells)))) fit
    ∙ rw (cells_back t.width (c ∷ d ∷ cells) both.1, all.some, all.differ) refl

pub not_broken : (c : constant.Constant) → is_whole c ≡ true → is_broken c.contents ≡ false
not_broken c h = not_true (is_broken c.contents) h

module _ {numbered : State → Lexeme → ℕ} (N : Naming numbered) where
  cells_spelled : (t : TensorType) (cells : List Cell) → are_held (type.Tensor t) cells ≡ true
      → Gives N forms.Cells (cells_pieces (reverse (map extent_of t.dims)) t.width cells) (part.Literal (literal_for t.width (map extent_of t.dims) cells))
  unfolding made cells_pieces
  cells_spelled t [] h = by_row N 0 refl refl (end_row N refl)
  cells_spelled t (c ∷ []) h = let both = and_parts (fills t.dims (c ∷ [])) (list_all (is_literal_cell t.width) (c ∷ [])) h in
      by_row N 1 refl refl (last_is N (nested_spelled N t.width [] tt (c ∷ []) refl both.1) refl)
  cells_spelled t (c ∷ d ∷ cells) h =
      let both = and_parts (fills t.dims (c ∷ d ∷ cells)) (list_all (is_literal_cell t.width) (c ∷ d ∷ cells)) h in
      let all = all_cells t.dims c d cells both.0 in
      let ns : List ℕ = map extent_of t.dims in
      by_row N 1 refl refl (last_is N
      (subst (λ ps. Gives N forms.Element ps (part.Literal (list_literal t.width ns (c ∷ d ∷ cells)))) (sym (cells_nested t.width ns (c ∷ d ∷ cells) all.counted.positive (sym all.counted.size)))
      (nested_spelled N t.width ns all.counted.positive (c ∷ d ∷ cells) (sym all.counted.size) both.1)) refl)

  dense_spelled : (t : TensorType) (cells : List Cell) → are_held (type.Tensor t) cells ≡ true
      → Gives N forms.Dense (dense (type.Tensor t) cells) (part.Literal (literal_for t.width (map extent_of t.dims) cells))
  unfolding made dense
  dense_spelled t cells h = by_row N 0 refl refl (then_token N keyword.the-dense (λ p i. then_token N keyword.the-less (λ p i.
      then_is N (cells_spelled t cells h) (then_token N keyword.the-greater (λ p i. end_row N refl)))))

  -- ## Literals with their types

  abbrev IsLiteral : constant.Constant → Type 0
  IsLiteral c = Gives N forms.Literal (literal_pieces c c.value_type) (part.Constant c)

  abbrev of_cell : Width → ℕ → constant.Constant
  of_cell w n = record { value_type = type.Scalar w; contents = Held (Val n ∷ []) }

  a_number : (w : Width) (n : ℕ) → is_spelled (signed_value w n) ≡ true → n < 2 ^ bits_of w
      → number_element w n ≡ Number (signed_value w n)
      → Gives N forms.Literal (num (signed_value w n) ++ sign ":" ∷ width w ∷ []) (part.Constant (of_cell w n))
  unfolding made
  a_number w n spelled small is = by_row N 2 refl refl (then_is N (num_spelled N (signed_value w n) spelled) (then_token N keyword.the-colon (λ p i.
      last_is N {ps = width w ∷ []} (width_spelled N w)
      (ap (λ o. part.Constant (record { value_type = type.Scalar w; contents = option_map_or (λ cell. Held (cell ∷ [])) o Broken }))
      (ap (cell_of w) (sym is) ∙ number_back w n small)))))

  a_truth : (n : ℕ) → n < 2 → IsLiteral (of_cell I1 n)
  unfolding made literal_pieces scalar_pieces cell_pieces number_pieces
  a_truth zero h = by_row N 1 refl refl (then_token N keyword.the-false (λ p i. end_row N refl))
  a_truth (suc zero) h = by_row N 0 refl refl (then_token N keyword.the-true (λ p i. end_row N refl))
  a_truth (suc (suc n)) h = absurd (omega arith)

  a_scalar : (w : Width) (n : ℕ) → n < 2 ^ bits_of w → IsLiteral (of_cell w n)
  unfolding made literal_pieces scalar_pieces cell_pieces number_pieces of_type type_pieces
  a_scalar I1 n h = a_truth n h
  a_scalar I8 n h = a_number I8 n (signed_spelled (2 ^ 8) n h (omega arith)) h refl
  a_scalar I16 n h = a_number I16 n (signed_spelled (2 ^ 16) n h (omega arith)) h refl
  a_scalar I32 n h = a_number I32 n (signed_spelled (2 ^ 32) n h (omega arith)) h refl
  a_scalar I64 n h = a_number I64 n (signed_spelled (2 ^ 64) n h (omega arith)) h refl

  one_cell : (w : Width) (cells : List Cell) → are_held (type.Scalar w) cells ≡ true → IsLiteral (record { value_type = type.Scalar w; contents = Held cells })
  one_cell w [] h = absurd (let e : false ≡ true = h in cc)
  one_cell w (Undef ∷ []) h = absurd (let e : false ≡ true = h in cc)
  one_cell w (Val n ∷ []) h = a_scalar w n (ltb-true n (2 ^ bits_of w) (and_parts (is_literal_cell w (Val n)) true h).0)
  one_cell w (c ∷ d ∷ cells) h =
      absurd (let no : suc (suc (length cells)) ≡ 1 = eqb-true (suc (suc (length cells))) 1 (and_parts (nat_eq (suc (suc (length cells))) 1) (list_all (is_literal_cell w) (c ∷ d ∷ cells)) h).0 in omega arith)

  pub a_dense : (t : TensorType) (cells : List Cell) → are_held (type.Tensor t) cells ≡ true → is_spelled_type (type.Tensor t) ≡ true
      → Gives N forms.Argument (dense_pieces (record { value_type = type.Tensor t; contents = Held cells })) (part.Constant (record { value_type = type.Tensor t; contents = Held cells }))
  unfolding made dense_pieces
  a_dense t cells h spelled = by_row N 0 refl refl (then_is N (dense_spelled t cells h) (then_token N keyword.the-colon (λ p i.
      last_is N (type_spelled N (type.Tensor t) spelled) (ap (λ held. part.Constant (record { value_type = type.Tensor t; contents = held })) (contents_back t cells h)))))

  a_tensor : (t : TensorType) (cells : List Cell) → are_held (type.Tensor t) cells ≡ true → is_spelled_type (type.Tensor t) ≡ true
      → IsLiteral (record { value_type = type.Tensor t; contents = Held cells })
  unfolding made literal_pieces dense_pieces
  a_tensor t cells h spelled = by_row N 3 refl refl (then_is N (dense_spelled t cells h) (then_token N keyword.the-colon (λ p i.
      last_is N (type_spelled N (type.Tensor t) spelled) (ap (λ held. part.Constant (record { value_type = type.Tensor t; contents = held })) (contents_back t cells h)))))

  a_literal : (t : ValueType) (contents : Contents) → is_held (record { value_type = t; contents = contents }) ≡ true → is_broken contents ≡ false
      → is_spelled_type t ≡ true → IsLiteral (record { value_type = t; contents = contents })
  a_literal t Broken h whole spelled = absurd (let e : true ≡ false = whole in cc)
  a_literal (type.Scalar w) (Held cells) h whole spelled = one_cell w cells h
  a_literal (type.Tensor t) (Held cells) h whole spelled = a_tensor t cells h spelled
  a_literal type.Nothing (Held cells) h whole spelled = absurd (let e : false ≡ true = h in cc)
  a_literal type.Sharding (Held cells) h whole spelled = absurd (let e : false ≡ true = h in cc)
  a_literal type.Index (Held cells) h whole spelled = absurd (let e : false ≡ true = h in cc)

  pub constant_spelled : (c : constant.Constant) → is_held c ≡ true → is_broken c.contents ≡ false → is_spelled_type c.value_type ≡ true
      → Gives N forms.Constant (constant_pieces c) (constant_side (part.Constant c))
  unfolding made constant_pieces
  constant_spelled c h whole spelled = by_row N 0 refl refl (then_token N keyword.the-arith_constant (λ p i.
      last_is N (a_literal c.value_type c.contents h whole spelled) refl))

  pub literal_spelled : (c : constant.Constant) → is_held c ≡ true → is_broken c.contents ≡ false → is_spelled_type c.value_type ≡ true
      → Gives N forms.Arith (constant_pieces c) (meaning.arith (body_kind.Constant c) [] c.value_type)
  unfolding made
  literal_spelled c h whole spelled = by_row N 0 refl refl (last_is N (constant_spelled c h whole spelled) refl)
