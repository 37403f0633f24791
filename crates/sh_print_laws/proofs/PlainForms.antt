-- Forms without names: numbers, lists of numbers, widths and types.
use Rattle.std.proofs.Common.{◌≡◌, ◌∙◌, ◌<◌, ◌+◌, ◌^◌, ℕ, true, false, List, [], ◌∷◌, ◌++◌, refl, ap, sym, subst, codes, add-one, if◌then◌else◌}
use Rattle.std.specs.Prelude.{ℤ, pos, negsuc, flat_map, IsTrue}
use Rattle.std.specs.List.{AllByRecursion, list_all}
use Rattle.std.proofs.lemmas.Bool.{ltb-true}
use Rattle.std.proofs.lemmas.List.Folds.{list_all-append}
use Rattle.sh_print_laws.proofs.Tests.{and_parts}
use Rattle.sh_base.specs.declared.numbers.Width.{Width}
use Rattle.sh_base.specs.declared.numbers.Width.TheVariants.{I1, I8, I16, I32, I64}
use Rattle.sh_base.specs.declared.places.Place.{Place}
use Rattle.sh_build.specs.Meaning.{made}
use Rattle.sh_build.specs.declared.parts.Part.{Part}
use Rattle.sh_build.specs.declared.parts.Part.TheVariants as part
use Rattle.sh_grammar.specs.Lexemes.{Lexeme, class_of, dims, first_class}
use Rattle.sh_grammar.specs.declared.forms.Form.TheVariants as forms
use Rattle.sh_grammar.specs.declared.symbols.Symbol.{Symbol}
use Rattle.sh_grammar.specs.declared.symbols.Symbol.TheVariants as symbol
use Rattle.sh_ir.specs.Formed.{is_spelled, is_spelled_dim, is_spelled_type}
use Rattle.sh_ir.specs.declared.types.Dim.{Dim}
use Rattle.sh_ir.specs.declared.types.Dim.TheVariants.{Known, Differs}
use Rattle.sh_ir.specs.declared.types.ValueType.{ValueType}
use Rattle.sh_ir.specs.declared.types.ValueType.TheVariants as type
use Rattle.sh_lex.specs.Tokens.{decimal_of, is_digit, leading_value}
use Rattle.sh_lex.specs.declared.tokens.TokenKind.TheVariants as kind
use Rattle.sh_names.specs.Names.{same_text}
use Rattle.sh_print.specs.Layout.{Piece}
use Rattle.sh_print.specs.Spellings.{dim, extent, in_brackets, lists, num, number, nums, type_pieces, width}
use Rattle.sh_print.specs.Tokens.{types}
use Rattle.sh_print_laws.specs.TokensOf.{lexeme}
use Rattle.sh_print_laws.proofs.Decimals.{IsNumeral, byte_other, first_digit, leading_digits, numeral, other_byte}
use Rattle.sh_print_laws.proofs.Keywords as keyword
use Rattle.sh_print_laws.proofs.ListForms.{IsListForm, list_spelled}
use Rattle.sh_print_laws.proofs.Walks.{State}
use Rattle.sh_print_laws.proofs.Rows.{Gives, Naming, Row, by_row, end_row, last_is, then_is, then_token}

-- ## Tokens of numbers

dim_text : {n : ℕ} {bytes : List ℕ} (it : IsNumeral n bytes) → same_text (bytes ++ codes "x") (codes "?x") ≡ false
unfolding is_digit
dim_text {bytes = bytes} it =
    ap (λ b. same_text (b ++ codes "x") (codes "?x")) it.is ∙ rw (other_byte it.first 63 (first_digit it) refl) refl

dim_class : {n : ℕ} {bytes : List ℕ} (it : IsNumeral n bytes) (p : Place) → class_of (lexeme kind.Dim (bytes ++ codes "x") p) ≡ 7
unfolding class_of dims first_class is_digit
dim_class {bytes = bytes} it p =
    ap (λ b. class_of (lexeme kind.Dim (b ++ codes "x") p)) it.is ∙ rw (byte_other it.first 63 (first_digit it) refl) refl

dim_value : {n : ℕ} {bytes : List ℕ} (it : IsNumeral n bytes)
    → (if same_text (bytes ++ codes "x") (codes "?x") then Differs else Known (leading_value (bytes ++ codes "x"))) ≡ Known n
dim_value {bytes = bytes} it =
    ap (λ t. if t then Differs else Known (leading_value (bytes ++ codes "x"))) (dim_text it)
    ∙ ap (λ ds. Known (decimal_of ds)) (leading_digits bytes it.digits) ∙ ap Known it.value

module _ {numbered : State → Lexeme → ℕ} (N : Naming numbered) where
  -- ## Numbers

  pub then_number : {n : ℕ} {α : List Symbol} {ps : List Piece} {V : List Part → Type 0} → n < 2 ^ 64
      → Row N α ps (λ row. V (part.Number n ∷ row)) → Row N (symbol.Class 6 ∷ α) (number n ∷ ps) V
  unfolding class_of
  then_number {n = n} {α = α} {ps = ps} {V = V} small rest =
      then_token N (λ p. refl) (λ p id. subst (λ m. Row N α ps (λ row. V (part.Number m ∷ row))) (sym (numeral n small).value) rest)

  pub then_extent : {n : ℕ} {α : List Symbol} {ps : List Piece} {V : List Part → Type 0} → n < 2 ^ 64
      → Row N α ps (λ row. V (part.Dim (Known n) ∷ row)) → Row N (symbol.Class 7 ∷ α) (extent n ∷ ps) V
  then_extent {n = n} {α = α} {ps = ps} {V = V} small rest =
      then_token N (dim_class (numeral n small)) (λ p id. subst (λ d. Row N α ps (λ row. V (part.Dim d ∷ row))) (sym (dim_value (numeral n small))) rest)

  pub num_spelled : (z : ℤ) → IsTrue (is_spelled z) → Gives N forms.Num (num z) (part.Signed z)
  unfolding made
  num_spelled (pos n) h = by_row N 0 refl refl (then_number (ltb-true n (2 ^ 64) h) (end_row N refl))
  num_spelled (negsuc n) h = by_row N 1 refl refl
      (then_token N keyword.the-minus (λ p id. then_number (rw add-one at (ltb-true (n + 1) (2 ^ 64) h)) (end_row N refl)))

  numbers_form : IsListForm forms.Numbers forms.MoreNumbers forms.Num part.Numbers part.Signed
  unfolding made
  numbers_form = record {
    lists = refl;
    rests = refl;
    plain = refl;
    plain_rest = refl;
    none = refl;
    some = λ x xs. refl;
    none_more = refl;
    some_more = λ comma x xs. refl;
  }

  each_num : (zs : List ℤ) → IsTrue (list_all is_spelled zs) → AllByRecursion (λ z. Gives N forms.Num (num z) (part.Signed z)) zs
  each_num [] h = tt
  each_num (z ∷ zs) h = let both = and_parts (is_spelled z) (list_all is_spelled zs) h in (num_spelled z both.0, each_num zs both.1)

  pub nums_spelled : (zs : List ℤ) → IsTrue (list_all is_spelled zs) → Gives N forms.Nums (nums zs) (part.Numbers zs)
  unfolding made in_brackets
  nums_spelled zs h = by_row N 0 refl refl (then_token N keyword.the-open_bracket (λ p id.
      then_is N (list_spelled N numbers_form num zs (each_num zs h)) (then_token N keyword.the-close_bracket (λ p id. end_row N refl))))

  lists_form : IsListForm forms.ListItems forms.MoreListItems forms.Nums part.Lists part.Numbers
  unfolding made
  lists_form = record {
    lists = refl;
    rests = refl;
    plain = refl;
    plain_rest = refl;
    none = refl;
    some = λ x xs. refl;
    none_more = refl;
    some_more = λ comma x xs. refl;
  }

  each_nums : (zs : List (List ℤ)) → IsTrue (list_all is_spelled (flat_map (λ x. x) zs))
      → AllByRecursion (λ x. Gives N forms.Nums (nums x) (part.Numbers x)) zs
  each_nums [] h = tt
  each_nums (x ∷ zs) h =
      let both = and_parts (list_all is_spelled x) (list_all is_spelled (flat_map (λ x. x) zs)) (sym (list_all-append is_spelled x (flat_map (λ x. x) zs)) ∙ h) in
      (nums_spelled x both.0, each_nums zs both.1)

  pub lists_spelled : (zs : List (List ℤ)) → IsTrue (list_all is_spelled (flat_map (λ x. x) zs)) → Gives N forms.Lists (lists zs) (part.Lists zs)
  unfolding made in_brackets
  lists_spelled zs h = by_row N 0 refl refl (then_token N keyword.the-open_bracket (λ p id.
      then_is N (list_spelled N lists_form nums zs (each_nums zs h)) (then_token N keyword.the-close_bracket (λ p id. end_row N refl))))

  -- ## Types

  pub width_spelled : (w : Width) → Gives N forms.Width (width w ∷ []) (part.Width w)
  unfolding made
  width_spelled I1 = by_row N 0 refl refl (then_token N keyword.the-i1 (λ p id. end_row N refl))
  width_spelled I8 = by_row N 1 refl refl (then_token N keyword.the-i8 (λ p id. end_row N refl))
  width_spelled I16 = by_row N 2 refl refl (then_token N keyword.the-i16 (λ p id. end_row N refl))
  width_spelled I32 = by_row N 3 refl refl (then_token N keyword.the-i32 (λ p id. end_row N refl))
  width_spelled I64 = by_row N 4 refl refl (then_token N keyword.the-i64 (λ p id. end_row N refl))

  dim_spelled : (d : Dim) → IsTrue (is_spelled_dim d) → Gives N forms.Dim (dim d ∷ []) (part.Dim d)
  unfolding made
  dim_spelled (Known n) h = by_row N 0 refl refl (then_extent (ltb-true n (2 ^ 64) h) (end_row N refl))
  dim_spelled Differs h = by_row N 1 refl refl (then_token N keyword.the-unknown_dim (λ p id. end_row N refl))

  dims_spelled : (ds : List Dim) → IsTrue (list_all is_spelled_dim ds) → Gives N forms.Dims (flat_map (λ d. dim d ∷ []) ds) (part.Dims ds)
  unfolding made
  dims_spelled [] h = by_row N 0 refl refl (end_row N refl)
  dims_spelled (d ∷ ds) h = let both = and_parts (is_spelled_dim d) (list_all is_spelled_dim ds) h in
      by_row N 1 refl refl (then_is N {ps = dim d ∷ []} (dim_spelled d both.0) (last_is N (dims_spelled ds both.1) refl))

  pub type_spelled : (t : ValueType) → IsTrue (is_spelled_type t) → Gives N forms.ValueType (type_pieces t) (part.Type t)
  unfolding made type_pieces
  type_spelled (type.Scalar w) h = by_row N 1 refl refl (last_is N (width_spelled w) refl)
  type_spelled (type.Tensor t) h = by_row N 0 refl refl (then_token N keyword.the-tensor (λ p id. then_token N keyword.the-less (λ p id.
      then_is N (dims_spelled t.dims h) (then_is N {ps = width t.width ∷ []} (width_spelled t.width) (then_token N keyword.the-greater (λ p id. end_row N refl))))))
  type_spelled type.Nothing h = absurd (let e : false ≡ true = h in cc)
  type_spelled type.Sharding h = absurd (let e : false ≡ true = h in cc)
  type_spelled type.Index h = absurd (let e : false ≡ true = h in cc)

  types_form : IsListForm forms.Types forms.MoreTypes forms.ValueType part.Types part.Type
  unfolding made
  types_form = record {
    lists = refl;
    rests = refl;
    plain = refl;
    plain_rest = refl;
    none = refl;
    some = λ x xs. refl;
    none_more = refl;
    some_more = λ comma x xs. refl;
  }

  each_type : (ts : List ValueType) → IsTrue (list_all is_spelled_type ts)
      → AllByRecursion (λ t. Gives N forms.ValueType (type_pieces t) (part.Type t)) ts
  each_type [] h = tt
  each_type (t ∷ ts) h = let both = and_parts (is_spelled_type t) (list_all is_spelled_type ts) h in (type_spelled t both.0, each_type ts both.1)

  pub types_spelled : (ts : List ValueType) → IsTrue (list_all is_spelled_type ts) → Gives N forms.Types (types ts) (part.Types ts)
  unfolding types
  types_spelled ts h = list_spelled N types_form type_pieces ts (each_type ts h)
