-- The tokens of forms that are left out by name, and the code of a refused token.
use Rattle.std.specs.Prelude.{ℕ, Bool, true, false, cond, ◌||◌, ◌&&◌, not, nat_eq, nat_lt, List, [], ◌∷◌, drop, length, codes}
use Rattle.std.specs.Cmp.Lexicographic.{pointwise}
use Rattle.std.specs.List.{list_any, list_all, starts_with}
use Rattle.std.specs.Char.{is_ascii_digit}
use Rattle.sh_base.specs.declared.rules.Rule.{Rule}
use Rattle.sh_base.specs.declared.rules.Rule.TheVariants.{P1, P2, P3}
use Rattle.sh_lex.specs.declared.tokens.TokenKind.{TokenKind}
use Rattle.sh_lex.specs.declared.tokens.TokenKind.TheVariants.{Word, Str, Sign}
use Rattle.sh_grammar.specs.Lexemes.{Lexeme}

abbrev pub is_among : List (List ℕ) → List ℕ → Bool
is_among texts text = list_any (pointwise nat_eq text) texts

unfoldable pub left_out_words : List (List ℕ)
left_out_words =
    codes "f16" ∷ codes "bf16" ∷ codes "f32" ∷ codes "f64" ∷ codes "index" ∷ codes "vector"
    ∷ codes "memref" ∷ codes "complex" ∷ codes "overflow" ∷ codes "loc" ∷ codes "attributes"
    ∷ codes "dense_resource" ∷ codes "linalg.map" ∷ codes "tensor.pad" ∷ codes "tensor.concat"
    ∷ codes "tensor.splat" ∷ []

unfoldable pub left_out_beginnings : List (List ℕ)
left_out_beginnings = codes "scf." ∷ codes "cf." ∷ codes "linalg.pooling" ∷ []

unfoldable pub integer_beginnings : List (List ℕ)
integer_beginnings = codes "i" ∷ codes "si" ∷ codes "ui" ∷ []

unfoldable pub widths : List (List ℕ)
widths = codes "i1" ∷ codes "i8" ∷ codes "i16" ∷ codes "i32" ∷ codes "i64" ∷ []

unfoldable pub left_out_signs : List (List ℕ)
left_out_signs = codes "+" ∷ codes "*" ∷ []

-- one or more digits
abbrev pub are_digits : List ℕ → Bool
are_digits bytes = nat_lt 0 (length bytes) && list_all is_ascii_digit bytes

-- `i`, `si` or `ui`, and then digits
abbrev pub is_integer_type : List ℕ → Bool
is_integer_type text =
    list_any
    (λ begin. starts_with nat_eq text begin && are_digits (drop (length begin) text))
    integer_beginnings

-- one of the words, a word that begins so, or an integer type that is no width
abbrev pub is_left_out_word : List ℕ → Bool
is_left_out_word text =
    is_among left_out_words text
    || list_any (starts_with nat_eq text) left_out_beginnings
    || (is_integer_type text && not (is_among widths text))

-- a token of this kind and text is left out: such a word, `+`, `*`, or a string where an operation is
-- due
abbrev pub is_left_out : Bool → TokenKind → List ℕ → Bool
is_left_out due Word text = is_left_out_word text
is_left_out due Sign text = is_among left_out_signs text
is_left_out due Str text = due
is_left_out due _ text = false

abbrev pub is_word : TokenKind → Bool
is_word Word = true
is_word _ = false

-- the code of a refused token, by whether an operation is due there
abbrev pub rule_of : Bool → Lexeme → Rule
rule_of due l = cond (is_left_out due l.kind l.text) P3 (cond (due && is_word l.kind) P2 P1)
