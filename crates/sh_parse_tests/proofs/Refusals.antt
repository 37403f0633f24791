-- Texts that are refused: at which token, where it stands, and with which code.
use Rattle.std.proofs.Common.{ℕ, List, [], ◌∷◌, ◌++◌, refl}
use Rattle.std.specs.Prelude.{codes}
use Rattle.sh_base.specs.declared.rules.Rule.TheVariants.{P1, P2, P3}
use Rattle.sh_grammar.proofs.Facts.{the_facts}
use Rattle.sh_grammar.specs.Laid.{the_choices, the_rows}
use Rattle.sh_grammar.specs.LeftOut.{integer_beginnings, left_out_beginnings, left_out_signs, left_out_words, widths}
use Rattle.sh_grammar.specs.Lexemes.{Lexeme, bangs, class_of, dims, first_class, former_bangs, former_words, hashes, signs, words}
use Rattle.sh_grammar.specs.Predictive.{no_facts, ◌&◌, ◌or◌}
use Rattle.sh_lex.specs.Tokens.{is_blank, is_digit, is_letter, is_line_byte, is_name_byte, is_string_byte, is_value_byte}
use Rattle.sh_lex.specs.declared.tokens.TokenKind.{TokenKind}
use Rattle.sh_lex.specs.declared.tokens.TokenKind.TheVariants.{At, End, Hash, Word}
use Rattle.sh_parse.specs.Reads.{IsRefusedAt}
use Rattle.sh_parse_tests.proofs.Stops.{advance, is_stuck, is_taken, name_refused, refused_there, run, stack_behind, steps_over}
use Rattle.sh_parse_tests.specs.Texts.{lines, the_table, tokens_in}

-- a token by its kind, its text, its line and its column
abbrev pub at : TokenKind → List ℕ → ℕ → ℕ → Lexeme
at kind text line column = record { kind = kind; text = text; place = record { line = line; column = column } }

-- A text that is cut is refused at its end.
cut : List ℕ
cut = lines (
    "module {"
    ∷ "  shard.grid @g(shape = 2)" ∷ []) ++ codes "  func.func @f(%a: tensor<4x"

cut_refused : IsRefusedAt (tokens_in cut) 17 (at End ([]) 3 29) P1
unfolding cut advance run stack_behind steps_over is_taken is_stuck the_facts no_facts ◌&◌ ◌or◌ left_out_words left_out_beginnings integer_beginnings widths left_out_signs the_table the_choices the_rows class_of first_class words signs dims bangs hashes former_words former_bangs is_blank is_letter is_digit is_name_byte is_value_byte is_string_byte is_line_byte
cut_refused = refused_there (tokens_in cut) 17 (at End ([]) 3 29) P1 refl refl refl refl refl

-- A flag of overflow is left out by name.
overflow : List ℕ
overflow = lines (
    "func.func @f(%a: i32) {"
    ∷ "  %c = arith.addi %a, %a overflow<nsw> : i32" ∷ [])

overflow_refused : IsRefusedAt (tokens_in overflow) 14 (at Word (codes "overflow") 2 26) P3
unfolding overflow advance run stack_behind steps_over is_taken is_stuck the_facts no_facts ◌&◌ ◌or◌ left_out_words left_out_beginnings integer_beginnings widths left_out_signs the_table the_choices the_rows class_of first_class words signs dims bangs hashes former_words former_bangs is_blank is_letter is_digit is_name_byte is_value_byte is_string_byte is_line_byte
overflow_refused = refused_there (tokens_in overflow) 14 (at Word (codes "overflow") 2 26) P3 refl refl refl refl refl

-- An item is due: the word begins none.
item_due : List ℕ
item_due = lines (
    "mesh.broadcast" ∷ [])

item_due_refused : IsRefusedAt (tokens_in item_due) 0 (at Word (codes "mesh.broadcast") 1 1) P1
unfolding item_due advance run stack_behind steps_over is_taken is_stuck the_facts no_facts ◌&◌ ◌or◌ left_out_words left_out_beginnings integer_beginnings widths left_out_signs the_table the_choices the_rows class_of first_class words signs dims bangs hashes former_words former_bangs is_blank is_letter is_digit is_name_byte is_value_byte is_string_byte is_line_byte
item_due_refused = refused_there (tokens_in item_due) 0 (at Word (codes "mesh.broadcast") 1 1) P1 refl refl refl refl refl

-- An operation is due: the word begins none.
operation_due : List ℕ
operation_due = lines (
    "module {"
    ∷ "  shard.grid @g(shape = 2)"
    ∷ "  func.func @f(%a: tensor<4xi32>, %b: tensor<4xi32>) -> tensor<4xi32> {"
    ∷ "    %s = shard.sharding @g split_axes = [[0]] : !shard.sharding"
    ∷ "    %a1 = shard.shard %a to %s : tensor<4xi32>"
    ∷ "    %b1 = shard.shard %b to %s : tensor<4xi32>"
    ∷ "    %c = mesh.broadcast %a1, %b1 : tensor<4xi32>" ∷ [])

operation_due_refused : IsRefusedAt (tokens_in operation_due) 74 (at Word (codes "mesh.broadcast") 7 10) P2
unfolding operation_due advance run stack_behind steps_over is_taken is_stuck the_facts no_facts ◌&◌ ◌or◌ left_out_words left_out_beginnings integer_beginnings widths left_out_signs the_table the_choices the_rows class_of first_class words signs dims bangs hashes former_words former_bangs is_blank is_letter is_digit is_name_byte is_value_byte is_string_byte is_line_byte
operation_due_refused = refused_there (tokens_in operation_due) 74 (at Word (codes "mesh.broadcast") 7 10) P2 refl refl refl refl refl

-- The second alias of one name.
alias_twice : List ℕ
alias_twice = lines (
    "#m = affine_map<(a) -> (a)>"
    ∷ "#m = affine_map<(b) -> (b)>" ∷ [])

alias_twice_refused : IsRefusedAt (tokens_in alias_twice) 12 (at Hash (codes "#m") 2 1) P1
unfolding alias_twice advance run stack_behind steps_over is_taken is_stuck the_facts no_facts ◌&◌ ◌or◌ left_out_words left_out_beginnings integer_beginnings widths left_out_signs the_table the_choices the_rows class_of first_class words signs dims bangs hashes former_words former_bangs is_blank is_letter is_digit is_name_byte is_value_byte is_string_byte is_line_byte
alias_twice_refused = name_refused (tokens_in alias_twice) 12 (at Hash (codes "#m") 2 1) refl refl refl refl refl

-- A name among maps that is no alias.
alias_unknown : List ℕ
alias_unknown = lines (
    "#m = affine_map<(a) -> (a)>"
    ∷ "func.func @f(%o: tensor<i32>) {"
    ∷ "  %0 = linalg.generic {indexing_maps = [#n], iterator_types = []} outs(%o : tensor<i32>) {" ∷ [])

alias_unknown_refused : IsRefusedAt (tokens_in alias_unknown) 30 (at Hash (codes "#n") 3 41) P1
unfolding alias_unknown advance run stack_behind steps_over is_taken is_stuck the_facts no_facts ◌&◌ ◌or◌ left_out_words left_out_beginnings integer_beginnings widths left_out_signs the_table the_choices the_rows class_of first_class words signs dims bangs hashes former_words former_bangs is_blank is_letter is_digit is_name_byte is_value_byte is_string_byte is_line_byte
alias_unknown_refused = name_refused (tokens_in alias_unknown) 30 (at Hash (codes "#n") 3 41) refl refl refl refl refl

-- A device item that is said of another function.
device_of_another : List ℕ
device_of_another = lines (
    "shardrun.device @h on @g() -> ()"
    ∷ "func.func @f() {"
    ∷ "  return"
    ∷ "}" ∷ [])

device_of_another_refused : IsRefusedAt (tokens_in device_of_another) 10 (at At (codes "@f") 2 11) P1
unfolding device_of_another advance run stack_behind steps_over is_taken is_stuck the_facts no_facts ◌&◌ ◌or◌ left_out_words left_out_beginnings integer_beginnings widths left_out_signs the_table the_choices the_rows class_of first_class words signs dims bangs hashes former_words former_bangs is_blank is_letter is_digit is_name_byte is_value_byte is_string_byte is_line_byte
device_of_another_refused = name_refused (tokens_in device_of_another) 10 (at At (codes "@f") 2 11) refl refl refl refl refl
