-- What a text stands for, computed: for examples. The tokens and the tree are found here in one way
-- that computes; the definitions ask for any.
use Prim.Native.String.{String}
use Rattle.std.specs.Prelude.{ℕ, zero, suc, ◌+◌, ◌-◌, ◌*◌, List, [], ◌∷◌, ◌++◌, length, take, drop, get_or, flat_map, map, Option, Bool, nat_eq, codes, if◌then◌else◌}
use Rattle.std.specs.List.{prefix_len}
use Rattle.std.specs.Cmp.Lexicographic.{pointwise}
use Rattle.sh_lex.specs.Tokens.{is_blank, is_letter, is_digit, is_name_byte, is_value_byte, is_string_byte, is_line_byte}
use Rattle.sh_lex.specs.declared.tokens.TokenKind.{TokenKind}
use Rattle.sh_lex.specs.declared.tokens.TokenKind.TheVariants.{Word, Val, At, Hash, Block, Bang, Number, Dim, Str, Sign, End}
use Rattle.sh_grammar.specs.Grammar.{Trees, events}
use Rattle.sh_grammar.specs.Grammar.Trees.{nothing, token, form}
use Rattle.sh_grammar.specs.Laid.{the_choices, the_rows}
use Rattle.sh_grammar.specs.Language.{language, text_of_file}
use Rattle.sh_grammar.specs.Lexemes.{Lexeme, class_of}
use Rattle.sh_grammar.specs.Predictive.{Table, choice}
use Rattle.sh_grammar.specs.Views.{pieces}
use Rattle.sh_grammar.specs.declared.forms.Form.{Form}
use Rattle.sh_grammar.specs.declared.symbols.Symbol.{Symbol}
use Rattle.sh_grammar.specs.declared.symbols.Symbol.TheVariants.{Class, Part}
use Rattle.std.specs.Option.{option_map_or}
use Rattle.sh_ir.specs.Formed.{body_ops_of, constants_of, ops_of}
use Rattle.sh_ir.specs.Written.{written_by}
use Rattle.sh_ir.specs.declared.arith_ops.Contents.{Contents}
use Rattle.sh_ir.specs.declared.bodies.Body.{Body}
use Rattle.sh_ir.specs.declared.bodies.BodyKind.{BodyKind}
use Rattle.sh_ir.specs.declared.operations.Op.{Op}
use Rattle.sh_ir.specs.declared.operations.OpKind.{OpKind}
use Rattle.sh_names.specs.Names.{keep_rules, mentions}
use Rattle.sh_parse.specs.Reads.{file_part}
use Rattle.sh_build.specs.declared.parts.Part.TheVariants as parts
use Rattle.sh_build.specs.declared.parts.Part as part

-- these lines, each with its end
abbrev pub lines : List String → List ℕ
lines ls = flat_map (λ line. codes line ++ 10 ∷ []) ls

-- ## Tokens

abbrev pub kind_of : ℕ → ℕ → TokenKind
kind_of b next =
    if is_letter b then Word
    else (if nat_eq b 37 then Val
    else (if nat_eq b 64 then At
    else (if nat_eq b 35 then Hash
    else (if nat_eq b 94 then Block
    else (if nat_eq b 33 then Bang
    else (if nat_eq b 34 then Str
    else (if nat_eq b 63 then Dim
    else (if is_digit b then (if nat_eq next 120 then Dim else Number) else Sign))))))))

abbrev pub length_of : TokenKind → List ℕ → ℕ
length_of Word bytes = prefix_len is_name_byte bytes
length_of Val bytes = 1 + prefix_len is_value_byte (drop 1 bytes)
length_of At bytes = 1 + prefix_len is_name_byte (drop 1 bytes)
length_of Hash bytes = 1 + prefix_len is_name_byte (drop 1 bytes)
length_of Block bytes = 1 + prefix_len is_name_byte (drop 1 bytes)
length_of Bang bytes = 1 + prefix_len is_name_byte (drop 1 bytes)
length_of Number bytes = prefix_len is_digit bytes
length_of Dim bytes = 1 + (if nat_eq (get_or bytes 0 0) 63 then 1 else prefix_len is_digit bytes)
length_of Str bytes = 2 + prefix_len is_string_byte (drop 1 bytes)
length_of Sign bytes = if pointwise nat_eq (take 2 bytes) (codes "->") then 2 else 1
length_of End bytes = 0

abbrev pub kind_at : List ℕ → TokenKind
kind_at bytes = kind_of (get_or bytes 0 0) (get_or (drop (prefix_len is_digit bytes) bytes) 0 0)

abbrev pub lexeme_at : TokenKind → List ℕ → ℕ → ℕ → Lexeme
lexeme_at kind text line column = record {
  kind = kind;
  text = text;
  place = record { line = line; column = column };
}

abbrev pub is_comment : List ℕ → Bool
is_comment bytes = pointwise nat_eq (take 2 bytes) (codes "//")

-- What stands at the front of the bytes.
pub data Lead : Type 0 where
  line_end : Lead
  blanks : ℕ → Lead
  lexeme : TokenKind → Lead

abbrev pub lead_at : List ℕ → Lead
lead_at bytes =
    if nat_eq (get_or bytes 0 0) 10 then line_end
    else (if is_blank (get_or bytes 0 0) then blanks 1
    else (if is_comment bytes then blanks (prefix_len is_line_byte bytes) else lexeme (kind_at bytes)))

-- the tokens of these bytes, which begin at this line and column; the first number bounds the steps
abbrev pub lexed : ℕ → ℕ → ℕ → List ℕ → List Lexeme
lexed zero line column bytes = []
lexed (suc k) line column [] = lexeme_at End [] line column ∷ []
lexed (suc k) line column (b ∷ bytes) = elim (lead_at (b ∷ bytes)) [
  | line_end ↦ lexed k (line + 1) 1 bytes
  | blanks n ↦ lexed k line (column + n) (drop n (b ∷ bytes))
  | lexeme kind ↦
      lexeme_at kind (take (length_of kind (b ∷ bytes)) (b ∷ bytes)) line column
      ∷ lexed k line (column + length_of kind (b ∷ bytes)) (drop (length_of kind (b ∷ bytes)) (b ∷ bytes))
]

abbrev pub tokens_in : List ℕ → List Lexeme
tokens_in text = lexed (1 + length text) 1 1 text

-- ## Trees

-- the trees of a row, and what is behind it
pub record Found : Type 0 where
  pub trees : Trees
  pub rest : List Lexeme

abbrev pub with_token : Lexeme → Found → Found
with_token t found = record found { trees = token t found.trees }

abbrev pub next_class : List Lexeme → ℕ
next_class [] = 0
next_class (t ∷ ts) = class_of t

abbrev pub with_form : Form → ℕ → Found → Found → Found
with_form n i below behind = record { trees = form n i below.trees behind.trees; rest = behind.rest }

-- a form's trees, and then those behind it: each is evaluated once
abbrev pub then_behind : Form → ℕ → (List Lexeme → Found) → Found → Found
then_behind n i outer below = with_form n i below (outer below.rest)

abbrev pub form_by : Form → (ℕ → List Lexeme → Found) → (List Lexeme → Found) → List Lexeme → ℕ → Found
form_by n inner outer ts i = then_behind n i outer (inner i ts)

-- the trees of these symbols, chosen by the table; the first number bounds the steps
abbrev pub found : Table → ℕ → List Symbol → List Lexeme → Found
found table zero α ts = record { trees = nothing; rest = ts }
found table (suc k) [] ts = record { trees = nothing; rest = ts }
found table (suc k) (Class c ∷ α) [] = record { trees = nothing; rest = [] }
found table (suc k) (Class c ∷ α) (t ∷ ts) = with_token t (found table k α ts)
found table (suc k) (Part n ∷ α) ts = form_by n
    (λ i us. found table k (get_or (language n) i []) us) (λ us. found table k α us) ts
    (choice table n (next_class ts) - 1)

unfoldable pub the_table : Table
the_table = pieces the_choices the_rows

abbrev pub tree_in : List Lexeme → Trees
tree_in ts = (found the_table (2 + 10 * length ts) text_of_file ts).trees

-- ## What it stands for

abbrev pub part_of_tokens : List Lexeme → part.Part
part_of_tokens ts = file_part ts (tree_in ts)

abbrev pub part_of : List ℕ → part.Part
part_of text = part_of_tokens (tokens_in text)

-- the operands and the name of each operation of the functions, and the names of their regions
pub record Numbered : Type 0 where
  pub defines : Option ℕ
  pub operands : List ℕ
  pub region : List (List ℕ)  -- the block arguments, each operation's name and operands, the yield

abbrev pub region_ids : Body → List (List ℕ)
region_ids body =
    (body.args ∷ map (λ op. op.defines ∷ op.operands) body.ops) ++ (body.yields ∷ []) ∷ []

abbrev pub numbered : Op → Numbered
numbered op = record {
  defines = op.defines;
  operands = op.operands;
  region = option_map_or region_ids (written_by op.kind).body [];
}

abbrev pub numbered_ops : part.Part → List Numbered
numbered_ops (parts.Module m) = flat_map (λ f. map numbered f.ops) m.funcs
numbered_ops _ = []

-- the literals of a module
abbrev pub literals_in : part.Part → List Contents
literals_in (parts.Module m) = map (λ c. c.contents) (constants_of m)
literals_in _ = []

-- whether the names of a file keep the rules
abbrev pub keeps_rules_by : List Lexeme → Trees → Bool
keeps_rules_by ts f = keep_rules (mentions (events f) ts)

abbrev pub keeps_names : List ℕ → Bool
keeps_names text = keeps_rules_by (tokens_in text) (tree_in (tokens_in text))

-- what the operations of a module are
abbrev pub kinds_in : part.Part → List OpKind
kinds_in (parts.Module m) = map (λ op. op.kind) (ops_of m)
kinds_in _ = []

-- and those of its regions
abbrev pub body_kinds_in : part.Part → List BodyKind
body_kinds_in (parts.Module m) = map (λ op. op.kind) (body_ops_of m)
body_kinds_in _ = []
