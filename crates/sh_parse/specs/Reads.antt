-- The module that a text stands for, and where a text that stands for none is refused.
use Rattle.std.specs.Prelude.{◌≡◌, ◌⊎◌, ℕ, suc, ◌-◌, List, [], ◌∷◌, length, take, drop, slice_get, Some, Bool, true, false, codes, if◌then◌else◌}
use Rattle.sh_base.specs.declared.rules.Rule.{Rule}
use Rattle.sh_base.specs.declared.rules.Rule.TheVariants.{P1}
use Rattle.sh_lex.specs.Tokens.{HasTokens, decimal_of, leading_value}
use Rattle.sh_lex.specs.declared.tokens.Token.{Token}
use Rattle.sh_lex.specs.declared.tokens.TokenKind.{TokenKind}
use Rattle.sh_lex.specs.declared.tokens.TokenKind.TheVariants.{Word, Val, At, Hash, Block, Bang, Number, Dim, Str, Sign, End}
use Rattle.sh_grammar.specs.Answer.{Begins, HasCode}
use Rattle.sh_grammar.specs.Grammar.{Trees, events, tokens}
use Rattle.sh_grammar.specs.Grammar.Trees.{nothing, token, form}
use Rattle.sh_grammar.specs.Language.{IsFile, IsFileFront, language, text_of_file}
use Rattle.sh_grammar.specs.Lexemes.{Lexeme, lexemes}
use Rattle.sh_grammar.specs.declared.forms.Form.TheVariants.{File, Aliases}
use Rattle.sh_grammar.specs.declared.symbols.Event.{Event}
use Rattle.sh_ir.specs.declared.linalg_ops.AffineMap.{AffineMap}
use Rattle.sh_ir.specs.declared.modules.Module.{Module}
use Rattle.sh_ir.specs.declared.types.Dim.TheVariants.{Known, Differs}
use Rattle.sh_build.specs.declared.parts.Alias.{Alias}
use Rattle.sh_build.specs.declared.parts.Part.{Part}
use Rattle.sh_build.specs.declared.parts.Part.TheVariants as part
use Rattle.sh_build.specs.Meaning.{made}
use Rattle.sh_names.specs.Names.{keep_rules, mentions, names_of, numbers_of, same_text}
use Rattle.sh_build.specs.Readings.{aliases_in}
use Rattle.sh_build.specs.Rows.{first_part}

-- ## What a tree stands for

-- the map of an alias
abbrev pub map_of : List Alias → List ℕ → AffineMap
map_of [] name = record { loops = []; results = [] }
map_of (a ∷ aliases) name = if same_text a.name name then a.map else map_of aliases name

-- a token, by its kind: with these aliases, and with the number of its name
abbrev pub leaf_by_kind : TokenKind → List Alias → Lexeme → ℕ → Part
leaf_by_kind Word aliases t id = part.Mark (record { id = id; place = t.place })
leaf_by_kind Val aliases t id = part.Mark (record { id = id; place = t.place })
leaf_by_kind At aliases t id = part.Symbol (drop 1 t.text)
leaf_by_kind Hash aliases t id =
    part.Alias (record { name = drop 1 t.text; map = map_of aliases (drop 1 t.text) })
leaf_by_kind Block aliases t id = part.Mark (record { id = id; place = t.place })
leaf_by_kind Bang aliases t id = part.Mark (record { id = id; place = t.place })
leaf_by_kind Number aliases t id = part.Number (decimal_of t.text)
leaf_by_kind Dim aliases t id =
    part.Dim (if same_text t.text (codes "?x") then Differs else Known (leading_value t.text))
leaf_by_kind Str aliases t id = part.Quoted (take (length t.text - 2) (drop 1 t.text))
leaf_by_kind Sign aliases t id = part.Mark (record { id = id; place = t.place })
leaf_by_kind End aliases t id = part.Mark (record { id = id; place = t.place })

abbrev pub leaf : List Alias → Lexeme → ℕ → Part
leaf aliases t id = leaf_by_kind t.kind aliases t id

-- the tokens with the numbers of their names
abbrev pub leaves : List Alias → List Lexeme → List ℕ → List Part
leaves aliases [] ids = []
leaves aliases (t ∷ ts) [] = []
leaves aliases (t ∷ ts) (id ∷ ids) = leaf aliases t id ∷ leaves aliases ts ids

-- the parts of a row of trees: of a token what it stands for, of a form what its row makes
abbrev pub parts_of : List Part → Trees → List Part
parts_of ls nothing = []
parts_of [] (token t behind) = part.Nothing ∷ parts_of [] behind
parts_of (l ∷ ls) (token t behind) = l ∷ parts_of ls behind
parts_of ls (form n i below behind) =
    made n i (parts_of ls below) ∷ parts_of (drop (length (tokens below)) ls) behind

-- the aliases at the head of a file
abbrev pub aliases_of : List Part → Trees → List Alias
aliases_of ls (form File i (form Aliases j heads contents) behind) =
    aliases_in (made Aliases j (parts_of ls heads))
aliases_of ls _ = []

-- what a file stands for, its names being numbered so
abbrev pub file_parts : List Lexeme → List ℕ → Trees → List Part
file_parts ts ids f = parts_of (leaves (aliases_of (leaves [] ts ids) f) ts ids) f

-- what a file stands for
abbrev pub file_part : List Lexeme → Trees → Part
file_part ts f = first_part (file_parts ts (numbers_of (names_of (mentions (events f) ts))) f)

-- The tokens stand for the module: they are a file, its names keep the rules, and its tree stands for
-- the module.
pub record TokensRead (ts : List Lexeme) (m : Module) : Type 0 where
  pub trees : Trees
  pub file : IsFile ts trees
  pub names : keep_rules (mentions (events trees) ts) ≡ true
  pub stands : file_part ts trees ≡ part.Module m

-- The text stands for the module.
pub record Reads (text : List ℕ) (m : Module) : Type 0 where
  pub tokens : List Token
  pub has : HasTokens text tokens
  pub read : TokensRead (lexemes text tokens) m

-- ## Where there is none

-- These tokens are a front of a file, and over the steps with which every such file begins their names
-- keep the rules, or don't.
pub record IsNamed (ts : List Lexeme) (kept : Bool) : Type 0 where
  pub front : IsFileFront ts
  pub steps : List Event
  pub begins : Begins language text_of_file ts steps
  pub keep : keep_rules (mentions steps ts) ≡ kept

-- With this token the tokens before it are no front of a file, and this is the code by which the
-- grammar refuses it; or they are, and it breaks a rule on names.
abbrev pub IsWrong : List Lexeme → ℕ → Lexeme → Rule → Type 0
IsWrong ts i t rule =
    ((IsFileFront (take (suc i) ts) → ⊥) × HasCode language text_of_file (take i ts) t rule)
    ⊎ (IsNamed (take (suc i) ts) false × (rule ≡ P1))

-- The tokens are refused at this one, the first that no reading goes on from.
pub record IsRefusedAt (ts : List Lexeme) (i : ℕ) (t : Lexeme) (rule : Rule) : Type 0 where
  pub at : slice_get ts i ≡ Some t
  pub before : IsNamed (take i ts) true
  pub wrong : IsWrong ts i t rule
