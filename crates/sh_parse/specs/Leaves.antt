-- What single tokens stand for, and the maps of aliases in a table.
use Rattle.std.specs.Prelude.{◌≡◌, ℕ, ◌-◌, List, [], ◌++◌, length, take, drop, codes, option_map, unwrap_or, if◌then◌else◌}
use Rattle.indexmap.specs.IndexMap as index_map
use Rattle.sh_build.specs.Building.{parts_by}
use Rattle.sh_build.specs.declared.parts.Alias.{Alias}
use Rattle.sh_build.specs.declared.parts.Part.{Part}
use Rattle.sh_build.specs.declared.parts.Part.TheVariants as part
use Rattle.sh_grammar.specs.Lexemes.{Lexeme, lexemes}
use Rattle.sh_grammar.specs.declared.symbols.Event.{Event}
use Rattle.sh_ir.specs.declared.linalg_ops.AffineMap.{AffineMap}
use Rattle.sh_ir.specs.declared.types.Dim as dim
use Rattle.sh_ir.specs.declared.types.Dim.TheVariants.{Known, Differs}
use Rattle.sh_lex.specs.Tokens.{leading_value}
use Rattle.sh_lex.specs.declared.tokens.Token.{Token}
use Rattle.sh_names.specs.Names.{same_text}
use Rattle.sh_names.specs.Tables.{AreWithin, tooks}
use Rattle.sh_parse.specs.Reads.{leaves, map_of}
use Rattle.sh_parse.specs.declared.maps.Maps.{Maps}

abbrev pub dim_of : List ℕ → dim.Dim
dim_of text = if same_text text (codes "?x") then Differs else Known (leading_value text)

abbrev pub inside_of : List ℕ → List ℕ
inside_of text = take (length text - 2) (drop 1 text)

abbrev pub alias_of : List Alias → List ℕ → Part
alias_of aliases name = part.Alias (record { name = name; map = map_of aliases name })

-- the map of a name by the table
abbrev pub map_at : Maps → List ℕ → AffineMap
map_at maps name = unwrap_or
    (option_map (λ map. map.now) (index_map.get_by (λ key. same_text name key.now) maps.by_name))
    (record { loops = []; results = [] })

abbrev pub AreMapsOf : Maps → List Alias → Type 0
AreMapsOf maps aliases = (name : List ℕ) → map_at maps name ≡ map_of aliases name

-- the table has the maps of the aliases behind these
pub record HasLater (maps : Maps) (aliases : List Alias) (front : List Alias) : Type 0 where
  pub later : List Alias
  pub all : front ++ later ≡ aliases
  pub has : AreMapsOf maps later

-- ## Parts, made from the last step to the first

-- So far is the row made: these steps, tokens and numbers are left.
pub record IsRowTo (text : List ℕ) (tokens : List Token) (ids : List ℕ) (maps : Maps)
    (events : List Event) (row : List Part) (es : List Event) (ts : List Token) (ns : List ℕ) : Type 0 where
  pub behind : List Event
  pub later : List Lexeme
  pub numbers : List ℕ
  pub steps : es ++ behind ≡ events
  pub lexed : lexemes text ts ++ later ≡ lexemes text tokens
  pub named : ns ++ numbers ≡ ids
  pub counted : tooks es ≡ length ts
  pub paired : length ns ≡ length ts
  pub within : AreWithin text ts
  pub made : (aliases : List Alias) → AreMapsOf maps aliases
      → row ≡ parts_by behind (leaves aliases later numbers) []
