-- Tokens as the grammar sees them: by kind and text, sorted into numbered classes. A keyword keeps
-- its number: words are only appended.
use Prim.Native.String.{String}
use Rattle.std.specs.Prelude.{ℕ, suc, ◌+◌, ◌-◌, cond, nat_eq, List, [], ◌∷◌, ◌++◌, length, take, drop, map, codes}
use Rattle.std.specs.Cmp.Lexicographic.{pointwise}
use Rattle.sh_base.specs.declared.places.Place.{Place}
use Rattle.sh_lex.specs.declared.tokens.Token.{Token}
use Rattle.sh_lex.specs.declared.tokens.TokenKind.{TokenKind}
use Rattle.sh_lex.specs.declared.tokens.TokenKind.TheVariants.{Word, Val, At, Hash, Block, Bang, Number, Dim, Str, Sign, End}

-- a token by its kind, its bytes and where it stands
pub record Lexeme : Type 0 where
  pub kind : TokenKind
  pub text : List ℕ
  pub place : Place

-- a token of a text
abbrev pub lexeme_of : List ℕ → Token → Lexeme
lexeme_of text t = record {
  kind = t.kind;
  text = take (t.end - t.start) (drop t.start text);
  place = t.place;
}

abbrev pub lexemes : List ℕ → List Token → List Lexeme
lexemes text = map (lexeme_of text)

-- the signs that stand for themselves
unfoldable pub signs : List (List ℕ)
signs =
    codes "," ∷ codes ":" ∷ codes "=" ∷ codes "(" ∷ codes ")" ∷ codes "<" ∷ codes ">"
    ∷ codes "->" ∷ codes "[" ∷ codes "]" ∷ codes "{" ∷ codes "}" ∷ codes "-" ∷ []

unfoldable pub dims : List (List ℕ)
dims = codes "?x" ∷ []

unfoldable pub bangs : List (List ℕ)
bangs = codes "!shard.sharding" ∷ []

unfoldable pub hashes : List (List ℕ)
hashes = codes "#arith.overflow" ∷ []

-- the words of the language
unfoldable pub words : List (List ℕ)
words =
    codes "i32" ∷ codes "tensor" ∷ codes "i8" ∷ codes "i1" ∷ codes "i16" ∷ codes "i64" ∷
    codes "ins" ∷ codes "outs" ∷ codes "linalg.matmul" ∷ codes "arith.constant" ∷ codes "dense" ∷
    codes "to" ∷ codes "true" ∷ codes "false" ∷ codes "shard.shard" ∷ codes "shard.sharding" ∷
    codes "split_axes" ∷ codes "linalg.fill" ∷ codes "tensor.empty" ∷ codes "arith.addi" ∷
    codes "arith.subi" ∷ codes "arith.muli" ∷ codes "arith.andi" ∷ codes "arith.ori" ∷
    codes "arith.xori" ∷ codes "arith.maxsi" ∷ codes "arith.minsi" ∷ codes "arith.maxui" ∷
    codes "arith.minui" ∷ codes "arith.divui" ∷ codes "arith.remui" ∷ codes "arith.divsi" ∷
    codes "arith.remsi" ∷ codes "arith.shli" ∷ codes "arith.shrui" ∷ codes "arith.shrsi" ∷
    codes "arith.cmpi" ∷ codes "eq" ∷ codes "ne" ∷ codes "slt" ∷ codes "sle" ∷ codes "sgt" ∷
    codes "sge" ∷ codes "ult" ∷ codes "ule" ∷ codes "ugt" ∷ codes "uge" ∷ codes "arith.select" ∷
    codes "arith.extsi" ∷ codes "arith.extui" ∷ codes "arith.trunci" ∷
    codes "tensor.extract_slice" ∷ codes "tensor.insert_slice" ∷ codes "into" ∷
    codes "tensor.collapse_shape" ∷ codes "tensor.expand_shape" ∷ codes "output_shape" ∷
    codes "linalg.batch_matmul" ∷ codes "linalg.matvec" ∷ codes "linalg.vecmat" ∷
    codes "linalg.dot" ∷ codes "linalg.conv_1d" ∷ codes "linalg.conv_2d" ∷
    codes "linalg.transpose" ∷ codes "permutation" ∷ codes "linalg.broadcast" ∷
    codes "dimensions" ∷ codes "linalg.reduce" ∷ codes "linalg.generic" ∷ codes "indexing_maps" ∷
    codes "iterator_types" ∷ codes "linalg.yield" ∷ codes "affine_map" ∷ codes "overflowFlags" ∷
    codes "none" ∷ codes "annotate_for_users" ∷ codes "on" ∷ codes "grid_axes" ∷
    codes "shard.all_gather" ∷ codes "gather_axis" ∷ codes "shard.all_slice" ∷
    codes "slice_axis" ∷ codes "shard.all_reduce" ∷ codes "reduction" ∷
    codes "shard.reduce_scatter" ∷ codes "scatter_axis" ∷ codes "sum" ∷ codes "product" ∷
    codes "max" ∷ codes "min" ∷ codes "bitwise_and" ∷ codes "bitwise_or" ∷ codes "bitwise_xor" ∷
    codes "shard.all_to_all" ∷ codes "split_axis" ∷ codes "concat_axis" ∷ codes "shard.shift" ∷
    codes "shift_axis" ∷ codes "offset" ∷ codes "rotate" ∷ codes "shard.update_halo" ∷
    codes "shardrun.take" ∷ codes "axis" ∷ codes "starts" ∷ codes "sizes" ∷ codes "shardrun.pad" ∷
    codes "low" ∷ codes "high" ∷ codes "shardrun.join" ∷ codes "module" ∷ codes "shard.grid" ∷
    codes "shape" ∷ codes "shardrun.call" ∷ codes "shardrun.device" ∷ codes "halo_sizes" ∷
    codes "sharded_dims_offsets" ∷ codes "func.func" ∷ codes "private" ∷ codes "public" ∷
    codes "return" ∷ codes "func.return" ∷ codes "call" ∷ codes "func.call" ∷
    codes "linalg.index" ∷ codes "arith.index_cast" ∷ codes "index" ∷ []

-- the tokens of a kind that stand for themselves, its keywords
abbrev pub keywords_of : TokenKind → List (List ℕ)
keywords_of Sign = signs
keywords_of Dim = dims
keywords_of Bang = bangs
keywords_of Hash = hashes
keywords_of Word = words
keywords_of _ = []

-- the keywords before those of a kind, in the order of their classes
abbrev pub keywords_before : TokenKind → List (List ℕ)
keywords_before Sign = []
keywords_before Dim = signs
keywords_before Bang = signs ++ dims
keywords_before Hash = signs ++ dims ++ bangs
keywords_before Word = signs ++ dims ++ bangs ++ hashes
keywords_before _ = []

abbrev pub keywords : List (List ℕ)
keywords = keywords_before Word ++ words

-- the place of a text among these, counted from k, or else d
abbrev pub number_in : List (List ℕ) → ℕ → List ℕ → ℕ → ℕ
number_in [] k text d = d
number_in (w ∷ ws) k text d = cond (pointwise nat_eq w text) k (number_in ws (suc k) text d)

-- the classes of the tokens that are no keywords: one for each kind
abbrev pub class_of_kind : TokenKind → ℕ
class_of_kind Word = 0
class_of_kind Val = 1
class_of_kind At = 2
class_of_kind Hash = 3
class_of_kind Block = 4
class_of_kind Bang = 5
class_of_kind Number = 6
class_of_kind Dim = 7
class_of_kind Str = 8
class_of_kind Sign = 9
class_of_kind End = 10

-- the class of a kind's first keyword
unfoldable pub first_class : TokenKind → ℕ
first_class kind = 11 + length (keywords_before kind)

-- the number of classes
unfoldable pub class_count : ℕ
class_count = 11 + length keywords

-- the class of a keyword, by its text
abbrev pub class_of_keyword : List ℕ → ℕ
class_of_keyword text = number_in keywords 11 text class_count

-- A text with a class of its own.
pub record Spelling : Type 0 where
  pub text : List ℕ
  pub class : ℕ

-- these keywords, with the classes from k on
abbrev pub numbered : List (List ℕ) → ℕ → List Spelling
numbered [] k = []
numbered (w ∷ ws) k = record { text = w; class = k } ∷ numbered ws (suc k)

-- a former spelling, with the class of the present one
abbrev pub former : String → String → Spelling
former old present = record { text = codes old; class = class_of_keyword (codes present) }

-- the words of the dialect's former name
unfoldable pub former_words : List Spelling
former_words =
    former "mesh.mesh" "shard.grid"
    ∷ former "mesh.sharding" "shard.sharding"
    ∷ former "mesh.shard" "shard.shard"
    ∷ former "mesh.all_gather" "shard.all_gather"
    ∷ former "mesh.all_slice" "shard.all_slice"
    ∷ former "mesh.all_reduce" "shard.all_reduce"
    ∷ former "mesh.reduce_scatter" "shard.reduce_scatter"
    ∷ former "mesh.all_to_all" "shard.all_to_all"
    ∷ former "mesh.shift" "shard.shift"
    ∷ former "mesh_axes" "grid_axes"
    ∷ []

unfoldable pub former_bangs : List Spelling
former_bangs = former "!mesh.sharding" "!shard.sharding" ∷ []

abbrev pub former_of : TokenKind → List Spelling
former_of Word = former_words
former_of Bang = former_bangs
former_of _ = []

-- the tokens of a kind that have a class of their own, in either spelling
abbrev pub spellings_of : TokenKind → List Spelling
spellings_of kind = numbered (keywords_of kind) (first_class kind) ++ former_of kind

-- the class of a text among these, or else d
abbrev pub class_in : List Spelling → List ℕ → ℕ → ℕ
class_in [] text d = d
class_in (s ∷ ss) text d = cond (pointwise nat_eq s.text text) s.class (class_in ss text d)

-- Each keyword is a class of its own, with its former spelling, and so are the other tokens of each
-- kind.
unfoldable pub class_of : Lexeme → ℕ
class_of l = class_in (spellings_of l.kind) l.text (class_of_kind l.kind)
