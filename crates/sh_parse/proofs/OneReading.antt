-- A text stands for at most one module: it has one list of tokens, and these have one tree.
use Rattle.std.proofs.Common.{◌≡◌, ℕ, List, ◌∙◌, ap, sym, subst}
use Rattle.sh_grammar.specs.Lexemes.{Lexeme, lexemes}
use Rattle.sh_grammar.proofs.OneLanguage.{only_tree}
use Rattle.sh_ir.specs.declared.modules.Module.{Module}
use Rattle.sh_lex.proofs.Uniqueness.{same_tokens}
use Rattle.sh_parse.specs.Reads.{Reads, TokensRead, file_part}
use Rattle.sh_build.specs.declared.parts.Part.{Part}
use Rattle.sh_build.specs.declared.parts.Part.TheVariants as part

-- the module of a part, where it is one
module_or : Module → Part → Module
module_or m (part.Module n) = n
module_or m _ = m

pub read_once : (ts : List Lexeme) (m n : Module) → TokensRead ts m → TokensRead ts n → m ≡ n
unfolding module_or
read_once ts m n r s =
    let trees : r.trees ≡ s.trees = only_tree ts r.trees s.trees r.file s.file in
    let parts : part.Module m ≡ part.Module n = sym r.stands ∙ ap (file_part ts) trees ∙ s.stands in
    ap (module_or m) parts

pub same_module : (text : List ℕ) (m n : Module) → Reads text m → Reads text n → m ≡ n
same_module text m n r s =
    let tokens : r.tokens ≡ s.tokens = same_tokens r.has s.has in
    read_once (lexemes text s.tokens) m n
    (subst (λ ts. TokensRead (lexemes text ts) m) tokens r.read) s.read
