-- What the program answers to command words and a text: the status with its error line, and the
-- text for the output.
use Rattle.std.specs.Prelude.{◌≡◌, ℕ, List, [], Bool, true, false, not, ◌||◌, is_some, nat_eq, length}
use Rattle.std.specs.List.{list_any}
use Rattle.sh_base.specs.declared.places.Place.{Place}
use Rattle.sh_base.specs.declared.places.Refusal.{Refusal}
use Rattle.sh_base.specs.declared.rules.Rule.TheVariants.{B1, B2, B3}
use Rattle.sh_admission.specs.Faults.{IsRefused as IsNotAdmitted}
use Rattle.sh_ir.specs.declared.functions.Func.{Func}
use Rattle.sh_ir.specs.declared.modules.Module.{Module}
use Rattle.sh_ir.specs.declared.operations.OpKind.{OpKind}
use Rattle.sh_ir.specs.Faults.{limit_faults}
use Rattle.sh_ir.specs.Rules.{refusal_at}
use Rattle.sh_ir.specs.Written.{written_by}
use Rattle.sh_grammar.specs.Lexemes.{Lexeme, lexemes}
use Rattle.sh_lex.specs.Tokens.{HasTokens, IsRefused}
use Rattle.sh_lex.specs.declared.tokens.LexRefusal.TheVariants.{BadByte, OpenString, NumberTooWide}
use Rattle.sh_lex.specs.declared.tokens.Token.{Token}
use Rattle.sh_parse.specs.Reads.{IsRefusedAt, Reads}
use Rattle.sh_print.specs.Tokens as print
use Rattle.sh_verify.specs.Least.{IsLeast, by_place}
use Rattle.sh_verify.specs.Verified.{IsLeastFault, IsVerified}
use Rattle.sh_words.specs.Meaning.{AreOptionsOf}
use Rattle.sh_words.specs.Tables.{accepts}
use Rattle.sh_words.specs.declared.options.Options.{Options}
use Rattle.sh_words.specs.declared.options.Tool.{Tool}
use Rattle.sh_words.specs.declared.options.Tool.TheVariants.{Opt, Run}
use Rattle.sh_cli.specs.VectorSum.{IsVectorSum, IsDivisible, partitioned_text}
use Rattle.sh_cli.specs.declared.status.Passed.TheVariants.{At}
use Rattle.sh_cli.specs.declared.status.Status.{Status}
use Rattle.sh_cli.specs.declared.status.Status.TheVariants.{Success, Usage, Text, Verify, Admission, Limit, Unbuilt}

-- ---- the text

-- the text isn't one of the language, and this is its first fault
pub data IsNoText (text : List ℕ) : Refusal → Type 0 where
  by_byte : (place : Place) → IsRefused text (BadByte place) → IsNoText text (refusal_at place B1)
  by_string : (place : Place) → IsRefused text (OpenString place)
      → IsNoText text (refusal_at place B2)
  by_number : (place : Place) → IsRefused text (NumberTooWide place)
      → IsNoText text (refusal_at place B3)
  by_token : (tokens : List Token) (i : ℕ) (t : Lexeme) (r : Refusal) → HasTokens text tokens
      → IsRefusedAt (lexemes text tokens) i t r.rule → r.place ≡ t.place → IsNoText text r

-- ---- the module

-- whether an operation calls a function
unfoldable pub is_call : OpKind → Bool
is_call kind = not (nat_eq (length (written_by kind).callees) 0)

abbrev pub calls : Func → Bool
calls f = list_any (λ op. is_call op.kind) f.ops

abbrev pub has_call : Module → Bool
has_call m = list_any calls m.funcs

-- within the limits, without a call, and by the rules
pub record IsSound (m : Module) : Type 0 where
  pub within : limit_faults m ≡ []
  pub no_call : has_call m ≡ false
  pub verified : IsVerified m

-- the module isn't printed: the status says why
pub data IsTurnedDown (m : Module) : Status → Type 0 where
  over_limit : (r : Refusal) → IsLeast by_place (limit_faults m) r → IsTurnedDown m (Limit (At r))
  with_call : limit_faults m ≡ [] → has_call m ≡ true → IsTurnedDown m Unbuilt
  by_rule : (r : Refusal) → limit_faults m ≡ [] → has_call m ≡ false → IsLeastFault m r
      → IsTurnedDown m (Verify r)
  by_admission : (r : Refusal) → IsSound m → IsNotAdmitted m false r
      → IsTurnedDown m (Admission r)

-- ---- the passes

-- without a pass the module of a text is read, checked and printed
pub data IsPrinting (text : List ℕ) : Status → List ℕ → Type 0 where
  no_text : (r : Refusal) → IsNoText text r → IsPrinting text (Text r) []
  no_module : (m : Module) (status : Status) → Reads text m → IsTurnedDown m status
      → IsPrinting text status []
  prints : (m : Module) → Reads text m → IsSound m → ((r : Refusal) → ¬ (IsNotAdmitted m false r))
      → IsPrinting text Success (print.text_of m)

-- a text isn't of the one form that is partitioned, with parts of one size
abbrev pub IsOfNoForm : List ℕ → Type 0
IsOfNoForm text =
    (extent devices : ℕ) → IsVectorSum text extent devices → ¬ (IsDivisible extent devices)

pub data IsPartitioning (text : List ℕ) : Status → List ℕ → Type 0 where
  partitions : (extent devices : ℕ) → IsVectorSum text extent devices → IsDivisible extent devices
      → IsPartitioning text Success (partitioned_text extent devices)
  unbuilt : IsOfNoForm text → IsPartitioning text Unbuilt []

-- ---- the program

-- the words ask for what isn't built
abbrev pub asks_unbuilt : Tool → Options → Bool
asks_unbuilt Opt o = is_some o.propagate || (o.simplify || o.halo_to_shift)
asks_unbuilt Run o = true

-- The answer to the tool's words and a text: the status, whose error line `line_of` gives, and the
-- text for the output.
pub data IsAnswer (tool : Tool) (words : List (List ℕ)) (text : List ℕ) : Status → List ℕ → Type 0 where
  not_accepted : accepts tool words ≡ false → IsAnswer tool words text Usage []
  not_built : (o : Options) → AreOptionsOf tool words o → asks_unbuilt tool o ≡ true
      → IsAnswer tool words text Unbuilt []
  partitioning : (o : Options) (status : Status) (output : List ℕ) → AreOptionsOf tool words o
      → asks_unbuilt tool o ≡ false → o.partition ≡ true → IsPartitioning text status output
      → IsAnswer tool words text status output
  printing : (o : Options) (status : Status) (output : List ℕ) → AreOptionsOf tool words o
      → asks_unbuilt tool o ≡ false → o.partition ≡ false → IsPrinting text status output
      → IsAnswer tool words text status output
