-- What the refusals of the lexer, the reader, the verification and the admission say, as statuses.
use Rattle.std.proofs.Common.{◌≡◌, ◌≢◌, List, ℕ, [], false, Result, Ok, Err, subst, sym}
use Rattle.std.specs.Prelude.{IfErr, IsErrAnd}
use Rattle.sh_admission.specs.Refusals as admission
use Rattle.sh_admission.specs.declared.admission.ModuleRefusal.{ModuleRefusal}
use Rattle.sh_admission.specs.declared.admission.ModuleRefusal.TheVariants.{Broken as NotAdmitted, Mem as AdmissionMem}
use Rattle.sh_grammar.specs.Lexemes.{lexemes}
use Rattle.sh_ir.specs.Faults.{limit_faults}
use Rattle.sh_ir.specs.declared.modules.Module.{Module}
use Rattle.sh_lex.specs.Tokens.{HasTokens, IsRefused}
use Rattle.sh_lex.specs.declared.tokens.LexRefusal.{LexRefusal}
use Rattle.sh_lex.specs.declared.tokens.LexRefusal.TheVariants.{BadByte, OpenString, NumberTooWide, Mem}
use Rattle.sh_lex.specs.declared.tokens.Token.{Token}
use Rattle.sh_parse.specs.Answers.{IsRefusal}
use Rattle.sh_parse.specs.Reads.{Reads}
use Rattle.sh_parse.specs.declared.refusals.ParseRefusal.{ParseRefusal}
use Rattle.sh_parse.specs.declared.refusals.ParseRefusal.TheVariants.{At as AtToken, Mem as ParseMem}
use Rattle.sh_verify.specs.VerifyRefusals as verification
use Rattle.sh_verify.specs.declared.verification.VerifyRefusal.{VerifyRefusal}
use Rattle.sh_verify.specs.declared.verification.VerifyRefusal.TheVariants.{Broken, Mem as VerifyMem}
use Rattle.sh_cli.specs.Answer.{IsPrinting, IsSound, has_call}
use Rattle.sh_cli.specs.Answer.IsNoText.{by_byte, by_number, by_string, by_token}
use Rattle.sh_cli.specs.Answer.IsPrinting.{no_module, no_text}
use Rattle.sh_cli.specs.Answer.IsTurnedDown.{by_admission, by_rule}
use Rattle.sh_cli.specs.Ending.{Refuses}
use Rattle.sh_cli.specs.Judging.{IsNoModule, TurnsDown}
use Rattle.sh_cli.specs.Status.{admit_status, lex_status, parse_status, verify_status}
use Rattle.sh_cli.specs.declared.status.Passed.TheVariants.{At, Input}
use Rattle.sh_cli.specs.declared.status.Status.{Status}
use Rattle.sh_cli.specs.declared.status.Status.TheVariants.{Success, Usage, Text, Verify, Admission, Read, Write, Limit, Memory, Unbuilt}

-- what is said of the one error that is answered
pub refused_by : {T E : Type 0} (r : Result T E) (P : E → Type 0) (status : E) → IsErrAnd r (λ e. e ≡ status) → P status → IfErr r P
refused_by (Ok x) P status is fact = tt
refused_by (Err e) P status is fact = subst P (sym is) fact

pub no_tokens : (text : List ℕ) (why : LexRefusal) → (why ≢ Mem → IsRefused text why) → IsNoModule text (lex_status why)
no_tokens text (BadByte place) refused = by_byte place (refused (λ e. absurd (cc)))
no_tokens text (OpenString place) refused = by_string place (refused (λ e. absurd (cc)))
no_tokens text (NumberTooWide place) refused = by_number place (refused (λ e. absurd (cc)))
no_tokens text Mem refused = tt

pub not_parsed : (text : List ℕ) (tokens : List Token) (why : ParseRefusal) → HasTokens text tokens
    → IsRefusal (lexemes text tokens) why → IsNoModule text (parse_status why)
not_parsed text tokens (AtToken r) has (i, t, refused, place) = by_token tokens i t r has refused place
not_parsed text tokens ParseMem has refused = tt

pub not_verified : (m : Module) (why : VerifyRefusal) → limit_faults m ≡ [] → has_call m ≡ false
    → verification.IsRefusal why m → TurnsDown m (verify_status why)
not_verified m (Broken r) within none refused = by_rule r within none refused
not_verified m VerifyMem within none refused = tt

pub not_admitted : (m : Module) (why : ModuleRefusal) → IsSound m → admission.IsRefusal why m false
    → TurnsDown m (admit_status why)
not_admitted m (NotAdmitted r) sound refused = by_admission r sound refused
not_admitted m AdmissionMem sound refused = tt

-- ---- a text

pub no_text_refuses : (text : List ℕ) (status : Status) → IsNoModule text status → Refuses (IsPrinting text) status
no_text_refuses text Success none = none
no_text_refuses text Usage none = none
no_text_refuses text (Text r) none = no_text r none
no_text_refuses text (Verify r) none = absurd none
no_text_refuses text (Admission r) none = absurd none
no_text_refuses text Read none = none
no_text_refuses text Write none = none
no_text_refuses text (Limit Input) none = none
no_text_refuses text (Limit (At r)) none = absurd none
no_text_refuses text Memory none = tt
no_text_refuses text Unbuilt none = absurd none

pub module_refuses : (text : List ℕ) (m : Module) (status : Status) → Reads text m → TurnsDown m status → Refuses (IsPrinting text) status
module_refuses text m Success read down = down
module_refuses text m Usage read down = down
module_refuses text m (Text r) read down = no_module m (Text r) read down
module_refuses text m (Verify r) read down = no_module m (Verify r) read down
module_refuses text m (Admission r) read down = no_module m (Admission r) read down
module_refuses text m Read read down = down
module_refuses text m Write read down = down
module_refuses text m (Limit Input) read down = down
module_refuses text m (Limit (At r)) read down = no_module m (Limit (At r)) read down
module_refuses text m Memory read down = tt
module_refuses text m Unbuilt read down = no_module m Unbuilt read down
