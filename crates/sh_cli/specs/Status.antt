-- The statuses with which a program ends, and those of refusals.
use Rattle.std.specs.Prelude.{ℕ}
use Rattle.sh_admission.specs.declared.admission.ModuleRefusal.{ModuleRefusal}
use Rattle.sh_admission.specs.declared.admission.ModuleRefusal.TheVariants as admission
use Rattle.sh_base.specs.declared.rules.Rule.TheVariants.{B1, B2, B3}
use Rattle.sh_io.specs.declared.reading.ReadEnd.{ReadEnd}
use Rattle.sh_io.specs.declared.reading.ReadEnd.TheVariants as reading
use Rattle.sh_ir.specs.Rules.{refusal_at}
use Rattle.sh_lex.specs.declared.tokens.LexRefusal.{LexRefusal}
use Rattle.sh_lex.specs.declared.tokens.LexRefusal.TheVariants as lexer
use Rattle.sh_parse.specs.declared.refusals.ParseRefusal.{ParseRefusal}
use Rattle.sh_parse.specs.declared.refusals.ParseRefusal.TheVariants as reader
use Rattle.sh_verify.specs.declared.verification.VerifyRefusal.{VerifyRefusal}
use Rattle.sh_verify.specs.declared.verification.VerifyRefusal.TheVariants as verification
use Rattle.sh_cli.specs.declared.status.Passed.TheVariants.{Input}
use Rattle.sh_cli.specs.declared.status.Status.{Status}
use Rattle.sh_cli.specs.declared.status.Status.TheVariants.{Success, Usage, Text, Verify, Admission, Read, Write, Limit, Memory, Unbuilt}

-- the number with which the program ends
abbrev pub code_of : Status → ℕ
code_of Success = 0
code_of Usage = 2
code_of (Text refusal) = 3
code_of (Verify refusal) = 4
code_of (Admission refusal) = 5
code_of Read = 10
code_of Write = 11
code_of (Limit passed) = 12
code_of Memory = 13
code_of Unbuilt = 14

-- the status of an input that was not read to its end
abbrev pub read_status : ReadEnd → Status
read_status reading.Fault = Read
read_status reading.TooLong = Limit Input
read_status reading.Mem = Memory

-- of a text without tokens
abbrev pub lex_status : LexRefusal → Status
lex_status (lexer.BadByte place) = Text (refusal_at place B1)
lex_status (lexer.OpenString place) = Text (refusal_at place B2)
lex_status (lexer.NumberTooWide place) = Text (refusal_at place B3)
lex_status lexer.Mem = Memory

-- of tokens that stand for no module
abbrev pub parse_status : ParseRefusal → Status
parse_status (reader.At refusal) = Text refusal
parse_status reader.Mem = Memory

-- of a module that breaks a rule
abbrev pub verify_status : VerifyRefusal → Status
verify_status (verification.Broken refusal) = Verify refusal
verify_status verification.Mem = Memory

-- of a module with a sharding that isn't admitted
abbrev pub admit_status : ModuleRefusal → Status
admit_status (admission.Broken refusal) = Admission refusal
admit_status admission.Mem = Memory
