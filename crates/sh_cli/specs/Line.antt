-- The error line.
use Rattle.std.specs.Prelude.{◌≡◌, ℕ, List, [], ◌++◌, Option, take, codes}
use Rattle.std.specs.Fmt.{decimal}
use Rattle.std.specs.Io.KnownBytes.{Appends}
use Rattle.sh_base.specs.Rules as rules
use Rattle.sh_base.specs.declared.places.Refusal.{Refusal}
use Rattle.sh_io.specs.Causes.{Rose}
use Rattle.sh_words.specs.declared.options.Tool.{Tool}
use Rattle.sh_words.specs.declared.options.Tool.TheVariants.{Opt, Run}
use Rattle.sh_cli.specs.declared.line.Piece.{Piece}
use Rattle.sh_cli.specs.declared.line.Piece.TheVariants.{Word, Number}
use Rattle.sh_cli.specs.declared.status.Passed.TheVariants.{Input, At}
use Rattle.sh_cli.specs.declared.status.Status.{Status}
use Rattle.sh_cli.specs.declared.status.Status.TheVariants.{Success, Usage, Text, Verify, Admission, Read, Write, Limit, Memory, Unbuilt}

abbrev pub name_of : Tool → List ℕ
name_of Opt = codes "shard-opt"
name_of Run = codes "shard-run"

-- `V3 at 4:5` and a line feed
abbrev pub fault_text : Refusal → List ℕ
fault_text r =
    rules.code_of r.rule ++ codes " at " ++ decimal r.place.line ++ codes ":"
    ++ decimal r.place.column ++ codes "\n"

-- what the error line says of a refusal, its line feed included
abbrev pub cause_of : Status → List ℕ
cause_of Success = []
cause_of Usage = codes "2 usage\n"
cause_of (Text refusal) = codes "3 " ++ fault_text refusal
cause_of (Verify refusal) = codes "4 " ++ fault_text refusal
cause_of (Admission refusal) = codes "5 " ++ fault_text refusal
cause_of Read = codes "10 read\n"
cause_of Write = codes "11 write\n"
cause_of (Limit Input) = codes "12 L1\n"
cause_of (Limit (At refusal)) = codes "12 " ++ fault_text refusal
cause_of Memory = codes "13 memory\n"
cause_of Unbuilt = codes "14 unbuilt\n"

-- the error line: the program's name and the refusal
abbrev pub line_of : Tool → Status → List ℕ
line_of tool Success = []
line_of tool status = name_of tool ++ codes ": error " ++ cause_of status

-- ---- as it is written, piece by piece

abbrev pub spelled : Piece → List ℕ
spelled (Word text) = text.now
spelled (Number n) = decimal n

-- what was written to the error output: the line, or a prefix of it where the error output failed
pub record WritesLine (line : List ℕ) (old new : Option (List ℕ)) (old_faults new_faults : ℕ) : Type 0 where
  pub count : ℕ
  pub appends : Appends old new (take count line)
  pub whole : (¬ (Rose old_faults new_faults)) → take count line ≡ line
