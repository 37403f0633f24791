-- How a run of a program ends: what it takes from its source and what it writes.
use Rattle.std.specs.Prelude.{◌≡◌, ℕ, ◌+◌, ◌≤◌, ◌↔◌, List, [], Bool, true, false, Option, length}
use Rattle.std.specs.Io.KnownBytes.{Appends, Consumes, IsAtEnd, Keeps}
use Rattle.sh_base.specs.Limits.{max_bytes}
use Rattle.sh_io.specs.Writing.{AppendsFront}
use Rattle.sh_cli.specs.Answer.{IsPartitioning, IsPrinting}
use Rattle.sh_cli.specs.declared.status.Passed.TheVariants.{Input, At}
use Rattle.sh_cli.specs.declared.status.Status.{Status}
use Rattle.sh_cli.specs.declared.status.Status.TheVariants.{Success, Usage, Text, Verify, Admission, Read, Write, Limit, Memory, Unbuilt}

-- the status speaks of the whole text
abbrev pub IsJudged : Status → Type 0
IsJudged Success = Unit {0}
IsJudged Usage = ⊥
IsJudged (Text r) = Unit {0}
IsJudged (Verify r) = Unit {0}
IsJudged (Admission r) = Unit {0}
IsJudged Read = ⊥
IsJudged Write = Unit {0}
IsJudged (Limit Input) = ⊥
IsJudged (Limit (At r)) = Unit {0}
IsJudged Memory = ⊥
IsJudged Unbuilt = Unit {0}

-- What was taken from the source: never more than one byte past the most, that much exactly where the
-- status is that of too long an input, and all where the text was judged.
pub record Takes (status : Status) (old new : Option (List ℕ)) : Type 0 where
  pub taken : List ℕ
  pub consumes : Consumes old new taken
  pub few : length taken ≤ max_bytes + 1
  pub too_long : (status ≡ Limit Input) ↔ (length taken ≡ max_bytes + 1)
  pub whole : IsJudged status → IsAtEnd new

-- What was written to the output, by what can be answered (`P`, of a status and a text for the output):
-- the whole text, a proper prefix of it, or nothing.
abbrev pub Writes : (Status → List ℕ → Type 0) → Status → Option (List ℕ) → Option (List ℕ) → Type 0
Writes P Success old new = (output : List ℕ) × P Success output × Appends old new output
Writes P Write old new = (output : List ℕ) × P Success output × AppendsFront old new output
Writes P Usage old new = P Usage [] × Keeps old new
Writes P (Text r) old new = P (Text r) [] × Keeps old new
Writes P (Verify r) old new = P (Verify r) [] × Keeps old new
Writes P (Admission r) old new = P (Admission r) [] × Keeps old new
Writes P (Limit (At r)) old new = P (Limit (At r)) [] × Keeps old new
Writes P Unbuilt old new = P Unbuilt [] × Keeps old new
Writes P Read old new = Keeps old new
Writes P (Limit Input) old new = Keeps old new
Writes P Memory old new = Keeps old new

-- a refusal of a text, by what can be answered; want of memory says nothing
abbrev pub Refuses : (Status → List ℕ → Type 0) → Status → Type 0
Refuses P Success = ⊥
Refuses P Usage = ⊥
Refuses P Read = ⊥
Refuses P Write = ⊥
Refuses P (Limit Input) = ⊥
Refuses P Memory = Unit {0}
Refuses P (Text r) = P (Text r) []
Refuses P (Verify r) = P (Verify r) []
Refuses P (Admission r) = P (Admission r) []
Refuses P (Limit (At r)) = P (Limit (At r)) []
Refuses P Unbuilt = P Unbuilt []

-- the status can follow where the whole text was read
abbrev pub IsJudgement : Status → Type 0
IsJudgement Memory = Unit {0}
IsJudgement status = IsJudged status

-- what a text is rewritten to, with `--partition` or without a pass
abbrev pub IsRewriting : Bool → List ℕ → Status → List ℕ → Type 0
IsRewriting true text = IsPartitioning text
IsRewriting false text = IsPrinting text
