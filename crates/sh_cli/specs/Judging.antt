-- What a refusal of a text, or of its module, says; want of memory says nothing.
use Rattle.std.specs.Prelude.{ℕ, List}
use Rattle.sh_ir.specs.declared.modules.Module.{Module}
use Rattle.sh_cli.specs.Answer.{IsNoText, IsTurnedDown}
use Rattle.sh_cli.specs.Ending.{Refuses}
use Rattle.sh_cli.specs.declared.status.Status.{Status}
use Rattle.sh_cli.specs.declared.status.Status.TheVariants.{Success, Usage, Text, Verify, Admission, Read, Write, Limit, Memory, Unbuilt}

-- the text stands for no module
abbrev pub IsNoModule : List ℕ → Status → Type 0
IsNoModule text Success = ⊥
IsNoModule text Usage = ⊥
IsNoModule text (Text r) = IsNoText text r
IsNoModule text (Verify r) = ⊥
IsNoModule text (Admission r) = ⊥
IsNoModule text Read = ⊥
IsNoModule text Write = ⊥
IsNoModule text (Limit passed) = ⊥
IsNoModule text Memory = Unit {0}
IsNoModule text Unbuilt = ⊥

-- the module isn't printed
abbrev pub TurnsDown : Module → Status → Type 0
TurnsDown m status = Refuses (λ s output. IsTurnedDown m s) status
