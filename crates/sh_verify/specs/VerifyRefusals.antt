-- What a refusal of `verify` says; want of memory says nothing.
use Rattle.sh_ir.specs.declared.modules.Module.{Module}
use Rattle.sh_verify.specs.declared.verification.VerifyRefusal.{VerifyRefusal}
use Rattle.sh_verify.specs.declared.verification.VerifyRefusal.TheVariants.{Broken, Mem}
use Rattle.sh_verify.specs.Verified.{IsLeastFault}

abbrev pub IsRefusal : VerifyRefusal → Module → Type 0
IsRefusal (Broken refusal) m = IsLeastFault m refusal
IsRefusal Mem m = Unit {0}
