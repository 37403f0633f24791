-- What a refusal of `admit_module` says; want of memory says nothing.
use Rattle.std.specs.Prelude.{Bool}
use Rattle.sh_ir.specs.declared.modules.Module.{Module}
use Rattle.sh_admission.specs.Faults.{IsRefused}
use Rattle.sh_admission.specs.declared.admission.ModuleRefusal.{ModuleRefusal}
use Rattle.sh_admission.specs.declared.admission.ModuleRefusal.TheVariants.{Broken, Mem}

abbrev pub IsRefusal : ModuleRefusal → Module → Bool → Type 0
IsRefusal (Broken refusal) m need_grid = IsRefused m need_grid refusal
IsRefusal Mem m need_grid = Unit {0}
