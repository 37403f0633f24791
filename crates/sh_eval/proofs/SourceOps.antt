-- A function in source form of a verified module, and its operations where they stand.
use Rattle.std.proofs.Common.{◌≡◌, ℕ, take, Some, None, ap}
use Rattle.std.specs.Option.{option_map_or}
use Rattle.std.specs.Prelude.{slice_get}
use Rattle.sh_collectives.proofs.VerifiedLaws.{verified_op}
use Rattle.sh_collectives.specs.DeviceForms.{IsVerifiedFunc}
use Rattle.sh_collectives.specs.VerifiedOps.{IsOfVerifiedOp}
use Rattle.sh_ir.proofs.KeptLaws.{scope_behind}
use Rattle.sh_ir.specs.Scope.{scope_of}
use Rattle.sh_ir.specs.declared.functions.Func.{Func}
use Rattle.sh_ir.specs.declared.operations.Op.{Op}
use Rattle.sh_eval.specs.Sources.{IsOfSource}

abbrev pub verified_func : (f : Func) → IsOfSource f → IsVerifiedFunc f
verified_func f h = record { whole = h.whole; formed = h.formed; keeps = h.keeps; place = h.place; stands = h.stands }

pub op_there : (f : Func) (h : IsOfSource f) (k : ℕ) (op : Op) → slice_get f.ops k ≡ Some op
    → IsOfVerifiedOp (scope_behind (scope_of h.whole f) (take k f.ops)) op
op_there f h k op e = verified_op f (verified_func f h) k op e

pub source_scope : (f : Func) (h : IsOfSource f) → (scope_of h.whole f).device ≡ None
source_scope f h = ap (λ o. option_map_or (λ carry. Some carry.grid) o None) h.source
