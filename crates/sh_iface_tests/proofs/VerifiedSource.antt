-- A function in source form of a verified module.
use Rattle.std.proofs.Common.{◌≡◌, ℕ, List, [], ◌∷◌, length, Option, Some, None, sym, arith, map, true, false, nat_lt, slice_index_or, refl, ap}
use Rattle.std.specs.Prelude.{is_some, slice_get}
use Rattle.sh_ir.specs.declared.functions.Arg.{Arg}
use Rattle.sh_ir.specs.declared.functions.Func.{Func}
use Rattle.sh_ir.specs.declared.modules.Module.{Module}
use Rattle.sh_sem.specs.Types.{AreOfTypes}
use Rattle.sh_tensor.specs.Tensor.{TensorValue}
use Rattle.sh_verify.specs.Verified.{IsVerified}
use Rattle.sh_eval.specs.Sources.{IsOfSource}
use Rattle.sh_eval.proofs.AskedRules.{of_source}

pub verified_source : (m : Module) (f : Func) → IsVerified m → slice_get m.funcs 0 ≡ Some f → f.carry ≡ None → IsOfSource f
verified_source m f v here source = of_source m 0 f v.formed (record {
  keeps_L2 = v.keeps_L2;
  keeps_L3 = v.keeps_L3;
  keeps_L4 = v.keeps_L4;
  keeps_L5 = v.keeps_L5;
  keeps_L6 = v.keeps_L6;
  keeps_L7 = v.keeps_L7;
  keeps_V1 = v.keeps_V1;
  keeps_V2 = v.keeps_V2;
  keeps_V3 = v.keeps_V3;
  keeps_V4 = v.keeps_V4;
  keeps_V5 = v.keeps_V5;
  keeps_V6 = v.keeps_V6;
  keeps_V7 = v.keeps_V7;
  keeps_V8 = v.keeps_V8;
  keeps_V9 = v.keeps_V9;
  keeps_V10 = v.keeps_V10;
}) here source

-- the first of a list, read as a slice
pub first_read : {A : Type 0} (fs gs : List A) (f : A) → gs ≡ fs → true ≡ nat_lt 0 (length gs) → f ≡ slice_index_or gs 0 f → slice_get fs 0 ≡ Some f
first_read fs [] f e here at = absurd (cc)
first_read fs (g ∷ gs) f e here at = cc

-- what isn't there is none
pub none_there : {A : Type 0} (o : Option A) → false ≡ is_some o → o ≡ None
none_there None e = refl
none_there (Some x) e = absurd (cc)
