-- Modules that keep all rules, and beside each some that break one in a grid, a function or a call item.
use Rattle.std.specs.Prelude.{◌≡◌, ℕ, pos, List, [], ◌∷◌, ◌++◌, Some, None, true, false, map, replicate, codes}
use Rattle.sh_base.specs.declared.numbers.Width.TheVariants.{I32}
use Rattle.sh_base.specs.declared.numbers.Cell.TheVariants.{Val}
use Rattle.sh_base.specs.declared.rules.Rule.{Rule}
use Rattle.sh_base.specs.declared.rules.Rule.TheVariants.{L2, L3, L4, L5, L7, V1, V2, V3, V5, V6, V7, V10}
use Rattle.sh_ir.specs.declared.arith_ops.Contents.{Contents}
use Rattle.sh_ir.specs.declared.arith_ops.Contents.TheVariants.{Held, Broken}
use Rattle.sh_ir.specs.declared.functions.Cut.{Cut}
use Rattle.sh_ir.specs.declared.functions.Func.{Func}
use Rattle.sh_ir.specs.declared.modules.GridItem.{GridItem}
use Rattle.sh_ir.specs.declared.modules.Module.{Module}
use Rattle.sh_ir.specs.declared.operations.Op.{Op}
use Rattle.sh_ir.specs.declared.operations.OpKind.TheVariants as op_kind
use Rattle.sh_ir.specs.declared.types.Dim.TheVariants.{Known}
use Rattle.sh_ir.specs.declared.types.ValueType.{ValueType}
use Rattle.sh_ir.specs.declared.types.ValueType.TheVariants as value_type
use Rattle.sh_ir.specs.Faults.{keeps_func, limit_faults, rule_faults}
use Rattle.sh_ir.specs.Limits.{operations_in, instructions_in}
use Rattle.sh_ir.specs.Parts.{op_of}
use Rattle.sh_verify_tests.specs.Samples.{halves, here, matrix, note, op, open_vector, reduce, scalar, summing, tensor, the_grid, vector}

-- the codes that a module's limits give, and those of its rules
abbrev pub broken_limits : Module → List Rule
broken_limits m = map (λ r. r.rule) (limit_faults m)

abbrev pub broken_rules : Module → List Rule
broken_rules m = map (λ r. r.rule) (rule_faults m)

pub record ModuleSample : Type 0 where
  pub m : Module
  pub limits : List Rule
  pub rules : List Rule

abbrev pub AreModulesRight : List ModuleSample → Type 0
AreModulesRight samples =
    map (λ s. broken_limits s.m ++ broken_rules s.m) samples ≡ map (λ s. s.limits ++ s.rules) samples

-- ---- a function that returns its argument

abbrev pub return_op : List ℕ → List ValueType → Op
return_op used types = op_of (op_kind.Return (record { operand_types = types })) used None value_type.Nothing here

abbrev pub four : ValueType
four = vector 4 I32

abbrev pub returning : List Op → Func
returning ops = record {
  name = codes "f";
  private = false;
  args = record { id = 0; value_type = four } ∷ [];
  results = four ∷ [];
  ops = ops ++ return_op (0 ∷ []) (four ∷ []) ∷ [];
  carry = None;
  place = here;
}

abbrev pub plain_func : Func
plain_func = returning []

abbrev pub grid_of : List ℕ → GridItem
grid_of extents = record the_grid { extents = map (λ n. pos n) extents }

abbrev pub module_of : List GridItem → List Func → Module
module_of grids funcs = record { name = None; grids = grids; funcs = funcs; calls = [] }

abbrev pub one_func : Func → Module
one_func f = module_of (the_grid ∷ []) (f ∷ [])

abbrev pub sound : Module → ModuleSample
sound m = record { m = m; limits = []; rules = [] }

abbrev pub over : Rule → Module → ModuleSample
over rule m = record { m = m; limits = rule ∷ []; rules = [] }

abbrev pub breaking : Rule → Module → ModuleSample
breaking rule m = record { m = m; limits = []; rules = rule ∷ [] }

-- ---- device form

abbrev pub cut_of : ValueType → Cut
cut_of t =
    record { whole = t; sharding = record { grid = codes "g"; split = (pos 0 ∷ []) ∷ []; halos = []; offsets = [] } }

abbrev pub carried_by : List Cut → List Cut → Func
carried_by args results =
    record plain_func { carry = Some (record { grid = codes "g"; args = args; results = results }) }

abbrev pub eight : Cut
eight = cut_of (vector 8 I32)

abbrev pub device_func : Func
device_func = carried_by (eight ∷ []) (eight ∷ [])

-- ---- call items

abbrev pub calling : ValueType → Contents → Module
calling t contents =
    record (one_func plain_func) {
      calls = record {
        callee = codes "f";
        args = record { value_type = t; contents = contents } ∷ [];
        place = here;
      } ∷ [];
    }

abbrev pub seven_ones : ValueType
seven_ones = tensor (replicate 7 (Known 1)) I32

abbrev pub with_arg : ValueType → Func
with_arg t = record plain_func {
  args = record { id = 0; value_type = t } ∷ record { id = 1; value_type = four } ∷ [];
  ops = return_op (1 ∷ []) (four ∷ []) ∷ [];
}

abbrev pub module_samples : List ModuleSample
module_samples =
    sound (one_func plain_func)
    ∷ sound (module_of (grid_of (32 ∷ 32 ∷ []) ∷ []) [])
    ∷ over L3 (module_of (grid_of (1025 ∷ []) ∷ []) [])
    ∷ over L2 (module_of (grid_of (1 ∷ 1 ∷ 1 ∷ 1 ∷ 1 ∷ []) ∷ []) [])
    ∷ breaking V5 (module_of (grid_of (0 ∷ 1025 ∷ []) ∷ []) [])
    ∷ breaking V2 (module_of (the_grid ∷ grid_of (4 ∷ []) ∷ []) [])
    ∷ breaking V2 (module_of [] (plain_func ∷ plain_func ∷ []))
    ∷ breaking V2 (one_func (record plain_func { args = record { id = 0; value_type = four } ∷ record { id = 0; value_type = four } ∷ [] }))
    ∷ over L2 (one_func (with_arg seven_ones))
    ∷ over L4 (one_func (with_arg (vector 1048577 I32)))
    ∷ breaking V7 (one_func (with_arg (scalar I32)))
    ∷ breaking V10 (one_func (with_arg (open_vector I32)))
    ∷ breaking V7 (one_func (record plain_func { results = [] }))
    ∷ breaking V7 (one_func (record plain_func { results = vector 2 I32 ∷ [] }))
    ∷ breaking V3 (one_func (record plain_func { results = four ∷ four ∷ []; ops = return_op (0 ∷ []) (four ∷ four ∷ []) ∷ [] }))
    ∷ breaking V1 (one_func (record plain_func { ops = return_op (1 ∷ []) (four ∷ []) ∷ [] }))
    ∷ sound (one_func device_func)
    ∷ breaking V6 (module_of (record the_grid { name = codes "h" } ∷ []) (device_func ∷ []))
    ∷ breaking V10 (one_func (carried_by (eight ∷ eight ∷ []) (eight ∷ [])))
    ∷ breaking V10 (one_func (carried_by (eight ∷ []) []))
    ∷ breaking V10 (one_func (carried_by (cut_of (open_vector I32) ∷ []) (eight ∷ [])))
    ∷ breaking V3 (one_func (carried_by (cut_of (scalar I32) ∷ []) (eight ∷ [])))
    ∷ sound (calling four (Held (Val 1 ∷ [])))
    ∷ sound (calling (open_vector I32) (Held (Val 1 ∷ [])))
    ∷ breaking V5 (calling four Broken)
    ∷ over L4 (calling (matrix 1048577 0 I32) (Held []))
    ∷ over L2 (calling seven_ones (Held (Val 1 ∷ [])))
    ∷ []

-- ---- counts of operations

abbrev pub counted_func : Func
counted_func =
    returning
    (op (halves (codes "g")) [] value_type.Sharding ∷ op note (0 ∷ 20 ∷ []) four
    ∷ op (reduce (pos 0 ∷ []) summing) (1 ∷ 0 ∷ []) four ∷ [])

-- the reduce, its addition and the return; as instructions the sharding, the note and the reduce
pub record CountsRight : Type 0 where
  pub operations : operations_in counted_func ≡ 3
  pub instructions : instructions_in counted_func ≡ 3

abbrev pub long_func : ℕ → Func
long_func n = returning (replicate n (op op_kind.Empty [] four))

abbrev pub long_device_func : ℕ → Func
long_device_func n = record (long_func n) { carry = device_func.carry }

-- 10,000 operations with the return are few enough in source form, 100,000 without it in device form,
-- and one more isn't; each form has the limit of its own
pub record LengthsRight : Type 0 where
  pub few : broken_limits (one_func (long_func 9999)) ≡ []
  pub many : broken_limits (one_func (long_func 10000)) ≡ L5 ∷ []
  pub others : broken_limits (one_func (long_device_func 10000)) ≡ []
  pub device : instructions_in (long_device_func 100000) ≡ 100000
  pub most : keeps_func L7 (one_func device_func) [] (long_device_func 100000) ≡ true
  pub more : keeps_func L7 (one_func device_func) [] (long_device_func 100001) ≡ false
