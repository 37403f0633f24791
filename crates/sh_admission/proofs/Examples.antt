-- Which shardings the operations of a small function note, by computation.
use mathlib.Core.Path.{refl}
use Rattle.std.proofs.Common.{◌≡◌, ℕ, List, [], ◌∷◌}
use Rattle.std.specs.Prelude.{Option, Some, None, false, pos, codes}
use Rattle.sh_base.specs.declared.numbers.Width.TheVariants.{I32}
use Rattle.sh_base.specs.declared.operations.BinOp.TheVariants.{Addi}
use Rattle.sh_base.specs.declared.places.Place.{Place}
use Rattle.sh_base.specs.declared.rules.Rule.TheVariants.{A9}
use Rattle.sh_ir.specs.declared.operations.Op.{Op}
use Rattle.sh_ir.specs.declared.operations.OpKind.{OpKind}
use Rattle.sh_ir.specs.declared.operations.OpKind.TheVariants.{Binary, Shard, Sharding as ShardingOp}
use Rattle.sh_ir.specs.declared.types.Dim.TheVariants.{Known}
use Rattle.sh_ir.specs.declared.types.RawSharding.{RawSharding}
use Rattle.sh_ir.specs.declared.types.ValueType.{ValueType}
use Rattle.sh_ir.specs.declared.types.ValueType.TheVariants.{Sharding, Tensor}
use Rattle.sh_admission.specs.Faults.{other_grid}
use Rattle.sh_admission.specs.Notes.{first_grid, is_note, noted_by, sharding_in}

abbrev vector : ValueType
vector = Tensor (record { dims = Known 4 ∷ []; width = I32 })

abbrev defining : ℕ → OpKind → List ℕ → ValueType → Op
defining name kind operands result = record {
  kind = kind;
  operands = operands;
  defines = Some name;
  result = result;
  place = record { line = name; column = 1 };
}

abbrev by_axis_0 : List ℕ → RawSharding
by_axis_0 grid = record { grid = grid; split = (pos 0 ∷ []) ∷ []; halos = []; offsets = [] }

abbrev note_by : ℕ → ℕ → ℕ → Op
note_by name value sharding = defining name (Shard (record { annotate_for_users = false })) (value ∷ sharding ∷ []) vector

-- %2 and %3 are shardings on @g and @h; %4 notes %0 by %2, %5 notes %1 by %3
abbrev sum : Op
sum = defining 6 (Binary Addi) (4 ∷ 5 ∷ []) vector

abbrev ops : List Op
ops =
    defining 2 (ShardingOp (by_axis_0 (codes "g"))) [] Sharding
    ∷ defining 3 (ShardingOp (by_axis_0 (codes "h"))) [] Sharding
    ∷ note_by 4 0 2 ∷ note_by 5 1 3 ∷ sum ∷ []

first_is_noted : noted_by ops (note_by 4 0 2) ≡ Some (by_axis_0 (codes "g"))
unfolding is_note sharding_in
first_is_noted = refl

sum_notes_none : noted_by ops sum ≡ None
unfolding is_note sharding_in
sum_notes_none = refl

first_grid_is : first_grid ops ops ≡ Some (codes "g")
unfolding is_note sharding_in
first_grid_is = refl

-- the second note is on another grid than the first
second_is_elsewhere : other_grid ops (by_axis_0 (codes "h")) ≡ Some A9
unfolding is_note sharding_in
second_is_elsewhere = refl

first_is_at_home : other_grid ops (by_axis_0 (codes "g")) ≡ None
unfolding is_note sharding_in
first_is_at_home = refl
