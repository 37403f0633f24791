-- The samples of carried cuts are decided by computation.
use mathlib.Core.Path.{ap, refl}
use Rattle.std.proofs.Common.{rules, ◌≡◌, ℕ, List, [], ◌∷◌, arith}
use Rattle.std.specs.Prelude.{sum, codes}
use Rattle.sh_base.specs.declared.rules.Rule.{Rule}
use Rattle.sh_base.specs.declared.rules.Rule.TheVariants.{A1, A2, A3, A5, A6, A7, A8}
use Rattle.sh_grid.specs.Grid.{IsGrid, group_size_of, on_axes, place_in}
use Rattle.sh_ir.specs.declared.types.ValueType.{ValueType}
use Rattle.sh_ir.specs.Shapes.{shape_of}
use Rattle.sh_sharding.specs.Admission.{Keeps}
use Rattle.sh_sharding.specs.Carried.{grid_of}
use Rattle.sh_sharding.specs.CutRules.{HasLocalTypes}
use Rattle.sh_sharding.specs.HaloSizes.{halo_count}
use Rattle.sh_sharding.specs.LocalTypes.{local_dim, part_sizes}
use Rattle.sh_sharding.specs.OffsetLists.{mark_of, offset_count}
use Rattle.sh_sharding.specs.Sharding.{local_extent, offset_of, part_of, part_size, parts_of, size_in, size_of_part}
use Rattle.sh_verify_tests.specs.Cuts.{CutsRight, replicated_func, whole_cut}
use Rattle.sh_verify_tests.specs.Samples.{the_grid}

first_extent : List ValueType → ℕ
first_extent [] = 0
first_extent (t ∷ ts) = sum (shape_of t)

-- ---- a cut that is admitted, and gives other types

is_grid : IsGrid (2 ∷ 2 ∷ [])
is_grid = record {
  some = omega arith;
  few = omega arith;
  positive = search rules;
  small = omega arith;
}

keeps_rule : (rule : Rule) → Keeps rule (grid_of the_grid) whole_cut.sharding (8 ∷ [])
unfolding mark_of offset_count halo_count local_extent size_in part_of part_size size_of_part offset_of parts_of group_size_of on_axes place_in
keeps_rule A1 = λ k d below. absurd (omega (arith, below))
keeps_rule A2 = λ a. omega arith
keeps_rule A3 = omega arith
keeps_rule A5 = λ given. absurd (given refl)
keeps_rule A6 = λ given. absurd (given refl)
keeps_rule A7 = λ given. absurd (given refl)
keeps_rule A8 = ((λ i below. (omega arith, omega arith), tt), λ device below. omega arith)
keeps_rule _ = tt

differs : ¬ HasLocalTypes (grid_of the_grid) replicated_func (record { grid = codes "g"; args = whole_cut ∷ []; results = whole_cut ∷ [] })
unfolding first_extent local_dim part_sizes part_size size_of_part offset_of parts_of group_size_of on_axes mark_of offset_count halo_count
differs h = let e : 4 ≡ 8 = ap first_extent h.args in absurd (omega (arith, e))

pub cuts_right : CutsRight
unfolding first_extent local_dim part_sizes part_size size_of_part offset_of parts_of group_size_of on_axes mark_of offset_count halo_count
cuts_right = record {
  halved = record { args = refl; results = refl };
  whole = λ h. let e : 8 ≡ 4 = ap first_extent h.args in absurd (omega (arith, e));
  fault = record {
    func = replicated_func;
    there = (0, omega arith, refl);
    broken = λ keeps. differs (keeps is_grid (record { keeps = keeps_rule }, (record { keeps = keeps_rule }, tt)));
    fault = refl;
  };
  source = tt;
}
