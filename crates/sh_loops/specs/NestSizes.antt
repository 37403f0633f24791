-- How large structured operations are, by the shapes of their operands.
use Rattle.std.specs.Prelude.{◌≡◌, ◌≤◌, ℕ, true, List, Option, option_map}
use Rattle.sh_base.specs.Shape.{cell_count, max_rank}
use Rattle.sh_ir.specs.Loops.{Structure}
use Rattle.sh_loops.specs.Nests.{all_follow_loops}
use Rattle.sh_loops.specs.declared.nest_sizes.NestSize.{NestSize}
use Rattle.sh_sem.specs.Given.{nest_shape}
use Rattle.sh_sem.specs.Nest.{extents_by, maps_of}

-- the shape of the output and the number of loop points, where the operands' sizes agree
unfoldable pub nest_size : List (List ℕ) → Structure → Option NestSize
nest_size shapes s =
    option_map (λ shape. record { shape = shape; points = cell_count (extents_by s shapes) })
    (nest_shape s shapes)

-- the loops are few, and each dimension follows some of them
pub record HasLoops (s : Structure) : Type 0 where
  pub few : s.loops ≤ max_rank
  pub follow : all_follow_loops s.loops (maps_of s) ≡ true
