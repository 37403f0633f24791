use Rattle.std.proofs.Common.{◌≡◌, take}
use Rattle.std.specs.Prelude.{filter}
use Rattle.sh_plan.specs.Moves.{may}
use Rattle.sh_plan.proofs.candidates.allowed_of.Given as goal

abbrev pub invariant-loop-listed_move : goal.invariant-loop-listed_move
invariant-loop-listed_move l = l.moves ≡ filter (may l.s.grid.extents l.to.dimensions l.s.dimensions) (take l.listed_move-index l.listed)
