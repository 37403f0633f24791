use Rattle.std.proofs.Common.{◌≡◌, ◌++◌, drop}
use Rattle.std.specs.Prelude.{option_map}
use Rattle.sh_sem.specs.Region.{source_cells}
use Rattle.sh_loops.proofs.regions.cells_at.Given as goal

abbrev pub invariant-loop-at : goal.invariant-loop-at
invariant-loop-at l = option_map (λ more. l.found.items ++ more) (source_cells l.cells (drop l.at l.sources)) ≡ source_cells l.cells l.sources
