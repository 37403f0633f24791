use Rattle.std.proofs.Common.{◌≡◌}
use Rattle.std.specs.List.{flat_map, range_with_len}
use Rattle.sh_tensor.specs.Runs.{run_of}
use Rattle.sh_tensor.proofs.slices.runs.Given as goal

-- the runs of the rows so far
abbrev pub invariant-loop-at : goal.invariant-loop-at
invariant-loop-at l = l.out.items ≡ flat_map (run_of l.cells l.rows l.from l.size) (range_with_len 0 l.at)
