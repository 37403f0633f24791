use Rattle.std.proofs.Common.{◌≡◌, drop}
use Rattle.std.specs.Prelude.{◌==◌}
use Rattle.std.specs.List.{list_all}
use Rattle.sh_eval.proofs.reshapes.are_one.Given as goal

abbrev pub invariant-loop-extent : goal.invariant-loop-extent
invariant-loop-extent l = list_all (λ n. n == 1) (drop l.extent-index l.extents) ≡ list_all (λ n. n == 1) l.extents
