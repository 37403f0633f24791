use Rattle.std.proofs.Common.{◌≡◌, take}
use Rattle.std.specs.Prelude.{◌&&◌}
use Rattle.std.specs.List.{count_by}
use Rattle.sh_choose.specs.Weights.{differs, is_of}
use Rattle.sh_choose.proofs.weighing.differing.Given as goal

-- how many of those so far
abbrev pub invariant-loop-k : goal.invariant-loop-k
invariant-loop-k g l =
    l.count ≡ count_by (λ k. is_of l.user k && differs (g.O.HasLoops.meaning l.op).nest l.g l.o k) (take l.k-index l.known)
