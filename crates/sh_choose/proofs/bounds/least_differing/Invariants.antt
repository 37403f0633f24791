use Rattle.std.proofs.Common.{◌≤◌, ◌++◌, take}
use Rattle.std.specs.Prelude.{◌&&◌}
use Rattle.std.specs.List.{count_by}
use Rattle.sh_iface.specs.Splits.{OptionValue}
use Rattle.sh_iface.specs.Valid.{IsValid}
use Rattle.sh_choose.specs.Weights.{differs, is_of}
use Rattle.sh_choose.proofs.bounds.least_differing.Given as goal

-- no more than differ of those so far
abbrev pub invariant-loop-k : goal.invariant-loop-k
invariant-loop-k g l =
    let nest = (g.O.HasLoops.meaning l.op).nest in
    (l.count ≤ l.k-index)
    × ((rest : OptionValue) → IsValid nest l.g (l.o ++ rest)
    → l.count ≤ count_by (λ k. is_of l.user k && differs nest l.g (l.o ++ rest) k) (take l.k-index l.known))
