use Rattle.std.proofs.Common.{◌≡◌, ◌<◌, ◌^◌, take}
use Rattle.std.specs.Prelude.{sum}
use Rattle.sh_turns_demo.proofs.plain.checked_sum.Given as goal

abbrev pub invariant-loop-value : goal.invariant-loop-value
invariant-loop-value l = record { sum : l.total ≡ sum (take l.value-index l.values); fits : l.total < 2 ^ 64 }
