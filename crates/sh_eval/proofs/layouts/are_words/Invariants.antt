use Rattle.std.proofs.Common.{All, take, ◌<◌}
use Rattle.std.specs.Prelude.{◌^◌}
use Rattle.sh_eval.proofs.layouts.are_words.Given as goal

abbrev pub invariant-loop-extent : goal.invariant-loop-extent
invariant-loop-extent l = All (λ n. n < 2 ^ 64) (take l.extent-index l.extents)
