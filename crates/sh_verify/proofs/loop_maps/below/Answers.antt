use mathlib.Core.Path.{sym}
use Rattle.std.proofs.Common.{◌≤◌, length, arith}
use Rattle.std.specs.List.{range_with_len}
use Rattle.std.proofs.lemmas.List.FromFn.{length-range_with_len}
use Rattle.std.proofs.lemmas.Option.{slice_get_past}
use Rattle.sh_verify.proofs.LoopLaws.{got_below}
use Rattle.sh_verify.proofs.loop_maps.below.Goals as goal

pub returns-then-at-rank : goal.returns-then-at-rank
returns-then-at-rank c = sym (got_below c.args.rank c.args.at c.if-at-rank.true)

pub returns-else-at-rank : goal.returns-else-at-rank
returns-else-at-rank c =
    let past : length (range_with_len 0 c.args.rank) ≤ c.args.at = omega (arith, length-range_with_len 0 c.args.rank) in
    sym (slice_get_past (range_with_len 0 c.args.rank) c.args.at past)
