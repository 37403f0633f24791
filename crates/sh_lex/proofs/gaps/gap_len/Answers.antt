use Rattle.std.proofs.Common.{◌≡◌, ◌<◌, false, take, drop, arith}
use Rattle.sh_lex.specs.Tokens.{begins_gap, IsGapPart}
use Rattle.sh_lex.proofs.GapLemmas.{gap_more, gap_ends}
use Rattle.sh_lex.proofs.gaps.gap_len.Goals as goal

pub returns-then-part-eq0-clause-gap : goal.returns-then-part-eq0-clause-gap
returns-then-part-eq0-clause-gap c =
    let left : c.split_at.result.1.now ≡ drop c.loop-len.len c.args.rest.now = c.split_at.ensures.back in
    let ends : begins_gap (drop c.loop-len.len c.args.rest.now) ≡ false = rw (← left) (c.gap_part_len-part.ensures.none c.if-part-eq0.true) in
    c.loop-len.invariant.gap c.loop-len.len (omega arith) (gap_ends c.args.rest.now c.loop-len.len ends)

pub loop-len-preserved : goal.loop-len-preserved
loop-len-preserved c =
    let part = c.gap_part_len-part.result in
    let left : c.split_at.result.1.now ≡ drop c.loop-len.len c.args.rest.now = c.split_at.ensures.back in
    let some : 0 < part = omega arith in
    let is_part : IsGapPart (take part (drop c.loop-len.len c.args.rest.now)) (drop part (drop c.loop-len.len c.args.rest.now)) =
    rw (← left) (c.gap_part_len-part.ensures.part some) in
    record {
      within = omega (arith, c.split_at.ensures.back_len);
      gap = λ to order is_gap. c.loop-len.invariant.gap to (omega arith)
          (gap_more c.args.rest.now c.loop-len.len part to order is_part is_gap);
    }
