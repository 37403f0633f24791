use Rattle.std.proofs.Common.{true, false, ◌+◌, ap, sym, ◌∙◌, arith}
use Rattle.sh_world.proofs.PlaceLaws.{collectives_more}
use Rattle.sh_world.proofs.scripts.collectives.Goals as goal
use Rattle.sh_world.proofs.scripts.collectives.Goals.{then-is_collective, else-is_collective}

pub loop-at-preserved : goal.loop-at-preserved
loop-at-preserved c = elim c.if-is_collective.branch [
  | then-is_collective w ↦ record {
    value = w.count-is ∙ ap (λ n. n + 1) c.loop-at.invariant.value
        ∙ sym (collectives_more c.args.instructions.now c.loop-at.at c.index-instructions-at.result true c.loop-at-test.true w.if-is_collective.ensures);
    few = omega arith;
  }
  | else-is_collective w ↦ record {
    value = w.count-is ∙ c.loop-at.invariant.value
        ∙ sym (collectives_more c.args.instructions.now c.loop-at.at c.index-instructions-at.result false c.loop-at-test.true w.if-is_collective.ensures);
    few = omega arith;
  }
]
