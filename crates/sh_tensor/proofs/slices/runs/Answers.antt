use Rattle.std.proofs.Common.{◌≡◌, ◌+◌, ◌-◌, ◌*◌, ◌/◌, ◌++◌, ap, ◌∙◌, take, drop, length, arith}
use Rattle.sh_tensor.proofs.RunLaws.{runs_step, runs_end}
use Rattle.sh_tensor.proofs.slices.runs.Goals as goal

pub loop-at-preserved : goal.loop-at-preserved
loop-at-preserved c =
    let begin = c.loop-at.at * (length c.args.cells.now / c.args.rows) + c.args.from in
    let size : begin + c.args.size - begin ≡ c.args.size = omega arith in
    runs_step c.args.cells.now c.args.rows c.args.from c.args.size c.loop-at.at c.loop-at.out.items c.extend_from_slice.new.self.items c.loop-at.invariant
    (c.in_ok-extend_from_slice.ensures.items ∙ ap (λ k. c.loop-at.out.items ++ take k (drop begin c.args.cells.now)) size)

pub returns : goal.returns
returns c =
    let whole : c.loop-at.at ≡ c.args.rows = omega arith in
    runs_end c.args.cells.now c.args.rows c.args.from c.args.size c.loop-at.at c.loop-at.out.items whole c.loop-at.invariant
