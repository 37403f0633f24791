use Rattle.std.proofs.Common.{◌≡◌, ◌+◌, ◌-◌, ◌*◌, ◌/◌, ◌++◌, ap, ◌∙◌, take, drop, length, arith}
use Rattle.sh_tensor.proofs.JoinLaws.{push_step, joined_row-none}
use Rattle.sh_tensor.proofs.joins.push_row.Goals as goal

pub loop-part-init : goal.loop-part-init
loop-part-init c = joined_row-none c.args.parts.now c.args.rows c.args.at c.args.out.now.items

pub loop-part-preserved : goal.loop-part-preserved
loop-part-preserved c =
    let row = length c.cells-cells.result.now / c.args.rows in
    let size : c.args.at * row + row - c.args.at * row ≡ row = omega arith in
    push_step c.args.parts.now c.loop-part.part-index c.args.rows c.args.at c.part-item.result c.args.out.now.items c.loop-part.out.items c.extend_from_slice.new.self.items c.cells-cells.result.now
    c.loop-part-test.true c.part-item.is c.cells-cells.ensures.value c.loop-part.invariant
    (c.in_ok-extend_from_slice.ensures.items ∙ ap (λ k. c.loop-part.out.items ++ take k (drop (c.args.at * row) c.cells-cells.result.now)) size)
