use Rattle.std.proofs.Common.{Some, ap, sym, ◌∙◌}
use Rattle.sh_loops.proofs.CellLaws.{few_by, front_by}
use Rattle.sh_eval.proofs.constants.front.Goals as goal

pub returns-then-cells-count : goal.returns-then-cells-count
returns-then-cells-count c = sym (few_by c.args.cells.now c.args.count c.if-cells-count.true)

pub returns : goal.returns
returns c =
    ap (λ x. Some x) (c.from_vec.ensures ∙ c.in_ok-from_slice.ensures.items ∙ c.split_at.ensures.front)
    ∙ sym (front_by c.args.cells.now c.args.count c.if-cells-count.false)
