use Rattle.std.proofs.Common.{Some, ap, sym, ◌∙◌}
use Rattle.sh_sem.specs.Scalars.{constant_cell}
use Rattle.sh_loops.specs.Cells.{cells_by}
use Rattle.sh_loops.proofs.CellLaws.{from_none_by, none_by}
use Rattle.sh_eval.proofs.constants.constant_cells.Goals as goal

pub returns-in-Broken : goal.returns-in-Broken
returns-in-Broken c =
    ap (λ x. Some x) c.new.ensures ∙ sym (from_none_by (constant_cell c.args.contents.now) c.args.count c.if-count-eq0.true)

pub returns-in-Broken-2 : goal.returns-in-Broken-2
returns-in-Broken-2 c = sym (ap (λ x. cells_by (constant_cell x) c.args.count) c.in-Broken-2.is ∙ none_by c.args.count c.if-count-eq0.false)
