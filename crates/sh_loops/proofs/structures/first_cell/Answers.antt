use Rattle.std.proofs.Common.{ap, sym, ◌∙◌}
use Rattle.sh_loops.proofs.StructuredLaws.{first_read}
use Rattle.sh_loops.proofs.structures.first_cell.Goals as goal

pub returns : goal.returns
returns c = c.unwrap_or.ensures ∙ first_read c.args.t.now c.cells.result.now _ c.cells.ensures.value (c.copied.ensures ∙ c.first.ensures.value)
