use Rattle.std.proofs.Common.{length, sym, ◌∙◌}
use Rattle.sh_loops.proofs.InsideLaws.{below_by}
use Rattle.sh_loops.proofs.StructuredLaws.{width_read}
use Rattle.sh_loops.proofs.structures.width_at.Goals as goal

pub returns-in-Some : goal.returns-in-Some
returns-in-Some c = c.width.ensures ∙ width_read (λ t. t.now) c.args.inputs.now c.args.at c.args.width c.in-Some.t.now (below_by c.args.at (length c.args.inputs.now) (sym c.in-Some.ensures.lookup.0)) c.in-Some.ensures.lookup.1
