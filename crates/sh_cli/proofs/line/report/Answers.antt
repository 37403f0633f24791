use Rattle.std.proofs.Common.{subst, sym}
use Rattle.sh_cli.specs.Line.{WritesLine, line_of}
use Rattle.sh_cli.proofs.line.report.Goals as goal

pub returns-in-Unbuilt : goal.returns-in-Unbuilt
returns-in-Unbuilt g c =
    subst (λ s. WritesLine (line_of c.args.tool s) (g.E.Sink.written c.args.err.now) (g.E.Sink.written c.fixed-in-Unbuilt.new.err)
    (g.E.Sink.faults c.args.err.now) (g.E.Sink.faults c.fixed-in-Unbuilt.new.err)) (sym c.in-Unbuilt.is) c.fixed-in-Unbuilt.ensures
