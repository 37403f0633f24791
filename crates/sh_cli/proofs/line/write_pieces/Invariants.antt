use Rattle.std.proofs.Common.{◌≤◌, flat_map, take}
use Rattle.std.specs.Io.KnownBytes.{Appends}
use Rattle.sh_cli.specs.Line.{spelled}
use Rattle.sh_cli.proofs.line.write_pieces.Given as goal

abbrev pub invariant-loop-piece : goal.invariant-loop-piece
invariant-loop-piece g l = record {
  appends : Appends (g.E.Sink.written l.fn.err) (g.E.Sink.written l.err) (flat_map spelled (take l.piece-index l.pieces));
  later : g.E.Sink.faults l.fn.err ≤ g.E.Sink.faults l.err;
}
