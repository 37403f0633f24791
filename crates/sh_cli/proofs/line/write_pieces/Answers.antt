use Rattle.std.proofs.Common.{flat_map}
use Rattle.sh_cli.specs.Line.{spelled}
use Rattle.sh_cli.proofs.Lines.{front_of_pieces, writes_front}
use Rattle.sh_cli.proofs.line.write_pieces.Goals as goal

pub returns-in_err-write_piece-clause-bytes : goal.returns-in_err-write_piece-clause-bytes
returns-in_err-write_piece-clause-bytes g c =
    writes_front c.from_residual.result _ _ (flat_map spelled c.args.pieces.now) c.from_residual.ensures.0
    (front_of_pieces c.args.pieces.now c.loop-piece.piece-index _ _ _ _ c.loop-piece-test.true c.loop-piece.invariant.appends
    c.in_err-write_piece.ensures.bytes)
