use Rattle.std.proofs.Common.{flat_map}
use Rattle.sh_cli.specs.Line.{spelled}
use Rattle.sh_cli.proofs.Lines.{writes_line}
use Rattle.sh_cli.proofs.line.write_line.Goals as goal

pub returns : goal.returns
returns g c =
    writes_line c.write_pieces.result (flat_map spelled c.args.pieces.now) _ _ _ _ c.write_pieces.ensures.bytes c.write_pieces.ensures.cause
