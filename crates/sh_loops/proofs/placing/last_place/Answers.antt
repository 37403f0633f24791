use Rattle.std.proofs.Common.{◌∙◌}
use Rattle.sh_loops.proofs.PlaceLaws.{name_here, name_not_here}
use Rattle.sh_loops.proofs.placing.last_place.Goals as goal
use Rattle.sh_loops.proofs.placing.last_place.Goals.{then-here-name, else-here-name}

pub loop-at-preserved : goal.loop-at-preserved
loop-at-preserved c =
    elim c.if-here-name.branch [
      | then-here-name w ↦ w.found-is ∙ name_here c.args.names.now c.loop-at.at _ c.args.name c.loop-at-test.true w.if-here-name.true
      | else-here-name w ↦ w.found-is ∙ name_not_here c.args.names.now c.loop-at.at _ c.args.name c.loop-at.found c.loop-at-test.true w.if-here-name.false c.loop-at.invariant
    ]
