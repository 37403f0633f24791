use Rattle.std.proofs.Common.{◌∙◌}
use Rattle.sh_pieces_demo.proofs.Running.{place_here, place_before}
use Rattle.sh_pieces_demo.proofs.last_place.Goals as goal
use Rattle.sh_pieces_demo.proofs.last_place.Goals.{then-other-name, else-other-name}

pub loop-place-preserved : goal.loop-place-preserved
loop-place-preserved c =
    elim c.if-other-name.branch [
      | then-other-name w ↦ w.found-is ∙ place_here c.args.names.now c.loop-place.place c.args.name c.loop-place-test.true w.if-other-name.true
      | else-other-name w ↦ w.found-is ∙ c.loop-place.invariant ∙ place_before c.args.names.now c.loop-place.place c.args.name c.loop-place-test.true w.if-other-name.false
    ]
