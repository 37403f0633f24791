use Rattle.std.proofs.Common.{◌≡◌, ◌++◌, ◌∷◌, [], ap, ◌∙◌}
use Rattle.sh_world.proofs.AnswerLaws.{found_no_more, found_one_more}
use Rattle.sh_world.proofs.answers.returned.Goals as goal
use Rattle.sh_world.proofs.answers.returned.Goals.{then-place-values+in_ok-copied+in_ok-push, else-place-values}

pub loop-place-preserved : goal.loop-place-preserved
loop-place-preserved c =
    let values = c.args.values.now in
    let places = c.args.places.now in
    elim c.if-place-values.branch [
      | then-place-values+in_ok-copied+in_ok-push w ↦
          let one = found_one_more values places c.loop-place.place-index 0 c.loop-place-test.true w.index-values-place.result w.if-place-values.true w.index-values-place.is in
          let new : c.if-place-values.found ≡ c.loop-place.found ++ w.index-values-place.result ∷ [] =
          w.found-is ∙ w.in_ok-push.ensures.ok ∙ ap (λ t. c.loop-place.found ++ t ∷ []) w.in_ok-copied.ensures in
          new ∙ ap (λ found. found ++ w.index-values-place.result ∷ []) c.loop-place.invariant ∙ one
      | else-place-values w ↦
          w.found-is ∙ c.loop-place.invariant ∙ found_no_more values places c.loop-place.place-index 0 c.loop-place-test.true w.if-place-values.false
    ]
