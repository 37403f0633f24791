use Rattle.std.proofs.Common.{◌≡◌, ◌<◌, map, ap, sym, ◌∙◌, subst, length, get_or}
use Rattle.std.proofs.lemmas.List.{length-map, get_or-map}
use Rattle.sh_sem.specs.Collected.{piece_of}
use Rattle.sh_tensor.specs.Tensor.{TensorValue}
use Rattle.sh_collectives.proofs.PartLaws.{mapped_more}
use Rattle.sh_collectives.proofs.parts.pieces.Goals as goal

pub piece-requires-clause-axis : goal.piece-requires-clause-axis
piece-requires-clause-axis c =
    let ts = map (λ t. t.now) c.args.ts.now in
    let long : c.loop-at.at < length ts = rw (length-map c.args.ts.now (λ t. t.now)) c.loop-at-test.true in
    let read : get_or ts c.loop-at.at c.index-ts-at.result.now ≡ c.index-ts-at.result.now =
    get_or-map (λ t. t.now) c.args.ts.now c.loop-at.at c.index-ts-at.result c.index-ts-at.result.now c.loop-at-test.true ∙ ap (λ r. r.now) (sym c.index-ts-at.is) in
    subst (λ (t : TensorValue). c.args.axis < length t.shape) read (c.requires.axes c.loop-at.at c.index-ts-at.result.now long)

pub loop-at-preserved : goal.loop-at-preserved
loop-at-preserved c =
    let ts = map (λ t. t.now) c.args.ts.now in
    let long : c.loop-at.at < length ts = rw (length-map c.args.ts.now (λ t. t.now)) c.loop-at-test.true in
    let read : get_or ts c.loop-at.at c.index-ts-at.result.now ≡ c.index-ts-at.result.now =
    get_or-map (λ t. t.now) c.args.ts.now c.loop-at.at c.index-ts-at.result c.index-ts-at.result.now c.loop-at-test.true ∙ ap (λ r. r.now) (sym c.index-ts-at.is) in
    mapped_more (piece_of c.args.axis (length c.args.ts.now) c.args.place) ts c.loop-at.at c.index-ts-at.result.now _ _ _ long read c.in_ok-piece.ensures c.loop-at.invariant c.in_ok-push.ensures.items
