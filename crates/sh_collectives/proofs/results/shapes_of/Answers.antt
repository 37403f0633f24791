use Rattle.std.proofs.Common.{◌≡◌, ◌<◌, [], ◌∷◌, map, ap, sym, ◌∙◌, length, get_or}
use Rattle.std.proofs.lemmas.List.{length-map, get_or-map, map-append}
use Rattle.sh_tensor.specs.Tensor.{TensorValue}
use Rattle.sh_tensor.proofs.JoinLaws.{whole_more}
use Rattle.sh_collectives.proofs.PartLaws.{mapped_more}
use Rattle.sh_collectives.proofs.results.shapes_of.Goals as goal

pub loop-at-preserved : goal.loop-at-preserved
loop-at-preserved c =
    let ts = map (λ t. t.now) c.args.ts.now in
    let long : c.loop-at.at < length ts = rw (length-map c.args.ts.now (λ t. t.now)) c.loop-at-test.true in
    let read : get_or ts c.loop-at.at c.index-ts-at.result.now ≡ c.index-ts-at.result.now =
    get_or-map (λ t. t.now) c.args.ts.now c.loop-at.at c.index-ts-at.result c.index-ts-at.result.now c.loop-at-test.true ∙ ap (λ r. r.now) (sym c.index-ts-at.is) in
    record {
      value =
          mapped_more (λ (t : TensorValue). t.shape) ts c.loop-at.at c.index-ts-at.result.now c.shape.result.now (map (λ s. s.now) c.loop-at.shapes.items) _ long read c.shape.ensures.value c.loop-at.invariant.value
          (ap (map (λ s. s.now)) c.in_ok-push.ensures.items ∙ map-append (λ s. s.now) c.loop-at.shapes.items (c.shape.result ∷ []));
      whole = whole_more ts c.loop-at.at c.index-ts-at.result.now long (sym read) c.loop-at.invariant.whole c.shape.ensures.whole;
    }
