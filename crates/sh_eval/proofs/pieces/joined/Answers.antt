use Rattle.std.proofs.Common.{◌≡◌, ◌-◌, ◌<◌, map, ap, sym, ◌∙◌, arith, length, get_or, refl, set, subst}
use Rattle.std.proofs.lemmas.List.{length-map, get_or-map}
use Rattle.sh_base.specs.Cells.{IsCellOf}
use Rattle.sh_tensor.specs.Tensor.{TensorValue, at}
use Rattle.sh_eval.proofs.IndexRules.{all_at, joined_here, joined_next, kept_place}
use Rattle.sh_eval.proofs.pieces.joined.Goals as goal

pub returns-then-place-extent-clause-value : goal.returns-then-place-extent-clause-value
returns-then-place-extent-clause-value c =
    let ts = map (λ t. t.now) c.args.ts.now in
    let long = length-map c.args.ts.now (λ t. t.now) in
    let below : c.loop-at.at < length ts = omega (arith, long, c.loop-at-test.true) in
    let read : get_or ts c.loop-at.at c.index-ts-at.result.now ≡ c.index-ts-at.result.now =
    get_or-map (λ t. t.now) c.args.ts.now c.loop-at.at c.index-ts-at.result c.index-ts-at.result.now c.loop-at-test.true ∙ ap (λ r. r.now) (sym c.index-ts-at.is) in
    c.read.ensures.value
    ∙ ap (λ i. at c.index-ts-at.result.now i) (c.extents-then-place-extent-2.ensures.value ∙ c.with_coordinate.ensures.value)
    ∙ sym (joined_here c.args.axis ts c.loop-at.at c.index-ts-at.result.now (set c.args.index.now c.args.axis c.loop-at.place) c.loop-at.place c.entry_at-extent.result below (sym read)
    c.loop-at.invariant.place (c.entry_at-extent.ensures ∙ ap (λ s. get_or s c.args.axis 0) (c.extents.ensures.value ∙ c.shape.ensures.value)) c.if-place-extent.true)
    ∙ c.loop-at.invariant.value

pub returns-then-place-extent-clause-within : goal.returns-then-place-extent-clause-within
returns-then-place-extent-clause-within c =
    let ts = map (λ t. t.now) c.args.ts.now in
    let long = length-map c.args.ts.now (λ t. t.now) in
    let below : c.loop-at.at < length ts = omega (arith, long, c.loop-at-test.true) in
    let read : get_or ts c.loop-at.at c.index-ts-at.result.now ≡ c.index-ts-at.result.now =
    get_or-map (λ t. t.now) c.args.ts.now c.loop-at.at c.index-ts-at.result c.index-ts-at.result.now c.loop-at-test.true ∙ ap (λ r. r.now) (sym c.index-ts-at.is) in
    subst (λ w. IsCellOf w c.read.result) (ap (λ (t : TensorValue). t.width) (sym read) ∙ all_at c.args.width ts c.loop-at.at c.index-ts-at.result.now c.requires.widths below) c.read.ensures.within

pub loop-at-preserved : goal.loop-at-preserved
loop-at-preserved c =
    let ts = map (λ t. t.now) c.args.ts.now in
    let long = length-map c.args.ts.now (λ t. t.now) in
    let below : c.loop-at.at < length ts = omega (arith, long, c.loop-at-test.true) in
    let read : get_or ts c.loop-at.at c.index-ts-at.result.now ≡ c.index-ts-at.result.now =
    get_or-map (λ t. t.now) c.args.ts.now c.loop-at.at c.index-ts-at.result c.index-ts-at.result.now c.loop-at-test.true ∙ ap (λ r. r.now) (sym c.index-ts-at.is) in
    record {
      value =
          joined_next c.args.axis ts c.loop-at.at c.index-ts-at.result.now c.args.index.now c.loop-at.place c.entry_at-extent.result (c.loop-at.place - c.entry_at-extent.result) below (sym read)
          c.loop-at.invariant.place (c.entry_at-extent.ensures ∙ ap (λ s. get_or s c.args.axis 0) (c.extents.ensures.value ∙ c.shape.ensures.value))
          (omega (arith, c.if-place-extent.false)) refl
          ∙ c.loop-at.invariant.value;
      place = kept_place c.args.index.now c.args.axis c.loop-at.place (c.loop-at.place - c.entry_at-extent.result) c.loop-at.invariant.place (omega arith);
    }
