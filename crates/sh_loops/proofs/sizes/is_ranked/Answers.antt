use Rattle.std.proofs.Common.{◌≡◌, ◌<◌, map, ap, sym, ◌∙◌, arith, length, get_or}
use Rattle.std.proofs.lemmas.List.{length-map, get_or-map}
use Rattle.sh_tensor.specs.Tensor.{TensorValue}
use Rattle.sh_loops.proofs.SizeLaws.{ranked_at, ranked_back, ranked_length}
use Rattle.sh_loops.proofs.sizes.is_ranked.Goals as goal

pub returns-then-maps-operands : goal.returns-then-maps-operands
returns-then-maps-operands c = (
  λ e. absurd (cc),
  λ h. absurd (c.if-maps-operands.true (ranked_length c.args.maps.now (map (λ t. t.now) c.args.operands.now) h ∙ length-map c.args.operands.now (λ t. t.now))),
)

pub returns-then-len-extents : goal.returns-then-len-extents
returns-then-len-extents c =
    let ts = map (λ t. t.now) c.args.operands.now in
    let same : length c.args.maps.now ≡ length ts = c.if-maps-operands.false ∙ sym (length-map c.args.operands.now (λ t. t.now)) in
    let below : c.loop-at.at < length c.args.operands.now = omega (arith, c.loop-at-test.true, c.if-maps-operands.false) in
    let read : get_or (map (λ t. t.now) c.args.operands.now) c.loop-at.at c.index-operands-at.result.now ≡ c.index-operands-at.result.now =
    get_or-map (λ t. t.now) c.args.operands.now c.loop-at.at c.index-operands-at.result c.index-operands-at.result.now below ∙ ap (λ r. r.now) (sym c.index-operands-at.is) in
    let long : length (get_or c.args.maps.now c.loop-at.at c.index-maps-at.result) ≡ c.len.result = ap length (sym c.index-maps-at.is) ∙ sym c.len.ensures in
    let rank : length c.extents.result.now ≡ length (get_or (map (λ t. t.now) c.args.operands.now) c.loop-at.at c.index-operands-at.result.now).shape =
    ap length (c.extents.ensures.value ∙ c.shape.ensures.value ∙ ap (λ (t : TensorValue). t.shape) (sym read)) in (
      λ e. absurd (cc),
      λ h.
          absurd (c.if-len-extents.true (sym long ∙ ranked_at c.args.maps.now ts c.loop-at.at c.index-maps-at.result c.index-operands-at.result.now h c.loop-at-test.true ∙ sym rank)),
    )

pub loop-at-preserved : goal.loop-at-preserved
loop-at-preserved c =
    let ts = map (λ t. t.now) c.args.operands.now in
    let same : length c.args.maps.now ≡ length ts = c.if-maps-operands.false ∙ sym (length-map c.args.operands.now (λ t. t.now)) in
    let below : c.loop-at.at < length c.args.operands.now = omega (arith, c.loop-at-test.true, c.if-maps-operands.false) in
    let read : get_or (map (λ t. t.now) c.args.operands.now) c.loop-at.at c.index-operands-at.result.now ≡ c.index-operands-at.result.now =
    get_or-map (λ t. t.now) c.args.operands.now c.loop-at.at c.index-operands-at.result c.index-operands-at.result.now below ∙ ap (λ r. r.now) (sym c.index-operands-at.is) in
    let long : length (get_or c.args.maps.now c.loop-at.at c.index-maps-at.result) ≡ c.len.result = ap length (sym c.index-maps-at.is) ∙ sym c.len.ensures in
    let rank : length c.extents.result.now ≡ length (get_or (map (λ t. t.now) c.args.operands.now) c.loop-at.at c.index-operands-at.result.now).shape =
    ap length (c.extents.ensures.value ∙ c.shape.ensures.value ∙ ap (λ (t : TensorValue). t.shape) (sym read)) in
    λ h.
    c.loop-at.invariant
    (ranked_back c.args.maps.now ts c.loop-at.at c.index-maps-at.result c.index-operands-at.result.now c.loop-at-test.true same (long ∙ c.if-len-extents.false ∙ rank) h)
