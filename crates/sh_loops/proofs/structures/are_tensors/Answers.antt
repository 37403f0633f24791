use Rattle.std.proofs.Common.{◌≡◌, ◌<◌, ◌≤◌, length, map, get_or, ap, sym, ◌∙◌, arith, subst, take}
use Rattle.std.specs.List.{All}
use Rattle.std.proofs.lemmas.List.{length-map, get_or-map, take_all}
use Rattle.std.proofs.lemmas.List.Elements.{All-more}
use Rattle.sh_tensor.specs.Tensor.{IsHeld}
use Rattle.sh_loops.proofs.structures.are_tensors.Goals as goal

pub loop-at-preserved : goal.loop-at-preserved
loop-at-preserved c =
    let long = length-map c.args.ins.now (λ t. t.now) in
    let below : c.loop-at.at < length (map (λ t. t.now) c.args.ins.now) = omega (arith, long, c.loop-at-test.true) in
    let read : get_or (map (λ t. t.now) c.args.ins.now) c.loop-at.at c.index-ins-at.result.now ≡ c.index-ins-at.result.now =
    get_or-map (λ t. t.now) c.args.ins.now c.loop-at.at c.index-ins-at.result c.index-ins-at.result.now c.loop-at-test.true ∙ ap (λ r. r.now) (sym c.index-ins-at.is) in
    All-more IsHeld (map (λ t. t.now) c.args.ins.now) c.loop-at.at c.index-ins-at.result.now below c.loop-at.invariant (subst IsHeld (sym read) (record { whole = c.shape-whole.ensures.whole; small = c.shape-whole.ensures.small }))

pub returns : goal.returns
returns c =
    let long = length-map c.args.ins.now (λ t. t.now) in
    let past : length (map (λ t. t.now) c.args.ins.now) ≤ c.loop-at.at = omega (arith, long, c.loop-at-test.false) in
    subst (All IsHeld) (take_all c.loop-at.at (map (λ t. t.now) c.args.ins.now) past) c.loop-at.invariant
