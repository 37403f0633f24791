use Rattle.std.proofs.Common.{◌≡◌, ◌<◌, map, ap, sym, ◌∙◌, arith, length, get_or, subst}
use Rattle.std.proofs.lemmas.List.{length-map, get_or-map}
use Rattle.sh_base.specs.Shape.{IsIndexOf, flat_of}
use Rattle.sh_tensor.specs.Tensor.{TensorValue}
use Rattle.sh_sem.specs.Nest.{index_at}
use Rattle.sh_loops.proofs.StepLaws.{inside_at, inside_length}
use Rattle.sh_loops.proofs.VisitLaws.{all_numbered, numbered}
use Rattle.sh_loops.proofs.rows.number_cells.Goals as goal

pub bounds-ins-at : goal.bounds-ins-at
bounds-ins-at c =
    let long = inside_length c.args.maps.now (map (λ t. t.now) c.args.ins.now) c.args.point.now c.requires in
    let same = length-map c.args.ins.now (λ t. t.now) in
    omega (arith, c.loop-at-test.true)

pub place_in-requires : goal.place_in-requires
place_in-requires c =
    let long = inside_length c.args.maps.now (map (λ t. t.now) c.args.ins.now) c.args.point.now c.requires in
    let same = length-map c.args.ins.now (λ t. t.now) in
    let below : c.loop-at.at < length c.args.ins.now = omega (arith, c.loop-at-test.true) in
    let read : get_or (map (λ t. t.now) c.args.ins.now) c.loop-at.at c.index-ins-at.result.now ≡ c.index-ins-at.result.now =
    get_or-map (λ t. t.now) c.args.ins.now c.loop-at.at c.index-ins-at.result c.index-ins-at.result.now below ∙ ap (λ r. r.now) (sym c.index-ins-at.is) in
    subst (λ (t : TensorValue). IsIndexOf t.shape (index_at c.as_slice.result.now c.args.point.now)) read
    (subst (λ dims. IsIndexOf (get_or (map (λ t. t.now) c.args.ins.now) c.loop-at.at c.index-ins-at.result.now).shape (index_at dims c.args.point.now))
    (sym (c.as_slice.ensures ∙ c.index-maps-at.is))
    (inside_at c.args.maps.now (map (λ t. t.now) c.args.ins.now) c.args.point.now c.loop-at.at c.index-maps-at.result c.index-ins-at.result.now c.requires c.loop-at-test.true))

pub loop-at-preserved : goal.loop-at-preserved
loop-at-preserved c =
    let long = inside_length c.args.maps.now (map (λ t. t.now) c.args.ins.now) c.args.point.now c.requires in
    let same = length-map c.args.ins.now (λ t. t.now) in
    let below : c.loop-at.at < length c.args.ins.now = omega (arith, c.loop-at-test.true) in
    let read : get_or (map (λ t. t.now) c.args.ins.now) c.loop-at.at c.index-ins-at.result.now ≡ c.index-ins-at.result.now =
    get_or-map (λ t. t.now) c.args.ins.now c.loop-at.at c.index-ins-at.result c.index-ins-at.result.now below ∙ ap (λ r. r.now) (sym c.index-ins-at.is) in
    numbered c.args.maps.now (map (λ t. t.now) c.args.ins.now) c.args.point.now c.loop-at.at c.index-maps-at.result c.index-ins-at.result.now c.loop-at.numbers.items c.push.new.self.items c.place_in.result
    c.requires c.loop-at-test.true c.index-maps-at.is (sym read)
    (c.place_in.ensures.value ∙ ap (λ dims. flat_of c.index-ins-at.result.now.shape (index_at dims c.args.point.now)) c.as_slice.ensures)
    c.in_ok-push.ensures.items c.loop-at.invariant

pub returns : goal.returns
returns c =
    all_numbered c.args.maps.now (map (λ t. t.now) c.args.ins.now) c.args.point.now c.loop-at.at c.loop-at.numbers.items c.loop-at-test.false c.loop-at.invariant
