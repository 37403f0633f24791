use Rattle.std.proofs.Common.{◌≡◌, ℕ, ◌<◌, List, length, map, get_or, ap, ap₂, sym, ◌∙◌, arith}
use Rattle.std.proofs.lemmas.List.{length-map, get_or-map}
use Rattle.sh_sem.specs.Nest.{followed}
use Rattle.sh_tensor.specs.Tensor.{TensorValue}
use Rattle.sh_loops.specs.Sizes.{with_room}
use Rattle.sh_loops.proofs.RoomLaws.{operand_fails, operand_passes, operands_end}
use Rattle.sh_loops.proofs.SizeLaws.{ranked_at, ranked_length}
use Rattle.sh_loops.proofs.sizes.all_have_room.Goals as goal

pub bounds-operands-at : goal.bounds-operands-at
bounds-operands-at c =
    let long = ranked_length c.args.maps.now (map (λ t. t.now) c.args.operands.now) c.requires in
    let same = length-map c.args.operands.now (λ t. t.now) in
    omega (arith, c.loop-at-test.true)

pub dims_have_room-requires : goal.dims_have_room-requires
dims_have_room-requires c =
    let long = ranked_length c.args.maps.now (map (λ t. t.now) c.args.operands.now) c.requires in
    let same = length-map c.args.operands.now (λ t. t.now) in
    let below : c.loop-at.at < length c.args.operands.now = omega (arith, c.loop-at-test.true) in
    let read : get_or (map (λ t. t.now) c.args.operands.now) c.loop-at.at c.index-operands-at.result.now ≡ c.index-operands-at.result.now =
    get_or-map (λ t. t.now) c.args.operands.now c.loop-at.at c.index-operands-at.result c.index-operands-at.result.now below ∙ ap (λ r. r.now) (sym c.index-operands-at.is) in
    ap length (c.as_slice.ensures ∙ c.index-maps-at.is)
    ∙ ranked_at c.args.maps.now (map (λ t. t.now) c.args.operands.now) c.loop-at.at c.index-maps-at.result c.index-operands-at.result.now c.requires c.loop-at-test.true
    ∙ ap length (ap (λ (t : TensorValue). t.shape) read ∙ sym (c.extents-shape.ensures.value ∙ c.shape.ensures.value))

pub returns-then-not-dims_have_room : goal.returns-then-not-dims_have_room
returns-then-not-dims_have_room c =
    let long = ranked_length c.args.maps.now (map (λ t. t.now) c.args.operands.now) c.requires in
    let same = length-map c.args.operands.now (λ t. t.now) in
    let below : c.loop-at.at < length c.args.operands.now = omega (arith, c.loop-at-test.true) in
    let read : get_or (map (λ t. t.now) c.args.operands.now) c.loop-at.at c.index-operands-at.result.now ≡ c.index-operands-at.result.now =
    get_or-map (λ t. t.now) c.args.operands.now c.loop-at.at c.index-operands-at.result c.index-operands-at.result.now below ∙ ap (λ r. r.now) (sym c.index-operands-at.is) in
    sym (operand_fails c.args.extents.now c.args.maps.now (map (λ t. t.now) c.args.operands.now) c.loop-at.at c.index-maps-at.result c.index-operands-at.result.now c.loop-at-test.true c.requires
    (ap₂ (λ dims (shape : List ℕ). with_room c.args.extents.now (followed dims shape)) (sym (c.as_slice.ensures ∙ c.index-maps-at.is))
    (ap (λ (t : TensorValue). t.shape) read ∙ sym (c.extents-shape.ensures.value ∙ c.shape.ensures.value))
    ∙ sym c.dims_have_room.ensures ∙ c.if-not-dims_have_room.true))
    ∙ c.loop-at.invariant

pub loop-at-preserved : goal.loop-at-preserved
loop-at-preserved c =
    let long = ranked_length c.args.maps.now (map (λ t. t.now) c.args.operands.now) c.requires in
    let same = length-map c.args.operands.now (λ t. t.now) in
    let below : c.loop-at.at < length c.args.operands.now = omega (arith, c.loop-at-test.true) in
    let read : get_or (map (λ t. t.now) c.args.operands.now) c.loop-at.at c.index-operands-at.result.now ≡ c.index-operands-at.result.now =
    get_or-map (λ t. t.now) c.args.operands.now c.loop-at.at c.index-operands-at.result c.index-operands-at.result.now below ∙ ap (λ r. r.now) (sym c.index-operands-at.is) in
    operand_passes c.args.extents.now c.args.maps.now (map (λ t. t.now) c.args.operands.now) c.loop-at.at c.index-maps-at.result c.index-operands-at.result.now c.loop-at-test.true c.requires
    (ap₂ (λ dims (shape : List ℕ). with_room c.args.extents.now (followed dims shape)) (sym (c.as_slice.ensures ∙ c.index-maps-at.is))
    (ap (λ (t : TensorValue). t.shape) read ∙ sym (c.extents-shape.ensures.value ∙ c.shape.ensures.value))
    ∙ sym c.dims_have_room.ensures ∙ c.if-not-dims_have_room.false)
    ∙ c.loop-at.invariant

pub returns : goal.returns
returns c = sym (operands_end c.args.extents.now c.args.maps.now _ c.loop-at.at c.loop-at-test.false) ∙ c.loop-at.invariant
