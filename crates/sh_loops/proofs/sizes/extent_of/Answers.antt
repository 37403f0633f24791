use Rattle.std.proofs.Common.{◌≡◌, ◌<◌, ◌+◌, Some, None, map, drop, ap, ap₂, sym, ◌∙◌, arith, length, get_or}
use Rattle.std.specs.Prelude.{unwrap_or}
use Rattle.std.proofs.lemmas.List.{length-map, get_or-map}
use Rattle.sh_tensor.specs.Tensor.{TensorValue}
use Rattle.sh_sem.specs.Nest.{followed}
use Rattle.sh_loops.specs.Sizes.{extent_by, first_alone}
use Rattle.sh_loops.proofs.SizeLaws.{extent_next, no_extent, ranked_at, ranked_length}
use Rattle.sh_loops.proofs.sizes.extent_of.Goals as goal

pub bounds-operands-at : goal.bounds-operands-at
bounds-operands-at c =
    omega (arith, c.loop-at-test.true, ranked_length c.args.maps.now (map (λ t. t.now) c.args.operands.now) c.requires, length-map c.args.operands.now (λ t. t.now))

pub extent_in-requires : goal.extent_in-requires
extent_in-requires c =
    let ts = map (λ t. t.now) c.args.operands.now in
    let below : c.loop-at.at < length c.args.operands.now = omega (arith, c.loop-at-test.true, ranked_length c.args.maps.now (map (λ t. t.now) c.args.operands.now) c.requires, length-map c.args.operands.now (λ t. t.now)) in
    let read : get_or (map (λ t. t.now) c.args.operands.now) c.loop-at.at c.index-operands-at.result.now ≡ c.index-operands-at.result.now =
    get_or-map (λ t. t.now) c.args.operands.now c.loop-at.at c.index-operands-at.result c.index-operands-at.result.now below ∙ ap (λ r. r.now) (sym c.index-operands-at.is) in
    let dims : c.as_slice.result.now ≡ get_or c.args.maps.now c.loop-at.at c.index-maps-at.result = c.as_slice.ensures ∙ c.index-maps-at.is in
    let shape : c.extents-extents.result.now ≡ (get_or (map (λ t. t.now) c.args.operands.now) c.loop-at.at c.index-operands-at.result.now).shape =
    c.extents-extents.ensures.value ∙ c.shape.ensures.value ∙ ap (λ (t : TensorValue). t.shape) (sym read) in
    ap length dims
    ∙ ranked_at c.args.maps.now ts c.loop-at.at c.index-maps-at.result c.index-operands-at.result.now c.requires c.loop-at-test.true
    ∙ ap length (sym shape)

pub returns-in-Some : goal.returns-in-Some
returns-in-Some c =
    let ts = map (λ t. t.now) c.args.operands.now in
    let below : c.loop-at.at < length c.args.operands.now = omega (arith, c.loop-at-test.true, ranked_length c.args.maps.now (map (λ t. t.now) c.args.operands.now) c.requires, length-map c.args.operands.now (λ t. t.now)) in
    let read : get_or (map (λ t. t.now) c.args.operands.now) c.loop-at.at c.index-operands-at.result.now ≡ c.index-operands-at.result.now =
    get_or-map (λ t. t.now) c.args.operands.now c.loop-at.at c.index-operands-at.result c.index-operands-at.result.now below ∙ ap (λ r. r.now) (sym c.index-operands-at.is) in
    let dims : c.as_slice.result.now ≡ get_or c.args.maps.now c.loop-at.at c.index-maps-at.result = c.as_slice.ensures ∙ c.index-maps-at.is in
    let shape : c.extents-extents.result.now ≡ (get_or (map (λ t. t.now) c.args.operands.now) c.loop-at.at c.index-operands-at.result.now).shape =
    c.extents-extents.ensures.value ∙ c.shape.ensures.value ∙ ap (λ (t : TensorValue). t.shape) (sym read) in
    let found : c.extent_in.result ≡ first_alone (followed (get_or c.args.maps.now c.loop-at.at c.index-maps-at.result) (get_or (map (λ t. t.now) c.args.operands.now) c.loop-at.at c.index-operands-at.result.now).shape) c.args.l =
    c.extent_in.ensures ∙ ap₂ (λ ds s. first_alone (followed ds s) c.args.l) dims shape in
    let next = extent_next c.args.maps.now (map (λ t. t.now) c.args.operands.now) c.loop-at.at c.args.l c.index-maps-at.result c.index-operands-at.result.now c.requires c.loop-at-test.true in
    let there : Some c.in-Some.extent ≡ first_alone (followed (get_or c.args.maps.now c.loop-at.at c.index-maps-at.result) (get_or ts c.loop-at.at c.index-operands-at.result.now).shape) c.args.l = sym c.in-Some.is ∙ found in
    ap (λ o. unwrap_or o (extent_by (drop (c.loop-at.at + 1) c.args.maps.now) (drop (c.loop-at.at + 1) ts) c.args.l)) there ∙ sym next ∙ c.loop-at.invariant

pub loop-at-preserved : goal.loop-at-preserved
loop-at-preserved c =
    let ts = map (λ t. t.now) c.args.operands.now in
    let below : c.loop-at.at < length c.args.operands.now = omega (arith, c.loop-at-test.true, ranked_length c.args.maps.now (map (λ t. t.now) c.args.operands.now) c.requires, length-map c.args.operands.now (λ t. t.now)) in
    let read : get_or (map (λ t. t.now) c.args.operands.now) c.loop-at.at c.index-operands-at.result.now ≡ c.index-operands-at.result.now =
    get_or-map (λ t. t.now) c.args.operands.now c.loop-at.at c.index-operands-at.result c.index-operands-at.result.now below ∙ ap (λ r. r.now) (sym c.index-operands-at.is) in
    let dims : c.as_slice.result.now ≡ get_or c.args.maps.now c.loop-at.at c.index-maps-at.result = c.as_slice.ensures ∙ c.index-maps-at.is in
    let shape : c.extents-extents.result.now ≡ (get_or (map (λ t. t.now) c.args.operands.now) c.loop-at.at c.index-operands-at.result.now).shape =
    c.extents-extents.ensures.value ∙ c.shape.ensures.value ∙ ap (λ (t : TensorValue). t.shape) (sym read) in
    let found : c.extent_in.result ≡ first_alone (followed (get_or c.args.maps.now c.loop-at.at c.index-maps-at.result) (get_or (map (λ t. t.now) c.args.operands.now) c.loop-at.at c.index-operands-at.result.now).shape) c.args.l =
    c.extent_in.ensures ∙ ap₂ (λ ds s. first_alone (followed ds s) c.args.l) dims shape in
    let next = extent_next c.args.maps.now (map (λ t. t.now) c.args.operands.now) c.loop-at.at c.args.l c.index-maps-at.result c.index-operands-at.result.now c.requires c.loop-at-test.true in
    let none : None ≡ first_alone (followed (get_or c.args.maps.now c.loop-at.at c.index-maps-at.result) (get_or ts c.loop-at.at c.index-operands-at.result.now).shape) c.args.l = sym c.in-None.is ∙ found in
    ap (λ o. unwrap_or o (extent_by (drop (c.loop-at.at + 1) c.args.maps.now) (drop (c.loop-at.at + 1) ts) c.args.l)) none ∙ sym next ∙ c.loop-at.invariant

pub returns : goal.returns
returns c =
    let ts = map (λ t. t.now) c.args.operands.now in
    sym (no_extent c.args.maps.now (drop c.loop-at.at ts) c.loop-at.at c.args.l c.loop-at-test.false) ∙ c.loop-at.invariant
