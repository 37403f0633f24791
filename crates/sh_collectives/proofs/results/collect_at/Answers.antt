use Rattle.std.proofs.Common.{◌≡◌, map, ap, ap₂, sym, ◌∙◌, subst}
use Rattle.std.specs.Prelude.{option_and_then, slice_get}
use Rattle.std.proofs.lemmas.Result.{IfOk-weaker}
use Rattle.sh_sem.specs.Collected.{shapes_collected}
use Rattle.sh_tensor.specs.Tensor.{TensorValue}
use Rattle.sh_collectives.specs.Operands.{IsSmall, shape_by, value_by}
use Rattle.sh_collectives.specs.Ways.{CanWork}
use Rattle.sh_collectives.proofs.AnswerLaws.{can_work, given_by}
use Rattle.sh_collectives.proofs.ResultLaws.{collected_by, collected_none}
use Rattle.sh_collectives.proofs.results.collect_at.Goals as goal

pub result_given-requires-clause-works : goal.result_given-requires-clause-works
result_given-requires-clause-works c =
    let shapes : map (λ s. s.now) c.as_slice.result.now ≡ map (λ (t : TensorValue). t.shape) (map (λ t. t.now) c.args.ts.now) = ap (map (λ s. s.now)) c.as_slice.ensures.value ∙ c.in_ok-shapes.ensures.value in
    subst (CanWork c.in-Some.x.way) (sym shapes)
    (can_work c.args.op.now.kind c.args.g.now.extents (map (λ (t : TensorValue). t.shape) (map (λ t. t.now) c.args.ts.now)) c.args.place c.in-Some.x c.described.ensures.grid c.requires.group c.in-Some.ensures.some)

pub result_given-requires-clause-small : goal.result_given-requires-clause-small
result_given-requires-clause-small c =
    let all = map (λ (t : TensorValue). t.shape) (map (λ t. t.now) c.args.ts.now) in
    let shapes : map (λ s. s.now) c.as_slice.result.now ≡ all = ap (map (λ s. s.now)) c.as_slice.ensures.value ∙ c.in_ok-shapes.ensures.value in
    let same : option_and_then (λ ss. slice_get ss c.args.place) (shapes_collected c.args.op.now c.args.g.now.extents all)
    ≡ shape_by c.in-Some.x.dims.now c.dims_of-dims.result.now c.in-Some.x.way (map (λ s. s.now) c.as_slice.result.now) c.args.place =
    ap (λ o. option_and_then (λ ss. slice_get ss c.args.place) o) (given_by c.args.op.now c.args.g.now.extents c.in-Some.x all c.in-Some.ensures.some)
    ∙ ap₂ (λ dims ss. shape_by c.in-Some.x.dims.now dims c.in-Some.x.way ss c.args.place) (sym c.dims_of-dims.ensures) (sym shapes) in
    subst IsSmall same c.requires.small

pub returns-in-Some : goal.returns-in-Some
returns-in-Some c =
    let ts = map (λ t. t.now) c.args.ts.now in
    IfOk-weaker c.result_given.result _ _
    (λ out h. h
    ∙ ap₂ (λ dims width. value_by c.in-Some.x.dims.now dims width c.in-Some.x.way ts c.args.place) c.dims_of-dims.ensures c.width_of-width.ensures
    ∙ collected_by c.args.op.now c.args.g.now.extents ts c.args.place c.in-Some.x c.in-Some.ensures.some)
    c.result_given.ensures

pub returns : goal.returns
returns c = collected_none c.args.op.now c.args.g.now.extents (map (λ t. t.now) c.args.ts.now) c.args.place c.in-None.ensures.none
