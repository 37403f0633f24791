use Rattle.std.proofs.Common.{◌≡◌, ◌<◌, map, ap, sym, ◌∙◌, subst, length}
use Rattle.std.specs.Prelude.{option_and_then}
use Rattle.std.proofs.lemmas.List.{length-map}
use Rattle.std.proofs.lemmas.Result.{IfOk-weaker}
use Rattle.sh_sem.specs.Collected.{combined_at, scattered_shape}
use Rattle.sh_sem.specs.Pieces.{common_shape}
use Rattle.sh_tensor.specs.Tensor.{TensorValue, build}
use Rattle.sh_collectives.specs.Operands.{AreTensors, pieces_at}
use Rattle.sh_collectives.proofs.PartLaws.{pieces_are, scattered_pieces}
use Rattle.sh_collectives.proofs.parts.scatter.Goals as goal

pub combine-requires-clause-operands : goal.combine-requires-clause-operands
combine-requires-clause-operands c =
    let ts = map (λ t. t.now) c.args.ts.now in
    let parts : map (λ t. t.now) c.as_slice-2.result.now ≡ pieces_at c.args.axis c.args.place ts =
    ap (map (λ t. t.now)) c.as_slice-2.ensures.value ∙ c.in_ok-borrowed.ensures ∙ c.as_slice.ensures.value ∙ c.in_ok-parts.ensures in
    let within : c.args.place < length ts = rw (length-map c.args.ts.now (λ t. t.now)) c.requires.place in
    subst (AreTensors c.args.width) (sym parts) (pieces_are c.args.axis c.args.place c.args.width ts within c.requires.axes c.requires.operands)

pub combine-requires-clause-common : goal.combine-requires-clause-common
combine-requires-clause-common c =
    let ts = map (λ t. t.now) c.args.ts.now in
    let parts : map (λ t. t.now) c.as_slice-2.result.now ≡ pieces_at c.args.axis c.args.place ts =
    ap (map (λ t. t.now)) c.as_slice-2.ensures.value ∙ c.in_ok-borrowed.ensures ∙ c.as_slice.ensures.value ∙ c.in_ok-parts.ensures in
    let within : c.args.place < length ts = rw (length-map c.args.ts.now (λ t. t.now)) c.requires.place in
    ap (λ us. common_shape (map (λ (u : TensorValue). u.shape) us)) parts
    ∙ scattered_pieces c.args.axis c.args.place ts c.args.shape within
    (ap (λ n. option_and_then (scattered_shape c.args.axis n c.args.place) (common_shape (map (λ (u : TensorValue). u.shape) ts))) (length-map c.args.ts.now (λ t. t.now)) ∙ c.requires.shape)

pub returns : goal.returns
returns c =
    let ts = map (λ t. t.now) c.args.ts.now in
    let parts : map (λ t. t.now) c.as_slice-2.result.now ≡ pieces_at c.args.axis c.args.place ts =
    ap (map (λ t. t.now)) c.as_slice-2.ensures.value ∙ c.in_ok-borrowed.ensures ∙ c.as_slice.ensures.value ∙ c.in_ok-parts.ensures in
    IfOk-weaker c.combine.result _ _ (λ out h. h ∙ ap (λ us. build c.args.shape c.args.width (combined_at c.args.kind us)) parts) c.combine.ensures
