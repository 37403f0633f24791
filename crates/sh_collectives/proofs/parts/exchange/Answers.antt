use Rattle.std.proofs.Common.{◌≡◌, ◌<◌, map, ap, sym, ◌∙◌, subst, length}
use Rattle.std.specs.Prelude.{option_and_then}
use Rattle.std.specs.List.{All}
use Rattle.std.proofs.lemmas.List.{length-map}
use Rattle.std.proofs.lemmas.Result.{IfOk-weaker}
use Rattle.sh_sem.specs.Collected.{exchanged_shape}
use Rattle.sh_sem.specs.Pieces.{common_shape, joined_shape}
use Rattle.sh_tensor.specs.Tensor.{TensorValue, build, joined_at}
use Rattle.sh_collectives.specs.Operands.{AreTensors, pieces_at}
use Rattle.sh_collectives.proofs.PartLaws.{pieces_are, pieces_ranked, exchanged_pieces}
use Rattle.sh_collectives.proofs.parts.exchange.Goals as goal

pub join-requires-clause-axes : goal.join-requires-clause-axes
join-requires-clause-axes c =
    let ts = map (λ t. t.now) c.args.ts.now in
    let parts : map (λ t. t.now) c.as_slice-2.result.now ≡ pieces_at c.args.split c.args.place ts =
    ap (map (λ t. t.now)) c.as_slice-2.ensures.value ∙ c.in_ok-borrowed.ensures ∙ c.as_slice.ensures.value ∙ c.in_ok-parts.ensures in
    subst (All (λ (t : TensorValue). c.args.concat < length t.shape)) (sym parts) (pieces_ranked c.args.split c.args.place c.args.concat ts c.requires.concat)

pub join-requires-clause-operands : goal.join-requires-clause-operands
join-requires-clause-operands c =
    let ts = map (λ t. t.now) c.args.ts.now in
    let parts : map (λ t. t.now) c.as_slice-2.result.now ≡ pieces_at c.args.split c.args.place ts =
    ap (map (λ t. t.now)) c.as_slice-2.ensures.value ∙ c.in_ok-borrowed.ensures ∙ c.as_slice.ensures.value ∙ c.in_ok-parts.ensures in
    let within : c.args.place < length ts = rw (length-map c.args.ts.now (λ t. t.now)) c.requires.place in
    subst (AreTensors c.args.width) (sym parts) (pieces_are c.args.split c.args.place c.args.width ts within c.requires.split c.requires.operands)

pub join-requires-clause-shape : goal.join-requires-clause-shape
join-requires-clause-shape c =
    let ts = map (λ t. t.now) c.args.ts.now in
    let parts : map (λ t. t.now) c.as_slice-2.result.now ≡ pieces_at c.args.split c.args.place ts =
    ap (map (λ t. t.now)) c.as_slice-2.ensures.value ∙ c.in_ok-borrowed.ensures ∙ c.as_slice.ensures.value ∙ c.in_ok-parts.ensures in
    let within : c.args.place < length ts = rw (length-map c.args.ts.now (λ t. t.now)) c.requires.place in
    ap (λ us. joined_shape c.args.concat (map (λ (u : TensorValue). u.shape) us)) parts
    ∙ exchanged_pieces c.args.split c.args.concat c.args.place ts c.args.shape within
    (ap (λ n. option_and_then (exchanged_shape c.args.split c.args.concat n c.args.place) (common_shape (map (λ (u : TensorValue). u.shape) ts))) (length-map c.args.ts.now (λ t. t.now)) ∙ c.requires.shape)

pub returns : goal.returns
returns c =
    let ts = map (λ t. t.now) c.args.ts.now in
    let parts : map (λ t. t.now) c.as_slice-2.result.now ≡ pieces_at c.args.split c.args.place ts =
    ap (map (λ t. t.now)) c.as_slice-2.ensures.value ∙ c.in_ok-borrowed.ensures ∙ c.as_slice.ensures.value ∙ c.in_ok-parts.ensures in
    IfOk-weaker c.join.result _ _ (λ out h. h ∙ ap (λ us. build c.args.shape c.args.width (joined_at c.args.concat us)) parts) c.join.ensures
