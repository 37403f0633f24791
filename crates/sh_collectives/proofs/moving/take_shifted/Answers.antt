use Rattle.std.proofs.Common.{◌≡◌, ◌<◌, map, ap, sym, ◌∙◌, length, get_or}
use Rattle.std.proofs.lemmas.List.{length-map, get_or-map}
use Rattle.std.proofs.lemmas.Result.{IfOk-weaker}
use Rattle.sh_collectives.specs.Ways.{source_by}
use Rattle.sh_collectives.proofs.MovingLaws.{shifted_is, shifted_none}
use Rattle.sh_collectives.proofs.moving.take_shifted.Goals as goal

pub returns-in-Some : goal.returns-in-Some
returns-in-Some c =
    let ts = map (λ t. t.now) c.args.ts.now in
    let within : c.in-Some.from < length c.args.ts.now = rw (← c.requires.group.counted) c.in-Some.ensures.within in
    let long : c.in-Some.from < length ts = rw (length-map c.args.ts.now (λ t. t.now)) within in
    let read : get_or ts c.in-Some.from c.index-ts-from.result.now ≡ c.index-ts-from.result.now =
    get_or-map (λ t. t.now) c.args.ts.now c.in-Some.from c.index-ts-from.result c.index-ts-from.result.now within ∙ ap (λ r. r.now) (sym c.index-ts-from.is) in
    IfOk-weaker c.copy.result _ _
    (λ out h. h ∙ shifted_is (source_by c.args.x.now c.args.place) c.in-Some.from c.args.place ts c.args.width c.args.shape c.index-ts-from.result.now (sym c.source.ensures.value ∙ c.in-Some.is) long read c.requires.operands c.requires.shape)
    c.copy.ensures

pub returns-in-None : goal.returns-in-None
returns-in-None c =
    IfOk-weaker c.undefined.result _ _
    (λ out h. h ∙ shifted_none (source_by c.args.x.now c.args.place) (map (λ t. t.now) c.args.ts.now) c.args.width c.args.shape (sym c.source.ensures.value ∙ c.in-None.is))
    c.undefined.ensures
