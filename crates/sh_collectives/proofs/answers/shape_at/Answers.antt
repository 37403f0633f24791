use Rattle.std.proofs.Common.{map, ap, sym, ◌∙◌}
use Rattle.std.specs.Prelude.{option_and_then, slice_get}
use Rattle.sh_collectives.specs.Described.{shapes_given}
use Rattle.sh_collectives.specs.Sizes as spec
use Rattle.sh_collectives.proofs.AnswerLaws.{can_work, given_by, given_none}
use Rattle.sh_collectives.proofs.answers.shape_at.Goals as goal

pub shape_given-requires-clause-works : goal.shape_given-requires-clause-works
shape_given-requires-clause-works c =
    can_work c.args.op.now.kind c.args.g.now.extents (map (λ s. s.now) c.args.shapes.now) c.args.place c.in-Some.x c.described.ensures.grid c.requires c.in-Some.ensures.some

pub returns-in-Some : goal.returns-in-Some
returns-in-Some c =
    let shapes = map (λ s. s.now) c.args.shapes.now in
    c.shape_given.ensures
    ∙ ap (λ dims. spec.shaped (option_and_then (λ ss. slice_get ss c.args.place) (shapes_given c.in-Some.x.dims.now dims c.in-Some.x.way shapes))) c.dims_of.ensures
    ∙ ap (λ o. spec.shaped (option_and_then (λ ss. slice_get ss c.args.place) o)) (sym (given_by c.args.op.now c.args.g.now.extents c.in-Some.x shapes c.in-Some.ensures.some))

pub returns-in-None : goal.returns-in-None
returns-in-None c =
    let shapes = map (λ s. s.now) c.args.shapes.now in
    ap (λ o. spec.shaped (option_and_then (λ ss. slice_get ss c.args.place) o)) (sym (given_none c.args.op.now c.args.g.now.extents shapes c.in-None.ensures.none))
