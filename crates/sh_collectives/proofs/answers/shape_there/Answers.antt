use Rattle.std.proofs.Common.{◌<◌, map, length, ap, sym, ◌∙◌}
use Rattle.std.proofs.lemmas.List.{length-map}
use Rattle.sh_collectives.specs.Sizes as spec
use Rattle.sh_collectives.proofs.AnswerLaws.{shape_there_is}
use Rattle.sh_collectives.proofs.answers.shape_there.Goals as goal

pub returns : goal.returns
returns c =
    let shapes = map (λ s. s.now) c.args.shapes.now in
    let within : c.args.place < length shapes = rw (length-map c.args.shapes.now (λ s. s.now)) c.requires.place in
    c.answer_of.ensures
    ∙ ap spec.shaped (c.fitting_at.ensures.value ∙ sym (shape_there_is c.args.x.now.dims.now c.args.dims.now c.args.x.now.way shapes c.args.place within c.requires.there))
