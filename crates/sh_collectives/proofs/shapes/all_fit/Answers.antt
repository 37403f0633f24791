use Rattle.std.proofs.Common.{◌<◌, ◌≤◌, map, length, ap, sym, ◌∙◌, refl, subst}
use Rattle.std.specs.Prelude.{option_map}
use Rattle.std.proofs.lemmas.List.{length-map}
use Rattle.sh_collectives.specs.Ways.{places_asked}
use Rattle.sh_collectives.proofs.AskedLaws.{given_at, asked_all}
use Rattle.sh_collectives.proofs.PlaceLaws.{are_there, there_start, there_fails, there_passes, there_end}
use Rattle.sh_collectives.proofs.shapes.all_fit.Goals as goal

pub loop-place-init : goal.loop-place-init
loop-place-init c =
    let shapes = map (λ s. s.now) c.args.shapes.now in
    let given = given_at c.args.dims.now shapes c.args.way.now in
    let many = length c.args.shapes.now in
    there_start given (places_asked c.args.way.now many) (places_asked c.args.way.now many) refl
    ∙ asked_all c.args.dims.now shapes c.args.way.now many
    ∙ ap (are_there given 0) (sym (length-map c.args.shapes.now (λ s. s.now)))

pub returns-in-None : goal.returns-in-None
returns-in-None c =
    let asked : c.loop-place.place < places_asked c.args.way.now (length c.args.shapes.now) = subst (λ n. c.loop-place.place < n) c.asked-place-end.ensures.value c.loop-place-test.true in
    there_fails (given_at c.args.dims.now (map (λ s. s.now) c.args.shapes.now) c.args.way.now) c.loop-place.place (places_asked c.args.way.now (length c.args.shapes.now)) _
    asked (sym c.fitting_at.ensures.value ∙ ap (option_map (λ s. s.items)) c.in-None.is) c.loop-place.invariant

pub loop-place-preserved : goal.loop-place-preserved
loop-place-preserved c =
    let asked : c.loop-place.place < places_asked c.args.way.now (length c.args.shapes.now) = subst (λ n. c.loop-place.place < n) c.asked-place-end.ensures.value c.loop-place-test.true in
    there_passes (given_at c.args.dims.now (map (λ s. s.now) c.args.shapes.now) c.args.way.now) c.loop-place.place (places_asked c.args.way.now (length c.args.shapes.now)) _ _
    asked (sym c.fitting_at.ensures.value ∙ ap (option_map (λ s. s.items)) c.in-Some.is) c.loop-place.invariant

pub returns : goal.returns
returns c =
    let all : places_asked c.args.way.now (length c.args.shapes.now) ≤ c.loop-place.place = subst (λ n. n ≤ c.loop-place.place) c.asked-place-end.ensures.value c.loop-place-test.false in
    there_end (given_at c.args.dims.now (map (λ s. s.now) c.args.shapes.now) c.args.way.now) c.loop-place.place (places_asked c.args.way.now (length c.args.shapes.now)) _
    all c.loop-place.invariant
