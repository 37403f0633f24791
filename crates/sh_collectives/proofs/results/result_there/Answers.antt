use Rattle.std.proofs.Common.{◌≡◌, ◌<◌, map, ap, sym, ◌∙◌, length, subst, Some}
use Rattle.std.proofs.lemmas.List.{length-map}
use Rattle.sh_tensor.specs.Tensor.{TensorValue}
use Rattle.sh_collectives.specs.Operands.{shape_by}
use Rattle.sh_collectives.specs.Ways.{collecting_by}
use Rattle.sh_collectives.proofs.ResultLaws.{fitting_is, shape_is}
use Rattle.sh_collectives.proofs.results.result_there.Goals as goal

pub value_at-requires-clause-shape : goal.value_at-requires-clause-shape
value_at-requires-clause-shape c =
    let shapes = map (λ s. s.now) c.args.shapes.now in
    let w = c.args.x.now.way in
    let many : length shapes ≡ length c.args.ts.now =
    ap length c.requires.shapes ∙ length-map (map (λ t. t.now) c.args.ts.now) (λ (t : TensorValue). t.shape) ∙ length-map c.args.ts.now (λ t. t.now) in
    let within : c.args.place < length shapes = subst (λ n. c.args.place < n) (sym many) c.requires.place in
    let fits = fitting_is (shape_by c.args.x.now.dims.now c.args.dims.now w shapes c.args.place) c.in-Fits.shape (sym c.shape_there.ensures ∙ c.in-Fits.is) in
    subst (λ ss. (collecting_by w).shape c.args.place ss ≡ Some c.in-Fits.shape) c.requires.shapes
    (shape_is c.args.x.now.dims.now c.args.dims.now w shapes c.args.place c.in-Fits.shape within c.requires.there fits.is)

pub value_at-requires-clause-small : goal.value_at-requires-clause-small
value_at-requires-clause-small c =
    (fitting_is (shape_by c.args.x.now.dims.now c.args.dims.now c.args.x.now.way (map (λ s. s.now) c.args.shapes.now) c.args.place) c.in-Fits.shape (sym c.shape_there.ensures ∙ c.in-Fits.is)).small
