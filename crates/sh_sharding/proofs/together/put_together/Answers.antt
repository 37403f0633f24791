use Rattle.std.proofs.Common.{◌≡◌, ℕ, List, IfErr, rules, ap, ap₂, subst, ◌∙◌}
use Rattle.sh_base.specs.declared.numbers.Cell.{Cell}
use Rattle.sh_base.specs.declared.numbers.Width.{Width}
use Rattle.sh_tensor.specs.Tensor.{TensorValue}
use Rattle.sh_sharding.specs.Sharding.{whole_of}
use Rattle.sh_sharding.specs.Positions.{AreHeld, IsStanding}
use Rattle.sh_sharding.specs.Together.{part_at, IsPutRefusal}
use Rattle.sh_sharding.proofs.PositionLaws.{cells_few}
use Rattle.sh_sharding.proofs.TogetherLaws.{some_part, is_tensor, together, again, again_err}
use Rattle.sh_sharding.proofs.together.put_together.Goals as goal

pub returns-in_err-compare-clause-again : goal.returns-in_err-compare-clause-again
returns-in_err-compare-clause-again c = λ t cuts.
    let said : IfErr c.from_residual-in_err-compare.result (λ refusal. IsPutRefusal refusal c.args.s.now c.args.parts.now.items) = search rules in
    again_err c.args.s.now c.args.parts.now.items t c.from_residual-in_err-compare.result c.from_residual-in_err-compare.ensures.0 said cuts

pub common_width-requires : goal.common_width-requires
common_width-requires c = rw c.as_slice-parts.ensures.value (some_part c.args.s.now c.args.parts.now.items c.whole.ensures.admitted c.requires.parts)

pub build-requires-clause-small : goal.build-requires-clause-small
build-requires-clause-small c =
    rw (c.shape-shape.ensures, c.extents.ensures.value, c.whole.ensures.value) (cells_few c.args.s.now c.whole.ensures.admitted)

pub build-requires-clause-fitting : goal.build-requires-clause-fitting
build-requires-clause-fitting c = rw c.common_width.ensures c.in_ok-cells.ensures.fitting

pub returns : goal.returns
returns c =
    let parts : List TensorValue = c.args.parts.now.items in
    let cells : List Cell = c.in_ok-cells.cells.items in
    let read = c.as_slice-parts.ensures.value in
    let shape = c.shape-shape.ensures ∙ c.extents.ensures.value ∙ c.whole.ensures.value in
    let width = c.common_width.ensures ∙ ap (λ (z : List TensorValue). (part_at z 0).width) read in
    let made : c.build.result ≡ record { shape = whole_of c.args.s.now; width = (part_at parts 0).width; cells = cells } =
    c.build.ensures ∙ ap₂ (λ (s : List ℕ) (w : Width). record { shape = s; width = w; cells = cells }) shape width in
    let held = subst (λ z. AreHeld c.args.s.now z cells) read (subst (AreHeld c.args.s.now c.as_slice-parts.result.now) c.as_slice.ensures.value c.in_ok-compare.ensures.alike) in
    let standing = subst (λ z. IsStanding c.args.s.now z 0 cells) read c.in_ok-cells.ensures in
    let whole = is_tensor c.args.s.now parts cells c.build.result c.whole.ensures.admitted standing made in
    let ok = together c.args.s.now parts cells c.build.result held made in
    record { ok = ok; refused = tt; again = λ t cuts. (again c.args.s.now parts t c.build.result c.whole.ensures.admitted cuts whole ok, tt) }
