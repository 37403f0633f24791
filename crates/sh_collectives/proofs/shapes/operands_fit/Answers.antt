use Rattle.std.proofs.Common.{ap, sym, ◌∙◌}
use Rattle.sh_sem.specs.Types.{have_extents}
use Rattle.sh_collectives.proofs.ListLaws.{all_fail, all_pass, all_end}
use Rattle.sh_collectives.proofs.shapes.operands_fit.Goals as goal

pub returns-then-not-fits : goal.returns-then-not-fits
returns-then-not-fits c =
    all_fail (have_extents c.args.dims.now) (λ s. s.now) c.args.shapes.now c.loop-shape.shape-index _ _ _ c.loop-shape-test.true c.shape-item.is
    (sym (c.fits.ensures ∙ ap (have_extents c.args.dims.now) (c.as_slice.ensures ∙ c.sizes_of-sizes.ensures.value)) ∙ c.if-not-fits.true) c.loop-shape.invariant

pub loop-shape-preserved : goal.loop-shape-preserved
loop-shape-preserved c =
    all_pass (have_extents c.args.dims.now) (λ s. s.now) c.args.shapes.now c.loop-shape.shape-index _ _ _ c.loop-shape-test.true c.shape-item.is
    (sym (c.fits.ensures ∙ ap (have_extents c.args.dims.now) (c.as_slice.ensures ∙ c.sizes_of-sizes.ensures.value)) ∙ c.if-not-fits.false) c.loop-shape.invariant

pub returns : goal.returns
returns c = all_end (have_extents c.args.dims.now) (λ s. s.now) c.args.shapes.now c.loop-shape.shape-index _ c.loop-shape-test.false c.loop-shape.invariant
