use Rattle.std.proofs.Common.{sym, ◌∙◌, refl}
use Rattle.sh_collectives.proofs.SizeLaws.{other_rank, extents_fail, extents_pass, extents_end}
use Rattle.sh_collectives.proofs.sizes.fits.Goals as goal

pub returns-then-dims-sizes : goal.returns-then-dims-sizes
returns-then-dims-sizes c = other_rank c.args.dims.now c.args.sizes.now c.if-dims-sizes.true

pub returns-then-not-is_extent : goal.returns-then-not-is_extent
returns-then-not-is_extent c =
    extents_fail c.args.dims.now c.args.sizes.now c.loop-at.at _ _ _ _ _ c.loop-at-test.true c.if-dims-sizes.false refl refl
    (sym c.is_extent.ensures ∙ c.if-not-is_extent.true) c.loop-at.invariant

pub loop-at-preserved : goal.loop-at-preserved
loop-at-preserved c =
    extents_pass c.args.dims.now c.args.sizes.now c.loop-at.at _ _ _ _ _ c.loop-at-test.true c.if-dims-sizes.false refl refl
    (sym c.is_extent.ensures ∙ c.if-not-is_extent.false) c.loop-at.invariant

pub returns : goal.returns
returns c = extents_end c.args.dims.now c.args.sizes.now c.loop-at.at _ c.loop-at-test.false c.if-dims-sizes.false c.loop-at.invariant
