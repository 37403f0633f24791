use Rattle.std.proofs.Common.{◌∙◌, ap, min, length, take, drop}
use Rattle.std.proofs.lemmas.List.{take_min, drop_min}
use Rattle.sh_sharding.specs.HaloSizes.{halo_count}
use Rattle.sh_sharding.proofs.HaloSizeLaws.{haloing_broken, haloing_more}
use Rattle.sh_sharding.proofs.halo_sizes.haloed_dimensions.Goals as goal

pub returns-in-None : goal.returns-in-None
returns-in-None c =
    let rest = c.loop-dimension.rest.now in
    let mine = c.split_at.ensures.front ∙ ap (λ n. take n rest) (c.min.ensures ∙ ap (λ n. min n (length rest)) c.halos_taken.ensures) ∙ take_min (halo_count c.dimension-item.result) rest in
    haloing_broken c.args.g.now.extents c.args.dimensions.now c.args.halos.now c.loop-dimension.dimension-index c.loop-dimension.out.items rest c.split_at.result.0.now c.dimension-item.result
    c.loop-dimension.invariant c.loop-dimension-test.true c.dimension-item.is mine
    (rw c.in-None.is at c.in_ok-haloed.ensures)

pub loop-dimension-preserved : goal.loop-dimension-preserved
loop-dimension-preserved c =
    let rest = c.loop-dimension.rest.now in
    let count = c.min.ensures ∙ ap (λ n. min n (length rest)) c.halos_taken.ensures in
    let mine = c.split_at.ensures.front ∙ ap (λ n. take n rest) count ∙ take_min (halo_count c.dimension-item.result) rest in
    let others = c.split_at.ensures.back ∙ ap (λ n. drop n rest) count ∙ drop_min (halo_count c.dimension-item.result) rest in
    let found = rw c.in-Some.is at c.in_ok-haloed.ensures in
    rw c.in_ok-push-in-Some.ensures.items
    (haloing_more c.args.g.now.extents c.args.dimensions.now c.args.halos.now c.loop-dimension.dimension-index c.loop-dimension.out.items rest c.split_at.result.0.now c.split_at.result.1.now c.dimension-item.result c.in-Some.haloed
    c.loop-dimension.invariant c.loop-dimension-test.true c.dimension-item.is mine others found.0 found.1)
