use Rattle.std.proofs.Common.{◌≤◌, ap, ◌∙◌, arith, length, subst}
use Rattle.sh_base.specs.Shape.{cell_count, max_rank}
use Rattle.sh_base.proofs.ShapeLaws.{IsIndexOf-length}
use Rattle.sh_sem.specs.Nest.{index_at}
use Rattle.sh_loops.proofs.PointLaws.{index-small, length-index_at}
use Rattle.sh_loops.proofs.nests.index_in.Goals as goal

pub index_at-requires-clause-short : goal.index_at-requires-clause-short
index_at-requires-clause-short c =
    let long = IsIndexOf-length c.args.t.now.shape (index_at c.args.dims.now c.args.point.now) c.requires in
    subst (λ n. n ≤ max_rank)
    (ap length c.shape.ensures.value ∙ long ∙ length-index_at c.args.dims.now c.args.point.now)
    c.extents-extents.ensures.short

pub index_at-requires-clause-small : goal.index_at-requires-clause-small
index_at-requires-clause-small c =
    λ k d l.
    let small = index-small c.args.t.now.shape (index_at c.args.dims.now c.args.point.now) (cell_count c.args.t.now.shape) c.requires (omega arith) k d l in
    omega (arith, small, c.shape.ensures.small)
