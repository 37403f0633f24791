use Rattle.std.proofs.Common.{[], ◌∷◌, ◌++◌, ◌∙◌, ap, arith}
use Rattle.sh_ir.specs.declared.types.ValueType.TheVariants.{Tensor}
use Rattle.sh_sharding.specs.LocalTypes.{local_dim}
use Rattle.sh_sharding.specs.Sharding.{unsplit}
use Rattle.sh_reshard.proofs.LoweringSteps.{taken_end, taken_more}
use Rattle.sh_reshard.proofs.kinds.local_type.Goals as goal

pub loop-dim-preserved : goal.loop-dim-preserved
loop-dim-preserved c =
    let rank = c.rank-dim-end.ensures.value in
    taken_more (local_dim c.args.s.now.grid.extents) c.args.s.now.dimensions c.loop-dim.dim (unsplit 0) c.loop-dim.dims c.push.new.self (omega (arith, rank)) c.loop-dim.invariant
    (c.in_ok-push.ensures.ok ∙ ap (λ x. c.loop-dim.dims ++ x ∷ []) c.local_extent.ensures)

pub returns : goal.returns
returns c =
    let rank = c.rank-dim-end.ensures.value in
    ap (λ ds. Tensor (record { dims = ds; width = c.args.width }))
    (taken_end (local_dim c.args.s.now.grid.extents) c.args.s.now.dimensions c.loop-dim.dim c.loop-dim.dims (omega (arith, rank)) c.loop-dim.invariant)
