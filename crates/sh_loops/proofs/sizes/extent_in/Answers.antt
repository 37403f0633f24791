use Rattle.std.proofs.Common.{◌∷◌, [], ap, sym, ◌∙◌}
use Rattle.std.specs.Prelude.{nat_eq}
use Rattle.std.specs.Cmp.Lexicographic.{pointwise}
use Rattle.sh_loops.proofs.SizeLaws.{next_dim}
use Rattle.sh_loops.proofs.sizes.extent_in.Goals as goal

pub loop-at-preserved : goal.loop-at-preserved
loop-at-preserved c =
    next_dim c.args.dims.now c.args.shape.now c.loop-at.at c.args.l c.index-dims-at.result c.loop-at-test.true c.requires
    (ap (λ loops. pointwise nat_eq loops (c.args.l ∷ [])) (sym (c.as_slice.ensures ∙ c.index-dims-at.is)) ∙ sym c.follows_alone.ensures ∙ c.if-follows_alone.false)
    ∙ c.loop-at.invariant
