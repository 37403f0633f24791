use Rattle.std.proofs.lemmas.Int.{to_z-of_z}
use Rattle.std.specs.Int.{w128}
use Rattle.std.proofs.Common.{rules, FitsSigned, arith, ap, ◌∙◌, ◌++◌, ◌∷◌, [], ℤ}
use Rattle.sh_sharding.specs.Sharding.{dimension_of}
use Rattle.sh_choose.proofs.OffsetLaws.{starts_end, starts_more}
use Rattle.sh_choose.proofs.exact.starts_under.Goals as goal

pub loop-part-preserved : goal.loop-part-preserved
loop-part-preserved c =
    let more = starts_more c.args.s.now.grid.extents (dimension_of c.args.s.now c.args.dim) c.args.extent c.args.how c.loop-part.part c.start_under-start.result c.offset.result c.loop-part.starts c.loop-part.invariant c.start_under-start.ensures c.offset.ensures.value in
    let fits : FitsSigned w128 c.from.result = search rules in
    c.in_ok-push.ensures.ok ∙ ap (λ (z : ℤ). c.loop-part.starts ++ z ∷ []) (to_z-of_z w128 c.from.result fits ∙ c.from.ensures) ∙ more

pub returns : goal.returns
returns c =
    starts_end c.args.s.now.grid.extents (dimension_of c.args.s.now c.args.dim) c.args.extent c.args.how c.loop-part.part c.loop-part.starts c.loop-part.invariant (omega (arith, c.loop-part-test.false, c.loop-part.auto.part-end, c.part_count-part-end.ensures.value))
