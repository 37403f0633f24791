use Rattle.std.proofs.Common.{◌≤◌, ℕ, refl, sym, arith, subst, None, false, ◌<◌, length}
use Rattle.sh_base.specs.Shape.{max_cells}
use Rattle.sh_iface.specs.LoopNest.{loop_at}
use Rattle.sh_iface.specs.Splits.{split_at}
use Rattle.sh_choose.specs.Weights.{points_along}
use Rattle.sh_choose.proofs.PointLaws.{few_fit, few_more, points_along_small, points_more}
use Rattle.sh_choose.proofs.weighing.points.Goals as goal

pub overflow_mul-points : goal.overflow_mul-points
overflow_mul-points g c =
    let nest = (g.O.HasLoops.meaning c.args.op.now).nest in
    let there : c.loop-l.l < length nest.loops = omega (arith, c.loop-l-test.true, c.loop_count-l-end.ensures) in
    let small : c.points_along-points.result ≤ max_cells = subst (λ n. n ≤ max_cells) (sym c.points_along-points.ensures)
    (points_along_small c.args.g.now.extents nest.loops c.args.o.now (record { extent = 0; splittable = false; kind = None }) c.loop-l.l c.requires.valid.splits c.requires.nest.small there) in
    omega (arith, few_fit c.loop-l.l c.loop-l.points c.points_along-points.result (omega (arith, there, c.requires.nest.few)) c.loop-l.invariant.1 small)

pub loop-l-preserved : goal.loop-l-preserved
loop-l-preserved g c =
    let nest = (g.O.HasLoops.meaning c.args.op.now).nest in
    let there : c.loop-l.l < length nest.loops = omega (arith, c.loop-l-test.true, c.loop_count-l-end.ensures) in
    let small : c.points_along-points.result ≤ max_cells = subst (λ n. n ≤ max_cells) (sym c.points_along-points.ensures)
    (points_along_small c.args.g.now.extents nest.loops c.args.o.now (record { extent = 0; splittable = false; kind = None }) c.loop-l.l c.requires.valid.splits c.requires.nest.small there) in
    let f = λ (l : ℕ). points_along (loop_at nest l).extent (split_at c.args.o.now l) in (
      points_more f c.loop-l.l c.loop-l.points c.points_along-points.result _ c.loop-l.invariant.0 c.points_along-points.ensures refl,
      few_more c.loop-l.l c.loop-l.points c.points_along-points.result _ c.loop-l.invariant.1 small refl,
    )
