use mathlib.Core.Path.{◌∙◌, ap, sym}
use Rattle.std.proofs.Common.{◌≡◌, ◌*◌, ◌+◌, ◌≤◌, drop, min, arith}
use Rattle.std.specs.Prelude.{get_or, pos}
use Rattle.sh_ir.specs.Numbers.{as_natural, as_naturals}
use Rattle.sh_verify.specs.Lists.{above_extents}
use Rattle.sh_verify.specs.Relations.{size_of_axes}
use Rattle.sh_verify.proofs.LeastLaws.{default_drop}
use Rattle.sh_verify.proofs.RelationLaws.{product_more}
use Rattle.sh_verify.proofs.relations.count_along.Goals as goal

pub loop-axis-preserved : goal.loop-axis-preserved
loop-axis-preserved c =
    let n = get_or (as_naturals c.args.extents.now) (as_natural (get_or c.args.axes.now c.loop-axis.axis-index (pos 0))) 0 in
    let rest = size_of_axes c.args.extents.now (drop (c.loop-axis.axis-index + 1) c.args.axes.now) in
    let so_far : min (c.loop-axis.count * (n * rest)) above_extents ≡ min (size_of_axes c.args.extents.now c.args.axes.now) above_extents =
    ap (λ xs. min (c.loop-axis.count * size_of_axes c.args.extents.now xs) above_extents)
    (sym (default_drop c.args.axes.now c.loop-axis.axis-index (pos 0) c.loop-axis-test.true))
    ∙ c.loop-axis.invariant.0 in
    let read : c.number_at.result ≡ n =
    c.number_at.ensures ∙ ap (λ a. get_or (as_naturals c.args.extents.now) a 0) c.natural.ensures in
    let next : c.cut_product-count.result ≡ min (c.loop-axis.count * n) above_extents =
    c.cut_product-count.ensures ∙ ap (λ k. min (c.loop-axis.count * k) above_extents) read in
    let within : c.cut_product-count.result ≤ above_extents = omega arith in
    (product_more above_extents c.loop-axis.count n rest c.cut_product-count.result _ so_far next, within)
