use mathlib.Core.Path.{◌∙◌, ap, sym}
use Rattle.std.proofs.Common.{◌≡◌, ◌*◌, ◌+◌, ◌≤◌, drop, min, arith}
use Rattle.std.specs.Prelude.{get_or, pos}
use Rattle.sh_base.specs.Shape.{cell_count}
use Rattle.sh_base.specs.Limits.{max_devices}
use Rattle.sh_ir.specs.Numbers.{as_natural, as_naturals}
use Rattle.sh_verify.proofs.CellLaws.{cut_more}
use Rattle.sh_verify.proofs.LeastLaws.{default_drop}
use Rattle.sh_verify.proofs.module_limits.have_few_devices.Goals as goal

pub loop-extent-preserved : goal.loop-extent-preserved
loop-extent-preserved c =
    let rest = cell_count (as_naturals (drop (c.loop-extent.extent-index + 1) c.args.extents.now)) in
    let so_far : min (max_devices + 1) (c.loop-extent.count * (as_natural (get_or c.args.extents.now c.loop-extent.extent-index (pos 0)) * rest))
    ≡ min (max_devices + 1) (cell_count (as_naturals c.args.extents.now)) =
    ap (λ xs. min (max_devices + 1) (c.loop-extent.count * cell_count (as_naturals xs)))
    (sym (default_drop c.args.extents.now c.loop-extent.extent-index (pos 0) c.loop-extent-test.true))
    ∙ c.loop-extent.invariant.0 in
    let cut : c.min-count.result ≤ 1025 = grind (arith, c.min-count.ensures) in (
      cut_more (max_devices + 1) c.loop-extent.count (as_natural (get_or c.args.extents.now c.loop-extent.extent-index (pos 0))) c.device_extent.result rest
          c.min-count.result _ c.device_extent.ensures so_far c.min-count.ensures,
      cut,
    )
