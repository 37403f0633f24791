use Rattle.std.proofs.Common.{◌≡◌, ◌<◌, [], length, ap, sym, ◌∙◌, arith}
use Rattle.std.proofs.lemmas.List.{get_or_default}
use Rattle.sh_base.specs.declared.numbers.Width.TheVariants.{I1}
use Rattle.sh_base.specs.Shape.{cell_count}
use Rattle.sh_grid.specs.Grid.{GridValue}
use Rattle.sh_sharding.specs.Together.{part_at}
use Rattle.sh_tensor.specs.Tensor.{TensorValue}
use Rattle.sh_iface_tests.proofs.PartsLike.{more_like}
use Rattle.sh_iface_tests.proofs.cutting.parts_on.Goals as goal

pub loop-device-preserved : goal.loop-device-preserved
loop-device-preserved g c =
    let cuts = c.args.cuts.now.items in
    let here : c.loop-device.device < c.devices-device-end.result = omega (arith, c.loop-device-test.true) in
    let counted : length cuts ≡ c.devices-device-end.result = c.requires.cuts.counted ∙ ap (λ (grid : GridValue). cell_count grid.extents) c.requires.grid ∙ sym c.devices-device-end.ensures.value in
    let same : c.index.result.now ≡ part_at cuts c.loop-device.device = c.index.ensures ∙ get_or_default cuts c.loop-device.device c.index.result.now (record { shape = []; width = I1; cells = [] }) (rw counted here) in
    more_like cuts c.loop-device.parts.items c.push.new.self.items c.loop-device.device c.in_ok-fitting.field-0
    c.loop-device.invariant c.in_ok-push.ensures.items
    (c.in_ok-fitting.ensures.shape ∙ ap (λ (t : TensorValue). t.shape) same)
    (c.in_ok-fitting.ensures.width ∙ ap (λ (t : TensorValue). t.width) same)
