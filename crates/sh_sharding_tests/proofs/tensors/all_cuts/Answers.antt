use Rattle.std.proofs.Common.{◌≡◌, [], ◌∷◌, ◌++◌, ap, ap₂, sym, ◌∙◌, arith}
use Rattle.std.proofs.lemmas.List.FromFn.{map-range_with_len_more}
use Rattle.sh_base.specs.Shape.{cell_count}
use Rattle.sh_grid.specs.Grid.{GridValue}
use Rattle.sh_sharding.specs.Cut.{cut_of}
use Rattle.sh_sharding_tests.proofs.PartsLaws.{cuts_are_parts}
use Rattle.sh_sharding_tests.proofs.tensors.all_cuts.Goals as goal

pub loop-device-preserved : goal.loop-device-preserved
loop-device-preserved c =
    c.in_ok-push.ensures.items
    ∙ ap₂ (λ xs x. xs ++ x ∷ []) c.loop-device.invariant c.in_ok-cut.ensures
    ∙ sym (map-range_with_len_more (cut_of c.args.s.now c.args.t.now) 0 c.loop-device.device c.loop-device.device (omega arith))

pub returns-clause-parts : goal.returns-clause-parts
returns-clause-parts c =
    let last : c.loop-device.device ≡ c.devices-device-end.result = omega (arith, c.loop-device-test.false, c.loop-device.auto.device-end) in
    cuts_are_parts c.args.s.now c.args.t.now c.loop-device.device c.loop-device.parts.items
    (last ∙ c.devices-device-end.ensures.value ∙ sym (ap (λ (g : GridValue). cell_count g.extents) c.requires.grid)) (rw last c.devices-device-end.ensures.some) c.loop-device.invariant
