use mathlib.Core.Path.{◌∙◌, ap, sym}
use Rattle.std.proofs.Common.{◌+◌, ◌-◌, ◌&&◌, map}
use Rattle.std.specs.List.{list_all, range_with_len}
use Rattle.sh_ir.specs.Maps.{is_used}
use Rattle.sh_verify.proofs.LoopLaws.{numbers_next}
use Rattle.sh_verify.proofs.maps.all_used.Goals as goal

pub loop-number-preserved : goal.loop-number-preserved
loop-number-preserved c =
    let test = is_used (map (λ m. m.results) c.args.affine_maps.now) in
    ap (λ b. b && list_all test (range_with_len (c.loop-number.number + 1) (c.args.loops - (c.loop-number.number + 1)))) (sym c.if-not-is_used.false)
    ∙ numbers_next test c.loop-number.number c.args.loops c.is_used.result _ c.loop-number-test.true c.is_used.ensures c.loop-number.invariant
