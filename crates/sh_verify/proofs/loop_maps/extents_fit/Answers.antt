use mathlib.Core.Path.{◌∙◌, ap, sym}
use Rattle.std.proofs.Common.{◌+◌, ◌≤◌, ◌&&◌, drop, length, arith}
use Rattle.std.specs.Prelude.{flat_map, option_map}
use Rattle.std.specs.List.{list_all}
use Rattle.sh_ir.specs.Operands.{extents_fit, has_extent}
use Rattle.sh_verify.specs.Followings.{followings, maps_in, operands_in, types_in, placed, placed_following}
use Rattle.sh_verify.proofs.LoopLaws.{not_got, operand_fits, paired_end}
use Rattle.sh_verify.proofs.loop_maps.extents_fit.Goals as goal

pub returns-then-not-operand_fits : goal.returns-then-not-operand_fits
unfolding extents_fit
returns-then-not-operand_fits c =
    let more = list_all (has_extent (followings c.args.all)) (flat_map placed_following (drop (c.loop-at.at + 1) (operands_in c.args.all))) in
    ap (λ b. b && more) (sym c.if-not-operand_fits.true)
    ∙ operand_fits (followings c.args.all) (operands_in c.args.all) c.loop-at.at (placed c.in-Some.operand) c.operand_fits.result _
    (sym c.operand_at.ensures ∙ ap (option_map placed) c.in-Some.is) c.operand_fits.ensures c.loop-at.invariant

pub returns-in-None : goal.returns-in-None
unfolding extents_fit
returns-in-None c =
    sym (ap (λ os. list_all (has_extent (followings c.args.all)) (flat_map placed_following os))
    (not_got (operands_in c.args.all) c.loop-at.at (sym c.operand_at.ensures ∙ ap (option_map placed) c.in-None.is))) ∙ c.loop-at.invariant

pub loop-at-preserved : goal.loop-at-preserved
loop-at-preserved c =
    let more = list_all (has_extent (followings c.args.all)) (flat_map placed_following (drop (c.loop-at.at + 1) (operands_in c.args.all))) in
    ap (λ b. b && more) (sym c.if-not-operand_fits.false)
    ∙ operand_fits (followings c.args.all) (operands_in c.args.all) c.loop-at.at (placed c.in-Some.operand) c.operand_fits.result _
    (sym c.operand_at.ensures ∙ ap (option_map placed) c.in-Some.is) c.operand_fits.ensures c.loop-at.invariant

pub returns : goal.returns
unfolding extents_fit
returns c =
    let past : length (maps_in c.args.all) ≤ c.loop-at.at = omega arith in
    sym (ap (λ os. list_all (has_extent (followings c.args.all)) (flat_map placed_following os))
    (paired_end (maps_in c.args.all) (types_in c.args.all) c.loop-at.at past))
    ∙ c.loop-at.invariant
