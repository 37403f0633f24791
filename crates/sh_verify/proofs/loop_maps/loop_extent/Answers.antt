use mathlib.Core.Path.{◌∙◌, ap, sym}
use Rattle.std.proofs.Common.{◌+◌, ◌≤◌, drop, length, arith}
use Rattle.std.specs.Prelude.{flat_map, option_map, if◌then◌else◌}
use Rattle.sh_ir.specs.Operands.{loop_dim}
use Rattle.sh_verify.specs.Followings.{maps_in, operands_in, placed, types_in, placed_following}
use Rattle.sh_verify.proofs.LoopLaws.{not_got, operand_next, paired_end}
use Rattle.sh_verify.proofs.loop_maps.loop_extent.Goals as goal

pub returns-then-is_known : goal.returns-then-is_known
returns-then-is_known c =
    let more = loop_dim (flat_map placed_following (drop (c.loop-at.at + 1) (operands_in c.args.all))) c.args.number in
    ap (λ b. if b then c.extent_along-extent.result else more) (sym c.if-is_known.true)
    ∙ operand_next (operands_in c.args.all) c.loop-at.at c.args.number (placed c.in-Some.operand) c.extent_along-extent.result _ c.is_known.result
    (sym c.operand_at.ensures ∙ ap (option_map placed) c.in-Some.is) c.extent_along-extent.ensures c.is_known.ensures c.loop-at.invariant

pub returns-in-None : goal.returns-in-None
returns-in-None c =
    sym (ap (λ os. loop_dim (flat_map placed_following os) c.args.number)
    (not_got (operands_in c.args.all) c.loop-at.at (sym c.operand_at.ensures ∙ ap (option_map placed) c.in-None.is))) ∙ c.loop-at.invariant

pub loop-at-preserved : goal.loop-at-preserved
loop-at-preserved c =
    let more = loop_dim (flat_map placed_following (drop (c.loop-at.at + 1) (operands_in c.args.all))) c.args.number in
    ap (λ b. if b then c.extent_along-extent.result else more) (sym c.if-is_known.false)
    ∙ operand_next (operands_in c.args.all) c.loop-at.at c.args.number (placed c.in-Some.operand) c.extent_along-extent.result _ c.is_known.result
    (sym c.operand_at.ensures ∙ ap (option_map placed) c.in-Some.is) c.extent_along-extent.ensures c.is_known.ensures c.loop-at.invariant

pub returns : goal.returns
returns c =
    let past : length (maps_in c.args.all) ≤ c.loop-at.at = omega arith in
    sym (ap (λ os. loop_dim (flat_map placed_following os) c.args.number) (paired_end (maps_in c.args.all) (types_in c.args.all) c.loop-at.at past))
    ∙ c.loop-at.invariant
