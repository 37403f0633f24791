use mathlib.Core.Path.{◌∙◌, ap, sym}
use Rattle.std.proofs.Common.{◌+◌, ◌≤◌, ◌&&◌, drop, length, arith}
use Rattle.std.specs.Prelude.{option_map}
use Rattle.std.specs.List.{list_all}
use Rattle.sh_verify.specs.Followings.{has_rank, maps_in, operands_in, placed, types_in}
use Rattle.sh_verify.proofs.LoopLaws.{not_got, paired_end, rank_next}
use Rattle.sh_verify.proofs.loop_maps.have_ranks.Goals as goal

pub returns-then-not-has_rank : goal.returns-then-not-has_rank
returns-then-not-has_rank c =
    ap (λ b. b && list_all has_rank (drop (c.loop-at.at + 1) (operands_in c.args.all))) (sym c.if-not-has_rank.true)
    ∙ rank_next (operands_in c.args.all) c.loop-at.at (placed c.in-Some.operand) c.has_rank.result _
    (sym c.operand_at.ensures ∙ ap (option_map placed) c.in-Some.is) c.has_rank.ensures c.loop-at.invariant

pub returns-in-None : goal.returns-in-None
returns-in-None c =
    sym (ap (λ os. list_all has_rank os) (not_got (operands_in c.args.all) c.loop-at.at (sym c.operand_at.ensures ∙ ap (option_map placed) c.in-None.is)))
    ∙ c.loop-at.invariant

pub loop-at-preserved : goal.loop-at-preserved
loop-at-preserved c =
    ap (λ b. b && list_all has_rank (drop (c.loop-at.at + 1) (operands_in c.args.all))) (sym c.if-not-has_rank.false)
    ∙ rank_next (operands_in c.args.all) c.loop-at.at (placed c.in-Some.operand) c.has_rank.result _
    (sym c.operand_at.ensures ∙ ap (option_map placed) c.in-Some.is) c.has_rank.ensures c.loop-at.invariant

pub returns : goal.returns
returns c =
    let past : length (maps_in c.args.all) ≤ c.loop-at.at = omega arith in
    sym (ap (λ os. list_all has_rank os) (paired_end (maps_in c.args.all) (types_in c.args.all) c.loop-at.at past)) ∙ c.loop-at.invariant
