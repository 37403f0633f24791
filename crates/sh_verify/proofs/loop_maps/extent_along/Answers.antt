use mathlib.Core.Path.{◌∙◌, ap, sym}
use Rattle.std.proofs.Common.{◌+◌, drop}
use Rattle.std.specs.Prelude.{get_or, option_map, if◌then◌else◌}
use Rattle.std.proofs.lemmas.List.{drop_all}
use Rattle.sh_ir.specs.declared.types.Dim.TheVariants.{Known}
use Rattle.sh_ir.specs.Operands.{following, loop_dim}
use Rattle.sh_verify.specs.Followings.{loops_in, map_in}
use Rattle.sh_verify.proofs.LoopLaws.{follow_ends, follow_next, follows_none}
use Rattle.sh_verify.proofs.loop_maps.extent_along.Goals as goal

pub returns-then-decides : goal.returns-then-decides
returns-then-decides c =
    let d = get_or c.args.extents.now c.loop-at.at (Known 0) in
    let more = loop_dim (following (drop (c.loop-at.at + 1) (map_in c.args.loops)) (drop (c.loop-at.at + 1) c.args.extents.now)) c.args.number in
    ap (λ b. if b then d else more) (sym c.if-decides.true)
    ∙ follow_next (map_in c.args.loops) c.args.extents.now c.loop-at.at c.args.number (loops_in c.in-Some.here) c.decides.result _
    (sym c.loops_of.ensures ∙ ap (option_map loops_in) c.in-Some.is) c.loop-at-test.true c.decides.ensures c.loop-at.invariant

pub returns-in-None : goal.returns-in-None
returns-in-None c =
    follow_ends (map_in c.args.loops) c.args.extents.now c.loop-at.at c.args.number _
    (sym c.loops_of.ensures ∙ ap (option_map loops_in) c.in-None.is) c.loop-at.invariant

pub loop-at-preserved : goal.loop-at-preserved
loop-at-preserved c =
    let d = get_or c.args.extents.now c.loop-at.at (Known 0) in
    let more = loop_dim (following (drop (c.loop-at.at + 1) (map_in c.args.loops)) (drop (c.loop-at.at + 1) c.args.extents.now)) c.args.number in
    ap (λ b. if b then d else more) (sym c.if-decides.false)
    ∙ follow_next (map_in c.args.loops) c.args.extents.now c.loop-at.at c.args.number (loops_in c.in-Some.here) c.decides.result _
    (sym c.loops_of.ensures ∙ ap (option_map loops_in) c.in-Some.is) c.loop-at-test.true c.decides.ensures c.loop-at.invariant

pub returns : goal.returns
returns c =
    sym (ap (λ es. loop_dim (following (drop c.loop-at.at (map_in c.args.loops)) es) c.args.number) (drop_all c.loop-at.at c.args.extents.now c.loop-at-test.false)
    ∙ ap (λ xs. loop_dim xs c.args.number) (follows_none (drop c.loop-at.at (map_in c.args.loops)))) ∙ c.loop-at.invariant
