use mathlib.Core.Path.{◌∙◌, ap, sym}
use Rattle.std.proofs.Common.{◌+◌, ◌&&◌, drop}
use Rattle.std.specs.Prelude.{option_map}
use Rattle.std.specs.List.{list_all}
use Rattle.std.proofs.lemmas.List.{drop_all}
use Rattle.sh_ir.specs.Operands.{following, has_extent}
use Rattle.sh_verify.specs.Followings.{followings, loops_in, map_in}
use Rattle.sh_verify.proofs.LoopLaws.{fit_ends, fit_next, follows_none}
use Rattle.sh_verify.proofs.loop_maps.operand_fits.Goals as goal

pub returns-then-not-has_extent : goal.returns-then-not-has_extent
returns-then-not-has_extent c =
    let more = list_all (has_extent (followings c.args.all)) (following (drop (c.loop-at.at + 1) (map_in c.args.loops)) (drop (c.loop-at.at + 1) c.args.extents.now)) in
    ap (λ b. b && more) (sym c.if-not-has_extent.true)
    ∙ fit_next (followings c.args.all) (map_in c.args.loops) c.args.extents.now c.loop-at.at (loops_in c.in-Some.here) c.has_extent.result _
    (sym c.loops_of.ensures ∙ ap (option_map loops_in) c.in-Some.is) c.loop-at-test.true c.has_extent.ensures c.loop-at.invariant

pub returns-in-None : goal.returns-in-None
returns-in-None c =
    fit_ends (followings c.args.all) (map_in c.args.loops) c.args.extents.now c.loop-at.at _
    (sym c.loops_of.ensures ∙ ap (option_map loops_in) c.in-None.is) c.loop-at.invariant

pub loop-at-preserved : goal.loop-at-preserved
loop-at-preserved c =
    let more = list_all (has_extent (followings c.args.all)) (following (drop (c.loop-at.at + 1) (map_in c.args.loops)) (drop (c.loop-at.at + 1) c.args.extents.now)) in
    ap (λ b. b && more) (sym c.if-not-has_extent.false)
    ∙ fit_next (followings c.args.all) (map_in c.args.loops) c.args.extents.now c.loop-at.at (loops_in c.in-Some.here) c.has_extent.result _
    (sym c.loops_of.ensures ∙ ap (option_map loops_in) c.in-Some.is) c.loop-at-test.true c.has_extent.ensures c.loop-at.invariant

pub returns : goal.returns
returns c =
    sym (ap (λ es. list_all (has_extent (followings c.args.all)) (following (drop c.loop-at.at (map_in c.args.loops)) es)) (drop_all c.loop-at.at c.args.extents.now c.loop-at-test.false)
    ∙ ap (λ xs. list_all (has_extent (followings c.args.all)) xs) (follows_none (drop c.loop-at.at (map_in c.args.loops)))) ∙ c.loop-at.invariant
