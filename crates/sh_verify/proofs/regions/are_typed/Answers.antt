use mathlib.Core.Path.{◌∙◌, ap, sym, subst}
use Rattle.std.proofs.Common.{◌+◌, ◌&&◌, drop, take}
use Rattle.sh_ir.specs.RegionRules.{are_typed, block_of}
use Rattle.sh_verify.specs.OwnValues.{HasOwn, own_behind}
use Rattle.sh_verify.proofs.RegionLaws.{own_more, typed_next}
use Rattle.sh_verify.proofs.regions.are_typed.Goals as goal

pub loop-at-preserved : goal.loop-at-preserved
loop-at-preserved c =
    let ops = c.as_slice-ops.result.now in
    let start = block_of c.args.body.now in
    let outer = c.args.context.now.values in
    let more = are_typed outer (own_behind start (take (c.loop-at.at + 1) ops)) (drop (c.loop-at.at + 1) ops) c.args.body.now.yields c.args.body.now.width in
    record {
      known = subst (HasOwn c.define_own.new.own.entries)
          (sym (own_more start ops c.loop-at.at c.index-ops-at.result c.loop-at-test.true c.index-ops-at.is))
          (c.in_ok-define_own.ensures _ c.loop-at.invariant.known);
      so_far = ap (λ b. b && more) (sym c.if-not-is_typed_behind.false)
          ∙ typed_next outer start ops c.args.body.now.yields c.args.body.now.width c.loop-at.at c.index-ops-at.result c.is_typed_behind.result _
          c.loop-at-test.true c.index-ops-at.is c.is_typed_behind.ensures c.loop-at.invariant.so_far;
    }
