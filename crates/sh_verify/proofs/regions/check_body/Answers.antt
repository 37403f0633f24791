use mathlib.Core.Path.{sym, subst}
use Rattle.sh_ir.specs.RegionRules.{block_of}
use Rattle.sh_verify.specs.OwnValues.{HasOwn}
use Rattle.sh_verify.proofs.RegionLaws.{faults_end, faults_next, own_more}
use Rattle.sh_verify.proofs.regions.check_body.Goals as goal

pub loop-at-preserved : goal.loop-at-preserved
loop-at-preserved c =
    let ops = c.as_slice-ops.result.now in
    let start = block_of c.args.body.now in
    record {
      known = subst (HasOwn c.define_own.new.own.entries)
          (sym (own_more start ops c.loop-at.at c.index-ops-at.result c.loop-at-test.true c.index-ops-at.is))
          (c.in_ok-define_own.ensures _ c.loop-at.invariant.known);
      so_far = faults_next c.args.loops c.args.context.now.values start c.args.body.now ops c.loop-at.at c.index-ops-at.result c.loop-at.found
          c.check_op_behind-found.result _ c.loop-at-test.true c.index-ops-at.is c.check_op_behind-found.ensures c.loop-at.invariant.so_far;
    }

pub returns : goal.returns
returns c =
    faults_end c.args.loops c.args.context.now.values (block_of c.args.body.now) c.args.body.now c.as_slice-ops.result.now c.loop-at.at
    c.loop-at.found c.check_yield.result _ c.loop-at-test.false c.check_yield.ensures c.loop-at.invariant.so_far
