use Rattle.std.proofs.Common.{sym, subst, []}
use Rattle.sh_ir.specs.Scope.{with_args}
use Rattle.sh_verify.specs.Tables.{HasValues}
use Rattle.sh_verify.proofs.RuleLaws.{ops_found, values_more}
use Rattle.sh_verify.proofs.module_rules.check_ops.Goals as goal

pub loop-at-preserved : goal.loop-at-preserved
loop-at-preserved c = record {
  known = subst (HasValues c.define.new.values.entries)
      (sym (values_more (with_args [] c.args.f.now.args) c.as_slice-ops.result.now c.loop-at.at c.index-ops-at.result c.loop-at-test.true c.index-ops-at.is))
      (c.in_ok-define.ensures _ c.loop-at.invariant.known);
  so_far = ops_found c.args.tables.now c.args.f.now c.as_slice-ops.result.now c.loop-at.at c.index-ops-at.result c.loop-at.found c.in_ok-found.found _
      c.loop-at-test.true c.index-ops-at.is c.loop-at.invariant.so_far c.in_ok-found.ensures;
}
