use Rattle.std.proofs.Common.{◌≡◌, [], drop, take}
use Rattle.sh_ir.specs.Faults.{the_rules}
use Rattle.sh_ir.specs.Rules.{ops_faults}
use Rattle.sh_ir.specs.Scope.{scope_of, with_args}
use Rattle.sh_verify.specs.Least.{by_place, least_of}
use Rattle.sh_verify.specs.Tables.{HasValues, scope_at, values_behind}
use Rattle.sh_verify.proofs.module_rules.check_ops.Given as goal

-- the values are those behind the operations so far, and with those to come it is the least of all
abbrev pub invariant-loop-at : goal.invariant-loop-at
invariant-loop-at l = record {
  known : HasValues l.values.entries (values_behind (with_args [] l.f.args) (take l.at l.ops));
  so_far : least_of by_place l.found (ops_faults the_rules (scope_at l.tables l.f (take l.at l.ops)) (drop l.at l.ops))
      ≡ least_of by_place l.fn.least (ops_faults the_rules (scope_of l.tables l.f) l.f.ops);
}
