use Rattle.std.proofs.Common.{◌≡◌, drop, take}
use Rattle.sh_ir.specs.Faults.{the_rules}
use Rattle.sh_ir.specs.RegionRules.{block_of}
use Rattle.sh_ir.specs.Rules.{body_faults}
use Rattle.sh_verify.specs.Least.{by_place, least_of}
use Rattle.sh_verify.specs.OwnValues.{HasOwn, own_behind}
use Rattle.sh_verify.proofs.regions.check_body.Given as goal

-- the values are those behind the operations so far, and with those to come it is the least of all
abbrev pub invariant-loop-at : goal.invariant-loop-at
invariant-loop-at l = record {
  known : HasOwn l.own.entries (own_behind (block_of l.body) (take l.at l.ops));
  so_far : least_of by_place l.found (body_faults the_rules l.loops l.context.values (own_behind (block_of l.body) (take l.at l.ops)) (drop l.at l.ops) l.body)
      ≡ least_of by_place l.fn.least (body_faults the_rules l.loops l.context.values (block_of l.body) l.body.ops l.body);
}
