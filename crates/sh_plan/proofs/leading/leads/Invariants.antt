use Rattle.std.proofs.Common.{◌↔◌, ◌≡◌, ◌<◌, Some, drop, length}
use Rattle.std.specs.Prelude.{slice_get}
use Rattle.sh_plan.specs.Checks.{IsWay}
use Rattle.sh_plan.specs.declared.plans.Distance.{Distance}
use Rattle.sh_plan.proofs.leading.leads.Given as goal

abbrev pub invariant-loop-m : goal.invariant-loop-m
invariant-loop-m l = record {
  within : l.at < length l.table;
  same : (a x : Distance) → slice_get l.table l.start ≡ Some a → slice_get l.table l.at ≡ Some x →
      IsWay l.to a.sharding.dimensions l.moves l.whole ↔ IsWay l.to x.sharding.dimensions (drop l.m-index l.moves) l.rest;
}
