use Rattle.std.proofs.Common.{All, IsTrue, arith, refl, rules, subst}
use Rattle.std.proofs.lemmas.List.{take_all}
use Rattle.std.proofs.lemmas.List.Elements.{All-more}
use Rattle.sh_sharding.specs.Sharding.{HasNoHalos}
use Rattle.sh_plan.specs.States.{IsStateTo}
use Rattle.sh_plan.specs.declared.plans.Distance.{Distance}
use Rattle.sh_plan.proofs.checks.are_states.Goals as goal

pub loop-entry-preserved : goal.loop-entry-preserved
loop-entry-preserved c =
    let holds : IsTrue c.is_state.result = search rules in
    record {
      free = All-more (λ (e : Distance). HasNoHalos e.sharding.dimensions) c.args.table.now c.loop-entry.entry-index c.entry-item.result (omega arith) c.loop-entry.invariant.free
          (subst (λ (e : Distance). HasNoHalos e.sharding.dimensions) c.entry-item.is (c.is_state.ensures.free.0 holds));
      states = All-more (λ (e : Distance). IsStateTo c.args.to.now e.sharding) c.args.table.now c.loop-entry.entry-index c.entry-item.result (omega arith) c.loop-entry.invariant.states
          (subst (λ (e : Distance). IsStateTo c.args.to.now e.sharding) c.entry-item.is (c.is_state.ensures.state holds));
    }

pub returns-clause-free : goal.returns-clause-free
returns-clause-free c = (
  (λ t. subst (All (λ (e : Distance). HasNoHalos e.sharding.dimensions)) (take_all c.loop-entry.entry-index c.args.table.now (omega arith)) c.loop-entry.invariant.free),
  (λ h. refl),
)

pub returns-clause-states : goal.returns-clause-states
returns-clause-states c =
    λ t. subst (All (λ (e : Distance). IsStateTo c.args.to.now e.sharding)) (take_all c.loop-entry.entry-index c.args.table.now (omega arith)) c.loop-entry.invariant.states
