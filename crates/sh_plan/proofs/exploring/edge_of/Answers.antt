use Rattle.std.proofs.Common.{ap}
use Rattle.sh_sharding.specs.Sharding.{ShardingValue}
use Rattle.sh_plan.proofs.EdgeRows.{is_edge, is_step, moved_to}
use Rattle.sh_plan.specs.States.{keys_in}
use Rattle.sh_plan.proofs.exploring.edge_of.Goals as goal

pub move_cost-cost-requires-clause-step : goal.move_cost-cost-requires-clause-step
move_cost-cost-requires-clause-step c =
    let next = moved_to c.args.to.now c.args.s.now c.in_ok-next.next c.args.m c.requires.state c.in_ok-next.ensures.value c.in_ok-next.ensures.state in
    is_step c.args.to.now c.args.s.now c.in_ok-next.next c.args.m c.requires.state next (ap (λ (x : ShardingValue). x.dimensions) c.in_ok-next.ensures.value) c.requires.named c.requires.may

pub number-requires-clause-state : goal.number-requires-clause-state
number-requires-clause-state c = moved_to c.args.to.now c.args.s.now c.in_ok-next.next c.args.m c.requires.state c.in_ok-next.ensures.value c.in_ok-next.ensures.state

pub returns-clause-edge : goal.returns-clause-edge
returns-clause-edge c =
    is_edge c.args.to.now c.args.s.now c.in_ok-next.next c.args.m c.move_cost-cost.result c.in_ok-place.place (keys_in c.number.new.states) c.requires.state c.in_ok-next.ensures.value
    c.move_cost-cost.ensures c.in_ok-place.ensures.named
