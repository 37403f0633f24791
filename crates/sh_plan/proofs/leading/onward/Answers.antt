use Rattle.std.proofs.Common.{◌≡◌, ◌∙◌, ◌+◌, ◌<◌, rules}
use Rattle.std.proofs.lemmas.Option.{get_or_from_slice_get}
use Rattle.sh_plan.specs.Costs.{cost_from}
use Rattle.sh_plan.specs.Moves.{IsNamedAt}
use Rattle.sh_plan.specs.States.{IsStateTo}
use Rattle.sh_plan.specs.declared.plans.Distance.{Distance}
use Rattle.sh_plan.proofs.Numbers.{all_get}
use Rattle.sh_plan.proofs.WaySteps.{goes_on, not_allowed, not_named, not_placed, too_much}
use Rattle.sh_plan.proofs.leading.onward.Goals as goal

pub returns-then-not-is_named : goal.returns-then-not-is_named
returns-then-not-is_named c =
    not_named c.args.to.now c.args.from.now.sharding c.args.rest c.args.m c.requires.state (λ named. absurd (search rules))

pub returns-then-not-is_allowed : goal.returns-then-not-is_allowed
returns-then-not-is_allowed c = not_allowed c.args.to.now c.args.from.now.sharding c.args.rest c.args.m c.requires.state (search rules)

pub left_after-requires-clause-next : goal.left_after-requires-clause-next
left_after-requires-clause-next c =
    let read : c.index-table-next.result ≡ c.in-Some.ensures.place.entry =
    c.index-table-next.is ∙ get_or_from_slice_get c.args.table.now c.in-Some.next c.in-Some.ensures.place.entry c.index-table-next.result c.in-Some.ensures.place.found in
    rw read (all_get (λ (e : Distance). IsStateTo c.args.to.now e.sharding) c.args.table.now c.in-Some.next c.in-Some.ensures.place.entry c.requires.all.each c.in-Some.ensures.place.found)

pub returns-in-Some-left_after : goal.returns-in-Some-left_after
returns-in-Some-left_after c =
    let read : c.index-table-next.result ≡ c.in-Some.ensures.place.entry =
    c.index-table-next.is ∙ get_or_from_slice_get c.args.table.now c.in-Some.next c.in-Some.ensures.place.entry c.index-table-next.result c.in-Some.ensures.place.found in
    let paid : c.args.rest ≡ cost_from c.args.from.now.sharding c.in-Some.ensures.place.entry.sharding + c.in-Some-left_after.left = rw read at c.in-Some-left_after.ensures in
    let named : IsNamedAt c.args.from.now.sharding c.args.m = search rules in
    goes_on c.args.to.now c.args.table.now c.args.from.now.sharding c.in-Some.ensures.place.entry c.args.rest c.in-Some-left_after.left c.in-Some.next c.args.m c.requires.state named (search rules)
    c.in-Some.ensures.place.found c.in-Some.ensures.place.state paid

pub returns-in-None-left_after : goal.returns-in-None-left_after
returns-in-None-left_after c =
    let read : c.index-table-next.result ≡ c.in-Some.ensures.place.entry =
    c.index-table-next.is ∙ get_or_from_slice_get c.args.table.now c.in-Some.next c.in-Some.ensures.place.entry c.index-table-next.result c.in-Some.ensures.place.found in
    let more : c.args.rest < cost_from c.args.from.now.sharding c.in-Some.ensures.place.entry.sharding = rw read at c.in-None-left_after.ensures in
    too_much c.args.to.now c.args.from.now.sharding c.in-Some.ensures.place.entry.sharding c.args.rest c.args.m c.requires.state c.in-Some.ensures.place.state more

pub returns-in-None : goal.returns-in-None
returns-in-None c =
    let named : IsNamedAt c.args.from.now.sharding c.args.m = search rules in
    not_placed c.args.to.now c.args.table.now c.args.from.now c.args.rest c.args.m c.requires.holds named (search rules) c.in-None.ensures.place
