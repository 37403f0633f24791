use Rattle.std.proofs.Common.{◌↔◌, ◌≡◌, ◌∙◌, ◌+◌, ◌≤◌, IsTrue, rules, true}
use Rattle.std.proofs.lemmas.Option.{get_or_from_slice_get}
use Rattle.sh_plan.specs.Costs.{cost_from}
use Rattle.sh_plan.specs.Moves.{may_be}
use Rattle.sh_plan.proofs.CheckSteps.{covered, not_covered}
use Rattle.sh_plan.proofs.checking.move_holds.Goals as goal

pub returns-in-Some : goal.returns-in-Some
returns-in-Some c =
    let x = c.in-Some.ensures.place in
    let allowed : may_be c.args.entry.now.sharding c.args.to.now c.args.m ≡ true = search rules in
    let read : c.index-table-at.result ≡ c.in-Some.ensures.place.entry =
    c.index-table-at.is ∙ get_or_from_slice_get c.args.table.now c.in-Some.at c.in-Some.ensures.place.entry c.index-table-at.result c.in-Some.ensures.place.found in
    let within : IsTrue c.is_covered.result ↔ (c.args.entry.now.cost ≤ cost_from c.args.entry.now.sharding c.in-Some.ensures.place.entry.sharding + c.in-Some.ensures.place.entry.cost) = rw read at c.is_covered.ensures in
    let iff = covered c.args.to.now c.args.table.now c.args.entry.now c.in-Some.ensures.place.entry c.args.m c.in-Some.at c.requires.all c.requires.state c.in-Some.ensures.place.found c.in-Some.ensures.place.state in
    ((λ t may. iff.0 (within.0 t)), (λ h. within.1 (iff.1 (h allowed))))

pub returns-in-None : goal.returns-in-None
returns-in-None c =
    ((λ t. absurd (search rules)), (λ h. absurd (not_covered c.args.to.now c.args.table.now c.args.entry.now c.args.m c.in-None.ensures.place (h (search rules)))))
