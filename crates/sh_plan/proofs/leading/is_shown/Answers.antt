use Rattle.std.proofs.Common.{◌≡◌, ◌∙◌, IsTrue, ap, rules, sym}
use Rattle.std.proofs.lemmas.Option.{get_or_from_slice_get}
use Rattle.sh_plan.specs.declared.plans.Distance.{Distance}
use Rattle.sh_plan.proofs.leading.is_shown.Goals as goal

pub returns-then-not-all_hold : goal.returns-then-not-all_hold
returns-then-not-all_hold c = λ x at_x. ((λ t. absurd (search rules)), (λ h. let yes' : IsTrue c.all_hold.result = c.all_hold.ensures.1 h.hold in search rules))

pub returns : goal.returns
returns c = λ x at_x.
    let way = c.leads.ensures x at_x in
    let held : IsTrue c.all_hold.result = search rules in
    let read : c.index-table-start.result ≡ x = c.index-table-start.is ∙ get_or_from_slice_get c.args.table.now c.args.start x c.index-table-start.result at_x in
    let cost : c.index-table-start.result.cost ≡ c.args.p.now.cost = search rules in
    ((λ t. record { zero = search rules; cost = ap (λ (e : Distance). e.cost) (sym read) ∙ cost; hold = c.all_hold.ensures.0 held; way = search rules }), (λ h. search rules))
