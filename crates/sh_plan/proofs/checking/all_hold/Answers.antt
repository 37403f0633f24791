use Rattle.std.proofs.Common.{All, IsTrue, arith, refl, rules, subst}
use Rattle.std.proofs.lemmas.List.{take_all}
use Rattle.std.proofs.lemmas.List.Elements.{All-more}
use Rattle.sh_plan.specs.Checks.{EntryHolds}
use Rattle.sh_plan.proofs.checking.all_hold.Goals as goal

pub loop-entry-preserved : goal.loop-entry-preserved
loop-entry-preserved c =
    let holds : IsTrue c.entry_holds.result = search rules in
    All-more (EntryHolds c.args.to.now c.args.table.now) c.args.table.now c.loop-entry.entry-index c.entry-item.result (omega arith) c.loop-entry.invariant
    (subst (EntryHolds c.args.to.now c.args.table.now) c.entry-item.is (c.entry_holds.ensures.0 holds))

pub returns : goal.returns
returns c = (
  (λ t. subst (All (EntryHolds c.args.to.now c.args.table.now)) (take_all c.loop-entry.entry-index c.args.table.now (omega arith)) c.loop-entry.invariant),
  (λ h. refl),
)
