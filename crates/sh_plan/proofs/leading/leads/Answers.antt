use Rattle.std.proofs.Common.{◌≡◌, ◌∙◌, ap, get_or, rules, sym, Some}
use Rattle.std.specs.Prelude.{slice_get}
use Rattle.std.proofs.lemmas.Option.{slice_get-get_or, slice_get_within}
use Rattle.sh_plan.specs.declared.plans.Distance.{Distance}
use Rattle.sh_plan.proofs.CertificateLaws.{one_place}
use Rattle.sh_plan.proofs.WaySteps.{blocked, ended, onwards}
use Rattle.sh_plan.proofs.leading.leads.Goals as goal

pub returns-in-None : goal.returns-in-None
returns-in-None c = λ x at_x.
    let at_now : slice_get c.args.table.now c.loop-m.at ≡ Some c.index-table-at.result = slice_get-get_or c.args.table.now c.loop-m.at c.index-table-at.result c.loop-m.invariant.within ∙ ap Some (sym c.index-table-at.is) in (
      (λ t. absurd (search rules)),
      (λ w. absurd (blocked c.args.to.now c.index-table-at.result.sharding.dimensions c.args.moves.now c.loop-m.m-index _ c.loop-m.rest (search rules)
          c.in-None.ensures
          ((c.loop-m.invariant.same x c.index-table-at.result at_x at_now).0 w))),
    )

pub loop-m-preserved : goal.loop-m-preserved
loop-m-preserved c =
    let at_now : slice_get c.args.table.now c.loop-m.at ≡ Some c.index-table-at.result = slice_get-get_or c.args.table.now c.loop-m.at c.index-table-at.result c.loop-m.invariant.within ∙ ap Some (sym c.index-table-at.is) in
    record {
      within = slice_get_within c.args.table.now c.in-Some.next c.in-Some.ensures.place.entry c.in-Some.ensures.place.found;
      same = λ a x at_a at_x.
          let first = c.loop-m.invariant.same a c.index-table-at.result at_a at_now in
          let entry : x ≡ c.in-Some.ensures.place.entry = let there : slice_get c.args.table.now c.in-Some.next ≡ Some c.in-Some.ensures.place.entry = c.in-Some.ensures.place.found in cc in
          let second = onwards c.args.to.now c.args.table.now c.index-table-at.result.sharding.dimensions x.sharding.dimensions c.args.moves.now c.loop-m.m-index _ c.loop-m.rest c.in-Some.next c.in-Some.left
          (search rules) c.in-Some.ensures (ap (λ (e : Distance). e.sharding.dimensions) entry ∙ c.in-Some.ensures.place.state) in
          ((λ w. second.0 (first.0 w)), (λ w. first.1 (second.1 w)));
    }

pub returns-then-at-goal : goal.returns-then-at-goal
returns-then-at-goal c = λ x at_x.
    let goal_at : slice_get c.args.table.now c.loop-m.at ≡ Some c.requires.goal.entry = rw c.if-at-goal.true c.requires.goal.found in
    let same = c.loop-m.invariant.same x c.requires.goal.entry at_x goal_at in
    let end = ended c.args.to.now c.requires.goal.entry.sharding.dimensions c.args.moves.now c.loop-m.m-index c.loop-m.rest (search rules) in
    ((λ t. same.1 (end.1 (c.requires.goal.state, search rules))), (λ w. let zero : c.loop-m.rest ≡ 0 = (end.0 (same.0 w)).1 in search rules))

pub returns-else-at-goal : goal.returns-else-at-goal
returns-else-at-goal c = λ x at_x.
    let now = get_or c.args.table.now c.loop-m.at c.requires.goal.entry in
    let at_now : slice_get c.args.table.now c.loop-m.at ≡ Some (get_or c.args.table.now c.loop-m.at c.requires.goal.entry) = slice_get-get_or c.args.table.now c.loop-m.at c.requires.goal.entry c.loop-m.invariant.within in
    let same = c.loop-m.invariant.same x (get_or c.args.table.now c.loop-m.at c.requires.goal.entry) at_x at_now in
    let end = ended c.args.to.now (get_or c.args.table.now c.loop-m.at c.requires.goal.entry).sharding.dimensions c.args.moves.now c.loop-m.m-index c.loop-m.rest (search rules) in (
      (λ t. absurd (search rules)),
      (λ w.
          let there : c.loop-m.at ≡ c.args.goal =
          one_place c.args.to.now.grid.extents c.args.table.now c.requires.all.rising c.loop-m.at c.args.goal (get_or c.args.table.now c.loop-m.at c.requires.goal.entry) c.requires.goal.entry at_now c.requires.goal.found
          ((end.0 (same.0 w)).0 ∙ sym c.requires.goal.state) in
          search rules),
    )
