use Rattle.std.proofs.Common.{◌∙◌, ap, sym, subst}
use Rattle.std.specs.List.{All}
use Rattle.sh_sharding.proofs.Cases.{empty_list, some_list}
use Rattle.sh_admission.specs.Faults.{first_source}
use Rattle.sh_admission.specs.Found.{IsReadyFunc}
use Rattle.sh_admission.proofs.AnswerLaws.{grid_there, no_source, none_by, not_needed, nothing_refused, refused_by, wants_grid}
use Rattle.sh_admission.proofs.WithinLaws.{all_within}
use Rattle.sh_admission.proofs.admission.admit_module.Goals as goal
use Rattle.sh_admission.proofs.admission.admit_module.Goals.{then-not-need_grid-via-then-not-need_grid, then-not-need_grid-via-else-not-need_grid+then-not-is_empty}

pub check_funcs-requires : goal.check_funcs-requires
check_funcs-requires c = subst (All IsReadyFunc) (sym c.as_slice.ensures) (all_within c.args.m.now c.requires)

pub returns-in-Some-clause-refused : goal.returns-in-Some-clause-refused
returns-in-Some-clause-refused c =
    refused_by c.args.m.now c.args.need_grid _ _ _ c.in-Some.refusal c.order_is_total.ensures
    c.in_ok-table.ensures c.as_slice.ensures c.in_ok-refusal.ensures c.in-Some.is

pub returns-then-not-need_grid-clause-kept : goal.returns-then-not-need_grid-clause-kept
returns-then-not-need_grid-clause-kept c =
    nothing_refused c.args.m.now c.args.need_grid
    (none_by c.args.m.now _ _ _ c.in_ok-table.ensures c.as_slice.ensures c.in_ok-refusal.ensures c.in_default.is)
    (elim c.then-not-need_grid.branch [
      | then-not-need_grid-via-then-not-need_grid w ↦ not_needed c.args.m.now c.args.need_grid w.if-not-need_grid.true
      | then-not-need_grid-via-else-not-need_grid+then-not-is_empty w ↦ grid_there c.args.m.now c.args.need_grid (λ none.
          some_list w.as_slice-else-not-need_grid.result.now w.is_empty.result w.if-not-is_empty.true w.is_empty.ensures
          (w.as_slice-else-not-need_grid.ensures ∙ none))
    ])

pub returns-in-Some-first_source-clause-refused : goal.returns-in-Some-first_source-clause-refused
returns-in-Some-first_source-clause-refused c =
    wants_grid c.args.m.now c.args.need_grid c.in-Some-first_source.place c.if-not-need_grid.false
    (none_by c.args.m.now _ _ _ c.in_ok-table.ensures c.as_slice.ensures c.in_ok-refusal.ensures c.in_default.is)
    (sym c.as_slice-else-not-need_grid.ensures
    ∙ empty_list c.as_slice-else-not-need_grid.result.now c.is_empty.result c.if-not-is_empty.false c.is_empty.ensures)
    (ap first_source (sym c.as_slice-2.ensures) ∙ (sym c.first_source.ensures ∙ c.in-Some-first_source.is))

pub returns-clause-kept : goal.returns-clause-kept
returns-clause-kept c =
    nothing_refused c.args.m.now c.args.need_grid
    (none_by c.args.m.now _ _ _ c.in_ok-table.ensures c.as_slice.ensures c.in_ok-refusal.ensures c.in_default.is)
    (no_source c.args.m.now c.args.need_grid
    (ap first_source (sym c.as_slice-2.ensures) ∙ (sym c.first_source.ensures ∙ c.in-None.is)))
