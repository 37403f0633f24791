use Rattle.std.proofs.Common.{◌≡◌, true, ◌∙◌, sym}
use Rattle.std.specs.Prelude.{count_by}
use Rattle.sh_base.specs.declared.rules.Rule.TheVariants.{A7}
use Rattle.sh_sharding.specs.Admission.{Keeps}
use Rattle.sh_sharding.specs.AxisLists.{listed}
use Rattle.sh_sharding.specs.Sharding.{is_split}
use Rattle.sh_sharding.proofs.Cases.{empty_list, some_list}
use Rattle.sh_sharding.proofs.LeastRuleLaws.{kept_none, halos_stay, count_read, least_A7, counted_A7, least_A8, marked_asked, small_asked, kept_halos, misfit_read}
use Rattle.sh_sharding.proofs.admission.with_written_halos.Goals as goal
use Rattle.sh_sharding.proofs.admission.with_written_halos.Goals.{After-are_halos}

pub returns-then-is_empty-clause-kept : goal.returns-then-is_empty-clause-kept
returns-then-is_empty-clause-kept c =
    let none = sym c.as_slice-halos.ensures ∙ empty_list c.as_slice-halos.result.now c.is_empty.result c.if-is_empty.true c.is_empty.ensures in
    (kept_none c.args.g.now c.args.raw.now c.args.s.now none, c.requires.marked ∙ halos_stay c.args.g.now c.args.raw.now c.args.s.now none)

pub haloed_dimensions-requires-clause-marked : goal.haloed_dimensions-requires-clause-marked
haloed_dimensions-requires-clause-marked c =
    marked_asked c.args.g.now c.args.raw.now c.args.s.now c.as_slice-2.result.now c.requires.grid c.requires.lists c.requires.divisions (c.as_slice-2.ensures.value ∙ c.requires.marked)

pub haloed_dimensions-requires-clause-small : goal.haloed_dimensions-requires-clause-small
haloed_dimensions-requires-clause-small c =
    small_asked c.args.g.now c.args.raw.now c.args.s.now c.as_slice-2.result.now c.requires.small (c.as_slice-2.ensures.value ∙ c.requires.marked)

-- how many halo sizes are due
count : (c : After-are_halos) → c.split_count-split.result ≡ count_by is_split (listed c.args.raw.now.split c.args.s.now)
count c =
    count_read c.args.g.now c.args.raw.now c.args.s.now c.as_slice.result.now c.split_count-split.result
    (c.as_slice.ensures.value ∙ c.requires.marked) c.split_count-split.ensures

counted : (c : After-are_halos) → c.are_halos.result ≡ true → Keeps A7 c.args.g.now c.args.raw.now c.args.s.now
counted c all =
    counted_A7 c.args.g.now c.args.raw.now c.args.s.now c.as_slice-halos.result.now c.split_count-split.result
    c.as_slice-halos.ensures (count c) (c.are_halos.ensures.0 all)

pub returns-then-not-are_halos-clause-refused : goal.returns-then-not-are_halos-clause-refused
returns-then-not-are_halos-clause-refused c =
    let given = some_list c.as_slice-halos.result.now c.is_empty.result c.if-is_empty.false c.is_empty.ensures in
    let none = c.is_empty-2.ensures.0 c.if-not-is_empty.false in
    least_A7 c.args.g.now c.args.raw.now c.args.s.now c.as_slice-halos.result.now c.split_count-split.result c.are_halos.result c.requires.lists c.requires.divisions c.as_slice-halos.ensures
    (λ e. given (c.as_slice-halos.ensures ∙ e)) none (count (goal.at.returns-then-not-are_halos-clause-refused c).After-are_halos) c.if-not-are_halos.true c.are_halos.ensures.1

pub returns-in-Some-clause-kept : goal.returns-in-Some-clause-kept
returns-in-Some-clause-kept c =
    let none = c.is_empty-2.ensures.0 c.if-not-is_empty.false in
    let found = rw c.in-Some.is at c.in_ok-found.ensures in
    kept_halos c.args.g.now c.args.raw.now c.args.s.now c.as_slice-2.result.now c.as_slice-halos.result.now c.in-Some.found.items none (counted (goal.at.returns-in-Some-clause-kept c).After-are_halos c.if-not-are_halos.false) (c.as_slice-2.ensures.value ∙ c.requires.marked) c.as_slice-halos.ensures found.0 found.1

pub returns-clause-refused : goal.returns-clause-refused
returns-clause-refused c =
    let none = c.is_empty-2.ensures.0 c.if-not-is_empty.false in
    least_A8 c.args.g.now c.args.raw.now c.args.s.now c.requires.lists c.requires.divisions none (counted (goal.at.returns-clause-refused c).After-are_halos c.if-not-are_halos.false)
    (misfit_read c.args.g.now c.args.raw.now c.args.s.now c.as_slice-2.result.now c.as_slice-halos.result.now (c.as_slice-2.ensures.value ∙ c.requires.marked) c.as_slice-halos.ensures (rw c.in-None.is at c.in_ok-found.ensures))
