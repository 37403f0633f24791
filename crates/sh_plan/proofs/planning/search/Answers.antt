use Rattle.std.proofs.Common.{◌≡◌, ◌∙◌, ap, arith, get_or, length, map, rules}
use Rattle.std.specs.Prelude.{slice_index}
use Rattle.std.proofs.lemmas.List.{get_or_default}
use Rattle.sh_plan.proofs.Searches.{all_reach, found, known, positive, searchable}
use Rattle.sh_plan.proofs.planning.search.Goals as goal

pub distances-requires-clause-range : goal.distances-requires-clause-range
distances-requires-clause-range c = rw c.deref.ensures.value (known c.args.from.now c.args.to.now c.args.all.now c.requires.explored).range

pub distances-requires-clause-reach : goal.distances-requires-clause-reach
distances-requires-clause-reach c =
    rw c.deref.ensures.value ((known c.args.from.now c.args.to.now c.args.all.now c.requires.explored).reach
    (all_reach c.args.from.now c.args.to.now c.args.all.now c.requires.target c.requires.explored))

pub first_way-requires-clause-range : goal.first_way-requires-clause-range
first_way-requires-clause-range c = rw c.deref-2.ensures.value (known c.args.from.now c.args.to.now c.args.all.now c.requires.explored).range

pub first_way-requires-clause-costs : goal.first_way-requires-clause-costs
first_way-requires-clause-costs c =
    rw c.deref-2.ensures.value ((known c.args.from.now c.args.to.now c.args.all.now c.requires.explored).costs (λ ds m has may. positive c.args.to.now ds m))

pub first_way-requires-clause-from : goal.first_way-requires-clause-from
first_way-requires-clause-from c = rw c.deref-2.ensures.value (searchable c.args.from.now c.args.to.now c.args.all.now c.requires.explored).start

pub index-requires : goal.index-requires
index-requires c =
    let s = searchable c.args.from.now c.args.to.now c.args.all.now c.requires.explored in
    let long : length c.in_ok-numbers.numbers.items ≡ length c.args.all.now.rows.items = c.in_ok-numbers.ensures.len ∙ ap (λ l. length l) c.deref.ensures.value in
    omega (arith, s.start, long, c.in_ok-numbers.numbers.ok.0)

pub returns : goal.returns
returns c =
    let long : length c.in_ok-numbers.numbers.items ≡ length c.args.all.now.rows.items = c.in_ok-numbers.ensures.len ∙ ap (λ l. length l) c.deref.ensures.value in
    let s = searchable c.args.from.now c.args.to.now c.args.all.now c.requires.explored in
    let read : c.index.result.now ≡ get_or c.in_ok-numbers.numbers.items c.args.all.now.start c.index.result.now = search rules in
    let cost : c.index.result.now ≡ slice_index c.in_ok-numbers.numbers.items c.args.all.now.start =
    read ∙ get_or_default c.in_ok-numbers.numbers.items c.args.all.now.start c.index.result.now 0 (omega (arith, s.start, long)) in
    found c.args.from.now c.args.to.now c.args.all.now c.in_ok-numbers.numbers.items c.in_ok-way.way.items _ c.requires.explored
    (rw c.deref.ensures.value at c.in_ok-numbers.ensures.dists) long (rw c.deref-2.ensures.value at c.in_ok-way.ensures.plan)
    (c.in_ok-moves.ensures ∙ ap (λ l. map (λ e. e.by) l) c.deref-4.ensures.value) cost (search rules)
