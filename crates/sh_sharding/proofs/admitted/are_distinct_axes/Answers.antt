use Rattle.std.proofs.Common.{length, ap, sym, subst, ◌∙◌, ℕ}
use Rattle.sh_grid.specs.Grid.{AreAxesOf}
use Rattle.sh_sharding.specs.Views.{viewed_axes}
use Rattle.sh_sharding.proofs.Cases.{not_both}
use Rattle.sh_sharding.proofs.AxisListLaws.{distinct_axes, axes_below, listed_once}
use Rattle.sh_sharding.proofs.ViewAdmissionLaws.{below_all, below_each}
use Rattle.sh_sharding.proofs.admitted.are_distinct_axes.Goals as goal

pub are_once-requires-clause-below : goal.are_once-requires-clause-below
are_once-requires-clause-below c = below_all _ c.args.views.now (c.are_all_below.ensures.0 c.if-are_all_below.true)

pub returns-then-are_all_below-clause-value : goal.returns-then-are_all_below-clause-value
returns-then-are_all_below-clause-value c =
    let rank = ap length (c.extents-2.ensures.value ∙ c.extents.ensures.value) in
    let axes = viewed_axes c.args.views.now in
    let below = below_all _ c.args.views.now (c.are_all_below.ensures.0 c.if-are_all_below.true) in (
      λ t. subst (λ (n : ℕ). AreAxesOf n axes) rank (distinct_axes _ axes below (c.are_once.ensures.0 t)),
      λ m. c.are_once.ensures.1 (λ a. listed_once _ a axes m),
    )

pub returns-else-are_all_below-clause-value : goal.returns-else-are_all_below-clause-value
returns-else-are_all_below-clause-value c =
    let rank = ap length (c.extents-2.ensures.value ∙ c.extents.ensures.value) in
    let axes = viewed_axes c.args.views.now in (
      λ t. absurd (not_both c.are_all_below.result t c.if-are_all_below.false),
      λ m. c.are_all_below.ensures.1 (below_each _ c.args.views.now (axes_below _ axes (subst (λ (n : ℕ). AreAxesOf n axes) (sym rank) m))),
    )
