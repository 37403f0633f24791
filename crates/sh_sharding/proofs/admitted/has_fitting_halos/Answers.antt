use Rattle.std.proofs.Common.{◌≡◌, ℕ, [], arith, ap, subst, sym, ◌∙◌}
use Rattle.std.proofs.lemmas.Bool.Decides.{nat_tests}
use Rattle.sh_grid.specs.Grid.{group_size_of}
use Rattle.sh_sharding.specs.Views.{IsDividing, axes_in}
use Rattle.sh_sharding.proofs.Cases.{empty_list, some_list}
use Rattle.sh_sharding.proofs.ViewAdmissionLaws.{fits_described, described_fits, whole_fits, split_fits, described_axes, described_low, described_high}
use Rattle.sh_sharding.proofs.admitted.has_fitting_halos.Goals as goal

pub returns-then-is_empty : goal.returns-then-is_empty
returns-then-is_empty c =
    let g = c.args.g.now.extents in
    let v = c.args.view.now in
    let none = sym c.as_slice-axes.ensures.value ∙ empty_list c.as_slice-axes.result.now c.is_empty.result c.if-is_empty.true c.is_empty.ensures in
    let most = c.max-halo.ensures in (
      λ t. let zero : c.max-halo.result ≡ 0 = grind (arith, nat_tests) in whole_fits g v (omega arith) (omega arith),
      λ h.
          let both = h.whole (described_axes g v ∙ none) in
          let low : v.low ≡ 0 = sym (described_low g v) ∙ both.0 in
          let high : v.high ≡ 0 = sym (described_high g v) ∙ both.1 in
          let zero : c.max-halo.result ≡ 0 = omega arith in
          grind (arith, nat_tests),
    )

pub are_parts_at_least-requires : goal.are_parts_at_least-requires
are_parts_at_least-requires c =
    let v = c.args.view.now in
    let parts = c.size_along.ensures.value ∙ ap (group_size_of c.args.g.now.extents) c.as_slice-axes.ensures.value in
    subst (λ (p : ℕ). IsDividing v.extent p v.mark) (sym parts) c.requires.dividing

pub returns : goal.returns
returns c =
    let g = c.args.g.now.extents in
    let v = c.args.view.now in
    let parts = c.size_along.ensures.value ∙ ap (group_size_of g) c.as_slice-axes.ensures.value in
    let halo = c.from.ensures ∙ c.max-halo.ensures in
    let some = λ (e : axes_in v.axes ≡ []). some_list c.as_slice-axes.result.now c.is_empty.result c.if-is_empty.false c.is_empty.ensures (c.as_slice-axes.ensures.value ∙ e) in
    (λ t. split_fits g v some (fits_described g v c.size_along.result c.from.result parts halo (c.are_parts_at_least.ensures.0 t)), λ h. c.are_parts_at_least.ensures.1 (described_fits g v c.size_along.result c.from.result parts halo h.fit))
