use Rattle.std.proofs.Common.{ℕ, ap, sym, ◌∙◌}
use Rattle.sh_grid.specs.Grid.{group_size_of}
use Rattle.sh_sharding.specs.Views.{mark_in}
use Rattle.sh_sharding.proofs.ViewAdmissionLaws.{described_mark}
use Rattle.sh_sharding.proofs.admitted.is_balanced_view.Goals as goal

pub returns : goal.returns
returns c =
    let v = c.args.view.now in
    let parts = c.size_along-parts.ensures.value ∙ ap (group_size_of c.args.g.now.extents) c.as_slice.ensures.value in
    let same = ap (λ (p : ℕ). mark_in v.extent p v.mark) parts ∙ sym (described_mark c.args.g.now.extents v) in
    (λ t. sym same ∙ c.is_balanced.ensures.0 t, λ e. c.is_balanced.ensures.1 (same ∙ e))
