use Rattle.std.proofs.Common.{subst, sym}
use Rattle.sh_sharding.proofs.Cases.{not_both}
use Rattle.sh_iface.specs.Valid.{HaveOwnAxes}
use Rattle.sh_iface.proofs.validity.is_valid.Goals as goal

pub returns-then-not-are_splits : goal.returns-then-not-are_splits
returns-then-not-are_splits g c =
    (λ t. absurd (cc), λ h. absurd (not_both c.are_splits.result (c.are_splits.ensures.1 h.splits) c.if-not-are_splits.true))

pub returns-then-not-have_own_axes : goal.returns-then-not-have_own_axes
returns-then-not-have_own_axes g c = (
  λ t. absurd (cc),
  λ h. absurd (not_both c.have_own_axes.result (c.have_own_axes.ensures.1 (subst HaveOwnAxes (sym c.as_slice.ensures) h.apart)) c.if-not-have_own_axes.true),
)

pub returns : goal.returns
returns g c = (
  λ t. record {
    splits = c.are_splits.ensures.0 c.if-not-are_splits.false;
    apart = subst HaveOwnAxes c.as_slice.ensures (c.have_own_axes.ensures.0 c.if-not-have_own_axes.false);
    admitted = c.are_values_admitted.ensures.0 t;
  },
  λ h. c.are_values_admitted.ensures.1 h.admitted,
)
