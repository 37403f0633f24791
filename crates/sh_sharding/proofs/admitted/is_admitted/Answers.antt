use Rattle.std.proofs.Common.{arith}
use Rattle.sh_sharding.proofs.Cases.{not_both}
use Rattle.sh_sharding.proofs.ViewAdmissionLaws.{tests_hold, tested, each_axes, all_short}
use Rattle.sh_sharding.proofs.admitted.is_admitted.Goals as goal

pub returns-then-views-gt-MAX_RANK : goal.returns-then-views-gt-MAX_RANK
returns-then-views-gt-MAX_RANK c =
    (λ t. absurd (cc), λ h. let rank = (tests_hold c.args.g.now c.args.views.now h).rank in absurd (omega (arith, c.if-views-gt-MAX_RANK.true)))

pub returns-then-not-is_whole_small : goal.returns-then-not-is_whole_small
returns-then-not-is_whole_small c = (
  λ t. absurd (cc),
  λ h. absurd (not_both c.is_whole_small.result (c.is_whole_small.ensures.1 (tests_hold c.args.g.now c.args.views.now h).small) c.if-not-is_whole_small.true),
)

pub returns-then-not-are_distinct_axes : goal.returns-then-not-are_distinct_axes
returns-then-not-are_distinct_axes c = (
  λ t. absurd (cc),
  λ h. absurd (not_both c.are_distinct_axes.result (c.are_distinct_axes.ensures.value.1 (tests_hold c.args.g.now c.args.views.now h).axes) c.if-not-are_distinct_axes.true),
)

pub are_ordered-requires : goal.are_ordered-requires
are_ordered-requires c = each_axes c.args.g.now.extents c.args.views.now (c.are_distinct_axes.ensures.value.0 c.if-not-are_distinct_axes.false)

pub returns-then-not-are_ordered : goal.returns-then-not-are_ordered
returns-then-not-are_ordered c = (
  λ t. absurd (cc),
  λ h. absurd (not_both c.are_ordered.result (c.are_ordered.ensures.1 (tests_hold c.args.g.now c.args.views.now h).ordered) c.if-not-are_ordered.true),
)

pub returns-then-not-have_fitting_halos : goal.returns-then-not-have_fitting_halos
returns-then-not-have_fitting_halos c = (
  λ t. absurd (cc),
  λ h. absurd (not_both c.have_fitting_halos.result (c.have_fitting_halos.ensures.1 (tests_hold c.args.g.now c.args.views.now h).halos) c.if-not-have_fitting_halos.true),
)

pub returns-then-not-has_one_mark : goal.returns-then-not-has_one_mark
returns-then-not-has_one_mark c = (
  λ t. absurd (cc),
  λ h. absurd (not_both c.has_one_mark.result (c.has_one_mark.ensures.1 (tests_hold c.args.g.now c.args.views.now h).one_mark) c.if-not-has_one_mark.true),
)

pub is_local_small-requires-clause-short : goal.is_local_small-requires-clause-short
is_local_small-requires-clause-short c =
    all_short c.args.g.now.extents c.args.views.now c.are_distinct_axes.ensures.grid (c.are_ordered.ensures.0 c.if-not-are_ordered.false) (c.have_fitting_halos.ensures.0 c.if-not-have_fitting_halos.false)
    (c.is_whole_small.ensures.0 c.if-not-is_whole_small.false)

pub returns : goal.returns
returns c = (
  λ t. tested c.args.g.now c.args.views.now c.are_distinct_axes.ensures.grid (record {
    rank = omega (arith, c.if-views-gt-MAX_RANK.false);
    small = c.is_whole_small.ensures.0 c.if-not-is_whole_small.false;
    axes = c.are_distinct_axes.ensures.value.0 c.if-not-are_distinct_axes.false;
    ordered = c.are_ordered.ensures.0 c.if-not-are_ordered.false;
    halos = c.have_fitting_halos.ensures.0 c.if-not-have_fitting_halos.false;
    one_mark = c.has_one_mark.ensures.0 c.if-not-has_one_mark.false;
    fits = c.is_local_small.ensures.0 t;
  }),
  λ h. c.is_local_small.ensures.1 (tests_hold c.args.g.now c.args.views.now h).fits,
)
