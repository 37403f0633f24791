use Rattle.std.proofs.Common.{◌<◌, sym, ◌∙◌, length, subst}
use Rattle.sh_collectives.proofs.GroupLaws.{All-of_map, All-others, not_joined, are_joined}
use Rattle.sh_collectives.proofs.shapes.gathered.Goals as goal

pub are_like-requires-clause-axis : goal.are_like-requires-clause-axis
are_like-requires-clause-axis c =
    subst (λ s. c.args.axis < length s.now) (sym c.index-shapes-0.is) (All-of_map (λ s. c.args.axis < length s) (λ s. s.now) c.args.shapes.now c.requires.axes 0 _ c.requires.some)

pub are_like-requires-clause-axes : goal.are_like-requires-clause-axes
are_like-requires-clause-axes c =
    All-others (λ s. c.args.axis < length s.now) c.args.shapes.now (All-of_map (λ s. c.args.axis < length s) (λ s. s.now) c.args.shapes.now c.requires.axes)

pub returns-then-not-are_like-clause-value : goal.returns-then-not-are_like-clause-value
returns-then-not-are_like-clause-value c =
    not_joined c.args.axis (λ s. s.now) c.args.shapes.now c.index-shapes-0.result _ c.requires.some c.index-shapes-0.is (sym c.are_like.ensures ∙ c.if-not-are_like.true)

pub total_extent-requires-clause-axes : goal.total_extent-requires-clause-axes
total_extent-requires-clause-axes c = All-of_map (λ s. c.args.axis < length s) (λ s. s.now) c.args.shapes.now c.requires.axes

pub returns-clause-value : goal.returns-clause-value
returns-clause-value c =
    are_joined c.args.axis (λ s. s.now) c.args.shapes.now c.index-shapes-0.result _ c.sizes_with.result.items c.total_extent.result c.requires.some c.index-shapes-0.is
    (sym c.are_like.ensures ∙ c.if-not-are_like.false) c.sizes_with.ensures.value c.total_extent.ensures
