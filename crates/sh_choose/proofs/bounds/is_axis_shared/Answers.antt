use Rattle.std.proofs.Common.{subst, sym, ◌++◌, ◌∷◌, []}
use Rattle.sh_iface.specs.Valid.{HaveOwnAxes}
use Rattle.sh_choose.proofs.BoundLaws.{own_pair}
use Rattle.sh_choose.proofs.bounds.is_axis_shared.Goals as goal

pub returns-then-share_an_axis : goal.returns-then-share_an_axis
returns-then-share_an_axis c =
    let last = c.in-Some.last.now in
    λ t rest h.
    c.share_an_axis.ensures c.if-share_an_axis.true
    (subst (λ x. HaveOwnAxes (x ∷ last ∷ [])) (sym c.split-item.is)
    (own_pair c.in-Some.earlier.now last rest c.loop-split.split-index c.split-item.result c.loop-split-test.true (subst (λ o. HaveOwnAxes (o ++ rest)) c.in-Some.ensures.cases.0 h)))
