use Rattle.std.proofs.Common.{◌≡◌, ap, length, subst, sym, take}
use Rattle.sh_sharding.specs.Views.{IsAdmittedView}
use Rattle.sh_iface.specs.LoopNest.{value_at}
use Rattle.sh_iface.proofs.ImpliedViewLaws.{admitted_views, views_admitted}
use Rattle.sh_iface.proofs.validity.is_value_admitted.Goals as goal

pub returns : goal.returns
returns g c =
    let nest = (g.O.HasLoops.meaning c.args.op.now).nest in
    let value = value_at nest c.args.v in
    let views = c.implied_views-views.result in
    let grid = c.args.g.now in
    let same : take c.rank.result views ≡ take (length value.dims) views = ap (λ n. take n views) c.rank.ensures in (
      λ t. admitted_views grid nest c.args.o.now value views c.implied_views-views.ensures.views c.requires.short (subst (IsAdmittedView grid) same (c.is_admitted.ensures.0 t)),
      λ s. c.is_admitted.ensures.1 (subst (IsAdmittedView grid) (sym same) (views_admitted grid nest c.args.o.now value views c.implied_views-views.ensures.views c.requires.short c.requires.splits s)),
    )
