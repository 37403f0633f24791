use Rattle.std.proofs.Common.{length, refl, take}
use Rattle.sh_sharding.proofs.AdmissionLaws.{IsReady, admitted_small, is_admitted, ready_front}
use Rattle.sh_sharding.proofs.admission.has_small_parts.Goals as goal
use Rattle.sh_sharding.proofs.admission.has_small_parts.Goals.{After-dimension_views-views}

ready : (c : After-dimension_views-views)
    → IsReady c.args.g.now c.args.raw.now c.args.s.now (take (length c.args.dimensions.now) c.dimension_views-views.result)
ready c =
    ready_front c.args.g.now c.args.raw.now c.args.s.now c.dimension_views-views.result c.args.dimensions.now _
    c.requires.kept c.requires.dimensions refl c.dimension_views-views.ensures.views

pub is_local_small-requires : goal.is_local_small-requires
is_local_small-requires c =
    let views = ready (goal.at.is_local_small-requires c).After-dimension_views-views in
    record { ordered = views.ordered; short = views.short }

pub returns : goal.returns
returns c =
    let views = ready (goal.at.returns c).After-dimension_views-views in
    let shown = take (length c.args.dimensions.now) c.dimension_views-views.result in (
      λ small. is_admitted c.args.g.now c.args.raw.now c.args.s.now shown c.requires.kept views (c.is_local_small.ensures.0 small),
      λ admitted. c.is_local_small.ensures.1 (admitted_small c.args.g.now c.args.raw.now c.args.s.now shown c.requires.kept views admitted),
    )
