use Rattle.std.proofs.Common.{List, arith, ap, length, subst, take}
use Rattle.std.proofs.lemmas.List.Elements.{recursion_from_All}
use Rattle.sh_sharding.specs.declared.shardings.Dimension.{Dimension}
use Rattle.sh_sharding.specs.Sharding.{IsMarked}
use Rattle.sh_sharding.specs.Views.{AreOwnViews}
use Rattle.sh_sharding.proofs.OwnViewLaws.{own_views}
use Rattle.sh_sharding.proofs.views.views_of.Goals as goal

pub dimension_views-requires : goal.dimension_views-requires
dimension_views-requires c =
    let short = c.whole-admitted.ensures.admitted.short in
    omega (arith, ap length c.dimensions.ensures.value)

pub returns : goal.returns
returns c =
    let ok = c.whole-admitted.ensures.admitted in
    let g = c.args.s.now.grid.extents in
    let own = own_views g (take (length c.dimensions.result.now) c.dimension_views.result) c.dimensions.result.now ok.grid (recursion_from_All (IsMarked g) c.dimensions.result.now c.dimensions.ensures.marked) c.dimension_views.ensures.views in
    record {
      long = c.dimension_views.ensures.long;
      rank = ok.short;
      own = subst (λ (ds : List Dimension). AreOwnViews g (take (length ds) c.dimension_views.result) ds) c.dimensions.ensures.value own;
    }
