use Rattle.std.proofs.Common.{refl, ◌∙◌}
use Rattle.sh_sharding.specs.Views.{IsViewOf}
use Rattle.sh_sharding.proofs.OwnViewLaws.{own_view}
use Rattle.sh_sharding.proofs.views.view.Goals as goal

pub returns : goal.returns
returns c =
    let d = c.args.d.now in
    let shown : IsViewOf (record { extent = d.extent; axes = c.new.result; mark = c.mark_view.result; low = d.low; high = d.high }) d =
    record { extent = refl; axes = c.new.ensures ∙ c.extents.ensures.value; mark = c.mark_view.ensures; low = refl; high = refl } in
    record { value = shown; own = λ g ok m. own_view g _ d ok m shown }
