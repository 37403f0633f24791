use Rattle.std.proofs.Common.{◌≡◌, map, rules}
use Rattle.std.proofs.lemmas.Fn.{always_returns_same}
use Rattle.sh_sharding.specs.Views.{described}
use Rattle.sh_plan.proofs.PlaceSteps.{asked, place_is}
use Rattle.sh_plan.proofs.places.place_of.Goals as goal

pub returns : goal.returns
returns c to t grid all sought =
    let found = c.binary_search_by.ensures.position (asked c.args.g.now.extents (map (described c.args.g.now.extents) c.args.sought.now))
    (always_returns_same _ (λ a r. r ≡ asked c.args.g.now.extents (map (described c.args.g.now.extents) c.args.sought.now) a.0.now) _ (λ a r f' called. search rules)) in
    rw c.ok.ensures.value (place_is to t c.args.g.now c.args.table.now (map (described c.args.g.now.extents) c.args.sought.now) c.binary_search_by.result grid all sought c.binary_search_by.ensures.bound found)
