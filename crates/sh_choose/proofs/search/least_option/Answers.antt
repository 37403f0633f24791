use Rattle.std.proofs.Common.{subst, sym, ◌++◌, [], map, length}
use Rattle.std.specs.List.{range_with_len}
use Rattle.sh_choose.specs.Least.{IsBest}
use Rattle.sh_choose.specs.Proposals.{choices, proposals}
use Rattle.sh_choose.specs.Thinned.{AreThinned}
use Rattle.sh_choose.proofs.ChoiceLaws.{always_found, found_least}
use Rattle.sh_choose.proofs.search.least_option.Goals as goal

pub unreachable-requires : goal.unreachable-requires
unreachable-requires g c =
    let nest = (g.O.HasLoops.meaning c.args.op.now).nest in
    let lists = c.as_slice.result.now in
    let thinned = subst (AreThinned (map (proposals nest c.args.known.now) (range_with_len 0 (length nest.loops)))) (sym c.as_slice.ensures) c.in_ok-proposals.ensures in
    let found = subst (IsBest nest c.args.g.now c.args.known.now (map (λ r. c.new-start.result ++ r) (choices lists) ++ [])) c.in-None.is (c.in_ok-chosen.ensures [] tt) in
    always_found nest c.args.g.now c.args.known.now lists c.new-start.result thinned c.new-start.ensures
    ((g.met.O.ShardIface.lawful c.args.op.now).replicated c.args.g.now c.extents-grid.ensures.grid) found

pub returns : goal.returns
returns g c =
    let nest = (g.O.HasLoops.meaning c.args.op.now).nest in
    let lists = c.as_slice.result.now in
    let thinned = subst (AreThinned (map (proposals nest c.args.known.now) (range_with_len 0 (length nest.loops)))) (sym c.as_slice.ensures) c.in_ok-proposals.ensures in
    let found = subst (IsBest nest c.args.g.now c.args.known.now (map (λ r. c.new-start.result ++ r) (choices lists) ++ [])) c.in-Some.is (c.in_ok-chosen.ensures [] tt) in
    found_least nest c.args.g.now c.args.known.now lists c.new-start.result c.in-Some.chosen thinned c.new-start.ensures found
