use Rattle.std.proofs.Common.{◌≡◌, length, arith, drop, set}
use Rattle.sh_ways.proofs.Least.{dists, refilled, smalls}
use Rattle.sh_ways.proofs.search.distances.Goals as goal

pub returns-clause-dists : goal.returns-clause-dists
returns-clause-dists g c =
    let now = c.settle.new.d in
    let after = c.settle.ensures in
    let long : length c.settle.new.d ≡ c.in_ok-d.d.len = omega (arith, c.in_ok-d.ensures.len) in
    rw (refilled c.settle.new.d (drop (length c.settle.new.d) (set c.in_ok-d.d.items c.args.goal 0)) c.in_ok-d.d.len long)
    (dists c.args.rows.now c.args.goal now c.requires.range after.same after.below after.zero_at c.requires.reach after.ways)

pub returns-clause-small : goal.returns-clause-small
returns-clause-small g c =
    let now = c.settle.new.d in
    let after = c.settle.ensures in
    let long : length c.settle.new.d ≡ c.in_ok-d.d.len = omega (arith, c.in_ok-d.ensures.len) in
    rw (refilled c.settle.new.d (drop (length c.settle.new.d) (set c.in_ok-d.d.items c.args.goal 0)) c.in_ok-d.d.len long)
    (smalls c.args.rows.now c.args.goal now after.same c.requires.reach
    (dists c.args.rows.now c.args.goal now c.requires.range after.same after.below after.zero_at c.requires.reach after.ways))
