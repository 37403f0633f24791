use Rattle.std.proofs.Common.{◌≡◌, ◌+◌, sym, subst, arith}
use Rattle.sh_sharding.specs.Positions.{AreExtended}
use Rattle.sh_sharding.proofs.PositionLaws.{extended_more}
use Rattle.sh_sharding.proofs.positions.extended.Goals as goal

pub loop-entry-preserved : goal.loop-entry-preserved
loop-entry-preserved c =
    subst (AreExtended c.args.positions.now c.args.stride c.args.from (c.loop-entry.entry + 1)) (sym c.in_ok-push_moved.ensures)
    (extended_more c.args.positions.now c.args.stride c.args.from c.loop-entry.entry c.loop-entry.out.items c.loop-entry.invariant)

pub returns : goal.returns
returns c =
    let all : c.loop-entry.entry ≡ c.args.size = omega arith in
    subst (λ n. AreExtended c.args.positions.now c.args.stride c.args.from n c.loop-entry.out.items) all c.loop-entry.invariant
