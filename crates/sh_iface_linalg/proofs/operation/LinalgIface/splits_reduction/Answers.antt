use Rattle.std.proofs.Common.{arith}
use Rattle.sh_iface_linalg.specs.Ifaces.{structured_in}
use Rattle.sh_iface_linalg.proofs.NestLaws.{end_split, found_split, next_split}
use Rattle.sh_iface_linalg.proofs.operation.LinalgIface.splits_reduction.Goals as goal

pub returns-then-splits_reduced : goal.returns-then-splits_reduced
returns-then-splits_reduced c =
    let n = c.count_loops-l-end.ensures in
    let lt = c.loop-l-test.true in
    found_split (structured_in c.args.self.now) c.args.o.now c.loop-l.l c.splits_reduced.result _ (omega (arith, n, lt)) c.splits_reduced.ensures c.if-splits_reduced.true c.loop-l.invariant

pub loop-l-preserved : goal.loop-l-preserved
loop-l-preserved c =
    let n = c.count_loops-l-end.ensures in
    let lt = c.loop-l-test.true in
    next_split (structured_in c.args.self.now) c.args.o.now c.loop-l.l c.splits_reduced.result _ (omega (arith, n, lt)) c.splits_reduced.ensures c.if-splits_reduced.false c.loop-l.invariant

pub returns : goal.returns
returns c =
    let n = c.count_loops-l-end.ensures in
    let le = c.loop-l-test.false in
    end_split (structured_in c.args.self.now) c.args.o.now c.loop-l.l _ (omega (arith, n, le)) c.loop-l.invariant
