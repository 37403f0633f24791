use Rattle.std.proofs.Common.{arith, subst, sym, ◌≤◌, ◌++◌, take, ◌+◌}
use Rattle.std.specs.Prelude.{◌&&◌}
use Rattle.std.specs.List.{count_by}
use Rattle.sh_iface.specs.Splits.{OptionValue}
use Rattle.sh_choose.specs.declared.chosen.Known.{Known}
use Rattle.sh_choose.specs.Weights.{differs, is_of}
use Rattle.sh_choose.proofs.BoundLaws.{count_grows, count_more, least_count}
use Rattle.sh_choose.proofs.bounds.least_differing.Goals.{then-must_count, else-must_count}
use Rattle.sh_choose.proofs.bounds.least_differing.Goals as goal

pub loop-k-preserved : goal.loop-k-preserved
loop-k-preserved g c =
    let counted = λ (rest : OptionValue) (k : Known). is_of c.args.user k && differs (g.O.HasLoops.meaning c.args.op.now).nest c.args.g.now (c.args.o.now ++ rest) k in
    let known = c.args.known.now in
    elim c.if-must_count.branch [
      | then-must_count w ↦ (
        omega (arith, c.loop-k.invariant.0, w.count-is),
        λ rest v. subst (λ n. n ≤ count_by (counted rest) (take (c.loop-k.k-index + 1) known)) (sym w.count-is)
            (count_more (counted rest) known c.loop-k.k-index c.loop-k.count c.k-item.result c.loop-k-test.true c.k-item.is (c.must_count.ensures w.if-must_count.true rest v) (c.loop-k.invariant.1 rest v)),
      )
      | else-must_count w ↦ (
        omega (arith, c.loop-k.invariant.0, w.count-is),
        λ rest v. subst (λ n. n ≤ count_by (counted rest) (take (c.loop-k.k-index + 1) known)) (sym w.count-is)
            (count_grows (counted rest) known c.loop-k.k-index c.loop-k.count c.k-item.result c.loop-k-test.true (c.loop-k.invariant.1 rest v)),
      )
    ]

pub returns : goal.returns
returns g c =
    λ rest v. least_count (g.O.HasLoops.meaning c.args.op.now).nest c.args.g.now (c.args.o.now ++ rest) c.args.user c.args.known.now c.loop-k.k-index c.loop-k.count (omega (arith, c.loop-k-test.false)) (c.loop-k.invariant.1 rest v)
