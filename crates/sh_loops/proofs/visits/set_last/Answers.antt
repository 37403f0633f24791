use Rattle.std.proofs.Common.{◌≡◌, ◌-◌, ◌<◌, length, ap, ◌∙◌, arith}
use Rattle.std.specs.Prelude.{set}
use Rattle.sh_loops.proofs.RowLaws.{with_last_set}
use Rattle.sh_loops.proofs.visits.set_last.Goals as goal

pub returns-then-count-gt0 : goal.returns-then-count-gt0
returns-then-count-gt0 c =
    let same : c.len-count.result ≡ length c.args.coordinates.now.items = omega (arith, c.len-count.ensures, c.args.coordinates.now.ok.0) in
    ap (λ n. set c.args.coordinates.now.items (n - 1) c.args.k) same
    ∙ with_last_set c.args.coordinates.now.items c.args.k (omega (arith, c.if-count-gt0.true, same))
