use Rattle.std.proofs.Common.{◌≡◌, ◌≢◌, ◌+◌, ◌<◌, Bool, true, false, get_or, take, arith, sym, subst}
use Rattle.sh_base.specs.declared.numbers.Cell.TheVariants.{Undef}
use Rattle.sh_sharding.specs.declared.positions.Position.{Position}
use Rattle.sh_sharding.specs.Positions.{IsLeastDiffering}
use Rattle.sh_sharding.proofs.PositionLaws.{least_same, least_less}
use Rattle.sh_sharding.proofs.positions.least_differing.Goals as goal
use Rattle.sh_sharding.proofs.positions.least_differing.Goals.{then-not-alike+then-position-least, else-not-alike, else-not-alike-via-then-not-alike+else-position-least, else-not-alike-via-else-not-alike}

both : (b : Bool) → b ≡ true → b ≡ false → ⊥
both b h k = cc

pub loop-position-preserved : goal.loop-position-preserved
loop-position-preserved c =
    let first : Position = record { whole = 0; local = 0 } in
    let position = get_or c.args.positions.now c.loop-position.position-index first in
    let there = c.loop-position-test.true in
    let same = c.same-alike.ensures in
    elim c.if-not-alike.branch [
      | then-not-alike+then-position-least w ↦
          let apart : get_or c.args.part.now position.local Undef ≢ get_or c.args.cells.now position.whole Undef = λ e. both c.same-alike.result (same.1 e) w.if-not-alike.true in
          subst (IsLeastDiffering (take (c.loop-position.position-index + 1) c.args.positions.now) c.args.part.now c.args.cells.now) (sym w.least-is)
          (least_less c.args.positions.now c.loop-position.position-index first c.args.part.now c.args.cells.now c.loop-position.least there w.if-position-least.true apart c.loop-position.invariant)
      | else-not-alike w ↦
          let alike : position.whole < c.loop-position.least → get_or c.args.part.now position.local Undef ≡ get_or c.args.cells.now position.whole Undef = elim w.else-not-alike.branch [
            | else-not-alike-via-then-not-alike+else-position-least v ↦ λ less. let more = v.if-position-least.false in absurd (omega arith)
            | else-not-alike-via-else-not-alike v ↦ λ less. same.0 v.if-not-alike.false
          ] in
          subst (IsLeastDiffering (take (c.loop-position.position-index + 1) c.args.positions.now) c.args.part.now c.args.cells.now) (sym w.least-is)
          (least_same c.args.positions.now c.loop-position.position-index first c.args.part.now c.args.cells.now c.loop-position.least there alike c.loop-position.invariant)
    ]
