use Rattle.std.proofs.Common.{◌≡◌, Bool, true, false, arith}
use Rattle.sh_sharding.proofs.NormalLaws.{same_at}
use Rattle.sh_sharding.proofs.normal.same_divisions.Goals as goal

not_both : (b : Bool) → b ≡ true → b ≡ false → ⊥
not_both b h k = cc

pub returns-then-not-same_division : goal.returns-then-not-same_division
returns-then-not-same_division c = (
  λ t. absurd (cc),
  λ h. absurd (not_both c.same_division.result
      (c.same_division.ensures.1 (same_at c.args.a.now c.args.b.now c.loop-at.at c.index-a-at.result c.index-b-at.result (omega arith) (omega arith) c.index-a-at.is c.index-b-at.is h))
      c.if-not-same_division.true),
)
