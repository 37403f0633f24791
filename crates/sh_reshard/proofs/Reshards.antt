-- The instructions of a plan make the cuts by the source those by the target.
use Rattle.std.proofs.Common.{ℕ, ◌<◌}
use Rattle.sh_base.specs.declared.numbers.Width.{Width}
use Rattle.sh_sharding.specs.Sharding.{ShardingValue}
use Rattle.sh_plan.specs.declared.moves.Move.{Move}
use Rattle.sh_plan.specs.declared.moves.Move.TheVariants.{M1, M2, M3, M4, M5}
use Rattle.sh_plan.specs.declared.plans.Plan.{Plan}
use Rattle.sh_plan.specs.Instructions.{IsMoveAt, IsPlainPlan, Reshards, ReshardsAlong}
use Rattle.sh_plan.specs.Moves.{moved}
use Rattle.sh_plan.proofs.PlanReshards.{along_plan, plain_target}
use Rattle.sh_plan.proofs.SplitLaws.{slice_reshards, take_reshards}
use Rattle.sh_reshard.proofs.ExchangeLaws.{exchange_reshards}
use Rattle.sh_reshard.proofs.GatherLaws.{last_reshards, whole_reshards}

pub move_reshards : (w : Width) (s to : ShardingValue) (m : Move) (value name : ℕ) → IsMoveAt s to m → Reshards w s (moved s to m) m value name
move_reshards w s to (M1 d) value name is = last_reshards w s to d value name is
move_reshards w s to (M2 d a) value name is = slice_reshards w s to d a value name is
move_reshards w s to (M3 d e) value name is = exchange_reshards w s to d e value name is
move_reshards w s to (M4 d) value name is = whole_reshards w s to d value name is
move_reshards w s to (M5 d) value name is = take_reshards w s to d value name is

pub plan_reshards : (w : Width) (from to : ShardingValue) (p : Plan) (value first : ℕ) → IsPlainPlan from to p → value < first → ReshardsAlong w from to p.moves value first
plan_reshards w from to p value first is below =
    along_plan w to (plain_target from to p is) (λ m. Unit {0}) (λ s m value name any. move_reshards w s to m value name) from p value first is
    (λ k d within. tt) below
