use Rattle.sh_reshard.proofs.SoundPlans.{plan_sound, plan_states}
use Rattle.sh_reshard.proofs.laws.soundness_laws.Goals as goal

pub returns : goal.returns
returns c = record { sound = plan_sound; small = plan_states }
