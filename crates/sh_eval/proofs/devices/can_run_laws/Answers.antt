use Rattle.sh_eval.proofs.DeviceWalk.{can_run_reached}
use Rattle.sh_eval.proofs.devices.can_run_laws.Goals as goal

pub returns : goal.returns
returns c f grid arguments k op d verified typed few at reached below =
    can_run_reached f grid verified arguments typed few k op at reached d below
