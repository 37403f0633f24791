use Rattle.std.proofs.Common.{ap, sym}
use Rattle.std.specs.Prelude.{option_map}
use Rattle.sh_eval.specs.Cuts.{cut_shape}
use Rattle.sh_eval.proofs.ReshapeLaws.{groups_apart}
use Rattle.sh_eval.proofs.reshapes.expanded_shape.Goals as goal

pub returns-then-groups-extents : goal.returns-then-groups-extents
returns-then-groups-extents c = sym (ap (option_map cut_shape) (groups_apart c.args.dims.now c.args.groups.now c.args.extents.now c.if-groups-extents.true))
