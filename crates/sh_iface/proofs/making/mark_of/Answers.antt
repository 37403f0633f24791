use Rattle.sh_sharding.specs.Views.{HasOrder, offsets_in}
use Rattle.std.proofs.Common.{subst}
use Rattle.sh_iface.proofs.MakingLaws.{between_all}
use Rattle.sh_iface.proofs.making.mark_of.Goals as goal

pub listed-requires : goal.listed-requires
listed-requires c = between_all c.args.extent c.args.parts (offsets_in c.in-Listed.listing) (subst (HasOrder c.args.extent c.args.parts) c.in-Listed.is c.requires.dividing.order)
