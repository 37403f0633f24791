use Rattle.std.proofs.Common.{sym, add-one}
use Rattle.sh_base.proofs.IndexLaws.{get_or-unflat_of}
use Rattle.sh_grid.proofs.groups.coordinate_of.Goals as goal

pub returns-clause-value : goal.returns-clause-value
returns-clause-value c =
    rw (c.stride_of.ensures.value, add-one) (sym (get_or-unflat_of c.args.extents.now c.args.device c.args.axis c.requires.device c.requires.axis))
