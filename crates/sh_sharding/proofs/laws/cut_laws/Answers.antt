use Rattle.sh_sharding.proofs.CutLaws.{cuts_elementwise}
use Rattle.std.proofs.Common.{length}
use Rattle.sh_sharding.proofs.LocalTypeLaws.{are_local_dims}
use Rattle.sh_sharding.proofs.PartLaws.{axes_of-each}
use Rattle.sh_sharding.proofs.WindowCutLaws.{cuts_by_windows}
use Rattle.sh_sharding.proofs.OwnerLaws.{cuts_determine, holds_owned}
use Rattle.sh_sharding.proofs.laws.cut_laws.Goals as goal

pub returns-clause-holds : goal.returns-clause-holds
returns-clause-holds c = holds_owned c.args.s.now

pub returns-clause-determine : goal.returns-clause-determine
returns-clause-determine c = cuts_determine c.args.s.now c.whole-whole.ensures.admitted

pub returns-clause-elementwise : goal.returns-clause-elementwise
returns-clause-elementwise c = λ none. cuts_elementwise c.args.s.now c.whole-whole.ensures.admitted none

pub returns-clause-types : goal.returns-clause-types
returns-clause-types c =
    let ok = c.whole-whole.ensures.admitted in
    are_local_dims c.args.s.now.grid.extents c.args.s.now.dimensions ok.grid (axes_of-each (length c.args.s.now.grid.extents) c.args.s.now.dimensions ok.axes)

pub returns-clause-windows : goal.returns-clause-windows
returns-clause-windows c = cuts_by_windows c.args.s.now
