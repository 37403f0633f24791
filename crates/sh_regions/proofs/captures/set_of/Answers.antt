use Rattle.std.proofs.Common.{[], get_or, take}
use Rattle.std.proofs.lemmas.List.{take_more}
use Rattle.sh_regions.proofs.Members.{agreed_more, agreed_self}
use Rattle.sh_regions.proofs.captures.set_of.Goals as goal

pub loop-name-init : goal.loop-name-init
loop-name-init c = rw c.new-set.ensures.empty (agreed_self [])

pub loop-name-preserved : goal.loop-name-preserved
loop-name-preserved c =
    rw (take_more c.args.names.now c.loop-name.name-index 0 c.loop-name-test.true, c.in_ok-insert.ensures.keys)
    (agreed_more c.loop-name.set.keys (take c.loop-name.name-index c.args.names.now) (get_or c.args.names.now c.loop-name.name-index 0)
    c.loop-name.invariant)
