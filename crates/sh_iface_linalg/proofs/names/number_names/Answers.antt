use Rattle.std.proofs.Common.{get_or, refl}
use Rattle.sh_iface_linalg.specs.NewNames.{names_in}
use Rattle.sh_iface_linalg.proofs.BodyCode.{numbered_next}
use Rattle.sh_iface_linalg.proofs.names.number_names.Goals as goal

pub loop-name-preserved : goal.loop-name-preserved
loop-name-preserved c =
    numbered_next c.args.names.now c.loop-name.name-index c.args.from (get_or c.args.names.now c.loop-name.name-index 0) c.loop-name.next c.in_ok-next.next (names_in c.args.new.now) (names_in c.loop-name.new) (names_in c.set.new.self)
    c.loop-name-test.true refl c.in_ok-set.ensures c.in_ok-next.ensures c.loop-name.invariant
