use Rattle.std.proofs.Common.{◌≡◌, ◌+◌, drop}
use Rattle.sh_iface_linalg.specs.Bodies.{with_names}
use Rattle.sh_iface_linalg.specs.NewNames.{names_in}
use Rattle.sh_iface_linalg.proofs.names.number_names.Given as goal

abbrev pub invariant-loop-name : goal.invariant-loop-name
invariant-loop-name l =
    (with_names (names_in l.new) (drop l.name-index l.names) l.next ≡ with_names (names_in l.initial.new) l.names l.from) × (l.next ≡ l.from + l.name-index)
