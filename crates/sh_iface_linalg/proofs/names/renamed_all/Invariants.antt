use Rattle.std.proofs.Common.{◌≡◌, map, take}
use Rattle.sh_iface_linalg.specs.NewNames.{names_in}
use Rattle.sh_iface_linalg.proofs.names.renamed_all.Given as goal

abbrev pub invariant-loop-name : goal.invariant-loop-name
invariant-loop-name l = l.out ≡ map (names_in l.new) (take l.name-index l.names)
