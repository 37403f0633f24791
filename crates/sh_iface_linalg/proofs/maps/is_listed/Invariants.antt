use Rattle.std.proofs.Common.{◌≡◌, drop}
use Rattle.sh_ir.specs.Numbers.{as_naturals}
use Rattle.sh_ir.specs.Regions.{is_among}
use Rattle.sh_iface_linalg.proofs.maps.is_listed.Given as goal

abbrev pub invariant-loop-other : goal.invariant-loop-other
invariant-loop-other l = is_among (as_naturals (drop l.other-index l.listed)) l.number ≡ is_among (as_naturals l.listed) l.number
