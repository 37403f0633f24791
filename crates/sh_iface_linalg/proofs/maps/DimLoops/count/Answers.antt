use Rattle.std.proofs.Common.{ap, length, sym, ◌∙◌}
use Rattle.sh_ir.specs.Numbers.{as_naturals}
use Rattle.sh_iface_linalg.specs.declared.maps.DimLoops.{DimLoops}
use Rattle.sh_iface_linalg.specs.Reading.{loops_in}
use Rattle.sh_iface_linalg.proofs.NestLaws.{places_counted}
use Rattle.sh_iface_linalg.proofs.maps.DimLoops.count.Goals as goal

pub returns-in-Places : goal.returns-in-Places
returns-in-Places c = sym (places_counted c.in-Places.rank (as_naturals c.in-Places.field-1.now)) ∙ ap (λ (x : DimLoops). length (loops_in x)) (sym c.in-Places.is)
