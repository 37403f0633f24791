use Rattle.std.proofs.Common.{map, take}
use Rattle.sh_verify.specs.Tables.{HasPlaces}
use Rattle.sh_verify.proofs.tables.func_places.Given as goal

abbrev pub invariant-loop-at : goal.invariant-loop-at
invariant-loop-at l = HasPlaces l.places.entries (map (λ item. item.name) (take l.at l.funcs))
