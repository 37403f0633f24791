use Rattle.std.proofs.Common.{◌≡◌, drop}
use Rattle.std.specs.List.{position_from}
use Rattle.std.specs.Prelude.{nat_eq, position}
use Rattle.sh_ir.specs.Numbers.{as_naturals}
use Rattle.sh_collectives.proofs.described.place_among.Given as goal

-- it is found among the axes from here on, or nowhere
abbrev pub invariant-loop-at : goal.invariant-loop-at
invariant-loop-at l = position_from (nat_eq l.axis) l.at (drop l.at (as_naturals l.axes)) ≡ position (nat_eq l.axis) (as_naturals l.axes)
