use Rattle.std.proofs.Common.{◌≡◌, drop}
use Rattle.std.specs.Prelude.{◌↔◌}
use Rattle.sh_sharding.specs.Carried.{local_types}
use Rattle.sh_verify.proofs.cut_rules.types_are_local.Given as goal

-- the types to come decide
abbrev pub invariant-loop-at : goal.invariant-loop-at
invariant-loop-at l =
    (drop l.at l.types ≡ local_types l.g (drop l.at l.cuts)) ↔ (l.types ≡ local_types l.g l.cuts)
