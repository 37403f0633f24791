use Rattle.std.proofs.Common.{◌≡◌, drop, map}
use Rattle.std.specs.Prelude.{◌↔◌}
use Rattle.sh_sharding.specs.Carried.{local_types}
use Rattle.sh_verify.proofs.cut_rules.args_are_local.Given as goal

-- the types to come decide
abbrev pub invariant-loop-at : goal.invariant-loop-at
invariant-loop-at l =
    (map (λ arg. arg.value_type) (drop l.at l.args) ≡ local_types l.g (drop l.at l.cuts))
    ↔ (map (λ arg. arg.value_type) l.args ≡ local_types l.g l.cuts)
