use Rattle.std.proofs.Common.{◌≡◌, ◌++◌, drop, map}
use Rattle.std.specs.Prelude.{option_map}
use Rattle.sh_lockstep.specs.Tables.{values_in}
use Rattle.sh_turns.specs.Program.{all_there}
use Rattle.sh_lockstep.proofs.steps.operands.Given as goal

abbrev pub invariant-loop-name : goal.invariant-loop-name
invariant-loop-name l =
    option_map (λ more. map (λ t. t.now) l.ts.items ++ more) (all_there (map (values_in l.table l.device) (drop l.name-index l.names)))
    ≡ all_there (map (values_in l.table l.device) l.names)
