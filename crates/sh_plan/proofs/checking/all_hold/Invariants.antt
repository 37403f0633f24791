use Rattle.std.proofs.Common.{All, take}
use Rattle.sh_plan.specs.Checks.{EntryHolds}
use Rattle.sh_plan.proofs.checking.all_hold.Given as goal

abbrev pub invariant-loop-entry : goal.invariant-loop-entry
invariant-loop-entry l = All (EntryHolds l.to l.table) (take l.entry-index l.table)
