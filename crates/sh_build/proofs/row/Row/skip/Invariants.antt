use Rattle.std.proofs.Common.{◌≡◌, ◌-◌}
use Rattle.sh_build.specs.Rows.{past}
use Rattle.sh_build.proofs.row.Row.skip.Given as goal

abbrev pub invariant-loop : goal.invariant-loop
invariant-loop l = past (l.count - l.counter) l.self ≡ past l.fn.count l.fn.self
