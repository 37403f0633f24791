use Rattle.std.proofs.Common.{◌≡◌, drop}
use Rattle.std.specs.List.{list_all}
use Rattle.sh_verify.specs.Followings.{has_rank, operands_in}
use Rattle.sh_verify.proofs.loop_maps.have_ranks.Given as goal

-- the operands to come decide
abbrev pub invariant-loop-at : goal.invariant-loop-at
invariant-loop-at l = list_all has_rank (drop l.at (operands_in l.all)) ≡ list_all has_rank (operands_in l.all)
