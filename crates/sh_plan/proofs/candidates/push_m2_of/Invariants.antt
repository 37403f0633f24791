use Rattle.std.proofs.Common.{◌≡◌, ◌++◌, map}
use Rattle.std.specs.List.{range_with_len}
use Rattle.sh_plan.specs.declared.moves.Move.TheVariants.{M2}
use Rattle.sh_plan.proofs.candidates.push_m2_of.Given as goal

abbrev pub invariant-loop-a : goal.invariant-loop-a
invariant-loop-a l = l.moves ≡ l.fn.moves ++ map (M2 l.d) (range_with_len 0 l.a)
