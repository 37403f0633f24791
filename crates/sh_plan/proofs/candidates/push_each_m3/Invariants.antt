use Rattle.std.proofs.Common.{◌≡◌, ◌++◌, map}
use Rattle.std.specs.List.{flat_map, range_with_len}
use Rattle.sh_plan.specs.declared.moves.Move.TheVariants.{M3}
use Rattle.sh_plan.proofs.candidates.push_each_m3.Given as goal

abbrev pub invariant-loop-d : goal.invariant-loop-d
invariant-loop-d l = l.moves ≡ l.fn.moves ++ flat_map (λ d. map (M3 d) (range_with_len 0 l.rank)) (range_with_len 0 l.d)
