use Rattle.std.proofs.Common.{map, length}
use Rattle.sh_sharding.proofs.ViewLaws.{IsCopied}
use Rattle.sh_sharding.proofs.made.extents_of.Given as goal

abbrev pub invariant-loop-at : goal.invariant-loop-at
invariant-loop-at l = IsCopied (map (λ d. d.extent) l.dimensions) l.at l.extents (length l.dimensions)
