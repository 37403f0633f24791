use Rattle.std.proofs.Common.{◌≡◌, ℕ, ◌<◌}
use Rattle.sh_sharding.specs.Sharding.{offset_of}
use Rattle.sh_sharding.specs.Views.{mark_in}
use Rattle.sh_sharding.specs.declared.shardings.Mark.TheVariants.{Balanced}
use Rattle.sh_sharding.proofs.offsets.is_balanced.Given as goal

-- the offsets so far are the balanced ones
abbrev pub invariant-loop-part : goal.invariant-loop-part
invariant-loop-part l =
    (k : ℕ) → k < l.part → offset_of l.extent l.parts (mark_in l.extent l.parts l.mark) k ≡ offset_of l.extent l.parts Balanced k
