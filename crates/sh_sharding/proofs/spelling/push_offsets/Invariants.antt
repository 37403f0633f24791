use Rattle.std.proofs.Common.{◌≡◌, ◌++◌}
use Rattle.sh_sharding.proofs.NormalLaws.{offsets_to}
use Rattle.sh_sharding.proofs.spelling.push_offsets.Given as goal

-- the offsets so far are appended
abbrev pub invariant-loop-part : goal.invariant-loop-part
invariant-loop-part l = l.offsets ≡ l.fn.offsets ++ offsets_to l.g.extents l.d l.part
