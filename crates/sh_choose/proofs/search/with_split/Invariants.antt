use Rattle.std.proofs.Common.{◌≡◌, take}
use Rattle.sh_choose.proofs.search.with_split.Given as goal

-- the splits so far are copied
abbrev pub invariant-loop-earlier : goal.invariant-loop-earlier
invariant-loop-earlier l = l.longer ≡ take l.earlier-index l.earlier-items
