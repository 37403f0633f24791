use Rattle.std.proofs.Common.{ℕ, ◌-◌, ◌≤◌, length, take, drop, slice_range}
use Rattle.sh_lex.specs.Tokens.{IsGap}
use Rattle.sh_lex.proofs.gaps.gap_len.Given as goal

-- what is a gap from here up to some byte is a gap from the front
abbrev pub invariant-loop-len : goal.invariant-loop-len
invariant-loop-len l = record {
  within : l.len ≤ length l.rest;
  gap : (to : ℕ) → l.len ≤ to → IsGap (drop to l.rest) (slice_range l.rest l.len to) → IsGap (drop to l.rest) (take to l.rest);
}

abbrev pub decreases-loop-len : goal.decreases-loop-len
decreases-loop-len l = length l.rest - l.len
