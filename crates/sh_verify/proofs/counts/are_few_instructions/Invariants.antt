use Rattle.std.proofs.Common.{◌≡◌, ◌+◌, ◌≤◌, drop, map}
use Rattle.std.specs.Prelude.{sum}
use Rattle.sh_ir.specs.Limits.{instruction_count, max_instructions}
use Rattle.sh_verify.proofs.counts.are_few_instructions.Given as goal

-- those so far and those to come are all
abbrev pub invariant-loop-op : goal.invariant-loop-op
invariant-loop-op l =
    (l.count + sum (map (λ op. instruction_count op.kind) (drop l.op-index l.ops)) ≡ sum (map (λ op. instruction_count op.kind) l.ops))
    × (l.count ≤ max_instructions)
