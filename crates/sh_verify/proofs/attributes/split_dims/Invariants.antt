use Rattle.std.proofs.Common.{◌≡◌, ◌+◌, ◌≤◌, drop}
use Rattle.sh_ir.specs.Attributes.{split_dims}
use Rattle.sh_verify.proofs.attributes.split_dims.Given as goal

-- those so far and those to come are all
abbrev pub invariant-loop-axes : goal.invariant-loop-axes
invariant-loop-axes l = (l.count + split_dims (drop l.axes-index l.lists) ≡ split_dims l.lists) × (l.count ≤ l.axes-index)
