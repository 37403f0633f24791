use Rattle.std.proofs.Common.{◌≡◌, ◌++◌, drop}
use Rattle.sh_ir.specs.Regions.{outer_uses}
use Rattle.sh_regions.proofs.captures.outer_uses.Given as goal

abbrev pub invariant-loop-op : goal.invariant-loop-op
invariant-loop-op l =
    l.uses.items ++ outer_uses l.own.keys (drop l.op-index l.ops) l.yields ≡ outer_uses l.args l.ops l.yields
