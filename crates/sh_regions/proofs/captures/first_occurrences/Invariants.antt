use Rattle.std.proofs.Common.{◌≡◌, take}
use Rattle.sh_ir.specs.Regions.{first_occurrences}
use Rattle.sh_regions.proofs.captures.first_occurrences.Given as goal

abbrev pub invariant-loop-name : goal.invariant-loop-name
invariant-loop-name l = record {
  side : l.seen.keys ≡ l.once.items;
  once : l.once.items ≡ first_occurrences (take l.name-index l.names);
}
