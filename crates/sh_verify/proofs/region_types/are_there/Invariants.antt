use Rattle.std.proofs.Common.{◌≡◌, drop}
use Rattle.std.specs.List.{list_all}
use Rattle.sh_ir.specs.RegionRules.{is_there}
use Rattle.sh_verify.proofs.region_types.are_there.Given as goal

-- the names to come decide
abbrev pub invariant-loop-name : goal.invariant-loop-name
invariant-loop-name l =
    list_all (is_there l.region.outer l.region.own) (drop l.name-index l.names) ≡ list_all (is_there l.region.outer l.region.own) l.names
