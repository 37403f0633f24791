use Rattle.std.proofs.Common.{◌≡◌, drop, take}
use Rattle.sh_ir.specs.RegionRules.{are_typed, block_of}
use Rattle.sh_verify.specs.OwnValues.{HasOwn, own_behind}
use Rattle.sh_verify.proofs.regions.are_typed.Given as goal

-- the values are those behind the operations so far, and the operations to come decide
abbrev pub invariant-loop-at : goal.invariant-loop-at
invariant-loop-at l = record {
  known : HasOwn l.own.entries (own_behind (block_of l.body) (take l.at l.ops));
  so_far : are_typed l.context.values (own_behind (block_of l.body) (take l.at l.ops)) (drop l.at l.ops) l.body.yields l.body.width
      ≡ are_typed l.context.values (block_of l.body) l.body.ops l.body.yields l.body.width;
}
