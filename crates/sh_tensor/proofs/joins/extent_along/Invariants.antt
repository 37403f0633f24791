use Rattle.std.proofs.Common.{◌≡◌, take}
use Rattle.std.specs.List.{All}
use Rattle.sh_tensor.specs.Tensor.{IsTensor, joined_extent}
use Rattle.sh_tensor.proofs.joins.extent_along.Given as goal

-- the extents of the parts so far, which are whole
abbrev pub invariant-loop-part : goal.invariant-loop-part
invariant-loop-part l = record {
  value : l.extent ≡ joined_extent l.axis (take l.part-index l.parts);
  whole : All IsTensor (take l.part-index l.parts);
}
