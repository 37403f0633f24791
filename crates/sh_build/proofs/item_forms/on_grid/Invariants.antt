use Rattle.std.proofs.Common.{◌≡◌, map, take}
use Rattle.sh_build.specs.Meaning.{on_grid as cut_on_grid}
use Rattle.sh_build.proofs.item_forms.on_grid.Given as goal

abbrev pub invariant-loop-cut : goal.invariant-loop-cut
invariant-loop-cut l = l.placed.items ≡ map (cut_on_grid l.fn.grid) (take l.cut-index l.cut-items)
