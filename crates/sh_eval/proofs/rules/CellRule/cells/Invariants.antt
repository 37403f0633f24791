use Rattle.std.proofs.Common.{◌≡◌, All, Some, map}
use Rattle.sh_base.specs.Cells.{IsCellOf}
use Rattle.sh_base.specs.Shape.{unflat_of}
use Rattle.sh_eval.specs.Rules.{rule_cell}
use Rattle.sh_loops.specs.Cells.{cells_by}
use Rattle.sh_eval.proofs.rules.CellRule.cells.Given as goal

abbrev pub invariant-loop-number : goal.invariant-loop-number
invariant-loop-number l = record {
  value : cells_by (λ k. Some (rule_cell l.self l.t (map (λ t. t.now) l.ts) l.shape (unflat_of l.shape k))) l.number ≡ Some l.cells.items;
  within : All (IsCellOf l.width) l.cells.items;
}
