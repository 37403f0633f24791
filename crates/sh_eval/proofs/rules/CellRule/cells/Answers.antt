use Rattle.std.proofs.Common.{Some, map, ap, arith}
use Rattle.std.proofs.lemmas.List.Elements.{All-push}
use Rattle.sh_base.specs.Cells.{IsCellOf}
use Rattle.sh_base.specs.Shape.{unflat_of}
use Rattle.sh_eval.specs.Rules.{rule_cell}
use Rattle.sh_loops.proofs.CellLaws.{none_so_far, one_pushed}
use Rattle.sh_eval.proofs.rules.CellRule.cells.Goals as goal

pub loop-number-init : goal.loop-number-init
loop-number-init c = record {
  value = none_so_far (λ k. Some (rule_cell c.args.self.now c.args.t.now (map (λ t. t.now) c.args.ts.now) c.args.shape.now (unflat_of c.args.shape.now k))) c.in_ok-cells.cells.items c.in_ok-cells.ensures.items;
  within = rw c.in_ok-cells.ensures.items (λ k d l. absurd (omega (arith, l)));
}

pub loop-number-preserved : goal.loop-number-preserved
loop-number-preserved c = record {
  value =
      one_pushed (λ k. Some (rule_cell c.args.self.now c.args.t.now (map (λ t. t.now) c.args.ts.now) c.args.shape.now (unflat_of c.args.shape.now k))) c.loop-number.number c.loop-number.cells.items c.push.new.self.items
      c.cell.result c.loop-number.invariant.value (ap (λ x. Some x) c.cell.ensures.value) c.in_ok-push.ensures.items;
  within = rw c.in_ok-push.ensures.items (All-push (IsCellOf c.args.width) c.loop-number.cells.items c.cell.result c.loop-number.invariant.within c.cell.ensures.within);
}
