use Rattle.std.proofs.Common.{map, arith, sym, ◌∙◌}
use Rattle.sh_eval.proofs.SizeRules.{sized_small}
use Rattle.sh_eval.proofs.WorkLaws.{work_missing, work_there}
use Rattle.sh_eval.proofs.work.work_of.Goals as goal

pub count_of-cells-requires : goal.count_of-cells-requires
count_of-cells-requires c = sized_small c.args.op.now (map (λ t. t.shape) (map (λ t. t.now) c.args.ts.now)) c.in-Some.size (sym c.in-Some.is ∙ c.in_ok-size.ensures) c.requires.can.few

pub returns-in-Some : goal.returns-in-Some
returns-in-Some c =
    work_there c.args.op.now (map (λ t. t.shape) (map (λ t. t.now) c.args.ts.now)) c.in-Some.size c.saturating_add.result (sym c.in-Some.is ∙ c.in_ok-size.ensures) (omega (arith, c.saturating_add.ensures, c.count_of-cells.ensures))

pub returns-in-None : goal.returns-in-None
returns-in-None c = work_missing c.args.op.now (map (λ t. t.shape) (map (λ t. t.now) c.args.ts.now)) (sym c.in-None.is ∙ c.in_ok-size.ensures)
