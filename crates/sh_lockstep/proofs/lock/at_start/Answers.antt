use Rattle.std.proofs.Common.{Some, ap, sym, ◌∙◌}
use Rattle.sh_ir.specs.declared.functions.Arg.{Arg}
use Rattle.sh_lockstep.specs.Tables.{values_in, with_row}
use Rattle.sh_lockstep.proofs.Starts.{start_next}
use Rattle.sh_lockstep.proofs.lock.at_start.Goals as goal

pub loop-at-preserved : goal.loop-at-preserved
loop-at-preserved c =
    start_next c.args.params.now c.args.args.now c.loop-at.at c.index-params-at.result c.in_ok-row.row (values_in c.loop-at.table) (values_in c.define.new.self)
    c.requires c.loop-at-test.true c.index-params-at.is c.in_ok-row.ensures
    (c.in_ok-define.ensures ∙ ap (λ (a : Arg). with_row (Some a.id) c.in_ok-row.row (values_in c.loop-at.table)) (sym c.index-params-at.is))
    c.loop-at.invariant
