use Rattle.std.proofs.Common.{map, ◌∙◌}
use Rattle.std.proofs.lemmas.Result.{IfOk-weaker}
use Rattle.sh_sem.specs.Steps.{axes_of}
use Rattle.sh_eval.specs.Evaluations.{seat_in}
use Rattle.sh_eval.specs.Seats.{seat_along}
use Rattle.sh_eval.proofs.SeatLaws.{can_evaluate_alike, local_is, same_given}
use Rattle.sh_eval.proofs.local.step_local.Goals as goal

pub eval_borrowed-requires : goal.eval_borrowed-requires
eval_borrowed-requires c =
    can_evaluate_alike c.args.op.now (seat_in c.seat_on-seat.result) (seat_along c.args.g.now.extents (axes_of c.args.op.now.kind) c.args.device) (map (λ t. t.now) c.args.ts.now) c.seat_on-seat.ensures c.requires.can

pub returns : goal.returns
returns c =
    IfOk-weaker c.eval_borrowed.result _ _
    (λ out p.
    p
    ∙ same_given c.args.op.now (seat_in c.seat_on-seat.result) (seat_along c.args.g.now.extents (axes_of c.args.op.now.kind) c.args.device) (map (λ t. t.now) c.args.ts.now) c.seat_on-seat.ensures
    ∙ local_is c.args.g.now.extents c.args.op.now c.args.device (map (λ t. t.now) c.args.ts.now))
    c.eval_borrowed.ensures
