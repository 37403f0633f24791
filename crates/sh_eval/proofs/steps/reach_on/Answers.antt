use Rattle.std.proofs.Common.{map, arith, sym, ◌∙◌}
use Rattle.sh_eval.proofs.WorkLaws.{passes_much, stuck_by_shapes, weighs, weighs_nothing, within}
use Rattle.sh_eval.proofs.steps.reach_on.Goals as goal

pub returns-in-None : goal.returns-in-None
returns-in-None c = stuck_by_shapes c.args.op.now (map (λ t. t.now) c.args.ts.now) c.args.so_far c.requires.small (weighs_nothing c.args.op.now (map (λ t. t.shape) (map (λ t. t.now) c.args.ts.now)) (sym c.in-None.is ∙ c.in_ok-work.ensures))

pub returns-then-work-from : goal.returns-then-work-from
returns-then-work-from c =
    passes_much c.args.op.now (map (λ t. t.shape) (map (λ t. t.now) c.args.ts.now)) c.args.so_far c.in-Some.work c.requires.small (weighs c.args.op.now (map (λ t. t.shape) (map (λ t. t.now) c.args.ts.now)) c.in-Some.work (sym c.in-Some.is ∙ c.in_ok-work.ensures)) (omega (arith, c.if-work-from.true, c.from.ensures))

pub returns-in-Some-2 : goal.returns-in-Some-2
returns-in-Some-2 c =
    let w = within c.args.op.now (map (λ t. t.shape) (map (λ t. t.now) c.args.ts.now)) c.args.so_far c.in-Some.work c.requires.small c.requires.can.few (weighs c.args.op.now (map (λ t. t.shape) (map (λ t. t.now) c.args.ts.now)) c.in-Some.work (sym c.in-Some.is ∙ c.in_ok-work.ensures)) (omega (arith, c.if-work-from.false, c.from.ensures)) in
    record { few = w.few; value_is = sym (sym c.in-Some-2.is ∙ c.in_ok-t.ensures); work_is = w.work; small = w.small }

pub returns-in-None-2 : goal.returns-in-None-2
returns-in-None-2 c =
    let w = within c.args.op.now (map (λ t. t.shape) (map (λ t. t.now) c.args.ts.now)) c.args.so_far c.in-Some.work c.requires.small c.requires.can.few (weighs c.args.op.now (map (λ t. t.shape) (map (λ t. t.now) c.args.ts.now)) c.in-Some.work (sym c.in-Some.is ∙ c.in_ok-work.ensures)) (omega (arith, c.if-work-from.false, c.from.ensures)) in
    record { few = w.few; value_is = sym (sym c.in-None-2.is ∙ c.in_ok-t.ensures) }
