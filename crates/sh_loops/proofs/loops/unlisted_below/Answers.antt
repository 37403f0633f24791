use Rattle.std.proofs.Common.{ap, ◌∙◌}
use Rattle.sh_ir.specs.Numbers.{as_naturals}
use Rattle.sh_loops.proofs.ListedLaws.{one_kept, one_left}
use Rattle.sh_loops.proofs.loops.unlisted_below.Goals as goal
use Rattle.sh_loops.proofs.loops.unlisted_below.Goals.{then-not-is_listed+in_ok-push, else-not-is_listed}

pub loop-number-preserved : goal.loop-number-preserved
loop-number-preserved c =
    elim c.if-not-is_listed.branch [
      | then-not-is_listed+in_ok-push w ↦
          one_kept (as_naturals c.args.listed.now) c.loop-number.numbers.items c.if-not-is_listed.numbers.items c.loop-number.number c.is_listed.result
          c.loop-number.invariant c.is_listed.ensures w.if-not-is_listed.true (ap (λ v. v.items) w.numbers-is ∙ w.in_ok-push.ensures.items)
      | else-not-is_listed w ↦
          ap (λ v. v.items) w.numbers-is
          ∙ one_left (as_naturals c.args.listed.now) c.loop-number.numbers.items c.loop-number.number c.is_listed.result c.loop-number.invariant c.is_listed.ensures w.if-not-is_listed.false
    ]
