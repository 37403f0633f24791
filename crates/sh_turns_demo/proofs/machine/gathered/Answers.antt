use Rattle.std.proofs.Common.{ℕ, Option, Some, sym, ap, ◌∙◌}
use Rattle.std.specs.Prelude.{slice_get}
use Rattle.sh_turns.specs.World.{device_at, posted_for}
use Rattle.sh_turns_demo.proofs.Gather.{gather_more, gather_none}
use Rattle.sh_turns_demo.proofs.machine.gathered.Goals as goal

pub returns-in_default : goal.returns-in_default
returns-in_default c =
    let f : ℕ → Option ℕ = λ m. posted_for c.args.instruction (slice_get (device_at c.args.world.now m).posts c.args.number) in
    sym (gather_none f c.args.members.now c.loop-member.member-index 0 c.loop-member-test.true (sym c.posted_at.ensures ∙ c.in_default.is))

pub loop-member-preserved : goal.loop-member-preserved
loop-member-preserved c =
    let f : ℕ → Option ℕ = λ m. posted_for c.args.instruction (slice_get (device_at c.args.world.now m).posts c.args.number) in
    gather_more f c.args.members.now c.loop-member.member-index 0 c.loop-member-test.true c.loop-member.operands.items c.in-Some.operand c.loop-member.invariant (sym c.posted_at.ensures ∙ c.in-Some.is)
    ∙ sym (ap (λ l. Some l) c.in_ok-push.ensures.items)
