use Rattle.std.proofs.Common.{rules, sym, ◌∙◌}
use Rattle.sh_turns_demo.specs.declared.plain.Instruction.TheVariants.{Subtract}
use Rattle.sh_turns_demo.proofs.Steps.{goes_where_posted}
use Rattle.sh_turns_demo.proofs.machine.can_go.Goals as goal

pub returns : goal.returns
returns c =
    let s = c.state.inside in
    let found = rw c.deref.ensures.value at c.in-Some.ensures.lookup in
    rw (← c.state.view_is)
    (goes_where_posted c.args.program.now c.args.world.now c.args.device (record { values = s.values.items; next = s.next; waits = s.waits; posts = s.posts.items }) c.in-Some.instruction.now found.3.0 (found.3.1 (Subtract 0 0)) c.all_posted.result c.len.result c.members.result.now (sym c.is_collective.ensures ∙ c.if-not-is_collective.false) c.if-not-state.false (search rules) c.members.ensures c.all_posted.ensures)
