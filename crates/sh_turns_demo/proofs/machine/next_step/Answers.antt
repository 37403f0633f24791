use Rattle.std.proofs.Common.{ℕ, rules, sym, ◌∙◌}
use Rattle.sh_turns.specs.World.{Device}
use Rattle.sh_turns_demo.proofs.Steps.{local_turn_is, post_turn_is, take_turn_is}
use Rattle.sh_turns_demo.proofs.machine.next_step.Goals as goal

pub returns-then-not-is_collective : goal.returns-then-not-is_collective
returns-then-not-is_collective c =
    let s = c.state.inside in
    let d : Device ℕ = record { values = s.values.items; next = s.next; waits = s.waits; posts = s.posts.items } in
    let is_local = sym c.is_collective.ensures ∙ c.if-not-is_collective.true in
    rw (← c.state.view_is)
    (local_turn_is c.args.program.now c.args.world.now c.args.device d c.index-instruction.result.now (rw (← c.state.view_is) at c.requires) c.index-instruction.ensures c.as_slice.result.now c.local.result is_local c.as_slice.ensures.value c.local.ensures
    ∙ c.local_step.ensures d)

pub returns-then-not-state : goal.returns-then-not-state
returns-then-not-state c =
    let s = c.state.inside in
    let d : Device ℕ = record { values = s.values.items; next = s.next; waits = s.waits; posts = s.posts.items } in
    let is_collective = sym c.is_collective.ensures ∙ c.if-not-is_collective.false in
    let values = c.as_slice-then-not-state in
    rw (← c.state.view_is)
    (post_turn_is c.args.program.now c.args.world.now c.args.device d c.index-instruction.result.now (rw (← c.state.view_is) at c.requires) c.index-instruction.ensures values.result.now c.operand.result is_collective c.if-not-state.true values.ensures.value c.operand.ensures
    ∙ c.post_step.ensures d)

pub returns : goal.returns
returns c =
    let s = c.state.inside in
    let d : Device ℕ = record { values = s.values.items; next = s.next; waits = s.waits; posts = s.posts.items } in
    let is_collective = sym c.is_collective.ensures ∙ c.if-not-is_collective.false in
    rw (← c.state.view_is)
    (take_turn_is c.args.program.now c.args.world.now c.args.device d c.index-instruction.result.now (rw (← c.state.view_is) at c.requires) c.index-instruction.ensures c.members.result.now c.saturating_sub-number.result c.in_ok-value.value is_collective c.if-not-state.false c.members.ensures (search rules) c.in_ok-value.ensures
    ∙ c.take_step.ensures d)
