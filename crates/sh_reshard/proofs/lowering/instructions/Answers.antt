use Rattle.std.proofs.Common.{arith}
use Rattle.sh_plan.specs.Instructions.{IsMoveAt}
use Rattle.sh_reshard.proofs.LoweringSteps.{goes_on, lowered_all, lowered_none, may_next, next_fits, next_rank, none_left}
use Rattle.sh_reshard.proofs.lowering.instructions.Goals as goal
use Rattle.sh_reshard.proofs.lowering.instructions.Goals.{In-Some}

-- the move that is next may be made
may : (c : In-Some) → IsMoveAt c.loop-m.state c.args.to.now c.in-Some.m.now
may c =
    may_next c.args.width c.args.to.now c.args.from.now c.args.moves.now c.args.value c.args.first_id c.loop-m.state c.loop-m.left.now c.in-Some.m.now c.in-Some.later.now c.loop-m.operand c.loop-m.id c.loop-m.ops
    c.requires.target c.in-Some.ensures.cases.0 c.loop-m.invariant

pub loop-m-init : goal.loop-m-init
loop-m-init c =
    lowered_none c.args.width c.args.to.now c.args.from.now c.args.moves.now c.args.value c.args.first_id c.in_ok-state.state c.from-id.result c.new-ops.result
    c.requires.source c.requires.leads c.requires.ids c.in_ok-state.ensures c.from-id.ensures c.new-ops.ensures

pub moved-requires : goal.moved-requires
moved-requires c =
    let is = may (goal.at.moved-requires c).In-Some in
    record { state = is.state; target = is.target; grid = is.grid; whole = is.whole; named = is.named; may = is.allowed }

pub overflow_cast-name : goal.overflow_cast-name
overflow_cast-name c =
    let fits = next_fits c.args.width c.args.to.now c.args.from.now c.args.moves.now c.args.value c.args.first_id c.loop-m.state c.loop-m.left.now c.in-Some.m.now c.in-Some.later.now c.loop-m.operand c.loop-m.id c.loop-m.ops
    c.in-Some.ensures.cases.0 c.loop-m.invariant in
    omega (arith, fits)

pub push_instruction-requires-clause-rank : goal.push_instruction-requires-clause-rank
push_instruction-requires-clause-rank c =
    next_rank c.loop-m.state c.args.to.now c.in-Some.m.now c.in_ok-next.next (may (goal.at.push_instruction-requires-clause-rank c).In-Some) c.in_ok-next.ensures.value

pub push_instruction-requires-clause-named : goal.push_instruction-requires-clause-named
push_instruction-requires-clause-named c = (may (goal.at.push_instruction-requires-clause-named c).In-Some).named

pub loop-m-preserved : goal.loop-m-preserved
loop-m-preserved c =
    goes_on c.args.width c.args.to.now c.args.from.now c.args.moves.now c.args.value c.args.first_id c.loop-m.state c.loop-m.left.now c.in-Some.m.now c.in-Some.later.now c.loop-m.operand c.loop-m.id c.loop-m.ops
    c.requires.target c.in-Some.ensures.cases.0 c.loop-m.invariant c.in_ok-next.next c.push_instruction.new.ops c.in_ok-next.ensures.value c.in_ok-push_instruction.ensures

pub returns : goal.returns
returns c =
    lowered_all c.args.width c.args.to.now c.args.from.now c.args.moves.now c.args.value c.args.first_id c.loop-m.state c.loop-m.operand c.loop-m.id c.loop-m.ops c.loop-m.left.now (none_left c.loop-m.left.now c.in_default.ensures.cases) c.loop-m.invariant
