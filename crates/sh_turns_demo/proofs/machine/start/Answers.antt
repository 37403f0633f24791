use Rattle.std.proofs.Common.{◌∙◌, rules}
use Rattle.sh_turns_demo.proofs.Programs.{start_is}
use Rattle.sh_turns_demo.proofs.machine.start.Goals as goal

pub returns : goal.returns
returns c = c.loop-arguments.invariant ∙ start_is c.args.program.now c.loop-arguments.arguments-index (search rules)
