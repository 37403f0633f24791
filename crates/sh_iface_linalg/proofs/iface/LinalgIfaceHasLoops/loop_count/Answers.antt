use Rattle.std.proofs.Common.{sym, ◌∙◌}
use Rattle.sh_iface_linalg.specs.Ifaces.{structured_in}
use Rattle.sh_iface_linalg.proofs.NestLaws.{nest_loops_counted}
use Rattle.sh_iface_linalg.proofs.iface.LinalgIfaceHasLoops.loop_count.Goals as goal

pub returns : goal.returns
returns c = c.count_loops.ensures ∙ sym (nest_loops_counted (structured_in c.args.self.now))
