use Rattle.std.proofs.Common.{sym, ◌∙◌}
use Rattle.sh_iface_linalg.specs.Ifaces.{structured_in}
use Rattle.sh_iface_linalg.proofs.NestLaws.{dims_counted}
use Rattle.sh_iface_linalg.proofs.iface.LinalgIfaceHasLoops.rank.Goals as goal

pub returns : goal.returns
returns c = c.rank_at.ensures ∙ sym (dims_counted (structured_in c.args.self.now) c.args.v)
