use Rattle.std.proofs.Common.{ap, sym, ◌∙◌}
use Rattle.sh_iface.specs.LoopNest.{Loop}
use Rattle.sh_iface_linalg.specs.Ifaces.{structured_in}
use Rattle.sh_iface_linalg.proofs.NestLaws.{loop_is}
use Rattle.sh_iface_linalg.proofs.iface.LinalgIfaceHasLoops.reduction_kind.Goals as goal

pub returns : goal.returns
returns c = c.kind_along.ensures ∙ ap (λ (loop : Loop). loop.kind) (sym (loop_is (structured_in c.args.self.now) c.args.l c.requires))
