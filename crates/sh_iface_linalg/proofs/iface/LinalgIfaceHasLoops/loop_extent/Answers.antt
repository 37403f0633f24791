use Rattle.std.proofs.Common.{ap, arith, sym, ◌∙◌}
use Rattle.sh_iface.specs.LoopNest.{Loop}
use Rattle.sh_iface_linalg.specs.Ifaces.{structured_in}
use Rattle.sh_iface_linalg.proofs.NestLaws.{loop_is, nest_loops_counted}
use Rattle.sh_iface_linalg.proofs.iface.LinalgIfaceHasLoops.loop_extent.Goals as goal

pub extent_along-requires : goal.extent_along-requires
extent_along-requires c =
    let n = nest_loops_counted (structured_in c.args.self.now) in
    let below = c.requires in
    omega (arith, n, below)

pub returns : goal.returns
returns c = c.extent_along.ensures ∙ ap (λ (loop : Loop). loop.extent) (sym (loop_is (structured_in c.args.self.now) c.args.l c.requires))
