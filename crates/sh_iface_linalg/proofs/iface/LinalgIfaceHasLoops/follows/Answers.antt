use Rattle.std.proofs.Common.{ℕ, Some, ap, sym, ◌∙◌}
use Rattle.sh_iface.specs.declared.options.Follow.{Follow}
use Rattle.sh_iface.specs.declared.options.How.TheVariants.{Same}
use Rattle.sh_iface.specs.LoopNest.{NestDim}
use Rattle.std.specs.Prelude.{Option}
use Rattle.sh_iface_linalg.specs.Ifaces.{structured_in}
use Rattle.sh_iface_linalg.proofs.NestLaws.{dim_below, dim_is}
use Rattle.sh_iface_linalg.proofs.iface.LinalgIfaceHasLoops.follows.Goals as goal

pub loop_at-requires : goal.loop_at-requires
loop_at-requires c = dim_below (structured_in c.args.self.now) c.args.v c.args.dim c.requires.dim

pub returns : goal.returns
returns c =
    let by_loop : ℕ → Option Follow = λ l. Some (record { loop_index = l; how = Same }) in
    ap by_loop c.loop_at.ensures
    ∙ ap (λ (d : NestDim). d.follow) (sym (dim_is (structured_in c.args.self.now) c.args.v c.args.dim (dim_below (structured_in c.args.self.now) c.args.v c.args.dim c.requires.dim)))
