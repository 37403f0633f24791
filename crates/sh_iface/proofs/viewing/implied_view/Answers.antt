use Rattle.std.proofs.Common.{◌≡◌, Some, None, subst, sym, ◌∙◌}
use Rattle.sh_sharding.specs.Views.{IsUnsplitView}
use Rattle.sh_iface.specs.LoopNest.{IsPlainFollow, dim_at, value_at}
use Rattle.sh_iface.specs.ScaledViews.{IsScaledView}
use Rattle.sh_iface.specs.Splits.{factor_of, split_at}
use Rattle.sh_iface.proofs.ImpliedViewLaws.{follows_none, follows_split, follows_unsplit}
use Rattle.sh_iface.proofs.viewing.implied_view.Goals as goal

pub returns-in_default : goal.returns-in_default
returns-in_default g c =
    let nest = (g.O.HasLoops.meaning c.args.op.now).nest in
    follows_none nest c.args.o.now (value_at nest c.args.v) c.args.dim c.unsplit_view.result (sym c.follows.ensures ∙ c.in_default.is)
    (subst (IsUnsplitView c.unsplit_view.result) c.extent-extent.ensures c.unsplit_view.ensures)

pub returns-in-Some-split_of : goal.returns-in-Some-split_of
returns-in-Some-split_of g c =
    let nest = (g.O.HasLoops.meaning c.args.op.now).nest in
    let value = value_at nest c.args.v in
    let f = c.in-Some.follow in
    let split = c.in-Some-split_of.split.now in
    let e : (dim_at value c.args.dim).follow ≡ Some f = sym c.follows.ensures ∙ c.in-Some.is in
    let found : split_at c.args.o.now f.loop_index ≡ Some split = sym c.in-Some-split_of.ensures in
    follows_split nest c.args.o.now value c.args.dim c.divided_view.result f split e found (subst IsPlainFollow e c.requires.plain)
    (subst (λ n. IsScaledView c.divided_view.result n split (factor_of f.how)) c.extent-extent.ensures c.divided_view.ensures)

pub returns-in-None : goal.returns-in-None
returns-in-None g c =
    let nest = (g.O.HasLoops.meaning c.args.op.now).nest in
    let value = value_at nest c.args.v in
    let f = c.in-Some.follow in
    let e : (dim_at value c.args.dim).follow ≡ Some f = sym c.follows.ensures ∙ c.in-Some.is in
    let none : split_at c.args.o.now f.loop_index ≡ None = sym c.in-None.ensures in
    follows_unsplit nest c.args.o.now value c.args.dim c.unsplit_view-in-None.result f e none
    (subst (IsUnsplitView c.unsplit_view-in-None.result) c.extent-extent.ensures c.unsplit_view-in-None.ensures)
