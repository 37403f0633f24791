use Rattle.std.proofs.Common.{◌≡◌, map, ap, ◌∙◌, sym, take}
use Rattle.std.proofs.lemmas.Result.{IfOk-weaker}
use Rattle.sh_base.specs.Shape.{cell_count}
use Rattle.sh_tensor.specs.Runs.{joined_rows}
use Rattle.sh_tensor.specs.Tensor.{concat_of}
use Rattle.sh_tensor.proofs.JoinLaws.{join_is}
use Rattle.sh_collectives.proofs.joining.joined_cells.Goals as goal

pub returns-then-count_of-eq0 : goal.returns-then-count_of-eq0
returns-then-count_of-eq0 c =
    let join = join_is c.args.axis (map (λ t. t.now) c.args.ts.now) c.requires.alike c.requires.whole in
    c.new.ensures.items ∙ join.empty (sym (ap cell_count c.requires.shape) ∙ sym c.count_of.ensures ∙ c.if-count_of-eq0.true)

pub rows_before-requires-clause-axis : goal.rows_before-requires-clause-axis
rows_before-requires-clause-axis c =
    let join = join_is c.args.axis (map (λ t. t.now) c.args.ts.now) c.requires.alike c.requires.whole in
    rw c.requires.shape join.ranked

pub returns : goal.returns
returns c =
    let ts = map (λ t. t.now) c.args.ts.now in
    let join = join_is c.args.axis ts c.requires.alike c.requires.whole in
    let rows : joined_rows ts c.rows_before.result ≡ (concat_of ts c.args.axis).cells =
    ap (joined_rows ts) (c.rows_before.ensures ∙ ap (λ s. cell_count (take c.args.axis s)) c.requires.shape) ∙ join.rows in
    IfOk-weaker c.joined_by_rows.result _ _ (λ out h. h ∙ rows) c.joined_by_rows.ensures
