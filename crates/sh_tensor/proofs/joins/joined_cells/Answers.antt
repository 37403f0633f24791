use Rattle.std.proofs.Common.{◌≡◌, ap, ◌∙◌, sym, take}
use Rattle.std.proofs.lemmas.Result.{IfOk-weaker}
use Rattle.sh_base.specs.Shape.{cell_count}
use Rattle.sh_tensor.specs.Runs.{joined_rows}
use Rattle.sh_tensor.specs.Tensor.{concat_of}
use Rattle.sh_tensor.proofs.JoinLaws.{join_is}
use Rattle.sh_tensor.proofs.joins.joined_cells.Goals as goal

pub returns-then-is_empty : goal.returns-then-is_empty
returns-then-is_empty c =
    let join = join_is c.args.axis c.args.parts.now c.requires.alike c.requires.whole in
    let none : cell_count c.args.shape.now ≡ 0 = c.is_empty.ensures.0 c.if-is_empty.true in
    c.new.ensures.items ∙ join.empty (sym (ap cell_count c.requires.shape) ∙ none)

pub rows_before-requires-clause-axis : goal.rows_before-requires-clause-axis
rows_before-requires-clause-axis c =
    let join = join_is c.args.axis c.args.parts.now c.requires.alike c.requires.whole in
    rw c.requires.shape join.ranked

pub returns : goal.returns
returns c =
    let join = join_is c.args.axis c.args.parts.now c.requires.alike c.requires.whole in
    let rows : joined_rows c.args.parts.now c.rows_before.result ≡ (concat_of c.args.parts.now c.args.axis).cells =
    ap (joined_rows c.args.parts.now) (c.rows_before.ensures.value ∙ ap (λ s. cell_count (take c.args.axis s)) c.requires.shape) ∙ join.rows in
    IfOk-weaker c.rows_joined.result _ _ (λ out h. h ∙ rows) c.rows_joined.ensures
