use Rattle.std.proofs.Common.{◌≡◌, ◌++◌, ap, ◌∙◌, sym, arith}
use Rattle.std.specs.List.{flat_map, range_with_len}
use Rattle.sh_tensor.specs.Runs.{joined_row, joined_rows}
use Rattle.sh_tensor.proofs.RunLaws.{rows-more}
use Rattle.sh_tensor.proofs.joins.rows_joined.Goals as goal

pub loop-at-preserved : goal.loop-at-preserved
loop-at-preserved c =
    c.in_ok-push_row.ensures
    ∙ ap (λ z. z ++ joined_row c.args.parts.now c.args.rows c.loop-at.at) c.loop-at.invariant
    ∙ sym (rows-more (joined_row c.args.parts.now c.args.rows) c.loop-at.at)

pub returns : goal.returns
unfolding joined_rows
returns c =
    let whole : c.loop-at.at ≡ c.args.rows = omega arith in
    c.loop-at.invariant ∙ ap (λ k. flat_map (joined_row c.args.parts.now c.args.rows) (range_with_len 0 k)) whole
