use Rattle.std.proofs.Common.{◌≡◌, ◌++◌, map, ap, ◌∙◌, sym, arith}
use Rattle.std.specs.List.{flat_map, range_with_len}
use Rattle.sh_tensor.specs.Runs.{joined_row, joined_rows}
use Rattle.sh_tensor.proofs.RunLaws.{rows-more}
use Rattle.sh_collectives.proofs.joining.joined_by_rows.Goals as goal

pub loop-at-preserved : goal.loop-at-preserved
loop-at-preserved c =
    let ts = map (λ t. t.now) c.args.ts.now in
    c.in_ok-push_row.ensures
    ∙ ap (λ z. z ++ joined_row ts c.args.rows c.loop-at.at) c.loop-at.invariant
    ∙ sym (rows-more (joined_row ts c.args.rows) c.loop-at.at)

pub returns : goal.returns
unfolding joined_rows
returns c =
    let whole : c.loop-at.at ≡ c.args.rows = omega arith in
    c.loop-at.invariant ∙ ap (λ k. flat_map (joined_row (map (λ t. t.now) c.args.ts.now) c.args.rows) (range_with_len 0 k)) whole
