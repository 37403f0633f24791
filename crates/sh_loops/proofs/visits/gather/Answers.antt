use Rattle.std.proofs.Common.{◌≡◌, ◌++◌, ◌<◌, ◌∷◌, [], length, map, take, ap₂, sym, ◌∙◌, arith}
use Rattle.std.proofs.lemmas.List.{length-map, take_all, take_more}
use Rattle.sh_base.specs.declared.numbers.Cell.TheVariants.{Undef}
use Rattle.sh_loops.specs.Rows.{row_cells}
use Rattle.sh_loops.proofs.VisitLaws.{length-row_cells}
use Rattle.sh_loops.proofs.visits.gather.Goals as goal

pub loop-at-preserved : goal.loop-at-preserved
loop-at-preserved c =
    let cells = row_cells (map (λ t. t.now) c.args.ins.now) c.args.row.now.firsts.items c.args.row.now.strides.items c.args.k in
    let long = length-row_cells (map (λ t. t.now) c.args.ins.now) c.args.row.now.firsts.items c.args.row.now.strides.items c.args.k c.requires in
    let same = length-map c.args.ins.now (λ t. t.now) in
    let below : c.loop-at.at < length cells = omega (arith, long, same, c.loop-at-test.true) in
    c.in_ok-push.ensures.items
    ∙ ap₂ (λ a b. a ++ b ∷ []) c.loop-at.invariant c.cell_along.ensures
    ∙ sym (take_more cells c.loop-at.at Undef below)

pub returns : goal.returns
returns c =
    let cells = row_cells (map (λ t. t.now) c.args.ins.now) c.args.row.now.firsts.items c.args.row.now.strides.items c.args.k in
    let long = length-row_cells (map (λ t. t.now) c.args.ins.now) c.args.row.now.firsts.items c.args.row.now.strides.items c.args.k c.requires in
    let same = length-map c.args.ins.now (λ t. t.now) in
    c.loop-at.invariant ∙ take_all c.loop-at.at cells (omega (arith, long, same, c.loop-at-test.false))
