use Rattle.std.proofs.Common.{◌≡◌, ◌<◌, ◌+◌, ◌-◌, ◌*◌, ◌/◌, ◌++◌, map, ap, sym, ◌∙◌, take, drop, length, get_or, arith}
use Rattle.std.proofs.lemmas.List.{length-map, get_or-map}
use Rattle.sh_tensor.proofs.JoinLaws.{push_step, joined_row-none}
use Rattle.sh_collectives.proofs.joining.push_row.Goals as goal

pub loop-t-init : goal.loop-t-init
loop-t-init c = joined_row-none (map (λ t. t.now) c.args.ts.now) c.args.rows c.args.at c.args.out.now.items

pub loop-t-preserved : goal.loop-t-preserved
loop-t-preserved c =
    let ts = map (λ t. t.now) c.args.ts.now in
    let long : c.loop-t.t-index < length ts = rw (length-map c.args.ts.now (λ t. t.now)) c.loop-t-test.true in
    let read : get_or ts c.loop-t.t-index c.t-item.result.now ≡ c.t-item.result.now =
    get_or-map (λ t. t.now) c.args.ts.now c.loop-t.t-index c.t-item.result c.t-item.result.now c.loop-t-test.true ∙ ap (λ r. r.now) (sym c.t-item.is) in
    let row = length c.cells-cells.result.now / c.args.rows in
    let size : c.args.at * row + row - c.args.at * row ≡ row = omega arith in
    push_step ts c.loop-t.t-index c.args.rows c.args.at c.t-item.result.now c.args.out.now.items c.loop-t.out.items c.extend_from_slice.new.self.items c.cells-cells.result.now
    long (sym read) c.cells-cells.ensures.value c.loop-t.invariant
    (c.in_ok-extend_from_slice.ensures.items ∙ ap (λ k. c.loop-t.out.items ++ take k (drop (c.args.at * row) c.cells-cells.result.now)) size)
