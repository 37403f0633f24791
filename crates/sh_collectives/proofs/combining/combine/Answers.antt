use Rattle.std.proofs.Common.{map, ap, ◌∙◌, length}
use Rattle.std.proofs.lemmas.List.FromFn.{length-map-range_with_len}
use Rattle.sh_sem.specs.Collected.{combined}
use Rattle.sh_collectives.proofs.CombiningLaws.{numbered, combined_cells_are}
use Rattle.sh_collectives.proofs.combining.combine.Goals as goal

pub build-requires-clause-counted : goal.build-requires-clause-counted
build-requires-clause-counted c =
    ap length c.in_ok-cells.ensures.value
    ∙ length-map-range_with_len (λ k. combined c.args.kind c.args.width (numbered k (map (λ t. t.now) c.args.ts.now))) 0 c.count_of.result
    ∙ c.count_of.ensures

pub returns : goal.returns
returns c =
    c.build.ensures
    ∙ ap (λ cells. record { shape = c.args.shape; width = c.args.width; cells = cells })
    (combined_cells_are c.args.kind c.args.width c.args.shape (map (λ t. t.now) c.args.ts.now) c.count_of.result c.in_ok-cells.cells.items c.requires.common c.requires.operands.widths
    c.count_of.ensures c.in_ok-cells.ensures.value)
