use Rattle.std.proofs.Common.{◌≡◌, ◌<◌, map, ap, sym, ◌∙◌, subst, length, get_or, arith}
use Rattle.std.proofs.lemmas.List.{length-map, get_or-map}
use Rattle.sh_base.specs.Cells.{IsCellOf}
use Rattle.sh_base.specs.declared.numbers.Cell.TheVariants.{Undef}
use Rattle.sh_collectives.proofs.CombiningLaws.{numbered, numbered_at, combined_more, width_at}
use Rattle.sh_collectives.proofs.combining.combined_cell.Goals as goal

pub reduce_cell-cell-requires-clause-second : goal.reduce_cell-cell-requires-clause-second
reduce_cell-cell-requires-clause-second c =
    let ts = map (λ t. t.now) c.args.ts.now in
    let long : c.loop-at.at < length ts = rw (length-map c.args.ts.now (λ t. t.now)) c.loop-at-test.true in
    let read : get_or ts c.loop-at.at c.index-ts-at.result.now ≡ c.index-ts-at.result.now =
    get_or-map (λ t. t.now) c.args.ts.now c.loop-at.at c.index-ts-at.result c.index-ts-at.result.now c.loop-at-test.true ∙ ap (λ r. r.now) (sym c.index-ts-at.is) in
    subst (λ w. IsCellOf w c.cell_numbered.result) (width_at c.args.width ts c.loop-at.at c.index-ts-at.result.now c.requires.widths long read) c.cell_numbered.ensures.within

pub loop-at-preserved : goal.loop-at-preserved
loop-at-preserved c =
    let ts = map (λ t. t.now) c.args.ts.now in
    let long : c.loop-at.at < length ts = rw (length-map c.args.ts.now (λ t. t.now)) c.loop-at-test.true in
    let read : get_or ts c.loop-at.at c.index-ts-at.result.now ≡ c.index-ts-at.result.now =
    get_or-map (λ t. t.now) c.args.ts.now c.loop-at.at c.index-ts-at.result c.index-ts-at.result.now c.loop-at-test.true ∙ ap (λ r. r.now) (sym c.index-ts-at.is) in
    record {
      value =
          c.reduce_cell-cell.ensures.value
          ∙ combined_more c.args.kind c.args.width (numbered c.args.number ts) c.loop-at.at c.cell_numbered.result Undef c.loop-at.cell c.loop-at.invariant.some
          (rw (length-map ts (λ t. get_or t.cells c.args.number Undef)) long)
          (numbered_at c.args.number ts c.loop-at.at c.index-ts-at.result.now c.cell_numbered.result long read c.cell_numbered.ensures.value) c.loop-at.invariant.value;
      within = c.reduce_cell-cell.ensures.within;
      some = omega arith;
    }
