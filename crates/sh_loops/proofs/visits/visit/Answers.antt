use Rattle.std.proofs.Common.{◌≡◌, ◌+◌, ◌*◌, ◌<◌, length, get_or, map, ap, ap₂, sym, subst, ◌∙◌, refl, arith}
use Rattle.std.specs.Prelude.{IfSome}
use Rattle.std.proofs.lemmas.List.{get_or_default}
use Rattle.sh_base.specs.Cells.{IsCellOf}
use Rattle.sh_base.specs.Shape.{unflat_of}
use Rattle.sh_base.specs.declared.numbers.Cell.TheVariants.{Undef}
use Rattle.sh_loops.specs.Nests.{next_by}
use Rattle.sh_loops.specs.Rows.{row_cells, with_last}
use Rattle.sh_loops.proofs.RowLaws.{with_last_again}
use Rattle.sh_loops.proofs.VisitLaws.{folded_counted, folded_fitting, row_stuck, row_visited}
use Rattle.sh_loops.proofs.visits.visit.Goals as goal

pub index-requires : goal.index-requires
index-requires c =
    let below : (c.args.row.now.place + c.loop-k.k * c.args.row.now.stride) < length c.loop-k.cells.items =
    subst (λ n. (c.args.row.now.place + c.loop-k.k * c.args.row.now.stride) < n) (sym (folded_counted c.args.nest.now c.args.extents.now (map (λ t. t.now) c.args.ins.now) c.args.outs.now (c.args.row.now.start + c.loop-k.k) c.loop-k.cells.items c.loop-k.invariant.folded)) (c.requires.row.below c.loop-k.k c.loop-k-test.true) in
    omega (arith, below, c.loop-k.cells.ok.0)

pub next_along-requires-clause-so_far : goal.next_along-requires-clause-so_far
next_along-requires-clause-so_far c =
    let below : (c.args.row.now.place + c.loop-k.k * c.args.row.now.stride) < length c.loop-k.cells.items =
    subst (λ n. (c.args.row.now.place + c.loop-k.k * c.args.row.now.stride) < n) (sym (folded_counted c.args.nest.now c.args.extents.now (map (λ t. t.now) c.args.ins.now) c.args.outs.now (c.args.row.now.start + c.loop-k.k) c.loop-k.cells.items c.loop-k.invariant.folded)) (c.requires.row.below c.loop-k.k c.loop-k-test.true) in
    let read : c.index.result.now ≡ get_or c.loop-k.cells.items (c.args.row.now.place + c.loop-k.k * c.args.row.now.stride) Undef = c.index.ensures ∙ get_or_default c.loop-k.cells.items (c.args.row.now.place + c.loop-k.k * c.args.row.now.stride) c.index.result.now Undef below in
    subst (λ w. IsCellOf w c.index.result.now) (sym c.width-width.ensures)
    (subst (IsCellOf c.args.outs.now.width) (sym read) (folded_fitting c.args.nest.now c.args.extents.now (map (λ t. t.now) c.args.ins.now) c.args.outs.now (c.args.row.now.start + c.loop-k.k) c.loop-k.cells.items c.loop-k.invariant.folded (c.args.row.now.place + c.loop-k.k * c.args.row.now.stride) Undef below))

pub index_mut-requires : goal.index_mut-requires
index_mut-requires c =
    let below : (c.args.row.now.place + c.loop-k.k * c.args.row.now.stride) < length c.loop-k.cells.items =
    subst (λ n. (c.args.row.now.place + c.loop-k.k * c.args.row.now.stride) < n) (sym (folded_counted c.args.nest.now c.args.extents.now (map (λ t. t.now) c.args.ins.now) c.args.outs.now (c.args.row.now.start + c.loop-k.k) c.loop-k.cells.items c.loop-k.invariant.folded)) (c.requires.row.below c.loop-k.k c.loop-k-test.true) in
    omega (arith, below, c.loop-k.cells.ok.0)

pub returns-in-None : goal.returns-in-None
returns-in-None c =
    let below : (c.args.row.now.place + c.loop-k.k * c.args.row.now.stride) < length c.loop-k.cells.items =
    subst (λ n. (c.args.row.now.place + c.loop-k.k * c.args.row.now.stride) < n) (sym (folded_counted c.args.nest.now c.args.extents.now (map (λ t. t.now) c.args.ins.now) c.args.outs.now (c.args.row.now.start + c.loop-k.k) c.loop-k.cells.items c.loop-k.invariant.folded)) (c.requires.row.below c.loop-k.k c.loop-k-test.true) in
    let read : c.index.result.now ≡ get_or c.loop-k.cells.items (c.args.row.now.place + c.loop-k.k * c.args.row.now.stride) Undef = c.index.ensures ∙ get_or_default c.loop-k.cells.items (c.args.row.now.place + c.loop-k.k * c.args.row.now.stride) c.index.result.now Undef below in
    let point : c.as_slice.result.now ≡ unflat_of c.args.extents.now (c.args.row.now.start + c.loop-k.k) =
    c.as_slice.ensures.value ∙ c.set_last.ensures ∙ c.loop-k.invariant.point c.loop-k.k ∙ sym (c.requires.row.points c.loop-k.k c.loop-k-test.true) in
    row_stuck c.args.nest.now c.args.extents.now (map (λ t. t.now) c.args.ins.now) c.args.outs.now c.args.row.now c.loop-k.k c.loop-k.cells.items (c.args.row.now.place + c.loop-k.k * c.args.row.now.stride) c.requires.row c.loop-k-test.true c.loop-k.invariant.folded refl c.requires.counted
    (sym c.in-None.is ∙ c.in_ok-cell.ensures.value
    ∙ ap₂ (λ w p. next_by c.args.nest.now.step w p (row_cells (map (λ t. t.now) c.args.ins.now) c.args.row.now.firsts.items c.args.row.now.strides.items c.loop-k.k) c.index.result.now) c.width-width.ensures point
    ∙ ap (next_by c.args.nest.now.step c.args.outs.now.width (unflat_of c.args.extents.now (c.args.row.now.start + c.loop-k.k)) (row_cells (map (λ t. t.now) c.args.ins.now) c.args.row.now.firsts.items c.args.row.now.strides.items c.loop-k.k)) read)

pub loop-k-preserved : goal.loop-k-preserved
loop-k-preserved c =
    let below : (c.args.row.now.place + c.loop-k.k * c.args.row.now.stride) < length c.loop-k.cells.items =
    subst (λ n. (c.args.row.now.place + c.loop-k.k * c.args.row.now.stride) < n) (sym (folded_counted c.args.nest.now c.args.extents.now (map (λ t. t.now) c.args.ins.now) c.args.outs.now (c.args.row.now.start + c.loop-k.k) c.loop-k.cells.items c.loop-k.invariant.folded)) (c.requires.row.below c.loop-k.k c.loop-k-test.true) in
    let read : c.index.result.now ≡ get_or c.loop-k.cells.items (c.args.row.now.place + c.loop-k.k * c.args.row.now.stride) Undef = c.index.ensures ∙ get_or_default c.loop-k.cells.items (c.args.row.now.place + c.loop-k.k * c.args.row.now.stride) c.index.result.now Undef below in
    let point : c.as_slice.result.now ≡ unflat_of c.args.extents.now (c.args.row.now.start + c.loop-k.k) =
    c.as_slice.ensures.value ∙ c.set_last.ensures ∙ c.loop-k.invariant.point c.loop-k.k ∙ sym (c.requires.row.points c.loop-k.k c.loop-k-test.true) in
    record {
      folded =
          row_visited c.args.nest.now c.args.extents.now (map (λ t. t.now) c.args.ins.now) c.args.outs.now c.args.row.now c.loop-k.k c.loop-k.cells.items _ (c.args.row.now.place + c.loop-k.k * c.args.row.now.stride) c.in-Some.cell c.requires.row c.loop-k-test.true c.loop-k.invariant.folded refl
          (sym c.in-Some.is ∙ c.in_ok-cell.ensures.value
          ∙ ap₂ (λ w p. next_by c.args.nest.now.step w p (row_cells (map (λ t. t.now) c.args.ins.now) c.args.row.now.firsts.items c.args.row.now.strides.items c.loop-k.k) c.index.result.now) c.width-width.ensures point
          ∙ ap (next_by c.args.nest.now.step c.args.outs.now.width (unflat_of c.args.extents.now (c.args.row.now.start + c.loop-k.k)) (row_cells (map (λ t. t.now) c.args.ins.now) c.args.row.now.firsts.items c.args.row.now.strides.items c.loop-k.k)) read)
          (subst (λ w. IsCellOf w c.in-Some.cell) c.width-width.ensures (subst (λ o. IfSome o (IsCellOf c.width-width.result)) c.in-Some.is c.in_ok-cell.ensures.within)) refl;
      point = λ z. ap (λ q. with_last q z) c.set_last.ensures ∙ with_last_again c.loop-k.coordinates.items c.loop-k.k z ∙ c.loop-k.invariant.point z;
    }
