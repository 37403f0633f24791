use Rattle.std.proofs.Common.{◌≡◌, ◌<◌, ◌+◌, ◌*◌, length, get_or, map, ap, ap₂, sym, subst, ◌∙◌, arith}
use Rattle.std.proofs.lemmas.List.{get_or-map, length-map}
use Rattle.sh_base.specs.declared.numbers.Cell.TheVariants.{Undef}
use Rattle.sh_tensor.specs.Tensor.{TensorValue}
use Rattle.sh_loops.proofs.VisitLaws.{cell_along_at}
use Rattle.sh_loops.proofs.visits.cell_along.Goals as goal

pub bounds-firsts-at : goal.bounds-firsts-at
bounds-firsts-at c =
    let ts = map (λ t. t.now) c.args.ins.now in
    let read = get_or-map (λ t. t.now) c.args.ins.now c.args.at c.index-ins-at.result c.index-ins-at.result.now c.requires.input ∙ ap (λ r. r.now) (sym c.index-ins-at.is) in
    let long = length-map c.args.ins.now (λ t. t.now) in
    let along = cell_along_at ts c.args.row.now.firsts.items c.args.row.now.strides.items c.args.k c.args.at c.index-ins-at.result.now 0 0 c.requires.there (omega (arith, long, c.requires.input)) in
    let below : get_or c.as_slice-firsts.result.now c.args.at 0 + c.args.k * get_or c.as_slice-strides.result.now c.args.at 0 < length c.index-ins-at.result.now.cells =
    subst (λ n. n < length c.index-ins-at.result.now.cells) (ap₂ (λ fs ds. get_or fs c.args.at 0 + c.args.k * get_or ds c.args.at 0) (sym c.as_slice-firsts.ensures.value) (sym c.as_slice-strides.ensures.value))
    (subst (λ (t : TensorValue). get_or c.args.row.now.firsts.items c.args.at 0 + c.args.k * get_or c.args.row.now.strides.items c.args.at 0 < length t.cells) read along.below) in
    subst (λ fs. c.args.at < length fs) (sym c.as_slice-firsts.ensures.value) along.first_there

pub bounds-strides-at : goal.bounds-strides-at
bounds-strides-at c =
    let ts = map (λ t. t.now) c.args.ins.now in
    let read = get_or-map (λ t. t.now) c.args.ins.now c.args.at c.index-ins-at.result c.index-ins-at.result.now c.requires.input ∙ ap (λ r. r.now) (sym c.index-ins-at.is) in
    let long = length-map c.args.ins.now (λ t. t.now) in
    let along = cell_along_at ts c.args.row.now.firsts.items c.args.row.now.strides.items c.args.k c.args.at c.index-ins-at.result.now 0 0 c.requires.there (omega (arith, long, c.requires.input)) in
    let below : get_or c.as_slice-firsts.result.now c.args.at 0 + c.args.k * get_or c.as_slice-strides.result.now c.args.at 0 < length c.index-ins-at.result.now.cells =
    subst (λ n. n < length c.index-ins-at.result.now.cells) (ap₂ (λ fs ds. get_or fs c.args.at 0 + c.args.k * get_or ds c.args.at 0) (sym c.as_slice-firsts.ensures.value) (sym c.as_slice-strides.ensures.value))
    (subst (λ (t : TensorValue). get_or c.args.row.now.firsts.items c.args.at 0 + c.args.k * get_or c.args.row.now.strides.items c.args.at 0 < length t.cells) read along.below) in
    subst (λ ds. c.args.at < length ds) (sym c.as_slice-strides.ensures.value) along.stride_there

pub overflow_mul-k : goal.overflow_mul-k
overflow_mul-k c =
    let ts = map (λ t. t.now) c.args.ins.now in
    let read = get_or-map (λ t. t.now) c.args.ins.now c.args.at c.index-ins-at.result c.index-ins-at.result.now c.requires.input ∙ ap (λ r. r.now) (sym c.index-ins-at.is) in
    let long = length-map c.args.ins.now (λ t. t.now) in
    let along = cell_along_at ts c.args.row.now.firsts.items c.args.row.now.strides.items c.args.k c.args.at c.index-ins-at.result.now 0 0 c.requires.there (omega (arith, long, c.requires.input)) in
    let below : get_or c.as_slice-firsts.result.now c.args.at 0 + c.args.k * get_or c.as_slice-strides.result.now c.args.at 0 < length c.index-ins-at.result.now.cells =
    subst (λ n. n < length c.index-ins-at.result.now.cells) (ap₂ (λ fs ds. get_or fs c.args.at 0 + c.args.k * get_or ds c.args.at 0) (sym c.as_slice-firsts.ensures.value) (sym c.as_slice-strides.ensures.value))
    (subst (λ (t : TensorValue). get_or c.args.row.now.firsts.items c.args.at 0 + c.args.k * get_or c.args.row.now.strides.items c.args.at 0 < length t.cells) read along.below) in
    omega (arith, below, c.shape-whole.ensures.whole.counted, c.shape-whole.ensures.small)

pub overflow_add-firsts : goal.overflow_add-firsts
overflow_add-firsts c =
    let ts = map (λ t. t.now) c.args.ins.now in
    let read = get_or-map (λ t. t.now) c.args.ins.now c.args.at c.index-ins-at.result c.index-ins-at.result.now c.requires.input ∙ ap (λ r. r.now) (sym c.index-ins-at.is) in
    let long = length-map c.args.ins.now (λ t. t.now) in
    let along = cell_along_at ts c.args.row.now.firsts.items c.args.row.now.strides.items c.args.k c.args.at c.index-ins-at.result.now 0 0 c.requires.there (omega (arith, long, c.requires.input)) in
    let below : get_or c.as_slice-firsts.result.now c.args.at 0 + c.args.k * get_or c.as_slice-strides.result.now c.args.at 0 < length c.index-ins-at.result.now.cells =
    subst (λ n. n < length c.index-ins-at.result.now.cells) (ap₂ (λ fs ds. get_or fs c.args.at 0 + c.args.k * get_or ds c.args.at 0) (sym c.as_slice-firsts.ensures.value) (sym c.as_slice-strides.ensures.value))
    (subst (λ (t : TensorValue). get_or c.args.row.now.firsts.items c.args.at 0 + c.args.k * get_or c.args.row.now.strides.items c.args.at 0 < length t.cells) read along.below) in
    omega (arith, below, c.shape-whole.ensures.whole.counted, c.shape-whole.ensures.small)

pub cell_of-requires : goal.cell_of-requires
cell_of-requires c =
    let ts = map (λ t. t.now) c.args.ins.now in
    let read = get_or-map (λ t. t.now) c.args.ins.now c.args.at c.index-ins-at-2.result c.index-ins-at-2.result.now c.requires.input ∙ ap (λ r. r.now) (sym c.index-ins-at-2.is) in
    let long = length-map c.args.ins.now (λ t. t.now) in
    let along = cell_along_at ts c.args.row.now.firsts.items c.args.row.now.strides.items c.args.k c.args.at c.index-ins-at-2.result.now 0 0 c.requires.there (omega (arith, long, c.requires.input)) in
    let below : get_or c.as_slice-firsts.result.now c.args.at 0 + c.args.k * get_or c.as_slice-strides.result.now c.args.at 0 < length c.index-ins-at-2.result.now.cells =
    subst (λ n. n < length c.index-ins-at-2.result.now.cells) (ap₂ (λ fs ds. get_or fs c.args.at 0 + c.args.k * get_or ds c.args.at 0) (sym c.as_slice-firsts.ensures.value) (sym c.as_slice-strides.ensures.value))
    (subst (λ (t : TensorValue). get_or c.args.row.now.firsts.items c.args.at 0 + c.args.k * get_or c.args.row.now.strides.items c.args.at 0 < length t.cells) read along.below) in
    below

pub returns : goal.returns
returns c =
    let ts = map (λ t. t.now) c.args.ins.now in
    let read = get_or-map (λ t. t.now) c.args.ins.now c.args.at c.index-ins-at-2.result c.index-ins-at-2.result.now c.requires.input ∙ ap (λ r. r.now) (sym c.index-ins-at-2.is) in
    let long = length-map c.args.ins.now (λ t. t.now) in
    let along = cell_along_at ts c.args.row.now.firsts.items c.args.row.now.strides.items c.args.k c.args.at c.index-ins-at-2.result.now 0 0 c.requires.there (omega (arith, long, c.requires.input)) in
    let below : get_or c.as_slice-firsts.result.now c.args.at 0 + c.args.k * get_or c.as_slice-strides.result.now c.args.at 0 < length c.index-ins-at-2.result.now.cells =
    subst (λ n. n < length c.index-ins-at-2.result.now.cells) (ap₂ (λ fs ds. get_or fs c.args.at 0 + c.args.k * get_or ds c.args.at 0) (sym c.as_slice-firsts.ensures.value) (sym c.as_slice-strides.ensures.value))
    (subst (λ (t : TensorValue). get_or c.args.row.now.firsts.items c.args.at 0 + c.args.k * get_or c.args.row.now.strides.items c.args.at 0 < length t.cells) read along.below) in
    c.cell_of.ensures
    ∙ ap₂ (λ fs ds. get_or c.index-ins-at-2.result.now.cells (get_or fs c.args.at 0 + c.args.k * get_or ds c.args.at 0) Undef) c.as_slice-firsts.ensures.value c.as_slice-strides.ensures.value
    ∙ ap (λ (t : TensorValue). get_or t.cells (get_or c.args.row.now.firsts.items c.args.at 0 + c.args.k * get_or c.args.row.now.strides.items c.args.at 0) Undef) (sym read)
    ∙ sym along.value
