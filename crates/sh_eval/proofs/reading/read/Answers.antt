use Rattle.std.proofs.Common.{◌≤◌, List, ap, ◌∙◌, length, arith}
use Rattle.sh_base.specs.Shape.{max_cells}
use Rattle.sh_base.specs.declared.numbers.Cell.{Cell}
use Rattle.sh_eval.proofs.CutLaws.{read_exact, read_of_cut}
use Rattle.std.proofs.Common.{get_or}
use Rattle.sh_base.specs.declared.numbers.Cell.TheVariants.{Undef}
use Rattle.sh_base.specs.Shape.{flat_of}
use Rattle.sh_eval.specs.Cuts.{cut}
use Rattle.sh_tensor.specs.Tensor.{at}
use Rattle.sh_eval.proofs.reading.read.Goals as goal

pub returns-clause-value : goal.returns-clause-value
unfolding at
returns-clause-value c =
    let few : length c.args.t.now.cells ≤ max_cells = let same = ap length c.cells_of.ensures.value in omega (arith, same, c.cells_of.ensures.counted, c.shape.ensures.small) in
    read_exact c.args.t.now.cells c.args.t.now.shape c.args.index.now c.number_of-number.result c.cell_numbered.result few
    (c.number_of-number.ensures ∙ ap (λ s. cut (flat_of s c.args.index.now)) (c.extents.ensures.value ∙ c.shape.ensures.value))
    (c.cell_numbered.ensures ∙ ap (λ (cs : List Cell). get_or cs c.number_of-number.result Undef) c.cells_of.ensures.value)

pub returns-clause-cut : goal.returns-clause-cut
unfolding at
returns-clause-cut c =
    λ i is.
    let few : length c.args.t.now.cells ≤ max_cells = let same = ap length c.cells_of.ensures.value in omega (arith, same, c.cells_of.ensures.counted, c.shape.ensures.small) in
    read_of_cut c.args.t.now.cells c.args.t.now.shape i c.args.index.now c.number_of-number.result c.cell_numbered.result few
    (c.number_of-number.ensures ∙ ap (λ s. cut (flat_of s c.args.index.now)) (c.extents.ensures.value ∙ c.shape.ensures.value))
    (c.cell_numbered.ensures ∙ ap (λ (cs : List Cell). get_or cs c.number_of-number.result Undef) c.cells_of.ensures.value) is
