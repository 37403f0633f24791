use Rattle.std.proofs.Common.{◌≡◌, ◌<◌, ◌++◌, ◌∷◌, [], map, min, arith, refl, sym, subst}
use Rattle.std.specs.Prelude.{◌^◌}
use Rattle.sh_loops.proofs.CountLaws.{few_cells, points_below, wholes}
use Rattle.sh_base.specs.Shape.{cell_count}
use Rattle.sh_loops.specs.Structured.{fixed_by}
use Rattle.sh_loops.proofs.StructuredLaws.{can_fold_parts, stands_parts}
use Rattle.sh_loops.proofs.structures.fold_parts.Goals as goal

pub structured-requires-clause-count : goal.structured-requires-clause-count
structured-requires-clause-count c =
    let s = c.requires.structure in
    let front = map (λ t. t.now) c.args.inputs.now in
    let few : cell_count c.args.extents.now < 2 ^ 128 =
    subst (λ E. cell_count E < 2 ^ 128) (sym c.requires.extents_are)
    (points_below s (front ++ c.args.outs.now ∷ []) c.requires.few c.requires.follow c.requires.agree
    (few_cells front c.args.outs.now c.are_tensors.ensures c.shape-whole.ensures.small)) in
    omega (arith, few, c.count_points.ensures)

pub structured-requires-clause-folds : goal.structured-requires-clause-folds
structured-requires-clause-folds c =
    can_fold_parts c.args.kind.now c.args.loops c.args.captured.now c.args.extents.now (map (λ t. t.now) c.args.inputs.now) c.args.outs.now (map (λ t. t.now) c.args.scalars.now) _ c.width.result
    c.requires refl refl c.width.ensures c.in_ok-step.ensures (wholes (map (λ t. t.now) c.args.inputs.now) c.are_tensors.ensures) (wholes (map (λ t. t.now) c.args.scalars.now) c.are_tensors-2.ensures)

pub returns : goal.returns
returns c =
    λ s e.
    c.structured.ensures s (fixed_by c.args.captured.now (map (λ t. t.now) c.args.inputs.now) c.args.outs.now (map (λ t. t.now) c.args.scalars.now))
    (stands_parts c.args.kind.now c.args.loops c.args.captured.now c.args.extents.now (map (λ t. t.now) c.args.inputs.now) c.args.outs.now (map (λ t. t.now) c.args.scalars.now) _ c.width.result
    c.requires refl refl c.width.ensures c.in_ok-step.ensures s e)
