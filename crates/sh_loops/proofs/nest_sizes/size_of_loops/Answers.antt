use Rattle.std.proofs.Common.{◌≡◌, ◌<◌, ◌≤◌, true, ◌++◌, ◌∷◌, [], length, map, arith, subst, sym, ◌∙◌}
use Rattle.std.specs.Prelude.{◌^◌}
use Rattle.std.proofs.lemmas.List.{length-map}
use Rattle.sh_base.specs.Shape.{cell_count}
use Rattle.sh_loops.specs.Nests.{all_follow_loops}
use Rattle.sh_loops.specs.declared.loops.Loops as memory
use Rattle.sh_loops.proofs.StructuredLaws.{output_shape, sized, unsized, unsized_few}
use Rattle.sh_loops.proofs.nest_sizes.size_of_loops.Goals as goal

pub returns-then-ins-count : goal.returns-then-ins-count
returns-then-ins-count c =
    λ s is.
    let same = length-map c.args.ins.now (λ t. t.now) in
    unsized_few s c.args.loops.now (map (λ t. t.now) c.args.ins.now) c.len-count.result is c.len-count.ensures (omega (arith, same, c.if-ins-count.true))

pub returns-in-Some : goal.returns-in-Some
returns-in-Some c =
    λ s is.
    output_shape (c.index-others-0.result.now) c.shape_of.result c.count_points.result c.shape_of.ensures.value
    ∙ sized (λ t. t.now) c.args.loops.now s is c.as_slice.result.now c.args.ins.now c.len-count.result c.index-others-0.result
    c.split_at-2.result.0.now c.split_at.result.1.now c.len-count.ensures c.if-ins-count.false c.split_at-2.ensures.front c.split_at.ensures.back c.index-others-0.is
    (c.as_slice.ensures ∙ c.in_ok-maps.ensures) c.in-Some.extents c.count_points.result c.in-Some.ensures (λ few. omega (arith, few, c.count_points.ensures))
    (subst (λ (l : memory.Loops). l.count ≤ 6) is c.requires.few)
    (subst (λ (l : memory.Loops). all_follow_loops l.count (l.inputs ++ l.output ∷ []) ≡ true) is c.requires.follow)
    c.are_tensors.ensures

pub returns : goal.returns
returns c =
    λ s is.
    unsized (λ t. t.now) c.args.loops.now s is c.as_slice.result.now c.args.ins.now c.len-count.result c.index-others-0.result
    c.split_at-2.result.0.now c.split_at.result.1.now c.len-count.ensures c.if-ins-count.false c.split_at-2.ensures.front c.split_at.ensures.back c.index-others-0.is
    (c.as_slice.ensures ∙ c.in_ok-maps.ensures) c.in-None.ensures
