use Rattle.std.proofs.Common.{◌≡◌, ◌≤◌, ◌∙◌, ap, sym, map, length, subst, arith}
use Rattle.std.proofs.lemmas.List.{take_all}
use Rattle.sh_base.specs.Shape.{max_rank}
use Rattle.sh_ir.specs.Shapes.{extent_of}
use Rattle.sh_admission.proofs.ReadLaws.{few_extents}
use Rattle.sh_admission.proofs.rules.whole_shape.Goals as goal

pub shape-requires : goal.shape-requires
shape-requires c =
    let items : c.as_slice.result.now ≡ map extent_of c.dims-dim-items.result.now =
    c.as_slice.ensures.value ∙ (c.loop-dim.invariant
    ∙ ap (map extent_of) (take_all c.loop-dim.dim-index c.dims-dim-items.result.now (omega (arith, c.loop-dim-test.false)))) in
    subst (λ l. length l ≤ max_rank) (sym (items ∙ ap (map extent_of) c.dims-dim-items.ensures)) (few_extents c.args.value_type.now c.requires)
