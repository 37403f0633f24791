use Rattle.std.proofs.Common.{false, true, refl, Some, map, ap, ap₂, sym, ◌∙◌}
use Rattle.std.specs.Prelude.{nat_eq, option_map}
use Rattle.std.specs.Cmp.Lexicographic.{pointwise}
use Rattle.std.specs.List.{list_all}
use Rattle.sh_eval.specs.Cuts.{cut_shape}
use Rattle.sh_eval.specs.Slices.{ranges_in}
use Rattle.sh_eval.proofs.KindLaws.{insert_both, insert_shape}
use Rattle.sh_eval.proofs.LayoutLaws.{two_values, values_long}
use Rattle.sh_sem.specs.Slices.{lies_within, ranges_of, sizes_of}
use Rattle.sh_eval.proofs.extents.insertion_extents.Goals as goal

pub returns-then-ts-ne2 : goal.returns-then-ts-ne2
returns-then-ts-ne2 c = sym (ap (option_map cut_shape) (insert_both c.args.x.now c.args.dims.now (map (λ t. t.now) c.args.ts.now) (λ e. c.if-ts-ne2.true (sym (values_long (λ t. t.now) c.args.ts.now) ∙ e))))

pub returns-then-not-are_inside : goal.returns-then-not-are_inside
returns-then-not-are_inside c =
    sym (ap (option_map cut_shape)
    (insert_shape c.args.x.now c.args.dims.now c.index-ts-0.result.now c.index-ts-1.result.now (map (λ t. t.now) c.args.ts.now) (ranges_in c.in_ok-ranges.ranges) false _ (two_values (λ t. t.now) c.args.ts.now c.index-ts-0.result c.index-ts-1.result c.if-ts-ne2.false c.index-ts-0.is c.index-ts-1.is) (c.in_ok-ranges.ensures ∙ ap (ranges_of c.args.x.now.slice c.args.dims.now) (c.extents-extents.ensures.value ∙ c.shape-2.ensures.value)) (sym c.if-not-are_inside.true ∙ (c.are_inside.ensures ∙ ap (λ r. list_all lies_within (ranges_in r)) c.as_slice.ensures)) refl))

pub returns-then-not-are_extents : goal.returns-then-not-are_extents
returns-then-not-are_extents c =
    sym (ap (option_map cut_shape)
    (insert_shape c.args.x.now c.args.dims.now c.index-ts-0.result.now c.index-ts-1.result.now (map (λ t. t.now) c.args.ts.now) (ranges_in c.in_ok-ranges.ranges) true false (two_values (λ t. t.now) c.args.ts.now c.index-ts-0.result c.index-ts-1.result c.if-ts-ne2.false c.index-ts-0.is c.index-ts-1.is) (c.in_ok-ranges.ensures ∙ ap (ranges_of c.args.x.now.slice c.args.dims.now) (c.extents-extents.ensures.value ∙ c.shape-2.ensures.value)) (sym c.if-not-are_inside.false ∙ (c.are_inside.ensures ∙ ap (λ r. list_all lies_within (ranges_in r)) c.as_slice.ensures)) (sym c.if-not-are_extents.true ∙ c.are_extents.ensures ∙ ap₂ (λ r s. pointwise nat_eq (sizes_of (ranges_in r)) s) c.as_slice-2.ensures (c.extents-source.ensures.value ∙ c.shape.ensures.value))))

pub returns : goal.returns
returns c =
    ap (λ e. Some e) (c.in_ok-wide.ensures.cut ∙ ap cut_shape (c.extents-extents.ensures.value ∙ c.shape-2.ensures.value))
    ∙ sym (ap (option_map cut_shape)
    (insert_shape c.args.x.now c.args.dims.now c.index-ts-0.result.now c.index-ts-1.result.now (map (λ t. t.now) c.args.ts.now) (ranges_in c.in_ok-ranges.ranges) true true (two_values (λ t. t.now) c.args.ts.now c.index-ts-0.result c.index-ts-1.result c.if-ts-ne2.false c.index-ts-0.is c.index-ts-1.is) (c.in_ok-ranges.ensures ∙ ap (ranges_of c.args.x.now.slice c.args.dims.now) (c.extents-extents.ensures.value ∙ c.shape-2.ensures.value)) (sym c.if-not-are_inside.false ∙ (c.are_inside.ensures ∙ ap (λ r. list_all lies_within (ranges_in r)) c.as_slice.ensures)) (sym c.if-not-are_extents.false ∙ c.are_extents.ensures ∙ ap₂ (λ r s. pointwise nat_eq (sizes_of (ranges_in r)) s) c.as_slice-2.ensures (c.extents-source.ensures.value ∙ c.shape.ensures.value))))
