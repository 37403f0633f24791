use Rattle.std.proofs.Common.{false, true, Some, map, ap, ap₂, sym, ◌∙◌}
use Rattle.std.specs.Prelude.{option_map}
use Rattle.std.specs.List.{list_all}
use Rattle.sh_eval.specs.Cuts.{cut_shape}
use Rattle.sh_eval.specs.Slices.{ranges_in}
use Rattle.sh_eval.proofs.KindLaws.{extract_alone, extract_shape}
use Rattle.sh_eval.proofs.LayoutLaws.{one_value, values_long}
use Rattle.sh_sem.specs.Slices.{lies_within, ranges_of, sizes_of}
use Rattle.sh_eval.proofs.extents.slice_extents.Goals as goal

pub returns-then-ts-ne1 : goal.returns-then-ts-ne1
returns-then-ts-ne1 c = sym (ap (option_map cut_shape) (extract_alone c.args.x.now (map (λ t. t.now) c.args.ts.now) (λ e. c.if-ts-ne1.true (sym (values_long (λ t. t.now) c.args.ts.now) ∙ e))))

pub returns-then-not-are_inside : goal.returns-then-not-are_inside
returns-then-not-are_inside c =
    sym (ap (option_map cut_shape)
    (extract_shape c.args.x.now c.index-ts-0.result.now (map (λ t. t.now) c.args.ts.now) (ranges_in c.in_ok-ranges.ranges) false (one_value (λ t. t.now) c.args.ts.now c.index-ts-0.result c.if-ts-ne1.false c.index-ts-0.is) (c.in_ok-ranges.ensures ∙ ap₂ (λ d s. ranges_of c.args.x.now.slice d s) c.dims_of.ensures (c.extents-source.ensures.value ∙ c.shape.ensures.value)) (sym c.if-not-are_inside.true ∙ (c.are_inside.ensures ∙ ap (λ r. list_all lies_within (ranges_in r)) c.as_slice.ensures))))

pub returns : goal.returns
returns c =
    ap (λ e. Some e) (c.in_ok-sizes.ensures ∙ ap (λ r. cut_shape (sizes_of (ranges_in r))) c.as_slice-2.ensures)
    ∙ sym (ap (option_map cut_shape)
    (extract_shape c.args.x.now c.index-ts-0.result.now (map (λ t. t.now) c.args.ts.now) (ranges_in c.in_ok-ranges.ranges) true (one_value (λ t. t.now) c.args.ts.now c.index-ts-0.result c.if-ts-ne1.false c.index-ts-0.is) (c.in_ok-ranges.ensures ∙ ap₂ (λ d s. ranges_of c.args.x.now.slice d s) c.dims_of.ensures (c.extents-source.ensures.value ∙ c.shape.ensures.value)) (sym c.if-not-are_inside.false ∙ (c.are_inside.ensures ∙ ap (λ r. list_all lies_within (ranges_in r)) c.as_slice.ensures))))
