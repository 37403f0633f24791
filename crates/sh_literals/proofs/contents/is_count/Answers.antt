use Rattle.std.proofs.Common.{◌+◌, drop, ap, sym, ◌∙◌, arith}
use Rattle.std.proofs.lemmas.List.{drop_all}
use Rattle.sh_ir.specs.declared.types.Dim.TheVariants.{Known, Differs}
use Rattle.sh_literals.proofs.Counts.{all_extents, differs, here, is_product, one_extent}
use Rattle.sh_literals.proofs.contents.is_count.Goals as goal

pub returns-in_default : goal.returns-in_default
returns-in_default c =
    sym (differs c.args.count c.loop-dim.product _)
    ∙ ap (is_product c.args.count c.loop-dim.product)
    (sym (here c.args.dims.now c.loop-dim.dim-index Differs c.loop-dim-test.true c.in_default.is))
    ∙ c.loop-dim.invariant.rest

pub loop-dim-preserved : goal.loop-dim-preserved
loop-dim-preserved c = record {
  rest =
      ap (λ p. is_product c.args.count p (drop (c.loop-dim.dim-index + 1) c.args.dims.now)) c.cut_product-product.ensures
      ∙ one_extent c.args.count c.loop-dim.product c.in-Known.extent _
      ∙ ap (is_product c.args.count c.loop-dim.product)
      (sym (here c.args.dims.now c.loop-dim.dim-index (Known c.in-Known.extent) c.loop-dim-test.true c.in-Known.is))
      ∙ c.loop-dim.invariant.rest;
  within = omega arith;
}

pub returns : goal.returns
returns c =
    sym (all_extents c.args.count c.loop-dim.product)
    ∙ ap (is_product c.args.count c.loop-dim.product) (sym (drop_all c.loop-dim.dim-index c.args.dims.now c.loop-dim-test.false))
    ∙ c.loop-dim.invariant.rest
