use Rattle.std.proofs.Common.{map, ap, sym, ◌∙◌}
use Rattle.std.specs.Prelude.{option_map}
use Rattle.std.proofs.lemmas.Result.{IfOk-weaker}
use Rattle.sh_sem.specs.Given.{alone}
use Rattle.sh_eval.specs.Cuts.{cut_shape}
use Rattle.sh_eval.proofs.LayoutLaws.{not_both}
use Rattle.sh_eval.proofs.SizeRules.{element_shape}
use Rattle.sh_eval.proofs.extents.extents_of.Goals as goal

pub returns-then-is_of : goal.returns-then-is_of
returns-then-is_of c =
    λ structured convolution device.
    IfOk-weaker c.common_extents.result _ _
    (λ out p.
    p
    ∙ sym (ap (option_map cut_shape) (element_shape c.args.op.now.kind c.args.op.now.operands c.args.op.now.result alone (map (λ t. t.shape) (map (λ t. t.now) c.args.ts.now)) (sym c.class.ensures ∙ c.is_of.ensures.0 c.if-is_of.true))))
    c.common_extents.ensures

pub returns : goal.returns
returns c = c.layout_extents.ensures (λ e. not_both c.is_of.result c.if-is_of.false (c.is_of.ensures.1 (c.class.ensures ∙ e)))
