use Rattle.std.proofs.Common.{Some, None, map, ap, sym, ◌∙◌}
use Rattle.std.specs.Prelude.{option_map}
use Rattle.std.proofs.lemmas.Result.{IfOk-weaker}
use Rattle.sh_eval.specs.Cuts.{cut_shape}
use Rattle.sh_eval.specs.Rules.{rule_cell}
use Rattle.sh_eval.proofs.LayoutLaws.{few_of_rule, no_value, value_of_rule}
use Rattle.std.proofs.Common.{set}
use Rattle.sh_eval.specs.Values.{piece_in}
use Rattle.sh_eval.specs.declared.rules.CellRule.TheVariants.{Moved}
use Rattle.sh_eval.proofs.KindLaws.{piece_cell_is, piece_shape_is}
use Rattle.sh_sem.specs.Given.{gives_piece}
use Rattle.sh_eval.proofs.layouts.piece_op.Goals as goal

pub returns-in_ok-extents-in-Some : goal.returns-in_ok-extents-in-Some
returns-in_ok-extents-in-Some c =
    λ f is few.
    let there = ap (option_map piece_in) (sym c.in-Some.is) ∙ is in
    let shape = piece_shape_is c.args.axis f c.args.t.now (map (λ t. t.now) c.args.ts.now) (Some (piece_in c.in-Some.piece)) c.requires.alone there in
    IfOk-weaker c.laid_out.result _ _
    (λ out p.
    p
    ∙ value_of_rule (gives_piece c.args.axis f) c.args.dims.now c.args.width (map (λ t. t.now) c.args.ts.now) (set c.args.t.now.shape c.args.axis c.in-Some.piece.size)
    (rule_cell (Moved c.args.axis c.in-Some.piece.start) c.args.t.now (map (λ t. t.now) c.args.ts.now)) shape (piece_cell_is c.args.axis f c.args.t.now (map (λ t. t.now) c.args.ts.now) (piece_in c.in-Some.piece) c.requires.alone there))
    (c.laid_out.ensures (set c.args.t.now.shape c.args.axis c.in-Some.piece.size)
    (c.as_slice.ensures.value ∙ c.in_ok-extents-in-Some.ensures ∙ ap (λ s. cut_shape (set s c.args.axis c.in-Some.piece.size)) (c.extents.ensures.value ∙ c.shape.ensures.value))
    (few_of_rule (gives_piece c.args.axis f) c.args.dims.now (map (λ t. t.now) c.args.ts.now) (set c.args.t.now.shape c.args.axis c.in-Some.piece.size) shape few))

pub returns-in-None : goal.returns-in-None
returns-in-None c =
    λ f is few.
    no_value (gives_piece c.args.axis f) c.args.dims.now c.args.width (map (λ t. t.now) c.args.ts.now)
    (piece_shape_is c.args.axis f c.args.t.now (map (λ t. t.now) c.args.ts.now) None c.requires.alone (ap (option_map piece_in) (sym c.in-None.is) ∙ is))
