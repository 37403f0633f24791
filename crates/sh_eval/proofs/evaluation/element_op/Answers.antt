use Rattle.std.proofs.Common.{◌∷◌, [], map, ap, ap₂, sym, ◌∙◌, subst}
use Rattle.std.specs.Prelude.{option_and_then}
use Rattle.sh_eval.specs.Shapes.{with_known}
use Rattle.sh_eval.proofs.EvaluationLaws.{binary_value, binary_widths, cast_value, cast_widths, compare_value, compare_widths, select_value, select_widths}
use Rattle.sh_int.specs.Elements.{CanCast}
use Rattle.sh_sem.specs.Scalars.{width_of}
use Rattle.sh_eval.proofs.evaluation.element_op.Goals as goal

pub of_two_op-requires-clause-widths : goal.of_two_op-requires-clause-widths
of_two_op-requires-clause-widths c = binary_widths c.args.op.now.kind c.args.op.now.operands c.args.op.now.result (map (λ t. t.now) c.args.ts.now) c.in-Binary.x c.in-Binary.is c.requires ∙ sym (ap (λ w. w ∷ w ∷ []) c.width_of-width.ensures)

pub of_two_op-requires-in-Compare-clause-widths : goal.of_two_op-requires-in-Compare-clause-widths
of_two_op-requires-in-Compare-clause-widths c = (compare_widths c.args.op.now.kind c.args.op.now.operands c.args.op.now.result (map (λ t. t.now) c.args.ts.now) c.in-Compare.x c.in-Compare.is c.requires).0 ∙ sym (ap (λ w. w ∷ w ∷ []) c.width_of-from.ensures)

pub of_three_op-requires-clause-widths : goal.of_three_op-requires-clause-widths
of_three_op-requires-clause-widths c =
    select_widths c.args.op.now.kind c.args.op.now.operands c.args.op.now.result (map (λ t. t.now) c.args.ts.now) c.in-Select.x c.in-Select.is c.requires ∙ sym (ap₂ (λ v w. v ∷ w ∷ w ∷ []) c.width_of-condition.ensures c.width_of-width.ensures)

pub of_one_op-requires-clause-can : goal.of_one_op-requires-clause-can
of_one_op-requires-clause-can c =
    subst (λ v. CanCast c.in-Cast.x.op v c.width_of-width.result) (sym c.width_of-from-in-Cast.ensures)
    (subst (λ w. CanCast c.in-Cast.x.op (width_of c.in-Cast.x.operand_type) w) (sym c.width_of-width.ensures) (cast_widths c.args.op.now.kind c.args.op.now.operands c.args.op.now.result (map (λ t. t.now) c.args.ts.now) c.in-Cast.x c.in-Cast.is c.requires).1)

pub of_one_op-requires-clause-widths : goal.of_one_op-requires-clause-widths
of_one_op-requires-clause-widths c = (cast_widths c.args.op.now.kind c.args.op.now.operands c.args.op.now.result (map (λ t. t.now) c.args.ts.now) c.in-Cast.x c.in-Cast.is c.requires).0 ∙ sym (ap (λ w. w ∷ []) c.width_of-from-in-Cast.ensures)

pub returns-in_ok-out-in-Binary : goal.returns-in_ok-out-in-Binary
returns-in_ok-out-in-Binary c =
    λ element seat.
    binary_value c.args.op.now.kind c.args.op.now.operands c.args.op.now.result seat (map (λ t. t.now) c.args.ts.now) c.in-Binary.x c.width_of-width.result c.in_ok-out-in-Binary.out c.with_extents.result c.in-Binary.is c.width_of-width.ensures c.in_ok-out-in-Binary.ensures
    (c.with_extents.ensures ∙ ap (λ d. option_and_then (with_known d) c.in_ok-out-in-Binary.out) c.dims_of-dims.ensures)

pub returns-in_ok-out-in-Compare : goal.returns-in_ok-out-in-Compare
returns-in_ok-out-in-Compare c =
    λ element seat.
    compare_value c.args.op.now.kind c.args.op.now.operands c.args.op.now.result seat (map (λ t. t.now) c.args.ts.now) c.in-Compare.x c.width_of-from.result c.in_ok-out-in-Compare.out c.with_extents-in-Compare.result c.in-Compare.is c.width_of-from.ensures
    (compare_widths c.args.op.now.kind c.args.op.now.operands c.args.op.now.result (map (λ t. t.now) c.args.ts.now) c.in-Compare.x c.in-Compare.is c.requires).1 c.in_ok-out-in-Compare.ensures
    (c.with_extents-in-Compare.ensures ∙ ap (λ d. option_and_then (with_known d) c.in_ok-out-in-Compare.out) c.dims_of-dims.ensures)

pub returns-in_ok-out-in-Select : goal.returns-in_ok-out-in-Select
returns-in_ok-out-in-Select c =
    λ element seat.
    select_value c.args.op.now.kind c.args.op.now.operands c.args.op.now.result seat (map (λ t. t.now) c.args.ts.now) c.in-Select.x c.width_of-width.result c.in_ok-out-in-Select.out c.with_extents-in-Select.result c.in-Select.is c.width_of-width.ensures c.in_ok-out-in-Select.ensures
    (c.with_extents-in-Select.ensures ∙ ap (λ d. option_and_then (with_known d) c.in_ok-out-in-Select.out) c.dims_of-dims.ensures)

pub returns-in_ok-out-in-Cast : goal.returns-in_ok-out-in-Cast
returns-in_ok-out-in-Cast c =
    λ element seat.
    cast_value c.args.op.now.kind c.args.op.now.operands c.args.op.now.result seat (map (λ t. t.now) c.args.ts.now) c.in-Cast.x c.width_of-from-in-Cast.result c.width_of-width.result c.in_ok-out-in-Cast.out c.with_extents-in-Cast.result c.in-Cast.is c.width_of-from-in-Cast.ensures c.width_of-width.ensures
    c.in_ok-out-in-Cast.ensures (c.with_extents-in-Cast.ensures ∙ ap (λ d. option_and_then (with_known d) c.in_ok-out-in-Cast.out) c.dims_of-dims.ensures)
