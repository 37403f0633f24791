use Rattle.std.proofs.Common.{ℕ, ◌+◌, List, [], ◌∷◌, map, ap, sym, ◌∙◌, arith, Bor}
use Rattle.std.proofs.lemmas.List.{map-append}
use Rattle.std.specs.Prelude.{Option, option_map}
use Rattle.sh_grid.specs.Grid.{group_size_of, member_of}
use Rattle.sh_eval.specs.Devices.{operand_of}
use Rattle.sh_lockstep.specs.Tables.{values_in}
use Rattle.sh_tensor.specs.declared.tensors.Tensor.{Tensor}
use Rattle.sh_tensor.specs.Tensor.{TensorValue}
use Rattle.sh_collectives.proofs.PlaceRows.{adds, ends, from_place, lacks, so_far}
use Rattle.sh_lockstep.proofs.GroupRows.{of_group}
use Rattle.sh_lockstep.proofs.steps.group_operands.Goals as goal

pub returns-in-None : goal.returns-in-None
returns-in-None c =
    let f : ℕ → Option TensorValue = λ m. operand_of c.args.op.now (values_in c.args.table.now m) in
    let g : ℕ → Option TensorValue = λ p. f (member_of c.args.g.now.extents c.args.axes.now c.args.device p) in
    lacks g (group_size_of c.args.g.now.extents c.args.axes.now) c.loop-place.place (map (λ t. t.now) c.loop-place.ts.items) _
    (omega (arith, c.loop-place-test.true, c.group_size-place-end.ensures.value))
    (ap f (sym c.member.ensures.value) ∙ sym c.operand.ensures ∙ ap (option_map (λ t. t.now)) c.in-None.is)
    c.loop-place.invariant
    ∙ sym (of_group f c.args.g.now.extents c.args.axes.now c.args.device)

pub loop-place-preserved : goal.loop-place-preserved
loop-place-preserved c =
    let f : ℕ → Option TensorValue = λ m. operand_of c.args.op.now (values_in c.args.table.now m) in
    let g : ℕ → Option TensorValue = λ p. f (member_of c.args.g.now.extents c.args.axes.now c.args.device p) in
    let whole = group_size_of c.args.g.now.extents c.args.axes.now in
    let vs = map (λ (t : Bor Tensor). t.now) c.loop-place.ts.items in
    ap (λ (items : List (Bor Tensor)). so_far (map (λ (t : Bor Tensor). t.now) items) (from_place g whole (c.loop-place.place + 1))) c.in_ok-push-in-Some.ensures.items
    ∙ ap (λ xs. so_far xs (from_place g whole (c.loop-place.place + 1))) (map-append (λ (t : Bor Tensor). t.now) c.loop-place.ts.items (c.in-Some.t ∷ []))
    ∙ adds g whole c.loop-place.place vs c.in-Some.t.now _
    (omega (arith, c.loop-place-test.true, c.group_size-place-end.ensures.value))
    (ap f (sym c.member.ensures.value) ∙ sym c.operand.ensures ∙ ap (option_map (λ t. t.now)) c.in-Some.is)
    c.loop-place.invariant

pub returns : goal.returns
returns c =
    let f : ℕ → Option TensorValue = λ m. operand_of c.args.op.now (values_in c.args.table.now m) in
    let g : ℕ → Option TensorValue = λ p. f (member_of c.args.g.now.extents c.args.axes.now c.args.device p) in
    ends g (group_size_of c.args.g.now.extents c.args.axes.now) c.loop-place.place (map (λ t. t.now) c.loop-place.ts.items) _
    (omega (arith, c.loop-place-test.false, c.group_size-place-end.ensures.value))
    c.loop-place.invariant
    ∙ sym (of_group f c.args.g.now.extents c.args.axes.now c.args.device)
