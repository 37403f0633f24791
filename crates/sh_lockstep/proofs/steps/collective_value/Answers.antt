use Rattle.std.proofs.Common.{◌≡◌, ℕ, List, length, map, Some, None, ap, sym, ◌∙◌, subst, Bor}
use Rattle.std.specs.Prelude.{IfOk, Option, option_and_then, option_map}
use Rattle.sh_grid.specs.Grid.{AreAxesOf, group_of, place_in}
use Rattle.sh_sem.specs.Collected.{collected}
use Rattle.sh_sem.specs.Steps.{axes_of}
use Rattle.sh_tensor.specs.declared.tensors.Tensor.{Tensor}
use Rattle.sh_tensor.specs.Tensor.{TensorValue}
use Rattle.sh_turns.specs.Program.{all_there}
use Rattle.sh_eval.specs.Devices.{operand_of}
use Rattle.sh_lockstep.specs.Tables.{values_in}
use Rattle.sh_lockstep.proofs.Given.{collectable, collects, gives_collective}
use Rattle.sh_lockstep.proofs.steps.collective_value.Goals as goal

pub collect_at-requires : goal.collect_at-requires
collect_at-requires c =
    let grid = c.args.g.now.extents in
    let there : all_there (map (λ m. operand_of c.args.op.now (values_in c.args.table.now m)) (group_of grid (axes_of c.args.op.now.kind) c.args.device)) ≡ Some (map (λ (t : Bor Tensor). t.now) c.in-Some.ts.items) =
    ap (λ (axes : List ℕ). all_there (map (λ m. operand_of c.args.op.now (values_in c.args.table.now m)) (group_of grid axes c.args.device))) (sym c.requires.own)
    ∙ sym c.in_ok-ts.ensures ∙ ap (option_map (λ ts. map (λ (t : Bor Tensor). t.now) ts.items)) c.in-Some.is in
    let ts = map (λ (t : Bor Tensor). t.now) c.as_slice.result.now in
    let passed = there ∙ ap (λ (ts : List (Bor Tensor)). Some (map (λ (t : Bor Tensor). t.now) ts)) (sym c.as_slice.ensures.value) in
    let place = c.place_in_group.ensures.value ∙ ap (λ (axes : List ℕ). place_in grid axes c.args.device) c.requires.own in
    let given = collectable grid c.args.op.now (values_in c.args.table.now) c.args.device ts c.place_in_group.result c.requires.can c.requires.collective passed place in
    let axes = subst (AreAxesOf (length grid)) c.requires.own c.requires.axes in
    record {
      group = collects grid c.args.op.now (values_in c.args.table.now) c.args.device axes c.requires.device ts c.place_in_group.result passed place given;
      widths = given.operands.widths;
      small = given.small;
    }

pub returns-in-Some : goal.returns-in-Some
returns-in-Some c =
    let grid = c.args.g.now.extents in
    let given = gives_collective grid c.args.op.now (values_in c.args.table.now) c.args.device c.requires.collective in
    let take : ℕ → List TensorValue → Option TensorValue = λ p ts. collected c.args.op.now grid ts p in
    let own = place_in grid (axes_of c.args.op.now.kind) c.args.device in
    let there : all_there (map (λ m. operand_of c.args.op.now (values_in c.args.table.now m)) (group_of grid (axes_of c.args.op.now.kind) c.args.device)) ≡ Some (map (λ (t : Bor Tensor). t.now) c.in-Some.ts.items) =
    ap (λ (axes : List ℕ). all_there (map (λ m. operand_of c.args.op.now (values_in c.args.table.now m)) (group_of grid axes c.args.device))) (sym c.requires.own)
    ∙ sym c.in_ok-ts.ensures ∙ ap (option_map (λ ts. map (λ (t : Bor Tensor). t.now) ts.items)) c.in-Some.is in
    subst (λ (z : Option TensorValue). IfOk c.collect_at.result (λ out. out ≡ z))
    (ap (λ (ts : List (Bor Tensor)). take c.place_in_group.result (map (λ (t : Bor Tensor). t.now) ts)) c.as_slice.ensures.value
    ∙ ap (λ p. take p (map (λ (t : Bor Tensor). t.now) c.in-Some.ts.items)) (c.place_in_group.ensures.value ∙ ap (λ (axes : List ℕ). place_in grid axes c.args.device) c.requires.own)
    ∙ sym (given ∙ ap (option_and_then (take own)) there))
    c.collect_at.ensures

pub returns-in-None : goal.returns-in-None
returns-in-None c =
    let grid = c.args.g.now.extents in
    let given = gives_collective grid c.args.op.now (values_in c.args.table.now) c.args.device c.requires.collective in
    let there : all_there (map (λ m. operand_of c.args.op.now (values_in c.args.table.now m)) (group_of grid (axes_of c.args.op.now.kind) c.args.device)) ≡ None =
    ap (λ (axes : List ℕ). all_there (map (λ m. operand_of c.args.op.now (values_in c.args.table.now m)) (group_of grid axes c.args.device))) (sym c.requires.own)
    ∙ sym c.in_ok-ts.ensures ∙ ap (option_map (λ ts. map (λ (t : Bor Tensor). t.now) ts.items)) c.in-None.is in
    sym (given ∙ ap (option_and_then (λ ts. collected c.args.op.now grid ts (place_in grid (axes_of c.args.op.now.kind) c.args.device))) there)
