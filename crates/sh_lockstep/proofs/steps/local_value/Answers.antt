use Rattle.std.proofs.Common.{◌≡◌, List, map, Some, None, ap, sym, ◌∙◌, subst, Bor}
use Rattle.std.specs.Prelude.{IfOk, Option, option_and_then, option_map}
use Rattle.sh_lockstep.specs.Tables.{values_in}
use Rattle.sh_sem.specs.Steps.{steps_on}
use Rattle.sh_tensor.specs.declared.tensors.Tensor.{Tensor}
use Rattle.sh_tensor.specs.Tensor.{TensorValue}
use Rattle.sh_turns.specs.Program.{all_there}
use Rattle.sh_lockstep.proofs.Given.{gives_local}
use Rattle.sh_lockstep.proofs.steps.local_value.Goals as goal

pub returns-in-Some : goal.returns-in-Some
returns-in-Some c =
    let given = gives_local c.args.g.now.extents c.args.op.now (values_in c.args.table.now) c.args.device c.requires.local in
    let works = (steps_on c.args.g.now.extents).local c.args.op.now c.args.device in
    let there : all_there (map (values_in c.args.table.now c.args.device) c.args.op.now.operands) ≡ Some (map (λ (t : Bor Tensor). t.now) c.in-Some.ts.items) =
    ap (λ names. all_there (map (values_in c.args.table.now c.args.device) names)) (sym c.as_slice.ensures) ∙ sym c.in_ok-ts.ensures
    ∙ ap (option_map (λ ts. map (λ (t : Bor Tensor). t.now) ts.items)) c.in-Some.is in
    subst (λ (z : Option TensorValue). IfOk c.step_local.result (λ out. out ≡ z))
    (ap (λ (ts : List (Bor Tensor)). works (map (λ (t : Bor Tensor). t.now) ts)) c.as_slice-in-Some.ensures.value ∙ sym (given ∙ ap (option_and_then works) there))
    c.step_local.ensures

pub returns-in-None : goal.returns-in-None
returns-in-None c =
    let given = gives_local c.args.g.now.extents c.args.op.now (values_in c.args.table.now) c.args.device c.requires.local in
    let works = (steps_on c.args.g.now.extents).local c.args.op.now c.args.device in
    let there : all_there (map (values_in c.args.table.now c.args.device) c.args.op.now.operands) ≡ None =
    ap (λ names. all_there (map (values_in c.args.table.now c.args.device) names)) (sym c.as_slice.ensures) ∙ sym c.in_ok-ts.ensures
    ∙ ap (option_map (λ ts. map (λ (t : Bor Tensor). t.now) ts.items)) c.in-None.is in
    sym (given ∙ ap (option_and_then works) there)
