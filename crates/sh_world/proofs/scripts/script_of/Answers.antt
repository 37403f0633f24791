use Rattle.std.proofs.Common.{◌≡◌, ap, ap₂, sym, ◌∙◌, List, ℕ, Option, map, length, Bor}
use Rattle.std.specs.Prelude.{filter_map}
use Rattle.std.proofs.lemmas.List.{length-map}
use Rattle.sh_ir.specs.declared.functions.Arg.{Arg}
use Rattle.sh_ir.specs.declared.operations.Op.{Op}
use Rattle.sh_pieces.specs.Instructions.{last_place}
use Rattle.sh_sem.specs.Returned.{returned}
use Rattle.sh_world.specs.Scripts.{names_until, without_return}
use Rattle.sh_world.proofs.scripts.script_of.Goals as goal

pub returns-clause-results : goal.returns-clause-results
returns-clause-results c =
    let ids : List ℕ = map (λ (a : Arg). a.id) c.args.func.now.args in
    let found : List Op = map (λ (op : Bor Op). op.now) c.as_slice.result.now in
    let same : found ≡ without_return c.args.func.now.ops = ap (map (λ (op : Bor Op). op.now)) c.as_slice.ensures.value ∙ c.in_ok-found.ensures ∙ ap without_return c.as_slice-ops.ensures in
    let size : length c.as_slice.result.now ≡ length (without_return c.args.func.now.ops) = sym (length-map c.as_slice.result.now (λ (op : Bor Op). op.now)) ∙ ap length same in
    let params = ap (map (λ (a : Arg). a.id)) c.as_slice-params.ensures in
    c.in_ok-results.ensures
    ∙ ap₂ (λ (f : ℕ → Option ℕ) (names : List ℕ). filter_map f names)
    (c.in_ok-instructions.ensures.places ∙ ap (λ (is : List ℕ). last_place (names_until is found (length c.as_slice.result.now))) params
    ∙ ap₂ (λ (os : List Op) n. last_place (names_until ids os n)) same size)
    (c.returned.ensures ∙ ap returned c.as_slice-ops.ensures)
