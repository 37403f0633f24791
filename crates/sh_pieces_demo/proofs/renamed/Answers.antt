use Rattle.std.proofs.Common.{◌≡◌, ◌+◌, map, Option, Some, ap, ◌∙◌, subst}
use Rattle.std.specs.Prelude.{IfSome}
use Rattle.sh_pieces_demo.proofs.Shifting.{is_shifted}
use Rattle.sh_pieces_demo.specs.declared.Function.{Function}
use Rattle.sh_pieces_demo.specs.Plain.{function_of, plain, shifted_by}
use Rattle.sh_pieces_demo.proofs.renamed.Goals as goal

at_some : {X : Type 0} (o : Option X) (P : X → Type 0) (x : X) → o ≡ Some x → IfSome o P → P x
at_some o P x e h = subst (λ o. IfSome o P) e h

pub returns-clause-names : goal.returns-clause-names
returns-clause-names c =
    let f = c.args.function.now in
    let g : Function = record { parameters = c.in-Some.parameters; instructions = c.in-Some-3.instructions; results = c.in-Some-2.results } in
    is_shifted c.args.offset f g
    (at_some c.in_ok-parameters.field-0 (λ ns. ns.items ≡ map (λ name. name + c.args.offset) c.as_slice.result.now) c.in-Some.parameters c.in-Some.is c.in_ok-parameters.ensures.some ∙ ap (map (λ name. name + c.args.offset)) c.as_slice.ensures.value)
    (at_some c.in_ok-instructions.field-0 (λ is. is.items ≡ map (shifted_by c.args.offset) c.as_slice-3.result.now) c.in-Some-3.instructions c.in-Some-3.is c.in_ok-instructions.ensures.some ∙ ap (map (shifted_by c.args.offset)) c.as_slice-3.ensures.value)
    (at_some c.in_ok-results.field-0 (λ ns. ns.items ≡ map (λ name. name + c.args.offset) c.as_slice-2.result.now) c.in-Some-2.results c.in-Some-2.is c.in_ok-results.ensures.some ∙ ap (map (λ name. name + c.args.offset)) c.as_slice-2.ensures.value)

pub returns-clause-program : goal.returns-clause-program
returns-clause-program c =
    λ arguments. c.other_names.ensures.program plain (λ name. name + c.args.offset) (function_of c.args.function.now) (function_of (record { parameters = c.in-Some.parameters; instructions = c.in-Some-3.instructions; results = c.in-Some-2.results })) (λ d. arguments) (returns-clause-names c)
