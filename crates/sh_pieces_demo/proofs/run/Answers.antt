use Rattle.std.proofs.Common.{ℕ, ◌≡◌, ◌<◌, ◌≤◌, List, length, map, get_or, Some, sym, ap, ap₂, ◌∙◌, subst}
use Rattle.std.specs.Prelude.{slice_get, IfOk, IfSome}
use Rattle.std.proofs.lemmas.Option.{slice_get-get_or}
use Rattle.std.proofs.lemmas.Result.{IfOk-weaker}
use Rattle.sh_turns.specs.Program.{all_there}
use Rattle.sh_pieces.specs.Instructions.{gives}
use Rattle.sh_pieces.specs.Runs.{argument_under}
use Rattle.sh_pieces_demo.proofs.Running.{stuck, runs_more, ends, groups, right_by_turns}
use Rattle.sh_pieces_demo.specs.Plain.{plain, function_of, IsOutcome, IsRightWith}
use Rattle.sh_pieces_demo.specs.declared.Subtract.{Subtract}
use Rattle.sh_pieces_demo.proofs.run.Goals as goal

-- the instruction that a loop over them comes to
here : (seen is : List Subtract) (k : ℕ) (d : Subtract) → seen ≡ is → k < length seen → slice_get is k ≡ Some (get_or seen k d)
here seen is k d same lt = ap (λ l. slice_get l k) (sym same) ∙ slice_get-get_or seen k d lt

abbrev default : Subtract
default = record { left = 0; right = 0; defines = 0 }

pub returns-in_default : goal.returns-in_default
returns-in_default c =
    let seen = c.deref-instruction-items in
    let loop = c.loop-instruction in
    let k = loop.instruction-index in
    let i = get_or seen.result.now k default in
    let given : c.given.result ≡ gives plain i (λ d. argument_under loop.names.items loop.values.items) 0 =
    c.given.ensures ∙ ap₂ (λ ns vs. gives plain i (λ d. argument_under ns vs) 0) c.as_slice-in-loop-instruction.ensures.value c.as_slice-in-loop-instruction-2.ensures.value in
    record {
      by_names = stuck (function_of c.args.function.now) c.args.arguments.now k loop.names.items loop.values.items loop.invariant i
          (here seen.result.now c.args.function.now.instructions.items k default seen.ensures.value c.loop-instruction-test.true)
          (sym given ∙ c.in_default.is);
      by_turns = tt;
    }

pub loop-instruction-preserved : goal.loop-instruction-preserved
loop-instruction-preserved c =
    let seen = c.deref-instruction-items in
    let loop = c.loop-instruction in
    let k = loop.instruction-index in
    let i = get_or seen.result.now k default in
    let given : c.given.result ≡ gives plain i (λ d. argument_under loop.names.items loop.values.items) 0 =
    c.given.ensures ∙ ap₂ (λ ns vs. gives plain i (λ d. argument_under ns vs) 0) c.as_slice-in-loop-instruction.ensures.value c.as_slice-in-loop-instruction-2.ensures.value in
    runs_more (function_of c.args.function.now) c.args.arguments.now k loop.names.items loop.values.items loop.invariant i c.in-Some.value c.push.new.self.items c.push-in-loop-instruction.new.self.items
    (here seen.result.now c.args.function.now.instructions.items k default seen.ensures.value c.loop-instruction-test.true)
    (sym given ∙ c.in-Some.is)
    c.in_ok-push.ensures.items c.in_ok-push-2.ensures.items

pub returns : goal.returns
returns c =
    let loop = c.loop-instruction in
    let f = function_of c.args.function.now in
    let all : length f.instructions ≤ loop.instruction-index = subst (λ is. length is ≤ loop.instruction-index) c.deref-instruction-items.ensures.value c.loop-instruction-test.false in
    let same : all_there (map (argument_under c.as_slice-2.result.now c.as_slice-3.result.now) c.as_slice-4.result.now) ≡ all_there (map (argument_under loop.names.items loop.values.items) f.results) =
    ap (λ ns. all_there (map (argument_under ns c.as_slice-3.result.now) c.as_slice-4.result.now)) c.as_slice-2.ensures.value
    ∙ ap (λ vs. all_there (map (argument_under loop.names.items vs) c.as_slice-4.result.now)) c.as_slice-3.ensures.value
    ∙ ap (λ xs. all_there (map (argument_under loop.names.items loop.values.items) xs)) c.as_slice-4.ensures.value in
    let outcome : IfOk c.values_of.result (λ o. IsOutcome f c.args.arguments.now o) =
    IfOk-weaker c.values_of.result (λ o. o ≡ all_there (map (argument_under c.as_slice-2.result.now c.as_slice-3.result.now) c.as_slice-4.result.now)) (λ o. IsOutcome f c.args.arguments.now o)
    (λ o e. ends f c.args.arguments.now loop.instruction-index loop.names.items loop.values.items loop.invariant all o (e ∙ same)) c.values_of.ensures in
    record {
      by_names = outcome;
      by_turns = IfOk-weaker c.values_of.result (λ o. IsOutcome f c.args.arguments.now o) (λ o. IfSome o (λ row. IsRightWith c.args.function.now c.args.arguments.now row))
          (right_by_turns f c.args.arguments.now (c.by_names.ensures plain f (λ d. c.args.arguments.now) groups (λ d device. c.requires))) outcome;
    }
