use Rattle.std.proofs.Common.{◌+◌, drop, map, ap, ap₂, sym, ◌∙◌, arith}
use Rattle.std.specs.Prelude.{◌&&◌}
use Rattle.sh_ir.specs.Typing.{typing_of}
use Rattle.sh_sem.specs.Given.{have_all_extents}
use Rattle.sh_sem.specs.Types.{have_extents}
use Rattle.sh_eval.proofs.ListRules.{known_end, known_here, shapes_end, shapes_here, type_end, type_here}
use Rattle.sh_eval.proofs.typing.are_known.Goals as goal

pub returns-then-not-has_extents : goal.returns-then-not-has_extents
returns-then-not-has_extents c =
    λ kind.
    let types = typing_of c.args.kind.now c.args.result_type.now in
    let more = have_all_extents (drop (c.loop-at.at + 1) types) (drop (c.loop-at.at + 1) (map (λ t. t.shape) (map (λ t. t.now) c.args.ts.now))) in
    ap (λ b. b && more) (sym c.if-not-has_extents.true ∙ c.has_extents.ensures ∙ ap₂ have_extents c.dims_of.ensures (c.extents.ensures.value ∙ c.shape.ensures.value))
    ∙ sym (known_here (drop c.loop-at.at types) (drop (c.loop-at.at + 1) types) (drop c.loop-at.at (map (λ t. t.shape) (map (λ t. t.now) c.args.ts.now))) (drop (c.loop-at.at + 1) (map (λ t. t.shape) (map (λ t. t.now) c.args.ts.now))) c.in-Some.t.now c.index-ts-at.result.now.shape
    (type_here types c.loop-at.at c.in-Some.t.now (c.in-Some.ensures kind)) (shapes_here (λ t. t.now) c.args.ts.now c.loop-at.at c.index-ts-at.result c.loop-at-test.true c.index-ts-at.is))
    ∙ c.loop-at.invariant kind

pub returns-in-None : goal.returns-in-None
returns-in-None c =
    λ kind.
    sym (ap (λ types. have_all_extents types (drop c.loop-at.at (map (λ t. t.shape) (map (λ t. t.now) c.args.ts.now)))) (type_end (typing_of c.args.kind.now c.args.result_type.now) c.loop-at.at (c.in-None.ensures kind)))
    ∙ c.loop-at.invariant kind

pub loop-at-preserved : goal.loop-at-preserved
loop-at-preserved c =
    λ kind.
    let types = typing_of c.args.kind.now c.args.result_type.now in
    let more = have_all_extents (drop (c.loop-at.at + 1) types) (drop (c.loop-at.at + 1) (map (λ t. t.shape) (map (λ t. t.now) c.args.ts.now))) in
    ap (λ b. b && more) (sym c.if-not-has_extents.false ∙ c.has_extents.ensures ∙ ap₂ have_extents c.dims_of.ensures (c.extents.ensures.value ∙ c.shape.ensures.value))
    ∙ sym (known_here (drop c.loop-at.at types) (drop (c.loop-at.at + 1) types) (drop c.loop-at.at (map (λ t. t.shape) (map (λ t. t.now) c.args.ts.now))) (drop (c.loop-at.at + 1) (map (λ t. t.shape) (map (λ t. t.now) c.args.ts.now))) c.in-Some.t.now c.index-ts-at.result.now.shape
    (type_here types c.loop-at.at c.in-Some.t.now (c.in-Some.ensures kind)) (shapes_here (λ t. t.now) c.args.ts.now c.loop-at.at c.index-ts-at.result c.loop-at-test.true c.index-ts-at.is))
    ∙ c.loop-at.invariant kind

pub returns : goal.returns
returns c =
    λ kind.
    sym (known_end (drop c.loop-at.at (typing_of c.args.kind.now c.args.result_type.now)) (drop c.loop-at.at (map (λ t. t.shape) (map (λ t. t.now) c.args.ts.now)))
    (shapes_end (λ t. t.now) c.args.ts.now c.loop-at.at (omega (arith, c.loop-at-test.false))))
    ∙ c.loop-at.invariant kind
