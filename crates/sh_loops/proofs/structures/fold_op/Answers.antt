use Rattle.std.proofs.Common.{◌≡◌, ℕ, ◌+◌, ◌≤◌, length, map, drop, refl, arith, ◌∙◌}
use Rattle.std.proofs.lemmas.List.{length-map}
use Rattle.std.proofs.lemmas.Result.{IfOk-weaker}
use Rattle.sh_loops.specs.Nests.{structured_value}
use Rattle.sh_loops.specs.Structured.{fixed_by, value_by}
use Rattle.sh_sem.specs.Given.{gives_nest}
use Rattle.sh_loops.proofs.StructuredLaws.{few_of, follow_of, none_met, parts_met, too_few_of, value_met}
use Rattle.sh_loops.proofs.structures.fold_op.Goals as goal

pub returns-then-ins-count : goal.returns-then-ins-count
returns-then-ins-count c =
    λ s e.
    let same = length-map c.args.ins.now (λ t. t.now) in
    let few : length (map (λ t. t.now) c.args.ins.now) ≤ c.len-count.result = omega (arith, same, c.if-ins-count.true) in
    too_few_of c.args.kind.now c.args.loops c.args.operands.now c.args.width (map (λ t. t.now) c.args.ins.now) c.len-count.result c.requires c.len-count.ensures few s e

pub agreed-requires-clause-few : goal.agreed-requires-clause-few
agreed-requires-clause-few c = few_of c.args.kind.now c.args.loops c.args.operands.now c.args.width (map (λ t. t.now) c.args.ins.now) c.requires

pub agreed-requires-clause-follow : goal.agreed-requires-clause-follow
agreed-requires-clause-follow c =
    follow_of c.args.kind.now c.args.loops c.args.operands.now c.args.width (map (λ t. t.now) c.args.ins.now) c.as_slice.result.now c.requires
    (c.as_slice.ensures ∙ c.in_ok-maps.ensures)

pub fold_parts-requires : goal.fold_parts-requires
fold_parts-requires c =
    (parts_met (λ t. t.now) c.args.kind.now c.args.loops c.args.operands.now c.args.width c.as_slice.result.now c.args.ins.now c.len-count.result c.index-others-0.result
    c.split_at.result.0.now c.split_at-2.result.0.now c.split_at.result.1.now c.split_at-2.result.1.now c.names_behind-captured.result.now
    c.requires c.len-count.ensures c.if-ins-count.false c.split_at.ensures.front c.split_at-2.ensures.front c.split_at.ensures.back c.split_at-2.ensures.back
    c.names_behind-captured.ensures c.index-others-0.is (c.as_slice.ensures ∙ c.in_ok-maps.ensures) c.in-Some.extents c.in-Some.ensures).can

pub returns-in-None : goal.returns-in-None
returns-in-None c =
    λ s e.
    none_met (λ t. t.now) c.args.kind.now c.args.loops c.args.operands.now c.args.width c.as_slice.result.now c.args.ins.now c.len-count.result c.index-others-0.result
    c.split_at.result.0.now c.split_at-2.result.0.now c.split_at.result.1.now c.split_at-2.result.1.now (drop (c.len-count.result + 1) c.args.operands.now)
    c.requires c.len-count.ensures c.if-ins-count.false c.split_at.ensures.front c.split_at-2.ensures.front c.split_at.ensures.back c.split_at-2.ensures.back
    refl c.index-others-0.is (c.as_slice.ensures ∙ c.in_ok-maps.ensures) c.in-None.ensures s e

pub returns-in-Some : goal.returns-in-Some
returns-in-Some c =
    λ s e.
    IfOk-weaker c.fold_parts.result _ _
    (λ out p.
    p
    ∙ value_met (λ t. t.now) c.args.kind.now c.args.loops c.args.operands.now c.args.width c.as_slice.result.now c.args.ins.now c.len-count.result c.index-others-0.result
    c.split_at.result.0.now c.split_at-2.result.0.now c.split_at.result.1.now c.split_at-2.result.1.now c.names_behind-captured.result.now
    c.requires c.len-count.ensures c.if-ins-count.false c.split_at.ensures.front c.split_at-2.ensures.front c.split_at.ensures.back c.split_at-2.ensures.back
    c.names_behind-captured.ensures c.index-others-0.is (c.as_slice.ensures ∙ c.in_ok-maps.ensures) c.in-Some.extents c.in-Some.ensures s e)
    (c.fold_parts.ensures s e)
