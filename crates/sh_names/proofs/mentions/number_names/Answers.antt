use Rattle.std.proofs.Common.{◌≡◌, ◌∙◌, sym, length, arith}
use Rattle.sh_names.proofs.Along.{broken, none_of, steps_end, taken, tokens_end}
use Rattle.sh_names.proofs.mentions.number_names.Goals as goal

pub returns-in_default-split_first : goal.returns-in_default-split_first
returns-in_default-split_first c =
    tokens_end _ _ _ _ _ c.loop-event.events.now c.in-Some.more.now c.in-Some.event.now c.loop-event.tokens.now
    c.in-Some.ensures.cases.0 c.in-Took.is (none_of _ c.in_default-split_first.ensures.cases) c.loop-event.invariant

pub returns-then-not-branch : goal.returns-then-not-branch
returns-then-not-branch c =
    let kept = c.loop-event.pass.ids.ok.0 in
    let at = c.len-at.ensures in
    let counted : c.len-at.result ≡ length c.loop-event.pass.ids.items = omega arith in
    broken _ _ _ _ _ c.loop-event.events.now c.in-Some.more.now c.in-Some.event.now c.loop-event.tokens.now c.in-Some-split_first.behind.now
    c.in-Some-split_first.token.now c.in-Some.ensures.cases.0 c.in-Took.is c.in-Some-split_first.ensures.cases.0 c.loop-event.invariant
    c.role.result c.bytes_of-bytes.result.now c.role.ensures c.bytes_of-bytes.ensures c.len-at.result counted
    (sym (c.in_ok-take-in-Took.ensures.kept _ c.loop-event.invariant.passing) ∙ c.if-not-branch.true)

pub loop-event-preserved : goal.loop-event-preserved
loop-event-preserved c =
    taken _ _ _ _ _ c.loop-event.events.now c.in-Some.more.now c.in-Some.event.now c.loop-event.tokens.now c.in-Some-split_first.behind.now
    c.in-Some-split_first.token.now c.in-Some.ensures.cases.0 c.in-Took.is c.in-Some-split_first.ensures.cases.0 c.loop-event.invariant
    c.role.result c.bytes_of-bytes.result.now c.role.ensures c.bytes_of-bytes.ensures c.take.new.self c.pass-scope.result c.pass-scope.ensures
    (λ ms passing. c.in_ok-take-in-Took.ensures.passing ms passing c.if-not-branch.false)

pub returns : goal.returns
returns c = steps_end _ _ _ _ _ c.loop-event.events.now c.loop-event.tokens.now (none_of _ c.in_default.ensures.cases) c.loop-event.invariant
