use Rattle.std.proofs.Common.{subst, sym, ap, ◌∙◌, ◌∷◌, ◌++◌, map}
use Rattle.sh_iface.specs.Splits.{OptionValue}
use Rattle.sh_choose.specs.Least.{IsBest}
use Rattle.sh_choose.specs.Proposals.{choices}
use Rattle.sh_choose.proofs.BestLaws.{hopeless_from, last_from, none_from, same_from}
use Rattle.sh_choose.proofs.search.+best_of.Goals as goal

pub returns-then-is_hopeless : goal.returns-then-is_hopeless
returns-then-is_hopeless g t c =
    λ after b. hopeless_from (g.O.HasLoops.meaning c.args.op.now).nest c.args.g.now c.args.known.now c.args.o c.args.later.now after c.args.best (c.is_hopeless.ensures c.if-is_hopeless.true) b

pub loop-split-init : goal.loop-split-init
loop-split-init g t c =
    let others = c.in-Some.others.now in
    λ new h after b.
    same_from (g.O.HasLoops.meaning c.args.op.now).nest c.args.g.now c.args.known.now c.args.o c.args.later.now (c.as_slice-rest.result.now ∷ others) after new
    (c.in-Some.ensures.cases.0 ∙ ap (λ (p : OptionValue). p ∷ others) (sym c.as_slice-rest.ensures)) (h after b)

pub loop-split-preserved : goal.loop-split-preserved
loop-split-preserved g t c =
    let nest = (g.O.HasLoops.meaning c.args.op.now).nest in
    let others = c.in-Some.others.now in
    λ new h after b.
    c.loop-split.invariant new
    (λ behind k.
    subst (λ xs. IsBest nest c.args.g.now c.args.known.now xs new)
    (sym (last_from c.args.o c.in-Some-split_last.front.now c.in_ok-longer.longer c.in-Some-split_last.split.now others c.loop-split.rest.now behind c.in-Some-split_last.ensures.cases.0 c.in_ok-longer.ensures))
    (h (map (λ r. c.in_ok-longer.longer ++ r) (choices others) ++ behind) (c.in_ok-best.ensures behind k)))
    after b

pub returns : goal.returns
returns g t c =
    λ after b. c.loop-split.invariant c.loop-split.best
    (λ behind k. none_from (g.O.HasLoops.meaning c.args.op.now).nest c.args.g.now c.args.known.now c.args.o c.loop-split.rest.now c.in-Some.others.now behind c.loop-split.best c.in_default-split_last.ensures.cases k) after b
