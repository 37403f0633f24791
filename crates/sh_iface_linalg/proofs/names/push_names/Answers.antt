use Rattle.std.proofs.Common.{◌≡◌, ◌-◌, ◌++◌, ap, arith, ◌∙◌}
use Rattle.std.specs.List.{range_with_len}
use Rattle.sh_iface_linalg.proofs.BodyCode.{name_pushed}
use Rattle.sh_iface_linalg.proofs.names.push_names.Goals as goal

pub loop-name-preserved : goal.loop-name-preserved
loop-name-preserved c = c.in_ok-push.ensures.ok ∙ name_pushed c.args.from c.loop-name.name c.args.names.now c.loop-name.names c.loop-name.auto.name c.loop-name.invariant

pub returns : goal.returns
returns c =
    let past = c.loop-name-test.false in
    let end = c.loop-name.auto.name-end in
    let le = c.requires in
    let same : c.loop-name.name ≡ c.args.below = omega (arith, past, end, le) in
    c.loop-name.invariant ∙ ap (λ n. c.args.names.now ++ range_with_len c.args.from (n - c.args.from)) same
