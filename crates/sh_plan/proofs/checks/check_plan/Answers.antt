use Rattle.std.proofs.Common.{IsTrue, rules, subst, sym}
use Rattle.sh_plan.specs.Checks.{IsChecked}
use Rattle.sh_plan.proofs.CertificateLaws.{least}
use Rattle.sh_plan.proofs.TableCheck.{certificate_of, checked_of, ready}
use Rattle.sh_plan.proofs.checks.check_plan.Goals as goal

pub returns-then-is_shown-clause-exact : goal.returns-then-is_shown-clause-exact
returns-then-is_shown-clause-exact c =
    let states : IsTrue c.are_states.result = search rules in
    let rising : IsTrue c.is_rising.result = search rules in
    let shown : IsTrue c.is_shown.result = search rules in
    let x = c.in-Some.ensures.place in
    let e = c.in-Some-place_of_plain.ensures.place in
    let r = ready c.args.from.now c.args.to.now c.args.p.now c.as_slice-table.result.now x.entry e.entry c.index-table-goal.result c.in-Some.start c.in-Some-place_of_plain.goal c.as_slice-table.ensures
    (c.are_states.ensures.states states) (c.are_states.ensures.free.0 states) (c.is_rising.ensures.0 rising) x.found x.state e.found e.state c.index-table-goal.is in
    let checked = subst (λ l. IsChecked l x.entry c.index-table-goal.result c.args.p.now) c.as_slice-table.ensures ((c.is_shown.ensures x.entry x.found).0 shown) in
    ((λ f. certificate_of c.args.from.now c.args.to.now c.args.p.now x.entry c.index-table-goal.result r (c.are_flags.ensures.0 f) checked), (λ h. c.are_flags.ensures.1 h.flags))

pub returns-then-is_shown-clause-least : goal.returns-then-is_shown-clause-least
returns-then-is_shown-clause-least c = λ f.
    let states : IsTrue c.are_states.result = search rules in
    let rising : IsTrue c.is_rising.result = search rules in
    let shown : IsTrue c.is_shown.result = search rules in
    let x = c.in-Some.ensures.place in
    let e = c.in-Some-place_of_plain.ensures.place in
    let r = ready c.args.from.now c.args.to.now c.args.p.now c.as_slice-table.result.now x.entry e.entry c.index-table-goal.result c.in-Some.start c.in-Some-place_of_plain.goal c.as_slice-table.ensures
    (c.are_states.ensures.states states) (c.are_states.ensures.free.0 states) (c.is_rising.ensures.0 rising) x.found x.state e.found e.state c.index-table-goal.is in
    let checked = subst (λ l. IsChecked l x.entry c.index-table-goal.result c.args.p.now) c.as_slice-table.ensures ((c.is_shown.ensures x.entry x.found).0 shown) in
    least c.args.from.now c.args.to.now c.args.p.now (certificate_of c.args.from.now c.args.to.now c.args.p.now x.entry c.index-table-goal.result r (c.are_flags.ensures.0 f) checked)

pub returns-else-is_shown-clause-exact : goal.returns-else-is_shown-clause-exact
returns-else-is_shown-clause-exact c =
    let states : IsTrue c.are_states.result = search rules in
    let rising : IsTrue c.is_rising.result = search rules in
    let x = c.in-Some.ensures.place in
    let e = c.in-Some-place_of_plain.ensures.place in
    let r = ready c.args.from.now c.args.to.now c.args.p.now c.as_slice-table.result.now x.entry e.entry c.index-table-goal.result c.in-Some.start c.in-Some-place_of_plain.goal c.as_slice-table.ensures
    (c.are_states.ensures.states states) (c.are_states.ensures.free.0 states) (c.is_rising.ensures.0 rising) x.found x.state e.found e.state c.index-table-goal.is in (
      (λ t. absurd (search rules)),
      (λ h. (c.is_shown.ensures x.entry x.found).1
          (subst (λ l. IsChecked l x.entry c.index-table-goal.result c.args.p.now) (sym c.as_slice-table.ensures) (checked_of c.args.from.now c.args.to.now c.args.p.now x.entry c.index-table-goal.result r h))),
    )
