use Rattle.std.proofs.Common.{◌∙◌}
use Rattle.sh_plan.proofs.Numbers.{all_pushed, inserted, is_numbered, keeps_pushed, not_inserted, pushed_codes}
use Rattle.sh_plan.specs.States.{AreStates, IsStateTo}
use Rattle.sh_plan.proofs.exploring.number.Goals as goal

are : (c : goal.In_ok-push) → AreStates c.args.to.now (record { codes = c.insert_full.new.self; known = c.push.new.self })
are c = record {
  each = all_pushed (IsStateTo c.args.to.now) c.args.states.now.known.items c.push.new.self.items c.args.s c.requires.states.each c.requires.state c.in_ok-push.ensures.items;
  codes = pushed_codes c.args.states.now.codes.keys c.insert_full.new.self.keys c.args.states.now.known.items c.push.new.self.items c.args.s c.in_ok-code.code
      c.requires.states.codes (inserted c.args.states.now.codes.keys c.insert_full.new.self.keys c.in_ok-code.code c.in_ok-n.is_new c.in_ok-n.ensures.added c.in_ok-n.ensures.keys c.if-is_new.true)
      c.in_ok-code.ensures c.in_ok-push.ensures.items;
  once = c.in_ok-n.ensures.unique;
}

pub returns-in_ok-push-clause-states : goal.returns-in_ok-push-clause-states
returns-in_ok-push-clause-states c = are c

pub returns-in_ok-push-clause-keeps : goal.returns-in_ok-push-clause-keeps
returns-in_ok-push-clause-keeps c = keeps_pushed c.args.states.now.known.items c.push.new.self.items c.args.s c.in_ok-push.ensures.items

pub returns-in_ok-push-clause-named : goal.returns-in_ok-push-clause-named
returns-in_ok-push-clause-named c =
    let stored = c.in_ok-n.ensures.stored in
    is_numbered c.args.to.now c.args.s (record { codes = c.insert_full.new.self; known = c.push.new.self }) c.in_ok-code.code c.in_ok-n.n (are c) c.requires.state c.in_ok-code.ensures stored.0 stored.1 stored.2

pub returns-else-is_new-clause-named : goal.returns-else-is_new-clause-named
returns-else-is_new-clause-named c =
    let stored = c.in_ok-n.ensures.stored in
    is_numbered c.args.to.now c.args.s (record { codes = c.insert_full.new.self; known = c.args.states.now.known }) c.in_ok-code.code c.in_ok-n.n
    (record {
      each = c.requires.states.each;
      codes = not_inserted c.args.states.now.codes.keys c.insert_full.new.self.keys c.in_ok-code.code c.in_ok-n.is_new c.in_ok-n.ensures.added c.in_ok-n.ensures.keys c.if-is_new.false ∙ c.requires.states.codes;
      once = c.in_ok-n.ensures.unique;
    }) c.requires.state c.in_ok-code.ensures stored.0 stored.1 stored.2
