-- The instructions of a plan keep the limits and the rules of device form, one after the other.
use Rattle.std.proofs.Common.{◌≡◌, ◌∙◌, ℕ, suc, ◌+◌, false, true, List, [], ◌∷◌, length, refl, subst, arith}
use Rattle.std.specs.Prelude.{nat_eq}
use Rattle.std.specs.List.{AllByRecursion}
use Rattle.std.proofs.lemmas.Bool.Decides.{nat_tests}
use Rattle.sh_base.specs.declared.numbers.Width.{Width}
use Rattle.sh_ir.specs.Scope.{Scope, scope_after, value_of}
use Rattle.sh_ir.proofs.KeptLaws.{keeps_next, scope_behind}
use Rattle.sh_sharding.specs.Made.{IsState}
use Rattle.sh_sharding.specs.Sharding.{ShardingValue}
use Rattle.sh_ways.specs.Graph.{Leads}
use Rattle.sh_plan.specs.declared.moves.Move.{Move}
use Rattle.sh_plan.specs.declared.plans.Plan.{Plan}
use Rattle.sh_plan.specs.Instructions.{IsMoveAt, IsPlainPlan, instruction_of, instructions_of, last_name}
use Rattle.sh_plan.specs.Moves.{moved}
use Rattle.sh_plan.specs.States.{IsStateTo, towards}
use Rattle.sh_plan.proofs.PlanReshards.{move_at, plain_leads, plain_source, plain_target, same_next}
use Rattle.sh_plan.proofs.SplitLaws.{state_then, whole_then}
use Rattle.sh_reshard.specs.Soundness.{AreSound, IsReshardScope, states_along}
use Rattle.sh_reshard.proofs.SoundMoves.{move_keeps}

-- where a move leads to is a state on the way
state_on : (to s : ShardingValue) (m : Move) → IsStateTo to s → IsMoveAt s to m → IsStateTo to (moved s to m)
state_on to s m is move = record { state = state_then s to m move; grid = is.grid; whole = whole_then s to m move ∙ is.whole }

-- behind an instruction the next one may stand
next_scope : (w : Width) (s to : ShardingValue) (m : Move) (value first : ℕ) (scope : Scope) → IsReshardScope w s value first scope →
    IsReshardScope w (moved s to m) first (first + 1) (scope_after scope (instruction_of w s (moved s to m) m value first))
next_scope w s to m value first scope at_scope =
    let op = instruction_of w s (moved s to m) m value first in
    let own : nat_eq first first ≡ true = grind (arith, nat_tests) in
    record {
      device = at_scope.device;
      item = at_scope.item;
      grid = at_scope.grid;
      extents = at_scope.extents;
      held = value_of op first;
      there = rw own refl;
      typed = refl;
      fresh = λ name above.
          let other : nat_eq first name ≡ false = grind (arith, nat_tests) in
          rw other (at_scope.fresh name (omega (arith, above)));
    }

module _ (w : Width) (to : ShardingValue) (target : IsState to) where
  moves_sound : (ms : List Move) (s : ShardingValue) (value first : ℕ) (scope : Scope) → IsStateTo to s → Leads (towards to) s.dimensions ms to.dimensions →
      IsReshardScope w s value first scope → AreSound w to s ms value first scope
  moves_sound [] s value first scope is leads at_scope =
      let there : s ≡ to = λ j. record { grid = is.grid j; dimensions = leads j } in
      let next : first ≡ first + 0 = omega arith in
      record {
        keeps = λ rule. refl;
        behind = subst (λ (n : ℕ). IsReshardScope w to value n scope) next (subst (λ (x : ShardingValue). IsReshardScope w x value first scope) there at_scope);
      }
  moves_sound (m ∷ ms) s value first scope is leads at_scope =
      let move = move_at s to m is target leads.0 in
      let state = state_on to s m is move in
      let op = instruction_of w s (moved s to m) m value first in
      let rest = moves_sound ms (moved s to m) first (first + 1) (scope_after scope op) state (subst (λ ds. Leads (towards to) ds ms to.dimensions) (same_next s to m) leads.1)
      (next_scope w s to m value first scope at_scope) in
      let next : first + 1 + length ms ≡ first + suc (length ms) = omega arith in
      record {
        keeps = λ rule.
            keeps_next rule scope op (instructions_of w to (moved s to m) ms first (first + 1)) (move_keeps w s to value first scope at_scope m rule move) (rest.keeps rule);
        behind = subst (λ (n : ℕ). IsReshardScope w to (last_name ms first (first + 1)) n (scope_behind (scope_after scope op) (instructions_of w to (moved s to m) ms first (first + 1)))) next
            rest.behind;
      }

module _ (to : ShardingValue) (target : IsState to) where
  states_sound : (ms : List Move) (s : ShardingValue) → IsStateTo to s → Leads (towards to) s.dimensions ms to.dimensions → AllByRecursion (IsStateTo to) (states_along to s ms)
  states_sound [] s is leads = (is, tt)
  states_sound (m ∷ ms) s is leads =
      let move = move_at s to m is target leads.0 in
      let state = state_on to s m is move in
      (is, states_sound ms (moved s to m) state (subst (λ ds. Leads (towards to) ds ms to.dimensions) (same_next s to m) leads.1))

pub plan_sound : (w : Width) (from to : ShardingValue) (p : Plan) (value first : ℕ) (scope : Scope) → IsPlainPlan from to p → IsReshardScope w from value first scope →
    AreSound w to from p.moves value first scope
plan_sound w from to p value first scope is at_scope =
    moves_sound w to (plain_target from to p is) p.moves from value first scope (plain_source from to p is) (plain_leads from to p is) at_scope

pub plan_states : (from to : ShardingValue) (p : Plan) → IsPlainPlan from to p → AllByRecursion (IsStateTo to) (states_along to from p.moves)
plan_states from to p is = states_sound to (plain_target from to p is) p.moves from (plain_source from to p is) (plain_leads from to p is)
