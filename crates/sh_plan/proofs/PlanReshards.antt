-- The instructions of a list of moves make the cuts by the source those by the target, where each
-- move's instruction does.
use Rattle.std.proofs.Common.{ap₂, ◌≡◌, ◌∙◌, ℕ, suc, ◌+◌, ◌<◌, true, List, [], ◌∷◌, ◌++◌, length, map, All, refl, ap, sym, subst, arith}
use Rattle.std.specs.Prelude.{Contains}
use Rattle.std.proofs.lemmas.List.Elements.{All-contains, All-head, All-tail}
use Rattle.sh_base.specs.declared.numbers.Width.{Width}
use Rattle.sh_grid.specs.Grid.{GridValue}
use Rattle.sh_pieces.specs.Promises.{IsReshard}
use Rattle.sh_pieces.proofs.Steps.{reshard_none, reshard_then}
use Rattle.sh_sem.specs.Steps.{steps_on}
use Rattle.sh_sharding.specs.declared.shardings.Dimension.{Dimension}
use Rattle.sh_sharding.specs.Made.{IsState, plain}
use Rattle.sh_sharding.specs.Sharding.{HasNoHalos, ShardingValue}
use Rattle.sh_sharding.specs.Splits.{tensor_splitting}
use Rattle.sh_ways.specs.Graph.{Leads}
use Rattle.sh_ways.proofs.Least.{plan_leads}
use Rattle.sh_plan.specs.declared.moves.Move.{Move}
use Rattle.sh_plan.specs.declared.moves.Move.TheVariants.{M1, M2, M3, M4, M5}
use Rattle.sh_plan.specs.declared.plans.Plan.{Plan}
use Rattle.sh_plan.specs.Costs.{reshards}
use Rattle.sh_plan.specs.Instructions.{IsMoveAt, IsPlainPlan, Reshards, ReshardsAlong, instruction_of, instructions_of, last_name, split_of}
use Rattle.sh_plan.specs.Moves.{IsNamedAt, after, may_be, moved, moves_from}
use Rattle.sh_plan.specs.Plans.{reshards_to, state_of}
use Rattle.sh_plan.specs.Replication.{IsReplicated, IsSplitMove}
use Rattle.sh_plan.specs.States.{IsStateTo, towards}
use Rattle.sh_plan.proofs.EdgeRows.{are_allowed, are_named, moved_to, moves_are}
use Rattle.sh_plan.proofs.Replication.{plan_splits}
use Rattle.sh_plan.proofs.SplitLaws.{slice_reshards, state_then, take_reshards}

-- a move of a state is one that may be made
pub move_at : (s to : ShardingValue) (m : Move) → IsStateTo to s → IsState to → Contains ((towards to).moves s.dimensions) m → IsMoveAt s to m
move_at s to m is target there =
    let here : Contains (moves_from s to) m = subst (λ ms. Contains ms m) (sym (moves_are s to (moves_from s to) is refl)) there in
    record {
      state = is.state;
      target = target;
      grid = is.grid;
      whole = is.whole;
      named = All-contains (IsNamedAt s) (moves_from s to) m (are_named s to (moves_from s to) refl) here;
      allowed = All-contains (λ m. may_be s to m ≡ true) (moves_from s to) m (are_allowed s to (moves_from s to) refl) here;
    }

pub same_next : (s to : ShardingValue) (m : Move) → (towards to).to s.dimensions m ≡ (moved s to m).dimensions
unfolding reshards
same_next s to m = refl

-- ---- plans without halos

plain_own : (ds : List Dimension) → HasNoHalos ds → map plain ds ≡ ds
plain_own [] none = refl
plain_own (d ∷ ds) none = ap₂ (λ (x : Dimension) xs. x ∷ xs) (λ j. record d { low = sym none.0.0 j; high = sym none.0.1 j }) (plain_own ds none.1)

pub plain_source : (from to : ShardingValue) (p : Plan) → IsPlainPlan from to p → IsStateTo to from
plain_source from to p is = record { state = record { sharding = is.pair.source; plain = is.source }; grid = is.pair.grid; whole = is.pair.whole }

pub plain_target : (from to : ShardingValue) (p : Plan) → IsPlainPlan from to p → IsState to
plain_target from to p is = record { sharding = is.pair.target; plain = is.target }

-- its moves lead from the one to the other
pub plain_leads : (from to : ShardingValue) (p : Plan) → IsPlainPlan from to p → Leads (towards to) from.dimensions p.moves to.dimensions
plain_leads from to p is =
    let leads = plan_leads (reshards_to to) (state_of from) p.moves (state_of to) is.plan.moves in
    subst (λ ds. Leads (towards to) ds p.moves to.dimensions) (plain_own from.dimensions is.source)
    (subst (λ ts. Leads (reshards to.grid.extents ts) (state_of from) p.moves ts) (plain_own to.dimensions is.target) leads)

-- ---- a list of moves

module _ (w : Width) (to : ShardingValue) (target : IsState to) (P : Move → Type 0)
    (law : (s : ShardingValue) (m : Move) (value name : ℕ) → P m → IsMoveAt s to m → Reshards w s (moved s to m) m value name) where
  pub along : (ms : List Move) (s : ShardingValue) (value first : ℕ) → IsStateTo to s → All P ms → Leads (towards to) s.dimensions ms to.dimensions → value < first → ReshardsAlong w s to ms value first
  along [] s value first is all leads below =
      let there : s ≡ to = λ j. record { grid = is.grid j; dimensions = leads j } in
      let next : first ≡ first + 0 = omega arith in
      subst (λ (n : ℕ). IsReshard (steps_on to.grid.extents) tensor_splitting (split_of w s) (split_of w to) value first value n []) next
      (subst (λ (x : ShardingValue). IsReshard (steps_on to.grid.extents) tensor_splitting (split_of w x) (split_of w to) value first value first []) (sym there)
      (reshard_none (steps_on to.grid.extents) tensor_splitting (split_of w to) value first below))
  along (m ∷ ms) s value first is all leads below =
      let move = move_at s to m is target leads.0 in
      let state = moved_to to s (moved s to m) m is refl (state_then s to m move) in
      let one : IsReshard (steps_on to.grid.extents) tensor_splitting (split_of w s) (split_of w (moved s to m)) value first first (first + 1) (instruction_of w s (moved s to m) m value first ∷ []) =
      subst (λ (gv : GridValue). IsReshard (steps_on gv.extents) tensor_splitting (split_of w s) (split_of w (moved s to m)) value first first (first + 1) (instruction_of w s (moved s to m) m value first ∷ [])) is.grid
      (law s m value first (All-head P m ms all) move) in
      let rest = along ms (moved s to m) first (first + 1) state (All-tail P m ms all)
      (subst (λ ds. Leads (towards to) ds ms to.dimensions) (same_next s to m) leads.1) (omega arith) in
      let next : first + 1 + length ms ≡ first + suc (length ms) = omega arith in
      subst (λ (n : ℕ). IsReshard (steps_on to.grid.extents) tensor_splitting (split_of w s) (split_of w to) value first (last_name ms first (first + 1)) n (instructions_of w to s (m ∷ ms) value first)) next
      (reshard_then (steps_on to.grid.extents) tensor_splitting (split_of w s) (split_of w (moved s to m)) (split_of w to) value first (last_name ms first (first + 1)) first (first + 1) (first + 1 + length ms)
      (instruction_of w s (moved s to m) m value first ∷ []) (instructions_of w to (moved s to m) ms first (first + 1)) one rest)

  pub along_plan : (from : ShardingValue) (p : Plan) (value first : ℕ) → IsPlainPlan from to p → All P p.moves → value < first → ReshardsAlong w from to p.moves value first
  along_plan from p value first is all below =
      along p.moves from value first (plain_source from to p is) all (plain_leads from to p is) below

-- ---- from replication

split_reshards : (w : Width) (to s : ShardingValue) (m : Move) (value name : ℕ) → IsSplitMove m → IsMoveAt s to m → Reshards w s (moved s to m) m value name
split_reshards w to s (M1 d) value name splits is = absurd splits
split_reshards w to s (M2 d a) value name splits is = slice_reshards w s to d a value name is
split_reshards w to s (M3 d e) value name splits is = absurd splits
split_reshards w to s (M4 d) value name splits is = absurd splits
split_reshards w to s (M5 d) value name splits is = take_reshards w s to d value name is

pub split_plan : (w : Width) (from to : ShardingValue) (p : Plan) (value first : ℕ) → IsPlainPlan from to p → IsReplicated from → value < first → ReshardsAlong w from to p.moves value first
split_plan w from to p value first is none below =
    along_plan w to (plain_target from to p is) IsSplitMove (split_reshards w to) from p value first is (plan_splits from to p is.plan is.pair none).moves below
