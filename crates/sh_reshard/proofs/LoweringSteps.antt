-- What loops build for instructions: the numbers of the parts, the extents of a local type, and the
-- instructions of moves.
use Rattle.std.proofs.Common.{◌≡◌, ◌∙◌, ℕ, ◌+◌, ◌^◌, ◌<◌, ◌≤◌, List, [], ◌∷◌, ◌++◌, length, map, take, get_or, pos, ℤ, refl, ap, sym, subst, arith, append_assoc}
use Rattle.std.specs.List.{range_with_len}
use Rattle.std.proofs.lemmas.List.{append-nil, length-map, map_push, take_all, take_more}
use Rattle.std.proofs.lemmas.List.FromFn.{map-range_with_len_more}
use Rattle.sh_base.specs.declared.numbers.Width.{Width}
use Rattle.sh_ir.specs.declared.operations.Op.{Op}
use Rattle.sh_sharding.specs.Made.{IsState}
use Rattle.sh_sharding.specs.Sharding.{ShardingValue}
use Rattle.sh_ways.specs.Graph.{Leads}
use Rattle.sh_plan.specs.declared.moves.Move.{Move}
use Rattle.sh_plan.specs.Instructions.{IsMoveAt, instruction_of, instructions_of}
use Rattle.sh_plan.specs.Moves.{moved}
use Rattle.sh_plan.specs.States.{IsStateTo, towards}
use Rattle.sh_plan.proofs.PlanReshards.{move_at, same_next}
use Rattle.sh_plan.proofs.SplitLaws.{state_then, whole_then}

-- the values of a function at the first elements, and one more
pub taken_more : {X Y : Type 0} (f : X → Y) (xs : List X) (k : ℕ) (d : X) (old new : List Y) → k < length xs → old ≡ map f (take k xs) → new ≡ old ++ f (get_or xs k d) ∷ [] → new ≡ map f (take (k + 1) xs)
taken_more f xs k d old new within so pushed =
    pushed ∙ ap (λ ys. ys ++ f (get_or xs k d) ∷ []) so ∙ sym (map_push f (take k xs) (get_or xs k d)) ∙ ap (map f) (sym (take_more xs k d within))

-- all of them
pub taken_end : {X Y : Type 0} (f : X → Y) (xs : List X) (k : ℕ) (old : List Y) → length xs ≤ k → old ≡ map f (take k xs) → old ≡ map f xs
taken_end f xs k old all so = so ∙ ap (map f) (take_all k xs all)

-- the written numbers of the first parts, and one more
pub written_more : (f : ℕ → ℕ) (k : ℕ) (x : ℤ) (old new : List ℤ) → old ≡ map pos (map f (range_with_len 0 k)) → x ≡ pos (f k) → new ≡ old ++ x ∷ [] → new ≡ map pos (map f (range_with_len 0 (k + 1)))
written_more f k x old new so is pushed =
    pushed
    ∙ ap (λ y. old ++ y ∷ []) is
    ∙ ap (λ ys. ys ++ pos (f k) ∷ []) so
    ∙ sym (map_push pos (map f (range_with_len 0 k)) (f k))
    ∙ ap (map pos) (sym (map-range_with_len_more f 0 k k (omega arith)))

-- all of them
pub written_end : (f : ℕ → ℕ) (k n : ℕ) (old : List ℤ) → old ≡ map pos (map f (range_with_len 0 k)) → k ≡ n → old ≡ map pos (map f (range_with_len 0 n))
written_end f k n old so same = so ∙ ap (λ m. map pos (map f (range_with_len 0 m))) same

-- ---- the instructions of moves

-- A state on the way, with the moves that are left, the name of its value and the next one: the
-- instructions so far and those of these moves are all.
pub record IsLowered (w : Width) (to from : ShardingValue) (moves : List Move) (value first : ℕ) (s : ShardingValue) (left : List Move) (operand id : ℕ) (ops : List Op) : Type 0 where
  pub state : IsStateTo to s
  pub leads : Leads (towards to) s.dimensions left to.dimensions
  pub fits : id + length left ≤ 2 ^ 32
  pub all : ops ++ instructions_of w to s left operand id ≡ instructions_of w to from moves value first

module _ (w : Width) (to from : ShardingValue) (moves : List Move) (value first : ℕ) (target : IsState to) (s : ShardingValue) (m : Move) (left : List Move) (operand id : ℕ) (ops : List Op)
    (so : IsLowered w to from moves value first s (m ∷ left) operand id ops) where
  -- the first of the moves that are left may be made
  pub next_move : IsMoveAt s to m
  next_move = move_at s to m so.state target so.leads.0

  pub lowered_more : (next : ShardingValue) (new : List Op) → next ≡ moved s to m → new ≡ ops ++ instruction_of w s next m operand id ∷ [] → IsLowered w to from moves value first next left id (id + 1) new
  lowered_more next new is pushed =
      let state : IsStateTo to (moved s to m) =
      record { state = state_then s to m next_move; grid = so.state.grid; whole = whole_then s to m next_move ∙ so.state.whole } in
      let fits = so.fits in
      subst (λ (x : ShardingValue). IsLowered w to from moves value first x left id (id + 1) new) (sym is)
      (record {
        state = state;
        leads = subst (λ ds. Leads (towards to) ds left to.dimensions) (same_next s to m) so.leads.1;
        fits = omega (arith, fits);
        all =
            ap (λ xs. xs ++ instructions_of w to (moved s to m) left id (id + 1)) (pushed ∙ ap (λ (x : ShardingValue). ops ++ instruction_of w s x m operand id ∷ []) is)
            ∙ append_assoc ops (instruction_of w s (moved s to m) m operand id ∷ []) (instructions_of w to (moved s to m) left id (id + 1))
            ∙ so.all;
      })

-- the instructions are all once no move is left
pub lowered_all : (w : Width) (to from : ShardingValue) (moves : List Move) (value first : ℕ) (s : ShardingValue) (operand id : ℕ) (ops : List Op) (left : List Move) →
    left ≡ [] → IsLowered w to from moves value first s left operand id ops → ops ≡ instructions_of w to from moves value first
lowered_all w to from moves value first s operand id ops left none so =
    sym (append-nil ops) ∙ ap (λ ms. ops ++ instructions_of w to s ms operand id) (sym none) ∙ so.all

-- no move is left
pub none_left : (left : List Move) → length left ≡ 0 → left ≡ []
none_left [] none = refl
none_left (m ∷ left) none = cc

-- all moves are left
pub lowered_none : (w : Width) (to from : ShardingValue) (moves : List Move) (value first : ℕ) (s : ShardingValue) (id : ℕ) (ops : List Op) → IsStateTo to from →
    Leads (towards to) from.dimensions moves to.dimensions → first + length moves ≤ 2 ^ 32 → s ≡ from → id ≡ first → ops ≡ [] → IsLowered w to from moves value first s moves value id ops
lowered_none w to from moves value first s id ops state leads fits same start none =
    subst (λ (x : ShardingValue). IsLowered w to from moves value first x moves value id ops) (sym same)
    (subst (λ (n : ℕ). IsLowered w to from moves value first from moves value n ops) (sym start)
    (subst (λ (os : List Op). IsLowered w to from moves value first from moves value first os) (sym none)
    (record { state = state; leads = leads; fits = fits; all = refl })))

-- ---- a step of the loop, where the moves that are left are split into the first and the others

pub left_of : (w : Width) (to from : ShardingValue) (moves : List Move) (value first : ℕ) (s : ShardingValue) (left : List Move) (m : Move) (later : List Move) (operand id : ℕ) (ops : List Op) →
    left ≡ m ∷ later → IsLowered w to from moves value first s left operand id ops → IsLowered w to from moves value first s (m ∷ later) operand id ops
left_of w to from moves value first s left m later operand id ops split so = subst (λ ms. IsLowered w to from moves value first s ms operand id ops) split so

pub may_next : (w : Width) (to from : ShardingValue) (moves : List Move) (value first : ℕ) (s : ShardingValue) (left : List Move) (m : Move) (later : List Move) (operand id : ℕ) (ops : List Op) →
    IsState to → left ≡ m ∷ later → IsLowered w to from moves value first s left operand id ops → IsMoveAt s to m
may_next w to from moves value first s left m later operand id ops target split so =
    next_move w to from moves value first target s m later operand id ops (left_of w to from moves value first s left m later operand id ops split so)

-- the next id is one of 32 bits
pub next_fits : (w : Width) (to from : ShardingValue) (moves : List Move) (value first : ℕ) (s : ShardingValue) (left : List Move) (m : Move) (later : List Move) (operand id : ℕ) (ops : List Op) →
    left ≡ m ∷ later → IsLowered w to from moves value first s left operand id ops → id < 2 ^ 32
next_fits w to from moves value first s left m later operand id ops split so =
    let fits = (left_of w to from moves value first s left m later operand id ops split so).fits in omega (arith, fits)

pub goes_on : (w : Width) (to from : ShardingValue) (moves : List Move) (value first : ℕ) (s : ShardingValue) (left : List Move) (m : Move) (later : List Move) (operand id : ℕ) (ops : List Op) →
    IsState to → left ≡ m ∷ later → IsLowered w to from moves value first s left operand id ops → (next : ShardingValue) (new : List Op) → next ≡ moved s to m →
    new ≡ ops ++ instruction_of w s next m operand id ∷ [] → IsLowered w to from moves value first next later id (id + 1) new
goes_on w to from moves value first s left m later operand id ops target split so next new is pushed =
    lowered_more w to from moves value first target s m later operand id ops (left_of w to from moves value first s left m later operand id ops split so) next new is pushed

-- the dimensions stay as many as they are
pub next_rank : (s to : ShardingValue) (m : Move) (next : ShardingValue) → IsMoveAt s to m → next ≡ moved s to m → length s.dimensions ≡ length next.dimensions
next_rank s to m next is made =
    sym (length-map s.dimensions (λ d. d.extent))
    ∙ ap length (sym (whole_then s to m is))
    ∙ length-map (moved s to m).dimensions (λ d. d.extent)
    ∙ ap (λ (x : ShardingValue). length x.dimensions) (sym made)
