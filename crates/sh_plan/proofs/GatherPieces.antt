-- Which pieces the cuts of a group are, for the moves that gather a dimension or exchange an axis.
use Rattle.std.proofs.Common.{◌≡◌, ◌≢◌, ◌∙◌, ℕ, ◌-◌, ◌<◌, ◌==◌, Bool, true, false, not, ◌&&◌, List, [], ◌∷◌, ◌++◌, length, take, get_or, set, refl, ap, sym, subst, arith}
use Rattle.std.proofs.lemmas.Bool.{not-true}
use Rattle.std.proofs.lemmas.Bool.Decides.{nat_tests}
use Rattle.std.proofs.lemmas.List.{get_or-set_other, length-set}
use Rattle.sh_grid.specs.Grid.{AreAxesOf}
use Rattle.sh_sharding.specs.declared.shardings.Dimension.{Dimension}
use Rattle.sh_sharding.specs.Made.{IsState}
use Rattle.sh_sharding.specs.Sharding.{ShardingValue, is_even, offset_at, unsplit}
use Rattle.sh_sharding.proofs.Cases.{and_left, and_right}
use Rattle.sh_plan.specs.declared.moves.Move.TheVariants.{M1, M3, M4}
use Rattle.sh_plan.specs.Instructions.{IsMoveAt}
use Rattle.sh_plan.specs.Moves.{after, at, is_even_or_unsplit, last_axis, may, may_append, may_be, moved, with_axis, without_last}
use Rattle.sh_plan.proofs.FinerMoves.{coarser, equal_starts, even_pieces, even_pieces_last, finer, of_state, whole_pieces}
use Rattle.sh_plan.proofs.FinerParts.{ArePieced, IsPieced}
use Rattle.sh_plan.proofs.MoveSteps.{last_apart, last_within}
use Rattle.sh_plan.proofs.MovedSteps.{is_dropped}
use Rattle.sh_plan.proofs.SplitLaws.{dimension_then, state_then}
use Rattle.sh_plan.proofs.States.{even_is, some_split}

-- ---- an even dimension without its last axis

-- the pieces of the cuts by a state where the last axis of an even dimension is dropped
pub record IsGathered (s : ShardingValue) (d : ℕ) : Type 0 where
  pub axes : AreAxesOf (length s.grid.extents) (last_axis (at s.dimensions d) ∷ [])
  pub pieced : ArePieced s.grid.extents (last_axis (at s.dimensions d) ∷ []) (equal_starts s.grid.extents (at s.dimensions d)) d s.dimensions
      (set s.dimensions d (without_last (at s.dimensions d)))

is_gathered : (s : ShardingValue) (d : ℕ) → IsState s → d < length s.dimensions → is_even s.grid.extents (at s.dimensions d) ≡ true → IsGathered s d
is_gathered s d state within even =
    let own = of_state s d state within in
    let split = (even_is s.grid.extents (at s.dimensions d) even).split in
    record {
      axes = (last_within s.grid.extents (at s.dimensions d) own.axes split, tt, tt);
      pieced = coarser s d (last_axis (at s.dimensions d) ∷ []) (equal_starts s.grid.extents (at s.dimensions d)) (without_last (at s.dimensions d)) (without_last (at s.dimensions d)).axes
          state within (last_apart (at s.dimensions d).axes (some_split (at s.dimensions d).axes split))
          (even_pieces_last s.grid.extents (at s.dimensions d) state.sharding.grid own.axes even);
    }

pub gathered_last : (s to : ShardingValue) (d : ℕ) → IsMoveAt s to (M1 d) → IsGathered s d
unfolding may
gathered_last s to d is = is_gathered s d is.state is.named is.allowed

-- ---- a dimension gathered whole

pub record IsGatheredWhole (s : ShardingValue) (d : ℕ) : Type 0 where
  pub axes : AreAxesOf (length s.grid.extents) (at s.dimensions d).axes
  pub pieced : ArePieced s.grid.extents (at s.dimensions d).axes (λ c q. offset_at s.grid.extents (at s.dimensions d) q) d s.dimensions
      (set s.dimensions d (unsplit (at s.dimensions d).extent))

pub gathered_whole : (s to : ShardingValue) (d : ℕ) → IsMoveAt s to (M4 d) → IsGatheredWhole s d
gathered_whole s to d is =
    let own = of_state s d is.state is.named in
    record {
      axes = own.axes;
      pieced = coarser s d (at s.dimensions d).axes (λ c q. offset_at s.grid.extents (at s.dimensions d) q) (unsplit (at s.dimensions d).extent) []
          is.state is.named refl (whole_pieces s.grid.extents (at s.dimensions d) is.state.sharding.grid own.axes own.dimension.divided);
    }

-- ---- an axis that goes from one dimension to another

-- through the sharding that has it at neither
pub record IsExchanged (s to : ShardingValue) (d e : ℕ) : Type 0 where
  pub apart : d ≢ e
  pub middle : IsState (record s { dimensions = set s.dimensions d (without_last (at s.dimensions d)) })
  pub gathered : IsGathered s d
  pub sliced : ArePieced s.grid.extents (last_axis (at s.dimensions d) ∷ []) (equal_starts s.grid.extents (with_axis (at s.dimensions e) (last_axis (at s.dimensions d)))) e
      (moved s to (M3 d e)).dimensions (set s.dimensions d (without_last (at s.dimensions d)))

record IsExchange (s : ShardingValue) (d e : ℕ) : Type 0 where
  apart : d ≢ e
  even : is_even s.grid.extents (at s.dimensions d) ≡ true
  even_then : is_even s.grid.extents (with_axis (at s.dimensions e) (last_axis (at s.dimensions d))) ≡ true

differ : (d e : ℕ) → d ≡ e → (d == e) ≡ false → ⊥
differ d e same other = let test : (d == e) ≡ true = rw same (grind (arith, nat_tests)) in cc

is_exchange : (s to : ShardingValue) (d e : ℕ) → may_be s to (M3 d e) ≡ true → IsExchange s d e
unfolding may
is_exchange s to d e allowed =
    let a = last_axis (at s.dimensions d) in
    let other : (d == e) ≡ false = not-true (d == e) (and_left (not (d == e)) (is_even s.grid.extents (at s.dimensions d) && may_append s.grid.extents s.dimensions e a) allowed) in
    let both = and_right (not (d == e)) (is_even s.grid.extents (at s.dimensions d) && may_append s.grid.extents s.dimensions e a) allowed in
    let appends = and_right (is_even s.grid.extents (at s.dimensions d)) (may_append s.grid.extents s.dimensions e a) both in
    record {
      apart = λ same. differ d e same other;
      even = and_left (is_even s.grid.extents (at s.dimensions d)) (may_append s.grid.extents s.dimensions e a) both;
      even_then = and_right (is_even_or_unsplit s.grid.extents (at s.dimensions e)) (is_even s.grid.extents (with_axis (at s.dimensions e) a)) appends;
    }

pub exchanged : (s to : ShardingValue) (d e : ℕ) → IsMoveAt s to (M3 d e) → IsExchanged s to d e
unfolding after
exchanged s to d e is =
    let x = is_exchange s to d e is.allowed in
    let a = last_axis (at s.dimensions d) in
    let mid : List Dimension = set s.dimensions d (without_last (at s.dimensions d)) in
    let within : e < length mid = rw (length-set s.dimensions d (without_last (at s.dimensions d))) is.named.1 in
    let there : at mid e ≡ at s.dimensions e = get_or-set_other s.dimensions d e (without_last (at s.dimensions d)) (unsplit 0) (λ same. x.apart (sym same)) in
    let state = state_then s to (M3 d e) is in
    let own = dimension_then s mid e (with_axis (at s.dimensions e) a) state within in
    let pieces : IsPieced s.grid.extents (a ∷ []) (equal_starts s.grid.extents (with_axis (at s.dimensions e) a)) (with_axis (at s.dimensions e) a) (at mid e) =
    subst (λ (y : Dimension). IsPieced s.grid.extents (a ∷ []) (equal_starts s.grid.extents (with_axis (at s.dimensions e) a)) (with_axis (at s.dimensions e) a) y) (sym there)
    (even_pieces s.grid.extents (at s.dimensions e) a is.state.sharding.grid own.axes x.even_then) in
    record {
      apart = x.apart;
      middle = is_dropped s d is.state is.named.0 x.even;
      gathered = is_gathered s d is.state is.named.0 x.even;
      sliced = finer s mid e (a ∷ []) (equal_starts s.grid.extents (with_axis (at s.dimensions e) a)) (with_axis (at s.dimensions e) a) (at s.dimensions e).axes
          state.sharding.axes within refl pieces;
    }
