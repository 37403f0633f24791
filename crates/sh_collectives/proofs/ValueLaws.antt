-- What a collective gives at a place, by its way.
use Rattle.std.proofs.Common.{◌≡◌, ℕ, List, length, ap, sym, ◌∙◌, subst, Some}
use Rattle.std.specs.Prelude.{option_and_then}
use Rattle.sh_base.specs.declared.numbers.Width.{Width}
use Rattle.sh_base.specs.declared.operations.Kind.{Kind}
use Rattle.sh_sem.specs.Collected.{gathers, reduces, scatters, exchanges, combined_at, scattered_shape, exchanged_shape, shifted_cell, shifted_shape}
use Rattle.sh_sem.specs.Pieces as pieces
use Rattle.sh_tensor.specs.Tensor.{TensorValue, build, joined_at}
use Rattle.sh_collectives.specs.declared.ways.Shifting.{Shifting}
use Rattle.sh_collectives.specs.declared.ways.Way.{Way}
use Rattle.sh_collectives.specs.declared.ways.Way.TheVariants as way
use Rattle.sh_collectives.specs.Operands.{pieces_at}
use Rattle.sh_collectives.specs.Ways.{collecting_by, source_by, shifts_by}

-- the shape at a place, by the way
module _ (w : Way) (p : ℕ) (shapes : List (List ℕ)) (s : List ℕ) (h : (collecting_by w).shape p shapes ≡ Some s) where
  pub of_gather : (axis : ℕ) → w ≡ way.Gather axis → pieces.joined_shape axis shapes ≡ Some s
  unfolding gathers
  of_gather axis e = subst (λ v. (collecting_by v).shape p shapes ≡ Some s) e h

  pub of_reduce : (kind : Kind) → w ≡ way.Reduce kind → pieces.common_shape shapes ≡ Some s
  unfolding reduces
  of_reduce kind e = subst (λ v. (collecting_by v).shape p shapes ≡ Some s) e h

  pub of_scatter : (kind : Kind) (axis n : ℕ) → w ≡ way.Scatter kind axis → length shapes ≡ n → option_and_then (scattered_shape axis n p) (pieces.common_shape shapes) ≡ Some s
  unfolding scatters
  of_scatter kind axis n e many =
      ap (λ m. option_and_then (scattered_shape axis m p) (pieces.common_shape shapes)) (sym many) ∙ subst (λ v. (collecting_by v).shape p shapes ≡ Some s) e h

  pub of_exchange : (split concat n : ℕ) → w ≡ way.Exchange split concat → length shapes ≡ n → option_and_then (exchanged_shape split concat n p) (pieces.common_shape shapes) ≡ Some s
  unfolding exchanges
  of_exchange split concat n e many =
      ap (λ m. option_and_then (exchanged_shape split concat m p) (pieces.common_shape shapes)) (sym many) ∙ subst (λ v. (collecting_by v).shape p shapes ≡ Some s) e h

  pub of_shift : (x : Shifting) → w ≡ way.Shift x → shifted_shape (source_by x p) p shapes ≡ Some s
  unfolding shifts_by
  of_shift x e = subst (λ v. (collecting_by v).shape p shapes ≡ Some s) e h

-- the tensor at a place, by the way
module _ (w : Way) (p : ℕ) (ts : List TensorValue) (s : List ℕ) (width : Width) where
  pub value_gather : (axis : ℕ) → w ≡ way.Gather axis → build s width (joined_at axis ts) ≡ build s width ((collecting_by w).cell p ts)
  unfolding gathers
  value_gather axis e = ap (λ v. build s width ((collecting_by v).cell p ts)) (sym e)

  pub value_reduce : (kind : Kind) → w ≡ way.Reduce kind → build s width (combined_at kind ts) ≡ build s width ((collecting_by w).cell p ts)
  unfolding reduces
  value_reduce kind e = ap (λ v. build s width ((collecting_by v).cell p ts)) (sym e)

  pub value_scatter : (kind : Kind) (axis : ℕ) → w ≡ way.Scatter kind axis → build s width (combined_at kind (pieces_at axis p ts)) ≡ build s width ((collecting_by w).cell p ts)
  unfolding scatters
  value_scatter kind axis e = ap (λ v. build s width ((collecting_by v).cell p ts)) (sym e)

  pub value_exchange : (split concat : ℕ) → w ≡ way.Exchange split concat → build s width (joined_at concat (pieces_at split p ts)) ≡ build s width ((collecting_by w).cell p ts)
  unfolding exchanges
  value_exchange split concat e = ap (λ v. build s width ((collecting_by v).cell p ts)) (sym e)

  pub value_shift : (x : Shifting) → w ≡ way.Shift x → build s width (λ i. shifted_cell (source_by x p) ts i) ≡ build s width ((collecting_by w).cell p ts)
  unfolding shifts_by
  value_shift x e = ap (λ v. build s width ((collecting_by v).cell p ts)) (sym e)
