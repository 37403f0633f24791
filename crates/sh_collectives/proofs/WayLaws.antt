-- What a collective gives, by its way.
use Rattle.std.proofs.Common.{◌≡◌, ℕ, ◌<◌, List, length, get_or, ap, sym, ◌∙◌, subst}
use Rattle.std.specs.Prelude.{All, Option, option_and_then}
use Rattle.sh_base.specs.declared.operations.Kind.{Kind}
use Rattle.sh_collectives.specs.declared.ways.Shifting.{Shifting}
use Rattle.sh_collectives.specs.declared.ways.Way.{Way}
use Rattle.sh_collectives.specs.declared.ways.Way.TheVariants as way
use Rattle.sh_collectives.specs.Ways.{collecting_by, dims_along, source_by, shifts_by}
use Rattle.sh_sem.specs.Collected.{gathers, reduces, scatters, exchanges, scattered_shape, exchanged_shape, shifted_shape}
use Rattle.sh_sem.specs.Pieces.{joined_shape, common_shape}

module _ (w : Way) (p : ℕ) (shapes : List (List ℕ)) (o : Option (List ℕ)) where
  pub gives_gather : (axis : ℕ) → w ≡ way.Gather axis → o ≡ joined_shape axis shapes → o ≡ (collecting_by w).shape p shapes
  unfolding gathers
  gives_gather axis e h = h ∙ ap (λ v. (collecting_by v).shape p shapes) (sym e)

  pub gives_reduce : (kind : Kind) → w ≡ way.Reduce kind → o ≡ common_shape shapes → o ≡ (collecting_by w).shape p shapes
  unfolding reduces
  gives_reduce kind e h = h ∙ ap (λ v. (collecting_by v).shape p shapes) (sym e)

  pub gives_scatter : (kind : Kind) (axis : ℕ) → w ≡ way.Scatter kind axis → o ≡ option_and_then (scattered_shape axis (length shapes) p) (common_shape shapes)
      → o ≡ (collecting_by w).shape p shapes
  unfolding scatters
  gives_scatter kind axis e h = h ∙ ap (λ v. (collecting_by v).shape p shapes) (sym e)

  pub gives_exchange : (split concat : ℕ) → w ≡ way.Exchange split concat → o ≡ option_and_then (exchanged_shape split concat (length shapes) p) (common_shape shapes)
      → o ≡ (collecting_by w).shape p shapes
  unfolding exchanges
  gives_exchange split concat e h = h ∙ ap (λ v. (collecting_by v).shape p shapes) (sym e)

  pub gives_shift : (x : Shifting) → w ≡ way.Shift x → o ≡ shifted_shape (source_by x p) p shapes → o ≡ (collecting_by w).shape p shapes
  unfolding shifts_by
  gives_shift x e h = h ∙ ap (λ v. (collecting_by v).shape p shapes) (sym e)

-- each shape has the dimension
pub has_dim : (w v : Way) (shapes : List (List ℕ)) (k : ℕ) → w ≡ v → k < length (dims_along v) → All (λ a. All (λ s. a < length s) shapes) (dims_along w)
    → All (λ s. get_or (dims_along v) k 0 < length s) shapes
has_dim w v shapes k e l h = subst (λ u. All (λ a. All (λ s. a < length s) shapes) (dims_along u)) e h k 0 l
