-- One place answers for all, but of a shift.
use Rattle.std.proofs.Common.{◌≡◌, ℕ, Bool, true, false, List, length, refl, ap, Some, None}
use Rattle.std.specs.Prelude.{Option, option_and_then, option_map, if◌then◌else◌}
use Rattle.sh_ir.specs.declared.types.Dim.{Dim}
use Rattle.sh_sem.specs.Collected.{gathers, reduces, scatters, exchanges, scattered_shape, exchanged_shape}
use Rattle.sh_sem.specs.Given.{of_dims}
use Rattle.sh_sem.specs.Pieces.{piece_shape, common_shape}
use Rattle.sh_collectives.specs.declared.ways.Way.{Way}
use Rattle.sh_collectives.specs.declared.ways.Way.TheVariants as way
use Rattle.sh_collectives.specs.Ways.{collecting_by, places_asked}
use Rattle.sh_collectives.proofs.PlaceLaws.{are_there, there_by_first}

-- ---- the shape of a piece by its size

piece_by_size : (axis size start other : ℕ) (s : List ℕ) (b : Bool)
    → piece_shape axis s (if b then Some (record { start = start; size = size }) else None) ≡ piece_shape axis s (if b then Some (record { start = other; size = size }) else None)
piece_by_size axis size start other s true = refl
piece_by_size axis size start other s false = refl

scattered_same : (axis n p q : ℕ) (s : List ℕ) → scattered_shape axis n p s ≡ scattered_shape axis n q s
scattered_same axis n p q s = piece_by_size axis _ _ _ s _

of_same : {X Y : Type 0} (f g : X → Option Y) (o : Option X) → ((x : X) → f x ≡ g x) → option_and_then f o ≡ option_and_then g o
of_same f g None h = refl
of_same f g (Some x) h = h x

-- ---- by way

module _ (dims : List Dim) (shapes : List (List ℕ)) where
  -- what is asked of a place
  abbrev pub given_at : Way → ℕ → Option (List ℕ)
  given_at w p = option_and_then (of_dims dims) ((collecting_by w).shape p shapes)

  pub asked_all : (w : Way) (n : ℕ) → are_there (given_at w) 0 (places_asked w n) ≡ are_there (given_at w) 0 n
  unfolding gathers reduces scatters exchanges
  asked_all (way.Gather axis) n = there_by_first (given_at (way.Gather axis)) (λ p q. refl) n
  asked_all (way.Reduce kind) n = there_by_first (given_at (way.Reduce kind)) (λ p q. refl) n
  asked_all (way.Scatter kind axis) n =
      there_by_first (given_at (way.Scatter kind axis))
      (λ p q. ap (option_and_then (of_dims dims)) (of_same (scattered_shape axis (length shapes) p) (scattered_shape axis (length shapes) q) (common_shape shapes) (scattered_same axis (length shapes) p q))) n
  asked_all (way.Exchange split concat) n =
      there_by_first (given_at (way.Exchange split concat))
      (λ p q. ap (option_and_then (of_dims dims)) (of_same (exchanged_shape split concat (length shapes) p) (exchanged_shape split concat (length shapes) q) (common_shape shapes)
      (λ s. ap (option_map _) (scattered_same split (length shapes) p q s)))) n
  asked_all (way.Shift x) n = refl
