-- The least of some refusals.
use Rattle.std.specs.Prelude.{◌≡◌, ◌≢◌, ◌⊎◌, List, [], ◌∷◌, Option, Some, None}
use Rattle.std.specs.declared.cmp.Ordering.{Ordering}
use Rattle.std.specs.declared.cmp.Ordering.TheVariants.{Less, Equal, Greater}
use Rattle.sh_base.specs.declared.places.Refusal.{Refusal}
use Rattle.sh_base.specs.contracts.places.RefusalOrd.TheImpl as ord

abbrev pub Order : Type 0
Order = Refusal → Refusal → Ordering

-- by place, and at one place by rule
abbrev pub by_place : Order
by_place = ord.ghosts.cmp

-- it is one of the refusals
abbrev pub StandsIn : List Refusal → Refusal → Type 0
StandsIn [] refusal = ⊥
StandsIn (r ∷ rs) refusal = (r ≡ refusal) ⊎ StandsIn rs refusal

-- one of the refusals, and no other comes before it
pub record IsLeast (order : Order) (faults : List Refusal) (refusal : Refusal) : Type 0 where
  pub there : StandsIn faults refusal
  pub first : (other : Refusal) → StandsIn faults other → order other refusal ≢ Less

-- ---- as it is found, one refusal after the other

abbrev pub earlier_of : Ordering → Refusal → Refusal → Refusal
earlier_of Less r least = r
earlier_of Equal r least = least
earlier_of Greater r least = least

abbrev pub earlier : Order → Option Refusal → Refusal → Option Refusal
earlier order None r = Some r
earlier order (Some least) r = Some (earlier_of (order r least) r least)

-- the least of what was found before and of further refusals
abbrev pub least_of : Order → Option Refusal → List Refusal → Option Refusal
least_of order least [] = least
least_of order least (r ∷ rs) = least_of order (earlier order least r) rs
