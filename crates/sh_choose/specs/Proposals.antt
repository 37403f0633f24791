-- Which ways to split the loops of an operation its known shardings propose.
use Rattle.std.specs.Prelude.{ℕ, ◌/◌, ◌%◌, ◌==◌, Bool, true, not, ◌&&◌, List, [], ◌∷◌, map, min, length, pos, Option, Some, None, if◌then◌else◌}
use Rattle.std.specs.List.{list_all, flat_map, range_with_len}
use Rattle.sh_sharding.specs.declared.shardings.Dimension.{Dimension}
use Rattle.sh_sharding.specs.Order.{offsets_along}
use Rattle.sh_sharding.specs.Sharding.{dimension_of, is_split}
use Rattle.sh_iface.specs.declared.options.Follow.{Follow}
use Rattle.sh_iface.specs.declared.options.How.{How}
use Rattle.sh_iface.specs.declared.options.How.TheVariants.{Same, Scale, Window}
use Rattle.sh_iface.specs.declared.options.Split.{Split}
use Rattle.sh_iface.specs.LoopNest.{LoopNest, dim_at, loop_at, value_at}
use Rattle.sh_iface.specs.Splits.{OptionValue}
use Rattle.sh_choose.specs.declared.chosen.Known.{Known}

-- ---- one dimension

-- whether parts that begin at these offsets are so many times as long as parts of the loop
abbrev pub is_exact : How → List ℕ → Bool
is_exact Same offsets = true
is_exact (Scale factor) offsets = not (factor == 0) && list_all (λ n. n % factor == 0) offsets
is_exact (Window kernel) offsets = true

-- where the loop, of this extent, is cut that the dimension follows, if it is cut itself at `n`
abbrev pub start_under : ℕ → How → ℕ → ℕ
start_under extent Same n = n
start_under extent (Scale factor) n = n / factor
start_under extent (Window kernel) n = min n extent

-- the split of a loop of this extent that a dimension proposes which follows it so
unfoldable pub split_under : List ℕ → Dimension → ℕ → How → Split
split_under g d extent how = record {
  axes = d.axes;
  starts = map (λ n. pos (start_under extent how n)) (offsets_along g d);
}

-- what a dimension proposes for loop `l`: nothing if it isn't split, or doesn't follow that loop
abbrev pub proposed_by : List ℕ → Dimension → ℕ → ℕ → Option Follow → Option Split
proposed_by g d l extent None = None
proposed_by g d l extent (Some f) =
    if (f.loop_index == l) && (is_split d && is_exact f.how (offsets_along g d))
    then Some (split_under g d extent f.how)
    else None

-- ---- all known shardings

-- what dimension `dim` of a known sharding proposes for a loop
unfoldable pub proposal_for : LoopNest → ℕ → Known → ℕ → Option Split
proposal_for nest l k dim =
    proposed_by k.sharding.grid.extents (dimension_of k.sharding dim) l (loop_at nest l).extent
    (dim_at (value_at nest k.v) dim).follow

-- a proposal as a list
abbrev pub listed : Option Split → List (Option Split)
listed None = []
listed (Some split) = Some split ∷ []

-- what a known sharding proposes, by dimension
unfoldable pub proposals_by : LoopNest → ℕ → Known → List (Option Split)
proposals_by nest l k =
    flat_map (λ dim. listed (proposal_for nest l k dim))
    (range_with_len 0 (length k.sharding.dimensions))

-- The proposals for a loop: that it isn't split, and then by known sharding and dimension.
unfoldable pub proposals : LoopNest → List Known → ℕ → List (Option Split)
proposals nest known l = None ∷ flat_map (proposals_by nest l) known

-- ---- all options

-- every list that has one element of each list, the choice from the first list outermost
abbrev pub choices : {X : Type 0} → List (List X) → List (List X)
choices [] = [] ∷ []
choices (xs ∷ later) = flat_map (λ x. map (λ rest. x ∷ rest) (choices later)) xs

-- the options of an operation, loop 0 outermost
unfoldable pub options_of : LoopNest → List Known → List OptionValue
options_of nest known =
    choices (map (proposals nest known) (range_with_len 0 (length nest.loops)))
