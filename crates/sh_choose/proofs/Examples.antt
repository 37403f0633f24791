-- Proposals, options and their numbers by computation: two notes that disagree, three of which two agree, a sum that
-- is split along the dimension that it adds up, and a collapse.
use Rattle.std.proofs.Common.{◌≡◌, ℕ, pos, true, false, List, [], ◌∷◌, Some, None, refl}
use Rattle.std.specs.Prelude.{Option}
use Rattle.sh_base.specs.declared.numbers.Width.TheVariants.{I32}
use Rattle.sh_base.specs.declared.operations.Kind.TheVariants.{Sum}
use Rattle.sh_grid.specs.Grid.{GridValue, group_size_of, on_axes}
use Rattle.sh_sharding.specs.declared.shardings.Dimension.{Dimension}
use Rattle.sh_sharding.specs.declared.shardings.Mark.TheVariants.{Balanced, Offsets}
use Rattle.sh_sharding.specs.OffsetLists.{normal_mark}
use Rattle.sh_sharding.specs.Sharding.{offset_of, offsets_of, parts_of, unsplit}
use Rattle.sh_iface.specs.declared.options.How.TheVariants.{Same, Scale}
use Rattle.sh_iface.specs.declared.options.Split.{Split}
use Rattle.sh_iface.specs.LoopNest.{LoopNest, NestDim, NestValue}
use Rattle.sh_iface.specs.Splits.{implied_of}
use Rattle.sh_iface.specs.Table.{follows, follows_none, parallel}
use Rattle.sh_choose.specs.declared.chosen.Known.{Known}
use Rattle.sh_choose.specs.declared.chosen.Weight.{Weight}
use Rattle.sh_choose.specs.Proposals.{options_of, proposal_for, proposals, proposals_by, split_under}
use Rattle.sh_choose.specs.Weights.{differing, differs, is_same, longest_part, points_of, weight_of}

abbrev two_devices : GridValue
two_devices = record { name = []; extents = 2 ∷ [] }

abbrev value : List NestDim → NestValue
value dims = record { dims = dims; width = I32 }

-- along the one axis
abbrev along : ℕ → Dimension
along extent = record { extent = extent; axes = 0 ∷ []; mark = Balanced; low = 0; high = 0 }

abbrev noted : ℕ → List Dimension → Known
noted v dimensions = record { v = v; sharding = record { grid = two_devices; dimensions = dimensions }; user = true }

abbrev halves : ℕ → ℕ → Option Split
halves half extent = Some (record { axes = 0 ∷ []; starts = pos 0 ∷ pos half ∷ pos extent ∷ [] })

abbrev weight : ℕ → ℕ → ℕ → Weight
weight user other points = record { user_differ = user; other_differ = other; points = points }

-- ---- two notes on an addition that disagree

abbrev square : NestValue
square = value (follows Same 0 4 ∷ follows Same 1 4 ∷ [])

abbrev added : LoopNest
added = record { loops = parallel true 4 ∷ parallel true 4 ∷ []; operands = square ∷ square ∷ []; result = square }

abbrev by_rows : ℕ → Known
by_rows v = noted v (along 4 ∷ unsplit 4 ∷ [])

abbrev by_columns : ℕ → Known
by_columns v = noted v (unsplit 4 ∷ along 4 ∷ [])

-- loop 0 outermost, no split first; of the two with the least numbers the first leaves loop 0 whole
disagreeing_options : options_of added (by_rows 0 ∷ by_columns 2 ∷ []) ≡ (None ∷ None ∷ []) ∷ (None ∷ halves 2 4 ∷ []) ∷ (halves 2 4 ∷ None ∷ []) ∷ (halves 2 4 ∷ halves 2 4 ∷ []) ∷ []
unfolding options_of proposals proposals_by proposal_for split_under offsets_of parts_of group_size_of on_axes offset_of
disagreeing_options = refl

disagreeing_whole : weight_of added two_devices (by_rows 0 ∷ by_columns 2 ∷ []) (None ∷ None ∷ []) ≡ weight 2 0 16
unfolding weight_of differing differs is_same implied_of points_of
disagreeing_whole = refl

disagreeing_columns : weight_of added two_devices (by_rows 0 ∷ by_columns 2 ∷ []) (None ∷ halves 2 4 ∷ []) ≡ weight 1 0 8
unfolding weight_of differing differs is_same implied_of points_of normal_mark longest_part offsets_of group_size_of on_axes offset_of
disagreeing_columns = refl

disagreeing_rows : weight_of added two_devices (by_rows 0 ∷ by_columns 2 ∷ []) (halves 2 4 ∷ None ∷ []) ≡ weight 1 0 8
unfolding weight_of differing differs is_same implied_of points_of normal_mark longest_part offsets_of group_size_of on_axes offset_of
disagreeing_rows = refl

-- ---- three notes, of which two agree

agreeing_rows : weight_of added two_devices (by_rows 0 ∷ by_columns 1 ∷ by_rows 2 ∷ []) (halves 2 4 ∷ None ∷ []) ≡ weight 1 0 8
unfolding weight_of differing differs is_same implied_of points_of normal_mark longest_part offsets_of group_size_of on_axes offset_of
agreeing_rows = refl

-- where the last two aren't a user's
others_rows : weight_of added two_devices (by_rows 0 ∷ record (by_columns 1) { user = false } ∷ record (by_rows 2) { user = false } ∷ []) (halves 2 4 ∷ None ∷ []) ≡ weight 0 1 8
unfolding weight_of differing differs is_same implied_of points_of normal_mark longest_part offsets_of group_size_of on_axes offset_of
others_rows = refl

-- ---- a sum along loop 1, whose operand is split there

abbrev summed : LoopNest
summed = record {
  loops = parallel true 2 ∷ record { extent = 4; splittable = true; kind = Some Sum } ∷ [];
  operands = value (follows Same 0 2 ∷ follows Same 1 4 ∷ []) ∷ value (follows Same 0 2 ∷ []) ∷ [];
  result = value (follows Same 0 2 ∷ []);
}

summed_options : options_of summed (noted 0 (unsplit 2 ∷ along 4 ∷ []) ∷ []) ≡ (None ∷ None ∷ []) ∷ (None ∷ halves 2 4 ∷ []) ∷ []
unfolding options_of proposals proposals_by proposal_for split_under offsets_of parts_of group_size_of on_axes offset_of
summed_options = refl

summed_split : weight_of summed two_devices (noted 0 (unsplit 2 ∷ along 4 ∷ []) ∷ []) (None ∷ halves 2 4 ∷ []) ≡ weight 0 0 4
unfolding weight_of differing differs is_same implied_of points_of normal_mark longest_part offsets_of group_size_of on_axes offset_of
summed_split = refl

-- ---- a collapse: the result's parts must be so many times as long as those of the loop

abbrev collapsed : LoopNest
collapsed = record {
  loops = parallel true 4 ∷ [];
  operands = value (follows Same 0 4 ∷ follows_none 3 ∷ []) ∷ [];
  result = value (follows (Scale 3) 0 12 ∷ []);
}

collapsed_proposal : proposals collapsed (noted 1 (along 12 ∷ []) ∷ []) 0 ≡ None ∷ halves 2 4 ∷ []
unfolding proposals proposals_by proposal_for split_under offsets_of parts_of group_size_of on_axes offset_of
collapsed_proposal = refl

-- 7 isn't a multiple of 3
collapsed_otherwise : proposals collapsed (noted 1 (record (along 12) { mark = Offsets (0 ∷ 7 ∷ 12 ∷ []) } ∷ []) ∷ []) 0 ≡ None ∷ []
unfolding proposals proposals_by proposal_for split_under offsets_of parts_of group_size_of on_axes offset_of
collapsed_otherwise = refl

-- a factor of 0 gives none
collapsed_empty : proposals (record { loops = parallel true 4 ∷ []; operands = []; result = value (follows (Scale 0) 0 0 ∷ []) }) (noted 0 (along 0 ∷ []) ∷ []) 0 ≡ None ∷ []
unfolding proposals proposals_by proposal_for split_under offsets_of parts_of group_size_of on_axes offset_of
collapsed_empty = refl
