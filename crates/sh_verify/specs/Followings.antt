-- Operands that follow the loops of a structured operation, as the code holds them.
use Rattle.std.specs.Prelude.{ℕ, List, [], ◌∷◌, Bool, ◌&&◌, flat_map, length, map, nat_eq, if◌then◌else◌}
use Rattle.sh_ir.specs.declared.types.Dim.{Dim}
use Rattle.sh_ir.specs.declared.types.ValueType.{ValueType}
use Rattle.sh_ir.specs.Agreement.{dims_of}
use Rattle.sh_ir.specs.Loops.{LoopMap as Map, identity_map, places_in, single, unlisted}
use Rattle.sh_ir.specs.Maps.{results_of}
use Rattle.sh_ir.specs.Numbers.{as_naturals}
use Rattle.sh_ir.specs.Operands.{Following, all_following, extents_fit, following, ranks_fit}
use Rattle.sh_ir.specs.Typing.{operand_types}
use Rattle.sh_verify.specs.declared.loop_maps.Followed.{Followed}
use Rattle.sh_verify.specs.declared.loop_maps.Followed.TheVariants.{One, Sum}
use Rattle.sh_verify.specs.declared.loop_maps.LoopMap.{LoopMap}
use Rattle.sh_verify.specs.declared.loop_maps.LoopMap.TheVariants.{Identity, Listed, Summed, Places, Unlisted}
use Rattle.sh_verify.specs.declared.loop_maps.Operand.{Operand}
use Rattle.sh_verify.specs.declared.loop_maps.Operands.{Operands}
use Rattle.sh_verify.specs.declared.loop_maps.Operands.TheVariants.{Typed, Written}

abbrev pub loops_in : Followed → List ℕ
loops_in (One l) = l ∷ []
loops_in (Sum l m) = l ∷ m ∷ []

abbrev pub map_in : LoopMap → Map
map_in (Identity rank) = identity_map rank
map_in (Listed loops) = single loops.now
map_in (Summed pairs) = map loops_in pairs.now
map_in (Places rank numbers) = single (places_in rank (as_naturals numbers.now))
map_in (Unlisted bound numbers) = single (unlisted bound (as_naturals numbers.now))

-- an operand with its map
pub record Placed : Type 0 where
  pub loops : Map
  pub dims : List Dim

abbrev pub placed_following : Placed → List Following
placed_following o = following o.loops o.dims

abbrev pub placed : Operand → Placed
placed o = record { loops = map_in o.loops; dims = o.dims.now }

-- as many as there are both maps and types
abbrev pub paired : List Map → List ValueType → List Placed
paired (m ∷ maps) (t ∷ types) = record { loops = m; dims = dims_of t } ∷ paired maps types
paired _ _ = []

abbrev pub maps_in : Operands → List Map
maps_in (Typed x maps) = map map_in maps.now
maps_in (Written x) = map single (results_of x.now)

abbrev pub types_in : Operands → List ValueType
types_in (Typed x maps) = operand_types x.now
types_in (Written x) = operand_types x.now.ins_outs

abbrev pub operands_in : Operands → List Placed
operands_in all = paired (maps_in all) (types_in all)

abbrev pub followings : Operands → List Following
followings all = flat_map placed_following (operands_in all)

-- whether an operand has as many dimensions as its map
abbrev pub has_rank : Placed → Bool
has_rank o = nat_eq (length o.loops) (length o.dims)

-- the operands have the ranks of their maps, and follow them
abbrev pub follow : List Map → List ValueType → Bool
follow maps types = ranks_fit maps types && extents_fit (all_following maps types)

abbrev pub count_unless : Bool → ℕ
count_unless listed = if listed then 0 else 1
