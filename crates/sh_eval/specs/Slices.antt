-- Slices as memory holds them.
use Rattle.std.specs.Prelude.{List, map}
use Rattle.sh_eval.specs.declared.slices.SliceRange.{SliceRange}
use Rattle.sh_sem.specs.Slices.{Range}

-- the slice of one dimension
abbrev pub range_in : SliceRange → Range
range_in r = record { extent = r.extent; offset = r.offset; size = r.size; stride = r.stride }

abbrev pub ranges_in : List SliceRange → List Range
ranges_in ranges = map range_in ranges
