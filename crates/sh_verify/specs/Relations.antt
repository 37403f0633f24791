-- How the extents of a value follow from those of an operand, dimension by dimension.
use Rattle.std.specs.Prelude.{ℕ, List, Option, Some, None, Bool, not, ◌||◌, map, get_or, nat_eq, if◌then◌else◌}
use Rattle.sh_base.specs.Shape.{cell_count}
use Rattle.sh_ir.specs.declared.types.Dim.{Dim}
use Rattle.sh_ir.specs.Agreement.{dims_agree}
use Rattle.sh_ir.specs.Numbers.{as_naturals}
use Rattle.sh_ir.specs.Results.{exchanged, is_gathered, is_of_sizes, is_padded, is_piece, is_regrouped}
use Rattle.std.specs.Prelude.{ℤ}
use Rattle.sh_verify.specs.declared.relations.Group.{Group}
use Rattle.sh_verify.specs.declared.relations.Relation.{Relation}
use Rattle.sh_verify.specs.declared.relations.Relation.TheVariants.{Gathered, Piece, Exchanged, Sized, Padded}

-- how many devices of a grid differ along the axes alone
abbrev pub size_of_axes : List ℤ → List ℤ → ℕ
size_of_axes extents axes =
    cell_count (map (λ a. get_or (as_naturals extents) a 0) (as_naturals axes))

abbrev pub members_of : Group → ℕ
members_of g = size_of_axes g.extents.now g.axes.now

abbrev pub size_of : Option Group → Option ℕ
size_of None = None
size_of (Some g) = Some (members_of g)

-- split along one dimension, and joined along another or the same
abbrev pub is_changed : Option ℕ → Bool → Bool → Dim → Dim → Bool
is_changed size split joined d e =
    if split then (if joined then is_regrouped size d e else is_piece size d e)
    else (if joined then is_gathered size d e else dims_agree d e)

unfoldable pub relates : Relation → ℕ → Dim → Dim → Bool
relates (Gathered axis group) i d e =
    if nat_eq i axis then is_gathered (size_of group) d e else dims_agree d e
relates (Piece axis group) i d e =
    if nat_eq i axis then is_piece (size_of group) d e else dims_agree d e
relates (Exchanged split concat group) i d e = exchanged (size_of group) split concat i d e
relates (Sized axis in_order sizes) i d e =
    if nat_eq i axis then not in_order || is_of_sizes (as_naturals sizes.now) e
    else dims_agree d e
relates (Padded low high) i d e = is_padded (as_naturals low.now) (as_naturals high.now) i d e
