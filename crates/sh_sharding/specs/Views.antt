-- Views of dimensions: what a sharding would be, said without making it.
use Rattle.std.specs.Prelude.{◌≡◌, ℕ, ◌+◌, ◌*◌, ◌≤◌, ◌<◌, List, [], ◌∷◌, length, map, min, take, get_or, ℤ, pos, negsuc, ◌≤ℤ◌, All}
use Rattle.sh_base.specs.Shape.{max_cells, max_rank}
use Rattle.std.specs.List.{AllByRecursion, flat_map}
use Rattle.sh_grid.specs.Grid.{GridValue, AreAxesOf, group_size_of}
use Rattle.sh_base.specs.Limits.{max_devices}
use Rattle.sh_sharding.specs.declared.views.AxisList.{AxisList}
use Rattle.sh_sharding.specs.declared.views.Listing.{Listing}
use Rattle.sh_sharding.specs.declared.views.Listing.TheVariants.{Offsets as OwnOffsets, Scaled}
use Rattle.sh_sharding.specs.declared.views.MarkView.{MarkView}
use Rattle.sh_sharding.specs.declared.views.MarkView.TheVariants.{Balanced as BalancedView, Listed}
use Rattle.sh_sharding.specs.declared.views.DimensionView.{DimensionView}
use Rattle.sh_sharding.specs.declared.shardings.Mark.{Mark}
use Rattle.sh_sharding.specs.declared.shardings.Mark.TheVariants.{Balanced, Offsets}
use Rattle.sh_sharding.specs.declared.shardings.Dimension.{Dimension}
use Rattle.sh_sharding.specs.Sharding.{ShardingValue, offset_of, size_of_part, parts_of, offset_at, part_size, largest_local, IsSharding}
use Rattle.sh_sharding.specs.AxisLists.{natural, IsNatural}
use Rattle.sh_sharding.specs.HaloSizes.{HalosFit}
use Rattle.sh_sharding.specs.OffsetLists.{AreOffsets, normal_mark}

-- the axes of a list that is kept by value
unfoldable pub axes_in : AxisList → List ℕ
axes_in list = take (min list.count max_rank) list.axes

-- a written number times a factor; a negative number stays negative
abbrev pub scaled : ℕ → ℤ → ℤ
scaled factor (pos n) = pos (factor * n)
scaled factor (negsuc n) = negsuc n

-- the offsets of a listing
abbrev pub offsets_in : Listing → List ℤ
offsets_in (OwnOffsets offsets) = map pos offsets.now
offsets_in (Scaled numbers factor) = map (scaled factor) numbers.now

-- the mark that a view describes, in normal form
abbrev pub mark_in : ℕ → ℕ → MarkView → Mark
mark_in extent parts BalancedView = Balanced
mark_in extent parts (Listed listing) = normal_mark extent parts (map natural (offsets_in listing))

-- the dimension that a view describes, on a grid of these extents, in normal form
unfoldable pub described : List ℕ → DimensionView → Dimension
described g view = record {
  extent = view.extent;
  axes = axes_in view.axes;
  mark = mark_in view.extent (group_size_of g (axes_in view.axes)) view.mark;
  low = view.low;
  high = view.high;
}

-- the extent of the largest local tensor along that dimension, halos included
abbrev pub largest_described : List ℕ → DimensionView → ℕ
largest_described g view = largest_local g (described g view)

abbrev pub described_sharding : GridValue → List DimensionView → ShardingValue
described_sharding g views = record { grid = g; dimensions = map (described g.extents) views }

-- no listed offset is negative
abbrev pub HasNaturals : MarkView → Type 0
HasNaturals BalancedView = Unit {0}
HasNaturals (Listed listing) = All IsNatural (offsets_in listing)

-- The views describe an admitted sharding.
pub record IsAdmittedView (g : GridValue) (views : List DimensionView) : Type 0 where
  pub naturals : AllByRecursion (λ view. HasNaturals view.mark) views
  pub sharding : IsSharding (described_sharding g views)

-- all axes of the dimensions, in order
abbrev pub viewed_axes : List DimensionView → List ℕ
viewed_axes views = flat_map (λ view. axes_in view.axes) views

-- ---- what the calls on one view ask

-- the listed offsets, if there are any, are those of so many parts
abbrev pub HasOrder : ℕ → ℕ → MarkView → Type 0
HasOrder extent parts BalancedView = Unit {0}
HasOrder extent parts (Listed listing) = AreOffsets extent parts (offsets_in listing)

pub record IsDividing (extent parts : ℕ) (mark : MarkView) : Type 0 where
  pub some : 0 < parts
  pub few : parts ≤ max_devices
  pub order : HasOrder extent parts mark

-- distinct axes of the grid, and offsets in order
pub record IsOrdered (g : List ℕ) (view : DimensionView) : Type 0 where
  pub axes : AreAxesOf (length g) (axes_in view.axes)
  pub dividing : IsDividing view.extent (group_size_of g (axes_in view.axes)) view.mark

abbrev pub AreAxesBelow : ℕ → DimensionView → Type 0
AreAxesBelow rank view = All (λ a. a < rank) (axes_in view.axes)

-- no halo is longer than a part, and a dimension that isn't split has none
pub record HasFittingHalos (g : List ℕ) (d : Dimension) : Type 0 where
  pub fit : HalosFit g d
  pub whole : d.axes ≡ [] → (d.low ≡ 0) × (d.high ≡ 0)

-- the view of a mark in memory
abbrev pub IsMarkView : MarkView → Mark → Type 0
IsMarkView BalancedView m = m ≡ Balanced
IsMarkView (Listed (OwnOffsets offsets)) m = m ≡ Offsets offsets.now
IsMarkView (Listed (Scaled numbers factor)) m = ⊥

-- the view of a dimension in memory
pub record IsViewOf (view : DimensionView) (d : Dimension) : Type 0 where
  pub extent : view.extent ≡ d.extent
  pub axes : axes_in view.axes ≡ d.axes
  pub mark : IsMarkView view.mark d.mark
  pub low : view.low ≡ d.low
  pub high : view.high ≡ d.high

pub record IsUnsplitView (view : DimensionView) (extent : ℕ) : Type 0 where
  pub whole : view.extent ≡ extent
  pub axes : axes_in view.axes ≡ []
  pub mark : view.mark ≡ BalancedView
  pub low : view.low ≡ 0
  pub high : view.high ≡ 0

-- those of all dimensions of a tensor
abbrev pub AreViewsOf : List DimensionView → List Dimension → Type 0
AreViewsOf [] [] = Unit {0}
AreViewsOf [] (d ∷ ds) = ⊥
AreViewsOf (view ∷ views) [] = ⊥
AreViewsOf (view ∷ views) (d ∷ ds) = IsViewOf view d × AreViewsOf views ds

-- what the view of a dimension of a sharding describes: the dimension
pub record IsOwnView (g : List ℕ) (view : DimensionView) (d : Dimension) : Type 0 where
  pub ordered : IsOrdered g view
  pub value : described g view ≡ d

-- the views of all dimensions of a sharding
pub record AreOwnViews (g : List ℕ) (views : List DimensionView)
    (ds : List Dimension) : Type 0 where
  pub ordered : All (IsOrdered g) views
  pub value : map (described g) views ≡ ds

-- no number of a view is large
pub record IsShort (view : DimensionView) : Type 0 where
  pub extent : view.extent ≤ max_cells
  pub low : view.low ≤ view.extent
  pub high : view.high ≤ view.extent

-- ---- listed numbers

-- a number from 0 to the extent
pub record IsBetween (extent : ℕ) (number : ℤ) : Type 0 where
  pub low : pos 0 ≤ℤ number
  pub high : number ≤ℤ pos extent

-- the offsets at a place and at the next
pub record IsRising (extent : ℕ) (offsets : List ℤ) (i : ℕ) : Type 0 where
  pub from : IsBetween extent (get_or offsets i (pos 0))
  pub to : IsBetween extent (get_or offsets (i + 1) (pos 0))
  pub rises : get_or offsets i (pos 0) ≤ℤ get_or offsets (i + 1) (pos 0)

-- what the view of a dimension's mark, with its number of parts, says of the dimension
pub record IsSeen (g : List ℕ) (d : Dimension) (p : ℕ) (view : MarkView) : Type 0 where
  pub dividing : IsDividing d.extent p view
  pub parts : p ≡ parts_of g d
  pub offset : (i : ℕ) → offset_of d.extent p (mark_in d.extent p view) i ≡ offset_at g d i
  pub size : (i : ℕ) → size_of_part d.extent p (mark_in d.extent p view) i ≡ part_size g d i
