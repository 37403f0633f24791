-- Grids of devices, and their groups along a list of axes.
use Rattle.std.specs.Prelude.{◌≡◌, ◌≢◌, ◌↔◌, ℕ, ◌+◌, ◌*◌, ◌<◌, ◌≤◌, List, [], ◌∷◌, ◌++◌, length, map, fold, set, slice_index, All}
use Rattle.std.specs.List.{range_with_len}
use Rattle.sh_base.specs.Limits.{max_axes, max_devices}
use Rattle.sh_base.specs.Shape.{cell_count, flat_of, unflat_of}

-- A grid as contracts see it. Device numbers are row-major: the device at the coordinates i is
-- `flat_of extents i`, and device d stands at `unflat_of extents d`.
pub record GridValue : Type 0 where
  pub name : List ℕ
  pub extents : List ℕ

-- one to four axes, none of extent 0, and at most 1,024 devices
pub record IsGrid (extents : List ℕ) : Type 0 where
  pub some : 0 < length extents
  pub few : length extents ≤ max_axes
  pub positive : All (λ n. 0 < n) extents
  pub small : cell_count extents ≤ max_devices

-- the axis isn't listed
abbrev pub IsNoneOf : ℕ → List ℕ → Type 0
IsNoneOf a [] = Unit {0}
IsNoneOf a (b ∷ axes) = (a ≢ b) × IsNoneOf a axes

-- none of the axes is listed in the second list
abbrev pub AreApart : List ℕ → List ℕ → Type 0
AreApart [] others = Unit {0}
AreApart (a ∷ axes) others = IsNoneOf a others × AreApart axes others

-- distinct axes of a grid of this rank
abbrev pub AreAxesOf : ℕ → List ℕ → Type 0
AreAxesOf rank [] = Unit {0}
AreAxesOf rank (a ∷ axes) = (a < rank) × IsNoneOf a axes × AreAxesOf rank axes

-- the entries of a list at the listed axes
unfoldable pub on_axes : List ℕ → List ℕ → List ℕ
on_axes axes xs = map (λ a. slice_index xs a) axes

-- The place of a device in its group along a list of axes: the mixed-radix number of its
-- coordinates there, the first listed axis outermost.
unfoldable pub place_in : List ℕ → List ℕ → ℕ → ℕ
place_in extents axes device =
    fold (λ place a. place * slice_index extents a + slice_index (unflat_of extents device) a) 0
    axes

-- the two devices have equal coordinates on each axis that isn't listed: they are of one group
unfoldable pub AgreeOutside : List ℕ → List ℕ → ℕ → ℕ → Type 0
AgreeOutside extents axes c d =
    (a : ℕ) → IsNoneOf a axes
    → slice_index (unflat_of extents c) a ≡ slice_index (unflat_of extents d) a

-- how many devices a group along a list of axes has
unfoldable pub group_size_of : List ℕ → List ℕ → ℕ
group_size_of extents axes = cell_count (on_axes axes extents)

-- the index i, with the entries qs on the listed axes
abbrev pub with_entries : List ℕ → List ℕ → List ℕ → List ℕ
with_entries [] qs i = i
with_entries (a ∷ axes) [] i = i
with_entries (a ∷ axes) (q ∷ qs) i = with_entries axes qs (set i a q)

-- the device at this place in the group of a device
unfoldable pub member_of : List ℕ → List ℕ → ℕ → ℕ → ℕ
member_of extents axes device place =
    flat_of extents
    (with_entries axes (unflat_of (on_axes axes extents) place) (unflat_of extents device))

-- The group of a device: the devices that agree with it outside the list, by rising place.
unfoldable pub group_of : List ℕ → List ℕ → ℕ → List ℕ
group_of extents axes device =
    map (λ place. member_of extents axes device place)
    (range_with_len 0 (group_size_of extents axes))

-- ---- lists of axes, one after the other

-- The place along two lists, one after the other, is the mixed-radix number of the places along
-- each.
abbrev pub PlacesJoin : List ℕ → Type 0
PlacesJoin extents =
    (outer inner : List ℕ) (device : ℕ)
    → place_in extents (outer ++ inner) device
    ≡ place_in extents outer device * group_size_of extents inner + place_in extents inner device

-- A device's place along a list of axes stays where only coordinates on other axes change.
abbrev pub PlacesStay : List ℕ → Type 0
PlacesStay extents =
    (axes others : List ℕ) (c device : ℕ) → AreApart axes others
    → AgreeOutside extents others c device
    → place_in extents axes c ≡ place_in extents axes device

-- The axes of two lists, one after the other, are distinct axes exactly where those of each are and
-- none stands in both.
abbrev pub AxesJoin : ℕ → Type 0
AxesJoin rank =
    (outer inner : List ℕ)
    → AreAxesOf rank (outer ++ inner)
    ↔ (AreAxesOf rank outer × AreApart outer inner × AreAxesOf rank inner)
