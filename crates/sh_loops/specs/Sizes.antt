-- The extents of loops, found operand by operand.
use Rattle.std.specs.Prelude.{◌≡◌, ℕ, Bool, ◌&&◌, length, get_or, List, [], ◌∷◌, map, nat_eq, Option, Some, None, if◌then◌else◌}
use Rattle.std.specs.List.{list_all, range_with_len}
use Rattle.std.specs.Cmp.Lexicographic.{pointwise}
use Rattle.sh_tensor.specs.Tensor.{TensorValue}
use Rattle.sh_sem.specs.Nest.{Followed, all_followed, extent_of_loop, has_room, have_ranks}
use Rattle.sh_ir.specs.Loops.{LoopMap}

-- the extent of the first dimension that follows a loop alone
abbrev pub first_alone : List Followed → ℕ → Option ℕ
first_alone [] l = None
first_alone (d ∷ ds) l =
    if pointwise nat_eq d.loops (l ∷ []) then Some d.extent else first_alone ds l

-- the extent that a loop has by these operands
unfoldable pub extent_by : List LoopMap → List TensorValue → ℕ → ℕ
extent_by maps ts l = extent_of_loop (all_followed maps (map (λ t. t.shape) ts)) l

-- the extents of the first so many loops
unfoldable pub extents_with : List LoopMap → List TensorValue → ℕ → List ℕ
extents_with maps ts n = map (extent_by maps ts) (range_with_len 0 n)

-- each operand has as many dimensions as its map
abbrev pub AreRanked : List LoopMap → List TensorValue → Type 0
AreRanked [] [] = Unit {0}
AreRanked [] (t ∷ ts) = ⊥
AreRanked (dims ∷ maps) [] = ⊥
AreRanked (dims ∷ maps) (t ∷ ts) = (length dims ≡ length t.shape) × AreRanked maps ts

-- the extent of a loop among these
abbrev pub entry_of : List ℕ → ℕ → ℕ
entry_of extents l = get_or extents l 0

-- a dimension that follows these loops has room for them
unfoldable pub has_room_for : List ℕ → List ℕ → ℕ → Bool
has_room_for extents loops extent =
    has_room (entry_of extents) (record { loops = loops; extent = extent })

-- all dimensions have room for the loops that they follow
unfoldable pub with_room : List ℕ → List Followed → Bool
with_room extents dims = list_all (λ d. has_room_for extents d.loops d.extent) dims

unfoldable pub all_with_room : List ℕ → List LoopMap → List TensorValue → Bool
all_with_room extents maps ts = with_room extents (all_followed maps (map (λ t. t.shape) ts))

-- the operands' sizes agree
abbrev pub agree_on : List LoopMap → List (List ℕ) → Bool
agree_on maps shapes =
    let dims = all_followed maps shapes in
    have_ranks maps shapes && list_all (has_room (extent_of_loop dims)) dims

-- and if so the extents of the loops
unfoldable pub agreed_extents : List LoopMap → List TensorValue → ℕ → Option (List ℕ)
agreed_extents maps ts n =
    if agree_on maps (map (λ t. t.shape) ts) then Some (extents_with maps ts n) else None
