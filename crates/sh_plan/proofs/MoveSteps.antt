-- What decides whether a move may be made: used axes, and divisibility once an axis more splits a dimension.
use Rattle.std.proofs.Common.{Bool, List, [], ap, arith, get_or, length, refl, sym, take, true, ℕ, ◌%◌, ◌&&◌, ◌*◌, ◌++◌, ◌+◌, ◌-◌, ◌<◌, ◌==◌, ◌||◌, ◌∙◌, ◌∷◌, ◌≡◌, ◌≤◌}
use Rattle.std.specs.List.{list_any}
use Rattle.std.proofs.Math.Nat.{mul-le-mul}
use Rattle.std.proofs.lemmas.List.Folds.{list_any-append}
use Rattle.std.proofs.lemmas.List.{take_all, take_more}
use Rattle.sh_base.specs.Shape.{cell_count}
use Rattle.sh_grid.specs.Grid.{AreAxesOf, IsGrid, group_size_of, on_axes}
use Rattle.sh_base.specs.Limits.{max_devices}
use Rattle.sh_grid.proofs.GroupLaws.{on_axes-append}
use Rattle.sh_grid.proofs.GroupSteps.{AreAxesOf-at, entry_below}
use Rattle.sh_sharding.specs.declared.shardings.Dimension.{Dimension}
use Rattle.sh_sharding.specs.Sharding.{axes_of, is_balanced, is_even, is_split, is_split_by, parts_of}
use Rattle.sh_plan.specs.Moves.{is_listed, last_axis, with_axis}
use Rattle.sh_plan.proofs.States.{some_split}
use Rattle.sh_plan.proofs.Towards.{cells-append}

-- an axis that splits one of the dimensions is one of all
pub listed_in : (axis : ℕ) (ds : List Dimension) → list_any (λ d. is_listed axis d.axes) ds ≡ is_listed axis (axes_of ds)
listed_in axis [] = refl
listed_in axis (d ∷ ds) =
    ap (λ (b : Bool). is_listed axis d.axes || b) (listed_in axis ds) ∙ sym (list_any-append (λ b. b == axis) d.axes (axes_of ds))

parts_with : (g : List ℕ) (d : Dimension) (a : ℕ) → parts_of g (with_axis d a) ≡ parts_of g d * get_or g a 0
unfolding parts_of group_size_of on_axes
parts_with g d a =
    ap cell_count (on_axes-append d.axes (a ∷ []) g) ∙ cells-append (on_axes d.axes g) (get_or g a 0 ∷ []) ∙ grind arith

split_with : (axes : List ℕ) (a : ℕ) → is_split_by (axes ++ a ∷ []) ≡ true
split_with [] a = refl
split_with (b ∷ axes) a = refl

-- a dimension is even with one more axis where it is balanced and the new number of parts divides it
pub even_with : (g : List ℕ) (d : Dimension) (a : ℕ) → is_even g (with_axis d a) ≡ (is_balanced d && (d.extent % (parts_of g d * get_or g a 0) == 0))
unfolding is_even
even_with g d a = rw (split_with d.axes a, parts_with g d a) refl

-- the extent of an axis
pub record IsExtent (n : ℕ) : Type 0 where
  pub some : 0 < n
  pub few : n ≤ max_devices

pub is_extent : (g : List ℕ) (a : ℕ) → IsGrid g → a < length g → IsExtent (get_or g a 0)
is_extent g a grid within =
    let some : 0 < get_or g a 0 = grid.positive a 0 within in
    let below = entry_below g a (get_or g a 0 - 1) grid within (omega arith) in
    record { some = some; few = omega (arith, below) }

pub parts_fit : (parts n : ℕ) → 0 < parts → parts ≤ max_devices → IsExtent n → (0 < parts * n) × (parts * n ≤ max_devices * max_devices)
parts_fit parts n some few e = (mul-le-mul {n₁ = 1} {m₁ = 1} some e.some, mul-le-mul few e.few)

-- the last axis of a split dimension is one of the grid's
pub last_within : (g : List ℕ) (d : Dimension) → AreAxesOf (length g) d.axes → is_split d ≡ true → last_axis d < length g
last_within g d axes split =
    let some = some_split d.axes split in
    AreAxesOf-at (length g) d.axes (length d.axes - 1) axes (omega (arith, some))

-- a list of axes is its front and the last one
pub last_apart : (axes : List ℕ) → 0 < length axes → axes ≡ take (length axes - 1) axes ++ get_or axes (length axes - 1) 0 ∷ []
last_apart axes some = sym (take_all (length axes - 1 + 1) axes (omega arith)) ∙ take_more axes (length axes - 1) 0 (omega arith)
