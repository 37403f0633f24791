-- The shape of a type and the grid of a grid item, as they are read.
use mathlib.Core.Path.{◌∙◌, ap, sym, refl}
use Rattle.std.proofs.Common.{◌≡◌, ℕ, ◌+◌, ◌*◌, ◌<◌, ◌≤◌, List, [], ◌∷◌, Bool, true, false, length, map, min, max, arith, subst}
use Rattle.std.proofs.Math.Nat.{mul-le-mul_left, mul-le-mul_right}
use Rattle.std.proofs.lemmas.Bool.Decides.{nat_tests}
use Rattle.std.proofs.lemmas.List.{length-map}
use Rattle.std.proofs.lemmas.List.Elements.{All-head, All-tail}
use Rattle.std.specs.Prelude.{Option, Some, None, IsTrue, ℤ, pos, negsuc, if◌then◌else◌}
use Rattle.std.specs.List.{All, AllByRecursion}
use Rattle.std.specs.Option.{SomeIff}
use Rattle.std.proofs.lemmas.Option.{none-some, same_Some}
use Rattle.sh_ir.specs.Scope.{grid_item, same_text}
use Rattle.sh_base.specs.Limits.{max_devices}
use Rattle.sh_base.specs.Shape.{cell_count, max_cells, max_rank}
use Rattle.sh_grid.specs.Grid.{GridValue, IsGrid}
use Rattle.sh_ir.specs.declared.modules.GridItem.{GridItem}
use Rattle.sh_ir.specs.declared.types.Dim.{Dim}
use Rattle.sh_ir.specs.declared.types.Dim.TheVariants.{Known, Differs}
use Rattle.sh_ir.specs.declared.types.ValueType.{ValueType}
use Rattle.sh_ir.specs.declared.types.ValueType.TheVariants.{Nothing, Scalar, Tensor, Sharding, Index}
use Rattle.sh_ir.specs.Agreement.{dims_of}
use Rattle.sh_ir.specs.Limits.{counted_dim, has_few_cells, has_few_dims}
use Rattle.sh_ir.specs.Numbers.{as_natural}
use Rattle.sh_ir.specs.Shapes.{extent_of, shape_of}
use Rattle.sh_sharding.specs.AxisLists.{natural}
use Rattle.sh_sharding.specs.Carried.{grid_of}
use Rattle.sh_sharding.specs.Sharding.{counted_cells}
use Rattle.sh_admission.proofs.PlaceLaws.{same_when}

pub shape_is : (t : ValueType) → map extent_of (dims_of t) ≡ shape_of t
shape_is (Tensor t) = refl
shape_is (Scalar w) = refl
shape_is Nothing = refl
shape_is Sharding = refl
shape_is Index = refl

pub few_extents : (t : ValueType) → IsTrue (has_few_dims t) → length (map extent_of (dims_of t)) ≤ max_rank
unfolding has_few_dims
few_extents t few =
    let e = length-map (dims_of t) extent_of in
    let le : length (dims_of t) ≤ max_rank = grind (arith, nat_tests, few) in
    subst (λ n. n ≤ max_rank) (sym e) le

counted_is : (ds : List Dim) → map (max 1) (map extent_of ds) ≡ map counted_dim ds
counted_is [] = refl
counted_is (Known n ∷ ds) = ap (λ l. max 1 n ∷ l) (counted_is ds)
counted_is (Differs ∷ ds) = ap (λ l. 1 ∷ l) (counted_is ds)

pub small_shape : (t : ValueType) → IsTrue (has_few_cells t) → counted_cells (shape_of t) ≤ max_cells
unfolding has_few_cells
small_shape t small =
    let e : counted_cells (shape_of t) ≡ cell_count (map counted_dim (dims_of t)) =
    ap (λ s. cell_count (map (max 1) s)) (sym (shape_is t)) ∙ ap cell_count (counted_is (dims_of t)) in
    let le : cell_count (map counted_dim (dims_of t)) ≤ max_cells = grind (arith, nat_tests, small) in
    subst (λ n. n ≤ max_cells) (sym e) le

-- ---- the grid of a grid item

-- an extent as the code reads it
abbrev pub clamped : ℤ → ℕ
clamped z = min (max_devices + 1) (as_natural z)

as_is : (z : ℤ) → as_natural z ≡ natural z
as_is (pos n) = refl
as_is (negsuc n) = refl

counted_some : (ns : List ℕ) → All (λ n. 0 < n) ns → 1 ≤ cell_count ns
counted_some [] all = omega arith
counted_some (n ∷ ns) all =
    let first : 1 ≤ n = All-head (λ n. 0 < n) n ns all in
    let rest = counted_some ns (All-tail (λ n. 0 < n) n ns all) in
    let at_least : 1 * 1 ≤ n * 1 = mul-le-mul_right 1 first in
    let more : n * 1 ≤ n * cell_count ns = mul-le-mul_left n rest in
    omega (arith, at_least, more)

-- each extent of a small grid is small
few_each : (top : ℕ) (ns : List ℕ) → All (λ n. 0 < n) ns → cell_count ns ≤ top → AllByRecursion (λ n. n ≤ top) ns
few_each top [] all le = tt
few_each top (n ∷ ns) all le =
    let first : 1 ≤ n = All-head (λ n. 0 < n) n ns all in
    let tail = All-tail (λ n. 0 < n) n ns all in
    let some = counted_some ns tail in
    let own : n * 1 ≤ n * cell_count ns = mul-le-mul_left n some in
    let rest : 1 * cell_count ns ≤ n * cell_count ns = mul-le-mul_right (cell_count ns) first in
    (omega (arith, own, le), few_each top ns tail (omega (arith, rest, le)))

read_of_small : (zs : List ℤ) → AllByRecursion (λ n. n ≤ max_devices) (map natural zs) → map clamped zs ≡ map natural zs
read_of_small [] small = refl
read_of_small (z ∷ zs) small =
    let one : clamped z ≡ natural z = ap (min (max_devices + 1)) (as_is z) ∙ stays (natural z) small.0 in
    ap (λ n. n ∷ map clamped zs) one ∙ ap (λ l. natural z ∷ l) (read_of_small zs small.1)
  where
    stays : (n : ℕ) → n ≤ max_devices → min (max_devices + 1) n ≡ n
    stays n le = grind (arith, le)

small_as_read : (zs : List ℤ) → AllByRecursion (λ n. n ≤ max_devices) (map clamped zs) → map clamped zs ≡ map natural zs
small_as_read [] small = refl
small_as_read (z ∷ zs) small =
    let one : clamped z ≡ natural z = stays (as_natural z) small.0 ∙ as_is z in
    ap (λ n. n ∷ map clamped zs) one ∙ ap (λ l. natural z ∷ l) (small_as_read zs small.1)
  where
    stays : (n : ℕ) → min (max_devices + 1) n ≤ max_devices → min (max_devices + 1) n ≡ n
    stays n le = grind (arith, le)

abbrev grid_by : List ℕ → List ℕ → GridValue
grid_by name extents = record { name = name; extents = extents }

-- What is made of the extents as they are read is what the extents make.
pub grid_made : (name : List ℕ) (zs : List ℤ) (found : Option GridValue)
    → SomeIff found (IsGrid (map clamped zs)) (grid_by name (map clamped zs))
    → SomeIff found (IsGrid (map natural zs)) (grid_by name (map natural zs))
grid_made name zs None none = λ g.
    none (subst IsGrid (sym (read_of_small zs (few_each max_devices (map natural zs) g.positive g.small))) g)
grid_made name zs (Some found) (g, is) =
    let same = small_as_read zs (few_each max_devices (map clamped zs) g.positive g.small) in
    (subst IsGrid same g, is ∙ ap (grid_by name) same)

-- the same of a name and extents that are these
pub grid_made_of : (item : GridItem) (name extents : List ℕ) (found : Option GridValue)
    → name ≡ item.name → extents ≡ map clamped item.extents
    → SomeIff found (IsGrid extents) (grid_by name extents)
    → SomeIff found (IsGrid (grid_of item).extents) (grid_of item)
grid_made_of item name extents found named read made =
    grid_made item.name item.extents found
    (subst (λ n. SomeIff found (IsGrid (map clamped item.extents)) (grid_by n (map clamped item.extents))) named
    (subst (λ ns. SomeIff found (IsGrid ns) (grid_by name ns)) read made))

pub item_name : (grids : List GridItem) (name : List ℕ) (item : GridItem) → grid_item grids name ≡ Some item → item.name ≡ name
item_name [] name item e = absurd (none-some item e)
item_name (g ∷ grids) name item e = by (same_text g.name name) refl e (item_name grids name item)
  where
    by : (b : Bool) → same_text g.name name ≡ b → (if b then Some g else grid_item grids name) ≡ Some item
        → (grid_item grids name ≡ Some item → item.name ≡ name) → item.name ≡ name
    by true same found rest = ap (λ x. x.name) (sym (same_Some g item found)) ∙ same_when g.name name same
    by false same found rest = rest found
