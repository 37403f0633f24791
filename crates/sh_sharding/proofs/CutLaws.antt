-- What is known of a cut, cell by cell.
use Rattle.std.proofs.Common.{◌≡◌, ℕ, ◌+◌, ◌-◌, ◌<◌, List, [], ◌∷◌, get_or, map, Bool, true, refl, ap, ap₂, sym, ◌∙◌, arith}
use Rattle.std.specs.List.{AllByRecursion}
use Rattle.std.specs.Prelude.{nat_le, nat_lt, ◌&&◌, if◌then◌else◌}
use Rattle.std.proofs.lemmas.Bool.Decides.{nat_tests}
use Rattle.sh_base.specs.declared.numbers.Cell.{Cell}
use Rattle.sh_base.specs.declared.numbers.Cell.TheVariants.{Undef}
use Rattle.sh_base.specs.declared.numbers.Width.{Width}
use Rattle.sh_base.specs.Shape.{cell_count, IsIndexOf}
use Rattle.sh_tensor.specs.Tensor.{TensorValue, at, build}
use Rattle.sh_tensor.proofs.TensorLaws.{at-build, build-ext}
use Rattle.sh_sharding.specs.declared.shardings.Dimension.{Dimension}
use Rattle.sh_sharding.specs.Sharding.{ShardingValue, start_in, size_in, local_extent, local_shape, whole_of, HasNoHalos, IsSharding}
use Rattle.sh_sharding.specs.Cut.{whole_index, is_inside, cut_cell, cut_of, CutsElementwise}
use Rattle.sh_sharding.proofs.PartLaws.{IsPlaced, placed}
use Rattle.sh_sharding.proofs.Cases.{and_left, and_right, lt_from}

-- ---- cells

pub at-cut_of : (s : ShardingValue) (t : TensorValue) (device : ℕ) (j : List ℕ) → IsIndexOf (local_shape s device) j → at (cut_of s t device) j ≡ cut_cell s t device j
unfolding cut_of
at-cut_of s t device j h = at-build (local_shape s device) t.width (cut_cell s t device) j h

pub shape-cut_of : (s : ShardingValue) (t : TensorValue) (device : ℕ) → (cut_of s t device).shape ≡ local_shape s device
unfolding cut_of
shape-cut_of s t device = refl

pub width-cut_of : (s : ShardingValue) (t : TensorValue) (device : ℕ) → (cut_of s t device).width ≡ t.width
unfolding cut_of
width-cut_of s t device = refl

-- an index that lies in the whole is one of its indices
pub whole_index-inside : (g : List ℕ) (device : ℕ) (ds : List Dimension) (j : List ℕ) → IsIndexOf (map (local_extent g device) ds) j → is_inside g device ds j ≡ true
    → IsIndexOf (map (λ d. d.extent) ds) (whole_index g device ds j)
whole_index-inside g device [] j h inside = tt
whole_index-inside g device (d ∷ ds) [] h inside = absurd h
whole_index-inside g device (d ∷ ds) (x ∷ j) h inside =
    let begins = nat_le d.low (start_in g device d + x) in
    let ends = nat_lt (start_in g device d + x - d.low) d.extent in
    let here = and_left (begins && ends) (is_inside g device ds j) inside in (
      lt_from (start_in g device d + x - d.low) d.extent (and_right begins ends here),
      whole_index-inside g device ds j h.1 (and_right (begins && ends) (is_inside g device ds j) inside),
    )

-- without halos each local index stands in the whole
pub no_halos-inside : (g : List ℕ) (device : ℕ) (ds : List Dimension) (j : List ℕ) → AllByRecursion (IsPlaced g device) ds → HasNoHalos ds → IsIndexOf (map (local_extent g device) ds) j
    → is_inside g device ds j ≡ true
unfolding local_extent
no_halos-inside g device [] j ok none h = refl
no_halos-inside g device (d ∷ ds) [] ok none h = absurd h
no_halos-inside g device (d ∷ ds) (x ∷ j) ok none h =
    let below : x < d.low + size_in g device d + d.high = h.0 in
    let low : d.low ≡ 0 = none.0.0 in
    let high : d.high ≡ 0 = none.0.1 in
    let fits = ok.0.fits in
    let begins : nat_le d.low (start_in g device d + x) ≡ true = grind (arith, nat_tests) in
    let ends : nat_lt (start_in g device d + x - d.low) d.extent ≡ true = grind (arith, nat_tests) in
    ap₂ (λ (a b : Bool). a && b) (ap₂ (λ (a b : Bool). a && b) begins ends) (no_halos-inside g device ds j ok.1 none.1 h.1)

-- ---- element operations

-- the cell of a cut without halos is the tensor's cell at the index where it stands
pub cut_cell-no_halos : (s : ShardingValue) (t : TensorValue) (device : ℕ) (j : List ℕ) → IsSharding s → HasNoHalos s.dimensions → device < cell_count s.grid.extents → IsIndexOf (local_shape s device) j
    → cut_cell s t device j ≡ at t (whole_index s.grid.extents device s.dimensions j)
cut_cell-no_halos s t device j ok none l h =
    let inside = no_halos-inside s.grid.extents device s.dimensions j (placed s device ok l) none h in
    ap (λ (b : Bool). if b then at t (whole_index s.grid.extents device s.dimensions j) else Undef) inside

-- Without halos the cut of the tensor with the cells f has the cells of f where they stand in the whole.
pub cut_of-build : (s : ShardingValue) (w : Width) (f : List ℕ → Cell) (device : ℕ) → IsSharding s → HasNoHalos s.dimensions → device < cell_count s.grid.extents
    → cut_of s (build (whole_of s) w f) device ≡ build (local_shape s device) w (λ j. f (whole_index s.grid.extents device s.dimensions j))
unfolding cut_of
cut_of-build s w f device ok none l =
    build-ext (local_shape s device) w (cut_cell s (build (whole_of s) w f) device) (λ j. f (whole_index s.grid.extents device s.dimensions j))
    (λ j h.
    let inside = no_halos-inside s.grid.extents device s.dimensions j (placed s device ok l) none h in
    cut_cell-no_halos s (build (whole_of s) w f) device j ok none l h
    ∙ at-build (whole_of s) w f (whole_index s.grid.extents device s.dimensions j) (whole_index-inside s.grid.extents device s.dimensions j h inside))

-- the cells of the operands' cuts are those of the operands where they stand in the whole
cut_cells : (s : ShardingValue) (xs : List TensorValue) (device : ℕ) (j : List ℕ) → IsSharding s → HasNoHalos s.dimensions → device < cell_count s.grid.extents → IsIndexOf (local_shape s device) j
    → map (λ x. at x (whole_index s.grid.extents device s.dimensions j)) xs ≡ map (λ x. at (cut_of s x device) j) xs
cut_cells s [] device j ok none l h = refl
cut_cells s (x ∷ xs) device j ok none l h =
    ap₂ ◌∷◌ (sym (at-cut_of s x device j h ∙ cut_cell-no_halos s x device j ok none l h)) (cut_cells s xs device j ok none l h)

-- An element operation commutes with a cut without halos: the cut of the result is the operation on the
-- cuts.
pub cut_of-elements : (s : ShardingValue) (w : Width) (f : List Cell → Cell) (xs : List TensorValue) (device : ℕ) → IsSharding s → HasNoHalos s.dimensions → device < cell_count s.grid.extents
    → cut_of s (build (whole_of s) w (λ i. f (map (λ x. at x i) xs))) device
    ≡ build (local_shape s device) w (λ j. f (map (λ x. at (cut_of s x device) j) xs))
cut_of-elements s w f xs device ok none l =
    cut_of-build s w (λ i. f (map (λ x. at x i) xs)) device ok none l
    ∙ build-ext (local_shape s device) w (λ j. f (map (λ x. at x (whole_index s.grid.extents device s.dimensions j)) xs))
    (λ j. f (map (λ x. at (cut_of s x device) j) xs))
    (λ j h. ap f (cut_cells s xs device j ok none l h))

-- the same of two operands
pub cut_of-zip : (s : ShardingValue) (w : Width) (f : Cell → Cell → Cell) (x y : TensorValue) (device : ℕ) → IsSharding s → HasNoHalos s.dimensions → device < cell_count s.grid.extents
    → cut_of s (build (whole_of s) w (λ i. f (at x i) (at y i))) device
    ≡ build (local_shape s device) w (λ j. f (at (cut_of s x device) j) (at (cut_of s y device) j))
cut_of-zip s w f x y device ok none l = cut_of-elements s w (λ cells. f (get_or cells 0 Undef) (get_or cells 1 Undef)) (x ∷ y ∷ []) device ok none l

pub cuts_elementwise : (s : ShardingValue) → IsSharding s → HasNoHalos s.dimensions → CutsElementwise s
cuts_elementwise s ok none = record { commutes = λ w f xs device l. cut_of-elements s w f xs device ok none l }
