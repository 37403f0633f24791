-- Carried cuts: the grid and the shapes that admission is given, and lists of cuts one by one.
use mathlib.Core.Path.{◌∙◌, ap, sym, refl}
use mathlib.Core.Bool.{true≢false}
use Rattle.std.proofs.Common.{◌≡◌, ℕ, ◌+◌, ◌*◌, ◌<◌, ◌≤◌, List, [], ◌∷◌, ◌++◌, Bool, true, false, ◌&&◌, length, map, min, max, arith, subst}
use Rattle.std.proofs.Math.Nat.{mul-le-mul_left, mul-le-mul_right}
use Rattle.std.proofs.lemmas.Bool.Decides.{nat_tests}
use Rattle.std.proofs.lemmas.List.{append-nil, append_assoc, length-map}
use Rattle.std.proofs.lemmas.List.Elements.{All-head, All-tail}
use Rattle.std.specs.Prelude.{◌↔◌, Option, Some, None, IsTrue, MatchOption, ⊤, ℤ, pos, negsuc, if◌then◌else◌}
use Rattle.std.specs.List.{All, AllByRecursion}
use Rattle.std.specs.Option.{SomeIff, option_map}
use Rattle.std.proofs.lemmas.Option.{none-some, same_Some}
use Rattle.sh_ir.specs.Scope.{grid_item, same_text}
use Rattle.sh_base.specs.Limits.{max_devices}
use Rattle.sh_base.specs.Shape.{cell_count, max_cells, max_rank}
use Rattle.sh_base.specs.declared.places.Refusal.{Refusal}
use Rattle.sh_base.specs.declared.rules.Rule.TheVariants.{V10}
use Rattle.sh_grid.specs.Grid.{GridValue, IsGrid}
use Rattle.sh_ir.specs.declared.functions.Carry.{Carry}
use Rattle.sh_ir.specs.declared.functions.Cut.{Cut}
use Rattle.sh_ir.specs.declared.functions.Func.{Func}
use Rattle.sh_ir.specs.declared.modules.GridItem.{GridItem}
use Rattle.sh_ir.specs.declared.modules.Module.{Module}
use Rattle.sh_ir.specs.declared.types.Dim.{Dim}
use Rattle.sh_ir.specs.declared.types.Dim.TheVariants.{Known, Differs}
use Rattle.sh_ir.specs.declared.types.ValueType.{ValueType}
use Rattle.sh_ir.specs.declared.types.ValueType.TheVariants.{Nothing, Scalar, Tensor, Sharding, Index}
use Rattle.sh_ir.specs.Agreement.{dims_of}
use Rattle.sh_ir.specs.Limits.{counted_dim, has_few_cells, has_few_dims}
use Rattle.sh_ir.specs.Numbers.{as_natural}
use Rattle.sh_ir.specs.Shapes.{argument_types, extent_of, shape_of}
use Rattle.sh_sharding.specs.AxisLists.{natural}
use Rattle.sh_sharding.specs.Carried.{AreAdmitted, carried, grid_named, grid_of, local_types}
use Rattle.sh_sharding.specs.CutRules.{FitsOn, KeepsCuts}
use Rattle.sh_sharding.specs.Sharding.{counted_cells}
use Rattle.sh_verify.specs.CutFaults.{AreCutFaults, HasReadyCuts, IsCutAdmitted, IsReadyCut}
use Rattle.sh_verify.specs.Least.{fault_unless}
use Rattle.sh_verify.proofs.TableLaws.{same_when}

-- ---- the shape of a whole tensor

pub shape_is : (t : ValueType) → map extent_of (dims_of t) ≡ shape_of t
shape_is (Tensor t) = refl
shape_is (Scalar w) = refl
shape_is Nothing = refl
shape_is Sharding = refl
shape_is Index = refl

pub few_extents : (t : ValueType) → IsTrue (has_few_dims t) → length (map extent_of (dims_of t)) ≤ max_rank
unfolding has_few_dims
few_extents t few =
    let e = length-map (dims_of t) extent_of in
    let le : length (dims_of t) ≤ max_rank = grind (arith, nat_tests, few) in
    subst (λ n. n ≤ max_rank) (sym e) le

counted_is : (ds : List Dim) → map (max 1) (map extent_of ds) ≡ map counted_dim ds
counted_is [] = refl
counted_is (Known n ∷ ds) = ap (λ l. max 1 n ∷ l) (counted_is ds)
counted_is (Differs ∷ ds) = ap (λ l. 1 ∷ l) (counted_is ds)

pub small_shape : (t : ValueType) → IsTrue (has_few_cells t) → counted_cells (shape_of t) ≤ max_cells
unfolding has_few_cells
small_shape t small =
    let e : counted_cells (shape_of t) ≡ cell_count (map counted_dim (dims_of t)) =
    ap (λ s. cell_count (map (max 1) s)) (sym (shape_is t)) ∙ ap cell_count (counted_is (dims_of t)) in
    let le : cell_count (map counted_dim (dims_of t)) ≤ max_cells = grind (arith, nat_tests, small) in
    subst (λ n. n ≤ max_cells) (sym e) le

-- ---- the grid of a grid item

-- an extent as the code reads it
abbrev pub clamped : ℤ → ℕ
clamped z = min (max_devices + 1) (as_natural z)

as_is : (z : ℤ) → as_natural z ≡ natural z
as_is (pos n) = refl
as_is (negsuc n) = refl

counted_some : (ns : List ℕ) → All (λ n. 0 < n) ns → 1 ≤ cell_count ns
counted_some [] all = omega arith
counted_some (n ∷ ns) all =
    let first : 1 ≤ n = All-head (λ n. 0 < n) n ns all in
    let rest = counted_some ns (All-tail (λ n. 0 < n) n ns all) in
    let at_least : 1 * 1 ≤ n * 1 = mul-le-mul_right 1 first in
    let more : n * 1 ≤ n * cell_count ns = mul-le-mul_left n rest in
    omega (arith, at_least, more)

-- each extent of a small grid is small
few_each : (top : ℕ) (ns : List ℕ) → All (λ n. 0 < n) ns → cell_count ns ≤ top → AllByRecursion (λ n. n ≤ top) ns
few_each top [] all le = tt
few_each top (n ∷ ns) all le =
    let first : 1 ≤ n = All-head (λ n. 0 < n) n ns all in
    let tail = All-tail (λ n. 0 < n) n ns all in
    let some = counted_some ns tail in
    let own : n * 1 ≤ n * cell_count ns = mul-le-mul_left n some in
    let rest : 1 * cell_count ns ≤ n * cell_count ns = mul-le-mul_right (cell_count ns) first in
    (omega (arith, own, le), few_each top ns tail (omega (arith, rest, le)))

read_of_small : (zs : List ℤ) → AllByRecursion (λ n. n ≤ max_devices) (map natural zs) → map clamped zs ≡ map natural zs
read_of_small [] small = refl
read_of_small (z ∷ zs) small =
    let one : clamped z ≡ natural z = ap (min (max_devices + 1)) (as_is z) ∙ stays (natural z) small.0 in
    ap (λ n. n ∷ map clamped zs) one ∙ ap (λ l. natural z ∷ l) (read_of_small zs small.1)
  where
    stays : (n : ℕ) → n ≤ max_devices → min (max_devices + 1) n ≡ n
    stays n le = grind (arith, le)

small_as_read : (zs : List ℤ) → AllByRecursion (λ n. n ≤ max_devices) (map clamped zs) → map clamped zs ≡ map natural zs
small_as_read [] small = refl
small_as_read (z ∷ zs) small =
    let one : clamped z ≡ natural z = stays (as_natural z) small.0 ∙ as_is z in
    ap (λ n. n ∷ map clamped zs) one ∙ ap (λ l. natural z ∷ l) (small_as_read zs small.1)
  where
    stays : (n : ℕ) → min (max_devices + 1) n ≤ max_devices → min (max_devices + 1) n ≡ n
    stays n le = grind (arith, le)

abbrev grid_by : List ℕ → List ℕ → GridValue
grid_by name extents = record { name = name; extents = extents }

-- What is made of the extents as they are read is what the extents make.
pub grid_made : (name : List ℕ) (zs : List ℤ) (found : Option GridValue)
    → SomeIff found (IsGrid (map clamped zs)) (grid_by name (map clamped zs))
    → SomeIff found (IsGrid (map natural zs)) (grid_by name (map natural zs))
grid_made name zs None none = λ g.
    none (subst IsGrid (sym (read_of_small zs (few_each max_devices (map natural zs) g.positive g.small))) g)
grid_made name zs (Some found) (g, is) =
    let same = small_as_read zs (few_each max_devices (map clamped zs) g.positive g.small) in
    (subst IsGrid same g, is ∙ ap (grid_by name) same)

-- the same of a name and extents that are these
pub grid_made_of : (item : GridItem) (name extents : List ℕ) (found : Option GridValue)
    → name ≡ item.name → extents ≡ map clamped item.extents
    → SomeIff found (IsGrid extents) (grid_by name extents)
    → SomeIff found (IsGrid (grid_of item).extents) (grid_of item)
grid_made_of item name extents found named read made =
    grid_made item.name item.extents found
    (subst (λ n. SomeIff found (IsGrid (map clamped item.extents)) (grid_by n (map clamped item.extents))) named
    (subst (λ ns. SomeIff found (IsGrid ns) (grid_by name ns)) read made))

-- ---- the carried grid

pub item_name : (grids : List GridItem) (name : List ℕ) (item : GridItem) → grid_item grids name ≡ Some item → item.name ≡ name
item_name [] name item e = absurd (none-some item e)
item_name (g ∷ grids) name item e = by (same_text g.name name) refl e (item_name grids name item)
  where
    by : (b : Bool) → same_text g.name name ≡ b → (if b then Some g else grid_item grids name) ≡ Some item
        → (grid_item grids name ≡ Some item → item.name ≡ name) → item.name ≡ name
    by true same found rest = ap (λ x. x.name) (sym (same_Some g item found)) ∙ same_when g.name name same
    by false same found rest = rest found

grid_of_name : (grids : List GridItem) (name : List ℕ) → grid_named grids name ≡ option_map grid_of (grid_item grids name)
grid_of_name [] name = refl
grid_of_name (g ∷ grids) name =
    ap (λ o. if same_text g.name name then Some (grid_of g) else o) (grid_of_name grids name) ∙ by (same_text g.name name)
  where
    by : (b : Bool) → (if b then Some (grid_of g) else option_map grid_of (grid_item grids name))
        ≡ option_map grid_of (if b then Some g else grid_item grids name)
    by true = refl
    by false = refl

-- what is asked of the cuts of a function that is carried on the grid of an item, or on none
abbrev OnItem : Func → Carry → Option GridItem → Type 0
OnItem f carry item = MatchOption (option_map grid_of item) ⊤ (λ g. FitsOn g f carry)

on_item : (m : Module) (f : Func) (carry : Carry) (item : Option GridItem) → f.carry ≡ Some carry
    → grid_item m.grids carry.grid ≡ item → OnItem f carry item ↔ KeepsCuts m f
on_item m f carry item carried named =
    let e : KeepsCuts m f ≡ OnItem f carry item =
    ap (λ c. MatchOption c ⊤ (λ carry. MatchOption (grid_named m.grids carry.grid) ⊤ (λ g. FitsOn g f carry))) carried
    ∙ (ap (λ o. MatchOption o ⊤ (λ g. FitsOn g f carry)) (grid_of_name m.grids carry.grid)
    ∙ ap (λ o. OnItem f carry o) named) in
    (λ w. subst (λ T. T) (sym e) w, λ w. subst (λ T. T) e w)

yes_when : (W : Type 0) → W → IsTrue true ↔ W
yes_when W w = (λ t. w, λ _. refl)

pub kept_on_none : (m : Module) (f : Func) (carry : Carry) → f.carry ≡ Some carry → grid_item m.grids carry.grid ≡ None
    → IsTrue true ↔ KeepsCuts m f
kept_on_none m f carry carried none = yes_when (KeepsCuts m f) ((on_item m f carry None carried none).0 tt)

pub kept_on_no_grid : (m : Module) (f : Func) (carry : Carry) (item : GridItem) → f.carry ≡ Some carry
    → grid_item m.grids carry.grid ≡ Some item → ¬ IsGrid (grid_of item).extents → IsTrue true ↔ KeepsCuts m f
kept_on_no_grid m f carry item carried named none =
    yes_when (KeepsCuts m f) ((on_item m f carry (Some item) carried named).0 (λ g. absurd (none g)))

pub kept_on_grid : (m : Module) (f : Func) (carry : Carry) (item : GridItem) (g : GridValue) (kept : Bool) → f.carry ≡ Some carry
    → grid_item m.grids carry.grid ≡ Some item → g ≡ grid_of item → IsTrue kept ↔ FitsOn g f carry → IsTrue kept ↔ KeepsCuts m f
kept_on_grid m f carry item g kept carried named is decides =
    let on = on_item m f carry (Some item) carried named in
    let fits = subst (λ grid. IsTrue kept ↔ FitsOn grid f carry) is decides in
    (λ t. on.0 (fits.0 t), λ w. fits.1 (on.1 w))

-- the cuts of a function that is carried on the grid are ready for it
pub ready_on : (f : Func) (carry : Carry) (grids : List GridItem) (item : GridItem) (g : GridValue) → HasReadyCuts f → f.carry ≡ Some carry
    → grid_item grids carry.grid ≡ Some item → g ≡ grid_of item → All (IsReadyCut g.name) carry.args × All (IsReadyCut g.name) carry.results
ready_on f carry grids item g ready carried named is =
    let on : All (IsReadyCut carry.grid) carry.args × All (IsReadyCut carry.grid) carry.results =
    subst (λ c. MatchOption c ⊤ (λ x. All (IsReadyCut x.grid) x.args × All (IsReadyCut x.grid) x.results)) carried ready in
    let name : carry.grid ≡ g.name = sym (ap (λ x. x.name) is ∙ item_name grids carry.grid item named) in
    subst (λ n. All (IsReadyCut n) carry.args × All (IsReadyCut n) carry.results) name on

-- ---- cuts that aren't admitted

admitted_left : (g : GridValue) (xs ys : List Cut) → AreAdmitted g (xs ++ ys) → AllByRecursion (IsCutAdmitted g) xs
admitted_left g [] ys all = tt
admitted_left g (x ∷ xs) ys all = (all.0, admitted_left g xs ys all.1)

admitted_right : (g : GridValue) (xs ys : List Cut) → AreAdmitted g (xs ++ ys) → AllByRecursion (IsCutAdmitted g) ys
admitted_right g [] [] all = tt
admitted_right g [] (y ∷ ys) all = (all.0, admitted_right g [] ys all.1)
admitted_right g (x ∷ xs) ys all = admitted_right g xs ys all.1

pub args_refused : (g : GridValue) (f : Func) (carry : Carry) → ¬ AllByRecursion (IsCutAdmitted g) carry.args → IsTrue true ↔ FitsOn g f carry
args_refused g f carry refused = (λ t grid all. absurd (refused (admitted_left g carry.args carry.results all)), λ w. refl)

pub results_refused : (g : GridValue) (f : Func) (carry : Carry) → ¬ AllByRecursion (IsCutAdmitted g) carry.results
    → IsTrue true ↔ FitsOn g f carry
results_refused g f carry refused = (λ t grid all. absurd (refused (admitted_right g carry.args carry.results all)), λ w. refl)

pub refused_when : (b : Bool) (W : Type 0) → IsTrue b ↔ W → b ≡ false → ¬ W
refused_when b W decides fails w = true≢false (sym (decides.1 w) ∙ fails)

all_admitted : (g : GridValue) (xs ys : List Cut) → AllByRecursion (IsCutAdmitted g) xs → AllByRecursion (IsCutAdmitted g) ys → AreAdmitted g (xs ++ ys)
all_admitted g [] [] xs-all ys-all = tt
all_admitted g [] (y ∷ ys) xs-all ys-all = (ys-all.0, all_admitted g [] ys tt ys-all.1)
all_admitted g (x ∷ xs) ys xs-all ys-all = (xs-all.0, all_admitted g xs ys xs-all.1 ys-all)

-- where all are admitted, the types decide
pub types_decide : (g : GridValue) (f : Func) (carry : Carry) (args results : Bool) → IsGrid g.extents
    → AllByRecursion (IsCutAdmitted g) carry.args → AllByRecursion (IsCutAdmitted g) carry.results
    → IsTrue args ↔ (argument_types f ≡ local_types g carry.args) → IsTrue results ↔ (f.results ≡ local_types g carry.results)
    → IsTrue (args && results) ↔ FitsOn g f carry
types_decide g f carry true results grid args-all results-all by_args by_results = (
  λ t grid all. record { args = by_args.0 refl; results = by_results.0 t },
  λ w. by_results.1 (w grid (all_admitted g carry.args carry.results args-all results-all)).results,
)
types_decide g f carry false results grid args-all results-all by_args by_results = (
  λ t. absurd (true≢false (sym t)),
  λ w. by_args.1 (w grid (all_admitted g carry.args carry.results args-all results-all)).args,
)

-- ---- lists one by one

-- what is left of a list decides as the whole does
abbrev pub Decides : {X : Type 0} → (X → Type 0) → List X → Type 0 → Type 0
Decides P rest W = AllByRecursion P rest ↔ W

-- ---- the faults of functions

pub cut_faults_more : (m : Module) (funcs : List Func) (faults : List Refusal) (f : Func) (kept : Bool)
    → AreCutFaults m funcs faults → IsTrue kept ↔ KeepsCuts m f
    → AreCutFaults m (funcs ++ f ∷ []) (faults ++ fault_unless kept f.place V10)
cut_faults_more m [] faults f kept none decides =
    (kept, [], decides, ap (λ rs. rs ++ fault_unless kept f.place V10) none ∙ sym (append-nil (fault_unless kept f.place V10)), refl)
cut_faults_more m (x ∷ funcs) faults f kept (b, rest, its, is, further) decides = (
  b,
  rest ++ fault_unless kept f.place V10,
  its,
  ap (λ rs. rs ++ fault_unless kept f.place V10) is ∙ append_assoc (fault_unless b x.place V10) rest (fault_unless kept f.place V10),
  cut_faults_more m funcs rest f kept further decides,
)
