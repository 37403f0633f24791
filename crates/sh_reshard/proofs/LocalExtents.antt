-- The extents of local types before and after a move, as the rules relate them.
use Rattle.std.proofs.Common.{◌≡◌, ◌≢◌, ◌∙◌, ℕ, zero, suc, ◌+◌, ◌-◌, ◌*◌, ◌/◌, ◌%◌, ◌<◌, ◌≤◌, Bool, true, false, ◌&&◌, List, [], ◌∷◌, length, map, Some, refl, ap, sym, subst, arith, inl, inr}
use Rattle.std.specs.Prelude.{nat_eq, if◌then◌else◌}
use Rattle.std.specs.List.{list_all}
use Rattle.std.proofs.lemmas.Bool.{and_from}
use Rattle.std.proofs.lemmas.Bool.Decides.{nat_tests}
use Rattle.std.proofs.lemmas.Nat.{div-mul-add, mod-mul-add}
use Rattle.sh_base.proofs.IndexLaws.{cell_count-some}
use Rattle.sh_base.specs.Shape.{cell_count}
use Rattle.sh_grid.specs.Grid.{AreAxesOf, IsGrid, group_size_of, member_of}
use Rattle.sh_grid.proofs.GroupLaws.{member_of-below}
use Rattle.sh_grid.proofs.GroupSteps.{group_size_of-some}
use Rattle.sh_ir.specs.Agreement.{all_related, dims_agree}
use Rattle.sh_ir.specs.Results.{is_gathered, is_of_sizes, is_piece}
use Rattle.sh_ir.specs.declared.types.Dim.{Dim}
use Rattle.sh_ir.specs.declared.types.Dim.TheVariants.{Known, Differs}
use Rattle.sh_ir.proofs.TypeLaws.{agrees_itself}
use Rattle.sh_sharding.specs.declared.shardings.Dimension.{Dimension}
use Rattle.sh_sharding.specs.LocalTypes.{IsLocalDim, local_dim, part_sizes}
use Rattle.sh_sharding.specs.Sharding.{HasNoHalos, local_extent, part_size, size_in}
use Rattle.sh_sharding.proofs.Cases.{same_or_not}
use Rattle.sh_sharding.proofs.LocalTypeLaws.{is_local_dim}
use Rattle.sh_plan.specs.Moves.{at}
use Rattle.sh_plan.proofs.FinerParts.{ArePieced, IsPieced}

-- ---- dimension by dimension

-- what holds of each dimension and the one in its place holds of the lists
related_by : (R : ℕ → Dim → Dim → Bool) (f : Dimension → Dim) (first : ℕ) (ds es : List Dimension) → length ds ≡ length es →
    ((i : ℕ) → i < length ds → R (first + i) (f (at ds i)) (f (at es i)) ≡ true) → all_related R first (map f ds) (map f es) ≡ true
related_by R f first [] [] same each = refl
related_by R f first [] (e ∷ es) same each = absurd (omega (arith, same))
related_by R f first (d ∷ ds) [] same each = absurd (omega (arith, same))
related_by R f first (d ∷ ds) (e ∷ es) same each =
    and_from (R first (f d) (f e)) (all_related R (first + 1) (map f ds) (map f es))
    (subst (λ n. R n (f d) (f e) ≡ true) (omega arith) (each 0 (omega arith)))
    (related_by R f (first + 1) ds es (omega (arith, same))
    (λ i below. subst (λ n. R n (f (at ds i)) (f (at es i)) ≡ true) (omega arith) (each (suc i) (omega (arith, below)))))

pub related_all : (R : ℕ → Dim → Dim → Bool) (f : Dimension → Dim) (ds es : List Dimension) → length ds ≡ length es →
    ((i : ℕ) → i < length ds → R i (f (at ds i)) (f (at es i)) ≡ true) → all_related R 0 (map f ds) (map f es) ≡ true
related_all R f ds es same each = related_by R f 0 ds es same (λ i below. subst (λ n. R n (f (at ds i)) (f (at es i)) ≡ true) (omega arith) (each i below))

-- ---- lists of which one dimension is divided further

pub pieced_at : (g L : List ℕ) (off : ℕ → ℕ → ℕ) (k : ℕ) (ds es : List Dimension) → ArePieced g L off k ds es → IsPieced g L off (at ds k) (at es k)
pieced_at g L off k [] es pieced = absurd pieced
pieced_at g L off k (d ∷ ds) [] pieced = absurd pieced
pieced_at g L off zero (d ∷ ds) (e ∷ es) pieced = pieced.0
pieced_at g L off (suc k) (d ∷ ds) (e ∷ es) pieced = pieced_at g L off k ds es pieced.2

pub pieced_rank : (g L : List ℕ) (off : ℕ → ℕ → ℕ) (k : ℕ) (ds es : List Dimension) → ArePieced g L off k ds es → length ds ≡ length es
pieced_rank g L off k [] es pieced = absurd pieced
pieced_rank g L off k (d ∷ ds) [] pieced = absurd pieced
pieced_rank g L off zero (d ∷ ds) (e ∷ es) pieced = ap suc (ap length (sym pieced.1))
pieced_rank g L off (suc k) (d ∷ ds) (e ∷ es) pieced = ap suc (pieced_rank g L off k ds es pieced.2)

pub pieced_else : (g L : List ℕ) (off : ℕ → ℕ → ℕ) (k i : ℕ) (ds es : List Dimension) → ArePieced g L off k ds es → i ≢ k → at ds i ≡ at es i
pieced_else g L off k i [] es pieced other = absurd pieced
pieced_else g L off k i (d ∷ ds) [] pieced other = absurd pieced
pieced_else g L off zero zero (d ∷ ds) (e ∷ es) pieced other = absurd (other refl)
pieced_else g L off zero (suc i) (d ∷ ds) (e ∷ es) pieced other = ap (λ xs. at xs i) (sym pieced.1)
pieced_else g L off (suc k) zero (d ∷ ds) (e ∷ es) pieced other = sym pieced.0
pieced_else g L off (suc k) (suc i) (d ∷ ds) (e ∷ es) pieced other = pieced_else g L off k i ds es pieced.2 (λ same. other (ap suc same))

-- so related in one dimension, and agreeing in the others
pub related_at : (R : Dim → Dim → Bool) (f : Dimension → Dim) (k : ℕ) (ds es : List Dimension) → length ds ≡ length es → ((i : ℕ) → i ≢ k → at ds i ≡ at es i) →
    R (f (at ds k)) (f (at es k)) ≡ true → all_related (λ i d e. if nat_eq i k then R d e else dims_agree d e) 0 (map f ds) (map f es) ≡ true
related_at R f k ds es same others here =
    related_all (λ i d e. if nat_eq i k then R d e else dims_agree d e) f ds es same (λ i below. elim (same_or_not i k) [
      | inl own ↦
          let test : nat_eq i k ≡ true = grind (arith, nat_tests) in
          rw (test, own) here
      | inr other ↦
          let test : nat_eq i k ≡ false = grind (arith, nat_tests) in
          rw (test, others i other) (agrees_itself (f (at es i)))
    ])

-- ---- a dimension without halos whose part is divided into pieces

pub no_halos_at : (ds : List Dimension) (k : ℕ) → HasNoHalos ds → ((at ds k).low ≡ 0) × ((at ds k).high ≡ 0)
no_halos_at [] k none = (refl, refl)
no_halos_at (d ∷ ds) zero none = none.0
no_halos_at (d ∷ ds) (suc k) none = no_halos_at ds k none.1

-- halo-free dimensions, the first divided further along a list of axes
pub record IsFiner (g L : List ℕ) (off : ℕ → ℕ → ℕ) (d e : Dimension) : Type 0 where
  pub grid : IsGrid g
  pub along : AreAxesOf (length g) L
  pub fine : AreAxesOf (length g) d.axes
  pub coarse : AreAxesOf (length g) e.axes
  pub pieced : IsPieced g L off d e
  pub fine_low : d.low ≡ 0
  pub fine_high : d.high ≡ 0
  pub coarse_low : e.low ≡ 0
  pub coarse_high : e.high ≡ 0

module _ (g L : List ℕ) (off : ℕ → ℕ → ℕ) (d e : Dimension) (is : IsFiner g L off d e) where
  some : 0 < cell_count g
  some = cell_count-some g is.grid.positive

  fine_extent : (device n : ℕ) (dim : Dim) → dim ≡ Known n → IsLocalDim g d dim → device < cell_count g → size_in g device d ≡ n
  unfolding local_extent
  fine_extent device n (Known m) same local here =
      let own : d.low + size_in g device d + d.high ≡ m = local device here in
      let low = is.fine_low in
      let high = is.fine_high in
      let number : m ≡ n = ap (λ x. elim x [ Known k ↦ k | Differs ↦ 0 ]) same in
      omega (arith, own, low, high, number)
  fine_extent device n Differs same local here = absurd (cc)

  coarse_extent : (device n : ℕ) (dim : Dim) → dim ≡ Known n → IsLocalDim g e dim → device < cell_count g → size_in g device e ≡ n
  unfolding local_extent
  coarse_extent device n (Known m) same local here =
      let own : e.low + size_in g device e + e.high ≡ m = local device here in
      let low = is.coarse_low in
      let high = is.coarse_high in
      let number : m ≡ n = ap (λ x. elim x [ Known k ↦ k | Differs ↦ 0 ]) same in
      omega (arith, own, low, high, number)
  coarse_extent device n Differs same local here = absurd (cc)

  -- pieces of one size, one after the other
  ends_at : (n : ℕ) → ((q : ℕ) → q < group_size_of g L → off 0 (q + 1) - off 0 q ≡ n) → (q : ℕ) → q ≤ group_size_of g L → off 0 q ≡ q * n
  ends_at n sizes zero within = let first = is.pieced.first 0 some in omega (arith, first)
  ends_at n sizes (suc q) within =
      let before = ends_at n sizes q (omega (arith, within)) in
      let size = sizes q (omega (arith, within)) in
      let rises = is.pieced.rises 0 q some (omega (arith, within)) in
      let all : off 0 (q + 1) ≡ suc q * n = omega (arith, before, size, rises) in
      subst (λ k. off 0 k ≡ suc q * n) (omega arith) all

  -- where all finer parts are n long, a coarser one is as long as a group of them
  together : (n : ℕ) → local_dim g d ≡ Known n → size_in g 0 e ≡ group_size_of g L * n
  together n known =
      let sizes : (q : ℕ) → q < group_size_of g L → off 0 (q + 1) - off 0 q ≡ n =
      λ q below. sym (is.pieced.size 0 q some below) ∙ fine_extent (member_of g L 0 q) n (local_dim g d) known (is_local_dim g d is.grid is.fine) (member_of-below g L 0 q some below) in
      sym (is.pieced.all 0 some) ∙ ends_at n sizes (group_size_of g L) (omega arith)

  gathered_dims : (known : Dim) (whole : Dim) → local_dim g d ≡ known → local_dim g e ≡ whole → is_gathered (Some (group_size_of g L)) known whole ≡ true
  gathered_dims Differs whole this that = refl
  gathered_dims (Known m) Differs this that = refl
  gathered_dims (Known m) (Known n) this that =
      let long = together m this in
      let size = coarse_extent 0 n (local_dim g e) that (is_local_dim g e is.grid is.coarse) some in
      let same : m * group_size_of g L ≡ n = omega (arith, long, size) in
      grind (arith, nat_tests)

  -- the finer extents are gathered to the coarser ones
  pub gathered : is_gathered (Some (group_size_of g L)) (local_dim g d) (local_dim g e) ≡ true
  gathered = gathered_dims (local_dim g d) (local_dim g e) refl refl

-- ---- pieces of one size

module _ (g L : List ℕ) (off : ℕ → ℕ → ℕ) (d e : Dimension) (is : IsFiner g L off d e) (size : ℕ) (equal : (q : ℕ) → off 0 (q + 1) - off 0 q ≡ size) where
  divided : (n : ℕ) → local_dim g e ≡ Known n → n ≡ size * group_size_of g L + 0
  divided n known =
      let long = sym (is.pieced.all 0 (some g L off d e is)) ∙ ends_at g L off d e is size (λ q below. equal q) (group_size_of g L) (omega arith) in
      let own = coarse_extent g L off d e is 0 n (local_dim g e) known (is_local_dim g e is.grid is.coarse) (some g L off d e is) in
      omega (arith, long, own)

  one_size : (n : ℕ) → local_dim g d ≡ Known n → n ≡ size
  one_size n known =
      let count = group_size_of-some g L is.grid.positive is.along in
      let first = sym (is.pieced.size 0 0 (some g L off d e is) count)
      ∙ fine_extent g L off d e is (member_of g L 0 0) n (local_dim g d) known (is_local_dim g d is.grid is.fine) (member_of-below g L 0 0 (some g L off d e is) count) in
      sym first ∙ equal 0

  piece_dims : (whole known : Dim) → local_dim g e ≡ whole → local_dim g d ≡ known → is_piece (Some (group_size_of g L)) whole known ≡ true
  piece_dims Differs known this that = refl
  piece_dims (Known n) known this that =
      let product = divided n this in
      let count = group_size_of-some g L is.grid.positive is.along in
      let rest : n % group_size_of g L ≡ 0 = ap (λ x. x % group_size_of g L) product ∙ mod-mul-add size (group_size_of g L) 0 count in
      let share : n / group_size_of g L ≡ size = ap (λ x. x / group_size_of g L) product ∙ div-mul-add size (group_size_of g L) 0 count in
      let test : nat_eq (n % group_size_of g L) 0 ≡ true = rw rest refl in
      rw (test, share) (agrees known that)
    where
      agrees : (known : Dim) → local_dim g d ≡ known → dims_agree (Known size) known ≡ true
      agrees Differs that = refl
      agrees (Known m) that = let same = one_size m that in grind (arith, nat_tests)

  -- a coarser extent is divided into pieces of the finer one
  pub piece_of : is_piece (Some (group_size_of g L)) (local_dim g e) (local_dim g d) ≡ true
  piece_of = piece_dims (local_dim g e) (local_dim g d) refl refl

-- ---- parts of written sizes

turned : (n : ℕ) (sizes : List ℕ) → list_all (λ m. nat_eq m n) sizes ≡ true → list_all (nat_eq n) sizes ≡ true
turned n [] all = refl
turned n (m ∷ sizes) all = elim (same_or_not m n) [
  | inl same ↦
      let test : nat_eq n m ≡ true = grind (arith, nat_tests) in
      let own : nat_eq m n ≡ true = grind (arith, nat_tests) in
      let rest : list_all (λ m. nat_eq m n) sizes ≡ true = sym (ap (λ (b : Bool). b && list_all (λ m. nat_eq m n) sizes) own) ∙ all in
      and_from (nat_eq n m) (list_all (nat_eq n) sizes) test (turned n sizes rest)
  | inr other ↦
      let own : nat_eq m n ≡ false = grind (arith, nat_tests) in
      let none : false ≡ true = sym (ap (λ (b : Bool). b && list_all (λ m. nat_eq m n) sizes) own) ∙ all in
      absurd (cc)
]

sizes_dims : (sizes : List ℕ) (n : ℕ) (b : Bool) → list_all (λ m. nat_eq m n) sizes ≡ b → is_of_sizes sizes (if b then Known n else Differs) ≡ true
sizes_dims sizes n true all = turned n sizes all
sizes_dims sizes n false all = refl

-- the extent of a dimension without halos is each of its parts' sizes, where it is known
pub of_sizes : (g : List ℕ) (d : Dimension) → d.low ≡ 0 → d.high ≡ 0 → is_of_sizes (part_sizes g d) (local_dim g d) ≡ true
unfolding local_dim
of_sizes g d low high =
    let size : d.low + part_size g d 0 + d.high ≡ part_size g d 0 = omega (arith, low, high) in
    rw size (sizes_dims (part_sizes g d) (part_size g d 0) (list_all (λ m. nat_eq m (part_size g d 0)) (part_sizes g d)) refl)
