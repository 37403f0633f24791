-- What a structured operation gives, by the folds of its cells loop by loop.
use Rattle.std.proofs.Common.{◌≡◌, ℕ, zero, suc, ◌+◌, ◌<◌, Bool, true, false, List, [], ◌∷◌, ◌++◌, map, length, Option, Some, None, refl, ap, ap₂, sym, ◌∙◌, arith, inl, inr}
use Rattle.std.specs.Prelude.{◌==◌, ◌||◌, is_none, unwrap_or, sum, flat_map, if◌then◌else◌}
use Rattle.std.specs.List.{range_with_len, list_any, list_all, AllByRecursion}
use Rattle.std.proofs.lemmas.Bool.{cases_Bool, and_from}
use Rattle.std.proofs.lemmas.Bool.Decides.{nat_tests}
use Rattle.std.proofs.lemmas.List.{length-map}
use Rattle.std.proofs.lemmas.Option.{same_Some}
use Rattle.sh_base.specs.declared.numbers.Cell.{Cell}
use Rattle.sh_base.specs.declared.numbers.Cell.TheVariants.{Undef}
use Rattle.sh_base.specs.declared.numbers.Width.{Width}
use Rattle.sh_base.specs.Shape.{cell_count, IsIndexOf, flat_of, unflat_of}
use Rattle.sh_base.proofs.ShapeLaws.{flat_of-below, unflat_of-flat_of, unflat_of-within}
use Rattle.sh_ir.specs.declared.operations.OpKind.{OpKind}
use Rattle.sh_ir.specs.declared.operations.OpKind.TheVariants.{Constant, Binary, Compare, Select, Cast, Empty, ExtractSlice, InsertSlice, CollapseShape, ExpandShape, Fill, Matmul, BatchMatmul, Matvec, Vecmat, Dot, Conv1d, Conv2d, Transpose, Broadcast, Reduce, Generic, Sharding, Shard, AllGather, AllSlice, AllReduce, ReduceScatter, AllToAll, Shift, UpdateHalo, Take, Pad, Join, Call, Return}
use Rattle.sh_ir.specs.declared.types.ValueType.{ValueType}
use Rattle.sh_ir.specs.Loops.{LoopMap, Structure, single, structure_of}
use Rattle.sh_sem.specs.Given.{Seat, giving, built_of, gives_nest}
use Rattle.sh_sem.specs.Nest.{Followed, followed, all_followed, extent_of_loop, has_room, have_ranks}
use Rattle.sh_tensor.specs.Tensor.{TensorValue, at, build}
use Rattle.sh_tensor.proofs.TensorLaws.{at-build, build-ext}
use Rattle.sh_nest_laws.specs.LoopSplits.{Operand, names}

pub neither : (b c : Bool) → (b || c) ≡ false → (b ≡ false) × (c ≡ false)
neither true c e = absurd (cc)
neither false c e = (refl, e)

pub none_passes : (f : ℕ → Bool) (a n k : ℕ) → list_any f (range_with_len a n) ≡ false → k < n → f (a + k) ≡ false
none_passes f a zero k none lt = absurd (omega arith)
none_passes f a (suc n) zero none lt = let e : a + 0 ≡ a = omega arith in rw e (neither (f a) (list_any f (range_with_len (a + 1) n)) none).0
none_passes f a (suc n) (suc k) none lt =
    let more = (neither (f a) (list_any f (range_with_len (a + 1) n)) none).1 in
    let step : a + 1 + k ≡ a + suc k = omega arith in
    rw (← step) (none_passes f (a + 1) n k more (omega arith))

pub all_fail : (f : ℕ → Bool) (a n : ℕ) → ((k : ℕ) → k < n → f (a + k) ≡ false) → list_any f (range_with_len a n) ≡ false
all_fail f a zero h = refl
all_fail f a (suc n) h =
    let first : f a ≡ false = let e : a + 0 ≡ a = omega arith in rw e at (h 0 (omega arith)) in
    let others = all_fail f (a + 1) n (λ k lt. let e : a + 1 + k ≡ a + suc k = omega arith in rw e (h (suc k) (omega arith))) in
    rw first others

-- ---- tensors of cells that may be stuck

pub record IsBuilt (s : List ℕ) (w : Width) (f : List ℕ → Option Cell) (t : TensorValue) : Type 0 where
  pub is : t ≡ build s w (λ i. unwrap_or (f i) Undef)
  pub cell : (i : List ℕ) → IsIndexOf s i → f i ≡ Some (at t i)

there : {A : Type 0} (o : Option A) (d : A) → is_none o ≡ false → o ≡ Some (unwrap_or o d)
there None d h = absurd (cc)
there (Some x) d h = refl

pub built : (s : List ℕ) (w : Width) (f : List ℕ → Option Cell) (t : TensorValue) → built_of s w f ≡ Some t → IsBuilt s w f t
unfolding built_of
built s w f t h = go (list_any (λ k. is_none (f (unflat_of s k))) (range_with_len 0 (cell_count s))) refl h
  where
    go : (b : Bool) → list_any (λ k. is_none (f (unflat_of s k))) (range_with_len 0 (cell_count s)) ≡ b
        → (if b then None else Some (build s w (λ i. unwrap_or (f i) Undef))) ≡ Some t → IsBuilt s w f t
    go true e h = absurd (cc)
    go false e h =
        let is : build s w (λ i. unwrap_or (f i) Undef) ≡ t = same_Some _ _ h in
        record {
          is = sym is;
          cell = λ i inside.
              let z : 0 + flat_of s i ≡ flat_of s i = omega arith in
              let test : ℕ → Bool = λ k. is_none (f (unflat_of s k)) in
              let calm : is_none (f i) ≡ false =
              ap (λ index. is_none (f index)) (sym (unflat_of-flat_of s i inside)) ∙ ap test (sym z) ∙ none_passes test 0 (cell_count s) (flat_of s i) e (flat_of-below s i inside) in
              there (f i) Undef calm ∙ ap (λ c. Some c) (sym (at-build s w (λ i. unwrap_or (f i) Undef) i inside)) ∙ ap (λ u. Some (at u i)) is;
        }

pub build_all : (s : List ℕ) (w : Width) (f : List ℕ → Option Cell) (h : List ℕ → Cell) → ((i : List ℕ) → IsIndexOf s i → f i ≡ Some (h i)) → built_of s w f ≡ Some (build s w h)
unfolding built_of
build_all s w f h is =
    let test : ℕ → Bool = λ k. is_none (f (unflat_of s k)) in
    let calm : list_any test (range_with_len 0 (cell_count s)) ≡ false =
    all_fail test 0 (cell_count s) (λ k lt. let z : 0 + k ≡ k = omega arith in ap test z ∙ ap (λ o. is_none o) (is (unflat_of s k) (unflat_of-within s k lt))) in
    rw calm (ap (λ t. Some t) (build-ext s w (λ i. unwrap_or (f i) Undef) h (λ i inside. ap (λ o. unwrap_or o Undef) (is i inside))))

-- ---- the structured kinds

pub gives_of : (kind : OpKind) (s : Structure) (operands : List ℕ) (result : ValueType) (seat : Seat) → structure_of kind ≡ Some s → giving kind operands result seat ≡ Some (gives_nest operands s)
unfolding giving structure_of
gives_of (Fill x) s operands result seat e = ap (λ (y : Structure). Some (gives_nest operands y)) (same_Some _ s e)
gives_of (Matmul x) s operands result seat e = ap (λ (y : Structure). Some (gives_nest operands y)) (same_Some _ s e)
gives_of (BatchMatmul x) s operands result seat e = ap (λ (y : Structure). Some (gives_nest operands y)) (same_Some _ s e)
gives_of (Matvec x) s operands result seat e = ap (λ (y : Structure). Some (gives_nest operands y)) (same_Some _ s e)
gives_of (Vecmat x) s operands result seat e = ap (λ (y : Structure). Some (gives_nest operands y)) (same_Some _ s e)
gives_of (Dot x) s operands result seat e = ap (λ (y : Structure). Some (gives_nest operands y)) (same_Some _ s e)
gives_of (Conv1d x) s operands result seat e = ap (λ (y : Structure). Some (gives_nest operands y)) (same_Some _ s e)
gives_of (Conv2d x) s operands result seat e = ap (λ (y : Structure). Some (gives_nest operands y)) (same_Some _ s e)
gives_of (Transpose x) s operands result seat e = ap (λ (y : Structure). Some (gives_nest operands y)) (same_Some _ s e)
gives_of (Broadcast x) s operands result seat e = ap (λ (y : Structure). Some (gives_nest operands y)) (same_Some _ s e)
gives_of (Reduce x) s operands result seat e = ap (λ (y : Structure). Some (gives_nest operands y)) (same_Some _ s e)
gives_of (Generic x) s operands result seat e = ap (λ (y : Structure). Some (gives_nest operands y)) (same_Some _ s e)
gives_of (Constant x) s operands result seat e = absurd (cc)
gives_of (Binary x) s operands result seat e = absurd (cc)
gives_of (Compare x) s operands result seat e = absurd (cc)
gives_of (Select x) s operands result seat e = absurd (cc)
gives_of (Cast x) s operands result seat e = absurd (cc)
gives_of Empty s operands result seat e = absurd (cc)
gives_of (ExtractSlice x) s operands result seat e = absurd (cc)
gives_of (InsertSlice x) s operands result seat e = absurd (cc)
gives_of (CollapseShape x) s operands result seat e = absurd (cc)
gives_of (ExpandShape x) s operands result seat e = absurd (cc)
gives_of (Sharding x) s operands result seat e = absurd (cc)
gives_of (Shard x) s operands result seat e = absurd (cc)
gives_of (AllGather x) s operands result seat e = absurd (cc)
gives_of (AllSlice x) s operands result seat e = absurd (cc)
gives_of (AllReduce x) s operands result seat e = absurd (cc)
gives_of (ReduceScatter x) s operands result seat e = absurd (cc)
gives_of (AllToAll x) s operands result seat e = absurd (cc)
gives_of (Shift x) s operands result seat e = absurd (cc)
gives_of (UpdateHalo x) s operands result seat e = absurd (cc)
gives_of (Take x) s operands result seat e = absurd (cc)
gives_of (Pad x) s operands result seat e = absurd (cc)
gives_of (Join x) s operands result seat e = absurd (cc)
gives_of (Call x) s operands result seat e = absurd (cc)
gives_of (Return x) s operands result seat e = absurd (cc)

-- ---- maps of single loops

abbrev pub maps_by : List Operand → List LoopMap
maps_by operands = map (λ x. single x.dims) operands

abbrev pub one_followed : (ℕ → ℕ) → ℕ → Followed
one_followed E l = record { loops = l ∷ []; extent = E l }

abbrev pub shapes_by : (ℕ → ℕ) → List Operand → List (List ℕ)
shapes_by E operands = map (λ x. map E x.dims) operands

abbrev pub all_dims : List Operand → List ℕ
all_dims operands = flat_map (λ x. x.dims) operands

test_itself : (x : ℕ) → (x == x) ≡ true
test_itself x = grind (arith, nat_tests)

test_same : (a b : ℕ) → (a == b) ≡ true → a ≡ b
test_same a b h = grind (arith, nat_tests)

pub map_more : {X Y : Type 0} (f : X → Y) (xs ys : List X) → map f (xs ++ ys) ≡ map f xs ++ map f ys
map_more f [] ys = refl
map_more f (x ∷ xs) ys = ap (λ zs. f x ∷ zs) (map_more f xs ys)

module _ (E : ℕ → ℕ) where
  followed_is : (dims : List ℕ) → followed (single dims) (map E dims) ≡ map (one_followed E) dims
  followed_is [] = refl
  followed_is (l ∷ dims) = ap (λ ds. one_followed E l ∷ ds) (followed_is dims)

  pub all_are : (operands : List Operand) (more : List (List ℕ)) → all_followed (maps_by operands) (shapes_by E operands ++ more) ≡ map (one_followed E) (all_dims operands)
  all_are [] more = refl
  all_are (x ∷ operands) more = ap₂ (λ a b. a ++ b) (followed_is x.dims) (all_are operands more) ∙ sym (map_more (one_followed E) x.dims (all_dims operands))

  pub extent_is : (dims : List ℕ) (l : ℕ) → names dims l ≡ true → extent_of_loop (map (one_followed E) dims) l ≡ E l
  extent_is [] l h = absurd (cc)
  extent_is (k ∷ dims) l h =
      elim (cases_Bool (k == l)) [
        | inl b ↦ rw b (ap E (test_same k l b))
        | inr b ↦ let rest : names dims l ≡ true = rw b at h in rw b (extent_is dims l rest)
      ]

  pub rooms : (extent : ℕ → ℕ) (dims : List ℕ) → AllByRecursion (λ l. extent l ≡ E l) dims → list_all (has_room extent) (map (one_followed E) dims) ≡ true
  rooms extent [] h = refl
  rooms extent (l ∷ dims) h =
      let test : (E l + 0 == sum (map extent (l ∷ []))) ≡ true = let same = h.0 in grind (arith, nat_tests) in
      rw test (rooms extent dims h.1)

  pub ranks_are : (operands : List Operand) → have_ranks (maps_by operands) (shapes_by E operands) ≡ true
  ranks_are [] = refl
  ranks_are (x ∷ operands) =
      let long : length (single x.dims) ≡ length (map E x.dims) = length-map x.dims (λ l. l ∷ []) ∙ sym (length-map x.dims E) in
      let test : (length (single x.dims) == length (map E x.dims)) ≡ true = grind (arith, nat_tests) in
      and_from (length (single x.dims) == length (map E x.dims)) (have_ranks (maps_by operands) (shapes_by E operands)) test (ranks_are operands)
