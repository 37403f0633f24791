-- A fill of a local output with a scalar.
use Rattle.std.proofs.Common.{◌≡◌, ℕ, zero, suc, ◌+◌, ◌<◌, ◌≤◌, true, false, List, [], ◌∷◌, ◌++◌, map, get_or, length, Option, Some, None, refl, ap, ap₂, sym, ◌∙◌, arith, subst, inl, inr}
use Rattle.std.specs.Prelude.{◌==◌, is_some}
use Rattle.std.specs.List.{range_with_len, AllByRecursion}
use Rattle.std.proofs.lemmas.Bool.Decides.{nat_tests}
use Rattle.std.proofs.lemmas.Bool.{cases_eq}
use Rattle.std.proofs.lemmas.List.{length-map}
use Rattle.sh_base.specs.Shape.{cell_count, IsIndexOf}
use Rattle.sh_base.proofs.ShapeLaws.{IsIndexOf-length}
use Rattle.sh_grid.specs.Grid.{GridValue, AreAxesOf, IsNoneOf}
use Rattle.sh_ir.specs.declared.operations.Op.{Op}
use Rattle.sh_ir.specs.Agreement.{dims_of}
use Rattle.sh_ir.specs.Typing.{typing_of}
use Rattle.sh_sem.specs.Given.{Seat, given, have_all_extents}
use Rattle.sh_sem.specs.Types.{have_extents}
use Rattle.sh_tensor.specs.Tensor.{TensorValue, at, build}
use Rattle.sh_sharding.specs.declared.shardings.Dimension.{Dimension}
use Rattle.sh_sharding.specs.Sharding.{local_extent, local_shape}
use Rattle.sh_nest_laws.specs.LoopSplits.{Operand, IsOperationOf, HasLocalTypes, loops_named, names, sharding_on}
use Rattle.sh_nest_laws.specs.SplitReduction.{fill_nest, fill_division}
use Rattle.sh_nest_laws.proofs.Cuts.{local_shape_is}
use Rattle.sh_nest_laws.proofs.Loops.{local}
use Rattle.sh_nest_laws.proofs.Operands.{HasShapes, gives_cells, step_at, value_at}
use Rattle.sh_nest_laws.proofs.Points.{over_points, entry_for}
use Rattle.sh_nest_laws.proofs.SplitCells.{entry_fixes}

-- where all loops are fixed there is one point
one_visit : {A : Type 0} (n l : ℕ) (E : ℕ → ℕ) (fixed : ℕ → Option ℕ) (f : List ℕ → A → A) (a b : A) → ((i : ℕ) → l ≤ i → i < l + n → is_some (fixed i) ≡ true) → ((p : List ℕ) → f p a ≡ b) → over_points l n E fixed f a ≡ b
one_visit zero l E fixed f a b all is = is []
one_visit {A} (suc n) l E fixed f a b all is = go (fixed l) refl (λ x. one_visit n (suc l) E fixed (λ p. f (x ∷ p)) a b (λ i le lt. all i (omega (arith, le)) (omega (arith, lt))) (λ p. is (x ∷ p)))
  where
    go : (o : Option ℕ) → fixed l ≡ o → ((x : ℕ) → over_points (suc l) n E fixed (λ p. f (x ∷ p)) a ≡ b) → over_points l (suc n) E fixed f a ≡ b
    go None e more = let bad : false ≡ true = sym (ap (λ (o : Option ℕ). is_some o) e) ∙ all l (omega arith) (omega arith) in absurd (cc)
    go (Some x) e more = let here = more x in rw e here

-- the numbers below a bound
named_in_range : (a n l : ℕ) → a ≤ l → l < a + n → names (range_with_len a n) l ≡ true
named_in_range a zero l le lt = absurd (omega (arith, le, lt))
named_in_range a (suc n) l le lt =
    elim (cases_eq a l) [
      | inl e ↦ let test : (a == l) ≡ true = grind (arith, nat_tests) in rw test refl
      | inr ne ↦ let test : (a == l) ≡ false = grind (arith, nat_tests) in let rest = named_in_range (a + 1) n l (omega (arith, le, ne)) (omega (arith, lt)) in rw (test, rest) refl
    ]

none_in_range : (b a n : ℕ) → b < a → IsNoneOf b (range_with_len a n)
none_in_range b a zero lt = tt
none_in_range b a (suc n) lt = (λ e. absurd (omega (arith, e, lt)), none_in_range b (a + 1) n (omega (arith, lt)))

axes_of_range : (top a n : ℕ) → a + n ≤ top → AreAxesOf top (range_with_len a n)
axes_of_range top a zero le = tt
axes_of_range top a (suc n) le = (omega (arith, le), none_in_range a (a + 1) n (omega arith), axes_of_range top (a + 1) n (omega (arith, le)))

below_in_range : (top a n : ℕ) → a + n ≤ top → AllByRecursion (λ l. l < top) (range_with_len a n)
below_in_range top a zero le = tt
below_in_range top a (suc n) le = (omega (arith, le), below_in_range top (a + 1) n (omega (arith, le)))

none_more : (xs : List ℕ) → xs ++ [] ≡ xs
none_more [] = refl
none_more (x ∷ xs) = ap (λ zs. x ∷ zs) (none_more xs)

entries : {X : Type 0} (f : ℕ → X) (dims : List ℕ) → map (λ i. f (get_or dims i 0)) (range_with_len 0 (length dims)) ≡ map f dims
entries {X} f dims = go dims 0 (λ i. get_or dims i 0) (λ k lt. let z : 0 + k ≡ k = omega arith in ap (λ i. get_or dims i 0) z)
  where
    go : (ds : List ℕ) (a : ℕ) (read : ℕ → ℕ) → ((k : ℕ) → k < length ds → read (a + k) ≡ get_or ds k 0) → map (λ i. f (read i)) (range_with_len a (length ds)) ≡ map f ds
    go [] a read h = refl
    go (d ∷ ds) a read h =
        let z : a + 0 ≡ a = omega arith in
        ap₂ (λ x xs. f x ∷ xs) (ap read (sym z) ∙ h 0 (omega arith))
        (go ds (a + 1) read (λ k lt. let s : a + 1 + k ≡ a + suc k = omega arith in ap read s ∙ h (suc k) (omega (arith, lt))))

module _ (g : GridValue) (D : ℕ → Dimension) (out : Operand) (op : Op) (is : IsOperationOf (fill_nest out) op) (types : HasLocalTypes g (fill_division D out) (fill_nest out) op) (c : ℕ) (in' : c < cell_count g.extents) where
  abbrev n : ℕ
  n = length out.dims

  abbrev E : ℕ → ℕ
  E i = local g D c (get_or out.dims i 0)

  named : (l : ℕ) → l < n → names (loops_named (fill_nest out)) l ≡ true
  named l lt = ap (λ ls. names ls l) (none_more (range_with_len 0 n)) ∙ named_in_range 0 n l (omega arith) (omega (arith, lt))

  below : AllByRecursion (λ l. l < n) (loops_named (fill_nest out))
  below = subst (AllByRecursion (λ l. l < n)) (sym (none_more (range_with_len 0 n))) (below_in_range n 0 n (omega arith))

  shape_is : local_shape (sharding_on g (fill_division D out) (range_with_len 0 n)) c ≡ local_shape (sharding_on g D out.dims) c
  shape_is = ap (map (local_extent g.extents c)) (entries D out.dims)

  -- it gives the scalar's cell everywhere
  pub filled_is : (seat : Seat) (x u : TensorValue) → x.shape ≡ [] → x.width ≡ out.width → u.shape ≡ local_shape (sharding_on g D out.dims) c → u.width ≡ out.width
      → given op seat (x ∷ u ∷ []) ≡ Some (build (local_shape (sharding_on g D out.dims) c) out.width (λ j. at x []))
  unfolding value_at
  filled_is seat x u xs xw us uw =
      let shape : u.shape ≡ map E (range_with_len 0 n) = us ∙ local_shape_is g D c out.dims ∙ sym (entries (local g D c) out.dims) in
      let has : HasShapes (fill_nest out) E (x ∷ []) u = record { widths = ap (λ w. w ∷ []) xw; width = uw; shapes = ap (λ s. s ∷ []) xs; shape = shape } in
      let once : AreAxesOf n (range_with_len 0 n) = axes_of_range n 0 n (omega arith) in
      let typed : have_all_extents (typing_of op.kind op.result) (x.shape ∷ u.shape ∷ []) ≡ true =
      ap₂ (λ a b. have_all_extents (typing_of op.kind op.result) (a ∷ b ∷ [])) xs (us ∙ sym shape_is) ∙ types.operands c in' in
      let known : have_extents (dims_of op.result) u.shape ≡ true = ap (have_extents (dims_of op.result)) (us ∙ sym shape_is) ∙ types.result c in' in
      gives_cells (fill_nest out) named below E op is (x ∷ []) u [] has once seat typed known (λ j. at x [])
      (λ j inside.
      let inside' : IsIndexOf (map E (range_with_len 0 n)) j = subst (λ s. IsIndexOf s j) shape inside in
      let long : length j ≡ length (range_with_len 0 n) = sym (IsIndexOf-length (map E (range_with_len 0 n)) j inside') ∙ length-map (range_with_len 0 n) E in
      one_visit n 0 E (entry_for (range_with_len 0 n) j) (step_at (fill_nest out) [] (x ∷ [])) (Some (at u j)) (Some (at x []))
      (λ i le lt. sym (entry_fixes (range_with_len 0 n) j i long) ∙ named_in_range 0 n i le lt) (λ p. refl))
      ∙ ap (λ s. Some (build s out.width (λ j. at x []))) us
