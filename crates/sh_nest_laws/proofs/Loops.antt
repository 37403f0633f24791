-- Loops split on a device: where its points stand, and what its cuts hold there.
use Rattle.std.proofs.Common.{◌≡◌, ℕ, zero, suc, ◌+◌, ◌-◌, ◌<◌, List, [], ◌∷◌, map, get_or, Some, refl, ap, ap₂, sym, ◌∙◌, arith, subst, inl, inr}
use Rattle.std.specs.Prelude.{◌==◌, option_map}
use Rattle.std.specs.List.{AllByRecursion}
use Rattle.std.proofs.lemmas.Bool.{cases_Bool}
use Rattle.sh_base.specs.Shape.{cell_count, IsIndexOf}
use Rattle.sh_grid.specs.Grid.{GridValue, place_in, group_size_of, on_axes}
use Rattle.sh_tensor.specs.Tensor.{TensorValue, at}
use Rattle.sh_sharding.specs.declared.shardings.Dimension.{Dimension}
use Rattle.sh_sharding.specs.Sharding.{IsSharding, HasNoHalos, unsplit, parts_of, part_of, part_size, size_of_part, offset_of, offset_at, start_in, size_in, local_extent, local_shape}
use Rattle.sh_sharding.specs.Cut.{cut_of, whole_index}
use Rattle.sh_sharding.proofs.CutLaws.{at-cut_of, cut_cell-no_halos}
use Rattle.sh_nest_laws.specs.LoopSplits.{sharding_on, IsLoop, IsOperand, Operand}
use Rattle.sh_nest_laws.proofs.Literally.{point_entry, test_same}
use Rattle.sh_nest_laws.proofs.Points.{IsPoint, taken, entry_for, moved, IsWholeLoop}

unsplit_extent : (g : List ℕ) (c n : ℕ) → local_extent g c (unsplit n) ≡ n
unfolding local_extent size_in part_size size_of_part offset_at offset_of part_of parts_of place_in group_size_of on_axes
unsplit_extent g c n = omega arith

unsplit_start : (g : List ℕ) (c n : ℕ) → start_in g c (unsplit n) ≡ 0
unfolding start_in offset_at offset_of part_of parts_of place_in group_size_of on_axes
unsplit_start g c n = omega arith

module _ (g : GridValue) (D : ℕ → Dimension) (c : ℕ) where
  abbrev pub local : ℕ → ℕ
  local l = local_extent g.extents c (D l)

  abbrev pub whole : ℕ → ℕ
  whole l = (D l).extent

  abbrev pub to : ℕ → ℕ → ℕ
  to l x = start_in g.extents c (D l) + x - (D l).low

  -- a loop along no axes is whole on each device
  pub whole_loop : (l : ℕ) → IsLoop g.extents (D l) → (D l).axes ≡ [] → IsWholeLoop local whole to l
  whole_loop l loop none =
      let is : D l ≡ unsplit (D l).extent = loop.dimension.unsplit none in
      let starts : start_in g.extents c (D l) ≡ 0 = ap (start_in g.extents c) is ∙ unsplit_start g.extents c (D l).extent in
      let low : (D l).low ≡ 0 = loop.low in
      (ap (local_extent g.extents c) is ∙ unsplit_extent g.extents c (D l).extent, λ k. omega (arith, starts, low))

  -- the entry of the whole index for a loop
  pub entry_moved : (m j : List ℕ) (l : ℕ) → entry_for m (whole_index g.extents c (map D m) j) l ≡ option_map (to l) (entry_for m j l)
  entry_moved [] j l = refl
  entry_moved (k ∷ m) [] l = refl
  entry_moved (k ∷ m) (x ∷ j) l =
      elim (cases_Bool (k == l)) [
        | inl b ↦ let e : k ≡ l = test_same k l b in rw b (ap (λ n. Some (to n x)) e)
        | inr b ↦ rw b (entry_moved m j l)
      ]

  moved_entry : (n b : ℕ) (p : List ℕ) (i : ℕ) → IsPoint b n local p → i < n → get_or (moved to b p) i 0 ≡ to (b + i) (get_or p i 0)
  moved_entry zero b p i pt lt = absurd (omega arith)
  moved_entry (suc n) b [] i pt lt = absurd pt
  moved_entry (suc n) b (k ∷ p) zero pt lt = let e : b + 0 ≡ b = omega arith in rw e refl
  moved_entry (suc n) b (k ∷ p) (suc i) pt lt = let e : b + suc i ≡ suc b + i = omega arith in rw e (moved_entry n (suc b) p i pt.1 (omega arith))

  module _ (loops : ℕ) (p : List ℕ) (pt : IsPoint 0 loops local p) where
    -- the entries of a local point are an index of the operand's cut
    pub taken_inside : (m : List ℕ) → AllByRecursion (λ l. l < loops) m → IsIndexOf (map (local_extent g.extents c) (map D m)) (taken m p)
    taken_inside [] h = tt
    taken_inside (l ∷ m) h = (let z : 0 + l ≡ l = omega arith in subst (λ n. get_or p l 0 < local n) z (point_entry local loops 0 p l pt h.0), taken_inside m h.1)

    pub whole_taken : (m : List ℕ) → AllByRecursion (λ l. l < loops) m → whole_index g.extents c (map D m) (taken m p) ≡ taken m (moved to 0 p)
    whole_taken [] h = refl
    whole_taken (l ∷ m) h = let z : 0 + l ≡ l = omega arith in ap₂ (λ x xs. x ∷ xs) (sym (moved_entry loops 0 p l pt h.0 ∙ ap (λ n. to n (get_or p l 0)) z)) (whole_taken m h.1)

  pub no_halos : ((l : ℕ) → IsLoop g.extents (D l)) → (m : List ℕ) → HasNoHalos (map D m)
  no_halos loop [] = tt
  no_halos loop (l ∷ m) = (((loop l).low, (loop l).high), no_halos loop m)

  -- what a cut holds
  pub held_at : ((l : ℕ) → IsLoop g.extents (D l)) → c < cell_count g.extents → (m : List ℕ) → IsSharding (sharding_on g D m) → (t : TensorValue) (j : List ℕ) → IsIndexOf (local_shape (sharding_on g D m) c) j
      → at (cut_of (sharding_on g D m) t c) j ≡ at t (whole_index g.extents c (map D m) j)
  held_at loop in' m ok t j h = at-cut_of (sharding_on g D m) t c j h ∙ cut_cell-no_halos (sharding_on g D m) t c j ok (no_halos loop m) in' h

  -- at a local point it holds the whole's cell at the point moved
  pub held_at_point : ((l : ℕ) → IsLoop g.extents (D l)) → c < cell_count g.extents → (loops : ℕ) (p : List ℕ) → IsPoint 0 loops local p → (operand : Operand) → IsOperand g D loops operand → (t : TensorValue)
      → at (cut_of (sharding_on g D operand.dims) t c) (taken operand.dims p) ≡ at t (taken operand.dims (moved to 0 p))
  held_at_point loop in' loops p pt operand ok t =
      held_at loop in' operand.dims ok.admitted t (taken operand.dims p) (taken_inside loops p pt operand.dims ok.below)
      ∙ ap (at t) (whole_taken loops p pt operand.dims ok.below)
