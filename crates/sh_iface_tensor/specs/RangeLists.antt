-- The ranges of a slice on the whole tensor and on a device, dimension by dimension.
use Rattle.std.proofs.Common.{ap₂, ◌≡◌, ℕ, ◌+◌, ◌-◌, Bool, true, List, [], ◌∷◌, map, Option, Some, None, refl, ap, ◌∙◌, subst}
use Rattle.std.specs.List.{AllByRecursion, list_all}
use Rattle.std.specs.Prelude.{zip, option_map, ◌&&◌}
use Rattle.sh_base.specs.Shape.{IsIndexOf}
use Rattle.sh_ir.specs.Numbers.{as_naturals}
use Rattle.sh_turns.specs.Program.{all_there}
use Rattle.sh_sem.specs.Slices.{Range, coordinate_in, index_in, lies_within, ranges_by, sliced_index}
use Rattle.sh_sharding.specs.declared.shardings.Dimension.{Dimension}
use Rattle.sh_sharding.specs.Cut.{whole_index}
use Rattle.sh_sharding.specs.LocalTypes.{local_dim}
use Rattle.sh_sharding.specs.Sharding.{largest_local, local_extent, start_in}
use Rattle.sh_iface.specs.Elements.{known_dims}
use Rattle.sh_iface_tensor.specs.Slices.{IsRange, extents_of, offsets_of, sizes_of, strides_of, written}
use Rattle.sh_iface_tensor.specs.LocalRanges.{IsLocalRange, Pair, coordinate_size, local_range, steps_below}

abbrev pub sliced_of : List Pair → List Dimension
sliced_of ps = map (λ p. p.sliced) ps

abbrev pub slice_of : List Pair → List Dimension
slice_of ps = map (λ p. p.slice) ps

abbrev pub ranges_in : List Pair → List Range
ranges_in ps = map (λ p. p.range) ps

-- ---- what the written numbers say

pub whole_ranges : (rs : List Range) → ranges_by (known_dims (extents_of rs)) (extents_of rs) (as_naturals (written (offsets_of rs))) (as_naturals (written (sizes_of rs))) (as_naturals (written (strides_of rs))) ≡ rs
whole_ranges [] = refl
whole_ranges (r ∷ rs) = ap (λ xs. r ∷ xs) (whole_ranges rs)

module _ (g : List ℕ) (c : ℕ) where
  pub local_ranges : (ps : List Pair) → ranges_by (map (local_dim g) (sliced_of ps)) (map (local_extent g c) (sliced_of ps)) (as_naturals (written (offsets_of (ranges_in ps)))) (as_naturals (written (map (largest_local g) (slice_of ps)))) (as_naturals (written (strides_of (ranges_in ps))))
      ≡ map (local_range g c) ps
  local_ranges [] = refl
  local_ranges (p ∷ ps) = ap (λ xs. local_range g c p ∷ xs) (local_ranges ps)

  pub local_sizes : (ps : List Pair) → AllByRecursion (IsLocalRange g c) ps → map (λ r. r.size) (map (local_range g c) ps) ≡ map (local_extent g c) (slice_of ps)
  local_sizes [] all = refl
  local_sizes (p ∷ ps) all = ap₂ ◌∷◌ all.0.size (local_sizes ps all.1)

  pub local_within : (ps : List Pair) → AllByRecursion (IsLocalRange g c) ps → list_all lies_within (map (local_range g c) ps) ≡ true
  local_within [] all = refl
  local_within (p ∷ ps) all = ap₂ (λ (a b : Bool). a && b) all.0.within (local_within ps all.1)

  -- ---- the tensor's index of an index of the slice

  pub local_index_below : (ps : List Pair) (j : List ℕ) → AllByRecursion (IsLocalRange g c) ps → IsIndexOf (map (local_extent g c) (slice_of ps)) j → IsIndexOf (map (local_extent g c) (sliced_of ps)) (sliced_index (map (local_range g c) ps) j)
  local_index_below [] [] all h = tt
  local_index_below [] (x ∷ j) all h = absurd h
  local_index_below (p ∷ ps) [] all h = absurd h
  local_index_below (p ∷ ps) (x ∷ j) all h = (all.0.below x h.0, local_index_below ps j all.1 h.1)

  pub index_alike : (ps : List Pair) (j : List ℕ) → AllByRecursion (IsLocalRange g c) ps → IsIndexOf (map (local_extent g c) (slice_of ps)) j
      → whole_index g c (sliced_of ps) (sliced_index (map (local_range g c) ps) j) ≡ sliced_index (ranges_in ps) (whole_index g c (slice_of ps) j)
  index_alike [] [] all h = refl
  index_alike [] (x ∷ j) all h = absurd h
  index_alike (p ∷ ps) [] all h = absurd h
  index_alike (p ∷ ps) (x ∷ j) all h = ap₂ ◌∷◌ (all.0.index x) (index_alike ps j all.1 h.1)

  -- ---- the slice's index of an index of the tensor

  abbrev mapped : Pair → Option ℕ → Option ℕ
  mapped p o = option_map (λ i. start_in g c p.slice + i - p.slice.low) o

  joined : (p : Pair) (ps : List Pair) (o : Option ℕ) (os : List (Option ℕ)) (ms : List (Option ℕ)) → all_there ms ≡ option_map (whole_index g c (slice_of ps)) (all_there os)
      → all_there (mapped p o ∷ ms) ≡ option_map (whole_index g c (slice_of (p ∷ ps))) (all_there (o ∷ os))
  joined p ps None os ms e = refl
  joined p ps (Some i) os ms e = ap (option_map (λ ws. (start_in g c p.slice + i - p.slice.low) ∷ ws)) e ∙ go (all_there os)
    where
      go : (o : Option (List ℕ)) → option_map (λ ws. (start_in g c p.slice + i - p.slice.low) ∷ ws) (option_map (whole_index g c (slice_of ps)) o) ≡ option_map (whole_index g c (slice_of (p ∷ ps))) (option_map (λ ws. i ∷ ws) o)
      go None = refl
      go (Some is) = refl

  pub insertion_alike : (ps : List Pair) (j : List ℕ) → AllByRecursion (IsLocalRange g c) ps → IsIndexOf (map (local_extent g c) (sliced_of ps)) j
      → index_in (ranges_in ps) (whole_index g c (sliced_of ps) j) ≡ option_map (whole_index g c (slice_of ps)) (index_in (map (local_range g c) ps) j)
  insertion_alike [] [] all h = refl
  insertion_alike [] (x ∷ j) all h = absurd h
  insertion_alike (p ∷ ps) [] all h = absurd h
  insertion_alike (p ∷ ps) (x ∷ j) all h =
      ap (λ o. all_there (o ∷ map (λ x. coordinate_in x.0 x.1) (zip (ranges_in ps) (whole_index g c (sliced_of ps) j)))) (all.0.coordinate x h.0)
      ∙ joined p ps (coordinate_in (local_range g c p) x) (map (λ x. coordinate_in x.0 x.1) (zip (map (local_range g c) ps) j)) (map (λ x. coordinate_in x.0 x.1) (zip (ranges_in ps) (whole_index g c (sliced_of ps) j)))
      (insertion_alike ps j all.1 h.1)

-- ---- of ranges

pub index_below : (rs : List Range) (i : List ℕ) → AllByRecursion IsRange rs → IsIndexOf (sizes_of rs) i → IsIndexOf (extents_of rs) (sliced_index rs i)
index_below [] [] all h = tt
index_below [] (x ∷ i) all h = absurd h
index_below (r ∷ rs) [] all h = absurd h
index_below (r ∷ rs) (x ∷ i) all h = (steps_below r.offset r.size r.stride r.extent x h.0 all.0.2, index_below rs i all.1 h.1)

found_is : (a b : List ℕ) → Some a ≡ Some b → a ≡ b
found_is a b e = cc

found_first : (r : Range) (x : ℕ) (o : Option ℕ) (os : List (Option ℕ)) (rs : List Range) (i : List ℕ) → coordinate_in r x ≡ o → ((k : List ℕ) → all_there os ≡ Some k → IsIndexOf (sizes_of rs) k)
    → all_there (o ∷ os) ≡ Some i → IsIndexOf (sizes_of (r ∷ rs)) i
found_first r x None os rs i e rest h = absurd (cc)
found_first r x (Some y) os rs i e rest h = go (all_there os) refl h
  where
    go : (o : Option (List ℕ)) → all_there os ≡ o → option_map (λ ws. y ∷ ws) o ≡ Some i → IsIndexOf (sizes_of (r ∷ rs)) i
    go None k h = absurd (cc)
    go (Some is) k h = subst (IsIndexOf (sizes_of (r ∷ rs))) (found_is (y ∷ is) i h) (coordinate_size r x y e, rest is k)

pub found_below : (rs : List Range) (j i : List ℕ) → IsIndexOf (extents_of rs) j → index_in rs j ≡ Some i → IsIndexOf (sizes_of rs) i
found_below [] [] [] h e = tt
found_below [] [] (y ∷ i) h e = absurd (cc)
found_below [] (x ∷ j) i h e = absurd h
found_below (r ∷ rs) [] i h e = absurd h
found_below (r ∷ rs) (x ∷ j) i h e = found_first r x (coordinate_in r x) (map (λ x. coordinate_in x.0 x.1) (zip rs j)) rs i refl (λ k f. found_below rs j k h.1 f) e

pub ranges_within : (rs : List Range) → AllByRecursion IsRange rs → list_all lies_within rs ≡ true
ranges_within [] all = refl
ranges_within (r ∷ rs) all = ap₂ (λ (a b : Bool). a && b) all.0.2 (ranges_within rs all.1)
