-- Lists of local sizes that are made one by one.
use Rattle.std.proofs.Common.{◌≡◌, ℕ, ◌+◌, ◌<◌, ◌≤◌, List, [], ◌∷◌, ◌++◌, length, map, take, ap, sym, ◌∙◌}
use Rattle.std.proofs.lemmas.List.{map-append, take_all, take_more}
use Rattle.std.specs.Prelude.{get_or, pos, ℤ}
use Rattle.sh_sharding.specs.declared.shardings.Dimension.{Dimension}
use Rattle.sh_sharding.specs.Sharding.{largest_local, unsplit}
use Rattle.sh_iface_tensor.specs.Slices.{written}

module _ (g : List ℕ) (ds : List Dimension) (k : ℕ) (out : List ℤ) where
  pub sizes_more : (z : ℤ) (n : ℕ) → out ≡ written (map (largest_local g) (take k ds)) → k < length ds → z ≡ pos n → n ≡ largest_local g (get_or ds k (unsplit 0))
      → out ++ z ∷ [] ≡ written (map (largest_local g) (take (k + 1) ds))
  sizes_more z n e within f h =
      ap (λ xs. xs ++ z ∷ []) e
      ∙ ap (λ x. written (map (largest_local g) (take k ds)) ++ x ∷ []) (f ∙ ap (λ m. pos m) h)
      ∙ sym (map-append (λ m. pos m) (map (largest_local g) (take k ds)) (largest_local g (get_or ds k (unsplit 0)) ∷ []))
      ∙ ap written (sym (ap (map (largest_local g)) (take_more ds k (unsplit 0) within) ∙ map-append (largest_local g) (take k ds) (get_or ds k (unsplit 0) ∷ [])))

  pub sizes_end : out ≡ written (map (largest_local g) (take k ds)) → length ds ≤ k → out ≡ written (map (largest_local g) ds)
  sizes_end e all = e ∙ ap (λ xs. written (map (largest_local g) xs)) (take_all k ds all)
