-- The values at the first of some places, one place more.
use Rattle.std.proofs.Common.{◌≡◌, ℕ, ◌+◌, ◌<◌, ◌≤◌, List, [], ◌∷◌, ◌++◌, length, take, get_or, sym, ap, ◌∙◌}
use Rattle.std.specs.Prelude.{filter_map, slice_get}
use Rattle.std.specs.List.{cons_option}
use Rattle.std.proofs.lemmas.List.{append-nil, take_more}
use Rattle.std.proofs.lemmas.List.Elements.{filter_map-append}
use Rattle.std.proofs.lemmas.Option.{slice_get-get_or, slice_get_past}

module _ {X : Type 0} (values : List X) (places : List ℕ) (k : ℕ) (d : ℕ) (lt : k < length places) where
  whole : filter_map (λ place. slice_get values place) (take (k + 1) places)
      ≡ filter_map (λ place. slice_get values place) (take k places) ++ cons_option (slice_get values (get_or places k d)) []
  whole =
      ap (filter_map (λ place. slice_get values place)) (take_more places k d lt)
      ∙ filter_map-append (λ place. slice_get values place) (take k places) (get_or places k d ∷ [])

  pub found_one_more : (x : X) → get_or places k d < length values → x ≡ get_or values (get_or places k d) x
      → filter_map (λ place. slice_get values place) (take k places) ++ x ∷ [] ≡ filter_map (λ place. slice_get values place) (take (k + 1) places)
  found_one_more x within is =
      sym (whole ∙ ap (λ o. filter_map (λ place. slice_get values place) (take k places) ++ cons_option o []) (slice_get-get_or values (get_or places k d) x within)
      ∙ ap (λ y. filter_map (λ place. slice_get values place) (take k places) ++ y ∷ []) (sym is))

  pub found_no_more : length values ≤ get_or places k d
      → filter_map (λ place. slice_get values place) (take k places) ≡ filter_map (λ place. slice_get values place) (take (k + 1) places)
  found_no_more past =
      sym (whole ∙ ap (λ o. filter_map (λ place. slice_get values place) (take k places) ++ cons_option o []) (slice_get_past values (get_or places k d) past)
      ∙ append-nil (filter_map (λ place. slice_get values place) (take k places)))
