-- Lists of offsets, and what a valid option says of views.
use Rattle.std.proofs.Common.{ap₂, ◌≡◌, ℕ, ℤ, zero, suc, ◌+◌, ◌<◌, ◌≤◌, List, [], ◌∷◌, ◌++◌, map, take, length, ap, sym, ◌∙◌, arith, subst}
use Rattle.std.proofs.lemmas.Int.{ints}
use Rattle.std.proofs.lemmas.List.{map-append, take_more}
use Rattle.std.proofs.lemmas.List.Elements.{All-head, All-tail, All-weaker}
use Rattle.std.proofs.lemmas.List.FromFn.{map-range_with_len_more}
use Rattle.std.specs.List.{range_with_len}
use Rattle.std.specs.Prelude.{All, get_or, pos}
use Rattle.sh_base.specs.Shape.{max_cells, max_rank}
use Rattle.sh_grid.specs.Grid.{GridValue, IsGrid}
use Rattle.sh_sharding.specs.declared.shardings.Dimension.{Dimension}
use Rattle.sh_sharding.specs.declared.views.DimensionView.{DimensionView}
use Rattle.sh_sharding.specs.declared.shardings.Mark.TheVariants.{Balanced}
use Rattle.sh_sharding.specs.AxisLists.{IsBelow, natural}
use Rattle.sh_sharding.specs.OffsetLists.{AreOffsets}
use Rattle.sh_sharding.specs.Sharding.{IsSharding, offset_of, offsets_of}
use Rattle.sh_sharding.specs.Views.{IsBetween, IsOrdered, IsShort, described, scaled}
use Rattle.sh_sharding.proofs.MarkLaws.{natural-pos, offsets_fit}
use Rattle.sh_sharding.proofs.ViewAdmissionLaws.{all_short, tests_hold}
use Rattle.sh_iface.specs.ImpliedViews.{AreImpliedViews}
use Rattle.sh_iface.specs.LoopNest.{LoopNest, value_at}
use Rattle.sh_iface.specs.Splits.{OptionValue, implied_of}
use Rattle.sh_iface.specs.Valid.{IsValid}
use Rattle.sh_iface.proofs.ImpliedViewLaws.{views_admitted, views_describe}

-- ---- offsets

pub offsets_more : (extent parts k n : ℕ) (out : List ℕ) → out ≡ map (offset_of extent parts Balanced) (range_with_len 0 k) → n ≡ offset_of extent parts Balanced k
    → out ++ n ∷ [] ≡ map (offset_of extent parts Balanced) (range_with_len 0 (k + 1))
offsets_more extent parts k n out e f =
    ap (λ xs. xs ++ n ∷ []) e ∙ ap (λ x. map (offset_of extent parts Balanced) (range_with_len 0 k) ++ x ∷ []) f
    ∙ sym (map-range_with_len_more (offset_of extent parts Balanced) 0 k k (omega arith))

pub offsets_end : (extent parts k : ℕ) (out : List ℕ) → out ≡ map (offset_of extent parts Balanced) (range_with_len 0 k) → k ≡ parts + 1 → out ≡ offsets_of extent parts Balanced
unfolding offsets_of
offsets_end extent parts k out e f = e ∙ ap (λ n. map (offset_of extent parts Balanced) (range_with_len 0 n)) f

between_of : (extent : ℕ) (z : ℤ) → IsBelow (extent + 1) z → IsBetween extent z
between_of extent z b =
    let low = b.0 in
    let high = b.1 in
    record { low = low; high = omega (arith, ints, high) }

-- offsets of an extent lie in it
pub between_all : (extent parts : ℕ) (zs : List ℤ) → AreOffsets extent parts zs → All (IsBetween extent) zs
between_all extent parts zs h = All-weaker (IsBelow (extent + 1)) (IsBetween extent) (between_of extent) zs (offsets_fit extent parts (extent + 1) zs h (omega arith))

pub between_at : (extent factor i : ℕ) (zs : List ℤ) → All (IsBetween extent) (map (scaled factor) zs) → i < length zs → IsBetween extent (scaled factor (get_or zs i (pos 0)))
between_at extent factor i [] h l = absurd (omega arith)
between_at extent factor zero (z ∷ zs) h l = All-head (IsBetween extent) (scaled factor z) (map (scaled factor) zs) h
between_at extent factor (suc i) (z ∷ zs) h l = between_at extent factor i zs (All-tail (IsBetween extent) (scaled factor z) (map (scaled factor) zs) h) (omega arith)

pub products_more : (factor k n : ℕ) (zs : List ℤ) (out : List ℕ) → out ≡ map natural (map (scaled factor) (take k zs)) → k < length zs → n ≡ natural (scaled factor (get_or zs k (pos 0)))
    → out ++ n ∷ [] ≡ map natural (map (scaled factor) (take (k + 1) zs))
products_more factor k n zs out e l f =
    ap (λ xs. xs ++ n ∷ []) e
    ∙ ap (λ x. map natural (map (scaled factor) (take k zs)) ++ x ∷ []) f
    ∙ sym (ap (λ xs. map natural (map (scaled factor) xs)) (take_more zs k (pos 0) l)
    ∙ ap (map natural) (map-append (scaled factor) (take k zs) (get_or zs k (pos 0) ∷ []))
    ∙ map-append natural (map (scaled factor) (take k zs)) (scaled factor (get_or zs k (pos 0)) ∷ []))

pub same_numbers : (xs out : List ℕ) → out ≡ xs → out ≡ map natural (map pos xs)
same_numbers xs out e = e ∙ sym (natural-pos xs)

-- ---- under a valid option

module _ (g : GridValue) (nest : LoopNest) (o : OptionValue) (v n : ℕ) (views : List DimensionView) (valid : IsValid nest g o) (le : v ≤ length nest.operands) (short : length (value_at nest v).dims ≤ max_rank) (h : AreImpliedViews nest o (value_at nest v) (length (value_at nest v).dims) views) (ok : IsGrid g.extents) (counted : n ≡ length (value_at nest v).dims) where
  pub views_ordered : All (IsOrdered g.extents) (take n views)
  views_ordered =
      subst (λ k. All (IsOrdered g.extents) (take k views)) (sym counted)
      (tests_hold g (take (length (value_at nest v).dims) views) (views_admitted g nest o (value_at nest v) views h short valid.splits (valid.admitted v le))).ordered

  pub views_small : All (λ (view : DimensionView). view.extent ≤ max_cells) (take n views)
  views_small =
      let mine = take (length (value_at nest v).dims) views in
      let t = tests_hold g mine (views_admitted g nest o (value_at nest v) views h short valid.splits (valid.admitted v le)) in
      subst (λ k. All (λ (view : DimensionView). view.extent ≤ max_cells) (take k views)) (sym counted)
      (All-weaker IsShort (λ view. view.extent ≤ max_cells) (λ view s. s.extent) mine (all_short g.extents mine ok t.ordered t.halos t.small))

  pub views_made : (ds : List Dimension) → ds ≡ map (described g.extents) (take n views) → ds ≡ (implied_of g nest o (value_at nest v)).dimensions
  views_made ds e =
      e ∙ ap (λ k. map (described g.extents) (take k views)) counted ∙ views_describe g nest o (value_at nest v) views h short

pub implied_same : (g grid : GridValue) (nest : LoopNest) (o : OptionValue) (v : ℕ) (ds : List Dimension) → grid ≡ g → ds ≡ (implied_of g nest o (value_at nest v)).dimensions
    → record { grid = grid; dimensions = ds } ≡ implied_of g nest o (value_at nest v)
unfolding implied_of
implied_same g grid nest o v ds e f = ap₂ (λ a b. record { grid = a; dimensions = b }) e f

pub implied_made : (g grid : GridValue) (nest : LoopNest) (o : OptionValue) (v : ℕ) (ds : List Dimension) → IsValid nest g o → v ≤ length nest.operands → grid ≡ g → ds ≡ (implied_of g nest o (value_at nest v)).dimensions
    → IsSharding (record { grid = grid; dimensions = ds })
implied_made g grid nest o v ds valid le e f = subst IsSharding (sym (implied_same g grid nest o v ds e f)) (valid.admitted v le)
