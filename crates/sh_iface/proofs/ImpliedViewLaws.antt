-- The views of a value's dimensions describe the sharding that an option implies of it.
use Rattle.std.proofs.Common.{ap₂, ◌≡◌, ℕ, ℤ, zero, suc, ◌+◌, ◌<◌, ◌≤◌, List, [], ◌∷◌, map, length, Option, Some, None, refl, ap, sym, ◌∙◌, arith, subst}
use Rattle.std.proofs.lemmas.Int.{ints}
use Rattle.std.proofs.lemmas.Option.{same_Some}
use Rattle.std.proofs.lemmas.List.{length-set}
use Rattle.std.proofs.lemmas.List.Elements.{All-map, All-weaker}
use Rattle.std.specs.List.{AllByRecursion}
use Rattle.std.specs.Prelude.{All, get_or, negsuc, pos, set, slice_get, take, unwrap_or}
use Rattle.sh_base.specs.Shape.{max_rank}
use Rattle.sh_grid.specs.Grid.{GridValue, group_size_of}
use Rattle.sh_sharding.specs.declared.shardings.Dimension.{Dimension}
use Rattle.sh_sharding.specs.declared.views.DimensionView.{DimensionView}
use Rattle.sh_sharding.specs.declared.views.MarkView.{MarkView}
use Rattle.sh_sharding.specs.declared.views.MarkView.TheVariants as mark_view
use Rattle.sh_sharding.specs.AxisLists.{IsBelow, IsNatural, natural}
use Rattle.sh_sharding.specs.OffsetLists.{normal_mark}
use Rattle.sh_sharding.specs.Sharding.{IsSharding, unsplit}
use Rattle.sh_sharding.specs.Views.{HasNaturals, IsAdmittedView, IsUnsplitView, axes_in, described, mark_in, scaled}
use Rattle.sh_sharding.proofs.MarkLaws.{offsets_fit}
use Rattle.sh_iface.specs.declared.options.Follow.{Follow}
use Rattle.sh_iface.specs.declared.options.How.{How}
use Rattle.sh_iface.specs.declared.options.How.TheVariants.{Same, Scale, Window}
use Rattle.sh_iface.specs.declared.options.Split.{Split}
use Rattle.sh_iface.specs.ImpliedViews.{AreImpliedViews, IsImpliedView}
use Rattle.sh_iface.specs.LoopNest.{IsPlainHow, Loop, LoopNest, NestDim, NestValue, dim_at, loop_extents, shape_of}
use Rattle.sh_iface.specs.ScaledViews.{IsScaledView, ListsOffsets}
use Rattle.sh_iface.specs.Splits.{OptionValue, divided, divided_as, factor_of, followed, implied_dimension, implied_of, scaled_dimension, split_at}
use Rattle.sh_iface.specs.Valid.{AreSplits}

-- ---- one dimension

described_unsplit : (g : List ℕ) (view : DimensionView) (extent : ℕ) → IsUnsplitView view extent → described g view ≡ unsplit extent
unfolding described
described_unsplit g view extent is = rw (is.whole, is.axes, is.mark, is.low, is.high) refl

natural_unsplit : (view : DimensionView) (extent : ℕ) → IsUnsplitView view extent → HasNaturals view.mark
natural_unsplit view extent is = subst HasNaturals (sym is.mark) tt

mark_listed : (extent parts : ℕ) (zs : List ℤ) (mark : MarkView) → ListsOffsets zs mark → mark_in extent parts mark ≡ normal_mark extent parts (map natural zs)
mark_listed extent parts zs mark_view.Balanced h = absurd h
mark_listed extent parts zs (mark_view.Listed listing) h = ap (λ os. normal_mark extent parts (map natural os)) h

described_scaled : (g : List ℕ) (view : DimensionView) (extent : ℕ) (split : Split) (factor : ℕ) → IsScaledView view extent split factor → described g view ≡ scaled_dimension g extent split factor
unfolding described
described_scaled g view extent split factor is =
    rw (mark_listed view.extent (group_size_of g (axes_in view.axes)) (map (scaled factor) split.starts) view.mark is.offsets, is.whole, is.axes, is.low, is.high) refl

plain_as : (g shape : List ℕ) (at extent places : ℕ) (split : Split) (how : How) → IsPlainHow how → divided_as g shape at extent split places how ≡ scaled_dimension g extent split (factor_of how)
plain_as g shape at extent places split Same h = refl
plain_as g shape at extent places split (Scale factor) h = refl
plain_as g shape at extent places split (Window kernel) h = absurd h

-- ---- naturals

scaled_natural : (factor : ℕ) (z : ℤ) → IsNatural z → IsNatural (scaled factor z)
scaled_natural factor (pos n) h = omega (arith, ints)
scaled_natural factor (negsuc n) h = h

starts_natural : (g : List ℕ) (loops : List Loop) (o : OptionValue) (l : ℕ) (split : Split) (factor : ℕ) → AreSplits g loops o → split_at o l ≡ Some split → All IsNatural (map (scaled factor) split.starts)
starts_natural g loops [] l split factor h e = absurd (cc)
starts_natural g [] (x ∷ o) l split factor h e = absurd h
starts_natural g (loop ∷ loops) (None ∷ o) zero split factor h e = absurd (cc)
starts_natural g (loop ∷ loops) (Some x ∷ o) zero split factor h e =
    subst (λ s. All IsNatural (map (scaled factor) s.starts)) (same_Some x split e)
    (All-map IsNatural (scaled factor) x.starts
    (All-weaker (IsBelow (loop.extent + 1)) (λ z. IsNatural (scaled factor z)) (λ z b. scaled_natural factor z b.0) x.starts
    (offsets_fit loop.extent (group_size_of g x.axes) (loop.extent + 1) x.starts h.0.1.starts (omega arith))))
starts_natural g (loop ∷ loops) (x ∷ o) (suc l) split factor h e = starts_natural g loops o l split factor h.1 e

listed_natural : (zs : List ℤ) (mark : MarkView) → ListsOffsets zs mark → All IsNatural zs → HasNaturals mark
listed_natural zs mark_view.Balanced h all = absurd h
listed_natural zs (mark_view.Listed listing) h all = subst (All IsNatural) (sym h) all

-- ---- what a dimension follows

module _ (nest : LoopNest) (o : OptionValue) (value : NestValue) (dim : ℕ) (view : DimensionView) where
  abbrev by_split : List ℕ → Follow → Option Split → Dimension
  by_split g f x = elim x [
    | None ↦ unsplit (dim_at value dim).extent
    | Some split ↦ divided_as g (shape_of value) dim (dim_at value dim).extent split (unwrap_or (slice_get (loop_extents nest) f.loop_index) 0) f.how
  ]

  -- no loop
  pub follows_none : (dim_at value dim).follow ≡ None → IsUnsplitView view (dim_at value dim).extent → IsImpliedView nest o value dim view
  follows_none e is = record {
    is = λ g. described_unsplit g view (dim_at value dim).extent is
        ∙ sym (ap (followed g (loop_extents nest) o (shape_of value) dim (dim_at value dim).extent) e);
    naturals = λ g h. natural_unsplit view (dim_at value dim).extent is;
  }

  at_split : (g : List ℕ) (f : Follow) (x : Option Split) → (dim_at value dim).follow ≡ Some f → split_at o f.loop_index ≡ x → implied_dimension g nest o value dim ≡ by_split g f x
  at_split g f x e found =
      ap (followed g (loop_extents nest) o (shape_of value) dim (dim_at value dim).extent) e ∙ ap (by_split g f) found

  -- a loop that isn't split
  pub follows_unsplit : (f : Follow) → (dim_at value dim).follow ≡ Some f → split_at o f.loop_index ≡ None → IsUnsplitView view (dim_at value dim).extent → IsImpliedView nest o value dim view
  follows_unsplit f e none is = record {
    is = λ g. described_unsplit g view (dim_at value dim).extent is ∙ sym (at_split g f None e none);
    naturals = λ g h. natural_unsplit view (dim_at value dim).extent is;
  }

  -- a loop that is split
  pub follows_split : (f : Follow) (split : Split) → (dim_at value dim).follow ≡ Some f → split_at o f.loop_index ≡ Some split → IsPlainHow f.how
      → IsScaledView view (dim_at value dim).extent split (factor_of f.how) → IsImpliedView nest o value dim view
  follows_split f split e found plain is = record {
    is = λ g. described_scaled g view (dim_at value dim).extent split (factor_of f.how) is
        ∙ sym (at_split g f (Some split) e found ∙ plain_as g (shape_of value) dim (dim_at value dim).extent (unwrap_or (slice_get (loop_extents nest) f.loop_index) 0) split f.how plain);
    naturals = λ g h. listed_natural (map (scaled (factor_of f.how)) split.starts) view.mark is.offsets
        (starts_natural g nest.loops o f.loop_index split (factor_of f.how) h found);
  }

-- ---- all dimensions

set_each : {X : Type 0} (P : ℕ → X → Type 0) (xs : List X) (k : ℕ) (w : X) → P k w → ((i : ℕ) (x : X) → i < k → slice_get xs i ≡ Some x → P i x)
    → (i : ℕ) (x : X) → i < suc k → slice_get (set xs k w) i ≡ Some x → P i x
set_each P [] k w p h i x l e = absurd (cc)
set_each P (y ∷ xs) zero w p h zero x l e = subst (P 0) (same_Some w x e) p
set_each P (y ∷ xs) zero w p h (suc i) x l e = absurd (omega arith)
set_each P (y ∷ xs) (suc k) w p h zero x l e = h 0 x (omega arith) e
set_each P (y ∷ xs) (suc k) w p h (suc i) x l e = set_each (λ i x. P (suc i) x) xs k w p (λ j x m e. h (suc j) x (omega arith) e) i x (omega arith) e

pub views_start : (nest : LoopNest) (o : OptionValue) (value : NestValue) (views : List DimensionView) → length views ≡ max_rank → AreImpliedViews nest o value 0 views
views_start nest o value views long = record { long = long; each = λ dim view l e. absurd (omega arith) }

pub views_more : (nest : LoopNest) (o : OptionValue) (value : NestValue) (k : ℕ) (views : List DimensionView) (w : DimensionView) → AreImpliedViews nest o value k views → IsImpliedView nest o value k w
    → AreImpliedViews nest o value (k + 1) (set views k w)
views_more nest o value k views w h is =
    let long = h.long in
    record {
      long = length-set views k w ∙ long;
      each = λ dim view l e. set_each (IsImpliedView nest o value) views k w is h.each dim view (omega arith) e;
    }

pub views_end : (nest : LoopNest) (o : OptionValue) (value : NestValue) (k n : ℕ) (views : List DimensionView) → AreImpliedViews nest o value k views → n ≤ k → AreImpliedViews nest o value n views
views_end nest o value k n views h le = record { long = h.long; each = λ dim view l e. h.each dim view (omega (arith, le)) e }

start : (at : ℕ) → 0 + at ≡ at
start at = omega arith

shift : (i at : ℕ) → suc i + at ≡ i + suc at
shift i at = omega arith

described_all : (g loops : List ℕ) (o : OptionValue) (shape : List ℕ) (d : NestDim) (at : ℕ) (dims : List NestDim) (views : List DimensionView) → length dims ≤ length views
    → ((i : ℕ) (view : DimensionView) → i < length dims → slice_get views i ≡ Some view → described g view ≡ followed g loops o shape (i + at) (get_or dims i d).extent (get_or dims i d).follow)
    → map (described g) (take (length dims) views) ≡ divided g loops o shape at dims
described_all g loops o shape d at [] views l h = refl
described_all g loops o shape d at (x ∷ dims) [] l h = absurd (omega arith)
described_all g loops o shape d at (x ∷ dims) (view ∷ views) l h =
    ap₂ ◌∷◌ (h 0 view (omega arith) refl ∙ ap (λ n. followed g loops o shape n x.extent x.follow) (start at))
    (described_all g loops o shape d (suc at) dims views (omega arith)
    (λ i w m e. h (suc i) w (omega arith) e ∙ ap (λ n. followed g loops o shape n (get_or dims i d).extent (get_or dims i d).follow) (shift i at)))

taken_all : {X : Type 0} (P : X → Type 0) (n : ℕ) (xs : List X) → ((i : ℕ) (x : X) → i < n → slice_get xs i ≡ Some x → P x) → AllByRecursion P (take n xs)
taken_all P zero xs h = tt
taken_all P (suc n) [] h = tt
taken_all P (suc n) (x ∷ xs) h = (h 0 x (omega arith) refl, taken_all P n xs (λ i y l e. h (suc i) y (omega arith) e))

plain_place : (i : ℕ) → i + 0 ≡ i
plain_place i = omega arith

module _ (g : GridValue) (nest : LoopNest) (o : OptionValue) (value : NestValue) (views : List DimensionView) (h : AreImpliedViews nest o value (length value.dims) views) (short : length value.dims ≤ max_rank) where
  pub views_describe : map (described g.extents) (take (length value.dims) views) ≡ (implied_of g nest o value).dimensions
  unfolding implied_of
  views_describe =
      let long = h.long in
      described_all g.extents (loop_extents nest) o (shape_of value) (record { extent = 0; follow = None }) 0 value.dims views (omega (arith, long, short))
      (λ i view l e. (h.each i view l e).is g.extents
      ∙ sym (ap (λ n. followed g.extents (loop_extents nest) o (shape_of value) n (dim_at value i).extent (dim_at value i).follow) (plain_place i)))

  same_sharding : record { grid = g; dimensions = map (described g.extents) (take (length value.dims) views) } ≡ implied_of g nest o value
  unfolding implied_of
  same_sharding = ap (λ ds. record { grid = g; dimensions = ds }) views_describe

  pub admitted_views : IsAdmittedView g (take (length value.dims) views) → IsSharding (implied_of g nest o value)
  admitted_views a = subst IsSharding same_sharding a.sharding

  pub views_admitted : AreSplits g.extents nest.loops o → IsSharding (implied_of g nest o value) → IsAdmittedView g (take (length value.dims) views)
  views_admitted splits s = record {
    naturals = taken_all (λ view. HasNaturals view.mark) (length value.dims) views (λ i view l e. (h.each i view l e).naturals g.extents splits);
    sharding = subst IsSharding (sym same_sharding) s;
  }
