-- Implied shardings: their whole shape, where they have no halos, and what they are where no loop is split.
use Rattle.std.proofs.Common.{ap₂, ◌≡◌, ℕ, zero, suc, ◌-◌, ◌≤◌, Bool, true, false, List, [], ◌∷◌, map, length, Option, Some, None, refl, ap, sym, arith, subst}
use Rattle.std.specs.List.{AllByRecursion}
use Rattle.std.specs.Prelude.{slice_get, unwrap_or, if◌then◌else◌}
use Rattle.std.proofs.lemmas.List.{length-map}
use Rattle.sh_base.specs.Shape.{max_cells, max_rank}
use Rattle.sh_grid.specs.Grid.{GridValue, IsGrid, AreAxesOf}
use Rattle.sh_sharding.specs.declared.shardings.Dimension.{Dimension}
use Rattle.sh_sharding.specs.declared.shardings.Mark.TheVariants.{Balanced}
use Rattle.sh_sharding.specs.Made.{IsPlain}
use Rattle.sh_sharding.specs.Sharding.{HasNoHalos, IsSharding, axes_of, counted_cells, parts_of, unsplit, whole_of}
use Rattle.sh_sharding.proofs.MadeLaws.{in_order}
use Rattle.sh_sharding.proofs.MarkLaws.{balanced_divided}
use Rattle.sh_sharding.proofs.ViewAdmissionLaws.{group_size_of-none}
use Rattle.sh_iface.specs.declared.options.Follow.{Follow}
use Rattle.sh_iface.specs.declared.options.How.{How}
use Rattle.sh_iface.specs.declared.options.How.TheVariants.{Same, Scale, Window}
use Rattle.sh_iface.specs.declared.options.Split.{Split}
use Rattle.sh_iface.specs.Lawful.{IsNest}
use Rattle.sh_iface.specs.LoopNest.{HasNoWindows, IsPlainFollow, IsPlainHow, Loop, LoopNest, NestDim, NestValue, loop_extents, shape_of, value_at}
use Rattle.sh_iface.specs.Splits.{OptionValue, can_window, divided, divided_as, followed, implied_of, split_at}
use Rattle.sh_iface.specs.Valid.{AreSplits, HaveOwnAxes, IsValid, unsplit_loops}

module _ (g loops : List ℕ) (o : OptionValue) (all : List ℕ) where
  -- ---- the extents

  extent_as : (at extent places : ℕ) (split : Split) (how : How) → (divided_as g all at extent split places how).extent ≡ extent
  extent_as at extent places split Same = refl
  extent_as at extent places split (Scale factor) = refl
  extent_as at extent places split (Window kernel) = go (can_window g all at places split extent kernel)
    where
      go : (b : Bool) → (if b then record { extent = extent; axes = split.axes; mark = Balanced; low = 0; high = kernel - 1 } else unsplit extent).extent ≡ extent
      go true = refl
      go false = refl

  abbrev by_split : ℕ → ℕ → Follow → Option Split → Dimension
  by_split at extent f x = elim x [ None ↦ unsplit extent | Some split ↦ divided_as g all at extent split (unwrap_or (slice_get loops f.loop_index) 0) f.how ]

  extent_followed : (at extent : ℕ) (follow : Option Follow) → (followed g loops o all at extent follow).extent ≡ extent
  extent_followed at extent None = refl
  extent_followed at extent (Some f) = go (split_at o f.loop_index)
    where
      go : (x : Option Split) → (by_split at extent f x).extent ≡ extent
      go None = refl
      go (Some split) = extent_as at extent (unwrap_or (slice_get loops f.loop_index) 0) split f.how

  extents_divided : (at : ℕ) (dims : List NestDim) → map (λ d. d.extent) (divided g loops o all at dims) ≡ map (λ d. d.extent) dims
  extents_divided at [] = refl
  extents_divided at (d ∷ dims) = ap₂ ◌∷◌ (extent_followed at d.extent d.follow) (extents_divided (suc at) dims)

  -- ---- halos

  plain_as : (at extent places : ℕ) (split : Split) (how : How) → IsPlainHow how
      → ((divided_as g all at extent split places how).low ≡ 0) × ((divided_as g all at extent split places how).high ≡ 0)
  plain_as at extent places split Same h = (refl, refl)
  plain_as at extent places split (Scale factor) h = (refl, refl)
  plain_as at extent places split (Window kernel) h = absurd h

  plain_followed : (at extent : ℕ) (follow : Option Follow) → IsPlainFollow follow
      → ((followed g loops o all at extent follow).low ≡ 0) × ((followed g loops o all at extent follow).high ≡ 0)
  plain_followed at extent None h = (refl, refl)
  plain_followed at extent (Some f) h = go (split_at o f.loop_index)
    where
      go : (x : Option Split) → ((by_split at extent f x).low ≡ 0) × ((by_split at extent f x).high ≡ 0)
      go None = (refl, refl)
      go (Some split) = plain_as at extent (unwrap_or (slice_get loops f.loop_index) 0) split f.how h

  plain_divided : (at : ℕ) (dims : List NestDim) → AllByRecursion (λ d. IsPlainFollow d.follow) dims → HasNoHalos (divided g loops o all at dims)
  plain_divided at [] h = tt
  plain_divided at (d ∷ dims) h = (plain_followed at d.extent d.follow h.0, plain_divided (suc at) dims h.1)

-- the whole shape of an implied sharding is the value's
pub whole-implied : (g : GridValue) (nest : LoopNest) (o : OptionValue) (value : NestValue) → whole_of (implied_of g nest o value) ≡ shape_of value
unfolding implied_of
whole-implied g nest o value = extents_divided g.extents (loop_extents nest) o (shape_of value) 0 value.dims

-- without windows it has no halos
pub plain-implied : (g : GridValue) (nest : LoopNest) (o : OptionValue) (value : NestValue) → HasNoWindows value → HasNoHalos (implied_of g nest o value).dimensions
unfolding implied_of
plain-implied g nest o value h = plain_divided g.extents (loop_extents nest) o (shape_of value) 0 value.dims h

-- ---- no loop is split

unsplit_at : (loops : List Loop) (l : ℕ) → split_at (map (λ (x : Loop). None) loops) l ≡ None
unsplit_at [] l = refl
unsplit_at (x ∷ loops) zero = refl
unsplit_at (x ∷ loops) (suc l) = unsplit_at loops l

abbrev unsplit_dims : List NestDim → List Dimension
unsplit_dims dims = map (λ d. unsplit d.extent) dims

followed_unsplit : (g extents : List ℕ) (loops : List Loop) (all : List ℕ) (at extent : ℕ) (follow : Option Follow) → followed g extents (map (λ l. None) loops) all at extent follow ≡ unsplit extent
followed_unsplit g extents loops all at extent None = refl
followed_unsplit g extents loops all at extent (Some f) =
    ap (λ (x : Option Split). elim x [ None ↦ unsplit extent | Some split ↦ divided_as g all at extent split (unwrap_or (slice_get extents f.loop_index) 0) f.how ]) (unsplit_at loops f.loop_index)

divided_unsplit : (g extents : List ℕ) (loops : List Loop) (all : List ℕ) (at : ℕ) (dims : List NestDim) → divided g extents (map (λ l. None) loops) all at dims ≡ unsplit_dims dims
divided_unsplit g extents loops all at [] = refl
divided_unsplit g extents loops all at (d ∷ dims) = ap₂ ◌∷◌ (followed_unsplit g extents loops all at d.extent d.follow) (divided_unsplit g extents loops all (suc at) dims)

axes_unsplit : (dims : List NestDim) → axes_of (unsplit_dims dims) ≡ []
axes_unsplit [] = refl
axes_unsplit (d ∷ dims) = axes_unsplit dims

extents_unsplit : (dims : List NestDim) → map (λ (d : Dimension). d.extent) (unsplit_dims dims) ≡ map (λ d. d.extent) dims
extents_unsplit [] = refl
extents_unsplit (d ∷ dims) = ap (λ ns. d.extent ∷ ns) (extents_unsplit dims)

plain_unsplit : (g : List ℕ) (dims : List NestDim) → AllByRecursion (IsPlain g) (unsplit_dims dims)
unfolding parts_of
plain_unsplit g [] = tt
plain_unsplit g (d ∷ dims) = (
  record {
    divided = let one = group_size_of-none g [] refl in rw one (balanced_divided d.extent 1 (omega arith));
    normal = tt;
    low = refl;
    high = refl;
    whole = λ e. refl;
  },
  plain_unsplit g dims,
)

unsplit_admitted : (g : GridValue) (dims : List NestDim) → IsGrid g.extents → length dims ≤ max_rank → counted_cells (map (λ d. d.extent) dims) ≤ max_cells
    → IsSharding (record { grid = g; dimensions = unsplit_dims dims })
unsplit_admitted g dims ok short small =
    let counted : length (unsplit_dims dims) ≡ length dims = length-map dims (λ d. unsplit d.extent) in
    (in_order (record { grid = g; dimensions = unsplit_dims dims }) (record {
      grid = ok;
      axes = subst (AreAxesOf (length g.extents)) (sym (axes_unsplit dims)) tt;
      dimensions = plain_unsplit g.extents dims;
      short = omega (arith, counted, short);
      small = subst (λ ns. counted_cells ns ≤ max_cells) (sym (extents_unsplit dims)) small;
    })).sharding

splits_unsplit : (g : List ℕ) (loops : List Loop) → AreSplits g loops (map (λ l. None) loops)
splits_unsplit g [] = tt
splits_unsplit g (x ∷ loops) = (tt, splits_unsplit g loops)

apart_unsplit : (loops : List Loop) → HaveOwnAxes (map (λ (x : Loop). None) loops)
apart_unsplit [] = tt
apart_unsplit (x ∷ loops) = (tt, apart_unsplit loops)

-- Where no loop is split all values are whole on each device: of every operation this is a valid option.
pub unsplit_valid : (nest : LoopNest) → IsNest nest → (g : GridValue) → IsGrid g.extents → IsValid nest g (unsplit_loops nest)
unfolding implied_of
unsplit_valid nest is g ok = record {
  splits = splits_unsplit g.extents nest.loops;
  apart = apart_unsplit nest.loops;
  admitted = λ v le.
      let value = value_at nest v in
      let good = is.values v le in
      subst (λ ds. IsSharding (record { grid = g; dimensions = ds })) (sym (divided_unsplit g.extents (loop_extents nest) nest.loops (shape_of value) 0 value.dims))
      (unsplit_admitted g value.dims ok good.short good.small);
}
