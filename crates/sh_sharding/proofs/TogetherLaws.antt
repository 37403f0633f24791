-- The cells of first owners, where two owners differ first, and the tensor that all owners agree on.
use Rattle.std.proofs.Common.{◌≡◌, ◌≢◌, ℕ, zero, suc, ◌+◌, ◌<◌, ◌≤◌, ◌⊎◌, inl, inr, List, [], ◌∷◌, length, get_or, refl, ap, sym, ◌∙◌, arith, subst}
use Rattle.std.specs.List.{All, Contains}
use Rattle.std.specs.Prelude.{Result, Ok, Err, IsErr, IfOk, IfErr}
use Rattle.std.proofs.lemmas.List.{get_or_read}
use Rattle.std.proofs.lemmas.List.Elements.{All-from_get_or, All-get_or, All-contains, All-weaker}
use Rattle.sh_base.specs.declared.numbers.Cell.{Cell}
use Rattle.sh_base.specs.declared.numbers.Cell.TheVariants.{Undef}
use Rattle.sh_base.specs.declared.numbers.Width.TheVariants.{I1}
use Rattle.sh_base.specs.Cells.{IsCellOf}
use Rattle.sh_base.specs.Shape.{cell_count, IsIndexOf, flat_of, unflat_of}
use Rattle.sh_base.proofs.ShapeLaws.{flat_of-below, unflat_of-within, unflat_of-flat_of, flat_of-unflat_of}
use Rattle.sh_base.proofs.IndexLaws.{cell_count-some}
use Rattle.sh_grid.specs.Grid.{GridValue, member_of}
use Rattle.sh_grid.proofs.GroupLaws.{member_of-below}
use Rattle.sh_tensor.specs.Tensor.{TensorValue, IsTensor, at}
use Rattle.sh_tensor.proofs.TensorLaws.{tensor_ext, held}
use Rattle.sh_sharding.specs.declared.shardings.Dimension.{Dimension}
use Rattle.sh_sharding.specs.declared.positions.Position.{Position}
use Rattle.sh_sharding.specs.declared.together.Put.{Put}
use Rattle.sh_sharding.specs.declared.together.Put.TheVariants.{Differ, Mem}
use Rattle.sh_sharding.specs.Sharding.{ShardingValue, start_in, size_in, local_shape, whole_of, axes_of, IsSharding}
use Rattle.sh_sharding.specs.Cut.{OwnsIn, Owns, local_index, held_cell, cut_of}
use Rattle.sh_sharding.specs.Together.{part_at, AreParts, IsTogether, AreCutsOf, OwnsCell, held_at, IsFirstOwner, IsFirstDiffering, IsPutRefusal}
use Rattle.sh_sharding.specs.Positions.{position_of, IsPosition, ArePositions, IsInside, IsWrittenAt, AreWritten, IsLeastDiffering, IsStanding, AreHeld}
use Rattle.sh_sharding.proofs.PositionLaws.{position_inside, local_within, cells_few}
use Rattle.sh_sharding.proofs.OwnerLaws.{one_owner, held_cell-cut_of}
use Rattle.sh_sharding.proofs.Cases.{lt_or_le}

-- ---- owners

owns_or_not : (g : List ℕ) (c : ℕ) (ds : List Dimension) (i : List ℕ) → OwnsIn g c ds i ⊎ (¬ OwnsIn g c ds i)
owns_or_not g c [] i = inl tt
owns_or_not g c (d ∷ ds) [] = inr (λ h. h)
owns_or_not g c (d ∷ ds) (x ∷ i) = elim (lt_or_le x (start_in g c d)) [
  | inl before ↦ inr (λ h. let from : start_in g c d ≤ x = h.0 in absurd (omega arith))
  | inr from ↦ elim (lt_or_le x (start_in g c d + size_in g c d)) [
    | inl to ↦ elim (owns_or_not g c ds i) [
      | inl rest ↦ inl (from, to, rest)
      | inr other ↦ inr (λ h. other h.2)
    ]
    | inr after ↦ inr (λ h. let to : x < start_in g c d + size_in g c d = h.1 in absurd (omega arith))
  ]
]

-- some device is the first owner
pub record HasFirstOwner (s : ShardingValue) (i : List ℕ) : Type 0 where
  pub owner : ℕ
  pub first : IsFirstOwner s i owner

first_among : (s : ShardingValue) (i : List ℕ) (k : ℕ) → k ≤ cell_count s.grid.extents → ((other : ℕ) → other < k → ¬ Owns s other i) ⊎ HasFirstOwner s i
first_among s i zero le = inl (λ other l. absurd (omega arith))
first_among s i (suc k) le = elim (first_among s i k (omega arith)) [
  | inl none ↦ elim (owns_or_not s.grid.extents k s.dimensions i) [
    | inl owns ↦ inr (record { owner = k; first = record { below = omega arith; owns = owns; first = none } })
    | inr other ↦ inl (λ c l. elim (lt_or_le c k) [
      | inl less ↦ none c less
      | inr more ↦ let same : k ≡ c = omega arith in subst (λ z. ¬ Owns s z i) same other
    ])
  ]
  | inr found ↦ inr found
]

first_owner : (s : ShardingValue) (i : List ℕ) (device : ℕ) → device < cell_count s.grid.extents → Owns s device i → HasFirstOwner s i
first_owner s i device l owns = elim (first_among s i (cell_count s.grid.extents) (omega arith)) [
  | inl none ↦ absurd (none device l owns)
  | inr found ↦ found
]

-- ---- the cells of one device

-- what a position of the device's own is
pub record IsOwnCell (s : ShardingValue) (device : ℕ) (position : Position) : Type 0 where
  pub below : position.whole < cell_count (whole_of s)
  pub owns : OwnsCell s device position.whole
  pub local : position.local ≡ flat_of (local_shape s device) (local_index s.grid.extents device s.dimensions (unflat_of (whole_of s) position.whole))

own_cell : (s : ShardingValue) (device : ℕ) (position : Position) → IsPosition s.grid.extents device s.dimensions position → IsOwnCell s device position
own_cell s device position h =
    let i = h.index in
    let back : unflat_of (whole_of s) (flat_of (whole_of s) i) ≡ i = unflat_of-flat_of (whole_of s) i h.own.within in
    subst (IsOwnCell s device) (sym h.value) (record {
      below = flat_of-below (whole_of s) i h.own.within;
      owns = subst (Owns s device) (sym back) h.own.owns;
      local = ap (λ z. flat_of (local_shape s device) (local_index s.grid.extents device s.dimensions z)) (sym back);
    })

held_read : (s : ShardingValue) (parts : List TensorValue) (device cell local : ℕ) → (part_at parts device).shape ≡ local_shape s device
    → local ≡ flat_of (local_shape s device) (local_index s.grid.extents device s.dimensions (unflat_of (whole_of s) cell))
    → get_or (part_at parts device).cells local Undef ≡ held_at s parts device cell
unfolding at
held_read s parts device cell local shape e =
    let j = local_index s.grid.extents device s.dimensions (unflat_of (whole_of s) cell) in
    ap (λ k. get_or (part_at parts device).cells k Undef) (e ∙ ap (λ z. flat_of z j) (sym shape))

-- the position of a cell that the device owns is among its positions
own_position : (s : ShardingValue) (device cell : ℕ) (positions : List Position) → ArePositions s.grid.extents device s.dimensions positions → cell < cell_count (whole_of s) → OwnsCell s device cell
    → Contains positions (position_of s.grid.extents device s.dimensions (unflat_of (whole_of s) cell))
own_position s device cell positions h l owns = h.full (unflat_of (whole_of s) cell) (record { within = unflat_of-within (whole_of s) cell l; owns = owns })

written_own : (s : ShardingValue) (parts : List TensorValue) (device cell : ℕ) (positions : List Position) (before after : List Cell) → (part_at parts device).shape ≡ local_shape s device
    → ArePositions s.grid.extents device s.dimensions positions → AreWritten positions (part_at parts device).cells before after → cell < cell_count (whole_of s) → OwnsCell s device cell
    → get_or after cell Undef ≡ held_at s parts device cell
written_own s parts device cell positions before after shape h written l owns =
    let position = position_of s.grid.extents device s.dimensions (unflat_of (whole_of s) cell) in
    let same : position.whole ≡ cell = flat_of-unflat_of (whole_of s) cell l in
    let here : IsWrittenAt positions (part_at parts device).cells after cell =
    subst (IsWrittenAt positions (part_at parts device).cells after) same (written.own position (own_position s device cell positions h l owns)) in
    let own = own_cell s device here.position (All-contains (IsPosition s.grid.extents device s.dimensions) positions here.position h.each here.among) in
    here.value
    ∙ held_read s parts device cell here.position.local shape (own.local ∙ ap (λ z. flat_of (local_shape s device) (local_index s.grid.extents device s.dimensions (unflat_of (whole_of s) z))) here.here)

written_other : (s : ShardingValue) (device cell : ℕ) (positions : List Position) (part before after : List Cell) → ArePositions s.grid.extents device s.dimensions positions → AreWritten positions part before after
    → (¬ OwnsCell s device cell) → get_or after cell Undef ≡ get_or before cell Undef
written_other s device cell positions part before after h written none =
    written.others cell (λ position among e. none (subst (OwnsCell s device) e (own_cell s device position (All-contains (IsPosition s.grid.extents device s.dimensions) positions position h.each among)).owns))

held_fits : (s : ShardingValue) (parts : List TensorValue) (device cell : ℕ) → AreParts s parts → device < cell_count s.grid.extents → IsTensor (part_at parts device) → cell < cell_count (whole_of s) → OwnsCell s device cell
    → IsCellOf (part_at parts 0).width (held_at s parts device cell)
held_fits s parts device cell ok l whole lc owns =
    let j = local_index s.grid.extents device s.dimensions (unflat_of (whole_of s) cell) in
    let within : IsIndexOf (local_shape s device) j = local_within s.grid.extents device s.dimensions (unflat_of (whole_of s) cell) (record { within = unflat_of-within (whole_of s) cell lc; owns = owns }) in
    let fits = whole.fitting j (subst (λ z. IsIndexOf z j) (sym (ok.shapes device l)) within) in
    subst (λ w. IsCellOf w (held_at s parts device cell)) (ok.widths device l) fits

-- ---- all devices

pub standing_more : (s : ShardingValue) (parts : List TensorValue) (device from : ℕ) (positions : List Position) (before after : List Cell) → AreParts s parts → device < cell_count s.grid.extents → from ≡ device + 1 → IsTensor (part_at parts device)
    → ArePositions s.grid.extents device s.dimensions positions → AreWritten positions (part_at parts device).cells before after → IsStanding s parts from before → IsStanding s parts device after
standing_more s parts device from positions before after ok l ef whole h written standing =
    let shape = ok.shapes device l in
    let counted = written.long ∙ standing.counted in
    record {
      counted = counted;
      fitting = All-from_get_or (IsCellOf (part_at parts 0).width) after Undef (λ k lk.
          let lc : k < cell_count (whole_of s) = omega arith in
          elim (owns_or_not s.grid.extents device s.dimensions (unflat_of (whole_of s) k)) [
            | inl owns ↦ subst (IsCellOf (part_at parts 0).width) (sym (written_own s parts device k positions before after shape h written lc owns)) (held_fits s parts device k ok l whole lc owns)
            | inr other ↦
                let long = standing.counted in
                subst (IsCellOf (part_at parts 0).width) (sym (written_other s device k positions (part_at parts device).cells before after h written other))
                (All-get_or (IsCellOf (part_at parts 0).width) before k Undef (omega arith) standing.fitting)
          ]);
      first = λ cell other lc from_here lo owns none. elim (lt_or_le device other) [
        | inl later ↦
            written_other s device cell positions (part_at parts device).cells before after h written (none device (omega arith) later)
            ∙ standing.first cell other lc (omega arith) lo owns (λ c lf lt. none c (omega arith) lt)
        | inr no_later ↦
            let same : device ≡ other = omega arith in
            subst (λ z. get_or after cell Undef ≡ held_at s parts z cell) same (written_own s parts device cell positions before after shape h written lc (subst (λ z. OwnsCell s z cell) (sym same) owns))
      ];
    }

-- ---- what the code reads

-- a part that is read
pub part_read : (parts : List TensorValue) (device : ℕ) (part : TensorValue) → device < length parts → part ≡ get_or parts device part → part ≡ part_at parts device
part_read parts device part l e = get_or_read parts device part l e (record { shape = []; width = I1; cells = [] })

-- a device of the grid is one of the sharding
pub is_device : (s : ShardingValue) (g : GridValue) (n device : ℕ) → s.grid ≡ g → n ≡ cell_count g.extents → device < n → device < cell_count s.grid.extents
is_device s g n device eg en l = subst (λ z. device < cell_count z.extents) (sym eg) (omega arith)

pub standing_step : (s : ShardingValue) (parts : List TensorValue) (device from : ℕ) (part : TensorValue) (own : List Cell) (read positions : List Position) (before after : List Cell) → AreParts s parts → device < cell_count s.grid.extents → from ≡ device + 1
    → part ≡ get_or parts device part → IsTensor part → own ≡ part.cells → read ≡ positions → ArePositions s.grid.extents device s.dimensions positions → AreWritten read own before after → IsStanding s parts from before → IsStanding s parts device after
standing_step s parts device from part own read positions before after ok l ef e whole eo er h written standing =
    let count = ok.counted in
    let same = part_read parts device part (omega arith) e in
    standing_more s parts device from positions before after ok l ef (subst IsTensor same whole) h
    (subst (λ z. AreWritten positions z before after) (eo ∙ ap (λ z. z.cells) same) (subst (λ z. AreWritten z own before after) er written)) standing

-- the positions lie in the whole and in the part
pub positions_fit : (s : ShardingValue) (parts : List TensorValue) (device whole local : ℕ) (part : TensorValue) (read positions : List Position) → AreParts s parts → device < cell_count s.grid.extents → part ≡ get_or parts device part
    → whole ≡ cell_count (whole_of s) → local ≡ cell_count part.shape → read ≡ positions → ArePositions s.grid.extents device s.dimensions positions → All (IsInside whole local) read
positions_fit s parts device whole local part read positions ok l e ew el er h =
    let count = ok.counted in
    let same = part_read parts device part (omega arith) e in
    let long : local ≡ cell_count (local_shape s device) = el ∙ ap (λ z. cell_count z.shape) same ∙ ap cell_count (ok.shapes device l) in
    subst (All (IsInside whole local)) (sym er)
    (subst (λ n. All (IsInside n local) positions) (sym ew) (subst (λ n. All (IsInside (cell_count (whole_of s)) n) positions) (sym long)
    (All-weaker (IsPosition s.grid.extents device s.dimensions) (IsInside (cell_count (whole_of s)) (cell_count (local_shape s device))) (position_inside s.grid.extents device s.dimensions) positions h.each)))

-- where a device holds another cell
pub record IsFoundAt (s : ShardingValue) (parts : List TensorValue) (cells : List Cell) (upto device cell : ℕ) : Type 0 where
  pub below : device < upto
  pub owns : OwnsCell s device cell
  pub differs : held_at s parts device cell ≢ get_or cells cell Undef
  pub earlier : (other : ℕ) → other < device → OwnsCell s other cell → held_at s parts other cell ≡ get_or cells cell Undef

-- the first cell, and its first device, that a device so far holds otherwise than it stands
pub record IsFirstSoFar (s : ShardingValue) (parts : List TensorValue) (cells : List Cell) (upto device first : ℕ) : Type 0 where
  pub within : first ≤ cell_count (whole_of s)
  pub alike : (other cell : ℕ) → other < upto → cell < first → OwnsCell s other cell → held_at s parts other cell ≡ get_or cells cell Undef
  pub found : first < cell_count (whole_of s) → IsFoundAt s parts cells upto device first

-- what is found of one device
pub record IsDeviceLeast (s : ShardingValue) (parts : List TensorValue) (cells : List Cell) (device least : ℕ) : Type 0 where
  pub few : least ≤ cell_count (whole_of s)
  pub alike : (cell : ℕ) → cell < least → OwnsCell s device cell → held_at s parts device cell ≡ get_or cells cell Undef
  pub owns : least < cell_count (whole_of s) → OwnsCell s device least
  pub differs : least < cell_count (whole_of s) → held_at s parts device least ≢ get_or cells least Undef

device_least : (s : ShardingValue) (parts : List TensorValue) (cells : List Cell) (device least : ℕ) (positions : List Position) → (part_at parts device).shape ≡ local_shape s device → length cells ≡ cell_count (whole_of s)
    → ArePositions s.grid.extents device s.dimensions positions → IsLeastDiffering positions (part_at parts device).cells cells least → IsDeviceLeast s parts cells device least
device_least s parts cells device least positions shape counted h at_least =
    let within = at_least.within in
    let local : ℕ → ℕ = λ cell. flat_of (local_shape s device) (local_index s.grid.extents device s.dimensions (unflat_of (whole_of s) cell)) in
    let own : (position : Position) → Contains positions position → IsOwnCell s device position = λ position among. own_cell s device position (All-contains (IsPosition s.grid.extents device s.dimensions) positions position h.each among) in
    record {
      few = omega arith;
      alike = λ cell l owns.
          let lc : cell < cell_count (whole_of s) = omega arith in
          let position = position_of s.grid.extents device s.dimensions (unflat_of (whole_of s) cell) in
          let same : position.whole ≡ cell = flat_of-unflat_of (whole_of s) cell lc in
          sym (held_read s parts device cell position.local shape refl)
          ∙ at_least.alike position (own_position s device cell positions h lc owns) (subst (λ k. k < least) (sym same) l)
          ∙ ap (λ k. get_or cells k Undef) same;
      owns = λ l. let there = at_least.found (omega arith) in subst (OwnsCell s device) there.here (own there.position there.among).owns;
      differs = λ l e.
          let there = at_least.found (omega arith) in
          there.differs (held_read s parts device least there.position.local shape ((own there.position there.among).local ∙ ap local there.here) ∙ e);
    }

pub least_read : (s : ShardingValue) (parts : List TensorValue) (cells : List Cell) (device least : ℕ) (part : TensorValue) (own : List Cell) (read positions : List Position) → AreParts s parts → device < cell_count s.grid.extents → part ≡ get_or parts device part
    → length cells ≡ cell_count (whole_of s) → own ≡ part.cells → read ≡ positions → ArePositions s.grid.extents device s.dimensions positions → IsLeastDiffering read own cells least → IsDeviceLeast s parts cells device least
least_read s parts cells device least part own read positions ok l e counted eo er h at_least =
    let count = ok.counted in
    let same = part_read parts device part (omega arith) e in
    device_least s parts cells device least positions (ok.shapes device l) counted h
    (subst (λ z. IsLeastDiffering positions z cells least) (eo ∙ ap (λ z. z.cells) same) (subst (λ z. IsLeastDiffering z own cells least) er at_least))

pub first_kept : (s : ShardingValue) (parts : List TensorValue) (cells : List Cell) (upto device first least : ℕ) → IsDeviceLeast s parts cells upto least → first ≤ least → IsFirstSoFar s parts cells upto device first
    → IsFirstSoFar s parts cells (upto + 1) device first
first_kept s parts cells upto device first least here le h = record {
  within = h.within;
  alike = λ other cell l lc owns. elim (lt_or_le other upto) [
    | inl less ↦ h.alike other cell less lc owns
    | inr more ↦
        let same : upto ≡ other = omega arith in
        subst (λ z. held_at s parts z cell ≡ get_or cells cell Undef) same (here.alike cell (omega arith) (subst (λ z. OwnsCell s z cell) (sym same) owns))
  ];
  found = λ l. let there = h.found l in let below = there.below in record { below = omega arith; owns = there.owns; differs = there.differs; earlier = there.earlier };
}

pub first_less : (s : ShardingValue) (parts : List TensorValue) (cells : List Cell) (upto device first least : ℕ) → IsDeviceLeast s parts cells upto least → least < first → IsFirstSoFar s parts cells upto device first
    → IsFirstSoFar s parts cells (upto + 1) upto least
first_less s parts cells upto device first least here lt h =
    let within = h.within in
    record {
      within = omega arith;
      alike = λ other cell l lc owns. elim (lt_or_le other upto) [
        | inl less ↦ h.alike other cell less (omega arith) owns
        | inr more ↦
            let same : upto ≡ other = omega arith in
            subst (λ z. held_at s parts z cell ≡ get_or cells cell Undef) same (here.alike cell lc (subst (λ z. OwnsCell s z cell) (sym same) owns))
      ];
      found = λ l. record { below = omega arith; owns = here.owns l; differs = here.differs l; earlier = λ other lo owns. h.alike other least lo lt owns };
    }

first_stands : (s : ShardingValue) (parts : List TensorValue) (cells : List Cell) (cell owner : ℕ) → IsStanding s parts 0 cells → cell < cell_count (whole_of s) → IsFirstOwner s (unflat_of (whole_of s) cell) owner
    → get_or cells cell Undef ≡ held_at s parts owner cell
first_stands s parts cells cell owner standing l first = standing.first cell owner l (omega arith) first.below first.owns (λ other lf lt. first.first other lt)

pub refused : (s : ShardingValue) (parts : List TensorValue) (cells : List Cell) (upto device first : ℕ) → upto ≡ cell_count s.grid.extents → first < cell_count (whole_of s) → IsStanding s parts 0 cells → IsFirstSoFar s parts cells upto device first
    → IsFirstDiffering s parts device first
refused s parts cells upto device first eu l standing h =
    let there = h.found l in
    let below = there.below in
    let owner = first_owner s (unflat_of (whole_of s) first) device (omega arith) there.owns in
    let stands = first_stands s parts cells first owner.owner standing l owner.first in
    record {
      within = l;
      owner = owner.owner;
      first = owner.first;
      below = omega arith;
      owns = there.owns;
      differs = λ e. there.differs (e ∙ sym stands);
      earlier = λ other lo owns. there.earlier other lo owns ∙ stands;
      lesser = λ lower c e ll lc le oc oe. h.alike c lower (omega arith) ll oc ∙ sym (h.alike e lower (omega arith) ll oe);
    }

-- ---- the tensor

-- there is a part
pub some_part : (s : ShardingValue) (parts : List TensorValue) → IsSharding s → AreParts s parts → 0 < length parts
some_part s parts ok h =
    let some = cell_count-some s.grid.extents ok.grid.positive in
    let count = h.counted in
    omega arith

pub is_tensor : (s : ShardingValue) (parts : List TensorValue) (cells : List Cell) (t : TensorValue) → IsSharding s → IsStanding s parts 0 cells → t ≡ record { shape = whole_of s; width = (part_at parts 0).width; cells = cells } → IsTensor t
is_tensor s parts cells t ok standing e =
    subst IsTensor (sym e) (held (whole_of s) (part_at parts 0).width cells standing.counted (cells_few s ok) standing.fitting).whole

pub together : (s : ShardingValue) (parts : List TensorValue) (cells : List Cell) (t : TensorValue) → AreHeld s parts cells → t ≡ record { shape = whole_of s; width = (part_at parts 0).width; cells = cells } → IsTogether s parts t
unfolding at
together s parts cells t h e = subst (IsTogether s parts) (sym e) (record {
  shape = refl;
  width = refl;
  cells = λ device i l within owns.
      let back = unflat_of-flat_of (whole_of s) i within in
      sym (ap (held_cell s (part_at parts device) device) back)
      ∙ h.held device (flat_of (whole_of s) i) l (flat_of-below (whole_of s) i within) (subst (Owns s device) (sym back) owns);
})

width-cut_of : (s : ShardingValue) (t : TensorValue) (device : ℕ) → (cut_of s t device).width ≡ t.width
unfolding cut_of
width-cut_of s t device = refl

cut_held : (s : ShardingValue) (t : TensorValue) (parts : List TensorValue) (device : ℕ) (i : List ℕ) → AreCutsOf s t parts → device < cell_count s.grid.extents → IsIndexOf (whole_of s) i → Owns s device i → held_cell s (part_at parts device) device i ≡ at t i
cut_held s t parts device i h l within owns = ap (λ z. held_cell s z device i) (h.cuts device l) ∙ held_cell-cut_of s t device i within owns

-- the parts of a tensor's cuts give the tensor again
pub again : (s : ShardingValue) (parts : List TensorValue) (t u : TensorValue) → IsSharding s → AreCutsOf s t parts → IsTensor u → IsTogether s parts u → u ≡ t
again s parts t u ok h whole made =
    let some = cell_count-some s.grid.extents ok.grid.positive in
    tensor_ext u t whole.counted h.whole.counted (made.shape ∙ sym h.shape) (made.width ∙ ap (λ z. z.width) (h.cuts 0 some) ∙ width-cut_of s t 0)
    (λ i l.
    let within : IsIndexOf (whole_of s) i = subst (λ z. IsIndexOf z i) h.shape l in
    let owner = one_owner s 0 i ok some within in
    let c = member_of s.grid.extents (axes_of s.dimensions) 0 owner.place in
    let below = member_of-below s.grid.extents (axes_of s.dimensions) 0 owner.place some owner.there in
    sym (made.cells c i below within owner.owns) ∙ cut_held s t parts c i h below within owner.owns)

pub again_refused : (s : ShardingValue) (parts : List TensorValue) (t : TensorValue) (refusal : Put) → AreCutsOf s t parts → IsPutRefusal refusal s parts → refusal ≡ Mem
again_refused s parts t Mem h k = refl
again_refused s parts t (Differ device cell) h k =
    let i = unflat_of (whole_of s) cell in
    let within = unflat_of-within (whole_of s) cell k.within in
    absurd (k.differs (cut_held s t parts device i h k.below within k.owns ∙ sym (cut_held s t parts k.owner i h k.first.below within k.first.owns)))

pub again_err : (s : ShardingValue) (parts : List TensorValue) (t : TensorValue) (r : Result TensorValue Put) → IsErr r → IfErr r (λ refusal. IsPutRefusal refusal s parts) → AreCutsOf s t parts
    → IfOk r (λ u. u ≡ t) × IfErr r (λ refusal. refusal ≡ Mem)
again_err s parts t (Ok u) failed h cuts = absurd (cc)
again_err s parts t (Err refusal) failed h cuts = (tt, again_refused s parts t refusal cuts h)
