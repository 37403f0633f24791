-- The positions of a device's own cells: one dimension more, and cells that are written and compared there.
use Rattle.std.proofs.Common.{◌≡◌, ◌≢◌, ℕ, zero, suc, ◌+◌, ◌-◌, ◌*◌, ◌<◌, ◌≤◌, inl, inr, List, [], ◌∷◌, ◌++◌, length, get_or, set, map, take, drop, max, refl, ap, ap₂, sym, ◌∙◌, arith, subst}
use Rattle.std.specs.List.{All, AllByRecursion, Contains}
use Rattle.std.proofs.lemmas.List.{get_or-set_same, get_or-set_other, length-set, length-map, take_more, drop_more}
use Rattle.std.proofs.lemmas.List.Elements.{All-append, All-map, All-weaker, All-contains, All-contains_itself, Contains-append_left, Contains-append_right, Contains-push, Contains-push_cases}
use Rattle.std.proofs.lemmas.Nat.{mul-le}
use Rattle.std.proofs.Math.Nat.{mul-le-mul_right}
use Rattle.sh_base.specs.declared.numbers.Cell.{Cell}
use Rattle.sh_base.specs.declared.numbers.Cell.TheVariants.{Undef}
use Rattle.sh_base.specs.Shape.{cell_count, IsIndexOf, flat_of, max_cells}
use Rattle.sh_base.proofs.ShapeLaws.{flat_of-below}
use Rattle.sh_grid.specs.Grid.{GridValue}
use Rattle.sh_sharding.specs.declared.shardings.Dimension.{Dimension}
use Rattle.sh_sharding.specs.declared.positions.Position.{Position}
use Rattle.sh_sharding.specs.Sharding.{ShardingValue, start_in, size_in, local_extent, local_shape, whole_of, counted_cells, unsplit, IsSharding}
use Rattle.sh_sharding.specs.Cut.{local_index}
use Rattle.sh_sharding.specs.Positions.{IsOwn, position_of, IsPosition, ArePositions, moved, shift_at, IsExtended, AreExtended, IsSmall, IsInside, IsWrittenAt, AreWritten, DiffersAt, IsLeastDiffering}
use Rattle.sh_sharding.proofs.PartLaws.{IsPlaced, placed}
use Rattle.sh_sharding.proofs.Cases.{lt_or_le, same_or_not}

Contains-map : {X Y : Type 0} (f : X → Y) (xs : List X) (x : X) → Contains xs x → Contains (map f xs) (f x)
Contains-map f xs x h = (h.0, rw (length-map xs f) h.1, get_or_map f xs h.0 x ∙ ap f h.2)
  where
    get_or_map : {X Y : Type 0} (f : X → Y) (xs : List X) (k : ℕ) (d : X) → get_or (map f xs) k (f d) ≡ f (get_or xs k d)
    get_or_map f [] k d = refl
    get_or_map f (x ∷ xs) zero d = refl
    get_or_map f (x ∷ xs) (suc k) d = get_or_map f xs k d

-- ---- one dimension more

pub extended_more : (positions : List Position) (stride from : Position) (size : ℕ) (out : List Position) → AreExtended positions stride from size out
    → AreExtended positions stride from (size + 1) (out ++ map (moved (shift_at stride from size)) positions)
extended_more positions stride from size out h =
    let by = shift_at stride from size in
    let row = map (moved by) positions in
    let earlier : All (IsExtended positions stride from (size + 1)) out =
    All-weaker (IsExtended positions stride from size) (IsExtended positions stride from (size + 1))
    (λ position at. record { entry = at.entry; below = let l = at.below in omega arith; rest = at.rest; among = at.among; value = at.value }) out h.each in
    let here : All (IsExtended positions stride from (size + 1)) row =
    All-map (IsExtended positions stride from (size + 1)) (moved by) positions
    (All-weaker (Contains positions) (λ rest. IsExtended positions stride from (size + 1) (moved by rest))
    (λ rest among. record { entry = size; below = omega arith; rest = rest; among = among; value = refl }) positions (All-contains_itself positions)) in
    record {
      each = All-append (IsExtended positions stride from (size + 1)) out row earlier here;
      full = λ entry rest l among. elim (lt_or_le entry size) [
        | inl less ↦ Contains-append_left out row (moved (shift_at stride from entry) rest) (h.full entry rest less among)
        | inr more ↦
            let same : size ≡ entry = omega arith in
            subst (λ k. Contains (out ++ row) (moved (shift_at stride from k) rest)) same
            (Contains-append_right out row (moved by rest) (Contains-map (moved by) positions rest among))
      ];
    }

moved_position : (g : List ℕ) (device : ℕ) (d : Dimension) (ds : List Dimension) (stride from : Position) (entry : ℕ) (i : List ℕ)
    → stride.whole ≡ cell_count (map (λ d. d.extent) ds) → stride.local ≡ cell_count (map (local_extent g device) ds) → from.whole ≡ start_in g device d → from.local ≡ d.low
    → moved (shift_at stride from entry) (position_of g device ds i) ≡ position_of g device (d ∷ ds) ((from.whole + entry) ∷ i)
moved_position g device d ds stride from entry i ew el es eo =
    let whole = flat_of (map (λ d. d.extent) ds) i in
    let local = flat_of (map (local_extent g device) ds) (local_index g device ds i) in
    let position : from.local + entry ≡ d.low + (from.whole + entry - start_in g device d) = omega arith in
    let wholes : (from.whole + entry) * stride.whole + whole ≡ (from.whole + entry) * cell_count (map (λ d. d.extent) ds) + whole =
    ap (λ n. (from.whole + entry) * n + whole) ew in
    let locals : (from.local + entry) * stride.local + local ≡ (d.low + (from.whole + entry - start_in g device d)) * cell_count (map (local_extent g device) ds) + local =
    ap₂ (λ m n. m * n + local) position el in
    λ j. record { whole = wholes j; local = locals j }

extended_full : (g : List ℕ) (device : ℕ) (d : Dimension) (ds : List Dimension) (positions : List Position) (stride from : Position) (size : ℕ) (out : List Position) (i : List ℕ) → ArePositions g device ds positions
    → stride.whole ≡ cell_count (map (λ d. d.extent) ds) → stride.local ≡ cell_count (map (local_extent g device) ds) → from.whole ≡ start_in g device d → from.local ≡ d.low → size ≡ size_in g device d
    → AreExtended positions stride from size out → IsOwn g device (d ∷ ds) i → Contains out (position_of g device (d ∷ ds) i)
extended_full g device d ds positions stride from size out [] h ew el es eo ez ext own = absurd own.within
extended_full g device d ds positions stride from size out (x ∷ i) h ew el es eo ez ext own =
    let begins : start_in g device d ≤ x = own.owns.0 in
    let ends : x < start_in g device d + size_in g device d = own.owns.1 in
    let entry = x - from.whole in
    let back : from.whole + entry ≡ x = omega arith in
    let among = h.full i (record { within = own.within.1; owns = own.owns.2 }) in
    let there = ext.full entry (position_of g device ds i) (omega arith) among in
    subst (Contains out) (moved_position g device d ds stride from entry i ew el es eo ∙ ap (λ y. position_of g device (d ∷ ds) (y ∷ i)) back) there

pub positions_more : (g : List ℕ) (device : ℕ) (d : Dimension) (ds : List Dimension) (positions : List Position) (stride from : Position) (size : ℕ) (out : List Position) → IsPlaced g device d → ArePositions g device ds positions
    → stride.whole ≡ cell_count (map (λ d. d.extent) ds) → stride.local ≡ cell_count (map (local_extent g device) ds) → from.whole ≡ start_in g device d → from.local ≡ d.low → size ≡ size_in g device d
    → AreExtended positions stride from size out → ArePositions g device (d ∷ ds) out
positions_more g device d ds positions stride from size out ok h ew el es eo ez ext = record {
  each = All-weaker (IsExtended positions stride from size) (IsPosition g device (d ∷ ds))
      (λ position at.
      let rest = All-contains (IsPosition g device ds) positions at.rest h.each at.among in
      let below = at.below in
      let fits = ok.fits in
      record {
        index = (from.whole + at.entry) ∷ rest.index;
        own = record { within = (omega arith, rest.own.within); owns = (omega arith, omega arith, rest.own.owns) };
        value = at.value ∙ ap (moved (shift_at stride from at.entry)) rest.value ∙ moved_position g device d ds stride from at.entry rest.index ew el es eo;
      }) out ext.each;
  full = λ i own. extended_full g device d ds positions stride from size out i h ew el es eo ez ext own;
}

-- the positions along the dimensions from k on, and how many indices these have
pub record AreOwnFrom (g : List ℕ) (device : ℕ) (ds : List Dimension) (k : ℕ) (positions : List Position) (stride : Position) : Type 0 where
  pub own : ArePositions g device (drop k ds) positions
  pub wholes : stride.whole ≡ cell_count (map (λ d. d.extent) (drop k ds))
  pub locals : stride.local ≡ cell_count (map (local_extent g device) (drop k ds))

pub own_all : (s : ShardingValue) (g : GridValue) (device k : ℕ) (positions : List Position) (stride : Position) → s.grid ≡ g → k ≡ 0 → AreOwnFrom g.extents device s.dimensions k positions stride → ArePositions s.grid.extents device s.dimensions positions
own_all s g device k positions stride eg e h =
    subst (λ z. ArePositions z.extents device s.dimensions positions) (sym eg) (subst (λ n. ArePositions g.extents device (drop n s.dimensions) positions) e h.own)

-- the last dimensions have no more cells than all
fewer_from : (f : Dimension → ℕ) (ds : List Dimension) (k : ℕ) → cell_count (map f (drop k ds)) ≤ counted_cells (map f ds)
fewer_from f [] zero = omega arith
fewer_from f [] (suc k) = omega arith
fewer_from f (d ∷ ds) zero = let rest = fewer_from f ds zero in mul-le (f d) (cell_count (map f ds)) (max 1 (f d)) (counted_cells (map f ds)) (omega arith) rest
fewer_from f (d ∷ ds) (suc k) =
    let rest = fewer_from f ds k in
    let more : 1 * counted_cells (map f ds) ≤ max 1 (f d) * counted_cells (map f ds) = mul-le-mul_right (counted_cells (map f ds)) (omega arith) in
    omega arith

pub local_within : (g : List ℕ) (c : ℕ) (ds : List Dimension) (i : List ℕ) → IsOwn g c ds i → IsIndexOf (map (local_extent g c) ds) (local_index g c ds i)
unfolding local_extent
local_within g c [] i h = tt
local_within g c (d ∷ ds) [] h = absurd h.owns
local_within g c (d ∷ ds) (x ∷ i) h =
    let from : start_in g c d ≤ x = h.owns.0 in
    let to : x < start_in g c d + size_in g c d = h.owns.1 in
    (omega arith, local_within g c ds i (record { within = h.within.1; owns = h.owns.2 }))

-- a position of the device's own lies in both tensors
pub position_inside : (g : List ℕ) (device : ℕ) (ds : List Dimension) (position : Position) → IsPosition g device ds position → IsInside (cell_count (map (λ d. d.extent) ds)) (cell_count (map (local_extent g device) ds)) position
position_inside g device ds position h =
    let whole = flat_of-below (map (λ d. d.extent) ds) h.index h.own.within in
    let local = flat_of-below (map (local_extent g device) ds) (local_index g device ds h.index) (local_within g device ds h.index h.own) in
    subst (IsInside (cell_count (map (λ d. d.extent) ds)) (cell_count (map (local_extent g device) ds))) (sym h.value) (record { in_whole = whole; in_local = local })

placed_at : (g : List ℕ) (device : ℕ) (ds : List Dimension) (k : ℕ) (e : Dimension) → AllByRecursion (IsPlaced g device) ds → k < length ds → IsPlaced g device (get_or ds k e)
placed_at g device [] k e h l = absurd (omega arith)
placed_at g device (d ∷ ds) zero e h l = h.0
placed_at g device (d ∷ ds) (suc k) e h l = placed_at g device ds k e h.1 (omega arith)

-- what the code asks for one dimension more, and what it has then
pub record IsPositionStep (g : List ℕ) (device : ℕ) (ds : List Dimension) (k : ℕ) (positions : List Position) (stride : Position) (d : Dimension) (start size : ℕ) : Type 0 where
  pub small : All IsSmall positions
  pub ends : start + size ≤ max_cells
  pub local_ends : d.low + size + d.high ≤ (3 * max_cells)
  pub whole_few : (start + size) * stride.whole ≤ max_cells
  pub local_few : (d.low + size) * stride.local ≤ max_cells
  pub whole_next : d.extent * stride.whole ≤ max_cells
  pub local_next : (d.low + size + d.high) * stride.local ≤ max_cells
  pub next : (out : List Position) → AreExtended positions stride (record { whole = start; local = d.low }) size out
      → AreOwnFrom g device ds k out (record { whole = d.extent * stride.whole; local = (d.low + size + d.high) * stride.local })

step_at : (s : ShardingValue) (device k : ℕ) (positions : List Position) (stride : Position) (start size : ℕ) → IsSharding s → device < cell_count s.grid.extents → k < length s.dimensions
    → start ≡ start_in s.grid.extents device (get_or s.dimensions k (unsplit 0)) → size ≡ size_in s.grid.extents device (get_or s.dimensions k (unsplit 0)) → (get_or s.dimensions k (unsplit 0)).extent ≤ max_cells
    → AreOwnFrom s.grid.extents device s.dimensions (k + 1) positions stride → IsPositionStep s.grid.extents device s.dimensions k positions stride (get_or s.dimensions k (unsplit 0)) start size
unfolding local_extent
step_at s device k positions stride start size ok l lk es ez few h =
    let g = s.grid.extents in
    let ds = s.dimensions in
    let d = get_or ds k (unsplit 0) in
    let rest = drop (k + 1) ds in
    let apart : drop k ds ≡ d ∷ rest = drop_more ds k (unsplit 0) lk in
    let at = placed_at g device ds k (unsplit 0) (placed s device ok l) lk in
    let fits : start_in g device d + size_in g device d ≤ d.extent = at.fits in
    let low : d.low ≤ size_in g device d = at.low in
    let high : d.high ≤ size_in g device d = at.high in
    let wholes : cell_count (map (λ d. d.extent) (drop k ds)) ≡ d.extent * stride.whole =
    ap (λ z. cell_count (map (λ d. d.extent) z)) apart ∙ ap (λ n. d.extent * n) (sym h.wholes) in
    let extent : d.low + size_in g device d + d.high ≡ d.low + size + d.high = omega arith in
    let locals : cell_count (map (local_extent g device) (drop k ds)) ≡ (d.low + size + d.high) * stride.local =
    ap (λ z. cell_count (map (local_extent g device) z)) apart ∙ ap₂ (λ m n. m * n) extent (sym h.locals) in
    let whole_all : counted_cells (whole_of s) ≤ max_cells = ok.small in
    let local_all : counted_cells (local_shape s device) ≤ max_cells = ok.fits device l in
    let whole_here : cell_count (map (λ d. d.extent) (drop k ds)) ≤ counted_cells (whole_of s) = fewer_from (λ d. d.extent) ds k in
    let local_here : cell_count (map (local_extent g device) (drop k ds)) ≤ counted_cells (local_shape s device) = fewer_from (local_extent g device) ds k in
    let whole_rest : cell_count (map (λ d. d.extent) rest) ≤ counted_cells (whole_of s) = fewer_from (λ d. d.extent) ds (k + 1) in
    let local_rest : cell_count (map (local_extent g device) rest) ≤ counted_cells (local_shape s device) = fewer_from (local_extent g device) ds (k + 1) in
    let whole_end : (start + size) * stride.whole ≤ d.extent * stride.whole = mul-le-mul_right stride.whole (omega arith) in
    let local_end : (d.low + size) * stride.local ≤ (d.low + size + d.high) * stride.local = mul-le-mul_right stride.local (omega arith) in
    record {
      small = All-weaker (IsPosition g device rest) IsSmall (λ position p. let inside = position_inside g device rest position p in let a = inside.in_whole in let b = inside.in_local in record { whole_few = omega arith; local_few = omega arith }) positions h.own.each;
      ends = omega arith;
      local_ends = omega arith;
      whole_few = omega arith;
      local_few = omega arith;
      whole_next = omega arith;
      local_next = omega arith;
      next = λ out ext. record {
        own = subst (λ z. ArePositions g device z out) (sym apart) (positions_more g device d rest positions stride (record { whole = start; local = d.low }) size out at h.own h.wholes h.locals es refl ez ext);
        wholes = sym wholes;
        locals = sym locals;
      };
    }

pub position_step : (s : ShardingValue) (g : GridValue) (device k n : ℕ) (positions : List Position) (stride : Position) (d : Dimension) (start size : ℕ) → IsSharding s → s.grid ≡ g → device < cell_count g.extents
    → k < length s.dimensions → n ≡ k + 1 → d ≡ get_or s.dimensions k (unsplit 0) → d.extent ≤ max_cells → start ≡ start_in g.extents device d → size ≡ size_in g.extents device d
    → AreOwnFrom g.extents device s.dimensions n positions stride → IsPositionStep g.extents device s.dimensions k positions stride d start size
position_step s g device k n positions stride d start size ok eg l lk en ed few es ez h =
    let back = sym eg in
    let f = get_or s.dimensions k (unsplit 0) in
    let es' : start ≡ start_in s.grid.extents device f = es ∙ ap₂ (λ h z. start_in h.extents device z) back ed in
    let ez' : size ≡ size_in s.grid.extents device f = ez ∙ ap₂ (λ h z. size_in h.extents device z) back ed in
    let h' : AreOwnFrom s.grid.extents device s.dimensions (k + 1) positions stride = subst (λ m. AreOwnFrom s.grid.extents device s.dimensions m positions stride) en (subst (λ z. AreOwnFrom z.extents device s.dimensions n positions stride) back h) in
    let l' : device < cell_count s.grid.extents = subst (λ z. device < cell_count z.extents) back l in
    let few' : f.extent ≤ max_cells = subst (λ z. z.extent ≤ max_cells) ed few in
    subst (λ z. IsPositionStep z.extents device s.dimensions k positions stride d start size) eg
    (subst (λ z. IsPositionStep s.grid.extents device s.dimensions k positions stride z start size) (sym ed) (step_at s device k positions stride start size ok l' lk es' ez' few' h'))

-- ---- cells that are written

written_more : (positions : List Position) (part before after : List Cell) (position : Position) → AreWritten positions part before after → position.whole < length after
    → AreWritten (positions ++ position ∷ []) part before (set after position.whole (get_or part position.local Undef))
written_more positions part before after position h l =
    let x = get_or part position.local Undef in
    let all = positions ++ position ∷ [] in
    let here : IsWrittenAt all part (set after position.whole x) position.whole = record { position = position; among = Contains-push positions position; here = refl; value = get_or-set_same after position.whole x Undef l } in
    record {
      long = length-set after position.whole x ∙ h.long;
      own = λ other among. elim (Contains-push_cases positions position other among) [
        | inl earlier ↦ elim (same_or_not other.whole position.whole) [
          | inl same ↦ subst (IsWrittenAt all part (set after position.whole x)) (sym same) here
          | inr apart ↦
              let at = h.own other earlier in
              record { position = at.position; among = Contains-append_left positions (position ∷ []) at.position at.among; here = at.here; value = get_or-set_other after position.whole other.whole x Undef apart ∙ at.value }
        ]
        | inr same ↦ subst (λ z. IsWrittenAt all part (set after position.whole x) z.whole) same here
      ];
      others = λ cell none.
          get_or-set_other after position.whole cell x Undef (λ e. none position (Contains-push positions position) (sym e))
          ∙ h.others cell (λ other among. none other (Contains-append_left positions (position ∷ []) other among));
    }

pub written_step : (positions : List Position) (i : ℕ) (d : Position) (part before after : List Cell) → i < length positions → (get_or positions i d).whole < length before
    → AreWritten (take i positions) part before after → AreWritten (take (i + 1) positions) part before (set after (get_or positions i d).whole (get_or part (get_or positions i d).local Undef))
written_step positions i d part before after li l h =
    let long = h.long in
    subst (λ z. AreWritten z part before (set after (get_or positions i d).whole (get_or part (get_or positions i d).local Undef))) (sym (take_more positions i d li))
    (written_more (take i positions) part before after (get_or positions i d) h (omega arith))

-- ---- the least number where cells differ

found_earlier : (positions : List Position) (position : Position) (part cells : List Cell) (cell : ℕ) → DiffersAt positions part cells cell → DiffersAt (positions ++ position ∷ []) part cells cell
found_earlier positions position part cells cell h = record { position = h.position; among = Contains-append_left positions (position ∷ []) h.position h.among; here = h.here; differs = h.differs }

least_kept : (positions : List Position) (position : Position) (part cells : List Cell) (least : ℕ) → (position.whole < least → get_or part position.local Undef ≡ get_or cells position.whole Undef) → IsLeastDiffering positions part cells least
    → IsLeastDiffering (positions ++ position ∷ []) part cells least
least_kept positions position part cells least same h = record {
  within = h.within;
  alike = λ other among l. elim (Contains-push_cases positions position other among) [
    | inl earlier ↦ h.alike other earlier l
    | inr here ↦ subst (λ z. z.whole < least → get_or part z.local Undef ≡ get_or cells z.whole Undef) here same l
  ];
  found = λ l. found_earlier positions position part cells least (h.found l);
}

least_found : (positions : List Position) (position : Position) (part cells : List Cell) (least : ℕ) → position.whole < least → (get_or part position.local Undef ≢ get_or cells position.whole Undef) → IsLeastDiffering positions part cells least
    → IsLeastDiffering (positions ++ position ∷ []) part cells position.whole
least_found positions position part cells least less apart h =
    let within = h.within in
    record {
      within = omega arith;
      alike = λ other among l. elim (Contains-push_cases positions position other among) [
        | inl earlier ↦ h.alike other earlier (omega arith)
        | inr here ↦ let same : position.whole ≡ other.whole = ap (λ (z : Position). z.whole) here in absurd (omega arith)
      ];
      found = λ l. record { position = position; among = Contains-push positions position; here = refl; differs = apart };
    }

-- the next position is compared
pub least_same : (positions : List Position) (i : ℕ) (d : Position) (part cells : List Cell) (least : ℕ) → i < length positions
    → ((get_or positions i d).whole < least → get_or part (get_or positions i d).local Undef ≡ get_or cells (get_or positions i d).whole Undef)
    → IsLeastDiffering (take i positions) part cells least → IsLeastDiffering (take (i + 1) positions) part cells least
least_same positions i d part cells least li same h =
    subst (λ z. IsLeastDiffering z part cells least) (sym (take_more positions i d li)) (least_kept (take i positions) (get_or positions i d) part cells least same h)

pub least_less : (positions : List Position) (i : ℕ) (d : Position) (part cells : List Cell) (least : ℕ) → i < length positions
    → (get_or positions i d).whole < least → (get_or part (get_or positions i d).local Undef ≢ get_or cells (get_or positions i d).whole Undef)
    → IsLeastDiffering (take i positions) part cells least → IsLeastDiffering (take (i + 1) positions) part cells (get_or positions i d).whole
least_less positions i d part cells least li less apart h =
    subst (λ z. IsLeastDiffering z part cells (get_or positions i d).whole) (sym (take_more positions i d li)) (least_found (take i positions) (get_or positions i d) part cells least less apart h)

-- the whole has few cells
pub cells_few : (s : ShardingValue) → IsSharding s → cell_count (whole_of s) ≤ max_cells
cells_few s ok =
    let small = ok.small in
    let here = fewer_from (λ d. d.extent) s.dimensions 0 in
    omega arith
