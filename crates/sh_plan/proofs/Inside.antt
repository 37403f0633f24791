-- Parts that lie in parts: what a device holds before and after a step is then all that it holds at one of them.
use Rattle.std.proofs.Common.{zero, suc, ◌≡◌, ℕ, ◌+◌, ◌<◌, ◌≤◌, List, [], ◌∷◌, ◌++◌, map, set, refl, arith}
use Rattle.std.specs.Prelude.{sum}
use Rattle.std.specs.List.{AllZip, range_with_len}
use Rattle.std.proofs.lemmas.List.Elements.{length_all_zip}
use Rattle.std.proofs.lemmas.List.Sums.{sum_by-cons}
use Rattle.sh_base.specs.Shape.{cell_count}
use Rattle.sh_grid.specs.Grid.{group_size_of, on_axes, place_in}
use Rattle.sh_sharding.specs.declared.shardings.Dimension.{Dimension}
use Rattle.sh_sharding.specs.Sharding.{offset_at, offset_of, part_of, part_size, parts_of, size_in, size_of_part, start_in, unsplit}
use Rattle.sh_sharding.proofs.PartLaws.{IsPlaced}
use Rattle.sh_plan.specs.Costs.{common_cells, common_length, cost_between, part_cells, received}
use Rattle.sh_plan.specs.Moves.{at}
use Rattle.sh_plan.proofs.CostLaws.{difference}

-- each device's part afterwards lies in its part before
pub record IsInside (g : List ℕ) (before after : Dimension) : Type 0 where
  pub begins : (device : ℕ) → device < cell_count g → start_in g device before ≤ start_in g device after
  pub ends : (device : ℕ) → device < cell_count g →
      start_in g device after + size_in g device after ≤ start_in g device before + size_in g device before

abbrev pub AreInside : List ℕ → List Dimension → List Dimension → Type 0
AreInside g before after = AllZip (IsInside g) before after

-- ---- nothing is received

-- what is held afterwards was held before
pub all_common : (g : List ℕ) (device : ℕ) (ds es : List Dimension) → device < cell_count g → AreInside g ds es →
    common_cells g device ds es ≡ part_cells g device es
all_common g device [] [] here zip = refl
all_common g device [] (e ∷ es) here zip = absurd zip
all_common g device (d ∷ ds) [] here zip = absurd zip
all_common g device (d ∷ ds) (e ∷ es) here zip =
    let begins = zip.0.begins device here in
    let ends = zip.0.ends device here in
    let first : common_length g device d e ≡ size_in g device e = omega (arith, begins, ends) in
    rw (first, all_common g device ds es here zip.1) refl

-- what was held before is held afterwards
pub all_kept : (g : List ℕ) (device : ℕ) (ds es : List Dimension) → device < cell_count g → AreInside g es ds →
    common_cells g device ds es ≡ part_cells g device ds
all_kept g device [] [] here zip = refl
all_kept g device [] (e ∷ es) here zip = absurd zip
all_kept g device (d ∷ ds) [] here zip = absurd zip
all_kept g device (d ∷ ds) (e ∷ es) here zip =
    let begins = zip.0.begins device here in
    let ends = zip.0.ends device here in
    let first : common_length g device d e ≡ size_in g device d = omega (arith, begins, ends) in
    rw (first, all_kept g device ds es here zip.1) refl

none_received : (g : List ℕ) (ds es : List Dimension) (device : ℕ) → device < cell_count g → AreInside g ds es → received g ds es device ≡ 0
none_received g ds es device here zip =
    let all = all_common g device ds es here zip in
    let is = difference g ds es device (length_all_zip (IsInside g) ds es zip) in
    omega (arith, all, is)

none_summed : (f : ℕ → ℕ) (a n : ℕ) → ((i : ℕ) → i < a + n → f i ≡ 0) → sum (map f (range_with_len a n)) ≡ 0
none_summed f a zero h = refl
none_summed f a (suc n) h =
    let first : f a ≡ 0 = h a (omega arith) in
    let rest = none_summed f (a + 1) n (λ i below. h i (omega arith)) in
    let both = sum_by-cons (λ x. x) (f a) (map f (range_with_len (a + 1) n)) in
    omega (arith, first, rest, both)

pub costs_one : (g : List ℕ) (ds es : List Dimension) → AreInside g ds es → cost_between g ds es ≡ 1
unfolding cost_between
costs_one g ds es zip =
    let none = none_summed (received g ds es) 0 (cell_count g) (λ device below. none_received g ds es device (omega arith) zip) in
    omega (arith, none)

pub inside_itself : (g : List ℕ) (d : Dimension) → IsInside g d d
inside_itself g d = record { begins = λ device here. omega arith; ends = λ device here. omega arith }

pub are_inside_themselves : (g : List ℕ) (ds : List Dimension) → AreInside g ds ds
are_inside_themselves g [] = tt
are_inside_themselves g (d ∷ ds) = (inside_itself g d, are_inside_themselves g ds)

-- another dimension in place of one
pub set_inside : (g : List ℕ) (ds : List Dimension) (i : ℕ) (x : Dimension) → IsInside g (at ds i) x → AreInside g ds (set ds i x)
set_inside g [] i x h = tt
set_inside g (d ∷ ds) zero x h = (h, are_inside_themselves g ds)
set_inside g (d ∷ ds) (suc i) x h = (inside_itself g d, set_inside g ds i x h)

pub inside_set : (g : List ℕ) (ds : List Dimension) (i : ℕ) (x : Dimension) → IsInside g x (at ds i) → AreInside g (set ds i x) ds
inside_set g [] i x h = tt
inside_set g (d ∷ ds) zero x h = (h, are_inside_themselves g ds)
inside_set g (d ∷ ds) (suc i) x h = (inside_itself g d, inside_set g ds i x h)

are_inside : (g : List ℕ) (done rest : List Dimension) (d e : Dimension) → IsInside g d e → AreInside g (done ++ d ∷ rest) (done ++ e ∷ rest)
are_inside g [] rest d e h = (h, are_inside_themselves g rest)
are_inside g (x ∷ done) rest d e h = (inside_itself g x, are_inside g done rest d e h)

-- a step that changes one dimension
pub one_inside : (g : List ℕ) (done rest : List Dimension) (d e : Dimension) → IsInside g d e → cost_between g (done ++ d ∷ rest) (done ++ e ∷ rest) ≡ 1
one_inside g done rest d e h = costs_one g (done ++ d ∷ rest) (done ++ e ∷ rest) (are_inside g done rest d e h)

-- ---- a whole dimension holds each part

pub whole_part : (g : List ℕ) (n device : ℕ) → (start_in g device (unsplit n) ≡ 0) × (size_in g device (unsplit n) ≡ n)
unfolding start_in size_in part_of parts_of offset_at offset_of part_size size_of_part place_in group_size_of on_axes
whole_part g n device = (omega arith, omega arith)

pub inside_whole : (g : List ℕ) (t : Dimension) → ((device : ℕ) → device < cell_count g → IsPlaced g device t) → IsInside g (unsplit t.extent) t
inside_whole g t placed = record {
  begins = λ device here. let whole = whole_part g t.extent device in omega (arith, whole.0);
  ends = λ device here.
      let whole = whole_part g t.extent device in
      let fits = (placed device here).fits in
      omega (arith, whole.0, whole.1, fits);
}
