-- Numbers that count up, and products of extents that are cut where they pass every extent.
use mathlib.Core.Path.{◌∙◌, ap, sym, refl}
use Rattle.std.proofs.Common.{◌≡◌, ℕ, zero, suc, ◌+◌, ◌-◌, ◌*◌, ◌<◌, ◌≤◌, List, [], ◌∷◌, ◌++◌, Bool, true, false, ◌&&◌, map, min, nat_eq, nat_lt, arith, drop, length}
use Rattle.std.specs.Prelude.{Option, Some, None, if◌then◌else◌, flat_map, ℤ, get_or}
use Rattle.std.specs.Option.{option_map_or}
use Rattle.std.specs.List.{list_any, range_with_len}
use Rattle.std.specs.Cmp.Lexicographic.{pointwise}
use Rattle.std.proofs.lemmas.Option.{none-some, same_Some}
use Rattle.sh_base.specs.Shape.{cell_count}
use Rattle.sh_ir.specs.declared.types.Dim.{Dim}
use Rattle.sh_ir.specs.declared.types.Dim.TheVariants.{Known, Differs}
use Rattle.sh_ir.specs.Agreement.{differs, dims_agree}
use Rattle.sh_ir.specs.Results.{product_dim}
use Rattle.sh_ir.specs.Shapes.{extent_of}
use Rattle.sh_verify.specs.Lists.{above_extents, counts_on, has_product}
use Rattle.std.proofs.lemmas.Bool.{and_parts, ltb-true}
use Rattle.std.proofs.lemmas.List.{drop_all}
use Rattle.sh_ir.specs.Numbers.{as_naturals}
use Rattle.sh_verify.proofs.CellLaws.{cut_times, swapped}
use Rattle.sh_verify.proofs.LeastLaws.{next_drop}

-- ---- numbers that count up

-- what further numbers decide, behind those that count on
abbrev further : List ℕ → ℕ → ℕ → Bool
further rest bound after = pointwise nat_eq rest (range_with_len after (bound - after))

one_further : (b more : Bool) (p o : Option ℕ) (f : ℕ → Bool) → (if b then p else None) ≡ o → more ≡ option_map_or f p false
    → (b && more) ≡ option_map_or f o false
one_further true more p o f is further_on = further_on ∙ ap (λ q. option_map_or f q false) is
one_further false more p o f is further_on = ap (λ q. option_map_or f q false) is

-- numbers that count on to a place leave the others to decide; others decide
pub counts : (ns rest : List ℕ) (next k bound : ℕ) (o : Option ℕ) → bound ≡ next + k → counts_on next bound ns ≡ o
    → pointwise nat_eq (ns ++ rest) (range_with_len next k) ≡ option_map_or (further rest bound) o false
counts [] rest next k bound o whole is =
    let left : k ≡ bound - next = omega arith in
    ap (λ n. pointwise nat_eq rest (range_with_len next n)) left ∙ ap (λ p. option_map_or (further rest bound) p false) is
counts (n ∷ ns) rest next zero bound o whole is =
    let past : nat_lt next bound ≡ false = grind (arith, whole) in
    let none : None ≡ o = sym (ap (λ b. if b && nat_eq n next then counts_on (next + 1) bound ns else None) past) ∙ is in
    ap (λ p. option_map_or (further rest bound) p false) none
counts (n ∷ ns) rest next (suc k) bound o whole is =
    let before : nat_lt next bound ≡ true = grind (arith, whole) in
    let after : bound ≡ next + 1 + k = omega arith in
    one_further (nat_eq n next) _ (counts_on (next + 1) bound ns) o (further rest bound)
    (sym (ap (λ b. if b && nat_eq n next then counts_on (next + 1) bound ns else None) before) ∙ is)
    (counts ns rest (next + 1) k bound _ after refl)

within_one : (b : Bool) (p : Option ℕ) (after bound : ℕ) → (if b then p else None) ≡ Some after → (b ≡ true → p ≡ Some after → after ≤ bound) → after ≤ bound
within_one true p after bound is further_on = further_on refl is
within_one false p after bound is further_on = absurd (none-some after is)

pub counts_within : (ns : List ℕ) (next bound after : ℕ) → next ≤ bound → counts_on next bound ns ≡ Some after → after ≤ bound
counts_within [] next bound after below is =
    let same : next ≡ after = same_Some next after is in
    omega arith
counts_within (n ∷ ns) next bound after below is =
    within_one (nat_lt next bound && nat_eq n next) (counts_on (next + 1) bound ns) after bound is
    (λ b here. counts_within ns (next + 1) bound after (one_below (ltb-true next bound (and_parts (nat_lt next bound) (nat_eq n next) b).0)) here)
  where
    one_below : next < bound → next + 1 ≤ bound
    one_below before = omega arith

-- a group leaves the others to decide, from where it has come to
pub group_next : (groups : List (List ℤ)) (i next bound : ℕ) (g h : List ℤ) (o : Option ℕ) (whole : Bool) → i < length groups
    → g ≡ get_or groups i g → h ≡ g → next ≤ bound → counts_on next bound (as_naturals h) ≡ o
    → pointwise nat_eq (flat_map as_naturals (drop i groups)) (range_with_len next (bound - next)) ≡ whole
    → option_map_or (further (flat_map as_naturals (drop (i + 1) groups)) bound) o false ≡ whole
group_next groups i next bound g h o whole within read same below is so_far =
    let all : bound ≡ next + (bound - next) = omega arith in
    sym (ap (λ l. pointwise nat_eq (flat_map as_naturals l) (range_with_len next (bound - next))) (next_drop groups i g within read)
    ∙ counts (as_naturals g) (flat_map as_naturals (drop (i + 1) groups)) next (bound - next) bound o all
    (ap (λ l. counts_on next bound (as_naturals l)) (sym same) ∙ is))
    ∙ so_far

none_left : (a k : ℕ) → pointwise nat_eq [] (range_with_len a k) ≡ nat_eq k 0
none_left a zero = refl
none_left a (suc k) =
    let some : nat_eq (suc k) 0 ≡ false = grind arith in
    sym some

pub groups_end : (groups : List (List ℤ)) (i next bound : ℕ) (whole : Bool) → length groups ≤ i → next ≤ bound
    → pointwise nat_eq (flat_map as_naturals (drop i groups)) (range_with_len next (bound - next)) ≡ whole
    → nat_eq next bound ≡ whole
groups_end groups i next bound whole past below so_far =
    let all : nat_eq (bound - next) 0 ≡ nat_eq next bound = grind (arith, below) in
    sym all ∙ (sym (none_left next (bound - next))
    ∙ (ap (λ l. pointwise nat_eq (flat_map as_naturals l) (range_with_len next (bound - next))) (sym (drop_all i groups past)) ∙ so_far))

-- ---- products

-- so many times the cells of these dimensions
abbrev times : ℕ → List Dim → Dim
times product ds = if list_any differs ds then Differs else Known (product * cell_count (map extent_of ds))

regroup : (count p n c : ℕ) (b : Bool)
    → dims_agree (Known count) (if b then Differs else Known (p * n * c)) ≡ dims_agree (Known count) (if b then Differs else Known (p * (n * c)))
regroup count p n c true = refl
regroup count p n c false =
    let e : p * n * c ≡ p * (n * c) = grind arith in
    ap (λ k. nat_eq count k) e

pub product_cut : (count product : ℕ) (ds : List Dim) → count < above_extents
    → has_product count (min product above_extents) ds ≡ dims_agree (Known count) (times product ds)
product_cut count product [] below = grind (arith, below)
product_cut count product (Differs ∷ ds) below = refl
product_cut count product (Known n ∷ ds) below =
    let cut : min (min product above_extents * n) above_extents ≡ min (product * n) above_extents =
    swapped _ above_extents ∙ (ap (λ k. min above_extents (k * n)) (swapped product above_extents)
    ∙ (cut_times above_extents product n ∙ swapped above_extents (product * n))) in
    ap (λ k. has_product count k ds) cut
    ∙ (product_cut count (product * n) ds below ∙ regroup count product n (cell_count (map extent_of ds)) (list_any differs ds))

once : (count c : ℕ) (b : Bool)
    → dims_agree (Known count) (if b then Differs else Known (1 * c)) ≡ dims_agree (Known count) (if b then Differs else Known c)
once count c true = refl
once count c false =
    let e : 1 * c ≡ c = omega arith in
    ap (λ k. nat_eq count k) e

pub has_cells_of : (count : ℕ) (ds : List Dim) → count < above_extents → has_product count 1 ds ≡ dims_agree (Known count) (product_dim ds)
has_cells_of count ds below = product_cut count 1 ds below ∙ once count (cell_count (map extent_of ds)) (list_any differs ds)
