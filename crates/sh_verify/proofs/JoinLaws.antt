-- The operands of a join: dimension by dimension they agree where operand by operand they do.
use mathlib.Core.Path.{◌∙◌, ap, sym, refl}
use Rattle.std.proofs.Common.{◌≡◌, ℕ, zero, suc, ◌+◌, ◌-◌, ◌<◌, ◌≤◌, List, [], ◌∷◌, Bool, true, false, not, ◌&&◌, ◌||◌, length, drop, map, nat_eq, arith}
use Rattle.std.specs.Prelude.{cond, filter, get_or, sum, if◌then◌else◌}
use Rattle.std.specs.List.{fold, list_all, list_any, range_with_len}
use Rattle.std.proofs.lemmas.Bool.{and_parts, eqb-true, eqb-false, ne_eqb, eq-eqb}
use Rattle.std.proofs.lemmas.List.{drop_all}
use Rattle.std.proofs.lemmas.List.Elements.{filter-append}
use Rattle.std.proofs.lemmas.List.Folds.{list_all-append}
use Rattle.sh_ir.specs.declared.types.Dim.{Dim}
use Rattle.sh_ir.specs.declared.types.Dim.TheVariants.{Known, Differs}
use Rattle.sh_ir.specs.declared.types.ValueType.{ValueType}
use Rattle.sh_ir.specs.Agreement.{differs, dims_agree, dims_of, rank_of, same_rank_and_bits}
use Rattle.sh_ir.specs.Loops.{single}
use Rattle.sh_ir.specs.Operands.{Following, all_following, beside, following, has_extent, is_alone, loop_dim, sums}
use Rattle.sh_ir.specs.Loops.{identity_map}
use Rattle.sh_ir.specs.Shapes.{extent_of}
use Rattle.sh_verify.specs.Joins.{column, column_agrees, columns_agree, dim_at, has_sum}
use Rattle.sh_verify.proofs.LeastLaws.{default_drop}
use Rattle.sh_verify.proofs.LoopLaws.{first_known, loop_dim_both}

-- ---- sums of extents

sum_onto : (a : ℕ) (ns : List ℕ) → fold ◌+◌ a ns ≡ a + sum ns
sum_onto a [] = omega arith
sum_onto a (n ∷ ns) =
    let left : fold ◌+◌ (a + n) ns ≡ a + n + sum ns = sum_onto (a + n) ns in
    let right : fold ◌+◌ (0 + n) ns ≡ 0 + n + sum ns = sum_onto (0 + n) ns in
    omega arith

sum_cons : (n : ℕ) (ns : List ℕ) → n + sum ns ≡ sum (n ∷ ns)
sum_cons n ns =
    let right : fold ◌+◌ (0 + n) ns ≡ 0 + n + sum ns = sum_onto (0 + n) ns in
    omega arith

plus : (count total : ℕ) (b : Bool) (n rest : ℕ)
    → dims_agree (if b then Differs else Known (total + n + rest)) (Known count) ≡ dims_agree (if b then Differs else Known (total + (n + rest))) (Known count)
plus count total true n rest = refl
plus count total false n rest =
    let e : total + n + rest ≡ total + (n + rest) = omega arith in
    ap (λ k. nat_eq k count) e

sum_from : (count total : ℕ) (ds : List Dim)
    → has_sum count total ds ≡ dims_agree (if list_any differs ds then Differs else Known (total + sum (map extent_of ds))) (Known count)
sum_from count total [] =
    let e : total ≡ total + 0 = omega arith in
    ap (λ k. nat_eq k count) e
sum_from count total (Differs ∷ ds) = refl
sum_from count total (Known n ∷ ds) =
    sum_from count (total + n) ds
    ∙ (plus count total (list_any differs ds) n (sum (map extent_of ds))
    ∙ ap (λ k. dims_agree (if list_any differs ds then Differs else Known (total + k)) (Known count)) (sum_cons n (map extent_of ds)))

none : (count : ℕ) (b : Bool) (n : ℕ) → dims_agree (if b then Differs else Known (0 + n)) (Known count) ≡ dims_agree (if b then Differs else Known n) (Known count)
none count true n = refl
none count false n =
    let e : 0 + n ≡ n = omega arith in
    ap (λ k. nat_eq k count) e

pub sum_of : (count : ℕ) (ds : List Dim)
    → has_sum count 0 ds ≡ dims_agree (if list_any differs ds then Differs else Known (sum (map extent_of ds))) (Known count)
sum_of count ds = sum_from count 0 ds ∙ none count (list_any differs ds) (sum (map extent_of ds))

-- ---- one loop: its extent

sums_one : (e d : Dim) → sums (e ∷ []) d ≡ dims_agree e d
sums_one Differs Differs = refl
sums_one (Known m) Differs = refl
sums_one Differs (Known n) = refl
sums_one (Known m) (Known n) = same (nat_eq m n) refl
  where
    same : (b : Bool) → nat_eq m n ≡ b → nat_eq (n + 1) (0 + m + 1) ≡ nat_eq m n
    same true e =
        let is : m ≡ n = eqb-true m n e in
        let both : n + 1 ≡ 0 + m + 1 = omega arith in
        eq-eqb _ _ both ∙ sym e
    same false e =
        ne_eqb _ _ (λ (f : n + 1 ≡ 0 + m + 1).
        let is : m ≡ n = omega arith in
        eqb-false m n e is) ∙ sym e

-- ---- the dimensions of one operand

-- whether a following isn't that of the axis
abbrev is_beside : ℕ → Following → Bool
is_beside axis x = not (is_alone x.loops axis)

abbrev row : ℕ → List Dim → List Following
row k ds = following (single (range_with_len k (length ds))) ds

-- what a row says of a loop
abbrev said : ℕ → List Dim → ℕ → Dim
said k [] i = Differs
said k (d ∷ ds) i = if (nat_eq k i && true) && not (differs d) then d else said (k + 1) ds i

-- the axis has another number
said_step : (a b : Bool) (x : Following) (xs : List Following) (i : ℕ) (rest : Dim) → is_alone x.loops i ≡ b → (a ≡ true → b ≡ false)
    → loop_dim xs i ≡ rest
    → loop_dim (cond (not a) (x ∷ xs) xs) i ≡ (if b && not (differs x.dim) then x.dim else rest)
said_step true b x xs i rest alone apart is =
    is ∙ ap (λ c. if c && not (differs x.dim) then x.dim else rest) (sym (apart refl))
said_step false b x xs i rest alone apart is =
    ap (λ c. if c && not (differs x.dim) then x.dim else loop_dim xs i) alone ∙ ap (λ r. if b && not (differs x.dim) then x.dim else r) is

apart_from : (axis i k : ℕ) → (i ≡ axis → ⊥) → (nat_eq k axis && true) ≡ true → (nat_eq k i && true) ≡ false
apart_from axis i k other at =
    let here : k ≡ axis = eqb-true k axis (and_parts (nat_eq k axis) true at).0 in
    ap (λ b. b && true) (ne_eqb k i (λ (same : k ≡ i). let e : i ≡ axis = omega arith in other e))

row_says : (axis i k : ℕ) (ds : List Dim) → (i ≡ axis → ⊥) → loop_dim (filter (is_beside axis) (row k ds)) i ≡ said k ds i
row_says axis i k [] other = refl
row_says axis i k (d ∷ ds) other =
    said_step (nat_eq k axis && true) (nat_eq k i && true) (record { loops = k ∷ []; dim = d }) (filter (is_beside axis) (row (k + 1) ds)) i _ refl
    (apart_from axis i k other) (row_says axis i (k + 1) ds other)

said_past : (k i : ℕ) (ds : List Dim) → i < k → said k ds i ≡ Differs
said_past k i [] before = refl
said_past k i (d ∷ ds) before =
    let differ : nat_eq k i ≡ false = ne_eqb k i (λ (same : k ≡ i). let no : ⊥ = omega arith in no) in
    let further : i < k + 1 = omega arith in
    ap (λ b. if (b && true) && not (differs d) then d else said (k + 1) ds i) differ ∙ said_past (k + 1) i ds further

here_said : (d rest : Dim) → rest ≡ Differs → (if true && not (differs d) then d else rest) ≡ d
here_said (Known n) rest is = refl
here_said Differs rest is = is

said_here : (k i : ℕ) (d : Dim) (ds : List Dim) (b : Bool) → nat_eq k i ≡ b → k ≤ i
    → (k < i → said (k + 1) ds i ≡ get_or ds (i - (k + 1)) Differs)
    → (if (b && true) && not (differs d) then d else said (k + 1) ds i) ≡ get_or (d ∷ ds) (i - k) Differs
said_here k i d ds true is within further =
    let same : k ≡ i = eqb-true k i is in
    let next : i < k + 1 = omega arith in
    let at : 0 ≡ i - k = omega arith in
    here_said d (said (k + 1) ds i) (said_past (k + 1) i ds next) ∙ ap (λ n. get_or (d ∷ ds) n Differs) at
said_here k i d ds false is within further =
    let differ : k ≡ i → ⊥ = eqb-false k i is in
    let less : k < i = omega (arith, differ) in
    let at : suc (i - (k + 1)) ≡ i - k = omega arith in
    further less ∙ ap (λ n. get_or (d ∷ ds) n Differs) at

said_at : (k i : ℕ) (ds : List Dim) → k ≤ i → said k ds i ≡ get_or ds (i - k) Differs
said_at k i [] within = refl
said_at k i (d ∷ ds) within =
    said_here k i d ds (nat_eq k i) refl within (λ (less : k < i).
    let next : k + 1 ≤ i = omega arith in
    said_at (k + 1) i ds next)

row_at : (axis i : ℕ) (t : ValueType) → (i ≡ axis → ⊥) → loop_dim (filter (is_beside axis) (row 0 (dims_of t))) i ≡ dim_at t i
row_at axis i t other =
    let none : 0 ≤ i = omega arith in
    let at : i - 0 ≡ i = omega arith in
    row_says axis i 0 (dims_of t) other ∙ (said_at 0 i (dims_of t) none ∙ ap (λ n. get_or (dims_of t) n Differs) at)

-- ---- the extent of a dimension by all operands

pub column_of : (axis i : ℕ) (types : List ValueType) → (i ≡ axis → ⊥) → loop_dim (beside axis types) i ≡ column types i
column_of axis i [] other = refl
column_of axis i (t ∷ types) other =
    let first = row 0 (dims_of t) in
    let more = all_following (map (λ u. identity_map (rank_of u)) types) types in
    ap (λ xs. loop_dim xs i) (filter-append (is_beside axis) first more)
    ∙ (loop_dim_both (filter (is_beside axis) first) (filter (is_beside axis) more) i
    ∙ (ap (λ d. first_known d (loop_dim (beside axis types) i)) (row_at axis i t other)
    ∙ ap (λ e. first_known (dim_at t i) e) (column_of axis i types other)))

-- ---- what is asked of each extent

-- whether an extent of a dimension beside the axis is that of all
abbrev fits_at : ℕ → List Following → ℕ → Dim → Bool
fits_at axis all i d = nat_eq i axis || dims_agree (loop_dim all i) d

abbrev row_fits : (ℕ → Dim → Bool) → ℕ → List Dim → Bool
row_fits g k [] = true
row_fits g k (d ∷ ds) = g k d && row_fits g (k + 1) ds

fit_step : (a : Bool) (test : Following → Bool) (x : Following) (xs : List Following) (here rest : Bool) → test x ≡ here → list_all test xs ≡ rest
    → list_all test (cond (not (a && true)) (x ∷ xs) xs) ≡ ((a || here) && rest)
fit_step true test x xs here rest is further = further
fit_step false test x xs here rest is further = ap (λ b. b && list_all test xs) is ∙ ap (λ b. here && b) further

row_tested : (axis k : ℕ) (all : List Following) (ds : List Dim)
    → list_all (has_extent all) (filter (is_beside axis) (row k ds)) ≡ row_fits (fits_at axis all) k ds
row_tested axis k all [] = refl
row_tested axis k all (d ∷ ds) =
    fit_step (nat_eq k axis) (has_extent all) (record { loops = k ∷ []; dim = d }) (filter (is_beside axis) (row (k + 1) ds)) _ _
    (sums_one (loop_dim all k) d) (row_tested axis (k + 1) all ds)

by_number : (g : ℕ → Dim → Bool) (n k : ℕ) (ds : List Dim) → k + n ≡ length ds
    → row_fits g k (drop k ds) ≡ list_all (λ i. g i (get_or ds i Differs)) (range_with_len k n)
by_number g zero k ds whole =
    let past : length ds ≤ k = omega arith in
    ap (λ es. row_fits g k es) (drop_all k ds past)
by_number g (suc n) k ds whole =
    let within : k < length ds = omega arith in
    let rest : k + 1 + n ≡ length ds = omega arith in
    ap (λ es. row_fits g k es) (default_drop ds k Differs within)
    ∙ ap (λ b. g k (get_or ds k Differs) && b) (by_number g n (k + 1) ds rest)

row_tests : (axis r : ℕ) (all : List Following) (t : ValueType) → rank_of t ≡ r
    → list_all (has_extent all) (filter (is_beside axis) (row 0 (dims_of t))) ≡ list_all (λ i. fits_at axis all i (dim_at t i)) (range_with_len 0 r)
row_tests axis r all t rank =
    let whole : 0 + r ≡ length (dims_of t) = omega arith in
    row_tested axis 0 all (dims_of t) ∙ by_number (fits_at axis all) r 0 (dims_of t) whole

-- ---- all operands of one rank

same_rank : (first t : ValueType) → same_rank_and_bits first t ≡ true → rank_of t ≡ rank_of first
same_rank first t is = sym (eqb-true (rank_of first) (rank_of t) (and_parts _ (nat_eq (rank_of first) (rank_of t)) is).1)

rows_tested : (axis : ℕ) (first : ValueType) (all : List Following) (types : List ValueType) → list_all (same_rank_and_bits first) types ≡ true
    → list_all (has_extent all) (beside axis types)
    ≡ list_all (λ t. list_all (λ i. fits_at axis all i (dim_at t i)) (range_with_len 0 (rank_of first))) types
rows_tested axis first all [] ranks = refl
rows_tested axis first all (t ∷ types) ranks =
    let parts = and_parts (same_rank_and_bits first t) (list_all (same_rank_and_bits first) types) ranks in
    let row_of = row 0 (dims_of t) in
    let more = all_following (map (λ u. identity_map (rank_of u)) types) types in
    ap (λ xs. list_all (has_extent all) xs) (filter-append (is_beside axis) row_of more)
    ∙ (list_all-append (has_extent all) (filter (is_beside axis) row_of) (filter (is_beside axis) more)
    ∙ (ap (λ b. b && list_all (has_extent all) (beside axis types)) (row_tests axis (rank_of first) all t (same_rank first t parts.0))
    ∙ ap (λ b. list_all (λ i. fits_at axis all i (dim_at t i)) (range_with_len 0 (rank_of first)) && b) (rows_tested axis first all types parts.1)))

-- ---- operand by operand, or dimension by dimension

all_true : (ns : List ℕ) → true ≡ list_all (λ n. true) ns
all_true [] = refl
all_true (n ∷ ns) = all_true ns

split_all : (p q : ℕ → Bool) (ns : List ℕ) → (list_all p ns && list_all q ns) ≡ list_all (λ n. p n && q n) ns
split_all p q [] = refl
split_all p q (n ∷ ns) =
    regroup (p n) (list_all p ns) (q n) (list_all q ns) ∙ ap (λ b. (p n && q n) && b) (split_all p q ns)
  where
    regroup : (a b c d : Bool) → ((a && b) && (c && d)) ≡ ((a && c) && (b && d))
    regroup true true c d = refl
    regroup true false true d = refl
    regroup true false false d = refl
    regroup false b c d = refl

swap_all : (f : ValueType → ℕ → Bool) (types : List ValueType) (ns : List ℕ)
    → list_all (λ t. list_all (λ i. f t i) ns) types ≡ list_all (λ i. list_all (λ t. f t i) types) ns
swap_all f [] ns = all_true ns
swap_all f (t ∷ types) ns =
    ap (λ b. list_all (λ i. f t i) ns && b) (swap_all f types ns) ∙ split_all (λ i. f t i) (λ i. list_all (λ u. f u i) types) ns

or_all : (b : Bool) (p : ValueType → Bool) (types : List ValueType) → list_all (λ t. b || p t) types ≡ (b || list_all p types)
or_all true p [] = refl
or_all true p (t ∷ types) = or_all true p types
or_all false p types = refl

column_fits : (axis i : ℕ) (whole types : List ValueType) (b : Bool) → nat_eq i axis ≡ b
    → list_all (λ t. fits_at axis (beside axis whole) i (dim_at t i)) types
    ≡ (nat_eq i axis || list_all (λ t. dims_agree (column whole i) (dim_at t i)) types)
column_fits axis i whole types true at =
    or_all (nat_eq i axis) (λ t. dims_agree (loop_dim (beside axis whole) i) (dim_at t i)) types
    ∙ (ap (λ b. b || list_all (λ t. dims_agree (loop_dim (beside axis whole) i) (dim_at t i)) types) at
    ∙ sym (ap (λ b. b || list_all (λ t. dims_agree (column whole i) (dim_at t i)) types) at))
column_fits axis i whole types false off =
    or_all (nat_eq i axis) (λ t. dims_agree (loop_dim (beside axis whole) i) (dim_at t i)) types
    ∙ ap (λ d. nat_eq i axis || list_all (λ t. dims_agree d (dim_at t i)) types) (column_of axis i whole (eqb-false i axis off))

columns_fit : (axis : ℕ) (types : List ValueType) (ns : List ℕ)
    → list_all (λ i. list_all (λ t. fits_at axis (beside axis types) i (dim_at t i)) types) ns ≡ columns_agree axis types ns
columns_fit axis types [] = refl
columns_fit axis types (i ∷ ns) =
    ap (λ b. b && list_all (λ k. list_all (λ t. fits_at axis (beside axis types) k (dim_at t k)) types) ns) (column_fits axis i types types (nat_eq i axis) refl)
    ∙ ap (λ b. (nat_eq i axis || column_agrees types i) && b) (columns_fit axis types ns)

pub extents_by_columns : (axis : ℕ) (first : ValueType) (types : List ValueType) → list_all (same_rank_and_bits first) types ≡ true
    → list_all (has_extent (beside axis types)) (beside axis types) ≡ columns_agree axis types (range_with_len 0 (rank_of first))
extents_by_columns axis first types ranks =
    rows_tested axis first (beside axis types) types ranks
    ∙ (swap_all (λ t i. fits_at axis (beside axis types) i (dim_at t i)) types (range_with_len 0 (rank_of first))
    ∙ columns_fit axis types (range_with_len 0 (rank_of first)))
