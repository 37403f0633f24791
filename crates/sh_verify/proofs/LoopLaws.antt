-- Operands and the loops that they follow, one after the other.
use mathlib.Core.Path.{◌∙◌, ap, sym, refl}
use Rattle.std.proofs.Common.{◌≡◌, ℕ, zero, suc, ◌+◌, ◌-◌, ◌<◌, ◌≤◌, List, [], ◌∷◌, ◌++◌, Bool, true, false, not, ◌&&◌, length, drop, map, nat_eq, arith}
use Rattle.std.specs.Prelude.{Option, Some, None, cond, filter, flat_map, get_or, slice_get, if◌then◌else◌}
use Rattle.std.specs.List.{range_with_len}
use Rattle.std.proofs.lemmas.Bool.{cond-true, cond-false, and_right, false≢true}
use Rattle.std.proofs.lemmas.Option.{none-some, same_Some}
use Rattle.sh_ir.specs.declared.types.Dim.{Dim}
use Rattle.sh_ir.specs.declared.types.Dim.TheVariants.{Known, Differs}
use Rattle.sh_ir.specs.Agreement.{differs, dims_of}
use Rattle.sh_ir.specs.Operands.{Following, all_following, following, has_extent, is_alone, loop_dim, ranks_fit}
use Rattle.std.specs.List.{list_all}
use Rattle.std.proofs.lemmas.List.{drop_all}
use Rattle.std.proofs.lemmas.List.Folds.{list_all-append}
use Rattle.std.specs.Cmp.Lexicographic.{pointwise}
use Rattle.sh_ir.specs.declared.linalg_ops.AffineMap.{AffineMap}
use Rattle.sh_ir.specs.Maps.{last_of}
use Rattle.sh_ir.specs.Scope.{Value}
use Rattle.sh_ir.specs.Typing.{are_of_types, is_of_type}
use Rattle.sh_ir.specs.declared.types.ValueType.{ValueType}
use Rattle.sh_ir.specs.Loops.{LoopMap}
use Rattle.sh_ir.specs.Regions.{is_among}
use Rattle.sh_verify.specs.Followings.{Placed, count_unless, has_rank, paired, placed_following}
use Rattle.sh_verify.proofs.LeastLaws.{default_drop}

-- ---- reading at a place

got_range : (a n i : ℕ) → i < n → slice_get (range_with_len a n) i ≡ Some (a + i)
got_range a zero i within = absurd (omega arith)
got_range a (suc n) zero within =
    let same : a ≡ a + 0 = omega arith in
    ap (λ k. Some k) same
got_range a (suc n) (suc i) within =
    let less : i < n = omega arith in
    let same : a + 1 + i ≡ a + suc i = omega arith in
    got_range (a + 1) n i less ∙ ap (λ k. Some k) same

pub got_below : (n i : ℕ) → i < n → slice_get (range_with_len 0 n) i ≡ Some i
got_below n i within =
    let same : 0 + i ≡ i = omega arith in
    got_range 0 n i within ∙ ap (λ k. Some k) same

pub got_drop : {X : Type 0} (xs : List X) (i : ℕ) (x : X) → slice_get xs i ≡ Some x → drop i xs ≡ x ∷ drop (i + 1) xs
got_drop [] i x is = absurd (none-some x is)
got_drop (y ∷ ys) zero x is = ap (λ z. z ∷ ys) (same_Some y x is)
got_drop (y ∷ ys) (suc i) x is =
    let one : suc (i + 1) ≡ suc i + 1 = omega arith in
    got_drop ys i x is ∙ ap (λ n. x ∷ drop n (y ∷ ys)) one

pub not_got : {X : Type 0} (xs : List X) (i : ℕ) → slice_get xs i ≡ None → drop i xs ≡ []
not_got [] zero is = refl
not_got [] (suc i) is = refl
not_got (y ∷ ys) zero is = absurd (none-some y (sym is))
not_got (y ∷ ys) (suc i) is = not_got ys i is

-- ---- numbers that aren't listed

range_next : (number bound : ℕ) → number < bound
    → range_with_len number (bound - number) ≡ number ∷ range_with_len (number + 1) (bound - (number + 1))
range_next number bound within =
    let more : bound - number ≡ suc (bound - (number + 1)) = omega arith in
    ap (range_with_len number) more

got_tail : (x : ℕ) (xs : List ℕ) (i : ℕ) → (i ≡ 0 → ⊥) → slice_get (x ∷ xs) i ≡ slice_get xs (i - 1)
got_tail x xs zero some = absurd (some refl)
got_tail x xs (suc i) some =
    let same : i ≡ suc i - 1 = omega arith in
    ap (slice_get xs) same

pub skip_one : (p : ℕ → Bool) (number bound before : ℕ) (whole : Option ℕ) → number < bound → p number ≡ false
    → slice_get (filter p (range_with_len number (bound - number))) before ≡ whole
    → slice_get (filter p (range_with_len (number + 1) (bound - (number + 1)))) before ≡ whole
skip_one p number bound before whole within out so_far =
    let rest = filter p (range_with_len (number + 1) (bound - (number + 1))) in
    sym (ap (λ ns. slice_get (filter p ns) before) (range_next number bound within)
    ∙ ap (λ ns. slice_get ns before) (cond-false (p number) (number ∷ rest) rest out)) ∙ so_far

pub count_one : (p : ℕ → Bool) (number bound before : ℕ) (whole : Option ℕ) → number < bound → p number ≡ true → (before ≡ 0 → ⊥)
    → slice_get (filter p (range_with_len number (bound - number))) before ≡ whole
    → slice_get (filter p (range_with_len (number + 1) (bound - (number + 1)))) (before - 1) ≡ whole
count_one p number bound before whole within there some so_far =
    let rest = filter p (range_with_len (number + 1) (bound - (number + 1))) in
    sym (ap (λ ns. slice_get (filter p ns) before) (range_next number bound within)
    ∙ (ap (λ ns. slice_get ns before) (cond-true (p number) (number ∷ rest) rest there) ∙ got_tail number rest before some)) ∙ so_far

counted : (b : Bool) (number : ℕ) (rest : List ℕ) → length (cond (not b) (number ∷ rest) rest) ≡ count_unless b + length rest
counted true number rest = omega arith
counted false number rest = omega arith

pub count_next : (listed : List ℕ) (number bound count n whole : ℕ) → number < bound → n ≡ count_unless (is_among listed number)
    → count + length (filter (λ k. not (is_among listed k)) (range_with_len number (bound - number))) ≡ whole
    → count + n + length (filter (λ k. not (is_among listed k)) (range_with_len (number + 1) (bound - (number + 1)))) ≡ whole
count_next listed number bound count n whole within is so_far =
    let rest = filter (λ k. not (is_among listed k)) (range_with_len (number + 1) (bound - (number + 1))) in
    let step : length (filter (λ k. not (is_among listed k)) (range_with_len number (bound - number))) ≡ count_unless (is_among listed number) + length rest =
    ap (λ ns. length (filter (λ k. not (is_among listed k)) ns)) (range_next number bound within)
    ∙ counted (is_among listed number) number rest in
    omega arith

-- ---- the extent of a loop, dimension by dimension

pub follow_next : (ls : List (List ℕ)) (ds : List Dim) (at l : ℕ) (here : List ℕ) (decided : Bool) (whole : Dim)
    → slice_get ls at ≡ Some here → at < length ds → decided ≡ (is_alone here l && not (differs (get_or ds at (Known 0))))
    → loop_dim (following (drop at ls) (drop at ds)) l ≡ whole
    → (if decided then get_or ds at (Known 0) else loop_dim (following (drop (at + 1) ls) (drop (at + 1) ds)) l) ≡ whole
follow_next ls ds at l here decided whole got within is so_far =
    let d = get_or ds at (Known 0) in
    let more = loop_dim (following (drop (at + 1) ls) (drop (at + 1) ds)) l in
    ap (λ b. if b then d else more) is
    ∙ (sym (ap (λ ms. loop_dim (following ms (drop at ds)) l) (got_drop ls at here got)
    ∙ ap (λ es. loop_dim (following (here ∷ drop (at + 1) ls) es) l) (default_drop ds at (Known 0) within)) ∙ so_far)

pub follow_ends : (ls : List (List ℕ)) (ds : List Dim) (at l : ℕ) (whole : Dim) → slice_get ls at ≡ None
    → loop_dim (following (drop at ls) (drop at ds)) l ≡ whole → Differs ≡ whole
follow_ends ls ds at l whole got so_far = sym (ap (λ ms. loop_dim (following ms (drop at ds)) l) (not_got ls at got)) ∙ so_far

pub follows_none : (ls : List (List ℕ)) → following ls [] ≡ []
follows_none [] = refl
follows_none (l ∷ ls) = refl

-- ---- operand by operand

-- the extent that is known first
abbrev pub first_known : Dim → Dim → Dim
first_known d e = if differs d then e else d

one_of : (b : Bool) (d : Dim) (xs ys : List Following) (l : ℕ) (rest : Dim) → (b ≡ true → differs d ≡ false) → rest ≡ first_known (loop_dim xs l) (loop_dim ys l)
    → (if b then d else rest) ≡ first_known (if b then d else loop_dim xs l) (loop_dim ys l)
one_of true d xs ys l rest known is = ap (λ b. if b then loop_dim ys l else d) (sym (known refl))
one_of false d xs ys l rest known is = is

decided_known : (a : Bool) (d : Dim) → (a && not (differs d)) ≡ true → differs d ≡ false
decided_known true (Known n) is = refl
decided_known true Differs is = absurd (false≢true is)
decided_known false d is = absurd (false≢true is)

pub loop_dim_both : (xs ys : List Following) (l : ℕ) → loop_dim (xs ++ ys) l ≡ first_known (loop_dim xs l) (loop_dim ys l)
loop_dim_both [] ys l = refl
loop_dim_both (x ∷ xs) ys l =
    one_of (is_alone x.loops l && not (differs x.dim)) x.dim xs ys l _ (decided_known (is_alone x.loops l) x.dim) (loop_dim_both xs ys l)

-- an operand that says what the extent is decides, and another one leaves it to those to come
pub operand_next : (placed : List Placed) (at l : ℕ) (o : Placed) (here whole : Dim) (known : Bool) → slice_get placed at ≡ Some o
    → here ≡ loop_dim (following o.loops o.dims) l → known ≡ not (differs here)
    → loop_dim (flat_map placed_following (drop at placed)) l ≡ whole
    → (if known then here else loop_dim (flat_map placed_following (drop (at + 1) placed)) l) ≡ whole
operand_next placed at l o here whole known got is known_is so_far =
    let more = loop_dim (flat_map placed_following (drop (at + 1) placed)) l in
    ap (λ b. if b then here else more) known_is
    ∙ (turned (differs here) here more
    ∙ (ap (λ d. first_known d more) is
    ∙ (sym (ap (λ os. loop_dim (flat_map placed_following os) l) (got_drop placed at o got)
    ∙ loop_dim_both (following o.loops o.dims) (flat_map placed_following (drop (at + 1) placed)) l) ∙ so_far)))
  where
    turned : (b : Bool) (d e : Dim) → (if not b then d else e) ≡ (if b then e else d)
    turned true d e = refl
    turned false d e = refl

-- ---- what is asked of each dimension

pub fit_next : (all : List Following) (ls : List (List ℕ)) (ds : List Dim) (at : ℕ) (here : List ℕ) (fits whole : Bool)
    → slice_get ls at ≡ Some here → at < length ds → fits ≡ has_extent all (record { loops = here; dim = get_or ds at (Known 0) })
    → list_all (has_extent all) (following (drop at ls) (drop at ds)) ≡ whole
    → (fits && list_all (has_extent all) (following (drop (at + 1) ls) (drop (at + 1) ds))) ≡ whole
fit_next all ls ds at here fits whole got within is so_far =
    let more = list_all (has_extent all) (following (drop (at + 1) ls) (drop (at + 1) ds)) in
    ap (λ b. b && more) is
    ∙ (sym (ap (λ ms. list_all (has_extent all) (following ms (drop at ds))) (got_drop ls at here got)
    ∙ ap (λ es. list_all (has_extent all) (following (here ∷ drop (at + 1) ls) es)) (default_drop ds at (Known 0) within)) ∙ so_far)

pub fit_ends : (all : List Following) (ls : List (List ℕ)) (ds : List Dim) (at : ℕ) (whole : Bool) → slice_get ls at ≡ None
    → list_all (has_extent all) (following (drop at ls) (drop at ds)) ≡ whole → true ≡ whole
fit_ends all ls ds at whole got so_far = sym (ap (λ ms. list_all (has_extent all) (following ms (drop at ds))) (not_got ls at got)) ∙ so_far

pub operand_fits : (all : List Following) (placed : List Placed) (at : ℕ) (o : Placed) (fits whole : Bool) → slice_get placed at ≡ Some o
    → fits ≡ list_all (has_extent all) (following o.loops o.dims)
    → list_all (has_extent all) (flat_map placed_following (drop at placed)) ≡ whole
    → (fits && list_all (has_extent all) (flat_map placed_following (drop (at + 1) placed))) ≡ whole
operand_fits all placed at o fits whole got is so_far =
    let more = list_all (has_extent all) (flat_map placed_following (drop (at + 1) placed)) in
    ap (λ b. b && more) is
    ∙ (sym (ap (λ os. list_all (has_extent all) (flat_map placed_following os)) (got_drop placed at o got)
    ∙ list_all-append (has_extent all) (following o.loops o.dims) (flat_map placed_following (drop (at + 1) placed))) ∙ so_far)

-- ---- operands by their maps and types

abbrev one : LoopMap → ValueType → Placed
one m t = record { loops = m; dims = dims_of t }

pub got_paired : (ms : List LoopMap) (ts : List ValueType) (at : ℕ) (m : LoopMap) (t : ValueType) → slice_get ms at ≡ Some m → slice_get ts at ≡ Some t
    → slice_get (paired ms ts) at ≡ Some (record { loops = m; dims = dims_of t })
got_paired [] ts at m t e f = absurd (none-some m e)
got_paired (n ∷ ms) [] at m t e f = absurd (none-some t f)
got_paired (n ∷ ms) (u ∷ ts) zero m t e f =
    ap (λ x. Some (one x u)) (same_Some n m e) ∙ ap (λ y. Some (one m y)) (same_Some u t f)
got_paired (n ∷ ms) (u ∷ ts) (suc at) m t e f = got_paired ms ts at m t e f

pub no_map : (ms : List LoopMap) (ts : List ValueType) (at : ℕ) → slice_get ms at ≡ None → slice_get (paired ms ts) at ≡ None
no_map [] ts zero e = refl
no_map [] ts (suc at) e = refl
no_map (n ∷ ms) ts zero e = absurd (none-some n (sym e))
no_map (n ∷ ms) [] (suc at) e = refl
no_map (n ∷ ms) (u ∷ ts) (suc at) e = no_map ms ts at e

pub no_type : (ms : List LoopMap) (ts : List ValueType) (at : ℕ) → slice_get ts at ≡ None → slice_get (paired ms ts) at ≡ None
no_type [] ts zero e = refl
no_type [] ts (suc at) e = refl
no_type (n ∷ ms) [] zero e = refl
no_type (n ∷ ms) [] (suc at) e = refl
no_type (n ∷ ms) (u ∷ ts) zero e = absurd (none-some u (sym e))
no_type (n ∷ ms) (u ∷ ts) (suc at) e = no_type ms ts at e

pub paired_length : (ms : List LoopMap) (ts : List ValueType) → length (paired ms ts) ≤ length ms
paired_length [] ts = omega arith
paired_length (m ∷ ms) [] = omega arith
paired_length (m ∷ ms) (t ∷ ts) =
    let rest : length (paired ms ts) ≤ length ms = paired_length ms ts in
    omega arith

-- one by one they are those that the definition lists
pub all_paired : (ms : List LoopMap) (ts : List ValueType) → flat_map placed_following (paired ms ts) ≡ all_following ms ts
all_paired [] ts = refl
all_paired (m ∷ ms) [] = refl
all_paired (m ∷ ms) (t ∷ ts) = ap (λ xs. following m (dims_of t) ++ xs) (all_paired ms ts)

-- the ranks fit where there are as many types as maps and each pair fits
pub ranks_paired : (ms : List LoopMap) (ts : List ValueType)
    → (nat_eq (length ms) (length ts) && list_all has_rank (paired ms ts)) ≡ ranks_fit ms ts
ranks_paired [] [] = refl
ranks_paired [] (t ∷ ts) =
    let differ : nat_eq 0 (suc (length ts)) ≡ false = grind arith in
    ap (λ b. b && true) differ
ranks_paired (m ∷ ms) [] =
    let differ : nat_eq (suc (length ms)) 0 ≡ false = grind arith in
    ap (λ b. b && true) differ
ranks_paired (m ∷ ms) (t ∷ ts) =
    let same : nat_eq (suc (length ms)) (suc (length ts)) ≡ nat_eq (length ms) (length ts) = grind arith in
    ap (λ b. b && (nat_eq (length m) (length (dims_of t)) && list_all has_rank (paired ms ts))) same
    ∙ (turned (nat_eq (length ms) (length ts)) (nat_eq (length m) (length (dims_of t))) (list_all has_rank (paired ms ts))
    ∙ ap (λ b. nat_eq (length m) (length (dims_of t)) && b) (ranks_paired ms ts))
  where
    turned : (a b d : Bool) → (a && (b && d)) ≡ (b && (a && d))
    turned true true d = refl
    turned true false d = refl
    turned false true d = refl
    turned false false d = refl

pub rank_next : (os : List Placed) (at : ℕ) (o : Placed) (fits whole : Bool) → slice_get os at ≡ Some o → fits ≡ has_rank o
    → list_all has_rank (drop at os) ≡ whole → (fits && list_all has_rank (drop (at + 1) os)) ≡ whole
rank_next os at o fits whole got is so_far =
    ap (λ b. b && list_all has_rank (drop (at + 1) os)) is ∙ (sym (ap (λ l. list_all has_rank l) (got_drop os at o got)) ∙ so_far)

pub paired_end : (ms : List LoopMap) (ts : List ValueType) (at : ℕ) → length ms ≤ at → drop at (paired ms ts) ≡ []
paired_end ms ts at past =
    let fewer : length (paired ms ts) ≤ length ms = paired_length ms ts in
    let out : length (paired ms ts) ≤ at = omega arith in
    drop_all at (paired ms ts) out

-- ---- loops over numbers

-- a number leaves the others to decide
pub numbers_next : (p : ℕ → Bool) (at count : ℕ) (fits whole : Bool) → at < count → fits ≡ p at
    → list_all p (range_with_len at (count - at)) ≡ whole → (fits && list_all p (range_with_len (at + 1) (count - (at + 1)))) ≡ whole
numbers_next p at count fits whole within is so_far =
    ap (λ b. b && list_all p (range_with_len (at + 1) (count - (at + 1)))) is
    ∙ (sym (ap (λ ns. list_all p ns) (range_next at count within)) ∙ so_far)

-- lists of two lengths aren't the same
pub uneven : (xs ys : List ℕ) → (length xs ≡ length ys → ⊥) → pointwise nat_eq xs ys ≡ false
uneven [] [] differ = absurd (differ refl)
uneven [] (y ∷ ys) differ = refl
uneven (x ∷ xs) [] differ = refl
uneven (x ∷ xs) (y ∷ ys) differ = and_right (nat_eq x y) _ (uneven xs ys (λ same. differ (ap suc same)))

-- what the last map sends the loops to
pub last_mapped : (maps : List AffineMap) (m : AffineMap) → slice_get maps (length maps - 1) ≡ Some m
    → last_of (map (λ a. a.results) maps) ≡ m.results
last_mapped [] m is = absurd (none-some m is)
last_mapped (a ∷ []) m is = ap (λ b. b.results) (same_Some a m is)
last_mapped (a ∷ b ∷ rest) m is =
    let next : suc (suc (length rest)) - 1 ≡ suc (length rest) = omega arith in
    let last : length (b ∷ rest) - 1 ≡ length rest = omega arith in
    last_mapped (b ∷ rest) m (ap (λ n. slice_get (b ∷ rest) n) last ∙ (sym (ap (λ n. slice_get (a ∷ b ∷ rest) n) next) ∙ is))

pub last_none : (maps : List AffineMap) → slice_get maps (length maps - 1) ≡ None → [] ≡ last_of (map (λ a. a.results) maps)
last_none [] is = refl
last_none (a ∷ []) is = absurd (none-some a (sym is))
last_none (a ∷ b ∷ rest) is =
    let next : suc (suc (length rest)) - 1 ≡ suc (length rest) = omega arith in
    let last : length (b ∷ rest) - 1 ≡ length rest = omega arith in
    last_none (b ∷ rest) (ap (λ n. slice_get (b ∷ rest) n) last ∙ (sym (ap (λ n. slice_get (a ∷ b ∷ rest) n) next) ∙ is))

-- ---- operands of types, list by list

no_names : (values : List Value) (types : List ValueType) → are_of_types values types [] ≡ true
no_names values [] = refl
no_names values (t ∷ types) = refl

pub typed_both : (values : List Value) (types more : List ValueType) (names : List ℕ)
    → (are_of_types values types names && are_of_types values more (drop (length types) names)) ≡ are_of_types values (types ++ more) names
typed_both values [] more names = refl
typed_both values (t ∷ types) more [] = no_names values more
typed_both values (t ∷ types) more (name ∷ names) =
    regroup (is_of_type values t name) (are_of_types values types names) (are_of_types values more (drop (length types) names))
    ∙ ap (λ b. is_of_type values t name && b) (typed_both values types more names)
  where
    regroup : (a b d : Bool) → ((a && b) && d) ≡ (a && (b && d))
    regroup true b d = refl
    regroup false b d = refl
