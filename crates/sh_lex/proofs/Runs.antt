-- A run is the longest front whose bytes all pass.
use Rattle.std.proofs.Common.{◌≡◌, ℕ, zero, suc, ◌+◌, ◌<◌, ◌≤◌, Bool, true, false, cond, nat_eq, List, [], ◌∷◌, ◌++◌, length, take, drop, refl, sym, ap, ◌∙◌, subst, arith, append_assoc, length-append, length-drop, one-add}
use Rattle.std.specs.List.{prefix_len, starts_with}
use Rattle.std.proofs.Math.Seq.{take-add, drop-append_seam}
use Rattle.std.proofs.lemmas.Bool.{eq-eqb}
use Rattle.std.proofs.lemmas.Bool.Decides.{nat_tests}
use Rattle.std.proofs.lemmas.List.{take-append-drop, length-take-le}
use Rattle.sh_lex.specs.Tokens.{Each, Stops, IsRun}

pub each_in_run : (p : ℕ → Bool) (bytes : List ℕ) → Each p (take (prefix_len p bytes) bytes)
each_in_run p [] = tt
each_in_run p (b ∷ bytes) = go (p b) refl (each_in_run p bytes)
  where
    go : (v : Bool) → p b ≡ v → Each p (take (prefix_len p bytes) bytes) → Each p (take (cond v (1 + prefix_len p bytes) 0) (b ∷ bytes))
    go true e h = rw one-add (e, h)
    go false e h = tt

pub stops_after_run : (p : ℕ → Bool) (bytes : List ℕ) → Stops p (drop (prefix_len p bytes) bytes)
stops_after_run p [] = tt
stops_after_run p (b ∷ bytes) = go (p b) refl (stops_after_run p bytes)
  where
    go : (v : Bool) → p b ≡ v → Stops p (drop (prefix_len p bytes) bytes) → Stops p (drop (cond v (1 + prefix_len p bytes) 0) (b ∷ bytes))
    go true e h = rw one-add h
    go false e h = e

-- no longer front passes
pub run_is_longest : (p : ℕ → Bool) (bytes : List ℕ) (n : ℕ) → n ≤ length bytes → Each p (take n bytes) → n ≤ prefix_len p bytes
run_is_longest p [] n within each = within
run_is_longest p (b ∷ bytes) zero within each = omega arith
run_is_longest p (b ∷ bytes) (suc n) within each =
    let h : n ≤ prefix_len p bytes = run_is_longest p bytes n (omega arith) each.1 in
    rw each.0 (omega arith)

-- two fronts that pass, each with a byte behind it that doesn't, are one
pub same_run : (p : ℕ → Bool) (xs ys us vs : List ℕ) → Each p xs → Each p ys → Stops p us → Stops p vs → xs ++ us ≡ ys ++ vs → (xs ≡ ys) × (us ≡ vs)
same_run p [] [] us vs ex ey su sv e = (refl, e)
same_run p [] (y ∷ ys) [] vs ex ey su sv e = absurd (cc)
same_run p [] (y ∷ ys) (u ∷ us) vs ex ey su sv e = absurd (cc (ey.0))
same_run p (x ∷ xs) [] us [] ex ey su sv e = absurd (cc)
same_run p (x ∷ xs) [] us (v ∷ vs) ex ey su sv e = absurd (cc (ex.0))
same_run p (x ∷ xs) (y ∷ ys) us vs ex ey su sv e =
    let t : xs ++ us ≡ ys ++ vs = cc in
    let r = same_run p xs ys us vs ex.1 ey.1 su sv t in
    (cc (r.0), r.1)

pub is_run : (p : ℕ → Bool) (bytes : List ℕ) → 0 < length bytes → Each p bytes → IsRun p bytes
is_run p [] some each = absurd (omega arith)
is_run p (b ∷ bytes) some each = each

pub each_of_run : (p : ℕ → Bool) (bytes : List ℕ) → IsRun p bytes → Each p bytes
each_of_run p [] run = tt
each_of_run p (b ∷ bytes) run = run

-- ## Fronts of given bytes

pub begins_with_one : (c : ℕ) (xs : List ℕ) → starts_with nat_eq xs (c ∷ []) ≡ true → (tail : List ℕ) × (xs ≡ c ∷ tail)
begins_with_one c [] e = absurd (cc)
begins_with_one c (x ∷ xs) e =
    let same : c ≡ x = grind (arith, nat_tests) in
    (xs, cc)

pub begins_with_two : (c d : ℕ) (xs : List ℕ) → starts_with nat_eq xs (c ∷ (d ∷ [])) ≡ true → (tail : List ℕ) × (xs ≡ c ∷ (d ∷ tail))
begins_with_two c d [] e = absurd (cc)
begins_with_two c d (x ∷ []) e = absurd (grind (arith, nat_tests))
begins_with_two c d (x ∷ y ∷ xs) e =
    let same : c ≡ x = grind (arith, nat_tests) in
    let too : d ≡ y = grind (arith, nat_tests) in
    (xs, cc)

-- a byte behind a front makes the front longer
pub front_with : (c : ℕ) (xs : List ℕ) (n : ℕ) → starts_with nat_eq (drop n xs) (c ∷ []) ≡ true
    → (take (n + 1) xs ≡ take n xs ++ c ∷ []) × (n + 1 ≤ length xs)
front_with c xs n starts =
    let behind = begins_with_one c (drop n xs) starts in
    let one : take 1 (drop n xs) ≡ c ∷ [] = rw (behind.1) refl in
    let some : length (drop n xs) ≡ suc (length behind.0) = ap length behind.1 in
    (take-add n 1 xs ∙ ap (λ l. take n xs ++ l) one, omega (arith, length-drop n xs))

-- ## Runs with a byte behind them

prefix_len-closed : (p : ℕ → Bool) (c : ℕ) (run tail : List ℕ) → p c ≡ false → Each p run → prefix_len p (run ++ c ∷ tail) ≡ length run
prefix_len-closed p c [] tail out each = rw out refl
prefix_len-closed p c (x ∷ run) tail out each =
    let h = prefix_len-closed p c run tail out each.1 in
    rw (each.0, h, one-add) refl

closed_run : (p : ℕ → Bool) (c : ℕ) (run tail : List ℕ) → p c ≡ false → Each p run
    → let xs : List ℕ = run ++ c ∷ tail in
    (prefix_len p xs ≡ length run) × (starts_with nat_eq (drop (prefix_len p xs) xs) (c ∷ []) ≡ true)
closed_run p c run tail out each =
    let n = prefix_len-closed p c run tail out each in
    let same : nat_eq c c ≡ true = eq-eqb c c refl in
    (n, rw (n, drop-append_seam run (c ∷ tail), same) refl)

-- a front that is a run and a byte behind it is the longest run, and this byte
pub closed_front : (p : ℕ → Bool) (c : ℕ) (xs : List ℕ) (m : ℕ) (run : List ℕ)
    → p c ≡ false → Each p run → take m xs ≡ run ++ c ∷ [] → m ≤ length xs
    → (m ≡ prefix_len p xs + 1) × (starts_with nat_eq (drop (prefix_len p xs) xs) (c ∷ []) ≡ true)
closed_front p c xs m run out each e within =
    let whole : run ++ c ∷ drop m xs ≡ xs = sym (append_assoc run (c ∷ []) (drop m xs)) ∙ ap (λ l. l ++ drop m xs) (sym e) ∙ take-append-drop m xs in
    let known = subst (λ (l : List ℕ). (prefix_len p l ≡ length run) × (starts_with nat_eq (drop (prefix_len p l) l) (c ∷ []) ≡ true)) whole (closed_run p c run (drop m xs) out each) in
    (omega (arith, known.0, length-take-le m xs within, ap length e, length-append run (c ∷ [])), known.1)
