-- Lists of numbers below a bound, one number more.
use Rattle.std.proofs.Common.{◌≡◌, ℕ, zero, suc, ◌+◌, Bool, true, false, not, List, [], ◌∷◌, ◌++◌, map, refl, ap, ap₂, sym, ◌∙◌, arith, append-nil}
use Rattle.std.specs.Prelude.{cond, filter}
use Rattle.std.specs.List.{range_with_len}
use Rattle.std.proofs.lemmas.List.FromFn.{filter_of_map_range_with_len_more, map-range_with_len_more}
use Rattle.sh_ir.specs.Loops.{places_in, unlisted}
use Rattle.sh_ir.specs.Regions.{is_among}

map_same : (xs : List ℕ) → map (λ n. n) xs ≡ xs
map_same [] = refl
map_same (x ∷ xs) = ap (λ ys. x ∷ ys) (map_same xs)

pub below_more : (n : ℕ) → range_with_len 0 (n + 1) ≡ range_with_len 0 n ++ n ∷ []
below_more n =
    sym (map_same (range_with_len 0 (n + 1))) ∙ map-range_with_len_more (λ k. k) 0 n n (omega arith) ∙ ap (λ xs. xs ++ n ∷ []) (map_same (range_with_len 0 n))

pub unlisted_more : (listed : List ℕ) (n : ℕ) → unlisted (n + 1) listed ≡ unlisted n listed ++ cond (not (is_among listed n)) (n ∷ []) []
unlisted_more listed n =
    let p : ℕ → Bool = λ k. not (is_among listed k) in
    ap (filter p) (sym (map_same (range_with_len 0 (n + 1))))
    ∙ filter_of_map_range_with_len_more p (λ k. k) 0 n n (omega arith)
    ∙ ap (λ xs. filter p xs ++ cond (p n) (n ∷ []) []) (map_same (range_with_len 0 n))

pub one_kept : (listed found new : List ℕ) (n : ℕ) (b : Bool) → found ≡ unlisted n listed → b ≡ is_among listed n → b ≡ false → new ≡ found ++ n ∷ [] → new ≡ unlisted (n + 1) listed
one_kept listed found new n b h e out pushed =
    pushed ∙ ap₂ (λ xs c. xs ++ cond (not c) (n ∷ []) []) h (sym out ∙ e) ∙ sym (unlisted_more listed n)

pub one_left : (listed found : List ℕ) (n : ℕ) (b : Bool) → found ≡ unlisted n listed → b ≡ is_among listed n → b ≡ true → found ≡ unlisted (n + 1) listed
one_left listed found n b h e within =
    sym (append-nil found) ∙ ap₂ (λ xs c. xs ++ cond (not c) (n ∷ []) []) h (sym within ∙ e) ∙ sym (unlisted_more listed n)

pub one_placed : (place : ℕ → ℕ) (found new : List ℕ) (n p : ℕ) → found ≡ map place (range_with_len 0 n) → p ≡ place n → new ≡ found ++ p ∷ [] → new ≡ map place (range_with_len 0 (n + 1))
one_placed place found new n p h e pushed =
    pushed ∙ ap₂ (λ xs x. xs ++ x ∷ []) h e ∙ sym (map-range_with_len_more place 0 n n (omega arith))
