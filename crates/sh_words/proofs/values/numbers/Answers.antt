use Rattle.std.proofs.Common.{refl, [], ◌∷◌, ◌≡◌, ◌∙◌, ◌<◌, ◌≤◌, ℕ, ℤ, Bool, cond, true, false, ap, sym, List, Option, Some, None, is_some, map, take, length, get_or, Bor}
use Rattle.std.specs.List.{list_all}
use Rattle.std.proofs.lemmas.List.Folds.{list_all-map, list_all_at}
use Rattle.std.proofs.lemmas.List.{take_all}
use Rattle.sh_words.specs.Values.{decimal_of, is_decimal, numbers_of, parts_of, signed_value}
use Rattle.sh_words.proofs.Decimals.{some_decimal}
use Rattle.sh_words.proofs.values.numbers.Goals as goal

abbrev numbers_if : Bool → List (List ℕ) → Option (List ℤ)
numbers_if b ps = cond b (Some (map signed_value ps)) None

one_fails : (text : List ℕ) (xs : List (Bor (List ℕ))) (i : ℕ) (d : Bor (List ℕ)) → map (λ s. s.now) xs ≡ parts_of text → i < length xs → None ≡ decimal_of (get_or xs i d).now → None ≡ numbers_of text
one_fails text xs i d are lt none =
    let bad : is_decimal (get_or xs i d).now ≡ false = sym (some_decimal (get_or xs i d).now) ∙ sym (ap is_some none) in
    let fails : list_all is_decimal (parts_of text) ≡ false =
    ap (list_all is_decimal) (sym are) ∙ list_all-map is_decimal (λ (s : Bor (List ℕ)). s.now) xs ∙ list_all_at (λ (s : Bor (List ℕ)). is_decimal s.now) xs i d lt bad in
    ap (λ b. numbers_if b (parts_of text)) (sym fails)

map_map : (xs : List (Bor (List ℕ))) → map signed_value (map (λ s. s.now) xs) ≡ map (λ s. signed_value s.now) xs
map_map [] = refl
map_map (x ∷ xs) = ap (λ ns. signed_value x.now ∷ ns) (map_map xs)

all_pass : (text : List ℕ) (xs : List (Bor (List ℕ))) (i : ℕ) (ns : List ℤ) → map (λ s. s.now) xs ≡ parts_of text → length xs ≤ i
    → list_all (λ (s : Bor (List ℕ)). is_decimal s.now) (take i xs) ≡ true → ns ≡ map (λ (s : Bor (List ℕ)). signed_value s.now) (take i xs) → Some ns ≡ numbers_of text
all_pass text xs i ns are past all is =
    let whole : take i xs ≡ xs = take_all i xs past in
    let passes : list_all is_decimal (parts_of text) ≡ true =
    ap (list_all is_decimal) (sym are) ∙ list_all-map is_decimal (λ (s : Bor (List ℕ)). s.now) xs ∙ ap (list_all (λ (s : Bor (List ℕ)). is_decimal s.now)) (sym whole) ∙ all in
    ap Some (is ∙ ap (map (λ (s : Bor (List ℕ)). signed_value s.now)) whole ∙ sym (map_map xs) ∙ ap (map signed_value) are)
    ∙ ap (λ b. numbers_if b (parts_of text)) (sym passes)

pub returns-in-None : goal.returns-in-None
returns-in-None c =
    let are = ap (map (λ (s : Bor (List ℕ)). s.now)) c.deref-piece-items.ensures.value ∙ c.in_ok-pieces.ensures in
    one_fails c.args.text.now c.deref-piece-items.result.now c.loop-piece.piece-index _ are c.loop-piece-test.true c.in-None.ensures

pub returns : goal.returns
returns c =
    let are = ap (map (λ (s : Bor (List ℕ)). s.now)) c.deref-piece-items.ensures.value ∙ c.in_ok-pieces.ensures in
    all_pass c.args.text.now c.deref-piece-items.result.now c.loop-piece.piece-index c.loop-piece.all are c.loop-piece-test.false c.loop-piece.invariant.0 c.loop-piece.invariant.1
