-- What is at a number of a table.
use Rattle.std.proofs.Common.{◌≡◌, ◌⊎◌, ℕ, zero, suc, ◌+◌, ◌-◌, ◌<◌, ◌≤◌, true, List, [], ◌∷◌, length, get_or, take, drop, refl, sym, ◌∙◌, ap, inl, inr, Some, None, arith, length-drop, length-take}
use Rattle.std.specs.Prelude.{slice_get}
use Rattle.std.proofs.lemmas.Bool.{leb-true}
use Rattle.std.proofs.Math.Seq.{take-nil}
use Rattle.sh_grammar.specs.declared.symbols.Symbol.{Symbol}
use Rattle.sh_grammar.specs.Views.{pieces, pieces_from, rise, rise_from}
use Rattle.sh_grammar.proofs.Booleans.{and_both}

pieces_from_within : {X : Type 0} (xs : List X) (a : ℕ) (cuts : List ℕ) (i : ℕ) → i < length cuts
    → slice_get (pieces_from xs a cuts) i ≡ Some (take (get_or (a ∷ cuts) (suc i) 0 - get_or (a ∷ cuts) i 0) (drop (get_or (a ∷ cuts) i 0) xs))
pieces_from_within xs a [] i h = absurd (omega arith)
pieces_from_within xs a (b ∷ cuts) zero h = refl
pieces_from_within xs a (b ∷ cuts) (suc i) h = pieces_from_within xs b cuts i (omega arith)

pub pieces_within : {X : Type 0} (xs : List X) (cuts : List ℕ) (i : ℕ) → suc i < length cuts
    → slice_get (pieces xs cuts) i ≡ Some (take (get_or cuts (suc i) 0 - get_or cuts i 0) (drop (get_or cuts i 0) xs))
pieces_within xs [] i h = absurd (omega arith)
pieces_within xs (a ∷ cuts) i h = pieces_from_within xs a cuts i (omega arith)

length-pieces_from : {X : Type 0} (xs : List X) (a : ℕ) (cuts : List ℕ) → length (pieces_from xs a cuts) ≡ length cuts
length-pieces_from xs a [] = refl
length-pieces_from xs a (b ∷ cuts) = ap suc (length-pieces_from xs b cuts)

pub length-pieces : {X : Type 0} (xs : List X) (cuts : List ℕ) → length (pieces xs cuts) ≡ length cuts - 1
length-pieces xs [] = refl
length-pieces xs (a ∷ cuts) = length-pieces_from xs a cuts ∙ omega arith

pub get_past : {X : Type 0} (xs : List X) (i : ℕ) → length xs ≤ i → slice_get xs i ≡ None
get_past [] i h = refl
get_past (x ∷ xs) zero h = absurd (omega arith)
get_past (x ∷ xs) (suc i) h = get_past xs i (omega arith)

get_take : {X : Type 0} (xs : List X) (n i : ℕ) → i < n → slice_get (take n xs) i ≡ slice_get xs i
get_take [] n i h = ap (λ xs. slice_get xs i) (take-nil n)
get_take (x ∷ xs) zero i h = absurd (omega arith)
get_take (x ∷ xs) (suc n) zero h = refl
get_take (x ∷ xs) (suc n) (suc i) h = get_take xs n i (omega arith)

get_drop : {X : Type 0} (xs : List X) (n i : ℕ) → slice_get (drop n xs) i ≡ slice_get xs (n + i)
get_drop xs zero i = let e : i ≡ 0 + i = omega arith in ap (λ k. slice_get xs k) e
get_drop [] (suc n) i = refl
get_drop (x ∷ xs) (suc n) i = let e : suc (n + i) ≡ suc n + i = omega arith in get_drop xs n i ∙ ap (λ k. slice_get (x ∷ xs) k) e

get_or_at : {X : Type 0} (xs : List (List X)) (n : ℕ) (a : List X) → slice_get xs n ≡ Some a → get_or xs n [] ≡ a
get_or_at [] n a e = cc
get_or_at (b ∷ xs) zero a e = cc
get_or_at (b ∷ xs) (suc n) a e = get_or_at xs n a e

pub get_or_past : {X : Type 0} (xs : List X) (n : ℕ) (d : X) → length xs ≤ n → get_or xs n d ≡ d
get_or_past [] n d h = refl
get_or_past (b ∷ xs) zero d h = absurd (omega arith)
get_or_past (b ∷ xs) (suc n) d h = get_or_past xs n d (omega arith)

-- the piece between two places
pub piece : {X : Type 0} (xs : List X) (cuts : List ℕ) (i j : ℕ) → j ≡ suc i → j < length cuts
    → get_or (pieces xs cuts) i [] ≡ take (get_or cuts j 0 - get_or cuts i 0) (drop (get_or cuts i 0) xs)
piece xs cuts i j is h =
    let h' : suc i < length cuts = omega arith in rw is (get_or_at (pieces xs cuts) i _ (pieces_within xs cuts i h'))

-- past the last place
pub piece_past : {X : Type 0} (xs : List X) (cuts : List ℕ) (i : ℕ) → length cuts ≤ suc i → get_or (pieces xs cuts) i [] ≡ []
piece_past xs cuts i h =
    let size : length (pieces xs cuts) ≡ length cuts - 1 = length-pieces xs cuts in get_or_past (pieces xs cuts) i [] (omega arith)

pub slice_piece : {X : Type 0} (xs : List X) (cuts : List ℕ) (i j : ℕ) → j ≡ suc i → j < length cuts
    → slice_get (pieces xs cuts) i ≡ Some (take (get_or cuts j 0 - get_or cuts i 0) (drop (get_or cuts i 0) xs))
slice_piece xs cuts i j is h = let h' : suc i < length cuts = omega arith in rw is (pieces_within xs cuts i h')

pub get_of_piece : {X : Type 0} (xss : List (List X)) (i : ℕ) (xs : List X) → slice_get xss i ≡ Some xs → get_or xss i [] ≡ xs
get_of_piece xss i xs e = get_or_at xss i xs e

-- the body at a number of a form: a place in the row of all alternatives
pub body_there : (symbols : List Symbol) (starts firsts : List ℕ) (n m i a : ℕ) (body : List Symbol)
    → m ≡ suc n → m < length firsts → a ≡ get_or firsts n 0 + i → a < get_or firsts m 0 → slice_get (pieces symbols starts) a ≡ Some body
    → slice_get (get_or (pieces (pieces symbols starts) firsts) n []) i ≡ Some body
body_there symbols starts firsts n m i a body mis h is lt at =
    rw (piece (pieces symbols starts) firsts n m mis h)
    (get_take (drop (get_or firsts n 0) (pieces symbols starts)) (get_or firsts m 0 - get_or firsts n 0) i (omega arith)
    ∙ get_drop (pieces symbols starts) (get_or firsts n 0) i
    ∙ ap (λ k. slice_get (pieces symbols starts) k) (sym is)
    ∙ at)

-- past the form's alternatives, or past all of them
pub body_gone : (symbols : List Symbol) (starts firsts : List ℕ) (n m i a : ℕ)
    → m ≡ suc n → m < length firsts → a ≡ get_or firsts n 0 + i → (get_or firsts m 0 ≤ a) ⊎ (length starts ≤ suc a)
    → slice_get (get_or (pieces (pieces symbols starts) firsts) n []) i ≡ None
body_gone symbols starts firsts n m i a mis h is past =
    let size : length (pieces symbols starts) ≡ length starts - 1 = length-pieces symbols starts in
    rw (piece (pieces symbols starts) firsts n m mis h)
    (get_past (take (get_or firsts m 0 - get_or firsts n 0) (drop (get_or firsts n 0) (pieces symbols starts))) i
    (elim past [ inl h1 ↦ omega (arith, length-take {A = List Symbol}, length-drop {A = List Symbol}) | inr h2 ↦ omega (arith, length-take {A = List Symbol}, length-drop {A = List Symbol}) ]))

-- past all forms
pub body_past_form : (symbols : List Symbol) (starts firsts : List ℕ) (n i : ℕ) → length firsts ≤ suc n
    → slice_get (get_or (pieces (pieces symbols starts) firsts) n []) i ≡ None
body_past_form symbols starts firsts n i h = rw (piece_past (pieces symbols starts) firsts n h)

rise_first : (n a : ℕ) (cuts : List ℕ) → rise_from n a cuts ≡ true → a ≤ n
rise_first n a [] e = leb-true a n e
rise_first n a (b ∷ cuts) e =
    let low : a ≤ b = leb-true a b (and_both _ _ e).0 in
    let high : b ≤ n = rise_first n b cuts (and_both _ _ e).1 in
    omega arith

rise_from_at : (n a : ℕ) (cuts : List ℕ) (i : ℕ) → rise_from n a cuts ≡ true → i < length cuts
    → (get_or (a ∷ cuts) i 0 ≤ get_or (a ∷ cuts) (suc i) 0) × (get_or (a ∷ cuts) (suc i) 0 ≤ n)
rise_from_at n a [] i e h = absurd (omega arith)
rise_from_at n a (b ∷ cuts) zero e h = (leb-true a b (and_both _ _ e).0, rise_first n b cuts (and_both _ _ e).1)
rise_from_at n a (b ∷ cuts) (suc i) e h = rise_from_at n b cuts i (and_both _ _ e).1 (omega arith)

pub rise_at : (n : ℕ) (cuts : List ℕ) (i : ℕ) → rise n cuts ≡ true → suc i < length cuts
    → (get_or cuts i 0 ≤ get_or cuts (suc i) 0) × (get_or cuts (suc i) 0 ≤ n)
rise_at n [] i e h = absurd (omega arith)
rise_at n (a ∷ cuts) i e h = rise_from_at n a cuts i e (omega arith)

pub rise_next : (n : ℕ) (cuts : List ℕ) (i j : ℕ) → rise n cuts ≡ true → j ≡ suc i → j < length cuts
    → (get_or cuts i 0 ≤ get_or cuts j 0) × (get_or cuts j 0 ≤ n)
rise_next n cuts i j e is h = let h' : suc i < length cuts = omega arith in rw is (rise_at n cuts i e h')
