-- The shapes of a group: by the first, and by the others.
use Rattle.std.proofs.Common.{◌≡◌, ℕ, ◌-◌, ◌<◌, Bool, true, false, List, [], ◌∷◌, map, length, get_or, refl, ap, sym, ◌∙◌, arith, take, drop, subst, Some, None}
use Rattle.std.specs.Prelude.{◌*◌, All, Option, option_map, set, nat_eq, if◌then◌else◌}
use Rattle.std.specs.Cmp.Lexicographic.{pointwise}
use Rattle.std.specs.List.{list_all}
use Rattle.std.proofs.lemmas.List.{take_all, length-map, get_or-map}
use Rattle.std.proofs.lemmas.List.Elements.{All-take, All-drop}
use Rattle.std.proofs.lemmas.Option.{same_Some}
use Rattle.sh_sem.specs.Pieces.{Piece, piece_shape, is_like, joined_shape, common_shape, total_extent}

-- the elements behind the first, as a loop goes over them
abbrev pub others : {X : Type 0} → List X → List X
others xs = take (length xs - 1) (drop 1 xs)

pub others_of : {X : Type 0} (x : X) (xs : List X) → others (x ∷ xs) ≡ xs
others_of x xs = take_all (length (x ∷ xs) - 1) xs (omega arith)

pub All-of_map : {X Y : Type 0} (P : Y → Type 0) (f : X → Y) (xs : List X) → All P (map f xs) → All (λ x. P (f x)) xs
All-of_map P f xs h k d l = subst P (get_or-map f xs k d (f d) l) (h k (f d) (rw (length-map xs f) l))

pub All-others : {X : Type 0} (P : X → Type 0) (xs : List X) → All P xs → All P (others xs)
All-others P xs h = All-take P (length xs - 1) (drop 1 xs) (All-drop P 1 xs h)

-- the shape if the test holds
abbrev pub shape_if : Bool → List ℕ → Option (List ℕ)
shape_if b s = if b then Some s else None

pub joined_by : {X : Type 0} (axis : ℕ) (f : X → List ℕ) (xs : List X) (d : X) → 0 < length xs
    → joined_shape axis (map f xs) ≡ shape_if (list_all (is_like axis (f (get_or xs 0 d))) (map f (others xs))) (set (f (get_or xs 0 d)) axis (total_extent axis (map f xs)))
joined_by axis f [] d h = absurd (omega (arith, h))
joined_by axis f (x ∷ xs) d h =
    ap (λ ys. shape_if (list_all (is_like axis (f x)) (map f ys)) (set (f x) axis (total_extent axis (map f (x ∷ xs))))) (sym (others_of x xs))

pub common_by : {X : Type 0} (f : X → List ℕ) (xs : List X) (d : X) → 0 < length xs
    → common_shape (map f xs) ≡ shape_if (list_all (pointwise nat_eq (f (get_or xs 0 d))) (map f (others xs))) (f (get_or xs 0 d))
common_by f [] d h = absurd (omega (arith, h))
common_by f (x ∷ xs) d h = ap (λ ys. shape_if (list_all (pointwise nat_eq (f x)) (map f ys)) (f x)) (sym (others_of x xs))

-- ---- one after the other

pub not_joined : {X : Type 0} (axis : ℕ) (f : X → List ℕ) (xs : List X) (x d : X) → 0 < length xs → x ≡ get_or xs 0 d → list_all (is_like axis (f x)) (map f (others xs)) ≡ false
    → None ≡ joined_shape axis (map f xs)
not_joined axis f xs x d h e t =
    let total = total_extent axis (map f xs) in
    sym (joined_by axis f xs d h ∙ ap (λ y. shape_if (list_all (is_like axis (f y)) (map f (others xs))) (set (f y) axis total)) (sym e) ∙ ap (λ b. shape_if b (set (f x) axis total)) t)

pub are_joined : {X : Type 0} (axis : ℕ) (f : X → List ℕ) (xs : List X) (x d : X) (ns : List ℕ) (sum : ℕ) → 0 < length xs → x ≡ get_or xs 0 d → list_all (is_like axis (f x)) (map f (others xs)) ≡ true
    → ns ≡ set (f x) axis sum → sum ≡ total_extent axis (map f xs) → Some ns ≡ joined_shape axis (map f xs)
are_joined axis f xs x d ns sum h e t en es =
    let total = total_extent axis (map f xs) in
    ap (λ s. Some s) (en ∙ ap (set (f x) axis) es)
    ∙ sym (joined_by axis f xs d h ∙ ap (λ y. shape_if (list_all (is_like axis (f y)) (map f (others xs))) (set (f y) axis total)) (sym e) ∙ ap (λ b. shape_if b (set (f x) axis total)) t)

-- ---- shapes that are one

pub not_common : {X : Type 0} (f : X → List ℕ) (xs : List X) (x d : X) → 0 < length xs → x ≡ get_or xs 0 d → list_all (pointwise nat_eq (f x)) (map f (others xs)) ≡ false
    → None ≡ common_shape (map f xs)
not_common f xs x d h e t =
    sym (common_by f xs d h ∙ ap (λ y. shape_if (list_all (pointwise nat_eq (f y)) (map f (others xs))) (f y)) (sym e) ∙ ap (λ b. shape_if b (f x)) t)

pub are_common : {X : Type 0} (f : X → List ℕ) (xs : List X) (x d : X) → 0 < length xs → x ≡ get_or xs 0 d → list_all (pointwise nat_eq (f x)) (map f (others xs)) ≡ true
    → Some (f x) ≡ common_shape (map f xs)
are_common f xs x d h e t =
    sym (common_by f xs d h ∙ ap (λ y. shape_if (list_all (pointwise nat_eq (f y)) (map f (others xs))) (f y)) (sym e) ∙ ap (λ b. shape_if b (f x)) t)

pub first_of : {X : Type 0} (f : X → List ℕ) (xs : List X) (x d : X) → 0 < length xs → x ≡ get_or xs 0 d → f x ≡ get_or (map f xs) 0 []
first_of f xs x d h e = ap f e ∙ sym (get_or-map f xs 0 d [] h)

-- ---- pieces

pub no_piece : (axis : ℕ) (s : List ℕ) (o : Option Piece) → option_map (λ x. x.size) o ≡ None → None ≡ piece_shape axis s o
no_piece axis s None h = refl
no_piece axis s (Some x) h = absurd (cc)

pub is_piece : (axis : ℕ) (s ns : List ℕ) (o : Option Piece) (size : ℕ) → option_map (λ x. x.size) o ≡ Some size → ns ≡ set s axis size → Some ns ≡ piece_shape axis s o
is_piece axis s ns None size h e = absurd (cc)
is_piece axis s ns (Some x) size h e = ap (λ t. Some t) (e ∙ ap (set s axis) (sym (same_Some x.size size h)))

-- so many pieces, one after the other
pub are_pieces : (split concat n : ℕ) (s part ns : List ℕ) (o : Option Piece) (size : ℕ) → option_map (λ x. x.size) o ≡ Some size → part ≡ set s split size
    → ns ≡ set part concat (n * get_or part concat 0) → Some ns ≡ option_map (λ t. set t concat (n * get_or t concat 0)) (piece_shape split s o)
are_pieces split concat n s part ns o size h e en = ap (λ t. Some t) en ∙ ap (option_map (λ t. set t concat (n * get_or t concat 0))) (is_piece split s part o size h e)

pub no_pieces : (split concat n : ℕ) (s : List ℕ) (o : Option Piece) → option_map (λ x. x.size) o ≡ None → None ≡ option_map (λ t. set t concat (n * get_or t concat 0)) (piece_shape split s o)
no_pieces split concat n s o h = ap (option_map (λ t. set t concat (n * get_or t concat 0))) (no_piece split s o h)
