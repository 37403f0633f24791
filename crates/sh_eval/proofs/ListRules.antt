-- Walks over lists, element by element: extents, operands and the types that are written for them.
use Rattle.std.proofs.Common.{◌≡◌, ◌≢◌, ℕ, zero, suc, ◌+◌, ◌<◌, ◌≤◌, Bool, true, false, List, [], ◌∷◌, map, length, get_or, drop, set, Some, None, refl, ap, ap₂, sym, ◌∙◌, arith, add-one}
use Rattle.std.specs.Prelude.{◌&&◌, ◌==◌, nat_eq, slice_get, if◌then◌else◌}
use Rattle.std.specs.List.{list_all}
use Rattle.std.specs.Cmp.Lexicographic.{pointwise}
use Rattle.std.proofs.lemmas.Option.{none-some, same_Some}
use Rattle.sh_ir.specs.Agreement.{dims_of}
use Rattle.sh_ir.specs.declared.types.Dim.{Dim}
use Rattle.sh_ir.specs.declared.types.Dim.TheVariants.{Known, Differs}
use Rattle.sh_ir.specs.declared.types.ValueType.{ValueType}
use Rattle.sh_tensor.specs.Tensor.{TensorValue}
use Rattle.sh_eval.specs.Cuts.{cut_extent, cut_shape}
use Rattle.sh_eval.specs.Shapes.{fits_extent}
use Rattle.sh_sem.specs.Given.{have_all_extents}
use Rattle.sh_sem.specs.Pieces.{is_like, joined_shape, total_extent}
use Rattle.sh_sem.specs.Types.{have_extents}

-- ---- the extents of a type

step_extent : (dims : List Dim) (shape : List ℕ) (i : ℕ) (d : Dim) (e : ℕ) → i < length dims → i < length shape
    → have_extents (drop i dims) (drop i shape) ≡ (fits_extent (get_or dims i d) (get_or shape i e) && have_extents (drop (suc i) dims) (drop (suc i) shape))
step_extent [] shape i d e l m = absurd (omega (arith, l))
step_extent (k ∷ dims) [] i d e l m = absurd (omega (arith, m))
step_extent (Known k ∷ dims) (n ∷ shape) zero d e l m = refl
step_extent (Differs ∷ dims) (n ∷ shape) zero d e l m = refl
step_extent (k ∷ dims) (n ∷ shape) (suc i) d e l m = step_extent dims shape i d e (omega (arith, l)) (omega (arith, m))

pub next_extent : (dims : List Dim) (shape : List ℕ) (i : ℕ) (d : Dim) (e : ℕ) → i < length dims → i < length shape
    → have_extents (drop i dims) (drop i shape) ≡ (fits_extent (get_or dims i d) (get_or shape i e) && have_extents (drop (i + 1) dims) (drop (i + 1) shape))
next_extent dims shape i d e l m =
    step_extent dims shape i d e l m ∙ ap (λ n. fits_extent (get_or dims i d) (get_or shape i e) && have_extents (drop n dims) (drop n shape)) (sym (add-one i))

pub other_lengths : (dims : List Dim) (shape : List ℕ) → (length dims ≡ length shape → ⊥) → have_extents dims shape ≡ false
other_lengths [] [] h = absurd (h refl)
other_lengths [] (n ∷ shape) h = refl
other_lengths (d ∷ dims) [] h = refl
other_lengths (Known k ∷ dims) (n ∷ shape) h = last (k == n) (other_lengths dims shape (λ e. h (ap suc e)))
  where
    last : (a : Bool) {b : Bool} → b ≡ false → (a && b) ≡ false
    last true e = e
    last false e = refl
other_lengths (Differs ∷ dims) (n ∷ shape) h = other_lengths dims shape (λ e. h (ap suc e))

-- the same of extents that are cut
length-cut : (s : List ℕ) → length (cut_shape s) ≡ length s
length-cut [] = refl
length-cut (n ∷ s) = ap suc (length-cut s)

cut_at : (s : List ℕ) (i d e : ℕ) → i < length s → get_or (cut_shape s) i d ≡ cut_extent (get_or s i e)
cut_at [] i d e l = absurd (omega (arith, l))
cut_at (n ∷ s) zero d e l = refl
cut_at (n ∷ s) (suc i) d e l = cut_at s i d e (omega (arith, l))

pub next_cut : (dims : List Dim) (s extents : List ℕ) (i : ℕ) (d : Dim) (e : ℕ) (b : Bool) → i < length dims → length dims ≡ length extents → extents ≡ cut_shape s
    → ((n : ℕ) → get_or extents i e ≡ cut_extent n → b ≡ fits_extent (get_or dims i d) n)
    → have_extents (drop i dims) (drop i s) ≡ (b && have_extents (drop (i + 1) dims) (drop (i + 1) s))
next_cut dims s extents i d e b l long is fits =
    let same : length extents ≡ length s = ap length is ∙ length-cut s in
    let below : i < length s = omega (arith, l, long, same) in
    let cut : get_or extents i e ≡ cut_extent (get_or s i 0) = ap (λ x. get_or x i e) is ∙ cut_at s i e 0 below in
    next_extent dims s i d 0 l below ∙ ap (λ f. f && have_extents (drop (i + 1) dims) (drop (i + 1) s)) (sym (fits (get_or s i 0) cut))

dropped : {X : Type 0} (xs : List X) (i : ℕ) → length xs ≤ i → drop i xs ≡ []
dropped [] zero l = refl
dropped [] (suc i) l = refl
dropped (x ∷ xs) zero l = absurd (omega (arith, l))
dropped (x ∷ xs) (suc i) l = dropped xs i (omega (arith, l))

pub end_extents : (dims : List Dim) (s : List ℕ) (i : ℕ) → length dims ≤ i → length s ≤ i → have_extents (drop i dims) (drop i s) ≡ true
end_extents dims s i l m = ap₂ have_extents (dropped dims i l) (dropped s i m)

pub length_of_cut : (s extents : List ℕ) → extents ≡ cut_shape s → length s ≡ length extents
length_of_cut s extents is = sym (ap length is ∙ length-cut s)

-- ---- two lists of numbers

pub pointwise_next : (xs ys : List ℕ) (i d e : ℕ) → i < length xs → i < length ys
    → pointwise nat_eq (drop i xs) (drop i ys) ≡ (nat_eq (get_or xs i d) (get_or ys i e) && pointwise nat_eq (drop (i + 1) xs) (drop (i + 1) ys))
pointwise_next xs ys i d e l m = go xs ys i l m ∙ ap (λ n. nat_eq (get_or xs i d) (get_or ys i e) && pointwise nat_eq (drop n xs) (drop n ys)) (sym (add-one i))
  where
    go : (xs ys : List ℕ) (i : ℕ) → i < length xs → i < length ys
        → pointwise nat_eq (drop i xs) (drop i ys) ≡ (nat_eq (get_or xs i d) (get_or ys i e) && pointwise nat_eq (drop (suc i) xs) (drop (suc i) ys))
    go [] ys i l m = absurd (omega (arith, l))
    go (x ∷ xs) [] i l m = absurd (omega (arith, m))
    go (x ∷ xs) (y ∷ ys) zero l m = refl
    go (x ∷ xs) (y ∷ ys) (suc i) l m = go xs ys i (omega (arith, l)) (omega (arith, m))

pub pointwise_lengths : (xs ys : List ℕ) → length xs ≢ length ys → pointwise nat_eq xs ys ≡ false
pointwise_lengths [] [] h = absurd (h refl)
pointwise_lengths [] (y ∷ ys) h = refl
pointwise_lengths (x ∷ xs) [] h = refl
pointwise_lengths (x ∷ xs) (y ∷ ys) h = last (nat_eq x y) (pointwise_lengths xs ys (λ e. h (ap suc e)))
  where
    last : (a : Bool) {b : Bool} → b ≡ false → (a && b) ≡ false
    last true e = e
    last false e = refl

pub pointwise_end : (xs ys : List ℕ) (i : ℕ) → length xs ≤ i → length ys ≤ i → pointwise nat_eq (drop i xs) (drop i ys) ≡ true
pointwise_end xs ys i l m = ap₂ (pointwise nat_eq) (dropped xs i l) (dropped ys i m)

-- ---- operands

module _ {B : Type 0} (f : B → TensorValue) where
  shapes_at : (xs : List B) (i : ℕ) (t : B) → i < length xs → t ≡ get_or xs i t
      → drop i (map (λ t. t.shape) (map f xs)) ≡ (f t).shape ∷ drop (suc i) (map (λ t. t.shape) (map f xs))
  shapes_at [] i t l e = absurd (omega (arith, l))
  shapes_at (x ∷ xs) zero t l e = ap (λ y. (f y).shape ∷ map (λ t. t.shape) (map f xs)) (sym e)
  shapes_at (x ∷ xs) (suc i) t l e = shapes_at xs i t (omega (arith, l)) e

  pub shapes_here : (xs : List B) (i : ℕ) (t : B) → i < length xs → t ≡ get_or xs i t
      → drop i (map (λ t. t.shape) (map f xs)) ≡ (f t).shape ∷ drop (i + 1) (map (λ t. t.shape) (map f xs))
  shapes_here xs i t l e = shapes_at xs i t l e ∙ ap (λ n. (f t).shape ∷ drop n (map (λ t. t.shape) (map f xs))) (sym (add-one i))

  pub shapes_end : (xs : List B) (i : ℕ) → length xs ≤ i → drop i (map (λ t. t.shape) (map f xs)) ≡ []
  shapes_end [] zero l = refl
  shapes_end [] (suc i) l = refl
  shapes_end (x ∷ xs) zero l = absurd (omega (arith, l))
  shapes_end (x ∷ xs) (suc i) l = shapes_end xs i (omega (arith, l))

-- ---- the types that are written for them

type_at : (types : List ValueType) (i : ℕ) (t : ValueType) → Some t ≡ slice_get types i → drop i types ≡ t ∷ drop (suc i) types
type_at [] i t e = absurd (none-some t (sym e))
type_at (u ∷ types) zero t e = ap (λ v. v ∷ types) (sym (same_Some t u e))
type_at (u ∷ types) (suc i) t e = type_at types i t e

pub type_here : (types : List ValueType) (i : ℕ) (t : ValueType) → Some t ≡ slice_get types i → drop i types ≡ t ∷ drop (i + 1) types
type_here types i t e = type_at types i t e ∙ ap (λ n. t ∷ drop n types) (sym (add-one i))

pub type_end : (types : List ValueType) (i : ℕ) → None ≡ slice_get types i → drop i types ≡ []
type_end [] zero e = refl
type_end [] (suc i) e = refl
type_end (u ∷ types) zero e = absurd (none-some u e)
type_end (u ∷ types) (suc i) e = type_end types i e

pub known_here : (types more : List ValueType) (shapes others : List (List ℕ)) (t : ValueType) (s : List ℕ) → types ≡ t ∷ more → shapes ≡ s ∷ others
    → have_all_extents types shapes ≡ (have_extents (dims_of t) s && have_all_extents more others)
known_here types more shapes others t s e f = ap₂ have_all_extents e f

pub known_end : (types : List ValueType) (shapes : List (List ℕ)) → shapes ≡ [] → have_all_extents types shapes ≡ true
known_end [] shapes e = refl
known_end (t ∷ types) shapes e = ap (have_all_extents (t ∷ types)) e

-- ---- sums that are cut

pub sum_step : (total e new rest : ℕ) → new ≡ cut_extent (total + e) → cut_extent (new + rest) ≡ cut_extent (total + (e + rest))
sum_step total e new rest next = omega (arith, next)

-- ---- joined tensors

pub set_cut_extent : (s : List ℕ) (axis v : ℕ) → cut_shape (set s axis (cut_extent v)) ≡ cut_shape (set s axis v)
set_cut_extent [] axis v = refl
set_cut_extent (x ∷ s) zero v = let same : cut_extent (cut_extent v) ≡ cut_extent v = omega arith in ap (λ y. y ∷ cut_shape s) same
set_cut_extent (x ∷ s) (suc axis) v = ap (λ ys. cut_extent x ∷ ys) (set_cut_extent s axis v)

pub joined_is : {B : Type 0} (f : B → TensorValue) (xs others : List B) (t : B) (axis : ℕ) (like : Bool) → length xs ≢ 0 → t ≡ get_or xs 0 t → others ≡ drop 1 xs
    → like ≡ list_all (is_like axis (f t).shape) (map (λ t. t.shape) (map f others))
    → joined_shape axis (map (λ t. t.shape) (map f xs)) ≡ (if like then Some (set (f t).shape axis (total_extent axis (map (λ t. t.shape) (map f xs)))) else None)
joined_is f [] others t axis like some is rest e = absurd (some refl)
joined_is f (x ∷ xs) others t axis like some is rest e =
    let s = (f t).shape in
    let ss = map (λ t. t.shape) (map f xs) in
    ap (λ y. joined_shape axis ((f y).shape ∷ ss)) (sym is)
    ∙ ap (λ b. if b then Some (set s axis (total_extent axis (s ∷ ss))) else None) (ap (λ zs. list_all (is_like axis s) (map (λ t. t.shape) (map f zs))) (sym rest) ∙ sym e)
    ∙ ap (λ y. if like then Some (set s axis (total_extent axis ((f y).shape ∷ ss))) else None) is
