-- Extents against those that a type knows, and their number of cells.
use Rattle.std.proofs.Common.{◌≡◌, ◌≢◌, ℕ, suc, ◌+◌, ◌*◌, ◌<◌, ◌≤◌, ◌^◌, Bool, true, false, List, [], ◌∷◌, map, length, get_or, refl, ap, sym, ◌∙◌, arith, drop, All, max, subst}
use Rattle.std.specs.Prelude.{◌&&◌, ◌==◌}
use Rattle.std.proofs.lemmas.List.{drop_more}
use Rattle.std.proofs.lemmas.List.Elements.{All-nil, All-cons}
use Rattle.std.proofs.Math.ListN.{drop_of_length-le}
use Rattle.std.proofs.Math.Nat.{le-mul_of_pos_right, one-le-mul, mul_comm}
use Rattle.sh_base.specs.Shape.{max_cells}
use Rattle.sh_ir.specs.declared.types.Dim.{Dim}
use Rattle.sh_ir.specs.declared.types.Dim.TheVariants.{Known, Differs}
use Rattle.sh_sem.specs.Types.{have_extents}
use Rattle.sh_sem.specs.Pieces.{total_extent}
use Rattle.sh_sharding.specs.Sharding.{counted_cells}
use Rattle.sh_collectives.specs.Sizes.{is_extent}

-- ---- known extents

extents_cons : (d : Dim) (ds : List Dim) (n : ℕ) (ns : List ℕ) → have_extents (d ∷ ds) (n ∷ ns) ≡ (is_extent d n && have_extents ds ns)
extents_cons (Known m) ds n ns = refl
extents_cons Differs ds n ns = refl

pub other_rank : (ds : List Dim) (ns : List ℕ) → length ds ≢ length ns → false ≡ have_extents ds ns
other_rank [] [] h = absurd (h refl)
other_rank [] (n ∷ ns) h = refl
other_rank (d ∷ ds) [] h = refl
other_rank (Known m ∷ ds) (n ∷ ns) h = fails (m == n) (have_extents ds ns) (other_rank ds ns (λ e. h (ap suc e)))
  where
    fails : (a b : Bool) → false ≡ b → false ≡ (a && b)
    fails true b e = e
    fails false b e = refl
other_rank (Differs ∷ ds) (n ∷ ns) h = other_rank ds ns (λ e. h (ap suc e))

extents_next : (ds : List Dim) (ns : List ℕ) (i : ℕ) (d c : Dim) (n m : ℕ) → i < length ds → length ds ≡ length ns → d ≡ get_or ds i c → n ≡ get_or ns i m
    → have_extents (drop i ds) (drop i ns) ≡ (is_extent d n && have_extents (drop (i + 1) ds) (drop (i + 1) ns))
extents_next ds ns i d c n m l same ed en =
    rw (drop_more ds i c l, drop_more ns i m (omega (arith, l, same)), ed, en) (extents_cons (get_or ds i c) (drop (i + 1) ds) (get_or ns i m) (drop (i + 1) ns))

pub extents_fail : (ds : List Dim) (ns : List ℕ) (i : ℕ) (d c : Dim) (n m : ℕ) (whole : Bool) → i < length ds → length ds ≡ length ns → d ≡ get_or ds i c → n ≡ get_or ns i m
    → is_extent d n ≡ false → have_extents (drop i ds) (drop i ns) ≡ whole → false ≡ whole
extents_fail ds ns i d c n m whole l same ed en fails_here h =
    sym (extents_next ds ns i d c n m l same ed en ∙ ap (λ b. b && have_extents (drop (i + 1) ds) (drop (i + 1) ns)) fails_here) ∙ h

pub extents_pass : (ds : List Dim) (ns : List ℕ) (i : ℕ) (d c : Dim) (n m : ℕ) (whole : Bool) → i < length ds → length ds ≡ length ns → d ≡ get_or ds i c → n ≡ get_or ns i m
    → is_extent d n ≡ true → have_extents (drop i ds) (drop i ns) ≡ whole → have_extents (drop (i + 1) ds) (drop (i + 1) ns) ≡ whole
extents_pass ds ns i d c n m whole l same ed en holds h =
    sym (extents_next ds ns i d c n m l same ed en ∙ ap (λ b. b && have_extents (drop (i + 1) ds) (drop (i + 1) ns)) holds) ∙ h

pub extents_end : (ds : List Dim) (ns : List ℕ) (i : ℕ) (whole : Bool) → length ds ≤ i → length ds ≡ length ns → have_extents (drop i ds) (drop i ns) ≡ whole → true ≡ whole
extents_end ds ns i whole l same h = sym (rw (drop_of_length-le ds l, drop_of_length-le ns {i = i} (omega (arith, l, same))) refl) ∙ h

-- ---- few cells

counted_some : (s : List ℕ) → 1 ≤ counted_cells s
counted_some [] = omega arith
counted_some (n ∷ s) = one-le-mul (omega arith) (counted_some s)

-- no extent of a small shape is large
pub extents_small : (s : List ℕ) → counted_cells s ≤ max_cells → All (λ n. n < 2 ^ 64) s
extents_small [] h = All-nil (λ n. n < 2 ^ 64)
extents_small (n ∷ s) h =
    let here : max 1 n ≤ max 1 n * counted_cells s = le-mul_of_pos_right (max 1 n) (counted_some s) in
    let rest : counted_cells s ≤ max 1 n * counted_cells s = subst (λ k. counted_cells s ≤ k) (mul_comm (counted_cells s) (max 1 n)) (le-mul_of_pos_right (counted_cells s) (omega arith)) in
    All-cons (λ n. n < 2 ^ 64) n s (omega (arith, here, h)) (extents_small s (omega (arith, rest, h)))

-- ---- the extents along an axis together

pub total_next : {X : Type 0} (f : X → List ℕ) (axis : ℕ) (xs : List X) (i : ℕ) (x d : X) → i < length xs → x ≡ get_or xs i d
    → total_extent axis (map f (drop i xs)) ≡ get_or (f x) axis 0 + total_extent axis (map f (drop (i + 1) xs))
total_next f axis xs i x d l e = ap (λ ys. total_extent axis (map f ys)) (drop_more xs i d l) ∙ ap (λ y. get_or (f y) axis 0 + total_extent axis (map f (drop (i + 1) xs))) (sym e)

pub total_end : {X : Type 0} (f : X → List ℕ) (axis : ℕ) (xs : List X) (i : ℕ) → length xs ≤ i → total_extent axis (map f (drop i xs)) ≡ 0
total_end f axis xs i l = ap (λ ys. total_extent axis (map f ys)) (drop_of_length-le xs l)
