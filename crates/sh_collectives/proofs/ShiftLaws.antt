-- Coordinates less an offset.
use Rattle.std.proofs.Common.{◌≡◌, ℕ, zero, suc, ◌+◌, ◌*◌, ◌-◌, ◌/◌, ◌%◌, ◌<◌, ◌≤◌, List, [], ◌∷◌, length, get_or, refl, ap, sym, ◌∙◌, arith, Some, true, ℤ, pos, negsuc}
use Rattle.std.specs.Prelude.{◌+ℤ◌, ◌-ℤ◌, unsigned_abs, set, Option, option_map, option_and_then}
use Rattle.std.specs.Int.{int_rem_euclid}
use Rattle.std.proofs.Math.Nat.{le-mul_of_pos_right, mul_comm, div-add-mod, add-mul-mod_self_left}
use Rattle.std.proofs.lemmas.Int.{ints, int_rem_euclid_is}
use Rattle.std.proofs.lemmas.Nat.{mod_below}
use Rattle.std.proofs.lemmas.List.{get_or_default}
use Rattle.sh_base.specs.Shape.{cell_count, flat_of, unflat_of}
use Rattle.sh_base.proofs.IndexLaws.{first_some, rest_some}
use Rattle.sh_collectives.specs.declared.ways.Shifting.{Shifting}
use Rattle.sh_collectives.specs.Ways.{source_by}
use Rattle.sh_sem.specs.Collected.{shifted, source_place}

-- no extent is larger than the number of cells
pub extent_le : (s : List ℕ) (a : ℕ) → a < length s → 0 < cell_count s → get_or s a 0 ≤ cell_count s
extent_le [] a l h = absurd (omega (arith, l))
extent_le (n ∷ s) zero l h = le-mul_of_pos_right n (rest_some n (cell_count s) h)
extent_le (n ∷ s) (suc a) l h =
    let rest = extent_le s a (omega (arith, l)) (rest_some n (cell_count s) h) in
    let more : cell_count s ≤ cell_count s * n = le-mul_of_pos_right (cell_count s) (first_some n (cell_count s) h) in
    let swapped : cell_count s * n ≡ n * cell_count s = mul_comm (cell_count s) n in
    omega (arith, rest, more, swapped)

-- a coordinate less an offset, round the axis, by the offset's steps in the ring
pub rotated_is : (e c steps : ℕ) (offset : ℤ) → c < e → steps < e → pos steps ≡ int_rem_euclid offset (pos e) → Some ((c + e - steps) % e) ≡ shifted e true c offset
rotated_is e c steps (pos a) l k h =
    let same : steps ≡ a % e = ap unsigned_abs h in
    let split : e * (a / e) + a % e ≡ a = div-add-mod a e in
    let wide : (a / e + 1) * e ≡ e * (a / e) + e = omega (arith, mul_comm (a / e) e) in
    let whole : (pos c -ℤ pos a) +ℤ pos ((a / e + 1) * e) ≡ pos (c + e - steps) = omega (arith, ints, same, split, wide, k) in
    ap (λ z. Some (unsigned_abs z)) (sym (int_rem_euclid_is (pos c -ℤ pos a) (pos e) e (a / e + 1) (c + e - steps) (omega (arith, l)) refl whole))
rotated_is e c steps (negsuc a) l k h =
    let same : steps ≡ e - 1 - a % e = ap unsigned_abs h in
    let split : e * (a / e) + a % e ≡ a = div-add-mod a e in
    let whole : (pos c -ℤ negsuc a) +ℤ pos (0 * e) ≡ pos (c + 1 + a % e + e * (a / e)) = omega (arith, ints, split) in
    let rest : c + e - steps ≡ c + 1 + a % e = omega (arith, same, mod_below a e (omega (arith, l))) in
    let ring : (c + 1 + a % e + e * (a / e)) % e ≡ (c + e - steps) % e = add-mul-mod_self_left (c + 1 + a % e) e (a / e) ∙ ap (λ n. n % e) (sym rest) in
    sym (ap (λ z. Some (unsigned_abs z)) (int_rem_euclid_is (pos c -ℤ negsuc a) (pos e) e 0 (c + 1 + a % e + e * (a / e)) (omega (arith, l)) refl whole) ∙ ap (λ n. Some n) ring)

-- the place from which a shift along this axis takes
pub source_is : (x : Shifting) (place along : ℕ) (o : Option ℕ) → x.along ≡ Some along → along < length x.extents
    → o ≡ shifted (get_or x.extents along 0) x.rotate (get_or (unflat_of x.extents place) along 0) x.offset
    → option_map (λ c. flat_of x.extents (set (unflat_of x.extents place) along c)) o ≡ source_by x place
source_is x place along o ea l eo =
    ap (option_map (λ c. flat_of x.extents (set (unflat_of x.extents place) along c)))
    (eo ∙ ap (λ e. shifted e x.rotate (get_or (unflat_of x.extents place) along 0) x.offset) (get_or_default x.extents along 0 1 l))
    ∙ sym (ap (option_and_then (λ a. source_place x.extents a x.rotate x.offset place)) ea)
