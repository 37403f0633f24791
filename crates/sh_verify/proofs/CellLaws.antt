-- Counts of cells: an extent counts as 1 at least, so a product that is too great stays so.
use mathlib.Core.Path.{◌∙◌, ap, sym}
use Rattle.std.proofs.Common.{◌≡◌, zero, suc, true, ◌*◌, ◌<◌, ◌≤◌, ℕ, ◌+◌, List, [], ◌∷◌, Bool, false, nat_le, map, min, arith, refl}
use Rattle.sh_base.specs.Shape.{cell_count, max_cells}
use Rattle.sh_ir.specs.declared.types.Dim.{Dim}
use Rattle.sh_ir.specs.declared.types.Dim.TheVariants.{Known, Differs}
use Rattle.sh_ir.specs.Limits.{counted_dim}

pub counts_some : (d : Dim) → 1 ≤ counted_dim d
counts_some (Known n) = omega arith
counts_some Differs = omega arith

pub times_some : (a b : ℕ) → 1 ≤ a → 1 ≤ b → 1 ≤ a * b
times_some a b p q = grind (arith, p, q)

pub cells_some : (ds : List Dim) → 1 ≤ cell_count (map counted_dim ds)
cells_some [] = omega arith
cells_some (d ∷ ds) = times_some _ _ (counts_some d) (cells_some ds)

pub stays_great : (p rest : ℕ) → max_cells < p → 1 ≤ rest → max_cells < p * rest
stays_great p rest great some = grind (arith, great, some)

-- the product with a further extent is too great
pub too_many : (count n rest whole : ℕ) → count * (n * rest) ≡ whole → max_cells < count * n → 1 ≤ rest → false ≡ nat_le whole max_cells
too_many count n rest whole e great some = grind (arith, e, stays_great (count * n) rest great some)

-- ---- products that are cut where they are too great

grows : (x r : ℕ) → x ≤ x * (r + 1)
grows x r = grind arith

cut_great : (most a r : ℕ) → most < a → min most (most * (r + 1)) ≡ min most (a * (r + 1))
cut_great most a r great = grind (arith, great, grows most r, grows a r)

cut_small : (most a r : ℕ) → nat_le a most ≡ true → min most (min most a * r) ≡ min most (a * r)
cut_small most a r small =
    let least : min most a ≡ a = grind (arith, small) in
    ap (λ n. min most (n * r)) least

cut_large : (most a r : ℕ) → nat_le a most ≡ false → min most (min most a * r) ≡ min most (a * r)
cut_large most a zero large =
    let zeros : min most a * 0 ≡ a * 0 = omega arith in
    ap (λ n. min most n) zeros
cut_large most a (suc r) large =
    let great : most < a = grind (arith, large) in
    let least : min most a ≡ most = grind (arith, great) in
    let next : suc r ≡ r + 1 = omega arith in
    ap (λ n. min most (n * suc r)) least
    ∙ (ap (λ k. min most (most * k)) next ∙ (cut_great most a r great ∙ ap (λ k. min most (a * k)) (sym next)))

cut_by : (most a r : ℕ) (b : Bool) → nat_le a most ≡ b → min most (min most a * r) ≡ min most (a * r)
cut_by most a r true e = cut_small most a r e
cut_by most a r false e = cut_large most a r e

pub cut_times : (most a r : ℕ) → min most (min most a * r) ≡ min most (a * r)
cut_times most a r = cut_by most a r (nat_le a most) refl

pub swapped : (x y : ℕ) → min x y ≡ min y x
swapped x y = grind arith

-- a product of cut numbers, cut again, stands for the product of the numbers
pub cut_more : (most count n cut rest next whole : ℕ)
    → cut ≡ min most n → min most (count * (n * rest)) ≡ whole → next ≡ min (count * cut) most
    → min most (next * rest) ≡ whole
cut_more most count n cut rest next whole is so_far next_is =
    let a : next ≡ min most (count * min most n) =
    next_is ∙ ap (λ x. min (count * x) most) is ∙ swapped (count * min most n) most in
    let b : count * min most n * rest ≡ min most n * (count * rest) = grind arith in
    let d : n * (count * rest) ≡ count * (n * rest) = grind arith in
    ap (λ x. min most (x * rest)) a
    ∙ (cut_times most (count * min most n) rest
    ∙ (ap (λ x. min most x) b
    ∙ (cut_times most n (count * rest) ∙ (ap (λ x. min most x) d ∙ so_far))))
