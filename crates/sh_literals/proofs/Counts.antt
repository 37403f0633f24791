-- A product that is cut at one more than a count is that count where the product is.
use Rattle.std.proofs.Common.{◌≡◌, ℕ, zero, suc, ◌+◌, ◌*◌, ◌≤◌, ◌<◌, min, false, nat_eq, Bool, List, [], ◌∷◌, Some, None, Option, length, get_or, drop, add-one, refl, inl, inr, ap, sym, arith}
use Rattle.std.proofs.lemmas.Bool.{cases_lt}
use Rattle.std.proofs.Math.Seq.{drop-cons}
use Rattle.std.proofs.lemmas.Grind.{common_steps}
use Rattle.std.specs.Option.{option_map_or}
use Rattle.sh_ir.specs.Literals.{known_count}
use Rattle.sh_ir.specs.declared.types.Dim.{Dim}
use Rattle.sh_ir.specs.declared.types.Dim.TheVariants.{Known, Differs}

within : (count n p c : ℕ) → n * p ≤ count + 1 → p * (n * c) ≡ min (n * p) (count + 1) * c
within count n p c h = let m : min (n * p) (count + 1) ≡ n * p = omega arith in rw m (grind arith)

-- past the count there is nothing of it but at 0
past : (count n p c : ℕ) → count + 1 < n * p → nat_eq count (p * (n * c)) ≡ nat_eq count (min (n * p) (count + 1) * c)
past count n p zero h = grind (arith, common_steps)
past count n p (suc c) h =
    let m : min (n * p) (count + 1) ≡ count + 1 = omega arith in
    let left : p * (n * suc c) ≡ n * p + n * p * c = grind arith in
    let right : (count + 1) * suc c ≡ count + 1 + (count + 1) * c = grind arith in
    rw (m, left, right) (grind (arith, common_steps))

pub cut_product : (count n p c : ℕ) → nat_eq count (p * (n * c)) ≡ nat_eq count (min (n * p) (count + 1) * c)
cut_product count n p c =
    elim (cases_lt (count + 1) (n * p)) [ inl h ↦ past count n p c h | inr h ↦ ap (nat_eq count) (within count n p c h) ]

counted : (count p n : ℕ) (rest : Option ℕ)
    → option_map_or (λ c. nat_eq count (p * c)) (option_map_or (λ c. Some (n * c)) rest None) false
    ≡ option_map_or (λ c. nat_eq count (min (n * p) (count + 1) * c)) rest false
counted count p n None = refl
counted count p n (Some c) = cut_product count n p c

-- whether the product of this number and these extents is the count
unfoldable pub is_product : ℕ → ℕ → List Dim → Bool
is_product count p dims = option_map_or (λ c. nat_eq count (p * c)) (known_count dims) false

-- one extent more
pub one_extent : (count p n : ℕ) (dims : List Dim)
    → is_product count (min (n * p) (count + 1)) dims ≡ is_product count p (Known n ∷ dims)
unfolding is_product
one_extent count p n dims = sym (counted count p n (known_count dims))

pub differs : (count p : ℕ) (dims : List Dim) → is_product count p (Differs ∷ dims) ≡ false
unfolding is_product
differs count p dims = refl

pub all_extents : (count p : ℕ) → is_product count p [] ≡ nat_eq p count
unfolding is_product
all_extents count p = let e : p * 1 ≡ p = omega arith in rw e (grind (arith, common_steps))

of_one : (count : ℕ) (rest : Option ℕ)
    → option_map_or (λ c. nat_eq count (1 * c)) rest false ≡ option_map_or (nat_eq count) rest false
of_one count None = refl
of_one count (Some c) = ap (nat_eq count) (omega arith)

-- no extent yet
pub no_extent : (count : ℕ) (dims : List Dim)
    → is_product count 1 dims ≡ option_map_or (nat_eq count) (known_count dims) false
unfolding is_product
no_extent count dims = of_one count (known_count dims)

-- the extent that comes next
pub here : (dims : List Dim) (i : ℕ) (dim : Dim) → i < length dims → get_or dims i (Known 0) ≡ dim
    → drop i dims ≡ dim ∷ drop (i + 1) dims
here dims i dim h e = rw (add-one, ← e) (drop-cons dims i (Known 0) h)
