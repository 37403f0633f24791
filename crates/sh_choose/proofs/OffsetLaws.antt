-- The offsets of a dimension, read one by one.
use Rattle.std.proofs.Common.{◌≡◌, ◌≢◌, ℕ, zero, suc, ◌+◌, ◌≤◌, ◌<◌, ℤ, pos, List, [], ◌∷◌, ◌++◌, map, Bool, true, false, refl, ap, ap₂, sym, ◌∙◌, subst, arith}
use Rattle.std.specs.Prelude.{◌%◌, ◌==◌, ◌&&◌, not}
use Rattle.std.specs.List.{list_all, range_with_len}
use Rattle.std.proofs.lemmas.Bool.Decides.{nat_tests}
use Rattle.std.proofs.lemmas.List.FromFn.{map-range_with_len_more}
use Rattle.std.proofs.lemmas.List.{map-append}
use Rattle.sh_sharding.specs.declared.shardings.Dimension.{Dimension}
use Rattle.sh_sharding.specs.Order.{offsets_along}
use Rattle.sh_sharding.specs.Sharding.{offset_at, offset_of, offsets_of, parts_of}
use Rattle.sh_iface.specs.declared.options.How.{How}
use Rattle.sh_iface.specs.declared.options.How.TheVariants.{Scale}
use Rattle.sh_choose.specs.Proposals.{is_exact, start_under}

-- ---- multiples of a factor

multiple_test : (factor n : ℕ) → n % factor ≡ 0 → (n % factor == 0) ≡ true
multiple_test factor n h = grind (arith, nat_tests)

other_test : (factor n : ℕ) → n % factor ≢ 0 → (n % factor == 0) ≡ false
other_test factor n h = grind (arith, nat_tests)

other_factor : (n : ℕ) → (suc n == 0) ≡ false
other_factor n = grind (arith, nat_tests)

some_factor : (factor : ℕ) → factor ≢ 0 → not (factor == 0) ≡ true
some_factor zero h = absurd (h refl)
some_factor (suc n) h = ap not (other_factor n)

and_false : (a : Bool) → (a && false) ≡ false
and_false true = refl
and_false false = refl

all_multiples : (factor : ℕ) (f : ℕ → ℕ) (a n : ℕ) → ((k : ℕ) → k < n → f (a + k) % factor ≡ 0) → list_all (λ x. x % factor == 0) (map f (range_with_len a n)) ≡ true
all_multiples factor f a zero h = refl
all_multiples factor f a (suc n) h =
    ap₂ ◌&&◌ (multiple_test factor (f a) (subst (λ i. f i % factor ≡ 0) (let e : a + 0 ≡ a = omega arith in e) (h 0 (omega arith))))
    (all_multiples factor f (a + 1) n (λ k l. subst (λ i. f i % factor ≡ 0) (let e : a + suc k ≡ (a + 1) + k = omega arith in e) (h (suc k) (omega arith))))

one_other : (factor : ℕ) (f : ℕ → ℕ) (a n k : ℕ) → k < n → f (a + k) % factor ≢ 0 → list_all (λ x. x % factor == 0) (map f (range_with_len a n)) ≡ false
one_other factor f a zero k l h = absurd (omega arith)
one_other factor f a (suc n) zero l h =
    ap (λ b. b && list_all (λ x. x % factor == 0) (map f (range_with_len (a + 1) n)))
    (other_test factor (f a) (subst (λ i. f i % factor ≢ 0) (let e : a + 0 ≡ a = omega arith in e) h))
one_other factor f a (suc n) (suc k) l h =
    ap (λ b. (f a % factor == 0) && b)
    (one_other factor f (a + 1) n k (omega arith) (subst (λ i. f i % factor ≢ 0) (let e : a + suc k ≡ (a + 1) + k = omega arith in e) h))
    ∙ and_false (f a % factor == 0)

pub is_multiple-not : (g : List ℕ) (d : Dimension) (factor k : ℕ) → k ≤ parts_of g d → offset_at g d k % factor ≢ 0 → false ≡ is_exact (Scale factor) (offsets_along g d)
unfolding offset_at offsets_of
is_multiple-not g d factor k l h =
    sym (ap (λ b. not (factor == 0) && b) (one_other factor (offset_of d.extent (parts_of g d) d.mark) 0 (parts_of g d + 1) k (omega arith) (subst (λ i. offset_at g d i % factor ≢ 0) (let e : k ≡ 0 + k = omega arith in e) h)) ∙ and_false (not (factor == 0)))

pub is_multiple-all : (g : List ℕ) (d : Dimension) (factor n : ℕ) → factor ≢ 0 → n ≡ parts_of g d + 1 → ((k : ℕ) → k < n → offset_at g d k % factor ≡ 0) → true ≡ is_exact (Scale factor) (offsets_along g d)
unfolding offset_at offsets_of
is_multiple-all g d factor n some e h =
    sym (ap₂ ◌&&◌ (some_factor factor some) (all_multiples factor (offset_of d.extent (parts_of g d) d.mark) 0 (parts_of g d + 1) (λ k l. subst (λ i. offset_at g d i % factor ≡ 0) (let e : k ≡ 0 + k = omega arith in e) (h k (omega (arith, e, l))))))

-- ---- starts

pub starts_more : (g : List ℕ) (d : Dimension) (extent : ℕ) (how : How) (k start offset : ℕ) (out : List ℤ) → out ≡ map (λ n. pos (start_under extent how n)) (map (offset_at g d) (range_with_len 0 k)) → start ≡ start_under extent how offset → offset ≡ offset_at g d k
    → out ++ pos start ∷ [] ≡ map (λ n. pos (start_under extent how n)) (map (offset_at g d) (range_with_len 0 (k + 1)))
starts_more g d extent how k start offset out e s o =
    let h = λ (n : ℕ). pos (start_under extent how n) in
    ap₂ (λ xs x. xs ++ x ∷ []) e (ap pos (s ∙ ap (start_under extent how) o))
    ∙ sym (map-append h (map (offset_at g d) (range_with_len 0 k)) (offset_at g d k ∷ []))
    ∙ sym (ap (map h) (map-range_with_len_more (offset_at g d) 0 k k (omega arith)))

pub starts_end : (g : List ℕ) (d : Dimension) (extent : ℕ) (how : How) (k : ℕ) (out : List ℤ) → out ≡ map (λ n. pos (start_under extent how n)) (map (offset_at g d) (range_with_len 0 k)) → k ≡ parts_of g d + 1
    → out ≡ map (λ n. pos (start_under extent how n)) (offsets_along g d)
unfolding offset_at offsets_of
starts_end g d extent how k out e n =
    e ∙ ap (λ j. map (λ n. pos (start_under extent how n)) (map (offset_at g d) (range_with_len 0 j))) n
