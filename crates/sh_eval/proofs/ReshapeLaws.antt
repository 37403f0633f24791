-- Products of extents, and groups whose extents follow from one.
use Rattle.std.proofs.Common.{◌≡◌, ℕ, zero, suc, ◌+◌, ◌*◌, ◌<◌, ◌≤◌, List, [], ◌∷◌, ◌++◌, length, get_or, drop, Option, Some, None, refl, ap, sym, ◌∙◌, arith, add-one}
use Rattle.std.specs.Prelude.{ℤ, option_map, option_and_then}
use Rattle.sh_base.specs.Shape.{cell_count}
use Rattle.sh_ir.specs.Numbers.{as_natural, as_naturals}
use Rattle.sh_ir.specs.declared.types.Dim.{Dim}
use Rattle.sh_ir.specs.declared.types.Dim.TheVariants.{Known, Differs}
use Rattle.std.proofs.lemmas.List.{get_or_default}
use Rattle.sh_eval.specs.Cuts.{cut_extent, cut_shape}
use Rattle.sh_eval.proofs.CutLaws.{factor_at}
use Rattle.sh_sem.specs.Reshapes.{dims_at, expanded_group, expanded_groups, expanded_shape, extents_at, known_product, with_open}

first_same : (a b : ℕ) → a ∷ [] ≡ b ∷ [] → a ≡ b
first_same a b e = ap (λ (xs : List ℕ). get_or xs 0 0) e

known_from : (dims : List Dim) (i total e new : ℕ) (d : Dim) → i < length dims → d ≡ get_or dims i d → cut_shape (with_open 1 (d ∷ [])) ≡ e ∷ [] → new ≡ cut_extent (total * e)
    → cut_extent (new * known_product (drop (suc i) dims)) ≡ cut_extent (total * known_product (drop i dims))
known_from [] i total e new d l at is next = absurd (omega (arith, l))
known_from (Known m ∷ dims) zero total e new d l at is next =
    factor_at 340282366920938463463374607431768211455 total e m new (known_product dims)
    (sym (first_same (cut_extent m) e (ap (λ (x : Dim). cut_shape (with_open 1 (x ∷ []))) (sym at) ∙ is))) next
known_from (Differs ∷ dims) zero total e new d l at is next =
    factor_at 340282366920938463463374607431768211455 total e 1 new (known_product dims)
    (sym (first_same (cut_extent 1) e (ap (λ (x : Dim). cut_shape (with_open 1 (x ∷ []))) (sym at) ∙ is))) next
known_from (x ∷ dims) (suc i) total e new d l at is next = known_from dims i total e new d (omega (arith, l)) at is next

pub known_step : (dims : List Dim) (i total e new : ℕ) (d : Dim) → i < length dims → cut_shape (with_open 1 (get_or dims i d ∷ [])) ≡ e ∷ [] → new ≡ cut_extent (total * e)
    → cut_extent (new * known_product (drop (i + 1) dims)) ≡ cut_extent (total * known_product (drop i dims))
known_step dims i total e new d l is next =
    ap (λ n. cut_extent (new * known_product (drop n dims))) (add-one i) ∙ known_from dims i total e new (get_or dims i d) l (get_or_default dims i d (get_or dims i d) l) is next

pub known_end : (dims : List Dim) (i total : ℕ) → length dims ≤ i → total ≤ 340282366920938463463374607431768211455 → cut_extent (total * known_product (drop i dims)) ≡ total
known_end [] zero total l small = omega (arith, small)
known_end [] (suc i) total l small = omega (arith, small)
known_end (d ∷ dims) zero total l small = absurd (omega (arith, l))
known_end (d ∷ dims) (suc i) total l small = known_end dims i total (omega (arith, l)) small

group_from : (shape : List ℕ) (group : List ℤ) (i total e new : ℕ) (z : ℤ) → i < length group → z ≡ get_or group i z → e ≡ get_or shape (as_natural z) 0 → e ≤ 340282366920938463463374607431768211455
    → new ≡ cut_extent (total * e)
    → cut_extent (new * cell_count (extents_at shape (as_naturals (drop (suc i) group)))) ≡ cut_extent (total * cell_count (extents_at shape (as_naturals (drop i group))))
group_from shape [] i total e new z l at is small next = absurd (omega (arith, l))
group_from shape (y ∷ group) zero total e new z l at is small next =
    let same : get_or shape (as_natural y) 0 ≡ e = ap (λ x. get_or shape (as_natural x) 0) (sym at) ∙ sym is in
    factor_at 340282366920938463463374607431768211455 total e (get_or shape (as_natural y) 0) new (cell_count (extents_at shape (as_naturals group)))
    (omega (arith, small, same)) next
group_from shape (y ∷ group) (suc i) total e new z l at is small next = group_from shape group i total e new z (omega (arith, l)) at is small next

pub group_step : (shape : List ℕ) (group : List ℤ) (i total e new : ℕ) (z : ℤ) → i < length group → e ≡ get_or shape (as_natural (get_or group i z)) 0 → e ≤ 340282366920938463463374607431768211455
    → new ≡ cut_extent (total * e)
    → cut_extent (new * cell_count (extents_at shape (as_naturals (drop (i + 1) group)))) ≡ cut_extent (total * cell_count (extents_at shape (as_naturals (drop i group))))
group_step shape group i total e new z l is small next =
    ap (λ n. cut_extent (new * cell_count (extents_at shape (as_naturals (drop n group))))) (add-one i)
    ∙ group_from shape group i total e new (get_or group i z) l (get_or_default group i z (get_or group i z) l) is small next

pub group_end : (shape : List ℕ) (group : List ℤ) (i total : ℕ) → length group ≤ i → total ≤ 340282366920938463463374607431768211455
    → cut_extent (total * cell_count (extents_at shape (as_naturals (drop i group)))) ≡ total
group_end shape [] zero total l small = omega (arith, small)
group_end shape [] (suc i) total l small = omega (arith, small)
group_end shape (z ∷ group) zero total l small = absurd (omega (arith, l))
group_end shape (z ∷ group) (suc i) total l small = group_end shape group i total (omega (arith, l)) small

-- as many groups as dimensions
none_first : (o p : Option (List ℕ)) → p ≡ None → option_and_then (λ first. option_map (λ others. first ++ others) p) o ≡ None
none_first None p e = refl
none_first (Some first) p e = ap (option_map (λ others. first ++ others)) e

groups_none : (dims : List Dim) (groups : List (List ℤ)) (shape : List ℕ) → (length groups ≡ length shape → ⊥) → expanded_groups dims groups shape ≡ None
groups_none dims [] [] h = absurd (h refl)
groups_none dims [] (n ∷ shape) h = refl
groups_none dims (g ∷ groups) [] h = refl
groups_none dims (g ∷ groups) (n ∷ shape) h =
    none_first (expanded_group n (dims_at dims (as_naturals g))) (expanded_groups dims groups shape) (groups_none dims groups shape (λ e. h (ap suc e)))

pub groups_apart : (dims : List Dim) (groups : List (List ℤ)) (shape : List ℕ) → (length groups ≡ length shape → ⊥) → expanded_shape dims groups shape ≡ None
groups_apart dims [] [] h = absurd (h refl)
groups_apart dims [] (n ∷ shape) h = refl
groups_apart dims (group ∷ groups) shape h = groups_none dims (group ∷ groups) shape h
