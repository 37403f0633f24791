-- Folds over all points, each of which changes one place, and the fold of each place by itself.
use Rattle.std.proofs.Common.{◌≡◌, ◌≢◌, ℕ, zero, suc, ◌+◌, ◌-◌, ◌<◌, Bool, true, false, List, [], ◌∷◌, map, length, get_or, Option, Some, None, refl, ap, ap₂, sym, ◌∙◌, arith, subst, inl, inr, add-one}
use Rattle.std.specs.Prelude.{◌==◌, filter, fold, set, cond, if◌then◌else◌}
use Rattle.std.specs.List.{All, range_with_len}
use Rattle.std.proofs.lemmas.Bool.{cases_eq}
use Rattle.std.proofs.lemmas.Bool.Decides.{nat_tests}
use Rattle.std.proofs.lemmas.List.{get_or-set_same, get_or-set_other, length-set}
use Rattle.std.proofs.lemmas.List.Elements.{All-set}
use Rattle.std.proofs.lemmas.List.FromFn.{filter_of_map_range_with_len_more}
use Rattle.std.proofs.lemmas.List.Sums.{fold-append}
use Rattle.sh_base.specs.declared.numbers.Cell.{Cell}
use Rattle.sh_base.specs.declared.numbers.Cell.TheVariants.{Undef}
use Rattle.sh_loops.specs.Cells.{cells_by}
use Rattle.sh_loops.specs.Folds.{IsVisited, visited}
use Rattle.sh_loops.proofs.CellLaws.{made_by, stuck_by}

-- ---- one place

test_same : (a b : ℕ) → a ≡ b → (a == b) ≡ true
test_same a b e = grind (arith, nat_tests)

test_other : (a b : ℕ) → a ≢ b → (a == b) ≡ false
test_other a b e = grind (arith, nat_tests)

module _ (visit : ℕ → Option Cell → Option Cell) (place : ℕ → ℕ) where
  pub visited_here : (j : ℕ) (start : Option Cell) (n : ℕ) → place n ≡ j → visited visit place j start (n + 1) ≡ visit n (visited visit place j start n)
  visited_here j start n e = ap (visited visit place j start) (add-one n) ∙ rw (test_same (place n) j e) refl

  pub visited_elsewhere : (j : ℕ) (start : Option Cell) (n : ℕ) → place n ≢ j → visited visit place j start (n + 1) ≡ visited visit place j start n
  visited_elsewhere j start n e = ap (visited visit place j start) (add-one n) ∙ rw (test_other (place n) j e) refl

  -- once stuck, always stuck
  stays : (strict : (n : ℕ) → visit n None ≡ None) (j : ℕ) (start : Option Cell) (n more : ℕ) → visited visit place j start n ≡ None → visited visit place j start (more + n) ≡ None
  stays strict j start n zero h = let none : 0 + n ≡ n = omega arith in ap (visited visit place j start) none ∙ h
  stays strict j start n (suc more) h =
      let next : suc more + n ≡ more + n + 1 = omega arith in
      ap (visited visit place j start) next
      ∙ elim (cases_eq (place (more + n)) j) [
        | inl e ↦ visited_here j start (more + n) e ∙ ap (visit (more + n)) (stays strict j start n more h) ∙ strict (more + n)
        | inr e ↦ visited_elsewhere j start (more + n) e ∙ stays strict j start n more h
      ]

  -- ---- all places

  pub none_visited : (w : Cell → Type 0) (start cells : List Cell) → cells ≡ start → All w start → IsVisited visit place w start 0 cells
  none_visited w start cells e fit = record {
    counted = ap length e;
    each = λ j l. ap (λ cs. Some (get_or cs j Undef)) (sym e);
    fitting = subst (All w) (sym e) fit;
  }

  pub one_visited : (w : Cell → Type 0) (start : List Cell) (n : ℕ) (cells new : List Cell) (p : ℕ) (c : Cell) → IsVisited visit place w start n cells → p ≡ place n → p < length start
      → Some c ≡ visit n (Some (get_or cells p Undef)) → w c → new ≡ set cells p c → IsVisited visit place w start (n + 1) new
  one_visited w start n cells new p c h at l e fit is = record {
    counted = ap length is ∙ length-set cells p c ∙ h.counted;
    each = λ j below.
        elim (cases_eq p j) [
          | inl same ↦
              visited_here j (Some (get_or start j Undef)) n (sym at ∙ same)
              ∙ ap (visit n) (h.each j below ∙ ap (λ k. Some (get_or cells k Undef)) (sym same))
              ∙ sym e
              ∙ ap (λ x. Some x) (sym (ap (λ cs. get_or cs j Undef) is ∙ ap (λ k. get_or (set cells p c) k Undef) (sym same) ∙ get_or-set_same cells p c Undef (rw h.counted l)))
          | inr other ↦
              visited_elsewhere j (Some (get_or start j Undef)) n (λ q. other (at ∙ q))
              ∙ h.each j below
              ∙ ap (λ x. Some x) (sym (ap (λ cs. get_or cs j Undef) is ∙ get_or-set_other cells p j c Undef (λ q. other (sym q))))
        ];
    fitting = subst (All w) (sym is) (All-set w cells p c fit h.fitting);
  }

  pub all_visited : (w : Cell → Type 0) (start : List Cell) (n : ℕ) (cells : List Cell) → IsVisited visit place w start n cells
      → cells_by (λ j. visited visit place j (Some (get_or start j Undef)) n) (length start) ≡ Some cells
  all_visited w start n cells h = made_by (λ j. visited visit place j (Some (get_or start j Undef)) n) (length start) cells h.counted h.each

  pub one_stuck : (strict : (n : ℕ) → visit n None ≡ None) (w : Cell → Type 0) (start : List Cell) (n end : ℕ) (cells : List Cell) (p : ℕ) → IsVisited visit place w start n cells → p ≡ place n → p < length start
      → n < end → None ≡ visit n (Some (get_or cells p Undef)) → cells_by (λ j. visited visit place j (Some (get_or start j Undef)) end) (length start) ≡ None
  one_stuck strict w start n end cells p h at l before e =
      let here : visited visit place p (Some (get_or start p Undef)) (n + 1) ≡ None =
      visited_here p (Some (get_or start p Undef)) n (sym at) ∙ ap (visit n) (h.each p l) ∙ sym e in
      let all : end - (n + 1) + (n + 1) ≡ end = omega (arith, before) in
      stuck_by (λ j. visited visit place j (Some (get_or start j Undef)) end) (length start) p l
      (sym (ap (visited visit place p (Some (get_or start p Undef))) all) ∙ stays strict p (Some (get_or start p Undef)) (n + 1) (end - (n + 1)) here)

-- ---- the fold of the points that go to one place

pub visited_is_fold : {X : Type 0} (F : Option Cell → X → Option Cell) (q : X → Bool) (f : ℕ → X) (place : ℕ → ℕ) (j : ℕ) (start : Option Cell) (n : ℕ)
    → ((k : ℕ) → k < n → q (f k) ≡ (place k == j))
    → fold F start (filter q (map f (range_with_len 0 n))) ≡ visited (λ k a. F a (f k)) place j start n
visited_is_fold F q f place j start zero h = refl
visited_is_fold F q f place j start (suc n) h =
    ap (λ k. fold F start (filter q (map f (range_with_len 0 k)))) (sym (add-one n))
    ∙ ap (fold F start) (filter_of_map_range_with_len_more q f 0 n n (omega arith))
    ∙ fold-append F start (filter q (map f (range_with_len 0 n))) (cond (q (f n)) (f n ∷ []) [])
    ∙ ap₂ (λ a b. fold F a (cond b (f n ∷ []) [])) (visited_is_fold F q f place j start n (λ k l. h k (omega (arith, l)))) (h n (omega arith))
    ∙ one (place n == j) (visited (λ k a. F a (f k)) place j start n)
  where
    one : (b : Bool) (a : Option Cell) → fold F a (cond b (f n ∷ []) []) ≡ (if b then F a (f n) else a)
    one true a = refl
    one false a = refl
