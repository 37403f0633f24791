-- What the row of each form says, by the rank of the result.
use Rattle.std.proofs.Common.{◌≡◌, ℕ, zero, suc, ◌+◌, ◌-◌, ◌<◌, ◌≤◌, Bool, true, false, List, [], ◌∷◌, ◌++◌, map, length, refl, ap, ap₂, sym, ◌∙◌, arith, subst}
use Rattle.std.proofs.lemmas.Bool.Decides.{nat_tests}
use Rattle.std.proofs.lemmas.List.{append-nil}
use Rattle.std.specs.List.{AllByRecursion, range_with_len}
use Rattle.std.specs.Prelude.{◌||◌, get_or, nat_lt}
use Rattle.sh_base.specs.Shape.{max_rank}
use Rattle.sh_grid.specs.Grid.{AreAxesOf, IsNoneOf}
use Rattle.sh_ir.specs.Numbers.{as_naturals}
use Rattle.sh_nest_laws.specs.LoopSplits.{names}
use Rattle.sh_iface_linalg.specs.Structured.{FitsNumbers, Form, inputs_at, loops_at, output_at}
use Rattle.sh_iface_linalg.specs.Structured.{fill, matmul, batch_matmul, matvec, vecmat, dot, transpose, broadcast, reduce, generic}
use Rattle.sh_iface_linalg.specs.Reading.{IsNamed, reduced_extents}
use Rattle.sh_iface_linalg.proofs.NestLaws.{names_range, places_counted}
use Rattle.sh_iface_linalg.proofs.PermutedLaws.{permuted_below, unlisted_below}

abbrev pub named_in : List (List ℕ) → List ℕ → ℕ → Bool
named_in [] out l = names out l
named_in (ls ∷ maps) out l = names ls l || named_in maps out l

abbrev pub AllBelow : ℕ → List (List ℕ) → Type 0
AllBelow n maps = AllByRecursion (λ ls. AllByRecursion (λ l. l < n) ls) maps

pub record IsRow (form : Form) (r : ℕ) : Type 0 where
  pub few : loops_at form r ≤ max_rank
  pub ranks : r ≤ loops_at form r
  pub output : output_at form r ≡ range_with_len 0 r
  pub below : AllBelow (loops_at form r) (inputs_at form r r)
  pub named : (l : ℕ) → l < loops_at form r → named_in (inputs_at form r r) (range_with_len 0 r) l ≡ true
  pub first : inputs_at form (length (get_or (inputs_at form r r) 0 [])) r ≡ inputs_at form r r
  pub two : length (inputs_at form r r) ≤ 2

own_named : (maps : List (List ℕ)) (r l : ℕ) → l < r → named_in maps (range_with_len 0 r) l ≡ true
own_named [] r l lt = names_range r l ∙ (let e : nat_lt l r ≡ true = grind (arith, nat_tests) in e)
own_named (ls ∷ maps) r l lt = right (names ls l) (own_named maps r l lt)
  where
    right : (b : Bool) {c : Bool} → c ≡ true → (b || c) ≡ true
    right true e = refl
    right false e = e

matmul_row : IsRow matmul 2
matmul_row = record {
  few = omega arith;
  ranks = omega arith;
  output = refl;
  below = ((omega arith, (omega arith, tt)), ((omega arith, (omega arith, tt)), tt));
  named = go;
  first = refl;
  two = omega arith;
}
  where
    go : (l : ℕ) → l < 3 → named_in (inputs_at matmul 2 2) (range_with_len 0 2) l ≡ true
    go zero lt = refl
    go (suc zero) lt = refl
    go (suc (suc zero)) lt = refl
    go (suc (suc (suc l))) lt = absurd (omega (arith, lt))

batch_row : IsRow batch_matmul 3
batch_row = record {
  few = omega arith;
  ranks = omega arith;
  output = refl;
  below = ((omega arith, (omega arith, (omega arith, tt))), ((omega arith, (omega arith, (omega arith, tt))), tt));
  named = go;
  first = refl;
  two = omega arith;
}
  where
    go : (l : ℕ) → l < 4 → named_in (inputs_at batch_matmul 3 3) (range_with_len 0 3) l ≡ true
    go zero lt = refl
    go (suc zero) lt = refl
    go (suc (suc zero)) lt = refl
    go (suc (suc (suc zero))) lt = refl
    go (suc (suc (suc (suc l)))) lt = absurd (omega (arith, lt))

matvec_row : IsRow matvec 1
matvec_row = record {
  few = omega arith;
  ranks = omega arith;
  output = refl;
  below = ((omega arith, (omega arith, tt)), ((omega arith, tt), tt));
  named = go;
  first = refl;
  two = omega arith;
}
  where
    go : (l : ℕ) → l < 2 → named_in (inputs_at matvec 1 1) (range_with_len 0 1) l ≡ true
    go zero lt = refl
    go (suc zero) lt = refl
    go (suc (suc l)) lt = absurd (omega (arith, lt))

vecmat_row : IsRow vecmat 1
vecmat_row = record {
  few = omega arith;
  ranks = omega arith;
  output = refl;
  below = ((omega arith, tt), ((omega arith, (omega arith, tt)), tt));
  named = go;
  first = refl;
  two = omega arith;
}
  where
    go : (l : ℕ) → l < 2 → named_in (inputs_at vecmat 1 1) (range_with_len 0 1) l ≡ true
    go zero lt = refl
    go (suc zero) lt = refl
    go (suc (suc l)) lt = absurd (omega (arith, lt))

dot_row : IsRow dot 0
dot_row = record {
  few = omega arith;
  ranks = omega arith;
  output = refl;
  below = ((omega arith, tt), ((omega arith, tt), tt));
  named = go;
  first = refl;
  two = omega arith;
}
  where
    go : (l : ℕ) → l < 1 → named_in (inputs_at dot 0 0) (range_with_len 0 0) l ≡ true
    go zero lt = refl
    go (suc l) lt = absurd (omega (arith, lt))

pub row_is : (form : Form) (f r : ℕ) → IsNamed form → length (output_at form r) ≡ r → r ≤ max_rank → FitsNumbers form f r → IsRow form r
row_is fill f r named out short ok = record { few = short; ranks = omega arith; output = refl; below = (tt, tt); named = λ l lt. own_named ([] ∷ []) r l lt; first = refl; two = omega arith }
row_is matmul f r named out short ok = subst (IsRow matmul) out matmul_row
row_is batch_matmul f r named out short ok = subst (IsRow batch_matmul) out batch_row
row_is matvec f r named out short ok = subst (IsRow matvec) out matvec_row
row_is vecmat f r named out short ok = subst (IsRow vecmat) out vecmat_row
row_is dot f r named out short ok = subst (IsRow dot) out dot_row
row_is (transpose p) f r named out short ok = record {
  few = short;
  ranks = omega arith;
  output = refl;
  below = (permuted_below r p ok.0, tt);
  named = λ l lt. own_named (inputs_at (transpose p) r r) r l lt;
  first = ap (λ n. inputs_at (transpose p) n r) (places_counted r (as_naturals p));
  two = omega arith;
}
row_is (broadcast d) f r named out short ok = record {
  few = short;
  ranks = omega arith;
  output = refl;
  below = (unlisted_below r (as_naturals d), tt);
  named = λ l lt. own_named (inputs_at (broadcast d) r r) r l lt;
  first = refl;
  two = omega arith;
}
row_is (reduce n d b) f r named out short ok = absurd named
row_is (generic maps its b) f r named out short ok = absurd named

-- ---- the extents of the loops

pub extents_are : (form : Form) (F : ℕ → ℕ) (r : ℕ) → IsNamed form → length (output_at form r) ≡ r → (s h : List ℕ) → s ≡ map F (range_with_len 0 r) → h ≡ map F (get_or (inputs_at form r r) 0 [])
    → s ++ reduced_extents form (get_or h (length h - 1) 0) ≡ map F (range_with_len 0 (loops_at form r))
extents_are fill F r named out s h own first = append-nil s ∙ own
extents_are matmul F r named out s h own first = ap₂ (λ s h. s ++ get_or h (length h - 1) 0 ∷ []) (own ∙ ap (λ n. map F (range_with_len 0 n)) (sym out)) first
extents_are batch_matmul F r named out s h own first = ap₂ (λ s h. s ++ get_or h (length h - 1) 0 ∷ []) (own ∙ ap (λ n. map F (range_with_len 0 n)) (sym out)) first
extents_are matvec F r named out s h own first = ap₂ (λ s h. s ++ get_or h (length h - 1) 0 ∷ []) (own ∙ ap (λ n. map F (range_with_len 0 n)) (sym out)) first
extents_are vecmat F r named out s h own first = ap₂ (λ s h. s ++ get_or h (length h - 1) 0 ∷ []) (own ∙ ap (λ n. map F (range_with_len 0 n)) (sym out)) first
extents_are dot F r named out s h own first = ap₂ (λ s h. s ++ get_or h (length h - 1) 0 ∷ []) (own ∙ ap (λ n. map F (range_with_len 0 n)) (sym out)) first
extents_are (transpose p) F r named out s h own first = append-nil s ∙ own
extents_are (broadcast d) F r named out s h own first = append-nil s ∙ own
extents_are (reduce n d b) F r named out s h own first = absurd named
extents_are (generic maps its b) F r named out s h own first = absurd named

-- ---- the output names no loop twice

pub range_axes : (b k n : ℕ) → b + k ≤ n → AreAxesOf n (range_with_len b k)
range_axes b zero n le = tt
range_axes b (suc k) n le = (omega (arith, le), apart (b + 1) k (omega arith), range_axes (b + 1) k n (omega (arith, le)))
  where
    apart : (c k : ℕ) → b < c → IsNoneOf b (range_with_len c k)
    apart c zero lt = tt
    apart c (suc k) lt = ((λ same. absurd (omega (arith, lt, same))), apart (c + 1) k (omega (arith, lt)))
