-- What is known of each part of a row, and what follows of the part that the row makes.
use Rattle.std.proofs.Common.{◌≡◌, ℕ, zero, suc, List, [], ◌∷◌, Some, subst}
use Rattle.std.proofs.lemmas.Option.{same_Some}
use Rattle.std.specs.Prelude.{slice_get}
use Rattle.sh_build.specs.declared.parts.Part.{Part}
use Rattle.sh_grammar.specs.declared.symbols.Symbol.{Symbol}

-- each part of the row is as its symbol says
abbrev pub Fits : (Symbol → Part → Type 0) → List Symbol → List Part → Type 0
Fits Is [] [] = Unit {0}
Fits Is [] (p ∷ ps) = ⊥
Fits Is (s ∷ α) [] = ⊥
Fits Is (s ∷ α) (p ∷ ps) = Is s p × Fits Is α ps

-- so it is with each row of parts that are as these symbols say, part by part
abbrev pub ForRow : (Symbol → Part → Type 0) → List Symbol → (List Part → Type 0) → Type 0
ForRow Is [] P = P []
ForRow Is (s ∷ α) P = (p : Part) → Is s p → ForRow Is α (λ ps. P (p ∷ ps))

pub by_row : (Is : Symbol → Part → Type 0) (α : List Symbol) (P : List Part → Type 0) (ps : List Part)
    → ForRow Is α P → Fits Is α ps → P ps
by_row Is [] P [] row fits = row
by_row Is [] P (p ∷ ps) row fits = absurd fits
by_row Is (s ∷ α) P [] row fits = absurd fits
by_row Is (s ∷ α) P (p ∷ ps) row fits = by_row Is α (λ qs. P (p ∷ qs)) ps (row p fits.0) fits.1

-- so it is with each of these rows
abbrev pub ForRows : (Symbol → Part → Type 0) → (ℕ → List Part → Type 0) → List (List Symbol)
    → Type 0
ForRows Is P [] = Unit {0}
ForRows Is P (row ∷ rows) = ForRow Is row (P 0) × ForRows Is (λ i. P (suc i)) rows

pub row_at : (Is : Symbol → Part → Type 0) (P : ℕ → List Part → Type 0) (rows : List (List Symbol)) (i : ℕ)
    (body : List Symbol) → ForRows Is P rows → slice_get rows i ≡ Some body → ForRow Is body (P i)
row_at Is P [] i body all at = cc
row_at Is P (row ∷ rows) zero body all at = subst (λ α. ForRow Is α (P 0)) (same_Some row body at) all.0
row_at Is P (row ∷ rows) (suc i) body all at = row_at Is (λ j. P (suc j)) rows i body all.1 at

-- where it is so with all parts
row_of_all : (Is : Symbol → Part → Type 0) (P : List Part → Type 0) (α : List Symbol) → ((ps : List Part) → P ps)
    → ForRow Is α P
row_of_all Is P [] all = all []
row_of_all Is P (s ∷ α) all = λ p is. row_of_all Is (λ ps. P (p ∷ ps)) α (λ ps. all (p ∷ ps))

pub rows_of_all : (Is : Symbol → Part → Type 0) (P : ℕ → List Part → Type 0) (rows : List (List Symbol))
    → ((i : ℕ) (ps : List Part) → P i ps) → ForRows Is P rows
rows_of_all Is P [] all = tt
rows_of_all Is P (row ∷ rows) all =
    (row_of_all Is (P 0) row (all 0), rows_of_all Is (λ i. P (suc i)) rows (λ i. all (suc i)))
