-- The cells of a literal, one by one between the brackets that open before and close behind each, are
-- nested lists.
use Rattle.std.proofs.Common.{◌≡◌, ◌∙◌, ◌<◌, ◌+◌, ◌*◌, ℕ, zero, suc, false, nat_eq, List, [], ◌∷◌, ◌++◌, take, drop, length, reverse, refl, ap, sym, arith, append_assoc, replicate, if◌then◌else◌}
use Rattle.std.specs.List.{AllByRecursion}
use Rattle.std.proofs.lemmas.List.{append-nil, take-append-drop}
use Rattle.std.proofs.lemmas.Grind.{reverse_onto}
use Rattle.std.proofs.Math.Dec.{eqb-suc-zero}
use Rattle.std.proofs.lemmas.Nat.{div-mul-add, mod-mul-add}
use Rattle.sh_base.specs.declared.numbers.Cell.{Cell}
use Rattle.sh_base.specs.declared.numbers.Width.{Width}
use Rattle.sh_print.specs.Layout.{Piece}
use Rattle.sh_print.specs.Spellings.{begun, cell_between, cell_pieces, cells_from, comma_before, list_of, rest_of_list, sign}

abbrev pub size_of : List ℕ → ℕ
size_of [] = 1
size_of (n ∷ ns) = n * size_of ns

-- so many rows of this size
abbrev pub rows : ℕ → ℕ → List Cell → List (List Cell)
rows zero size cells = []
rows (suc k) size cells = take size cells ∷ rows k size (drop size cells)

-- nested lists of these extents, the outermost first
abbrev pub nested : Width → List ℕ → List Cell → List Piece
nested w [] [] = []
nested w [] (c ∷ cells) = cell_pieces w c
nested w (n ∷ ns) cells = sign "[" ∷ list_of (nested w ns) (rows n (size_of ns) cells) ++ sign "]" ∷ []

-- the extents from the innermost on: these, within those
abbrev pub within : List ℕ → List ℕ → List ℕ
within [] out = out
within (n ∷ ns) out = within ns (n ∷ out)

pub within_reversed : (ns out : List ℕ) → within ns out ≡ reverse ns ++ out
within_reversed [] out = refl
within_reversed (n ∷ ns) out =
    within_reversed ns (n ∷ out) ∙ sym (append_assoc (reverse ns) (n ∷ []) out) ∙ ap (λ xs. xs ++ out) (sym (reverse_onto ns n []))

-- ## How many lists begin at a cell

not_zero : (n : ℕ) → 0 < n → nat_eq n 0 ≡ false
not_zero zero h = absurd (omega arith)
not_zero (suc n) h = eqb-suc-zero n

begun_by : (n q r : ℕ) (out : List ℕ) → r < n → begun (n ∷ out) (q * n + r) ≡ (if nat_eq r 0 then suc (begun out q) else 0)
begun_by n q r out h =
    let some : nat_eq n 0 ≡ false = not_zero n (let e : 0 < n = omega arith in e) in
    rw some (rw (mod-mul-add q n r h, div-mul-add q n r h) refl)

-- at the first cell of the first row
begun_first : (n q : ℕ) (out : List ℕ) → 0 < n → begun (n ∷ out) (q * n) ≡ suc (begun out q)
begun_first n q out h = ap (begun (n ∷ out)) (let e : q * n ≡ q * n + 0 = omega arith in e) ∙ begun_by n q 0 out h

-- at the first cell of another row
begun_later : (n q r : ℕ) (out : List ℕ) → suc r < n → begun (n ∷ out) (q * n + suc r) ≡ 0
begun_later n q r out h = begun_by n q (suc r) out h ∙ rw (eqb-suc-zero r) refl

-- ## Cells side by side

cells_append : (ext : List ℕ) (w : Width) (at : ℕ) (xs ys : List Cell)
    → cells_from ext w at (xs ++ ys) ≡ cells_from ext w at xs ++ cells_from ext w (at + length xs) ys
cells_append ext w at [] ys = ap (λ k. cells_from ext w k ys) (let e : at ≡ at + 0 = omega arith in e)
cells_append ext w at (x ∷ xs) ys =
    ap (λ ps. cell_between ext w at x ++ ps) (cells_append ext w (suc at) xs ys)
    ∙ sym (append_assoc (cell_between ext w at x) (cells_from ext w (suc at) xs) (cells_from ext w (suc at + length xs) ys))
    ∙ ap (λ k. (cell_between ext w at x ++ cells_from ext w (suc at) xs) ++ cells_from ext w k ys)
    (let e : suc at + length xs ≡ at + suc (length xs) = omega arith in e)

-- ## Lists in lists

abbrev opens : ℕ → List Piece
opens k = replicate k (sign "[")

abbrev closes : ℕ → List Piece
closes k = replicate k (sign "]")

open_last : (k : ℕ) (ps : List Piece) → opens (suc k) ++ ps ≡ opens k ++ sign "[" ∷ ps
open_last zero ps = refl
open_last (suc k) ps = ap (λ qs. sign "[" ∷ qs) (open_last k ps)

-- the cells of one list of these extents are that list, wherever it stands in others
abbrev pub IsFlat : Width → List ℕ → Type 0
IsFlat w ns = (out : List ℕ) (m at : ℕ) (cells : List Cell) → at ≡ m * size_of ns → length cells ≡ size_of ns
    → cells_from (within ns out) w at cells ≡ comma_before at ++ (opens (begun out m) ++ (nested w ns cells ++ closes (begun out (suc m))))

one_cell : (w : Width) → IsFlat w []
unfolding cell_between
one_cell w out m at [] place count = absurd (let e : 0 ≡ 1 = count in omega arith)
one_cell w out m at (c ∷ d ∷ cells) place count = absurd (let e : suc (suc (length cells)) ≡ 1 = count in omega arith)
one_cell w out m at (c ∷ []) place count =
    let same : at ≡ m = let e : at ≡ m * 1 = place in omega arith in
    append-nil (cell_between out w at c)
    ∙ append_assoc (comma_before at ++ opens (begun out at)) (cell_pieces w c) (closes (begun out (suc at)))
    ∙ append_assoc (comma_before at) (opens (begun out at)) (cell_pieces w c ++ closes (begun out (suc at)))
    ∙ ap (λ k. comma_before at ++ (opens (begun out k) ++ (cell_pieces w c ++ closes (begun out (suc k))))) same

-- each extent has an item
abbrev pub ArePositive : List ℕ → Type 0
ArePositive ns = AllByRecursion (λ n. 0 < n) ns

product : (a b : ℕ) → 0 < a → 0 < b → 0 < a * b
product zero b p q = absurd (omega arith)
product (suc a) zero p q = absurd (omega arith)
product (suc a) (suc b) p q = let e : suc a * suc b ≡ suc (b + a * suc b) = omega arith in rw e (omega arith)

pub some_cells : (ns : List ℕ) → ArePositive ns → 0 < size_of ns
some_cells [] h = omega arith
some_cells (n ∷ ns) h = product n (size_of ns) h.0 (some_cells ns h.1)

comma_later : (at : ℕ) → 0 < at → comma_before at ≡ sign "," ∷ []
comma_later at h = rw (not_zero at h) refl

taken : (size : ℕ) (rest : ℕ) (cells : List Cell) → length cells ≡ size + rest → length (take size cells) ≡ size
taken zero rest cells h = refl
taken (suc size) rest [] h = absurd (omega arith)
taken (suc size) rest (c ∷ cells) h = ap suc (taken size rest cells (omega arith))

dropped : (size : ℕ) (rest : ℕ) (cells : List Cell) → length cells ≡ size + rest → length (drop size cells) ≡ rest
dropped zero rest cells h = let e : length cells ≡ rest = omega arith in e
dropped (suc size) rest [] h = absurd (omega arith)
dropped (suc size) rest (c ∷ cells) h = dropped size rest cells (omega arith)

module _ (w : Width) (n : ℕ) (ns : List ℕ) (flat : IsFlat w ns) (some : 0 < n) (positive : 0 < size_of ns) (out : List ℕ) (m : ℕ) where
  abbrev size : ℕ
  size = size_of ns

  abbrev from : ℕ → List Cell → List Piece
  from j cells = cells_from (within (n ∷ ns) out) w ((m * n + j) * size) cells

  -- what closes before row j
  abbrev ends : ℕ → List Piece
  ends j = closes (begun (n ∷ out) (m * n + j))

  ends_last : ends n ≡ closes (suc (begun out (suc m)))
  ends_last =
      ap (λ k. closes (begun (n ∷ out) k)) (let e : m * n + n ≡ suc m * n = omega arith in e)
      ∙ ap closes (begun_first n (suc m) out some)

  -- one row and what is behind it
  one_row : (j k : ℕ) (cells : List Cell) → length cells ≡ size + k * size
      → from j cells ≡ comma_before ((m * n + j) * size) ++ (opens (begun (n ∷ out) (m * n + j)) ++ (nested w ns (take size cells) ++ (ends (suc j) ++ from (suc j) (drop size cells))))
  one_row j k cells count =
      let at : ℕ = (m * n + j) * size in
      let row : List Cell = take size cells in
      let behind : List Cell = drop size cells in
      let counted : length row ≡ size = taken size (k * size) cells count in
      let comma : List Piece = comma_before at in
      let open_ : List Piece = opens (begun (n ∷ out) (m * n + j)) in
      let first : cells_from (within ns (n ∷ out)) w at row ≡ comma ++ (open_ ++ (nested w ns row ++ closes (begun (n ∷ out) (suc (m * n + j)))))
      = flat (n ∷ out) (m * n + j) at row refl counted in
      let next : at + length row ≡ (m * n + suc j) * size = ap (λ k. at + k) counted
      ∙ (let e : (m * n + j) * size + size ≡ suc (m * n + j) * size = omega arith in e)
      ∙ ap (λ k. k * size) (let e : suc (m * n + j) ≡ m * n + suc j = omega arith in e) in
      let last : closes (begun (n ∷ out) (suc (m * n + j))) ≡ ends (suc j) = ap (λ k. closes (begun (n ∷ out) k)) (let e : suc (m * n + j) ≡ m * n + suc j = omega arith in e) in
      let more : List Piece = from (suc j) behind in
      ap (λ cs. cells_from (within (n ∷ ns) out) w at cs) (sym (take-append-drop size cells))
      ∙ cells_append (within (n ∷ ns) out) w at row behind
      ∙ ap (λ p. cells_from (within ns (n ∷ out)) w at row ++ cells_from (within (n ∷ ns) out) w p behind) next
      ∙ ap (λ ps. ps ++ more) first
      ∙ ap (λ ps. (comma ++ (open_ ++ (nested w ns row ++ ps))) ++ more) last
      ∙ append_assoc comma (open_ ++ (nested w ns row ++ ends (suc j))) more
      ∙ ap (λ ps. comma ++ ps) (append_assoc open_ (nested w ns row ++ ends (suc j)) more)
      ∙ ap (λ ps. comma ++ (open_ ++ ps)) (append_assoc (nested w ns row) (ends (suc j)) more)

  -- the rows from row suc j on
  later_rows : (k j : ℕ) (cells : List Cell) → suc j + k ≡ n → length cells ≡ k * size
      → ends (suc j) ++ from (suc j) cells ≡ rest_of_list (nested w ns) (rows k size cells) ++ closes (suc (begun out (suc m)))
  later_rows zero j [] place count =
      append-nil (ends (suc j)) ∙ ap ends (let e : suc j ≡ n = omega arith in e) ∙ ends_last
  later_rows zero j (c ∷ cells) place count = absurd (let e : suc (length cells) ≡ 0 * size = count in omega arith)
  later_rows (suc k) j cells place count =
      let counted : length cells ≡ size + k * size = count ∙ (let e : suc k * size ≡ size + k * size = omega arith in e) in
      let within_row : suc j < n = omega arith in
      let closed : begun (n ∷ out) (m * n + suc j) ≡ 0 = begun_later n m j out within_row in
      let at : ℕ = (m * n + suc j) * size in
      let far : 0 < at = product (m * n + suc j) size (omega arith) positive in
      let row : List Piece = nested w ns (take size cells) in
      ap (λ b. closes b ++ from (suc j) cells) closed
      ∙ one_row (suc j) k cells counted
      ∙ ap (λ ps. ps ++ (opens (begun (n ∷ out) (m * n + suc j)) ++ (row ++ (ends (suc (suc j)) ++ from (suc (suc j)) (drop size cells))))) (comma_later at far)
      ∙ ap (λ b. sign "," ∷ (opens b ++ (row ++ (ends (suc (suc j)) ++ from (suc (suc j)) (drop size cells))))) closed
      ∙ ap (λ ps. sign "," ∷ (row ++ ps)) (later_rows k (suc j) (drop size cells) (omega arith) (dropped size (k * size) cells counted))
      ∙ ap (λ ps. sign "," ∷ ps) (sym (append_assoc row (rest_of_list (nested w ns) (rows k size (drop size cells))) (closes (suc (begun out (suc m))))))

list_flat : (w : Width) (n : ℕ) (ns : List ℕ) → IsFlat w ns → 0 < n → 0 < size_of ns → IsFlat w (n ∷ ns)
list_flat w zero ns flat some positive out m at cells place count = absurd (omega arith)
list_flat w (suc k) ns flat some positive out m at cells place count =
    let n : ℕ = suc k in
    let size : ℕ = size_of ns in
    let counted : length cells ≡ size + k * size = count ∙ (let e : suc k * size ≡ size + k * size = omega arith in e) in
    let front : at ≡ (m * suc k + 0) * size = let e : at ≡ m * (suc k * size) = place in e ∙ grouped m k size in
    let row : List Piece = nested w ns (take size cells) in
    let more : List Piece = rest_of_list (nested w ns) (rows k size (drop size cells)) in
    let b : ℕ = begun out m in
    let close : List Piece = closes (begun out (suc m)) in
    let first : begun (suc k ∷ out) (m * suc k + 0) ≡ suc b = ap (begun (suc k ∷ out)) (let e : m * suc k + 0 ≡ m * suc k = omega arith in e) ∙ begun_first (suc k) m out some in
    ap (λ p. cells_from (within (suc k ∷ ns) out) w p cells) front
    ∙ one_row w (suc k) ns flat some positive out m 0 k cells counted
    ∙ ap (λ p. comma_before p ++ (opens (begun (suc k ∷ out) (m * suc k + 0)) ++ (row ++ (ends w (suc k) ns flat some positive out m 1 ++ from w (suc k) ns flat some positive out m 1 (drop size cells))))) (sym front)
    ∙ ap (λ o. comma_before at ++ (opens o ++ (row ++ (ends w (suc k) ns flat some positive out m 1 ++ from w (suc k) ns flat some positive out m 1 (drop size cells))))) first
    ∙ ap (λ ps. comma_before at ++ (opens (suc b) ++ (row ++ ps))) (later_rows w (suc k) ns flat some positive out m k 0 (drop size cells) (let e : 1 + k ≡ suc k = omega arith in e) (dropped size (k * size) cells counted))
    ∙ ap (λ ps. comma_before at ++ ps) (open_last b (row ++ (more ++ sign "]" ∷ close)))
    ∙ ap (λ ps. comma_before at ++ (opens b ++ sign "[" ∷ ps)) (sym (append_assoc row more (sign "]" ∷ close)) ∙ sym (append_assoc (row ++ more) (sign "]" ∷ []) close))
  where
    grouped : (m k size : ℕ) → m * (suc k * size) ≡ (m * suc k + 0) * size
    grouped m k size = grind arith

pub lists_flat : (w : Width) (ns : List ℕ) → ArePositive ns → IsFlat w ns
lists_flat w [] h = one_cell w
lists_flat w (n ∷ ns) h = list_flat w n ns (lists_flat w ns h.1) h.0 (some_cells ns h.1)

-- all cells from the first on
pub cells_nested : (w : Width) (ns : List ℕ) (cells : List Cell) → ArePositive ns → length cells ≡ size_of ns
    → cells_from (reverse ns) w 0 cells ≡ nested w ns cells
cells_nested w ns cells h count =
    ap (λ ext. cells_from ext w 0 cells) (sym (within_reversed ns [] ∙ append-nil (reverse ns)))
    ∙ lists_flat w ns h [] 0 0 cells (let e : 0 ≡ 0 * size_of ns = omega arith in e) count
    ∙ append-nil (nested w ns cells)
