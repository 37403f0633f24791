-- The class of a token stands in the row of its kind and length. The rows are those of the table by
-- computing; a word that isn't in its row has another length than each spelling in the other rows.
use Rattle.std.proofs.Common.{◌≡◌, ℕ, zero, suc, ◌+◌, ◌-◌, ◌<◌, ◌≤◌, Bool, true, false, cond, nat_eq, nat_lt, List, [], ◌∷◌, map, take, drop, length, get_or, refl, sym, ◌∙◌, ap, arith, Bor, Some}
use Rattle.std.specs.Prelude.{slice_get, option_map, if◌then◌else◌}
use Rattle.std.proofs.lemmas.Option.{slice_get-map, slice_get-get_or, same_Some}
use Rattle.std.specs.Cmp.Lexicographic.{pointwise, as_long}
use Rattle.std.proofs.lemmas.Bool.{eq-eqb, ltb-true, ltb-false}
use Rattle.std.proofs.lemmas.List.{take-map, drop-map, length-map}
use Rattle.sh_lex.specs.declared.tokens.TokenKind.{TokenKind}
use Rattle.sh_lex.specs.declared.tokens.TokenKind.TheVariants.{Word, Val, At, Hash, Block, Bang, Number, Dim, Str, Sign, End}
use Rattle.sh_grammar.specs.Laid.{the_spellings, the_classes, the_spelling_rows}
use Rattle.sh_grammar.specs.Lexemes.{Lexeme, Spelling, class_of, class_of_kind, signs, dims, bangs, hashes, words, former_words, former_bangs, first_class, class_count, spellings_of, class_in}
use Rattle.sh_grammar.specs.Predictive.{each, ◌&◌}
use Rattle.sh_grammar.specs.Views.{pieces, pieces_from, rise, row_of, spelled}
use Rattle.sh_grammar.proofs.Booleans.{and_both}

-- ---- the rows

-- those of this length
abbrev pub of_length : ℕ → List Spelling → List Spelling
of_length n [] = []
of_length n (s ∷ ss) = cond (nat_eq (length s.text) n) (s ∷ of_length n ss) (of_length n ss)

-- the words of k lengths from n on, an empty row, and those of the other kinds
abbrev pub by_length : ℕ → ℕ → List (List Spelling)
by_length zero n = [] ∷ spellings_of Sign ∷ spellings_of Dim ∷ spellings_of Bang ∷ spellings_of Hash ∷ []
by_length (suc k) n = of_length n (spellings_of Word) ∷ by_length k (suc n)

unfoldable pub spelling_rows : List (List Spelling)
spelling_rows = by_length 32 0

count_of_rows : length spelling_rows ≡ 37
unfolding spelling_rows
count_of_rows = refl

texts_laid : pieces the_spellings the_spelling_rows ≡ map (λ row. map (λ s. s.text) row) spelling_rows
unfolding spelling_rows the_spellings the_spelling_rows signs dims bangs hashes words former_words former_bangs
texts_laid = refl

classes_laid : pieces the_classes the_spelling_rows ≡ map (λ row. map (λ s. s.class) row) spelling_rows
unfolding spelling_rows the_classes the_spelling_rows signs dims bangs hashes words former_words former_bangs first_class class_count
classes_laid = refl

all_short : each (λ s. nat_lt (length s.text) 32) (spellings_of Word) ≡ true
unfolding ◌&◌ words former_words
all_short = refl

-- ---- a text among the spellings of its length

-- one spelling more: it is left out only where its text is another
one_more : (s : Spelling) (ks : List Spelling) (text : List ℕ) (d r : ℕ) (same fits : Bool)
    → pointwise nat_eq s.text text ≡ same → (same ≡ true → fits ≡ true) → class_in ks text d ≡ r
    → class_in (cond fits (s ∷ ks) ks) text d ≡ cond same s.class r
one_more s ks text d r true true is implied rest = rw is refl
one_more s ks text d r true false is implied rest = absurd (let e : false ≡ true = implied refl in cc)
one_more s ks text d r false true is implied rest = rw is rest
one_more s ks text d r false false is implied rest = rest

class_of_length : (n : ℕ) (ss : List Spelling) (text : List ℕ) (d : ℕ) → length text ≡ n
    → class_in (of_length n ss) text d ≡ class_in ss text d
class_of_length n [] text d is = refl
class_of_length n (s ∷ ss) text d is =
    one_more s (of_length n ss) text d (class_in ss text d) (pointwise nat_eq s.text text) (nat_eq (length s.text) n)
    refl (λ e. eq-eqb _ _ (as_long nat_eq s.text text e ∙ is)) (class_of_length n ss text d is)

not_longer : (s : Spelling) (text : List ℕ) (c d : ℕ) (same : Bool) → pointwise nat_eq s.text text ≡ same
    → length s.text < 32 → 32 ≤ length text → c ≡ d → cond same s.class c ≡ d
not_longer s text c d false is short long rest = rest
not_longer s text c d true is short long rest =
    let same : length s.text ≡ length text = as_long nat_eq s.text text is in absurd (omega arith)

-- a text that is longer than each spelling is none of them
class_of_long : (ss : List Spelling) (text : List ℕ) (d : ℕ) → each (λ s. nat_lt (length s.text) 32) ss ≡ true
    → 32 ≤ length text → class_in ss text d ≡ d
class_of_long [] text d short long = refl
class_of_long (s ∷ ss) text d short long =
    let both = and_both _ _ short in
    not_longer s text (class_in ss text d) d (pointwise nat_eq s.text text) refl (ltb-true _ _ both.0) long (class_of_long ss text d both.1 long)

-- ---- the row of a kind and a length

by_length_at : (k n i : ℕ) → i < k → get_or (by_length k n) i [] ≡ of_length (n + i) (spellings_of Word)
by_length_at zero n i h = absurd (omega arith)
by_length_at (suc k) n zero h = ap (λ m. of_length m (spellings_of Word)) (omega arith)
by_length_at (suc k) n (suc i) h =
    by_length_at k (suc n) i (omega arith) ∙ ap (λ m. of_length m (spellings_of Word)) (omega arith)

word_row : (text : List ℕ) (d : ℕ) (short : Bool) → nat_lt (length text) 32 ≡ short
    → class_in (get_or spelling_rows (if short then length text else 32) []) text d ≡ class_in (spellings_of Word) text d
unfolding spelling_rows
word_row text d true is =
    ap (λ row. class_in row text d) (by_length_at 32 0 (length text) (ltb-true _ _ is))
    ∙ class_of_length (0 + length text) (spellings_of Word) text d (omega arith)
word_row text d false is = sym (class_of_long (spellings_of Word) text d all_short (ltb-false _ _ is))

class_of_row : (kind : TokenKind) (text : List ℕ) (d : ℕ)
    → class_in (get_or spelling_rows (row_of kind (length text)) []) text d ≡ class_in (spellings_of kind) text d
unfolding spelling_rows
class_of_row Word text d = word_row text d (nat_lt (length text) 32) refl
class_of_row Sign text d = refl
class_of_row Dim text d = refl
class_of_row Bang text d = refl
class_of_row Hash text d = refl
class_of_row Val text d = refl
class_of_row At text d = refl
class_of_row Block text d = refl
class_of_row Number text d = refl
class_of_row Str text d = refl
class_of_row End text d = refl

-- ---- the table's rows

from_mapped : {X Y : Type 0} (h : X → Y) (xs : List X) (a : ℕ) (cuts : List ℕ) (i : ℕ) (row : List X)
    → slice_get (pieces_from xs a cuts) i ≡ Some row → slice_get (pieces_from (map h xs) a cuts) i ≡ Some (map h row)
from_mapped h xs a [] i row at = cc
from_mapped h xs a (b ∷ cuts) zero row at =
    let same : take (b - a) (drop a xs) ≡ row = cc in
    ap Some (ap (take (b - a)) (drop-map h a xs) ∙ take-map h (b - a) (drop a xs) ∙ ap (map h) same)
from_mapped h xs a (b ∷ cuts) (suc i) row at = from_mapped h xs b cuts i row at

-- what stands at a place of the pieces of mapped items
pub piece_mapped : {X Y : Type 0} (h : X → Y) (xs : List X) (cuts : List ℕ) (i : ℕ) (row : List X)
    → slice_get (pieces xs cuts) i ≡ Some row → slice_get (pieces (map h xs) cuts) i ≡ Some (map h row)
piece_mapped h xs [] i row at = cc
piece_mapped h xs (a ∷ cuts) i row at = from_mapped h xs a cuts i row at

spelled_row : (row : List Spelling) → spelled (map (λ s. s.text) row) (map (λ s. s.class) row) ≡ row
spelled_row [] = refl
spelled_row (s ∷ ss) = ap (λ rest. s ∷ rest) (spelled_row ss)

spellings_rise : rise (length the_spellings) the_spelling_rows ≡ true
unfolding the_spellings the_spelling_rows ◌&◌
spellings_rise = refl

pub classes_rise : rise (length the_classes) the_spelling_rows ≡ true
unfolding the_classes the_spelling_rows ◌&◌
classes_rise = refl

count_of_cuts : length the_spelling_rows ≡ 38
unfolding the_spelling_rows
count_of_cuts = refl

pub texts_rise : (texts : List (Bor (List ℕ))) (cuts : List ℕ) → map (λ w. w.now) texts ≡ the_spellings → cuts ≡ the_spelling_rows
    → rise (length texts) cuts ≡ true
texts_rise texts cuts a b =
    let count : length texts ≡ length the_spellings = sym (length-map texts (λ w. w.now)) ∙ ap length a in
    rw (count, b) spellings_rise

word_row_below : (n : ℕ) (short : Bool) → nat_lt n 32 ≡ short → (if short then n else 32) < 37
word_row_below n true is = let less : n < 32 = ltb-true _ _ is in omega arith
word_row_below n false is = omega arith

row_below : (kind : TokenKind) (n : ℕ) → row_of kind n < 37
row_below Word n = word_row_below n (nat_lt n 32) refl
row_below Sign n = omega arith
row_below Dim n = omega arith
row_below Bang n = omega arith
row_below Hash n = omega arith
row_below Val n = omega arith
row_below At n = omega arith
row_below Block n = omega arith
row_below Number n = omega arith
row_below Str n = omega arith
row_below End n = omega arith

pub row_within : (kind : TokenKind) (n row : ℕ) (cuts : List ℕ) → row ≡ row_of kind n → cuts ≡ the_spelling_rows → row + 1 < length cuts
row_within kind n row cuts is same =
    let below = row_below kind n in
    let count : length cuts ≡ 38 = ap length same ∙ count_of_cuts in
    omega arith

-- a row of the table, by what it is mapped from
row_is : {X : Type 0} (h : Spelling → X) (xs : List X) (cuts : List ℕ) (at : ℕ) (row : List X)
    → pieces xs cuts ≡ map (λ row. map h row) spelling_rows → slice_get (pieces xs cuts) at ≡ Some row → at < 37
    → row ≡ map h (get_or spelling_rows at [])
row_is h xs cuts at row laid piece below =
    let within : at < length spelling_rows = rw count_of_rows below in
    let there : slice_get (pieces xs cuts) at ≡ Some (map h (get_or spelling_rows at [])) =
    ap (λ rows. slice_get rows at) laid
    ∙ slice_get-map (λ row. map h row) spelling_rows at
    ∙ ap (option_map (λ row. map h row)) (slice_get-get_or spelling_rows at [] within) in
    same_Some _ _ (sym piece ∙ there)

-- the texts and the classes of the row of a kind and a length
pub row_of_both : (kind : TokenKind) (n row : ℕ) (texts : List (Bor (List ℕ))) (classes cuts : List ℕ) (some : List (Bor (List ℕ))) (others : List ℕ)
    → row ≡ row_of kind n → map (λ w. w.now) texts ≡ the_spellings → classes ≡ the_classes → cuts ≡ the_spelling_rows
    → slice_get (pieces texts cuts) row ≡ Some some → slice_get (pieces classes cuts) row ≡ Some others
    → (map (λ w. w.now) some ≡ map (λ s. s.text) (get_or spelling_rows row [])) × (others ≡ map (λ s. s.class) (get_or spelling_rows row []))
row_of_both kind n row texts classes cuts some others is a b c p q =
    let below : row < 37 = rw is (row_below kind n) in
    let mapped : slice_get (pieces (map (λ w. w.now) texts) cuts) row ≡ Some (map (λ w. w.now) some) = piece_mapped (λ w. w.now) texts cuts row some p in (
      row_is (λ s. s.text) the_spellings the_spelling_rows row (map (λ w. w.now) some) texts_laid (rw (a, c) at mapped) below,
      row_is (λ s. s.class) the_classes the_spelling_rows row others classes_laid (rw (b, c) at q) below,
    )

pub no_more : (some : List (Bor (List ℕ))) (others : List ℕ) (row : List Spelling)
    → map (λ w. w.now) some ≡ map (λ s. s.text) row → others ≡ map (λ s. s.class) row → length some ≤ length others
no_more some others row a b =
    let m : length some ≡ length row = sym (length-map some (λ w. w.now)) ∙ ap length a ∙ length-map row (λ s. s.text) in
    let n : length others ≡ length row = ap length b ∙ length-map row (λ s. s.class) in
    omega arith

class_is : (l : Lexeme) → class_of l ≡ class_in (spellings_of l.kind) l.text (class_of_kind l.kind)
unfolding class_of
class_is l = refl

pub class_by_row : (l : Lexeme) (row : ℕ) (some : List (List ℕ)) (others : List ℕ) → row ≡ row_of l.kind (length l.text)
    → some ≡ map (λ s. s.text) (get_or spelling_rows row []) → others ≡ map (λ s. s.class) (get_or spelling_rows row [])
    → class_in (spelled some others) l.text (class_of_kind l.kind) ≡ class_of l
class_by_row l row some others is a b =
    rw (a, b, spelled_row (get_or spelling_rows row []), is) (class_of_row l.kind l.text (class_of_kind l.kind) ∙ sym (class_is l))

-- ---- the loop over a row

pub class_next : (ws : List (Bor (List ℕ))) (cs : List ℕ) (i l : ℕ) (x : Bor (List ℕ)) (text : List ℕ) (d : ℕ)
    → i < length ws → length ws ≤ length cs → l ≡ suc i → pointwise nat_eq (get_or ws i x).now text ≡ false
    → class_in (spelled (map (λ w. w.now) (drop i ws)) (drop i cs)) text d
    ≡ class_in (spelled (map (λ w. w.now) (drop l ws)) (drop l cs)) text d
class_next [] cs i l x text d h fits is other = absurd (omega arith)
class_next (w ∷ ws) [] i l x text d h fits is other = absurd (omega arith)
class_next (w ∷ ws) (c ∷ cs) zero l x text d h fits is other = rw (is, other) refl
class_next (w ∷ ws) (c ∷ cs) (suc i) l x text d h fits is other = rw is (class_next ws cs i (suc i) x text d (omega arith) (omega arith) refl other)
