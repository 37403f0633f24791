-- States by number: what tells them apart does so, and none has two numbers.
use Rattle.std.proofs.Common.{zero, suc, ◌≡◌, ◌∙◌, ℕ, Bool, true, false, not, List, [], ◌∷◌, ◌++◌, append_assoc, length, map, get_or, All, Some, ap, sym, subst, refl, arith, if◌then◌else◌, length-append}
use Rattle.std.specs.Prelude.{nat_eq, slice_get, option_map}
use Rattle.std.specs.Cmp.{unsigned_Decides}
use Rattle.std.specs.Cmp.Lexicographic.{pointwise, pointwise_decides}
use Rattle.std.specs.List.{AllByRecursion, IsDistinct, list_any}
use Rattle.std.proofs.lemmas.List.Elements.{All-from_recursion, All-push}
use Rattle.std.proofs.lemmas.Map.Keys.{IsDistinct-head, IsDistinct-tail}
use Rattle.std.proofs.lemmas.Option.{get_or_from_slice_get, slice_get-map, slice_get_within}
use Rattle.sh_sharding.specs.declared.shardings.Dimension.{Dimension}
use Rattle.sh_sharding.specs.declared.shardings.Mark.{Mark}
use Rattle.sh_sharding.specs.declared.shardings.Mark.TheVariants.{Balanced, Offsets}
use Rattle.sh_sharding.specs.Sharding.{HasNoHalos, IsDimension, IsNormalMark, ShardingValue, parts_of}
use Rattle.sh_plan.specs.declared.exploring.States.{States}
use Rattle.sh_plan.specs.States.{AreStates, IsNumber, IsStateTo, KeepsNumbers, keys_of, code_of, counted, written_offsets}

-- ---- equality of what tells apart

lists_decide : (xs ys : List ℕ) → (pointwise nat_eq xs ys ≡ true → xs ≡ ys) × (xs ≡ ys → pointwise nat_eq xs ys ≡ true)
lists_decide = pointwise_decides unsigned_Decides

pub same_codes : (xs ys : List ℕ) → pointwise nat_eq xs ys ≡ true → xs ≡ ys
same_codes xs ys e = (lists_decide xs ys).0 e

pub own_code : (xs : List ℕ) → pointwise nat_eq xs xs ≡ true
own_code xs = (lists_decide xs xs).1 refl

-- ---- states told apart

same_mark : (extent parts : ℕ) (m k : Mark) → IsNormalMark extent parts m → IsNormalMark extent parts k → written_offsets m ≡ written_offsets k → m ≡ k
same_mark extent parts Balanced Balanced a b e = refl
same_mark extent parts Balanced (Offsets os) a b e = let long : 0 ≡ length os = ap (λ (l : List ℕ). length l) e in absurd (omega (arith, b.0, long))
same_mark extent parts (Offsets os) Balanced a b e = let long : length os ≡ 0 = ap (λ (l : List ℕ). length l) e in absurd (omega (arith, a.0, long))
same_mark extent parts (Offsets os) (Offsets ps) a b e = ap Offsets e

same_dimension : (g : List ℕ) (d e : Dimension) → IsDimension g d → IsDimension g e → (d.low ≡ 0) × (d.high ≡ 0) → (e.low ≡ 0) × (e.high ≡ 0) →
    d.extent ≡ e.extent → d.axes ≡ e.axes → written_offsets d.mark ≡ written_offsets e.mark → d ≡ e
unfolding parts_of
same_dimension g d e is_d is_e none_d none_e ext axes offsets =
    let normal : IsNormalMark d.extent (parts_of g d) e.mark = rw (ext, axes) is_e.normal in
    let mark : d.mark ≡ e.mark = same_mark d.extent (parts_of g d) d.mark e.mark is_d.normal normal offsets in
    λ j. record { extent = ext j; axes = axes j; mark = mark j; low = (none_d.0 ∙ sym none_e.0) j; high = (none_d.1 ∙ sym none_e.1) j }

abbrev tail : {X : Type 0} → List X → List X
tail [] = []
tail (x ∷ xs) = xs

same_front : (xs ys us vs : List ℕ) → length xs ≡ length ys → xs ++ us ≡ ys ++ vs → (xs ≡ ys) × (us ≡ vs)
same_front [] [] us vs long e = (refl, e)
same_front [] (y ∷ ys) us vs long e = absurd (omega (arith, long))
same_front (x ∷ xs) [] us vs long e = absurd (omega (arith, long))
same_front (x ∷ xs) (y ∷ ys) us vs long e =
    let first : x ≡ y = ap (λ (l : List ℕ). get_or l 0 0) e in
    let rest = same_front xs ys us vs (omega (arith, long)) (ap (λ (l : List ℕ). tail l) e) in
    ((λ i. first i ∷ rest.0 i), rest.1)

-- lists with their lengths before them
same_counted : (xs ys us vs : List ℕ) → counted xs ++ us ≡ counted ys ++ vs → (xs ≡ ys) × (us ≡ vs)
same_counted xs ys us vs e = same_front xs ys us vs (ap (λ (l : List ℕ). get_or l 0 0) e) (ap (λ (l : List ℕ). tail l) e)

record SameCode (d e : Dimension) (ds es : List Dimension) : Type 0 where
  pub axes : d.axes ≡ e.axes
  pub offsets : written_offsets d.mark ≡ written_offsets e.mark
  pub rest : code_of ds ≡ code_of es

same_code : (d e : Dimension) (ds es : List Dimension) → code_of (d ∷ ds) ≡ code_of (e ∷ es) → SameCode d e ds es
same_code d e ds es same =
    let turned : counted d.axes ++ (counted (written_offsets d.mark) ++ code_of ds) ≡ counted e.axes ++ (counted (written_offsets e.mark) ++ code_of es) =
    sym (append_assoc (counted d.axes) (counted (written_offsets d.mark)) (code_of ds)) ∙ same ∙ append_assoc (counted e.axes) (counted (written_offsets e.mark)) (code_of es) in
    let first = same_counted d.axes e.axes (counted (written_offsets d.mark) ++ code_of ds) (counted (written_offsets e.mark) ++ code_of es) turned in
    let second = same_counted (written_offsets d.mark) (written_offsets e.mark) (code_of ds) (code_of es) first.1 in
    record { axes = first.0; offsets = second.0; rest = second.1 }

same_dimensions : (g : List ℕ) (ds es : List Dimension) → AllByRecursion (IsDimension g) ds → AllByRecursion (IsDimension g) es → HasNoHalos ds → HasNoHalos es →
    map (λ d. d.extent) ds ≡ map (λ d. d.extent) es → code_of ds ≡ code_of es → ds ≡ es
same_dimensions g [] [] a b p q ext same = refl
same_dimensions g [] (e ∷ es) a b p q ext same = absurd (omega (arith, ap (λ (l : List ℕ). length l) ext))
same_dimensions g (d ∷ ds) [] a b p q ext same = absurd (omega (arith, ap (λ (l : List ℕ). length l) ext))
same_dimensions g (d ∷ ds) (e ∷ es) a b p q ext same =
    let parts = same_code d e ds es same in
    let extent : d.extent ≡ e.extent = ap (λ (l : List ℕ). get_or l 0 0) ext in
    let here : d ≡ e = same_dimension g d e a.0 b.0 p.0 q.0 extent parts.axes parts.offsets in
    let rest : ds ≡ es = same_dimensions g ds es a.1 b.1 p.1 q.1 (ap (λ (l : List ℕ). tail l) ext) parts.rest in
    λ j. here j ∷ rest j

-- states of one shape on one grid that nothing tells apart have the same dimensions
pub told_apart : (to a b : ShardingValue) → IsStateTo to a → IsStateTo to b → code_of a.dimensions ≡ code_of b.dimensions → a.dimensions ≡ b.dimensions
told_apart to a b is_a is_b same =
    let dims_a : AllByRecursion (IsDimension to.grid.extents) a.dimensions = rw (← is_a.grid) is_a.state.sharding.dimensions in
    let dims_b : AllByRecursion (IsDimension to.grid.extents) b.dimensions = rw (← is_b.grid) is_b.state.sharding.dimensions in
    same_dimensions to.grid.extents a.dimensions b.dimensions dims_a dims_b is_a.state.plain is_b.state.plain (is_a.whole ∙ sym is_b.whole) same

-- ---- places in mapped lists

-- an element of a mapped list is the value at one of the list
pub record IsImage {X Y : Type 0} (f : X → Y) (xs : List X) (i : ℕ) (y : Y) : Type 0 where
  pub this : X
  pub at : slice_get xs i ≡ Some this
  pub value : f this ≡ y

pub image : {X Y : Type 0} (f : X → Y) (xs : List X) (i : ℕ) (y : Y) → slice_get (map f xs) i ≡ Some y → IsImage f xs i y
image f [] i y at = absurd (cc)
image f (x ∷ xs) zero y at = record { this = x; at = refl; value = cc }
image f (x ∷ xs) (suc i) y at = let r = image f xs i y at in record { this = r.this; at = r.at; value = r.value }

pub at_image : {X Y : Type 0} (f : X → Y) (xs : List X) (i : ℕ) (x : X) → slice_get xs i ≡ Some x → slice_get (map f xs) i ≡ Some (f x)
at_image f xs i x at = slice_get-map f xs i ∙ ap (λ o. option_map f o) at

pub all_get : {X : Type 0} (P : X → Type 0) (xs : List X) (i : ℕ) (x : X) → All P xs → slice_get xs i ≡ Some x → P x
all_get P xs i x all at = subst P (get_or_from_slice_get xs i x x at) (all i x (slice_get_within xs i x at))

-- ---- numbers of states

-- a state stands where what tells it apart does
pub is_numbered : (to s : ShardingValue) (states : States) (code : List ℕ) (n : ℕ) → AreStates to states → IsStateTo to s → code ≡ code_of s.dimensions →
    (k : List ℕ) → slice_get states.codes.keys n ≡ Some k → pointwise nat_eq code k ≡ true → IsNumber (keys_of states.known.items) s.dimensions n
is_numbered to s states code n are is code_is k at same =
    let there : slice_get (map code_of (keys_of states.known.items)) n ≡ Some k = rw are.codes at at in
    let key = image code_of (keys_of states.known.items) n k there in
    let state = image (λ (x : ShardingValue). x.dimensions) states.known.items n key.this key.at in
    let equal : code_of s.dimensions ≡ code_of state.this.dimensions =
    sym code_is ∙ same_codes code k same ∙ sym key.value ∙ ap code_of (sym state.value) in
    let dims : state.this.dimensions ≡ s.dimensions = sym (told_apart to s state.this is (all_get (IsStateTo to) states.known.items n state.this are.each state.at) equal) in
    at_image (λ (x : ShardingValue). x.dimensions) states.known.items n state.this state.at ∙ ap Some dims

-- a key has one place in a list without equal keys
one_place : (keys : List (List ℕ)) (i j : ℕ) (s : List ℕ) → IsDistinct (pointwise nat_eq) keys → slice_get keys i ≡ Some s → slice_get keys j ≡ Some s → i ≡ j
one_place [] i j s d at_i at_j = cc
one_place (k ∷ keys) zero zero s d at_i at_j = refl
one_place (k ∷ keys) zero (suc j) s d at_i at_j =
    let no : pointwise nat_eq k s ≡ false =
    all_get (λ y. pointwise nat_eq k y ≡ false) keys j s (All-from_recursion (λ y. pointwise nat_eq k y ≡ false) keys (IsDistinct-head (pointwise nat_eq) k keys d)) at_j in
    let same : k ≡ s = cc in
    let yes : pointwise nat_eq k s ≡ true = rw same (own_code s) in
    cc
one_place (k ∷ keys) (suc i) zero s d at_i at_j =
    let no : pointwise nat_eq k s ≡ false =
    all_get (λ y. pointwise nat_eq k y ≡ false) keys i s (All-from_recursion (λ y. pointwise nat_eq k y ≡ false) keys (IsDistinct-head (pointwise nat_eq) k keys d)) at_i in
    let same : k ≡ s = cc in
    let yes : pointwise nat_eq k s ≡ true = rw same (own_code s) in
    cc
one_place (k ∷ keys) (suc i) (suc j) s d at_i at_j = ap suc (one_place keys i j s (IsDistinct-tail (pointwise nat_eq) k keys d) at_i at_j)

pub one_number : (to : ShardingValue) (states : States) → AreStates to states → (i j : ℕ) (ds : List Dimension) →
    slice_get (keys_of states.known.items) i ≡ Some ds → slice_get (keys_of states.known.items) j ≡ Some ds → i ≡ j
one_number to states are i j ds at_i at_j =
    let here : slice_get states.codes.keys i ≡ Some (code_of ds) = rw are.codes (at_image code_of (keys_of states.known.items) i ds at_i) in
    let there : slice_get states.codes.keys j ≡ Some (code_of ds) = rw are.codes (at_image code_of (keys_of states.known.items) j ds at_j) in
    one_place states.codes.keys i j (code_of ds) are.once here there

-- ---- numbers that stay

pub keeps_own : (ks : List (List Dimension)) → KeepsNumbers ks ks
keeps_own ks = record { keeps = λ i ds e. e; longer = omega arith }

pub keeps_more : (a b c : List (List Dimension)) → KeepsNumbers a b → KeepsNumbers b c → KeepsNumbers a c
keeps_more a b c p q = record { keeps = λ i s e. q.keeps i s (p.keeps i s e); longer = omega (arith, p.longer, q.longer) }

slice_get-kept : {X : Type 0} (xs ys : List X) (i : ℕ) (x : X) → slice_get xs i ≡ Some x → slice_get (xs ++ ys) i ≡ Some x
slice_get-kept [] ys i x e = absurd (cc)
slice_get-kept (y ∷ xs) ys zero x e = e
slice_get-kept (y ∷ xs) ys (suc i) x e = slice_get-kept xs ys i x e

map-push : {X Y : Type 0} (f : X → Y) (xs : List X) (x : X) → map f (xs ++ x ∷ []) ≡ map f xs ++ f x ∷ []
map-push f [] x = refl
map-push f (y ∷ xs) x = ap (λ l. f y ∷ l) (map-push f xs x)

-- one more state
pub pushed_keys : (known now : List ShardingValue) (s : ShardingValue) → now ≡ known ++ s ∷ [] → keys_of now ≡ keys_of known ++ s.dimensions ∷ []
pushed_keys known now s e = ap keys_of e ∙ map-push (λ x. x.dimensions) known s

pub keeps_pushed : (known now : List ShardingValue) (s : ShardingValue) → now ≡ known ++ s ∷ [] → KeepsNumbers (keys_of known) (keys_of now)
keeps_pushed known now s e = rw (pushed_keys known now s e) record {
  keeps = λ i ds at. slice_get-kept (keys_of known) (s.dimensions ∷ []) i ds at;
  longer = let l = length-append (keys_of known) (s.dimensions ∷ []) in omega (arith, l);
}

pub pushed_codes : (codes new : List (List ℕ)) (known now : List ShardingValue) (s : ShardingValue) (code : List ℕ) →
    codes ≡ map code_of (keys_of known) → new ≡ codes ++ code ∷ [] → code ≡ code_of s.dimensions → now ≡ known ++ s ∷ [] →
    new ≡ map code_of (keys_of now)
pushed_codes codes new known now s code are new_is code_is now_is =
    new_is ∙ ap (λ l. l ++ code ∷ []) are ∙ ap (λ c. map code_of (keys_of known) ++ c ∷ []) code_is
    ∙ sym (map-push code_of (keys_of known) s.dimensions) ∙ ap (λ l. map code_of l) (sym (pushed_keys known now s now_is))

-- what a set of such lists has after one was offered
pub inserted : (keys new : List (List ℕ)) (code : List ℕ) (is_new : Bool) → is_new ≡ not (list_any (pointwise nat_eq code) keys) →
    new ≡ (if list_any (pointwise nat_eq code) keys then keys else keys ++ code ∷ []) → is_new ≡ true → new ≡ keys ++ code ∷ []
inserted keys new code is_new added e is = by (list_any (pointwise nat_eq code) keys) (sym added ∙ is) e
  where
    by : (b : Bool) → not b ≡ true → new ≡ (if b then keys else keys ++ code ∷ []) → new ≡ keys ++ code ∷ []
    by true h e' = absurd (cc)
    by false h e' = e'

pub not_inserted : (keys new : List (List ℕ)) (code : List ℕ) (is_new : Bool) → is_new ≡ not (list_any (pointwise nat_eq code) keys) →
    new ≡ (if list_any (pointwise nat_eq code) keys then keys else keys ++ code ∷ []) → is_new ≡ false → new ≡ keys
not_inserted keys new code is_new added e is = by (list_any (pointwise nat_eq code) keys) (sym added ∙ is) e
  where
    by : (b : Bool) → not b ≡ false → new ≡ (if b then keys else keys ++ code ∷ []) → new ≡ keys
    by true h e' = e'
    by false h e' = absurd (cc)

pub all_pushed : (P : ShardingValue → Type 0) (known now : List ShardingValue) (s : ShardingValue) → All P known → P s → now ≡ known ++ s ∷ [] → All P now
all_pushed P known now s all p e = subst (All P) (sym e) (All-push P known s all p)
