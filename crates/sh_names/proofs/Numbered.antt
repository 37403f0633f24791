-- The numbers of names, as names are added.
use Rattle.std.proofs.Common.{◌≡◌, ℕ, suc, ◌+◌, ◌<◌, List, [], ◌∷◌, ◌++◌, Bool, true, false, not, ◌&&◌, ◌||◌, cond, nat_eq, map, filter, length, take, slice_index_or, refl, sym, ◌∙◌, ap, append_assoc, true≢false, if◌then◌else◌, arith}
use Rattle.std.specs.Prelude.{Option, Some, None}
use Rattle.std.specs.List.{list_any, position_or_len}
use Rattle.std.specs.Option.{option_eq}
use Rattle.std.specs.Cmp.Lexicographic.{pointwise}
use Rattle.std.proofs.lemmas.List.{append-nil}
use Rattle.std.proofs.lemmas.List.Folds.{list_any-append}
use Rattle.std.proofs.lemmas.Bool.{eq-eqb}
use Rattle.indexmap.specs.IndexSet.{insert_key}
use Rattle.sh_names.specs.Names.{Owned, number_among, same_owned, same_region}
use Rattle.sh_names.specs.Tables.{IsNumbering, count_by, count_in, names_in, numbers_behind, owned_of, with_name}
use Rattle.sh_names.specs.declared.numbering.Name.{Name}
use Rattle.sh_names.specs.declared.numbering.Numbering.{Numbering}
use Rattle.sh_names.proofs.Owned.{owned_equal, owned_self}

unit_same : (x k : Owned) → same_owned x k ≡ true → nat_eq k.unit x.unit ≡ true
unit_same x k e = let same : x ≡ k = owned_equal x k e in eq-eqb k.unit x.unit (ap (λ (o : Owned). o.unit) (sym same))

one_plus : (n : ℕ) → 1 + n ≡ suc n
one_plus n = omega arith

-- where a name is, by whether it is the first
place_of : (s : Bool) (x k : Owned) (ks : List Owned) → same_owned x k ≡ s
    → position_or_len (same_owned x) (k ∷ ks) ≡ cond s 0 (suc (position_or_len (same_owned x) ks))
place_of true x k ks e = rw e refl
place_of false x k ks e = rw e (one_plus (position_or_len (same_owned x) ks))

place_step : (x k : Owned) (ks : List Owned) (q : ℕ) (s u : Bool) → same_owned x k ≡ s → nat_eq k.unit x.unit ≡ u
    → number_among ks x ≡ count_in x.unit (take q ks)
    → number_among (k ∷ ks) x ≡ count_in x.unit (take (cond s 0 (suc q)) (k ∷ ks))
place_step x k ks q true true e f h = rw (f, e) refl
place_step x k ks q true false e f h = absurd (true≢false (sym (unit_same x k e) ∙ f))
place_step x k ks q false true e f h = rw (f, e) (one_plus (number_among ks x) ∙ ap suc h)
place_step x k ks q false false e f h = rw f h

-- the number of a name is how many of its function or map stand before it
pub place_in_unit : (x : Owned) (ks : List Owned)
    → number_among ks x ≡ count_in x.unit (take (position_or_len (same_owned x) ks) ks)
place_in_unit x [] = refl
place_in_unit x (k ∷ ks) =
    place_step x k ks (position_or_len (same_owned x) ks) (same_owned x k) (nat_eq k.unit x.unit) refl refl (place_in_unit x ks)
    ∙ ap (λ p. count_in x.unit (take p (k ∷ ks))) (sym (place_of (same_owned x k) x k ks refl))

at_step : (x k : Owned) (before ks : List Owned) (d q : ℕ) (s : Bool) → same_owned x k ≡ s
    → list_any (same_owned x) (k ∷ ks) ≡ true
    → (list_any (same_owned x) ks ≡ true
    → slice_index_or (numbers_behind (before ++ k ∷ []) ks) q d ≡ count_in x.unit ((before ++ k ∷ []) ++ take q ks))
    → slice_index_or (numbers_behind before (k ∷ ks)) (cond s 0 (suc q)) d
    ≡ count_in x.unit (before ++ take (cond s 0 (suc q)) (k ∷ ks))
at_step x k before ks d q true e there rest =
    let same : k ≡ x = sym (owned_equal x k e) in
    ap (λ (o : Owned). count_in o.unit before) same ∙ ap (count_in x.unit) (sym (append-nil before))
at_step x k before ks d q false e there rest =
    let more : list_any (same_owned x) ks ≡ true = sym (ap (λ b. b || list_any (same_owned x) ks) e) ∙ there in
    rest more ∙ ap (count_in x.unit) (append_assoc before (k ∷ []) (take q ks))

number_behind : (x : Owned) (before ks : List Owned) (d : ℕ) → list_any (same_owned x) ks ≡ true
    → slice_index_or (numbers_behind before ks) (position_or_len (same_owned x) ks) d
    ≡ count_in x.unit (before ++ take (position_or_len (same_owned x) ks) ks)
number_behind x before [] d there = cc
number_behind x before (k ∷ ks) d there =
    let at = place_of (same_owned x k) x k ks refl in
    ap (λ p. slice_index_or (numbers_behind before (k ∷ ks)) p d) at
    ∙ at_step x k before ks d (position_or_len (same_owned x) ks) (same_owned x k) refl there (number_behind x (before ++ k ∷ []) ks d)
    ∙ ap (λ p. count_in x.unit (before ++ take p (k ∷ ks))) (sym at)

-- the number that stands where a name does
pub number_there : (x : Owned) (ks : List Owned) (d : ℕ) → list_any (same_owned x) ks ≡ true
    → slice_index_or (numbers_behind [] ks) (position_or_len (same_owned x) ks) d ≡ number_among ks x
number_there x ks d there = number_behind x [] ks d there ∙ sym (place_in_unit x ks)

pub numbers_more : (x : Owned) (before ks : List Owned)
    → numbers_behind before (ks ++ x ∷ []) ≡ numbers_behind before ks ++ count_in x.unit (before ++ ks) ∷ []
numbers_more x before [] = ap (λ b. count_in x.unit b ∷ []) (sym (append-nil before))
numbers_more x before (k ∷ ks) =
    ap (λ ns. count_in k.unit before ∷ ns) (numbers_more x (before ++ k ∷ []) ks
    ∙ ap (λ b. numbers_behind (before ++ k ∷ []) ks ++ count_in x.unit b ∷ []) (append_assoc before (k ∷ []) ks))

one_more : (b c : Bool) (n m : ℕ) → n ≡ (if b then suc m else m)
    → cond c (suc n) n ≡ (if b then suc (cond c (suc m) m) else cond c (suc m) m)
one_more true true n m e = ap suc e
one_more true false n m e = e
one_more false true n m e = ap suc e
one_more false false n m e = e

length_cond : (c : Bool) (k : Owned) (xs : List Owned) → length (cond c (k ∷ xs) xs) ≡ cond c (suc (length xs)) (length xs)
length_cond true k xs = refl
length_cond false k xs = refl

pub count_more : (u : ℕ) (x : Owned) (ks : List Owned)
    → count_in u (ks ++ x ∷ []) ≡ (if nat_eq x.unit u then suc (count_in u ks) else count_in u ks)
count_more u x [] = length_cond (nat_eq x.unit u) x []
count_more u x (k ∷ ks) =
    length_cond (nat_eq k.unit u) k (filter (λ y. nat_eq y.unit u) (ks ++ x ∷ []))
    ∙ one_more (nat_eq x.unit u) (nat_eq k.unit u) (count_in u (ks ++ x ∷ [])) (count_in u ks) (count_more u x ks)
    ∙ ap (λ n. if nat_eq x.unit u then suc n else n) (sym (length_cond (nat_eq k.unit u) k (filter (λ y. nat_eq y.unit u) ks)))

-- ## Keys of the table

abbrev same_key : Name → Name → Bool
same_key a b = nat_eq a.unit b.unit && (option_eq nat_eq a.region b.region && pointwise nat_eq a.text.now b.text.now)

same_regions : (a b : Option ℕ) → option_eq nat_eq a b ≡ same_region a b
same_regions None None = refl
same_regions None (Some b) = refl
same_regions (Some a) None = refl
same_regions (Some a) (Some b) = refl

all_three : (a b c : Bool) → (a && (b && c)) ≡ (a && b && c)
all_three true b c = refl
all_three false b c = refl

pub alike : (a b : Name) → same_key a b ≡ same_owned (owned_of a) (owned_of b)
alike a b =
    ap (λ r. nat_eq a.unit b.unit && (r && pointwise nat_eq a.text.now b.text.now)) (same_regions a.region b.region)
    ∙ all_three (nat_eq a.unit b.unit) (same_region a.region b.region) (pointwise nat_eq a.text.now b.text.now)

module _ (eq : Name → Name → Bool) (same : (a b : Name) → eq a b ≡ same_owned (owned_of a) (owned_of b)) (k : Name) where
  any_keyed : (ks : List Name) → list_any (eq k) ks ≡ list_any (same_owned (owned_of k)) (map owned_of ks)
  any_keyed [] = refl
  any_keyed (l ∷ ks) =
      ap (λ b. b || list_any (eq k) ks) (same k l)
      ∙ ap (λ b. same_owned (owned_of k) (owned_of l) || b) (any_keyed ks)

  pub place_keyed : (ks : List Name) → position_or_len (eq k) ks ≡ position_or_len (same_owned (owned_of k)) (map owned_of ks)
  place_keyed [] = refl
  place_keyed (l ∷ ks) =
      ap (λ b. cond (not b) (1 + position_or_len (eq k) ks) 0) (same k l)
      ∙ ap (λ n. cond (not (same_owned (owned_of k) (owned_of l))) (1 + n) 0) (place_keyed ks)

  mapped_push : (ks : List Name) → map owned_of (ks ++ k ∷ []) ≡ map owned_of ks ++ owned_of k ∷ []
  mapped_push [] = refl
  mapped_push (l ∷ ks) = ap (λ xs. owned_of l ∷ xs) (mapped_push ks)

  chosen : (b : Bool) (ks : List Name) → map owned_of (if b then ks else ks ++ k ∷ [])
      ≡ (if b then map owned_of ks else map owned_of ks ++ owned_of k ∷ [])
  chosen true ks = refl
  chosen false ks = mapped_push ks

  pub keys_keyed : (ks new : List Name) → new ≡ insert_key eq ks k → map owned_of new ≡ with_name (map owned_of ks) (owned_of k)
  keys_keyed ks new e =
      ap (map owned_of) e ∙ chosen (list_any (eq k) ks) ks
      ∙ ap (λ b. if b then map owned_of ks else map owned_of ks ++ owned_of k ∷ []) (any_keyed ks)

  pub known_keyed : (ks : List Name) (is_new : Bool) → is_new ≡ not (list_any (eq k) ks)
      → is_new ≡ not (list_any (same_owned (owned_of k)) (map owned_of ks))
  known_keyed ks is_new e = e ∙ ap not (any_keyed ks)

not_false : (b : Bool) → true ≡ not b → b ≡ false
not_false true e = cc
not_false false e = refl

not_true : (b : Bool) → false ≡ not b → b ≡ true
not_true true e = refl
not_true false e = cc

module _ (n m : Numbering) (x : Owned) (known : IsNumbering n) (names : names_in m ≡ with_name (names_in n) x) where
  -- a new name is counted
  pub numbering_more : true ≡ not (list_any (same_owned x) (names_in n))
      → m.numbers.items ≡ n.numbers.items ++ count_by n.counts x.unit ∷ []
      → ((other : ℕ) → count_by m.counts other
      ≡ (if nat_eq x.unit other then suc (count_by n.counts other) else count_by n.counts other))
      → IsNumbering m
  numbering_more is_new numbers counts =
      let absent = not_false (list_any (same_owned x) (names_in n)) is_new in
      let all : names_in m ≡ names_in n ++ x ∷ [] =
      names ∙ ap (λ b. if b then names_in n else names_in n ++ x ∷ []) absent in
      record {
        numbers =
            numbers ∙ ap (λ ns. ns ++ count_by n.counts x.unit ∷ []) known.numbers
            ∙ ap (λ c. numbers_behind [] (names_in n) ++ c ∷ []) (known.counts x.unit)
            ∙ sym (numbers_more x [] (names_in n)) ∙ ap (numbers_behind []) (sym all);
        counts = λ u.
            counts u ∙ ap (λ c. if nat_eq x.unit u then suc c else c) (known.counts u)
            ∙ sym (count_more u x (names_in n)) ∙ ap (count_in u) (sym all);
      }

  -- a known one changes nothing
  pub numbering_same : false ≡ not (list_any (same_owned x) (names_in n)) → m.numbers ≡ n.numbers → m.counts ≡ n.counts → IsNumbering m
  numbering_same is_known numbers counts =
      let there = not_true (list_any (same_owned x) (names_in n)) is_known in
      let all : names_in m ≡ names_in n =
      names ∙ ap (λ b. if b then names_in n else names_in n ++ x ∷ []) there in
      record {
        numbers = ap (λ v. v.items) numbers ∙ known.numbers ∙ ap (numbers_behind []) (sym all);
        counts = λ u. ap (λ c. count_by c u) counts ∙ known.counts u ∙ ap (count_in u) (sym all);
      }

place_push : (x : Owned) (ks : List Owned) → position_or_len (same_owned x) (ks ++ x ∷ []) ≡ position_or_len (same_owned x) ks
place_push x [] = rw (owned_self x) refl
place_push x (k ∷ ks) = ap (λ n. cond (not (same_owned x k)) (1 + n) 0) (place_push x ks)

there_push : (x : Owned) (ks : List Owned) → list_any (same_owned x) (ks ++ x ∷ []) ≡ true
there_push x [] = rw (owned_self x) refl
there_push x (k ∷ ks) = rw (there_push x ks) (or_true (same_owned x k))
  where
    or_true : (b : Bool) → (b || true) ≡ true
    or_true true = refl
    or_true false = refl

place_with : (x : Owned) (ks : List Owned) (b : Bool)
    → position_or_len (same_owned x) (if b then ks else ks ++ x ∷ []) ≡ position_or_len (same_owned x) ks
place_with x ks true = refl
place_with x ks false = place_push x ks

there_with : (x : Owned) (ks : List Owned) (b : Bool) → list_any (same_owned x) ks ≡ b
    → list_any (same_owned x) (if b then ks else ks ++ x ∷ []) ≡ true
there_with x ks true e = e
there_with x ks false e = there_push x ks

-- a name is there once it is added
pub there_added : (x : Owned) (ks : List Owned) → list_any (same_owned x) (with_name ks x) ≡ true
there_added x ks = there_with x ks (list_any (same_owned x) ks) refl

pub place_added : (x : Owned) (ks : List Owned) → position_or_len (same_owned x) (with_name ks x) ≡ position_or_len (same_owned x) ks
place_added x ks = place_with x ks (list_any (same_owned x) ks)

length_behind : (before ks : List Owned) → length (numbers_behind before ks) ≡ length ks
length_behind before [] = refl
length_behind before (k ∷ ks) = ap suc (length_behind (before ++ k ∷ []) ks)

below_step : (b : Bool) (x k : Owned) (ks : List Owned) → same_owned x k ≡ b → list_any (same_owned x) (k ∷ ks) ≡ true
    → (list_any (same_owned x) ks ≡ true → position_or_len (same_owned x) ks < length ks)
    → cond b 0 (suc (position_or_len (same_owned x) ks)) < length (k ∷ ks)
below_step true x k ks e there rest = omega arith
below_step false x k ks e there rest =
    let more : list_any (same_owned x) ks ≡ true = sym (ap (λ b. b || list_any (same_owned x) ks) e) ∙ there in
    let less = rest more in
    omega arith

place_below : (x : Owned) (ks : List Owned) → list_any (same_owned x) ks ≡ true → position_or_len (same_owned x) ks < length ks
place_below x [] e = cc
place_below x (k ∷ ks) e =
    rw (place_of (same_owned x k) x k ks refl) (below_step (same_owned x k) x k ks refl e (place_below x ks))

module _ (n : Numbering) (x : Owned) (old : List Owned) (known : IsNumbering n) (names : names_in n ≡ with_name old x)
    (at : ℕ) (place : at ≡ position_or_len (same_owned x) old) where
  is_there : list_any (same_owned x) (names_in n) ≡ true
  is_there = ap (list_any (same_owned x)) names ∙ there_added x old

  same_place : at ≡ position_or_len (same_owned x) (names_in n)
  same_place = place ∙ sym (place_added x old) ∙ ap (position_or_len (same_owned x)) (sym names)

  pub place_counts : at < length n.numbers.items
  place_counts = rw (same_place, known.numbers, length_behind [] (names_in n)) (place_below x (names_in n) is_there)

  pub number_counts : (d : ℕ) → slice_index_or n.numbers.items at d ≡ number_among (names_in n) x
  number_counts d = rw (same_place, known.numbers) (number_there x (names_in n) d is_there)

-- ## Names that are there keep their numbers

stays_step : (x k : Owned) (ks ys : List Owned) (s u : Bool) → same_owned x k ≡ s → nat_eq k.unit x.unit ≡ u
    → list_any (same_owned x) (k ∷ ks) ≡ true
    → (list_any (same_owned x) ks ≡ true → number_among (ks ++ ys) x ≡ number_among ks x)
    → number_among (k ∷ (ks ++ ys)) x ≡ number_among (k ∷ ks) x
stays_step x k ks ys true true e f there rest = rw (f, e) refl
stays_step x k ks ys true false e f there rest = absurd (true≢false (sym (unit_same x k e) ∙ f))
stays_step x k ks ys false true e f there rest =
    let more : list_any (same_owned x) ks ≡ true = sym (ap (λ b. b || list_any (same_owned x) ks) e) ∙ there in
    rw (f, e) (ap (λ n. 1 + n) (rest more))
stays_step x k ks ys false false e f there rest =
    let more : list_any (same_owned x) ks ≡ true = sym (ap (λ b. b || list_any (same_owned x) ks) e) ∙ there in
    rw f (rest more)

number_behind_more : (x : Owned) (ks ys : List Owned) → list_any (same_owned x) ks ≡ true
    → number_among (ks ++ ys) x ≡ number_among ks x
number_behind_more x [] ys there = cc
number_behind_more x (k ∷ ks) ys there =
    stays_step x k ks ys (same_owned x k) (nat_eq k.unit x.unit) refl refl there (number_behind_more x ks ys)

any_more : (x y : Owned) (ks : List Owned) → list_any (same_owned x) ks ≡ true → list_any (same_owned x) (ks ++ y ∷ []) ≡ true
any_more x y ks there =
    list_any-append (same_owned x) ks (y ∷ []) ∙ ap (λ b. b || list_any (same_owned x) (y ∷ [])) there

number_chosen : (x y : Owned) (ks : List Owned) (b : Bool) → list_any (same_owned x) ks ≡ true
    → number_among (if b then ks else ks ++ y ∷ []) x ≡ number_among ks x
number_chosen x y ks true there = refl
number_chosen x y ks false there = number_behind_more x ks (y ∷ []) there

there_chosen : (x y : Owned) (ks : List Owned) (b : Bool) → list_any (same_owned x) ks ≡ true
    → list_any (same_owned x) (if b then ks else ks ++ y ∷ []) ≡ true
there_chosen x y ks true there = there
there_chosen x y ks false there = any_more x y ks there

pub number_stays : (x y : Owned) (ks : List Owned) → list_any (same_owned x) ks ≡ true
    → number_among (with_name ks y) x ≡ number_among ks x
number_stays x y ks there = number_chosen x y ks (list_any (same_owned y) ks) there

pub there_stays : (x y : Owned) (ks : List Owned) → list_any (same_owned x) ks ≡ true
    → list_any (same_owned x) (with_name ks y) ≡ true
there_stays x y ks there = there_chosen x y ks (list_any (same_owned y) ks) there

-- the first of three names that are added keeps its number
pub first_of_three : (x y z : Owned) (old one two three : List Owned) → one ≡ with_name old x → two ≡ with_name one y
    → three ≡ with_name two z → number_among three x ≡ number_among one x
first_of_three x y z old one two three a b c =
    let here : list_any (same_owned x) one ≡ true = ap (list_any (same_owned x)) a ∙ there_added x old in
    let later : list_any (same_owned x) two ≡ true = ap (list_any (same_owned x)) b ∙ there_stays x y one here in
    ap (λ ks. number_among ks x) c ∙ number_stays x z two later ∙ ap (λ ks. number_among ks x) b ∙ number_stays x y one here
