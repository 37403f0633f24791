-- Distinct names, as a set of them grows; and tests of the types at the head of a function.
use mathlib.Core.Path.{◌∙◌, ap, sym, refl}
use mathlib.Core.Bool.{true≢false}
use Rattle.std.proofs.Common.{◌≡◌, ℕ, ◌+◌, ◌<◌, List, [], ◌∷◌, ◌++◌, Bool, true, false, not, ◌&&◌, ◌||◌, cond, length, drop, take, nat_eq, arith}
use Rattle.std.proofs.lemmas.Grind.{common_steps}
use Rattle.std.proofs.lemmas.List.{get_or-map, length-map, take-append-drop, take_more}
use Rattle.std.proofs.lemmas.List.Folds.{list_any-append}
use Rattle.std.specs.Prelude.{get_or, map}
use Rattle.std.specs.List.{list_any}
use Rattle.indexmap.specs.IndexSet.{insert_key}
use Rattle.sh_ir.specs.declared.functions.Arg.{Arg}
use Rattle.sh_ir.specs.Numbers.{are_distinct}
use Rattle.sh_ir.specs.Regions.{is_among}
use Rattle.sh_verify.proofs.LeastLaws.{next_drop}

-- ---- tests of parts

pub list_any-map : {X Y : Type 0} (p : X → Bool) (h : Y → X) (ys : List Y) → list_any p (map h ys) ≡ list_any (λ y. p (h y)) ys
list_any-map p h [] = refl
list_any-map p h (y ∷ ys) = ap (λ b. p (h y) || b) (list_any-map p h ys)

-- ---- distinct names

among_at_end : (names : List ℕ) (name n : ℕ) → is_among (names ++ name ∷ []) n ≡ (is_among names n || nat_eq n name)
among_at_end names name n =
    list_any-append (nat_eq n) names (name ∷ []) ∙ ap (λ b. is_among names n || b) (last (nat_eq n name))
  where
    last : (b : Bool) → (b || false) ≡ b
    last true = refl
    last false = refl

-- A further name that isn't among them leaves them distinct.
distinct_more : (names : List ℕ) (name : ℕ) → are_distinct names ≡ true → is_among names name ≡ false
    → are_distinct (names ++ name ∷ []) ≡ true
distinct_more [] name d n = refl
distinct_more (x ∷ xs) name d n =
    by (is_among xs x) (nat_eq name x) refl refl d n (distinct_more xs name)
  where
    by : (again here : Bool) → is_among xs x ≡ again → nat_eq name x ≡ here
        → (not again && are_distinct xs) ≡ true → (here || is_among xs name) ≡ false
        → (are_distinct xs ≡ true → is_among xs name ≡ false → are_distinct (xs ++ name ∷ []) ≡ true)
        → (not (is_among (xs ++ name ∷ []) x) && are_distinct (xs ++ name ∷ [])) ≡ true
    by true here a h d n rest = absurd (true≢false (sym d))
    by false true a h d n rest = absurd (true≢false n)
    by false false a h d n rest =
        let other : nat_eq x name ≡ false = grind (arith, common_steps) in
        let none : is_among (xs ++ name ∷ []) x ≡ false = among_at_end xs name x ∙ (ap (λ b. b || nat_eq x name) a ∙ other) in
        ap (λ b. not b && are_distinct (xs ++ name ∷ [])) none ∙ rest d n

-- One that is among them doesn't, whatever follows.
distinct_broken : (names : List ℕ) (name : ℕ) (more : List ℕ) → is_among names name ≡ true
    → are_distinct (names ++ name ∷ more) ≡ false
distinct_broken [] name more n = absurd (true≢false (sym n))
distinct_broken (x ∷ xs) name more n = by (nat_eq name x) refl n (distinct_broken xs name more)
  where
    never : (b : Bool) → (not (b || true) && are_distinct (xs ++ name ∷ more)) ≡ false
    never true = refl
    never false = refl

    second : (b : Bool) → (b && false) ≡ false
    second true = refl
    second false = refl

    by : (here : Bool) → nat_eq name x ≡ here → (here || is_among xs name) ≡ true
        → (is_among xs name ≡ true → are_distinct (xs ++ name ∷ more) ≡ false)
        → (not (is_among (xs ++ name ∷ more) x) && are_distinct (xs ++ name ∷ more)) ≡ false
    by true h n rest =
        let same : nat_eq x name ≡ true = grind (arith, common_steps) in
        ap (λ b. not b && are_distinct (xs ++ name ∷ more))
        (list_any-append (nat_eq x) xs (name ∷ more) ∙ ap (λ b. is_among xs x || (b || is_among more x)) same)
        ∙ never (is_among xs x)
    by false h n rest =
        ap (λ b. not (is_among (xs ++ name ∷ more) x) && b) (rest n) ∙ second (not (is_among (xs ++ name ∷ more) x))

-- what a loop keeps: the set has the names so far, which are distinct
pub record AreSeen (keys names : List ℕ) (i : ℕ) : Type 0 where
  pub so_far : keys ≡ take i names
  pub distinct : are_distinct (take i names) ≡ true

not_among : (b added : Bool) → added ≡ not b → added ≡ true → b ≡ false
not_among true added e f = absurd (true≢false (sym f ∙ e))
not_among false added e f = refl

is_again : (b added : Bool) → added ≡ not b → added ≡ false → b ≡ true
is_again true added e f = refl
is_again false added e f = absurd (true≢false (sym e ∙ f))

pub seen_more : (keys new names : List ℕ) (i name : ℕ) (added : Bool) → AreSeen keys names i
    → i < length names → name ≡ get_or names i name
    → added ≡ not (is_among keys name) → new ≡ insert_key nat_eq keys name → added ≡ true
    → AreSeen new names (i + 1)
seen_more keys new names i name added seen within read asked inserted fresh =
    let none : is_among keys name ≡ false = not_among (is_among keys name) added asked fresh in
    let more : take (i + 1) names ≡ take i names ++ name ∷ [] =
    take_more names i name within ∙ ap (λ n. take i names ++ n ∷ []) (sym read) in
    record {
      so_far = inserted ∙ (ap (λ b. cond b keys (keys ++ name ∷ [])) none ∙ (ap (λ l. l ++ name ∷ []) seen.so_far ∙ sym more));
      distinct = ap are_distinct more
          ∙ distinct_more (take i names) name seen.distinct (ap (λ l. is_among l name) (sym seen.so_far) ∙ none);
    }

pub seen_again : (keys names : List ℕ) (i name : ℕ) (added : Bool) → AreSeen keys names i
    → i < length names → name ≡ get_or names i name
    → added ≡ not (is_among keys name) → added ≡ false
    → false ≡ are_distinct names
seen_again keys names i name added seen within read asked stale =
    let there : is_among (take i names) name ≡ true =
    ap (λ l. is_among l name) (sym seen.so_far) ∙ is_again (is_among keys name) added asked stale in
    let whole : names ≡ take i names ++ (name ∷ drop (i + 1) names) =
    sym (take-append-drop i names) ∙ ap (λ l. take i names ++ l) (next_drop names i name within read) in
    sym (ap are_distinct whole ∙ distinct_broken (take i names) name (drop (i + 1) names) there)

-- ---- the names of arguments

abbrev pub ids : List Arg → List ℕ
ids args = map (λ arg. arg.id) args

pub id_within : (args : List Arg) (i : ℕ) → i < length args → i < length (ids args)
id_within args i within = omega (arith, length-map args (λ (a : Arg). a.id))

pub id_read : (args : List Arg) (i : ℕ) (arg : Arg) → i < length args → arg ≡ get_or args i arg → arg.id ≡ get_or (ids args) i arg.id
id_read args i arg within read = ap (λ (a : Arg). a.id) read ∙ sym (get_or-map (λ (a : Arg). a.id) args i arg arg.id within)
