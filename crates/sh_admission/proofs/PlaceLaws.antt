-- Tables of names: one more entry, and what is found by them.
use mathlib.Core.Path.{◌∙◌, ap, sym, refl}
use mathlib.Core.Bool.{true≢false}
use Rattle.std.proofs.Common.{◌≡◌, ℕ, zero, suc, List, [], ◌∷◌, ◌++◌, Bool, true, false, ◌&&◌, cond, nat_eq, length, map, take, slice_get, arith}
use Rattle.std.proofs.lemmas.Grind.{common_steps}
use Rattle.std.proofs.lemmas.Option.{none-some, same_Some}
use Rattle.std.specs.Prelude.{Option, Some, None, is_none, is_some, if◌then◌else◌, option_and_then}
use Rattle.std.specs.Borrow.{Bor}
use Rattle.std.specs.Cmp.Lexicographic.{pointwise}
use Rattle.std.specs.Map.{lookup}
use Rattle.std.specs.Option.{option_map, option_or}
use Rattle.sh_ir.specs.declared.modules.GridItem.{GridItem}
use Rattle.sh_ir.specs.Scope.{grid_item, same_text}
use Rattle.sh_admission.specs.Places.{HasPlaces, place_of}

-- ---- texts

same_self : (t : List ℕ) → same_text t t ≡ true
same_self [] = refl
same_self (b ∷ bs) = let e : nat_eq b b ≡ true = grind (arith, common_steps) in rw e (same_self bs)

same_sym : (s t : List ℕ) → same_text s t ≡ same_text t s
same_sym [] [] = refl
same_sym [] (c ∷ cs) = refl
same_sym (b ∷ bs) [] = refl
same_sym (b ∷ bs) (c ∷ cs) =
    let e : nat_eq b c ≡ nat_eq c b = grind (arith, common_steps) in
    rw e (ap (λ r. nat_eq c b && r) (same_sym bs cs))

pub same_when : (s t : List ℕ) → same_text s t ≡ true → s ≡ t
same_when [] [] e = refl
same_when [] (c ∷ cs) e = absurd (true≢false (sym e))
same_when (b ∷ bs) [] e = absurd (true≢false (sym e))
same_when (b ∷ bs) (c ∷ cs) e = by (nat_eq b c) refl (same_when bs cs) e
  where
    by : (first : Bool) → nat_eq b c ≡ first → (same_text bs cs ≡ true → bs ≡ cs)
        → (first && same_text bs cs) ≡ true → b ∷ bs ≡ c ∷ cs
    by true same tails rest =
        let here : b ≡ c = grind (arith, common_steps) in
        ap (λ x. x ∷ bs) here ∙ ap (λ l. c ∷ l) (tails rest)
    by false same tails rest = absurd (true≢false (sym rest))

-- ---- a further name

found_at_end : {K : Type 0} (test : K → Bool) (es : List (K × ℕ)) (k : K) (v : ℕ)
    → lookup test (es ++ (k, v) ∷ []) ≡ option_or (lookup test es) (if test k then Some v else None)
found_at_end test [] k v = refl
found_at_end test (e ∷ es) k v =
    ap (λ o. cond (test e.0) (Some e.1) o) (found_at_end test es k v) ∙ either (test e.0) (lookup test es)
  where
    last : Option ℕ
    last = if test k then Some v else None

    either : (b : Bool) (o : Option ℕ) → cond b (Some e.1) (option_or o last) ≡ option_or (cond b (Some e.1) o) last
    either true o = refl
    either false o = refl

next_place : (b : Bool) (o : Option ℕ) (c : Bool) (k : ℕ)
    → (if b then Some 0 else option_map suc (option_or o (if c then Some k else None)))
    ≡ option_or (if b then Some 0 else option_map suc o) (if c then Some (suc k) else None)
next_place true o c k = refl
next_place false None true k = refl
next_place false None false k = refl
next_place false (Some i) c k = refl

place_at_end : (names : List (List ℕ)) (n name : List ℕ)
    → place_of (names ++ n ∷ []) name ≡ option_or (place_of names name) (if same_text n name then Some (length names) else None)
place_at_end [] n name = refl
place_at_end (x ∷ xs) n name =
    ap (λ o. if same_text x name then Some 0 else option_map suc o) (place_at_end xs n name)
    ∙ next_place (same_text x name) (place_of xs name) (same_text n name) (length xs)

-- a name that isn't there is entered
pub places_entered : (entries new : List (Bor (List ℕ) × ℕ)) (key : Bor (List ℕ)) (at : ℕ) (names : List (List ℕ))
    → new ≡ entries ++ (key, at) ∷ [] → length names ≡ at → HasPlaces entries names → HasPlaces new (names ++ key.now ∷ [])
places_entered entries new key at names is long has = λ name.
    ap (λ es. lookup (λ k. pointwise nat_eq name k.now) es) is
    ∙ (found_at_end (λ k. pointwise nat_eq name k.now) entries key at
    ∙ (ap (λ o. option_or o (if same_text name key.now then Some at else None)) (has name)
    ∙ (ap (λ b. option_or (place_of names name) (if b then Some at else None)) (same_sym name key.now)
    ∙ (ap (λ n. option_or (place_of names name) (if same_text key.now name then Some n else None)) (sym long)
    ∙ sym (place_at_end names key.now name)))))

-- one that is there stays where it is
pub places_kept : (entries : List (Bor (List ℕ) × ℕ)) (key : List ℕ) (names : List (List ℕ))
    → is_some (lookup (λ k. pointwise nat_eq key k.now) entries) ≡ true → HasPlaces entries names → HasPlaces entries (names ++ key ∷ [])
places_kept entries key names there has = λ name.
    has name ∙ (by name (same_text key name) refl ∙ sym (place_at_end names key name))
  where
    some_first : (o p : Option ℕ) → is_some o ≡ true → o ≡ option_or o p
    some_first None p e = absurd (true≢false (sym e))
    some_first (Some i) p e = refl

    none_last : (o : Option ℕ) → o ≡ option_or o None
    none_last None = refl
    none_last (Some i) = refl

    by : (name : List ℕ) (b : Bool) → same_text key name ≡ b
        → place_of names name ≡ option_or (place_of names name) (if b then Some (length names) else None)
    by name true same =
        let there_too : is_some (place_of names name) ≡ true =
        ap is_some (sym (ap (λ n. place_of names n) (same_when key name same))) ∙ (ap is_some (sym (has key)) ∙ there) in
        some_first (place_of names name) (Some (length names)) there_too
    by name false same = none_last (place_of names name)

-- ---- what is found

module _ {X : Type 0} (name_of : X → List ℕ) (item : List X → List ℕ → Option X)
    (none : (n : List ℕ) → item [] n ≡ None)
    (first : (x : X) (xs : List X) (n : List ℕ) → item (x ∷ xs) n ≡ (if same_text (name_of x) n then Some x else item xs n)) where
  found_in : (xs : List X) (n : List ℕ) → option_and_then (slice_get xs) (place_of (map name_of xs) n) ≡ item xs n
  found_in [] n = sym (none n)
  found_in (x ∷ xs) n = by (same_text (name_of x) n) (place_of (map name_of xs) n) (found_in xs n) ∙ sym (first x xs n)
    where
      by : (b : Bool) (o : Option ℕ) → option_and_then (slice_get xs) o ≡ item xs n
          → option_and_then (slice_get (x ∷ xs)) (if b then Some 0 else option_map suc o) ≡ (if b then Some x else item xs n)
      by true o e = refl
      by false None e = e
      by false (Some i) e = e

pub grid_found : (grids : List GridItem) (n : List ℕ) → option_and_then (slice_get grids) (place_of (map (λ g. g.name) grids) n) ≡ grid_item grids n
grid_found grids n = found_in (λ (g : GridItem). g.name) grid_item (λ n. refl) (λ x xs n. refl) grids n

pub none_when : {X : Type 0} (o : Option X) → is_some o ≡ false → o ≡ None
none_when None e = refl
none_when (Some x) e = absurd (true≢false e)
