-- The least choice of lists without some of their repetitions is the least choice of the lists.
use Rattle.std.proofs.Common.{◌≡◌, ℕ, zero, suc, ◌+◌, ◌<◌, List, [], ◌∷◌, ◌++◌, length, map, get_or, drop, refl, ap, ap₂, sym, ◌∙◌, subst, append_assoc, arith}
use Rattle.std.proofs.lemmas.Grind.{flat_map-append}
use Rattle.std.proofs.lemmas.List.{append-nil, length-map, map-append, map-id, length-append}
use Rattle.std.proofs.lemmas.List.Elements.{Contains-append_left, Contains-append_right}
use Rattle.std.specs.List.{AllByRecursion, Contains, flat_map, range_with_len}
use Rattle.std.specs.Prelude.{Some, None}
use Rattle.sh_grid.specs.Grid.{GridValue}
use Rattle.sh_iface.specs.LoopNest.{Loop, LoopNest}
use Rattle.sh_iface.specs.Splits.{OptionValue}
use Rattle.sh_iface.specs.Valid.{IsValid, unsplit_loops}
use Rattle.sh_iface.proofs.SplitLists.{all_at}
use Rattle.sh_choose.specs.declared.chosen.Chosen.{Chosen}
use Rattle.sh_choose.specs.declared.chosen.Known.{Known}
use Rattle.sh_choose.specs.declared.chosen.Weight.{Weight}
use Rattle.sh_choose.specs.Least.{IsBest, IsChosen, IsFirstLeast}
use Rattle.sh_choose.specs.Proposals.{choices, options_of, proposals, proposals_by}
use Rattle.sh_choose.specs.Thinned.{AreThinned, IsThinned, kept, left_out, nothing}
use Rattle.sh_choose.specs.Weights.{IsAtMost, IsLess, weight_of}
use Rattle.sh_choose.proofs.BestLaws.{all_append, all_weaker, less_at_most}

-- ---- elements

contained : {X : Type 0} (P : X → Type 0) (ys : List X) (y : X) → AllByRecursion P ys → Contains ys y → P y
contained P ys y h c = subst P c.2 (all_at P ys y c.0 h c.1)

all_front : {X : Type 0} (P : X → Type 0) (xs ys : List X) → AllByRecursion P (xs ++ ys) → AllByRecursion P xs
all_front P [] ys h = tt
all_front P (x ∷ xs) ys h = (h.0, all_front P xs ys h.1)

all_behind : {X : Type 0} (P : X → Type 0) (xs ys : List X) → AllByRecursion P (xs ++ ys) → AllByRecursion P ys
all_behind P [] ys h = h
all_behind P (x ∷ xs) ys h = all_behind P xs ys h.1

all_from : {X : Type 0} (P : X → Type 0) (xs : List X) → ((x : X) → Contains xs x → P x) → AllByRecursion P xs
all_from P [] h = tt
all_from P (x ∷ xs) h = (h x (0, omega arith, refl), all_from P xs (λ y c. h y (suc c.0, omega (arith, c.1), c.2)))

get_mapped : {X Y : Type 0} (f : X → Y) (xs : List X) (k : ℕ) (d : X) → get_or (map f xs) k (f d) ≡ f (get_or xs k d)
get_mapped f [] k d = refl
get_mapped f (x ∷ xs) zero d = refl
get_mapped f (x ∷ xs) (suc k) d = get_mapped f xs k d

contains_map : {X Y : Type 0} (f : X → Y) (xs : List X) (x : X) → Contains xs x → Contains (map f xs) (f x)
contains_map f xs x c = (c.0, omega (arith, c.1, length-map xs f), get_mapped f xs c.0 x ∙ ap f c.2)

contains_flat : {X Y : Type 0} (f : X → List Y) (xs : List X) (x : X) (y : Y) (k : ℕ) → k < length xs → get_or xs k x ≡ x → Contains (f x) y → Contains (flat_map f xs) y
contains_flat f [] x y k l e c = absurd (omega arith)
contains_flat f (z ∷ xs) x y zero l e c = Contains-append_left (f z) (flat_map f xs) y (subst (λ w. Contains (f w) y) (sym e) c)
contains_flat f (z ∷ xs) x y (suc k) l e c = Contains-append_right (f z) (flat_map f xs) y (contains_flat f xs x y k (omega arith) e c)

-- ---- thinned lists

thinned_all : {X : Type 0} {xs ys : List X} (P : X → Type 0) → IsThinned xs ys → AllByRecursion P ys → AllByRecursion P xs
thinned_all P nothing h = tt
thinned_all P (kept {xs = xs} {ys = ys} x t) h =
    all_append P xs (x ∷ []) (thinned_all P t (all_front P ys (x ∷ []) h)) (all_behind P ys (x ∷ []) h)
thinned_all P (left_out {xs = xs} {ys = ys} x c t) h =
    all_append P xs (x ∷ []) (thinned_all P t h) (contained P ys x h c, tt)

thinned_contains : {X : Type 0} {xs ys : List X} → IsThinned xs ys → AllByRecursion (Contains ys) xs
thinned_contains {ys = ys} t = thinned_all (Contains ys) t (all_from (Contains ys) ys (λ y c. c))

-- elements that stand earlier
thinned_extra : {X : Type 0} (xs ys more : List X) → IsThinned xs ys → AllByRecursion (Contains ys) more → IsThinned (xs ++ more) ys
thinned_extra xs ys [] t h = subst (λ zs. IsThinned zs ys) (sym (append-nil xs)) t
thinned_extra xs ys (x ∷ more) t h =
    subst (λ zs. IsThinned zs ys) (append_assoc xs (x ∷ []) more) (thinned_extra (xs ++ x ∷ []) ys more (left_out x h.0 t) h.1)

snoc_mapped : {X Y : Type 0} (f : X → Y) (xs : List Y) (cs : List X) (c : X) → (xs ++ map f cs) ++ f c ∷ [] ≡ xs ++ map f (cs ++ c ∷ [])
snoc_mapped f xs cs c = append_assoc xs (map f cs) (f c ∷ []) ∙ ap (λ zs. xs ++ zs) (sym (map-append f cs (c ∷ [])))

thinned_mapped : {X Y : Type 0} {cs ds : List X} (f : X → Y) (xs ys : List Y) → IsThinned xs ys → IsThinned cs ds → IsThinned (xs ++ map f cs) (ys ++ map f ds)
thinned_mapped f xs ys t nothing = subst (λ zs. IsThinned (xs ++ []) zs) (sym (append-nil ys)) (subst (λ zs. IsThinned zs ys) (sym (append-nil xs)) t)
thinned_mapped f xs ys t (kept {xs = cs} {ys = ds} c u) =
    subst (λ zs. IsThinned zs (ys ++ map f (ds ++ c ∷ []))) (snoc_mapped f xs cs c)
    (subst (λ zs. IsThinned ((xs ++ map f cs) ++ f c ∷ []) zs) (snoc_mapped f ys ds c) (kept (f c) (thinned_mapped f xs ys t u)))
thinned_mapped f xs ys t (left_out {xs = cs} {ys = ds} c there u) =
    subst (λ zs. IsThinned zs (ys ++ map f ds)) (snoc_mapped f xs cs c)
    (left_out (f c) (Contains-append_right ys (map f ds) (f c) (contains_map f ds c there)) (thinned_mapped f xs ys t u))

-- ---- choices

abbrev starting : {X : Type 0} → List (List X) → X → List (List X)
starting cs x = map (λ rest. x ∷ rest) cs

flat_snoc : {X Y : Type 0} (f : X → List Y) (xs : List X) (x : X) → flat_map f (xs ++ x ∷ []) ≡ flat_map f xs ++ f x
flat_snoc f xs x = flat_map-append f xs (x ∷ []) ∙ ap (λ ys. flat_map f xs ++ ys) (append-nil (f x))

started_contained : {X : Type 0} (cs ds : List (List X)) (ys : List X) (x : X) → Contains ys x → AllByRecursion (Contains ds) cs → AllByRecursion (Contains (flat_map (starting ds) ys)) (starting cs x)
started_contained [] ds ys x there h = tt
started_contained (c ∷ cs) ds ys x there h =
    (contains_flat (starting ds) ys x (x ∷ c) there.0 there.1 there.2 (contains_map (λ rest. x ∷ rest) ds c h.0), started_contained cs ds ys x there h.1)

thinned_product : {X : Type 0} {xs ys : List X} (cs ds : List (List X)) → IsThinned cs ds → IsThinned xs ys → IsThinned (flat_map (starting cs) xs) (flat_map (starting ds) ys)
thinned_product cs ds u nothing = nothing
thinned_product cs ds u (kept {xs = xs} {ys = ys} x t) =
    subst (λ zs. IsThinned zs (flat_map (starting ds) (ys ++ x ∷ []))) (sym (flat_snoc (starting cs) xs x))
    (subst (λ zs. IsThinned (flat_map (starting cs) xs ++ starting cs x) zs) (sym (flat_snoc (starting ds) ys x))
    (thinned_mapped (λ rest. x ∷ rest) (flat_map (starting cs) xs) (flat_map (starting ds) ys) (thinned_product cs ds u t) u))
thinned_product cs ds u (left_out {xs = xs} {ys = ys} x there t) =
    subst (λ zs. IsThinned zs (flat_map (starting ds) ys)) (sym (flat_snoc (starting cs) xs x))
    (thinned_extra (flat_map (starting cs) xs) (flat_map (starting ds) ys) (starting cs x) (thinned_product cs ds u t)
    (started_contained cs ds ys x there (thinned_contains u)))

thinned_choices : {X : Type 0} (xss yss : List (List X)) → AreThinned xss yss → IsThinned (choices xss) (choices yss)
thinned_choices [] [] h = kept {xs = []} {ys = []} [] nothing
thinned_choices [] (ys ∷ yss) h = absurd h
thinned_choices (xs ∷ xss) [] h = absurd h
thinned_choices (xs ∷ xss) (ys ∷ yss) h = thinned_product (choices xss) (choices yss) (thinned_choices xss yss h.1) h.0

-- ---- the first of the least

at_most_again : (a : Weight) → IsAtMost a a
at_most_again a = record { user = omega arith; other = λ e. omega arith; points = λ e f. omega arith }

snoc_view : {X : Type 0} (x : X) (xs : List X) → (front : List X) × (last : X) × ((x ∷ xs) ≡ front ++ last ∷ [])
snoc_view x [] = ([], x, refl)
snoc_view x (y ∷ xs) = let v = snoc_view y xs in (x ∷ v.0, v.1, ap (λ zs. x ∷ zs) v.2)

snoc_front : {X : Type 0} (xs ys : List X) (a b : X) → xs ++ a ∷ [] ≡ ys ++ b ∷ [] → (xs ≡ ys) × (a ≡ b)
snoc_front [] [] a b e = (refl, ap (λ zs. get_or zs 0 a) e)
snoc_front [] (y ∷ ys) a b e = absurd (omega (arith, ap length (ap (drop 1) e), length-append ys (b ∷ [])))
snoc_front (x ∷ xs) [] a b e = absurd (omega (arith, ap length (ap (drop 1) e), length-append xs (a ∷ [])))
snoc_front (x ∷ xs) (y ∷ ys) a b e =
    let rest = snoc_front xs ys a b (ap (drop 1) e) in
    (ap₂ ◌∷◌ (ap (λ zs. get_or zs 0 x) e) rest.0, rest.1)

module _ {X : Type 0} (Valid : X → Type 0) (weight : X → Weight) where
  abbrev No_less : X → X → Type 0
  No_less x y = Valid y → IsAtMost (weight x) (weight y)

  none_less : {xs : List X} {x : X} → IsFirstLeast Valid weight xs x → AllByRecursion (No_less x) xs
  none_less {x = x} h =
      subst (AllByRecursion (No_less x)) (sym h.there)
      (all_append (No_less x) h.before (x ∷ h.after)
      (all_weaker (λ y. Valid y → IsLess (weight x) (weight y)) (No_less x) h.before (λ y p v. less_at_most (weight x) (weight y) (p v)) h.first)
      ((λ v. at_most_again (weight x)), h.least))

  -- one more behind, that isn't less
  least_longer : (xs : List X) (x y : X) → IsFirstLeast Valid weight xs x → No_less x y → IsFirstLeast Valid weight (xs ++ y ∷ []) x
  least_longer xs x y h n = record {
    before = h.before;
    after = h.after ++ y ∷ [];
    there = ap (λ zs. zs ++ y ∷ []) h.there ∙ append_assoc h.before (x ∷ h.after) (y ∷ []);
    valid = h.valid;
    first = h.first;
    least = all_append (No_less x) h.after (y ∷ []) h.least (n, tt);
  }

  -- the choice stands last, or earlier
  least_snoc : (xs ys : List X) (x y : X) (before after : List X) → IsThinned xs ys → before ++ x ∷ after ≡ ys ++ y ∷ []
      → Valid x → AllByRecursion (λ z. Valid z → IsLess (weight x) (weight z)) before → AllByRecursion (No_less x) after
      → ((least : IsFirstLeast Valid weight ys x) → IsFirstLeast Valid weight xs x) → IsFirstLeast Valid weight (xs ++ y ∷ []) x
  least_snoc xs ys x y before [] t e v f l rec =
      let same = snoc_front before ys x y e in
      record {
        before = xs;
        after = [];
        there = ap (λ z. xs ++ z ∷ []) (sym same.1);
        valid = v;
        first = thinned_all (λ z. Valid z → IsLess (weight x) (weight z)) t (subst (AllByRecursion (λ z. Valid z → IsLess (weight x) (weight z))) same.0 f);
        least = tt;
      }
  least_snoc xs ys x y before (z ∷ after) t e v f l rec =
      let view = snoc_view z after in
      let whole : (before ++ x ∷ view.0) ++ view.1 ∷ [] ≡ ys ++ y ∷ [] =
      append_assoc before (x ∷ view.0) (view.1 ∷ []) ∙ ap (λ zs. before ++ x ∷ zs) (sym view.2) ∙ e in
      let same = snoc_front (before ++ x ∷ view.0) ys view.1 y whole in
      let all = subst (AllByRecursion (No_less x)) view.2 l in
      least_longer xs x y
      (rec (record { before = before; after = view.0; there = sym same.0; valid = v; first = f; least = all_front (No_less x) view.0 (view.1 ∷ []) all }))
      (subst (No_less x) same.1 (all_behind (No_less x) view.0 (view.1 ∷ []) all).0)

  no_first : (before : List X) (x : X) (after : List X) → [] ≡ before ++ x ∷ after → ⊥
  no_first [] x after e = cc
  no_first (y ∷ before) x after e = cc

  thinned_least : {xs ys : List X} {x : X} → IsThinned xs ys → IsFirstLeast Valid weight ys x → IsFirstLeast Valid weight xs x
  thinned_least {x = x} nothing h = absurd (no_first h.before x h.after h.there)
  thinned_least {x = x} (kept {xs = xs} {ys = ys} y t) h =
      least_snoc xs ys x y h.before h.after t (sym h.there) h.valid h.first h.least (thinned_least t)
  thinned_least {x = x} (left_out {xs = xs} {ys = ys} y c t) h =
      least_longer xs x y (thinned_least t h) (contained (No_less x) ys y (none_less h) c)

  -- ---- there is one

  never_both : (x y : X) → IsLess (weight x) (weight y) → IsAtMost (weight y) (weight x) → ⊥
  never_both x y h k =
      let user : (weight x).user_differ ≡ (weight y).user_differ = omega (arith, h.user, k.user) in
      let other : (weight x).other_differ ≡ (weight y).other_differ = omega (arith, h.other user, k.other (sym user)) in
      omega (arith, h.points user other, k.points (sym user) (sym other))

  same_least : (b : List X) (o : X) (a : List X) (c : List X) (p : X) (d : List X) → b ++ o ∷ a ≡ c ++ p ∷ d → Valid o → Valid p
      → AllByRecursion (λ y. Valid y → IsLess (weight o) (weight y)) b → AllByRecursion (No_less o) a
      → AllByRecursion (λ y. Valid y → IsLess (weight p) (weight y)) c → AllByRecursion (No_less p) d → o ≡ p
  same_least [] o a [] p d e vo vp fo lo fp lp = ap (λ zs. get_or zs 0 o) e
  same_least [] o a (y ∷ c) p d e vo vp fo lo fp lp =
      let here : o ≡ y = ap (λ zs. get_or zs 0 o) e in
      let all = subst (AllByRecursion (No_less o)) (ap (drop 1) e) lo in
      absurd (never_both p o (subst (λ z. IsLess (weight p) (weight z)) (sym here) (fp.0 (subst Valid here vo))) ((all_behind (No_less o) c (p ∷ d) all).0 vp))
  same_least (x ∷ b) o a [] p d e vo vp fo lo fp lp =
      let here : x ≡ p = ap (λ zs. get_or zs 0 x) e in
      let all = subst (AllByRecursion (No_less p)) (sym (ap (drop 1) e)) lp in
      absurd (never_both o p (subst (λ z. IsLess (weight o) (weight z)) here (fo.0 (subst Valid (sym here) vp))) ((all_behind (No_less p) b (o ∷ a) all).0 vo))
  same_least (x ∷ b) o a (y ∷ c) p d e vo vp fo lo fp lp = same_least b o a c p d (ap (drop 1) e) vo vp fo.1 lo fp.1 lp

  pub one_least : (xs : List X) (o p : X) → IsFirstLeast Valid weight xs o → IsFirstLeast Valid weight xs p → o ≡ p
  one_least xs o p h k =
      same_least h.before o h.after k.before p k.after (sym h.there ∙ k.there) h.valid k.valid h.first h.least k.first k.least

-- ---- the answer

unmapped : {X Y : Type 0} (P : Y → Type 0) (f : X → Y) (xs : List X) → AllByRecursion P (map f xs) → AllByRecursion (λ x. P (f x)) xs
unmapped P f [] h = tt
unmapped P f (x ∷ xs) h = (h.0, unmapped P f xs h.1)

-- the first of all options
first_option : (nest : LoopNest) (known : List Known) (P : OptionValue → Type 0) (loops : List Loop) (a : ℕ) → AllByRecursion P (choices (map (proposals nest known) (range_with_len a (length loops)))) → P (map (λ l. None) loops)
unfolding proposals
first_option nest known P [] a h = h.0
first_option nest known P (loop ∷ loops) a h =
    let later = choices (map (proposals nest known) (range_with_len (a + 1) (length loops))) in
    first_option nest known (λ o. P (None ∷ o)) loops (a + 1)
    (unmapped P (λ rest. None ∷ rest) later (all_front P (starting later None) (flat_map (starting later) (flat_map (proposals_by nest a) known)) h))

all_of : (o : OptionValue) (later : List OptionValue) → o ≡ [] → map (λ r. o ++ r) (choices later) ++ [] ≡ choices later
all_of o later e =
    append-nil (map (λ r. o ++ r) (choices later)) ∙ ap (λ p. map (λ r. p ++ r) (choices later)) e ∙ map-id (choices later)

pub found_least : (nest : LoopNest) (g : GridValue) (known : List Known) (lists : List OptionValue) (o : OptionValue) (c : Chosen)
    → AreThinned (map (proposals nest known) (range_with_len 0 (length nest.loops))) lists → o ≡ []
    → IsBest nest g known (map (λ r. o ++ r) (choices lists) ++ []) (Some c) → IsChosen nest g known c
unfolding options_of
found_least nest g known lists o c t e h =
    let best = subst (λ xs. IsBest nest g known xs (Some c)) (all_of o lists e) h in
    record {
      least = thinned_least (IsValid nest g) (weight_of nest g known) (thinned_choices (map (proposals nest known) (range_with_len 0 (length nest.loops))) lists t) best.0;
      weight = best.1;
    }

pub always_found : (nest : LoopNest) (g : GridValue) (known : List Known) (lists : List OptionValue) (o : OptionValue)
    → AreThinned (map (proposals nest known) (range_with_len 0 (length nest.loops))) lists → o ≡ []
    → IsValid nest g (unsplit_loops nest) → IsBest nest g known (map (λ r. o ++ r) (choices lists) ++ []) None → ⊥
always_found nest g known lists o t e v h =
    let best = subst (λ xs. IsBest nest g known xs None) (all_of o lists e) h in
    first_option nest known (λ p. ¬ IsValid nest g p) nest.loops 0
    (thinned_all (λ p. ¬ IsValid nest g p) (thinned_choices (map (proposals nest known) (range_with_len 0 (length nest.loops))) lists t) best) v
