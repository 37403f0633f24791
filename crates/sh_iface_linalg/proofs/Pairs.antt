-- Dimensions with the loops that they follow: where maps fit, each has the extent of its loop.
use Rattle.std.proofs.Common.{◌≡◌, ℕ, ◌+◌, Bool, true, false, List, [], ◌∷◌, ◌++◌, map, length, refl, ap, ap₂, sym, ◌∙◌, arith, subst}
use Rattle.std.proofs.lemmas.Bool.Decides.{nat_tests}
use Rattle.std.specs.List.{AllByRecursion, list_all}
use Rattle.std.specs.Prelude.{◌&&◌, ◌||◌, nat_eq, if◌then◌else◌}
use Rattle.sh_ir.specs.declared.types.Dim.TheVariants.{Known, Differs}
use Rattle.sh_ir.specs.Loops.{single}
use Rattle.sh_ir.specs.Operands.{Following, following, has_extent, is_alone, loop_dim, sums}
use Rattle.sh_iface.specs.Elements.{known_dims}
use Rattle.sh_sem.specs.Nest.{Followed, all_followed, extent_of_loop, followed}
use Rattle.sh_iface_linalg.specs.Rules.{both}

pub record Pair : Type 0 where
  pub loop : ℕ
  pub extent : ℕ

abbrev pub pairs_of : List ℕ → List ℕ → List Pair
pairs_of [] ns = []
pairs_of (l ∷ ls) [] = []
pairs_of (l ∷ ls) (n ∷ ns) = record { loop = l; extent = n } ∷ pairs_of ls ns

abbrev pub all_pairs : List (List ℕ) → List (List ℕ) → List Pair
all_pairs [] shapes = []
all_pairs (ls ∷ maps) [] = []
all_pairs (ls ∷ maps) (ns ∷ shapes) = pairs_of ls ns ++ all_pairs maps shapes

-- the extent of the first that follows the loop
abbrev pub first_at : List Pair → ℕ → ℕ
first_at [] l = 0
first_at (p ∷ ps) l = if is_alone (p.loop ∷ []) l then p.extent else first_at ps l

abbrev has_loop : List Pair → ℕ → Bool
has_loop [] l = false
has_loop (p ∷ ps) l = is_alone (p.loop ∷ []) l || has_loop ps l

-- ---- as the rules and the evaluator hold them

abbrev pub as_following : Pair → Following
as_following p = record { loops = p.loop ∷ []; dim = Known p.extent }

abbrev as_followed : Pair → Followed
as_followed p = record { loops = p.loop ∷ []; extent = p.extent }

map_joined : {X Y : Type 0} (f : X → Y) (xs ys : List X) → map f (xs ++ ys) ≡ map f xs ++ map f ys
map_joined f [] ys = refl
map_joined f (x ∷ xs) ys = ap (λ zs. f x ∷ zs) (map_joined f xs ys)

one_following : (ls ns : List ℕ) → following (single ls) (known_dims ns) ≡ map as_following (pairs_of ls ns)
one_following [] ns = refl
one_following (l ∷ ls) [] = refl
one_following (l ∷ ls) (n ∷ ns) = ap (λ fs. as_following (record { loop = l; extent = n }) ∷ fs) (one_following ls ns)

one_followed : (ls ns : List ℕ) → followed (single ls) ns ≡ map as_followed (pairs_of ls ns)
one_followed [] ns = refl
one_followed (l ∷ ls) [] = refl
one_followed (l ∷ ls) (n ∷ ns) = ap (λ fs. as_followed (record { loop = l; extent = n }) ∷ fs) (one_followed ls ns)

pub followed_are : (maps shapes : List (List ℕ)) → all_followed (map single maps) shapes ≡ map as_followed (all_pairs maps shapes)
followed_are [] shapes = refl
followed_are (ls ∷ maps) [] = refl
followed_are (ls ∷ maps) (ns ∷ shapes) = ap₂ (λ a b. a ++ b) (one_followed ls ns) (followed_are maps shapes) ∙ sym (map_joined as_followed (pairs_of ls ns) (all_pairs maps shapes))

pub extent_is : (ps : List Pair) (l : ℕ) → extent_of_loop (map as_followed ps) l ≡ first_at ps l
extent_is [] l = refl
extent_is (p ∷ ps) l = ap (λ m. if is_alone (p.loop ∷ []) l then p.extent else m) (extent_is ps l)

dim_is : (ps : List Pair) (l : ℕ) → loop_dim (map as_following ps) l ≡ (if has_loop ps l then Known (first_at ps l) else Differs)
dim_is [] l = refl
dim_is (p ∷ ps) l = go (is_alone (p.loop ∷ []) l) (dim_is ps l)
  where
    go : (b : Bool) → loop_dim (map as_following ps) l ≡ (if has_loop ps l then Known (first_at ps l) else Differs)
        → (if b && true then Known p.extent else loop_dim (map as_following ps) l) ≡ (if b || has_loop ps l then Known (if b then p.extent else first_at ps l) else Differs)
    go true rest = refl
    go false rest = rest

-- ---- where they fit

same_loop : (l : ℕ) → is_alone (l ∷ []) l ≡ true
same_loop l = let e : nat_eq l l ≡ true = grind (arith, nat_tests) in rw e refl

fits_one : (all : List Pair) (p : Pair) → has_loop all p.loop ≡ true → has_extent (map as_following all) (as_following p) ≡ true → p.extent ≡ first_at all p.loop
fits_one all p there fits =
    let dim : loop_dim (map as_following all) p.loop ≡ Known (first_at all p.loop) = dim_is all p.loop ∙ ap (λ b. if b then Known (first_at all p.loop) else Differs) there in
    let test : nat_eq (p.extent + 1) (0 + first_at all p.loop + 1) ≡ true = subst (λ d. sums (d ∷ []) (Known p.extent) ≡ true) dim fits in
    grind (arith, nat_tests)

fits_all : (all ps : List Pair) → AllByRecursion (λ p. has_loop all p.loop ≡ true) ps → list_all (has_extent (map as_following all)) (map as_following ps) ≡ true → AllByRecursion (λ p. p.extent ≡ first_at all p.loop) ps
fits_all all [] there fits = tt
fits_all all (p ∷ ps) there fits =
    let parts = both (has_extent (map as_following all) (as_following p)) (list_all (has_extent (map as_following all)) (map as_following ps)) fits in
    (fits_one all p there.0 parts.0, fits_all all ps there.1 parts.1)

all_have : (ps all : List Pair) → ((l : ℕ) → has_loop ps l ≡ true → has_loop all l ≡ true) → AllByRecursion (λ p. has_loop all p.loop ≡ true) ps
all_have [] all h = tt
all_have (p ∷ ps) all h = (
  h p.loop (ap (λ b. b || has_loop ps p.loop) (same_loop p.loop)),
  all_have ps all (λ l there. h l (right (is_alone (p.loop ∷ []) l) there)),
)
  where
    right : (b : Bool) {c : Bool} → c ≡ true → (b || c) ≡ true
    right true e = refl
    right false e = e

split_all : (P : Pair → Type 0) (xs ys : List Pair) → AllByRecursion P (xs ++ ys) → AllByRecursion P xs × AllByRecursion P ys
split_all P [] ys h = (tt, h)
split_all P (x ∷ xs) ys h = let rest = split_all P xs ys h.1 in ((h.0, rest.0), rest.1)

shape_of_pairs : (F : ℕ → ℕ) (ls ns : List ℕ) → length ls ≡ length ns → AllByRecursion (λ p. p.extent ≡ F p.loop) (pairs_of ls ns) → ns ≡ map F ls
shape_of_pairs F [] [] e h = refl
shape_of_pairs F [] (n ∷ ns) e h = absurd (omega (arith, e))
shape_of_pairs F (l ∷ ls) [] e h = absurd (omega (arith, e))
shape_of_pairs F (l ∷ ls) (n ∷ ns) e h = ap₂ ◌∷◌ h.0 (shape_of_pairs F ls ns (omega (arith, e)) h.1)

-- each map with a shape of its rank, whose extents are those of its loops
abbrev pub AreShapes : (ℕ → ℕ) → List (List ℕ) → List (List ℕ) → Type 0
AreShapes F [] [] = Unit {0}
AreShapes F [] (ns ∷ shapes) = ⊥
AreShapes F (ls ∷ maps) [] = ⊥
AreShapes F (ls ∷ maps) (ns ∷ shapes) = (ns ≡ map F ls) × AreShapes F maps shapes

abbrev pub AreRanks : List (List ℕ) → List (List ℕ) → Type 0
AreRanks [] [] = Unit {0}
AreRanks [] (ns ∷ shapes) = ⊥
AreRanks (ls ∷ maps) [] = ⊥
AreRanks (ls ∷ maps) (ns ∷ shapes) = (length ls ≡ length ns) × AreRanks maps shapes

shapes_of_pairs : (F : ℕ → ℕ) (maps shapes : List (List ℕ)) → AreRanks maps shapes → AllByRecursion (λ p. p.extent ≡ F p.loop) (all_pairs maps shapes) → AreShapes F maps shapes
shapes_of_pairs F [] [] ranks h = tt
shapes_of_pairs F [] (ns ∷ shapes) ranks h = absurd ranks
shapes_of_pairs F (ls ∷ maps) [] ranks h = absurd ranks
shapes_of_pairs F (ls ∷ maps) (ns ∷ shapes) ranks h =
    let parts = split_all (λ p. p.extent ≡ F p.loop) (pairs_of ls ns) (all_pairs maps shapes) h in
    (shape_of_pairs F ls ns ranks.0 parts.0, shapes_of_pairs F maps shapes ranks.1 parts.1)

pub shapes_are : (maps shapes : List (List ℕ)) (all : List Following) → AreRanks maps shapes → all ≡ map as_following (all_pairs maps shapes) → list_all (has_extent all) all ≡ true → AreShapes (first_at (all_pairs maps shapes)) maps shapes
shapes_are maps shapes all ranks is fits =
    let P = all_pairs maps shapes in
    shapes_of_pairs (first_at P) maps shapes ranks
    (fits_all P P (all_have P P (λ l e. e)) (subst (λ fs. list_all (has_extent fs) fs ≡ true) is fits))

pub following_one : (ls ns : List ℕ) (rest : List Following) (ps : List Pair) → rest ≡ map as_following ps → following (single ls) (known_dims ns) ++ rest ≡ map as_following (pairs_of ls ns ++ ps)
following_one ls ns rest ps is = ap₂ (λ a b. a ++ b) (one_following ls ns) is ∙ sym (map_joined as_following (pairs_of ls ns) ps)
