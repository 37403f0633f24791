-- Folds over the points of a nest of loops, loop by loop: parts of the loops, and the whole.
use Rattle.std.proofs.Common.{◌≡◌, ◌≢◌, ℕ, zero, suc, ◌+◌, ◌<◌, ◌≤◌, Bool, true, false, List, [], ◌∷◌, ◌++◌, map, fold, get_or, Option, Some, None, refl, ap, sym, ◌∙◌, arith}
use Rattle.std.specs.Prelude.{◌==◌, option_map, flat_map, is_some, if◌then◌else◌}
use Rattle.std.specs.List.{range_with_len, AllByRecursion}
use Rattle.sh_int.specs.Reduction.{CombineLaws}
use Rattle.sh_nest_laws.specs.Folds.{total}
use Rattle.sh_nest_laws.proofs.Totals.{each_in_range, fold_same, total_same, right_neutral, total_is, total_append, total_swap, total_parts, fold_total}

-- the coordinates that a loop goes through: all below its extent, or the one at which it is fixed
abbrev pub choices : ℕ → Option ℕ → List ℕ
choices n None = range_with_len 0 n
choices n (Some k) = k ∷ []

-- Over the points of n loops, the first of which is loop l, in row-major order.
abbrev pub over_points : {A : Type 0} → ℕ → ℕ → (ℕ → ℕ) → (ℕ → Option ℕ) → (List ℕ → A → A) → A → A
over_points l zero extent fixed visit a = visit [] a
over_points l (suc n) extent fixed visit a =
    fold (λ so_far k. over_points (suc l) n extent fixed (λ p. visit (k ∷ p)) so_far) a (choices (extent l) (fixed l))

-- a list of coordinates within the extents of n loops from l on
abbrev pub IsPoint : ℕ → ℕ → (ℕ → ℕ) → List ℕ → Type 0
IsPoint l zero extent [] = Unit {0}
IsPoint l zero extent (k ∷ p) = ⊥
IsPoint l (suc n) extent [] = ⊥
IsPoint l (suc n) extent (k ∷ p) = (k < extent l) × IsPoint (suc l) n extent p

-- ---- maps, which name a loop for each dimension

-- the entries of a point for the dimensions
abbrev pub taken : List ℕ → List ℕ → List ℕ
taken dims p = map (λ l. get_or p l 0) dims

-- the entry of an index for a loop, if the map names the loop
abbrev pub entry_for : List ℕ → List ℕ → ℕ → Option ℕ
entry_for [] i l = None
entry_for (m ∷ dims) [] l = None
entry_for (m ∷ dims) (x ∷ i) l = if m == l then Some x else entry_for dims i l

-- the values at the points of n loops from l on, put together
abbrev pub points_total : {A : Type 0} → (A → A → A) → A → ℕ → ℕ → (ℕ → ℕ) → (ℕ → Option ℕ) → (List ℕ → A) → A
points_total op e l zero extent fixed h = h []
points_total op e l (suc n) extent fixed h = total op e (choices (extent l) (fixed l)) (λ k. points_total op e (suc l) n extent fixed (λ p. h (k ∷ p)))

-- ---- parts and the whole

-- a local point, moved to where it stands in the whole
abbrev pub moved : (ℕ → ℕ → ℕ) → ℕ → List ℕ → List ℕ
moved to l [] = []
moved to l (k ∷ p) = to l k ∷ moved to (suc l) p

-- a loop that isn't split
abbrev pub IsWholeLoop : (ℕ → ℕ) → (ℕ → ℕ) → (ℕ → ℕ → ℕ) → ℕ → Type 0
IsWholeLoop local whole to l = (local l ≡ whole l) × ((k : ℕ) → to l k ≡ k)

module _ (local whole : ℕ → ℕ) (to : ℕ → ℕ → ℕ) (fixed fixed' : ℕ → Option ℕ) (b : ℕ) (free : (l : ℕ) → b ≤ l → fixed l ≡ None → IsWholeLoop local whole to l)
    (same : (l : ℕ) → fixed' l ≡ option_map (to l) (fixed l)) where
  -- where the loops that aren't fixed are whole, the fold over the local points is that over the whole ones
  pub local_is_whole : {A : Type 0} (within : (l x : ℕ) → fixed l ≡ Some x → x < local l) (n l : ℕ) → b ≤ l → (f f' : List ℕ → A → A) → ((p : List ℕ) (a : A) → IsPoint l n local p → f p a ≡ f' (moved to l p) a) → (a : A)
      → over_points l n local fixed f a ≡ over_points l n whole fixed' f' a
  local_is_whole within zero l le f f' is a = is [] a tt
  local_is_whole {A} within (suc n) l le f f' is a = go (λ j g g' at c. local_is_whole within n (suc l) (omega (arith, le)) g g' at c) (fixed l) refl
    where
      Inner : Type 0
      Inner = ℕ → (g g' : List ℕ → A → A) → ((p : List ℕ) (a : A) → IsPoint (suc l) n local p → g p a ≡ g' (moved to (suc l) p) a) → (c : A) → over_points (suc l) n local fixed g c ≡ over_points (suc l) n whole fixed' g' c

      F : A → ℕ → A
      F so_far k = over_points (suc l) n local fixed (λ p. f (k ∷ p)) so_far

      G : A → ℕ → A
      G so_far k = over_points (suc l) n whole fixed' (λ p. f' (k ∷ p)) so_far

      go : Inner → (o : Option ℕ) → fixed l ≡ o → fold F a (choices (local l) (fixed l)) ≡ fold G a (choices (whole l) (fixed' l))
      go inner None e =
          let loop = free l le e in
          ap (λ o. fold F a (choices (local l) o)) e
          ∙ fold_same F G a (range_with_len 0 (local l))
          (each_in_range (λ k. (c : A) → F c k ≡ G c k) 0 (local l) (λ k low lt c.
          inner 0 (λ p. f (k ∷ p)) (λ p. f' (k ∷ p)) (λ p z pt. is (k ∷ p) z (omega (arith, lt), pt) ∙ ap (λ j. f' (j ∷ moved to (suc l) p) z) (loop.1 k)) c))
          ∙ ap (λ m. fold G a (range_with_len 0 m)) loop.0
          ∙ sym (ap (λ o. fold G a (choices (whole l) o)) (same l ∙ ap (option_map (to l)) e))
      go inner (Some x) e =
          ap (λ o. fold F a (choices (local l) o)) e
          ∙ inner 0 (λ p. f (x ∷ p)) (λ p. f' (to l x ∷ p)) (λ p z pt. is (x ∷ p) z (within l x e, pt)) a
          ∙ sym (ap (λ o. fold G a (choices (whole l) o)) (same l ∙ ap (option_map (to l)) e))

-- values that are the same at each point
pub total_at_points : {A : Type 0} (op : A → A → A) (z : A) (extent : ℕ → ℕ) (fixed : ℕ → Option ℕ) (within : (l x : ℕ) → fixed l ≡ Some x → x < extent l) (n l : ℕ) (f g : List ℕ → A)
    → ((p : List ℕ) → IsPoint l n extent p → f p ≡ g p) → points_total op z l n extent fixed f ≡ points_total op z l n extent fixed g
total_at_points op z extent fixed within zero l f g is = is [] tt
total_at_points {A} op z extent fixed within (suc n) l f g is = go (λ k lt. total_at_points op z extent fixed within n (suc l) (λ p. f (k ∷ p)) (λ p. g (k ∷ p)) (λ p pt. is (k ∷ p) (lt, pt))) (fixed l) refl
  where
    F : ℕ → A
    F k = points_total op z (suc l) n extent fixed (λ p. f (k ∷ p))

    G : ℕ → A
    G k = points_total op z (suc l) n extent fixed (λ p. g (k ∷ p))

    go : ((k : ℕ) → k < extent l → F k ≡ G k) → (o : Option ℕ) → fixed l ≡ o → total op z (choices (extent l) (fixed l)) F ≡ total op z (choices (extent l) (fixed l)) G
    go FG None e =
        ap (λ o. total op z (choices (extent l) o) F) e
        ∙ total_same op z (range_with_len 0 (extent l)) F G (each_in_range (λ k. F k ≡ G k) 0 (extent l) (λ k low lt. FG k (omega (arith, lt))))
        ∙ sym (ap (λ o. total op z (choices (extent l) o) G) e)
    go FG (Some x) e =
        ap (λ o. total op z (choices (extent l) o) F) e ∙ ap (λ y. op y z) (FG x (within l x e)) ∙ sym (ap (λ o. total op z (choices (extent l) o) G) e)

module _ {A : Type 0} {Is : A → Type 0} {e : A} {op : A → A → A} (laws : CombineLaws Is e op) where
  pub points_total_is : (n l : ℕ) (extent : ℕ → ℕ) (fixed : ℕ → Option ℕ) (h : List ℕ → A) → ((p : List ℕ) → Is (h p)) → Is (points_total op e l n extent fixed h)
  points_total_is zero l extent fixed h is = is []
  points_total_is (suc n) l extent fixed h is =
      total_is laws (choices (extent l) (fixed l)) (λ k. points_total op e (suc l) n extent fixed (λ p. h (k ∷ p))) (λ k. points_total_is n (suc l) extent fixed (λ p. h (k ∷ p)) (λ p. is (k ∷ p)))

  -- a fold that puts one value more in at each point
  pub over_total : (n l : ℕ) (extent : ℕ → ℕ) (fixed : ℕ → Option ℕ) (f : List ℕ → A → A) (h : List ℕ → A) → ((p : List ℕ) → Is (h p)) → ((p : List ℕ) (a : A) → Is a → f p a ≡ op a (h p)) → (a : A) → Is a
      → over_points l n extent fixed f a ≡ op a (points_total op e l n extent fixed h)
  over_total zero l extent fixed f h is same a ia = same [] a ia
  over_total (suc n) l extent fixed f h is same a ia =
      fold_total laws (λ so_far k. over_points (suc l) n extent fixed (λ p. f (k ∷ p)) so_far) (λ k. points_total op e (suc l) n extent fixed (λ p. h (k ∷ p)))
      (λ k. points_total_is n (suc l) extent fixed (λ p. h (k ∷ p)) (λ p. is (k ∷ p)))
      (λ b k ib. over_total n (suc l) extent fixed (λ p. f (k ∷ p)) (λ p. h (k ∷ p)) (λ p. is (k ∷ p)) (λ p c ic. same (k ∷ p) c ic) b ib)
      a ia (choices (extent l) (fixed l))

  -- ---- any number of open loops, split into parts

  total_flat : {X Y : Type 0} (f : X → List Y) (xs : List X) (h : Y → A) → ((y : Y) → Is (h y)) → total op e (flat_map f xs) h ≡ total op e xs (λ x. total op e (f x) h)
  total_flat f [] h is = refl
  total_flat f (x ∷ xs) h is = total_append laws (f x) (flat_map f xs) h is ∙ ap (op (total op e (f x) h)) (total_flat f xs h is)

  total_map : {X Y : Type 0} (f : X → Y) (xs : List X) (h : Y → A) → total op e (map f xs) h ≡ total op e xs (λ x. h (f x))
  total_map f [] h = refl
  total_map f (x ∷ xs) h = ap (op (h (f x))) (total_map f xs h)

-- For each loop the members of a device's group along it; those of all loops from l on that the
-- output doesn't follow, the first loop outermost.
abbrev pub members_from : (ℕ → Bool) → (ℕ → ℕ) → (ℕ → ℕ → ℕ → ℕ) → ℕ → ℕ → ℕ → List ℕ
members_from output count member l zero c = c ∷ []
members_from output count member l (suc n) c =
    if output l
    then members_from output count member (suc l) n c
    else flat_map (λ q. members_from output count member (suc l) n (member l c q)) (range_with_len 0 (count l))

-- The parts of the loops among the devices: along a loop a member of a group has its own part of that
-- loop, and of the others what the device has.
pub record ArePartsOf (devices : ℕ) (output : ℕ → Bool) (count : ℕ → ℕ) (member : ℕ → ℕ → ℕ → ℕ) (whole : ℕ → ℕ) (local : ℕ → ℕ → ℕ) (to : ℕ → ℕ → ℕ → ℕ) (off size : ℕ → ℕ → ℕ) : Type 0 where
  pub begins : (l : ℕ) → off l 0 ≡ 0
  pub ends : (l : ℕ) → off l (count l) ≡ whole l
  pub steps : (l q : ℕ) → q < count l → off l q + size l q ≡ off l (q + 1)
  pub inside : (l c q : ℕ) → c < devices → q < count l → member l c q < devices
  pub own : (l c q : ℕ) → c < devices → q < count l → (local (member l c q) l ≡ size l q) × ((x : ℕ) → to (member l c q) l x ≡ off l q + x)
  pub others : (l k c q : ℕ) → output l ≡ false → l ≢ k → c < devices → q < count l → (local (member l c q) k ≡ local c k) × ((x : ℕ) → to (member l c q) k x ≡ to c k x)

each_flat : {X Y : Type 0} (P : Y → Type 0) (f : X → List Y) (xs : List X) → AllByRecursion (λ x. AllByRecursion P (f x)) xs → AllByRecursion P (flat_map f xs)
each_flat {X} {Y} P f [] h = tt
each_flat {X} {Y} P f (x ∷ xs) h = more (f x) (flat_map f xs) h.0 (each_flat P f xs h.1)
  where
    more : (ys zs : List Y) → AllByRecursion P ys → AllByRecursion P zs → AllByRecursion P (ys ++ zs)
    more [] zs a b = b
    more (y ∷ ys) zs a b = (a.0, more ys zs a.1 b)

pub every_up : {X : Type 0} (P Q : X → Type 0) (xs : List X) → ((x : X) → P x → Q x) → AllByRecursion P xs → AllByRecursion Q xs
every_up P Q [] up h = tt
every_up P Q (x ∷ xs) up h = (up x h.0, every_up P Q xs up h.1)

module _ (devices : ℕ) (output : ℕ → Bool) (count : ℕ → ℕ) (member : ℕ → ℕ → ℕ → ℕ) (whole : ℕ → ℕ) (local : ℕ → ℕ → ℕ) (to : ℕ → ℕ → ℕ → ℕ) (off size : ℕ → ℕ → ℕ) (parts : ArePartsOf devices output count member whole local to off size) where
  abbrev members : ℕ → ℕ → ℕ → List ℕ
  members = members_from output count member

  -- the part that a device has of a loop is that of another
  abbrev HasSame : ℕ → ℕ → ℕ → Type 0
  HasSame k c m = (local m k ≡ local c k) × ((x : ℕ) → to m k x ≡ to c k x)

  members_same : (n l c k : ℕ) → c < devices → k < l → AllByRecursion (HasSame k c) (members l n c)
  members_same zero l c k inside lt = ((refl, λ x. refl), tt)
  members_same (suc n) l c k inside lt =
      go (output l) refl (members_same n (suc l) c k inside (omega (arith, lt))) (λ q below. members_same n (suc l) (member l c q) k (parts.inside l c q inside below) (omega (arith, lt)))
    where
      row : (q : ℕ) → output l ≡ false → q < count l → (m : ℕ) → HasSame k (member l c q) m → HasSame k c m
      row q shut below m h =
          let this = parts.others l k c q shut (λ z. absurd (omega (arith, z, lt))) inside below in
          (h.0 ∙ this.0, λ x. h.1 x ∙ this.1 x)

      go : (b : Bool) → output l ≡ b → AllByRecursion (HasSame k c) (members (suc l) n c) → ((q : ℕ) → q < count l → AllByRecursion (HasSame k (member l c q)) (members (suc l) n (member l c q)))
          → AllByRecursion (HasSame k c) (if b then members (suc l) n c else flat_map (λ q. members (suc l) n (member l c q)) (range_with_len 0 (count l)))
      go true e here there = here
      go false e here there =
          each_flat (HasSame k c) (λ q. members (suc l) n (member l c q)) (range_with_len 0 (count l))
          (each_in_range (λ q. AllByRecursion (HasSame k c) (members (suc l) n (member l c q))) 0 (count l)
          (λ q low lt'. let below : q < count l = omega (arith, lt') in every_up (HasSame k (member l c q)) (HasSame k c) (members (suc l) n (member l c q)) (row q e below) (there q below)))

  module _ {A : Type 0} {Is : A → Type 0} {e : A} {op : A → A → A} (laws : CombineLaws Is e op) (fixed fixed' : ℕ → Option ℕ) (fixes : (l : ℕ) → output l ≡ is_some (fixed l)) where
    -- the whole index is the device's local index moved
    abbrev Stands : ℕ → Type 0
    Stands c = (l : ℕ) → fixed' l ≡ option_map (to c l) (fixed l)

    some_open : (l : ℕ) (o : Option ℕ) → fixed l ≡ o → o ≡ None → output l ≡ false
    some_open l o same none = fixes l ∙ ap (λ (o : Option ℕ). is_some o) (same ∙ none)

    stands_at : (l c q : ℕ) → output l ≡ false → c < devices → q < count l → Stands c → Stands (member l c q)
    stands_at l c q shut inside below stands k = go (fixed k) refl
      where
        go : (o : Option ℕ) → fixed k ≡ o → fixed' k ≡ option_map (to (member l c q) k) (fixed k)
        go None e = stands k ∙ ap (option_map (to c k)) e ∙ sym (ap (option_map (to (member l c q) k)) e)
        go (Some x) e =
            let named : output k ≡ true = fixes k ∙ ap (λ (o : Option ℕ). is_some o) e in
            let other : l ≢ k = λ z. let bad : true ≡ false = sym named ∙ ap output (sym z) ∙ shut in absurd (cc) in
            stands k ∙ ap (option_map (to c k)) e ∙ ap (λ y. Some y) (sym ((parts.others l k c q shut other inside below).1 x)) ∙ sym (ap (option_map (to (member l c q) k)) e)

    -- what the devices of the group put together, put together, is what the whole does
    pub group_total : (n l c : ℕ) → c < devices → Stands c → (h : List ℕ → A) → ((p : List ℕ) → Is (h p))
        → points_total op e l n whole fixed' h ≡ total op e (members l n c) (λ m. points_total op e l n (local m) fixed (λ p. h (moved (to m) l p)))
    group_total zero l c inside stands h is = sym (right_neutral laws (h []) (is []))
    group_total (suc n) l c inside stands h is =
        go (fixed l) refl (λ k. group_total n (suc l) c inside stands (λ p. h (k ∷ p)) (λ p. is (k ∷ p)))
        (λ q below shut k. group_total n (suc l) (member l c q) (parts.inside l c q inside below) (stands_at l c q shut inside below stands) (λ p. h (k ∷ p)) (λ p. is (k ∷ p)))
      where
        X : ℕ → A
        X k = points_total op e (suc l) n whole fixed' (λ p. h (k ∷ p))

        is_X : (k : ℕ) → Is (X k)
        is_X k = points_total_is laws n (suc l) whole fixed' (λ p. h (k ∷ p)) (λ p. is (k ∷ p))

        Y : ℕ → ℕ → A
        Y m k = points_total op e (suc l) n (local m) fixed (λ p. h (k ∷ moved (to m) (suc l) p))

        is_Y : (m k : ℕ) → Is (Y m k)
        is_Y m k = points_total_is laws n (suc l) (local m) fixed (λ p. h (k ∷ moved (to m) (suc l) p)) (λ p. is (k ∷ moved (to m) (suc l) p))

        Z : ℕ → A
        Z m = total op e (choices (local m l) (fixed l)) (λ x. Y m (to m l x))

        is_Z : (m : ℕ) → Is (Z m)
        is_Z m = total_is laws (choices (local m l) (fixed l)) (λ x. Y m (to m l x)) (λ x. is_Y m (to m l x))

        go : (o : Option ℕ) → fixed l ≡ o → ((k : ℕ) → X k ≡ total op e (members (suc l) n c) (λ m. Y m k))
            → ((q : ℕ) → q < count l → output l ≡ false → (k : ℕ) → X k ≡ total op e (members (suc l) n (member l c q)) (λ m. Y m k))
            → total op e (choices (whole l) (fixed' l)) X ≡ total op e (members l (suc n) c) Z
        go (Some x) e' here there =
            let named : output l ≡ true = fixes l ∙ ap (λ (o : Option ℕ). is_some o) e' in
            let x' = to c l x in
            ap (λ o. total op e (choices (whole l) o) X) (stands l ∙ ap (option_map (to c l)) e')
            ∙ right_neutral laws (X x') (is_X x')
            ∙ here x'
            ∙ total_same op e (members (suc l) n c) (λ m. Y m x') Z
            (every_up (HasSame l c) (λ m. Y m x' ≡ Z m) (members (suc l) n c)
            (λ m same. ap (Y m) (sym (same.1 x)) ∙ sym (right_neutral laws (Y m (to m l x)) (is_Y m (to m l x))) ∙ sym (ap (λ o. total op e (choices (local m l) o) (λ x. Y m (to m l x))) e'))
            (members_same n (suc l) c l inside (omega arith)))
            ∙ ap (λ (b : Bool). total op e (if b then members (suc l) n c else flat_map (λ q. members (suc l) n (member l c q)) (range_with_len 0 (count l))) Z) (sym named)
        go None e' here there =
            let shut : output l ≡ false = fixes l ∙ ap (λ (o : Option ℕ). is_some o) e' in
            let row : (q : ℕ) → q < count l → total op e (range_with_len 0 (size l q)) (λ x. X (off l q + x)) ≡ total op e (members (suc l) n (member l c q)) Z =
            λ q below.
            let own = parts.own l c q inside below in
            let ms = members (suc l) n (member l c q) in
            total_same op e (range_with_len 0 (size l q)) (λ x. X (off l q + x)) (λ x. total op e ms (λ m. Y m (off l q + x)))
            (each_in_range _ 0 (size l q) (λ x low lt. there q below shut (off l q + x)))
            ∙ total_swap laws (range_with_len 0 (size l q)) ms (λ x m. Y m (off l q + x)) (λ x m. is_Y m (off l q + x))
            ∙ total_same op e ms (λ m. total op e (range_with_len 0 (size l q)) (λ x. Y m (off l q + x))) Z
            (every_up (HasSame l (member l c q)) (λ m. total op e (range_with_len 0 (size l q)) (λ x. Y m (off l q + x)) ≡ Z m) ms
            (λ m same.
            total_same op e (range_with_len 0 (size l q)) (λ x. Y m (off l q + x)) (λ x. Y m (to m l x)) (each_in_range _ 0 (size l q) (λ x low lt. ap (Y m) (sym (same.1 x ∙ own.1 x))))
            ∙ ap (λ k. total op e (range_with_len 0 k) (λ x. Y m (to m l x))) (sym (same.0 ∙ own.0))
            ∙ sym (ap (λ o. total op e (choices (local m l) o) (λ x. Y m (to m l x))) e'))
            (members_same n (suc l) (member l c q) l (parts.inside l c q inside below) (omega arith))) in
            ap (λ o. total op e (choices (whole l) o) X) (stands l ∙ ap (option_map (to c l)) e')
            ∙ ap (λ k. total op e (range_with_len 0 k) X) (sym (parts.ends l))
            ∙ total_parts laws (off l) (size l) X is_X (parts.begins l) (count l) (λ q below. parts.steps l q below)
            ∙ total_same op e (range_with_len 0 (count l)) (λ q. total op e (range_with_len 0 (size l q)) (λ x. X (off l q + x))) (λ q. total op e (members (suc l) n (member l c q)) Z)
            (each_in_range _ 0 (count l) (λ q low lt. row q (omega (arith, lt))))
            ∙ sym (total_flat laws (λ q. members (suc l) n (member l c q)) (range_with_len 0 (count l)) Z is_Z)
            ∙ ap (λ (b : Bool). total op e (if b then members (suc l) n c else flat_map (λ q. members (suc l) n (member l c q)) (range_with_len 0 (count l))) Z) (sym shut)
