-- The devices of a group along the axes of several loops: each has a part of each of these loops, and of
-- the others what the device has.
use Rattle.std.proofs.Common.{◌≡◌, ◌≢◌, ℕ, zero, suc, ◌+◌, ◌-◌, ◌*◌, ◌<◌, Bool, true, false, List, [], ◌∷◌, ◌++◌, map, length, refl, ap, ap₂, sym, ◌∙◌, arith, subst}
use Rattle.std.specs.Prelude.{flat_map, if◌then◌else◌}
use Rattle.std.specs.List.{AllByRecursion, range_with_len}
use Rattle.sh_base.specs.Shape.{cell_count}
use Rattle.sh_grid.specs.Grid.{GridValue, AreAxesOf, AreApart, IsNoneOf, AgreeOutside, on_axes, place_in, group_size_of, group_of, member_of}
use Rattle.sh_grid.proofs.GroupLaws.{axes_join, places_join, places_stay, on_axes-append, place_in-member_of, member_of-agrees, member_of-below, member_of-place_in, group_of-nil}
use Rattle.sh_sharding.specs.declared.shardings.Dimension.{Dimension}
use Rattle.sh_sharding.specs.Sharding.{parts_of, part_of, part_size, offset_at, start_in, size_in, local_extent}
use Rattle.sh_sharding.proofs.PartLaws.{part-ends}
use Rattle.sh_nest_laws.specs.LoopSplits.{IsLoop, names, PlainNest, reduction_axes, AreLoopsApart}
use Rattle.sh_nest_laws.proofs.Literally.{range_product, flat_same, map_map, map_flat, map_each}
use Rattle.sh_nest_laws.proofs.Loops.{local, whole, to}
use Rattle.sh_nest_laws.proofs.Points.{members_from, ArePartsOf}
use Rattle.sh_nest_laws.proofs.Totals.{each_in_range}

-- ---- groups along two lists of axes

cells-append : (xs ys : List ℕ) → cell_count (xs ++ ys) ≡ cell_count xs * cell_count ys
cells-append [] ys = omega arith
cells-append (x ∷ xs) ys = let rest = cells-append xs ys in ap (λ n. x * n) rest ∙ grind arith

module _ (g : List ℕ) (outer inner : List ℕ) (both : AreAxesOf (length g) (outer ++ inner)) where
  abbrev each : AreAxesOf (length g) outer × AreApart outer inner × AreAxesOf (length g) inner
  each = (axes_join (length g) outer inner).0 both

  size_join : group_size_of g (outer ++ inner) ≡ group_size_of g outer * group_size_of g inner
  unfolding group_size_of
  size_join = ap cell_count (on_axes-append outer inner g) ∙ cells-append (on_axes outer g) (on_axes inner g)

  none_outer : (a : ℕ) (xs ys : List ℕ) → IsNoneOf a (xs ++ ys) → IsNoneOf a xs
  none_outer a [] ys h = tt
  none_outer a (x ∷ xs) ys h = (h.0, none_outer a xs ys h.1)

  none_inner : (a : ℕ) (xs ys : List ℕ) → IsNoneOf a (xs ++ ys) → IsNoneOf a ys
  none_inner a [] ys h = h
  none_inner a (x ∷ xs) ys h = none_inner a xs ys h.1

  agree_more : (c d e : ℕ) → AgreeOutside g outer c d → AgreeOutside g inner d e → AgreeOutside g (outer ++ inner) c e
  unfolding AgreeOutside
  agree_more c d e h k a none = h a (none_outer a outer inner none) ∙ k a (none_inner a outer inner none)

  member_join : (c q r : ℕ) → c < cell_count g → q < group_size_of g outer → r < group_size_of g inner
      → member_of g (outer ++ inner) c (q * group_size_of g inner + r) ≡ member_of g inner (member_of g outer c q) r
  member_join c q r inside lq lr =
      let d = member_of g outer c q in
      let in_d : d < cell_count g = member_of-below g outer c q inside lq in
      let e = member_of g inner d r in
      let in_e : e < cell_count g = member_of-below g inner d r in_d lr in
      let from : AgreeOutside g inner d e = member_of-agrees g inner d r in_d lr in
      let agrees : AgreeOutside g (outer ++ inner) c e = agree_more c d e (member_of-agrees g outer c q inside lq) from in
      let at_outer : place_in g outer e ≡ q = sym (places_stay g outer inner d e each.1 from) ∙ place_in-member_of g outer c q inside lq each.0 in
      let at_inner : place_in g inner e ≡ r = place_in-member_of g inner d r in_d lr each.2 in
      let place : place_in g (outer ++ inner) e ≡ q * group_size_of g inner + r = places_join g outer inner e ∙ ap₂ (λ a b. a * group_size_of g inner + b) at_outer at_inner in
      ap (member_of g (outer ++ inner) c) (sym place) ∙ member_of-place_in g (outer ++ inner) c e in_e both agrees

  pub group_join : (c : ℕ) → c < cell_count g → group_of g (outer ++ inner) c ≡ flat_map (λ q. group_of g inner (member_of g outer c q)) (range_with_len 0 (group_size_of g outer))
  unfolding group_of
  group_join c inside =
      let m = group_size_of g outer in
      let n = group_size_of g inner in
      ap (λ k. map (λ p. member_of g (outer ++ inner) c p) (range_with_len 0 k)) size_join
      ∙ ap (map (λ p. member_of g (outer ++ inner) c p)) (range_product m n)
      ∙ map_flat (λ p. member_of g (outer ++ inner) c p) (λ q. map (λ r. q * n + r) (range_with_len 0 n)) (range_with_len 0 m)
      ∙ flat_same (λ q. map (λ p. member_of g (outer ++ inner) c p) (map (λ r. q * n + r) (range_with_len 0 n))) (λ q. map (λ p. member_of g inner (member_of g outer c q) p) (range_with_len 0 n)) (range_with_len 0 m)
      (each_in_range _ 0 m (λ q low lq.
      map_map (λ p. member_of g (outer ++ inner) c p) (λ r. q * n + r) (range_with_len 0 n)
      ∙ map_each (λ r. member_of g (outer ++ inner) c (q * n + r)) (λ p. member_of g inner (member_of g outer c q) p) (range_with_len 0 n)
      (each_in_range _ 0 n (λ r low' lr. member_join c q r inside (omega (arith, lq)) (omega (arith, lr))))))

-- ---- the parts of loops

pub apart_more : (a xs ys : List ℕ) → AreApart a xs → AreApart a ys → AreApart a (xs ++ ys)
apart_more [] xs ys h k = tt
apart_more (b ∷ a) xs ys h k = (none_more b xs ys h.0 k.0, apart_more a xs ys h.1 k.1)
  where
    none_more : (b : ℕ) (xs ys : List ℕ) → IsNoneOf b xs → IsNoneOf b ys → IsNoneOf b (xs ++ ys)
    none_more b [] ys h k = k
    none_more b (x ∷ xs) ys h k = (h.0, none_more b xs ys h.1 k)

pub apart_none : (a : List ℕ) → AreApart a []
apart_none [] = tt
apart_none (b ∷ a) = (tt, apart_none a)

apart_turned : (a b : List ℕ) → AreApart a b → AreApart b a
apart_turned a [] h = tt
apart_turned a (x ∷ b) h = (none a x (firsts a h), apart_turned a b (rests a h))
  where
    firsts : (a : List ℕ) → AreApart a (x ∷ b) → AllByRecursion (λ y. y ≢ x) a
    firsts [] h = tt
    firsts (y ∷ a) h = (h.0.0, firsts a h.1)

    rests : (a : List ℕ) → AreApart a (x ∷ b) → AreApart a b
    rests [] h = tt
    rests (y ∷ a) h = (h.0.1, rests a h.1)

    none : (a : List ℕ) (x : ℕ) → AllByRecursion (λ y. y ≢ x) a → IsNoneOf x a
    none [] x h = tt
    none (y ∷ a) x h = (λ e. h.0 (sym e), none a x h.1)

module _ (g : GridValue) (D : ℕ → Dimension) (nest : PlainNest) (loop : (l : ℕ) → IsLoop g.extents (D l)) (apart : AreLoopsApart D nest) where
  abbrev pub output : ℕ → Bool
  output l = names nest.out.dims l

  abbrev pub count : ℕ → ℕ
  count l = group_size_of g.extents (D l).axes

  abbrev pub member : ℕ → ℕ → ℕ → ℕ
  member l c q = member_of g.extents (D l).axes c q

  abbrev pub off : ℕ → ℕ → ℕ
  off l q = offset_at g.extents (D l) q

  abbrev pub size : ℕ → ℕ → ℕ
  size l q = part_size g.extents (D l) q

  begins : (l : ℕ) → off l 0 ≡ 0
  unfolding offset_at
  begins l = (loop l).dimension.divided.begins

  ends : (l : ℕ) → off l (count l) ≡ whole g D 0 l
  unfolding offset_at parts_of
  ends l = (loop l).dimension.divided.ends

  steps : (l q : ℕ) → q < count l → off l q + size l q ≡ off l (q + 1)
  unfolding parts_of
  steps l q lt = (part-ends g.extents (D l) q (loop l).dimension.divided lt).0

  own_part : (l c q : ℕ) → c < cell_count g.extents → q < count l → part_of g.extents (D l) (member l c q) ≡ q
  unfolding part_of
  own_part l c q in' lt = place_in-member_of g.extents (D l).axes c q in' lt (loop l).axes

  own : (l c q : ℕ) → c < cell_count g.extents → q < count l → (local g D (member l c q) l ≡ size l q) × ((x : ℕ) → to g D (member l c q) l x ≡ off l q + x)
  unfolding local_extent size_in start_in
  own l c q in' lt =
      let low = (loop l).low in let high = (loop l).high in
      let wide : part_size g.extents (D l) (part_of g.extents (D l) (member l c q)) ≡ size l q = ap (part_size g.extents (D l)) (own_part l c q in' lt) in
      let starts : offset_at g.extents (D l) (part_of g.extents (D l) (member l c q)) ≡ off l q = ap (offset_at g.extents (D l)) (own_part l c q in' lt) in
      (omega (arith, wide, low, high), λ x. omega (arith, starts, low))

  other_part : (l k c q : ℕ) → output l ≡ false → l ≢ k → c < cell_count g.extents → q < count l → part_of g.extents (D k) (member l c q) ≡ part_of g.extents (D k) c
  unfolding part_of
  other_part l k c q shut other in' lt = sym (places_stay g.extents (D k).axes (D l).axes c (member l c q) (apart l k shut other) (member_of-agrees g.extents (D l).axes c q in' lt))

  others : (l k c q : ℕ) → output l ≡ false → l ≢ k → c < cell_count g.extents → q < count l → (local g D (member l c q) k ≡ local g D c k) × ((x : ℕ) → to g D (member l c q) k x ≡ to g D c k x)
  unfolding local_extent size_in start_in
  others l k c q shut other in' lt =
      let same = other_part l k c q shut other in' lt in
      (ap (λ p. (D k).low + part_size g.extents (D k) p + (D k).high) same, λ x. ap (λ p. offset_at g.extents (D k) p + x - (D k).low) same)

  pub are_parts : ArePartsOf (cell_count g.extents) output count member (whole g D 0) (local g D) (to g D) off size
  are_parts = record {
    begins = begins;
    ends = ends;
    steps = steps;
    inside = λ l c q in' lt. member_of-below g.extents (D l).axes c q in' lt;
    own = own;
    others = others;
  }

  -- ---- the group along all axes of reduction loops

  abbrev axes_from : ℕ → ℕ → List ℕ
  axes_from l n = flat_map (λ l. if output l then [] else (D l).axes) (range_with_len l n)

  apart_from_rest : (l k n : ℕ) → output l ≡ false → l < k → AreApart (D l).axes (axes_from k n)
  apart_from_rest l k zero shut lt = apart_none (D l).axes
  apart_from_rest l k (suc n) shut lt =
      apart_more (D l).axes (if output k then [] else (D k).axes) (axes_from (k + 1) n) (here (output k)) (apart_from_rest l (k + 1) n shut (omega (arith, lt)))
    where
      here : (b : Bool) → AreApart (D l).axes (if b then [] else (D k).axes)
      here true = apart_none (D l).axes
      here false = apart_turned (D k).axes (D l).axes (apart l k shut (λ e. absurd (omega (arith, e, lt))))

  axes_are : (l n : ℕ) → AreAxesOf (length g.extents) (axes_from l n)
  axes_are l zero = tt
  axes_are l (suc n) = go (output l) refl (axes_are (l + 1) n)
    where
      go : (b : Bool) → output l ≡ b → AreAxesOf (length g.extents) (axes_from (l + 1) n) → AreAxesOf (length g.extents) ((if b then [] else (D l).axes) ++ axes_from (l + 1) n)
      go true e rest = rest
      go false e rest = (axes_join (length g.extents) (D l).axes (axes_from (l + 1) n)).1 ((loop l).axes, apart_from_rest l (l + 1) n e (omega arith), rest)

  members_are : (l n c : ℕ) → c < cell_count g.extents → members_from output count member l n c ≡ group_of g.extents (axes_from l n) c
  members_are l zero c in' = sym (group_of-nil g.extents c in')
  members_are l (suc n) c in' = go (output l) refl (λ d in_d. let s : l + 1 ≡ suc l = omega arith in subst (λ k. members_from output count member k n d ≡ group_of g.extents (axes_from (l + 1) n) d) s (members_are (l + 1) n d in_d))
    where
      go : (b : Bool) → output l ≡ b → ((d : ℕ) → d < cell_count g.extents → members_from output count member (suc l) n d ≡ group_of g.extents (axes_from (l + 1) n) d)
          → (if b then members_from output count member (suc l) n c else flat_map (λ q. members_from output count member (suc l) n (member l c q)) (range_with_len 0 (count l)))
          ≡ group_of g.extents ((if b then [] else (D l).axes) ++ axes_from (l + 1) n) c
      go true e rest = rest c in'
      go false e rest =
          let both : AreAxesOf (length g.extents) ((D l).axes ++ axes_from (l + 1) n) = (axes_join (length g.extents) (D l).axes (axes_from (l + 1) n)).1 ((loop l).axes, apart_from_rest l (l + 1) n e (omega arith), axes_are (l + 1) n) in
          flat_same (λ q. members_from output count member (suc l) n (member l c q)) (λ q. group_of g.extents (axes_from (l + 1) n) (member l c q)) (range_with_len 0 (count l))
          (each_in_range _ 0 (count l) (λ q low lt. rest (member l c q) (member_of-below g.extents (D l).axes c q in' (omega (arith, lt)))))
          ∙ sym (group_join g.extents (D l).axes (axes_from (l + 1) n) both c in')

  pub members_are_group : (c : ℕ) → c < cell_count g.extents → members_from output count member 0 nest.loops c ≡ group_of g.extents (reduction_axes D nest) c
  members_are_group c in' = members_are 0 nest.loops c in'

  pub reduction_axes_are : AreAxesOf (length g.extents) (reduction_axes D nest)
  reduction_axes_are = axes_are 0 nest.loops
