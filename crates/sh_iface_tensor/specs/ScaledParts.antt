-- A dimension whose parts are so many times as long as those of another.
use Rattle.std.proofs.Common.{ap₂, Bool, true, false, ◌≡◌, ℕ, zero, suc, ◌+◌, ◌-◌, ◌*◌, ◌<◌, ◌≤◌, List, length, map, get_or, refl, ap, sym, ◌∙◌, arith}
use Rattle.std.proofs.lemmas.List.{get_or-map, length-map}
use Rattle.std.proofs.Math.Nat.{mul-sub}
use Rattle.std.proofs.lemmas.Bool.Decides.{nat_tests}
use Rattle.std.specs.List.{list_all, range_with_len}
use Rattle.sh_ir.specs.declared.types.Dim.TheVariants.{Known, Differs}
use Rattle.sh_sharding.specs.LocalTypes.{local_dim, part_sizes}
use Rattle.std.specs.Prelude.{◌&&◌, if◌then◌else◌, nat_eq, pos, negsuc, ℤ}
use Rattle.sh_grid.specs.Grid.{group_size_of, place_in}
use Rattle.sh_sharding.specs.declared.shardings.Dimension.{Dimension}
use Rattle.sh_sharding.specs.AxisLists.{natural}
use Rattle.sh_sharding.specs.Sharding.{local_extent, offset_at, part_of, part_size, parts_of, size_in, size_of_part, start_in}
use Rattle.sh_sharding.specs.Views.{scaled}
use Rattle.sh_sharding.proofs.MarkLaws.{normal_mark-offset}
use Rattle.sh_iface.specs.declared.options.Split.{Split}
use Rattle.sh_iface.specs.Splits.{scaled_dimension}

no_times : (f : ℕ) → 0 ≡ f * 0
no_times f = omega arith

natural_scaled : (f : ℕ) (z : ℤ) → natural (scaled f z) ≡ f * natural z
natural_scaled f (pos n) = refl
natural_scaled f (negsuc n) = no_times f

once_more : (k r : ℕ) → r * k ≡ 1 * k * r
once_more k r = grind arith

turned : (a b : ℕ) → a * b ≡ b * a
turned a b = grind arith

times_less : (a b r : ℕ) → a * r - b * r ≡ (a - b) * r
times_less a b r = ap₂ ◌-◌ (turned a r) (turned b r) ∙ sym (mul-sub r a b) ∙ turned r (a - b)

both : (a b : Bool) → (a && b) ≡ true → (a ≡ true) × (b ≡ true)
both true b h = (refl, h)
both false b h = absurd (cc)

same_numbers : (m n : ℕ) → nat_eq m n ≡ true → m ≡ n
same_numbers m n h = grind (arith, nat_tests)

same_test : (m n : ℕ) → m ≡ n → nat_eq m n ≡ true
same_test m n h = grind (arith, nat_tests)

-- where all sizes are the first, so are those that are so many times as long
all_scaled : (f h : ℕ → ℕ) (r p : ℕ) → ((i : ℕ) → i < p → h i ≡ f i * r) → 0 < p → (a n : ℕ) → a + n ≤ p
    → list_all (λ k. nat_eq k (f 0)) (map f (range_with_len a n)) ≡ true → list_all (λ k. nat_eq k (h 0)) (map h (range_with_len a n)) ≡ true
all_scaled f h r p times some a zero le all = refl
all_scaled f h r p times some a (suc n) le all =
    let parts = both (nat_eq (f a) (f 0)) (list_all (λ k. nat_eq k (f 0)) (map f (range_with_len (a + 1) n))) all in
    let here : h a ≡ h 0 = times a (omega (arith, le)) ∙ ap (λ k. k * r) (same_numbers (f a) (f 0) parts.0) ∙ sym (times 0 some) in
    ap₂ (λ (x y : Bool). x && y) (same_test (h a) (h 0) here) (all_scaled f h r p times some (a + 1) n (omega (arith, le)) parts.1)

same_known : (m n : ℕ) → Known m ≡ Known n → m ≡ n
same_known m n e = cc

module _ (g : List ℕ) (split : Split) (counted : length split.starts ≡ group_size_of g split.axes + 1) where
  abbrev parts : ℕ
  parts = group_size_of g split.axes

  abbrev start_at : ℕ → ℕ
  start_at i = natural (get_or split.starts i (pos 0))

  read_start : (f i : ℕ) → i ≤ parts → get_or (map natural (map (scaled f) split.starts)) i 0 ≡ f * start_at i
  read_start f i le =
      let n = length-map split.starts (scaled f) in
      get_or-map natural (map (scaled f) split.starts) i (pos 0) 0 (omega (arith, n, counted, le))
      ∙ ap natural (get_or-map (scaled f) split.starts i (pos 0) (pos 0) (omega (arith, counted, le)))
      ∙ natural_scaled f (get_or split.starts i (pos 0))

  offset_is : (extent f i : ℕ) → i ≤ parts → offset_at g (scaled_dimension g extent split f) i ≡ f * start_at i
  unfolding offset_at parts_of
  offset_is extent f i le =
      let n = length-map split.starts (scaled f) in
      let m = length-map (map (scaled f) split.starts) natural in
      normal_mark-offset extent parts (map natural (map (scaled f) split.starts)) i (m ∙ n ∙ counted) le
      ∙ read_start f i le

  module _ (n m r : ℕ) where
    abbrev pub first : Dimension
    first = scaled_dimension g n split 1

    abbrev pub longer : Dimension
    longer = scaled_dimension g m split r

    pub offset_scaled : (i : ℕ) → i ≤ parts → offset_at g longer i ≡ offset_at g first i * r
    offset_scaled i le = offset_is m r i le ∙ once_more (start_at i) r ∙ ap (λ k. k * r) (sym (offset_is n 1 i le))

    pub size_scaled : (i : ℕ) → i < parts → part_size g longer i ≡ part_size g first i * r
    unfolding part_size size_of_part offset_at parts_of
    size_scaled i l =
        ap₂ ◌-◌ (offset_scaled (i + 1) (omega (arith, l))) (offset_scaled i (omega (arith, l)))
        ∙ times_less (offset_at g first (i + 1)) (offset_at g first i) r

    pub start_scaled : (c : ℕ) → place_in g split.axes c < parts → start_in g c longer ≡ start_in g c first * r
    unfolding start_in part_of
    start_scaled c l = offset_scaled (place_in g split.axes c) (omega (arith, l))

    pub local_scaled : (c : ℕ) → place_in g split.axes c < parts → local_extent g c longer ≡ local_extent g c first * r
    unfolding local_extent size_in part_of
    local_scaled c l =
        let here : part_size g longer (place_in g split.axes c) ≡ part_size g first (place_in g split.axes c) * r = size_scaled (place_in g split.axes c) l in
        no_more (part_size g longer (place_in g split.axes c)) (part_size g first (place_in g split.axes c)) r here
      where
        no_more : (a b r : ℕ) → a ≡ b * r → 0 + a + 0 ≡ (0 + b + 0) * r
        no_more a b r e = let left : 0 + a + 0 ≡ a = omega arith in let right : 0 + b + 0 ≡ b = omega arith in left ∙ e ∙ ap (λ k. k * r) (sym right)

    -- what is known of the one is known of the other
    pub known_scaled : (k : ℕ) → 0 < parts → local_dim g first ≡ Known k → local_dim g longer ≡ Known (k * r)
    unfolding local_dim part_sizes parts_of
    known_scaled k some e = go (list_all (λ n. nat_eq n (part_size g first 0)) (map (part_size g first) (range_with_len 0 parts))) refl e
      where
        go : (b : Bool) → list_all (λ n. nat_eq n (part_size g first 0)) (map (part_size g first) (range_with_len 0 parts)) ≡ b → (if b then Known (0 + part_size g first 0 + 0) else Differs) ≡ Known k
            → (if list_all (λ n. nat_eq n (part_size g longer 0)) (map (part_size g longer) (range_with_len 0 parts)) then Known (0 + part_size g longer 0 + 0) else Differs) ≡ Known (k * r)
        go true all e =
            let none : 0 + parts ≤ parts = omega arith in
            let more = all_scaled (part_size g first) (part_size g longer) r parts size_scaled some 0 parts none all in
            let size : 0 + part_size g first 0 + 0 ≡ k = same_known (0 + part_size g first 0 + 0) k e in
            let plain : part_size g first 0 ≡ k = omega (arith, size) in
            let here : part_size g longer 0 ≡ k * r = size_scaled 0 some ∙ ap (λ n. n * r) plain in
            let last : 0 + part_size g longer 0 + 0 ≡ k * r = omega (arith, here) in
            rw more (ap (λ n. Known n) last)
        go false all e = absurd (cc)
