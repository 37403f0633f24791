-- The range of a slice along one dimension, on the whole tensor and on a device.
use Rattle.std.proofs.Common.{◌≡◌, ℕ, zero, suc, ◌+◌, ◌-◌, ◌*◌, ◌<◌, ◌≤◌, ◌⊎◌, inl, inr, Bool, true, false, List, Option, Some, None, refl, ap, sym, ◌∙◌, arith, subst}
use Rattle.std.proofs.lemmas.Bool.Decides.{nat_tests}
use Rattle.std.proofs.Math.Nat.{div-one, mul-le-mul_right}
use Rattle.std.specs.Prelude.{◌==◌, ◌&&◌, ◌||◌, ◌/◌, if◌then◌else◌, nat_eq, nat_le, nat_lt, option_map, pos}
use Rattle.sh_ir.specs.declared.types.Dim.{Dim}
use Rattle.sh_ir.specs.declared.types.Dim.TheVariants.{Known, Differs}
use Rattle.sh_ir.specs.Agreement.{dims_agree}
use Rattle.sh_ir.specs.Attributes.{in_extent, sliced_dim}
use Rattle.sh_sem.specs.Slices.{Range, range_of, lies_within, coordinate_in}
use Rattle.sh_sharding.specs.declared.shardings.Dimension.{Dimension}
use Rattle.sh_sharding.specs.LocalTypes.{local_dim}
use Rattle.sh_sharding.specs.Sharding.{largest_local, local_extent, start_in, unsplit}
use Rattle.sh_iface_tensor.specs.CutDims.{IsCutDim, unsplit_dim, unsplit_extent, unsplit_largest, unsplit_start}
use Rattle.sh_iface_tensor.specs.Slices.{IsRange}

-- a dimension of the tensor that is sliced, that of the slice, and the range between them
pub record Pair : Type 0 where
  pub sliced : Dimension
  pub slice : Dimension
  pub range : Range

-- a range that takes a dimension of this extent whole
abbrev pub whole_range : ℕ → Range
whole_range n = record { extent = n; offset = 0; size = n; stride = 1 }

-- either neither is split, or the dimension is taken whole and both are divided alike
abbrev pub IsPair : Pair → Type 0
IsPair p =
    ((p.sliced ≡ unsplit p.range.extent) × (p.slice ≡ unsplit p.range.size))
    ⊎ ((p.sliced ≡ p.slice) × (p.range ≡ whole_range p.slice.extent))

-- the range of the local slice
abbrev pub local_range : List ℕ → ℕ → Pair → Range
local_range g c p = range_of (local_dim g p.sliced) (local_extent g c p.sliced) p.range.offset (largest_local g p.slice) p.range.stride

-- ---- whole ranges

whole_coordinate : (n j : ℕ) → j < n → coordinate_in (whole_range n) j ≡ Some j
whole_coordinate n j l =
    let none : j - 0 ≡ j = omega arith in
    let steps : (j - 0) / 1 ≡ j = div-one (j - 0) ∙ none in
    let low : nat_le 0 j ≡ true = grind (arith, nat_tests) in
    let high : nat_lt ((j - 0) / 1) n ≡ true = let k : (j - 0) / 1 < n = omega (arith, steps, l) in grind (arith, nat_tests) in
    let there : (0 + (j - 0) / 1 * 1 == j) ≡ true = let k : 0 + (j - 0) / 1 * 1 ≡ j = omega (arith, steps) in grind (arith, nat_tests) in
    rw (low, high, there) (ap (λ m. Some m) steps)

second_holds : (a b : Bool) → b ≡ true → (a || b) ≡ true
second_holds true b h = refl
second_holds false b h = h

whole_within : (n : ℕ) → lies_within (whole_range n) ≡ true
whole_within zero = refl
whole_within (suc n) = let k : 0 + (suc n - 1) * 1 < suc n = omega arith in let test : nat_lt (0 + (suc n - 1) * 1) (suc n) ≡ true = grind (arith, nat_tests) in second_holds (suc n == 0) (nat_lt (0 + (suc n - 1) * 1) (suc n)) test

-- ---- on a device

pub record IsLocalRange (g : List ℕ) (c : ℕ) (p : Pair) : Type 0 where
  pub extent : (local_range g c p).extent ≡ local_extent g c p.sliced
  pub size : (local_range g c p).size ≡ local_extent g c p.slice
  pub within : lies_within (local_range g c p) ≡ true
  pub below : (j : ℕ) → j < local_extent g c p.slice → (local_range g c p).offset + j * (local_range g c p).stride < local_extent g c p.sliced
  pub index : (j : ℕ) → start_in g c p.sliced + ((local_range g c p).offset + j * (local_range g c p).stride) - p.sliced.low
      ≡ p.range.offset + (start_in g c p.slice + j - p.slice.low) * p.range.stride
  pub coordinate : (j : ℕ) → j < local_extent g c p.sliced → coordinate_in p.range (start_in g c p.sliced + j - p.sliced.low)
      ≡ option_map (λ i. start_in g c p.slice + i - p.slice.low) (coordinate_in (local_range g c p) j)
  pub coordinate_below : (j i : ℕ) → coordinate_in (local_range g c p) j ≡ Some i → i < local_extent g c p.slice

-- what the rules ask of it
pub record IsLocalRule (g : List ℕ) (p : Pair) : Type 0 where
  pub some : 0 < largest_local g p.slice
  pub fits : in_extent p.range.offset (largest_local g p.slice) p.range.stride (local_dim g p.sliced) ≡ true
  pub agrees : dims_agree (sliced_dim (pos (largest_local g p.slice)) (local_dim g p.sliced)) (local_dim g p.slice) ≡ true

pub steps_below : (o k t n j : ℕ) → j < k → lies_within (record { extent = n; offset = o; size = k; stride = t }) ≡ true → o + j * t < n
steps_below o zero t n j l h = absurd (omega arith)
steps_below o (suc k) t n j l h =
    let last : o + (suc k - 1) * t < n = grind (arith, nat_tests) in
    let le : j ≤ suc k - 1 = omega arith in
    let more = mul-le-mul_right t le in
    omega (arith, last, more)

some_is : (a b : ℕ) → Some a ≡ Some b → a ≡ b
some_is a b e = cc

pub coordinate_size : (r : Range) (j i : ℕ) → coordinate_in r j ≡ Some i → i < r.size
coordinate_size r j i e = go (nat_le r.offset j) (nat_lt ((j - r.offset) / r.stride) r.size) refl (r.offset + (j - r.offset) / r.stride * r.stride == j) e
  where
    go : (a b : Bool) → nat_lt ((j - r.offset) / r.stride) r.size ≡ b → (d : Bool) → (if (a && b) && d then Some ((j - r.offset) / r.stride) else None) ≡ Some i → i < r.size
    go true true f true e = let same : (j - r.offset) / r.stride ≡ i = some_is ((j - r.offset) / r.stride) i e in let k : (j - r.offset) / r.stride < r.size = grind (arith, nat_tests) in subst (λ z. z < r.size) same k
    go true true f false e = absurd (cc)
    go true false f d e = absurd (cc)
    go false b f d e = absurd (cc)

-- ---- where neither is split

module _ (g : List ℕ) (c : ℕ) (r : Range) (is : IsRange r) where
  abbrev apart : Pair
  apart = record { sliced = unsplit r.extent; slice = unsplit r.size; range = r }

  same_range : local_range g c apart ≡ r
  same_range = rw (unsplit_dim g r.extent, unsplit_extent g c r.extent, unsplit_largest g r.size) refl

  coordinates : (o : Option ℕ) → o ≡ option_map (λ i. start_in g c (unsplit r.size) + i - 0) o
  coordinates None = refl
  coordinates (Some i) = let s = unsplit_start g c r.size in let e : i ≡ start_in g c (unsplit r.size) + i - 0 = omega (arith, s) in ap (λ k. Some k) e

  range_apart : IsLocalRange g c apart
  range_apart =
      let same = same_range in
      let start = unsplit_start g c r.extent in
      let start' = unsplit_start g c r.size in
      record {
        extent = ap (λ (k : Range). k.extent) same ∙ sym (unsplit_extent g c r.extent);
        size = ap (λ (k : Range). k.size) same ∙ sym (unsplit_extent g c r.size);
        within = ap lies_within same ∙ is.2;
        below = λ j l.
            let less : j < r.size = let e = unsplit_extent g c r.size in omega (arith, e, l) in
            let k = steps_below r.offset r.size r.stride r.extent j less is.2 in
            subst (λ n. (local_range g c apart).offset + j * (local_range g c apart).stride < n) (sym (unsplit_extent g c r.extent))
            (subst (λ (z : Range). z.offset + j * z.stride < r.extent) (sym same) k);
        index = λ j.
            let left : start_in g c (unsplit r.extent) + (r.offset + j * r.stride) - 0 ≡ r.offset + j * r.stride = omega (arith, start) in
            let right : start_in g c (unsplit r.size) + j - 0 ≡ j = omega (arith, start') in
            ap (λ (z : Range). start_in g c (unsplit r.extent) + (z.offset + j * z.stride) - 0) same ∙ left ∙ ap (λ z. r.offset + z * r.stride) (sym right);
        coordinate = λ j l.
            let here : start_in g c (unsplit r.extent) + j - 0 ≡ j = omega (arith, start) in
            ap (coordinate_in r) here ∙ ap (λ z. coordinate_in z j) (sym same) ∙ coordinates (coordinate_in (local_range g c apart) j);
        coordinate_below = λ j i e.
            let k = coordinate_size (local_range g c apart) j i e in
            let size = ap (λ (k : Range). k.size) same ∙ sym (unsplit_extent g c r.size) in
            subst (λ n. i < n) size k;
      }

  rule_apart : IsLocalRule g apart
  rule_apart = record {
    some = let e = unsplit_largest g r.size in let some = is.0 in omega (arith, e, some);
    fits =
        let last : r.offset + (r.size - 1) * r.stride < r.extent = within_last r.size is.0 is.2 in
        let test : nat_lt (r.offset + (r.size - 1) * r.stride) r.extent ≡ true = grind (arith, nat_tests) in
        rw (unsplit_dim g r.extent, unsplit_largest g r.size) test;
    agrees =
        let test : nat_eq r.size r.size ≡ true = grind (arith, nat_tests) in
        rw (unsplit_dim g r.extent, unsplit_largest g r.size, unsplit_dim g r.size) test;
  }
    where
      within_last : (k : ℕ) → 0 < k → ((k == 0) || nat_lt (r.offset + (k - 1) * r.stride) r.extent) ≡ true → r.offset + (k - 1) * r.stride < r.extent
      within_last zero some h = absurd (omega arith)
      within_last (suc k) some h = grind (arith, nat_tests)

-- ---- where both are divided alike

module _ (g : List ℕ) (c : ℕ) (d : Dimension) (is : IsCutDim g c d) where
  abbrev alike : Pair
  alike = record { sliced = d; slice = d; range = whole_range d.extent }

  by_dim : (x : Dim) → local_dim g d ≡ x → range_of x (local_extent g c d) 0 (largest_local g d) 1 ≡ whole_range (local_extent g c d)
  by_dim (Known n) e = let both = is.known n e in let m : largest_local g d ≡ local_extent g c d = both.1 ∙ sym both.0 in rw m refl
  by_dim Differs e = refl

  local_whole : local_range g c alike ≡ whole_range (local_extent g c d)
  local_whole = by_dim (local_dim g d) refl

  range_alike : IsLocalRange g c alike
  range_alike =
      let same = local_whole in
      let low = is.low in
      let fits = is.fits in
      record {
        extent = ap (λ (k : Range). k.extent) same;
        size = ap (λ (k : Range). k.size) same;
        within = ap lies_within same ∙ whole_within (local_extent g c d);
        below = λ j l. subst (λ (z : Range). z.offset + j * z.stride < local_extent g c d) (sym same) (omega (arith, l));
        index = λ j. ap (λ (z : Range). start_in g c d + (z.offset + j * z.stride) - d.low) same ∙ omega (arith, low);
        coordinate = λ j l.
            let less : start_in g c d + j - d.low < d.extent = omega (arith, low, fits, l) in
            whole_coordinate d.extent (start_in g c d + j - d.low) less
            ∙ ap (option_map (λ i. start_in g c d + i - d.low)) (sym (ap (λ z. coordinate_in z j) same ∙ whole_coordinate (local_extent g c d) j l));
        coordinate_below = λ j i e. subst (λ n. i < n) (ap (λ (k : Range). k.size) same) (coordinate_size (local_range g c alike) j i e);
      }

  rule_alike : 0 < d.extent → IsLocalRule g alike
  rule_alike some = record {
    some = is.some some;
    fits = by_fit (local_dim g d) refl;
    agrees = by_agreement (local_dim g d) refl;
  }
    where
      by_fit : (x : Dim) → local_dim g d ≡ x → in_extent 0 (largest_local g d) 1 x ≡ true
      by_fit (Known n) e = let most = (is.known n e).1 in let k = is.some some in let less : 0 + (largest_local g d - 1) * 1 < n = omega (arith, most, k) in grind (arith, nat_tests)
      by_fit Differs e = refl

      by_agreement : (x : Dim) → local_dim g d ≡ x → dims_agree (sliced_dim (pos (largest_local g d)) x) x ≡ true
      by_agreement (Known n) e = let most = (is.known n e).1 in grind (arith, nat_tests)
      by_agreement Differs e = refl

-- ---- each pair

pub local_range_of : (g : List ℕ) (c : ℕ) (p : Pair) → IsPair p → IsRange p.range → IsCutDim g c p.slice → IsLocalRange g c p
local_range_of g c p (inl e) is cut = subst (IsLocalRange g c) (λ j. record { sliced = sym e.0 j; slice = sym e.1 j; range = p.range }) (range_apart g c p.range is)
local_range_of g c p (inr e) is cut = subst (IsLocalRange g c) (λ j. record { sliced = sym e.0 j; slice = p.slice; range = sym e.1 j }) (range_alike g c p.slice cut)

pub local_rule_of : (g : List ℕ) (c : ℕ) (p : Pair) → IsPair p → IsRange p.range → IsCutDim g c p.slice → IsLocalRule g p
local_rule_of g c p (inl e) is cut = subst (IsLocalRule g) (λ j. record { sliced = sym e.0 j; slice = sym e.1 j; range = p.range }) (rule_apart g c p.range is)
local_rule_of g c p (inr e) is cut =
    let some : 0 < p.slice.extent = subst (λ (r : Range). 0 < r.size) e.1 is.0 in
    subst (IsLocalRule g) (λ j. record { sliced = sym e.0 j; slice = p.slice; range = sym e.1 j }) (rule_alike g c p.slice cut some)
