-- The numbers of a slice, read as ranges.
use Rattle.std.proofs.Common.{ap₂, ◌≡◌, ℕ, ◌+◌, ◌-◌, ◌*◌, ◌<◌, Bool, true, false, List, [], ◌∷◌, length, refl, ap, sym, ◌∙◌, arith}
use Rattle.std.proofs.lemmas.Bool.Decides.{nat_tests}
use Rattle.std.specs.List.{AllByRecursion, list_all}
use Rattle.std.specs.Prelude.{◌==◌, ◌||◌, nat_eq, nat_lt, pos, negsuc, ℤ}
use Rattle.sh_base.specs.declared.numbers.Width.{Width}
use Rattle.sh_base.specs.declared.numbers.Width.TheVariants.{I1, I8, I16, I32, I64}
use Rattle.sh_base.specs.Cells.{bits_of}
use Rattle.sh_ir.specs.declared.types.Dim.TheVariants.{Known}
use Rattle.sh_ir.specs.Agreement.{shapes_agree}
use Rattle.sh_ir.specs.Attributes.{in_extents, sliced_dims}
use Rattle.sh_ir.specs.Formed.{is_not_negative}
use Rattle.sh_ir.specs.Numbers.{as_natural, as_naturals, is_positive}
use Rattle.sh_iface.specs.Elements.{known_dims}
use Rattle.sh_iface.proofs.ElementOf.{agree_known, both}
use Rattle.sh_iface_tensor.specs.SliceOf.{ranges_from}
use Rattle.sh_iface_tensor.specs.Slices.{IsRange, extents_of, offsets_of, sizes_of, strides_of, written}

-- widths by their bits
pub one_width : (v w : Width) → nat_eq (bits_of v) (bits_of w) ≡ true → v ≡ w
one_width I1 I1 h = refl
one_width I1 I8 h = absurd (cc)
one_width I1 I16 h = absurd (cc)
one_width I1 I32 h = absurd (cc)
one_width I1 I64 h = absurd (cc)
one_width I8 I1 h = absurd (cc)
one_width I8 I8 h = refl
one_width I8 I16 h = absurd (cc)
one_width I8 I32 h = absurd (cc)
one_width I8 I64 h = absurd (cc)
one_width I16 I1 h = absurd (cc)
one_width I16 I8 h = absurd (cc)
one_width I16 I16 h = refl
one_width I16 I32 h = absurd (cc)
one_width I16 I64 h = absurd (cc)
one_width I32 I1 h = absurd (cc)
one_width I32 I8 h = absurd (cc)
one_width I32 I16 h = absurd (cc)
one_width I32 I32 h = refl
one_width I32 I64 h = absurd (cc)
one_width I64 I1 h = absurd (cc)
one_width I64 I8 h = absurd (cc)
one_width I64 I16 h = absurd (cc)
one_width I64 I32 h = absurd (cc)
one_width I64 I64 h = refl

natural_is : (z : ℤ) → is_not_negative z ≡ true → pos (as_natural z) ≡ z
natural_is (pos n) h = refl
natural_is (negsuc n) h = absurd (cc)

some_is : (n : ℕ) → nat_lt 0 n ≡ true → 0 < n
some_is n h = grind (arith, nat_tests)

second_holds : (a b : Bool) → b ≡ true → (a || b) ≡ true
second_holds true b h = refl
second_holds false b h = h

pub record IsReadList (ns : List ℕ) (os ks ts : List ℤ) : Type 0 where
  pub extents : extents_of (ranges_from ns (as_naturals os) (as_naturals ks) (as_naturals ts)) ≡ ns
  pub offsets : written (offsets_of (ranges_from ns (as_naturals os) (as_naturals ks) (as_naturals ts))) ≡ os
  pub sizes : written (sizes_of (ranges_from ns (as_naturals os) (as_naturals ks) (as_naturals ts))) ≡ ks
  pub strides : written (strides_of (ranges_from ns (as_naturals os) (as_naturals ks) (as_naturals ts))) ≡ ts
  pub ranges : AllByRecursion IsRange (ranges_from ns (as_naturals os) (as_naturals ks) (as_naturals ts))

-- where there is one of each, in order
pub read_list : (ns : List ℕ) (os ks ts : List ℤ) → length os ≡ length ns → length ks ≡ length ns → length ts ≡ length ns
    → list_all is_not_negative os ≡ true → list_all is_positive ks ≡ true → list_all is_positive ts ≡ true
    → in_extents (as_naturals os) (as_naturals ks) (as_naturals ts) (known_dims ns) ≡ true → IsReadList ns os ks ts
read_list [] [] [] [] a b c d e f h = record { extents = refl; offsets = refl; sizes = refl; strides = refl; ranges = tt }
read_list [] (o ∷ os) ks ts a b c d e f h = absurd (omega (arith, a))
read_list [] [] (k ∷ ks) ts a b c d e f h = absurd (omega (arith, b))
read_list [] [] [] (t ∷ ts) a b c d e f h = absurd (omega (arith, c))
read_list (n ∷ ns) [] ks ts a b c d e f h = absurd (omega (arith, a))
read_list (n ∷ ns) (o ∷ os) [] ts a b c d e f h = absurd (omega (arith, b))
read_list (n ∷ ns) (o ∷ os) (k ∷ ks) [] a b c d e f h = absurd (omega (arith, c))
read_list (n ∷ ns) (o ∷ os) (k ∷ ks) (t ∷ ts) a b c d e f h =
    let d' = both (is_not_negative o) (list_all is_not_negative os) d in
    let e' = both (is_positive k) (list_all is_positive ks) e in
    let f' = both (is_positive t) (list_all is_positive ts) f in
    let h' = both (nat_lt (as_natural o + (as_natural k - 1) * as_natural t) n) (in_extents (as_naturals os) (as_naturals ks) (as_naturals ts) (known_dims ns)) h in
    let size = both (is_not_negative k) (nat_lt 0 (as_natural k)) e'.0 in
    let stride = both (is_not_negative t) (nat_lt 0 (as_natural t)) f'.0 in
    let rest = read_list ns os ks ts (omega (arith, a)) (omega (arith, b)) (omega (arith, c)) d'.1 e'.1 f'.1 h'.1 in
    record {
      extents = ap (λ xs. n ∷ xs) rest.extents;
      offsets = ap₂ ◌∷◌ (natural_is o d'.0) rest.offsets;
      sizes = ap₂ ◌∷◌ (natural_is k size.0) rest.sizes;
      strides = ap₂ ◌∷◌ (natural_is t stride.0) rest.strides;
      ranges = (
        (some_is (as_natural k) size.1, some_is (as_natural t) stride.1, second_holds (as_natural k == 0) (nat_lt (as_natural o + (as_natural k - 1) * as_natural t) n) h'.0),
        rest.ranges,
      );
    }

-- a slice has the sizes that are written
pub sizes_are : (ns : List ℕ) (ks : List ℤ) (s : List ℕ) → length ks ≡ length ns → shapes_agree (sliced_dims ks (known_dims ns)) (known_dims s) ≡ true → as_naturals ks ≡ s
sizes_are ns ks s same h = agree_known (as_naturals ks) s (subst_dims ns ks same h)
  where
    all_known : (ns : List ℕ) (ks : List ℤ) → length ks ≡ length ns → sliced_dims ks (known_dims ns) ≡ known_dims (as_naturals ks)
    all_known [] [] e = refl
    all_known [] (k ∷ ks) e = absurd (omega (arith, e))
    all_known (n ∷ ns) [] e = absurd (omega (arith, e))
    all_known (n ∷ ns) (k ∷ ks) e = ap (λ ds. Known (as_natural k) ∷ ds) (all_known ns ks (omega (arith, e)))

    subst_dims : (ns : List ℕ) (ks : List ℤ) → length ks ≡ length ns → shapes_agree (sliced_dims ks (known_dims ns)) (known_dims s) ≡ true → shapes_agree (known_dims (as_naturals ks)) (known_dims s) ≡ true
    subst_dims ns ks e h = ap (λ ds. shapes_agree ds (known_dims s)) (sym (all_known ns ks e)) ∙ h
