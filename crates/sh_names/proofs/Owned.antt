-- Names that are one.
use Rattle.std.proofs.Common.{◌≡◌, ℕ, List, [], ◌∷◌, Bool, true, false, ◌&&◌, nat_eq, refl, sym, ◌∙◌, ap, true≢false}
use Rattle.std.specs.Prelude.{Option, Some, None}
use Rattle.std.proofs.lemmas.Bool.{eqb-true, eq-eqb}
use Rattle.sh_names.specs.Names.{Owned, same_owned, same_region, same_text}

pub both : (a b : Bool) → (a && b) ≡ true → (a ≡ true) × (b ≡ true)
both true true e = (refl, refl)
both true false e = cc
both false b e = cc

pub texts_equal : (a b : List ℕ) → same_text a b ≡ true → a ≡ b
texts_equal [] [] e = refl
texts_equal [] (y ∷ ys) e = cc
texts_equal (x ∷ xs) [] e = cc
texts_equal (x ∷ xs) (y ∷ ys) e =
    let p = both (nat_eq x y) (same_text xs ys) e in
    ap (λ h. h ∷ xs) (eqb-true x y p.0) ∙ ap (λ t. y ∷ t) (texts_equal xs ys p.1)

pub text_self : (a : List ℕ) → same_text a a ≡ true
text_self [] = refl
text_self (x ∷ xs) = rw (eq-eqb x x refl) (text_self xs)

regions_equal : (a b : Option ℕ) → same_region a b ≡ true → a ≡ b
regions_equal None None e = refl
regions_equal None (Some b) e = cc
regions_equal (Some a) None e = cc
regions_equal (Some a) (Some b) e = ap Some (eqb-true a b e)

region_self : (a : Option ℕ) → same_region a a ≡ true
region_self None = refl
region_self (Some a) = eq-eqb a a refl

abbrev name_of : ℕ → Option ℕ → List ℕ → Owned
name_of unit region text = record { unit = unit; region = region; text = text }

pub owned_equal : (x y : Owned) → same_owned x y ≡ true → x ≡ y
owned_equal x y e =
    let p = both (nat_eq x.unit y.unit && same_region x.region y.region) (same_text x.text y.text) e in
    let q = both (nat_eq x.unit y.unit) (same_region x.region y.region) p.0 in
    let unit : x.unit ≡ y.unit = eqb-true x.unit y.unit q.0 in
    let region : x.region ≡ y.region = regions_equal x.region y.region q.1 in
    let text : x.text ≡ y.text = texts_equal x.text y.text p.1 in
    let all : name_of x.unit x.region x.text ≡ name_of y.unit y.region y.text = cc in
    all

pub owned_self : (x : Owned) → same_owned x x ≡ true
owned_self x = rw (eq-eqb x.unit x.unit refl, region_self x.region) (text_self x.text)

flipped : (x y : Owned) (b c : Bool) → same_owned x y ≡ b → same_owned y x ≡ c → b ≡ c
flipped x y true true e f = refl
flipped x y false false e f = refl
flipped x y true false e f =
    let same : x ≡ y = owned_equal x y e in
    absurd (true≢false (sym (owned_self y) ∙ ap (λ z. same_owned y z) (sym same) ∙ f))
flipped x y false true e f =
    let same : y ≡ x = owned_equal y x f in
    absurd (true≢false (sym (owned_self x) ∙ ap (λ z. same_owned x z) (sym same) ∙ e))

pub owned_either : (x y : Owned) → same_owned x y ≡ same_owned y x
owned_either x y = flipped x y (same_owned x y) (same_owned y x) refl refl
