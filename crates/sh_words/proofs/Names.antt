-- How clap reads a word, by its name and its value.
use Rattle.std.proofs.Common.{◌≡◌, ◌∙◌, ◌||◌, ℕ, Bool, cond, true, false, refl, sym, ap, ap₂, [], ◌∷◌, Some, None, add-one, one-add}
use Rattle.std.specs.List.{list_any, after_first}
use Rattle.std.specs.Str.{bytes_eq}
use Rattle.clap.specs.Lexer.{long_of, long_of_rest}
use Rattle.sh_words.specs.Words.{Text, is_equals, name_of, value_of}

name_ends : (a : ℕ) (r : Text) → is_equals a ≡ true → name_of (a ∷ r) ≡ []
name_ends a r e = rw e refl

name_goes_on : (a : ℕ) (r : Text) → is_equals a ≡ false → name_of (a ∷ r) ≡ a ∷ name_of r
name_goes_on a r e = rw e (rw one-add refl)

after_goes_on : (a : ℕ) (r : Text) → is_equals a ≡ false → after_first is_equals (a ∷ r) ≡ after_first is_equals r
after_goes_on a r e = rw e (simp (one-add, add-one))

value_goes_on : (a : ℕ) (r : Text) → is_equals a ≡ false → value_of (a ∷ r) ≡ value_of r
value_goes_on a r e =
    let has : (is_equals a || list_any is_equals r) ≡ list_any is_equals r = rw e refl in
    ap₂ (λ (b : Bool) (v : Text). cond b (Some v) None) has (after_goes_on a r e)

record Starts (a c : ℕ) (r rest : Text) : Type 0 where
  byte : a ≡ c
  name : name_of r ≡ rest
  value : value_of (a ∷ r) ≡ value_of r

starts : (a c : ℕ) (r rest : Text) → name_of (a ∷ r) ≡ c ∷ rest → Starts a c r rest
starts a c r rest h = go (is_equals a) refl
  where
    go : (t : Bool) → is_equals a ≡ t → Starts a c r rest
    go true e = let bad : [] ≡ c ∷ rest = sym (name_ends a r e) ∙ h in cc
    go false e =
        let same : a ∷ name_of r ≡ c ∷ rest = sym (name_goes_on a r e) ∙ h in
        record { byte = cc; name = cc; value = value_goes_on a r e }

-- the word begins with two dashes and has more
record Dashed (w : Text) (name : Text) : Type 0 where
  pub rest : Text
  pub is : w ≡ 45 ∷ 45 ∷ rest
  pub name_is : name_of rest ≡ name
  pub value_is : value_of w ≡ value_of rest

dashed : (w name : Text) → name_of w ≡ 45 ∷ 45 ∷ name → Dashed w name
dashed [] name h = cc
dashed (a ∷ []) name h =
    let p = starts a 45 [] (45 ∷ name) h in
    let bad : [] ≡ 45 ∷ name = p.name in cc
dashed (a ∷ b ∷ r) name h =
    let p = starts a 45 (b ∷ r) (45 ∷ name) h in
    let q = starts b 45 r name p.name in
    record { rest = r; is = ap₂ (λ (x y : ℕ). x ∷ y ∷ r) p.byte q.byte; name_is = q.name; value_is = p.value ∙ q.value }

-- the word is no `--` alone, and clap reads its name and its value
pub long_is : (w : Text) (x : ℕ) (name : Text) → name_of w ≡ 45 ∷ 45 ∷ x ∷ name → long_of w ≡ Some (x ∷ name, value_of w)
long_is w x name h =
    let d = dashed w (x ∷ name) h in
    ap long_of d.is ∙ go d.rest d.name_is ∙ ap (λ v. Some (x ∷ name, v)) (sym d.value_is)
  where
    go : (r : Text) → name_of r ≡ x ∷ name → long_of_rest r ≡ Some (x ∷ name, value_of r)
    go [] e = cc
    go (y ∷ ys) e = ap (λ n. Some (n, value_of (y ∷ ys))) e

pub more_than_dashes : (w : Text) (x : ℕ) (name : Text) → name_of w ≡ 45 ∷ 45 ∷ x ∷ name → bytes_eq w (45 ∷ 45 ∷ []) ≡ false
more_than_dashes w x name h =
    let d = dashed w (x ∷ name) h in
    ap (λ v. bytes_eq v (45 ∷ 45 ∷ [])) d.is ∙ go d.rest d.name_is
  where
    go : (r : Text) → name_of r ≡ x ∷ name → bytes_eq (45 ∷ 45 ∷ r) (45 ∷ 45 ∷ []) ≡ false
    go [] e = cc
    go (y ∷ ys) e = refl
