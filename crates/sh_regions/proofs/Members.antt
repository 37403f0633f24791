-- Lists with the same members take and leave the same names.
use Rattle.std.proofs.Common.{◌≡◌, ℕ, List, [], ◌∷◌, ◌++◌, Bool, true, false, not, ◌||◌, cond, nat_eq, suc, ◌+◌, ◌<◌, length, get_or, drop, add-one, refl, ap, sym, ◌∙◌, append_assoc, arith}
use Rattle.std.proofs.Math.Seq.{drop-cons}
use Rattle.std.proofs.lemmas.Grind.{common_steps}
use Rattle.indexmap.specs.IndexSet.{insert_key}
use Rattle.sh_ir.specs.Regions.{is_among, outer_uses, outside}
use Rattle.sh_ir.specs.declared.bodies.BodyOp.{BodyOp}
use Rattle.sh_regions.specs.Members.{AreAgreed}

pub agreed_self : (xs : List ℕ) → AreAgreed xs xs
unfolding AreAgreed
agreed_self xs = λ name. refl

pub agreed_trans : (xs ys zs : List ℕ) → AreAgreed xs ys → AreAgreed ys zs → AreAgreed xs zs
unfolding AreAgreed
agreed_trans xs ys zs f g = λ name. f name ∙ g name

pub agreed_cons : (x : ℕ) (xs ys : List ℕ) → AreAgreed xs ys → AreAgreed (x ∷ xs) (x ∷ ys)
unfolding AreAgreed
agreed_cons x xs ys f = λ name. ap (λ b. nat_eq name x || b) (f name)

at_end : (xs : List ℕ) (x name : ℕ) → is_among (xs ++ x ∷ []) name ≡ (nat_eq name x || is_among xs name)
at_end [] x name = refl
at_end (y ∷ ys) x name = ap (λ b. nat_eq name y || b) (at_end ys x name) ∙ swapped (nat_eq name y) (nat_eq name x) (is_among ys name)
  where
    swapped : (a b c : Bool) → (a || (b || c)) ≡ (b || (a || c))
    swapped true true c = refl
    swapped true false c = refl
    swapped false true c = refl
    swapped false false c = refl

-- one that is a member already
again : (xs : List ℕ) (x name : ℕ) → is_among xs x ≡ true → is_among xs name ≡ (nat_eq name x || is_among xs name)
again xs x name e = elim_eq (nat_eq name x) refl
  where
    elim_eq : (b : Bool) → nat_eq name x ≡ b → is_among xs name ≡ (b || is_among xs name)
    elim_eq false n = refl
    elim_eq true n = let same : name ≡ x = grind (arith, common_steps) in rw same e

inserted_by : (xs : List ℕ) (x name : ℕ) (found : Bool) → is_among xs x ≡ found
    → is_among (cond found xs (xs ++ x ∷ [])) name ≡ (nat_eq name x || is_among xs name)
inserted_by xs x name true e = again xs x name e
inserted_by xs x name false e = at_end xs x name

-- a set with one member more
pub agreed_inserted : (xs : List ℕ) (x : ℕ) → AreAgreed (insert_key nat_eq xs x) (x ∷ xs)
unfolding AreAgreed
agreed_inserted xs x = λ name. inserted_by xs x name (is_among xs x) refl

outside_same : (xs ys names : List ℕ) → AreAgreed xs ys → outside xs names ≡ outside ys names
unfolding AreAgreed
outside_same xs ys [] f = refl
outside_same xs ys (name ∷ names) f =
    ap (λ b. cond (not b) (name ∷ outside xs names) (outside xs names)) (f name)
    ∙ ap (λ rest. cond (not (is_among ys name)) (name ∷ rest) rest) (outside_same xs ys names f)

pub uses_same : (xs ys : List ℕ) (ops : List BodyOp) (yields : ℕ) → AreAgreed xs ys
    → outer_uses xs ops yields ≡ outer_uses ys ops yields
uses_same xs ys [] yields f = outside_same xs ys (yields ∷ []) f
uses_same xs ys (op ∷ ops) yields f =
    ap (λ names. names ++ outer_uses (op.defines ∷ xs) ops yields) (outside_same xs ys op.operands f)
    ∙ ap (λ rest. outside ys op.operands ++ rest)
    (uses_same (op.defines ∷ xs) (op.defines ∷ ys) ops yields (agreed_cons op.defines xs ys f))

-- the same of a list with one more at its end
pub agreed_more : (keys xs : List ℕ) (x : ℕ) → AreAgreed keys xs → AreAgreed (insert_key nat_eq keys x) (xs ++ x ∷ [])
unfolding AreAgreed
agreed_more keys xs x f = λ name.
    agreed_inserted keys x name ∙ ap (λ b. nat_eq name x || b) (f name) ∙ sym (at_end xs x name)

-- one operation more
pub one_op : (own keys : List ℕ) (op : BodyOp) (ops : List BodyOp) (yields : ℕ) (uses new : List ℕ)
    → new ≡ uses ++ outside own op.operands → keys ≡ insert_key nat_eq own op.defines
    → new ++ outer_uses keys ops yields ≡ uses ++ outer_uses own (op ∷ ops) yields
one_op own keys op ops yields uses new pushed inserted =
    ap (λ names. names ++ outer_uses keys ops yields) pushed
    ∙ append_assoc uses (outside own op.operands) (outer_uses keys ops yields)
    ∙ ap (λ rest. uses ++ (outside own op.operands ++ rest))
    (ap (λ names. outer_uses names ops yields) inserted
    ∙ uses_same (insert_key nat_eq own op.defines) (op.defines ∷ own) ops yields (agreed_inserted own op.defines))

-- the operation that comes next
pub next_op : (ops : List BodyOp) (i : ℕ) (op : BodyOp) → i < length ops → op ≡ get_or ops i op
    → drop i ops ≡ op ∷ drop (i + 1) ops
next_op ops i op h e = rw (add-one) (drop-cons ops i op h ∙ ap (λ first. first ∷ drop (suc i) ops) (sym e))
