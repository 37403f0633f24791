-- The steps that define names, as steps are added.
use Rattle.std.proofs.Common.{◌≡◌, ℕ, List, [], ◌∷◌, Bool, true, false, ◌&&◌, cond, nat_eq, refl, sym, ◌∙◌, ap, true≢false, if◌then◌else◌}
use Rattle.std.specs.Prelude.{Some}
use Rattle.std.specs.Map.{lookup}
use Rattle.std.proofs.lemmas.Bool.{eqb-true, eq-eqb}
use Rattle.indexmap.specs.IndexMap.{insert_entry}
use Rattle.sh_names.specs.Names.{same_text}
use Rattle.sh_names.specs.Tables.{added, is_at}
use Rattle.sh_names.specs.declared.definers.Defined.{Defined}
use Rattle.sh_names.specs.declared.definers.Steps.{Steps}
use Rattle.sh_names.proofs.Owned.{both, text_self, texts_equal}

at_both : (op : ℕ) (text : List ℕ) (k : Defined) → is_at op text k ≡ true → (op ≡ k.op) × (text ≡ k.text.now)
at_both op text k e =
    let p = both (nat_eq op k.op) (same_text text k.text.now) e in
    (eqb-true op k.op p.0, texts_equal text k.text.now p.1)

at_same : (op : ℕ) (text : List ℕ) (k : Defined) → op ≡ k.op → text ≡ k.text.now → is_at op text k ≡ true
at_same op text k e f = rw (e, f, eq-eqb k.op k.op refl) (text_self k.text.now)

twice : {X : Type 0} (c : Bool) (x y z : X) → cond c x z ≡ cond c x (cond c y z)
twice true x y z = refl
twice false x y z = refl

swapped : {X : Type 0} (c d : Bool) (x y z : X) → (c ≡ true → d ≡ true → ⊥) → cond c x (cond d y z) ≡ cond d y (cond c x z)
swapped true true x y z apart = absurd (apart refl refl)
swapped true false x y z apart = refl
swapped false true x y z apart = refl
swapped false false x y z apart = refl

-- keys that are one pass the same tests
one_key : (op : ℕ) (text : List ℕ) (k l : Defined) → is_at k.op k.text.now l ≡ true → is_at op text l ≡ is_at op text k
one_key op text k l e =
    let p = at_both k.op k.text.now l e in
    rw (sym p.0, sym p.1) refl

step_added : (op : ℕ) (text : List ℕ) (k : Defined) (v : Steps) (e : Defined × Steps) (es new : List (Defined × Steps)) (b : Bool)
    → is_at k.op k.text.now e.0 ≡ b
    → lookup (is_at op text) new ≡ cond (is_at op text k) (Some v) (lookup (is_at op text) es)
    → lookup (is_at op text) (if b then (e.0, v) ∷ es else e ∷ new)
    ≡ cond (is_at op text k) (Some v) (lookup (is_at op text) (e ∷ es))
step_added op text k v e es new true same h =
    let one = one_key op text k e.0 same in
    rw one (twice (is_at op text k) (Some v) (Some e.1) (lookup (is_at op text) es))
step_added op text k v e es new false other h =
    ap (λ l. cond (is_at op text e.0) (Some e.1) l) h
    ∙ swapped (is_at op text e.0) (is_at op text k) (Some e.1) (Some v) (lookup (is_at op text) es)
    (λ p q.
    let x = at_both op text e.0 p in
    let y = at_both op text k q in
    true≢false (sym (at_same k.op k.text.now e.0 (sym y.0 ∙ x.0) (sym y.1 ∙ x.1)) ∙ other))

pub lookup_added : (es : List (Defined × Steps)) (op : ℕ) (text : List ℕ) (k : Defined) (v : Steps)
    → lookup (is_at op text) (insert_entry (λ a b. is_at a.op a.text.now b) es k v)
    ≡ cond (is_at op text k) (Some v) (lookup (is_at op text) es)
lookup_added [] op text k v = refl
lookup_added (e ∷ es) op text k v =
    step_added op text k v e es (insert_entry (λ a b. is_at a.op a.text.now b) es k v) (is_at k.op k.text.now e.0) refl
    (lookup_added es op text k v)

pub adds_step : (old new : List (Defined × Steps)) (k : Defined) (v : Steps) (step : ℕ)
    → new ≡ insert_entry (λ a b. is_at a.op a.text.now b) old k v
    → Some v ≡ added (lookup (is_at k.op k.text.now) old) step
    → (other : ℕ) (name : List ℕ) → lookup (is_at other name) new
    ≡ (if nat_eq other k.op && same_text name k.text.now then added (lookup (is_at other name) old) step
    else lookup (is_at other name) old)
adds_step old new k v step all is other name =
    ap (lookup (is_at other name)) all ∙ lookup_added old other name k v ∙ told (is_at other name k) refl
  where
    told : (b : Bool) → is_at other name k ≡ b
        → cond b (Some v) (lookup (is_at other name) old)
        ≡ (if b then added (lookup (is_at other name) old) step else lookup (is_at other name) old)
    told true e = let p = at_both other name k e in rw (p.0, p.1) is
    told false e = refl
