-- A table of maps by their names, as aliases are added.
use Rattle.std.proofs.Common.{◌≡◌, ℕ, List, [], ◌∷◌, ◌++◌, Bool, true, false, cond, refl, sym, ◌∙◌, ap, true≢false, if◌then◌else◌, Bor, append_assoc}
use Rattle.std.specs.Prelude.{Option, Some, option_map, unwrap_or}
use Rattle.std.specs.Map.{lookup}
use Rattle.indexmap.specs.IndexMap.{insert_entry}
use Rattle.sh_build.specs.declared.parts.Alias.{Alias}
use Rattle.sh_ir.specs.declared.linalg_ops.AffineMap.{AffineMap}
use Rattle.sh_names.specs.Names.{same_text}
use Rattle.sh_names.proofs.Keeping.{text_either}
use Rattle.sh_names.proofs.Owned.{text_self, texts_equal}
use Rattle.sh_parse.specs.Leaves.{AreMapsOf, HasLater, map_at}
use Rattle.sh_parse.specs.Reads.{map_of}
use Rattle.sh_parse.specs.declared.maps.Maps.{Maps}

abbrev Key : Type 0
Key = Bor (List ℕ)

abbrev Entry : Type 0
Entry = Key × Bor AffineMap

abbrev is_key : List ℕ → Key → Bool
is_key name key = same_text name key.now

twice : {X : Type 0} (c : Bool) (x y z : X) → cond c x z ≡ cond c x (cond c y z)
twice true x y z = refl
twice false x y z = refl

swapped : {X : Type 0} (c d : Bool) (x y z : X) → (c ≡ true → d ≡ true → ⊥) → cond c x (cond d y z) ≡ cond d y (cond c x z)
swapped true true x y z apart = absurd (apart refl refl)
swapped true false x y z apart = refl
swapped false true x y z apart = refl
swapped false false x y z apart = refl

step_added : (name : List ℕ) (k : Key) (v : Bor AffineMap) (e : Entry) (es new : List Entry) (b : Bool)
    → is_key k.now e.0 ≡ b
    → lookup (is_key name) new ≡ cond (is_key name k) (Some v) (lookup (is_key name) es)
    → lookup (is_key name) (if b then (e.0, v) ∷ es else e ∷ new)
    ≡ cond (is_key name k) (Some v) (lookup (is_key name) (e ∷ es))
step_added name k v e es new true same h =
    let one : is_key name e.0 ≡ is_key name k = ap (same_text name) (sym (texts_equal k.now e.0.now same)) in
    rw one (twice (is_key name k) (Some v) (Some e.1) (lookup (is_key name) es))
step_added name k v e es new false other h =
    ap (λ l. cond (is_key name e.0) (Some e.1) l) h
    ∙ swapped (is_key name e.0) (is_key name k) (Some e.1) (Some v) (lookup (is_key name) es)
    (λ p q.
    let x = texts_equal name e.0.now p in
    let y = texts_equal name k.now q in
    true≢false (sym (text_self k.now) ∙ ap (same_text k.now) (sym y ∙ x) ∙ other))

lookup_added : (es : List Entry) (name : List ℕ) (k : Key) (v : Bor AffineMap)
    → lookup (is_key name) (insert_entry (λ a b. is_key a.now b) es k v)
    ≡ cond (is_key name k) (Some v) (lookup (is_key name) es)
lookup_added [] name k v = refl
lookup_added (e ∷ es) name k v =
    step_added name k v e es (insert_entry (λ a b. is_key a.now b) es k v) (is_key k.now e.0) refl (lookup_added es name k v)

found : (b : Bool) (v : Bor AffineMap) (rest : Option (Bor AffineMap)) (d : AffineMap)
    → unwrap_or (option_map (λ map. map.now) (cond b (Some v) rest)) d
    ≡ (if b then v.now else unwrap_or (option_map (λ map. map.now) rest) d)
found true v rest d = refl
found false v rest d = refl

-- one more alias in front
maps_more : (old new : Maps) (a : Alias) (k : Key) (v : Bor AffineMap) (later : List Alias) → k.now ≡ a.name → v.now ≡ a.map
    → new.by_name.entries ≡ insert_entry (λ a b. is_key a.now b) old.by_name.entries k v
    → AreMapsOf old later → AreMapsOf new (a ∷ later)
maps_more old new a k v later name map all has = λ text.
    ap (λ es. unwrap_or (option_map (λ map. map.now) (lookup (is_key text) es)) (record { loops = []; results = [] })) all
    ∙ ap (λ m. unwrap_or (option_map (λ map. map.now) m) (record { loops = []; results = [] })) (lookup_added old.by_name.entries text k v)
    ∙ found (is_key text k) v (lookup (is_key text) old.by_name.entries) (record { loops = []; results = [] })
    ∙ ap (λ m. if is_key text k then m else map_at old text) map
    ∙ ap (λ m. if is_key text k then a.map else m) (has text)
    ∙ ap (λ b. if b then a.map else map_of later text) (text_either text k.now ∙ ap (λ n. same_text n text) name)

pub later_more : (old new : Maps) (aliases rest front : List Alias) (a : Alias) (k : Key) (v : Bor AffineMap) → rest ≡ front ++ a ∷ []
    → k.now ≡ a.name → v.now ≡ a.map
    → new.by_name.entries ≡ insert_entry (λ a b. is_key a.now b) old.by_name.entries k v
    → HasLater old aliases rest → HasLater new aliases front
later_more old new aliases rest front a k v e name map all h = record {
  later = a ∷ h.later;
  all = sym (append_assoc front (a ∷ []) h.later) ∙ ap (λ xs. xs ++ h.later) (sym e) ∙ h.all;
  has = maps_more old new a k v h.later name map all h.has;
}
