-- Places of names: the values there are those of the names; a table is made instruction by instruction.
use Rattle.std.proofs.Common.{◌≡◌, ℕ, ◌+◌, ◌<◌, ◌≤◌, Bool, false, cond, Bor, add-one, List, [], ◌∷◌, ◌++◌, length, map, take, get_or, Option, Some, None, refl, sym, ap, ap₂, ◌∙◌, arith, subst, inl, inr}
use Rattle.std.specs.Prelude.{slice_get, All, IsSome, option_and_then, option_map, unwrap_or}
use Rattle.std.proofs.lemmas.Bool.{cases_eq}
use Rattle.std.proofs.lemmas.List.{append_assoc, length_push, map_push, take_more, get_or-map, length-map, length-take-le, length-append}
use Rattle.std.proofs.lemmas.List.Elements.{All-cons, All-nil}
use Rattle.std.proofs.lemmas.Option.{same_Some, slice_get-get_or, slice_get_within}
use Rattle.sh_ir.specs.declared.functions.Arg.{Arg}
use Rattle.sh_ir.specs.declared.operations.Op.{Op}
use Rattle.sh_ir.specs.Classes.{class_of}
use Rattle.sh_pieces.specs.Instructions.{last_place, value_under}
use Rattle.sh_pieces.proofs.Names.{first_there, place_below, place_push, value_at_place}
use Rattle.sh_sem.specs.Steps.{is_collective_class}
use Rattle.sh_turns.specs.Program.{all_there, there}
use Rattle.sh_turns.proofs.Table.{get_push_at, get_push_before}
use Rattle.sh_world.specs.declared.scripts.Instruction.{Instruction}
use Rattle.sh_world.specs.Scripts.{AllArePlaced, IsPlaced, collectives_in, is_collective_at, names_until, with_place}

-- ---- values at places

module _ {V : Type 0} (ns : List (Option ℕ)) (vs : List V) (d : V) (size : length ns ≡ length vs) where
  pub values_of_places : (names places : List ℕ) → all_there (map (last_place ns) names) ≡ Some places
      → all_there (map (value_under ns (there vs)) names) ≡ Some (map (λ k. get_or vs k d) places)
  values_of_places [] places h = ap (λ ks. Some (map (λ k. get_or vs k d) ks)) (same_Some [] places h)
  values_of_places (name ∷ names) places h =
      let c = first_there (last_place ns name) (map (last_place ns) names) places h in
      let here : value_under ns (there vs) name ≡ Some (get_or vs c.first d) =
      value_at_place ns vs name c.first c.here ∙ slice_get-get_or vs c.first d (omega (arith, place_below ns name c.first c.here, size)) in
      let rest = values_of_places names c.rest c.others in
      rw (here, rest) (ap (λ ks. Some (map (λ k. get_or vs k d) ks)) (sym c.whole))

  pub places_below : (names places : List ℕ) → all_there (map (last_place ns) names) ≡ Some places → All (λ k. k < length vs) places
  places_below [] places h = subst (All (λ k. k < length vs)) (same_Some [] places h) (All-nil (λ k. k < length vs))
  places_below (name ∷ names) places h =
      let c = first_there (last_place ns name) (map (last_place ns) names) places h in
      subst (All (λ k. k < length vs)) (sym c.whole)
      (All-cons (λ k. k < length vs) c.first c.rest (omega (arith, place_below ns name c.first c.here, size)) (places_below names c.rest c.others))

-- the first of some names that are all known
pub first_known : (ns : List (Option ℕ)) (names : List ℕ) → IsSome (all_there (map (last_place ns) names)) → 0 < length names
    → IsSome (option_and_then (last_place ns) (slice_get names 0))
first_known ns [] known some = absurd (omega arith)
first_known ns (name ∷ names) known some = go (all_there (map (last_place ns) (name ∷ names))) refl known
  where
    go : (o : Option (List ℕ)) → all_there (map (last_place ns) (name ∷ names)) ≡ o → IsSome o → IsSome (last_place ns name)
    go None e h = cc
    go (Some places) e h = let c = first_there (last_place ns name) (map (last_place ns) names) places e in rw c.here refl

-- there are as many places as names
pub as_many_places : (ns : List (Option ℕ)) (names places : List ℕ) → all_there (map (last_place ns) names) ≡ Some places → length places ≡ length names
as_many_places ns [] places h = ap length (sym (same_Some [] places h))
as_many_places ns (name ∷ names) places h =
    let c = first_there (last_place ns name) (map (last_place ns) names) places h in
    omega (arith, ap length c.whole, as_many_places ns names c.rest c.others)

-- ---- the table

pub with_place_is : (ns : List (Option ℕ)) (name : Option ℕ) (place : ℕ) → place ≡ length ns
    → with_place name place (last_place ns) ≡ last_place (ns ++ name ∷ [])
with_place_is ns name place e = λ i other. (ap (λ k. with_place name k (last_place ns) other) e ∙ sym (place_push ns name other)) i

-- one parameter more
pub parameters_more : (params : List Arg) (k : ℕ) (a d : Arg) → k < length params → a ≡ get_or params k d
    → with_place (Some a.id) k (last_place (map (λ name. Some name) (map (λ a. a.id) (take k params))))
    ≡ last_place (map (λ name. Some name) (map (λ a. a.id) (take (k + 1) params)))
parameters_more params k a d lt is =
    let before = take k params in
    let size : k ≡ length (map (λ name. Some name) (map (λ (a : Arg). a.id) before)) =
    sym (length-map (map (λ (a : Arg). a.id) before) (λ name. Some name) ∙ length-map before (λ (a : Arg). a.id) ∙ length-take-le k params (omega (arith, lt))) in
    let more : take (k + 1) params ≡ before ++ a ∷ [] = take_more params k d lt ∙ ap (λ x. before ++ x ∷ []) (sym is) in
    with_place_is (map (λ name. Some name) (map (λ (a : Arg). a.id) before)) (Some a.id) k size
    ∙ ap last_place (sym (ap (λ (l : List Arg). map (λ name. Some name) (map (λ a. a.id) l)) more
    ∙ ap (map (λ name. Some name)) (map_push (λ (a : Arg). a.id) before a) ∙ map_push (λ name. Some name) (map (λ (a : Arg). a.id) before) a.id))

module _ (parameters : List ℕ) (ops : List Op) where
  pub names_until_more : (k : ℕ) (op d : Op) → k < length ops → op ≡ get_or ops k d
      → names_until parameters ops (k + 1) ≡ names_until parameters ops k ++ op.defines ∷ []
  names_until_more k op d lt is =
      ap (λ (os : List Op). map (λ name. Some name) parameters ++ map (λ op. op.defines) os) (take_more ops k d lt ∙ ap (λ (o : Op). take k ops ++ o ∷ []) (sym is))
      ∙ ap (λ ds. map (λ name. Some name) parameters ++ ds) (map_push (λ (op : Op). op.defines) (take k ops) op)
      ∙ sym (append_assoc (map (λ name. Some name) parameters) (map (λ op. op.defines) (take k ops)) (op.defines ∷ []))

  pub length-names_until : (k : ℕ) → k ≤ length ops → length (names_until parameters ops k) ≡ length parameters + k
  length-names_until k le =
      length-append (map (λ name. Some name) parameters) (map (λ (op : Op). op.defines) (take k ops))
      ∙ ap₂ (λ a b. a + b) (length-map parameters (λ name. Some name)) (length-map (take k ops) (λ (op : Op). op.defines) ∙ length-take-le k ops le)

  pub placed_more : (k : ℕ) (is : List Instruction) (i : Instruction) → AllArePlaced parameters ops k is → IsPlaced parameters ops k i
      → AllArePlaced parameters ops (k + 1) (is ++ i ∷ [])
  placed_more k is i all here = record { counted = length_push is i ∙ ap (λ n. n + 1) all.counted; each = λ j x at. each j x at }
    where
      each : (j : ℕ) (x : Instruction) → slice_get (is ++ i ∷ []) j ≡ Some x → IsPlaced parameters ops j x
      each j x at =
          elim (cases_eq j (length is)) [
            | inl e ↦
                let same : i ≡ x = same_Some i x (sym (get_push_at is i j e) ∙ at) in
                subst (IsPlaced parameters ops j) same (subst (λ n. IsPlaced parameters ops n i) (sym (e ∙ all.counted)) here)
            | inr ne ↦
                let lt = slice_get_within (is ++ i ∷ []) j x at in
                all.each j x (sym (get_push_before is i j (omega (arith, lt, length_push is i))) ∙ at)
          ]

  pub none_placed : AllArePlaced parameters ops 0 []
  none_placed = record { counted = refl; each = λ k i at. absurd (cc) }

-- ---- how many collectives

pub collectives_more : (is : List Instruction) (k : ℕ) (d : Instruction) (b : Bool) → k < length is → b ≡ is_collective_class (class_of (get_or is k d).op.now.kind)
    → collectives_in (map (λ i. i.op.now) is) (k + 1) ≡ cond b (collectives_in (map (λ i. i.op.now) is) k + 1) (collectives_in (map (λ i. i.op.now) is) k)
collectives_more is k d b lt h =
    let ops : List Op = map (λ (i : Instruction). i.op.now) is in
    let here : is_collective_at ops k ≡ b =
    ap (λ (o : Option Op). unwrap_or (option_map (λ op. is_collective_class (class_of op.kind)) o) false)
    (slice_get-get_or ops k d.op.now (rw (length-map is (λ (i : Instruction). i.op.now)) lt) ∙ ap (λ (o : Op). Some o) (get_or-map (λ (i : Instruction). i.op.now) is k d d.op.now lt))
    ∙ sym h in
    rw add-one (ap (λ t. cond t (collectives_in ops k + 1) (collectives_in ops k)) here)

-- an element of a list of borrowed operations
pub borrowed_at : (ops : List (Bor Op)) (k : ℕ) (d : Bor Op) → k < length ops → slice_get (map (λ op. op.now) ops) k ≡ Some (get_or ops k d).now
borrowed_at ops k d lt =
    slice_get-get_or (map (λ (op : Bor Op). op.now) ops) k d.now (rw (length-map ops (λ (op : Bor Op). op.now)) lt)
    ∙ ap (λ (o : Op). Some o) (get_or-map (λ (op : Bor Op). op.now) ops k d d.now lt)

-- names that are known have places
pub no_places : {X : Type 0} (f : X → List ℕ) (o : Option X) (r : Option (List ℕ)) → option_map f o ≡ r → o ≡ None → IsSome r → ⊥
no_places f o r h none some = let e : None ≡ r = sym (ap (option_map f) none) ∙ h in absurd (cc)
