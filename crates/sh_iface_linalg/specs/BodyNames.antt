-- A region under other names means the same: its names lead to the same places.
use Rattle.std.proofs.Common.{◌≡◌, ℕ, ◌+◌, ◌<◌, ◌≤◌, Bool, true, false, List, [], ◌∷◌, ◌++◌, map, length, Option, Some, None, refl, ap, ap₂, sym, ◌∙◌, arith, subst, append_assoc}
use Rattle.std.proofs.lemmas.List.{append-nil, length-append, length-map}
use Rattle.std.specs.List.{range_with_len}
use Rattle.std.specs.Option.{option_map_or}
use Rattle.std.specs.Prelude.{nat_eq, if◌then◌else◌, option_and_then, slice_get}
use Rattle.sh_ir.specs.declared.bodies.BodyOp.{BodyOp}
use Rattle.sh_ir.specs.declared.types.ValueType.{ValueType}
use Rattle.sh_ir.specs.Agreement.{same_type}
use Rattle.sh_ir.specs.RegionRules.{body_typing}
use Rattle.sh_pieces.specs.Instructions.{last_place}
use Rattle.sh_pieces.proofs.Names.{name_itself, name_other, place_push}
use Rattle.sh_sem.specs.Region.{all_names, first_names, placed, placed_ops}
use Rattle.sh_iface_linalg.specs.Bodies.{AreSoundOps, AreTypedAt, IsRegion, Region, block_renamed, is_typed_at, renumbered, renumbered_body, renumbered_ops, with_name, with_names}

abbrev pub somes : List ℕ → List (Option ℕ)
somes names = map (λ name. Some name) names

-- ---- names that lead to the same places

pub record Leads (old new : List (Option ℕ)) (renamed : ℕ → ℕ) (next : ℕ) : Type 0 where
  pub long : length old ≡ length new
  pub place : (x k : ℕ) → last_place old x ≡ Some k → last_place new (renamed x) ≡ Some k
  pub below : (x k : ℕ) → last_place old x ≡ Some k → renamed x < next

leads_none : (renamed : ℕ → ℕ) (next : ℕ) → Leads [] [] renamed next
leads_none renamed next = record { long = refl; place = λ x k e. absurd (cc); below = λ x k e. absurd (cc) }

leads_later : (old new : List (Option ℕ)) (renamed : ℕ → ℕ) (next later : ℕ) → next ≤ later → Leads old new renamed next → Leads old new renamed later
leads_later old new renamed next later le is = record { long = is.long; place = is.place; below = λ x k e. let lt = is.below x k e in omega (arith, lt, le) }

-- one name more
pub leads_push : (old new : List (Option ℕ)) (renamed : ℕ → ℕ) (next d : ℕ) → Leads old new renamed next → Leads (old ++ Some d ∷ []) (new ++ Some next ∷ []) (with_name renamed d next) (next + 1)
leads_push old new renamed next d is = record {
  long = let a = length-append old (Some d ∷ []) in let b = length-append new (Some next ∷ []) in let c = is.long in omega (arith, a, b, c);
  place = λ x k e. place_more x k (nat_eq d x) (sym (place_push old (Some d) x) ∙ e);
  below = λ x k e. below_more x k (nat_eq d x) (sym (place_push old (Some d) x) ∙ e);
}
  where
    place_more : (x k : ℕ) (b : Bool) → (if b then Some (length old) else last_place old x) ≡ Some k → last_place (new ++ Some next ∷ []) (if b then next else renamed x) ≡ Some k
    place_more x k true e =
        let own = name_itself next in
        place_push new (Some next) next ∙ ap (λ (t : Bool). if t then Some (length new) else last_place new next) own ∙ ap (λ n. Some n) (sym is.long) ∙ e
    place_more x k false e =
        let lt = is.below x k e in
        let other = name_other next (renamed x) (λ same. absurd (omega (arith, lt, same))) in
        place_push new (Some next) (renamed x) ∙ ap (λ (t : Bool). if t then Some (length new) else last_place new (renamed x)) other ∙ is.place x k e

    below_more : (x k : ℕ) (b : Bool) → (if b then Some (length old) else last_place old x) ≡ Some k → (if b then next else renamed x) < next + 1
    below_more x k true e = omega arith
    below_more x k false e = let lt = is.below x k e in omega (arith, lt)

-- several names more
pub leads_more : (old new : List (Option ℕ)) (renamed : ℕ → ℕ) (next : ℕ) (names : List ℕ) → Leads old new renamed next
    → Leads (old ++ somes names) (new ++ somes (range_with_len next (length names))) (with_names renamed names next) (next + length names)
leads_more old new renamed next [] is =
    let z : next + 0 ≡ next = omega arith in
    subst (λ n. Leads (old ++ []) (new ++ []) renamed n) (sym z)
    (subst (λ ns. Leads ns (new ++ []) renamed next) (sym (append-nil old)) (subst (λ ns. Leads old ns renamed next) (sym (append-nil new)) is))
leads_more old new renamed next (d ∷ names) is =
    let z : next + 1 + length names ≡ next + length (d ∷ names) = omega arith in
    subst (Leads (old ++ somes (d ∷ names)) (new ++ somes (range_with_len next (length (d ∷ names)))) (with_names renamed (d ∷ names) next)) z
    (subst (λ ns. Leads ns (new ++ somes (range_with_len next (length (d ∷ names)))) (with_names renamed (d ∷ names) next) (next + 1 + length names)) (append_assoc old (Some d ∷ []) (somes names))
    (subst (λ ns. Leads ((old ++ Some d ∷ []) ++ somes names) ns (with_names renamed (d ∷ names) next) (next + 1 + length names)) (append_assoc new (Some next ∷ []) (somes (range_with_len (next + 1) (length names))))
    (leads_more (old ++ Some d ∷ []) (new ++ Some next ∷ []) (with_name renamed d next) (next + 1) names (leads_push old new renamed next d is))))

-- ---- names that stand for something

pub has_place : (types : List ValueType) (names : List (Option ℕ)) (t : ValueType) (name : ℕ) (new : List (Option ℕ)) (renamed : ℕ → ℕ) (next : ℕ)
    → Leads names new renamed next → is_typed_at types names t name ≡ true → last_place new (renamed name) ≡ last_place names name
has_place types names t name new renamed next is typed = go (last_place names name) refl typed
  where
    go : (o : Option ℕ) → last_place names name ≡ o → option_map_or (λ u. same_type u t) (option_and_then (slice_get types) o) false ≡ true → last_place new (renamed name) ≡ last_place names name
    go None e typed = absurd (cc)
    go (Some k) e typed = is.place name k e ∙ sym e

same_sources : (types : List ValueType) (names new : List (Option ℕ)) (renamed : ℕ → ℕ) (next : ℕ) (ts : List ValueType) (operands : List ℕ)
    → Leads names new renamed next → AreTypedAt types names ts operands → map (last_place new) (map renamed operands) ≡ map (last_place names) operands
same_sources types names new renamed next [] [] is typed = refl
same_sources types names new renamed next [] (n ∷ operands) is typed = absurd typed
same_sources types names new renamed next (t ∷ ts) [] is typed = absurd typed
same_sources types names new renamed next (t ∷ ts) (n ∷ operands) is typed =
    ap₂ ◌∷◌ (has_place types names t n new renamed next is typed.0) (same_sources types names new renamed next ts operands is typed.1)

same_ops : (types : List ValueType) (names new : List (Option ℕ)) (renamed : ℕ → ℕ) (next : ℕ) (ops : List BodyOp)
    → Leads names new renamed next → AreSoundOps types names ops → placed_ops new (renumbered_ops renamed next ops) ≡ placed_ops names ops
same_ops types names new renamed next [] is sound = refl
same_ops types names new renamed next (op ∷ ops) is sound =
    ap₂ (λ sources rest. record { kind = op.kind; result = op.result; sources = sources } ∷ rest)
    (same_sources types names new renamed next (body_typing op.kind op.result) op.operands is sound.0.operands)
    (same_ops (types ++ op.result ∷ []) (names ++ Some op.defines ∷ []) (new ++ Some next ∷ []) (with_name renamed op.defines next) (next + 1) ops (leads_push names new renamed next op.defines is) sound.1)

-- ---- the region

pub somes_joined : (xs ys : List ℕ) → somes (xs ++ ys) ≡ somes xs ++ somes ys
somes_joined [] ys = refl
somes_joined (x ∷ xs) ys = ap (λ ns. Some x ∷ ns) (somes_joined xs ys)

pub defines_somes : (ops : List BodyOp) → somes (map (λ (op : BodyOp). op.defines) ops) ≡ map (λ op. Some op.defines) ops
defines_somes [] = refl
defines_somes (op ∷ ops) = ap (λ ns. Some op.defines ∷ ns) (defines_somes ops)

pub defines_numbered : (renamed : ℕ → ℕ) (next : ℕ) (ops : List BodyOp) → map (λ (op : BodyOp). op.defines) (renumbered_ops renamed next ops) ≡ range_with_len next (length ops)
defines_numbered renamed next [] = refl
defines_numbered renamed next (op ∷ ops) = ap (λ ns. next ∷ ns) (defines_numbered (with_name renamed op.defines next) (next + 1) ops)

module _ (first base : ℕ) (r : Region) (later : first + length r.captured ≤ base) where
  abbrev pub renamed : ℕ → ℕ
  renamed = block_renamed first base r

  abbrev pub next : ℕ
  next = base + length r.body.args

  abbrev pub new_first : List (Option ℕ)
  new_first = first_names (renumbered first base r).captured (renumbered_body first base r)

  pub leads_first : Leads (first_names r.captured r.body) new_first renamed next
  leads_first =
      let captured = leads_more [] [] (λ name. 0) first r.captured (leads_none (λ name. 0) first) in
      let args = leads_more (somes r.captured) (somes (range_with_len first (length r.captured))) (with_names (λ name. 0) r.captured first) base r.body.args (leads_later _ _ _ _ base later captured) in
      subst (λ ns. Leads ns new_first renamed next) (sym (somes_joined r.captured r.body.args))
      (subst (λ ns. Leads (somes r.captured ++ somes r.body.args) ns renamed next) (sym (somes_joined (range_with_len first (length r.captured)) (range_with_len base (length r.body.args)))) args)

  pub leads_all : Leads (all_names r.captured r.body) (all_names (renumbered first base r).captured (renumbered_body first base r)) (with_names renamed (map (λ op. op.defines) r.body.ops) next) (next + length (map (λ (op : BodyOp). op.defines) r.body.ops))
  leads_all =
      let all = leads_more (first_names r.captured r.body) new_first renamed next (map (λ op. op.defines) r.body.ops) leads_first in
      let counted : length (map (λ (op : BodyOp). op.defines) r.body.ops) ≡ length r.body.ops = length-map r.body.ops (λ op. op.defines) in
      let behind : somes (range_with_len next (length (map (λ (op : BodyOp). op.defines) r.body.ops))) ≡ map (λ op. Some op.defines) (renumbered_ops renamed next r.body.ops) =
      ap (λ n. somes (range_with_len next n)) counted ∙ ap somes (sym (defines_numbered renamed next r.body.ops)) ∙ defines_somes (renumbered_ops renamed next r.body.ops) in
      subst (λ ns. Leads (first_names r.captured r.body ++ ns) (new_first ++ map (λ op. Some op.defines) (renumbered_ops renamed next r.body.ops)) (with_names renamed (map (λ op. op.defines) r.body.ops) next) (next + length (map (λ (op : BodyOp). op.defines) r.body.ops))) (defines_somes r.body.ops)
      (subst (λ ns. Leads (first_names r.captured r.body ++ somes (map (λ (op : BodyOp). op.defines) r.body.ops)) (new_first ++ ns) (with_names renamed (map (λ op. op.defines) r.body.ops) next) (next + length (map (λ (op : BodyOp). op.defines) r.body.ops))) behind all)

  -- Under other names the region is the same one by places.
  pub same_placed : {scalars ins : _} {w : _} → IsRegion r scalars ins w → placed (renumbered first base r).captured (renumbered first base r).body ≡ placed r.captured r.body
  unfolding placed
  same_placed is = ap₂ (λ ops yields. record { ops = ops; yields = yields }) (same_ops _ _ _ _ _ r.body.ops leads_first is.ops) (has_place _ _ _ _ _ _ _ leads_all is.yields)
