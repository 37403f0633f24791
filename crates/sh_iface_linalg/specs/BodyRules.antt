-- A region in order keeps the rules of device form under its new names, where its scalars stand.
use Rattle.std.proofs.Common.{◌≡◌, ℕ, zero, suc, ◌+◌, ◌<◌, ◌≤◌, Bool, true, false, List, [], ◌∷◌, ◌++◌, map, length, Option, Some, None, refl, ap, sym, ◌∙◌, arith, subst, append_assoc, inl, inr, ◌⊎◌}
use Rattle.std.proofs.lemmas.Bool.Decides.{nat_tests}
use Rattle.std.proofs.lemmas.List.{append-nil, length-append, length-map}
use Rattle.std.proofs.lemmas.Option.{same_Some}
use Rattle.std.specs.List.{list_all, range_with_len}
use Rattle.std.specs.Option.{option_map_or}
use Rattle.std.specs.Prelude.{nat_eq, if◌then◌else◌, option_and_then, slice_get}
use Rattle.sh_base.specs.declared.numbers.Width.{Width}
use Rattle.sh_base.specs.declared.places.Place.{Place}
use Rattle.sh_base.specs.declared.rules.Rule.{Rule}
use Rattle.sh_base.specs.declared.rules.Rule.TheVariants.{L2, L4, V1, V2, V5}
use Rattle.sh_ir.specs.declared.bodies.Body.{Body}
use Rattle.sh_ir.specs.declared.bodies.BodyKind.{BodyKind}
use Rattle.sh_ir.specs.declared.bodies.BodyKind.TheVariants.{Constant, Binary, Compare, Select, Cast, Index, IndexCast}
use Rattle.sh_ir.specs.declared.bodies.BodyOp.{BodyOp}
use Rattle.sh_ir.specs.declared.types.ValueType.{ValueType}
use Rattle.sh_ir.specs.declared.types.ValueType.TheVariants.{Scalar}
use Rattle.sh_ir.specs.Agreement.{same_type}
use Rattle.sh_ir.specs.Formed.{is_on_index}
use Rattle.sh_ir.specs.RegionRules.{are_typed, block_of, body_number_fits, body_typing, is_there, is_typed, keeps_at_yield, keeps_in_region, own_after, stand_for, stands_for, with_block}
use Rattle.sh_ir.specs.Rules.{body_faults, faults_at, refusal_at}
use Rattle.sh_ir.specs.Scope.{Value, plain_value, value_named}
use Rattle.sh_ir.proofs.KeptLaws.{both_empty}
use Rattle.sh_pieces.specs.Instructions.{last_place}
use Rattle.sh_pieces.proofs.Names.{place_below, place_push}
use Rattle.sh_iface_linalg.specs.Bodies.{AreSoundOps, AreTypedAt, IsRegion, IsSoundOp, Region, block_renamed, is_typed_at, renumbered_body, renumbered_ops, scalar_types, with_name, with_names}
use Rattle.sh_iface_linalg.specs.BodyNames.{Leads, leads_first, leads_push, somes, somes_joined}
use Rattle.sh_iface_linalg.specs.KindOfBody.{place_holds}
use Rattle.sh_iface_linalg.specs.Rules.{joined}

-- ---- values that names stand for

-- a scalar constant of the function
pub record IsConstantOf (outer : List Value) (t : ValueType) (name : ℕ) : Type 0 where
  pub found : Value
  pub is : value_named outer name ≡ Some found
  pub typed : found.value_type ≡ t
  pub constant : found.is_constant ≡ true

record IsOwnOf (own : List Value) (t : ValueType) (name : ℕ) : Type 0 where
  found : Value
  is : value_named own name ≡ Some found
  typed : found.value_type ≡ t

abbrev StandsFor : List Value → List Value → ValueType → ℕ → Type 0
StandsFor outer own t name = IsOwnOf own t name ⊎ ((value_named own name ≡ None) × IsConstantOf outer t name)

-- the names lead to values of these types, and those from `next` on are new
record Stands (outer : List Value) (types : List ValueType) (names : List (Option ℕ)) (own : List Value) (next : ℕ) : Type 0 where
  long : length names ≡ length types
  found : (name k : ℕ) (t : ValueType) → last_place names name ≡ Some k → slice_get types k ≡ Some t → StandsFor outer own t name
  fresh : (name : ℕ) → next ≤ name → value_named own name ≡ None

got_before : {X : Type 0} (xs : List X) (y : X) (k : ℕ) → k < length xs → slice_get (xs ++ y ∷ []) k ≡ slice_get xs k
got_before [] y k lt = absurd (omega arith)
got_before (x ∷ xs) y zero lt = refl
got_before (x ∷ xs) y (suc k) lt = got_before xs y k (omega (arith, lt))

got_end : {X : Type 0} (xs : List X) (y : X) → slice_get (xs ++ y ∷ []) (length xs) ≡ Some y
got_end [] y = refl
got_end (x ∷ xs) y = got_end xs y

stands_push : (outer : List Value) (types : List ValueType) (names : List (Option ℕ)) (own : List Value) (next : ℕ) (t : ValueType) → Stands outer types names own next
    → Stands outer (types ++ t ∷ []) (names ++ Some next ∷ []) (plain_value next t ∷ own) (next + 1)
stands_push outer types names own next t is = record {
  long = let a = length-append names (Some next ∷ []) in let b = length-append types (t ∷ []) in let c = is.long in omega (arith, a, b, c);
  found = λ name k u at there. go name k u (nat_eq next name) refl (sym (place_push names (Some next) name) ∙ at) there;
  fresh = λ name le.
      let other : nat_eq next name ≡ false = grind (arith, nat_tests) in
      ap (λ (b : Bool). if b then Some (plain_value next t) else value_named own name) other ∙ is.fresh name (omega (arith, le));
}
  where
    older : (name : ℕ) (u : ValueType) → nat_eq next name ≡ false → StandsFor outer own u name → StandsFor outer (plain_value next t ∷ own) u name
    older name u other (inl h) = inl (record { found = h.found; is = ap (λ (b : Bool). if b then Some (plain_value next t) else value_named own name) other ∙ h.is; typed = h.typed })
    older name u other (inr h) = inr (ap (λ (b : Bool). if b then Some (plain_value next t) else value_named own name) other ∙ h.0, h.1)

    go : (name k : ℕ) (u : ValueType) (b : Bool) → nat_eq next name ≡ b → (if b then Some (length names) else last_place names name) ≡ Some k → slice_get (types ++ t ∷ []) k ≡ Some u
        → StandsFor outer (plain_value next t ∷ own) u name
    go name k u true b at there =
        let place : length types ≡ k = sym is.long ∙ same_Some (length names) k at in
        let same : t ≡ u = same_Some t u (sym (got_end types t) ∙ ap (slice_get (types ++ t ∷ [])) place ∙ there) in
        inl (record { found = plain_value next t; is = ap (λ (c : Bool). if c then Some (plain_value next t) else value_named own name) b; typed = same })
    go name k u false b at there =
        let lt = place_below names name k at in
        let n = is.long in
        older name u b (is.found name k u at (sym (got_before types t k (omega (arith, lt, n))) ∙ there))

-- the block arguments
stands_block : (outer : List Value) (types : List ValueType) (names : List (Option ℕ)) (own : List Value) (next : ℕ) (widths : List Width) → Stands outer types names own next
    → Stands outer (types ++ scalar_types widths) (names ++ somes (range_with_len next (length widths))) (with_block own (range_with_len next (length widths)) widths) (next + length widths)
stands_block outer types names own next [] is =
    let z : next + 0 ≡ next = omega arith in
    subst (λ n. Stands outer (types ++ []) (names ++ []) own n) (sym z)
    (subst (λ ts. Stands outer ts (names ++ []) own next) (sym (append-nil types)) (subst (λ ns. Stands outer types ns own next) (sym (append-nil names)) is))
stands_block outer types names own next (w ∷ widths) is =
    let z : next + 1 + length widths ≡ next + length (w ∷ widths) = omega arith in
    let own_all = with_block own (range_with_len next (length (w ∷ widths))) (w ∷ widths) in
    subst (Stands outer (types ++ scalar_types (w ∷ widths)) (names ++ somes (range_with_len next (length (w ∷ widths)))) own_all) z
    (subst (λ ts. Stands outer ts (names ++ somes (range_with_len next (length (w ∷ widths)))) own_all (next + 1 + length widths)) (append_assoc types (Scalar w ∷ []) (scalar_types widths))
    (subst (λ ns. Stands outer ((types ++ Scalar w ∷ []) ++ scalar_types widths) ns own_all (next + 1 + length widths)) (append_assoc names (Some next ∷ []) (somes (range_with_len (next + 1) (length widths))))
    (stands_block outer (types ++ Scalar w ∷ []) (names ++ Some next ∷ []) (plain_value next (Scalar w) ∷ own) (next + 1) widths (stands_push outer types names own next (Scalar w) is))))

-- ---- operands

-- a name that stands for a type does so under its new name
stands_typed : (outer : List Value) (types : List ValueType) (names new : List (Option ℕ)) (own : List Value) (renamed : ℕ → ℕ) (next : ℕ) (t : ValueType) (name : ℕ)
    → Leads names new renamed next → Stands outer types new own next → is_typed_at types names t name ≡ true
    → (stands_for outer own t (renamed name) ≡ true) × (is_there outer own (renamed name) ≡ true)
stands_typed outer types names new own renamed next t name leads is typed = go (last_place names name) refl typed
  where
    value : (u : ValueType) → same_type u t ≡ true → StandsFor outer own u (renamed name) → (stands_for outer own t (renamed name) ≡ true) × (is_there outer own (renamed name) ≡ true)
    value u same (inl h) =
        let at = h.is in
        let typed : same_type h.found.value_type t ≡ true = subst (λ v. same_type v t ≡ true) (sym h.typed) same in
        (rw at typed, rw at refl)
    value u same (inr h) =
        let none = h.0 in
        let at = h.1.is in
        let constant = h.1.constant in
        let typed : same_type h.1.found.value_type t ≡ true = subst (λ v. same_type v t ≡ true) (sym h.1.typed) same in
        (rw none (rw at (rw constant typed)), rw none (rw at refl))

    at_place : (k : ℕ) → last_place names name ≡ Some k → (o : Option ValueType) → slice_get types k ≡ o → option_map_or (λ u. same_type u t) o false ≡ true
        → (stands_for outer own t (renamed name) ≡ true) × (is_there outer own (renamed name) ≡ true)
    at_place k at None there e = absurd (cc)
    at_place k at (Some u) there e = value u e (is.found (renamed name) k u (leads.place name k at) there)

    go : (o : Option ℕ) → last_place names name ≡ o → option_map_or (λ u. same_type u t) (option_and_then (slice_get types) o) false ≡ true
        → (stands_for outer own t (renamed name) ≡ true) × (is_there outer own (renamed name) ≡ true)
    go None at e = absurd (cc)
    go (Some k) at e = at_place k at (slice_get types k) refl e

operands_stand : (outer : List Value) (types : List ValueType) (names new : List (Option ℕ)) (own : List Value) (renamed : ℕ → ℕ) (next : ℕ) (ts : List ValueType) (operands : List ℕ)
    → Leads names new renamed next → Stands outer types new own next → AreTypedAt types names ts operands
    → (stand_for outer own ts (map renamed operands) ≡ true) × (list_all (is_there outer own) (map renamed operands) ≡ true)
operands_stand outer types names new own renamed next [] [] leads is typed = (refl, refl)
operands_stand outer types names new own renamed next [] (n ∷ operands) leads is typed = absurd typed
operands_stand outer types names new own renamed next (t ∷ ts) [] leads is typed = absurd typed
operands_stand outer types names new own renamed next (t ∷ ts) (n ∷ operands) leads is typed =
    let here = stands_typed outer types names new own renamed next t n leads is typed.0 in
    let rest = operands_stand outer types names new own renamed next ts operands leads is typed.1 in
    (joined _ _ here.0 rest.0, joined _ _ here.1 rest.1)

-- ---- operations

number_fits : (kind : BodyKind) (loops : ℕ) → is_on_index kind ≡ false → body_number_fits 0 kind ≡ true → body_number_fits loops kind ≡ true
unfolding body_number_fits
number_fits (Constant x) loops free h = h
number_fits (Binary op) loops free h = refl
number_fits (Compare x) loops free h = refl
number_fits (Select x) loops free h = refl
number_fits (Cast x) loops free h = refl
number_fits (Index x) loops free h = absurd (cc)
number_fits IndexCast loops free h = refl

no_faults : (place : Place) (rule : Rule) (kept : Rule → Bool) → kept rule ≡ true → faults_at place (rule ∷ []) kept ≡ []
no_faults place rule kept h = ap (λ (b : Bool). if b then [] else refusal_at place rule ∷ []) h

module _ (outer : List Value) (loops : ℕ) (body : Body) (rule : Rule) where
  abbrev renamed_op : (ℕ → ℕ) → ℕ → BodyOp → BodyOp
  renamed_op renamed next op = record op { operands = map renamed op.operands; defines = next }

  op_kept : (types : List ValueType) (names new : List (Option ℕ)) (own : List Value) (renamed : ℕ → ℕ) (next : ℕ) (op : BodyOp) → Leads names new renamed next → Stands outer types new own next
      → IsSoundOp types names op → (rule : Rule) → keeps_in_region rule loops outer own (renamed_op renamed next op) ≡ true
  unfolding keeps_in_region
  op_kept types names new own renamed next op leads is sound L2 = sound.dims
  op_kept types names new own renamed next op leads is sound L4 = sound.cells
  op_kept types names new own renamed next op leads is sound V1 = (operands_stand outer types names new own renamed next (body_typing op.kind op.result) op.operands leads is sound.operands).1
  op_kept types names new own renamed next op leads is sound V2 = let none = is.fresh next (omega arith) in rw none refl
  op_kept types names new own renamed next op leads is sound V5 = number_fits op.kind loops sound.free sound.sound
  op_kept types names new own renamed next op leads is sound _ = refl

  op_typed : (types : List ValueType) (names new : List (Option ℕ)) (own : List Value) (renamed : ℕ → ℕ) (next : ℕ) (op : BodyOp) → Leads names new renamed next → Stands outer types new own next
      → IsSoundOp types names op → is_typed outer own (renamed_op renamed next op) ≡ true
  op_typed types names new own renamed next op leads is sound =
      joined _ _ sound.scalar (operands_stand outer types names new own renamed next (body_typing op.kind op.result) op.operands leads is sound.operands).0

  yield_kept : (own : List Value) (yields : ℕ) → is_there outer own yields ≡ true → (rule : Rule) → keeps_at_yield rule outer own yields ≡ true
  unfolding keeps_at_yield
  yield_kept own yields h V1 = h
  yield_kept own yields h _ = refl

  -- from these operations on
  ops_kept : (types : List ValueType) (names new : List (Option ℕ)) (own : List Value) (renamed : ℕ → ℕ) (next : ℕ) (ops : List BodyOp) (yields : ℕ) (w : Width) → Leads names new renamed next → Stands outer types new own next
      → AreSoundOps types names ops → is_typed_at (types ++ map (λ op. op.result) ops) (names ++ map (λ op. Some op.defines) ops) (Scalar w) yields ≡ true
      → body.yields ≡ with_names renamed (map (λ op. op.defines) ops) next yields
      → (body_faults (rule ∷ []) loops outer own (renumbered_ops renamed next ops) body ≡ []) × (are_typed outer own (renumbered_ops renamed next ops) body.yields w ≡ true)
  ops_kept types names new own renamed next [] yields w leads is sound typed same =
      let here = stands_typed outer types names new own renamed next (Scalar w) yields leads is
      (subst (λ ts. is_typed_at ts names (Scalar w) yields ≡ true) (append-nil types) (subst (λ ns. is_typed_at (types ++ []) ns (Scalar w) yields ≡ true) (append-nil names) typed)) in (
        no_faults body.place rule (λ rule. keeps_at_yield rule outer own body.yields) (yield_kept own body.yields (subst (λ n. is_there outer own n ≡ true) (sym same) here.1) rule),
        subst (λ n. stands_for outer own (Scalar w) n ≡ true) (sym same) here.0,
      )
  ops_kept types names new own renamed next (op ∷ ops) yields w leads is sound typed same =
      let rest = ops_kept (types ++ op.result ∷ []) (names ++ Some op.defines ∷ []) (new ++ Some next ∷ []) (own_after own (renamed_op renamed next op)) (with_name renamed op.defines next) (next + 1) ops yields w
      (leads_push names new renamed next op.defines leads) (stands_push outer types new own next op.result is) sound.1
      (subst (λ ts. is_typed_at ts ((names ++ Some op.defines ∷ []) ++ map (λ op. Some op.defines) ops) (Scalar w) yields ≡ true) (sym (append_assoc types (op.result ∷ []) (map (λ op. op.result) ops)))
      (subst (λ ns. is_typed_at (types ++ map (λ op. op.result) (op ∷ ops)) ns (Scalar w) yields ≡ true) (sym (append_assoc names (Some op.defines ∷ []) (map (λ op. Some op.defines) ops))) typed)) same in (
        both_empty _ _ (no_faults op.place rule (λ rule. keeps_in_region rule loops outer own (renamed_op renamed next op)) (op_kept types names new own renamed next op leads is sound.0 rule)) rest.0,
        joined _ _ (op_typed types names new own renamed next op leads is sound.0) rest.1,
      )

-- ---- the region

record IsScalarAt (widths : List Width) (k : ℕ) (t : ValueType) : Type 0 where
  width : Width
  at : slice_get widths k ≡ Some width
  is : Scalar width ≡ t

length-range : (b n : ℕ) → length (range_with_len b n) ≡ n
length-range b zero = refl
length-range b (suc n) = ap suc (length-range (b + 1) n)

module _ (outer : List Value) (first base : ℕ) (r : Region) (scalars ins : List Width) (w : Width) (is : IsRegion r scalars ins w) (later : first + length r.captured ≤ base)
    (there : (i : ℕ) (v : Width) → slice_get scalars i ≡ Some v → IsConstantOf outer (Scalar v) (first + i)) where
  range_got : (b n k x : ℕ) → slice_get (somes (range_with_len b n)) k ≡ Some (Some x) → b + k ≡ x
  range_got b zero k x e = absurd (cc)
  range_got b (suc n) zero x e = let z : b + 0 ≡ b = omega arith in z ∙ same_Some b x (same_Some (Some b) (Some x) e)
  range_got b (suc n) (suc k) x e = let z : b + suc k ≡ b + 1 + k = omega arith in z ∙ range_got (b + 1) n k x e

  types_got : (ws : List Width) (k : ℕ) (t : ValueType) → slice_get (scalar_types ws) k ≡ Some t → IsScalarAt ws k t
  types_got [] k t e = absurd (cc)
  types_got (v ∷ ws) zero t e = record { width = v; at = refl; is = same_Some (Scalar v) t e }
  types_got (v ∷ ws) (suc k) t e = let rest = types_got ws k t e in record { width = rest.width; at = rest.at; is = rest.is }

  captured_stand : Stands outer (scalar_types scalars) (somes (range_with_len first (length r.captured))) [] base
  captured_stand = record {
    long =
        let a = length-map (range_with_len first (length r.captured)) (λ n. Some n) in
        let b = length-range first (length r.captured) in
        let c = length-map scalars (λ v. Scalar v) in
        let d = is.scalars_counted in
        omega (arith, a, b, c, d);
    found = λ name k t at here.
        let scalar = types_got scalars k t here in
        let same : first + k ≡ name = range_got first (length r.captured) k name (place_holds (somes (range_with_len first (length r.captured))) name k at) in
        inr (refl, subst (λ u. IsConstantOf outer u name) scalar.is (subst (IsConstantOf outer (Scalar scalar.width)) same (there k scalar.width scalar.at)));
    fresh = λ name le. refl;
  }

  block_stands : Stands outer (scalar_types (scalars ++ r.body.widths)) (somes (range_with_len first (length r.captured) ++ range_with_len base (length r.body.args))) (block_of (renumbered_body first base r)) (base + length r.body.args)
  block_stands =
      let joined_types : scalar_types scalars ++ scalar_types r.body.widths ≡ scalar_types (scalars ++ r.body.widths) = sym (types_joined scalars r.body.widths) in
      let counted = is.block_counted in
      let made = stands_block outer (scalar_types scalars) (somes (range_with_len first (length r.captured))) [] base r.body.widths captured_stand in
      let moved = subst (λ n. Stands outer (scalar_types scalars ++ scalar_types r.body.widths) (somes (range_with_len first (length r.captured)) ++ somes (range_with_len base n)) (with_block [] (range_with_len base n) r.body.widths) (base + n)) (sym counted) made in
      subst (λ ts. Stands outer ts (somes (range_with_len first (length r.captured) ++ range_with_len base (length r.body.args))) (block_of (renumbered_body first base r)) (base + length r.body.args)) joined_types
      (subst (λ ns. Stands outer (scalar_types scalars ++ scalar_types r.body.widths) ns (block_of (renumbered_body first base r)) (base + length r.body.args)) (sym (somes_joined (range_with_len first (length r.captured)) (range_with_len base (length r.body.args)))) moved)
    where
      types_joined : (xs ys : List Width) → scalar_types (xs ++ ys) ≡ scalar_types xs ++ scalar_types ys
      types_joined [] ys = refl
      types_joined (x ∷ xs) ys = ap (λ ts. Scalar x ∷ ts) (types_joined xs ys)

  all_kept : (rule : Rule) (loops : ℕ) → (body_faults (rule ∷ []) loops outer (block_of (renumbered_body first base r)) (renumbered_body first base r).ops (renumbered_body first base r) ≡ [])
      × (are_typed outer (block_of (renumbered_body first base r)) (renumbered_body first base r).ops (renumbered_body first base r).yields w ≡ true)
  all_kept rule loops =
      ops_kept outer loops (renumbered_body first base r) rule (scalar_types (scalars ++ r.body.widths)) _ _ (block_of (renumbered_body first base r)) (block_renamed first base r) (base + length r.body.args) r.body.ops r.body.yields w
      (leads_first first base r later) block_stands is.ops is.yields refl

  pub body_faultless : (rule : Rule) (loops : ℕ) → body_faults (rule ∷ []) loops outer (block_of (renumbered_body first base r)) (renumbered_body first base r).ops (renumbered_body first base r) ≡ []
  body_faultless rule loops = (all_kept rule loops).0

  pub body_typed : are_typed outer (block_of (renumbered_body first base r)) (renumbered_body first base r).ops (renumbered_body first base r).yields (renumbered_body first base r).width ≡ true
  body_typed = subst (λ v. are_typed outer (block_of (renumbered_body first base r)) (renumbered_body first base r).ops (renumbered_body first base r).yields v ≡ true) (sym is.width) (all_kept L2 0).1
