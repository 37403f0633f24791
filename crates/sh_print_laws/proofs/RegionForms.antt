-- The region of an operation, with the numbers that its names have.
use Rattle.std.proofs.Common.{◌≡◌, ◌∙◌, ◌⊎◌, inl, inr, ℕ, Bool, true, false, not, ◌||◌, nat_eq, List, [], ◌∷◌, ◌++◌, map, Some, None, refl, ap, sym, subst, append_assoc, if◌then◌else◌, true≢false}
use Rattle.std.specs.Prelude.{flat_map, slice_get}
use Rattle.std.specs.List.{AllByRecursion}
use Rattle.std.proofs.lemmas.Bool.{cases_Bool, eq-eqb, eqb-true, or_cases, or_left, or_right}
use Rattle.std.proofs.lemmas.List.Folds.{list_any-append}
use Rattle.sh_alike.proofs.Renaming.{each_behind, each_front}
use Rattle.sh_alike.specs.Renamed.{renamed_body_op}
use Rattle.sh_base.specs.declared.numbers.Width.{Width}
use Rattle.sh_base.specs.declared.places.Place.{Place}
use Rattle.sh_build.specs.Meaning.{arith, made}
use Rattle.sh_build.specs.Readings.{body_op_in, tail_in}
use Rattle.sh_build.specs.declared.parts.Part.{Part}
use Rattle.sh_build.specs.declared.parts.Part.TheVariants as part
use Rattle.sh_grammar.specs.Language as grammar
use Rattle.sh_grammar.specs.declared.forms.Form.{Form}
use Rattle.sh_grammar.specs.declared.forms.Form.TheVariants as forms
use Rattle.sh_grammar.specs.declared.symbols.Symbol.TheVariants as symbol
use Rattle.sh_ir.specs.Formed.{is_on_index}
use Rattle.sh_ir.specs.Regions.{is_among, outer_uses, outside}
use Rattle.sh_ir.specs.Written.{written_in_body}
use Rattle.sh_ir.specs.declared.bodies.BodyOp.{BodyOp}
use Rattle.sh_literals.specs.Fronts.{before}
use Rattle.sh_names.specs.Names.{Owned, same_text}
use Rattle.sh_names.specs.declared.scopes.Role.TheVariants as role
use Rattle.sh_parse.proofs.formed.NumbersOfNames.{same_numbers}
use Rattle.sh_print.specs.Spellings.{width}
use Rattle.sh_print.specs.Tokens.{body_kind_pieces, body_op_pieces, yield_pieces}
use Rattle.sh_print.specs.Values.{Scope, name_inside, name_text}
use Rattle.sh_print_laws.specs.ReadsBack.{AreWritten}
use Rattle.sh_print_laws.proofs.BodyForms.{arith_spelled, generic_spelled}
use Rattle.sh_print_laws.proofs.Keywords as keyword
use Rattle.sh_print_laws.proofs.OperationForms.{map_same}
use Rattle.sh_print_laws.proofs.PlainForms.{width_spelled}
use Rattle.sh_print_laws.proofs.RegionSteps.{enters_yield, opens_generic, opens_operation, own_name, own_number, with_own}
use Rattle.sh_print_laws.proofs.Rows.{FormTo, Gives, by_row_entered, end_row, last_form, row_by, then_form, then_is, then_line_end, then_named, then_token, then_value}
use Rattle.sh_print_laws.proofs.Standing.{Spot, Standing, among, enters_plain, naming, num_by, owned}
use Rattle.sh_print_laws.proofs.Walks.{State, enter}

-- the name is one that regions define
abbrev pub is_inner : List ℕ → Bool
is_inner [] = false
is_inner (p ∷ []) = false
is_inner (p ∷ b ∷ more) = nat_eq b 98 || nat_eq b 114

among_inner : (xs : List (List ℕ)) (text : List ℕ) → AllByRecursion (λ x. is_inner x ≡ true) xs → is_inner text ≡ false → among xs text ≡ false
among_inner [] text h outer = refl
among_inner (x ∷ xs) text h outer = elim (cases_Bool (same_text x text)) [
  | inl e ↦ absurd (true≢false (sym h.0 ∙ ap is_inner (same_numbers x text e) ∙ outer))
  | inr e ↦ rw e (among_inner xs text h.1 outer)
]

pub same_self : (x : List ℕ) → same_text x x ≡ true
same_self [] = refl
same_self (b ∷ x) = rw (eq-eqb b b refl) (same_self x)

among_more : (xs : List (List ℕ)) (y text : List ℕ) → (among xs text ≡ true) ⊎ (y ≡ text) → among (xs ++ y ∷ []) text ≡ true
among_more xs y text (inl h) = list_any-append (λ x. same_text x text) xs (y ∷ []) ∙ or_left (among xs text) _ h
among_more xs y text (inr same) = list_any-append (λ x. same_text x text) xs (y ∷ [])
    ∙ or_right (among xs text) _ (or_left (same_text y text) false (subst (λ z. same_text y z ≡ true) same (same_self y)))

each_more : (xs : List (List ℕ)) (y : List ℕ) → AllByRecursion (λ x. is_inner x ≡ true) xs → is_inner y ≡ true → AllByRecursion (λ x. is_inner x ≡ true) (xs ++ y ∷ [])
each_more [] y h g = (g, tt)
each_more (x ∷ xs) y h g = (h.0, each_more xs y h.1 g)

-- How the names of a region are printed, those that it defines being these.
pub record Named (ids : List ℕ) (text_of : ℕ → List ℕ) : Type 0 where
  pub own : (id : ℕ) → is_among ids id ≡ true → is_inner (text_of id) ≡ true
  pub outer : (id : ℕ) → is_among ids id ≡ false → is_inner (text_of id) ≡ false

-- An operation of a region that defines these names is such as a text can write.
pub record StepFits (ids : List ℕ) (x : BodyOp) : Type 0 where
  pub written : AreWritten (written_in_body x.kind) x.operands x.result
  pub defined : is_among ids x.defines ≡ true

module _ (v : Owned → ℕ) (unit op : ℕ) (own outer : Scope) (ids : List ℕ) where
  -- how a name is printed, and the number that it has
  abbrev pub text_in : ℕ → List ℕ
  text_in id = name_text (name_inside own outer id)

  abbrev pub owner_in : ℕ → Owned
  owner_in id = owned unit (if is_among ids id then Some op else None) (text_in id)

  abbrev pub read_in : ℕ → ℕ
  read_in id = v (owner_in id)

  -- What is known where a step of the region begins: the names that it has defined so far.
  pub record Covers (s : Spot) (known : List ℕ) : Type 0 where
    pub of_unit : s.func ≡ unit
    pub of_op : s.op ≡ op
    pub at : s.at ≡ role.Nothing
    pub covered : (id : ℕ) → is_among known id ≡ true → among s.all (text_in id) ≡ true
    pub inner : AllByRecursion (λ x. is_inner x ≡ true) s.all
    pub known_own : (id : ℕ) → is_among known id ≡ true → is_among ids id ≡ true

  -- the number of a name by what is defined so far
  abbrev told : Spot → ℕ → ℕ
  told s id = v (owned s.func (if among s.all (text_in id) then Some s.op else None) (text_in id))

  told_is : Named ids text_in → (s : Spot) (known : List ℕ) → Covers s known → (id : ℕ) → (is_among known id ≡ true) ⊎ (is_among ids id ≡ false) → told s id ≡ read_in id
  told_is named s known c id (inl k) = rw (c.of_unit, c.of_op, c.covered id k, c.known_own id k) refl
  told_is named s known c id (inr not_own) = rw (c.of_unit, among_inner s.all (text_in id) c.inner (named.outer id not_own), not_own) refl

  abbrev pub AreOuter : List ℕ → Type 0
  AreOuter names = AllByRecursion (λ id. is_among ids id ≡ false) names

  ids_told : Named ids text_in → (s : Spot) (known : List ℕ) → Covers s known → (xs : List ℕ) → AreOuter (outside known xs) → map (told s) xs ≡ map read_in xs
  ids_told named s known c [] h = refl
  ids_told named s known c (x ∷ xs) h = elim (cases_Bool (is_among known x)) [
    | inl k ↦ let rest : AreOuter (outside known xs) = subst (λ b. AreOuter (if not b then x ∷ outside known xs else outside known xs)) k h in
        rw (told_is named s known c x (inl k), ids_told named s known c xs rest) refl
    | inr k ↦ let both : AreOuter (x ∷ outside known xs) = subst (λ b. AreOuter (if not b then x ∷ outside known xs else outside known xs)) k h in
        rw (told_is named s known c x (inr both.0), ids_told named s known c xs both.1) refl
  ]

  covers_more : Named ids text_in → (s : Spot) (known : List ℕ) (id : ℕ) → is_among ids id ≡ true → Covers s known → Covers (with_own s (text_in id)) (id ∷ known)
  covers_more named s known id is_own c = record {
    of_unit = c.of_unit;
    of_op = c.of_op;
    at = c.at;
    covered = λ x h. elim (or_cases (nat_eq x id) (is_among known x) h) [
      | inl e ↦ among_more s.all (text_in id) (text_in x) (inr (ap text_in (sym (eqb-true x id e))))
      | inr e ↦ among_more s.all (text_in id) (text_in x) (inl (c.covered x e))
    ];
    inner = each_more s.all (text_in id) c.inner (named.own id is_own);
    known_own = λ x h. elim (or_cases (nat_eq x id) (is_among known x) h) [
      | inl e ↦ subst (λ y. is_among ids y ≡ true) (sym (eqb-true x id e)) is_own
      | inr e ↦ c.known_own x e
    ];
  }

  -- ## Operations

  abbrev pub IsBodyOp : BodyOp → Part → Type 0
  IsBodyOp x p = (place : Place) × (p ≡ part.BodyOp (record x { operands = map read_in x.operands; defines = read_in x.defines; place = place }))

  module _ (named : Named ids text_in) (s : Spot) (known : List ℕ) (c : Covers s known) (x : BodyOp) (fits : StepFits ids x) (uses : AreOuter (outside known x.operands)) where
    defined_number : own_number v s c.at (text_in x.defines) ≡ read_in x.defines
    defined_number = rw (c.of_unit, c.of_op, fits.defined) refl

    is_op : (p : Place) → part.BodyOp (record x { operands = map read_in x.operands; defines = own_number v s c.at (text_in x.defines); place = p })
        ≡ part.BodyOp (record x { operands = map read_in x.operands; defines = read_in x.defines; place = p })
    is_op p = ap (λ d. part.BodyOp (record x { operands = map read_in x.operands; defines = d; place = p })) defined_number

    same_ids : map (told s) x.operands ≡ map read_in x.operands
    same_ids = ids_told named s known c x.operands uses

    pub operation_in_body : is_on_index x.kind ≡ false → FormTo (num_by v) (Standing s) (Standing (with_own s (text_in x.defines))) forms.BodyOperation (body_op_pieces own outer x) (IsBodyOp x)
    unfolding made body_op_pieces
    operation_in_body plain = let N = naming v (with_own s (text_in x.defines)) c.at in
        by_row_entered 0 refl (opens_operation s c.at) (then_named (own_name v s c.at (text_in x.defines)) (λ p. then_token N keyword.the-equals (λ q i.
        then_is N (subst (λ ids. Gives N forms.Arith (body_kind_pieces x.kind own outer x.operands x.result) (arith x.kind ids x.result)) same_ids (arith_spelled N own outer x.kind x.operands x.result plain fits.written))
        (then_line_end N (end_row N (p, is_op p))))))

    pub operation_in_generic : FormTo (num_by v) (Standing s) (Standing (with_own s (text_in x.defines))) forms.GenericOperation (body_op_pieces own outer x) (IsBodyOp x)
    unfolding made body_op_pieces
    operation_in_generic = let N = naming v (with_own s (text_in x.defines)) c.at in
        by_row_entered 0 refl (opens_generic s c.at) (then_named (own_name v s c.at (text_in x.defines)) (λ p. then_token N keyword.the-equals (λ q i.
        then_is N (subst (λ ids. Gives N forms.GenericRightSide (body_kind_pieces x.kind own outer x.operands x.result) (arith x.kind ids x.result)) same_ids (generic_spelled N own outer x.kind x.operands x.result fits.written))
        (then_line_end N (end_row N (p, is_op p))))))

  -- ## The yield

  abbrev pub IsTail : List BodyOp → ℕ → Width → Part → Type 0
  IsTail ops y w p = (read : List BodyOp) × (place : Place) × (p ≡ part.BodyTail (record { ops = read; yields = read_in y; width = w; place = place }))
      × (map (renamed_body_op (λ id. id)) read ≡ map (renamed_body_op read_in) ops)

  abbrev at_yield : Spot → Spot
  at_yield s = record s { inside = true; defined = s.all }

  yield_spelled : Named ids text_in → (s : Spot) (known : List ℕ) → Covers s known → (y : ℕ) (w : Width) → AreOuter (outside known (y ∷ []))
      → FormTo (num_by v) (Standing s) (Standing (at_yield s)) forms.Yield (yield_pieces (name_inside own outer y) w) (IsTail [] y w)
  unfolding made yield_pieces
  yield_spelled named s known c y w uses = let N = naming v (at_yield s) c.at in
      let same : map (told s) (y ∷ []) ≡ map read_in (y ∷ []) = ids_told named s known c (y ∷ []) uses in
      by_row_entered 0 refl (enters_yield s c.at) (then_token N keyword.the-linalg_yield (λ p i. then_value N (λ q. then_token N keyword.the-colon (λ r j.
      then_is N {ps = width w ∷ []} (width_spelled N w) (then_line_end N (end_row N
      ([], p, ap (λ n. part.BodyTail (record { ops = []; yields = n; width = w; place = p })) (first_same (told s y) (read_in y) same), refl)))))))
    where
      first_same : (a b : ℕ) → a ∷ [] ≡ b ∷ [] → a ≡ b
      first_same a b e = cc

  -- ## The region

  -- where the region ends
  abbrev pub behind_ops : Spot → List BodyOp → Spot
  behind_ops s [] = at_yield s
  behind_ops s (x ∷ ops) = behind_ops (with_own s (text_in x.defines)) ops

  -- A form that is a list of operations and the yield.
  pub record IsRegionForm (body operation : Form) (Plain : BodyOp → Type 0) : Type 0 where
    pub rows : grammar.language body ≡ (symbol.Part operation ∷ symbol.Part body ∷ []) ∷ (symbol.Part forms.Yield ∷ []) ∷ []
    pub plain : (σ : State) (s : Spot) → Standing s σ → Standing s (enter body σ)
    pub more : (one rest : Part) → made body 0 (one ∷ rest ∷ []) ≡ part.BodyTail (record (tail_in rest) { ops = before (body_op_in one) (tail_in rest).ops })
    pub last : (yields : Part) → made body 1 (yields ∷ []) ≡ yields
    pub step : Named ids text_in → (s : Spot) (known : List ℕ) → Covers s known → (x : BodyOp) → StepFits ids x → AreOuter (outside known x.operands) → Plain x
        → FormTo (num_by v) (Standing s) (Standing (with_own s (text_in x.defines))) operation (body_op_pieces own outer x) (IsBodyOp x)

  joined : (x : BodyOp) (ops : List BodyOp) (y : ℕ) (w : Width) (one rest : Part) → IsBodyOp x one → IsTail ops y w rest
      → IsTail (x ∷ ops) y w (part.BodyTail (record (tail_in rest) { ops = before (body_op_in one) (tail_in rest).ops }))
  joined x ops y w one rest o t =
      let read : BodyOp = record x { operands = map read_in x.operands; defines = read_in x.defines; place = o.0 } in (
        read ∷ t.0,
        t.1,
        ap (λ p. part.BodyTail (record (tail_in rest) { ops = before (body_op_in p) (tail_in rest).ops })) o.1
            ∙ ap (λ p. part.BodyTail (record (tail_in p) { ops = read ∷ (tail_in p).ops })) t.2,
        rw (map_same (map read_in x.operands), t.3) refl,
      )

  pub region_spelled : {body operation : Form} {Plain : BodyOp → Type 0} → IsRegionForm body operation Plain → Named ids text_in
      → (ops : List BodyOp) (s : Spot) (known : List ℕ) → Covers s known → (y : ℕ) (w : Width) → AllByRecursion (StepFits ids) ops → AllByRecursion Plain ops
      → AreOuter (outer_uses known ops y)
      → FormTo (num_by v) (Standing s) (Standing (behind_ops s ops)) body (flat_map (body_op_pieces own outer) ops ++ yield_pieces (name_inside own outer y) w) (IsTail ops y w)
  region_spelled form named [] s known c y w fits plain uses = let N = naming v s c.at in
      by_row_entered 1 (ap (λ rows. slice_get rows 1) form.rows) (λ σ h. form.plain σ s h) (last_form N (yield_spelled named s known c y w uses)
      (λ p is. subst (IsTail [] y w) (sym (form.last p)) is))
  region_spelled form named (x ∷ ops) s known c y w fits plain uses = let N = naming v s c.at in
      let next : Spot = with_own s (text_in x.defines) in
      by_row_entered 0 (ap (λ rows. slice_get rows 0) form.rows) (λ σ h. form.plain σ s h)
      (row_by N (sym (append_assoc (body_op_pieces own outer x) (flat_map (body_op_pieces own outer) ops) (yield_pieces (name_inside own outer y) w)))
      (then_form N (form.step named s known c x fits.0 (each_front (λ id. is_among ids id ≡ false) (outside known x.operands) (outer_uses (x.defines ∷ known) ops y) uses) plain.0) (λ one o.
      last_form N (region_spelled form named ops next (x.defines ∷ known) (covers_more named s known x.defines fits.0.defined c) y w fits.1 plain.1
      (each_behind (λ id. is_among ids id ≡ false) (outside known x.operands) (outer_uses (x.defines ∷ known) ops y) uses))
      (λ rest t. subst (IsTail (x ∷ ops) y w) (sym (form.more one rest)) (joined x ops y w one rest o t)))))

  pub body_form : IsRegionForm forms.Body forms.BodyOperation (λ x. is_on_index x.kind ≡ false)
  unfolding made
  body_form = record {
    rows = refl;
    plain = λ σ s h. enters_plain s forms.Body σ refl h;
    more = λ one rest. refl;
    last = λ yields. refl;
    step = λ named s known c x fits uses plain. operation_in_body named s known c x fits uses plain;
  }

  pub generic_form : IsRegionForm forms.GenericBody forms.GenericOperation (λ x. Unit {0})
  unfolding made
  generic_form = record {
    rows = refl;
    plain = λ σ s h. enters_plain s forms.GenericBody σ refl h;
    more = λ one rest. refl;
    last = λ yields. refl;
    step = λ named s known c x fits uses plain. operation_in_generic named s known c x fits uses;
  }
