-- What a region takes of its function goes by renaming, where names are kept apart.
use Rattle.std.proofs.Common.{◌≡◌, ◌∙◌, inl, inr, ℕ, Bool, not, nat_eq, List, [], ◌∷◌, ◌++◌, map, refl, ap, sym, subst, if◌then◌else◌, true≢false}
use Rattle.std.specs.Prelude.{filter}
use Rattle.std.specs.List.{AllByRecursion}
use Rattle.std.proofs.lemmas.Bool.{cases_Bool, eq-eqb, eqb-true}
use Rattle.std.proofs.lemmas.List.{map-append}
use Rattle.sh_alike.specs.Renamed.{renamed_body, renamed_body_op}
use Rattle.sh_ir.specs.Regions.{captured_by, first_occurrences, is_among, outer_uses, outside}
use Rattle.sh_ir.specs.declared.bodies.Body.{Body}
use Rattle.sh_ir.specs.declared.bodies.BodyOp.{BodyOp}
use Rattle.sh_print_laws.proofs.OperationForms.{map_same}

module _ (r : ℕ → ℕ) (Used : ℕ → Type 0) (apart : (a b : ℕ) → Used a → Used b → r a ≡ r b → a ≡ b) where
  abbrev pub AllUsed : List ℕ → Type 0
  AllUsed xs = AllByRecursion Used xs

  -- the operation defines and uses such names
  abbrev pub StepUses : BodyOp → Type 0
  StepUses x = AllUsed x.operands × Used x.defines

  pub eq_renamed : (a b : ℕ) → Used a → Used b → nat_eq (r a) (r b) ≡ nat_eq a b
  eq_renamed a b h g = elim (cases_Bool (nat_eq a b)) [
    | inl e ↦ eq-eqb (r a) (r b) (ap r (eqb-true a b e)) ∙ sym e
    | inr e ↦ elim (cases_Bool (nat_eq (r a) (r b))) [
      | inl f ↦ absurd (true≢false (sym (eq-eqb a b (apart a b h g (eqb-true (r a) (r b) f))) ∙ e))
      | inr f ↦ f ∙ sym e
    ]
  ]

  pub among_renamed : (xs : List ℕ) (a : ℕ) → AllUsed xs → Used a → is_among (map r xs) (r a) ≡ is_among xs a
  among_renamed [] a h g = refl
  among_renamed (x ∷ xs) a h g = rw (eq_renamed a x g h.0, among_renamed xs a h.1 g) refl

  outside_renamed : (own xs : List ℕ) → AllUsed own → AllUsed xs → outside (map r own) (map r xs) ≡ map r (outside own xs)
  outside_renamed own [] h g = refl
  outside_renamed own (x ∷ xs) h g = elim (cases_Bool (is_among own x)) [
    | inl e ↦ rw (among_renamed own x h g.0, e) (outside_renamed own xs h g.1)
    | inr e ↦ rw (among_renamed own x h g.0, e) (ap (λ ys. r x ∷ ys) (outside_renamed own xs h g.1))
  ]

  outer_renamed : (own : List ℕ) (ops : List BodyOp) (y : ℕ) → AllUsed own → AllByRecursion StepUses ops → Used y
      → outer_uses (map r own) (map (renamed_body_op r) ops) (r y) ≡ map r (outer_uses own ops y)
  outer_renamed own [] y h g u = outside_renamed own (y ∷ []) h (u, tt)
  outer_renamed own (x ∷ ops) y h g u =
      ap (λ xs. xs ++ outer_uses (map r (x.defines ∷ own)) (map (renamed_body_op r) ops) (r y)) (outside_renamed own x.operands h g.0.0)
      ∙ ap (λ xs. map r (outside own x.operands) ++ xs) (outer_renamed (x.defines ∷ own) ops y (g.0.1, h) g.1 u)
      ∙ sym (map-append r (outside own x.operands) (outer_uses (x.defines ∷ own) ops y))

  others_renamed : (x : ℕ) (ys : List ℕ) → Used x → AllUsed ys
      → filter (λ other. not (nat_eq (r x) other)) (map r ys) ≡ map r (filter (λ other. not (nat_eq x other)) ys)
  others_renamed x [] h g = refl
  others_renamed x (y ∷ ys) h g = elim (cases_Bool (nat_eq x y)) [
    | inl e ↦ rw (eq_renamed x y h g.0, e) (others_renamed x ys h g.1)
    | inr e ↦ rw (eq_renamed x y h g.0, e) (ap (λ zs. r y ∷ zs) (others_renamed x ys h g.1))
  ]

  others_used : (p : ℕ → Bool) (ys : List ℕ) → AllUsed ys → AllUsed (filter p ys)
  others_used p [] h = tt
  others_used p (y ∷ ys) h = elim (cases_Bool (p y)) [
    | inl e ↦ subst (λ b. AllUsed (if b then y ∷ filter p ys else filter p ys)) (sym e) (h.0, others_used p ys h.1)
    | inr e ↦ subst (λ b. AllUsed (if b then y ∷ filter p ys else filter p ys)) (sym e) (others_used p ys h.1)
  ]

  firsts_used : (xs : List ℕ) → AllUsed xs → AllUsed (first_occurrences xs)
  firsts_used [] h = tt
  firsts_used (x ∷ xs) h = (h.0, others_used (λ other. not (nat_eq x other)) (first_occurrences xs) (firsts_used xs h.1))

  firsts_renamed : (xs : List ℕ) → AllUsed xs → first_occurrences (map r xs) ≡ map r (first_occurrences xs)
  firsts_renamed [] h = refl
  firsts_renamed (x ∷ xs) h = ap (λ ys. r x ∷ ys)
      (ap (filter (λ other. not (nat_eq (r x) other))) (firsts_renamed xs h.1) ∙ others_renamed x (first_occurrences xs) h.0 (firsts_used xs h.1))

  both_used : (xs ys : List ℕ) → AllUsed xs → AllUsed ys → AllUsed (xs ++ ys)
  both_used [] ys h g = g
  both_used (x ∷ xs) ys h g = (h.0, both_used xs ys h.1 g)

  outer_used : (own : List ℕ) (ops : List BodyOp) (y : ℕ) → AllByRecursion StepUses ops → Used y → AllUsed (outer_uses own ops y)
  outer_used own [] y g u = others_used (λ name. not (is_among own name)) (y ∷ []) (u, tt)
  outer_used own (x ∷ ops) y g u = both_used (outside own x.operands) (outer_uses (x.defines ∷ own) ops y)
      (others_used (λ name. not (is_among own name)) x.operands g.0.0) (outer_used (x.defines ∷ own) ops y g.1 u)

  -- the region's names are such
  pub record BodyUses (body : Body) : Type 0 where
    pub args : AllUsed body.args
    pub ops : AllByRecursion StepUses body.ops
    pub yields : Used body.yields

  pub captured_renamed : (body : Body) → BodyUses body → captured_by (renamed_body r body) ≡ map r (captured_by body)
  captured_renamed body h =
      ap first_occurrences (outer_renamed body.args body.ops body.yields h.args h.ops h.yields)
      ∙ firsts_renamed (outer_uses body.args body.ops body.yields) (outer_used body.args body.ops body.yields h.ops h.yields)

-- whatever the places of a region
pub captured_placeless : (body : Body) → captured_by (renamed_body (λ id. id) body) ≡ captured_by body
captured_placeless body =
    captured_renamed (λ id. id) (λ id. Unit {0}) (λ a b h g e. e) body (record { args = all body.args; ops = each body.ops; yields = tt })
    ∙ map_same (captured_by body)
  where
    all : (xs : List ℕ) → AllByRecursion (λ id. Unit {0}) xs
    all [] = tt
    all (x ∷ xs) = (tt, all xs)

    each : (ops : List BodyOp) → AllByRecursion (StepUses (λ id. id) (λ id. Unit {0}) (λ a b h g e. e)) ops
    each [] = tt
    each (x ∷ ops) = ((all x.operands, tt), each ops)
