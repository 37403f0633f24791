-- The names of regions: what block arguments and operations define, and that all other names that a
-- region uses are its function's.
use Rattle.std.proofs.Common.{◌≡◌, ◌+◌, ◌∙◌, ◌⊎◌, ℕ, suc, true, false, cond, nat_eq, List, [], ◌∷◌, ◌++◌, map, Some, refl, ap, sym, subst, inl, inr, arith, append_assoc}
use Rattle.std.proofs.lemmas.List.Elements.{filter-append}
use Rattle.std.specs.Prelude.{filter, not, ◌&&◌, codes}
use Rattle.std.specs.List.{AllByRecursion}
use Rattle.std.proofs.lemmas.Bool.{and_from, and_parts, and_right, cases_Bool, cond_both, eq-eqb, false≢true, or_cases, or_left, or_right}
use Rattle.sh_build.specs.Meaning.{defining_in_body}
use Rattle.sh_build.specs.Readings.{body_op_in, id_in, mark_in, tail_in}
use Rattle.sh_build.specs.declared.parts.Alias.{Alias}
use Rattle.sh_build.specs.declared.parts.Part.{Part}
use Rattle.sh_build.specs.declared.parts.Part.TheVariants as part
use Rattle.sh_grammar.specs.Lexemes.{Lexeme}
use Rattle.sh_ir.specs.Regions.{first_occurrences, is_among, outer_uses, outside}
use Rattle.sh_ir.specs.declared.bodies.BodyOp.{BodyOp}
use Rattle.sh_literals.specs.Fronts.{before}
use Rattle.sh_names.specs.Names.{Mention, Owned, distinct, is_own, mention_of, names_by_role, number_among, role_in, same_owned, same_text}
use Rattle.sh_names.specs.declared.scopes.Role.TheVariants as role
use Rattle.sh_parse.proofs.formed.EachOf.{each_append, each_so}
use Rattle.sh_parse.proofs.formed.NumbersOfNames.{absent, new_number, one_new, owned, same_is, count_of, IsIn, in_behind, same_self as same_name}
use Rattle.sh_parse.proofs.formed.QuietForms.{NotOf, Same, behind_func, behind_op, behind_step, owns, same_then}
use Rattle.sh_parse.proofs.formed.States.{TokenAt, named_before}
use Rattle.sh_parse.proofs.formed.UsedNames.{ArithUses, Covers, Covered, Inner, NameAt, Outer, Uses, covers_as, name_at, number_of, own_number}
use Rattle.sh_parse.proofs.formed.Walks.{State, leaf_at, step}

module _ (all : List Owned) where
  -- the names that the region of this operation has defined are among these
  abbrev pub CoveredAll : List ℕ → State → Mention → Type 0
  CoveredAll own σ m = m.scope.op ≡ σ.scope.op → is_among own (own_number all σ m.text) ≡ true

  abbrev pub CoversAll : List ℕ → State → Type 0
  CoversAll own σ = AllByRecursion (CoveredAll own σ) (owns σ)

  -- one of these, or one of the function
  abbrev pub OwnOrOuter : List ℕ → ℕ → ℕ → Type 0
  OwnOrOuter own u x = (is_among own x ≡ true) ⊎ Outer all u x

  covered_same : (own : List ℕ) (σ τ : State) (ms : List Mention) → τ.scope.func ≡ σ.scope.func → τ.scope.op ≡ σ.scope.op
      → AllByRecursion (CoveredAll own σ) ms → AllByRecursion (CoveredAll own τ) ms
  covered_same own σ τ [] func op h = tt
  covered_same own σ τ (m ∷ ms) func op h = (
    λ e. subst (λ n. is_among own n ≡ true)
        (ap (λ u. number_of all (owned u (Some σ.scope.op) m.text)) (sym func)
        ∙ ap (λ o. number_of all (owned τ.scope.func (Some o) m.text)) (sym op)) (h.0 (e ∙ op)),
    covered_same own σ τ ms func op h.1,
  )

  pub covers_same : (own : List ℕ) (σ τ : State) → Same σ τ → CoversAll own σ → CoversAll own τ
  covers_same own σ τ same h =
      covered_same own σ τ (owns τ) same.func same.op (subst (AllByRecursion (CoveredAll own σ)) (sym same.own) h)

  pub covers_more : (own more : List ℕ) (σ : State) → ((x : ℕ) → is_among own x ≡ true → is_among more x ≡ true)
      → CoversAll own σ → CoversAll more σ
  covers_more own more σ so h = each_so (CoveredAll own σ) (CoveredAll more σ) (owns σ) (λ m k op. so _ (k op)) h

  among_append : (xs ys : List ℕ) (x : ℕ) → is_among (xs ++ ys) x ≡ true → (is_among xs x ≡ true) ⊎ (is_among ys x ≡ true)
  among_append [] ys x h = inr h
  among_append (y ∷ xs) ys x h = elim (or_cases (nat_eq x y) (is_among (xs ++ ys) x) h) [
    | inl e ↦ inl (or_left (nat_eq x y) _ e)
    | inr e ↦ behind_first (among_append xs ys x e)
  ]
    where
      behind_first : (is_among xs x ≡ true) ⊎ (is_among ys x ≡ true) → (is_among (y ∷ xs) x ≡ true) ⊎ (is_among ys x ≡ true)
      behind_first (inl e) = inl (or_right (nat_eq x y) _ e)
      behind_first (inr e) = inr e

  among_front : (xs ys : List ℕ) (x : ℕ) → is_among xs x ≡ true → is_among (xs ++ ys) x ≡ true
  among_front [] ys x h = absurd (false≢true h)
  among_front (y ∷ xs) ys x h = elim (or_cases (nat_eq x y) (is_among xs x) h) [
    | inl e ↦ or_left (nat_eq x y) _ e
    | inr e ↦ or_right (nat_eq x y) _ (among_front xs ys x e)
  ]

  among_behind : (xs ys : List ℕ) (x : ℕ) → is_among ys x ≡ true → is_among (xs ++ ys) x ≡ true
  among_behind [] ys x h = h
  among_behind (y ∷ xs) ys x h = or_right (nat_eq x y) _ (among_behind xs ys x h)

  -- in another order
  swapped : (a b own : List ℕ) (x : ℕ) → is_among (b ++ (a ++ own)) x ≡ true → is_among (a ++ b ++ own) x ≡ true
  swapped a b own x h = elim (among_append b (a ++ own) x h) [
    | inl e ↦ among_front (a ++ b) own x (among_behind a b x e)
    | inr e ↦ elim (among_append a own x e) [
      | inl g ↦ among_front (a ++ b) own x (among_front a b x g)
      | inr g ↦ among_behind (a ++ b) own x g
    ]
  ]

  -- ## What defines names

  -- behind these the region has defined the names of these numbers
  pub record Region (σ τ : State) (ids : List ℕ) : Type 0 where
    pub func : τ.scope.func ≡ σ.scope.func
    pub op : τ.scope.op ≡ σ.scope.op
    pub inner : AllByRecursion (Inner all σ.scope.func σ.scope.op) ids
    pub covers : (own : List ℕ) → CoversAll own σ → CoversAll (ids ++ own) τ

  inner_as : (u v o p : ℕ) (ids : List ℕ) → u ≡ v → o ≡ p → AllByRecursion (Inner all u o) ids → AllByRecursion (Inner all v p) ids
  inner_as u v o p ids e f h =
      subst (λ w. AllByRecursion (Inner all w p) ids) e (subst (λ q. AllByRecursion (Inner all u q) ids) f h)

  pub inner_like : (u v o p : ℕ) (ids : List ℕ) → u ≡ v → o ≡ p → AllByRecursion (Inner all u o) ids → AllByRecursion (Inner all v p) ids
  inner_like u v o p ids e f h = inner_as u v o p ids e f h

  pub region_then : (σ τ υ : State) (a b : List ℕ) → Region σ τ a → Region τ υ b → Region σ υ (a ++ b)
  region_then σ τ υ a b x y = record {
    func = y.func ∙ x.func;
    op = y.op ∙ x.op;
    inner = each_append (Inner all σ.scope.func σ.scope.op) a b x.inner
        (inner_as τ.scope.func σ.scope.func τ.scope.op σ.scope.op b x.func x.op y.inner);
    covers = λ own h. covers_more (b ++ (a ++ own)) (a ++ b ++ own) υ (swapped a b own) (y.covers (a ++ own) (x.covers own h));
  }

  pub region_none : (σ τ : State) → Same σ τ → Region σ τ []
  region_none σ τ same = record { func = same.func; op = same.op; inner = tt; covers = λ own h. covers_same own σ τ same h }

  pub region_behind : (σ τ υ : State) (ids : List ℕ) → Region σ τ ids → Same τ υ → Region σ υ ids
  region_behind σ τ υ ids x same = record {
    func = same.func ∙ x.func;
    op = same.op ∙ x.op;
    inner = x.inner;
    covers = λ own h. covers_same (ids ++ own) τ υ same (x.covers own h);
  }

module _ (aliases : List Alias) (all : List Owned) where
  -- what a token does that defines a name of the region
  pub record Defines (σ : State) (t : Lexeme) : Type 0 where
    pub inner : Inner all σ.scope.func σ.scope.op (id_in (leaf_at aliases (distinct all) σ t))
    pub covers : (own : List ℕ) → CoversAll all own σ
        → CoversAll all (id_in (leaf_at aliases (distinct all) σ t) ∷ own) (step t σ)
    pub before : (own : List ℕ) → CoversAll all own σ → Covers all own (step t σ)

  pub defines : (σ : State) (t : Lexeme) → TokenAt all 1 σ t → role_in σ.scope.opened t.kind σ.scope ≡ role.Own → Defines σ t
  defines σ t at is_own_role =
      let m : Mention = mention_of σ.scope t in
      let x : Owned = owned σ.scope.func (Some σ.scope.op) t.text in
      let id : ℕ = id_in (leaf_at aliases (distinct all) σ t) in
      let known : NameAt aliases all σ t x = name_at aliases all σ t x at (ap (λ r. names_by_role r σ.before m) is_own_role) in
      let more : owns (step t σ) ≡ owns σ ++ m ∷ [] =
      filter-append (λ m. is_own m.role) σ.before (m ∷ []) ∙ ap (λ r. owns σ ++ cond (is_own r) (m ∷ []) []) is_own_role in
      let func : (step t σ).scope.func ≡ σ.scope.func = behind_func t.kind σ.scope in
      let op : (step t σ).scope.op ≡ σ.scope.op = behind_op t.kind σ.scope in
      let number : own_number all (step t σ) t.text ≡ id =
      ap (λ u. number_of all (owned u (Some (step t σ).scope.op) t.text)) func
      ∙ ap (λ o. number_of all (owned σ.scope.func (Some o) t.text)) op ∙ sym known.is in
      record {
        inner = record { text = t.text; there = known.there; is = known.is };
        covers = λ own h.
            let old : AllByRecursion (CoveredAll all (id ∷ own) (step t σ)) (owns σ) =
            each_so (CoveredAll all own (step t σ)) (CoveredAll all (id ∷ own) (step t σ)) (owns σ) (λ m k e. or_right (nat_eq _ id) _ (k e))
            (covered_same all own σ (step t σ) (owns σ) func op h) in
            subst (AllByRecursion (CoveredAll all (id ∷ own) (step t σ))) (sym more)
            (each_append (CoveredAll all (id ∷ own) (step t σ)) (owns σ) (m ∷ []) old
            (λ e. or_left (nat_eq (own_number all (step t σ) t.text) id) _ (eq-eqb (own_number all (step t σ) t.text) id number), tt));
        before = λ own h.
            let old : AllByRecursion (Covered all own (step t σ)) (owns σ) =
            each_so (CoveredAll all own (step t σ)) (Covered all own (step t σ)) (owns σ) (λ m k e other. k e)
            (covered_same all own σ (step t σ) (owns σ) func op h) in
            subst (AllByRecursion (Covered all own (step t σ))) (sym more)
            (each_append (Covered all own (step t σ)) (owns σ) (m ∷ []) old
            (λ e other. absurd (other (sym (behind_step t.kind σ.scope))), tt));
      }

  -- ## Operations of regions

  pub record StepIs (σ τ : State) (p : Part) : Type 0 where
    pub body_op : BodyOp
    pub is : body_op_in p ≡ Some body_op
    pub func : τ.scope.func ≡ σ.scope.func
    pub op : τ.scope.op ≡ σ.scope.op
    pub inner : Inner all σ.scope.func σ.scope.op body_op.defines
    pub uses : (own : List ℕ) → CoversAll all own σ → AllByRecursion (OwnOrOuter all own σ.scope.func) body_op.operands
    pub covers : (own : List ℕ) → CoversAll all own σ → CoversAll all (body_op.defines ∷ own) τ

  -- an operation whose name is defined at σ, whose right side begins at υ
  pub step_is : (σ υ τ : State) (t : Lexeme) (right : Part) → TokenAt all 1 σ t → role_in σ.scope.opened t.kind σ.scope ≡ role.Own
      → Same (step t σ) υ → Same υ τ → ArithUses aliases all υ right
      → StepIs σ τ (defining_in_body (mark_in (leaf_at aliases (distinct all) σ t)) right)
  step_is σ υ τ t (part.Arith x) at is_own_role first second used =
      let d = defines σ t at is_own_role in
      let through : Same (step t σ) τ = same_then (step t σ) υ τ first second in
      let func : υ.scope.func ≡ σ.scope.func = first.func ∙ behind_func t.kind σ.scope in
      record {
        body_op = record { kind = x.kind; operands = x.operands; defines = id_in (leaf_at aliases (distinct all) σ t); result = x.result; place = (mark_in (leaf_at aliases (distinct all) σ t)).place };
        is = refl;
        func = through.func ∙ behind_func t.kind σ.scope;
        op = through.op ∙ behind_op t.kind σ.scope;
        inner = d.inner;
        uses = λ own h. each_so (Uses all υ) (OwnOrOuter all own σ.scope.func) x.operands
            (λ y k. subst (λ u. OwnOrOuter all own u y) func (k.inside own (covers_as all own (step t σ) υ first (d.before own h)))) used;
        covers = λ own h. covers_same all (id_in (leaf_at aliases (distinct all) σ t) ∷ own) (step t σ) τ through (d.covers own h);
      }
  step_is σ υ τ t right at is_own_role first second used = absurd used

  -- ## Regions

  pub outside_outer : (own : List ℕ) (u : ℕ) (xs : List ℕ) → AllByRecursion (OwnOrOuter all own u) xs
      → AllByRecursion (Outer all u) (outside own xs)
  outside_outer own u [] h = tt
  outside_outer own u (x ∷ xs) h = by_cases h.0 (outside_outer own u xs h.1)
    where
      by_cases : OwnOrOuter all own u x → AllByRecursion (Outer all u) (outside own xs) → AllByRecursion (Outer all u) (outside own (x ∷ xs))
      by_cases (inl e) rest = subst (λ b. AllByRecursion (Outer all u) (cond (not b) (x ∷ outside own xs) (outside own xs))) (sym e) rest
      by_cases (inr k) rest = cond_both (not (is_among own x)) _ _ (AllByRecursion (Outer all u)) (λ _. (k, rest)) (λ _. rest)

  pub record TailIs (σ τ : State) (p : Part) : Type 0 where
    pub func : τ.scope.func ≡ σ.scope.func
    pub inner : AllByRecursion (Inner all σ.scope.func σ.scope.op) (map (λ op. op.defines) (tail_in p).ops)
    pub outer : (own : List ℕ) → CoversAll all own σ
        → AllByRecursion (Outer all σ.scope.func) (outer_uses own (tail_in p).ops (tail_in p).yields)

  pub step_then : (σ τ υ : State) (op tail : Part) → StepIs σ τ op → TailIs τ υ tail
      → TailIs σ υ (part.BodyTail (record (tail_in tail) { ops = before (body_op_in op) (tail_in tail).ops }))
  step_then σ τ υ op tail s rest = subst
      (λ o. TailIs σ υ (part.BodyTail (record (tail_in tail) { ops = before o (tail_in tail).ops }))) (sym s.is) (record {
        func = rest.func ∙ s.func;
        inner = (s.inner, inner_like all τ.scope.func σ.scope.func τ.scope.op σ.scope.op _ s.func s.op rest.inner);
        outer = λ own h. each_append (Outer all σ.scope.func) (outside own s.body_op.operands) _
            (outside_outer own σ.scope.func s.body_op.operands (s.uses own h))
            (subst (λ u. AllByRecursion (Outer all u) (outer_uses (s.body_op.defines ∷ own) (tail_in tail).ops (tail_in tail).yields)) s.func
            (rest.outer (s.body_op.defines ∷ own) (s.covers own h)));
      })

  -- the yield uses a name at υ
  pub yield_is : (σ υ τ : State) (p : Part) (x : ℕ) → (tail_in p).ops ≡ [] → (tail_in p).yields ≡ x → τ.scope.func ≡ σ.scope.func
      → υ.scope.func ≡ σ.scope.func → ((own : List ℕ) → CoversAll all own σ → Covers all own υ) → Uses all υ x → TailIs σ τ p
  yield_is σ υ τ p x none is func same covers used = record {
    func = func;
    inner = subst (λ ops. AllByRecursion (Inner all σ.scope.func σ.scope.op) (map (λ op. op.defines) ops)) (sym none) tt;
    outer = λ own h. subst (λ ops. AllByRecursion (Outer all σ.scope.func) (outer_uses own ops (tail_in p).yields)) (sym none)
        (subst (λ y. AllByRecursion (Outer all σ.scope.func) (outside own (y ∷ []))) (sym is)
        (outside_outer own σ.scope.func (x ∷ []) (subst (λ u. OwnOrOuter all own u x) same (used.inside own (covers own h)), tt)));
  }

  each_first : (P : ℕ → Type 0) (xs : List ℕ) → AllByRecursion P xs → AllByRecursion P (first_occurrences xs)
  each_first P [] h = tt
  each_first P (x ∷ xs) h = (h.0, kept (first_occurrences xs) (each_first P xs h.1))
    where
      kept : (ys : List ℕ) → AllByRecursion P ys → AllByRecursion P (filter (λ other. not (nat_eq x other)) ys)
      kept [] k = tt
      kept (y ∷ ys) k = cond_both (not (nat_eq x y)) _ _ (AllByRecursion P) (λ _. (k.0, kept ys k.1)) (λ _. kept ys k.1)

  pub captured_outer : (u : ℕ) (names : List ℕ) → AllByRecursion (Outer all u) names → AllByRecursion (Outer all u) (first_occurrences names)
  captured_outer u names h = each_first (Outer all u) names h

  -- ## The names of a combiner

  other_region : (o u : ℕ) (text : List ℕ) (xs : List Owned) → AllByRecursion (NotOf o) xs → absent xs (owned u (Some o) text) ≡ true
  other_region o u text [] h = refl
  other_region o u text (x ∷ xs) h = and_from (not (same_owned x (owned u (Some o) text))) _
      (elim (cases_Bool (same_owned x (owned u (Some o) text))) [
        | inl e ↦ absurd (h.0 (ap (λ (y : Owned). y.region) (same_is x (owned u (Some o) text) e)))
        | inr e ↦ ap not e
      ])
      (other_region o u text xs h.1)

  other_text : (u o : ℕ) (a b : List ℕ) → same_text a b ≡ false → same_owned (owned u (Some o) a) (owned u (Some o) b) ≡ false
  other_text u o a b h = and_right (nat_eq u u && nat_eq o o) (same_text a b) h

  absent_both : (xs ys : List Owned) (x : Owned) → absent xs x ≡ true → absent ys x ≡ true → absent (xs ++ ys) x ≡ true
  absent_both [] ys x h g = g
  absent_both (z ∷ xs) ys x h g =
      let parts = and_parts (not (same_owned z x)) _ h in and_from (not (same_owned z x)) _ parts.0 (absent_both xs ys x parts.1 g)

  abbrev pub input_of : State → Owned
  input_of σ = owned σ.scope.func (Some σ.scope.op) (codes "input")

  abbrev pub output_of : State → Owned
  output_of σ = owned σ.scope.func (Some σ.scope.op) (codes "output")

  abbrev pub result_of : State → Owned
  result_of σ = owned σ.scope.func (Some σ.scope.op) (codes "result")

  -- where no name of the region came before, its three names have numbers one after the other
  pub combiner_numbers : (σ : State) (later : List Owned) (id : ℕ) → AllByRecursion (NotOf σ.scope.op) (named_before σ)
      → all ≡ named_before σ ++ input_of σ ∷ output_of σ ∷ result_of σ ∷ later → id ≡ number_of all (input_of σ)
      → AllByRecursion (Inner all σ.scope.func σ.scope.op) (id ∷ (id + 1) ∷ (id + 2) ∷ [])
  combiner_numbers σ later id fresh every is =
      let u : ℕ = σ.scope.func in
      let o : ℕ = σ.scope.op in
      let xs : List Owned = named_before σ in
      let i : Owned = input_of σ in
      let p : Owned = output_of σ in
      let r : Owned = result_of σ in
      let no_i : absent xs i ≡ true = other_region o u (codes "input") xs fresh in
      let no_p : absent (xs ++ i ∷ []) p ≡ true = absent_both xs (i ∷ []) p (other_region o u (codes "output") xs fresh)
      (and_from (not (same_owned i p)) true (ap not (other_text u o (codes "input") (codes "output") refl)) refl) in
      let no_r : absent (xs ++ i ∷ [] ++ p ∷ []) r ≡ true = absent_both (xs ++ i ∷ []) (p ∷ []) r
      (absent_both xs (i ∷ []) r (other_region o u (codes "result") xs fresh)
      (and_from (not (same_owned i r)) true (ap not (other_text u o (codes "input") (codes "result") refl)) refl))
      (and_from (not (same_owned p r)) true (ap not (other_text u o (codes "output") (codes "result") refl)) refl) in
      let from_p : all ≡ (xs ++ i ∷ []) ++ p ∷ r ∷ later = every ∙ sym (append_assoc xs (i ∷ []) (p ∷ r ∷ later)) in
      let from_r : all ≡ (xs ++ i ∷ [] ++ p ∷ []) ++ r ∷ later = from_p ∙ sym (append_assoc (xs ++ i ∷ []) (p ∷ []) (r ∷ later)) in
      let first : number_of all i ≡ count_of u xs = ap (λ ns. number_among (distinct ns) i) every ∙ new_number xs (p ∷ r ∷ later) i no_i in
      let second : number_of all p ≡ count_of u (xs ++ i ∷ []) = ap (λ ns. number_among (distinct ns) p) from_p ∙ new_number (xs ++ i ∷ []) (r ∷ later) p no_p in
      let third : number_of all r ≡ count_of u (xs ++ i ∷ [] ++ p ∷ []) = ap (λ ns. number_among (distinct ns) r) from_r ∙ new_number (xs ++ i ∷ [] ++ p ∷ []) later r no_r in
      let one : count_of u (xs ++ i ∷ []) ≡ suc (count_of u xs) = one_new xs i no_i in
      let two : count_of u (xs ++ i ∷ [] ++ p ∷ []) ≡ suc (count_of u (xs ++ i ∷ [])) = one_new (xs ++ i ∷ []) p no_p in (
        record { text = codes "input"; there = subst (λ ns. IsIn ns i) (sym every) (in_behind xs (i ∷ p ∷ r ∷ later) i (or_left (same_owned i i) _ (same_name i))); is = is },
        (
          record {
            text = codes "output";
            there = subst (λ ns. IsIn ns p) (sym from_p) (in_behind (xs ++ i ∷ []) (p ∷ r ∷ later) p (or_left (same_owned p p) _ (same_name p)));
            is = omega (arith, is, first, second, one);
          },
          (
            record {
              text = codes "result";
              there = subst (λ ns. IsIn ns r) (sym from_r) (in_behind (xs ++ i ∷ [] ++ p ∷ []) (r ∷ later) r (or_left (same_owned r r) _ (same_name r)));
              is = omega (arith, is, first, third, one, two);
            },
            tt,
          ),
        ),
      )
