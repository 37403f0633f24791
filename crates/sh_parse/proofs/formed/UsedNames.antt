-- The names that an operation uses: those of its function, or of its region where that has defined
-- them.
use Rattle.std.proofs.Common.{◌≡◌, ◌∙◌, ◌⊎◌, ℕ, Bool, true, false, cond, nat_eq, List, [], ◌∷◌, ◌++◌, Option, Some, None, refl, ap, sym, subst, inl, inr}
use Rattle.std.specs.Prelude.{filter, not, ◌&&◌}
use Rattle.std.specs.List.{AllByRecursion, list_any}
use Rattle.std.proofs.lemmas.Bool.{and_parts, eqb-false, eqb-true, false≢true, not-true, or_cases, or_left, true≢false}
use Rattle.sh_build.specs.Readings.{arg_in, args_in, id_in, ids_in, operands_in}
use Rattle.sh_build.specs.declared.parts.Alias.{Alias}
use Rattle.sh_build.specs.declared.parts.Part.{Part}
use Rattle.sh_build.specs.declared.parts.Part.TheVariants as part
use Rattle.sh_grammar.specs.Lexemes.{Lexeme, class_of_kind}
use Rattle.sh_grammar.specs.declared.forms.Form.{Form}
use Rattle.sh_grammar.specs.declared.forms.Form.TheVariants as forms
use Rattle.sh_ir.specs.Regions.{is_among}
use Rattle.sh_ir.specs.Written.{written_by}
use Rattle.sh_grammar.specs.declared.symbols.Symbol.{Symbol}
use Rattle.sh_grammar.specs.declared.symbols.Symbol.TheVariants as symbol
use Rattle.sh_lex.specs.declared.tokens.TokenKind.{TokenKind}
use Rattle.sh_lex.specs.declared.tokens.TokenKind.TheVariants.{Word, Val, At, Hash, Block, Bang, Number, Dim, Str, Sign, End}
use Rattle.sh_names.specs.Names.{Mention, Owned, defines_for, distinct, first_number, is_own, mention_of, names_by_role, number_among, region_of_use, role_by_kind, same_owned, same_text}
use Rattle.sh_parse.proofs.formed.EachOf.{InOption}
use Rattle.sh_parse.proofs.formed.MapsNumbered.{IsPlain}
use Rattle.sh_parse.proofs.formed.NumbersOfNames.{IsIn, in_behind, in_front, one_number, owned, same_numbers, same_self as same_name}
use Rattle.sh_parse.proofs.formed.QuietForms.{Same, owns}
use Rattle.sh_parse.proofs.formed.States.{TokenAt, named_before, named_step}
use Rattle.sh_parse.proofs.formed.TokensKept.{by_class}
use Rattle.sh_parse.proofs.formed.Walks.{State, leaf_at, names_at, step}
use Rattle.sh_parse.specs.Reads.{leaf}

pub is_value : (kind : TokenKind) → class_of_kind kind ≡ 1 → kind ≡ Val
is_value Word e = cc
is_value Val e = refl
is_value At e = cc
is_value Hash e = cc
is_value Block e = cc
is_value Bang e = cc
is_value Number e = cc
is_value Dim e = cc
is_value Str e = cc
is_value Sign e = cc
is_value End e = cc

module _ (all : List Owned) where
  abbrev pub number_of : Owned → ℕ
  number_of x = number_among (distinct all) x

  -- the number of a name of the function, or of the region of an operation of it
  pub record NumberOf (u : ℕ) (region : Option ℕ) (x : ℕ) : Type 0 where
    pub text : List ℕ
    pub there : IsIn all (owned u region text)
    pub is : x ≡ number_of (owned u region text)

  abbrev pub Outer : ℕ → ℕ → Type 0
  Outer u x = NumberOf u None x

  abbrev pub Inner : ℕ → ℕ → ℕ → Type 0
  Inner u o x = NumberOf u (Some o) x

  -- names of different regions have different numbers
  pub one_region : (u : ℕ) (r s : Option ℕ) (x y : ℕ) → NumberOf u r x → NumberOf u s y → x ≡ y → r ≡ s
  one_region u r s x y a b e = ap (λ (n : Owned). n.region)
      (one_number all (owned u r a.text) (owned u s b.text) a.there b.there refl (sym a.is ∙ e ∙ b.is))

  -- the number of a name that the region at this state defines
  abbrev pub own_number : State → List ℕ → ℕ
  own_number σ text = number_of (owned σ.scope.func (Some σ.scope.op) text)

  -- the names that the region has defined at steps other than this one are among these
  abbrev pub Covered : List ℕ → State → Mention → Type 0
  Covered own σ m =
      m.scope.op ≡ σ.scope.op → (m.scope.step ≡ σ.scope.step → ⊥) → is_among own (own_number σ m.text) ≡ true

  abbrev pub Covers : List ℕ → State → Type 0
  Covers own σ = AllByRecursion (Covered own σ) (owns σ)

  -- a number that is used from this state on
  pub record Uses (σ : State) (x : ℕ) : Type 0 where
    pub outside : σ.scope.in_region ≡ false → Outer σ.scope.func x
    pub inside : (own : List ℕ) → Covers own σ → (is_among own x ≡ true) ⊎ Outer σ.scope.func x

  covered_as : (own : List ℕ) (σ τ : State) (ms : List Mention) → Same σ τ → AllByRecursion (Covered own σ) ms
      → AllByRecursion (Covered own τ) ms
  covered_as own σ τ [] same h = tt
  covered_as own σ τ (m ∷ ms) same h = (
    λ op step. subst (λ n. is_among own n ≡ true)
        (ap (λ u. number_of (owned u (Some σ.scope.op) m.text)) (sym same.func)
        ∙ ap (λ o. number_of (owned τ.scope.func (Some o) m.text)) (sym same.op))
        (h.0 (op ∙ same.op) (λ e. step (e ∙ sym same.step))),
    covered_as own σ τ ms same h.1,
  )

  pub covers_as : (own : List ℕ) (σ τ : State) → Same σ τ → Covers own σ → Covers own τ
  covers_as own σ τ same h = covered_as own σ τ (owns τ) same (subst (AllByRecursion (Covered own σ)) (sym same.own) h)

  pub uses_as : (σ τ : State) (x : ℕ) → Same σ τ → Uses τ x → Uses σ x
  uses_as σ τ x same h = record {
    outside = λ out. subst (λ u. Outer u x) same.func (h.outside (same.in_region ∙ out));
    inside = λ own covers. first_of_two (h.inside own (covers_as own σ τ same covers));
  }
    where
      first_of_two : {A : Type 0} → A ⊎ Outer τ.scope.func x → A ⊎ Outer σ.scope.func x
      first_of_two (inl a) = inl a
      first_of_two (inr b) = inr (subst (λ u. Outer u x) same.func b)

  -- a name that the region has defined before
  defined_before : (own : List ℕ) (σ : State) (m : Mention) (before : List Mention)
      → m.scope.op ≡ σ.scope.op → m.scope.step ≡ σ.scope.step
      → AllByRecursion (Covered own σ) (filter (λ m. is_own m.role) before)
      → list_any (defines_for m) before ≡ true → is_among own (own_number σ m.text) ≡ true
  defined_before own σ m [] op step covers h = absurd (false≢true h)
  defined_before own σ m (d ∷ before) op step covers h = elim (or_cases (defines_for m d) _ h) [
    | inl e ↦
        let front = and_parts (is_own d.role && nat_eq d.scope.op m.scope.op && not (nat_eq d.scope.step m.scope.step)) (same_text d.text m.text) e in
        let middle = and_parts (is_own d.role && nat_eq d.scope.op m.scope.op) (not (nat_eq d.scope.step m.scope.step)) front.0 in
        let parts = and_parts (is_own d.role) (nat_eq d.scope.op m.scope.op) middle.0 in
        let kept = subst (λ b. AllByRecursion (Covered own σ) (cond b (d ∷ filter (λ m. is_own m.role) before) (filter (λ m. is_own m.role) before))) parts.0 covers in
        let other : d.scope.step ≡ m.scope.step → ⊥ = eqb-false d.scope.step m.scope.step (not-true (nat_eq d.scope.step m.scope.step) middle.1) in
        subst (λ text. is_among own (own_number σ text) ≡ true) (same_numbers d.text m.text front.1)
        (kept.0 (eqb-true d.scope.op m.scope.op parts.1 ∙ op) (λ s. other (s ∙ sym step)))
    | inr e ↦ defined_before own σ m before op step (behind_first (is_own d.role) d (filter (λ m. is_own m.role) before) covers) e
  ]
    where
      behind_first : (b : Bool) (d : Mention) (ms : List Mention) → AllByRecursion (Covered own σ) (cond b (d ∷ ms) ms)
          → AllByRecursion (Covered own σ) ms
      behind_first true d ms h = h.1
      behind_first false d ms h = h

  used_by : (σ : State) (m : Mention) (x : ℕ) (b : Bool) → m.scope.op ≡ σ.scope.op → m.scope.step ≡ σ.scope.step
      → (σ.scope.in_region && list_any (defines_for m) σ.before) ≡ b
      → IsIn all (owned σ.scope.func (cond b (Some σ.scope.op) None) m.text)
      → x ≡ number_of (owned σ.scope.func (cond b (Some σ.scope.op) None) m.text) → Uses σ x
  used_by σ m x true op step is there number =
      let parts = and_parts σ.scope.in_region _ is in
      record {
        outside = λ out. absurd (true≢false (sym parts.0 ∙ out));
        inside = λ own covers. inl (subst (λ n. is_among own n ≡ true) (sym number) (defined_before own σ m σ.before op step covers parts.1));
      }
  used_by σ m x false op step is there number =
      let outer : Outer σ.scope.func x = record { text = m.text; there = there; is = number } in
      record { outside = λ out. outer; inside = λ own covers. inr outer }

module _ (aliases : List Alias) (all : List Owned) where
  -- the name of a token is among all names, and its part has the name's number
  pub record NameAt (σ : State) (t : Lexeme) (x : Owned) : Type 0 where
    pub there : IsIn all x
    pub is : id_in (leaf_at aliases (distinct all) σ t) ≡ number_of all x
    pub behind : named_before (step t σ) ≡ named_before σ ++ x ∷ []

  pub name_at : (σ : State) (t : Lexeme) (x : Owned) → TokenAt all 1 σ t → names_at aliases (distinct all) σ t ≡ x ∷ [] → NameAt σ t x
  name_at σ t x at names =
      let kind : t.kind ≡ Val = is_value t.kind (by_class t 1 at.class) in
      let behind_it : named_before (step t σ) ≡ named_before σ ++ x ∷ [] =
      named_step aliases (distinct all) σ t ∙ ap (λ ns. named_before σ ++ ns) names in
      let front : IsIn (named_before σ ++ x ∷ []) x = in_behind (named_before σ) (x ∷ []) x (or_left (same_owned x x) false (same_name x)) in
      record {
        there = subst (λ xs. IsIn xs x) (sym (at.is ∙ ap (λ xs. xs ++ at.later) behind_it)) (in_front (named_before σ ++ x ∷ []) at.later x front);
        is = ap (λ ns. id_in (leaf aliases t (first_number (distinct all) ns))) names
            ∙ ap (λ kind. id_in (leaf aliases (record t { kind = kind }) (number_of all x))) kind;
        behind = behind_it;
      }

  -- a name where no form that is told apart begins
  pub used_name : (σ : State) (t : Lexeme) → TokenAt all 1 σ t → IsPlain σ.scope
      → Uses all σ (id_in (leaf_at aliases (distinct all) σ t))
  used_name σ t at plain =
      let m : Mention = mention_of σ.scope t in
      let kind : t.kind ≡ Val = is_value t.kind (by_class t 1 at.class) in
      let x : Owned = owned σ.scope.func (region_of_use σ.before m) t.text in
      let names : names_at aliases (distinct all) σ t ≡ x ∷ [] =
      ap (λ role. names_by_role role σ.before m) (plain t.kind ∙ ap (λ k. role_by_kind k σ.scope) kind) in
      let known : NameAt σ t x = name_at σ t x at names in
      used_by all σ m _ (σ.scope.in_region && list_any (defines_for m) σ.before) refl refl refl known.there known.is

  -- outside of regions it is one of the function
  pub outer_name : (σ : State) (t : Lexeme) → TokenAt all 1 σ t → IsPlain σ.scope → σ.scope.in_region ≡ false
      → Outer all σ.scope.func (id_in (leaf_at aliases (distinct all) σ t))
  outer_name σ t at plain out = (used_name σ t at plain).outside out

  -- ## Forms that use names

  abbrev pub AreUsed : State → List ℕ → Type 0
  AreUsed σ ids = AllByRecursion (Uses all σ) ids

  -- a right side without a region, or what isn't one
  abbrev pub SideUses : State → Part → Type 0
  SideUses σ (part.RightSide x) = AreUsed σ x.operands × ((written_by x.kind).body ≡ None)
  SideUses σ (part.Arith x) = AreUsed σ x.operands
  SideUses σ _ = Unit {0}

  -- an operation of a region
  abbrev pub ArithUses : State → Part → Type 0
  ArithUses σ (part.Arith x) = AreUsed σ x.operands
  ArithUses σ _ = ⊥

  abbrev pub IsConstant : Part → Type 0
  IsConstant (part.Constant c) = Unit {0}
  IsConstant _ = ⊥

  abbrev pub UsedBy : State → Form → Part → Type 0
  UsedBy σ forms.Parameters p = AllByRecursion (λ arg. Uses all σ arg.id) (args_in p)
  UsedBy σ forms.MoreParameters p = AllByRecursion (λ arg. Uses all σ arg.id) (args_in p)
  UsedBy σ forms.Parameter p = InOption (λ arg. Uses all σ arg.id) (arg_in p)
  UsedBy σ forms.Returned p = AreUsed σ (operands_in p).values
  UsedBy σ forms.Values p = AreUsed σ (ids_in p)
  UsedBy σ forms.MoreValues p = AreUsed σ (ids_in p)
  UsedBy σ forms.EmptyTensor p = SideUses σ p
  UsedBy σ forms.ExtractSlice p = SideUses σ p
  UsedBy σ forms.InsertSlice p = SideUses σ p
  UsedBy σ forms.CollapseShape p = SideUses σ p
  UsedBy σ forms.ExpandShape p = SideUses σ p
  UsedBy σ forms.Structured p = SideUses σ p
  UsedBy σ forms.Transpose p = SideUses σ p
  UsedBy σ forms.Broadcast p = SideUses σ p
  UsedBy σ forms.Sharding p = SideUses σ p
  UsedBy σ forms.Shard p = SideUses σ p
  UsedBy σ forms.AllGather p = SideUses σ p
  UsedBy σ forms.AllSlice p = SideUses σ p
  UsedBy σ forms.AllReduce p = SideUses σ p
  UsedBy σ forms.ReduceScatter p = SideUses σ p
  UsedBy σ forms.AllToAll p = SideUses σ p
  UsedBy σ forms.Shift p = SideUses σ p
  UsedBy σ forms.UpdateHalo p = SideUses σ p
  UsedBy σ forms.Take p = SideUses σ p
  UsedBy σ forms.Pad p = SideUses σ p
  UsedBy σ forms.Join p = SideUses σ p
  UsedBy σ forms.Call p = SideUses σ p
  UsedBy σ forms.Arith p = ArithUses σ p
  UsedBy σ forms.Constant p = ArithUses σ p
  UsedBy σ forms.Literal p = IsConstant p
  UsedBy σ forms.Binary p = ArithUses σ p
  UsedBy σ forms.Compare p = ArithUses σ p
  UsedBy σ forms.Select p = ArithUses σ p
  UsedBy σ forms.Cast p = ArithUses σ p
  UsedBy σ forms.Ins p = AreUsed σ (operands_in p).values
  UsedBy σ forms.MaybeIns p = AreUsed σ (operands_in p).values
  UsedBy σ forms.Outs p = AreUsed σ (operands_in p).values
  UsedBy σ forms.GenericRightSide p = ArithUses σ p
  UsedBy σ forms.LoopIndex p = ArithUses σ p
  UsedBy σ forms.IndexCast p = ArithUses σ p
  UsedBy σ _ p = Unit {0}

  abbrev pub IsUsed : State → Symbol → Part → Type 0
  IsUsed σ (symbol.Class c) p = c ≡ 1 → Uses all σ (id_in p)
  IsUsed σ (symbol.Part n) p = UsedBy σ n p
