-- What is known of the names in each form that defines some: those of functions, and those of their
-- regions.
use Rattle.std.proofs.Common.{◌≡◌, ◌+◌, ◌∙◌, ◌<◌, ◌≤◌, ℕ, suc, true, false, nat_eq, List, [], ◌∷◌, ◌++◌, map, Option, Some, None, refl, ap, sym, subst, inl, append_assoc}
use Rattle.std.proofs.lemmas.List.{append-nil}
use Rattle.std.specs.Prelude.{IsTrue, option_to_list}
use Rattle.std.specs.List.{AllByRecursion}
use Rattle.std.proofs.lemmas.Bool.{eq-eqb, or_left, or_right}
use Rattle.sh_build.specs.Meaning.{body_of, cell_width, combiner_body, made, side_of}
use Rattle.sh_build.specs.Readings.{arg_in, args_in, combiner_in, contents_in, id_in, op_in, operands_in, ops_in, tail_in}
use Rattle.sh_build.specs.declared.parts.Alias.{Alias}
use Rattle.sh_build.specs.declared.parts.Mark.{Mark}
use Rattle.sh_build.specs.declared.parts.Part.{Part}
use Rattle.sh_build.specs.declared.parts.Part.TheVariants as part
use Rattle.sh_base.specs.declared.numbers.Width.{Width}
use Rattle.sh_base.specs.declared.operations.BinOp.{BinOp}
use Rattle.sh_grammar.specs.Lexemes.{Lexeme, bangs, dims, hashes, signs, words}
use Rattle.sh_grammar.specs.declared.forms.Form.{Form}
use Rattle.sh_grammar.specs.declared.forms.Form.TheVariants as forms
use Rattle.sh_ir.specs.Formed.{has_own_body_names}
use Rattle.sh_ir.specs.Regions.{captured_by, outer_uses, outside, own_names}
use Rattle.sh_ir.specs.Written.{first_type, written_by}
use Rattle.sh_ir.specs.declared.bodies.BodyKind.{BodyKind}
use Rattle.sh_ir.specs.declared.bodies.BodyKind.TheVariants as body_kind
use Rattle.sh_ir.specs.declared.types.ValueType.{ValueType}
use Rattle.sh_ir.specs.declared.functions.Arg.{Arg}
use Rattle.sh_ir.specs.declared.functions.Func.{Func}
use Rattle.sh_ir.specs.declared.operations.Op.{Op}
use Rattle.sh_literals.specs.Fronts.{before}
use Rattle.sh_names.specs.Names.{Owned, distinct}
use Rattle.sh_parse.proofs.formed.EachOf.{InOption, each_append, each_so}
use Rattle.sh_parse.proofs.formed.MapsNumbered.{behind_plain, is_word}
use Rattle.sh_parse.proofs.formed.PartsKept.{module_in}
use Rattle.sh_parse.proofs.formed.QuietForms.{NotOf, Same, behind_func, behind_op, behind_opened, behind_region, is_calm, owns, same_self, same_step, same_then}
use Rattle.sh_parse.proofs.formed.RegionNames.{CoveredAll, CoversAll, Region, StepIs, TailIs, captured_outer, combiner_numbers, covers_same, defines, inner_like, input_of, outside_outer, output_of, region_behind, region_none, region_then, result_of, step_is, step_then, yield_is}
use Rattle.sh_parse.proofs.formed.States.{RowsAre, TokenAt, named_before, named_step}
use Rattle.sh_parse.proofs.formed.TokensKept.{by_class, kind_class}
use Rattle.sh_parse.proofs.formed.UsedNames.{ArithUses, Covered, SideUses, Inner, Outer, Uses, covers_as, number_of, used_name}
use Rattle.sh_parse.proofs.formed.UsedRows.{QuietPart}
use Rattle.sh_parse.proofs.formed.Walks.{State, enter, leaf_at, step}
use Rattle.sh_parse.specs.Reads.{leaf}

module _ (all : List Owned) where
  -- no name of the region of this operation came before
  pub record NewRegion (σ : State) : Type 0 where
    pub fresh : AllByRecursion (NotOf σ.scope.op) (named_before σ)
    pub owns : AllByRecursion (λ m. m.scope.op ≡ σ.scope.op → ⊥) (owns σ)

  pub new_as : (σ τ : State) → σ.scope.in_region ≡ false → Same σ τ → NewRegion σ → NewRegion τ
  new_as σ τ out same h = record {
    fresh = subst (λ o. AllByRecursion (NotOf o) (named_before τ)) (sym same.op) (same.fresh σ.scope.op out h.fresh);
    owns = subst (λ o. AllByRecursion (λ m. m.scope.op ≡ o → ⊥) (owns τ)) (sym same.op)
        (subst (AllByRecursion (λ m. m.scope.op ≡ σ.scope.op → ⊥)) (sym same.own) h.owns);
  }

  -- what is known of a right side: its operands are of the function, its region's names of the region
  abbrev pub SideNamed : ℕ → ℕ → Part → Type 0
  SideNamed u o (part.RightSide x) =
      AllByRecursion (Outer all u) x.operands × InOption (λ b. AllByRecursion (Inner all u o) (own_names b)) (written_by x.kind).body
  SideNamed u o (part.Arith x) = AllByRecursion (Outer all u) x.operands
  SideNamed u o _ = Unit {0}

  pub record SideIs (σ τ : State) (p : Part) : Type 0 where
    pub func : τ.scope.func ≡ σ.scope.func
    pub named : σ.scope.in_region ≡ false → NewRegion σ → SideNamed σ.scope.func σ.scope.op p

  pub record CombinerIs (σ τ : State) (p : Part) : Type 0 where
    pub func : τ.scope.func ≡ σ.scope.func
    pub in_region : τ.scope.in_region ≡ σ.scope.in_region
    pub calm : is_calm τ.scope.opened ≡ true
    pub inner : AllByRecursion (NotOf σ.scope.op) (named_before σ)
        → AllByRecursion (Inner all σ.scope.func σ.scope.op)
        ((combiner_in p).mark.id ∷ ((combiner_in p).mark.id + 1) ∷ ((combiner_in p).mark.id + 2) ∷ [])

  pub outer_used : (σ τ : State) (ids : List ℕ) → σ.scope.in_region ≡ false → τ.scope.func ≡ σ.scope.func
      → τ.scope.in_region ≡ σ.scope.in_region → AllByRecursion (Uses all τ) ids → AllByRecursion (Outer all σ.scope.func) ids
  outer_used σ τ ids out func in_region h =
      each_so (Uses all τ) (Outer all σ.scope.func) ids (λ x k. subst (λ u. Outer all u x) func (k.outside (in_region ∙ out))) h

  region_from : (σ τ υ : State) (ids : List ℕ) → Same σ τ → Region all τ υ ids → Region all σ υ ids
  region_from σ τ υ ids same x = region_then all σ τ υ [] ids (region_none all σ τ same) x

  ids_before : (o : Option Arg) (args : List Arg)
      → map (λ arg. arg.id) (before o args) ≡ map (λ arg. arg.id) (before o []) ++ map (λ arg. arg.id) args
  ids_before None args = refl
  ids_before (Some arg) args = refl

  -- ## Functions

  -- an operation of the function u that begins with token o
  pub record OpIs (u o : ℕ) (op : Op) : Type 0 where
    pub outer : AllByRecursion (Outer all u) (op.operands ++ option_to_list op.defines)
    pub body : InOption (λ b. AllByRecursion (Inner all u o) (own_names b)) (written_by op.kind).body

  pub record OperationIs (σ τ : State) (p : Part) : Type 0 where
    pub func : τ.scope.func ≡ σ.scope.func
    pub count : σ.count < τ.count
    pub op : InOption (OpIs σ.scope.func σ.count) (op_in p)

  pub record ReturnIs (σ τ : State) (p : Part) : Type 0 where
    pub idle : τ.scope.in_region ≡ false
    pub op : InOption (OpIs σ.scope.func σ.count) (op_in p)

  -- operations that begin one after the other, the first not before this token
  abbrev pub OpsNamed : ℕ → ℕ → List Op → Type 0
  OpsNamed u k [] = Unit {0}
  OpsNamed u k (op ∷ ops) = (o : ℕ) × (k ≤ o) × OpIs u o op × OpsNamed u (suc o) ops

  pub record OperationsIs (σ τ : State) (p : Part) : Type 0 where
    pub idle : τ.scope.in_region ≡ false
    pub ops : OpsNamed σ.scope.func σ.count (ops_in p)

  abbrev pub OwnNamed : Part → Type 0
  OwnNamed (part.Func f) = IsTrue (has_own_body_names f)
  OwnNamed _ = Unit {0}

  abbrev pub AllOwn : List Func → Type 0
  AllOwn funcs = AllByRecursion (λ f. IsTrue (has_own_body_names f)) funcs

  none_covered : (σ : State) → NewRegion σ → CoversAll all [] σ
  none_covered σ h = each_so (λ m. m.scope.op ≡ σ.scope.op → ⊥) (CoveredAll all [] σ) (owns σ) (λ m no e. absurd (no e)) h.owns

module _ (aliases : List Alias) (all : List Owned) where
  -- a region between its block arguments and its yield
  region_named : (σ σa τa σb υ : State) (ins outs : List ℕ) (args : List Arg) (tail : Part) → NewRegion all σ → Same σ σa
      → Region all σa τa (map (λ arg. arg.id) args) → Same τa σb → TailIs aliases all σb υ tail
      → AllByRecursion (Outer all σ.scope.func) ins → AllByRecursion (Outer all σ.scope.func) outs
      → AllByRecursion (Outer all σ.scope.func) (ins ++ outs ++ captured_by (body_of args tail))
      × AllByRecursion (Inner all σ.scope.func σ.scope.op) (own_names (body_of args tail))
  region_named σ σa τa σb υ ins outs args tail new first region second t i o =
      let ids : List ℕ = map (λ arg. arg.id) args in
      let func : σb.scope.func ≡ σ.scope.func = second.func ∙ region.func ∙ first.func in
      let op : σb.scope.op ≡ σ.scope.op = second.op ∙ region.op ∙ first.op in
      let covers : CoversAll all (ids ++ []) σb =
      covers_same all (ids ++ []) τa σb second (region.covers [] (covers_same all [] σ σa first (none_covered all σ new))) in
      let covers_ids : CoversAll all ids σb = subst (λ own. CoversAll all own σb) (append-nil ids) covers in
      let outer : AllByRecursion (Outer all σ.scope.func) (outer_uses ids (tail_in tail).ops (tail_in tail).yields) =
      subst (λ u. AllByRecursion (Outer all u) (outer_uses ids (tail_in tail).ops (tail_in tail).yields)) func (t.outer ids covers_ids) in (
        each_append (Outer all σ.scope.func) (ins ++ outs) _ (each_append (Outer all σ.scope.func) ins outs i o)
            (captured_outer aliases all σ.scope.func _ outer),
        each_append (Inner all σ.scope.func σ.scope.op) ids (map (λ op. op.defines) (tail_in tail).ops)
            (inner_like all σa.scope.func σ.scope.func σa.scope.op σ.scope.op ids first.func first.op region.inner)
            (inner_like all σb.scope.func σ.scope.func σb.scope.op σ.scope.op _ func op t.inner),
      )

  -- the region of a combiner uses its own names alone
  combiner_outer : (u : ℕ) (op : BinOp) (at : Mark) (input output : Width)
      → AllByRecursion (Outer all u) (captured_by (combiner_body op at input output))
  combiner_outer u op at input output =
      let own : List ℕ = at.id ∷ (at.id + 1) ∷ [] in
      let result : List ℕ = (at.id + 2) ∷ own in
      captured_outer aliases all u _
      (each_append (Outer all u) (outside own ((at.id + 1) ∷ at.id ∷ [])) (outside result ((at.id + 2) ∷ []))
      (outside_outer aliases all own u ((at.id + 1) ∷ at.id ∷ []) (
        inl (or_right (nat_eq (at.id + 1) at.id) _ (or_left (nat_eq (at.id + 1) (at.id + 1)) false (eq-eqb (at.id + 1) (at.id + 1) refl))),
        (inl (or_left (nat_eq at.id at.id) _ (eq-eqb at.id at.id refl)), tt),
      ))
      (outside_outer aliases all result u ((at.id + 2) ∷ []) (
        inl (or_left (nat_eq (at.id + 2) (at.id + 2)) _ (eq-eqb (at.id + 2) (at.id + 2) refl)),
        tt,
      )))

  -- what is known of the names in a form
  abbrev pub NamesIn : Form → State → State → Part → Type 0
  NamesIn forms.BlockArgument σ τ p = Region all σ τ (map (λ arg. arg.id) (before (arg_in p) []))
  NamesIn forms.BlockArguments σ τ p = Region all σ τ (map (λ arg. arg.id) (args_in p)) × (is_calm τ.scope.opened ≡ true)
  NamesIn forms.MoreBlockArguments σ τ p = Region all σ τ (map (λ arg. arg.id) (args_in p)) × (is_calm τ.scope.opened ≡ true)
  NamesIn forms.BodyOperation σ τ p = StepIs aliases all σ τ p
  NamesIn forms.GenericOperation σ τ p = StepIs aliases all σ τ p
  NamesIn forms.Body σ τ p = TailIs aliases all σ τ p
  NamesIn forms.GenericBody σ τ p = TailIs aliases all σ τ p
  NamesIn forms.Yield σ τ p = TailIs aliases all σ τ p
  NamesIn forms.Combiner σ τ p = CombinerIs all σ τ p
  NamesIn forms.ReduceTail σ τ p = SideIs all σ τ p
  NamesIn forms.Reduce σ τ p = SideIs all σ τ p
  NamesIn forms.Generic σ τ p = SideIs all σ τ p
  NamesIn forms.RightSide σ τ p = SideIs all σ τ p
  NamesIn forms.Operation σ τ p = OperationIs all σ τ p
  NamesIn forms.Return σ τ p = ReturnIs all σ τ p
  NamesIn forms.Operations σ τ p = OperationsIs all σ τ p
  NamesIn forms.Func σ τ p = σ.scope.in_region ≡ false → OwnNamed all p × (τ.scope.in_region ≡ false)
  NamesIn forms.Item σ τ p = σ.scope.in_region ≡ false → OwnNamed all p × (τ.scope.in_region ≡ false)
  NamesIn forms.Items σ τ p = σ.scope.in_region ≡ false → AllOwn all (contents_in p).funcs × (τ.scope.in_region ≡ false)
  NamesIn forms.Contents σ τ p = σ.scope.in_region ≡ false → AllOwn all (module_in p).funcs
  NamesIn forms.File σ τ p = σ.scope.in_region ≡ false → AllOwn all (module_in p).funcs
  NamesIn n σ τ p = QuietPart aliases all n σ τ p

  pub rows-BlockArgument : RowsAre aliases all NamesIn forms.BlockArgument
  unfolding made signs dims bangs hashes words
  rows-BlockArgument σ below = (
    λ t1 at1 t2 at2 τ w _ w-is.
        let σ0 : State = enter forms.BlockArgument σ in
        let d = defines aliases all σ0 t1 at1 refl in
        let s2 : Same (step t1 σ0) (step t2 (step t1 σ0)) = same_step t2 (step t1 σ0) at2.below (behind_opened t1.kind σ0.scope) in
        let s3 : Same (step t1 σ0) τ = same_then (step t1 σ0) (step t2 (step t1 σ0)) τ s2 w-is.same in
        region_behind all σ (step t1 σ0) τ _
        (record { func = behind_func t1.kind σ0.scope; op = behind_op t1.kind σ0.scope; inner = (d.inner, tt); covers = d.covers }) s3,
    tt,
  )

  pub rows-BlockArguments : RowsAre aliases all NamesIn forms.BlockArguments
  unfolding made signs dims bangs hashes words
  rows-BlockArguments σ below = (
    (region_none all σ (enter forms.BlockArguments σ) (record { func = refl; op = refl; in_region = refl; step = refl; own = refl; fresh = λ o out h. h; calm = refl }), refl),
    (
      λ τ arg _ arg-is υ more _ more-is.
          let σ0 : State = enter forms.BlockArguments σ in (
            subst (Region all σ υ) (sym (ids_before all (arg_in arg) (args_in more)))
                (region_from all σ σ0 υ _ (record { func = refl; op = refl; in_region = refl; step = refl; own = refl; fresh = λ o out h. h; calm = refl }) (region_then all σ0 τ υ _ _ arg-is more-is.0)),
            more-is.1,
          ),
      tt,
    ),
  )

  pub rows-MoreBlockArguments : RowsAre aliases all NamesIn forms.MoreBlockArguments
  unfolding made signs dims bangs hashes words
  rows-MoreBlockArguments σ below = (
    (region_none all σ (enter forms.MoreBlockArguments σ) (record { func = refl; op = refl; in_region = refl; step = refl; own = refl; fresh = λ o out h. h; calm = refl }), refl),
    (
      λ t1 at1 τ arg _ arg-is υ more _ more-is.
          let σ0 : State = enter forms.MoreBlockArguments σ in
          let s : Same σ (step t1 σ0) = same_then σ σ0 (step t1 σ0) (record { func = refl; op = refl; in_region = refl; step = refl; own = refl; fresh = λ o out h. h; calm = refl }) (same_step t1 σ0 at1.below refl) in (
            subst (Region all σ υ) (sym (ids_before all (arg_in arg) (args_in more)))
                (region_from all σ (step t1 σ0) υ _ s (region_then all (step t1 σ0) τ υ _ _ arg-is more-is.0)),
            more-is.1,
          ),
      tt,
    ),
  )

  pub rows-BodyOperation : RowsAre aliases all NamesIn forms.BodyOperation
  unfolding made signs dims bangs hashes words
  rows-BodyOperation σ below = (
    λ t1 at1 t2 at2 τ right _ right-is.
        let σ0 : State = enter forms.BodyOperation σ in
        let σ2 : State = step t2 (step t1 σ0) in
        let s : Same (step t1 σ0) σ2 = same_step t2 (step t1 σ0) at2.below (behind_opened t1.kind σ0.scope) in
        let x = step_is aliases all σ0 σ2 τ t1 right at1 refl s right-is.same right-is.used in
        record { body_op = x.body_op; is = x.is; func = x.func; op = x.op; inner = x.inner; uses = x.uses; covers = x.covers },
    tt,
  )

  pub rows-GenericOperation : RowsAre aliases all NamesIn forms.GenericOperation
  unfolding made signs dims bangs hashes words
  rows-GenericOperation σ below = (
    λ t1 at1 t2 at2 τ right _ right-is.
        let σ0 : State = enter forms.GenericOperation σ in
        let σ2 : State = step t2 (step t1 σ0) in
        let s : Same (step t1 σ0) σ2 = same_step t2 (step t1 σ0) at2.below (behind_opened t1.kind σ0.scope) in
        let x = step_is aliases all σ0 σ2 τ t1 right at1 refl s right-is.same right-is.used in
        record { body_op = x.body_op; is = x.is; func = x.func; op = x.op; inner = x.inner; uses = x.uses; covers = x.covers },
    tt,
  )

  pub rows-Body : RowsAre aliases all NamesIn forms.Body
  unfolding made signs dims bangs hashes words
  rows-Body σ below = (
    λ τ op _ op-is υ more _ more-is.
        let x = step_then aliases all (enter forms.Body σ) τ υ op more op-is more-is in
        record { func = x.func; inner = x.inner; outer = x.outer },
    (λ τ yield _ x. record { func = x.func; inner = x.inner; outer = x.outer }, tt),
  )

  pub rows-GenericBody : RowsAre aliases all NamesIn forms.GenericBody
  unfolding made signs dims bangs hashes words
  rows-GenericBody σ below = (
    λ τ op _ op-is υ more _ more-is.
        let x = step_then aliases all (enter forms.GenericBody σ) τ υ op more op-is more-is in
        record { func = x.func; inner = x.inner; outer = x.outer },
    (λ τ yield _ x. record { func = x.func; inner = x.inner; outer = x.outer }, tt),
  )

  pub rows-Yield : RowsAre aliases all NamesIn forms.Yield
  unfolding made signs dims bangs hashes words
  rows-Yield σ below = (
    λ t1 at1 t2 at2 t3 at3 τ w _ w-is.
        let σ0 : State = enter forms.Yield σ in
        let σ1 : State = step t1 σ0 in
        let s1 : Same σ0 σ1 = same_step t1 σ0 at1.below refl in
        let s2 : Same σ0 (step t2 σ1) = same_then σ0 σ1 (step t2 σ1) s1 (same_step t2 σ1 at2.below s1.calm) in
        let s3 : Same σ0 (step t3 (step t2 σ1)) = same_then σ0 (step t2 σ1) _ s2 (same_step t3 (step t2 σ1) at3.below s2.calm) in
        let s4 : Same σ0 τ = same_then σ0 (step t3 (step t2 σ1)) τ s3 w-is.same in
        yield_is aliases all σ σ1 τ _ _ refl refl s4.func s1.func
        (λ own h. covers_as all own σ0 σ1 s1 (each_so (CoveredAll all own σ) (Covered all own σ0) (owns σ) (λ m k e other. k e) h))
        (used_name aliases all σ1 t2 at2 (behind_plain t1.kind σ0.scope)),
    tt,
  )

  combiner_at : (σ : State) (t : Lexeme) (c : ℕ) (p : Part) → TokenAt all c (enter forms.Combiner σ) t → kind_class c ≡ 0
      → (combiner_in p).mark.id ≡ id_in (leaf_at aliases (distinct all) (enter forms.Combiner σ) t)
      → CombinerIs all σ (step t (enter forms.Combiner σ)) p
  combiner_at σ t c p at e is =
      let σ0 : State = enter forms.Combiner σ in
      let names : List Owned = input_of aliases all σ ∷ output_of aliases all σ ∷ result_of aliases all σ ∷ [] in
      let behind_it : named_before (step t σ0) ≡ named_before σ ++ names = named_step aliases (distinct all) σ0 t in
      let every : all ≡ named_before σ ++ (names ++ at.later) =
      at.is ∙ ap (λ xs. xs ++ at.later) behind_it ∙ append_assoc (named_before σ) names at.later in
      let id : id_in (leaf_at aliases (distinct all) σ0 t) ≡ number_of all (input_of aliases all σ) =
      ap (λ kind. id_in (leaf aliases (record t { kind = kind }) (number_of all (input_of aliases all σ)))) (is_word t.kind (by_class t c at.class ∙ e)) in
      record {
        func = behind_func t.kind σ0.scope;
        in_region = behind_region t.kind σ0.scope;
        calm = behind_opened t.kind σ0.scope;
        inner = λ fresh. combiner_numbers aliases all σ at.later _ fresh every (is ∙ id);
      }

  pub rows-Combiner : RowsAre aliases all NamesIn forms.Combiner
  unfolding made signs dims bangs hashes words
  rows-Combiner σ below = (λ t at. combiner_at σ t _ _ at refl refl, (λ t at. combiner_at σ t _ _ at refl refl, (λ t at. combiner_at σ t _ _ at refl refl, (λ t at. combiner_at σ t _ _ at refl refl, (λ t at. combiner_at σ t _ _ at refl refl, (λ t at. combiner_at σ t _ _ at refl refl, (λ t at. combiner_at σ t _ _ at refl refl, (λ t at. combiner_at σ t _ _ at refl refl, (λ t at. combiner_at σ t _ _ at refl refl, tt)))))))))

  pub rows-ReduceTail : RowsAre aliases all NamesIn forms.ReduceTail
  unfolding made signs dims bangs hashes words
  rows-ReduceTail σ below = (
    λ t1 at-t1 σ2 combiner le-combiner combiner-is σ3 none le-none none-is t4 at-t4 σ5 ins le-ins
        ins-is σ6 outs le-outs outs-is t7 at-t7 t8 at-t8 σ9 nums le-nums nums-is.
        let σ0 : State = enter forms.ReduceTail σ in
        let s0 : Same σ0 σ0 = same_self σ0 refl in
        let σ1 : State = step t1 σ0 in
        let s1 : Same σ0 σ1 = same_then σ0 σ0 σ1 s0 (same_step t1 σ0 at-t1.below s0.calm) in
        let s2 : Same σ2 σ2 = same_self σ2 combiner-is.calm in
        let s3 : Same σ2 σ3 = same_then σ2 σ2 σ3 s2 none-is.same in
        let σ4 : State = step t4 σ3 in
        let s4 : Same σ2 σ4 = same_then σ2 σ3 σ4 s3 (same_step t4 σ3 at-t4.below s3.calm) in
        let s5 : Same σ2 σ5 = same_then σ2 σ4 σ5 s4 ins-is.same in
        let s6 : Same σ2 σ6 = same_then σ2 σ5 σ6 s5 outs-is.same in
        let σ7 : State = step t7 σ6 in
        let s7 : Same σ2 σ7 = same_then σ2 σ6 σ7 s6 (same_step t7 σ6 at-t7.below s6.calm) in
        let σ8 : State = step t8 σ7 in
        let s8 : Same σ2 σ8 = same_then σ2 σ7 σ8 s7 (same_step t8 σ7 at-t8.below s7.calm) in
        let s9 : Same σ2 σ9 = same_then σ2 σ8 σ9 s8 nums-is.same in
        record {
          func = s9.func ∙ combiner-is.func ∙ s1.func;
          named = λ out new.
              let inside = new_as all σ0 σ1 out s1 (record { fresh = new.fresh; owns = new.owns }) in
              let func : σ2.scope.func ≡ σ.scope.func = combiner-is.func ∙ s1.func in
              let in_region : σ2.scope.in_region ≡ σ.scope.in_region = combiner-is.in_region ∙ s1.in_region in
              let three = inner_like all σ1.scope.func σ.scope.func σ1.scope.op σ.scope.op
              ((combiner_in combiner).mark.id ∷ ((combiner_in combiner).mark.id + 1) ∷ ((combiner_in combiner).mark.id + 2) ∷ [])
              s1.func s1.op (combiner-is.inner inside.fresh) in (
                each_append (Outer all σ.scope.func) ((operands_in ins).values ++ (operands_in outs).values) _
                    (each_append (Outer all σ.scope.func) (operands_in ins).values (operands_in outs).values
                    (outer_used all σ σ4 _ out (s4.func ∙ func) (s4.in_region ∙ in_region) ins-is.used)
                    (outer_used all σ σ5 _ out (s5.func ∙ func) (s5.in_region ∙ in_region) outs-is.used))
                    (combiner_outer σ.scope.func (combiner_in combiner).op (combiner_in combiner).mark
                    (cell_width (first_type (operands_in ins).types)) (cell_width (first_type (operands_in outs).types))),
                three,
              );
        },
    (
      λ σ1 ins le-ins ins-is σ2 outs le-outs outs-is t3 at-t3 t4 at-t4 σ5 nums le-nums nums-is t6
          at-t6 σ7 args le-args args-is t8 at-t8 t9 at-t9 τ tail _ tail-is t11 at-t11.
          let σ0 : State = enter forms.ReduceTail σ in
          let s0 : Same σ0 σ0 = same_self σ0 refl in
          let s1 : Same σ0 σ1 = same_then σ0 σ0 σ1 s0 ins-is.same in
          let s2 : Same σ0 σ2 = same_then σ0 σ1 σ2 s1 outs-is.same in
          let σ3 : State = step t3 σ2 in
          let s3 : Same σ0 σ3 = same_then σ0 σ2 σ3 s2 (same_step t3 σ2 at-t3.below s2.calm) in
          let σ4 : State = step t4 σ3 in
          let s4 : Same σ0 σ4 = same_then σ0 σ3 σ4 s3 (same_step t4 σ3 at-t4.below s3.calm) in
          let s5 : Same σ0 σ5 = same_then σ0 σ4 σ5 s4 nums-is.same in
          let σ6 : State = step t6 σ5 in
          let s6 : Same σ0 σ6 = same_then σ0 σ5 σ6 s5 (same_step t6 σ5 at-t6.below s5.calm) in
          let s7 : Same σ7 σ7 = same_self σ7 args-is.1 in
          let σ8 : State = step t8 σ7 in
          let s8 : Same σ7 σ8 = same_then σ7 σ7 σ8 s7 (same_step t8 σ7 at-t8.below s7.calm) in
          let σ9 : State = step t9 σ8 in
          let s9 : Same σ7 σ9 = same_then σ7 σ8 σ9 s8 (same_step t9 σ8 at-t9.below s8.calm) in
          record {
            func = behind_func t11.kind τ.scope ∙ tail-is.func ∙ s9.func ∙ args-is.0.func ∙ s6.func;
            named = λ out new. region_named σ σ6 σ7 σ9 τ (operands_in ins).values (operands_in outs).values (args_in args) tail new
                (same_then σ σ0 σ6 (record { func = refl; op = refl; in_region = refl; step = refl; own = refl; fresh = λ o out h. h; calm = refl }) s6) args-is.0 s9 tail-is
                (outer_used all σ σ0 _ out refl refl ins-is.used) (outer_used all σ σ1 _ out s1.func s1.in_region outs-is.used);
          },
      tt,
    ),
  )

  pub named_as : (u v o q : ℕ) (p : Part) → u ≡ v → o ≡ q → SideNamed all u o p → SideNamed all v q p
  named_as u v o q p e f h = subst (λ w. SideNamed all w q p) e (subst (λ r. SideNamed all u r p) f h)

  named_from : (σ τ : State) (p : Part) → σ.scope.in_region ≡ false → Same σ τ → NewRegion all σ
      → (τ.scope.in_region ≡ false → NewRegion all τ → SideNamed all τ.scope.func τ.scope.op p)
      → SideNamed all σ.scope.func σ.scope.op p
  named_from σ τ p out same new named =
      named_as τ.scope.func σ.scope.func τ.scope.op σ.scope.op p same.func same.op (named (same.in_region ∙ out) (new_as all σ τ out same new))

  pub rows-Reduce : RowsAre aliases all NamesIn forms.Reduce
  unfolding made signs dims bangs hashes words
  rows-Reduce σ below = (
    λ t1 at-t1 τ right _ right-is.
        let σ0 : State = enter forms.Reduce σ in
        let s0 : Same σ0 σ0 = same_self σ0 refl in
        let σ1 : State = step t1 σ0 in
        let s1 : Same σ0 σ1 = same_then σ0 σ0 σ1 s0 (same_step t1 σ0 at-t1.below s0.calm) in
        record {
          func = right-is.func ∙ s1.func;
          named = λ out new. named_from σ σ1 right out (same_then σ σ0 σ1 (record { func = refl; op = refl; in_region = refl; step = refl; own = refl; fresh = λ o out h. h; calm = refl }) s1) new right-is.named;
        },
    tt,
  )

  pub rows-Generic : RowsAre aliases all NamesIn forms.Generic
  unfolding made signs dims bangs hashes words
  rows-Generic σ below = (
    λ t1 at-t1 t2 at-t2 t3 at-t3 t4 at-t4 t5 at-t5 σ6 maps le-maps maps-is t7 at-t7 t8 at-t8 t9
        at-t9 t10 at-t10 t11 at-t11 σ12 iterators le-iterators iterators-is t13 at-t13 t14 at-t14
        σ15 ins le-ins ins-is σ16 outs le-outs outs-is t17 at-t17 t18 at-t18 t19 at-t19 σ20 args
        le-args args-is t21 at-t21 t22 at-t22 τ tail _ tail-is t24 at-t24 t25 at-t25 υ result _
        result-is.
        let σ0 : State = enter forms.Generic σ in
        let s0 : Same σ0 σ0 = same_self σ0 refl in
        let σ1 : State = step t1 σ0 in
        let s1 : Same σ0 σ1 = same_then σ0 σ0 σ1 s0 (same_step t1 σ0 at-t1.below s0.calm) in
        let σ2 : State = step t2 σ1 in
        let s2 : Same σ0 σ2 = same_then σ0 σ1 σ2 s1 (same_step t2 σ1 at-t2.below s1.calm) in
        let σ3 : State = step t3 σ2 in
        let s3 : Same σ0 σ3 = same_then σ0 σ2 σ3 s2 (same_step t3 σ2 at-t3.below s2.calm) in
        let σ4 : State = step t4 σ3 in
        let s4 : Same σ0 σ4 = same_then σ0 σ3 σ4 s3 (same_step t4 σ3 at-t4.below s3.calm) in
        let σ5 : State = step t5 σ4 in
        let s5 : Same σ0 σ5 = same_then σ0 σ4 σ5 s4 (same_step t5 σ4 at-t5.below s4.calm) in
        let s6 : Same σ0 σ6 = same_then σ0 σ5 σ6 s5 maps-is.same in
        let σ7 : State = step t7 σ6 in
        let s7 : Same σ0 σ7 = same_then σ0 σ6 σ7 s6 (same_step t7 σ6 at-t7.below s6.calm) in
        let σ8 : State = step t8 σ7 in
        let s8 : Same σ0 σ8 = same_then σ0 σ7 σ8 s7 (same_step t8 σ7 at-t8.below s7.calm) in
        let σ9 : State = step t9 σ8 in
        let s9 : Same σ0 σ9 = same_then σ0 σ8 σ9 s8 (same_step t9 σ8 at-t9.below s8.calm) in
        let σ10 : State = step t10 σ9 in
        let s10 : Same σ0 σ10 = same_then σ0 σ9 σ10 s9 (same_step t10 σ9 at-t10.below s9.calm) in
        let σ11 : State = step t11 σ10 in
        let s11 : Same σ0 σ11 = same_then σ0 σ10 σ11 s10 (same_step t11 σ10 at-t11.below s10.calm) in
        let s12 : Same σ0 σ12 = same_then σ0 σ11 σ12 s11 iterators-is.same in
        let σ13 : State = step t13 σ12 in
        let s13 : Same σ0 σ13 = same_then σ0 σ12 σ13 s12 (same_step t13 σ12 at-t13.below s12.calm) in
        let σ14 : State = step t14 σ13 in
        let s14 : Same σ0 σ14 = same_then σ0 σ13 σ14 s13 (same_step t14 σ13 at-t14.below s13.calm) in
        let s15 : Same σ0 σ15 = same_then σ0 σ14 σ15 s14 ins-is.same in
        let s16 : Same σ0 σ16 = same_then σ0 σ15 σ16 s15 outs-is.same in
        let σ17 : State = step t17 σ16 in
        let s17 : Same σ0 σ17 = same_then σ0 σ16 σ17 s16 (same_step t17 σ16 at-t17.below s16.calm) in
        let σ18 : State = step t18 σ17 in
        let s18 : Same σ0 σ18 = same_then σ0 σ17 σ18 s17 (same_step t18 σ17 at-t18.below s17.calm) in
        let σ19 : State = step t19 σ18 in
        let s19 : Same σ0 σ19 = same_then σ0 σ18 σ19 s18 (same_step t19 σ18 at-t19.below s18.calm) in
        let s20 : Same σ20 σ20 = same_self σ20 args-is.1 in
        let σ21 : State = step t21 σ20 in
        let s21 : Same σ20 σ21 = same_then σ20 σ20 σ21 s20 (same_step t21 σ20 at-t21.below s20.calm) in
        let σ22 : State = step t22 σ21 in
        let s22 : Same σ20 σ22 = same_then σ20 σ21 σ22 s21 (same_step t22 σ21 at-t22.below s21.calm) in
        record {
          func = result-is.same.func ∙ behind_func t25.kind (step t24 τ).scope ∙ behind_func t24.kind τ.scope ∙ tail-is.func ∙ s22.func ∙ args-is.0.func ∙ s19.func;
          named = λ out new. region_named σ σ19 σ20 σ22 τ (operands_in ins).values (operands_in outs).values (args_in args) tail new
              (same_then σ σ0 σ19 (record { func = refl; op = refl; in_region = refl; step = refl; own = refl; fresh = λ o out h. h; calm = refl }) s19) args-is.0 s22 tail-is
              (outer_used all σ σ14 _ out s14.func s14.in_region ins-is.used) (outer_used all σ σ15 _ out s15.func s15.in_region outs-is.used);
        },
    tt,
  )

  arith_outer : (u o : ℕ) (kind : BodyKind) (operands : List ℕ) (t : ValueType) → AllByRecursion (Outer all u) operands
      → SideNamed all u o (side_of (part.Arith (record { kind = kind; operands = operands; result = t })))
  arith_outer u o (body_kind.Constant x) operands t h = (h, tt)
  arith_outer u o (body_kind.Binary x) operands t h = (h, tt)
  arith_outer u o (body_kind.Compare x) operands t h = (h, tt)
  arith_outer u o (body_kind.Select x) operands t h = (h, tt)
  arith_outer u o (body_kind.Cast x) operands t h = (h, tt)
  arith_outer u o (body_kind.Index x) operands t h = (h, tt)
  arith_outer u o body_kind.IndexCast operands t h = (h, tt)

  -- one without a region
  side_quiet : (σ : State) (p : Part) → SideUses aliases all σ p → σ.scope.in_region ≡ false → SideNamed all σ.scope.func σ.scope.op (side_of p)
  side_quiet σ (part.RightSide x) h out = (
    outer_used all σ σ x.operands out refl refl h.0,
    subst (InOption (λ b. AllByRecursion (Inner all σ.scope.func σ.scope.op) (own_names b))) (sym h.1) tt,
  )
  side_quiet σ (part.Arith x) h out = arith_outer σ.scope.func σ.scope.op x.kind x.operands x.result (outer_used all σ σ x.operands out refl refl h)
  side_quiet σ _ h out = tt

  side_loud : (u o : ℕ) (p : Part) → SideNamed all u o p → SideNamed all u o (side_of p)
  side_loud u o (part.Arith x) h = arith_outer u o x.kind x.operands x.result h
  side_loud u o p h = h

  arith_side : (σ : State) (p : Part) → ArithUses aliases all σ p → SideUses aliases all σ p
  arith_side σ (part.Arith x) h = h
  arith_side σ p h = absurd h

  quiet_right : (σ τ : State) (right : Part) → Same (enter forms.RightSide σ) τ → SideUses aliases all (enter forms.RightSide σ) right
      → SideIs all σ τ (side_of right)
  quiet_right σ τ right same used = record { func = same.func; named = λ out new. side_quiet (enter forms.RightSide σ) right used out }

  loud_right : (σ τ : State) (right : Part) → SideIs all (enter forms.RightSide σ) τ right → SideIs all σ τ (side_of right)
  loud_right σ τ right x = record {
    func = x.func;
    named = λ out new. side_loud σ.scope.func σ.scope.op right (x.named out (record { fresh = new.fresh; owns = new.owns }));
  }

  pub rows-RightSide : RowsAre aliases all NamesIn forms.RightSide
  unfolding made signs dims bangs hashes words
  rows-RightSide σ below = (λ τ right _ right-is. quiet_right σ τ right right-is.same (arith_side (enter forms.RightSide σ) right right-is.used), (λ τ right _ right-is. quiet_right σ τ right right-is.same right-is.used, (λ τ right _ right-is. quiet_right σ τ right right-is.same right-is.used, (λ τ right _ right-is. quiet_right σ τ right right-is.same right-is.used, (λ τ right _ right-is. quiet_right σ τ right right-is.same right-is.used, (λ τ right _ right-is. quiet_right σ τ right right-is.same right-is.used, (λ τ right _ right-is. quiet_right σ τ right right-is.same right-is.used, (λ τ right _ right-is. quiet_right σ τ right right-is.same right-is.used, (λ τ right _ right-is. quiet_right σ τ right right-is.same right-is.used, (λ τ right _ right-is. loud_right σ τ right right-is, (λ τ right _ right-is. loud_right σ τ right right-is, (λ τ right _ right-is. quiet_right σ τ right right-is.same right-is.used, (λ τ right _ right-is. quiet_right σ τ right right-is.same right-is.used, (λ τ right _ right-is. quiet_right σ τ right right-is.same right-is.used, (λ τ right _ right-is. quiet_right σ τ right right-is.same right-is.used, (λ τ right _ right-is. quiet_right σ τ right right-is.same right-is.used, (λ τ right _ right-is. quiet_right σ τ right right-is.same right-is.used, (λ τ right _ right-is. quiet_right σ τ right right-is.same right-is.used, (λ τ right _ right-is. quiet_right σ τ right right-is.same right-is.used, (λ τ right _ right-is. quiet_right σ τ right right-is.same right-is.used, (λ τ right _ right-is. quiet_right σ τ right right-is.same right-is.used, (λ τ right _ right-is. quiet_right σ τ right right-is.same right-is.used, (λ τ right _ right-is. quiet_right σ τ right right-is.same right-is.used, (λ τ right _ right-is. quiet_right σ τ right right-is.same right-is.used, tt))))))))))))))))))))))))
