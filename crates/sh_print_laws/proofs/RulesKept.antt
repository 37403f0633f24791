-- A formed module that keeps the rules on names and literals is printable, if it isn't too large.
use Rattle.std.proofs.Common.{◌≡◌, ◌∙◌, ◌⊎◌, inl, inr, ◌+◌, ℕ, zero, suc, Bool, true, false, not, nat_eq, List, [], ◌∷◌, ◌++◌, map, take, drop, length, Option, Some, None, refl, ap, sym, subst, arith, if◌then◌else◌, true≢false}
use Rattle.std.specs.Prelude.{MatchOption, ⊤, filter, flat_map, is_some, option_to_list, unwrap_or}
use Rattle.std.specs.List.{cons_option, list_all}
use Rattle.std.specs.Option.{option_map_or}
use Rattle.std.proofs.lemmas.Bool.{and_from, cases_Bool, eqb-true, or_cases}
use Rattle.std.proofs.lemmas.List.{take-append-drop}
use Rattle.std.proofs.lemmas.List.Folds.{list_all-append}
use Rattle.sh_base.specs.declared.numbers.Width.{Width}
use Rattle.sh_base.specs.declared.places.Place.{Place}
use Rattle.sh_base.specs.declared.rules.Rule.{Rule}
use Rattle.sh_base.specs.declared.rules.Rule.TheVariants.{V1, V2, V5}
use Rattle.sh_ir.specs.Attributes.{numbers_fit}
use Rattle.sh_ir.specs.Faults.{KeepsModule, call_faults, faults_by, func_faults, funcs_faults, grid_faults, keeps_call, keeps_func, return_faults}
use Rattle.sh_ir.specs.Formed.{IsFormed, OperandsFit, all_written, bodies_in, body_ops_of, call_constants, constants_of, func_names, op_texts, ops_of}
use Rattle.sh_ir.specs.Numbers.{are_distinct}
use Rattle.sh_ir.specs.RegionRules.{block_of, body_number_fits, is_there, keeps_at_yield, keeps_in_region, own_after, with_block}
use Rattle.sh_ir.specs.Regions.{captured_by, first_occurrences, is_among, outer_uses, outside}
use Rattle.sh_ir.specs.Rules.{KeepsOps, body_faults, defines_new, faults_at, keeps, loop_count, op_faults, ops_faults, refusal_at, region_faults, uses_defined}
use Rattle.sh_ir.specs.Scope.{Scope, Value, is_defined, scope_after, scope_of, value_named, value_of, values_after, with_args}
use Rattle.sh_ir.specs.Typing.{written_operands}
use Rattle.sh_ir.specs.Written.{Written, written_by, written_in_body}
use Rattle.sh_ir.specs.declared.bodies.Body.{Body}
use Rattle.sh_ir.specs.declared.bodies.BodyKind.{BodyKind}
use Rattle.sh_ir.specs.declared.bodies.BodyKind.TheVariants as body_kind
use Rattle.sh_ir.specs.declared.bodies.BodyOp.{BodyOp}
use Rattle.sh_ir.specs.declared.functions.Arg.{Arg}
use Rattle.sh_ir.specs.declared.functions.Func.{Func}
use Rattle.sh_ir.specs.declared.modules.CallItem.{CallItem}
use Rattle.sh_ir.specs.declared.modules.Module.{Module}
use Rattle.sh_ir.specs.declared.operations.Op.{Op}
use Rattle.sh_ir.specs.declared.operations.OpKind.{OpKind}
use Rattle.sh_ir.specs.declared.operations.OpKind.TheVariants as op_kind
use Rattle.sh_ir.specs.declared.types.ValueType.{ValueType}
use Rattle.sh_print_laws.specs.Printable.{HasFewNames, IsNamed, IsPrintable, IsRegionNamed, names_defined}
use Rattle.sh_print_laws.specs.ReadsBack.{is_whole}
use Rattle.sh_print_laws.proofs.Members.{Member, all_of, in_first, in_flat, in_second, of_all, of_test}
use Rattle.sh_print_laws.proofs.DenseForms.{not_true}
use Rattle.sh_print_laws.proofs.PrintableNames.{member_among, member_either}
use Rattle.sh_print_laws.proofs.Tests.{and_parts}

-- ## Lists and faults

neither : {X : Type 0} (xs ys : List X) → xs ++ ys ≡ [] → (xs ≡ []) × (ys ≡ [])
neither [] ys e = (refl, e)
neither (x ∷ xs) ys e = cc

kept_at : (place : Place) (rule : Rule) (kept : Rule → Bool) → faults_at place (rule ∷ []) kept ≡ [] → kept rule ≡ true
kept_at place rule kept e = by (kept rule) e
  where
    by : (b : Bool) → (if b then [] else refusal_at place rule ∷ []) ≡ [] → b ≡ true
    by true e = refl
    by false e = cc

tests_all : {X : Type 0} (p : X → Bool) (xs : List X) → ((x : X) → Member x xs → p x ≡ true) → list_all p xs ≡ true
tests_all p [] f = refl
tests_all p (x ∷ xs) f = and_from (p x) (list_all p xs) (f x (inl refl)) (tests_all p xs (λ y ym. f y (inr ym)))

parts_all : {X Y : Type 0} (p : Y → Bool) (g : X → List Y) (xs : List X) → ((x : X) → Member x xs → list_all p (g x) ≡ true) → list_all p (flat_map g xs) ≡ true
parts_all p g [] f = refl
parts_all p g (x ∷ xs) f = list_all-append p (g x) (flat_map g xs) ∙ and_from (list_all p (g x)) (list_all p (flat_map g xs)) (f x (inl refl)) (parts_all p g xs (λ y ym. f y (inr ym)))

-- whose member it is
record Origin {X Y : Type 0} (g : X → List Y) (xs : List X) (y : Y) : Type 0 where
  pub from : X
  pub there : Member from xs
  pub is : Member y (g from)

origin : {X Y : Type 0} (g : X → List Y) (xs : List X) (y : Y) → Member y (flat_map g xs) → Origin g xs y
origin g [] y m = absurd m
origin g (x ∷ xs) y m = elim (member_either (g x) (flat_map g xs) y m) [
  | inl h ↦ record { from = x; there = inl refl; is = h }
  | inr h ↦ let o = origin g xs y h in record { from = o.from; there = inr o.there; is = o.is }
]

-- ## Operations

module _ (rule : Rule) where
  -- where an operation stands
  record Stands (x : Op) : Type 0 where
    pub at : Scope
    pub kept : keeps rule at x ≡ true
    pub region : region_faults (rule ∷ []) at x.kind ≡ []

  stands : (scope : Scope) (ops : List Op) → KeepsOps rule scope ops → (x : Op) → Member x ops → Stands x
  unfolding op_faults
  stands scope [] e x m = absurd m
  stands scope (y ∷ ops) e x (inl same) =
      let both = neither (op_faults (rule ∷ []) scope y) (ops_faults (rule ∷ []) (scope_after scope y) ops) e in
      let parts = neither (faults_at y.place (rule ∷ []) (λ r. keeps r scope y)) (region_faults (rule ∷ []) scope y.kind) both.0 in
      subst Stands (sym same) (record { at = scope; kept = kept_at y.place rule (λ r. keeps r scope y) parts.0; region = parts.1 })
  stands scope (y ∷ ops) e x (inr m) =
      stands (scope_after scope y) ops (neither (op_faults (rule ∷ []) scope y) (ops_faults (rule ∷ []) (scope_after scope y) ops) e).1 x m

  -- where an operation of a region stands
  record StandsInside (x : BodyOp) : Type 0 where
    pub loops : ℕ
    pub outer : List Value
    pub own : List Value
    pub kept : keeps_in_region rule loops outer own x ≡ true

  stands_inside : (loops : ℕ) (outer own : List Value) (ops : List BodyOp) (body : Body) → body_faults (rule ∷ []) loops outer own ops body ≡ [] → (x : BodyOp) → Member x ops → StandsInside x
  stands_inside loops outer own [] body e x m = absurd m
  stands_inside loops outer own (y ∷ ops) body e x (inl same) =
      let both = neither (faults_at y.place (rule ∷ []) (λ r. keeps_in_region r loops outer own y)) (body_faults (rule ∷ []) loops outer (own_after own y) ops body) e in
      subst StandsInside (sym same) (record { loops = loops; outer = outer; own = own; kept = kept_at y.place rule (λ r. keeps_in_region r loops outer own y) both.0 })
  stands_inside loops outer own (y ∷ ops) body e x (inr m) =
      stands_inside loops outer (own_after own y) ops body (neither (faults_at y.place (rule ∷ []) (λ r. keeps_in_region r loops outer own y)) (body_faults (rule ∷ []) loops outer (own_after own y) ops body) e).1 x m

  -- the faults of a region that there is
  region_kept : (scope : Scope) (k : OpKind) (body : Body) → (written_by k).body ≡ Some body → region_faults (rule ∷ []) scope k ≡ [] → body_faults (rule ∷ []) (loop_count k) scope.values (block_of body) body.ops body ≡ []
  unfolding region_faults
  region_kept scope k body is e = ap (λ o. option_map_or (λ body. body_faults (rule ∷ []) (loop_count k) scope.values (block_of body) body.ops body) o []) (sym is) ∙ e

  funcs_kept : (m : Module) (earlier funcs : List Func) → funcs_faults (rule ∷ []) m earlier funcs ≡ [] → (f : Func) → Member f funcs → KeepsOps rule (scope_of m f) f.ops
  unfolding func_faults
  funcs_kept m earlier [] e f fm = absurd fm
  funcs_kept m earlier (g ∷ funcs) e f (inl same) =
      let both = neither (func_faults (rule ∷ []) m earlier g) (funcs_faults (rule ∷ []) m (earlier ++ g ∷ []) funcs) e in
      let parts = neither (faults_at g.place (rule ∷ []) (λ r. keeps_func r m earlier g)) (ops_faults (rule ∷ []) (scope_of m g) g.ops ++ return_faults (rule ∷ []) g.results g.ops) both.0 in
      subst (λ h. KeepsOps rule (scope_of m h) h.ops) (sym same) (neither (ops_faults (rule ∷ []) (scope_of m g) g.ops) (return_faults (rule ∷ []) g.results g.ops) parts.1).0
  funcs_kept m earlier (g ∷ funcs) e f (inr fm) = funcs_kept m (earlier ++ g ∷ []) funcs (neither (func_faults (rule ∷ []) m earlier g) (funcs_faults (rule ∷ []) m (earlier ++ g ∷ []) funcs) e).1 f fm

  parts_kept : (m : Module) → KeepsModule rule m → (funcs_faults (rule ∷ []) m [] m.funcs ≡ []) × (call_faults (rule ∷ []) m.calls ≡ [])
  unfolding faults_by
  parts_kept m e = neither (funcs_faults (rule ∷ []) m [] m.funcs) (call_faults (rule ∷ []) m.calls)
      (neither (grid_faults (rule ∷ []) [] m.grids) (funcs_faults (rule ∷ []) m [] m.funcs ++ call_faults (rule ∷ []) m.calls) e).1

  calls_kept : (calls : List CallItem) → call_faults (rule ∷ []) calls ≡ [] → (c : CallItem) → Member c calls → keeps_call rule c ≡ true
  calls_kept [] e c cm = absurd cm
  calls_kept (d ∷ calls) e c (inl same) = subst (λ x. keeps_call rule x ≡ true) (sym same)
      (kept_at d.place rule (λ r. keeps_call r d) (neither (faults_at d.place (rule ∷ []) (λ r. keeps_call r d)) (call_faults (rule ∷ []) calls) e).0)
  calls_kept (d ∷ calls) e c (inr cm) = calls_kept calls (neither (faults_at d.place (rule ∷ []) (λ r. keeps_call r d)) (call_faults (rule ∷ []) calls) e).1 c cm

-- ## Literals

whole_kind : (scope : Scope) (k : OpKind) (t : ValueType) → numbers_fit scope k t ≡ true → list_all is_whole (written_by k).constants ≡ true
unfolding numbers_fit
whole_kind scope (op_kind.Constant c) t h = and_from (is_whole c) true h refl
whole_kind scope _ t h = refl

whole_body_kind : (loops : ℕ) (k : BodyKind) → body_number_fits loops k ≡ true → list_all is_whole (written_in_body k).constants ≡ true
unfolding body_number_fits
whole_body_kind loops (body_kind.Constant c) h = and_from (is_whole c) true h refl
whole_body_kind loops _ h = refl

-- ## Names

defined_first : (v : Value) (values : List Value) (a : ℕ) → is_defined (v ∷ values) a ≡ true → (v.name ≡ a) ⊎ (is_defined values a ≡ true)
defined_first v values a h = elim (cases_Bool (nat_eq v.name a)) [
  | inl e ↦ inl (eqb-true v.name a e)
  | inr e ↦ inr (ap (λ b. is_some (if b then Some v else value_named values a)) (sym e) ∙ h)
]

-- the values have names of this list
abbrev AreNamed : List Value → List ℕ → Type 0
AreNamed values names = (a : ℕ) → is_defined values a ≡ true → Member a names

named_args : (values : List Value) (args : List Arg) (names : List ℕ) → AreNamed values names → ((a : ℕ) → Member a (map (λ arg. arg.id) args) → Member a names) → AreNamed (with_args values args) names
named_args values [] names h so = h
named_args values (x ∷ args) names h so = named_args _ args names (λ a d. elim (defined_first _ values a d) [
  | inl e ↦ so a (inl (sym e))
  | inr e ↦ h a e
]) (λ a m. so a (inr m))

named_block : (values : List Value) (args : List ℕ) (ws : List Width) (names : List ℕ) → AreNamed values names → ((a : ℕ) → Member a args → Member a names) → AreNamed (with_block values args ws) names
named_block values [] ws names h so = h
named_block values (x ∷ args) [] names h so = h
named_block values (x ∷ args) (w ∷ ws) names h so = named_block _ args ws names (λ a d. elim (defined_first _ values a d) [
  | inl e ↦ so a (inl (sym e))
  | inr e ↦ h a e
]) (λ a m. so a (inr m))

in_filter : (p : ℕ → Bool) (xs : List ℕ) (a : ℕ) → Member a (filter p xs) → Member a xs × (p a ≡ true)
in_filter p [] a m = absurd m
in_filter p (x ∷ xs) a m = elim (cases_Bool (p x)) [
  | inl e ↦ kept e (subst (λ b. Member a (if b then x ∷ filter p xs else filter p xs)) e m) (in_filter p xs a)
  | inr e ↦ let h = in_filter p xs a (subst (λ b. Member a (if b then x ∷ filter p xs else filter p xs)) e m) in (inr h.0, h.1)
]
  where
    kept : p x ≡ true → Member a (x ∷ filter p xs) → (Member a (filter p xs) → Member a xs × (p a ≡ true)) → Member a (x ∷ xs) × (p a ≡ true)
    kept e (inl same) again = (inl same, subst (λ y. p y ≡ true) (sym same) e)
    kept e (inr m) again = let h = again m in (inr h.0, h.1)

of_firsts : (xs : List ℕ) (a : ℕ) → Member a (first_occurrences xs) → Member a xs
of_firsts [] a m = m
of_firsts (x ∷ xs) a (inl e) = inl e
of_firsts (x ∷ xs) a (inr m) = inr (of_firsts xs a (in_filter (λ other. not (nat_eq x other)) (first_occurrences xs) a m).0)

-- a name that a region takes of its function is defined there
outer_there : (known : List ℕ) (outer own : List Value) → AreNamed own known → (xs : List ℕ) → list_all (is_there outer own) xs ≡ true → (a : ℕ) → Member a (outside known xs) → is_defined outer a ≡ true
outer_there known outer own named xs h a m =
    let f = in_filter (λ name. not (is_among known name)) xs a m in
    elim (or_cases (is_defined own a) (is_defined outer a) (of_test (is_there outer own) xs a h f.0)) [
      | inl e ↦ absurd (true≢false (sym (member_among known a (named a e)) ∙ not_true (is_among known a) f.1))
      | inr e ↦ e
    ]

region_names_there : (loops : ℕ) (outer own : List Value) (known : List ℕ) (ops : List BodyOp) (body : Body) → body_faults (V1 ∷ []) loops outer own ops body ≡ [] → AreNamed own known
    → (a : ℕ) → Member a (outer_uses known ops body.yields) → is_defined outer a ≡ true
unfolding keeps_in_region keeps_at_yield
region_names_there loops outer own known [] body e named a m =
    outer_there known outer own named (body.yields ∷ []) (and_from (is_there outer own body.yields) true (kept_at body.place V1 (λ r. keeps_at_yield r outer own body.yields) e) refl) a m
region_names_there loops outer own known (y ∷ ops) body e named a m =
    let both = neither (faults_at y.place (V1 ∷ []) (λ r. keeps_in_region r loops outer own y)) (body_faults (V1 ∷ []) loops outer (own_after own y) ops body) e in
    elim (member_either (outside known y.operands) (outer_uses (y.defines ∷ known) ops body.yields) a m) [
      | inl h ↦ outer_there known outer own named y.operands (kept_at y.place V1 (λ r. keeps_in_region r loops outer own y) both.0) a h
      | inr h ↦ region_names_there loops outer (own_after own y) (y.defines ∷ known) ops body both.1 (λ b d. elim (defined_first _ own b d) [
        | inl same ↦ inl (sym same)
        | inr old ↦ inr (named b old)
      ]) a h
    ]

-- ## The operands of an operation

module _ (scope : Scope) (x : Op) (e : op_faults (V1 ∷ []) scope x ≡ []) (fit : OperandsFit (written_by x.kind) x.operands)
    (captures : MatchOption (written_by x.kind).body ⊤ (λ body. drop (unwrap_or (written_by x.kind).operands 0) x.operands ≡ captured_by body)) where
  both_kept : (list_all (is_defined scope.values) (written_operands x) ≡ true) × (region_faults (V1 ∷ []) scope x.kind ≡ [])
  unfolding op_faults keeps uses_defined
  both_kept = let both = neither (faults_at x.place (V1 ∷ []) (λ r. keeps r scope x)) (region_faults (V1 ∷ []) scope x.kind) e in (kept_at x.place V1 (λ r. keeps r scope x) both.0, both.1)

  dropped_all : (n : ℕ) (xs : List ℕ) → length xs ≡ n + 0 → drop n xs ≡ []
  dropped_all zero [] h = refl
  dropped_all zero (y ∷ xs) h = absurd (omega arith)
  dropped_all (suc n) [] h = refl
  dropped_all (suc n) (y ∷ xs) h = dropped_all n xs (omega arith)

  captured_there : (n : ℕ) → (written_by x.kind).operands ≡ Some n → (a : ℕ) → Member a (drop n x.operands) → is_defined scope.values a ≡ true
  captured_there n is a m = by (written_by x.kind).body refl captures
    where
      by : (o : Option Body) → (written_by x.kind).body ≡ o → MatchOption o ⊤ (λ body. drop (unwrap_or (written_by x.kind).operands 0) x.operands ≡ captured_by body) → is_defined scope.values a ≡ true
      by None none c =
          let count : length x.operands ≡ n + length (option_map_or captured_by (written_by x.kind).body []) = subst (λ o. MatchOption o ⊤ (λ count. length x.operands ≡ count + length (option_map_or captured_by (written_by x.kind).body []))) is fit in
          absurd (subst (Member a) (dropped_all n x.operands (count ∙ ap (λ o. n + length (option_map_or captured_by o [])) none)) m)
      by (Some body) some c =
          let listed : drop n x.operands ≡ captured_by body = ap (λ o. drop (unwrap_or o 0) x.operands) (sym is) ∙ c in
          region_names_there (loop_count x.kind) scope.values (block_of body) body.args body.ops body (region_kept V1 scope x.kind body some both_kept.1)
          (named_block [] body.args body.widths body.args (λ b d. absurd (let no : false ≡ true = d in cc)) (λ b bm. bm)) a
          (of_firsts (outer_uses body.args body.ops body.yields) a (subst (Member a) listed m))

  operand_there : (a : ℕ) → Member a x.operands → is_defined scope.values a ≡ true
  operand_there a m = by (written_by x.kind).operands refl
    where
      by : (o : Option ℕ) → (written_by x.kind).operands ≡ o → is_defined scope.values a ≡ true
      by None none = of_test (is_defined scope.values) x.operands a
          (ap (λ o. list_all (is_defined scope.values) (option_map_or (λ count. take count x.operands) o x.operands)) (sym none) ∙ both_kept.0) m
      by (Some n) some = elim (member_either (take n x.operands) (drop n x.operands) a (subst (Member a) (sym (take-append-drop n x.operands)) m)) [
        | inl h ↦ of_test (is_defined scope.values) (take n x.operands) a
            (ap (λ o. list_all (is_defined scope.values) (option_map_or (λ count. take count x.operands) o x.operands)) (sym some) ∙ both_kept.0) h
        | inr h ↦ captured_there n some a h
      ]

-- ## The names of a function

-- what being formed says of an operation
record IsListed (x : Op) : Type 0 where
  pub fit : OperandsFit (written_by x.kind) x.operands
  pub captures : MatchOption (written_by x.kind).body ⊤ (λ body. drop (unwrap_or (written_by x.kind).operands 0) x.operands ≡ captured_by body)

named_after : (values : List Value) (x : Op) (names : List ℕ) → AreNamed values names → ((a : ℕ) → Member a (option_to_list x.defines) → Member a names) → AreNamed (values_after values x) names
named_after values x names h so = by x.defines refl
  where
    by : (o : Option ℕ) → x.defines ≡ o → AreNamed (option_map_or (λ name. value_of x name ∷ values) o values) names
    by None e = h
    by (Some id) e = λ a d. elim (defined_first (value_of x id) values a d) [
      | inl same ↦ so a (subst (λ o. Member a (option_to_list o)) (sym e) (inl (sym same)))
      | inr old ↦ h a old
    ]

operands_named : (names : List ℕ) (scope : Scope) (ops : List Op) → KeepsOps V1 scope ops → AreNamed scope.values names → ((y : Op) → Member y ops → IsListed y)
    → ((a : ℕ) → Member a (flat_map (λ op. option_to_list op.defines) ops) → Member a names) → (x : Op) → Member x ops → (a : ℕ) → Member a x.operands → Member a names
operands_named names scope [] e named listed so x xm a am = absurd xm
operands_named names scope (y ∷ ops) e named listed so x (inl same) a am =
    let both = neither (op_faults (V1 ∷ []) scope y) (ops_faults (V1 ∷ []) (scope_after scope y) ops) e in
    let l = listed y (inl refl) in
    named a (operand_there scope y both.0 l.fit l.captures a (subst (λ z. Member a z.operands) same am))
operands_named names scope (y ∷ ops) e named listed so x (inr xm) a am =
    let both = neither (op_faults (V1 ∷ []) scope y) (ops_faults (V1 ∷ []) (scope_after scope y) ops) e in
    operands_named names (scope_after scope y) ops both.1
    (named_after scope.values y names named (λ b bm. so b (in_first (option_to_list y.defines) (flat_map (λ op. option_to_list op.defines) ops) b bm)))
    (λ z zm. listed z (inr zm)) (λ b bm. so b (in_second (option_to_list y.defines) (flat_map (λ op. option_to_list op.defines) ops) b bm)) x xm a am

-- ## Members by their origins

record MapOrigin {X Y : Type 0} (g : X → Y) (xs : List X) (y : Y) : Type 0 where
  pub from : X
  pub there : Member from xs
  pub is : y ≡ g from

map_origin : {X Y : Type 0} (g : X → Y) (xs : List X) (y : Y) → Member y (map g xs) → MapOrigin g xs y
map_origin g [] y m = absurd m
map_origin g (x ∷ xs) y (inl e) = record { from = x; there = inl refl; is = e }
map_origin g (x ∷ xs) y (inr m) = let o = map_origin g xs y m in record { from = o.from; there = inr o.there; is = o.is }

-- the operation whose region it is
record RegionOrigin (ops : List Op) (body : Body) : Type 0 where
  pub from : Op
  pub there : Member from ops
  pub is : (written_by from.kind).body ≡ Some body

region_origin : (ops : List Op) (body : Body) → Member body (bodies_in ops) → RegionOrigin ops body
region_origin [] body m = absurd m
region_origin (x ∷ ops) body m = by (written_by x.kind).body refl m (region_origin ops body)
  where
    by : (o : Option Body) → (written_by x.kind).body ≡ o → Member body (cons_option o (bodies_in ops)) → (Member body (bodies_in ops) → RegionOrigin ops body) → RegionOrigin (x ∷ ops) body
    by None e m again = let o = again m in record { from = o.from; there = inr o.there; is = o.is }
    by (Some other) e (inl same) again = record { from = x; there = inl refl; is = e ∙ ap Some (sym same) }
    by (Some other) e (inr m) again = let o = again m in record { from = o.from; there = inr o.there; is = o.is }

-- ## Modules

module _ (m : Module) (formed : IsFormed m) where
  stands_in_module : (rule : Rule) → KeepsModule rule m → (x : Op) → Member x (ops_of m) → Stands rule x
  stands_in_module rule kept x xm =
      let o = origin (λ f. f.ops) m.funcs x xm in
      stands rule (scope_of m o.from) o.from.ops (funcs_kept rule m [] m.funcs (parts_kept rule m kept).0 o.from o.there) x o.is

  distinct_args : KeepsModule V2 m → (body : Body) → Member body (bodies_in (ops_of m)) → are_distinct body.args ≡ true
  unfolding keeps defines_new
  distinct_args kept body bm =
      let o = region_origin (ops_of m) body bm in
      let s = stands_in_module V2 kept o.from o.there in
      ap (λ r. option_map_or (λ body. are_distinct body.args) r true) (sym o.is) ∙ (and_parts _ (option_map_or (λ body. are_distinct body.args) (written_by o.from.kind).body true) s.kept).1

  whole_op : KeepsModule V5 m → (x : Op) → Member x (ops_of m) → list_all is_whole (written_by x.kind).constants ≡ true
  unfolding keeps
  whole_op kept x xm = let s = stands_in_module V5 kept x xm in whole_kind s.at x.kind x.result s.kept

  whole_body_op : KeepsModule V5 m → (y : BodyOp) → Member y (body_ops_of m) → list_all is_whole (written_in_body y.kind).constants ≡ true
  unfolding keeps_in_region
  whole_body_op kept y ym =
      let b = origin (λ body. body.ops) (bodies_in (ops_of m)) y ym in
      let o = region_origin (ops_of m) b.from b.there in
      let s = stands_in_module V5 kept o.from o.there in
      let t = stands_inside V5 (loop_count o.from.kind) s.at.values (block_of b.from) b.from.ops b.from (region_kept V5 s.at o.from.kind b.from o.is s.region) y b.is in
      whole_body_kind t.loops y.kind t.kept

  whole_call : KeepsModule V5 m → (c : CallItem) → Member c m.calls → list_all is_whole c.args ≡ true
  unfolding keeps_call
  whole_call kept c cm = calls_kept V5 m.calls (parts_kept V5 m kept).1 c cm

  whole_texts : KeepsModule V5 m → (w : Written) → Member w (all_written m) → list_all is_whole w.constants ≡ true
  whole_texts kept w wm = elim (member_either (op_texts (ops_of m)) (map (λ op. written_in_body op.kind) (body_ops_of m)) w wm) [
    | inl h ↦ let o = map_origin (λ op. written_by op.kind) (ops_of m) w h in ap (λ x. list_all is_whole x.constants) o.is ∙ whole_op kept o.from o.there
    | inr h ↦ let o = map_origin (λ op. written_in_body op.kind) (body_ops_of m) w h in ap (λ x. list_all is_whole x.constants) o.is ∙ whole_body_op kept o.from o.there
  ]

  all_whole : KeepsModule V5 m → list_all is_whole (constants_of m) ≡ true
  all_whole kept = list_all-append is_whole (flat_map (λ x. x.constants) (all_written m)) (call_constants m)
      ∙ and_from (list_all is_whole (flat_map (λ x. x.constants) (all_written m))) (list_all is_whole (call_constants m))
      (parts_all is_whole (λ x. x.constants) (all_written m) (whole_texts kept)) (parts_all is_whole (λ c. c.args) m.calls (whole_call kept))

  all_defined : KeepsModule V1 m → (f : Func) → Member f m.funcs → list_all (is_among (names_defined f)) (func_names f) ≡ true
  all_defined kept f fm = tests_all (is_among (names_defined f)) (func_names f) (λ a am. member_among (names_defined f) a (named a am))
    where
      ids : List ℕ
      ids = map (λ arg. arg.id) f.args

      defines : List ℕ
      defines = flat_map (λ op. option_to_list op.defines) f.ops

      listed : (x : Op) → Member x f.ops → IsListed x
      listed x xm = let there = in_flat (λ f. f.ops) m.funcs f x fm xm in record { fit = of_all _ (ops_of m) x formed.operands there; captures = of_all _ (ops_of m) x formed.captures there }

      named : (a : ℕ) → Member a (func_names f) → Member a (names_defined f)
      named a am = elim (member_either ids (flat_map (λ op. op.operands ++ option_to_list op.defines) f.ops) a am) [
        | inl h ↦ in_first ids defines a h
        | inr h ↦ let o = origin (λ op. op.operands ++ option_to_list op.defines) f.ops a h in
            elim (member_either o.from.operands (option_to_list o.from.defines) a o.is) [
              | inl g ↦ operands_named (names_defined f) (scope_of m f) f.ops (funcs_kept V1 m [] m.funcs (parts_kept V1 m kept).0 f fm)
                  (named_args [] f.args (names_defined f) (λ b d. absurd (let no : false ≡ true = d in cc)) (λ b bm. in_first ids defines b bm)) listed
                  (λ b bm. in_second ids defines b bm) o.from o.there a g
              | inr g ↦ in_second ids defines a (in_flat (λ op. option_to_list op.defines) f.ops o.from a o.there g)
            ]
      ]

pub kept_printable : (m : Module) → IsFormed m → KeepsModule V1 m → KeepsModule V2 m → KeepsModule V5 m → HasFewNames m → IsPrintable m
kept_printable m formed names new literals few = record {
  formed = formed;
  whole = all_whole m formed literals;
  names = all_of IsNamed m.funcs (λ f fm. record { defined = all_defined m formed names f fm; few = of_all _ m.funcs f few.names fm });
  regions = all_of IsRegionNamed (bodies_in (ops_of m)) (λ body bm. record { distinct = distinct_args m formed new body bm; few = of_all _ (bodies_in (ops_of m)) body few.regions bm });
  words = few.words;
}
