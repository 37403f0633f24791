-- What being printable says of the names of functions and regions.
use Rattle.std.proofs.Common.{◌≡◌, ◌∙◌, ◌⊎◌, inl, inr, ◌<◌, ◌^◌, ℕ, zero, suc, Bool, true, false, not, nat_eq, List, [], ◌∷◌, ◌++◌, map, drop, length, Some, refl, ap, sym, subst, arith, if◌then◌else◌, true≢false}
use Rattle.std.specs.Prelude.{MatchOption, ⊤, filter, flat_map, option_to_list, unwrap_or}
use Rattle.std.specs.List.{AllByRecursion, list_all}
use Rattle.std.proofs.lemmas.Bool.{cases_Bool, eqb-true, eq-eqb, or_cases, or_left, or_right}
use Rattle.sh_ir.specs.Formed.{IsFormed, all_written, bodies_in, body_ops_of, call_constants, func_names, func_types, has_own_body_names, is_block, is_spelled, is_spelled_type, item_numbers, op_texts, op_types, ops_of, types_in}
use Rattle.sh_ir.specs.Literals.{is_held}
use Rattle.sh_ir.specs.Regions.{are_apart, are_disjoint, captured_by, first_occurrences, is_among, outer_uses, outside, own_names}
use Rattle.sh_ir.specs.Written.{written_by, written_in_body}
use Rattle.sh_ir.specs.declared.bodies.Body.{Body}
use Rattle.sh_ir.specs.declared.bodies.BodyOp.{BodyOp}
use Rattle.sh_ir.specs.declared.functions.Func.{Func}
use Rattle.sh_ir.specs.declared.modules.Module.{Module}
use Rattle.sh_ir.specs.declared.operations.Op.{Op}
use Rattle.sh_print.specs.Tokens.{scope_of, scope_of_body}
use Rattle.sh_print.specs.Values.{Scope, name_in, name_text}
use Rattle.sh_print_laws.specs.Printable.{IsNamed, IsPrintable, IsRegionNamed, names_defined}
use Rattle.sh_print_laws.specs.ReadsBack.{AreWritten, is_whole}
use Rattle.sh_print_laws.proofs.BlockNames.{argument_texts, each_once_length}
use Rattle.sh_print_laws.proofs.DenseForms.{not_true}
use Rattle.sh_print_laws.proofs.LoopForms.{IsUsed, RegionNames, region_text}
use Rattle.sh_print_laws.proofs.Members.{Member, all_of, in_chosen, in_first, in_flat, in_map, in_second, of_all, of_parts, of_test}
use Rattle.sh_print_laws.proofs.Owners.{IsDefined}
use Rattle.sh_print_laws.proofs.Positions.{among_each, is_inner_text, is_outer_text, outer_texts_apart, outside_text, own_texts_apart}
use Rattle.sh_print_laws.proofs.RegionForms.{StepFits}
use Rattle.sh_print_laws.proofs.Tests.{all_parts, and_parts}

-- ## Names of lists

pub among_member : (xs : List ℕ) (a : ℕ) → is_among xs a ≡ true → Member a xs
among_member [] a h = absurd (let e : false ≡ true = h in cc)
among_member (x ∷ xs) a h = elim (or_cases (nat_eq a x) (is_among xs a) h) [
  | inl e ↦ inl (eqb-true a x e)
  | inr e ↦ inr (among_member xs a e)
]

pub member_among : (xs : List ℕ) (a : ℕ) → Member a xs → is_among xs a ≡ true
member_among [] a m = absurd m
member_among (x ∷ xs) a (inl e) = or_left (nat_eq a x) (is_among xs a) (eq-eqb a x e)
member_among (x ∷ xs) a (inr m) = or_right (nat_eq a x) (is_among xs a) (member_among xs a m)

module _ {X : Type 0} where
  pub member_either : (xs ys : List X) (x : X) → Member x (xs ++ ys) → Member x xs ⊎ Member x ys
  member_either [] ys x m = inr m
  member_either (z ∷ xs) ys x (inl e) = inl (inl e)
  member_either (z ∷ xs) ys x (inr m) = elim (member_either xs ys x m) [
    | inl a ↦ inl (inr a)
    | inr b ↦ inr b
  ]

-- a name of one list is none of the other
pub disjoint_names : (xs ys : List ℕ) (a : ℕ) → are_disjoint xs ys ≡ true → Member a xs → is_among ys a ≡ false
disjoint_names xs ys a h m = not_true (is_among ys a) (of_test (λ x. not (is_among ys x)) xs a h m)

in_firsts : (xs : List ℕ) (a : ℕ) → Member a xs → Member a (first_occurrences xs)
in_firsts [] a m = absurd m
in_firsts (x ∷ xs) a (inl e) = inl e
in_firsts (x ∷ xs) a (inr m) = elim (cases_Bool (nat_eq x a)) [
  | inl e ↦ inl (sym (eqb-true x a e))
  | inr e ↦ inr (kept (first_occurrences xs) (in_firsts xs a m) e)
]
  where
    kept : (ys : List ℕ) → Member a ys → nat_eq x a ≡ false → Member a (filter (λ other. not (nat_eq x other)) ys)
    kept [] m e = absurd m
    kept (y ∷ ys) (inl same) e = subst (λ b. Member a (if not b then y ∷ filter (λ other. not (nat_eq x other)) ys else filter (λ other. not (nat_eq x other)) ys)) (sym (ap (nat_eq x) (sym same) ∙ e)) (inl same)
    kept (y ∷ ys) (inr m) e = elim (cases_Bool (nat_eq x y)) [
      | inl f ↦ subst (λ b. Member a (if not b then y ∷ filter (λ other. not (nat_eq x other)) ys else filter (λ other. not (nat_eq x other)) ys)) (sym f) (kept ys m e)
      | inr f ↦ subst (λ b. Member a (if not b then y ∷ filter (λ other. not (nat_eq x other)) ys else filter (λ other. not (nat_eq x other)) ys)) (sym f) (inr (kept ys m e))
    ]

in_drop : (n : ℕ) (xs : List ℕ) (a : ℕ) → Member a (drop n xs) → Member a xs
in_drop zero xs a m = m
in_drop (suc n) [] a m = m
in_drop (suc n) (x ∷ xs) a m = inr (in_drop n xs a m)

in_outside : (own xs : List ℕ) (a : ℕ) → Member a xs → is_among own a ≡ false → Member a (outside own xs)
in_outside own [] a m h = absurd m
in_outside own (x ∷ xs) a (inl e) h = subst (λ b. Member a (if not b then x ∷ outside own xs else outside own xs)) (sym (ap (is_among own) (sym e) ∙ h)) (inl e)
in_outside own (x ∷ xs) a (inr m) h = elim (cases_Bool (is_among own x)) [
  | inl f ↦ subst (λ b. Member a (if not b then x ∷ outside own xs else outside own xs)) (sym f) (in_outside own xs a m h)
  | inr f ↦ subst (λ b. Member a (if not b then x ∷ outside own xs else outside own xs)) (sym f) (inr (in_outside own xs a m h))
]

module _ (m : Module) (p : IsPrintable m) where
  formed : IsFormed m
  formed = p.formed

  abbrev op_in_module : (f : Func) (x : Op) → Member f m.funcs → Member x f.ops → Member x (ops_of m)
  op_in_module f x fm xm = in_flat (λ f. f.ops) m.funcs f x fm xm

  abbrev written_in_module : (x : Op) → Member x (ops_of m) → Member (written_by x.kind) (all_written m)
  written_in_module x xm = in_first (op_texts (ops_of m)) _ (written_by x.kind) (in_map (λ op. written_by op.kind) (ops_of m) x xm)

  abbrev body_in_module : (x : Op) (body : Body) → Member x (ops_of m) → (written_by x.kind).body ≡ Some body → Member body (bodies_in (ops_of m))
  body_in_module x body xm e = in_chosen (λ x. x.body) (op_texts (ops_of m)) (written_by x.kind) body (in_map (λ op. written_by op.kind) (ops_of m) x xm) e

  pub types_spelled : (list_all is_spelled_type (flat_map func_types m.funcs ++ op_types m) ≡ true) × (list_all is_spelled_type (map (λ c. c.value_type) (call_constants m)) ≡ true)
  types_spelled = all_parts is_spelled_type (flat_map func_types m.funcs ++ op_types m) (map (λ c. c.value_type) (call_constants m)) p.formed.types

  op_types_spelled : list_all is_spelled_type (op_types m) ≡ true
  op_types_spelled = (all_parts is_spelled_type (flat_map func_types m.funcs) (op_types m) types_spelled.0).1

  pub func_types_spelled : list_all is_spelled_type (flat_map func_types m.funcs) ≡ true
  func_types_spelled = (all_parts is_spelled_type (flat_map func_types m.funcs) (op_types m) types_spelled.0).0

  -- ## What an operation writes

  pub op_written : (x : Op) → Member x (ops_of m) → AreWritten (written_by x.kind) x.operands x.result
  op_written x xm = record {
    operands = of_all _ (ops_of m) x p.formed.operands xm;
    numbers = of_parts is_spelled (λ x. x.numbers) (all_written m) (written_by x.kind) (all_parts is_spelled (item_numbers m) (flat_map (λ x. x.numbers) (all_written m)) p.formed.numbers).1 (written_in_module x xm);
    types = of_parts is_spelled_type (λ op. types_in (written_by op.kind) op.result) (ops_of m) x
        (all_parts is_spelled_type (flat_map (λ op. types_in (written_by op.kind) op.result) (ops_of m)) (flat_map (λ op. types_in (written_in_body op.kind) op.result) (body_ops_of m)) op_types_spelled).0 xm;
    result = of_all _ (ops_of m) x p.formed.results xm;
    held = of_parts is_held (λ x. x.constants) (all_written m) (written_by x.kind) (all_parts is_held (flat_map (λ x. x.constants) (all_written m)) (call_constants m) p.formed.literals).0 (written_in_module x xm);
    whole = of_parts is_whole (λ x. x.constants) (all_written m) (written_by x.kind) (all_parts is_whole (flat_map (λ x. x.constants) (all_written m)) (call_constants m) p.whole).0 (written_in_module x xm);
  }

  abbrev body_op_in_module : (body : Body) (y : BodyOp) → Member body (bodies_in (ops_of m)) → Member y body.ops → Member y (body_ops_of m)
  body_op_in_module body y bm ym = in_flat (λ body. body.ops) (bodies_in (ops_of m)) body y bm ym

  abbrev body_written_in_module : (y : BodyOp) → Member y (body_ops_of m) → Member (written_in_body y.kind) (all_written m)
  body_written_in_module y ym = in_second (op_texts (ops_of m)) (map (λ op. written_in_body op.kind) (body_ops_of m)) (written_in_body y.kind) (in_map (λ op. written_in_body op.kind) (body_ops_of m) y ym)

  body_op_written : (y : BodyOp) → Member y (body_ops_of m) → AreWritten (written_in_body y.kind) y.operands y.result
  body_op_written y ym = record {
    operands = of_all _ (body_ops_of m) y p.formed.body_operands ym;
    numbers = of_parts is_spelled (λ x. x.numbers) (all_written m) (written_in_body y.kind) (all_parts is_spelled (item_numbers m) (flat_map (λ x. x.numbers) (all_written m)) p.formed.numbers).1 (body_written_in_module y ym);
    types = of_parts is_spelled_type (λ op. types_in (written_in_body op.kind) op.result) (body_ops_of m) y
        (all_parts is_spelled_type (flat_map (λ op. types_in (written_by op.kind) op.result) (ops_of m)) (flat_map (λ op. types_in (written_in_body op.kind) op.result) (body_ops_of m)) op_types_spelled).1 ym;
    result = of_all _ (body_ops_of m) y p.formed.body_results ym;
    held = of_parts is_held (λ x. x.constants) (all_written m) (written_in_body y.kind) (all_parts is_held (flat_map (λ x. x.constants) (all_written m)) (call_constants m) p.formed.literals).0 (body_written_in_module y ym);
    whole = of_parts is_whole (λ x. x.constants) (all_written m) (written_in_body y.kind) (all_parts is_whole (flat_map (λ x. x.constants) (all_written m)) (call_constants m) p.whole).0 (body_written_in_module y ym);
  }

  module _ (f : Func) (fm : Member f m.funcs) where
    scope : Scope
    scope = scope_of f

    few_names : length (scope_of f).ids < 2 ^ 64
    few_names = let h = (of_all IsNamed m.funcs f p.names fm).few in let l = each_once_length (names_defined f) in omega arith

    pub name_defined : (a : ℕ) → Member a (func_names f) → IsDefined (scope_of f) a
    name_defined a am = among_each (names_defined f) a ∙ of_test (is_among (names_defined f)) (func_names f) a (of_all IsNamed m.funcs f p.names fm).defined am

    defined_named : (ops : List Op) (a : ℕ) → Member a (flat_map (λ op. option_to_list op.defines) ops) → Member a (flat_map (λ op. op.operands ++ option_to_list op.defines) ops)
    defined_named [] a am = absurd am
    defined_named (x ∷ ops) a am = elim (member_either (option_to_list x.defines) (flat_map (λ op. option_to_list op.defines) ops) a am) [
      | inl h ↦ in_first (x.operands ++ option_to_list x.defines) _ a (in_second x.operands (option_to_list x.defines) a h)
      | inr h ↦ in_second (x.operands ++ option_to_list x.defines) _ a (defined_named ops a h)
    ]

    -- a name that the function defines is one of its names
    pub name_of_func : (a : ℕ) → IsDefined (scope_of f) a → Member a (func_names f)
    name_of_func a d =
        let am = among_member (names_defined f) a (sym (among_each (names_defined f) a) ∙ d) in
        elim (member_either (map (λ arg. arg.id) f.args) (flat_map (λ op. option_to_list op.defines) f.ops) a am) [
          | inl h ↦ in_first (map (λ arg. arg.id) f.args) _ a h
          | inr h ↦ in_second (map (λ arg. arg.id) f.args) _ a (defined_named f.ops a h)
        ]

    pub apart_names : (list_all (are_disjoint (func_names f)) (map own_names (bodies_in f.ops)) ≡ true) × (are_apart (map own_names (bodies_in f.ops)) ≡ true)
    apart_names = and_parts (list_all (are_disjoint (func_names f)) (map own_names (bodies_in f.ops))) (are_apart (map own_names (bodies_in f.ops))) (of_test has_own_body_names m.funcs f p.formed.body_names fm)

    -- no name of the function is one of a region
    pub not_own : (body : Body) → Member body (bodies_in f.ops) → (a : ℕ) → Member a (func_names f) → is_among (own_names body) a ≡ false
    not_own body bm a am = disjoint_names (func_names f) (own_names body) a
        (of_test (are_disjoint (func_names f)) (map own_names (bodies_in f.ops)) (own_names body) apart_names.0 (in_map own_names (bodies_in f.ops) body bm)) am

    pub texts_apart : (a b : ℕ) → IsDefined (scope_of f) a → IsDefined (scope_of f) b → name_text (name_in (scope_of f) a) ≡ name_text (name_in (scope_of f) b) → a ≡ b
    texts_apart a b h g e = outer_texts_apart (scope_of f) few_names a b h g e

    -- ## Regions

    module _ (x : Op) (xm : Member x f.ops) (body : Body) (is : (written_by x.kind).body ≡ Some body) where
      body_member : Member body (bodies_in f.ops)
      body_member = in_chosen (λ x. x.body) (op_texts f.ops) (written_by x.kind) body (in_map (λ op. written_by op.kind) f.ops x xm) is

      in_module : Member body (bodies_in (ops_of m))
      in_module = body_in_module x body (op_in_module f x fm xm) is

      operand_name : (a : ℕ) → Member a x.operands → Member a (func_names f)
      operand_name a am = in_second (map (λ arg. arg.id) f.args) _ a (in_flat (λ op. op.operands ++ option_to_list op.defines) f.ops x a xm (in_first x.operands (option_to_list x.defines) a am))

      -- what the region takes of its function is among the operands
      captured_name : (a : ℕ) → Member a (outer_uses body.args body.ops body.yields) → Member a (func_names f)
      captured_name a am =
          let listed : drop (unwrap_or (written_by x.kind).operands 0) x.operands ≡ captured_by body =
          subst (λ o. MatchOption o ⊤ (λ body. drop (unwrap_or (written_by x.kind).operands 0) x.operands ≡ captured_by body)) is (of_all _ (ops_of m) x p.formed.captures (op_in_module f x fm xm)) in
          operand_name a (in_drop (unwrap_or (written_by x.kind).operands 0) x.operands a (subst (Member a) (sym listed) (in_firsts (outer_uses body.args body.ops body.yields) a am)))

      outer_not_own : (a : ℕ) → Member a (outer_uses body.args body.ops body.yields) → is_among (own_names body) a ≡ false
      outer_not_own a am = not_own body body_member a (captured_name a am)

      abbrev Used : ℕ → Type 0
      Used = IsUsed (scope_of f) body

      used_or_outer : (known xs : List ℕ) → ((a : ℕ) → is_among known a ≡ true → is_among (own_names body) a ≡ true) → ((a : ℕ) → Member a (outside known xs) → Member a (outer_uses body.args body.ops body.yields))
          → (a : ℕ) → Member a xs → Used a
      used_or_outer known xs own outer a am = elim (cases_Bool (is_among known a)) [
        | inl e ↦ inl (own a e)
        | inr e ↦ inr (name_defined a (captured_name a (outer a (in_outside known xs a am e))))
      ]

      steps_used : (known : List ℕ) (ops : List BodyOp) → ((a : ℕ) → is_among known a ≡ true → is_among (own_names body) a ≡ true) → ((y : BodyOp) → Member y ops → is_among (own_names body) y.defines ≡ true)
          → ((a : ℕ) → Member a (outer_uses known ops body.yields) → Member a (outer_uses body.args body.ops body.yields))
          → AllByRecursion (λ y. AllByRecursion Used y.operands × Used y.defines) ops × Used body.yields
      steps_used known [] own defines outer = (tt, used_or_outer known (body.yields ∷ []) own outer body.yields (inl refl))
      steps_used known (y ∷ ops) own defines outer =
          let more = steps_used (y.defines ∷ known) ops
          (λ a h. elim (or_cases (nat_eq a y.defines) (is_among known a) h) [
            | inl e ↦ subst (λ b. is_among (own_names body) b ≡ true) (sym (eqb-true a y.defines e)) (defines y (inl refl))
            | inr e ↦ own a e
          ])
          (λ z zm. defines z (inr zm))
          (λ a am. outer a (in_second (outside known y.operands) (outer_uses (y.defines ∷ known) ops body.yields) a am)) in
          (((all_of Used y.operands (used_or_outer known y.operands own (λ a am. outer a (in_first (outside known y.operands) (outer_uses (y.defines ∷ known) ops body.yields) a am))), inl (defines y (inl refl))), more.0), more.1)

      arg_own : (a : ℕ) → Member a body.args → is_among (own_names body) a ≡ true
      arg_own a am = member_among (own_names body) a (in_first body.args (map (λ y. y.defines) body.ops) a am)

      define_own : (y : BodyOp) → Member y body.ops → is_among (own_names body) y.defines ≡ true
      define_own y ym = member_among (own_names body) y.defines (in_second body.args (map (λ y. y.defines) body.ops) y.defines (in_map (λ y. y.defines) body.ops y ym))

      own_placed : (a : ℕ) → is_among (own_names body) a ≡ true → is_among (scope_of_body body).ids a ≡ true
      own_placed a h = among_each (own_names body) a ∙ h

      not_placed_own : (a : ℕ) → is_among (own_names body) a ≡ false → is_among (scope_of_body body).ids a ≡ false
      not_placed_own a h = among_each (own_names body) a ∙ h

      few_own : length (scope_of_body body).ids < 2 ^ 64
      few_own = let h = (of_all IsRegionNamed (bodies_in (ops_of m)) body p.regions in_module).few in let l = each_once_length (own_names body) in omega arith

      same_names : (a b : ℕ) → Used a → Used b → is_among (own_names body) a ≡ is_among (own_names body) b → region_text (scope_of f) body a ≡ region_text (scope_of f) body b → a ≡ b
      same_names a b h g same e = elim (cases_Bool (is_among (own_names body) a)) [
        | inl own ↦ own_texts_apart (scope_of_body body) (scope_of f) few_own a b (own_placed a own) (own_placed b (sym same ∙ own)) e
        | inr none ↦ texts_apart a b (outer_defined a h none) (outer_defined b g (sym same ∙ none))
            (sym (outside_text (scope_of_body body) (scope_of f) a (not_placed_own a none)) ∙ e ∙ outside_text (scope_of_body body) (scope_of f) b (not_placed_own b (sym same ∙ none)))
      ]
        where
          outer_defined : (c : ℕ) → Used c → is_among (own_names body) c ≡ false → IsDefined (scope_of f) c
          outer_defined c (inl own) none = absurd (true≢false (sym own ∙ none))
          outer_defined c (inr d) none = d

      pub region_names_of : RegionNames (scope_of f) body
      region_names_of =
          let used = steps_used body.args body.ops (λ a h. arg_own a (among_member body.args a h)) define_own (λ a am. am) in
          let typed : length body.args ≡ length body.widths = eqb-true (length body.args) (length body.widths) (of_test is_block (bodies_in (ops_of m)) body p.formed.blocks in_module) in
          record {
            named = record {
              own = λ a h. is_inner_text (scope_of_body body) (scope_of f) a (own_placed a h);
              outer = λ a h. is_outer_text (scope_of_body body) (scope_of f) few_names a (not_placed_own a h);
            };
            args = argument_texts (scope_of f) body (of_all IsRegionNamed (bodies_in (ops_of m)) body p.regions in_module).distinct typed;
            same = same_names;
            outside = λ a h. outside_text (scope_of_body body) (scope_of f) a (not_placed_own a h);
            uses = all_of (λ a. is_among (own_names body) a ≡ false) (outer_uses body.args body.ops body.yields) outer_not_own;
            args_used = all_of Used body.args (λ a am. inl (arg_own a am));
            ops_used = used.0;
            yields_used = used.1;
            steps = all_of (StepFits (own_names body)) body.ops (λ y ym. record { written = body_op_written y (body_op_in_module body y in_module ym); defined = define_own y ym });
          }
