-- A printable module is read back.
use Rattle.std.proofs.Common.{◌≡◌, ◌∙◌, inl, inr, ◌<◌, ◌^◌, ◌&&◌, ℕ, Bool, true, false, not, nat_lt, List, [], ◌∷◌, ◌++◌, map, length, Option, Some, None, refl, ap, sym, subst, arith, true≢false}
use Rattle.std.specs.Prelude.{MatchOption, ⊤, ℤ, flat_map, is_some, option_to_list}
use Rattle.std.specs.List.{AllByRecursion, cons_option, list_all, list_any}
use Rattle.std.specs.Option.{option_map_or}
use Rattle.std.proofs.lemmas.Bool.{cases_Bool}
use Rattle.sh_alike.proofs.Renaming.{op_names}
use Rattle.sh_ir.specs.Classes.{is_return}
use Rattle.sh_ir.specs.Formed.{ResultFits, asks_where_allowed, bodies_in, call_constants, cuts_in, ends_in_return, func_names, func_types, is_grid, is_not_negative, is_numbered, is_spelled, is_spelled_type, item_numbers, all_written, op_texts, ops_of, types_in}
use Rattle.sh_ir.specs.Literals.{is_broken, is_dense, is_held}
use Rattle.sh_ir.specs.Regions.{are_apart, are_disjoint, is_among, own_names}
use Rattle.sh_ir.specs.Shapes.{argument_types}
use Rattle.sh_ir.specs.Written.{sharding_numbers, written_by}
use Rattle.sh_ir.specs.declared.arith_ops.Constant as constant
use Rattle.sh_ir.specs.declared.bodies.Body.{Body}
use Rattle.sh_ir.specs.declared.functions.Carry.{Carry}
use Rattle.sh_ir.specs.declared.functions.Cut.{Cut}
use Rattle.sh_ir.specs.declared.functions.Func.{Func}
use Rattle.sh_ir.specs.declared.modules.CallItem.{CallItem}
use Rattle.sh_ir.specs.declared.modules.GridItem.{GridItem}
use Rattle.sh_ir.specs.declared.modules.Module.{Module}
use Rattle.sh_ir.specs.declared.operations.Op.{Op}
use Rattle.sh_ir.specs.declared.operations.OpKind.{OpKind}
use Rattle.sh_ir.specs.declared.operations.OpKind.TheVariants as op_kind
use Rattle.sh_ir.specs.declared.operations.Return as declared_return
use Rattle.sh_ir.specs.declared.types.ValueType.{ValueType}
use Rattle.sh_print.specs.Layout.Piece.{line_end}
use Rattle.sh_print.specs.Tokens.{defined, kind_pieces, op_pieces, return_pieces, scope_of, text_of}
use Rattle.sh_print.specs.Values.{Scope}
use Rattle.sh_print_laws.specs.Printable.{HasFewWords, IsPrintable, IsReadAlike}
use Rattle.sh_print_laws.specs.ReadsBack.{is_whole}
use Rattle.sh_print_laws.proofs.Counted.{token_count}
use Rattle.sh_print_laws.proofs.FileReads.{text_read}
use Rattle.sh_print_laws.proofs.FunctionForms.{InnerFits, LastFits, OpsFit}
use Rattle.sh_print_laws.proofs.ItemForms.{ArgumentFits, CarryFits, CutFits}
use Rattle.sh_print_laws.proofs.LoopForms.{RegionNames}
use Rattle.sh_print_laws.proofs.MapForms.{SmallMap}
use Rattle.sh_print_laws.proofs.Members.{Member, all_of, behind_all, front_all, in_chosen, in_first, in_flat, in_map, in_second, of_all, of_each_part, of_parts, of_test}
use Rattle.sh_print_laws.proofs.ModuleForms.{FuncFits, GridFits}
use Rattle.sh_print_laws.proofs.Owners.{AreDisjoint, FuncNames, IsDefined, OpNames, owns_in}
use Rattle.sh_print_laws.proofs.DenseForms.{not_true}
use Rattle.sh_print_laws.proofs.PrintableNames.{among_member, apart_names, disjoint_names, func_types_spelled, name_defined, name_of_func, not_own, op_written, region_names_of, texts_apart, types_spelled}
use Rattle.sh_print_laws.proofs.SideForms.{AreOutside, OpFits}
use Rattle.sh_print_laws.proofs.Tests.{all_parts, and_parts}

none_any : {X : Type 0} (p : X → Bool) (xs : List X) → ((x : X) → Member x xs → p x ≡ false) → list_any p xs ≡ false
none_any p [] f = refl
none_any p (x ∷ xs) f = rw (f x (inl refl)) (none_any p xs (λ y ym. f y (inr ym)))

tests_mapped : {X Y : Type 0} (p : Y → Bool) (g : X → Y) (xs : List X) → list_all p (map g xs) ≡ list_all (λ x. p (g x)) xs
tests_mapped p g [] = refl
tests_mapped p g (x ∷ xs) = ap (λ b. p (g x) && b) (tests_mapped p g xs)

-- ## Returns

return_of : (k : OpKind) → is_return k ≡ true → (ret : declared_return.Return) × (k ≡ op_kind.Return ret)
return_of (op_kind.Return ret) h = (ret, refl)
return_of _ h = absurd (let e : false ≡ true = h in cc)

return_tokens : (scope : Scope) (k : OpKind) (xs : List ℕ) (t : ValueType) → (ret : declared_return.Return) × (k ≡ op_kind.Return ret) → 0 < token_count (kind_pieces scope k xs t ++ line_end ∷ [])
unfolding kind_pieces return_pieces
return_tokens scope k xs t r = subst (λ k. 0 < token_count (kind_pieces scope k xs t ++ line_end ∷ [])) (sym r.1) (omega arith)

some_tokens : (scope : Scope) (x : Op) → is_some x.defines ≡ not (is_return x.kind) → 0 < token_count (op_pieces scope x)
unfolding op_pieces defined
some_tokens scope x h = by x.defines refl h
  where
    by : (o : Option ℕ) → x.defines ≡ o → is_some o ≡ not (is_return x.kind) → 0 < token_count (defined scope o ++ kind_pieces scope x.kind x.operands x.result ++ line_end ∷ [])
    by (Some id) e g = omega arith
    by None e g = return_tokens scope x.kind x.operands x.result (return_of x.kind (by_not (is_return x.kind) g))
      where
        by_not : (b : Bool) → false ≡ not b → b ≡ true
        by_not true g = refl
        by_not false g = absurd (let no : false ≡ true = g in cc)

-- ## Regions apart

owned_none : (o : Option Body) (id : ℕ) → ((body : Body) → o ≡ Some body → is_among (own_names body) id ≡ false) → option_map_or (λ body. is_among (own_names body) id) o false ≡ false
owned_none None id f = refl
owned_none (Some body) id f = f body refl

apart_regions : (ops : List Op) → are_apart (map own_names (bodies_in ops)) ≡ true → AreDisjoint ops
apart_regions [] h = tt
apart_regions (x ∷ ops) h = by (written_by x.kind).body refl h (apart_regions ops)
  where
    by : (o : Option Body) → (written_by x.kind).body ≡ o → are_apart (map own_names (cons_option o (bodies_in ops))) ≡ true → (are_apart (map own_names (bodies_in ops)) ≡ true → AreDisjoint ops) → AreDisjoint (x ∷ ops)
    by None e g again = ((λ id any. ap (λ o. option_map_or (λ body. is_among (own_names body) id) o false) e), again g)
    by (Some body) e g again =
        let both = and_parts (list_all (are_disjoint (own_names body)) (map own_names (bodies_in ops))) (are_apart (map own_names (bodies_in ops))) g in (
          (λ id any. ap (λ o. option_map_or (λ body. is_among (own_names body) id) o false) e ∙ elim (cases_Bool (is_among (own_names body) id)) [
            | inr none ↦ none
            | inl own ↦ absurd (true≢false (sym any ∙ none_any (λ y. owns_in y id) ops (λ y ym. owned_none (written_by y.kind).body id (λ other is.
                disjoint_names (own_names body) (own_names other) id
                (of_test (are_disjoint (own_names body)) (map own_names (bodies_in ops)) (own_names other) both.0 (in_map own_names (bodies_in ops) other (in_chosen (λ x. x.body) (op_texts ops) (written_by y.kind) other (in_map (λ op. written_by op.kind) ops y ym) is)))
                (among_member (own_names body) id own)))))
          ]),
          again both.1,
        )

module _ (m : Module) (p : IsPrintable m) where
  module _ (f : Func) (fm : Member f m.funcs) where
    in_module : (x : Op) → Member x f.ops → Member x (ops_of m)
    in_module x xm = in_flat (λ f. f.ops) m.funcs f x fm xm

    written : (x : Op) → Member x f.ops → Member (written_by x.kind) (all_written m)
    written x xm = in_first (op_texts (ops_of m)) _ (written_by x.kind) (in_map (λ op. written_by op.kind) (ops_of m) x (in_module x xm))

    regions_of : (x : Op) → Member x f.ops → MatchOption (written_by x.kind).body ⊤ (λ body. RegionNames (scope_of f) body)
    regions_of x xm = by (written_by x.kind).body refl
      where
        by : (o : Option Body) → (written_by x.kind).body ≡ o → MatchOption o ⊤ (λ body. RegionNames (scope_of f) body)
        by None e = tt
        by (Some body) e = region_names_of m p f fm x xm body e

    op_name : (x : Op) (a : ℕ) → Member x f.ops → Member a (op_names x) → Member a (func_names f)
    op_name x a xm am = in_second (map (λ arg. arg.id) f.args) _ a (in_flat (λ op. op.operands ++ option_to_list op.defines) f.ops x a xm am)

    not_owned : (x : Op) → Member x f.ops → (a : ℕ) → Member a (func_names f) → owns_in x a ≡ false
    not_owned x xm a am = owned_none (written_by x.kind).body a (λ body is. not_own m p f fm body
        (in_chosen (λ x. x.body) (op_texts f.ops) (written_by x.kind) body (in_map (λ op. written_by op.kind) f.ops x xm) is) a am)

    pub func_named : FuncNames f
    func_named = record {
      args = all_of (IsDefined (scope_of f)) (map (λ arg. arg.id) f.args) (λ a am. name_defined m p f fm a (in_first (map (λ arg. arg.id) f.args) _ a am));
      ops = all_of (OpNames (scope_of f)) f.ops (λ x xm. record {
        regions = regions_of x xm;
        used = all_of (IsDefined (scope_of f)) (op_names x) (λ a am. name_defined m p f fm a (op_name x a xm am));
        some = some_tokens (scope_of f) x (of_all _ (ops_of m) x p.formed.defines (in_module x xm));
      });
      free = λ id d. none_any (λ x. owns_in x id) f.ops (λ x xm. not_owned x xm id (name_of_func m p f fm id d));
      disjoint = apart_regions f.ops (apart_names m p f fm).1;
      texts = texts_apart m p f fm;
    }

    -- ## Operations

    outside_of : (x : Op) → Member x f.ops → (names : List ℕ) → ((a : ℕ) → Member a names → Member a (func_names f)) → AreOutside x.kind names
    outside_of x xm names so = by (written_by x.kind).body refl
      where
        by : (o : Option Body) → (written_by x.kind).body ≡ o → MatchOption o ⊤ (λ body. AllByRecursion (λ id. is_among (own_names body) id ≡ false) names)
        by None e = tt
        by (Some body) e = all_of (λ id. is_among (own_names body) id ≡ false) names (λ a am. not_own m p f fm body
            (in_chosen (λ x. x.body) (op_texts f.ops) (written_by x.kind) body (in_map (λ op. written_by op.kind) f.ops x xm) e) a (so a am))

    op_fits : (x : Op) → Member x f.ops → OpFits (scope_of f) x.kind x.operands x.result
    op_fits x xm = record {
      written = op_written m p x (in_module x xm);
      captures = of_all _ (ops_of m) x p.formed.captures (in_module x xm);
      regions = regions_of x xm;
      indices = of_test asks_where_allowed (all_written m) (written_by x.kind) p.formed.indices (written x xm);
      small = all_of SmallMap (written_by x.kind).maps (λ y ym. let few : HasFewWords y = of_all HasFewWords (written_by x.kind).maps y (of_each_part HasFewWords (λ x. x.maps) (all_written m) (written_by x.kind) p.words (written x xm)) ym in
          (front_all (λ n. n < 2 ^ 64) y.loops y.results few, behind_all (λ n. n < 2 ^ 64) y.loops y.results few));
      numbered = of_parts is_numbered (λ x. x.maps) (all_written m) (written_by x.kind) p.formed.maps (written x xm);
    }

    inner_fits : (x : Op) → Member x f.ops → is_return x.kind ≡ false → InnerFits (scope_of f) x
    inner_fits x xm other = by x.defines refl (of_all _ (ops_of m) x p.formed.defines (in_module x xm) ∙ ap not other)
      where
        by : (o : Option ℕ) → x.defines ≡ o → is_some x.defines ≡ true → InnerFits (scope_of f) x
        by None e h = absurd (let no : false ≡ true = sym (ap is_some e) ∙ h in cc)
        by (Some id) e h = record {
          other = other;
          id = id;
          defines = e;
          fits = op_fits x xm;
          out = outside_of x xm (id ∷ x.operands) (λ a am. elim am [
            | inl same ↦ op_name x a xm (in_second x.operands (option_to_list x.defines) a (subst (λ o. Member a (option_to_list o)) (sym e) (inl same)))
            | inr rest ↦ op_name x a xm (in_first x.operands (option_to_list x.defines) a rest)
          ]);
        }

    last_fits : (x : Op) → Member x f.ops → is_return x.kind ≡ true → LastFits x
    last_fits x xm is =
        let r = return_of x.kind is in
        let w = op_written m p x (in_module x xm) in
        record {
          ret = r.0;
          kind = r.1;
          defines = nothing x.defines (of_all _ (ops_of m) x p.formed.defines (in_module x xm) ∙ ap not is);
          result = subst (λ k. ResultFits (written_by k).result x.result) r.1 w.result;
          types = (all_parts is_spelled_type r.0.operand_types [] (subst (λ k. list_all is_spelled_type (types_in (written_by k) x.result) ≡ true) r.1 w.types)).0;
        }
      where
        nothing : (o : Option ℕ) → is_some o ≡ false → o ≡ None
        nothing None h = refl
        nothing (Some id) h = absurd (let no : true ≡ false = h in cc)

    ops_fit : (ops : List Op) → ((x : Op) → Member x ops → Member x f.ops) → ends_in_return ops ≡ true → OpsFit (scope_of f) ops
    ops_fit [] so h = absurd (let no : false ≡ true = h in cc)
    ops_fit (x ∷ []) so h = last_fits x (so x (inl refl)) h
    ops_fit (x ∷ next ∷ ops) so h = let both = and_parts (not (is_return x.kind)) (ends_in_return (next ∷ ops)) h in
        (inner_fits x (so x (inl refl)) (not_true (is_return x.kind) both.0), ops_fit (next ∷ ops) (λ y ym. so y (inr ym)) both.1)

    -- ## Functions

    types_of_func : list_all is_spelled_type (func_types f) ≡ true
    types_of_func = of_parts is_spelled_type func_types m.funcs f (func_types_spelled m p) fm

    cut_numbers : list_all is_spelled (flat_map (λ cut. sharding_numbers cut.sharding) (flat_map cuts_in m.funcs)) ≡ true
    cut_numbers = (all_parts is_spelled (flat_map (λ g. g.extents) m.grids) (flat_map (λ cut. sharding_numbers cut.sharding) (flat_map cuts_in m.funcs))
        (all_parts is_spelled (item_numbers m) (flat_map (λ x. x.numbers) (all_written m)) p.formed.numbers).0).1

    carry_fits : MatchOption f.carry ⊤ CarryFits
    carry_fits = by f.carry refl
      where
        by : (o : Option Carry) → f.carry ≡ o → MatchOption o ⊤ CarryFits
        by None e = tt
        by (Some c) e =
            let cuts : cuts_in f ≡ c.args ++ c.results = ap (λ o. option_map_or (λ carry. carry.args ++ carry.results) o []) e in
            let on : AllByRecursion (λ cut. cut.sharding.grid ≡ c.grid) (c.args ++ c.results) =
            subst (λ o. MatchOption o ⊤ (λ carry. AllByRecursion (λ cut. cut.sharding.grid ≡ carry.grid) (carry.args ++ carry.results))) e (of_all _ m.funcs f p.formed.cuts fm) in
            let types : list_all is_spelled_type (map (λ cut. cut.whole) (c.args ++ c.results)) ≡ true =
            ap (λ cs. list_all is_spelled_type (map (λ cut. cut.whole) cs)) (sym cuts) ∙ (all_parts is_spelled_type (argument_types f ++ f.results) (map (λ cut. cut.whole) (cuts_in f)) types_of_func).1 in
            let each = λ (x : Cut) (xm : Member x (c.args ++ c.results)). (let it : CutFits c.grid x = record {
              on = of_all (λ cut. cut.sharding.grid ≡ c.grid) (c.args ++ c.results) x on xm;
              spelled = of_test is_spelled_type (map (λ cut. cut.whole) (c.args ++ c.results)) x.whole types (in_map (λ cut. cut.whole) (c.args ++ c.results) x xm);
              numbers = of_parts is_spelled (λ cut. sharding_numbers cut.sharding) (flat_map cuts_in m.funcs) x cut_numbers (in_flat cuts_in m.funcs f x fm (subst (Member x) (sym cuts) xm));
            } in it) in
            record {
              args = all_of (CutFits c.grid) c.args (λ x xm. each x (in_first c.args c.results x xm));
              results = all_of (CutFits c.grid) c.results (λ x xm. each x (in_second c.args c.results x xm));
            }

    func_fits : FuncFits f
    func_fits =
        let types = all_parts is_spelled_type (argument_types f) f.results (all_parts is_spelled_type (argument_types f ++ f.results) (map (λ cut. cut.whole) (cuts_in f)) types_of_func).0 in
        record {
          args = sym (tests_mapped is_spelled_type (λ arg. arg.value_type) f.args) ∙ types.0;
          results = types.1;
          ops = ops_fit f.ops (λ x xm. xm) (of_test (λ f. ends_in_return f.ops) m.funcs f p.formed.returns fm);
          carry = carry_fits;
        }

  -- ## Items

  grid_numbers : list_all is_spelled (flat_map (λ g. g.extents) m.grids) ≡ true
  grid_numbers = (all_parts is_spelled (flat_map (λ g. g.extents) m.grids) (flat_map (λ cut. sharding_numbers cut.sharding) (flat_map cuts_in m.funcs))
      (all_parts is_spelled (item_numbers m) (flat_map (λ x. x.numbers) (all_written m)) p.formed.numbers).0).0

  grid_fits : (g : GridItem) → Member g m.grids → GridFits g
  grid_fits g gm =
      let both = and_parts (nat_lt 0 (length g.extents)) (list_all is_not_negative g.extents) (of_test is_grid m.grids g p.formed.grids gm) in
      by g.extents refl both.0 both.1 (of_parts is_spelled (λ g. g.extents) m.grids g grid_numbers gm)
    where
      by : (zs : List ℤ) → g.extents ≡ zs → nat_lt 0 (length zs) ≡ true → list_all is_not_negative zs ≡ true → list_all is_spelled zs ≡ true → GridFits g
      by [] e some natural spelled = absurd (let no : false ≡ true = some in cc)
      by (z ∷ zs) e some natural spelled = record { first = z; more = zs; is = e; natural = natural; spelled = spelled }

  argument_fits : (c : CallItem) → Member c m.calls → (x : constant.Constant) → Member x c.args → ArgumentFits x
  argument_fits c cm x xm =
      let there : Member x (call_constants m) = in_flat (λ c. c.args) m.calls c x cm xm in
      record {
        dense = of_test is_dense (call_constants m) x p.formed.calls there;
        held = of_test is_held (call_constants m) x (all_parts is_held (flat_map (λ x. x.constants) (all_written m)) (call_constants m) p.formed.literals).1 there;
        whole = not_true (is_broken x.contents) (of_test is_whole (call_constants m) x (all_parts is_whole (flat_map (λ x. x.constants) (all_written m)) (call_constants m) p.whole).1 there);
        spelled = of_test is_spelled_type (map (λ c. c.value_type) (call_constants m)) x.value_type (types_spelled m p).1 (in_map (λ c. c.value_type) (call_constants m) x there);
      }

  pub printed_is_read : IsReadAlike m (text_of m)
  printed_is_read = text_read m p.formed
      (record {
        grids = all_of GridFits m.grids grid_fits;
        funcs = all_of FuncFits m.funcs func_fits;
        calls = all_of (λ c. AllByRecursion ArgumentFits c.args) m.calls (λ c cm. all_of ArgumentFits c.args (argument_fits c cm));
      })
      (all_of FuncNames m.funcs func_named)
