-- The names of a function, and of its regions, are apart.
use Rattle.std.proofs.Common.{◌≡◌, ◌∙◌, ◌<◌, ◌≤◌, ℕ, suc, true, false, nat_eq, List, [], ◌∷◌, ◌++◌, map, Option, Some, None, refl, ap, subst, inl, inr, arith}
use Rattle.std.specs.Prelude.{IsTrue, filter, not, ◌||◌, option_to_list, flat_map}
use Rattle.std.specs.List.{AllByRecursion, list_all}
use Rattle.std.proofs.lemmas.Option.{same_Some}
use Rattle.std.proofs.lemmas.Bool.{and_from, cases_Bool, cond_both, eqb-true}
use Rattle.sh_build.specs.Meaning.{carried, defining, made, with_item}
use Rattle.sh_build.specs.Readings.{args_in, contents_in, flag_in, mark_in, op_in, operands_in, ops_in, place_in, symbol_in, types_in}
use Rattle.sh_build.specs.declared.parts.Alias.{Alias}
use Rattle.sh_build.specs.declared.parts.Contents.{Contents}
use Rattle.sh_build.specs.declared.parts.Mark.{Mark}
use Rattle.sh_build.specs.declared.parts.Part.{Part}
use Rattle.sh_build.specs.declared.parts.Part.TheVariants as part
use Rattle.sh_grammar.specs.Grammar.{Spells, Trees}
use Rattle.sh_grammar.specs.Language.{language}
use Rattle.sh_grammar.specs.declared.symbols.Symbol.{Symbol}
use Rattle.sh_grammar.specs.Lexemes.{bangs, dims, hashes, signs, words}
use Rattle.sh_grammar.specs.declared.forms.Form.TheVariants as forms
use Rattle.sh_ir.specs.Formed.{bodies_in, func_names, has_own_body_names}
use Rattle.sh_ir.specs.Regions.{are_apart, are_disjoint, is_among, own_names}
use Rattle.sh_ir.specs.Written.{written_by}
use Rattle.sh_ir.specs.declared.bodies.Body.{Body}
use Rattle.sh_ir.specs.declared.functions.Func.{Func}
use Rattle.sh_ir.specs.declared.operations.Op.{Op}
use Rattle.sh_literals.specs.Fronts.{before}
use Rattle.sh_names.specs.Names.{Mention, Owned, distinct, is_own}
use Rattle.sh_parse.proofs.formed.EachOf.{InOption, each_append, each_map, each_so}
use Rattle.sh_parse.proofs.formed.QuietForms.{NotOf, Same, behind_region, same_self, same_step, same_then}
use Rattle.sh_parse.proofs.formed.RegionRows.{AllOwn, NamesIn, NewRegion, OpIs, OpsNamed, OwnNamed, SideNamed, named_as, new_as, outer_used, rows-BlockArgument, rows-BlockArguments, rows-Body, rows-BodyOperation, rows-Combiner, rows-Generic, rows-GenericBody, rows-GenericOperation, rows-MoreBlockArguments, rows-Reduce, rows-ReduceTail, rows-RightSide, rows-Yield}
use Rattle.sh_parse.proofs.formed.States.{Below, EachForm, Everywhere, NameBelow, OpBelow, RegionBelow, Starts, by_rows, everywhere, RowsAre, named_before}
use Rattle.sh_parse.proofs.formed.UsedNames.{Inner, Outer, one_region, Uses, used_name}
use Rattle.sh_parse.proofs.formed.UsedRows.{quiet_part}
use Rattle.sh_parse.proofs.formed.Walks.{State, enter, leaf_at, past, step}

module _ (all : List Owned) where
  -- ## Lists of names that share none

  apart_from : (P Q : ℕ → Type 0) (x : ℕ) (ys : List ℕ) → ((y : ℕ) → Q y → x ≡ y → ⊥) → AllByRecursion Q ys → is_among ys x ≡ false
  apart_from P Q x [] apart h = refl
  apart_from P Q x (y ∷ ys) apart h = elim (cases_Bool (nat_eq x y)) [
    | inl e ↦ absurd (apart y h.0 (eqb-true x y e))
    | inr e ↦ ap (λ b. b || is_among ys x) e ∙ apart_from P Q x ys apart h.1
  ]

  disjoint : (P Q : ℕ → Type 0) (xs ys : List ℕ) → ((x y : ℕ) → P x → Q y → x ≡ y → ⊥) → AllByRecursion P xs → AllByRecursion Q ys
      → are_disjoint xs ys ≡ true
  disjoint P Q [] ys apart p q = refl
  disjoint P Q (x ∷ xs) ys apart p q = and_from (not (is_among ys x)) _
      (ap not (apart_from P Q x ys (λ y k e. apart x y p.0 k e) q)) (disjoint P Q xs ys apart p.1 q)

  -- the regions of operations that begin one after the other
  abbrev pub BodiesNamed : ℕ → ℕ → List Body → Type 0
  BodiesNamed u k [] = Unit {0}
  BodiesNamed u k (b ∷ bodies) = (o : ℕ) × (k ≤ o) × AllByRecursion (Inner all u o) (own_names b) × BodiesNamed u (suc o) bodies

  bodies_later : (u j k : ℕ) (bodies : List Body) → j ≤ k → BodiesNamed u k bodies → BodiesNamed u j bodies
  bodies_later u j k [] le h = tt
  bodies_later u j k (b ∷ bodies) le h = (h.0, (let first = h.1 in omega arith), h.2, h.3)

  bodies_named : (u k : ℕ) (ops : List Op) → OpsNamed all u k ops → BodiesNamed u k (bodies_in ops)
  bodies_named u k [] h = tt
  bodies_named u k (op ∷ ops) h = with_body (written_by op.kind).body h.2.body (bodies_named u (suc h.0) ops h.3)
    where
      with_body : (o : Option Body) → InOption (λ b. AllByRecursion (Inner all u h.0) (own_names b)) o
          → BodiesNamed u (suc h.0) (bodies_in ops) → BodiesNamed u k (before o (bodies_in ops))
      with_body None b rest = let first = h.1 in bodies_later u k (suc h.0) (bodies_in ops) (omega arith) rest
      with_body (Some body) b rest = (h.0, h.1, b, rest)

  apart_bodies : (u : ℕ) (P : ℕ → Type 0) (k : ℕ) (xs : List ℕ) (bodies : List Body) → AllByRecursion P xs
      → ((o x y : ℕ) → k ≤ o → P x → Inner all u o y → x ≡ y → ⊥) → BodiesNamed u k bodies
      → list_all (are_disjoint xs) (map own_names bodies) ≡ true
  apart_bodies u P k xs [] p apart h = refl
  apart_bodies u P k xs (b ∷ bodies) p apart h =
      let first : k ≤ h.0 = h.1 in
      and_from (are_disjoint xs (own_names b)) _ (disjoint P (Inner all u h.0) xs (own_names b) (λ x y i j e. apart h.0 x y first i j e) p h.2)
      (apart_bodies u P (suc h.0) xs bodies p (λ o x y le i j e. apart o x y (omega arith) i j e) h.3)

  one_inner : (u o q x y : ℕ) → Inner all u o x → Inner all u q y → x ≡ y → o ≡ q
  one_inner u o q x y i j e = same_number o q (one_region all u (Some o) (Some q) x y i j e)
    where
      same_number : (o q : ℕ) → Some o ≡ Some q → o ≡ q
      same_number o q e = same_Some o q e

  regions_apart : (u k : ℕ) (bodies : List Body) → BodiesNamed u k bodies → are_apart (map own_names bodies) ≡ true
  regions_apart u k [] h = refl
  regions_apart u k (b ∷ bodies) h = and_from (list_all (are_disjoint (own_names b)) (map own_names bodies)) _
      (apart_bodies u (Inner all u h.0) (suc h.0) (own_names b) bodies h.2
      (λ o x y le i j e. let same : h.0 ≡ o = one_inner u h.0 o x y i j e in omega arith) h.3)
      (regions_apart u (suc h.0) bodies h.3)

  none_outer : (u o x y : ℕ) → Outer all u x → Inner all u o y → x ≡ y → ⊥
  none_outer u o x y i j e = let none : None ≡ Some o = one_region all u None (Some o) x y i j e in cc

  outer_names : (u k : ℕ) (ops : List Op) → OpsNamed all u k ops
      → AllByRecursion (Outer all u) (flat_map (λ op. op.operands ++ option_to_list op.defines) ops)
  outer_names u k [] h = tt
  outer_names u k (op ∷ ops) h = each_append (Outer all u) (op.operands ++ option_to_list op.defines) _ h.2.outer (outer_names u (suc h.0) ops h.3)

  own_apart : (u k : ℕ) (f : Func) → AllByRecursion (Outer all u) (map (λ arg. arg.id) f.args) → OpsNamed all u k f.ops
      → IsTrue (has_own_body_names f)
  own_apart u k f args ops =
      let bodies = bodies_named u k f.ops ops in
      and_from (list_all (are_disjoint (func_names f)) (map own_names (bodies_in f.ops))) _
      (apart_bodies u (Outer all u) k (func_names f) (bodies_in f.ops)
      (each_append (Outer all u) (map (λ arg. arg.id) f.args) _ args (outer_names u k f.ops ops))
      (λ o x y le i j e. none_outer u o x y i j e) bodies)
      (regions_apart u k (bodies_in f.ops) bodies)

  -- ## Operations one after the other

  ops_later : (u j k : ℕ) (ops : List Op) → j ≤ k → OpsNamed all u k ops → OpsNamed all u j ops
  ops_later u j k [] le h = tt
  ops_later u j k (op ∷ ops) le h = (h.0, (let first = h.1 in omega arith), h.2, h.3)

  ops_then : (u k j : ℕ) (o : Option Op) (ops : List Op) → k < j → InOption (OpIs all u k) o → OpsNamed all u j ops
      → OpsNamed all u k (before o ops)
  ops_then u k j None ops less h rest = ops_later u k j ops (omega arith) rest
  ops_then u k j (Some op) ops less h rest = (k, omega arith, h, ops_later u (suc k) j ops (omega arith) rest)

  op_alone : (u k : ℕ) (o : Option Op) → InOption (OpIs all u k) o → OpsNamed all u k (before o [])
  op_alone u k None h = tt
  op_alone u k (Some op) h = (k, omega arith, h, tt)

  defined_named : (u o : ℕ) (m : Mark) (right : Part) → Outer all u m.id → SideNamed all u o right
      → InOption (OpIs all u o) (op_in (defining m right))
  defined_named u o m (part.RightSide x) id h = record { outer = each_append (Outer all u) x.operands (m.id ∷ []) h.0 (id, tt); body = h.1 }
  defined_named u o m right id h = tt

  fresh_before : (k : ℕ) (xs : List Owned) → AllByRecursion (NameBelow k) xs → AllByRecursion (NotOf k) xs
  fresh_before k xs h = each_so (NameBelow k) (NotOf k) xs (λ x b e. not_below k (subst (RegionBelow k) e b.region)) h
    where
      not_below : (n : ℕ) → n < n → ⊥
      not_below n less = omega arith

  others_before : (k : ℕ) (ms : List Mention) → AllByRecursion (OpBelow k) ms
      → AllByRecursion (λ m. m.scope.op ≡ k → ⊥) (filter (λ m. is_own m.role) ms)
  others_before k [] h = tt
  others_before k (m ∷ ms) h = cond_both (is_own m.role) _ _ (AllByRecursion (λ m. m.scope.op ≡ k → ⊥))
      (λ _. ((λ e. let less : m.scope.op < k = h.0 in omega arith), others_before k ms h.1)) (λ _. others_before k ms h.1)

  carried_own : (d f : Part) → OwnNamed all f → OwnNamed all (carried d f)
  carried_own (part.Device d) (part.Func f) h = h
  carried_own d f h = h

  item_own : (p : Part) (items : Contents) → OwnNamed all p → AllOwn all items.funcs → AllOwn all (with_item p items).funcs
  item_own (part.Func f) items h rest = (h, rest)
  item_own _ items h rest = rest

module _ (aliases : List Alias) (all : List Owned) where
  rows-Operation : RowsAre aliases all (NamesIn aliases all) forms.Operation
  unfolding made signs dims bangs hashes words
  rows-Operation σ below = (
    λ t1 at1 t2 at2 τ right le right-is.
        let σ0 : State = enter forms.Operation σ in
        let σ2 : State = step t2 (step t1 σ0) in
        let s1 : Same σ0 (step t1 σ0) = same_step t1 σ0 at1.below refl in
        let s2 : Same σ0 σ2 = same_then σ0 (step t1 σ0) σ2 s1 (same_step t2 (step t1 σ0) at2.below s1.calm) in
        let new : NewRegion all σ0 = record {
          fresh = fresh_before all σ.count (named_before σ) below.names;
          owns = others_before all σ.count σ.before below.ops;
        } in
        let name = (used_name aliases all σ0 t1 at1 (λ kind. refl)).outside refl in
        let side = named_as aliases all σ2.scope.func σ.scope.func σ2.scope.op σ.count right s2.func s2.op (right-is.named s2.in_region (new_as all σ0 σ2 refl s2 new)) in
        record {
          func = right-is.func ∙ s2.func;
          count = (let behind_it : suc (suc σ.count) ≤ τ.count = le in omega arith);
          op = defined_named all σ.scope.func σ.count (mark_in (leaf_at aliases (distinct all) σ0 t1)) right name side;
        },
    tt,
  )

  rows-Return : RowsAre aliases all (NamesIn aliases all) forms.Return
  unfolding made signs dims bangs hashes words
  rows-Return σ below = (
    λ t1 at1 τ operands _ operands-is.
        let σ0 : State = enter forms.Return σ in
        let σ1 : State = step t1 σ0 in
        let s1 : Same σ0 σ1 = same_step t1 σ0 at1.below refl in
        record {
          idle = operands-is.same.in_region ∙ s1.in_region;
          op = record {
            outer = each_append (Outer all σ.scope.func) (operands_in operands).values [] (outer_used all σ0 σ1 _ refl s1.func s1.in_region operands-is.used) tt;
            body = tt;
          };
        },
    (
      λ t1 at1 τ operands _ operands-is.
          let σ0 : State = enter forms.Return σ in
          let σ1 : State = step t1 σ0 in
          let s1 : Same σ0 σ1 = same_step t1 σ0 at1.below refl in
          record {
            idle = operands-is.same.in_region ∙ s1.in_region;
            op = record {
              outer = each_append (Outer all σ.scope.func) (operands_in operands).values [] (outer_used all σ0 σ1 _ refl s1.func s1.in_region operands-is.used) tt;
              body = tt;
            };
          },
      tt,
    ),
  )

  rows-Operations : RowsAre aliases all (NamesIn aliases all) forms.Operations
  unfolding made signs dims bangs hashes words
  rows-Operations σ below = (
    λ τ op _ op-is υ more _ more-is. record {
      idle = more-is.idle;
      ops = ops_then all σ.scope.func σ.count τ.count (op_in op) (ops_in more) op-is.count op-is.op
          (subst (λ u. OpsNamed all u τ.count (ops_in more)) op-is.func more-is.ops);
    },
    (λ τ return _ return-is. record { idle = return-is.idle; ops = op_alone all σ.scope.func σ.count (op_in return) return-is.op }, tt),
  )

  rows-Func : RowsAre aliases all (NamesIn aliases all) forms.Func
  unfolding made signs dims bangs hashes words
  rows-Func σ below = (
    λ t1 at-t1 σ2 private le-private private-is t3 at-t3 t4 at-t4 σ5 args le-args args-is t6 at-t6
        σ7 results le-results results-is t8 at-t8 τ ops _ ops-is t10 at-t10.
        let σ0 : State = enter forms.Func σ in
        let s0 : Same σ0 σ0 = same_self σ0 refl in
        let σ1 : State = step t1 σ0 in
        let s1 : Same σ0 σ1 = same_then σ0 σ0 σ1 s0 (same_step t1 σ0 at-t1.below s0.calm) in
        let s2 : Same σ0 σ2 = same_then σ0 σ1 σ2 s1 private-is.same in
        let σ3 : State = step t3 σ2 in
        let s3 : Same σ0 σ3 = same_then σ0 σ2 σ3 s2 (same_step t3 σ2 at-t3.below s2.calm) in
        let σ4 : State = step t4 σ3 in
        let s4 : Same σ0 σ4 = same_then σ0 σ3 σ4 s3 (same_step t4 σ3 at-t4.below s3.calm) in
        let s5 : Same σ0 σ5 = same_then σ0 σ4 σ5 s4 args-is.same in
        let σ6 : State = step t6 σ5 in
        let s6 : Same σ0 σ6 = same_then σ0 σ5 σ6 s5 (same_step t6 σ5 at-t6.below s5.calm) in
        let s7 : Same σ0 σ7 = same_then σ0 σ6 σ7 s6 results-is.same in
        let σ8 : State = step t8 σ7 in
        let s8 : Same σ0 σ8 = same_then σ0 σ7 σ8 s7 (same_step t8 σ7 at-t8.below s7.calm) in
        λ out. (
          own_apart all σ.count σ8.count (record {
            name = symbol_in (leaf_at aliases (distinct all) σ2 t3);
            private = flag_in private;
            args = args_in args;
            results = types_in results;
            ops = ops_in ops;
            carry = None;
            place = place_in (leaf_at aliases (distinct all) σ0 t1);
          })
              (each_map (Outer all σ.count) (λ arg. arg.id) (args_in args)
              (each_so (λ arg. Uses all σ4 arg.id) (λ arg. Outer all σ.count arg.id) (args_in args)
              (λ arg k. subst (λ u. Outer all u arg.id) s4.func (k.outside (s4.in_region ∙ out))) args-is.used))
              (subst (λ u. OpsNamed all u σ8.count (ops_in ops)) s8.func ops-is.ops),
          behind_region t10.kind τ.scope ∙ ops-is.idle,
        ),
    tt,
  )

  rows-Item : RowsAre aliases all (NamesIn aliases all) forms.Item
  unfolding made signs dims bangs hashes words
  rows-Item σ below = (
    λ t1 at-t1 t2 at-t2 t3 at-t3 t4 at-t4 t5 at-t5 σ6 extents le-extents extents-is t7 at-t7.
        let σ0 : State = enter forms.Item σ in
        let s0 : Same σ0 σ0 = same_self σ0 refl in
        let σ1 : State = step t1 σ0 in
        let s1 : Same σ0 σ1 = same_then σ0 σ0 σ1 s0 (same_step t1 σ0 at-t1.below s0.calm) in
        let σ2 : State = step t2 σ1 in
        let s2 : Same σ0 σ2 = same_then σ0 σ1 σ2 s1 (same_step t2 σ1 at-t2.below s1.calm) in
        let σ3 : State = step t3 σ2 in
        let s3 : Same σ0 σ3 = same_then σ0 σ2 σ3 s2 (same_step t3 σ2 at-t3.below s2.calm) in
        let σ4 : State = step t4 σ3 in
        let s4 : Same σ0 σ4 = same_then σ0 σ3 σ4 s3 (same_step t4 σ3 at-t4.below s3.calm) in
        let σ5 : State = step t5 σ4 in
        let s5 : Same σ0 σ5 = same_then σ0 σ4 σ5 s4 (same_step t5 σ4 at-t5.below s4.calm) in
        let s6 : Same σ0 σ6 = same_then σ0 σ5 σ6 s5 extents-is.same in
        let σ7 : State = step t7 σ6 in
        let s7 : Same σ0 σ7 = same_then σ0 σ6 σ7 s6 (same_step t7 σ6 at-t7.below s6.calm) in
        λ out. (tt, s7.in_region ∙ out),
    (
      λ τ device _ device-is υ func _ func-is out.
          let f = func-is (device-is.same.in_region ∙ out) in (carried_own all device func f.0, f.1),
      (
        λ τ func _ func-is out. func-is out,
        (
          λ t1 at-t1 t2 at-t2 t3 at-t3 σ4 args le-args args-is t5 at-t5.
              let σ0 : State = enter forms.Item σ in
              let s0 : Same σ0 σ0 = same_self σ0 refl in
              let σ1 : State = step t1 σ0 in
              let s1 : Same σ0 σ1 = same_then σ0 σ0 σ1 s0 (same_step t1 σ0 at-t1.below s0.calm) in
              let σ2 : State = step t2 σ1 in
              let s2 : Same σ0 σ2 = same_then σ0 σ1 σ2 s1 (same_step t2 σ1 at-t2.below s1.calm) in
              let σ3 : State = step t3 σ2 in
              let s3 : Same σ0 σ3 = same_then σ0 σ2 σ3 s2 (same_step t3 σ2 at-t3.below s2.calm) in
              let s4 : Same σ0 σ4 = same_then σ0 σ3 σ4 s3 args-is.same in
              let σ5 : State = step t5 σ4 in
              let s5 : Same σ0 σ5 = same_then σ0 σ4 σ5 s4 (same_step t5 σ4 at-t5.below s4.calm) in
              λ out. (tt, s5.in_region ∙ out),
          tt,
        ),
      ),
    ),
  )

  rows-Items : RowsAre aliases all (NamesIn aliases all) forms.Items
  unfolding made signs dims bangs hashes words
  rows-Items σ below = (
    λ out. (tt, out),
    (
      λ τ item _ item-is υ more _ more-is out.
          let i = item-is out in
          let m = more-is i.1 in
          (item_own all item (contents_in more) i.0 m.0, m.1),
      tt,
    ),
  )

  rows-Contents : RowsAre aliases all (NamesIn aliases all) forms.Contents
  unfolding made signs dims bangs hashes words
  rows-Contents σ below = (
    λ t1 at-t1 σ2 name le-name name-is t3 at-t3 τ items _ items-is t5 at-t5.
        let σ0 : State = enter forms.Contents σ in
        let s0 : Same σ0 σ0 = same_self σ0 refl in
        let σ1 : State = step t1 σ0 in
        let s1 : Same σ0 σ1 = same_then σ0 σ0 σ1 s0 (same_step t1 σ0 at-t1.below s0.calm) in
        let s2 : Same σ0 σ2 = same_then σ0 σ1 σ2 s1 name-is.same in
        let σ3 : State = step t3 σ2 in
        let s3 : Same σ0 σ3 = same_then σ0 σ2 σ3 s2 (same_step t3 σ2 at-t3.below s2.calm) in
        λ out. (items-is (s3.in_region ∙ out)).0,
    (λ τ items _ items-is out. (items-is out).0, tt),
  )

  rows-File : RowsAre aliases all (NamesIn aliases all) forms.File
  unfolding made signs dims bangs hashes words
  rows-File σ below = (λ τ head _ head-is υ contents _ contents-is out. contents-is (head-is.same.in_region ∙ out), tt)

  each_form : EachForm aliases all (NamesIn aliases all)
  each_form forms.File i body under σ e spells below b every =
      by_rows aliases all (NamesIn aliases all) forms.File rows-File i body under σ e spells below b every
  each_form forms.Contents i body under σ e spells below b every =
      by_rows aliases all (NamesIn aliases all) forms.Contents rows-Contents i body under σ e spells below b every
  each_form forms.Items i body under σ e spells below b every =
      by_rows aliases all (NamesIn aliases all) forms.Items rows-Items i body under σ e spells below b every
  each_form forms.Item i body under σ e spells below b every =
      by_rows aliases all (NamesIn aliases all) forms.Item rows-Item i body under σ e spells below b every
  each_form forms.Func i body under σ e spells below b every =
      by_rows aliases all (NamesIn aliases all) forms.Func rows-Func i body under σ e spells below b every
  each_form forms.Operations i body under σ e spells below b every =
      by_rows aliases all (NamesIn aliases all) forms.Operations rows-Operations i body under σ e spells below b every
  each_form forms.Operation i body under σ e spells below b every =
      by_rows aliases all (NamesIn aliases all) forms.Operation rows-Operation i body under σ e spells below b every
  each_form forms.Return i body under σ e spells below b every =
      by_rows aliases all (NamesIn aliases all) forms.Return rows-Return i body under σ e spells below b every
  each_form forms.RightSide i body under σ e spells below b every =
      by_rows aliases all (NamesIn aliases all) forms.RightSide (rows-RightSide aliases all) i body under σ e spells below b every
  each_form forms.Reduce i body under σ e spells below b every =
      by_rows aliases all (NamesIn aliases all) forms.Reduce (rows-Reduce aliases all) i body under σ e spells below b every
  each_form forms.ReduceTail i body under σ e spells below b every =
      by_rows aliases all (NamesIn aliases all) forms.ReduceTail (rows-ReduceTail aliases all) i body under σ e spells below b every
  each_form forms.Generic i body under σ e spells below b every =
      by_rows aliases all (NamesIn aliases all) forms.Generic (rows-Generic aliases all) i body under σ e spells below b every
  each_form forms.Body i body under σ e spells below b every =
      by_rows aliases all (NamesIn aliases all) forms.Body (rows-Body aliases all) i body under σ e spells below b every
  each_form forms.BodyOperation i body under σ e spells below b every =
      by_rows aliases all (NamesIn aliases all) forms.BodyOperation (rows-BodyOperation aliases all) i body under σ e spells below b every
  each_form forms.GenericBody i body under σ e spells below b every =
      by_rows aliases all (NamesIn aliases all) forms.GenericBody (rows-GenericBody aliases all) i body under σ e spells below b every
  each_form forms.GenericOperation i body under σ e spells below b every =
      by_rows aliases all (NamesIn aliases all) forms.GenericOperation (rows-GenericOperation aliases all) i body under σ e spells below b every
  each_form forms.Yield i body under σ e spells below b every =
      by_rows aliases all (NamesIn aliases all) forms.Yield (rows-Yield aliases all) i body under σ e spells below b every
  each_form forms.BlockArguments i body under σ e spells below b every =
      by_rows aliases all (NamesIn aliases all) forms.BlockArguments (rows-BlockArguments aliases all) i body under σ e spells below b every
  each_form forms.MoreBlockArguments i body under σ e spells below b every =
      by_rows aliases all (NamesIn aliases all) forms.MoreBlockArguments (rows-MoreBlockArguments aliases all) i body under σ e spells below b every
  each_form forms.BlockArgument i body under σ e spells below b every =
      by_rows aliases all (NamesIn aliases all) forms.BlockArgument (rows-BlockArgument aliases all) i body under σ e spells below b every
  each_form forms.Combiner i body under σ e spells below b every =
      by_rows aliases all (NamesIn aliases all) forms.Combiner (rows-Combiner aliases all) i body under σ e spells below b every
  each_form n i body under σ e spells below b every = quiet_part aliases all n refl i body under σ e spells below b

  pub names_everywhere : (α : List Symbol) (f : Trees) (σ : State) → Spells language α f → Below σ → Starts all (past σ f)
      → Everywhere aliases all (NamesIn aliases all) σ f
  names_everywhere = everywhere aliases all (NamesIn aliases all) each_form
