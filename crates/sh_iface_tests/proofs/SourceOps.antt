-- Each operation of a source function of a verified module is one that an interface may be asked of.
use Rattle.std.proofs.Common.{◌≡◌, ℕ, Bool, true, List, [], ◌∷◌, ◌++◌, map, Option, Some, None, refl, ◌∙◌, subst}
use Rattle.std.specs.List.{AllByRecursion, list_all}
use Rattle.std.specs.Option.{option_map_or}
use Rattle.std.specs.Prelude.{MatchOption, ⊤, flat_map, not, option_to_list, slice_get, take}
use Rattle.sh_ir.specs.declared.bodies.Body.{Body}
use Rattle.sh_ir.specs.declared.functions.Func.{Func}
use Rattle.sh_ir.specs.declared.modules.Module.{Module}
use Rattle.sh_ir.specs.declared.operations.Op.{Op}
use Rattle.sh_ir.specs.Formed.{bodies_in, func_names, has_own_body_names, is_block, op_texts}
use Rattle.sh_ir.specs.Regions.{are_apart, are_disjoint, is_among, own_names}
use Rattle.sh_ir.specs.Scope.{scope_of}
use Rattle.sh_ir.specs.Written.{Written, written_by}
use Rattle.sh_ir.proofs.KeptLaws.{scope_behind}
use Rattle.sh_loops.proofs.InsideLaws.{both_left}
use Rattle.sh_eval.specs.Sources.{IsOfSource}
use Rattle.sh_collectives.specs.VerifiedOps.{IsBody}
use Rattle.sh_collectives.proofs.MemberLaws.{at_place, each_chosen, each_list, each_mapped, of_back, of_test, to_test}
use Rattle.sh_collectives.proofs.VerifiedLaws.{device_behind}
use Rattle.sh_eval.proofs.SourceOps.{op_there, source_scope}
use Rattle.sh_iface.specs.Verified.{IsOfVerified}

-- ---- the names of regions

-- none of these names is the region's own
abbrev AreOuter : Body → List ℕ → Type 0
AreOuter body names = AllByRecursion (λ name. not (is_among (own_names body) name) ≡ true) names

abbrev op_names : Op → List ℕ
op_names op = op.operands ++ option_to_list op.defines

own_at : (f : Func) (k : ℕ) (op : Op) → has_own_body_names f ≡ true → slice_get f.ops k ≡ Some op
    → MatchOption (written_by op.kind).body ⊤ (λ body. are_disjoint (op_names op) (own_names body) ≡ true)
own_at f k op h e =
    let apart = of_test (are_disjoint (func_names f)) (map own_names (bodies_in f.ops))
    (both_left (list_all (are_disjoint (func_names f)) (map own_names (bodies_in f.ops))) (are_apart (map own_names (bodies_in f.ops))) h) in
    let each = each_mapped (λ names. are_disjoint (func_names f) names ≡ true) own_names (bodies_in f.ops) apart in
    let Apart : Body → Type 0 = λ body. are_disjoint (func_names f) (own_names body) ≡ true in
    let of_ops = each_mapped (λ (x : Written). MatchOption x.body ⊤ Apart) (λ (o : Op). written_by o.kind) f.ops
    (each_chosen Apart (λ (x : Written). x.body) (op_texts f.ops) each) in
    here (written_by op.kind).body (at_place (λ (o : Op). MatchOption (written_by o.kind).body ⊤ Apart) f.ops k op of_ops e)
  where
    outer : (body : Body) → are_disjoint (func_names f) (own_names body) ≡ true → are_disjoint (op_names op) (own_names body) ≡ true
    outer body apart =
        let test : ℕ → Bool = λ name. not (is_among (own_names body) name) in
        to_test test (op_names op)
        (at_place (λ (o : Op). AllByRecursion (λ name. test name ≡ true) (op_names o)) f.ops k op
        (each_list (λ name. test name ≡ true) op_names f.ops
        (of_back (λ name. test name ≡ true) (map (λ arg. arg.id) f.args) (flat_map op_names f.ops) (of_test test (func_names f) apart))) e)

    here : (b : Option Body) → MatchOption b ⊤ (λ body. are_disjoint (func_names f) (own_names body) ≡ true)
        → MatchOption b ⊤ (λ body. are_disjoint (op_names op) (own_names body) ≡ true)
    here None h = tt
    here (Some body) h = outer body h

-- ---- the operation

either : (p : Body → Bool) (b : Option Body) → MatchOption b ⊤ (λ body. p body ≡ true) → option_map_or p b true ≡ true
either p None h = refl
either p (Some body) h = h

blocks : (b : Option Body) → MatchOption b ⊤ IsBody → MatchOption b ⊤ (λ body. is_block body ≡ true)
blocks None h = tt
blocks (Some body) h = h.block

pub verified_op : (f : Func) → IsOfSource f → (k : ℕ) (op : Op) → slice_get f.ops k ≡ Some op → IsOfVerified op
verified_op f h k op e =
    let is = op_there f h k op e in
    record {
      scope = scope_behind (scope_of h.whole f) (take k f.ops);
      source = device_behind (scope_of h.whole f) (take k f.ops) ∙ source_scope f h;
      keeps = is.keeps;
      counted = is.counted;
      captures = is.captures;
      result = is.result;
      spelled = is.spelled;
      block = either is_block (written_by op.kind).body (blocks (written_by op.kind).body is.body);
      own = either (λ body. are_disjoint (op_names op) (own_names body)) (written_by op.kind).body
          (own_at f k op (at_place (λ g. has_own_body_names g ≡ true) h.whole.funcs h.place f
          (of_test has_own_body_names h.whole.funcs h.formed.body_names) h.stands) e);
    }
