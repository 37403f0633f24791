-- What operations write, class by class.
use Rattle.std.proofs.Common.{◌≡◌, ◌+◌, ◌∙◌, ℕ, List, [], ◌∷◌, ◌++◌, length, drop, Some, true, refl, ap, sym, arith, length-append}
use Rattle.std.specs.Prelude.{not, ℤ, IsTrue}
use Rattle.std.specs.List.{AllByRecursion, list_all}
use Rattle.sh_ir.specs.Formed.{is_on_index}
use Rattle.sh_ir.specs.Regions.{captured_by}
use Rattle.sh_ir.specs.Written.{any_count, comparison, first_type, in_groups, literal, plain, structured, structured_untyped, test_type}
use Rattle.sh_ir.specs.Written.ResultText.{unwritten}
use Rattle.sh_ir.specs.declared.arith_ops.Constant.{Constant}
use Rattle.sh_ir.specs.declared.bodies.Body.{Body}
use Rattle.sh_ir.specs.declared.bodies.BodyOp.{BodyOp}
use Rattle.sh_ir.specs.declared.linalg_ops.AffineMap.{AffineMap}
use Rattle.sh_ir.specs.declared.shard_ops.GridAxes.{GridAxes}
use Rattle.sh_ir.specs.declared.types.ValueType.{ValueType}
use Rattle.sh_ir.specs.declared.types.ValueType.TheVariants as value_type
use Rattle.sh_build.specs.Meaning.{ins_outs_of}
use Rattle.sh_build.specs.declared.parts.Operands.{Operands}
use Rattle.sh_parse.proofs.formed.EachOf.{each_append, each_so, tests_all}
use Rattle.sh_parse.proofs.formed.PartsKept.{AreSpelled, ConstantKept, Content, MapNumbered, Named, NoIndex, PlainBodyOp, PlainBodyOps, TypeSpelled, TypesAreSpelled}

pub plain_kept : (operands : List ℕ) (t : ValueType) → TypeSpelled t → Content (plain (length operands)) operands t
plain_kept operands t h = record {
  grids = tt;
  callees = tt;
  numbers = tt;
  types = (h, tt);
  counted = omega arith;
  captures = tt;
  result = tt;
  constants = tt;
  maps = tt;
  indices = refl;
}

-- one written type besides that of the value, and numbers
pub typed_kept : (operands : List ℕ) (numbers : List ℤ) (t r : ValueType) → AreSpelled numbers → TypeSpelled t → TypeSpelled r
    → Content (record (plain (length operands)) { types = t ∷ []; numbers = numbers }) operands r
typed_kept operands numbers t r n h k = record {
  grids = tt;
  callees = tt;
  numbers = n;
  types = (h, (k, tt));
  counted = omega arith;
  captures = tt;
  result = tt;
  constants = tt;
  maps = tt;
  indices = refl;
}

pub in_groups_kept : (on : GridAxes) (a : ℕ) (numbers : List ℤ) (t r : ValueType) → Named on.grid → AreSpelled on.grid_axes
    → AreSpelled numbers → TypeSpelled t → TypeSpelled r → Content (in_groups on numbers t) (a ∷ []) r
in_groups_kept on a numbers t r grid axes n h k = record {
  grids = (grid, tt);
  callees = tt;
  numbers = each_append _ on.grid_axes numbers axes n;
  types = (h, (k, tt));
  counted = refl;
  captures = tt;
  result = tt;
  constants = tt;
  maps = tt;
  indices = refl;
}

pub any_count_kept : (operands : List ℕ) (callees : List (List ℕ)) (numbers : List ℤ) (types : List ValueType) (r : ValueType)
    → AllByRecursion Named callees → AreSpelled numbers → TypesAreSpelled types → TypeSpelled r
    → Content (record (any_count types) { callees = callees; numbers = numbers }) operands r
any_count_kept operands callees numbers types r c n h k = record {
  grids = tt;
  callees = c;
  numbers = n;
  types = each_append TypeSpelled types (r ∷ []) h (k, tt);
  counted = tt;
  captures = tt;
  result = tt;
  constants = tt;
  maps = tt;
  indices = refl;
}

pub return_kept : (operands : List ℕ) (types : List ValueType) → TypesAreSpelled types
    → Content (record (any_count types) { result = unwritten value_type.Nothing }) operands value_type.Nothing
return_kept operands types h = record {
  grids = tt;
  callees = tt;
  numbers = tt;
  types = each_append TypeSpelled types [] h tt;
  counted = tt;
  captures = tt;
  result = refl;
  constants = tt;
  maps = tt;
  indices = refl;
}

pub literal_kept : (c : Constant) → ConstantKept c → Content (literal c) [] c.value_type
literal_kept c k = record {
  grids = tt;
  callees = tt;
  numbers = tt;
  types = (k.spelled, tt);
  counted = refl;
  captures = tt;
  result = refl;
  constants = (k.held, tt);
  maps = tt;
  indices = refl;
}

pub comparison_kept : (a b : ℕ) (t : ValueType) → TypeSpelled t → Content (comparison t) (a ∷ b ∷ []) (test_type t)
comparison_kept a b t h = record {
  grids = tt;
  callees = tt;
  numbers = tt;
  types = (h, tt);
  counted = refl;
  captures = tt;
  result = refl;
  constants = tt;
  maps = tt;
  indices = refl;
}

-- ## Structured operations

two_counted : (ins outs captured : List ℕ)
    → length (ins ++ outs ++ captured) ≡ length ins + length outs + length captured
two_counted ins outs captured =
    length-append (ins ++ outs) captured ∙ ap (λ n. n + length captured) (length-append ins outs)

behind : (front captured : List ℕ) → drop (length front) (front ++ captured) ≡ captured
behind [] captured = refl
behind (x ∷ front) captured = behind front captured

behind_both : (ins outs captured : List ℕ) → drop (length ins + length outs) (ins ++ outs ++ captured) ≡ captured
behind_both ins outs captured =
    ap (λ n. drop n (ins ++ outs ++ captured)) (sym (length-append ins outs)) ∙ behind (ins ++ outs) captured

pub structured_kept : (ins outs : Operands) (r : ValueType) → TypesAreSpelled ins.types → TypesAreSpelled outs.types
    → TypeSpelled r → Content (structured (ins_outs_of ins outs)) (ins.values ++ outs.values ++ []) r
structured_kept ins outs r i o h = record {
  grids = tt;
  callees = tt;
  numbers = tt;
  types = each_append TypeSpelled (ins.types ++ outs.types) (r ∷ []) (each_append TypeSpelled ins.types outs.types i o) (h, tt);
  counted = two_counted ins.values outs.values [];
  captures = tt;
  result = tt;
  constants = tt;
  maps = tt;
  indices = refl;
}

pub untyped_kept : (ins outs : Operands) (numbers : List ℤ) → AreSpelled numbers → TypesAreSpelled ins.types
    → TypesAreSpelled outs.types
    → Content (record (structured_untyped (ins_outs_of ins outs)) { numbers = numbers })
    (ins.values ++ outs.values ++ []) (first_type outs.types)
untyped_kept ins outs numbers n i o = record {
  grids = tt;
  callees = tt;
  numbers = n;
  types = each_append TypeSpelled (ins.types ++ outs.types) [] (each_append TypeSpelled ins.types outs.types i o) tt;
  counted = two_counted ins.values outs.values [];
  captures = tt;
  result = refl;
  constants = tt;
  maps = tt;
  indices = refl;
}

no_index_in : (ops : List BodyOp) → PlainBodyOps ops → IsTrue (list_all (λ op. not (is_on_index op.kind)) ops)
no_index_in ops plain_ops = tests_all (λ op. not (is_on_index op.kind)) ops (each_so PlainBodyOp NoIndex ops (λ op k. k.no_index) plain_ops)

pub reduce_kept : (ins outs : Operands) (numbers : List ℤ) (body : Body) → AreSpelled numbers → TypesAreSpelled ins.types
    → TypesAreSpelled outs.types → PlainBodyOps body.ops
    → Content (record (structured_untyped (ins_outs_of ins outs)) { numbers = numbers; body = Some body })
    (ins.values ++ outs.values ++ captured_by body) (first_type outs.types)
reduce_kept ins outs numbers body n i o b = record {
  grids = tt;
  callees = tt;
  numbers = n;
  types = each_append TypeSpelled (ins.types ++ outs.types) [] (each_append TypeSpelled ins.types outs.types i o) tt;
  counted = two_counted ins.values outs.values (captured_by body);
  captures = behind_both ins.values outs.values (captured_by body);
  result = refl;
  constants = tt;
  maps = tt;
  indices = no_index_in body.ops b;
}

pub generic_kept : (ins outs : Operands) (maps : List AffineMap) (body : Body) (r : ValueType) → AllByRecursion MapNumbered maps
    → TypesAreSpelled ins.types → TypesAreSpelled outs.types → TypeSpelled r
    → Content (record (structured (ins_outs_of ins outs)) { maps = maps; body = Some body; has_indices = true })
    (ins.values ++ outs.values ++ captured_by body) r
generic_kept ins outs maps body r m i o h = record {
  grids = tt;
  callees = tt;
  numbers = tt;
  types = each_append TypeSpelled (ins.types ++ outs.types) (r ∷ []) (each_append TypeSpelled ins.types outs.types i o) (h, tt);
  counted = two_counted ins.values outs.values (captured_by body);
  captures = behind_both ins.values outs.values (captured_by body);
  result = tt;
  constants = tt;
  maps = m;
  indices = refl;
}
