-- A module whose items are as they should be is formed, where its regions have names of their own.
use Rattle.std.proofs.Common.{ℕ, List, ◌++◌, map}
use Rattle.std.specs.Prelude.{flat_map, option_to_list, IsTrue}
use Rattle.std.specs.List.{AllByRecursion, list_all}
use Rattle.std.proofs.lemmas.Bool.{and_from}
use Rattle.sh_ir.specs.Formed.{BodyNamesOwn, CutsOnGrid, Defines, IsFormed, all_written, asks_where_allowed, bodies_in, body_ops_of, call_constants, cuts_in, ends_in_return, func_symbols, func_types, is_block, is_grid, is_name, is_not_negative, is_numbered, is_spelled, is_spelled_type, item_numbers, item_symbols, numbers_of, op_texts, op_types, ops_of, symbols_of, types_in, types_of}
use Rattle.sh_ir.specs.Literals.{is_dense, is_held}
use Rattle.sh_ir.specs.Written.{Written, sharding_numbers, written_by, written_in_body}
use Rattle.sh_ir.specs.declared.arith_ops.Constant.{Constant}
use Rattle.sh_ir.specs.declared.bodies.Body.{Body}
use Rattle.sh_ir.specs.declared.bodies.BodyOp.{BodyOp}
use Rattle.sh_ir.specs.declared.functions.Cut.{Cut}
use Rattle.sh_ir.specs.declared.functions.Func.{Func}
use Rattle.sh_ir.specs.declared.modules.CallItem.{CallItem}
use Rattle.sh_ir.specs.declared.modules.GridItem.{GridItem}
use Rattle.sh_ir.specs.declared.modules.Module.{Module}
use Rattle.sh_ir.specs.declared.operations.Op.{Op}
use Rattle.sh_ir.specs.declared.types.ValueType.{ValueType}
use Rattle.sh_parse.proofs.formed.EachOf.{each_append, each_filter_map, each_flat_map, each_map, each_so, tests_all}
use Rattle.sh_parse.proofs.formed.PartsKept.{AreSpelled, BodyKept, BodyOpKept, CallKept, Content, CutKept, DenseKept, FuncKept, GridKept, MapNumbered, ModuleKept, Named, OpKept, TypeSpelled}

-- an operation of a function or a region, by what it writes
record TextKept (x : Written) : Type 0 where
  grids : AllByRecursion Named x.grids
  callees : AllByRecursion Named x.callees
  numbers : AreSpelled x.numbers
  constants : AllByRecursion (λ c. IsTrue (is_held c)) x.constants
  maps : AllByRecursion MapNumbered x.maps
  indices : IsTrue (asks_where_allowed x)

module _ (m : Module) (k : ModuleKept m) where
  each_func : (P : Func → Type 0) → ((f : Func) → FuncKept f → P f) → AllByRecursion P m.funcs
  each_func P so = each_so FuncKept P m.funcs so k.funcs

  each_op : AllByRecursion OpKept (ops_of m)
  each_op = each_flat_map OpKept (λ f. f.ops) m.funcs (each_func _ (λ f h. h.ops.each))

  from_op : (P : Op → Type 0) → ((op : Op) → OpKept op → P op) → AllByRecursion P (ops_of m)
  from_op P so = each_so OpKept P (ops_of m) so each_op

  each_body : AllByRecursion BodyKept (bodies_in (ops_of m))
  each_body = each_filter_map BodyKept (λ (x : Written). x.body) (op_texts (ops_of m))
      (each_map _ (λ (op : Op). written_by op.kind) (ops_of m) (from_op _ (λ op h. h.side.body)))

  each_body_op : AllByRecursion BodyOpKept (body_ops_of m)
  each_body_op = each_flat_map BodyOpKept (λ (b : Body). b.ops) (bodies_in (ops_of m))
      (each_so BodyKept _ (bodies_in (ops_of m)) (λ b h. h.ops) each_body)

  from_body_op : (P : BodyOp → Type 0) → ((op : BodyOp) → BodyOpKept op → P op) → AllByRecursion P (body_ops_of m)
  from_body_op P so = each_so BodyOpKept P (body_ops_of m) so each_body_op

  text_of : (x : Written) (operands : List ℕ) (t : ValueType) → Content x operands t → TextKept x
  text_of x operands t c = record {
    grids = c.grids;
    callees = c.callees;
    numbers = c.numbers;
    constants = c.constants;
    maps = c.maps;
    indices = c.indices;
  }

  each_text : AllByRecursion TextKept (all_written m)
  each_text = each_append TextKept (op_texts (ops_of m)) _
      (each_map TextKept (λ (op : Op). written_by op.kind) (ops_of m) (from_op _ (λ op h. text_of _ op.operands op.result h.side.content)))
      (each_map TextKept (λ (op : BodyOp). written_in_body op.kind) (body_ops_of m) (from_body_op _ (λ op h. text_of _ op.operands op.result h)))

  from_text : (P : Written → Type 0) → ((x : Written) → TextKept x → P x) → AllByRecursion P (all_written m)
  from_text P so = each_so TextKept P (all_written m) so each_text

  item_names : AllByRecursion Named (item_symbols m)
  item_names = each_append Named (option_to_list m.name ++ map (λ g. g.name) m.grids ++ flat_map func_symbols m.funcs) _
      (each_append Named (option_to_list m.name ++ map (λ g. g.name) m.grids) _
      (each_append Named (option_to_list m.name) _ k.name
      (each_map Named (λ (g : GridItem). g.name) m.grids (each_so GridKept _ m.grids (λ g h. h.name) k.grids)))
      (each_flat_map Named func_symbols m.funcs (each_func _ (λ f h. h.symbols))))
      (each_map Named (λ (c : CallItem). c.callee) m.calls (each_so CallKept _ m.calls (λ c h. h.callee) k.calls))

  names : IsTrue (list_all is_name (symbols_of m))
  names = tests_all is_name (symbols_of m) (each_append Named (item_symbols m) _ item_names
      (each_flat_map Named (λ (x : Written). x.grids ++ x.callees) (all_written m)
      (from_text _ (λ x h. each_append Named x.grids x.callees h.grids h.callees))))

  cut_numbers : AllByRecursion CutKept (flat_map cuts_in m.funcs)
  cut_numbers = each_flat_map CutKept cuts_in m.funcs (each_func _ (λ f h. h.cuts))

  numbers : IsTrue (list_all is_spelled (numbers_of m))
  numbers = tests_all is_spelled (numbers_of m) (each_append _ (item_numbers m) _
      (each_append _ (flat_map (λ g. g.extents) m.grids) _
      (each_flat_map _ (λ (g : GridItem). g.extents) m.grids (each_so GridKept _ m.grids (λ g h. h.spelled) k.grids))
      (each_flat_map _ (λ (c : Cut). sharding_numbers c.sharding) (flat_map cuts_in m.funcs)
      (each_so CutKept _ (flat_map cuts_in m.funcs) (λ c h. h.numbers) cut_numbers)))
      (each_flat_map _ (λ (x : Written). x.numbers) (all_written m) (from_text _ (λ x h. h.numbers))))

  each_call_constant : AllByRecursion DenseKept (call_constants m)
  each_call_constant = each_flat_map DenseKept (λ (c : CallItem). c.args) m.calls (each_so CallKept _ m.calls (λ c h. h.args) k.calls)

  types : IsTrue (list_all is_spelled_type (types_of m))
  types = tests_all is_spelled_type (types_of m) (each_append TypeSpelled (flat_map func_types m.funcs ++ op_types m) _
      (each_append TypeSpelled (flat_map func_types m.funcs) _
      (each_flat_map TypeSpelled func_types m.funcs (each_func _ (λ f h. h.types)))
      (each_append TypeSpelled (flat_map (λ op. types_in (written_by op.kind) op.result) (ops_of m)) _
      (each_flat_map TypeSpelled (λ (op : Op). types_in (written_by op.kind) op.result) (ops_of m)
      (from_op _ (λ op h. h.side.content.types)))
      (each_flat_map TypeSpelled (λ (op : BodyOp). types_in (written_in_body op.kind) op.result) (body_ops_of m)
      (from_body_op _ (λ op h. h.types)))))
      (each_map TypeSpelled (λ (c : Constant). c.value_type) (call_constants m)
      (each_so DenseKept _ (call_constants m) (λ c h. h.constant.spelled) each_call_constant)))

  a_grid : (g : GridItem) → GridKept g → IsTrue (is_grid g)
  a_grid g h = and_from _ _ h.some (tests_all is_not_negative g.extents h.positive)

  literals : IsTrue (list_all is_held (flat_map (λ (x : Written). x.constants) (all_written m) ++ call_constants m))
  literals = tests_all is_held _ (each_append _ (flat_map (λ (x : Written). x.constants) (all_written m)) (call_constants m)
      (each_flat_map _ (λ (x : Written). x.constants) (all_written m) (from_text _ (λ x h. h.constants)))
      (each_so DenseKept _ (call_constants m) (λ c h. h.constant.held) each_call_constant))

  pub formed : BodyNamesOwn m → IsFormed m
  formed own = record {
    names = names;
    numbers = numbers;
    types = types;
    grids = tests_all is_grid m.grids (each_so GridKept _ m.grids a_grid k.grids);
    cuts = each_func CutsOnGrid (λ f h. h.on_grid);
    operands = from_op _ (λ op h. h.side.content.counted);
    body_operands = from_body_op _ (λ op h. h.counted);
    captures = from_op _ (λ op h. h.side.content.captures);
    defines = from_op Defines (λ op h. h.defines);
    results = from_op _ (λ op h. h.side.content.result);
    body_results = from_body_op _ (λ op h. h.result);
    returns = tests_all (λ f. ends_in_return f.ops) m.funcs (each_func _ (λ f h. h.ops.ends));
    literals = literals;
    calls = tests_all is_dense (call_constants m) (each_so DenseKept _ (call_constants m) (λ c h. h.dense) each_call_constant);
    maps = tests_all is_numbered _ (each_flat_map _ (λ (x : Written). x.maps) (all_written m) (from_text _ (λ x h. h.maps)));
    blocks = tests_all is_block (bodies_in (ops_of m)) (each_so BodyKept _ (bodies_in (ops_of m)) (λ b h. h.block) each_body);
    indices = tests_all asks_where_allowed (all_written m) (from_text _ (λ x h. h.indices));
    body_names = own;
  }
