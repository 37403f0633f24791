-- What operations, regions and items are made of.
use Rattle.std.proofs.Common.{◌≡◌, ◌+◌, ◌^◌, ◌∙◌, ℕ, zero, suc, List, [], ◌∷◌, ◌++◌, length, map, Option, Some, None, refl, sym, arith}
use Rattle.std.specs.Prelude.{nat_lt, ℤ, pos, neg_ℤ, unwrap_or, IsTrue, slice_get}
use Rattle.std.specs.List.{AllByRecursion}
use Rattle.std.proofs.lemmas.List.{length-map}
use Rattle.std.proofs.lemmas.Bool.{and_from, eq-eqb, lt-ltb, false≢true}
use Rattle.sh_base.specs.declared.numbers.Width.{Width}
use Rattle.sh_base.specs.declared.numbers.Width.TheVariants.{I1}
use Rattle.sh_base.specs.declared.operations.BinOp.{BinOp}
use Rattle.sh_base.specs.declared.places.Place.{Place}
use Rattle.sh_ir.specs.Formed.{is_spelled}
use Rattle.sh_ir.specs.Parts.{op_of}
use Rattle.sh_ir.specs.Shapes.{argument_types, extent_of}
use Rattle.sh_ir.specs.Written.{all_numbers}
use Rattle.sh_ir.specs.declared.bodies.Body.{Body}
use Rattle.sh_ir.specs.declared.bodies.BodyKind.{BodyKind}
use Rattle.sh_ir.specs.declared.bodies.BodyKind.TheVariants as body_kind
use Rattle.sh_ir.specs.declared.bodies.BodyOp.{BodyOp}
use Rattle.sh_ir.specs.declared.functions.Arg.{Arg}
use Rattle.sh_ir.specs.declared.functions.Cut.{Cut}
use Rattle.sh_ir.specs.declared.functions.Func.{Func}
use Rattle.sh_ir.specs.declared.linalg_ops.AffineMap.{AffineMap}
use Rattle.sh_ir.specs.declared.operations.Op.{Op}
use Rattle.sh_ir.specs.declared.operations.OpKind.TheVariants as op_kind
use Rattle.sh_ir.specs.declared.types.Dim.{Dim}
use Rattle.sh_ir.specs.declared.types.Dim.TheVariants.{Known, Differs}
use Rattle.sh_ir.specs.declared.types.ValueType.{ValueType}
use Rattle.sh_ir.specs.declared.types.ValueType.TheVariants as value_type
use Rattle.sh_literals.specs.Fronts.{before}
use Rattle.sh_build.specs.Meaning.{body_of, carried, cell_width, combiner_body, constant_side, defining, defining_in_body, generic, on_grid, op_kind_of, reducing, selecting, side_of, structured_kind, structured_side, with_item}
use Rattle.sh_build.specs.Readings.{body_op_in, constant_in, maps_in, op_in, tail_in, type_in}
use Rattle.sh_build.specs.declared.parts.Contents.{Contents}
use Rattle.sh_build.specs.declared.parts.Device.{Device}
use Rattle.sh_build.specs.declared.parts.Mark.{Mark}
use Rattle.sh_build.specs.declared.parts.Operands.{Operands}
use Rattle.sh_build.specs.declared.parts.Part.{Part}
use Rattle.sh_build.specs.declared.parts.Part.TheVariants as part
use Rattle.sh_build.specs.declared.parts.StructuredName as structured_name
use Rattle.sh_build.specs.declared.parts.StructuredName.TheVariants as structured
use Rattle.sh_parse.proofs.formed.ContentsKept.{generic_kept, literal_kept, plain_kept, reduce_kept, return_kept, structured_kept, typed_kept}
use Rattle.sh_parse.proofs.formed.EachOf.{InOption, each_append, each_front, each_map, each_so}
use Rattle.sh_parse.proofs.formed.PartsKept.{AreSpelled, BodyKept, BodyOpKept, BodyOpsKept, ConstantKept, ContentsKept, CutKept, DeviceIn, DeviceKept, DimSpelled, FuncKept, IndexedArithIn, ItemKept, MapNumbered, NoIndexContent, OperationKept, OpsKept, PlainBodyOp, PlainBodyOps, SideAndNoReturn, SideIn, TypeSpelled, TypesAreSpelled}

-- ## Operations

of_region : (kind : BodyKind) (operands : List ℕ) (t : ValueType) → NoIndexContent kind operands t
    → SideAndNoReturn (op_kind_of kind) operands t
of_region (body_kind.Constant x) operands t h = record { side = record { content = h.content; body = tt }; goes_on = refl }
of_region (body_kind.Binary x) operands t h = record { side = record { content = h.content; body = tt }; goes_on = refl }
of_region (body_kind.Compare x) operands t h = record { side = record { content = h.content; body = tt }; goes_on = refl }
of_region (body_kind.Select x) operands t h = record { side = record { content = h.content; body = tt }; goes_on = refl }
of_region (body_kind.Cast x) operands t h = record { side = record { content = h.content; body = tt }; goes_on = refl }
of_region (body_kind.Index x) operands t h = absurd (false≢true h.no_index)
of_region body_kind.IndexCast operands t h = absurd (false≢true h.no_index)

pub side_kept : (p : Part) → SideIn p → SideIn (side_of p)
side_kept (part.Arith x) h = of_region x.kind x.operands x.result h
side_kept p h = h

pub defined : (m : Mark) (p : Part) → SideIn p → InOption OperationKept (op_in (defining m p))
defined m (part.RightSide x) h =
    record { kept = record { side = h.side; defines = sym h.goes_on }; goes_on = h.goes_on }
defined m p h = tt

pub defined_in_body : (m : Mark) (p : Part) → SideIn p → InOption PlainBodyOp (body_op_in (defining_in_body m p))
defined_in_body m (part.Arith x) h = record { kept = h.content; no_index = h.no_index }
defined_in_body m p h = tt

pub defined_in_generic : (m : Mark) (p : Part) → IndexedArithIn p → InOption BodyOpKept (body_op_in (defining_in_body m p))
defined_in_generic m (part.Arith x) h = h
defined_in_generic m p h = tt

pub indexed : (p : Part) → SideIn p → IndexedArithIn p
indexed (part.Arith x) h = h.content
indexed p h = tt

pub operation_in_front : (o : Option Op) (ops : List Op) → InOption OperationKept o → OpsKept ops → OpsKept (before o ops)
operation_in_front None ops k h = h
operation_in_front (Some op) [] k h = absurd (false≢true h.ends)
operation_in_front (Some op) (next ∷ ops) k h =
    record { each = (k.kept, h.each); ends = and_from _ _ k.goes_on h.ends }

pub returns : (x : Operands) (place : Place) → TypesAreSpelled x.types
    → OpsKept (op_of (op_kind.Return (record { operand_types = x.types })) x.values None value_type.Nothing place ∷ [])
returns x place h = record {
  each = (
    record {
      side = record { content = return_kept x.values x.types h; body = tt };
      defines = refl;
    },
    tt,
  );
  ends = refl;
}

pub constant_kept : (p : Part) → InOption ConstantKept (constant_in p) → SideIn (constant_side p)
constant_kept (part.Constant c) h = record { content = literal_kept c h; no_index = refl }
constant_kept p h = tt

pub selection_kept : (c a b : ℕ) (t : ValueType) (types : List ValueType) → TypeSpelled t → TypesAreSpelled types
    → SideIn (selecting (c ∷ a ∷ b ∷ []) t (slice_get types 0))
selection_kept c a b t [] h more =
    record { content = typed_kept (c ∷ a ∷ b ∷ []) [] (value_type.Scalar I1) t tt refl h; no_index = refl }
selection_kept c a b t (r ∷ types) h more =
    record { content = typed_kept (c ∷ a ∷ b ∷ []) [] t r tt h more.0; no_index = refl }

-- ## Structured operations

pub structured_side_kept : (name : structured_name.StructuredName) (ins outs : Operands) (t : ValueType)
    → TypesAreSpelled ins.types → TypesAreSpelled outs.types → TypeSpelled t
    → SideIn (structured_side (structured_kind name) ins outs [] t)
structured_side_kept structured.Fill ins outs t i o h =
    record { side = record { content = structured_kept ins outs t i o h; body = tt }; goes_on = refl }
structured_side_kept structured.Matmul ins outs t i o h =
    record { side = record { content = structured_kept ins outs t i o h; body = tt }; goes_on = refl }
structured_side_kept structured.BatchMatmul ins outs t i o h =
    record { side = record { content = structured_kept ins outs t i o h; body = tt }; goes_on = refl }
structured_side_kept structured.Matvec ins outs t i o h =
    record { side = record { content = structured_kept ins outs t i o h; body = tt }; goes_on = refl }
structured_side_kept structured.Vecmat ins outs t i o h =
    record { side = record { content = structured_kept ins outs t i o h; body = tt }; goes_on = refl }
structured_side_kept structured.Dot ins outs t i o h =
    record { side = record { content = structured_kept ins outs t i o h; body = tt }; goes_on = refl }
structured_side_kept structured.Conv1d ins outs t i o h =
    record { side = record { content = structured_kept ins outs t i o h; body = tt }; goes_on = refl }
structured_side_kept structured.Conv2d ins outs t i o h =
    record { side = record { content = structured_kept ins outs t i o h; body = tt }; goes_on = refl }

-- as many types as block arguments
body_block : (args : List Arg) (tail : Part) → BodyOpsKept (tail_in tail).ops → BodyKept (body_of args tail)
body_block args tail h = record {
  block = eq-eqb (length (map (λ arg. arg.id) args)) (length (map (λ arg. cell_width arg.value_type) args))
      (length-map args (λ arg. arg.id) ∙ sym (length-map args (λ arg. cell_width arg.value_type)));
  ops = h;
}

plain_ops : (ops : List BodyOp) → PlainBodyOps ops → BodyOpsKept ops
plain_ops ops h = each_so PlainBodyOp BodyOpKept ops (λ op k. k.kept) h

pub yields : (tail : Part) → PlainBodyOps (tail_in tail).ops → BodyOpsKept (tail_in tail).ops
yields tail h = plain_ops (tail_in tail).ops h

reducing_kept : (ins outs : Operands) (numbers : List ℤ) (body : Body) → TypesAreSpelled ins.types
    → TypesAreSpelled outs.types → AreSpelled numbers → PlainBodyOps body.ops → BodyKept body
    → SideIn (reducing ins outs numbers body)
reducing_kept ins outs numbers body i o n plain b = record {
  side = record { content = reduce_kept ins outs numbers body n i o plain; body = b };
  goes_on = refl;
}

pub reduces : (ins outs : Operands) (numbers : List ℤ) (args : List Arg) (tail : Part) → TypesAreSpelled ins.types
    → TypesAreSpelled outs.types → AreSpelled numbers → PlainBodyOps (tail_in tail).ops
    → SideIn (reducing ins outs numbers (body_of args tail))
reduces ins outs numbers args tail i o n h =
    reducing_kept ins outs numbers (body_of args tail) i o n h (body_block args tail (plain_ops (tail_in tail).ops h))

combines : (op : BinOp) (at : Mark) (input output : Width) → PlainBodyOps (combiner_body op at input output).ops
combines op at input output = (
  record { kept = plain_kept ((at.id + 1) ∷ at.id ∷ []) (value_type.Scalar output) refl; no_index = refl },
  tt,
)

pub reduces_shortly : (ins outs : Operands) (numbers : List ℤ) (op : BinOp) (at : Mark) (input output : Width)
    → TypesAreSpelled ins.types → TypesAreSpelled outs.types → AreSpelled numbers
    → SideIn (reducing ins outs numbers (combiner_body op at input output))
reduces_shortly ins outs numbers op at input output i o n =
    let ops = combines op at input output in
    reducing_kept ins outs numbers (combiner_body op at input output) i o n ops
    (record { block = refl; ops = plain_ops (combiner_body op at input output).ops ops })

pub generic_side : (ins outs : Operands) (maps iterators : Part) (args : List Arg) (tail result : Part)
    → AllByRecursion MapNumbered (maps_in maps) → TypesAreSpelled ins.types → TypesAreSpelled outs.types
    → TypeSpelled (type_in result) → BodyOpsKept (tail_in tail).ops
    → SideIn (generic ins outs maps iterators (body_of args tail) result)
generic_side ins outs maps iterators args tail result m i o r h = record {
  side = record {
    content = generic_kept ins outs (maps_in maps) (body_of args tail) (type_in result) m i o r;
    body = body_block args tail h;
  };
  goes_on = refl;
}

-- ## Items

pub item_in_front : (p : Part) (items : Contents) → ItemKept p → ContentsKept items → ContentsKept (with_item p items)
item_in_front (part.Grid x) items k h = record { grids = (k, h.grids); funcs = h.funcs; calls = h.calls }
item_in_front (part.Func x) items k h = record { grids = h.grids; funcs = (k, h.funcs); calls = h.calls }
item_in_front (part.Call x) items k h = record { grids = h.grids; funcs = h.funcs; calls = (k, h.calls) }
item_in_front p items k h = h

whole_types : (cuts : List Cut) → AllByRecursion CutKept cuts → TypesAreSpelled (map (λ cut. cut.whole) cuts)
whole_types cuts h = each_map TypeSpelled (λ cut. cut.whole) cuts (each_so CutKept _ cuts (λ cut k. k.whole) h)

carried_by_kept : (d : Device) (f : Func) → DeviceKept d → FuncKept f
    → FuncKept (record f { carry = Some d.carry; place = d.place })
carried_by_kept d f k h = record {
  symbols = (h.symbols.0, (k.grid, tt));
  types = each_append TypeSpelled (argument_types f ++ f.results) _
      (each_front TypeSpelled (argument_types f ++ f.results) _ h.types) (whole_types _ k.cuts);
  cuts = k.cuts;
  on_grid = k.on_grid;
  ops = h.ops;
}

pub carried_kept : (d f : Part) → DeviceIn d → ItemKept f → ItemKept (carried d f)
carried_kept (part.Device d) (part.Func f) k h = carried_by_kept d f k h
carried_kept d f k h = h

abbrev IsOnGrid : List ℕ → Cut → Type 0
IsOnGrid grid cut = cut.sharding.grid ≡ grid

cuts_on : (grid : List ℕ) (cuts : List Cut) → AllByRecursion CutKept cuts → AllByRecursion CutKept (map (on_grid grid) cuts)
cuts_on grid cuts h = each_map CutKept (on_grid grid) cuts
    (each_so CutKept (λ cut. CutKept (on_grid grid cut)) cuts (λ cut k. record { whole = k.whole; numbers = k.numbers }) h)

on_it : (grid : List ℕ) (cuts : List Cut) → AllByRecursion (IsOnGrid grid) (map (on_grid grid) cuts)
on_it grid [] = tt
on_it grid (cut ∷ cuts) = (refl, on_it grid cuts)

pub device_cuts : (grid : List ℕ) (args results : List Cut) → AllByRecursion CutKept args → AllByRecursion CutKept results
    → AllByRecursion CutKept (map (on_grid grid) args ++ map (on_grid grid) results)
device_cuts grid args results a r =
    each_append CutKept (map (on_grid grid) args) (map (on_grid grid) results) (cuts_on grid args a) (cuts_on grid results r)

pub device_on_grid : (grid : List ℕ) (args results : List Cut)
    → AllByRecursion (IsOnGrid grid) (map (on_grid grid) args ++ map (on_grid grid) results)
device_on_grid grid args results =
    each_append (IsOnGrid grid) (map (on_grid grid) args) (map (on_grid grid) results) (on_it grid args) (on_it grid results)

pub func_types_kept : (args : List Arg) (results : List ValueType) → AllByRecursion (λ arg. TypeSpelled arg.value_type) args
    → TypesAreSpelled results → TypesAreSpelled (map (λ arg. arg.value_type) args ++ results ++ [])
func_types_kept args results a r = each_append TypeSpelled (map (λ arg. arg.value_type) args ++ results) []
    (each_append TypeSpelled (map (λ arg. arg.value_type) args) results (each_map TypeSpelled (λ arg. arg.value_type) args a) r) tt

-- ## Small parts

pub numbered_or : (o : Option AffineMap) → InOption MapNumbered o
    → MapNumbered (unwrap_or o (record { loops = []; results = [] }))
numbered_or None h = refl
numbered_or (Some m) h = h

pub extent_spelled : (d : Dim) → DimSpelled d → IsTrue (nat_lt (extent_of d) (2 ^ 64))
extent_spelled (Known n) h = h
extent_spelled Differs h = refl

pub one_there : {X : Type 0} (x : X) (xs : List X) → IsTrue (nat_lt 0 (length (x ∷ xs)))
one_there x xs = lt-ltb 0 (length (x ∷ xs)) (omega arith)

pub negative_spelled : (n : ℕ) → IsTrue (nat_lt n (2 ^ 64)) → IsTrue (is_spelled (neg_ℤ (pos n)))
negative_spelled zero h = refl
negative_spelled (suc n) h = let e : n + 1 ≡ suc n = omega arith in rw e h

pub sharding_spelled : (lists : List (List ℤ)) (halos offsets : List ℤ) → AreSpelled (all_numbers lists) → AreSpelled halos
    → AreSpelled offsets → AreSpelled (all_numbers lists ++ halos ++ offsets)
sharding_spelled lists halos offsets l h o =
    each_append _ (all_numbers lists ++ halos) offsets (each_append _ (all_numbers lists) halos l h) o

pub three_spelled : (a b c : List ℤ) → AreSpelled a → AreSpelled b → AreSpelled c → AreSpelled (a ++ b ++ c)
three_spelled a b c h i j = each_append _ (a ++ b) c (each_append _ a b h i) j
