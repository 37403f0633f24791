-- Loops, options and local parts by computation: a collapse, a sum along one dimension, convolutions, slices.
use Rattle.std.proofs.Common.{◌≡◌, ℕ, ℤ, pos, true, false, List, [], ◌∷◌, map, Option, Some, None, refl}
use Rattle.sh_base.specs.declared.numbers.Width.TheVariants.{I32}
use Rattle.sh_base.specs.declared.operations.BinOp.{BinOp}
use Rattle.sh_base.specs.declared.operations.BinOp.TheVariants.{Addi, Subi, Maxsi}
use Rattle.sh_base.specs.declared.operations.Kind.{Kind}
use Rattle.sh_base.specs.declared.operations.Kind.TheVariants.{Sum, Max}
use Rattle.sh_base.specs.declared.places.Place.{Place}
use Rattle.sh_grid.specs.Grid.{GridValue, group_size_of, on_axes}
use Rattle.sh_ir.specs.declared.bodies.Body.{Body}
use Rattle.sh_ir.specs.declared.bodies.BodyKind.TheVariants as body_kind
use Rattle.sh_ir.specs.declared.linalg_ops.InsOuts.{InsOuts}
use Rattle.sh_ir.specs.declared.operations.OpKind.{OpKind}
use Rattle.sh_ir.specs.declared.operations.OpKind.TheVariants.{Binary, CollapseShape, Conv1d, ExpandShape, ExtractSlice, Matmul, Reduce}
use Rattle.sh_ir.specs.declared.types.Dim.TheVariants.{Known}
use Rattle.sh_ir.specs.declared.types.ValueType.{ValueType}
use Rattle.sh_ir.specs.declared.types.ValueType.TheVariants.{Tensor, Scalar}
use Rattle.sh_ir.specs.Loops.{structure_of}
use Rattle.sh_ir.specs.Typing.{typing_of}
use Rattle.sh_sharding.specs.declared.shardings.Dimension.{Dimension}
use Rattle.sh_sharding.specs.declared.shardings.Mark.{Mark}
use Rattle.sh_sharding.specs.declared.shardings.Mark.TheVariants.{Balanced, Offsets}
use Rattle.sh_sharding.specs.OffsetLists.{normal_mark}
use Rattle.sh_sharding.specs.Sharding.{offset_of, offsets_of, size_of_part, unsplit}
use Rattle.sh_iface.specs.declared.options.How.TheVariants.{Same, Scale, Window}
use Rattle.sh_iface.specs.declared.options.Split.{Split}
use Rattle.sh_iface.specs.BodyKinds.{kind_of_body}
use Rattle.sh_iface.specs.LoopNest.{Loop, LoopNest, NestDim, NestValue}
use Rattle.sh_iface.specs.Splits.{can_window, implied_of}
use Rattle.sh_iface.specs.Table.{follows, follows_none, nest_of, parallel}

abbrev pub tensor : List ℕ → ValueType
tensor shape = Tensor (record { dims = map (λ n. Known n) shape; width = I32 })

abbrev value : List NestDim → NestValue
value dims = record { dims = dims; width = I32 }

abbrev reducing : ℕ → Kind → Loop
reducing extent kind = record { extent = extent; splittable = true; kind = Some kind }

abbrev pub here : Place
here = record { line = 1; column = 1 }

-- ---- the table

added : nest_of (Binary Addi) (tensor (2 ∷ 3 ∷ [])) ≡ Some (record {
  loops = parallel true 2 ∷ parallel true 3 ∷ [];
  operands = value (follows Same 0 2 ∷ follows Same 1 3 ∷ []) ∷ value (follows Same 0 2 ∷ follows Same 1 3 ∷ []) ∷ [];
  result = value (follows Same 0 2 ∷ follows Same 1 3 ∷ []);
})
unfolding nest_of typing_of
added = refl

abbrev two : List ValueType → List ValueType → InsOuts
two ins outs = record { ins_count = 2; ins_types = ins; outs_count = 1; outs_types = outs }

-- rows of the first, columns of the second, and a loop along which products are added
multiplied : nest_of (Matmul (two (tensor (2 ∷ 3 ∷ []) ∷ tensor (3 ∷ 4 ∷ []) ∷ []) (tensor (2 ∷ 4 ∷ []) ∷ []))) (tensor (2 ∷ 4 ∷ [])) ≡ Some (record {
  loops = parallel true 2 ∷ parallel true 4 ∷ reducing 3 Sum ∷ [];
  operands = value (follows Same 0 2 ∷ follows Same 2 3 ∷ []) ∷ value (follows Same 2 3 ∷ follows Same 1 4 ∷ []) ∷ value (follows Same 0 2 ∷ follows Same 1 4 ∷ []) ∷ [];
  result = value (follows Same 0 2 ∷ follows Same 1 4 ∷ []);
})
unfolding nest_of structure_of
multiplied = refl

-- a region of one operation on its arguments 7 and 8, the output's
abbrev pub region : BinOp → List ℕ → Body
region op operands = record {
  args = 7 ∷ 8 ∷ [];
  widths = I32 ∷ I32 ∷ [];
  ops = record { kind = body_kind.Binary op; operands = operands; defines = 9; result = Scalar I32; place = here } ∷ [];
  yields = 9;
  width = I32;
  place = here;
}

adds : kind_of_body (region Addi (8 ∷ 7 ∷ [])) ≡ Some Sum
unfolding kind_of_body
adds = refl

adds_otherwise : kind_of_body (region Addi (7 ∷ 8 ∷ [])) ≡ Some Sum
unfolding kind_of_body
adds_otherwise = refl

-- a difference has no kind, nor has an operation on the output's value alone, nor one that doesn't use it
differs : kind_of_body (region Subi (8 ∷ 7 ∷ [])) ≡ None
unfolding kind_of_body
differs = refl

doubles : kind_of_body (region Addi (8 ∷ 8 ∷ [])) ≡ None
unfolding kind_of_body
doubles = refl

forgets : kind_of_body (region Addi (7 ∷ 7 ∷ [])) ≡ None
unfolding kind_of_body
forgets = refl

-- a further operation uses the yielded value, though nothing uses its own
used_further : kind_of_body (record (region Maxsi (8 ∷ 7 ∷ [])) {
  ops = record { kind = body_kind.Binary Maxsi; operands = 8 ∷ 7 ∷ []; defines = 9; result = Scalar I32; place = here }
      ∷ record { kind = body_kind.Binary Addi; operands = 9 ∷ 7 ∷ []; defines = 10; result = Scalar I32; place = here } ∷ [];
}) ≡ None
unfolding kind_of_body
used_further = refl

-- another operation before it doesn't
prepared : kind_of_body (record (region Maxsi (8 ∷ 7 ∷ [])) {
  ops = record { kind = body_kind.Binary Addi; operands = 7 ∷ 7 ∷ []; defines = 10; result = Scalar I32; place = here }
      ∷ record { kind = body_kind.Binary Maxsi; operands = 8 ∷ 10 ∷ []; defines = 9; result = Scalar I32; place = here } ∷ [];
}) ≡ Some Max
unfolding kind_of_body
prepared = refl

abbrev pub one : ValueType → ValueType → InsOuts
one ins outs = record { ins_count = 1; ins_types = ins ∷ []; outs_count = 1; outs_types = outs ∷ [] }

abbrev sum : OpKind
sum = Reduce (record { ins_outs = one (tensor (2 ∷ 4 ∷ [])) (tensor (2 ∷ [])); dimensions = pos 1 ∷ []; body = region Addi (8 ∷ 7 ∷ []) })

abbrev pub sum_nest : LoopNest
sum_nest = record {
  loops = parallel true 2 ∷ reducing 4 Sum ∷ [];
  operands = value (follows Same 0 2 ∷ follows Same 1 4 ∷ []) ∷ value (follows Same 0 2 ∷ []) ∷ [];
  result = value (follows Same 0 2 ∷ []);
}

summed : nest_of sum (tensor (2 ∷ [])) ≡ Some sum_nest
unfolding nest_of structure_of kind_of_body
summed = refl

abbrev pub collapse_nest : LoopNest
collapse_nest = record {
  loops = parallel true 4 ∷ [];
  operands = value (follows Same 0 4 ∷ follows_none 3 ∷ []) ∷ [];
  result = value (follows (Scale 3) 0 12 ∷ []);
}

collapsed : nest_of (CollapseShape (record { reassociation = (pos 0 ∷ pos 1 ∷ []) ∷ []; source_type = tensor (4 ∷ 3 ∷ []) })) (tensor (12 ∷ [])) ≡ Some collapse_nest
unfolding nest_of
collapsed = refl

-- the second loop can't be split: any part of it has no cell
expanded : nest_of (ExpandShape (record { reassociation = (pos 0 ∷ []) ∷ (pos 1 ∷ pos 2 ∷ []) ∷ []; output_shape = pos 2 ∷ pos 4 ∷ pos 0 ∷ []; source_type = tensor (2 ∷ 0 ∷ []) })) (tensor (2 ∷ 4 ∷ 0 ∷ []))
    ≡ Some (record {
      loops = parallel true 2 ∷ parallel false 4 ∷ [];
      operands = value (follows (Scale 1) 0 2 ∷ follows (Scale 0) 1 0 ∷ []) ∷ [];
      result = value (follows Same 0 2 ∷ follows Same 1 4 ∷ follows_none 0 ∷ []);
    })
unfolding nest_of
expanded = refl

-- the first dimension is taken whole, of the second a part
extracted : nest_of (ExtractSlice (record { slice = record { offsets = pos 0 ∷ pos 2 ∷ []; sizes = pos 4 ∷ pos 2 ∷ []; strides = pos 1 ∷ pos 1 ∷ [] }; source_type = tensor (4 ∷ 8 ∷ []) })) (tensor (4 ∷ 2 ∷ []))
    ≡ Some (record {
      loops = parallel true 4 ∷ parallel false 2 ∷ [];
      operands = value (follows Same 0 4 ∷ follows_none 8 ∷ []) ∷ [];
      result = value (follows Same 0 4 ∷ follows Same 1 2 ∷ []);
    })
unfolding nest_of
extracted = refl

-- the input is read through a window, and the kernel follows none
abbrev conv_nest : ℕ → ℕ → LoopNest
conv_nest extent places = record {
  loops = parallel true places ∷ record { extent = 3; splittable = false; kind = Some Sum } ∷ [];
  operands = value (follows (Window 3) 0 extent ∷ []) ∷ value (follows_none 3 ∷ []) ∷ value (follows Same 0 places ∷ []) ∷ [];
  result = value (follows Same 0 places ∷ []);
}

convolved : nest_of (Conv1d (two (tensor (8 ∷ []) ∷ tensor (3 ∷ []) ∷ []) (tensor (6 ∷ []) ∷ []))) (tensor (6 ∷ [])) ≡ Some (conv_nest 8 6)
unfolding nest_of structure_of
convolved = refl

-- ---- implied shardings on a grid of 2

abbrev pub grid : GridValue
grid = record { name = 103 ∷ []; extents = 2 ∷ [] }

abbrev pub along : List ℤ → Option Split
along starts = Some (record { axes = 0 ∷ []; starts = starts })

abbrev split : ℕ → Mark → ℕ → Dimension
split extent mark high = record { extent = extent; axes = 0 ∷ []; mark = mark; low = 0; high = high }

abbrev divides : LoopNest → List (Option Split) → NestValue → List Dimension
divides nest o v = (implied_of grid nest o v).dimensions

-- halves of the collapsed tensor
half_rows : divides collapse_nest (along (pos 0 ∷ pos 2 ∷ pos 4 ∷ []) ∷ []) (value (follows Same 0 4 ∷ follows_none 3 ∷ [])) ≡ split 4 Balanced 0 ∷ unsplit 3 ∷ []
unfolding implied_of normal_mark offsets_of offset_of group_size_of on_axes
half_rows = refl

half_cells : divides collapse_nest (along (pos 0 ∷ pos 2 ∷ pos 4 ∷ []) ∷ []) (value (follows (Scale 3) 0 12 ∷ [])) ≡ split 12 Balanced 0 ∷ []
unfolding implied_of normal_mark offsets_of offset_of group_size_of on_axes
half_cells = refl

-- parts of different lengths: three cells a row
few_cells : divides collapse_nest (along (pos 0 ∷ pos 1 ∷ pos 4 ∷ []) ∷ []) (value (follows (Scale 3) 0 12 ∷ [])) ≡ split 12 (Offsets (0 ∷ 3 ∷ 12 ∷ [])) 0 ∷ []
unfolding implied_of normal_mark offsets_of offset_of group_size_of on_axes
few_cells = refl

-- the reduction loop is split: the outs are whole
half_sums : divides sum_nest (None ∷ along (pos 0 ∷ pos 2 ∷ pos 4 ∷ []) ∷ []) (value (follows Same 0 2 ∷ follows Same 1 4 ∷ [])) ≡ unsplit 2 ∷ split 4 Balanced 0 ∷ []
unfolding implied_of normal_mark offsets_of offset_of group_size_of on_axes
half_sums = refl

-- 8 cells in halves of 4, with the next 2: places 4 and 2
window_rows : divides (conv_nest 8 6) (along (pos 0 ∷ pos 4 ∷ pos 6 ∷ []) ∷ None ∷ []) (value (follows (Window 3) 0 8 ∷ [])) ≡ split 8 Balanced 2 ∷ []
unfolding implied_of can_window offsets_of offset_of size_of_part group_size_of on_axes
window_rows = refl

-- 9 cells in parts of 5 and 4: places 5 and 2
uneven_window : divides (conv_nest 9 7) (along (pos 0 ∷ pos 5 ∷ pos 7 ∷ []) ∷ None ∷ []) (value (follows (Window 3) 0 9 ∷ [])) ≡ split 9 Balanced 2 ∷ []
unfolding implied_of can_window offsets_of offset_of size_of_part group_size_of on_axes
uneven_window = refl

-- other parts of the loop: the input is whole
no_window : divides (conv_nest 8 6) (along (pos 0 ∷ pos 3 ∷ pos 6 ∷ []) ∷ None ∷ []) (value (follows (Window 3) 0 8 ∷ [])) ≡ unsplit 8 ∷ []
unfolding implied_of can_window offsets_of offset_of size_of_part group_size_of on_axes
no_window = refl
