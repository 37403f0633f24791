-- The premises of the split reduction's law are met: a dot product of three on two devices, the first of
-- which has no point.
use Rattle.std.proofs.Common.{◌≡◌, ℕ, zero, suc, ◌+◌, ◌<◌, ◌≤◌, true, List, [], ◌∷◌, get_or, length, Some, refl, ap, arith}
use Rattle.std.specs.Prelude.{All, pos}
use Rattle.std.specs.List.{AllByRecursion}
use Rattle.sh_base.specs.declared.numbers.Cell.TheVariants.{Val}
use Rattle.sh_base.specs.declared.numbers.Width.TheVariants.{I32}
use Rattle.sh_base.specs.declared.operations.BinOp.TheVariants.{Addi}
use Rattle.sh_base.specs.declared.operations.Kind.TheVariants.{Sum}
use Rattle.sh_grid.specs.Grid.{GridValue, IsGrid, group_size_of, place_in, on_axes}
use Rattle.sh_int.specs.Reduction.{neutral_of}
use Rattle.sh_ir.specs.declared.arith_ops.Contents.TheVariants.{Held}
use Rattle.sh_ir.specs.declared.linalg_ops.InsOuts.{InsOuts}
use Rattle.sh_ir.specs.declared.operations.Op.{Op}
use Rattle.sh_ir.specs.declared.operations.OpKind.{OpKind}
use Rattle.sh_ir.specs.declared.operations.OpKind.TheVariants.{AllReduce, Binary, Constant, Dot, Fill}
use Rattle.sh_ir.specs.declared.types.Dim.TheVariants.{Known, Differs}
use Rattle.sh_ir.specs.declared.types.ValueType.{ValueType}
use Rattle.sh_ir.specs.declared.types.ValueType.TheVariants.{Scalar, Tensor}
use Rattle.sh_ir.specs.Loops.{structure_of}
use Rattle.sh_ir.specs.Typing.{typing_of}
use Rattle.sh_sem.specs.Given.{built_of, cell_given, given, gives_constant, giving, shape_given}
use Rattle.sh_sharding.specs.declared.shardings.Dimension.{Dimension}
use Rattle.sh_sharding.specs.declared.shardings.Mark.TheVariants.{Balanced, Offsets}
use Rattle.sh_sharding.specs.Sharding.{IsSharding, IsDimension, unsplit, parts_of, part_of, part_size, size_of_part, offset_of, offset_at, offsets_of, local_extent, size_in, local_shape, counted_cells}
use Rattle.sh_tensor.specs.Tensor.{cells_of}
use Rattle.sh_nest_laws.specs.LoopSplits.{Operand, PlainNest, AreSplit, AreLoopsApart, IsLoop, loops_named, names, sharding_on}
use Rattle.sh_nest_laws.specs.SplitReduction.{IsSplitPart}
use Rattle.sh_nest_laws.proofs.Instances.{adds_products, fills_are, product_nest, product_of, products_are}

-- ---- loops by a list

unsplit_zero : (g : List ℕ) → IsLoop g (unsplit 0)
unfolding parts_of group_size_of on_axes offset_of part_size size_of_part offset_at
unsplit_zero g = record {
  axes = tt;
  dimension = record {
    divided = record { begins = refl; rises = λ i lt. omega arith; ends = refl };
    normal = tt;
    low = λ i lt. omega arith;
    high = λ i lt. omega arith;
    unsplit = λ e. refl;
  };
  low = refl;
  high = refl;
}

pub loops_by : (g : List ℕ) (ds : List Dimension) → AllByRecursion (IsLoop g) ds → (l : ℕ) → IsLoop g (get_or ds l (unsplit 0))
loops_by g [] h l = unsplit_zero g
loops_by g (d ∷ ds) h zero = h.0
loops_by g (d ∷ ds) h (suc l) = loops_by g ds h.1 l

-- ---- the example

abbrev grid : GridValue
grid = record { name = []; extents = 2 ∷ [] }

abbrev uneven : Dimension
uneven = record { extent = 3; axes = 0 ∷ []; mark = Offsets (0 ∷ 0 ∷ 3 ∷ []); low = 0; high = 0 }

abbrev D : ℕ → Dimension
D l = get_or (uneven ∷ []) l (unsplit 0)

abbrev vector : Operand
vector = record { dims = 0 ∷ []; width = I32 }

abbrev scalar : Operand
scalar = record { dims = []; width = I32 }

two_cases : (i : ℕ) (P : ℕ → Type 0) → P 0 → P 1 → i < 2 → P i
two_cases zero P a b lt = a
two_cases (suc zero) P a b lt = b
two_cases (suc (suc i)) P a b lt = absurd (omega (arith, lt))

is_grid : IsGrid (2 ∷ [])
is_grid = record { some = omega arith; few = omega arith; positive = λ k d lt. positive k d lt; small = omega arith }
  where
    positive : All (λ n. 0 < n) (2 ∷ [])
    positive zero d lt = omega arith
    positive (suc k) d lt = absurd (omega (arith, lt))

is_dimension : IsDimension (2 ∷ []) uneven
unfolding parts_of group_size_of on_axes offset_of part_size size_of_part offset_at offsets_of
is_dimension = record {
  divided = record { begins = refl; rises = λ i lt. two_cases i (λ i. offset_of 3 2 (Offsets (0 ∷ 0 ∷ 3 ∷ [])) i ≤ offset_of 3 2 (Offsets (0 ∷ 0 ∷ 3 ∷ [])) (i + 1)) (omega arith) (omega arith) lt; ends = refl };
  normal = (refl, λ e. absurd (bad e));
  low = λ i lt. omega arith;
  high = λ i lt. omega arith;
  unsplit = λ e. absurd (cc);
}
  where
    bad : (0 ∷ 0 ∷ 3 ∷ []) ≡ offsets_of 3 2 Balanced → ⊥
    bad e = let second : 0 ≡ 2 = ap (λ xs. get_or xs 1 0) e in omega (arith, second)

is_loop : IsLoop (2 ∷ []) uneven
is_loop = record { axes = (omega arith, tt, tt); dimension = is_dimension; low = refl; high = refl }

vector_admitted : IsSharding (sharding_on grid D (0 ∷ []))
unfolding local_extent size_in part_of parts_of part_size size_of_part offset_at offset_of place_in group_size_of on_axes
vector_admitted = record {
  grid = is_grid;
  axes = (omega arith, tt, tt);
  dimensions = (is_dimension, tt);
  short = omega arith;
  one_mark = λ h. ((refl, refl), tt);
  small = omega arith;
  fits = λ device lt. two_cases device (λ device. counted_cells (local_shape (sharding_on grid D (0 ∷ [])) device) ≤ 1048576) (omega arith) (omega arith) lt;
}

scalar_admitted : IsSharding (sharding_on grid D [])
scalar_admitted = record { grid = is_grid; axes = tt; dimensions = tt; short = omega arith; one_mark = λ h. tt; small = omega arith; fits = λ device lt. omega arith }

abbrev dot_nest : PlainNest
dot_nest = product_nest 1 vector vector scalar

-- the loop is split, and device 0 has none of its points
dot_split : AreSplit grid D dot_nest
dot_split = record {
  loop = loops_by (2 ∷ []) (uneven ∷ []) (is_loop, tt);
  inputs = (record { admitted = vector_admitted; below = (omega arith, tt) }, (record { admitted = vector_admitted; below = (omega arith, tt) }, tt));
  output = record { admitted = scalar_admitted; below = tt };
  once = tt;
  named = λ l lt. first l lt;
}
  where
    first : (l : ℕ) → l < 1 → names (loops_named dot_nest) l ≡ true
    first zero lt = refl
    first (suc l) lt = absurd (omega (arith, lt))

loops_apart : AreLoopsApart D dot_nest
loops_apart zero zero none other = absurd (other refl)
loops_apart (suc l) zero none other = (tt, tt)
loops_apart l (suc k) none other = tt

-- ---- the instructions

abbrev whole_vector : ValueType
whole_vector = Tensor (record { dims = Known 3 ∷ []; width = I32 })

abbrev local_vector : ValueType
local_vector = Tensor (record { dims = Differs ∷ []; width = I32 })

abbrev number : ValueType
number = Tensor (record { dims = []; width = I32 })

abbrev ins_outs : List ValueType → InsOuts
ins_outs ins = record { ins_count = length ins; ins_types = ins; outs_count = 1; outs_types = number ∷ [] }

abbrev op_with : OpKind → List ℕ → ℕ → ValueType → Op
op_with kind operands name result = record { kind = kind; operands = operands; defines = Some name; result = result; place = record { line = 1; column = 1 } }

abbrev whole_dot : Op
whole_dot = op_with (Dot (ins_outs (whole_vector ∷ whole_vector ∷ []))) (0 ∷ 1 ∷ 2 ∷ []) 3 number

abbrev constant : Op
constant = op_with (Constant (record { value_type = Scalar I32; contents = Held (Val 0 ∷ []) })) [] 3 (Scalar I32)

abbrev fill : Op
fill = op_with (Fill (ins_outs (Scalar I32 ∷ []))) (3 ∷ 2 ∷ []) 4 number

abbrev local_dot : Op
local_dot = op_with (Dot (ins_outs (local_vector ∷ local_vector ∷ []))) (0 ∷ 1 ∷ 4 ∷ []) 5 number

abbrev reduce : Op
reduce = op_with (AllReduce (record { on = record { grid = []; grid_axes = pos 0 ∷ [] }; reduction = Sum; operand_type = number })) (5 ∷ []) 6 number

abbrev join : Op
join = op_with (Binary Addi) (2 ∷ 6 ∷ []) 7 number

dot_part : IsSplitPart grid D dot_nest Sum (λ scalars cells. product_of I32 I32 I32 cells) whole_dot constant fill local_dot reduce join
unfolding structure_of typing_of given shape_given cell_given giving gives_constant built_of neutral_of cells_of
dot_part = record {
  split = dot_split;
  apart = loops_apart;
  has_kind = adds_products 1 vector vector scalar;
  whole = products_are (ins_outs (whole_vector ∷ whole_vector ∷ [])) 1 vector vector scalar whole_dot refl refl;
  neutral = record { gives = λ seat. refl };
  neutral_step = record { alone = refl; operands = refl; defines = refl };
  filled = fills_are (ins_outs (Scalar I32 ∷ [])) scalar fill refl refl refl;
  filled_types = record { operands = λ c lt. refl; result = λ c lt. refl };
  filled_step = record { alone = refl; operands = refl; defines = refl };
  local = products_are (ins_outs (local_vector ∷ local_vector ∷ [])) 1 vector vector scalar local_dot refl refl;
  local_types = record { operands = λ c lt. refl; result = λ c lt. refl };
  local_step = record { alone = refl; operands = refl; defines = refl };
  combination = record { reduce = _; kind = refl; reduction = refl; axes = refl; width = refl; operand = λ c lt. refl; result = λ c lt. refl };
  combined_operands = refl;
  combined_name = refl;
  joining = record { kind = refl; width = refl; result = λ c lt. refl };
  joined_step = record { alone = refl; operands = refl; defines = refl };
}
