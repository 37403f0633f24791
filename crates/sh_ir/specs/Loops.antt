-- The structured operations: their loops, their maps, and what they do at one loop point.
use Rattle.std.specs.Prelude.{ℕ, List, [], ◌∷◌, Option, Some, None, not, length, map, filter, take, drop, nat_eq}
use Rattle.std.specs.List.{range_with_len, position_or_len}
use Rattle.sh_ir.specs.declared.bodies.Body.{Body}
use Rattle.sh_ir.specs.declared.linalg_ops.AffineMap.{AffineMap}
use Rattle.sh_ir.specs.declared.linalg_ops.Broadcast as declared_broadcast
use Rattle.sh_ir.specs.declared.linalg_ops.Generic as declared_generic
use Rattle.sh_ir.specs.declared.linalg_ops.InsOuts.{InsOuts}
use Rattle.sh_ir.specs.declared.linalg_ops.Reduce as declared_reduce
use Rattle.sh_ir.specs.declared.linalg_ops.Transpose as declared_transpose
use Rattle.sh_ir.specs.declared.operations.OpKind.{OpKind}
use Rattle.sh_ir.specs.declared.operations.OpKind.TheVariants.{Constant, Binary, Compare, Select, Cast, Empty, ExtractSlice, InsertSlice, CollapseShape, ExpandShape, Fill, Matmul, BatchMatmul, Matvec, Vecmat, Dot, Conv1d, Conv2d, Transpose, Broadcast, Reduce, Generic, Sharding, Shard, AllGather, AllSlice, AllReduce, ReduceScatter, AllToAll, Shift, UpdateHalo, Take, Pad, Join, Call, Return}
use Rattle.sh_ir.specs.Agreement.{rank_of}
use Rattle.sh_ir.specs.Numbers.{as_naturals}
use Rattle.sh_ir.specs.Regions.{is_among}
use Rattle.sh_ir.specs.Written.{first_type}

-- What is done at a loop point: the next value of the output's cell.
pub data Step : Type 0 where
  copied : Step  -- the input's cell
  product_added : Step  -- the output's plus the product of the inputs', extended by sign to its width
  by_region : Body → Step  -- what the region yields

-- How an operand follows the loops: for each dimension those whose coordinates its index sums. All
-- but the inputs of convolutions have one loop a dimension.
abbrev pub LoopMap : Type 0
LoopMap = List (List ℕ)

-- A structured operation.
pub record Structure : Type 0 where
  pub ins_outs : InsOuts
  pub loops : ℕ  -- how many
  pub inputs : List LoopMap  -- of each input
  pub output : LoopMap
  pub step : Step

-- ---- maps

-- each dimension follows one loop
abbrev pub single : List ℕ → LoopMap
single loops = map (λ l. l ∷ []) loops

-- dimension i follows loop i
abbrev pub identity_map : ℕ → LoopMap
identity_map rank = single (range_with_len 0 rank)

-- the numbers below a bound that aren't listed
abbrev pub unlisted : ℕ → List ℕ → List ℕ
unlisted bound listed = filter (λ n. not (is_among listed n)) (range_with_len 0 bound)

-- where each number below the bound stands in the list
abbrev pub places_in : ℕ → List ℕ → List ℕ
places_in bound numbers = map (λ n. position_or_len (nat_eq n) numbers) (range_with_len 0 bound)

-- the ranks of the first input and of the output, as they are written
abbrev pub input_rank : InsOuts → ℕ
input_rank x = rank_of (first_type x.ins_types)

abbrev pub output_rank : InsOuts → ℕ
output_rank x = rank_of (first_type x.outs_types)

-- ---- one entry an operation

-- two inputs, whose product is added
abbrev pub product : InsOuts → ℕ → LoopMap → LoopMap → LoopMap → Structure
product x loops first second output = record {
  ins_outs = x;
  loops = loops;
  inputs = first ∷ second ∷ [];
  output = output;
  step = product_added;
}

-- one input, whose cells are copied; a loop for each dimension of the output
abbrev pub copy : InsOuts → LoopMap → Structure
copy x input = record {
  ins_outs = x;
  loops = output_rank x;
  inputs = input ∷ [];
  output = identity_map (output_rank x);
  step = copied;
}

-- the loops m, n, k
abbrev pub matmul_structure : InsOuts → Structure
matmul_structure x = product x 3 (single (0 ∷ 2 ∷ [])) (single (2 ∷ 1 ∷ [])) (single (0 ∷ 1 ∷ []))

-- the loops b, m, n, k
abbrev pub batch_matmul_structure : InsOuts → Structure
batch_matmul_structure x =
    product x 4 (single (0 ∷ 1 ∷ 3 ∷ [])) (single (0 ∷ 3 ∷ 2 ∷ [])) (single (0 ∷ 1 ∷ 2 ∷ []))

-- the loops m, k
abbrev pub matvec_structure : InsOuts → Structure
matvec_structure x = product x 2 (single (0 ∷ 1 ∷ [])) (single (1 ∷ [])) (single (0 ∷ []))

-- the loops n, k
abbrev pub vecmat_structure : InsOuts → Structure
vecmat_structure x = product x 2 (single (1 ∷ [])) (single (1 ∷ 0 ∷ [])) (single (0 ∷ []))

-- the loop k
abbrev pub dot_structure : InsOuts → Structure
dot_structure x = product x 1 (single (0 ∷ [])) (single (0 ∷ [])) []

-- the loops w, k
abbrev pub conv_1d_structure : InsOuts → Structure
conv_1d_structure x = product x 2 ((0 ∷ 1 ∷ []) ∷ []) (single (1 ∷ [])) (single (0 ∷ []))

-- the loops h, w, i, j
abbrev pub conv_2d_structure : InsOuts → Structure
conv_2d_structure x =
    product x 4 ((0 ∷ 2 ∷ []) ∷ (1 ∷ 3 ∷ []) ∷ []) (single (2 ∷ 3 ∷ [])) (single (0 ∷ 1 ∷ []))

-- dimension `permutation[i]` of the input follows loop i
abbrev pub transpose_structure : declared_transpose.Transpose → Structure
transpose_structure x =
    copy x.ins_outs (single (places_in (input_rank x.ins_outs) (as_naturals x.permutation)))

-- the input has the output's dimensions that aren't listed
abbrev pub broadcast_structure : declared_broadcast.Broadcast → Structure
broadcast_structure x =
    copy x.ins_outs (single (unlisted (output_rank x.ins_outs) (as_naturals x.dimensions)))

-- a loop for each dimension of the input; the output has those that aren't listed
abbrev pub reduce_structure : declared_reduce.Reduce → Structure
reduce_structure x = record {
  ins_outs = x.ins_outs;
  loops = input_rank x.ins_outs;
  inputs = identity_map (input_rank x.ins_outs) ∷ [];
  output = single (unlisted (input_rank x.ins_outs) (as_naturals x.dimensions));
  step = by_region x.body;
}

-- what the first map sends the loops to; nothing where there is no map
abbrev pub first_results : List AffineMap → List ℕ
first_results [] = []
first_results (m ∷ maps) = m.results

-- the maps as they are written, the output's last
abbrev pub generic_structure : declared_generic.Generic → Structure
generic_structure x = record {
  ins_outs = x.ins_outs;
  loops = length x.iterator_types;
  inputs = map (λ m. single m.results) (take x.ins_outs.ins_count x.indexing_maps);
  output = single (first_results (drop x.ins_outs.ins_count x.indexing_maps));
  step = by_region x.body;
}

unfoldable pub structure_of : OpKind → Option Structure
structure_of (Fill x) = Some (copy x [])
structure_of (Matmul x) = Some (matmul_structure x)
structure_of (BatchMatmul x) = Some (batch_matmul_structure x)
structure_of (Matvec x) = Some (matvec_structure x)
structure_of (Vecmat x) = Some (vecmat_structure x)
structure_of (Dot x) = Some (dot_structure x)
structure_of (Conv1d x) = Some (conv_1d_structure x)
structure_of (Conv2d x) = Some (conv_2d_structure x)
structure_of (Transpose x) = Some (transpose_structure x)
structure_of (Broadcast x) = Some (broadcast_structure x)
structure_of (Reduce x) = Some (reduce_structure x)
structure_of (Generic x) = Some (generic_structure x)
structure_of (Constant x) = None
structure_of (Binary x) = None
structure_of (Compare x) = None
structure_of (Select x) = None
structure_of (Cast x) = None
structure_of Empty = None
structure_of (ExtractSlice x) = None
structure_of (InsertSlice x) = None
structure_of (CollapseShape x) = None
structure_of (ExpandShape x) = None
structure_of (Sharding x) = None
structure_of (Shard x) = None
structure_of (AllGather x) = None
structure_of (AllSlice x) = None
structure_of (AllReduce x) = None
structure_of (ReduceScatter x) = None
structure_of (AllToAll x) = None
structure_of (Shift x) = None
structure_of (UpdateHalo x) = None
structure_of (Take x) = None
structure_of (Pad x) = None
structure_of (Join x) = None
structure_of (Call x) = None
structure_of (Return x) = None

-- the generic that an operation is, if it is one
unfoldable pub generic_of : OpKind → Option declared_generic.Generic
generic_of (Constant x) = None
generic_of (Binary x) = None
generic_of (Compare x) = None
generic_of (Select x) = None
generic_of (Cast x) = None
generic_of Empty = None
generic_of (ExtractSlice x) = None
generic_of (InsertSlice x) = None
generic_of (CollapseShape x) = None
generic_of (ExpandShape x) = None
generic_of (Fill x) = None
generic_of (Matmul x) = None
generic_of (BatchMatmul x) = None
generic_of (Matvec x) = None
generic_of (Vecmat x) = None
generic_of (Dot x) = None
generic_of (Conv1d x) = None
generic_of (Conv2d x) = None
generic_of (Transpose x) = None
generic_of (Broadcast x) = None
generic_of (Reduce x) = None
generic_of (Generic x) = Some x
generic_of (Sharding x) = None
generic_of (Shard x) = None
generic_of (AllGather x) = None
generic_of (AllSlice x) = None
generic_of (AllReduce x) = None
generic_of (ReduceScatter x) = None
generic_of (AllToAll x) = None
generic_of (Shift x) = None
generic_of (UpdateHalo x) = None
generic_of (Take x) = None
generic_of (Pad x) = None
generic_of (Join x) = None
generic_of (Call x) = None
generic_of (Return x) = None
