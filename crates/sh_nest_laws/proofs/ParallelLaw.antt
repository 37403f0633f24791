-- The local part of a structured operation of which only loops of the output are split.
use Rattle.std.proofs.Common.{◌≡◌, ℕ, ◌+◌, ◌-◌, ◌<◌, Bool, false, List, [], ◌∷◌, map, length, Some, refl, ap, ◌∙◌, arith, subst}
use Rattle.std.specs.Prelude.{option_and_then, if◌then◌else◌}
use Rattle.std.specs.List.{range_with_len}
use Rattle.sh_base.specs.Shape.{cell_count}
use Rattle.sh_grid.specs.Grid.{GridValue}
use Rattle.sh_ir.specs.declared.operations.Op.{Op}
use Rattle.sh_ir.specs.declared.operations.OpKind.{OpKind}
use Rattle.sh_ir.specs.declared.operations.OpKind.TheVariants.{Constant, Binary, Compare, Select, Cast, Empty, ExtractSlice, InsertSlice, CollapseShape, ExpandShape, Fill, Matmul, BatchMatmul, Matvec, Vecmat, Dot, Conv1d, Conv2d, Transpose, Broadcast, Reduce, Generic, Sharding, Shard, AllGather, AllSlice, AllReduce, ReduceScatter, AllToAll, Shift, UpdateHalo, Take, Pad, Join, Call, Return}
use Rattle.sh_ir.specs.Classes.{class_of}
use Rattle.sh_ir.specs.Loops.{Structure, structure_of}
use Rattle.sh_pieces.specs.Instructions.{State, collected_by, gives, local_by}
use Rattle.sh_pieces.specs.Promises.{cuts, AllFit, HasCuts, IsLocalPart}
use Rattle.sh_pieces.specs.Runs.{RunsTo, HasRows}
use Rattle.sh_pieces.proofs.Parts.{one_gives}
use Rattle.sh_sem.specs.Given.{alone, given}
use Rattle.sh_sem.specs.Steps.{is_collective_class, seat_of, steps_on}
use Rattle.sh_tensor.specs.Tensor.{TensorValue}
use Rattle.sh_turns.specs.Program.{all_there}
use Rattle.sh_sharding.specs.declared.shardings.Dimension.{Dimension}
use Rattle.sh_sharding.specs.Cut.{cut_of}
use Rattle.sh_sharding.specs.Splits.{TensorSplit, tensor_splitting}
use Rattle.sh_nest_laws.specs.LoopSplits.{PlainNest, sharding_on, split_by, splits_by}
use Rattle.sh_nest_laws.specs.Parallel.{IsParallelPart}
use Rattle.sh_nest_laws.proofs.NestCut.{given_cut, result_fits}

-- a structured operation is a local instruction
pub is_local : (kind : OpKind) (s : Structure) → structure_of kind ≡ Some s → is_collective_class (class_of kind) ≡ false
unfolding structure_of
is_local (Constant x) s e = absurd (cc)
is_local (Binary x) s e = absurd (cc)
is_local (Compare x) s e = absurd (cc)
is_local (Select x) s e = absurd (cc)
is_local (Cast x) s e = absurd (cc)
is_local Empty s e = absurd (cc)
is_local (ExtractSlice x) s e = absurd (cc)
is_local (InsertSlice x) s e = absurd (cc)
is_local (CollapseShape x) s e = absurd (cc)
is_local (ExpandShape x) s e = absurd (cc)
is_local (Fill x) s e = refl
is_local (Matmul x) s e = refl
is_local (BatchMatmul x) s e = refl
is_local (Matvec x) s e = refl
is_local (Vecmat x) s e = refl
is_local (Dot x) s e = refl
is_local (Conv1d x) s e = refl
is_local (Conv2d x) s e = refl
is_local (Transpose x) s e = refl
is_local (Broadcast x) s e = refl
is_local (Reduce x) s e = refl
is_local (Generic x) s e = refl
is_local (Sharding x) s e = absurd (cc)
is_local (Shard x) s e = absurd (cc)
is_local (AllGather x) s e = absurd (cc)
is_local (AllSlice x) s e = absurd (cc)
is_local (AllReduce x) s e = absurd (cc)
is_local (ReduceScatter x) s e = absurd (cc)
is_local (AllToAll x) s e = absurd (cc)
is_local (Shift x) s e = absurd (cc)
is_local (UpdateHalo x) s e = absurd (cc)
is_local (Take x) s e = absurd (cc)
is_local (Pad x) s e = absurd (cc)
is_local (Join x) s e = absurd (cc)
is_local (Call x) s e = absurd (cc)
is_local (Return x) s e = absurd (cc)

abbrev pub HasRow : List ℕ → List ℕ → List TensorValue → State TensorValue → ℕ → Type 0
HasRow grid names row st c = all_there (map (st c) names) ≡ Some row

-- one local instruction on all its operands
pub local_gives : (grid : List ℕ) (op : Op) (st : State TensorValue) (c : ℕ) (names : List ℕ) (row : List TensorValue) (u : TensorValue) → c < cell_count grid → is_collective_class (class_of op.kind) ≡ false → op.operands ≡ names
    → HasRow grid names row st c → given op (seat_of grid op c) row ≡ Some u → gives (steps_on grid) op st c ≡ Some u
unfolding steps_on
local_gives grid op st c names row u lt alone is has value =
    ap (λ (b : Bool). if b then collected_by (steps_on grid) op c st else local_by (steps_on grid) op c (st c)) alone
    ∙ ap (λ ns. option_and_then (given op (seat_of grid op c)) (all_there (map (st c) ns))) is
    ∙ ap (option_and_then (given op (seat_of grid op c))) has
    ∙ value

module _ (g : GridValue) (D : ℕ → Dimension) (nest : PlainNest) (whole_op local_op : Op) (is : IsParallelPart g D nest whole_op local_op) where
  abbrev splits : List TensorSplit
  splits = splits_by g D nest

  gives_cut : (ts : List TensorValue) (t : TensorValue) (st : State TensorValue) (c : ℕ) → c < cell_count g.extents → AllFit tensor_splitting splits ts → given whole_op alone ts ≡ Some t
      → HasRows (steps_on g.extents) (range_with_len 0 (length splits)) (cuts tensor_splitting splits ts) st → gives (steps_on g.extents) local_op st c ≡ Some (cut_of (sharding_on g D nest.out.dims) t c)
  unfolding steps_on
  gives_cut ts t st c lt fit whole has =
      local_gives g.extents local_op st c (range_with_len 0 (length splits)) (cuts tensor_splitting splits ts c) (cut_of (sharding_on g D nest.out.dims) t c) lt
      (is_local local_op.kind is.local.structure is.local.is) is.operands (has c lt)
      (given_cut g D nest is.split is.keeps whole_op is.whole ts fit t whole c lt is.parallel local_op is.local is.types (seat_of g.extents local_op c))

  pub parallel_law : IsLocalPart (steps_on g.extents) tensor_splitting (given whole_op alone) splits (split_by g D nest.out) (local_op ∷ [])
  unfolding steps_on
  parallel_law =
      let name : length splits ≡ length splits + 1 - 1 = omega arith in
      record {
        some = omega arith;
        numbered = (is.defines, tt);
        fits = λ ts t fit whole. result_fits g D nest is.split is.keeps whole_op is.whole ts fit t whole;
        runs = λ ts t st fit whole has.
            subst (λ n. RunsTo (steps_on g.extents) (local_op ∷ []) st (HasCuts (steps_on g.extents) tensor_splitting n (split_by g D nest.out) t)) name
            (one_gives (steps_on g.extents) tensor_splitting local_op st (length splits) (split_by g D nest.out) t is.defines (λ c lt. gives_cut ts t st c lt fit whole has));
      }
