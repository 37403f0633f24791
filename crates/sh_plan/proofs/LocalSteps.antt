-- What a local instruction gives that keeps a piece of its operand along an axis, and the types of
-- cuts.
use Rattle.std.proofs.Common.{◌≡◌, ◌∙◌, ℕ, ◌+◌, ◌<◌, ◌==◌, Bool, true, false, ◌&&◌, List, [], ◌∷◌, map, length, get_or, set, Option, Some, None, refl, ap, sym, subst, arith}
use Rattle.std.specs.Prelude.{is_none, option_and_then, unwrap_or, if◌then◌else◌}
use Rattle.std.specs.List.{AllByRecursion, list_any, range_with_len}
use Rattle.std.proofs.lemmas.Bool.{and_from}
use Rattle.std.proofs.lemmas.Bool.Decides.{nat_tests}
use Rattle.sh_base.specs.declared.numbers.Cell.{Cell}
use Rattle.sh_base.specs.declared.numbers.Cell.TheVariants.{Undef}
use Rattle.sh_base.specs.declared.numbers.Width.{Width}
use Rattle.sh_base.specs.Shape.{cell_count, unflat_of}
use Rattle.sh_grid.specs.Grid.{AreAxesOf, IsGrid}
use Rattle.sh_ir.specs.Agreement.{dims_of}
use Rattle.sh_ir.specs.Typing.{typing_of}
use Rattle.sh_ir.specs.declared.operations.Op.{Op}
use Rattle.sh_ir.specs.declared.types.Dim.{Dim}
use Rattle.sh_ir.specs.declared.types.Dim.TheVariants.{Known, Differs}
use Rattle.sh_ir.specs.declared.types.ValueType.{ValueType}
use Rattle.sh_tensor.specs.Tensor.{TensorValue, at, build, slice_of}
use Rattle.sh_sem.specs.Given.{Seat, built_of, cell_given, given, gives_piece, giving, shape_given}
use Rattle.sh_sem.specs.Pieces.{Piece}
use Rattle.sh_sem.specs.Scalars.{width_of}
use Rattle.sh_sem.specs.Types.{have_extents}
use Rattle.sh_sharding.specs.declared.shardings.Dimension.{Dimension}
use Rattle.sh_sharding.specs.LocalTypes.{IsLocalDim, local_dim, local_dims}
use Rattle.sh_sharding.specs.Made.{IsState}
use Rattle.sh_sharding.specs.Sharding.{IsSharding, ShardingValue, local_extent, local_shape}
use Rattle.sh_sharding.proofs.LocalTypeLaws.{is_local_dim}
use Rattle.sh_sharding.proofs.PartLaws.{axes_of-each}

-- ---- a cut has the local type

dim_fits : (g : List ℕ) (d : Dimension) (dim : Dim) (dims : List Dim) (ns : List ℕ) (c : ℕ) → c < cell_count g → IsLocalDim g d dim → have_extents dims ns ≡ true →
    have_extents (dim ∷ dims) (local_extent g c d ∷ ns) ≡ true
dim_fits g d (Known n) dims ns c here is rest =
    let same : local_extent g c d ≡ n = is c here in
    let test : (n == local_extent g c d) ≡ true = rw same (grind (arith, nat_tests)) in
    and_from (n == local_extent g c d) (have_extents dims ns) test rest
dim_fits g d Differs dims ns c here is rest = rest

dims_fit : (g : List ℕ) (ds : List Dimension) (c : ℕ) → IsGrid g → AllByRecursion (λ d. AreAxesOf (length g) d.axes) ds → c < cell_count g →
    have_extents (map (local_dim g) ds) (map (local_extent g c) ds) ≡ true
dims_fit g [] c ok axes here = refl
dims_fit g (d ∷ ds) c ok axes here =
    dim_fits g d (local_dim g d) (map (local_dim g) ds) (map (local_extent g c) ds) c here (is_local_dim g d ok axes.0) (dims_fit g ds c ok axes.1 here)

pub has_local_dims : (s : ShardingValue) (c : ℕ) → IsSharding s → c < cell_count s.grid.extents → have_extents (local_dims s) (local_shape s c) ≡ true
has_local_dims s c ok here = dims_fit s.grid.extents s.dimensions c ok.grid (axes_of-each (length s.grid.extents) s.dimensions ok.axes) here

-- ---- a tensor of cells that are all there

none_stuck : {X : Type 0} (ks : List X) → list_any (λ k. false) ks ≡ false
none_stuck [] = refl
none_stuck (k ∷ ks) = none_stuck ks

built : (shape : List ℕ) (w : Width) (f : List ℕ → Cell) → built_of shape w (λ i. Some (f i)) ≡ Some (build shape w f)
unfolding built_of
built shape w f = rw (none_stuck (range_with_len 0 (cell_count shape))) refl

-- ---- a piece

pub record IsPieceOp (op : Op) (seat : Seat) (axis : ℕ) (piece : ℕ → Option Piece) (operand : ValueType) : Type 0 where
  pub gives : giving op.kind op.operands op.result seat ≡ Some (gives_piece axis piece)
  pub typed : typing_of op.kind op.result ≡ operand ∷ []

module _ (op : Op) (seat : Seat) (axis : ℕ) (piece : ℕ → Option Piece) (operand : ValueType) (t : TensorValue) (start size : ℕ) (is : IsPieceOp op seat axis piece operand)
    (before : have_extents (dims_of operand) t.shape ≡ true) (here : piece (get_or t.shape axis 0) ≡ Some (record { start = start; size = size }))
    (after : have_extents (dims_of op.result) (set t.shape axis size) ≡ true) where
  piece_shaped : shape_given op seat (t.shape ∷ []) ≡ Some (set t.shape axis size)
  unfolding shape_given gives_piece
  piece_shaped = rw (is.typed, is.gives) (rw before (rw here (rw after refl)))

  piece_cell_is : (i : List ℕ) → cell_given op seat (t ∷ []) (set t.shape axis size) i ≡ Some (at t (set i axis (start + get_or i axis 0)))
  unfolding cell_given gives_piece
  piece_cell_is i = rw is.gives (rw here refl)

  pub piece_given : width_of op.result ≡ t.width → given op seat (t ∷ []) ≡ Some (slice_of t axis start size)
  unfolding given
  piece_given width =
      ap (option_and_then (λ shape. built_of shape (width_of op.result) (cell_given op seat (t ∷ []) shape))) piece_shaped
      ∙ ap (built_of (set t.shape axis size) (width_of op.result)) (λ j i. piece_cell_is i j)
      ∙ built (set t.shape axis size) (width_of op.result) (λ i. at t (set i axis (start + get_or i axis 0)))
      ∙ ap (λ w. Some (build (set t.shape axis size) w (λ i. at t (set i axis (start + get_or i axis 0))))) width
