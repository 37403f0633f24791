-- That a structured operation is in order is a fact, with at most one proof.
use Rattle.std.proofs.Common.{ℕ, ◌<◌, List, [], ◌∷◌, ◌++◌, Option, Some}
use Rattle.std.specs.List.{AllByRecursion, AllByRecursion-prop}
use mathlib.Core.Bool.{Bool-set}
use mathlib.Core.List.{is_set}
use base.Stored.{Coded-set}
use Rattle.sh_base.specs.contracts.numbers.Width as width
use Rattle.sh_base.specs.declared.numbers.Width.{Width}
use Rattle.std.proofs.Math.Bridge.{le_prop}
use Rattle.std.proofs.Math.Nat.{ℕ_set}
use Rattle.sh_grid.specs.Grid.{AreAxesOf, IsNoneOf}
use Rattle.sh_nest_laws.specs.LoopSplits.{Operand}
use Rattle.sh_ir.specs.declared.bodies.BodyOp.{BodyOp}
use Rattle.sh_ir.specs.declared.linalg_ops.AffineMap.{AffineMap}
use Rattle.sh_ir.specs.declared.linalg_ops.IteratorType.{IteratorType}
use Rattle.sh_ir.specs.declared.types.ValueType.{ValueType}
use Rattle.sh_iface_linalg.specs.Bodies.{AreDifferent, AreSoundOps, AreTypedAt, IsRegion, IsSoundOp, Region}
use Rattle.sh_iface_linalg.specs.Structured.{AreMaps, FitsNumbers, FitsRegion, FitsWidths, Form, IsFollowing, IsStructured, Structured}
use Rattle.sh_iface_linalg.specs.Structured.{fill, matmul, batch_matmul, matvec, vecmat, dot, transpose, broadcast, reduce, generic}

none_of-prop : (a : ℕ) (axes : List ℕ) → IsProp (IsNoneOf a axes)
none_of-prop a [] = hlevel
none_of-prop a (b ∷ axes) = hlevel (none_of-prop a axes)

below-prop : (a b : ℕ) → IsProp (a < b)
below-prop a b = le_prop

axes_of-prop : (rank : ℕ) (axes : List ℕ) → IsProp (AreAxesOf rank axes)
axes_of-prop rank [] = hlevel
axes_of-prop rank (a ∷ axes) = hlevel (below-prop a rank, none_of-prop a axes, axes_of-prop rank axes)

width-set : IsSet Width
width-set = Coded-set width.the_row.coded

widths-set : IsSet (List Width)
widths-set = is_set width-set

shape-set : IsSet (List ℕ)
shape-set = is_set ℕ_set

shapes-set : IsSet (List (List ℕ))
shapes-set = is_set shape-set

fits_widths-prop : (form : Form) (w : Width) (ws : List Width) → IsProp (FitsWidths form w ws)
fits_widths-prop fill w ws = hlevel widths-set
fits_widths-prop matmul w ws = hlevel Bool-set
fits_widths-prop batch_matmul w ws = hlevel Bool-set
fits_widths-prop matvec w ws = hlevel Bool-set
fits_widths-prop vecmat w ws = hlevel Bool-set
fits_widths-prop dot w ws = hlevel Bool-set
fits_widths-prop (transpose p) w ws = hlevel widths-set
fits_widths-prop (broadcast d) w ws = hlevel widths-set
fits_widths-prop (reduce n d r) w ws = hlevel
fits_widths-prop (generic maps its r) w ws = hlevel

maps-prop : (maps : List AffineMap) (its : List IteratorType) → IsProp (AreMaps maps its)
maps-prop maps its = hlevel (ℕ_set, Bool-set, le_prop)

fits_numbers-prop : (form : Form) (f r : ℕ) → IsProp (FitsNumbers form f r)
fits_numbers-prop fill f r = hlevel
fits_numbers-prop matmul f r = hlevel
fits_numbers-prop batch_matmul f r = hlevel
fits_numbers-prop matvec f r = hlevel
fits_numbers-prop vecmat f r = hlevel
fits_numbers-prop dot f r = hlevel
fits_numbers-prop (transpose p) f r = hlevel (ℕ_set, Bool-set)
fits_numbers-prop (broadcast d) f r = hlevel (ℕ_set, Bool-set)
fits_numbers-prop (reduce n d b) f r = hlevel (ℕ_set, Bool-set)
fits_numbers-prop (generic maps its b) f r = maps-prop maps its

-- ---- regions

typed_at-prop : (types : List ValueType) (names : List (Option ℕ)) (ts : List ValueType) (operands : List ℕ) → IsProp (AreTypedAt types names ts operands)
typed_at-prop types names [] [] = hlevel
typed_at-prop types names [] (n ∷ operands) = hlevel
typed_at-prop types names (t ∷ ts) [] = hlevel
typed_at-prop types names (t ∷ ts) (n ∷ operands) = hlevel (Bool-set, typed_at-prop types names ts operands)

sound_op-prop : (types : List ValueType) (names : List (Option ℕ)) (op : BodyOp) → IsProp (IsSoundOp types names op)
sound_op-prop types names op = hlevel (Bool-set, typed_at-prop)

sound_ops-prop : (types : List ValueType) (names : List (Option ℕ)) (ops : List BodyOp) → IsProp (AreSoundOps types names ops)
sound_ops-prop types names [] = hlevel
sound_ops-prop types names (op ∷ ops) = hlevel (sound_op-prop types names op, sound_ops-prop (types ++ op.result ∷ []) (names ++ Some op.defines ∷ []) ops)

different-prop : (names : List ℕ) → IsProp (AreDifferent names)
different-prop [] = hlevel
different-prop (name ∷ names) = hlevel (Bool-set, different-prop names)

region-prop : (r : Region) (scalars ins : List Width) (w : Width) → IsProp (IsRegion r scalars ins w)
region-prop r scalars ins w = hlevel (ℕ_set, Bool-set, width-set, widths-set, sound_ops-prop, different-prop)

fits_region-prop : (form : Form) (scalars ins : List Width) (w : Width) → IsProp (FitsRegion form scalars ins w)
fits_region-prop fill scalars ins w = hlevel widths-set
fits_region-prop matmul scalars ins w = hlevel widths-set
fits_region-prop batch_matmul scalars ins w = hlevel widths-set
fits_region-prop matvec scalars ins w = hlevel widths-set
fits_region-prop vecmat scalars ins w = hlevel widths-set
fits_region-prop dot scalars ins w = hlevel widths-set
fits_region-prop (transpose p) scalars ins w = hlevel widths-set
fits_region-prop (broadcast d) scalars ins w = hlevel widths-set
fits_region-prop (reduce n d r) scalars ins w = region-prop r scalars ins w
fits_region-prop (generic maps its r) scalars ins w = region-prop r scalars ins w

loops-prop : (n : ℕ) (dims : List ℕ) → IsProp (AllByRecursion (λ l. l < n) dims)
loops-prop n dims = AllByRecursion-prop (λ l. l < n) (λ l. le_prop) dims

following-prop : (extents : List ℕ) (x : Operand) → IsProp (IsFollowing extents x)
following-prop extents x = hlevel (le_prop, loops-prop)

ins-prop : (extents : List ℕ) (ins : List Operand) → IsProp (AllByRecursion (IsFollowing extents) ins)
ins-prop extents ins = AllByRecursion-prop (IsFollowing extents) (following-prop extents) ins

pub structured-prop : (e : Structured) → IsProp (IsStructured e)
structured-prop e = hlevel (ℕ_set, Bool-set, shape-set, shapes-set, le_prop, axes_of-prop, fits_widths-prop, fits_numbers-prop, fits_region-prop, ins-prop, following-prop)
