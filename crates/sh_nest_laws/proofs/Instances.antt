-- The named operations as plain nests: those that add products, which have the kind sum, and those that
-- copy cells.
use Rattle.std.proofs.Common.{◌≡◌, ℕ, List, [], ◌∷◌, Option, Some, None, refl, ap, ap₂, ◌∙◌, subst}
use Rattle.std.specs.Prelude.{length, option_map, option_and_then, slice_get}
use Rattle.std.proofs.lemmas.Option.{same_Some}
use Rattle.std.specs.List.{range_with_len}
use Rattle.sh_base.specs.declared.numbers.Cell.{Cell}
use Rattle.sh_base.specs.declared.numbers.Cell.TheVariants.{Undef, Val}
use Rattle.sh_base.specs.declared.numbers.Width.{Width}
use Rattle.sh_base.specs.declared.operations.CastOp.TheVariants.{Extsi}
use Rattle.sh_base.specs.declared.operations.BinOp.TheVariants.{Addi}
use Rattle.sh_base.specs.declared.operations.Kind.TheVariants.{Sum, Product}
use Rattle.sh_base.specs.Cells.{IsCellOf}
use Rattle.sh_int.specs.Elements.{element_of, cast_of}
use Rattle.sh_int.specs.Reduction.{combine_of}
use Rattle.sh_int.proofs.SignedLaws.{reduced-below}
use Rattle.sh_int.proofs.ReductionLaws.{combine_laws, element_of-operation_of}
use Rattle.sh_ir.specs.declared.linalg_ops.InsOuts.{InsOuts}
use Rattle.sh_ir.specs.declared.operations.Op.{Op}
use Rattle.sh_ir.specs.Loops.{single, structure_of, product, copy, product_added, output_rank}
use Rattle.sh_sem.specs.Nest.{Fixed, step_cell}
use Rattle.sh_sem.specs.Scalars.{width_of}
use Rattle.sh_nest_laws.specs.Folds.{IfThere}
use Rattle.sh_nest_laws.specs.LoopSplits.{Operand, PlainNest, IsOperationOf, KeepsWidth, AreCellsOf}
use Rattle.sh_nest_laws.specs.SplitReduction.{HasKind, fill_nest, first_of}

-- ---- products

-- the product of two cells, extended by sign
abbrev pub product_of : Width → Width → Width → List Cell → Option Cell
product_of w from other (a ∷ b ∷ []) = Some (combine_of Product w (cast_of Extsi from w a) (cast_of Extsi other w b))
product_of w from other cells = None

abbrev pub product_nest : ℕ → Operand → Operand → Operand → PlainNest
product_nest loops a b out = record {
  loops = loops;
  ins = a ∷ b ∷ [];
  out = out;
  captured = [];
  step = λ scalars cells z. option_map (λ y. combine_of Sum out.width z y) (product_of out.width a.width b.width cells);
}

step_is : (a b out : Operand) (x : Fixed) → x.widths ≡ a.width ∷ b.width ∷ [] → x.width ≡ out.width → (p : List ℕ) (cells : List Cell) (z : Cell)
    → step_cell product_added x p cells z ≡ option_map (λ y. combine_of Sum out.width z y) (product_of out.width a.width b.width cells)
step_is a b out x widths width p [] z = refl
step_is a b out x widths width p (c ∷ []) z = refl
step_is a b out x widths width p (c ∷ d ∷ []) z =
    ap₂ (λ ws v. step_cell product_added (record { widths = ws; width = v; captured = []; scalars = [] }) p (c ∷ d ∷ []) z) widths width
    ∙ ap (option_and_then (element_of Addi out.width z)) (element_of-operation_of Product out.width (cast_of Extsi a.width out.width c) (cast_of Extsi b.width out.width d))
    ∙ element_of-operation_of Sum out.width z (combine_of Product out.width (cast_of Extsi a.width out.width c) (cast_of Extsi b.width out.width d))
step_is a b out x widths width p (c ∷ d ∷ e ∷ cells) z = refl

-- matmul, batch_matmul, matvec, vecmat and dot
pub products_are : (x : InsOuts) (loops : ℕ) (a b out : Operand) (op : Op) → structure_of op.kind ≡ Some (product x loops (single a.dims) (single b.dims) (single out.dims)) → width_of op.result ≡ out.width
    → IsOperationOf (product_nest loops a b out) op
products_are x loops a b out op is width = record {
  structure = product x loops (single a.dims) (single b.dims) (single out.dims);
  is = is;
  loops = refl;
  inputs = refl;
  output = refl;
  step = λ fixed widths w names p cells z. step_is a b out fixed widths w p cells z;
  width = width;
}

extended : (from w : Width) (a : Cell) → IsCellOf w (cast_of Extsi from w a)
unfolding cast_of
extended from w Undef = tt
extended from w (Val x) = reduced-below w _

pub adds_products : (loops : ℕ) (a b out : Operand) → HasKind Sum (product_nest loops a b out) (λ scalars cells. product_of out.width a.width b.width cells)
adds_products loops a b out = record { combines = λ scalars cells z oks ok iz. refl; valid = λ scalars cells oks ok. valid cells ok }
  where
    valid : (cells : List Cell) → AreCellsOf (a.width ∷ b.width ∷ []) cells → IfThere (IsCellOf out.width) (product_of out.width a.width b.width cells)
    valid [] ok = tt
    valid (x ∷ []) ok = tt
    valid (x ∷ y ∷ []) ok = (combine_laws Product out.width).closed _ _ (extended a.width out.width x) (extended b.width out.width y)
    valid (x ∷ y ∷ c ∷ cells) ok = tt

-- ---- copies

abbrev pub copy_nest : ℕ → List ℕ → Width → PlainNest
copy_nest rank dims w = record {
  loops = rank;
  ins = record { dims = dims; width = w } ∷ [];
  out = record { dims = range_with_len 0 rank; width = w };
  captured = [];
  step = λ scalars cells z. slice_get cells 0;
}

-- fill, transpose and broadcast
pub copies_are : (x : InsOuts) (dims : List ℕ) (w : Width) (op : Op) → structure_of op.kind ≡ Some (copy x (single dims)) → width_of op.result ≡ w → IsOperationOf (copy_nest (output_rank x) dims w) op
copies_are x dims w op is width = record {
  structure = copy x (single dims);
  is = is;
  loops = refl;
  inputs = refl;
  output = refl;
  step = λ fixed widths v names p cells z. refl;
  width = width;
}

pub copies_keep : (rank : ℕ) (dims : List ℕ) (w : Width) → KeepsWidth (copy_nest rank dims w)
copies_keep rank dims w scalars [] z y oks ok iz e = absurd (cc)
copies_keep rank dims w scalars (c ∷ cells) z y oks ok iz e = subst (IsCellOf w) (same_Some c y e) ok.0

-- a fill as the nest of the split reduction's law has it
pub fills_are : (x : InsOuts) (out : Operand) (op : Op) → structure_of op.kind ≡ Some (copy x []) → output_rank x ≡ length out.dims → width_of op.result ≡ out.width → IsOperationOf (fill_nest out) op
fills_are x out op is rank width = record {
  structure = copy x [];
  is = is;
  loops = rank;
  inputs = refl;
  output = ap (λ n. single (range_with_len 0 n)) rank;
  step = λ fixed widths v names p cells z. first cells;
  width = width;
}
  where
    first : (cells : List Cell) → slice_get cells 0 ≡ first_of cells
    first [] = refl
    first (c ∷ cells) = refl
