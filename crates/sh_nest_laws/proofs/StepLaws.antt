-- Sums of products have the kind of a sum, and regions of a kind have it as steps.
use Rattle.std.proofs.Common.{◌≡◌, ℕ, suc, ◌+◌, List, [], ◌∷◌, ◌++◌, length, get_or, Option, Some, None, refl, ap, ap₂, sym, ◌∙◌, subst}
use Rattle.std.specs.Prelude.{option_and_then, option_map}
use Rattle.std.proofs.lemmas.List.{length-append}
use Rattle.sh_base.specs.declared.numbers.Cell.{Cell}
use Rattle.sh_base.specs.declared.numbers.Cell.TheVariants.{Undef, Val}
use Rattle.sh_base.specs.declared.numbers.Width.{Width}
use Rattle.sh_base.specs.declared.operations.BinOp.TheVariants.{Addi}
use Rattle.sh_base.specs.declared.operations.CastOp.TheVariants.{Extsi}
use Rattle.sh_base.specs.declared.operations.Kind.{Kind}
use Rattle.sh_base.specs.declared.operations.Kind.TheVariants.{Product, Sum}
use Rattle.sh_base.specs.Cells.{IsCellOf}
use Rattle.sh_int.specs.Elements.{cast_of, element_of}
use Rattle.sh_int.specs.Reduction.{combine_of}
use Rattle.sh_int.proofs.ReductionLaws.{combine_laws, element_of-operation_of}
use Rattle.sh_int.proofs.SignedLaws.{reduced-below}
use Rattle.sh_ir.specs.declared.bodies.Body.{Body}
use Rattle.sh_ir.specs.Loops.{product_added, by_region}
use Rattle.sh_sem.specs.Nest.{Fixed, step_cell}
use Rattle.sh_sem.specs.Region.{PlacedBody, placed, region_cell}
use Rattle.sh_nest_laws.specs.Folds.{IfThere}
use Rattle.sh_nest_laws.specs.LoopSplits.{AreCellsOf, Operand, PlainNest, widths_of}
use Rattle.sh_nest_laws.specs.SplitReduction.{HasKind}
use Rattle.sh_nest_laws.specs.RegionKinds.{ArePointFree, HasBodyKind, term_of}
use Rattle.sh_nest_laws.specs.StepKinds.{adding_products, product_of, yielding}
use Rattle.sh_nest_laws.proofs.RegionLaws.{combines_term, same_at_points}

-- ---- sums of products

extended : (from w : Width) (a : Cell) → IsCellOf w (cast_of Extsi from w a)
unfolding cast_of
extended from w Undef = tt
extended from w (Val x) = reduced-below w _

abbrev products_nest : ℕ → Operand → Operand → Operand → PlainNest
products_nest loops a b out = record { loops = loops; ins = a ∷ b ∷ []; out = out; captured = []; step = adding_products a.width b.width out.width }

pub adds_products : (loops : ℕ) (a b out : Operand) → HasKind Sum (products_nest loops a b out) (λ scalars cells. product_of a.width b.width out.width cells)
adds_products loops a b out = record { combines = λ scalars cells z oks ok iz. added z (product_of a.width b.width out.width cells); valid = λ scalars cells oks ok. within cells }
  where
    added : (z : Cell) (o : Option Cell) → option_and_then (element_of Addi out.width z) o ≡ option_map (λ y. combine_of Sum out.width z y) o
    added z None = refl
    added z (Some y) = element_of-operation_of Sum out.width z y

    within : (cells : List Cell) → IfThere (IsCellOf out.width) (product_of a.width b.width out.width cells)
    within [] = tt
    within (x ∷ []) = tt
    within (x ∷ y ∷ []) =
        let u = cast_of Extsi a.width out.width x in let v = cast_of Extsi b.width out.width y in
        subst (IfThere (IsCellOf out.width)) (sym (element_of-operation_of Product out.width u v)) ((combine_laws Product out.width).closed u v (extended a.width out.width x) (extended b.width out.width y))
    within (x ∷ y ∷ c ∷ cells) = tt

-- the step of such an operation is that
pub products_step : (x : Fixed) (v u : Width) → x.widths ≡ v ∷ u ∷ [] → (p : List ℕ) (cells : List Cell) (z : Cell) → step_cell product_added x p cells z ≡ adding_products v u x.width x.scalars cells z
products_step x v u widths p [] z = refl
products_step x v u widths p (a ∷ []) z = refl
products_step x v u widths p (a ∷ b ∷ []) z = ap (λ ws. option_and_then (element_of Addi x.width z) (product_of (get_or ws 0 x.width) (get_or ws 1 x.width) x.width (a ∷ b ∷ []))) widths
products_step x v u widths p (a ∷ b ∷ c ∷ cells) z = refl

-- ---- regions

length_cells : (ws : List Width) (cells : List Cell) → AreCellsOf ws cells → length cells ≡ length ws
length_cells [] [] ok = refl
length_cells [] (cell ∷ cells) ok = absurd ok
length_cells (w ∷ ws) [] ok = absurd ok
length_cells (w ∷ ws) (cell ∷ cells) ok = ap (λ n. suc n) (length_cells ws cells ok.1)

-- What the rules have to give besides the kind: the term is a cell of the output's width.
pub region_kind : (k : Kind) (loops : ℕ) (ins : List Operand) (out : Operand) (captured : List Width) (body : PlacedBody) (has : HasBodyKind k out.width (length captured + length (widths_of ins)) body)
    → ((scalars cells : List Cell) → AreCellsOf captured scalars → AreCellsOf (widths_of ins) cells → IfThere (IsCellOf out.width) (term_of body has.other [] (scalars ++ cells)))
    → HasKind k (record { loops = loops; ins = ins; out = out; captured = captured; step = yielding body }) (λ scalars cells. term_of body has.other [] (scalars ++ cells))
region_kind k loops ins out captured body has valid = record {
  combines = λ scalars cells z oks ok iz.
      let long : length captured + length (widths_of ins) ≡ length (scalars ++ cells) =
      ap₂ (λ m n. m + n) (sym (length_cells captured scalars oks)) (sym (length_cells (widths_of ins) cells ok)) ∙ sym (length-append scalars cells) in
      at_length (length captured + length (widths_of ins)) (scalars ++ cells) z long has iz (valid scalars cells oks ok);
  valid = valid;
}
  where
    at_length : (n : ℕ) (xs : List Cell) (z : Cell) → n ≡ length xs → (h : HasBodyKind k out.width n body) → IsCellOf out.width z → IfThere (IsCellOf out.width) (term_of body h.other [] xs)
        → region_cell body [] (xs ++ z ∷ []) ≡ option_map (λ y. combine_of k out.width z y) (term_of body h.other [] xs)
    at_length n xs z e =
        subst (λ m. (h : HasBodyKind k out.width m body) → IsCellOf out.width z → IfThere (IsCellOf out.width) (term_of body h.other [] xs)
        → region_cell body [] (xs ++ z ∷ []) ≡ option_map (λ y. combine_of k out.width z y) (term_of body h.other [] xs)) (sym e)
        (λ h iz fits. combines_term k out.width body [] xs z h iz fits)

-- the step of a region without coordinates is that
pub region_step : (body : Body) (x : Fixed) → ArePointFree (placed x.captured body).ops → (p : List ℕ) (cells : List Cell) (z : Cell) → step_cell (by_region body) x p cells z ≡ yielding (placed x.captured body) x.scalars cells z
region_step body x free p cells z = same_at_points (placed x.captured body) p [] (x.scalars ++ cells ++ z ∷ []) free
