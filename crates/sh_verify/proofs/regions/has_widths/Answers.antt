use mathlib.Core.Path.{◌∙◌, ap, sym}
use Rattle.std.proofs.Common.{◌≡◌, ◌+◌, ◌&&◌, true, false, drop, nat_eq, eq-eqb}
use Rattle.std.specs.Prelude.{Some, get_or, slice_get}
use Rattle.std.specs.Cmp.Lexicographic.{pointwise}
use Rattle.std.specs.Option.{option_copied}
use Rattle.std.proofs.lemmas.Bool.{ne_eqb}
use Rattle.sh_base.specs.Cells.{bits_of}
use Rattle.sh_base.specs.declared.numbers.Width.TheVariants.{I1}
use Rattle.sh_ir.specs.Agreement.{cell_bits}
use Rattle.sh_ir.specs.Typing.{operand_types}
use Rattle.sh_verify.proofs.RegionLaws.{width_ends, width_next}
use Rattle.sh_verify.proofs.regions.has_widths.Goals as goal

pub returns-then-bits-cell_bits : goal.returns-then-bits-cell_bits
returns-then-bits-cell_bits c =
    let widths = c.args.widths.now in
    let types = operand_types c.args.x.now in
    let differ : false ≡ nat_eq (bits_of (get_or widths c.loop-at.at I1)) (cell_bits c.in-Some.value_type.now) =
    sym (ne_eqb _ _ (λ same. c.if-bits-cell_bits.true (c.bits.ensures ∙ (same ∙ sym c.cell_bits.ensures)))) in
    width_next widths types c.loop-at.at c.in-Some.value_type.now false _ c.loop-at-test.true
    (sym c.operand_type.ensures ∙ ap option_copied c.in-Some.is) differ c.loop-at.invariant

pub returns-in-None : goal.returns-in-None
returns-in-None c =
    width_ends c.args.widths.now (operand_types c.args.x.now) c.loop-at.at _ c.loop-at-test.true
    (sym c.operand_type.ensures ∙ ap option_copied c.in-None.is) c.loop-at.invariant

pub loop-at-preserved : goal.loop-at-preserved
loop-at-preserved c =
    let widths = c.args.widths.now in
    let types = operand_types c.args.x.now in
    let same : true ≡ nat_eq (bits_of (get_or widths c.loop-at.at I1)) (cell_bits c.in-Some.value_type.now) =
    sym (eq-eqb _ _ (sym c.bits.ensures ∙ (c.if-bits-cell_bits.false ∙ c.cell_bits.ensures))) in
    width_next widths types c.loop-at.at c.in-Some.value_type.now true _ c.loop-at-test.true
    (sym c.operand_type.ensures ∙ ap option_copied c.in-Some.is) same c.loop-at.invariant
