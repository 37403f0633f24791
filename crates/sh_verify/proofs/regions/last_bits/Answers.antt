use mathlib.Core.Path.{◌∙◌, ap, sym}
use Rattle.std.proofs.Common.{◌≡◌, ◌-◌, length}
use Rattle.std.specs.Prelude.{Some, None, slice_get}
use Rattle.std.specs.Option.{option_copied}
use Rattle.sh_ir.specs.Typing.{operand_types}
use Rattle.sh_verify.proofs.RegionLaws.{last_typed, no_last}
use Rattle.sh_verify.proofs.regions.last_bits.Goals as goal

pub returns-in-Some : goal.returns-in-Some
returns-in-Some c =
    let types = operand_types c.args.x.now in
    let got : slice_get types (length types - 1) ≡ Some c.in-Some.value_type.now =
    ap (λ n. slice_get types (n - 1)) (sym c.requires) ∙ (sym c.operand_type.ensures ∙ ap option_copied c.in-Some.is) in
    c.cell_bits.ensures ∙ sym (last_typed types c.in-Some.value_type.now got)

pub returns-in-None : goal.returns-in-None
returns-in-None c =
    let types = operand_types c.args.x.now in
    let got : slice_get types (length types - 1) ≡ None =
    ap (λ n. slice_get types (n - 1)) (sym c.requires) ∙ (sym c.operand_type.ensures ∙ ap option_copied c.in-None.is) in
    sym (no_last types got)
