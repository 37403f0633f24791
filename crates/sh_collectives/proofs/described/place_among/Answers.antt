use Rattle.std.proofs.Common.{sym, ◌∙◌, refl}
use Rattle.std.proofs.lemmas.Iterator.Adapters.{position_from-zero}
use Rattle.sh_ir.specs.Numbers.{as_naturals}
use Rattle.std.specs.Prelude.{nat_eq}
use Rattle.sh_collectives.proofs.DescribedLaws.{found_here, found_later}
use Rattle.sh_collectives.proofs.described.place_among.Goals as goal

pub loop-at-init : goal.loop-at-init
loop-at-init c = sym (position_from-zero (nat_eq c.args.axis) (as_naturals c.args.axes.now))

pub returns-then-is_axis : goal.returns-then-is_axis
returns-then-is_axis c =
    found_here (nat_eq c.args.axis) c.args.axes.now c.loop-at.at _ _ _ c.loop-at-test.true refl (sym c.is_axis.ensures ∙ c.if-is_axis.true) c.loop-at.invariant

pub loop-at-preserved : goal.loop-at-preserved
loop-at-preserved c =
    found_later (nat_eq c.args.axis) c.args.axes.now c.loop-at.at _ _ _ c.loop-at-test.true refl (sym c.is_axis.ensures ∙ c.if-is_axis.false) c.loop-at.invariant
