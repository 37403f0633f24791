use mathlib.Core.Path.{◌∙◌, ap, sym}
use Rattle.std.specs.Prelude.{not, ℕ}
use Rattle.sh_ir.specs.Numbers.{as_naturals}
use Rattle.sh_ir.specs.Regions.{is_among}
use Rattle.sh_iface_linalg.proofs.ListedLaws.{count_one, skip_one}
use Rattle.sh_iface_linalg.proofs.maps.unlisted_at.Goals as goal

pub loop-number-preserved-then-is_listed : goal.loop-number-preserved-then-is_listed
loop-number-preserved-then-is_listed c =
    skip_one (λ (n : ℕ). not (is_among (as_naturals c.args.listed.now) n)) c.loop-number.number c.args.bound c.loop-number.before _
    c.loop-number-test.true (ap not (sym c.is_listed.ensures ∙ c.if-is_listed.true)) c.loop-number.invariant

pub loop-number-preserved : goal.loop-number-preserved
loop-number-preserved c =
    count_one (λ (n : ℕ). not (is_among (as_naturals c.args.listed.now) n)) c.loop-number.number c.args.bound c.loop-number.before _
    c.loop-number-test.true (ap not (sym c.is_listed.ensures ∙ c.if-is_listed.false)) c.if-before-eq0.false c.loop-number.invariant
