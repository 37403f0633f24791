use Rattle.std.proofs.Common.{◌∙◌, sym}
use Rattle.sh_names.specs.Tables.{mention}
use Rattle.sh_names.proofs.Regions.{not_outside, used_inside}
use Rattle.sh_names.proofs.numbers.Numbers.region_of_use.Goals as goal

pub returns-then-has_other : goal.returns-then-has_other
returns-then-has_other c = λ before r known.
    used_inside c.args.self.now.definers (mention r c.args.text.now c.args.scope) _ (not_outside _ c.if-not-scope.false)
    (sym c.if-has_other.true ∙ c.has_other.ensures) before known

pub returns-else-has_other : goal.returns-else-has_other
returns-else-has_other c = λ before r known.
    used_inside c.args.self.now.definers (mention r c.args.text.now c.args.scope) _ (not_outside _ c.if-not-scope.false)
    (sym c.if-has_other.false ∙ c.has_other.ensures) before known
