use Rattle.std.proofs.Common.{◌≡◌, ◌∙◌, sym, refl, true}
use Rattle.sh_sharding.specs.Sharding.{dimension_of, is_even}
use Rattle.sh_sharding.proofs.Cases.{not_both}
use Rattle.sh_plan.proofs.States.{even_is}
use Rattle.sh_plan.proofs.Unused.{same}
use Rattle.sh_plan.proofs.allowed.may_go.Goals as goal
use Rattle.sh_plan.proofs.allowed.may_go.Goals.{then-from-to, else-from-to}

pub may_be_appended-requires-clause-axis : goal.may_be_appended-requires-clause-axis
may_be_appended-requires-clause-axis c =
    let even : is_even c.args.s.now.grid.extents (dimension_of c.args.s.now c.args.from) ≡ true = elim c.if-from-to.branch [
      | then-from-to w ↦ sym w.is_even.ensures ∙ sym w.value-is ∙ c.if-is_even.true
      | else-from-to w ↦ absurd (not_both c.if-from-to.value c.if-is_even.true (w.value-is ∙ rw (w.if-from-to.false, same c.args.to) refl))
    ] in
    c.last_axis_along.ensures.within (even_is c.args.s.now.grid.extents (dimension_of c.args.s.now c.args.from) even).split
