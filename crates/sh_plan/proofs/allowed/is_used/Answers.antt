use Rattle.std.proofs.Common.{◌≡◌, ◌∙◌}
use Rattle.std.specs.List.{list_any}
use Rattle.sh_plan.specs.Moves.{is_listed}
use Rattle.sh_plan.proofs.MoveSteps.{listed_in}
use Rattle.sh_plan.proofs.allowed.is_used.Goals as goal

pub returns : goal.returns
returns c =
    let some : c.splits_some.result ≡ list_any (λ d. is_listed c.args.axis d.axes) c.args.s.now.dimensions = rw c.dimensions.ensures.value at c.splits_some.ensures in
    some ∙ listed_in c.args.axis c.args.s.now.dimensions
