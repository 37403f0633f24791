use Rattle.std.proofs.Common.{◌∙◌, ap}
use Rattle.sh_names.specs.Tables.{added}
use Rattle.sh_names.proofs.Defining.{adds_step}
use Rattle.sh_names.proofs.definers.Definers.define.Goals as goal

pub returns : goal.returns
returns c =
    adds_step c.args.self.now.steps.entries c.insert.new.self.entries c.args.name c.added-steps.result c.args.step
    c.in_ok-insert.ensures.entries (c.added-steps.ensures ∙ ap (λ s. added s c.args.step) c.get.ensures)
