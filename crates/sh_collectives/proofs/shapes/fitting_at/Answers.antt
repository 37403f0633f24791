use Rattle.std.proofs.Common.{ap, sym, ◌∙◌}
use Rattle.std.specs.Prelude.{option_and_then, option_map}
use Rattle.sh_sem.specs.Given.{of_dims}
use Rattle.sh_collectives.proofs.shapes.fitting_at.Goals as goal

pub returns-in-Some-clause-value : goal.returns-in-Some-clause-value
returns-in-Some-clause-value c =
    c.if_fitting.ensures.value ∙ ap (option_and_then (of_dims c.args.dims.now)) (sym (ap (option_map (λ s. s.items)) c.in-Some.is) ∙ c.sizes_at.ensures.value)
