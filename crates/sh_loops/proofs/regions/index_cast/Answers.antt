use Rattle.std.proofs.Common.{ap, sym, ◌∙◌}
use Rattle.sh_base.specs.declared.numbers.Width.TheVariants.{I64}
use Rattle.sh_base.specs.declared.operations.CastOp.TheVariants.{Trunci}
use Rattle.sh_int.specs.Elements.{cast_of}
use Rattle.sh_loops.proofs.RegionLaws.{cast_to_itself}
use Rattle.sh_loops.proofs.regions.index_cast.Goals as goal

pub returns-then-same_width-clause-value : goal.returns-then-same_width-clause-value
returns-then-same_width-clause-value c =
    sym (ap (λ w. cast_of Trunci I64 w c.args.a) (c.same_width.ensures.0 c.if-same_width.true) ∙ cast_to_itself c.args.a c.requires)
