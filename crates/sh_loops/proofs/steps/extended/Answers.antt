use Rattle.std.proofs.Common.{◌≡◌, sym, subst}
use Rattle.std.proofs.lemmas.Bool.{iff_false}
use Rattle.sh_int.specs.Elements.{cast_of}
use Rattle.sh_base.specs.declared.operations.CastOp.TheVariants.{Extsi}
use Rattle.sh_loops.proofs.StepLaws.{extended_same, widths_apart}
use Rattle.sh_loops.proofs.steps.extended.Goals as goal

pub returns-then-same_width-clause-value : goal.returns-then-same_width-clause-value
returns-then-same_width-clause-value c =
    let same = c.same_width.ensures.0 c.if-same_width.true in
    sym (subst (λ w. cast_of Extsi c.args.from w c.args.a ≡ c.args.a) same (extended_same c.args.from c.args.a c.requires.cell))

pub cast-requires-clause-widths : goal.cast-requires-clause-widths
cast-requires-clause-widths c =
    widths_apart c.args.from c.args.to c.requires.widths (iff_false c.same_width.ensures c.if-same_width.false)
