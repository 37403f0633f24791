use Rattle.std.proofs.Common.{arith, ◌≡◌}
use Rattle.std.proofs.lemmas.Grind.{common_steps}
use Rattle.sh_base.specs.Shape.{unflat_of}
use Rattle.sh_base.proofs.ShapeLaws.{is_digit, unflat_of-within, flat_of-unflat_of}
use Rattle.sh_base.proofs.shapes.unflat.Goals as goal

pub loop-extent-preserved : goal.loop-extent-preserved
loop-extent-preserved c = grind (arith, common_steps, is_digit)

pub returns-clause-within : goal.returns-clause-within
returns-clause-within c =
    let e : c.loop-extent.places.items ≡ unflat_of c.args.s.now c.args.k = grind (arith, common_steps) in
    rw e (unflat_of-within c.args.s.now c.args.k c.requires.below)

pub returns-clause-inverse : goal.returns-clause-inverse
returns-clause-inverse c =
    let e : c.loop-extent.places.items ≡ unflat_of c.args.s.now c.args.k = grind (arith, common_steps) in
    rw e (flat_of-unflat_of c.args.s.now c.args.k c.requires.below)
